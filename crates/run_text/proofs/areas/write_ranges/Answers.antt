use Rattle.std.proofs.Common.{◌≡◌, ◌+◌, ◌++◌, ◌∷◌, [], ◌∙◌, ℕ, List, Some, ap, sym, subst, take}
use Rattle.std.specs.Prelude.{slice_get}
use Rattle.std.specs.List.{flat_map}
use Rattle.std.proofs.lemmas.List.{flat_map_more, take_more}
use Rattle.std.proofs.lemmas.Option.{get_or_from_slice_get, slice_get_within}
use Rattle.module_area.specs.Area.{Area}
use Rattle.module_area.specs.declared.entry.Entry.{Entry}
use Rattle.tag_section.specs.Section.{Section}
use Rattle.trace_play.specs.Printed.{area_text}
use Rattle.run_text.proofs.areas.write_ranges.Goals as goal

line_more : (sections lent : List Section) (entries : List Entry) (place : ℕ) (e : Entry) (out mid next : List ℕ) → slice_get entries place ≡ Some e → lent ≡ sections
    → mid ≡ out ++ flat_map (area_text sections) (take place entries) → next ≡ mid ++ area_text lent e → next ≡ out ++ flat_map (area_text sections) (take (place + 1) entries)
line_more sections lent entries place e out mid next there same so_far appended =
    appended
    ∙ ap (λ (s : List Section). mid ++ area_text s e) same
    ∙ ap (λ (bs : List ℕ). bs ++ area_text sections e) so_far
    ∙ flat_map_more (area_text sections) out (take place entries) e
    ∙ ap (λ (es : List Entry). out ++ flat_map (area_text sections) es)
    (ap (λ (x : Entry). take place entries ++ x ∷ []) (sym (get_or_from_slice_get entries place e e there)) ∙ sym (take_more entries place e (slice_get_within entries place e there)))

pub loop-place-preserved : goal.loop-place-preserved
loop-place-preserved c =
    line_more c.args.locked.now.sections c.sections.result.now c.args.locked.now.area.entries c.loop-place.place c.at.result c.args.out.now.items c.loop-place.out.items c.write_area.new.out.items
    (subst (λ (a : Area). slice_get a.entries c.loop-place.place ≡ Some c.at.result) c.book-book.ensures.value c.at.ensures.value)
    c.sections.ensures.value
    c.loop-place.invariant
    c.in_ok-write_area.ensures
