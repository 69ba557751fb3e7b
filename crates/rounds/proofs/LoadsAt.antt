-- A load at a place of a checked trace.
use Rattle.std.proofs.Common.{◌≡◌, ℕ, ◌+◌, ◌<◌, ◌≤◌, Bool, true, false, not, List, [], ◌∷◌, ◌++◌, length, Option, Some, None, Result, Ok, All, is_some, refl, sym, ap, ◌∙◌, subst, arith, length-append, lt-ltb}
use Rattle.std.specs.Prelude.{◌&&◌, if◌then◌else◌, nat_lt}
use Rattle.std.specs.Option.{option_map}
use Rattle.std.proofs.lemmas.Result.{IfOk-at_ok}
use Rattle.std.proofs.lemmas.List.Elements.{All-weaker}
use Rattle.input_form.specs.declared.code.Code.{Code}
use Rattle.input_form.specs.Judging.{◌>>=◌}
use Rattle.input_form.proofs.Judged.{at_ok, bind_ok}
use Rattle.tag_section.specs.Section.{Section, tags_in}
use Rattle.module_area.specs.declared.entry.Entry.{Entry}
use Rattle.module_area.specs.declared.book.AreaError.TheVariants.{NoSection, SameName}
use Rattle.module_area.specs.Area.{Area}
use Rattle.module_area.specs.Entries.{id_loaded}
use Rattle.tag_rule.specs.Shown.{PassShown}
use Rattle.reclaim.specs.Loading.{early_refusal, loaded_as}
use Rattle.reclaim.specs.State.{LockedShown}
use Rattle.round_modules.specs.Loads.{refusal_in}
use Rattle.round_modules.specs.Meant.{refused_as}
use Rattle.round_modules.proofs.Meant.{load_meant, refusals_meant}
use Rattle.standing.specs.Standing.{ListStands}
use Rattle.trace.specs.declared.traces.Item.{Item}
use Rattle.trace.specs.declared.traces.Item.TheVariants as item
use Rattle.trace.specs.Formed.{IsFormedItem}
use Rattle.round_check.specs.declared.walk.Walk.{Walk}
use Rattle.round_check.specs.Formed.{FitsItem}
use Rattle.round_check.specs.Walk.{load_module, rounds_of, start, walk_item, walk_items}
use Rattle.round_check.proofs.Pairs.{all_behind, all_front, fits_item, items_behind}
use Rattle.trace_play.specs.Machine.{machine_of}
use Rattle.trace_play.specs.Play.{nothing_played, section_len}
use Rattle.trace_play.proofs.MachineSound.{first_sound}
use Rattle.trace_play.proofs.ModulesHold.{is_loaded, loaded_one}
use Rattle.trace_play.proofs.ReadyHolds.{first_modules}
use Rattle.trace_play.proofs.TraceFits.{begins_between}
use Rattle.trace_cover.proofs.Items.{Holds, after_front, items_hold, loaded_told, none_of}
use Rattle.trace_cover.proofs.Told.{front_last}
use Rattle.rounds.specs.Places.{IsLoad, IsThere, Place, loaded_here, machine_at, refusal_here}
use Rattle.rounds.specs.declared.desk.Desk.{Desk}

-- the first items of those that passed
pub front_walk : (front back : List Item) (walk end : Walk) → walk_items (front ++ back) walk ≡ Ok end → (mid : Walk) × (walk_items front walk ≡ Ok mid)
front_walk [] back walk end e = (walk, refl)
front_walk (what ∷ front) back walk end e =
    let first = bind_ok (walk_item what walk) (λ next. walk_items (front ++ back) next) end e in
    let rest = front_walk front back first.0 end first.2 in
    (rest.0, subst (λ (r : Result Walk (ℕ × Code)). (r >>= (λ next. walk_items front next)) ≡ Ok rest.0) (sym first.1) rest.1)

not_early : (a b d e : Bool) → a ≡ true → b ≡ true → d ≡ true → e ≡ false → (if not (a && b && d) then Some NoSection else (if e then Some SameName else None)) ≡ None
not_early true true true false a b d e = refl
not_early false y z w a b d e = let no : ⊥ = cc in absurd no
not_early true false z w a b d e = let no : ⊥ = cc in absurd no
not_early true true false w a b d e = let no : ⊥ = cc in absurd no
not_early true true true true a b d e = let no : ⊥ = cc in absurd no

module _ (section : ℕ) (p : Place) (i : IsLoad section p) where
  stands : p.trace.body ≡ p.front ++ item.Load i.line section ∷ i.rest
  stands = p.stands ∙ ap (λ back. p.front ++ back) i.next

  forms : All (IsFormedItem p.trace.cpus p.trace.sections) (p.front ++ item.Load i.line section ∷ i.rest)
  forms = subst (All (IsFormedItem p.trace.cpus p.trace.sections)) stands p.formed.items

  fits : All FitsItem (p.front ++ item.Load i.line section ∷ i.rest)
  fits = All-weaker (IsFormedItem p.trace.cpus p.trace.sections) FitsItem (λ i is. fits_item p.trace.cpus p.trace.sections i p.formed.cpus.1 p.formed.sections.few is) (p.front ++ item.Load i.line section ∷ i.rest) forms

  -- the section is a module's
  pub formed_load : (0 < section) × (section < length p.trace.sections)
  formed_load = (all_behind (IsFormedItem p.trace.cpus p.trace.sections) p.front (item.Load i.line section) i.rest forms).0

  first_holds : Holds p.trace start (machine_of p.trace)
  first_holds = record { sound = first_sound p.trace; modules_are = first_modules p.trace p.formed.cpus.1; covered = (after_front p.trace p.formed p.top p.passes [] p.trace.body refl).1.covered; named = refl }

  -- no module of it is loaded
  pub not_loaded : loaded_one section (machine_at p).area.entries ≡ None
  unfolding rounds_of walk_item
  not_loaded =
      let end = bind_ok (walk_items p.trace.body start) (λ walk. Ok tt) tt p.passes in
      let walked : walk_items (p.front ++ item.Load i.line section ∷ i.rest) start ≡ Ok end.0 = subst (λ xs. walk_items xs start ≡ Ok end.0) stands end.1 in
      let mid = front_walk p.front (item.Load i.line section ∷ i.rest) start end.0 walked in
      let behind = items_behind p.front (item.Load i.line section ∷ i.rest) start mid.0 end.0 mid.1 walked in
      let next = bind_ok (walk_item (item.Load i.line section) mid.0) (λ x. walk_items i.rest x) end.0 behind in
      let told : is_loaded mid.0 section ≡ false = IfOk-at_ok (λ (x : Walk). is_loaded mid.0 section ≡ false) {x = next.0} (at_ok i.line (load_module mid.0 section) next.0 next.1) (loaded_told mid.0 section) in
      let holds =
      items_hold p.trace p.formed p.top p.front start mid.0 (nothing_played p.trace)
      (all_front FitsItem p.front (item.Load i.line section ∷ i.rest) fits)
      (all_front (IsFormedItem p.trace.cpus p.trace.sections) p.front (item.Load i.line section ∷ i.rest) forms)
      mid.1 (begins_between p.trace) first_holds i.none in
      none_of (loaded_one section (machine_at p).area.entries) (sym (holds.1.modules_are.agree section) ∙ told)

  -- nothing refuses it at once
  pub early : (l : LockedShown) → l.sections ≡ p.trace.sections → l.area ≡ (machine_at p).area → early_refusal section l ≡ None
  early l sections_are area_is =
      let form = formed_load in
      not_early (nat_lt 0 section) (nat_lt section (length l.sections)) (nat_lt 0 (tags_in l.sections section)) (is_some (id_loaded l.area.entries section))
      (lt-ltb 0 section form.0)
      (ap (λ (sections : List Section). nat_lt section (length sections)) sections_are ∙ lt-ltb section (length p.trace.sections) form.1)
      (ap (λ (sections : List Section). nat_lt 0 (tags_in sections section)) sections_are ∙ lt-ltb 0 (tags_in p.trace.sections section) (p.formed.tags section form.1))
      (ap (λ (a : Area). is_some (id_loaded a.entries section)) area_is ∙ ap (λ (o : Option Entry). is_some (option_map (λ (e : Entry). e.id) o)) not_loaded)

  -- a refusal of the book is the meaning's
  pub refusal_same : (l : LockedShown) → l.sections ≡ p.trace.sections → l.area ≡ (machine_at p).area → refusal_here section p i ≡ refused_as i.line (refusal_in (tags_in l.sections section) l.area)
  refusal_same l sections_are area_is =
      refusals_meant i.line (section_len p.trace section) (machine_at p)
      ∙ ap (λ (sections : List Section). refused_as i.line (refusal_in (tags_in sections section) (machine_at p).area)) (sym sections_are)
      ∙ ap (λ (a : Area). refused_as i.line (refusal_in (tags_in l.sections section) a)) (sym area_is)

  -- what it leaves
  pub stands_loaded : (d : Desk) → IsThere p d → (l : LockedShown) (pass : PassShown)
      → l ≡ loaded_as d.pass.next section (tags_in d.locked.sections section) d.locked
      → pass ≡ record d.pass { next = d.pass.next + 1 }
      → ListStands p.board (loaded_here section p) p.trace.sections l pass
  stands_loaded d at l pass l_is pass_is =
      let m = machine_at p in
      let next : d.pass.next ≡ m.last_id + 1 = ap (λ (x : PassShown). x.next) at.list.next in
      let meant = load_meant section (section_len p.trace section) m d.locked at.list.area in
      let same : loaded_as d.pass.next section (tags_in d.locked.sections section) d.locked ≡ loaded_as (m.last_id + 1) section (section_len p.trace section) d.locked =
      ap (λ n. loaded_as n section (tags_in d.locked.sections section) d.locked) next
      ∙ ap (λ (sections : List Section). loaded_as (m.last_id + 1) section (tags_in sections section) d.locked) at.list.sections_are in
      record {
        board = ap (λ (x : LockedShown). x.board) l_is ∙ at.list.board;
        area = ap (λ (x : LockedShown). x.area) (l_is ∙ same) ∙ sym meant;
        sections_are = ap (λ (x : LockedShown). x.sections) l_is ∙ at.list.sections_are;
        next = pass_is ∙ ap (λ (x : PassShown). record x { next = x.next + 1 }) at.list.next;
      }

  pub few_ids : (machine_at p).last_id + 1 ≤ 4294967295
  few_ids =
      let last = front_last p.trace p.top p.front in
      let few = p.formed.few_items in
      let long = ap length p.stands ∙ length-append p.front p.back in
      omega (arith, last, few, long)
