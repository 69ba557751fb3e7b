-- What a step of the manager tells is there.
use Rattle.std.proofs.Common.{◌≡◌, ℕ, ◌+◌, ◌-◌, ◌<◌, ◌==◌, ◌&&◌, nat_lt, not, cond, List, [], ◌∷◌, Option, None, refl, sym, subst, arith, Bool, true, false}
use Rattle.std.specs.Prelude.{slice_get}
use Rattle.std.specs.List.{list_any}
use Rattle.tag_model.specs.declared.state.Reader.{Reader}
use Rattle.tag_model.specs.declared.state.Record.{Record}
use Rattle.tag_model.specs.declared.state.Sweep.{Sweep}
use Rattle.tag_model.specs.declared.state.Sweep.TheVariants as sweep
use Rattle.tag_model.specs.Laws.{sweep_fits}
use Rattle.tag_model.specs.StepRules.{stop_after}
use Rattle.tag_model.specs.WordState.{in_range}
use Rattle.tag_model.proofs.Found.{any_at}
use Rattle.tag_model.proofs.Lists.{in_range_means}
use Rattle.tag_model.proofs.ScanRow.{reading_fits}
use Rattle.module_area.specs.declared.entry.Entry.{Entry}
use Rattle.core_list.specs.ListState.{records_of, next_of, found_at, section_in, start_in, sum_read}
use Rattle.core_list.proofs.Split.{TheEntry, the_entry, entry_holds}
use Rattle.module_ops.specs.declared.event.Cause.{Cause}
use Rattle.module_ops.specs.declared.event.Event.TheVariants.{Stepped}
use Rattle.tag_section.specs.Section.{tags_in}
use Rattle.module_ops.specs.Modules.{manager_refusal, manager_event, event_of_sweep, kept_by, cause_of, word_read}
use Rattle.core_steps.specs.CoreState.{CoreState, IsCore, EntryFits}
use Rattle.cpu_ops.specs.MayQueue.{IsModule}
use Rattle.core_steps.specs.Told.{EventFits}
use Rattle.core_steps.proofs.Managed.{sweep_told}
use Rattle.core_steps.proofs.ManagerRelease.{sweep_releases}

-- the entry of a read
pub read_entry : (s : CoreState) (left : List ℕ) (r : Reader) → IsCore s → sweep_fits s.shape (sweep.Reading left r) (records_of s.modules.list) ≡ true → TheEntry s.modules.list.area.entries r.id (λ (x : Record). in_range x.start x.length r.tag)
read_entry s left r core fits =
    let l = s.modules.list in
    let at = (reading_fits s.shape left r (records_of l) fits).at in
    let test : Record → Bool = λ x. (x.id == r.id) && in_range x.start x.length r.tag in
    the_entry l.area r.id (λ (x : Record). in_range x.start x.length r.tag) core.modules.list.book (subst (λ xs. list_any test xs ≡ true) (sym at.is) (any_at test at.front at.item at.back at.passes))

-- a stop of a read
stop_told : (s : CoreState) (left : List ℕ) (r : Reader) (by : Cause) (sum : ℕ) → IsCore s → sweep_fits s.shape (sweep.Reading left r) (records_of s.modules.list) ≡ true
    → EventFits s.sections (kept_by by s.modules.list.area.entries (slice_get (stop_after s.shape r sum) 0))
stop_told s left r by sum core fits = go (not (nat_lt (r.cpu + 1) s.shape.cpus) && not (sum == 0))
  where
    go : (b : Bool) → EventFits s.sections (kept_by by s.modules.list.area.entries (slice_get (cond b (record { id = r.id; tag = r.tag; kind = r.pass; sum = sum } ∷ []) []) 0))
    go false = tt
    go true =
        let one = read_entry s left r core fits in
        let e = entry_holds (EntryFits s.sections) s.modules.list.area.entries r.id one.entry core.modules.entries one.is in
        let range = in_range_means one.entry.start one.entry.length r.tag one.passes in
        subst (λ (o : Option Entry). IsModule s.sections (section_in o) × (r.tag - start_in o < tags_in s.sections (section_in o))) (sym one.is)
        (e.of_module, omega (arith, range.0, range.1, e.all_tags))

-- a step of a sweep
sweep_tells : (s : CoreState) (by : Cause) (sw : Sweep) → IsCore s → sweep_fits s.shape sw (records_of s.modules.list) ≡ true → s.modules.list.sweep ≡ sw
    → EventFits s.sections (event_of_sweep s.shape s.words s.modules.list by (next_of sw))
sweep_tells s by sweep.None core fits is = tt
sweep_tells s by (sweep.Done []) core fits is = tt
sweep_tells s by (sweep.Done (id ∷ left)) core fits is =
    let found = sweep_releases s core by (sweep.Done (id ∷ left)) is in
    subst (IsModule s.sections) found.of_section (entry_holds (EntryFits s.sections) s.modules.list.area.entries found.entry.id found.entry core.modules.entries found.listed).of_module
sweep_tells s by (sweep.Reading left r) core fits is =
    subst (λ (x : Sweep). EventFits s.sections (kept_by by s.modules.list.area.entries (found_at s.shape (word_read s.words r) x))) (sym is)
    (stop_told s left r by (sum_read r (word_read s.words r)) core fits)

pub manager_tells : (s : CoreState) → IsCore s → manager_refusal s.sections s.modules ≡ None → EventFits s.sections (manager_event s.shape s.words s.modules)
manager_tells s core none = go s.modules.manager.under_way
  where
    go : (way : Bool) → EventFits s.sections (cond way (event_of_sweep s.shape s.words s.modules.list (cause_of s.modules.manager.ops) (next_of s.modules.list.sweep)) Stepped)
    go true = sweep_tells s (cause_of s.modules.manager.ops) s.modules.list.sweep core (sweep_told s core).0 refl
    go false = tt
