-- What the manager's step releases is dead, and no place and no hand names it.
use Rattle.std.proofs.Common.{◌≡◌, ℕ, ◌+◌, ◌<◌, ◌≤◌, ◌⊎◌, ◌==◌, ◌&&◌, List, [], ◌∷◌, ◌++◌, length, get_or, map, sum_by, count_by, refl, sym, ap, ◌∙◌, subst, arith, inl, inr, Bool, true, false, cond, Option, Some, None, IsSomeAnd, eq-eqb}
use Rattle.std.proofs.lemmas.Bool.{and_from, cases_lt}
use Rattle.std.proofs.lemmas.List.{get_or_past}
use Rattle.tag_model.specs.declared.state.Hand.{Hand}
use Rattle.tag_model.specs.declared.state.Held.{Held}
use Rattle.tag_model.specs.declared.state.Held.TheVariants as held
use Rattle.tag_model.specs.declared.state.Kind.TheVariants.{Calls}
use Rattle.tag_model.specs.declared.state.Part.{Part}
use Rattle.tag_model.specs.declared.state.Part.TheVariants.{Cpu, Place, Modules}
use Rattle.tag_model.specs.declared.state.Record.{Record}
use Rattle.tag_model.specs.declared.state.Run.{Run}
use Rattle.tag_model.specs.declared.state.Stop.{Stop}
use Rattle.tag_model.specs.declared.state.Sweep.{Sweep}
use Rattle.tag_model.specs.declared.state.Sweep.TheVariants as sweep
use Rattle.tag_model.specs.declared.state.Tag.{Tag}
use Rattle.tag_model.specs.Laws.{are_dead}
use Rattle.tag_model.specs.Reference.{hand_counts_of, hand_fits}
use Rattle.tag_model.specs.StepRules.{Becomes, Releases}
use Rattle.tag_model.specs.WordState.{counted_of, in_range, part_fits}
use Rattle.tag_model.proofs.CpuFits.{cpu_fits_means, hand_fits_means, hand_is_counted, same_tag_refl}
use Rattle.tag_model.proofs.Found.{count_at}
use Rattle.tag_model.proofs.Lists.{in_range_from}
use Rattle.tag_model.proofs.ReleaseRow.{counted_of_number, release_in_range, release_is_dead, release_of_module}
use Rattle.tag_model.proofs.Swept.{Holds, part_passes}
use Rattle.module_area.specs.declared.entry.Entry.{Entry}
use Rattle.module_area.specs.declared.entry.State.TheVariants.{Dead}
use Rattle.module_area.specs.Entries.{entry_of}
use Rattle.core_list.specs.declared.list.Next.TheVariants.{Release}
use Rattle.core_list.specs.ListState.{ListState, found_at, left_ids, list_part, next_of, record_of, records_of, released, released_at, section_in}
use Rattle.core_list.proofs.Changes.{row-releases}
use Rattle.core_list.proofs.Methods.{releases_dead}
use Rattle.core_list.proofs.Split.{TheEntry, book_entry_at, records_at, the_entry}
use Rattle.module_ops.specs.declared.event.Cause.{Cause}
use Rattle.module_ops.specs.declared.event.Event.TheVariants.{Stepped}
use Rattle.cpu_ops.specs.Machine.{Machine, hand_at, held_at}
use Rattle.module_ops.specs.Modules.{cause_of, event_of_sweep, kept_by, manager_event, manager_refusal, word_read}
use Rattle.core_steps.specs.CoreState.{CoreState, IsCore, cpu_part, cpu_parts, list_parts, place_parts, runs_of, state_with, word_state}
use Rattle.core_steps.specs.Release.{IfReleases, IsReleasable, Names}
use Rattle.core_steps.proofs.Managed.{list_becomes, sweep_told}
use Rattle.core_steps.proofs.Parts.{get_or-cpu_parts, get_or-place_parts, length-cpu_parts, length-place_parts, sum_both, sum_without}

-- ---- each place and each CPU stands in the state

pub holds_place : (reads : ℕ) (m : Machine) (words : List (List ℕ)) (runs : ℕ → List Run) (l : ListState) (key : ℕ) → key < length m.places → Holds (state_with reads [] m words runs l) (Place (0 + key) (held_at m.places key))
unfolding state_with
holds_place reads m words runs l key below f =
    let place = Place (0 + key) (held_at m.places key) in
    omega (
      arith,
      sum_both f (cpu_parts 0 m.hands words runs) (place_parts 0 m.places ++ list_parts reads [] l),
      sum_both f (place_parts 0 m.places) (list_parts reads [] l),
      sum_without f (place_parts 0 m.places) key place (omega (arith, length-place_parts 0 m.places)) (get_or-place_parts 0 m.places key place below),
    )

pub holds_cpu : (reads : ℕ) (m : Machine) (words : List (List ℕ)) (runs : ℕ → List Run) (l : ListState) (cpu : ℕ) → length m.hands ≡ length words → cpu < length m.hands
    → Holds (state_with reads [] m words runs l) (Cpu (cpu_part (0 + cpu) (hand_at m cpu) (get_or words cpu []) (runs (0 + cpu))))
unfolding state_with
holds_cpu reads m words runs l cpu len below f =
    let c = Cpu (cpu_part (0 + cpu) (hand_at m cpu) (get_or words cpu []) (runs (0 + cpu))) in
    omega (
      arith,
      sum_both f (cpu_parts 0 m.hands words runs) (place_parts 0 m.places ++ list_parts reads [] l),
      sum_without f (cpu_parts 0 m.hands words runs) cpu c (omega (arith, length-cpu_parts 0 m.hands words runs len)) (get_or-cpu_parts 0 m.hands words runs cpu c len below),
    )

-- ---- what a release finds

module _ (s : CoreState) (core : IsCore s) (id : ℕ) (left : List ℕ) (is : s.modules.list.sweep ≡ sweep.Done (id ∷ left)) where
  row : Releases (id ∷ left) id (list_part 0 [] s.modules.list) (list_part 0 [] (released s.modules.list))
  row = row-releases s.modules.list 0 id [] left is

  after : List Part
  after = state_with 0 [] s.machine s.words (runs_of s.modules) (released s.modules.list)

  becomes : Becomes (Modules (list_part 0 [] s.modules.list) ∷ []) (Modules (list_part 0 [] (released s.modules.list)) ∷ []) (word_state s) after
  unfolding after
  becomes = list_becomes 0 0 s.machine s.words (runs_of s.modules) s.modules.list (released s.modules.list) (ap (λ (x : Sweep). (released_at s.modules.list x).last_id) is)

  gone : TheEntry s.modules.list.area.entries id (λ r. r.dead)
  gone = the_entry s.modules.list.area id (λ r. r.dead) core.modules.list.book (release_is_dead s.shape (id ∷ left) id _ _ _ _ row becomes core.safe)

  of_id : gone.entry.id ≡ id
  of_id = (book_entry_at s.modules.list.area id gone.entry core.modules.list.book gone.is).same_id

  dead : gone.entry.state ≡ Dead
  dead =
      let l = s.modules.list in
      let listed : are_dead (id ∷ left) (records_of l) ≡ true = subst (λ x. are_dead (left_ids x) (records_of l) ≡ true) is (sweep_told s core).1 in
      subst (λ o. IsSomeAnd o (λ (e : Entry). e.state ≡ Dead)) gone.is (releases_dead l.area (sweep.Done (id ∷ left)) id left core.modules.list.book refl listed)

  in_its_range : (tag : Tag) → gone.entry.start ≤ tag.number → tag.number < gone.entry.start + gone.entry.length → 0 < count_by (λ (r : Record). (r.id == id) && in_range r.start r.length tag.number) (records_of s.modules.list)
  in_its_range tag low high =
      let l = s.modules.list in
      let e = gone.entry in
      let at = book_entry_at l.area id e core.modules.list.book gone.is in
      let test : Record → Bool = λ r. (r.id == id) && in_range r.start r.length tag.number in
      subst (λ rs. 0 < count_by test rs) (sym (records_at l.area.entries id e at))
      (count_at test (map record_of at.front) (record_of e) (map record_of at.back) (and_from _ _ (eq-eqb e.id id of_id) (in_range_from e.start e.length tag.number low high)))

  -- no call is counted under a tag that names it
  none_counted : (tag : Tag) → Names tag gone.entry → sum_by (counted_of Calls tag) (word_state s) ≡ 0
  none_counted tag (inl of_module) = release_of_module s.shape (id ∷ left) id _ _ _ _ row becomes core.safe tag (of_module ∙ of_id)
  none_counted tag (inr covers) =
      let none = release_in_range s.shape (id ∷ left) id _ _ _ _ row becomes core.safe Calls tag.number (in_its_range tag covers.0 covers.1) in
      omega (arith, counted_of_number Calls tag (word_state s))

  no_place : (key size : ℕ) (tag : Tag) → held_at s.machine.places key ≡ held.Counted tag size → Names tag gone.entry → ⊥
  no_place key size tag holds names = go (cases_lt key (length s.machine.places))
    where
      one : (h : Held) → h ≡ held.Counted tag size → counted_of Calls tag (Place (0 + key) h) ≡ 1
      one h e = rw (e, same_tag_refl tag) refl

      go : (key < length s.machine.places) ⊎ (length s.machine.places ≤ key) → ⊥
      go (inl below) = omega (arith, none_counted tag names, holds_place 0 s.machine s.words (runs_of s.modules) s.modules.list key below (counted_of Calls tag), one (held_at s.machine.places key) holds)
      go (inr past) = let empty = get_or_past s.machine.places key held.None past in absurd (cc)

  no_hand : (cpu : ℕ) (hand : Hand) → hand_at s.machine cpu ≡ Some hand → Names hand.tag gone.entry → ⊥
  no_hand cpu hand holds names = go (cases_lt cpu (length s.machine.hands))
    where
      go : (cpu < length s.machine.hands) ⊎ (length s.machine.hands ≤ cpu) → ⊥
      go (inl below) =
          let stands = holds_cpu 0 s.machine s.words (runs_of s.modules) s.modules.list cpu (core.machine.hands ∙ sym core.words) below in
          let part = cpu_part (0 + cpu) (hand_at s.machine cpu) (get_or s.words cpu []) (runs_of s.modules (0 + cpu)) in
          let fits = cpu_fits_means s.shape part (part_passes (part_fits s.shape) (word_state s) (Cpu part) stands core.safe.fits) in
          let some = (hand_fits_means hand (subst (λ h. hand_fits h ≡ true) holds fits.hand)).some in
          let calls : counted_of Calls hand.tag (Cpu part) ≡ hand.calls = ap (hand_counts_of Calls hand.tag) holds ∙ hand_is_counted hand in
          omega (arith, none_counted hand.tag names, stands (counted_of Calls hand.tag))
      go (inr past) = let empty = get_or_past s.machine.hands cpu None past in absurd (cc)

  releasable : IsReleasable s (section_in (entry_of s.modules.list.area.entries id))
  releasable = record {
    entry = gone.entry;
    of_section = sym (ap section_in gone.is);
    next = ap next_of is ∙ ap Release (sym of_id);
    listed = subst (λ i. entry_of s.modules.list.area.entries i ≡ Some gone.entry) (sym of_id) gone.is;
    dead = dead;
    free = record { places = no_place; hands = no_hand };
  }

-- ---- what the manager's step tells

keeps : (s : CoreState) (by : Cause) (entries : List Entry) (stop : Option Stop) → IfReleases s (kept_by by entries stop)
keeps s by entries None = tt
keeps s by entries (Some stop) = tt

pub sweep_releases : (s : CoreState) → IsCore s → (by : Cause) (x : Sweep) → s.modules.list.sweep ≡ x → IfReleases s (event_of_sweep s.shape s.words s.modules.list by (next_of x))
sweep_releases s core by sweep.None is = tt
sweep_releases s core by (sweep.Reading left r) is = keeps s by s.modules.list.area.entries (found_at s.shape (word_read s.words r) s.modules.list.sweep)
sweep_releases s core by (sweep.Done []) is = tt
sweep_releases s core by (sweep.Done (id ∷ left)) is = releasable s core id left is

pub manager_releases : (s : CoreState) → IsCore s → manager_refusal s.sections s.modules ≡ None → IfReleases s (manager_event s.shape s.words s.modules)
manager_releases s core none = go s.modules.manager.under_way
  where
    go : (way : Bool) → IfReleases s (cond way (event_of_sweep s.shape s.words s.modules.list (cause_of s.modules.manager.ops) (next_of s.modules.list.sweep)) Stepped)
    go true = sweep_releases s core (cause_of s.modules.manager.ops) s.modules.list.sweep refl
    go false = tt
