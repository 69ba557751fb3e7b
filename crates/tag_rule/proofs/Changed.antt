-- Each change of the list is a step of the step rules, and what is kept goes along.
use Rattle.std.proofs.Common.{◌≡◌, ℕ, ◌≤◌, ◌==◌, ◌&&◌, not, nat_lt, List, [], ◌∷◌, ◌++◌, Bool, true, false, map, Option, Some, refl, sym, ap, subst, ◌∙◌, arith, eqb-true, eq-eqb, ne_eqb}
use Rattle.std.specs.List.{list_any}
use Rattle.std.specs.Option.{IsSome}
use Rattle.std.proofs.lemmas.Bool.{and_parts, and_from, false≢true, or_left}
use Rattle.std.specs.Arc.{arc_value}
use Rattle.atomic_table.specs.Table.{Me}
use Rattle.atomic_table.specs.declared.shared.Seat.{Seat}
use Rattle.tag_model.specs.declared.shape.Shape.{Shape}
use Rattle.tag_model.specs.declared.state.ListPart.{ListPart}
use Rattle.tag_model.specs.declared.state.Part.{Part}
use Rattle.tag_model.specs.declared.state.Part.TheVariants.{Modules}
use Rattle.tag_model.specs.declared.state.Record.{Record}
use Rattle.tag_model.specs.declared.state.Run.{Run}
use Rattle.tag_model.specs.declared.state.Sweep.{Sweep}
use Rattle.tag_model.specs.declared.state.Sweep.TheVariants as sweep
use Rattle.tag_model.specs.Laws.{Safe, ids_of, is_listed, is_loaded_as, rises_from}
use Rattle.tag_model.specs.Shape.{IsChecked}
use Rattle.tag_model.specs.StepRules.{Becomes, Enters, Leaves, run_on}
use Rattle.tag_model.proofs.BookRows.{safe-enters, safe-leaves, safe-sweeps}
use Rattle.tag_model.proofs.DeadRow.{safe-marks_dead}
use Rattle.tag_model.proofs.Found.{found_any, any_at}
use Rattle.tag_model.proofs.Ids.{rises_cons}
use Rattle.tag_model.proofs.ReleaseRow.{safe-releases}
use Rattle.tag_model.proofs.Swept.{loaded_as_means}
use Rattle.module_list.specs.Listing.{Listing, bare, bare_record, entered, left, list_part, listing_of, may_release, record_in, releasable}
use Rattle.module_list.proofs.At.{record_at}
use Rattle.module_list.proofs.Bare.{bare_entered, bare_left, bare_marked_dead, bare_released, bare_swept}
use Rattle.module_list.proofs.Changes.{enters_entry, leaves_entry, marks_id, row-enters, row-leaves, row-marks_dead, row-releases}
use Rattle.tag_rule.specs.declared.changing.Change.{Change}
use Rattle.tag_rule.specs.declared.changing.Change.TheVariants as change
use Rattle.tag_rule.specs.declared.modules.ListSeat.TheInside as list
use Rattle.tag_rule.specs.declared.view.View.{View}
use Rattle.tag_rule.specs.declared.words.Words.{Words}
use Rattle.tag_rule.specs.Kept.{MayKeep, kept_after}
use Rattle.tag_rule.specs.Listed.{IsChange, changed, may_change, with_run, without_run}
use Rattle.tag_rule.specs.Rule.{Moves, Tells, view_of}
use Rattle.tag_rule.specs.Seated.{ListHolds, list_in}
use Rattle.tag_rule.specs.Shown.{ListShown}
use Rattle.tag_rule.specs.Tokens.{IsListSeat, list_shown}
use Rattle.tag_rule.proofs.Away.{first_run}
use Rattle.tag_rule.proofs.Tellings.{list_seat, tells_after, tells_list}

-- ---- the record of an id that passes a test

record OneRecord (id : ℕ) (test : Record → Bool) (records : List Record) : Type 0 where
  entry : Record
  there : record_in id records ≡ Some entry
  passes : test entry ≡ true

none_later : (id low : ℕ) (test : Record → Bool) (records : List Record) → id ≤ low → rises_from low (ids_of records) ≡ true → list_any (λ (r : Record). (r.id == id) && test r) records ≡ true → ⊥
none_later id low test [] h rises any = absurd (false≢true any)
none_later id low test (x ∷ xs) h rises any =
    let both = rises_cons low x.id (ids_of xs) rises in
    let other : (x.id == id) ≡ false = ne_eqb x.id id (λ same. omega (arith, both.0)) in
    none_later id x.id test xs (omega (arith, both.0)) both.1 (rw other at any)

one_record : (id low : ℕ) (test : Record → Bool) (records : List Record) → rises_from low (ids_of records) ≡ true → list_any (λ (r : Record). (r.id == id) && test r) records ≡ true → OneRecord id test records
one_record id low test [] rises any = absurd (false≢true any)
one_record id low test (x ∷ xs) rises any = go (x.id == id) (test x) refl refl any (rises_cons low x.id (ids_of xs) rises).1 (λ r h. one_record id x.id test xs r h)
  where
    go : (b t : Bool) → (x.id == id) ≡ b → test x ≡ t → list_any (λ (r : Record). (r.id == id) && test r) (x ∷ xs) ≡ true → rises_from x.id (ids_of xs) ≡ true
        → (rises_from x.id (ids_of xs) ≡ true → list_any (λ (r : Record). (r.id == id) && test r) xs ≡ true → OneRecord id test xs) → OneRecord id test (x ∷ xs)
    go true true is holds any rises later = record { entry = x; there = rw is refl; passes = holds }
    go true false is holds any rises later = absurd (none_later id x.id test xs (omega (arith, eqb-true x.id id is)) rises (rw (is, holds) at any))
    go false t is holds any rises later =
        let o = later rises (rw is at any) in
        record { entry = o.entry; there = rw is o.there; passes = o.passes }

alive_if : (b : Bool) → not b ≡ true → b ≡ false
alive_if true e = absurd (false≢true e)
alive_if false e = refl

-- a sweep that may release is done
record IsDone (id : ℕ) (s : Sweep) : Type 0 where
  ids : List ℕ
  is : s ≡ sweep.Done ids
  has : is_listed ids id ≡ true

is_done : (id : ℕ) (s : Sweep) → may_release id s ≡ true → IsDone id s
is_done id sweep.None e = absurd (false≢true e)
is_done id (sweep.Reading ids r) e = absurd (false≢true e)
is_done id (sweep.Done ids) e = record { ids = ids; is = refl; has = e }

-- the first id that a sweep may release
pub may_release_first : (s : Sweep) (id : ℕ) → releasable s ≡ Some id → may_release id s ≡ true
may_release_first sweep.None id e = absurd (cc)
may_release_first (sweep.Reading ids r) id e = absurd (cc)
may_release_first (sweep.Done []) id e = absurd (cc)
may_release_first (sweep.Done (x ∷ ids)) id e = let same : x ≡ id = cc in or_left (x == id) (is_listed ids id) (eq-eqb x id same)

-- a run on its way is that on its record
run_is : (run : Run) (r : Record) → is_loaded_as run r ≡ true → run ≡ run_on r
run_is run r e = let m = loaded_as_means run r e in λ i. record { id = sym m.id i; section = sym m.section i; start = sym m.start i; length = sym m.length i }

-- ---- the rows

enters : (l : ListPart) (id : ℕ) (r : Record) → rises_from 0 (ids_of l.records) ≡ true → record_in id l.records ≡ Some r → r.dead ≡ false → IsChange (change.Enter id) l (changed (change.Enter id) l)
enters l id r rises there alive =
    subst (λ (x : Option Record). (row : Enters l (list_part l.reads (with_run x l.away) (entered id (listing_of l)))) × (row.entry.id ≡ id)) (sym there) (
      row-enters (listing_of l) l.reads id r l.away rises there alive,
      ap (λ (x : Record). x.id) (enters_entry (listing_of l) l.reads id r l.away rises there alive) ∙ (record_at l.records id r rises there).same_id,
    )

leaves : (l : ListPart) (id : ℕ) (r : Record) (ahead behind : List Run) → rises_from 0 (ids_of l.records) ≡ true → record_in id l.records ≡ Some r → l.away ≡ ahead ++ run_on r ∷ behind → without_run id l.away ≡ ahead ++ behind
    → IsChange (change.Leave id) l (changed (change.Leave id) l)
leaves l id r ahead behind rises there was without =
    subst (λ (x : List Run). (row : Leaves (list_part l.reads x (listing_of l)) (list_part l.reads (without_run id l.away) (left id (listing_of l)))) × (row.entry.id ≡ id)) (sym was)
    (subst (λ (x : List Run). (row : Leaves (list_part l.reads (ahead ++ run_on r ∷ behind) (listing_of l)) (list_part l.reads x (left id (listing_of l)))) × (row.entry.id ≡ id)) (sym without) (
      row-leaves (listing_of l) l.reads id r ahead behind rises there,
      ap (λ (x : Record). x.id) (leaves_entry (listing_of l) l.reads id r ahead behind rises there) ∙ (record_at l.records id r rises there).same_id,
    ))

marks : (l : ListPart) (id : ℕ) (r : Record) → rises_from 0 (ids_of l.records) ≡ true → record_in id l.records ≡ Some r → not r.dead && (r.users == 0) ≡ true → IsChange (change.Dead id) l (changed (change.Dead id) l)
marks l id r rises there passes =
    let both = and_parts (not r.dead) (r.users == 0) passes in
    let alive : r.dead ≡ false = alive_if r.dead both.0 in
    let unused : r.users ≡ 0 = eqb-true r.users 0 both.1 in
    (row-marks_dead (listing_of l) l.reads id r l.away rises there alive unused, marks_id (listing_of l) l.reads id r l.away rises there alive unused)

-- the record of a run that leaves
leaving : (l : ListPart) (id : ℕ) (run : Run) → run.id ≡ id → list_any (λ (r : Record). is_loaded_as run r && nat_lt 0 r.users) l.records ≡ true → list_any (λ (r : Record). (r.id == id) && is_loaded_as run r) l.records ≡ true
leaving l id run on_id loaded =
    let g = found_any (λ (r : Record). is_loaded_as run r && nat_lt 0 r.users) l.records loaded in
    let like = (and_parts (is_loaded_as run g.item) (nat_lt 0 g.item.users) g.passes).0 in
    let same : g.item.id ≡ id = (loaded_as_means run g.item like).id ∙ on_id in
    subst (λ (rs : List Record). list_any (λ (r : Record). (r.id == id) && is_loaded_as run r) rs ≡ true) (sym g.is)
    (any_at (λ (r : Record). (r.id == id) && is_loaded_as run r) g.front g.item g.back (and_from (g.item.id == id) (is_loaded_as run g.item) (eq-eqb g.item.id id same) like))

pub is_change : (k : Shape) (c : Change) (l : ListPart) → ListHolds k l → may_change c l ≡ true → IsChange c l (changed c l)
is_change k (change.Enter id) l holds may = let o = one_record id 0 (λ (r : Record). not r.dead) l.records holds.rises may in enters l id o.entry holds.rises o.there (alive_if o.entry.dead o.passes)
is_change k (change.Leave id) l holds may =
    let f = first_run id l.away may in
    let o = one_record id 0 (is_loaded_as f.run) l.records holds.rises (leaving l id f.run f.on_id (holds.away f.ahead f.run f.behind f.is)) in
    leaves l id o.entry f.ahead f.behind holds.rises o.there (f.is ∙ ap (λ (x : Run). f.ahead ++ x ∷ f.behind) (run_is f.run o.entry o.passes)) f.without
is_change k (change.Dead id) l holds may = let o = one_record id 0 (λ (r : Record). not r.dead && (r.users == 0)) l.records holds.rises may in marks l id o.entry holds.rises o.there o.passes
is_change k change.Sweep l holds may = record { after = refl }
is_change k (change.Release id) l holds may = let d = is_done id l.sweep may in (d.ids, row-releases (listing_of l) l.reads id l.away d.ids d.is d.has)

pub keeps_safe : (k : Shape) (c : Change) (l m : ListPart) → IsChange c l m → (ps qs : List Part) → IsChecked k → Becomes (Modules l ∷ []) (Modules m ∷ []) ps qs → Safe k ps → Safe k qs
keeps_safe k (change.Enter id) l m row ps qs ok b safe = safe-enters k l m ps qs ok row.0 b safe
keeps_safe k (change.Leave id) l m row ps qs ok b safe = safe-leaves k l m ps qs ok row.0 b safe
keeps_safe k (change.Dead id) l m row ps qs ok b safe = safe-marks_dead k l m ps qs ok row.0 b safe
keeps_safe k change.Sweep l m row ps qs ok b safe = safe-sweeps k l m ps qs ok row b safe
keeps_safe k (change.Release id) l m row ps qs ok b safe = safe-releases k row.0 id l m ps qs ok row.1 b safe

-- ---- what is kept

some_bare : (id : ℕ) (records : List Record) (r : Record) → record_in id records ≡ Some r → IsSome (record_in id (map bare_record records))
some_bare id [] r there = absurd (cc)
some_bare id (x ∷ xs) r there = go (x.id == id) refl there (λ h. some_bare id xs r h)
  where
    go : (b : Bool) → (x.id == id) ≡ b → record_in id (x ∷ xs) ≡ Some r → (record_in id xs ≡ Some r → IsSome (record_in id (map bare_record xs))) → IsSome (record_in id (map bare_record (x ∷ xs)))
    go true is there later = rw is refl
    go false is there later = rw is (later (rw is at there))

pub may_keep : (k : Shape) (c : Change) (l : ListPart) → ListHolds k l → may_change c l ≡ true → MayKeep c (bare (listing_of l))
may_keep k (change.Enter id) l holds may = tt
may_keep k (change.Leave id) l holds may = tt
may_keep k (change.Dead id) l holds may = let o = one_record id 0 (λ (r : Record). not r.dead && (r.users == 0)) l.records holds.rises may in some_bare id l.records o.entry o.there
may_keep k change.Sweep l holds may = tt
may_keep k (change.Release id) l holds may = may

pub kept_along : (c : Change) (l : ListPart) → kept_after c (bare (listing_of l)) ≡ bare (listing_of (changed c l))
kept_along (change.Enter id) l = sym (bare_entered (listing_of l) id)
kept_along (change.Leave id) l = sym (bare_left (listing_of l) id)
kept_along (change.Dead id) l = sym (bare_marked_dead (listing_of l) id)
kept_along change.Sweep l = sym (bare_swept (listing_of l))
kept_along (change.Release id) l = sym (bare_released (listing_of l) id)

-- ---- the same, by what the seat shows
module _ (w : Words) (s : list.Inside) (shown : ListShown) (c : Change) (same : w ≡ arc_value s.words) (mine : IsListSeat s) (view : list_shown s ≡ shown) (may : may_change c shown.part ≡ true) where
  l : ListPart
  l = list_in s.seat.me.0.parts

  holds : ListHolds w.shape l
  unfolding l
  holds = subst (λ (x : Words). ListHolds x.shape (list_in s.seat.me.0.parts)) (sym same) mine.holds

  may_here : may_change c l ≡ true
  unfolding l
  may_here = subst (λ (x : ListShown). may_change c x.part ≡ true) (sym view) may

  safe : (ps qs : List Part) → IsChecked w.shape → Becomes (Modules l ∷ []) (Modules (changed c l) ∷ []) ps qs → Safe w.shape ps → Safe w.shape qs
  safe = keeps_safe w.shape c l (changed c l) (is_change w.shape c l holds may_here)

  pub change_moves : Moves w.shape s.seat.me.0.parts (Modules (changed c (list_in s.seat.me.0.parts)) ∷ [])
  unfolding l
  change_moves = subst (λ (m : Me (Unit {0}) View). Moves w.shape m.0.parts (Modules (changed c l) ∷ [])) (sym mine.me) (record { owned = λ q. refl; exact = λ q. refl; safe = safe })

  pub change_tells : Tells w.shape s.seat.me.0.parts (ListHolds w.shape (changed c (list_in s.seat.me.0.parts)))
  unfolding l
  change_tells = subst (λ (m : Me (Unit {0}) View). Tells w.shape m.0.parts (ListHolds w.shape (changed c l))) (sym mine.me)
      (tells_after w.shape (Modules l ∷ []) (Modules (changed c l) ∷ []) (ListHolds w.shape (changed c l)) safe (tells_list w.shape (changed c l) []))

  pub keep_shown : MayKeep c s.kept
  unfolding l
  keep_shown = subst (λ (x : Listing). MayKeep c x) (sym mine.kept) (may_keep w.shape c l holds may_here)

  pub change_after : (x : Seat (Unit {0}) View) (y : Listing) → x.table_id ≡ s.seat.table_id → x.me ≡ (view_of (Modules (changed c (list_in s.seat.me.0.parts)) ∷ []), s.seat.me.1) → ListHolds w.shape (changed c (list_in s.seat.me.0.parts)) → y ≡ kept_after c s.kept
      → IsListSeat (record s { seat = x; kept = y })
  unfolding l
  change_after x y table me tells kept =
      list_seat (record s { seat = x; kept = y }) (changed c l) (table ∙ mine.table) (me ∙ (λ i. (view_of (Modules (changed c l) ∷ []), (mine.me i).1))) (subst (λ (x : Words). ListHolds x.shape (changed c l)) same tells)
      (kept ∙ ap (λ (y : Listing). kept_after c y) mine.kept ∙ kept_along c l)

  pub row_shown : (m : Me (Unit {0}) View) → m ≡ (view_of (Modules (changed c (list_in s.seat.me.0.parts)) ∷ []), s.seat.me.1) → IsChange c shown.part (list_in m.0.parts)
  unfolding l
  row_shown m me = subst (λ (p : ListPart). IsChange c shown.part p) (sym (ap (λ (x : Me (Unit {0}) View). list_in x.0.parts) me)) (subst (λ (x : ListShown). IsChange c x.part (changed c l)) view (is_change w.shape c l holds may_here))
