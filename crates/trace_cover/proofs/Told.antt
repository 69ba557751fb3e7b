-- The laws, from what is carried from item to item.
use Rattle.std.proofs.Common.{◌≡◌, ℕ, ◌+◌, ◌<◌, ◌≤◌, Bool, true, false, List, [], ◌∷◌, ◌++◌, length, map, Option, Some, None, Ok, refl, sym, ◌∙◌, subst, arith, lt-ltb}
use Rattle.std.proofs.lemmas.Bool.{and_from, or_left}
use Rattle.std.specs.Prelude.{◌&&◌}
use Rattle.std.specs.List.{enumerate_from, find, flat_map, list_all}
use Rattle.std.proofs.lemmas.List.Folds.{list_all-append}
use Rattle.input_form.specs.declared.code.Code.{Code}
use Rattle.tag_model.specs.declared.state.Held.{Held}
use Rattle.tag_model.specs.declared.state.Tag.{Tag}
use Rattle.tag_model.specs.Index.{Slot}
use Rattle.module_area.specs.Area.{Area}
use Rattle.module_area.specs.Entries.{is_loaded_as}
use Rattle.slab_cache.specs.Slabs.{Slab, slab_tag}
use Rattle.slab_cache.specs.Storage.{Object, Pages, Uncounted}
use Rattle.trace.specs.declared.traces.Item.{Item}
use Rattle.trace.specs.declared.traces.Item.TheVariants as item
use Rattle.trace.specs.declared.traces.OnOp.{OnOp}
use Rattle.trace.specs.declared.traces.Trace.{Trace}
use Rattle.trace.specs.declared.traces.TraceOp.{TraceOp}
use Rattle.trace.specs.declared.traces.TraceOp.TheVariants as op
use Rattle.trace.specs.Formed.{IsFormedTrace}
use Rattle.round_check.specs.declared.walk.Walk.{Walk}
use Rattle.round_check.specs.Rounds.{IsRound}
use Rattle.round_check.specs.Walk.{rounds_of, walk_item, walk_ops}
use Rattle.round_check.proofs.Passed.{Fits}
use Rattle.trace_play.specs.Live.{Content, Live, Nothing, Stored}
use Rattle.trace_play.specs.Machine.{Machine, content_cell, live_cells, slab_cell, slab_cells}
use Rattle.trace_play.specs.Barrier.{all_home, cpus_done, module_done, modules_done, none_on_its_way, on_its_way, round_done, storage_home}
use Rattle.trace_play.specs.Play.{Outcome, Played, item_played, nothing_played, play, played_so_far, refusal_of, section_len}
use Rattle.trace_play.specs.Worker.{Seat}
use Rattle.trace_play.specs.Ready.{IsReady, runs_inside}
use Rattle.trace_play.proofs.AloneLemmas.{holds}
use Rattle.trace_play.proofs.CellsFound.{Sized, sized_after}
use Rattle.trace_play.proofs.ModulesHold.{Along, lines_along}
use Rattle.trace_play.proofs.Rising.{fold_keeps}
use Rattle.trace_play.specs.Totals.{IsAccounted, words_total}
use Rattle.trace_play.proofs.TotalsHold.{accounted, totals_after}
use Rattle.trace_play.proofs.TraceFits.{item_between}
use Rattle.trace_play.proofs.WordsTotal.{AreLow, low_after, words_are_live}
use Rattle.tag_model.specs.declared.state.Kind.{Kind}
use Rattle.tag_model.specs.Reference.{live_total}
use Rattle.tag_model.specs.Wrap.{wrap}
use Rattle.std.proofs.lemmas.List.{append_assoc}
use Rattle.trace_cover.specs.Cover.{AreCounted, AreNamed, HasCover, held_may, is_covered}
use Rattle.trace_cover.proofs.Passes.{AllMay, content_may}
use Rattle.trace_cover.proofs.Holds.{Covered, before_cleaning, cpus_last}
use Rattle.trace_cover.proofs.Items.{AtRound, after_front, at_round}
use Rattle.trace_cover.proofs.StayIn.{stays_loaded}
use Rattle.trace_cover.proofs.Few.{few_cells}
use Rattle.trace_cover.proofs.Quiet.{are_counted}
use Rattle.trace_play.proofs.ReadyHolds.{cpus_area}

-- ---- references by cell

module _ (may : Tag → Bool) where
  cells_may : (live : Live) → AllMay may live → list_all (λ (entry : Slot × Held). held_may may entry.1) (flat_map (λ (entry : ℕ × Content). content_cell entry.1) live) ≡ true
  cells_may [] a = refl
  cells_may (e ∷ live) a =
      list_all-append (λ (entry : Slot × Held). held_may may entry.1) (content_cell e.1) _ ∙ and_from _ _ (one e.1 a.0) (cells_may live a.1)
    where
      and_true : (b : Bool) → b ≡ true → (b && true) ≡ true
      and_true true e = refl
      and_true false e = e

      one : (content : Content) → content_may may content ≡ true → list_all (λ (entry : Slot × Held). held_may may entry.1) (content_cell content) ≡ true
      one (Nothing order) h = refl
      one (Stored (Pages block)) h = and_true _ h
      one (Stored (Object home frame place vector holds)) h = and_true _ h
      one (Stored (Uncounted home frame place)) h = refl

  all_flat : {X : Type 0} (f : X → List (Slot × Held)) (xs : List X) → ((x : X) → list_all (λ (entry : Slot × Held). held_may may entry.1) (f x) ≡ true) → list_all (λ (entry : Slot × Held). held_may may entry.1) (flat_map f xs) ≡ true
  all_flat f [] each = refl
  all_flat f (x ∷ xs) each = list_all-append (λ (entry : Slot × Held). held_may may entry.1) (f x) _ ∙ and_from _ _ (each x) (all_flat f xs each)

  slab_may : may slab_tag ≡ true → (cpu frame : ℕ) (slab : Option Slab) → list_all (λ (entry : Slot × Held). held_may may entry.1) (slab_cell cpu frame slab) ≡ true
  slab_may is cpu frame None = refl
  slab_may is cpu frame (Some slab) = and_from _ _ is refl

  machine_may : may slab_tag ≡ true → (m : Machine) → AllMay may m.live → list_all (λ (entry : Slot × Held). held_may may entry.1) (live_cells m) ≡ true
  machine_may is m a =
      list_all-append (λ (entry : Slot × Held). held_may may entry.1) (flat_map (λ (entry : ℕ × Content). content_cell entry.1) m.live) _
      ∙ and_from _ _ (cells_may m.live a)
      (all_flat (λ (seat : Seat). slab_cells seat.node) m.seats (λ seat. all_flat (λ (entry : ℕ × Option Slab). slab_cell seat.node.node.cpu entry.0 entry.1) (enumerate_from 0 seat.node.slabs) (λ entry. slab_may is seat.node.node.cpu entry.0 entry.1)))

pub has_cover : (trace : Trace) (m : Machine) → IsFormedTrace trace → Covered trace m → HasCover trace m
has_cover trace m formed c = record {
  book = c.book;
  first = c.first;
  tags = c.tags;
  named = c.named;
  given = c.given;
  unused = c.unused;
  covered = machine_may (is_covered (section_len trace 0) m.area.entries) (or_left _ _ (lt-ltb 0 (section_len trace 0) (formed.tags 0 formed.kernel))) m c.refs;
}

-- ---- any first items

pub front_covered : (trace : Trace) (top : Option ℕ) → IsFormedTrace trace → rounds_of trace ≡ Ok tt → (front back : List Item) → trace.body ≡ front ++ back → HasCover trace (played_so_far trace top front).played.machine
front_covered trace top formed passes front back stands = has_cover trace _ formed (after_front trace formed top passes front back stands).1.covered

pub front_named : (trace : Trace) (top : Option ℕ) → IsFormedTrace trace → rounds_of trace ≡ Ok tt → (front back : List Item) → trace.body ≡ front ++ back → AreNamed (played_so_far trace top front).played.machine
front_named trace top formed passes front back stands = (after_front trace formed top passes front back stands).1.named

-- ---- ids

module_last : (m : Machine) (what : TraceOp) → (module_done m what).last_id ≡ m.last_id
module_last m (op.Page key order) = refl
module_last m (op.Kmalloc key size) = refl
module_last m (op.Free key) = refl
module_last m (op.Split key order first) = refl
module_last m (op.Swap one two) = refl
module_last m (op.Trim key pages) = refl
module_last m (op.Hook section index) = refl
module_last m op.Unhook = refl
module_last m (op.Enter section) = refl
module_last m (op.Leave section) = refl
module_last m (op.Unload section) = refl

pub round_last : (ops : List OnOp) (m : Machine) → (round_done ops m).last_id ≡ m.last_id
round_last ops m =
    let left = cpus_done ops m in
    let marked = modules_done ops left in
    fold_keeps (λ (x : Machine). x.last_id ≡ marked.last_id) storage_home (λ x given h. h) (on_its_way marked) (none_on_its_way marked) refl
    ∙ fold_keeps (λ (x : Machine). x.last_id ≡ left.last_id) module_done (λ x what h. module_last x what ∙ h) (map (λ (on : OnOp). on.op) ops) left refl
    ∙ cpus_last ops m

last_most : (trace : Trace) (top : Option ℕ) (items : List Item) (p : Played) → (play trace top items p).played.machine.last_id ≤ p.machine.last_id + length items
last_most trace top [] p = omega arith
last_most trace top (what ∷ items) p =
    let later = last_most trace top items (item_played trace top what p) in
    let now = one what in
    elim (refusal_of trace what p) as (λ (why : Option _). (elim why as (λ _. Outcome) [ None ↦ play trace top items (item_played trace top what p) | Some w ↦ record { played = p; refused = Some w } ]).played.machine.last_id ≤ p.machine.last_id + length (what ∷ items)) [
      | None ↦ omega (arith, later, now)
      | Some w ↦ omega arith
    ]
  where
    one : (what : Item) → (item_played trace top what p).machine.last_id ≤ p.machine.last_id + 1
    one (item.Round ops) = let e = round_last ops p.machine in omega arith
    one (item.Load line section) = omega arith
    one item.Print = omega arith
    one item.Areas = omega arith

pub front_last : (trace : Trace) (top : Option ℕ) (front : List Item) → (played_so_far trace top front).played.machine.last_id ≤ length front
front_last trace top front = let l = last_most trace top front (nothing_played trace) in omega (arith, l)

-- ---- one round more

pub play_round : (trace : Trace) (top : Option ℕ) (ops : List OnOp) (items : List Item) (p : Played) → (play trace top items p).refused ≡ None
    → (play trace top (items ++ item.Round ops ∷ []) p).played ≡ item_played trace top (item.Round ops) (play trace top items p).played
play_round trace top ops [] p none = refl
play_round trace top ops (what ∷ items) p none =
    elim (refusal_of trace what p) as (λ (why : Option (ℕ × Code)). (elim why as (λ _. Outcome) [ None ↦ play trace top items (item_played trace top what p) | Some w ↦ record { played = p; refused = Some w } ]).refused ≡ None
    → (elim why as (λ _. Outcome) [ None ↦ play trace top (items ++ item.Round ops ∷ []) (item_played trace top what p) | Some w ↦ record { played = p; refused = Some w } ]).played
    ≡ item_played trace top (item.Round ops) (elim why as (λ _. Outcome) [ None ↦ play trace top items (item_played trace top what p) | Some w ↦ record { played = p; refused = Some w } ]).played) [
      | None ↦ λ h. play_round trace top ops items (item_played trace top what p) h
      | Some w ↦ λ h. let no : ⊥ = cc in absurd no
    ] none

-- ---- a round

module _ (trace : Trace) (top : Option ℕ) (ops : List OnOp) (before after : Walk) (formed : IsFormedTrace trace) (passes : rounds_of trace ≡ Ok tt) (round : IsRound trace ops before) (none : (played_so_far trace top round.front).refused ≡ None) (walked : walk_ops ops before ≡ Ok after) where
  here : AtRound trace formed ops before after (played_so_far trace top round.front).played.machine
  here = at_round trace formed top ops before after passes round none walked

  covered_behind : Covered trace (all_home (modules_done ops (cpus_done ops (played_so_far trace top round.front).played.machine)))
  covered_behind =
      let m = (played_so_far trace top round.front).played.machine in
      before_cleaning trace ops before m here.between.rise here.fits (subst (λ (x : Walk). IsReady trace ops before x m) (sym here.same) here.ready) here.holds_now.covered

  pub round_covered : HasCover trace (all_home (modules_done ops (cpus_done ops (played_so_far trace top round.front).played.machine)))
  round_covered = has_cover trace _ formed covered_behind

  -- a module that a CPU is inside at some moment stays loaded
  pub round_stays : (cpu section : ℕ) → section < 65 → runs_inside before ops cpu section ≡ true
      → find (is_loaded_as section) (modules_done ops (cpus_done ops (played_so_far trace top round.front).played.machine)).area.entries ≡ find (is_loaded_as section) (played_so_far trace top round.front).played.machine.area.entries
  round_stays cpu section low runs =
      let m = (played_so_far trace top round.front).played.machine in
      let h = here.holds_now.modules_are in
      let begins = here.begins in
      let fits : Fits before = subst Fits (sym begins) (record { keys = here.between.fits.keys; modules = here.between.fits.modules }) in
      let along : Along before before m.area.entries m.area.entries = subst (λ (x : Walk). Along x x m.area.entries m.area.entries) (sym begins) (record { long = h.long; inside_loaded = h.inside_loaded; was = λ s e. e; agree = h.agree; same = λ s e. refl }) in
      let left = cpus_done ops m in
      let a = lines_along before m.area.entries ops left before after here.fit_ops fits walked (subst (λ (area : Area). Along before before m.area.entries area.entries) (sym (cpus_area ops m)) along) in
      a.same section (stays_loaded section low cpu ops before after fits along.long here.fit_ops walked (λ c i. along.inside_loaded c section i) runs)

  -- a round leaves few references
  pub round_few : length (live_cells (all_home (modules_done ops (cpus_done ops (played_so_far trace top round.front).played.machine)))) ≤ 131072
  unfolding walk_item
  round_few =
      let m = (played_so_far trace top round.front).played.machine in
      let p = (played_so_far trace top round.front).played in
      let e : walk_item (item.Round ops) here.walk ≡ Ok after = subst (λ (x : Walk). walk_ops ops x ≡ Ok after) here.begins walked in
      let next = item_between trace top (item.Round ops) here.walk after p here.fit_ops here.formed_ops e here.between in
      let s : Sized trace.cpus trace.frames trace.vectors (round_done ops m) =
      subst (λ (q : Played). Sized trace.cpus trace.frames trace.vectors q.machine) (play_round trace top ops round.front (nothing_played trace) none) (sized_after trace top (round.front ++ item.Round ops ∷ [])) in
      few_cells trace.cpus trace.frames trace.vectors after.keys (round_done ops m) formed.cpus.1 formed.frames.1 next.fits.keys next.agree (holds next.rise) s

  pub round_counted : AreCounted (all_home (modules_done ops (cpus_done ops (played_so_far trace top round.front).played.machine)))
  round_counted =
      let m = (played_so_far trace top round.front).played.machine in
      are_counted trace (all_home (modules_done ops (cpus_done ops m))) covered_behind (formed.sections.within_limits 0 formed.kernel) round_few

  -- the words of all CPUs behind a round's work
  pub round_tells : (kind : Kind) (tag : ℕ) → wrap (words_total (all_home (modules_done ops (cpus_done ops (played_so_far trace top round.front).played.machine))) kind tag) ≡ wrap (live_total kind tag (live_cells (all_home (modules_done ops (cpus_done ops (played_so_far trace top round.front).played.machine)))))
  round_tells kind tag =
      let stands : trace.body ≡ (round.front ++ item.Round ops ∷ []) ++ round.back = round.stands ∙ sym (append_assoc round.front (item.Round ops ∷ []) round.back) in
      let q = (played_so_far trace top (round.front ++ item.Round ops ∷ [])).played.machine in
      let l = low_after trace top formed passes (round.front ++ item.Round ops ∷ []) round.back stands in
      let low : AreLow (length q.seats) q.tally.moves = subst (λ n. AreLow n q.tally.moves) (sym l.seats) l.low in
      let accounts : IsAccounted q = λ kind tag. accounted kind tag q (totals_after kind tag trace top formed passes (round.front ++ item.Round ops ∷ []) round.back stands) in
      let tells = words_are_live q accounts low kind tag (live_total kind tag (live_cells q)) (accounts kind tag) in
      subst (λ (p : Played). wrap (words_total p.machine kind tag) ≡ wrap (live_total kind tag (live_cells p.machine))) (play_round trace top ops round.front (nothing_played trace) none) tells
