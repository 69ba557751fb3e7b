-- The workers' keys, put into those that no op named, are what the round leaves.
use Rattle.std.proofs.Common.{◌≡◌, ℕ, zero, suc, ◌+◌, ◌<◌, ◌≤◌, Bool, true, false, cond, not, T, eqb, List, [], ◌∷◌, length, Option, Some, None, Ok, is_some, All, refl, sym, ap, ◌∙◌, subst, arith, eqb-true, eq-eqb}
use Rattle.std.specs.Prelude.{fold, option_map, map}
use Rattle.std.specs.List.{find, range_with_len}
use Rattle.std.specs.Option.{option_or}
use Rattle.std.proofs.lemmas.Bool.{cond-true, cond-false}
use Rattle.std.proofs.lemmas.List.Elements.{All-head, All-tail, All-weaker}
use Rattle.trace.specs.Formed.{IsFormedItem, IsFormedOn, IsFormedTrace}
use Rattle.trace.specs.declared.traces.Item.TheVariants as item
use Rattle.trace.specs.declared.traces.OnOp.{OnOp}
use Rattle.trace.specs.declared.traces.Trace.{Trace}
use Rattle.round_check.specs.declared.walk.Walk.{Walk}
use Rattle.round_check.specs.Rounds.{IsRound}
use Rattle.round_check.specs.Walk.{walk_ops, rounds_of}
use Rattle.round_check.proofs.Named.{by_bool}
use Rattle.round_check.proofs.Pairs.{all_behind}
use Rattle.trace_play.specs.Live.{Content, Live}
use Rattle.trace_play.specs.Machine.{Machine}
use Rattle.trace_play.specs.Barrier.{cpus_done}
use Rattle.trace_play.specs.Play.{played_so_far}
use Rattle.trace_play.specs.Alone.{rises, kept, put_all, worker_done, NoneShared, NamesItsOwn}
use Rattle.trace_play.specs.Fits.{entry_at, is_owner, RoundFits}
use Rattle.trace_play.proofs.AloneLemmas.{holds}
use Rattle.trace_play.proofs.Entries.{find_kept, find_put_all, sorted_kept, sorted_put_all, same}
use Rattle.trace_play.proofs.Rising.{cpus_rise}
use Rattle.trace_play.proofs.SideBySide.{each_has, unnamed}
use Rattle.trace_play.proofs.TraceFits.{before_round, rounds_fit}
use Rattle.round_worker.specs.Shown.{WorkerShown}
use Rattle.round_keys.specs.Handed.{names, handed_to, is_cpu, handed, is_handed}
use Rattle.round_keys.proofs.HandLemmas.{or_nothing}
use Rattle.round_keys.proofs.OwnersNamed.{bound_to_owner}

-- ---- keys put back, CPU by CPU

-- each CPU's own keys of a live list
abbrev pub back_from : (ℕ → ℕ → Bool) → Live → Live → List ℕ → Live
back_from own live into cpus = fold (λ into cpu. put_all into (kept (own cpu) live)) into cpus

module _ (own : ℕ → ℕ → Bool) (live : Live) (up : T (rises live)) (q : ℕ) where
  one_put : (cpu : ℕ) (into : Live) → entry_at q (put_all into (kept (own cpu) live)) ≡ option_or (cond (own cpu q) (entry_at q live) None) (entry_at q into)
  one_put cpu into = find_put_all q into (kept (own cpu) live) (sorted_kept (own cpu) live up) ∙ ap (λ o. option_or o (entry_at q into)) (find_kept (own cpu) q live)

  -- a key of none of them
  no_one_puts : (count from : ℕ) (into : Live) → ((cpu : ℕ) → from ≤ cpu → cpu < from + count → own cpu q ≡ false) → entry_at q (back_from own live into (range_with_len from count)) ≡ entry_at q into
  no_one_puts zero from into none = refl
  no_one_puts (suc count) from into none =
      no_one_puts count (from + 1) (put_all into (kept (own from) live)) (λ cpu low high. none cpu (omega arith) (omega arith))
      ∙ one_put from into
      ∙ ap (λ b. option_or (cond b (entry_at q live) None) (entry_at q into)) (none from (omega arith) (omega arith))

  -- a key of one
  some_one_puts : NoneShared own → (count from : ℕ) (into : Live) (one : ℕ) → from ≤ one → one < from + count → own one q ≡ true → entry_at q into ≡ None → entry_at q (back_from own live into (range_with_len from count)) ≡ entry_at q live
  some_one_puts apart zero from into one low high is none = absurd (omega arith)
  some_one_puts apart (suc count) from into one low high is none =
      by_bool (eqb one from)
      (λ here.
      let same_cpu : one ≡ from = eqb-true one from here in
      no_one_puts count (from + 1) (put_all into (kept (own from) live)) (λ cpu above below. apart one cpu (λ e. omega arith) q is)
      ∙ one_put from into
      ∙ ap (λ b. option_or (cond b (entry_at q live) None) (entry_at q into)) (subst (λ c. own c q ≡ true) same_cpu is)
      ∙ ap (option_or (entry_at q live)) none ∙ or_nothing (entry_at q live))
      (λ differ.
      let other : one ≡ from → ⊥ = λ e. let no : ⊥ = cc (eq-eqb one from e, differ) in no in
      some_one_puts apart count (from + 1) (put_all into (kept (own from) live)) one (above_it other) (omega arith) is
      (one_put from into
      ∙ ap (λ b. option_or (cond b (entry_at q live) None) (entry_at q into)) (apart one from other q is)
      ∙ none))
    where
      above_it : (one ≡ from → ⊥) → from + 1 ≤ one
      above_it other = omega (arith, other)

back_rises : (own : ℕ → ℕ → Bool) (live : Live) (cpus : List ℕ) (into : Live) → T (rises into) → T (rises (back_from own live into cpus))
back_rises own live [] into up = up
back_rises own live (cpu ∷ cpus) into up = back_rises own live cpus (put_all into (kept (own cpu) live)) (sorted_put_all into (kept (own cpu) live) up)

-- ---- which keys are handed out

-- a key that is handed out goes to a CPU
handed_somewhere : (ops : List OnOp) (count q : ℕ) → All (λ on. on.cpu < count) ops → is_handed ops q ≡ true → (cpu : ℕ) × (cpu < count) × (handed ops cpu q ≡ true)
handed_somewhere [] count q low is = let no : ⊥ = cc in absurd no
handed_somewhere (on ∷ ops) count q low is =
    by (names on.op q) is (handed_somewhere ops count q (All-tail (λ (x : OnOp). x.cpu < count) on ops low))
  where
    by : (b : Bool) → is_some (option_map (λ (x : OnOp). x.cpu) (cond b (Some on) (find (λ (x : OnOp). names x.op q) ops))) ≡ true
        → (is_handed ops q ≡ true → (cpu : ℕ) × (cpu < count) × (handed ops cpu q ≡ true))
        → (cpu : ℕ) × (cpu < count) × (is_cpu cpu (option_map (λ (x : OnOp). x.cpu) (cond b (Some on) (find (λ (x : OnOp). names x.op q) ops))) ≡ true)
    by true h rest = (on.cpu, All-head (λ (x : OnOp). x.cpu < count) on ops low, eq-eqb on.cpu on.cpu refl)
    by false h rest = rest h

handed_to_one : (ops : List OnOp) (q cpu : ℕ) → handed ops cpu q ≡ true → is_handed ops q ≡ true
handed_to_one ops q cpu = by (handed_to ops q)
  where
    by : (o : Option ℕ) → is_cpu cpu o ≡ true → is_some o ≡ true
    by None h = let no : ⊥ = cc in absurd no
    by (Some c) h = refl

-- ---- a round of a checked trace

-- the first of so many CPUs that owns a key, if any does
one_or_none : (own : ℕ → ℕ → Bool) (q count : ℕ) → {P : Type 0} → ((cpu : ℕ) → cpu < count → own cpu q ≡ true → P) → (((cpu : ℕ) → cpu < count → own cpu q ≡ false) → P) → P
one_or_none own q zero some none = none (λ cpu low. absurd (omega arith))
one_or_none own q (suc count) some none =
    by_bool (own count q)
    (λ is. some count (omega arith) is)
    (λ isnt. one_or_none own q count (λ cpu low is. some cpu (omega arith) is)
    (λ others. none (λ cpu low. by_bool (eqb cpu count) (λ e. subst (λ c. own c q ≡ false) (sym (eqb-true cpu count e)) isnt) (λ e. others cpu (below cpu low (λ s. let no : ⊥ = cc (eq-eqb cpu count s, e) in no))))))
  where
    below : (cpu : ℕ) → cpu < suc count → (cpu ≡ count → ⊥) → cpu < count
    below cpu low other = omega (arith, low, other)

module _ (trace : Trace) (top : Option ℕ) (ops : List OnOp) (before after : Walk) (formed : IsFormedTrace trace) (passes : rounds_of trace ≡ Ok tt) (round : IsRound trace ops before)
    (none : (played_so_far trace top round.front).refused ≡ None) (walked : walk_ops ops before ≡ Ok after) where
  abbrev machine : Machine
  machine = (played_so_far trace top round.front).played.machine

  abbrev own : ℕ → ℕ → Bool
  own = is_owner after

  abbrev left_there : Live
  left_there = kept (λ key. not (is_handed ops key)) machine.live

  fits : RoundFits ops before machine
  fits = rounds_fit trace top ops before formed passes round none

  after_is : fits.after ≡ after
  after_is = cc (fits.walked, walked)

  apart : NoneShared own
  apart = subst (λ (walk : Walk). NoneShared (is_owner walk)) after_is fits.apart

  named : (cpu : ℕ) → NamesItsOwn (own cpu) ops machine cpu
  named = subst (λ (walk : Walk). (cpu : ℕ) → NamesItsOwn (is_owner walk cpu) ops machine cpu) after_is fits.names

  up : rises machine.live ≡ true
  up = (before_round trace top ops before formed round none).rise

  -- each line is of a CPU that there is
  pub low_cpus : All (λ on. on.cpu < length machine.seats) ops
  low_cpus =
      let items = subst (All (IsFormedItem trace.cpus trace.sections)) round.stands formed.items in
      let are : All (IsFormedOn trace.cpus trace.sections) ops = (all_behind (IsFormedItem trace.cpus trace.sections) round.front (item.Round ops) round.back items).0 in
      subst (λ n. All (λ (on : OnOp). on.cpu < n) ops) (sym (before_round trace top ops before formed round none).count)
      (All-weaker (IsFormedOn trace.cpus trace.sections) (λ (on : OnOp). on.cpu < trace.cpus) (λ on is. is.0) ops are)

  -- an owned key isn't left in the store
  owned_gone : (q cpu : ℕ) → own cpu q ≡ true → entry_at q left_there ≡ None
  owned_gone q cpu is =
      find_kept (λ key. not (is_handed ops key)) q machine.live
      ∙ by (entry_at q machine.live) (λ content found. handed_to_one ops q cpu (bound_to_owner trace top ops before after formed passes round none walked q content found cpu ∙ is))
    where
      by : (o : Option Content) → ((content : Content) → o ≡ Some content → is_handed ops q ≡ true) → cond (not (is_handed ops q)) o None ≡ None
      by None h = nothing (not (is_handed ops q))
        where
          nothing : (b : Bool) → cond {A = Option Content} b None None ≡ None
          nothing true = refl
          nothing false = refl
      by (Some content) h = cond-false (not (is_handed ops q)) (Some content) None (ap not (h content refl))

  -- one that nobody owns is
  unowned_there : (q : ℕ) → ((cpu : ℕ) → cpu < length machine.seats → own cpu q ≡ false) → entry_at q left_there ≡ entry_at q machine.live
  unowned_there q nobody =
      find_kept (λ key. not (is_handed ops key)) q machine.live
      ∙ by (entry_at q machine.live) (λ content found. stays content found)
    where
      stays : (content : Content) → entry_at q machine.live ≡ Some content → is_handed ops q ≡ false
      stays content found =
          by_bool (is_handed ops q)
          (λ given.
          let there = handed_somewhere ops (length machine.seats) q low_cpus given in
          let no : ⊥ = cc (bound_to_owner trace top ops before after formed passes round none walked q content found there.0, there.2, nobody there.0 there.1) in absurd no)
          (λ h. h)

      by : (o : Option Content) → ((content : Content) → o ≡ Some content → is_handed ops q ≡ false) → cond (not (is_handed ops q)) o None ≡ o
      by None h = nothing (not (is_handed ops q))
        where
          nothing : (b : Bool) → cond {A = Option Content} b None None ≡ None
          nothing true = refl
          nothing false = refl
      by (Some content) h = cond-true (not (is_handed ops q)) (Some content) None (ap not (h content refl))

  -- what each worker has left are its own keys of what the round leaves
  as_left : (count from : ℕ) (into : Live) → from + count ≤ length machine.seats
      → fold (λ into cpu. put_all into (worker_done own ops machine cpu).live) into (range_with_len from count) ≡ back_from own (cpus_done ops machine).live into (range_with_len from count)
  as_left zero from into few = refl
  as_left (suc count) from into few =
      ap (λ (live : Live). fold (λ into cpu. put_all into (worker_done own ops machine cpu).live) (put_all into live) (range_with_len (from + 1) count)) (sym (each_has own ops machine up apart (λ cpu _. named cpu) from (omega arith)).1)
      ∙ as_left count (from + 1) (put_all into (kept (own from) (cpus_done ops machine).live)) (omega arith)

  pub all_back : fold (λ into cpu. put_all into (worker_done own ops machine cpu).live) left_there (range_with_len 0 (length machine.seats)) ≡ (cpus_done ops machine).live
  all_back =
      let left = (cpus_done ops machine).live in
      let count = length machine.seats in
      let left_up = cpus_rise ops machine (holds up) in
      as_left count 0 left_there (omega arith)
      ∙ same (back_from own left left_there (range_with_len 0 count)) left (back_rises own left (range_with_len 0 count) left_there (sorted_kept (λ key. not (is_handed ops key)) machine.live (holds up))) left_up
      (λ q. one_or_none own q count
      (λ cpu low is. some_one_puts own left left_up q apart count 0 left_there cpu (omega arith) (omega arith) is (owned_gone q cpu is))
      (λ nobody.
      no_one_puts own left left_up q count 0 left_there (λ cpu low high. nobody cpu (omega arith))
      ∙ unowned_there q nobody
      ∙ sym (unnamed own ops machine up apart (λ cpu _. named cpu) q nobody)))

-- ---- workers in a list

-- their keys put in, one after the other, are those of their places
pub by_place : (lives : ℕ → Live) (workers : List WorkerShown) (from : ℕ) (into : Live) → map (λ (w : WorkerShown). w.live) workers ≡ map lives (range_with_len from (length workers))
    → fold (λ into (w : WorkerShown). put_all into w.live) into workers ≡ fold (λ into cpu. put_all into (lives cpu)) into (range_with_len from (length workers))
by_place lives [] from into e = refl
by_place lives (w ∷ workers) from into e =
    let here : w.live ≡ lives from = cc in
    let rest : map (λ (x : WorkerShown). x.live) workers ≡ map lives (range_with_len (from + 1) (length workers)) = cc in
    ap (λ (live : Live). fold (λ into (x : WorkerShown). put_all into x.live) (put_all into live) workers) here
    ∙ by_place lives workers (from + 1) (put_all into (lives from)) rest
