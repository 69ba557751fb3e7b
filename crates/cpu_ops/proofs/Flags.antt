-- The flags of reserved keys say what the queues say, before a step and after it.
use Rattle.std.proofs.Common.{◌≡◌, ◌≢◌, ℕ, zero, suc, ◌+◌, ◌<◌, ◌==◌, ◌||◌, List, [], ◌∷◌, ◌++◌, length, set, get_or, replicate, refl, sym, ap, ◌∙◌, arith, Bool, true, false, if◌then◌else◌}
use Rattle.std.proofs.lemmas.Bool.Decides.{nat_tests}
use Rattle.std.proofs.lemmas.List.{get_or-replicate, length-replicate}
use Rattle.std.specs.List.{list_any}
use Rattle.tag_model.specs.declared.state.Held.{Held}
use Rattle.tag_model.specs.declared.state.Held.TheVariants as held
use Rattle.cpu_ops.specs.declared.op.CpuOp.{CpuOp}
use Rattle.cpu_ops.specs.declared.op.CpuOp.TheVariants.{Open, Close, Split, Swap, Trim, Enter, Leave}
use Rattle.cpu_ops.specs.declared.op.TheConstants.{KEY_END}
use Rattle.cpu_ops.specs.Machine.{Waiting, nothing_waits, advanced, names_key, reserves, is_reserved, step_count, with_op}
use Rattle.cpu_ops.specs.Needs.{KeysFit}
use Rattle.cpu_ops.specs.Reserved.{flag_at, AreReserved, Flagged, Noted, Notes}

-- ---- a list in which one element is replaced, and a test that some element passes

any_kept : {X : Type 0} (p : X → Bool) (xs : List X) (i : ℕ) (x d : X) → i < length xs → p x ≡ p (get_or xs i d) → list_any p (set xs i x) ≡ list_any p xs
any_kept p [] i x d h e = absurd (omega arith)
any_kept p (y ∷ xs) zero x d h e = ap (λ b. b || list_any p xs) e
any_kept p (y ∷ xs) (suc i) x d h e = ap (λ b. p y || b) (any_kept p xs i x d (omega arith) e)

or_right : (a : Bool) → (a || true) ≡ true
or_right true = refl
or_right false = refl

any_here : {X : Type 0} (p : X → Bool) (xs : List X) (i : ℕ) (x : X) → i < length xs → p x ≡ true → list_any p (set xs i x) ≡ true
any_here p [] i x h e = absurd (omega arith)
any_here p (y ∷ xs) zero x h e = rw e refl
any_here p (y ∷ xs) (suc i) x h e = rw (any_here p xs i x (omega arith) e) (or_right (p y))

all_fail : {X : Type 0} (p : X → Bool) (xs : List X) (d : X) → ((j : ℕ) → j < length xs → p (get_or xs j d) ≡ false) → list_any p xs ≡ false
all_fail p [] d none = refl
all_fail p (y ∷ xs) d none = rw (none 0 (omega arith)) (all_fail p xs d (λ j h. none (suc j) (omega arith)))

any_nowhere : {X : Type 0} (p : X → Bool) (xs : List X) (i : ℕ) (x d : X) → i < length xs → p x ≡ false → ((j : ℕ) → j < length xs → j ≢ i → p (get_or xs j d) ≡ false) → list_any p (set xs i x) ≡ false
any_nowhere p [] i x d h e none = absurd (omega arith)
any_nowhere p (y ∷ xs) zero x d h e none = rw e (all_fail p xs d (λ j l. none (suc j) (omega arith) (λ same. omega arith)))
any_nowhere p (y ∷ xs) (suc i) x d h e none = rw (none 0 (omega arith) (λ same. omega arith)) (any_nowhere p xs i x d (omega arith) e (λ j l ne. none (suc j) (omega arith) (λ same. ne (omega arith))))

-- ---- keys of one queue

pub reserves_later : (key done : ℕ) (op : CpuOp) (ops : List CpuOp) → done ≢ 0 → reserves key (record { ops = op ∷ ops; done = done }) ≡ names_key key op
reserves_later key done op ops later = let t : (done == 0) ≡ false = grind (arith, nat_tests) in rw t refl

reserves_first : (key : ℕ) (ops : List CpuOp) → reserves key (record { ops = ops; done = 0 }) ≡ false
reserves_first key ops = refl

goes_on : (op : CpuOp) (ops : List CpuOp) (done : ℕ) → (done + 1 == step_count op) ≡ false → advanced (op ∷ ops) done ≡ record { ops = op ∷ ops; done = done + 1 }
goes_on op ops done more = rw more refl

ends : (op : CpuOp) (ops : List CpuOp) (done : ℕ) → (done + 1 == step_count op) ≡ true → advanced (op ∷ ops) done ≡ record { ops = ops; done = 0 }
ends op ops done last = rw last refl

-- an op that names a key takes more than one step
takes_more : (key : ℕ) (op : CpuOp) → KeysFit op → names_key key op ≡ true → 1 < step_count op
takes_more key (Open named section index size) fit names = omega arith
takes_more key (Close named) fit names = omega arith
takes_more key (Split named parts first) fit names = omega (arith, fit.1)
takes_more key (Swap one two) fit names = omega arith
takes_more key (Trim named bytes) fit names = omega arith
takes_more key (Enter section) fit names = absurd (cc)
takes_more key (Leave section) fit names = absurd (cc)

-- ---- after a step

module _ (flags next : List Bool) (places after : List Held) (waiting : List Waiting) (cpu done : ℕ) (op : CpuOp) (ops : List CpuOp) (all : AreReserved flags places waiting) (below : cpu < length waiting)
    (is : get_or waiting cpu nothing_waits ≡ record { ops = op ∷ ops; done = done }) (fit : KeysFit op) (within : done < step_count op)
    (apart : (other key : ℕ) → other < length waiting → other ≢ cpu → reserves key (get_or waiting cpu nothing_waits) ≡ true → reserves key (get_or waiting other nothing_waits) ≡ true → ⊥)
    (same : length after ≡ length places) where
  -- the queue reserves a key after the step exactly as before
  kept : (key : ℕ) → reserves key (advanced (op ∷ ops) done) ≡ reserves key (record { ops = op ∷ ops; done = done }) → is_reserved key (set waiting cpu (advanced (op ∷ ops) done)) ≡ is_reserved key waiting
  kept key e = any_kept (reserves key) waiting cpu (advanced (op ∷ ops) done) nothing_waits below (e ∙ ap (reserves key) (sym is))

  not_others : (key : ℕ) → done ≢ 0 → names_key key op ≡ true → (j : ℕ) → j < length waiting → j ≢ cpu → reserves key (get_or waiting j nothing_waits) ≡ false
  not_others key later names j l ne = go (reserves key (get_or waiting j nothing_waits)) refl
    where
      go : (b : Bool) → reserves key (get_or waiting j nothing_waits) ≡ b → b ≡ false
      go true e = absurd (apart j key l ne (ap (reserves key) is ∙ reserves_later key done op ops later ∙ names) e)
      go false e = refl

  after_first : (done == 0) ≡ true → (done + 1 == step_count op) ≡ false → Flagged op true flags next → (key : ℕ) → key < KEY_END → flag_at next key ≡ is_reserved key (set waiting cpu (advanced (op ∷ ops) done))
  after_first first more f key l = by_name (names_key key op) refl
    where
      zero_done : done ≡ 0
      zero_done = grind (arith, nat_tests)

      here : flag_at next key ≡ (if names_key key op then true else flag_at flags key)
      here = f.flags key (omega (arith, all.has_flags))

      next_is : reserves key (advanced (op ∷ ops) done) ≡ names_key key op
      next_is = rw more (reserves_later key (done + 1) op ops (λ z. omega arith))

      by_name : (b : Bool) → names_key key op ≡ b → flag_at next key ≡ is_reserved key (set waiting cpu (advanced (op ∷ ops) done))
      by_name true e = (here ∙ ap (λ x. if x then true else flag_at flags key) e) ∙ sym (any_here (reserves key) waiting cpu (advanced (op ∷ ops) done) below (next_is ∙ e))
      by_name false e =
          let was : reserves key (record { ops = op ∷ ops; done = done }) ≡ false = rw first refl in
          (here ∙ ap (λ x. if x then true else flag_at flags key) e) ∙ all.exact key l ∙ sym (kept key (next_is ∙ e ∙ sym was))

  after_last : (done == 0) ≡ false → (done + 1 == step_count op) ≡ true → Flagged op false flags next → (key : ℕ) → key < KEY_END → flag_at next key ≡ is_reserved key (set waiting cpu (advanced (op ∷ ops) done))
  after_last later last f key l = by_name (names_key key op) refl
    where
      some_done : done ≢ 0
      some_done z = grind (arith, nat_tests)

      here : flag_at next key ≡ (if names_key key op then false else flag_at flags key)
      here = f.flags key (omega (arith, all.has_flags))

      next_is : reserves key (advanced (op ∷ ops) done) ≡ false
      next_is = rw last refl

      by_name : (b : Bool) → names_key key op ≡ b → flag_at next key ≡ is_reserved key (set waiting cpu (advanced (op ∷ ops) done))
      by_name true e = (here ∙ ap (λ x. if x then false else flag_at flags key) e)
          ∙ sym (any_nowhere (reserves key) waiting cpu (advanced (op ∷ ops) done) nothing_waits below next_is (not_others key some_done e))
      by_name false e = (here ∙ ap (λ x. if x then false else flag_at flags key) e) ∙ all.exact key l
          ∙ sym (kept key (next_is ∙ sym (reserves_later key done op ops some_done ∙ e)))

  after_middle : (done == 0) ≡ false → (done + 1 == step_count op) ≡ false → next ≡ flags → (key : ℕ) → key < KEY_END → flag_at next key ≡ is_reserved key (set waiting cpu (advanced (op ∷ ops) done))
  after_middle later more f key l =
      let some_done : done ≢ 0 = λ z. grind (arith, nat_tests) in
      let next_is : reserves key (advanced (op ∷ ops) done) ≡ names_key key op = rw more (reserves_later key (done + 1) op ops (λ z. omega arith)) in
      ap (λ x. flag_at x key) f ∙ all.exact key l ∙ sym (kept key (next_is ∙ sym (reserves_later key done op ops some_done)))

  -- an op of one step names no key
  after_only : (done == 0) ≡ true → (done + 1 == step_count op) ≡ true → next ≡ flags → (key : ℕ) → key < KEY_END → flag_at next key ≡ is_reserved key (set waiting cpu (advanced (op ∷ ops) done))
  after_only first last f key l =
      let next_is : reserves key (advanced (op ∷ ops) done) ≡ false = rw last refl in
      let was : reserves key (record { ops = op ∷ ops; done = done }) ≡ false = rw first refl in
      ap (λ x. flag_at x key) f ∙ all.exact key l ∙ sym (kept key (next_is ∙ sym was))

  length_next : (first last : Bool) → Noted op first last flags next → length next ≡ length flags
  length_next true false n = n.same
  length_next false true n = n.same
  length_next true true n = ap length n
  length_next false false n = ap length n

  pub reserved_after : Notes op done flags next → AreReserved next after (set waiting cpu (advanced (op ∷ ops) done))
  reserved_after n = record {
    has_places = same ∙ all.has_places;
    has_flags = length_next (done == 0) (done + 1 == step_count op) n ∙ all.has_flags;
    exact = by_test (done == 0) (done + 1 == step_count op) refl refl n;
  }
    where
      by_test : (first last : Bool) → (done == 0) ≡ first → (done + 1 == step_count op) ≡ last → Noted op first last flags next → (key : ℕ) → key < KEY_END → flag_at next key ≡ is_reserved key (set waiting cpu (advanced (op ∷ ops) done))
      by_test true false first last n = after_first first last n
      by_test false true first last n = after_last first last n
      by_test true true first last n = after_only first last n
      by_test false false first last n = after_middle first last n

-- ---- before any step, and where an op is queued

pub none_reserved : (key n : ℕ) → is_reserved key (replicate n nothing_waits) ≡ false
none_reserved key zero = refl
none_reserved key (suc n) = none_reserved key n

reserves_pushed : (key : ℕ) (w : Waiting) (op : CpuOp) → (w.ops ≡ [] → w.done ≡ 0) → reserves key (with_op w op) ≡ reserves key w
reserves_pushed key w op start = go w.ops w.done start
  where
    go : (ops : List CpuOp) (done : ℕ) → (ops ≡ [] → done ≡ 0) → reserves key (record { ops = ops ++ op ∷ []; done = done }) ≡ reserves key (record { ops = ops; done = done })
    go [] done at = rw (at refl) refl
    go (x ∷ ops) done at = refl

pub reserved_queued : (flags : List Bool) (places : List Held) (waiting : List Waiting) (cpu : ℕ) (w : Waiting) (op : CpuOp) → AreReserved flags places waiting → cpu < length waiting → w ≡ get_or waiting cpu nothing_waits
    → (w.ops ≡ [] → w.done ≡ 0) → AreReserved flags places (set waiting cpu (with_op w op))
reserved_queued flags places waiting cpu w op all below is start = record {
  has_places = all.has_places;
  has_flags = all.has_flags;
  exact = λ key l. all.exact key l ∙ sym (any_kept (reserves key) waiting cpu (with_op w op) nothing_waits below (reserves_pushed key w op start ∙ ap (reserves key) is));
}

pub reserved_fresh : (flags : List Bool) (places : List Held) (waiting : List Waiting) (cpus : ℕ) → flags ≡ replicate KEY_END false → places ≡ replicate KEY_END held.None → waiting ≡ replicate cpus nothing_waits → AreReserved flags places waiting
reserved_fresh flags places waiting cpus f p w = record {
  has_places = ap length p ∙ length-replicate KEY_END held.None;
  has_flags = ap length f ∙ length-replicate KEY_END false;
  exact = λ key l. ap (λ x. flag_at x key) f ∙ get_or-replicate KEY_END key false false l ∙ sym (none_reserved key cpus) ∙ ap (is_reserved key) (sym w);
}
