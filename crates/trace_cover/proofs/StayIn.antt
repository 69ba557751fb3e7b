-- A module that a CPU is inside at some moment of a round stays loaded behind the round's ops.
use Rattle.std.proofs.Common.{◌≡◌, ℕ, ◌<◌, Bool, true, false, cond, eqb, List, [], ◌∷◌, length, set, get_or, Ok, All, inl, inr, ◌⊎◌, refl, sym, ap, ◌∙◌, subst, arith, eqb-true}
use Rattle.std.specs.Prelude.{◌&&◌}
use Rattle.std.specs.List.{list_any}
use Rattle.std.proofs.lemmas.Bool.{eqb-false}
use Rattle.std.proofs.lemmas.List.{length-set}
use Rattle.std.proofs.lemmas.List.Folds.{list_any-append}
use Rattle.std.proofs.lemmas.List.Elements.{All-head, All-tail}
use Rattle.trace.specs.declared.traces.OnOp.{OnOp}
use Rattle.trace.specs.declared.traces.TraceOp.{TraceOp}
use Rattle.trace.specs.declared.traces.TraceOp.TheVariants as op
use Rattle.round_check.specs.CpuState.{CpuState}
use Rattle.round_check.specs.declared.walk.Walk.{Walk}
use Rattle.round_check.specs.Cpus.{cpu_at, is_inside}
use Rattle.round_check.specs.Formed.{FitsOn, FitsOp}
use Rattle.round_check.specs.Tables.{absent}
use Rattle.round_check.specs.Walk.{module_at, walk_op, walk_ops}
use Rattle.round_check.proofs.Named.{by_bool}
use Rattle.round_check.proofs.Pairs.{first_line}
use Rattle.round_check.proofs.Passed.{Fits, Passed, enters as told_enters, fits_on, leaves as told_leaves, op_ok, unloads as told_unloads}
use Rattle.trace_play.specs.Ready.{enters, runs_inside}
use Rattle.trace_play.proofs.CpusTold.{CpuTold, cpu_told}
use Rattle.trace_play.proofs.HooksFit.{cpu_set, either_or, inside_kept}
use Rattle.trace_play.proofs.ModulesHold.{is_loaded, module_set, nobody_is}
use Rattle.std.proofs.lemmas.Bool.{or_left}

module _ (section : ℕ) (low : section < 65) where
  -- it is loaded, and was entered or left in this round, or somebody is inside
  abbrev Pinned : Walk → Type 0
  Pinned here = (is_loaded here section ≡ true) × (((module_at here section).moved ≡ here.round) ⊎ ((cpu : ℕ) × (is_inside section (cpu_at here.cpus cpu) ≡ true)))

  still_inside : (here next : Walk) (at : ℕ) (state : CpuState) → at < length here.cpus → next.cpus ≡ set here.cpus at state → (is_inside section (cpu_at here.cpus at) ≡ true → is_inside section state ≡ true)
      → (cpu : ℕ) → is_inside section (cpu_at here.cpus cpu) ≡ true → is_inside section (cpu_at next.cpus cpu) ≡ true
  still_inside here next at state below are own cpu inside =
      let there : cpu_at next.cpus cpu ≡ cond (eqb cpu at) state (cpu_at here.cpus cpu) = ap (λ cpus. cpu_at cpus cpu) are ∙ cpu_set here.cpus at cpu state below in
      by_bool {P = is_inside section (cpu_at next.cpus cpu) ≡ true} (eqb cpu at)
      (λ t. ap (is_inside section) (there ∙ ap (λ b. cond b state (cpu_at here.cpus cpu)) t) ∙ own (subst (λ c. is_inside section (cpu_at here.cpus c) ≡ true) (eqb-true cpu at t) inside))
      (λ t. ap (is_inside section) (there ∙ ap (λ b. cond b state (cpu_at here.cpus cpu)) t) ∙ inside)

  same_modules : (here next : Walk) → next.modules ≡ here.modules → is_loaded next section ≡ is_loaded here section
  same_modules here next e = ap (λ ms. (get_or ms section absent).loaded) e

  set_modules : (here next : Walk) (s moved unloaded : ℕ) → s < length here.modules → next.modules ≡ set here.modules s (record { loaded = is_loaded here s; moved = moved; unloaded = unloaded }) → is_loaded next section ≡ is_loaded here section
  set_modules here next s moved unloaded below e =
      ap (λ ms. (get_or ms section absent).loaded) e ∙ module_set here.modules s section _ below
      ∙ by_bool {P = cond (eqb section s) (is_loaded here s) (is_loaded here section) ≡ is_loaded here section} (eqb section s)
      (λ t. ap (λ b. cond b (is_loaded here s) (is_loaded here section)) t ∙ ap (is_loaded here) (sym (eqb-true section s t)))
      (λ t. ap (λ b. cond b (is_loaded here s) (is_loaded here section)) t)

  line_pinned : (on : OnOp) (here next : Walk) → Fits here → on.cpu < length here.cpus → FitsOn on → walk_op on.cpu on.op here ≡ Ok next → Pinned here → Pinned next
  line_pinned on here next fits below is e p = by on.op is.1 e (cpu_told on.cpu on.op here next e)
    where
      passed : (what : TraceOp) → FitsOp what → walk_op on.cpu what here ≡ Ok next → Passed on.cpu what here next
      passed what f e = op_ok on.cpu what here next fits f e

      either : (what : TraceOp) → FitsOp what → walk_op on.cpu what here ≡ Ok next → is_loaded next section ≡ is_loaded here section → ((cpu : ℕ) → is_inside section (cpu_at here.cpus cpu) ≡ true → is_inside section (cpu_at next.cpus cpu) ≡ true) → Pinned next
      either what f e loaded inside = (
        loaded ∙ p.0,
        elim p.1 as (λ _. ((module_at next section).moved ≡ next.round) ⊎ ((cpu : ℕ) × (is_inside section (cpu_at next.cpus cpu) ≡ true))) [
          | inl moved ↦ inl ((passed what f e).stays.moved section moved)
          | inr at ↦ inr (at.0, inside at.0 at.1)
        ],
      )

      by : (what : TraceOp) → FitsOp what → walk_op on.cpu what here ≡ Ok next → CpuTold on.cpu what here next → Pinned next
      by (op.Page key order) f e t = either (op.Page key order) f e (same_modules here next t.modules_are) (λ cpu i. ap (λ cs. is_inside section (cpu_at cs cpu)) t.cpus_are ∙ i)
      by (op.Kmalloc key size) f e t = either (op.Kmalloc key size) f e (same_modules here next t.modules_are) (λ cpu i. ap (λ cs. is_inside section (cpu_at cs cpu)) t.cpus_are ∙ i)
      by (op.Free key) f e t = either (op.Free key) f e (same_modules here next t.modules_are) (λ cpu i. ap (λ cs. is_inside section (cpu_at cs cpu)) t.cpus_are ∙ i)
      by (op.Split key order new) f e t = either (op.Split key order new) f e (same_modules here next t.modules_are) (λ cpu i. ap (λ cs. is_inside section (cpu_at cs cpu)) t.cpus_are ∙ i)
      by (op.Swap one two) f e t = either (op.Swap one two) f e (same_modules here next t.modules_are) (λ cpu i. ap (λ cs. is_inside section (cpu_at cs cpu)) t.cpus_are ∙ i)
      by (op.Trim key pages) f e t = either (op.Trim key pages) f e (same_modules here next t.modules_are) (λ cpu i. ap (λ cs. is_inside section (cpu_at cs cpu)) t.cpus_are ∙ i)
      by (op.Hook s index) f e t = either (op.Hook s index) f e (same_modules here next t.modules_are) (still_inside here next on.cpu _ below t.cpus_are (λ i. i))
      by op.Unhook f e t = either op.Unhook f e (same_modules here next t.modules_are) (still_inside here next on.cpu _ below t.cpus_are (λ i. i))
      by (op.Enter s) f e t =
          either (op.Enter s) f e (set_modules here next s _ _ (omega (arith, fits.modules, f)) t.modules_are)
          (still_inside here next on.cpu _ below t.cpus_are (λ i. list_any-append (λ x. eqb x section) (cpu_at here.cpus on.cpu).inside (s ∷ []) ∙ or_left _ _ i))
      by (op.Leave s) f e t =
          let loaded = set_modules here next s _ _ (omega (arith, fits.modules, f)) t.modules_are in
          by_bool {P = Pinned next} (eqb section s)
          (λ h. (loaded ∙ p.0, inl (subst (λ n. (module_at next n).moved ≡ next.round) (sym (eqb-true section s h)) ((told_leaves on.cpu s here next fits f e).leaves ∙ sym (passed (op.Leave s) f e).round))))
          (λ h. either (op.Leave s) f e loaded (still_inside here next on.cpu _ below t.cpus_are (λ i. inside_kept section s (cpu_at here.cpus on.cpu).inside (eqb-false section s h) i)))
      by (op.Unload s) f e t =
          by_bool {P = Pinned next} (eqb section s)
          (λ h.
          let same = eqb-true section s h in
          elim p.1 as (λ _. Pinned next) [
            | inl moved ↦ absurd ((told_unloads on.cpu s here next fits f e).found (subst (λ n. (module_at here n).moved ≡ here.round) same moved))
            | inr at ↦ let out = nobody_is (is_inside s) here.cpus at.0 refl t.nobody in let no : ⊥ = cc (out, at.1, ap (λ n. is_inside n (cpu_at here.cpus at.0)) same) in absurd no
          ])
          (λ h.
          either (op.Unload s) f e
          (ap (λ ms. (get_or ms section absent).loaded) t.modules_are ∙ module_set here.modules s section _ (omega (arith, fits.modules, f)) ∙ ap (λ b. cond b false (is_loaded here section)) h)
          (λ cpu i. ap (λ cs. is_inside section (cpu_at cs cpu)) t.cpus_are ∙ i))

  cpus_long : (on : OnOp) (here next : Walk) → CpuTold on.cpu on.op here next → length next.cpus ≡ length here.cpus
  cpus_long on here next t = by on.op t
    where
      by : (what : TraceOp) → CpuTold on.cpu what here next → length next.cpus ≡ length here.cpus
      by (op.Page key order) t = ap length t.cpus_are
      by (op.Kmalloc key size) t = ap length t.cpus_are
      by (op.Free key) t = ap length t.cpus_are
      by (op.Split key order new) t = ap length t.cpus_are
      by (op.Swap one two) t = ap length t.cpus_are
      by (op.Trim key pages) t = ap length t.cpus_are
      by (op.Hook s index) t = ap length t.cpus_are ∙ length-set here.cpus on.cpu _
      by op.Unhook t = ap length t.cpus_are ∙ length-set here.cpus on.cpu _
      by (op.Enter s) t = ap length t.cpus_are ∙ length-set here.cpus on.cpu _
      by (op.Leave s) t = ap length t.cpus_are ∙ length-set here.cpus on.cpu _
      by (op.Unload s) t = ap length t.cpus_are

  lines_pinned : (ops : List OnOp) (here after : Walk) → Fits here → length here.cpus ≡ 64 → All FitsOn ops → walk_ops ops here ≡ Ok after → Pinned here → Pinned after
  lines_pinned [] here after fits long are e p = let same : here ≡ after = cc in subst Pinned same p
  lines_pinned (on ∷ ops) here after fits long are e p =
      let b = first_line on ops here after e in
      let line = All-head FitsOn on ops are in
      let told = cpu_told on.cpu on.op here b.0 b.1 in
      lines_pinned ops b.0 after (fits_on on.cpu on.op here b.0 fits (op_ok on.cpu on.op here b.0 fits line.1 b.1)) (cpus_long on here b.0 told ∙ long) (All-tail FitsOn on ops are) b.2
      (line_pinned on here b.0 fits (omega (arith, long, line.0)) line b.1 p)

  -- a line that enters it pins it
  entering_pins : (cpu : ℕ) (ops : List OnOp) (here after : Walk) → Fits here → length here.cpus ≡ 64 → All FitsOn ops → walk_ops ops here ≡ Ok after → list_any (λ (on : OnOp). eqb on.cpu cpu && enters section on.op) ops ≡ true → Pinned after
  entering_pins cpu [] here after fits long are e h = let no : ⊥ = cc in absurd no
  entering_pins cpu (on ∷ ops) here after fits long are e h =
      let b = first_line on ops here after e in
      let line = All-head FitsOn on ops are in
      let rest = All-tail FitsOn on ops are in
      let told = cpu_told on.cpu on.op here b.0 b.1 in
      let fits_next = fits_on on.cpu on.op here b.0 fits (op_ok on.cpu on.op here b.0 fits line.1 b.1) in
      let long_next = cpus_long on here b.0 told ∙ long in
      by_bool {P = Pinned after} (eqb on.cpu cpu && enters section on.op)
      (λ t. lines_pinned ops b.0 after fits_next long_next rest b.2 (pins on.op line.1 b.1 told (second (eqb on.cpu cpu) (enters section on.op) t)))
      (λ t. entering_pins cpu ops b.0 after fits_next long_next rest b.2 (either_or (eqb on.cpu cpu && enters section on.op) _ h t))
    where
      second : (p q : Bool) → (p && q) ≡ true → q ≡ true
      second true q e = e
      second false q e = let no : ⊥ = cc in absurd no

      pins : {next : Walk} (what : TraceOp) → FitsOp what → walk_op on.cpu what here ≡ Ok next → CpuTold on.cpu what here next → enters section what ≡ true → Pinned next
      pins {next} (op.Enter s) f e t h =
          let same : s ≡ section = eqb-true s section h in (
            set_modules here next s _ _ (omega (arith, fits.modules, f)) t.modules_are ∙ subst (λ n. is_loaded here n ≡ true) same t.loaded,
            inl (subst (λ n. (module_at next n).moved ≡ next.round) same ((told_enters on.cpu s here next fits f e).leaves ∙ sym (op_ok on.cpu (op.Enter s) here next fits f e).round)),
          )
      pins (op.Page key order) f e t h = let no : ⊥ = cc in absurd no
      pins (op.Kmalloc key size) f e t h = let no : ⊥ = cc in absurd no
      pins (op.Free key) f e t h = let no : ⊥ = cc in absurd no
      pins (op.Split key order new) f e t h = let no : ⊥ = cc in absurd no
      pins (op.Swap one two) f e t h = let no : ⊥ = cc in absurd no
      pins (op.Trim key pages) f e t h = let no : ⊥ = cc in absurd no
      pins (op.Hook s index) f e t h = let no : ⊥ = cc in absurd no
      pins op.Unhook f e t h = let no : ⊥ = cc in absurd no
      pins (op.Leave s) f e t h = let no : ⊥ = cc in absurd no
      pins (op.Unload s) f e t h = let no : ⊥ = cc in absurd no

  pub stays_loaded : (cpu : ℕ) (ops : List OnOp) (before after : Walk) → Fits before → length before.cpus ≡ 64 → All FitsOn ops → walk_ops ops before ≡ Ok after → ((c : ℕ) → is_inside section (cpu_at before.cpus c) ≡ true → is_loaded before section ≡ true) → runs_inside before ops cpu section ≡ true → is_loaded after section ≡ true
  stays_loaded cpu ops before after fits long are e inside_loaded runs =
      (by_bool {P = Pinned after} (is_inside section (cpu_at before.cpus cpu))
      (λ i. lines_pinned ops before after fits long are e (inside_loaded cpu i, inr (cpu, i)))
      (λ i. entering_pins cpu ops before after fits long are e (either_or (is_inside section (cpu_at before.cpus cpu)) _ runs i))).0
