-- The modules and the hooks of a checked trace, between items.
use Rattle.std.proofs.Common.{◌≡◌, ◌≢◌, ℕ, zero, suc, ◌+◌, ◌<◌, Bool, true, false, cond, not, eqb, List, [], ◌∷◌, length, map, set, get_or, Option, Some, None, Ok, All, is_some, count_by, inl, inr, ◌⊎◌, refl, sym, ap, ◌∙◌, subst, arith, eqb-true, ne_eqb}
use Rattle.std.specs.Prelude.{◌&&◌, if◌then◌else◌}
use Rattle.std.specs.List.{find, filter, list_any}
use Rattle.std.proofs.lemmas.Bool.{eqb-false}
use Rattle.std.proofs.lemmas.Grind.{get_or-set_at}
use Rattle.std.proofs.lemmas.List.{length-set, get_or-set_other}
use Rattle.std.proofs.lemmas.List.Sums.{sum_by-cons}
use Rattle.std.proofs.lemmas.List.Elements.{All-head, All-tail}
use Rattle.module_area.specs.declared.entry.Entry.{Entry}
use Rattle.module_area.specs.declared.entry.State.{State}
use Rattle.module_area.specs.declared.entry.State.TheVariants.{Loaded, Dead}
use Rattle.module_area.specs.Entries.{is_loaded_at, is_loaded_as, is_dead, kept}
use Rattle.trace.specs.declared.traces.OnOp.{OnOp}
use Rattle.trace.specs.declared.traces.TraceOp.{TraceOp}
use Rattle.trace.specs.declared.traces.TraceOp.TheVariants as op
use Rattle.round_check.specs.declared.modules.ModuleState.{ModuleState}
use Rattle.round_check.specs.declared.walk.Walk.{Walk}
use Rattle.round_check.specs.CpuState.{CpuState}
use Rattle.round_check.specs.Cpus.{idle, cpu_at, is_inside}
use Rattle.round_check.specs.Formed.{FitsOp, FitsOn}
use Rattle.round_check.specs.Tables.{absent}
use Rattle.round_check.specs.Walk.{module_at, walk_ops}
use Rattle.round_check.proofs.Named.{by_bool}
use Rattle.round_check.proofs.Passed.{Fits, op_ok, fits_on}
use Rattle.round_check.proofs.Pairs.{first_line}
use Rattle.trace_play.specs.Machine.{Machine}
use Rattle.trace_play.specs.Barrier.{module_done, modules_done}
use Rattle.trace_play.specs.Ready.{enters}
use Rattle.trace_play.proofs.CpusTold.{CpuTold, cpu_told}
use Rattle.trace_play.proofs.HooksFit.{cpu_set, inside_more, inside_less, either_or}

-- ---- entries

abbrev pub loaded_one : ℕ → List Entry → Option Entry
loaded_one section entries = find (is_loaded_as section) entries

other_section : (state : State) (at s x : ℕ) → x ≢ s → is_loaded_at state at s ≡ true → is_loaded_at state at x ≡ false
other_section Loaded at s x differ e = ne_eqb at x (λ h. differ (sym h ∙ eqb-true at s e))
other_section Dead at s x differ e = let no : ⊥ = cc in absurd no

abbrev unloads : ℕ → List Entry → List Entry
unloads s entries = map (λ (entry : Entry). if is_loaded_as s entry then kept entry else entry) entries

unloaded_other : (s x : ℕ) → x ≢ s → (entries : List Entry) → loaded_one x (unloads s entries) ≡ loaded_one x entries
unloaded_other s x differ [] = refl
unloaded_other s x differ (e ∷ es) = by (is_loaded_as s e) refl (unloaded_other s x differ es)
  where
    by : (b : Bool) → is_loaded_as s e ≡ b → loaded_one x (unloads s es) ≡ loaded_one x es
        → cond (is_loaded_as x (cond b (kept e) e)) (Some (cond b (kept e) e)) (loaded_one x (unloads s es)) ≡ cond (is_loaded_as x e) (Some e) (loaded_one x es)
    by true t later = later ∙ sym (ap (λ c. cond c (Some e) (loaded_one x es)) (other_section e.state e.section s x differ t))
    by false t later = ap (cond (is_loaded_as x e) (Some e)) later

unloaded_one : (s : ℕ) (entries : List Entry) → loaded_one s (unloads s entries) ≡ None
unloaded_one s [] = refl
unloaded_one s (e ∷ es) = by (is_loaded_as s e) refl (unloaded_one s es)
  where
    by : (b : Bool) → is_loaded_as s e ≡ b → loaded_one s (unloads s es) ≡ None → cond (is_loaded_as s (cond b (kept e) e)) (Some (cond b (kept e) e)) (loaded_one s (unloads s es)) ≡ None
    by true t later = later
    by false t later = ap (λ c. cond c (Some e) (loaded_one s (unloads s es))) t ∙ later

-- dead entries that go leave the loaded ones
pub dead_go : (x : ℕ) (goes : Entry → Bool) (entries : List Entry) → loaded_one x (filter (λ (e : Entry). not (is_dead e.state && goes e)) entries) ≡ loaded_one x entries
dead_go x goes [] = refl
dead_go x goes (e ∷ es) = by e.state refl (goes e) (dead_go x goes es)
  where
    by : (state : State) → e.state ≡ state → (g : Bool) → loaded_one x (filter (λ (e : Entry). not (is_dead e.state && goes e)) es) ≡ loaded_one x es
        → loaded_one x (cond (not (is_dead state && g)) (e ∷ filter (λ (e : Entry). not (is_dead e.state && goes e)) es) (filter (λ (e : Entry). not (is_dead e.state && goes e)) es)) ≡ cond (is_loaded_as x e) (Some e) (loaded_one x es)
    by Loaded s g later = ap (cond (is_loaded_as x e) (Some e)) later
    by Dead s false later = ap (cond (is_loaded_as x e) (Some e)) later
    by Dead s true later = later ∙ sym (ap (λ st. cond (is_loaded_at st e.section x) (Some e) (loaded_one x es)) s)

-- ---- modules of a walk

abbrev pub is_loaded : Walk → ℕ → Bool
is_loaded walk section = (module_at walk section).loaded

pub module_set : (modules : List ModuleState) (s x : ℕ) (state : ModuleState) → s < length modules → (get_or (set modules s state) x absent).loaded ≡ cond (eqb x s) state.loaded (get_or modules x absent).loaded
module_set modules s x state below =
    by_bool {P = (get_or (set modules s state) x absent).loaded ≡ cond (eqb x s) state.loaded (get_or modules x absent).loaded} (eqb x s)
    (λ e. ap (λ (m : ModuleState). m.loaded) (get_or-set_at modules s x state absent (eqb-true x s e) below) ∙ sym (ap (λ b. cond b state.loaded (get_or modules x absent).loaded) e))
    (λ e. ap (λ (m : ModuleState). m.loaded) (get_or-set_other modules s x state absent (eqb-false x s e)) ∙ sym (ap (λ b. cond b state.loaded (get_or modules x absent).loaded) e))

pub nobody_is : (p : CpuState → Bool) (cpus : List CpuState) (cpu : ℕ) → p idle ≡ false → count_by p cpus ≡ 0 → p (cpu_at cpus cpu) ≡ false
nobody_is p [] cpu at_rest none = at_rest
nobody_is p (c ∷ cpus) cpu at_rest none = by (p c) refl cpu (let s = sum_by-cons (λ (x : CpuState). cond {A = ℕ} (p x) 1 0) c cpus in s)
  where
    by : (b : Bool) → p c ≡ b → (cpu : ℕ) → count_by p (c ∷ cpus) ≡ cond {A = ℕ} (p c) 1 0 + count_by p cpus → p (cpu_at (c ∷ cpus) cpu) ≡ false
    by true e cpu s = let one : cond {A = ℕ} (p c) 1 0 ≡ 1 = ap (λ b. cond {A = ℕ} b 1 0) e in absurd (omega arith)
    by false e zero s = e
    by false e (suc cpu) s = let none_here : cond {A = ℕ} (p c) 1 0 ≡ 0 = ap (λ b. cond {A = ℕ} b 1 0) e in rest cpus cpu (omega arith)
      where
        rest : (xs : List CpuState) (i : ℕ) → count_by p xs ≡ 0 → p (cpu_at xs i) ≡ false
        rest [] i h = at_rest
        rest (x ∷ xs) zero h = first (p x) refl (sum_by-cons (λ (y : CpuState). cond {A = ℕ} (p y) 1 0) x xs)
          where
            first : (b : Bool) → p x ≡ b → count_by p (x ∷ xs) ≡ cond {A = ℕ} (p x) 1 0 + count_by p xs → p x ≡ false
            first true f s' = let one : cond {A = ℕ} (p x) 1 0 ≡ 1 = ap (λ b. cond {A = ℕ} b 1 0) f in absurd (omega arith)
            first false f s' = f
        rest (x ∷ xs) (suc i) h = let s' = sum_by-cons (λ (y : CpuState). cond {A = ℕ} (p y) 1 0) x xs in rest xs i (omega arith)

-- ---- along a round's lines

-- since a round began: what is inside is loaded; nothing was loaded; entries are loaded as the walk says, and as they were
pub record Along (before here : Walk) (first entries : List Entry) : Type 0 where
  pub long : length here.cpus ≡ 64
  pub inside_loaded : (cpu section : ℕ) → is_inside section (cpu_at here.cpus cpu) ≡ true → is_loaded here section ≡ true
  pub was : (section : ℕ) → is_loaded here section ≡ true → is_loaded before section ≡ true
  pub agree : (section : ℕ) → is_loaded here section ≡ is_some (loaded_one section entries)
  pub same : (section : ℕ) → is_loaded here section ≡ true → loaded_one section entries ≡ loaded_one section first

module _ (before : Walk) (first : List Entry) where
  still : (here next : Walk) (entries : List Entry) → length next.cpus ≡ length here.cpus → ((cpu section : ℕ) → is_inside section (cpu_at next.cpus cpu) ≡ true → (is_inside section (cpu_at here.cpus cpu) ≡ true) ⊎ (is_loaded here section ≡ true))
      → ((section : ℕ) → is_loaded next section ≡ is_loaded here section) → Along before here first entries → Along before next first entries
  still here next entries long inside same a = record {
    long = long ∙ a.long;
    inside_loaded = λ cpu section e. same section ∙ elim (inside cpu section e) [ inl h ↦ a.inside_loaded cpu section h | inr h ↦ h ];
    was = λ section e. a.was section (sym (same section) ∙ e);
    agree = λ section. same section ∙ a.agree section;
    same = λ section e. a.same section (sym (same section) ∙ e);
  }

  same_loaded : (here next : Walk) → next.modules ≡ here.modules → (section : ℕ) → is_loaded next section ≡ is_loaded here section
  same_loaded here next e section = ap (λ ms. (get_or ms section absent).loaded) e

  kept_loaded : (here next : Walk) (s moved unloaded : ℕ) → s < length here.modules → next.modules ≡ set here.modules s (record { loaded = is_loaded here s; moved = moved; unloaded = unloaded }) → (section : ℕ) → is_loaded next section ≡ is_loaded here section
  kept_loaded here next s moved unloaded below e section =
      ap (λ ms. (get_or ms section absent).loaded) e ∙ module_set here.modules s section _ below
      ∙ by_bool {P = cond (eqb section s) (is_loaded here s) (is_loaded here section) ≡ is_loaded here section} (eqb section s)
      (λ t. ap (λ b. cond b (is_loaded here s) (is_loaded here section)) t ∙ ap (is_loaded here) (sym (eqb-true section s t)))
      (λ t. ap (λ b. cond b (is_loaded here s) (is_loaded here section)) t)

  -- a CPU's state changes
  changed : (here next : Walk) (at : ℕ) (state : CpuState) → at < length here.cpus → next.cpus ≡ set here.cpus at state → ((section : ℕ) → is_inside section state ≡ true → (is_inside section (cpu_at here.cpus at) ≡ true) ⊎ (is_loaded here section ≡ true))
      → (cpu section : ℕ) → is_inside section (cpu_at next.cpus cpu) ≡ true → (is_inside section (cpu_at here.cpus cpu) ≡ true) ⊎ (is_loaded here section ≡ true)
  changed here next at state below are own cpu section e =
      let there : cpu_at next.cpus cpu ≡ cond (eqb cpu at) state (cpu_at here.cpus cpu) = ap (λ cpus. cpu_at cpus cpu) are ∙ cpu_set here.cpus at cpu state below in
      by_bool {P = (is_inside section (cpu_at here.cpus cpu) ≡ true) ⊎ (is_loaded here section ≡ true)} (eqb cpu at)
      (λ t. subst (λ c. (is_inside section (cpu_at here.cpus c) ≡ true) ⊎ (is_loaded here section ≡ true)) (sym (eqb-true cpu at t)) (own section (sym (ap (is_inside section) (there ∙ ap (λ b. cond b state (cpu_at here.cpus cpu)) t)) ∙ e)))
      (λ t. inl (sym (ap (is_inside section) (there ∙ ap (λ b. cond b state (cpu_at here.cpus cpu)) t)) ∙ e))

  line_along : (m : Machine) (on : OnOp) (here next : Walk) → Fits here → FitsOn on → CpuTold on.cpu on.op here next → Along before here first m.area.entries → Along before next first (module_done m on.op).area.entries
  line_along m on here next fits is told a = by on.op is.1 told
    where
      below : on.cpu < length here.cpus
      below = let l = a.long in let f = is.0 in omega arith

      by : (what : TraceOp) → FitsOp what → CpuTold on.cpu what here next → Along before next first (module_done m what).area.entries
      by (op.Page key order) f t = still here next m.area.entries (ap length t.cpus_are) (λ cpu s e. inl (ap (λ cs. is_inside s (cpu_at cs cpu)) (sym t.cpus_are) ∙ e)) (same_loaded here next t.modules_are) a
      by (op.Kmalloc key size) f t = still here next m.area.entries (ap length t.cpus_are) (λ cpu s e. inl (ap (λ cs. is_inside s (cpu_at cs cpu)) (sym t.cpus_are) ∙ e)) (same_loaded here next t.modules_are) a
      by (op.Free key) f t = still here next m.area.entries (ap length t.cpus_are) (λ cpu s e. inl (ap (λ cs. is_inside s (cpu_at cs cpu)) (sym t.cpus_are) ∙ e)) (same_loaded here next t.modules_are) a
      by (op.Split key order new) f t = still here next m.area.entries (ap length t.cpus_are) (λ cpu s e. inl (ap (λ cs. is_inside s (cpu_at cs cpu)) (sym t.cpus_are) ∙ e)) (same_loaded here next t.modules_are) a
      by (op.Swap one two) f t = still here next m.area.entries (ap length t.cpus_are) (λ cpu s e. inl (ap (λ cs. is_inside s (cpu_at cs cpu)) (sym t.cpus_are) ∙ e)) (same_loaded here next t.modules_are) a
      by (op.Trim key pages) f t = still here next m.area.entries (ap length t.cpus_are) (λ cpu s e. inl (ap (λ cs. is_inside s (cpu_at cs cpu)) (sym t.cpus_are) ∙ e)) (same_loaded here next t.modules_are) a
      by (op.Hook section index) f t = still here next m.area.entries (ap length t.cpus_are ∙ length-set here.cpus on.cpu _) (changed here next on.cpu _ below t.cpus_are (λ s e. inl e)) (same_loaded here next t.modules_are) a
      by op.Unhook f t = still here next m.area.entries (ap length t.cpus_are ∙ length-set here.cpus on.cpu _) (changed here next on.cpu _ below t.cpus_are (λ s e. inl e)) (same_loaded here next t.modules_are) a
      by (op.Enter section) f t =
          still here next m.area.entries (ap length t.cpus_are ∙ length-set here.cpus on.cpu _)
          (changed here next on.cpu _ below t.cpus_are
          (λ s e. by_bool {P = (is_inside s (cpu_at here.cpus on.cpu) ≡ true) ⊎ (is_loaded here s ≡ true)} (is_inside s (cpu_at here.cpus on.cpu)) (λ h. inl h)
          (λ h. inr (subst (λ n. is_loaded here n ≡ true) (inside_more s section (cpu_at here.cpus on.cpu).inside e h) t.loaded))))
          (kept_loaded here next section _ _ (omega (arith, fits.modules, f)) t.modules_are) a
      by (op.Leave section) f t =
          still here next m.area.entries (ap length t.cpus_are ∙ length-set here.cpus on.cpu _)
          (changed here next on.cpu _ below t.cpus_are (λ s e. inl (inside_less s section (cpu_at here.cpus on.cpu).inside e)))
          (kept_loaded here next section _ _ (omega (arith, fits.modules, f)) t.modules_are) a
      by (op.Unload section) f t =
          let there : (s : ℕ) → is_loaded next s ≡ cond (eqb s section) false (is_loaded here s) = λ s. ap (λ ms. (get_or ms s absent).loaded) t.modules_are ∙ module_set here.modules section s _ (omega (arith, fits.modules, f)) in
          let inside_same = λ (cpu s : ℕ) (e : is_inside s (cpu_at next.cpus cpu) ≡ true). ap (λ cs. is_inside s (cpu_at cs cpu)) (sym t.cpus_are) ∙ e in
          let others : (s : ℕ) → is_loaded next s ≡ true → (s ≢ section) × (is_loaded here s ≡ true) =
          λ s e. by_bool {P = (s ≢ section) × (is_loaded here s ≡ true)} (eqb s section)
          (λ h. let no : ⊥ = cc (there s, e, ap (λ b. cond b false (is_loaded here s)) h) in absurd no)
          (λ h. (eqb-false s section h, sym (there s ∙ ap (λ b. cond b false (is_loaded here s)) h) ∙ e)) in
          record {
            long = ap length t.cpus_are ∙ a.long;
            inside_loaded = λ cpu s e.
                by_bool {P = is_loaded next s ≡ true} (eqb s section)
                (λ h. let out = nobody_is (is_inside section) here.cpus cpu refl t.nobody in let no : ⊥ = cc (out, inside_same cpu s e, ap (λ n. is_inside n (cpu_at here.cpus cpu)) (eqb-true s section h)) in absurd no)
                (λ h. there s ∙ ap (λ b. cond b false (is_loaded here s)) h ∙ a.inside_loaded cpu s (inside_same cpu s e));
            was = λ s e. a.was s (others s e).1;
            agree = λ s.
                by_bool {P = is_loaded next s ≡ is_some (loaded_one s (unloads section m.area.entries))} (eqb s section)
                (λ h. there s ∙ ap (λ b. cond b false (is_loaded here s)) h ∙ sym (ap is_some (ap (λ n. loaded_one n (unloads section m.area.entries)) (eqb-true s section h) ∙ unloaded_one section m.area.entries)))
                (λ h. there s ∙ ap (λ b. cond b false (is_loaded here s)) h ∙ a.agree s ∙ sym (ap is_some (unloaded_other section s (eqb-false s section h) m.area.entries)));
            same = λ s e. let o = others s e in unloaded_other section s o.0 m.area.entries ∙ a.same s o.1;
          }

  pub lines_along : (ops : List OnOp) (m : Machine) (here after : Walk) → All FitsOn ops → Fits here → walk_ops ops here ≡ Ok after → Along before here first m.area.entries → Along before after first (modules_done ops m).area.entries
  lines_along [] m here after are fits e a = let same : here ≡ after = cc in subst (λ (x : Walk). Along before x first m.area.entries) same a
  lines_along (on ∷ ops) m here after are fits e a =
      let b = first_line on ops here after e in
      let line = All-head FitsOn on ops are in
      lines_along ops (module_done m on.op) b.0 after (All-tail FitsOn on ops are) (fits_on on.cpu on.op here b.0 fits (op_ok on.cpu on.op here b.0 fits line.1 b.1)) b.2
      (line_along m on here b.0 fits line (cpu_told on.cpu on.op here b.0 b.1) a)

  -- a module that a line enters was loaded as the round began
  entered_loaded : (cpu section : ℕ) (what : TraceOp) (here next : Walk) → CpuTold cpu what here next → enters section what ≡ true → is_loaded here section ≡ true
  entered_loaded cpu section (op.Enter other) here next t e = subst (λ n. is_loaded here n ≡ true) (eqb-true other section e) t.loaded
  entered_loaded cpu section (op.Page key order) here next t e = let no : ⊥ = cc in absurd no
  entered_loaded cpu section (op.Kmalloc key size) here next t e = let no : ⊥ = cc in absurd no
  entered_loaded cpu section (op.Free key) here next t e = let no : ⊥ = cc in absurd no
  entered_loaded cpu section (op.Split key order new) here next t e = let no : ⊥ = cc in absurd no
  entered_loaded cpu section (op.Swap one two) here next t e = let no : ⊥ = cc in absurd no
  entered_loaded cpu section (op.Trim key pages) here next t e = let no : ⊥ = cc in absurd no
  entered_loaded cpu section (op.Hook other index) here next t e = let no : ⊥ = cc in absurd no
  entered_loaded cpu section op.Unhook here next t e = let no : ⊥ = cc in absurd no
  entered_loaded cpu section (op.Leave other) here next t e = let no : ⊥ = cc in absurd no
  entered_loaded cpu section (op.Unload other) here next t e = let no : ⊥ = cc in absurd no

  pub entering_loaded : (cpu section : ℕ) (ops : List OnOp) (m : Machine) (here after : Walk) → All FitsOn ops → Fits here → walk_ops ops here ≡ Ok after → Along before here first m.area.entries
      → list_any (λ (on : OnOp). eqb on.cpu cpu && enters section on.op) ops ≡ true → is_loaded before section ≡ true
  entering_loaded cpu section [] m here after are fits e a h = let no : ⊥ = cc in absurd no
  entering_loaded cpu section (on ∷ ops) m here after are fits e a h =
      let b = first_line on ops here after e in
      let line = All-head FitsOn on ops are in
      let told = cpu_told on.cpu on.op here b.0 b.1 in
      by_bool {P = is_loaded before section ≡ true} (eqb on.cpu cpu && enters section on.op)
      (λ t. a.was section (entered_loaded on.cpu section on.op here b.0 told (second (eqb on.cpu cpu) (enters section on.op) t)))
      (λ t. entering_loaded cpu section ops (module_done m on.op) b.0 after (All-tail FitsOn on ops are) (fits_on on.cpu on.op here b.0 fits (op_ok on.cpu on.op here b.0 fits line.1 b.1)) b.2 (line_along m on here b.0 fits line told a)
      (either_or (eqb on.cpu cpu && enters section on.op) _ h t))
    where
      second : (p q : Bool) → (p && q) ≡ true → q ≡ true
      second true q e = e
      second false q e = let no : ⊥ = cc in absurd no
