-- What a line that passed found of its CPU and of modules, and what it leaves of them.
use Rattle.std.proofs.Common.{◌≡◌, ℕ, ◌-◌, ◌<◌, true, false, not, ◌||◌, eqb, ltb, List, [], ◌∷◌, ◌++◌, length, set, take, Result, Ok, Err, IfOk, count_by, refl, ltb-true, eqb-true}
use Rattle.std.specs.Bool.{⊤}
use Rattle.std.specs.List.{list_any, filter}
use Rattle.std.proofs.lemmas.Result.{IfOk-at_ok}
use Rattle.input_form.specs.declared.code.Code.{Code}
use Rattle.input_form.specs.declared.code.Code.TheVariants as code
use Rattle.input_form.proofs.Judged.{bound, checked}
use Rattle.trace.specs.declared.traces.TraceOp.{TraceOp}
use Rattle.trace.specs.declared.traces.TraceOp.TheVariants as op
use Rattle.round_check.specs.declared.keys.KeyState.{KeyState}
use Rattle.round_check.specs.declared.walk.Walk.{Walk}
use Rattle.round_check.specs.Cpus.{cpu_at, is_inside}
use Rattle.round_check.specs.Walk.{with_keys, module_at, is_moved, is_unloaded, enter_module, leave_module, unload_module, hook_tag, unhook_tag, walk_op}
use Rattle.trace_play.proofs.Told.{not_true}

pub record HookTold (cpu section : ℕ) (here next : Walk) : Type 0 where
  pub may : (eqb section 0 || is_inside section (cpu_at here.cpus cpu)) ≡ true
  pub few : length (cpu_at here.cpus cpu).hooks < 16
  pub cpus_are : next.cpus ≡ set here.cpus cpu (record { hooks = (cpu_at here.cpus cpu).hooks ++ section ∷ []; inside = (cpu_at here.cpus cpu).inside })
  pub modules_are : next.modules ≡ here.modules

pub record UnhookTold (cpu : ℕ) (here next : Walk) : Type 0 where
  pub some : 0 < length (cpu_at here.cpus cpu).hooks
  pub cpus_are : next.cpus ≡ set here.cpus cpu (record { hooks = take (length (cpu_at here.cpus cpu).hooks - 1) (cpu_at here.cpus cpu).hooks; inside = (cpu_at here.cpus cpu).inside })
  pub modules_are : next.modules ≡ here.modules

pub record EnterTold (cpu section : ℕ) (here next : Walk) : Type 0 where
  pub loaded : (module_at here section).loaded ≡ true
  pub cpus_are : next.cpus ≡ set here.cpus cpu (record { hooks = (cpu_at here.cpus cpu).hooks; inside = (cpu_at here.cpus cpu).inside ++ section ∷ [] })
  pub modules_are : next.modules ≡ set here.modules section (record { loaded = (module_at here section).loaded; moved = here.round; unloaded = (module_at here section).unloaded })

pub record LeaveTold (cpu section : ℕ) (here next : Walk) : Type 0 where
  pub none : list_any (λ other. eqb other section) (cpu_at here.cpus cpu).hooks ≡ false
  pub cpus_are : next.cpus ≡ set here.cpus cpu (record { hooks = (cpu_at here.cpus cpu).hooks; inside = filter (λ other. not (eqb other section)) (cpu_at here.cpus cpu).inside })
  pub modules_are : next.modules ≡ set here.modules section (record { loaded = (module_at here section).loaded; moved = here.round; unloaded = (module_at here section).unloaded })

pub record UnloadTold (section : ℕ) (here next : Walk) : Type 0 where
  pub loaded : (module_at here section).loaded ≡ true
  pub nobody : count_by (is_inside section) here.cpus ≡ 0
  pub cpus_are : next.cpus ≡ here.cpus
  pub modules_are : next.modules ≡ set here.modules section (record { loaded = false; moved = (module_at here section).moved; unloaded = here.round })

pub record Untold (here next : Walk) : Type 0 where
  pub cpus_are : next.cpus ≡ here.cpus
  pub modules_are : next.modules ≡ here.modules

abbrev pub CpuTold : ℕ → TraceOp → Walk → Walk → Type 0
CpuTold cpu (op.Page key order) here next = Untold here next
CpuTold cpu (op.Kmalloc key size) here next = Untold here next
CpuTold cpu (op.Free key) here next = Untold here next
CpuTold cpu (op.Split key order first) here next = Untold here next
CpuTold cpu (op.Swap one two) here next = Untold here next
CpuTold cpu (op.Trim key pages) here next = Untold here next
CpuTold cpu (op.Hook section index) here next = HookTold cpu section here next
CpuTold cpu op.Unhook here next = UnhookTold cpu here next
CpuTold cpu (op.Enter section) here next = EnterTold cpu section here next
CpuTold cpu (op.Leave section) here next = LeaveTold cpu section here next
CpuTold cpu (op.Unload section) here next = UnloadTold section here next

keys_untold : (here : Walk) (judged : Result (List KeyState) Code) → IfOk (with_keys here judged) (Untold here)
keys_untold here judged = bound (λ _. ⊤) (Untold here) judged (λ made. Ok (record here { keys = made })) (anything judged) (λ made h. record { cpus_are = refl; modules_are = refl })
  where
    anything : (judged : Result (List KeyState) Code) → IfOk judged (λ _. ⊤)
    anything (Ok made) = tt
    anything (Err code) = tt

enter_in : (cpu section : ℕ) (here : Walk) → IfOk (enter_module here cpu section) (EnterTold cpu section here)
unfolding enter_module
enter_in cpu section here =
    let after = EnterTold cpu section here in
    checked after (not (is_unloaded here section)) (code.UnloadShared section) _
    (λ _. checked after (module_at here section).loaded (code.NotLoaded section) _
    (λ loaded. checked after (not (is_inside section (cpu_at here.cpus cpu))) (code.Inside section) _
    (λ _. record { loaded = loaded; cpus_are = refl; modules_are = refl })))

leave_in : (cpu section : ℕ) (here : Walk) → IfOk (leave_module here cpu section) (LeaveTold cpu section here)
unfolding leave_module
leave_in cpu section here =
    let after = LeaveTold cpu section here in
    checked after (not (is_unloaded here section)) (code.UnloadShared section) _
    (λ _. checked after (is_inside section (cpu_at here.cpus cpu)) (code.NotInside section) _
    (λ _. checked after (not (list_any (λ other. eqb other section) (cpu_at here.cpus cpu).hooks)) (code.Hooked section) _
    (λ none. record { none = not_true _ none; cpus_are = refl; modules_are = refl })))

unload_in : (section : ℕ) (here : Walk) → IfOk (unload_module here section) (UnloadTold section here)
unfolding unload_module
unload_in section here =
    let after = UnloadTold section here in
    checked after (not (is_moved here section || is_unloaded here section)) (code.UnloadShared section) _
    (λ _. checked after (module_at here section).loaded (code.NotLoaded section) _
    (λ loaded. checked after (eqb (count_by (is_inside section) here.cpus) 0) (code.Busy (count_by (is_inside section) here.cpus)) _
    (λ nobody. record { loaded = loaded; nobody = eqb-true _ _ nobody; cpus_are = refl; modules_are = refl })))

hook_in : (cpu section : ℕ) (here : Walk) → IfOk (hook_tag here cpu section) (HookTold cpu section here)
unfolding hook_tag
hook_in cpu section here =
    let after = HookTold cpu section here in
    checked after (eqb section 0 || is_inside section (cpu_at here.cpus cpu)) (code.NotInside section) _
    (λ may. checked after (ltb (length (cpu_at here.cpus cpu).hooks) 16) code.Deep _
    (λ few. record { may = may; few = ltb-true _ _ few; cpus_are = refl; modules_are = refl }))

unhook_in : (cpu : ℕ) (here : Walk) → IfOk (unhook_tag here cpu) (UnhookTold cpu here)
unfolding unhook_tag
unhook_in cpu here =
    checked (UnhookTold cpu here) (ltb 0 (length (cpu_at here.cpus cpu).hooks)) code.NoHook _
    (λ some. record { some = ltb-true _ _ some; cpus_are = refl; modules_are = refl })

told_in : (cpu : ℕ) (what : TraceOp) (here : Walk) → IfOk (walk_op cpu what here) (CpuTold cpu what here)
unfolding walk_op
told_in cpu (op.Page key order) here = keys_untold here _
told_in cpu (op.Kmalloc key size) here = keys_untold here _
told_in cpu (op.Free key) here = keys_untold here _
told_in cpu (op.Split key order first) here = keys_untold here _
told_in cpu (op.Swap one two) here = keys_untold here _
told_in cpu (op.Trim key pages) here = keys_untold here _
told_in cpu (op.Hook section index) here = hook_in cpu section here
told_in cpu op.Unhook here = unhook_in cpu here
told_in cpu (op.Enter section) here = enter_in cpu section here
told_in cpu (op.Leave section) here = leave_in cpu section here
told_in cpu (op.Unload section) here = unload_in section here

pub cpu_told : (cpu : ℕ) (what : TraceOp) (here next : Walk) → walk_op cpu what here ≡ Ok next → CpuTold cpu what here next
cpu_told cpu what here next e = IfOk-at_ok (CpuTold cpu what here) e (told_in cpu what here)
