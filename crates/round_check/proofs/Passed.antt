-- What the lines of a round that passed leave.
use Rattle.std.proofs.Common.{◌≡◌, ◌≢◌, ℕ, ◌<◌, Bool, true, false, not, ◌||◌, eqb, ltb, List, [], ◌∷◌, length, get_or, set, Some, Result, Ok, Err, IfOk, IsSome, count_by, is_some, refl, sym, ap, ◌∙◌, subst, arith}
use Rattle.std.specs.List.{list_any}
use Rattle.std.proofs.lemmas.Result.{IfOk-at_ok}
use Rattle.std.proofs.lemmas.Bool.{eqb-true, eqb-false, eq-eqb}
use Rattle.std.proofs.lemmas.Grind.{get_or-set_at}
use Rattle.std.proofs.lemmas.List.{length-set, get_or-set_other}
use Rattle.input_form.specs.declared.code.Code.{Code}
use Rattle.input_form.specs.declared.code.Code.TheVariants as code
use Rattle.trace.specs.declared.traces.TraceOp.{TraceOp}
use Rattle.trace.specs.declared.traces.TraceOp.TheVariants as op
use Rattle.input_form.proofs.Judged.{bound, checked}
use Rattle.round_check.specs.declared.keys.Bound.{Bound}
use Rattle.round_check.specs.declared.keys.KeyState.{KeyState}
use Rattle.round_check.specs.declared.modules.ModuleState.{ModuleState}
use Rattle.round_check.specs.declared.walk.Walk.{Walk}
use Rattle.round_check.specs.Cpus.{cpu_at, is_inside}
use Rattle.round_check.specs.Formed.{FitsOp}
use Rattle.round_check.specs.Keys.{key_at, give_key}
use Rattle.round_check.specs.Rounds.{keys_of}
use Rattle.round_check.specs.Tables.{absent}
use Rattle.round_check.specs.Walk.{turn_of, with_keys, module_at, is_moved, is_unloaded, enter_module, leave_module, unload_module, hook_tag, unhook_tag, walk_op}
use Rattle.round_check.proofs.Named.{by_bool, Named, named_none, take_key_in, give_key_in, split_key_in, swap_keys_in, trim_key_in}

-- tables of their lengths
pub record Fits (walk : Walk) : Type 0 where
  pub keys : length walk.keys ≡ 65536
  pub modules : length walk.modules ≡ 65

-- what the round says of modules stays
pub record Stays (walk new : Walk) : Type 0 where
  pub moved : (m : ℕ) → (module_at walk m).moved ≡ walk.round → (module_at new m).moved ≡ new.round
  pub unloaded : (m : ℕ) → (module_at walk m).unloaded ≡ walk.round → (module_at new m).unloaded ≡ new.round

-- a line that passed
pub record Passed (cpu : ℕ) (what : TraceOp) (walk new : Walk) : Type 0 where
  pub round : new.round ≡ walk.round
  pub modules_long : length new.modules ≡ length walk.modules
  pub keys : Named (turn_of walk cpu) (keys_of walk.keys what) walk.keys new.keys
  pub stays : Stays walk new

-- a line that changes the keys alone
keys_passed : (cpu : ℕ) (what : TraceOp) (walk : Walk) (keys : Result (List KeyState) Code) → IfOk keys (Named (turn_of walk cpu) (keys_of walk.keys what) walk.keys) → IfOk (with_keys walk keys) (Passed cpu what walk)
keys_passed cpu what walk keys named =
    bound (Named (turn_of walk cpu) (keys_of walk.keys what) walk.keys) (Passed cpu what walk) keys (λ made. Ok (record walk { keys = made })) named
    (λ made h. record { round = refl; modules_long = refl; keys = h; stays = record { moved = λ m k. k; unloaded = λ m k. k } })

-- a line that changes hooks alone
cpus_passed : (cpu : ℕ) (what : TraceOp) (walk made : Walk) → made.round ≡ walk.round → made.modules ≡ walk.modules → made.keys ≡ walk.keys → keys_of walk.keys what ≡ [] → Passed cpu what walk made
cpus_passed cpu what walk made round modules keys none =
    record {
      round = round;
      modules_long = ap length modules;
      keys = subst (λ names. Named (turn_of walk cpu) names walk.keys made.keys) (sym none) (subst (Named (turn_of walk cpu) [] walk.keys) (sym keys) (named_none (turn_of walk cpu) walk.keys));
      stays = record {
        moved = λ m h. ap (λ ms. (get_or ms m absent).moved) modules ∙ h ∙ sym round;
        unloaded = λ m h. ap (λ ms. (get_or ms m absent).unloaded) modules ∙ h ∙ sym round;
      };
    }

-- one module's state changes, and keeps what is said of it
set_keeps : (P : ModuleState → Type 0) (modules : List ModuleState) (section m : ℕ) (state : ModuleState) → section < length modules → (P (get_or modules section absent) → P state) → P (get_or modules m absent) → P (get_or (set modules section state) m absent)
set_keeps P modules section m state below keeps h =
    by_bool (eqb m section)
    (λ same.
    let is : m ≡ section = eqb-true m section same in
    subst P (sym (get_or-set_at modules section m state absent is below)) (keeps (subst (λ n. P (get_or modules n absent)) is h)))
    (λ other. subst P (sym (get_or-set_other modules section m state absent (eqb-false m section other))) h)

module_passed : (cpu : ℕ) (what : TraceOp) (walk made : Walk) (section : ℕ) (state : ModuleState) → Fits walk → section < 65 → made.round ≡ walk.round → made.modules ≡ set walk.modules section state → made.keys ≡ walk.keys → keys_of walk.keys what ≡ []
    → ((module_at walk section).moved ≡ walk.round → state.moved ≡ walk.round) → ((module_at walk section).unloaded ≡ walk.round → state.unloaded ≡ walk.round) → Passed cpu what walk made
module_passed cpu what walk made section state fits below round modules keys none moved unloaded =
    let within : section < length walk.modules = omega (arith, fits.modules) in
    record {
      round = round;
      modules_long = ap length modules ∙ length-set walk.modules section state;
      keys = subst (λ names. Named (turn_of walk cpu) names walk.keys made.keys) (sym none) (subst (Named (turn_of walk cpu) [] walk.keys) (sym keys) (named_none (turn_of walk cpu) walk.keys));
      stays = record {
        moved = λ m h. ap (λ ms. (get_or ms m absent).moved) modules ∙ set_keeps (λ s. s.moved ≡ walk.round) walk.modules section m state within moved h ∙ sym round;
        unloaded = λ m h. ap (λ ms. (get_or ms m absent).unloaded) modules ∙ set_keeps (λ s. s.unloaded ≡ walk.round) walk.modules section m state within unloaded h ∙ sym round;
      };
    }

not_equal : (a b : ℕ) → not (eqb a b) ≡ true → a ≢ b
not_equal a b t e = let f : eqb a b ≡ true = eq-eqb a b e in let no : ⊥ = cc (ap not f) in no

neither : (a b : Bool) → not (a || b) ≡ true → (not a ≡ true) × (not b ≡ true)
neither true b e = let no : ⊥ = cc in absurd no
neither false true e = let no : ⊥ = cc in absurd no
neither false false e = (refl, refl)

-- what a module's line found, and what it says of the module
pub record Enters (walk new : Walk) (section : ℕ) : Type 0 where
  pub found : (module_at walk section).unloaded ≢ walk.round
  pub leaves : (module_at new section).moved ≡ walk.round

pub record Unloads (walk new : Walk) (section : ℕ) : Type 0 where
  pub found : (module_at walk section).moved ≢ walk.round
  pub leaves : (module_at new section).unloaded ≡ walk.round

set_here : (walk : Walk) (section : ℕ) (state : ModuleState) → Fits walk → section < 65 → get_or (set walk.modules section state) section absent ≡ state
set_here walk section state fits below = let within : section < length walk.modules = omega (arith, fits.modules) in get_or-set_at walk.modules section section state absent refl within

enter_in : (cpu section : ℕ) (walk : Walk) → Fits walk → section < 65 → IfOk (enter_module walk cpu section) (λ new. Passed cpu (op.Enter section) walk new × Enters walk new section)
unfolding enter_module
enter_in cpu section walk fits below =
    let after : Walk → Type 0 = λ new. Passed cpu (op.Enter section) walk new × Enters walk new section in
    let state : ModuleState = record (module_at walk section) { moved = walk.round } in
    checked after (not (is_unloaded walk section)) (code.UnloadShared section) _
    (λ apart. checked after (module_at walk section).loaded (code.NotLoaded section) _
    (λ _. checked after (not (is_inside section (cpu_at walk.cpus cpu))) (code.Inside section) _
    (λ _. (
      module_passed cpu (op.Enter section) walk _ section state fits below refl refl refl refl (λ _. refl) (λ h. h),
      record { found = not_equal _ _ apart; leaves = ap (λ (s : ModuleState). s.moved) (set_here walk section state fits below) },
    ))))

leave_in : (cpu section : ℕ) (walk : Walk) → Fits walk → section < 65 → IfOk (leave_module walk cpu section) (λ new. Passed cpu (op.Leave section) walk new × Enters walk new section)
unfolding leave_module
leave_in cpu section walk fits below =
    let after : Walk → Type 0 = λ new. Passed cpu (op.Leave section) walk new × Enters walk new section in
    let state : ModuleState = record (module_at walk section) { moved = walk.round } in
    checked after (not (is_unloaded walk section)) (code.UnloadShared section) _
    (λ apart. checked after (is_inside section (cpu_at walk.cpus cpu)) (code.NotInside section) _
    (λ _. checked after (not (list_any (λ other. eqb other section) (cpu_at walk.cpus cpu).hooks)) (code.Hooked section) _
    (λ _. (
      module_passed cpu (op.Leave section) walk _ section state fits below refl refl refl refl (λ _. refl) (λ h. h),
      record { found = not_equal _ _ apart; leaves = ap (λ (s : ModuleState). s.moved) (set_here walk section state fits below) },
    ))))

unload_in : (cpu section : ℕ) (walk : Walk) → Fits walk → section < 65 → IfOk (unload_module walk section) (λ new. Passed cpu (op.Unload section) walk new × Unloads walk new section)
unfolding unload_module
unload_in cpu section walk fits below =
    let after : Walk → Type 0 = λ new. Passed cpu (op.Unload section) walk new × Unloads walk new section in
    let state : ModuleState = record (module_at walk section) { loaded = false; unloaded = walk.round } in
    checked after (not (is_moved walk section || is_unloaded walk section)) (code.UnloadShared section) _
    (λ apart. checked after (module_at walk section).loaded (code.NotLoaded section) _
    (λ _. checked after (eqb (count_by (is_inside section) walk.cpus) 0) (code.Busy (count_by (is_inside section) walk.cpus)) _
    (λ _. (
      module_passed cpu (op.Unload section) walk _ section state fits below refl refl refl refl (λ h. h) (λ _. refl),
      record { found = not_equal _ _ (neither _ _ apart).0; leaves = ap (λ (s : ModuleState). s.unloaded) (set_here walk section state fits below) },
    ))))

hook_in : (cpu section index : ℕ) (walk : Walk) → IfOk (hook_tag walk cpu section) (Passed cpu (op.Hook section index) walk)
unfolding hook_tag
hook_in cpu section index walk =
    let after = Passed cpu (op.Hook section index) walk in
    checked after (eqb section 0 || is_inside section (cpu_at walk.cpus cpu)) (code.NotInside section) _
    (λ _. checked after (ltb (length (cpu_at walk.cpus cpu).hooks) 16) code.Deep _
    (λ _. cpus_passed cpu (op.Hook section index) walk _ refl refl refl refl))

unhook_in : (cpu : ℕ) (walk : Walk) → IfOk (unhook_tag walk cpu) (Passed cpu op.Unhook walk)
unfolding unhook_tag
unhook_in cpu walk =
    let after = Passed cpu op.Unhook walk in
    checked after (ltb 0 (length (cpu_at walk.cpus cpu).hooks)) code.NoHook _
    (λ _. cpus_passed cpu op.Unhook walk _ refl refl refl refl)

first : {A : Type 0} (P Q : A → Type 0) (r : Result A Code) → IfOk r (λ new. P new × Q new) → IfOk r P
first P Q (Ok x) h = h.0
first P Q (Err e) h = tt

op_in : (cpu : ℕ) (what : TraceOp) (walk : Walk) → Fits walk → FitsOp what → IfOk (walk_op cpu what walk) (Passed cpu what walk)
unfolding walk_op
op_in cpu (op.Page key order) walk fits is = keys_passed cpu (op.Page key order) walk _ (take_key_in walk.keys (turn_of walk cpu) key _ (omega (arith, is.0.1)))
op_in cpu (op.Kmalloc key size) walk fits is = keys_passed cpu (op.Kmalloc key size) walk _ (take_key_in walk.keys (turn_of walk cpu) key _ (omega (arith, is.1)))
op_in cpu (op.Free key) walk fits is =
    let turn = turn_of walk cpu in
    keys_passed cpu (op.Free key) walk (give_key walk.keys turn key)
    (first (Named turn (key ∷ []) walk.keys) (λ _. (what : Bound) × ((key_at walk.keys key).bound ≡ Some what)) (give_key walk.keys turn key) (give_key_in walk.keys turn key (omega (arith, is.1))))
op_in cpu (op.Split key order first_new) walk fits is = keys_passed cpu (op.Split key order first_new) walk _ (split_key_in walk.keys (turn_of walk cpu) key order first_new (omega (arith, is.0.1)))
op_in cpu (op.Swap one two) walk fits is = keys_passed cpu (op.Swap one two) walk _ (swap_keys_in walk.keys (turn_of walk cpu) one two (omega (arith, is.0.1)) (omega (arith, is.1.1)))
op_in cpu (op.Trim key pages) walk fits is = keys_passed cpu (op.Trim key pages) walk _ (trim_key_in walk.keys (turn_of walk cpu) key pages (omega (arith, is.1)))
op_in cpu (op.Hook section index) walk fits is = hook_in cpu section index walk
op_in cpu op.Unhook walk fits is = unhook_in cpu walk
op_in cpu (op.Enter section) walk fits is = first (Passed cpu (op.Enter section) walk) (λ new. Enters walk new section) (enter_module walk cpu section) (enter_in cpu section walk fits is)
op_in cpu (op.Leave section) walk fits is = first (Passed cpu (op.Leave section) walk) (λ new. Enters walk new section) (leave_module walk cpu section) (leave_in cpu section walk fits is)
op_in cpu (op.Unload section) walk fits is = first (Passed cpu (op.Unload section) walk) (λ new. Unloads walk new section) (unload_module walk section) (unload_in cpu section walk fits is)

pub op_ok : (cpu : ℕ) (what : TraceOp) (walk new : Walk) → Fits walk → FitsOp what → walk_op cpu what walk ≡ Ok new → Passed cpu what walk new
op_ok cpu what walk new fits is e = IfOk-at_ok (Passed cpu what walk) e (op_in cpu what walk fits is)

pub fits_on : (cpu : ℕ) (what : TraceOp) (walk new : Walk) → Fits walk → Passed cpu what walk new → Fits new
fits_on cpu what walk new fits passed = record { keys = passed.keys.binds.long ∙ fits.keys; modules = passed.modules_long ∙ fits.modules }

free_in : (cpu key : ℕ) (walk : Walk) → key < 65536 → IfOk (walk_op cpu (op.Free key) walk) (λ _. IsSome (key_at walk.keys key).bound)
unfolding walk_op
free_in cpu key walk below =
    bound (λ new. Named (turn_of walk cpu) (key ∷ []) walk.keys new × ((what : Bound) × ((key_at walk.keys key).bound ≡ Some what))) (λ _. IsSome (key_at walk.keys key).bound) (give_key walk.keys (turn_of walk cpu) key) (λ made. Ok (record walk { keys = made })) (give_key_in walk.keys (turn_of walk cpu) key below)
    (λ made h. ap is_some h.1.1)

pub free_ok : (cpu key : ℕ) (walk new : Walk) → key < 65536 → walk_op cpu (op.Free key) walk ≡ Ok new → IsSome (key_at walk.keys key).bound
free_ok cpu key walk new below e = IfOk-at_ok (λ _. IsSome (key_at walk.keys key).bound) e (free_in cpu key walk below)

pub enters : (cpu section : ℕ) (walk new : Walk) → Fits walk → section < 65 → walk_op cpu (op.Enter section) walk ≡ Ok new → Enters walk new section
unfolding walk_op
enters cpu section walk new fits below e = (IfOk-at_ok (λ new. Passed cpu (op.Enter section) walk new × Enters walk new section) e (enter_in cpu section walk fits below)).1

pub leaves : (cpu section : ℕ) (walk new : Walk) → Fits walk → section < 65 → walk_op cpu (op.Leave section) walk ≡ Ok new → Enters walk new section
unfolding walk_op
leaves cpu section walk new fits below e = (IfOk-at_ok (λ new. Passed cpu (op.Leave section) walk new × Enters walk new section) e (leave_in cpu section walk fits below)).1

pub unloads : (cpu section : ℕ) (walk new : Walk) → Fits walk → section < 65 → walk_op cpu (op.Unload section) walk ≡ Ok new → Unloads walk new section
unfolding walk_op
unloads cpu section walk new fits below e = (IfOk-at_ok (λ new. Passed cpu (op.Unload section) walk new × Unloads walk new section) e (unload_in cpu section walk fits below)).1
