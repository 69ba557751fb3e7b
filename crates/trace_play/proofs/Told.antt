-- What a line that passed found in the table of keys, and what it leaves there.
use Rattle.std.proofs.Common.{◌≡◌, ℕ, ◌+◌, ◌-◌, ◌<◌, ◌≤◌, Bool, true, false, not, ◌||◌, eqb, leb, ltb, List, [], ◌∷◌, length, Option, Some, None, Result, Ok, IfOk, refl, ap, ◌∙◌, subst, ltb-true, leb-true, eqb-true}
use Rattle.std.specs.Prelude.{is_none, count_by}
use Rattle.std.specs.List.{range_with_len, list_any}
use Rattle.std.proofs.lemmas.Result.{IfOk-at_ok}
use Rattle.input_form.specs.declared.code.Code.{Code}
use Rattle.input_form.specs.declared.code.Code.TheVariants as code
use Rattle.input_form.proofs.Judged.{bound, passed, skipped, checked, checks, weaker}
use Rattle.trace.specs.declared.traces.TraceOp.{TraceOp}
use Rattle.trace.specs.declared.traces.TraceOp.TheVariants as op
use Rattle.round_check.specs.declared.keys.Block.{Block}
use Rattle.round_check.specs.declared.keys.Bound.{Bound}
use Rattle.round_check.specs.declared.keys.Bound.TheVariants as kept
use Rattle.round_check.specs.declared.keys.KeyState.{KeyState}
use Rattle.round_check.specs.declared.keys.Turn.{Turn}
use Rattle.round_check.specs.declared.walk.Walk.{Walk}
use Rattle.round_check.specs.Keys.{key_at, own_key, own_keys, free_key, free_keys, bound_key, block_of, new_count, bind, bind_all, take_key, give_key, split_key, part_keys, swap_keys, trim_key, whole_block}
use Rattle.round_check.specs.Rounds.{is_one_of}
use Rattle.round_check.specs.Cpus.{cpu_at, is_inside}
use Rattle.round_check.specs.Walk.{turn_of, with_keys, module_at, is_moved, is_unloaded, enter_module, leave_module, unload_module, hook_tag, unhook_tag, walk_op}
use Rattle.round_check.proofs.Named.{by_bool, no_truth, or_left, bound_in, block_in}

none_is : {A : Type 0} (o : Option A) → is_none o ≡ true → o ≡ None
none_is None e = refl
none_is (Some x) e = no_truth e

pub not_true : (b : Bool) → not b ≡ true → b ≡ false
not_true true e = no_truth e
not_true false e = refl

free_in : (keys : List KeyState) (key : ℕ) → IfOk (free_key keys key) (λ _. (key_at keys key).bound ≡ None)
unfolding free_key
free_in keys key = checks (is_none (key_at keys key).bound) (code.Bound key) (none_is (key_at keys key).bound)

abbrev AreFree : List KeyState → List ℕ → Type 0
AreFree keys names = (k : ℕ) → is_one_of names k ≡ true → (key_at keys k).bound ≡ None

all_free_in : (keys : List KeyState) (names : List ℕ) → IfOk (free_keys keys names) (λ _. AreFree keys names)
all_free_in keys [] = λ k h. no_truth h
all_free_in keys (key ∷ names) =
    passed {Q = (key_at keys key).bound ≡ None} (λ _. AreFree keys (key ∷ names)) (free_key keys key) (free_keys keys names) (free_in keys key)
    (λ free. weaker (λ _. AreFree keys names) (λ _. AreFree keys (key ∷ names)) (free_keys keys names)
    (λ x later k h. by_bool (is_one_of names k) (later k)
    (λ none. subst (λ n. (key_at keys n).bound ≡ None) (eqb-true key k (or_left (eqb key k) (is_one_of names k) h none)) free))
    (all_free_in keys names))

-- ---- the ops on keys

pub record TakeTold (keys : List KeyState) (turn : Turn) (key : ℕ) (what : Bound) (new : List KeyState) : Type 0 where
  pub free : (key_at keys key).bound ≡ None
  pub keys_are : new ≡ bind keys turn (Some what) key

pub record GiveTold (keys : List KeyState) (turn : Turn) (key : ℕ) (new : List KeyState) : Type 0 where
  pub what : Bound
  pub found : (key_at keys key).bound ≡ Some what
  pub keys_are : new ≡ bind keys turn None key

pub record SplitTold (keys : List KeyState) (turn : Turn) (key order first : ℕ) (new : List KeyState) : Type 0 where
  pub block : Block
  pub found : (key_at keys key).bound ≡ Some (kept.Block block)
  pub whole : block.trimmed ≡ false
  pub below : order < block.order
  pub last : first + new_count block order - 1 ≤ 65535
  pub free : AreFree keys (range_with_len first (new_count block order))
  pub keys_are : new ≡ bind_all keys turn (Some (whole_block order)) (key ∷ range_with_len first (new_count block order))

pub record SwapTold (keys : List KeyState) (turn : Turn) (one two : ℕ) (new : List KeyState) : Type 0 where
  pub block : Block
  pub other : Block
  pub found : (key_at keys one).bound ≡ Some (kept.Block block)
  pub also : (key_at keys two).bound ≡ Some (kept.Block other)
  pub whole : block.trimmed ≡ false
  pub also_whole : other.trimmed ≡ false
  pub orders : block.order ≡ other.order
  pub keys_are : new ≡ bind (bind keys turn (Some (kept.Block block)) one) turn (Some (kept.Block other)) two

pub record TrimTold (keys : List KeyState) (turn : Turn) (key pages : ℕ) (new : List KeyState) : Type 0 where
  pub block : Block
  pub found : (key_at keys key).bound ≡ Some (kept.Block block)
  pub below : pages < block.pages
  pub keys_are : new ≡ bind keys turn (Some (kept.Block (record block { pages = block.pages - pages; trimmed = true }))) key

take_told : (keys : List KeyState) (turn : Turn) (key : ℕ) (what : Bound) → IfOk (take_key keys turn key what) (TakeTold keys turn key what)
unfolding take_key
take_told keys turn key what =
    skipped (TakeTold keys turn key what) (own_key keys turn key) _
    (passed {Q = (key_at keys key).bound ≡ None} (TakeTold keys turn key what) (free_key keys key) _ (free_in keys key)
    (λ free. record { free = free; keys_are = refl }))

give_told : (keys : List KeyState) (turn : Turn) (key : ℕ) → IfOk (give_key keys turn key) (GiveTold keys turn key)
unfolding give_key
give_told keys turn key =
    skipped (GiveTold keys turn key) (own_key keys turn key) _
    (bound (λ what. (key_at keys key).bound ≡ Some what) (GiveTold keys turn key) (bound_key keys key) _ (bound_in keys key)
    (λ what is. record { what = what; found = is; keys_are = refl }))

part_told : (keys : List KeyState) (turn : Turn) (key order first : ℕ) (block : Block) → (key_at keys key).bound ≡ Some (kept.Block block) → block.trimmed ≡ false → order < block.order
    → IfOk (part_keys keys turn key order first (new_count block order)) (SplitTold keys turn key order first)
unfolding part_keys
part_told keys turn key order first block found whole below =
    let count = new_count block order in
    let after = SplitTold keys turn key order first in
    checked after (leb (first + count - 1) 65535) code.Keys _
    (λ fits. skipped after (own_keys keys turn (range_with_len first count)) _
    (passed {Q = AreFree keys (range_with_len first count)} after (free_keys keys (range_with_len first count)) _ (all_free_in keys (range_with_len first count))
    (λ free. record { block = block; found = found; whole = whole; below = below; last = leb-true _ _ fits; free = free; keys_are = refl })))

split_told : (keys : List KeyState) (turn : Turn) (key order first : ℕ) → IfOk (split_key keys turn key order first) (SplitTold keys turn key order first)
unfolding split_key
split_told keys turn key order first =
    let after = SplitTold keys turn key order first in
    skipped after (own_key keys turn key) _
    (bound (λ what. (key_at keys key).bound ≡ Some what) after (bound_key keys key) _ (bound_in keys key)
    (λ what is. bound (λ block. what ≡ kept.Block block) after (block_of key what) _ (block_in key what)
    (λ block same. checked after (not block.trimmed) (code.Trimmed key) _
    (λ whole. checked after (ltb order block.order) code.Orders _
    (λ below. part_told keys turn key order first block (is ∙ ap Some same) (not_true _ whole) (ltb-true _ _ below))))))

swap_told : (keys : List KeyState) (turn : Turn) (one two : ℕ) → IfOk (swap_keys keys turn one two) (SwapTold keys turn one two)
unfolding swap_keys
swap_told keys turn one two =
    let after = SwapTold keys turn one two in
    skipped after (own_key keys turn one) _
    (skipped after (own_key keys turn two) _
    (bound (λ what. (key_at keys one).bound ≡ Some what) after (bound_key keys one) _ (bound_in keys one)
    (λ first is. bound (λ what. (key_at keys two).bound ≡ Some what) after (bound_key keys two) _ (bound_in keys two)
    (λ second also. bound (λ block. first ≡ kept.Block block) after (block_of one first) _ (block_in one first)
    (λ block same. bound (λ other. second ≡ kept.Block other) after (block_of two second) _ (block_in two second)
    (λ other same'. checked after (not block.trimmed) (code.Trimmed one) _
    (λ whole. checked after (not other.trimmed) (code.Trimmed two) _
    (λ whole'. checked after (eqb block.order other.order) code.Orders _
    (λ orders. record {
      block = block;
      other = other;
      found = is ∙ ap Some same;
      also = also ∙ ap Some same';
      whole = not_true _ whole;
      also_whole = not_true _ whole';
      orders = eqb-true _ _ orders;
      keys_are = λ i. bind (bind keys turn (Some (same i)) one) turn (Some (same' i)) two;
    })))))))))

trim_told : (keys : List KeyState) (turn : Turn) (key pages : ℕ) → IfOk (trim_key keys turn key pages) (TrimTold keys turn key pages)
unfolding trim_key
trim_told keys turn key pages =
    let after = TrimTold keys turn key pages in
    skipped after (own_key keys turn key) _
    (bound (λ what. (key_at keys key).bound ≡ Some what) after (bound_key keys key) _ (bound_in keys key)
    (λ what is. bound (λ block. what ≡ kept.Block block) after (block_of key what) _ (block_in key what)
    (λ block same. checked after (ltb pages block.pages) code.Pages _
    (λ below. record { block = block; found = is ∙ ap Some same; below = ltb-true _ _ below; keys_are = refl }))))

-- ---- a line

abbrev pub OpTold : ℕ → TraceOp → Walk → Walk → Type 0
OpTold cpu (op.Page key order) here next = TakeTold here.keys (turn_of here cpu) key (whole_block order) next.keys
OpTold cpu (op.Kmalloc key size) here next = TakeTold here.keys (turn_of here cpu) key kept.Object next.keys
OpTold cpu (op.Free key) here next = GiveTold here.keys (turn_of here cpu) key next.keys
OpTold cpu (op.Split key order first) here next = SplitTold here.keys (turn_of here cpu) key order first next.keys
OpTold cpu (op.Swap one two) here next = SwapTold here.keys (turn_of here cpu) one two next.keys
OpTold cpu (op.Trim key pages) here next = TrimTold here.keys (turn_of here cpu) key pages next.keys
OpTold cpu (op.Hook section index) here next = next.keys ≡ here.keys
OpTold cpu op.Unhook here next = next.keys ≡ here.keys
OpTold cpu (op.Enter section) here next = next.keys ≡ here.keys
OpTold cpu (op.Leave section) here next = next.keys ≡ here.keys
OpTold cpu (op.Unload section) here next = next.keys ≡ here.keys

keys_told : (P : List KeyState → Type 0) (here : Walk) (judged : Result (List KeyState) Code) → IfOk judged P → IfOk (with_keys here judged) (λ next. P next.keys)
keys_told P here judged told = bound P (λ (next : Walk). P next.keys) judged (λ made. Ok (record here { keys = made })) told (λ made h. h)

enter_told : (cpu section : ℕ) (here : Walk) → IfOk (enter_module here cpu section) (λ next. next.keys ≡ here.keys)
unfolding enter_module
enter_told cpu section here =
    let after : Walk → Type 0 = λ next. next.keys ≡ here.keys in
    checked after (not (is_unloaded here section)) (code.UnloadShared section) _
    (λ _. checked after (module_at here section).loaded (code.NotLoaded section) _
    (λ _. checked after (not (is_inside section (cpu_at here.cpus cpu))) (code.Inside section) _
    (λ _. refl)))

leave_told : (cpu section : ℕ) (here : Walk) → IfOk (leave_module here cpu section) (λ next. next.keys ≡ here.keys)
unfolding leave_module
leave_told cpu section here =
    let after : Walk → Type 0 = λ next. next.keys ≡ here.keys in
    checked after (not (is_unloaded here section)) (code.UnloadShared section) _
    (λ _. checked after (is_inside section (cpu_at here.cpus cpu)) (code.NotInside section) _
    (λ _. checked after (not (list_any (λ other. eqb other section) (cpu_at here.cpus cpu).hooks)) (code.Hooked section) _
    (λ _. refl)))

unload_told : (section : ℕ) (here : Walk) → IfOk (unload_module here section) (λ next. next.keys ≡ here.keys)
unfolding unload_module
unload_told section here =
    let after : Walk → Type 0 = λ next. next.keys ≡ here.keys in
    checked after (not (is_moved here section || is_unloaded here section)) (code.UnloadShared section) _
    (λ _. checked after (module_at here section).loaded (code.NotLoaded section) _
    (λ _. checked after (eqb (count_by (is_inside section) here.cpus) 0) (code.Busy (count_by (is_inside section) here.cpus)) _
    (λ _. refl)))

hook_told : (cpu section : ℕ) (here : Walk) → IfOk (hook_tag here cpu section) (λ next. next.keys ≡ here.keys)
unfolding hook_tag
hook_told cpu section here =
    let after : Walk → Type 0 = λ next. next.keys ≡ here.keys in
    checked after (eqb section 0 || is_inside section (cpu_at here.cpus cpu)) (code.NotInside section) _
    (λ _. checked after (ltb (length (cpu_at here.cpus cpu).hooks) 16) code.Deep _
    (λ _. refl))

unhook_told : (cpu : ℕ) (here : Walk) → IfOk (unhook_tag here cpu) (λ next. next.keys ≡ here.keys)
unfolding unhook_tag
unhook_told cpu here =
    let after : Walk → Type 0 = λ next. next.keys ≡ here.keys in
    checked after (ltb 0 (length (cpu_at here.cpus cpu).hooks)) code.NoHook _
    (λ _. refl)

told_in : (cpu : ℕ) (what : TraceOp) (here : Walk) → IfOk (walk_op cpu what here) (OpTold cpu what here)
unfolding walk_op
told_in cpu (op.Page key order) here = keys_told (TakeTold here.keys (turn_of here cpu) key (whole_block order)) here _ (take_told here.keys (turn_of here cpu) key (whole_block order))
told_in cpu (op.Kmalloc key size) here = keys_told (TakeTold here.keys (turn_of here cpu) key kept.Object) here _ (take_told here.keys (turn_of here cpu) key kept.Object)
told_in cpu (op.Free key) here = keys_told (GiveTold here.keys (turn_of here cpu) key) here _ (give_told here.keys (turn_of here cpu) key)
told_in cpu (op.Split key order first) here = keys_told (SplitTold here.keys (turn_of here cpu) key order first) here _ (split_told here.keys (turn_of here cpu) key order first)
told_in cpu (op.Swap one two) here = keys_told (SwapTold here.keys (turn_of here cpu) one two) here _ (swap_told here.keys (turn_of here cpu) one two)
told_in cpu (op.Trim key pages) here = keys_told (TrimTold here.keys (turn_of here cpu) key pages) here _ (trim_told here.keys (turn_of here cpu) key pages)
told_in cpu (op.Hook section index) here = hook_told cpu section here
told_in cpu op.Unhook here = unhook_told cpu here
told_in cpu (op.Enter section) here = enter_told cpu section here
told_in cpu (op.Leave section) here = leave_told cpu section here
told_in cpu (op.Unload section) here = unload_told section here

pub line_told : (cpu : ℕ) (what : TraceOp) (here next : Walk) → walk_op cpu what here ≡ Ok next → OpTold cpu what here next
line_told cpu what here next e = IfOk-at_ok (OpTold cpu what here) e (told_in cpu what here)
