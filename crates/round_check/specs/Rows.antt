-- Worked rows: lines that are refused, most for two reasons, of which the earlier check names one.
use Rattle.std.specs.Prelude.{ℕ, List, [], ◌∷◌, ◌++◌, replicate, ⊤, Result, Ok}
use Rattle.input_form.specs.declared.code.Code.{Code}
use Rattle.trace.specs.declared.traces.Item.{Item}
use Rattle.trace.specs.declared.traces.Item.TheVariants.{Round, Load}
use Rattle.trace.specs.declared.traces.OnOp.{OnOp}
use Rattle.trace.specs.declared.traces.TraceOp.{TraceOp}
use Rattle.trace.specs.declared.traces.TraceOp.TheVariants.{Page, Kmalloc, Free, Split, Swap, Trim, Hook, Unhook, Enter, Leave, Unload}
use Rattle.input_form.specs.Judging.{◌>>=◌}
use Rattle.round_check.specs.declared.walk.Walk.{Walk}
use Rattle.round_check.specs.Cpus.{idle}
use Rattle.round_check.specs.Tables.{unbound, absent}
use Rattle.round_check.specs.Walk.{walk_items}

-- before the first line, with nine keys, three sections and two CPUs
abbrev pub few : Walk
few = record { keys = replicate 9 unbound; modules = replicate 3 absent; cpus = replicate 2 idle; round = 0 }

abbrev pub on : ℕ → ℕ → TraceOp → OnOp
on line cpu op = record { line = line; cpu = cpu; op = op }

-- what the check says of some items
abbrev pub verdict : List Item → Result ⊤ (ℕ × Code)
verdict items = do
  walk ← walk_items items few
  Ok tt

-- `free 1` on CPU 1: CPU 0 has named the key, and has freed it
abbrev pub shared_and_unbound : List Item
shared_and_unbound = Round (on 1 0 (Page 1 0) ∷ on 2 0 (Free 1) ∷ on 3 1 (Free 1) ∷ []) ∷ []

-- `swap 1 2`: key 1 is an object, key 2 isn't bound
abbrev pub object_and_unbound : List Item
object_and_unbound = Round (on 1 0 (Kmalloc 1 8) ∷ on 2 0 (Swap 1 2) ∷ []) ∷ []

-- `swap 1 2`: key 1 was trimmed, key 2 is an object
abbrev pub trimmed_and_object : List Item
trimmed_and_object = Round (on 1 0 (Page 1 1) ∷ on 2 0 (Trim 1 1) ∷ on 3 0 (Kmalloc 2 8) ∷ on 4 0 (Swap 1 2) ∷ []) ∷ []

-- `swap 1 2`: the orders differ, and key 2 was trimmed
abbrev pub orders_and_trimmed : List Item
orders_and_trimmed = Round (on 1 0 (Page 1 2) ∷ on 2 0 (Page 2 1) ∷ on 3 0 (Trim 2 1) ∷ on 4 0 (Swap 1 2) ∷ []) ∷ []

-- `swap 1 2`: the orders differ
abbrev pub orders_differ : List Item
orders_differ = Round (on 1 0 (Page 1 2) ∷ on 2 0 (Page 2 1) ∷ on 3 0 (Swap 1 2) ∷ []) ∷ []

-- `split 1 1 2`: the order isn't below the block's
abbrev pub order_not_below : List Item
order_not_below = Round (on 1 0 (Page 1 1) ∷ on 2 0 (Split 1 1 2) ∷ []) ∷ []

-- `split 1 0 65534`: the last of three new keys is 65,536
abbrev pub keys_past_the_last : List Item
keys_past_the_last = Round (on 1 0 (Page 1 2) ∷ on 2 0 (Split 1 0 65534) ∷ []) ∷ []

-- `split 1 0 65533`: the last of three new keys is 65,535
abbrev pub keys_to_the_last : List Item
keys_to_the_last = Round (on 1 0 (Page 1 2) ∷ on 2 0 (Split 1 0 65533) ∷ []) ∷ []

-- `split 1 0 2` on CPU 0: its new key 2 is bound, and CPU 1 has named its new key 4
abbrev pub new_bound_and_shared : List Item
new_bound_and_shared = Round (on 1 0 (Page 2 0) ∷ []) ∷ Round (on 2 1 (Page 4 0) ∷ on 3 0 (Page 1 2) ∷ on 4 0 (Split 1 0 2) ∷ []) ∷ []

-- `split 1 0 2`: its new keys 3 and 4 are bound
abbrev pub two_new_bound : List Item
two_new_bound = Round (on 1 0 (Page 4 0) ∷ on 2 0 (Page 3 0) ∷ on 3 0 (Page 1 2) ∷ on 4 0 (Split 1 0 2) ∷ []) ∷ []

-- `split 1 0 1`: the split key is its own new key
abbrev pub split_onto_itself : List Item
split_onto_itself = Round (on 1 0 (Page 1 1) ∷ on 2 0 (Split 1 0 1) ∷ []) ∷ []

-- `trim 1 2`: of four pages two are left
abbrev pub pages_not_below : List Item
pages_not_below = Round (on 1 0 (Page 1 2) ∷ on 2 0 (Trim 1 2) ∷ on 3 0 (Trim 1 2) ∷ []) ∷ []

-- `unload` of a module that this round enters, with a CPU inside
abbrev pub entered_and_busy : List Item
entered_and_busy = Load 1 1 ∷ Round (on 2 0 (Enter 1) ∷ on 3 1 (Unload 1) ∷ []) ∷ []

-- `enter` of a module that this round unloads, and which so isn't loaded
abbrev pub unloaded_and_absent : List Item
unloaded_and_absent = Load 1 1 ∷ Round (on 2 0 (Unload 1) ∷ on 3 1 (Enter 1) ∷ []) ∷ []

-- `enter` of a module that was never loaded
abbrev pub never_loaded : List Item
never_loaded = Load 1 1 ∷ Round (on 2 0 (Enter 2) ∷ []) ∷ []

-- `enter` twice
abbrev pub entered_twice : List Item
entered_twice = Load 1 1 ∷ Round (on 2 0 (Enter 1) ∷ on 3 0 (Enter 1) ∷ []) ∷ []

-- `leave` of a module whose tag is saved under another hook
abbrev pub left_while_hooked : List Item
left_while_hooked = Load 1 1 ∷ Round (on 2 0 (Enter 1) ∷ on 3 0 (Hook 1 0) ∷ on 4 0 (Hook 0 0) ∷ on 5 0 (Leave 1) ∷ []) ∷ []

-- `unload` in a later round, with both CPUs inside
abbrev pub two_inside : List Item
two_inside = Load 1 1 ∷ Round (on 2 0 (Enter 1) ∷ on 3 1 (Enter 1) ∷ []) ∷ Round (on 4 0 (Unload 1) ∷ []) ∷ []

-- sixteen hooks, and one more
abbrev pub hooks : ℕ → List OnOp
hooks section = replicate 16 (on 1 0 (Hook 0 0)) ++ on 2 0 (Hook section 0) ∷ []

-- `hook` beyond sixteen
abbrev pub hooked_too_deep : List Item
hooked_too_deep = Round (hooks 0) ∷ []

-- `hook` beyond sixteen, of a module that the CPU isn't inside
abbrev pub outside_and_deep : List Item
outside_and_deep = Round (hooks 1) ∷ []

-- `unhook` once too often
abbrev pub unhooked_twice : List Item
unhooked_twice = Round (on 1 0 (Hook 0 0) ∷ on 2 0 Unhook ∷ on 3 0 Unhook ∷ []) ∷ []

-- `load` twice
abbrev pub loaded_twice : List Item
loaded_twice = Load 1 2 ∷ Load 2 2 ∷ []

-- `swap 1 2` on CPU 1: CPU 0 has named both keys
abbrev pub both_shared : List Item
both_shared = Round (on 1 0 (Page 1 0) ∷ on 2 0 (Page 2 0) ∷ on 3 1 (Swap 1 2) ∷ []) ∷ []

-- `swap 1 2` on CPU 0: key 1 isn't bound, and CPU 1 has named key 2
abbrev pub unbound_and_shared : List Item
unbound_and_shared = Round (on 1 1 (Page 2 0) ∷ on 2 0 (Swap 1 2) ∷ []) ∷ []

-- `swap 1 2`: neither key is bound
abbrev pub both_unbound : List Item
both_unbound = Round (on 1 0 (Swap 1 2) ∷ []) ∷ []

-- `swap 1 2`: both keys are objects
abbrev pub both_objects : List Item
both_objects = Round (on 1 0 (Kmalloc 1 8) ∷ on 2 0 (Kmalloc 2 8) ∷ on 3 0 (Swap 1 2) ∷ []) ∷ []

-- `swap 1 2`: both keys were trimmed
abbrev pub both_trimmed : List Item
both_trimmed = Round (on 1 0 (Page 1 1) ∷ on 2 0 (Page 2 1) ∷ on 3 0 (Trim 1 1) ∷ on 4 0 (Trim 2 1) ∷ on 5 0 (Swap 1 2) ∷ []) ∷ []

-- `page 1 0` on CPU 1: CPU 0 has named the key, which is bound
abbrev pub shared_and_bound : List Item
shared_and_bound = Round (on 1 0 (Page 1 0) ∷ on 2 1 (Page 1 0) ∷ []) ∷ []

-- `split 1 0 2` on CPU 1: CPU 0 has named the key, and has freed it
abbrev pub split_of_shared_and_unbound : List Item
split_of_shared_and_unbound = Round (on 1 0 (Page 1 1) ∷ on 2 0 (Free 1) ∷ on 3 1 (Split 1 0 2) ∷ []) ∷ []

-- `trim 1 1` on CPU 1: the same
abbrev pub trim_of_shared_and_unbound : List Item
trim_of_shared_and_unbound = Round (on 1 0 (Page 1 1) ∷ on 2 0 (Free 1) ∷ on 3 1 (Trim 1 1) ∷ []) ∷ []

-- `free 1` on CPU 1: CPU 0 has named the key two lines before
abbrev pub shared_two_lines_before : List Item
shared_two_lines_before = Round (on 1 0 (Page 1 0) ∷ on 2 0 (Page 2 0) ∷ on 3 1 (Free 1) ∷ []) ∷ []

-- `free 1` on CPU 1, in the round after the one in which CPU 0 has named the key
abbrev pub freed_in_the_next_round : List Item
freed_in_the_next_round = Round (on 1 0 (Page 1 0) ∷ []) ∷ Round (on 2 1 (Free 1) ∷ []) ∷ []

-- `split 1 1 2`: the block was trimmed, and the order isn't below its own
abbrev pub trimmed_and_not_below : List Item
trimmed_and_not_below = Round (on 1 0 (Page 1 1) ∷ on 2 0 (Trim 1 1) ∷ on 3 0 (Split 1 1 2) ∷ []) ∷ []

-- `leave` of a module that this round unloads, and which the CPU isn't inside
abbrev pub unloaded_and_outside : List Item
unloaded_and_outside = Load 1 1 ∷ Round (on 2 0 (Unload 1) ∷ on 3 1 (Leave 1) ∷ []) ∷ []

-- `unload` twice in a round
abbrev pub unloaded_twice : List Item
unloaded_twice = Load 1 1 ∷ Round (on 2 0 (Unload 1) ∷ on 3 1 (Unload 1) ∷ []) ∷ []

-- No trace leaves this: no module is loaded, CPUs are inside some, and each has a hook of module 1 out.
abbrev pub stray : List ℕ → Walk
stray inside = record few { cpus = replicate 2 (record { hooks = 1 ∷ []; inside = inside }); round = 1 }
