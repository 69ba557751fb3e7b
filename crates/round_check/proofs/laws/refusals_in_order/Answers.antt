use Rattle.std.proofs.Common.{refl}
use Rattle.round_check.proofs.laws.refusals_in_order.Goals as goal
use Rattle.round_check.specs.Keys.{own_key, bound_key, free_key, take_key, give_key, part_keys, split_key, swap_keys, trim_key}
use Rattle.round_check.specs.Walk.{enter_module, leave_module, unload_module, hook_tag, unhook_tag, load_module, walk_op, walk_item}

pub returns-clause-shared_key : goal.returns-clause-shared_key
unfolding own_key bound_key free_key take_key give_key part_keys split_key swap_keys trim_key enter_module leave_module unload_module hook_tag unhook_tag load_module walk_op walk_item
returns-clause-shared_key c = refl

pub returns-clause-no_key : goal.returns-clause-no_key
unfolding own_key bound_key free_key take_key give_key part_keys split_key swap_keys trim_key enter_module leave_module unload_module hook_tag unhook_tag load_module walk_op walk_item
returns-clause-no_key c = refl

pub returns-clause-kind : goal.returns-clause-kind
unfolding own_key bound_key free_key take_key give_key part_keys split_key swap_keys trim_key enter_module leave_module unload_module hook_tag unhook_tag load_module walk_op walk_item
returns-clause-kind c = refl

pub returns-clause-trimmed : goal.returns-clause-trimmed
unfolding own_key bound_key free_key take_key give_key part_keys split_key swap_keys trim_key enter_module leave_module unload_module hook_tag unhook_tag load_module walk_op walk_item
returns-clause-trimmed c = refl

pub returns-clause-orders : goal.returns-clause-orders
unfolding own_key bound_key free_key take_key give_key part_keys split_key swap_keys trim_key enter_module leave_module unload_module hook_tag unhook_tag load_module walk_op walk_item
returns-clause-orders c = refl

pub returns-clause-orders_of_split : goal.returns-clause-orders_of_split
unfolding own_key bound_key free_key take_key give_key part_keys split_key swap_keys trim_key enter_module leave_module unload_module hook_tag unhook_tag load_module walk_op walk_item
returns-clause-orders_of_split c = refl

pub returns-clause-keys : goal.returns-clause-keys
unfolding own_key bound_key free_key take_key give_key part_keys split_key swap_keys trim_key enter_module leave_module unload_module hook_tag unhook_tag load_module walk_op walk_item
returns-clause-keys c = refl

pub returns-clause-keys_to_the_last : goal.returns-clause-keys_to_the_last
unfolding own_key bound_key free_key take_key give_key part_keys split_key swap_keys trim_key enter_module leave_module unload_module hook_tag unhook_tag load_module walk_op walk_item
returns-clause-keys_to_the_last c = refl

pub returns-clause-shared_new : goal.returns-clause-shared_new
unfolding own_key bound_key free_key take_key give_key part_keys split_key swap_keys trim_key enter_module leave_module unload_module hook_tag unhook_tag load_module walk_op walk_item
returns-clause-shared_new c = refl

pub returns-clause-bound : goal.returns-clause-bound
unfolding own_key bound_key free_key take_key give_key part_keys split_key swap_keys trim_key enter_module leave_module unload_module hook_tag unhook_tag load_module walk_op walk_item
returns-clause-bound c = refl

pub returns-clause-bound_itself : goal.returns-clause-bound_itself
unfolding own_key bound_key free_key take_key give_key part_keys split_key swap_keys trim_key enter_module leave_module unload_module hook_tag unhook_tag load_module walk_op walk_item
returns-clause-bound_itself c = refl

pub returns-clause-pages : goal.returns-clause-pages
unfolding own_key bound_key free_key take_key give_key part_keys split_key swap_keys trim_key enter_module leave_module unload_module hook_tag unhook_tag load_module walk_op walk_item
returns-clause-pages c = refl

pub returns-clause-unload_shared : goal.returns-clause-unload_shared
unfolding own_key bound_key free_key take_key give_key part_keys split_key swap_keys trim_key enter_module leave_module unload_module hook_tag unhook_tag load_module walk_op walk_item
returns-clause-unload_shared c = refl

pub returns-clause-unload_before : goal.returns-clause-unload_before
unfolding own_key bound_key free_key take_key give_key part_keys split_key swap_keys trim_key enter_module leave_module unload_module hook_tag unhook_tag load_module walk_op walk_item
returns-clause-unload_before c = refl

pub returns-clause-not_loaded : goal.returns-clause-not_loaded
unfolding own_key bound_key free_key take_key give_key part_keys split_key swap_keys trim_key enter_module leave_module unload_module hook_tag unhook_tag load_module walk_op walk_item
returns-clause-not_loaded c = refl

pub returns-clause-inside : goal.returns-clause-inside
unfolding own_key bound_key free_key take_key give_key part_keys split_key swap_keys trim_key enter_module leave_module unload_module hook_tag unhook_tag load_module walk_op walk_item
returns-clause-inside c = refl

pub returns-clause-hooked : goal.returns-clause-hooked
unfolding own_key bound_key free_key take_key give_key part_keys split_key swap_keys trim_key enter_module leave_module unload_module hook_tag unhook_tag load_module walk_op walk_item
returns-clause-hooked c = refl

pub returns-clause-busy : goal.returns-clause-busy
unfolding own_key bound_key free_key take_key give_key part_keys split_key swap_keys trim_key enter_module leave_module unload_module hook_tag unhook_tag load_module walk_op walk_item
returns-clause-busy c = refl

pub returns-clause-deep : goal.returns-clause-deep
unfolding own_key bound_key free_key take_key give_key part_keys split_key swap_keys trim_key enter_module leave_module unload_module hook_tag unhook_tag load_module walk_op walk_item
returns-clause-deep c = refl

pub returns-clause-not_inside : goal.returns-clause-not_inside
unfolding own_key bound_key free_key take_key give_key part_keys split_key swap_keys trim_key enter_module leave_module unload_module hook_tag unhook_tag load_module walk_op walk_item
returns-clause-not_inside c = refl

pub returns-clause-no_hook : goal.returns-clause-no_hook
unfolding own_key bound_key free_key take_key give_key part_keys split_key swap_keys trim_key enter_module leave_module unload_module hook_tag unhook_tag load_module walk_op walk_item
returns-clause-no_hook c = refl

pub returns-clause-already_loaded : goal.returns-clause-already_loaded
unfolding own_key bound_key free_key take_key give_key part_keys split_key swap_keys trim_key enter_module leave_module unload_module hook_tag unhook_tag load_module walk_op walk_item
returns-clause-already_loaded c = refl
