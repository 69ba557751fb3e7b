use Rattle.std.proofs.Common.{◌≡◌, ◌+◌, ◌-◌, nat_le, false, refl, arith}
use Rattle.std.proofs.lemmas.Bool.Decides.{nat_tests}
use Rattle.round_check.proofs.laws.refusals_of_a_line_in_order.Goals as goal
use Rattle.round_check.specs.Keys.{own_key, bound_key, free_key, take_key, give_key, part_keys, split_key, swap_keys, trim_key}
use Rattle.round_check.specs.Walk.{enter_module, leave_module, unload_module, hook_tag, unhook_tag, load_module, walk_op, walk_item}

pub returns-clause-shared_first : goal.returns-clause-shared_first
unfolding own_key bound_key free_key take_key give_key part_keys split_key swap_keys trim_key enter_module leave_module unload_module hook_tag unhook_tag load_module walk_op walk_item
returns-clause-shared_first c = refl

pub returns-clause-shared_second : goal.returns-clause-shared_second
unfolding own_key bound_key free_key take_key give_key part_keys split_key swap_keys trim_key enter_module leave_module unload_module hook_tag unhook_tag load_module walk_op walk_item
returns-clause-shared_second c = refl

pub returns-clause-no_key_first : goal.returns-clause-no_key_first
unfolding own_key bound_key free_key take_key give_key part_keys split_key swap_keys trim_key enter_module leave_module unload_module hook_tag unhook_tag load_module walk_op walk_item
returns-clause-no_key_first c = refl

pub returns-clause-kind_first : goal.returns-clause-kind_first
unfolding own_key bound_key free_key take_key give_key part_keys split_key swap_keys trim_key enter_module leave_module unload_module hook_tag unhook_tag load_module walk_op walk_item
returns-clause-kind_first c = refl

pub returns-clause-trimmed_first : goal.returns-clause-trimmed_first
unfolding own_key bound_key free_key take_key give_key part_keys split_key swap_keys trim_key enter_module leave_module unload_module hook_tag unhook_tag load_module walk_op walk_item
returns-clause-trimmed_first c = refl

pub returns-clause-shared_before_bound : goal.returns-clause-shared_before_bound
unfolding own_key bound_key free_key take_key give_key part_keys split_key swap_keys trim_key enter_module leave_module unload_module hook_tag unhook_tag load_module walk_op walk_item
returns-clause-shared_before_bound c = refl

pub returns-clause-shared_after_others : goal.returns-clause-shared_after_others
unfolding own_key bound_key free_key take_key give_key part_keys split_key swap_keys trim_key enter_module leave_module unload_module hook_tag unhook_tag load_module walk_op walk_item
returns-clause-shared_after_others c = refl

pub returns-clause-next_round : goal.returns-clause-next_round
unfolding own_key bound_key free_key take_key give_key part_keys split_key swap_keys trim_key enter_module leave_module unload_module hook_tag unhook_tag load_module walk_op walk_item
returns-clause-next_round c = refl

pub returns-clause-trimmed_before_orders : goal.returns-clause-trimmed_before_orders
unfolding own_key bound_key free_key take_key give_key part_keys split_key swap_keys trim_key enter_module leave_module unload_module hook_tag unhook_tag load_module walk_op walk_item
returns-clause-trimmed_before_orders c = refl

pub returns-clause-unload_before_leave : goal.returns-clause-unload_before_leave
unfolding own_key bound_key free_key take_key give_key part_keys split_key swap_keys trim_key enter_module leave_module unload_module hook_tag unhook_tag load_module walk_op walk_item
returns-clause-unload_before_leave c = refl

pub returns-clause-unload_again : goal.returns-clause-unload_again
unfolding own_key bound_key free_key take_key give_key part_keys split_key swap_keys trim_key enter_module leave_module unload_module hook_tag unhook_tag load_module walk_op walk_item
returns-clause-unload_again c = refl

pub returns-clause-shared_before_split : goal.returns-clause-shared_before_split
unfolding own_key bound_key free_key take_key give_key part_keys split_key swap_keys trim_key enter_module leave_module unload_module hook_tag unhook_tag load_module walk_op walk_item
returns-clause-shared_before_split c = refl

pub returns-clause-shared_before_trim : goal.returns-clause-shared_before_trim
unfolding own_key bound_key free_key take_key give_key part_keys split_key swap_keys trim_key enter_module leave_module unload_module hook_tag unhook_tag load_module walk_op walk_item
returns-clause-shared_before_trim c = refl

pub returns-clause-past_the_last : goal.returns-clause-past_the_last
unfolding part_keys
returns-clause-past_the_last c = λ keys turn key order first count past.
    let test : nat_le (first + count - 1) 65535 ≡ false = grind (arith, nat_tests) in
    rw (test) (refl)

pub returns-clause-not_loaded_before_inside : goal.returns-clause-not_loaded_before_inside
unfolding own_key bound_key free_key take_key give_key part_keys split_key swap_keys trim_key enter_module leave_module unload_module hook_tag unhook_tag load_module walk_op walk_item
returns-clause-not_loaded_before_inside c = refl

pub returns-clause-not_loaded_before_busy : goal.returns-clause-not_loaded_before_busy
unfolding own_key bound_key free_key take_key give_key part_keys split_key swap_keys trim_key enter_module leave_module unload_module hook_tag unhook_tag load_module walk_op walk_item
returns-clause-not_loaded_before_busy c = refl

pub returns-clause-not_inside_before_hooked : goal.returns-clause-not_inside_before_hooked
unfolding own_key bound_key free_key take_key give_key part_keys split_key swap_keys trim_key enter_module leave_module unload_module hook_tag unhook_tag load_module walk_op walk_item
returns-clause-not_inside_before_hooked c = refl
