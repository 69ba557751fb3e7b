use Rattle.std.proofs.Common.{◌≡◌, ◌≤◌, take, vec_capacity}
use Rattle.tag_model.specs.StepRules.{dead_ids}
use Rattle.module_list.specs.Listing.{record_limit}
use Rattle.module_list.proofs.list.list_dead.Given as goal

abbrev pub invariant-loop-place : goal.invariant-loop-place
invariant-loop-place l = record {
  ids : l.left.items ≡ dead_ids (take l.place l.records);
  room : record_limit ≤ vec_capacity l.left;
}
