use Rattle.std.proofs.Common.{◌≡◌, ◌↔◌, IsErr, IfOk, None, subst}
use Rattle.slab_cache.specs.Calls.{Gives}
use Rattle.slab_cache.specs.Giving.{object_or_block}
use Rattle.slab_cache.specs.Shown.{state_of}
use Rattle.slab_cache.proofs.giving.object_or_block.Goals as goal

pub returns-in-Some-clause-gives : goal.returns-in-Some-clause-gives
returns-in-Some-clause-gives c =
    subst (λ o. IfOk c.object_of.result (Gives (object_or_block c.args.task.now.current c.args.size (state_of c.args.node.now) o) c.args.node.now c.object_of.new.node c.args.cpu.now c.object_of.new.cpu)) c.in-Some.ensures c.object_of.ensures.gives

pub returns-in-Some-clause-no_frames : goal.returns-in-Some-clause-no_frames
returns-in-Some-clause-no_frames c = subst (λ o. IsErr c.object_of.result ↔ (object_or_block c.args.task.now.current c.args.size (state_of c.args.node.now) o ≡ None)) c.in-Some.ensures c.object_of.ensures.no_frames

pub returns-in-None-clause-gives : goal.returns-in-None-clause-gives
returns-in-None-clause-gives c =
    subst (λ o. IfOk c.block_of.result (Gives (object_or_block c.args.task.now.current c.args.size (state_of c.args.node.now) o) c.args.node.now c.block_of.new.node c.args.cpu.now c.block_of.new.cpu)) c.in-None.ensures c.block_of.ensures.gives

pub returns-in-None-clause-no_frames : goal.returns-in-None-clause-no_frames
returns-in-None-clause-no_frames c = subst (λ o. IsErr c.block_of.result ↔ (object_or_block c.args.task.now.current c.args.size (state_of c.args.node.now) o ≡ None)) c.in-None.ensures c.block_of.ensures.no_frames
