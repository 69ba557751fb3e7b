use Rattle.std.proofs.Common.{List, IfOk, Option, ap, length, reverse, slice_get, subst, sym, ◌∙◌, arith}
use Rattle.tag_model.specs.declared.state.Tag.{Tag}
use Rattle.page_ext.specs.Paging.{MayCount}
use Rattle.slab_cache.specs.Giving.{given_object}
use Rattle.slab_cache.specs.Calls.{Gives}
use Rattle.slab_cache.specs.Shown.{state_of}
use Rattle.round_worker.proofs.HookLemmas.{current_is, depth_is}
use Rattle.round_worker.proofs.hooks.Hooks.object.Goals as goal

pub kmalloc-requires-clause-room : goal.kmalloc-requires-clause-room
kmalloc-requires-clause-room c =
    let depth = depth_is c.self.inside.task (reverse c.self.inside.out.items) c.self.invariant ∙ ap (λ (tags : List Tag). length tags) c.self.view_is in
    omega (arith, depth, c.requires.few)

pub kmalloc-requires-clause-allowed : goal.kmalloc-requires-clause-allowed
kmalloc-requires-clause-allowed c =
    let current = current_is c.self.inside.task (reverse c.self.inside.out.items) c.self.invariant ∙ ap (λ (tags : List Tag). slice_get tags 0) c.self.view_is in
    subst (λ (tag : Option Tag). MayCount tag c.args.cpu.now) (sym current) c.requires.allowed

pub returns-clause-gives : goal.returns-clause-gives
returns-clause-gives c =
    let current = current_is c.self.inside.task (reverse c.self.inside.out.items) c.self.invariant ∙ ap (λ (tags : List Tag). slice_get tags 0) c.self.view_is in
    subst (λ (tag : Option Tag). IfOk c.kmalloc.result (Gives (given_object tag c.args.size (state_of c.args.node.now)) c.args.node.now c.kmalloc.new.node c.args.cpu.now c.kmalloc.new.cpu)) current c.kmalloc.ensures.gives
