use Rattle.std.proofs.Common.{sym, ap, ◌∙◌, subst}
use Rattle.slab_cache.specs.Calls.{Gives}
use Rattle.slab_cache.specs.Classes as classes
use Rattle.slab_cache.specs.Giving.{given_block}
use Rattle.slab_cache.specs.Shown.{SlabNodeShown, Stands, state_of}
use Rattle.slab_cache.specs.declared.object.Stored.TheVariants.{Pages}
use Rattle.slab_cache.proofs.GivenLemmas.{gives_block}
use Rattle.slab_cache.proofs.NodeLemmas.{shown}
use Rattle.slab_cache.proofs.giving.block_of.Goals as goal

pub returns-clause-gives : goal.returns-clause-gives
returns-clause-gives c =
    let node = shown c.node.inside.node c.node.inside.vectors c.node.inside.table in
    subst (λ n. Gives (given_block c.args.task.now.current (classes.order_of c.args.size) (state_of n)) n (shown c.alloc_pages.new.node c.node.inside.vectors c.node.inside.table) c.args.cpu.now c.alloc_pages.new.cpu (record { stored = Pages c.in_ok-block.block })) c.node.view_is
    (gives_block c.args.task.now.current c.order_of.result (classes.order_of c.args.size) node c.alloc_pages.new.node c.args.cpu.now c.alloc_pages.new.cpu c.in_ok-block.block (subst Stands (sym c.node.view_is) c.requires.at_home.stands)
    (ap (λ (n : SlabNodeShown). n.vectors.cpu) c.node.view_is ∙ c.requires.at_home.own) c.order_of.ensures.value c.in_ok-block.ensures.gives)
