use Rattle.std.proofs.Common.{None, replicate, ap, ◌∙◌}
use Rattle.slab_cache.proofs.NodeLemmas.{fresh_stands}
use Rattle.slab_cache.proofs.node.SlabNode.new.Goals as goal

pub returns-clause-stands : goal.returns-clause-stands
returns-clause-stands c = fresh_stands c.args.node c.args.vectors c.in_ok-table.table (c.in_ok-table.ensures ∙ ap (λ n. replicate n None) c.frames.ensures) c.requires.own c.requires.table
