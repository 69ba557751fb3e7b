use Rattle.std.proofs.Common.{List, Option, Some, None, sym, ap, ◌∙◌, slice_set}
use Rattle.std.proofs.lemmas.List.{set-set}
use Rattle.slab_cache.specs.Shown.{SlabShown}
use Rattle.slab_cache.proofs.table.SlabTable.replace.Goals as goal

pub returns-in-Some-clause-table : goal.returns-in-Some-clause-table
returns-in-Some-clause-table c =
    c.put_in.ensures ∙ ap (λ (ss : List (Option SlabShown)). slice_set ss c.args.frame (Some c.in-Some.slab)) c.take_out-was.ensures.table ∙ set-set c.args.self.now c.args.frame None (Some c.in-Some.slab) ∙ ap (slice_set c.args.self.now c.args.frame) (sym c.in-Some.is)
