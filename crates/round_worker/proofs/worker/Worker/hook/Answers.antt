use Rattle.round_worker.proofs.TagLemmas.{may_count_low}
use Rattle.round_worker.proofs.worker.Worker.hook.Goals as goal

pub tag_in-tag-requires : goal.tag_in-tag-requires
tag_in-tag-requires c = may_count_low c.args.cpu.now _ c.tell.ensures c.requires.1
