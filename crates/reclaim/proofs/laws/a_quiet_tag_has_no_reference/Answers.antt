use Rattle.reclaim.proofs.Releasing.{quiet_tag}
use Rattle.reclaim.proofs.laws.a_quiet_tag_has_no_reference.Goals as goal

pub returns : goal.returns
returns c k cpus l next parts t ok all stands safe quiet = quiet_tag k cpus l next parts t ok all stands safe quiet
