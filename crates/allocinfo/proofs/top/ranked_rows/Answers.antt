use Rattle.allocinfo.proofs.RankLemmas.{IsRanking-ranked}
use Rattle.allocinfo.proofs.top.ranked_rows.Goals as goal

pub returns-clause-ranking : goal.returns-clause-ranking
returns-clause-ranking c = IsRanking-ranked c.args.rows.now
