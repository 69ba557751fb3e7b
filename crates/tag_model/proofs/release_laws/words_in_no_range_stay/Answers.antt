use Rattle.tag_model.proofs.NobodysWords.{history_stays, leads_stays}
use Rattle.tag_model.proofs.release_laws.words_in_no_range_stay.Goals as goal

pub returns-clause-a_step : goal.returns-clause-a_step
returns-clause-a_step c k n kind t old new leads safe free = leads_stays k n kind t old new leads safe free

pub returns-clause-a_history : goal.returns-clause-a_history
returns-clause-a_history c k n kind t first later ok safe history free = history_stays k n kind t first later ok safe history free
