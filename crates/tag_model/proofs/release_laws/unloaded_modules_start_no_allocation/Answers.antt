use Rattle.tag_model.proofs.PartTells.{begins_live_by, opens_live_by}
use Rattle.tag_model.proofs.release_laws.unloaded_modules_start_no_allocation.Goals as goal

pub returns-clause-begins : goal.returns-clause-begins
returns-clause-begins c k tag cpu after l parts row stands safe = begins_live_by k tag cpu after l parts row stands safe

pub returns-clause-has_begun : goal.returns-clause-has_begun
returns-clause-has_begun c k cpu l parts hand stands safe is opens = opens_live_by k cpu l parts hand stands safe is opens
