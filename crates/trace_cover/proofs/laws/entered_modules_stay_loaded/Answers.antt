use Rattle.trace_cover.proofs.Told.{round_stays}
use Rattle.trace_cover.proofs.laws.entered_modules_stay_loaded.Goals as goal

pub returns : goal.returns
returns c = λ trace top ops before after formed passes round none walked cpu section low runs. round_stays trace top ops before after formed passes round none walked cpu section low runs
