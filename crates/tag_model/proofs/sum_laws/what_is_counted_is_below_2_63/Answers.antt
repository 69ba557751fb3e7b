use Rattle.tag_model.proofs.Bounds.{counted_below}
use Rattle.tag_model.proofs.sum_laws.what_is_counted_is_below_2_63.Goals as goal

pub returns : goal.returns
returns c k parts kind t ok safe = counted_below k kind t parts ok safe.each safe.fits
