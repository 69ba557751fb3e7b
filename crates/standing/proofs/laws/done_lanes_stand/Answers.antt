use Rattle.standing.proofs.DoneLanes.{cpus_stand, lives_are, same_but_words, workers_stand}
use Rattle.standing.proofs.laws.done_lanes_stand.Goals as goal

pub returns : goal.returns
returns c = λ trace top ops r b cpus after workers left room s w d. (
  workers_stand trace top ops r b cpus after workers left room s w d,
  lives_are trace top ops r b cpus after workers left room s w d,
  cpus_stand trace top ops r b cpus after workers left room s w d,
  same_but_words trace top ops r b cpus after workers left room s w d,
)
