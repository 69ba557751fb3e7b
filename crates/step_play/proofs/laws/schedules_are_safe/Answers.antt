use Rattle.step_play.proofs.ReachedLemmas.{all_idle, reached_core, reached_releases, reached_row, reached_quiet, play_reaches, setting_is, schedule_asks}
use Rattle.step_play.proofs.laws.schedules_are_safe.Goals as goal

pub returns-clause-setting : goal.returns-clause-setting
returns-clause-setting c steps are = setting_is steps are

pub returns-clause-lines : goal.returns-clause-lines
returns-clause-lines c steps are = schedule_asks steps are

pub returns-clause-reached : goal.returns-clause-reached
returns-clause-reached c s lines p all is = play_reaches s lines p all is

pub returns-clause-safe : goal.returns-clause-safe
returns-clause-safe c s p is reached = (reached_core s p is reached).safe

pub returns-clause-released : goal.returns-clause-released
returns-clause-released c s p who is reached none = reached_releases s p who is reached none

pub returns-clause-quiet : goal.returns-clause-quiet
returns-clause-quiet c s p kind t is reached quiet below = reached_quiet s p kind t is reached quiet below

pub returns-clause-row : goal.returns-clause-row
returns-clause-row c s p who reads is reached none = reached_row s p who is reached none reads

pub returns-clause-all : goal.returns-clause-all
returns-clause-all c s p q who is reached e = all_idle s who p q is reached e
