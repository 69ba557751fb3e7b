use Rattle.std.proofs.Common.{◌≡◌, ◌∷◌, [], refl, subst, true}
use Rattle.tag_model.specs.Sweeping.{is_accounted}
use Rattle.tag_model.proofs.Accounted.{marks_account, releases_account, scans_above_zero, scans_account, sweeps_account}
use Rattle.core_list.specs.ListState.{dead_list, list_part, released, swept_list}
use Rattle.core_list.proofs.Changes.{marks_id, row-marks_dead, row-releases, row-scans}
use Rattle.core_list.proofs.rows.dead_modules_are_listed_or_have_a_stop.Goals as goal

pub returns-clause-swept : goal.returns-clause-swept
returns-clause-swept c l n id away = sweeps_account (list_part n away l) (list_part n away (swept_list l)) id (record { after = refl })

pub returns-clause-dead : goal.returns-clause-dead
returns-clause-dead c l n id e away ok found loaded unused =
    subst (λ i. is_accounted i (list_part n away (dead_list id l)) ≡ true) (marks_id l n id e away ok found loaded unused) (marks_account (list_part n away l) (list_part n away (dead_list id l)) (row-marks_dead l n id e away ok found loaded unused))

pub returns-clause-scanned : goal.returns-clause-scanned
returns-clause-scanned c k l n id away left r cpu reading next was = scans_account k left r cpu (list_part n away l) _ id (row-scans k l n away left r cpu reading next) was

pub returns-clause-released : goal.returns-clause-released
returns-clause-released c l n id gone away left done was = releases_account (gone ∷ left) gone (list_part n away l) (list_part n away (released l)) id (row-releases l n gone away left done) was

pub returns-clause-sums : goal.returns-clause-sums
returns-clause-sums c k l left r cpu reading next was = scans_above_zero k left r cpu (list_part 0 [] l) _ (row-scans k l 0 [] left r cpu reading next) was
