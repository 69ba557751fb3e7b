use Rattle.module_list.proofs.Changes.{scan_finds_nothing}
use Rattle.core_list.proofs.Changes.{scan_goes_on}
use Rattle.core_list.proofs.rows.reads_before_the_last_cpu.Goals as goal

pub returns-clause-goes_on : goal.returns-clause-goes_on
returns-clause-goes_on c k word l left r reading more = scan_goes_on k word l left r reading more

pub returns-clause-finds_nothing : goal.returns-clause-finds_nothing
returns-clause-finds_nothing c k word left r more = scan_finds_nothing k word left r more
