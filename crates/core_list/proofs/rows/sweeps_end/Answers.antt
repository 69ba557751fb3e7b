use Rattle.core_list.proofs.Ends.{scan_falls, release_falls, begins_of_all, begins_of_one, most_of_all, most_of_one}
use Rattle.core_list.proofs.rows.sweeps_end.Goals as goal

pub returns-clause-scan : goal.returns-clause-scan
returns-clause-scan c k l word left r checked ok fits reading = scan_falls k l word left r ok fits reading

pub returns-clause-release : goal.returns-clause-release
returns-clause-release c k l id left done = release_falls k l id left done

pub returns-clause-of_all : goal.returns-clause-of_all
returns-clause-of_all c k l ok = begins_of_all k l ok

pub returns-clause-of_one : goal.returns-clause-of_one
returns-clause-of_one c k l id e ok found = begins_of_one k l id e ok found

pub returns-clause-most : goal.returns-clause-most
returns-clause-most c k l ok small = most_of_all k l ok small

pub returns-clause-most_of_one : goal.returns-clause-most_of_one
returns-clause-most_of_one c k l id e ok small found = most_of_one k l id e ok small found
