use Rattle.reclaim.proofs.Reading.{scans_one}
use Rattle.reclaim.proofs.stepping.read_next.Goals as goal

pub returns-in-Bytes-clause-read : goal.returns-in-Bytes-clause-read
returns-in-Bytes-clause-read c = scans_one c.args.list.now.board.shape c.args.list.now.part c.scan_byte.new.list.part c.scan_byte.result c.tell.ensures.holds.rises c.tell.ensures.holds.sweep c.requires c.scan_byte.ensures.row

pub returns-in-Calls-clause-read : goal.returns-in-Calls-clause-read
returns-in-Calls-clause-read c = scans_one c.args.list.now.board.shape c.args.list.now.part c.scan_call.new.list.part c.scan_call.result c.tell.ensures.holds.rises c.tell.ensures.holds.sweep c.requires c.scan_call.ensures.row
