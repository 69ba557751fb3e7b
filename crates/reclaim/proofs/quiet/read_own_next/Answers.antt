use Rattle.std.proofs.Common.{refl}
use Rattle.reclaim.proofs.QuietSweep.{index_below, next_is, scans_own}
use Rattle.reclaim.proofs.quiet.read_own_next.Goals as goal

pub bounds-cpus-reader : goal.bounds-cpus-reader
bounds-cpus-reader c = index_below c.args.list.now.board.shape c.args.list.now.part.sweep c.args.list.now.part.records c.args.reader c.args.cpus.now c.tell.ensures.holds.sweep c.requires.reader c.requires.all

pub scan_own-requires-clause-table : goal.scan_own-requires-clause-table
scan_own-requires-clause-table c =
    let below = index_below c.args.list.now.board.shape c.args.list.now.part.sweep c.args.list.now.part.records c.args.reader c.args.cpus.now c.tell.ensures.holds.sweep c.requires.reader c.requires.all in
    c.requires.tables c.args.reader.cpu c.index-cpus-reader.result below

pub scan_own-requires-clause-next : goal.scan_own-requires-clause-next
scan_own-requires-clause-next c =
    let below = index_below c.args.list.now.board.shape c.args.list.now.part.sweep c.args.list.now.part.records c.args.reader c.args.cpus.now c.tell.ensures.holds.sweep c.requires.reader c.requires.all in
    next_is c.args.list.now.board.shape c.args.list.now.part.sweep c.args.reader c.args.cpus.now c.index-cpus-reader.result c.requires.reader c.requires.all below

pub returns-clause-read : goal.returns-clause-read
returns-clause-read c =
    let k = c.args.list.now.board.shape in
    let p = c.args.list.now.part in
    let below = index_below k p.sweep p.records c.args.reader c.args.cpus.now c.tell.ensures.holds.sweep c.requires.reader c.requires.all in
    scans_own k c.args.cpus.now p c.scan_own.new.list.part c.args.reader c.index-cpus-reader.result _ c.tell.ensures.holds.rises c.tell.ensures.holds.sweep c.requires.reader below refl c.scan_own.ensures.row
