use Rattle.std.proofs.Common.{◌≡◌, All, List, [], ap, subst, sym}
use Rattle.tag_rule.specs.Shown.{CpuShown}
use Rattle.reclaim.specs.State.{LockedShown}
use Rattle.round_worker.specs.Kept.{KeyList}
use Rattle.round_worker.specs.Shown.{WorkerShown}
use Rattle.standing.specs.Standing.{CpusStand, KeysStand, WorkersStand}
use Rattle.trace_play.specs.Machine.{machine_of}
use Rattle.rounds.proofs.Begun.{cpus_begin, keys_begin, none_inside, none_live, same_shape, workers_begin}
use Rattle.rounds.proofs.desk.Desk.begin.Goals as goal

-- src/beginning.rt:20:5
pub returns : goal.returns
returns c k trace s fits sections_are tags_are = record {
  room = same_shape s.board.shape k trace s.shape fits;
  cpus = subst (λ (cpus : List CpuShown). CpusStand s.board (machine_of trace) cpus) (sym s.cpus) (cpus_begin s.board trace);
  outside = subst (λ (cpus : List CpuShown). All (λ (c : CpuShown). c.part.runs ≡ []) cpus) (sym s.cpus) (none_inside s.board trace);
  workers = subst (λ (workers : List WorkerShown). WorkersStand s.board (machine_of trace) workers) (sym s.workers) (workers_begin s.board trace);
  none = subst (λ (workers : List WorkerShown). All (λ (w : WorkerShown). w.live ≡ []) workers) (sym s.workers) (none_live s.board trace);
  keys = subst (λ (keys : KeyList). KeysStand s.board (machine_of trace) keys) (sym c.new.ensures) (keys_begin s.board trace);
  list = record {
    board = ap (λ (l : LockedShown). l.board) s.locked;
    area = ap (λ (l : LockedShown). l.area) s.locked;
    sections_are = ap (λ (l : LockedShown). l.sections) s.locked;
    next = s.pass;
  };
  sections_are = sections_are;
  tags_are = tags_are;
}
