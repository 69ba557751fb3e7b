-- A desk behind its lanes, with the workers, the CPUs and the module list that they left.
use Rattle.std.proofs.Common.{◌≡◌, List, length, map, sym, ap, ◌∙◌, subst}
use Rattle.std.specs.Vec.{with_items}
use Rattle.std.proofs.lemmas.List.{length-map, with_items_is}
use Rattle.std.proofs.lemmas.List.FromFn.{length-map-range_with_len}
use Rattle.tag_rule.specs.Shown.{CpuShown}
use Rattle.reclaim.specs.State.{LockedShown}
use Rattle.round_modules.specs.Inside.{notes_in, runs_in}
use Rattle.round_modules.specs.Known.{runs_of}
use Rattle.round_modules.proofs.CpuLists.{inside_along}
use Rattle.round_modules.proofs.Knows.{noted_along}
use Rattle.round_worker.specs.Shown.{WorkerShown}
use Rattle.trace.specs.declared.traces.OnOp.{OnOp}
use Rattle.trace_play.specs.Alone.{worker_done}
use Rattle.trace_play.specs.Fits.{is_owner}
use Rattle.trace_play.proofs.TraceFits.{seats_count}
use Rattle.standing.specs.Standing.{CpusStand, WorkersStand}
use Rattle.standing.specs.Turning.{LivesAre, home_of_round}
use Rattle.rounds.specs.TurnParts.{AreDealt, AreTurned}
use Rattle.rounds.specs.Turns.{IsDealt, IsTurned, Turn, first, known_in}
use Rattle.rounds.specs.declared.dealing.Dealt.{Dealt}
use Rattle.rounds.proofs.TurnedLanes.{many}

-- what its lanes take
pub dealt_parts : (t : Turn) (d : Dealt) → IsDealt t d → (lanes : List (List OnOp)) (workers : List WorkerShown) (cpus : List CpuShown)
    → lanes ≡ map (λ lane. lane.items) d.lanes.items → workers ≡ d.desk.workers.items → cpus ≡ d.desk.cpus.items → AreDealt t lanes workers cpus
dealt_parts t d is lanes workers cpus l w c = record {
  room = is.beside.room;
  inside = inside_along t.trace.cpus (runs_of (known_in t)) d.desk.cpus.items cpus (ap (map runs_in) c) is.beside.inside;
  lanes_are = l ∙ is.lanes_are;
  stand = subst (CpusStand t.board (first t)) (sym c) is.cpus;
  were = is.were;
  stood = is.stood;
  workers_are = w ∙ is.workers;
}

-- as many workers as before
workers_long : (t : Turn) (lanes : List (List OnOp)) (workers left : List WorkerShown) (cpus after : List CpuShown) → AreDealt t lanes workers cpus → AreTurned t left cpus after → length left ≡ length workers
workers_long t lanes workers left cpus after d turned =
    sym (length-map left (λ (w : WorkerShown). w.live))
    ∙ ap length turned.lives
    ∙ length-map-range_with_len (λ cpu. (worker_done (is_owner t.round.after) t.ops (first t) cpu).live) 0 (length (first t).seats)
    ∙ seats_count t.trace t.top t.round.round.front
    ∙ sym (many t lanes workers cpus d)

-- as many CPUs
cpus_long : (t : Turn) (left : List WorkerShown) (cpus after : List CpuShown) → AreTurned t left cpus after → length after ≡ length cpus
cpus_long t left cpus after turned = sym (length-map after runs_in) ∙ ap length turned.same.0 ∙ length-map cpus runs_in

-- with what they left
pub desk_turned : (t : Turn) (d : Dealt) → IsDealt t d → (left : List WorkerShown) (cpus after : List CpuShown) (locked : LockedShown) → cpus ≡ d.desk.cpus.items → locked.board ≡ d.desk.locked.board → AreTurned t left cpus after
    → IsTurned t (record { desk = record d.desk { cpus = with_items d.desk.cpus after; workers = with_items d.desk.workers left; locked = locked }; known = d.known })
desk_turned t d is left cpus after locked cpus_are board turned =
    let given = dealt_parts t d is (map (λ lane. lane.items) d.lanes.items) d.desk.workers.items cpus (λ i. map (λ lane. lane.items) d.lanes.items) (λ i. d.desk.workers.items) cpus_are in
    let workers_are : (with_items d.desk.workers left).items ≡ left =
    with_items_is d.desk.workers left (workers_long t (map (λ lane. lane.items) d.lanes.items) d.desk.workers.items left cpus after given turned ∙ sym d.desk.workers.ok.0) in
    let after_are : (with_items d.desk.cpus after).items ≡ after = with_items_is d.desk.cpus after (cpus_long t left cpus after turned ∙ ap length cpus_are ∙ sym d.desk.cpus.ok.0) in
    record {
      beside = record {
        room = is.beside.room;
        inside = inside_along t.trace.cpus (runs_of (known_in t)) d.desk.cpus.items (with_items d.desk.cpus after).items (ap (map runs_in) after_are ∙ turned.same.0 ∙ ap (map runs_in) cpus_are) is.beside.inside;
        noted = noted_along (known_in t) d.desk.cpus.items (with_items d.desk.cpus after).items (ap (map notes_in) after_are ∙ turned.same.1 ∙ ap (map notes_in) cpus_are) is.beside.noted;
        keys = is.beside.keys;
        own = is.beside.own;
        list = board ∙ is.beside.list;
        next = is.beside.next;
        sections_are = is.beside.sections_are;
        tags_are = is.beside.tags_are;
      };
      known_is = is.known_is;
      cpus = subst (CpusStand t.board (home_of_round t.ops (first t))) (sym after_are) turned.stand;
      workers = subst (WorkersStand t.board (home_of_round t.ops (first t))) (sym workers_are) turned.workers;
      lives = subst (LivesAre (is_owner t.round.after) t.ops (first t)) (sym workers_are) turned.lives;
    }
