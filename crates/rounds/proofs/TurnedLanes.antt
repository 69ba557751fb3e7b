-- Lanes over the first of a table's CPUs: they are ready, what they leave may go home, and the round's turn is done then.
use Rattle.std.proofs.Common.{◌≡◌, ◌≤◌, List, [], ◌∷◌, ◌++◌, length, map, refl, sym, ap, ◌∙◌, subst, arith}
use Rattle.std.specs.Prelude.{drop, take}
use Rattle.std.proofs.Math.Seq.{take-append_seam}
use Rattle.std.proofs.lemmas.List.{length-map, length-take-le, map-append, take-append-drop}
use Rattle.std.proofs.lemmas.Slice.{drop-append-drop}
use Rattle.tag_model.specs.Moves.{Move}
use Rattle.tag_model.specs.declared.state.Note.{Note}
use Rattle.tag_model.specs.declared.state.Run.{Run}
use Rattle.tag_rule.specs.Shown.{CpuShown}
use Rattle.tag_ref.specs.Refs.{moved_by}
use Rattle.homing.specs.Seats.{FindsHome, home_moves, seats_home}
use Rattle.homing.specs.Workers.{AreBeside, seats_of, with_seats}
use Rattle.lanes.specs.Lanes.{AreDone, AreReady, lanes_of}
use Rattle.round_modules.specs.Inside.{notes_in, runs_in}
use Rattle.round_worker.specs.Shown.{WorkerShown}
use Rattle.trace.specs.declared.traces.OnOp.{OnOp}
use Rattle.trace_play.specs.Live.{Live}
use Rattle.trace_play.specs.Worker.{Seat}
use Rattle.trace_play.specs.Barrier.{cpus_done}
use Rattle.trace_play.specs.Fits.{is_owner}
use Rattle.trace_play.proofs.TraceFits.{seats_count}
use Rattle.standing.specs.Standing.{CpusStand, WorkersStand}
use Rattle.standing.specs.Turning.{AreSameButWords, LivesAre, dealt, home_of_round}
use Rattle.standing.proofs.CpusMoved.{stand_long}
use Rattle.standing.proofs.DoneLanes.{cpus_stand, dealt_long, lives_are, same_but_words, workers_stand}
use Rattle.standing.proofs.HomedRound.{home, ready}
use Rattle.standing.proofs.ReadyLanes.{are_ready}
use Rattle.rounds.specs.TurnParts.{AreDealt, AreTurned}
use Rattle.rounds.specs.Turns.{Turn, first}

-- ---- what a move of words leaves

moved_runs : (moves : List Move) (cpus : List CpuShown) → map runs_in (map (moved_by moves) cpus) ≡ map runs_in cpus
moved_runs moves [] = refl
moved_runs moves (c ∷ cs) = ap (λ (rest : List (List Run)). c.part.runs ∷ rest) (moved_runs moves cs)

moved_notes : (moves : List Move) (cpus : List CpuShown) → map notes_in (map (moved_by moves) cpus) ≡ map notes_in cpus
moved_notes moves [] = refl
moved_notes moves (c ∷ cs) = ap (λ (rest : List (List Note)). c.part.notes ∷ rest) (moved_notes moves cs)

-- a worker's keys stay where its seat changes
lives_stay : (seats : List Seat) (workers : List WorkerShown) → length (with_seats seats workers) ≡ length workers → map (λ (w : WorkerShown). w.live) (with_seats seats workers) ≡ map (λ (w : WorkerShown). w.live) workers
lives_stay [] [] long = refl
lives_stay [] (w ∷ workers) long = absurd (omega (arith, long))
lives_stay (seat ∷ seats) [] long = refl
lives_stay (seat ∷ seats) (w ∷ workers) long = ap (λ (rest : List Live). w.live ∷ rest) (lives_stay seats workers (omega (arith, long)))

-- ---- the lanes begin

module _ (t : Turn) (lanes : List (List OnOp)) (workers : List WorkerShown) (cpus : List CpuShown) (d : AreDealt t lanes workers cpus) where
  pub many : length workers ≡ t.trace.cpus
  many =
      ap length d.workers_are ∙ dealt_long t.ops (first t) d.were
      ∙ sym (length-map d.were (λ (w : WorkerShown). w.seat)) ∙ ap length d.stood.seats ∙ seats_count t.trace t.top t.round.round.front

  long : length cpus ≡ t.board.shape.cpus
  long = stand_long t.board (first t) cpus d.stand

  within : t.trace.cpus ≤ length cpus
  within = omega (arith, long, d.room.cpus)

  pub few : length workers ≤ length cpus
  few = omega (arith, many, within)

  pub taken : length workers ≡ length (take (length workers) cpus)
  taken = sym (length-take-le (length workers) cpus few)

  pub lanes_ready : AreReady lanes workers (take (length workers) cpus)
  lanes_ready =
      subst (λ n. AreReady lanes workers (take n cpus)) (sym many)
      (subst (λ ws. AreReady lanes ws (take t.trace.cpus cpus)) (sym d.workers_are)
      (subst (λ ls. AreReady ls (dealt t.ops (first t) d.were) (take t.trace.cpus cpus)) (sym d.lanes_are)
      (are_ready t.trace t.top t.ops t.round t.board cpus d.were d.room d.stand d.stood d.inside)))

  -- ---- they are done

  module _ (left : List WorkerShown) (middle : List CpuShown) (done : AreDone lanes workers left (take (length workers) cpus) middle) where
    same_done : AreDone (lanes_of t.trace.cpus t.ops) (dealt t.ops (first t) d.were) left (take t.trace.cpus cpus) middle
    same_done =
        subst (λ ls. AreDone ls (dealt t.ops (first t) d.were) left (take t.trace.cpus cpus) middle) d.lanes_are
        (subst (λ ws. AreDone lanes ws left (take t.trace.cpus cpus) middle) d.workers_are
        (subst (λ n. AreDone lanes workers left (take n cpus) middle) many done))

    workers_left : WorkersStand t.board (cpus_done t.ops (first t)) left
    workers_left = workers_stand t.trace t.top t.ops t.round t.board cpus middle d.were left d.room d.stand d.stood same_done

    lives_left : LivesAre (is_owner t.round.after) t.ops (first t) left
    lives_left = lives_are t.trace t.top t.ops t.round t.board cpus middle d.were left d.room d.stand d.stood same_done

    cpus_left : CpusStand t.board (cpus_done t.ops (first t)) (middle ++ drop t.trace.cpus cpus)
    cpus_left = cpus_stand t.trace t.top t.ops t.round t.board cpus middle d.were left d.room d.stand d.stood same_done

    same_left : AreSameButWords (take t.trace.cpus cpus) middle
    same_left = same_but_words t.trace t.top t.ops t.round t.board cpus middle d.were left d.room d.stand d.stood same_done

    middle_long : length middle ≡ t.trace.cpus
    middle_long = sym (length-map middle runs_in) ∙ ap length same_left.0 ∙ length-map (take t.trace.cpus cpus) runs_in ∙ length-take-le t.trace.cpus cpus within

    first_is : take t.trace.cpus (middle ++ drop t.trace.cpus cpus) ≡ middle
    first_is = subst (λ n. take n (middle ++ drop t.trace.cpus cpus) ≡ middle) middle_long (take-append_seam middle (drop t.trace.cpus cpus))

    others_are : drop t.trace.cpus (middle ++ drop t.trace.cpus cpus) ≡ drop t.trace.cpus cpus
    others_are = drop-append-drop t.trace.cpus cpus middle t.trace.cpus (omega arith) middle_long

    may_go : AreBeside left (take t.trace.cpus (middle ++ drop t.trace.cpus cpus)) × FindsHome (seats_of left)
    may_go = ready t.trace t.top t.ops t.round t.board (middle ++ drop t.trace.cpus cpus) left d.room cpus_left workers_left

    pub beside_left : AreBeside left middle
    beside_left = subst (λ cs. AreBeside left cs) first_is may_go.0

    pub finds_home : FindsHome (seats_of left)
    finds_home = may_go.1

    -- ---- storage is home

    module _ (after : List WorkerShown) (homed : List CpuShown) (after_is : after ≡ with_seats (seats_home (seats_of left)) left) (homed_is : homed ≡ map (moved_by (home_moves (seats_of left))) middle) (beside : AreBeside after homed) where
      both_home : WorkersStand t.board (home_of_round t.ops (first t)) after
          × CpusStand t.board (home_of_round t.ops (first t)) (map (moved_by (home_moves (seats_of left))) (take t.trace.cpus (middle ++ drop t.trace.cpus cpus)) ++ drop t.trace.cpus (middle ++ drop t.trace.cpus cpus))
      both_home = home t.trace t.top t.ops t.round t.board (middle ++ drop t.trace.cpus cpus) left d.room cpus_left workers_left after after_is

      stand_home : CpusStand t.board (home_of_round t.ops (first t)) (homed ++ drop t.trace.cpus cpus)
      stand_home = subst (λ cs. CpusStand t.board (home_of_round t.ops (first t)) cs) (λ i. (ap (map (moved_by (home_moves (seats_of left)))) first_is ∙ sym homed_is) i ++ others_are i) both_home.1

      homed_long : length homed ≡ length middle
      homed_long = ap length homed_is ∙ length-map middle (moved_by (home_moves (seats_of left)))

      after_long : length after ≡ length left
      after_long = beside.long ∙ homed_long ∙ sym beside_left.long

      lives_home : LivesAre (is_owner t.round.after) t.ops (first t) after
      lives_home =
          ap (map (λ (w : WorkerShown). w.live)) after_is
          ∙ lives_stay (seats_home (seats_of left)) left (sym (ap length after_is) ∙ after_long)
          ∙ lives_left

      same_of : {X : Type 0} (f : CpuShown → X) → map f homed ≡ map f (take t.trace.cpus cpus) → map f (homed ++ drop t.trace.cpus cpus) ≡ map f cpus
      same_of f same =
          map-append f homed (drop t.trace.cpus cpus)
          ∙ ap (λ xs. xs ++ map f (drop t.trace.cpus cpus)) same
          ∙ sym (map-append f (take t.trace.cpus cpus) (drop t.trace.cpus cpus))
          ∙ ap (map f) (take-append-drop t.trace.cpus cpus)

      same_home : AreSameButWords cpus (homed ++ drop t.trace.cpus cpus)
      same_home = (
        same_of runs_in (ap (map runs_in) homed_is ∙ moved_runs (home_moves (seats_of left)) middle ∙ same_left.0),
        same_of notes_in (ap (map notes_in) homed_is ∙ moved_notes (home_moves (seats_of left)) middle ∙ same_left.1),
      )

      pub turned : AreTurned t after cpus (homed ++ drop (length workers) cpus)
      turned = subst (λ n. AreTurned t after cpus (homed ++ drop n cpus)) (sym many) (record { workers = both_home.0; lives = lives_home; stand = stand_home; same = same_home })
