-- A round's keys are dealt, and its CPUs come into the modules that stay loaded.
use Rattle.std.proofs.Common.{◌≡◌, ℕ, ◌<◌, ◌≤◌, List, [], ◌∷◌, Vec, length, map, All, refl, sym, ap, ◌∙◌, subst, subst₂, arith}
use Rattle.std.specs.Prelude.{not}
use Rattle.std.specs.Arc.{arc_value}
use Rattle.std.specs.List.{range_with_len}
use Rattle.std.specs.Vec.{vec_len}
use Rattle.std.proofs.lemmas.List.{length-map}
use Rattle.std.proofs.lemmas.List.Elements.{All-cons, All-nil, All-weaker}
use Rattle.module_area.specs.declared.entry.Entry.{Entry}
use Rattle.tag_rule.specs.Shown.{Board, CpuShown, PassShown}
use Rattle.lanes.specs.Lanes.{lanes_of}
use Rattle.round_keys.specs.Handed.{handed, is_handed, with_lives}
use Rattle.round_keys.proofs.ComingBack.{low_cpus}
use Rattle.round_modules.specs.Inside.{AreInside, AreNoted, outside}
use Rattle.round_modules.specs.Known.{IsKnown, runs_of, unloaded_by}
use Rattle.round_modules.proofs.CpuLists.{alike_boards, alike_numbers}
use Rattle.round_modules.proofs.KnownBooks.{known_itself}
use Rattle.round_worker.specs.Kept.{live_of}
use Rattle.round_worker.specs.Parting.{AreKept}
use Rattle.round_worker.specs.Shown.{WorkerShown}
use Rattle.trace.specs.declared.traces.Item.TheVariants as item
use Rattle.trace.specs.declared.traces.OnOp.{OnOp}
use Rattle.trace_play.specs.Alone.{kept}
use Rattle.trace_play.specs.Machine.{Machine}
use Rattle.trace_play.proofs.TraceFits.{seats_count}
use Rattle.trace_cover.proofs.Told.{front_covered}
use Rattle.standing.specs.Standing.{CpusStand, standing_cpu}
use Rattle.standing.specs.Turning.{knowing}
use Rattle.standing.proofs.CpusMoved.{stand_long}
use Rattle.rounds.specs.Turns.{IsDealt, IsFirst, Turn, first, known_in}
use Rattle.rounds.specs.declared.dealing.Dealt.{Dealt}
use Rattle.rounds.specs.declared.desk.Desk.{Desk}

-- ---- CPUs that stand

twice : (b : Board) (m : Machine) (ns : List ℕ) → map outside (map (standing_cpu b m) ns) ≡ map (standing_cpu b m) ns
twice b m [] = refl
twice b m (n ∷ ns) = ap (λ cs. standing_cpu b m n ∷ cs) (twice b m ns)

their_numbers : (b : Board) (m : Machine) (ns : List ℕ) → map (λ (c : CpuShown). c.part.number) (map (standing_cpu b m) ns) ≡ ns
their_numbers b m [] = refl
their_numbers b m (n ∷ ns) = ap (λ xs. n ∷ xs) (their_numbers b m ns)

their_boards : (b : Board) (m : Machine) (ns : List ℕ) → All (λ (c : CpuShown). c.board ≡ b) (map (standing_cpu b m) ns)
their_boards b m [] = All-nil (λ (c : CpuShown). c.board ≡ b)
their_boards b m (n ∷ ns) = All-cons (λ (c : CpuShown). c.board ≡ b) (standing_cpu b m n) (map (standing_cpu b m) ns) refl (their_boards b m ns)

pub stand_numbers : (b : Board) (m : Machine) (cpus : List CpuShown) → CpusStand b m cpus → map (λ (c : CpuShown). c.part.number) cpus ≡ range_with_len 0 b.shape.cpus
stand_numbers b m cpus s =
    let ns = range_with_len 0 b.shape.cpus in
    alike_numbers (map (standing_cpu b m) ns) cpus (s ∙ sym (twice b m ns)) ∙ their_numbers b m ns

pub stand_boards : (b : Board) (m : Machine) (cpus : List CpuShown) → CpusStand b m cpus → All (λ (c : CpuShown). c.board ≡ b) cpus
stand_boards b m cpus s =
    let ns = range_with_len 0 b.shape.cpus in
    alike_boards (λ (c : CpuShown). c.board ≡ b) (λ c h. h) (λ c h. h) (map (standing_cpu b m) ns) cpus (s ∙ sym (twice b m ns)) (their_boards b m ns)

pub long : {X Z : Type 0} (v : Vec X Z) → vec_len v ≡ length v.items
long v = v.ok.0

-- ---- what the calls leave

pub record Dealing (ops : List OnOp) (d : Desk) (o : Dealt) : Type 0 where
  pub inside : ℕ
  pub inside_is : inside ≡ length d.workers.items
  pub lanes : map (λ lane. lane.items) o.lanes.items ≡ lanes_of inside ops
  pub known : o.known.items ≡ unloaded_by ops d.locked.area.entries
  pub workers : o.desk.workers.items ≡ map (knowing d.locked.area.entries) (with_lives (λ cpu. kept (handed ops cpu) (live_of d.keys)) d.workers.items)
  pub rest : live_of o.desk.keys ≡ kept (λ key. not (is_handed ops key)) (live_of d.keys)
  pub own : (b : Board) → AreKept b d.keys → AreKept b o.desk.keys
  pub came : AreInside inside (runs_of o.known.items) o.desk.cpus.items
  pub noted : AreNoted o.known.items o.desk.cpus.items
  pub same : map outside o.desk.cpus.items ≡ map outside d.cpus.items
  pub board : o.desk.locked.board ≡ d.locked.board
  pub pass : o.desk.pass ≡ d.pass
  pub sections : arc_value o.desk.sections ≡ arc_value d.sections
  pub tags : o.desk.tags ≡ d.tags

module _ (t : Turn) (d : Desk) (f : IsFirst t d) where
  count : length (first t).seats ≡ t.trace.cpus
  count = seats_count t.trace t.top t.round.round.front

  many : length d.workers.items ≡ t.trace.cpus
  many = sym (length-map d.workers.items (λ (w : WorkerShown). w.seat)) ∙ ap length f.workers.seats ∙ count

  pub few : length d.workers.items ≤ 64
  few = omega (arith, many, t.round.formed.cpus.1)

  pub some : 1 ≤ length d.workers.items
  some = omega (arith, many, t.round.formed.cpus.0)

  pub within : length d.workers.items ≤ length d.cpus.items
  within = omega (arith, many, f.room.cpus, stand_long t.board (first t) d.cpus.items f.cpus)

  pub low : All (λ (on : OnOp). on.cpu < length d.workers.items) t.ops
  low =
      let r = t.round in
      subst (λ n. All (λ (on : OnOp). on.cpu < n) t.ops) (count ∙ sym many) (low_cpus t.trace t.top t.ops r.before r.after r.formed r.passes r.round r.none r.walked)

  pub stores : All (λ (w : WorkerShown). AreKept w.board d.keys) d.workers.items
  stores = All-weaker (λ (w : WorkerShown). w.board ≡ t.board) (λ (w : WorkerShown). AreKept w.board d.keys) (λ w e. subst (λ (b : Board). AreKept b d.keys) (sym e) f.keys.kept) d.workers.items f.workers.boards

  pub pass_board : d.pass.board ≡ d.locked.board
  pass_board = ap (λ (p : PassShown). p.board) f.list.next ∙ sym f.list.board

  pub boards : All (λ (c : CpuShown). c.board ≡ d.locked.board) d.cpus.items
  boards = subst (λ (b : Board). All (λ (c : CpuShown). c.board ≡ b) d.cpus.items) (sym f.list.board) (stand_boards t.board (first t) d.cpus.items f.cpus)

  pub numbers : map (λ (c : CpuShown). c.part.number) d.cpus.items ≡ range_with_len 0 d.locked.board.shape.cpus
  numbers = stand_numbers t.board (first t) d.cpus.items f.cpus ∙ ap (λ (b : Board). range_with_len 0 b.shape.cpus) (sym f.list.board)

  entries_are : d.locked.area.entries ≡ (first t).area.entries
  entries_are = ap (λ a. a.entries) f.list.area

  pub itself : IsKnown d.locked.area.entries d.locked.area.entries
  itself =
      let r = t.round in
      let unused = (front_covered t.trace t.top r.formed r.passes r.round.front (item.Round t.ops ∷ r.round.back) r.round.stands).unused in
      subst (λ (es : List Entry). IsKnown es es) (sym entries_are) (known_itself (first t).area.entries unused)

  pub is_dealt : (o : Dealt) (ops : List OnOp) → t.ops ≡ ops → Dealing ops d o → IsDealt t o
  is_dealt o ops e g =
      let m = first t in
      let inside : g.inside ≡ t.trace.cpus = g.inside_is ∙ many in
      let known : o.known.items ≡ known_in t = g.known ∙ (λ i. unloaded_by (sym e i) (entries_are i)) in
      record {
        beside = record {
          room = f.room;
          inside = subst₂ (λ n (es : List Entry). AreInside n (runs_of es) o.desk.cpus.items) inside known g.came;
          noted = subst (λ (es : List Entry). AreNoted es o.desk.cpus.items) known g.noted;
          keys = g.rest ∙ (λ i. kept (λ key. not (is_handed (sym e i) key)) (f.keys.live i));
          own = g.own t.board f.keys.kept;
          list = g.board ∙ f.list.board;
          next = g.pass ∙ f.list.next;
          sections_are = g.sections ∙ f.sections_are;
          tags_are = g.tags ∙ f.tags_are;
        };
        lanes_are = g.lanes ∙ (λ i. lanes_of (inside i) (sym e i));
        known_is = known;
        cpus = g.same ∙ f.cpus;
        were = d.workers.items;
        stood = f.workers;
        workers = g.workers ∙ (λ i. map (knowing (entries_are i)) (with_lives (λ cpu. kept (handed (sym e i) cpu) (f.keys.live i)) d.workers.items));
      }
