use Rattle.std.proofs.Common.{◌≡◌, ◌<◌, List, length, map, All, refl, sym, ap, ◌∙◌, subst, subst₂, arith}
use Rattle.std.proofs.lemmas.List.{with_items_is}
use Rattle.module_area.specs.declared.entry.Entry.{Entry}
use Rattle.tag_rule.specs.Shown.{CpuShown}
use Rattle.round_keys.specs.Handed.{handed, with_lives}
use Rattle.round_modules.specs.Inside.{AreInside, AreNoted, outside}
use Rattle.round_modules.specs.Known.{IsKnown, runs_of, unloaded_by}
use Rattle.round_worker.specs.Kept.{live_of}
use Rattle.round_worker.specs.Parting.{AreKept}
use Rattle.round_worker.specs.Shown.{WorkerShown}
use Rattle.trace.specs.declared.traces.OnOp.{OnOp}
use Rattle.trace_play.specs.Alone.{kept}
use Rattle.standing.specs.Turning.{knowing}
use Rattle.rounds.proofs.DeskDealt.{boards, few, is_dealt, itself, long, low, numbers, pass_board, some, stores, within}
use Rattle.rounds.proofs.desk.Desk.deal.Goals as goal

pub overflow_cast-inside : goal.overflow_cast-inside
overflow_cast-inside c =
    let d = c.args.self in
    omega (arith, c.len-inside.ensures ∙ long d.workers, few c.requires.turn d c.requires.is)

pub equip-requires-clause-cpus : goal.equip-requires-clause-cpus
equip-requires-clause-cpus c =
    subst₂ (λ (ws : List WorkerShown) (ops : List OnOp). All (λ (on : OnOp). on.cpu < length ws) ops) (sym c.as_mut_slice.ensures.value) c.requires.ops_are (low c.requires.turn c.args.self c.requires.is)

pub equip-requires-clause-kept : goal.equip-requires-clause-kept
equip-requires-clause-kept c =
    subst (All (λ (w : WorkerShown). AreKept w.board c.args.self.keys)) (sym c.as_mut_slice.ensures.value) (stores c.requires.turn c.args.self c.requires.is)

pub begin-requires-clause-tables : goal.begin-requires-clause-tables
begin-requires-clause-tables c = (
  pass_board c.requires.turn c.args.self c.requires.is,
  subst (All (λ (x : CpuShown). x.board ≡ c.args.self.locked.board)) (sym c.as_mut_slice-3.ensures.value) (boards c.requires.turn c.args.self c.requires.is),
)

pub begin-requires-clause-all : goal.begin-requires-clause-all
begin-requires-clause-all c = ap (map (λ (x : CpuShown). x.part.number)) c.as_mut_slice-3.ensures.value ∙ numbers c.requires.turn c.args.self c.requires.is

pub begin-requires-clause-some : goal.begin-requires-clause-some
begin-requires-clause-some c =
    let d = c.args.self in
    let inside = c.len-inside.ensures ∙ long d.workers in (
      omega (arith, inside, some c.requires.turn d c.requires.is),
      omega (arith, inside, within c.requires.turn d c.requires.is, ap length c.as_mut_slice-3.ensures.value),
    )

-- the book's entries are those that are known at first
found : (c : goal.After-as_slice-2) → c.as_mut_slice-2.result.now ≡ c.args.self.locked.area.entries
found c = c.as_mut_slice-2.ensures.value ∙ c.in_ok-known.ensures

-- what `begin` is told is what was marked
told : (c : goal.After-as_slice-2) → c.as_slice-2.result.now ≡ c.unload_known.new.known
told c = c.as_slice-2.ensures.value ∙ with_items_is c.in_ok-known.known c.unload_known.new.known (c.unload_known.auto.known ∙ c.as_mut_slice-2.ensures.len)

pub begin-requires-clause-known : goal.begin-requires-clause-known
begin-requires-clause-known c =
    let book = c.args.self.locked.area.entries in
    subst (IsKnown book) (sym (told c)) (c.unload_known.ensures.still book (subst (IsKnown book) (sym (found c)) (itself c.requires.turn c.args.self c.requires.is)))

pub returns : goal.returns
returns c t e f =
    let d = c.args.self in
    let ops = c.args.ops.now in
    let known = with_items_is c.in_ok-known.known c.unload_known.new.known (c.unload_known.auto.known ∙ c.as_mut_slice-2.ensures.len) in
    let workers = with_items_is d.workers c.equip.new.workers (c.equip.auto.workers ∙ c.as_mut_slice.ensures.len) in
    let cpus = with_items_is d.cpus c.begin.new.cpus (c.begin.auto.cpus ∙ c.as_mut_slice-3.ensures.len) in
    let first_known = c.as_mut_slice-2.ensures.value ∙ c.in_ok-known.ensures in
    let modules = c.as_slice.ensures.value ∙ c.in_ok-known.ensures in
    is_dealt t d f _ ops e (record {
      inside = c.len-inside.result;
      inside_is = c.len-inside.ensures ∙ long d.workers;
      lanes = c.in_ok-lanes.ensures;
      known = known ∙ c.unload_known.ensures.marked ∙ ap (unloaded_by ops) first_known;
      workers = workers ∙ c.in_ok-equip.ensures.workers
          ∙ (λ i. map (knowing (modules i)) (with_lives (λ cpu. kept (handed ops cpu) (live_of d.keys)) (c.as_mut_slice.ensures.value i)));
      rest = c.in_ok-equip.ensures.rest;
      own = c.in_ok-equip.ensures.still;
      came = subst₂ (λ (es : List Entry) (cs : List CpuShown). AreInside c.len-inside.result (runs_of es) cs) c.as_slice-2.ensures.value (sym cpus) c.begin.ensures.inside;
      noted = subst₂ (λ (es : List Entry) (cs : List CpuShown). AreNoted es cs) c.as_slice-2.ensures.value (sym cpus) c.begin.ensures.noted;
      same = ap (map outside) cpus ∙ c.begin.ensures.rest ∙ ap (map outside) c.as_mut_slice-3.ensures.value;
      board = c.begin.ensures.same.0.board;
      pass = c.begin.ensures.same.1;
      sections = refl;
      tags = refl;
    })
