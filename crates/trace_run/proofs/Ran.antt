-- What a run begins with, what it leaves of a plant, and its last line.
use Rattle.std.proofs.Common.{◌≡◌, ◌<◌, ◌≤◌, ◌++◌, ℕ, Bool, false, List, [], ◌∷◌, length, map, Option, Some, Ok, slice_get, refl, sym, ap, ap₂, ◌∙◌, subst, append-nil}
use Rattle.std.specs.List.{flat_map}
use Rattle.std.proofs.lemmas.List.Elements.{All-weaker}
use Rattle.std.proofs.lemmas.Option.{get_or_from_slice_get, slice_get_within}
use Rattle.tag_model.specs.declared.shape.Shape.{Shape}
use Rattle.tag_model.specs.declared.state.Kind.{Kind}
use Rattle.tag_model.specs.declared.state.Kind.TheVariants.{Bytes, Calls}
use Rattle.tag_model.specs.Moves.{moved_word}
use Rattle.tag_rule.specs.Shown.{Board, CpuShown}
use Rattle.percpu_words.specs.CpuWords.{word_in}
use Rattle.plant.specs.Fresh.{FitsShape, IsStarted}
use Rattle.plant.specs.Table.{IsLeft, PlantShown, cells_in, cells_of, quiet_text, slab_cells_of}
use Rattle.plant.specs.declared.left.Left.{Left}
use Rattle.plant.specs.declared.starting.Started.{Started}
use Rattle.tag_model.specs.declared.state.Held.{Held}
use Rattle.tag_model.specs.Index.{Slot}
use Rattle.tag_section.specs.Section.{Section, section_at}
use Rattle.reclaim.specs.State.{IsLocked}
use Rattle.round_worker.specs.Parting.{AreKept}
use Rattle.round_worker.specs.Shown.{WorkerShown}
use Rattle.trace.specs.declared.traces.Item.{Item}
use Rattle.trace.specs.declared.traces.Trace.{Trace}
use Rattle.run_text.specs.Lines.{done_of}
use Rattle.run_text.specs.declared.done.Done.{Done}
use Rattle.std.specs.Prelude.{count_by, sum_by}
use Rattle.trace_play.specs.Live.{Content, Live}
use Rattle.trace_play.specs.Machine.{Machine, content_cell, live_cells, live_count, slab_cells}
use Rattle.trace_play.specs.Printed.{dead_of, print_text}
use Rattle.trace_play.specs.Worker.{Seat}
use Rattle.trace_play.specs.Play.{is_round, ops_in}
use Rattle.standing.specs.Standing.{CpusStand}
use Rattle.standing.proofs.CpusMoved.{stand_at, stand_long}
use Rattle.standing.proofs.EndTotals.{moved_at}
use Rattle.rounds.proofs.PrintsAt.{above_kernel, boards, kernel_fits, prints}
use Rattle.rounds.specs.Places.{IsThere, Place, machine_at}
use Rattle.rounds.specs.Turns.{StandsAt}
use Rattle.rounds.specs.declared.desk.Desk.{Desk}
use Rattle.round_modules.specs.Inside.{outside}
use Rattle.trace_run.specs.Items.{Begins}
use Rattle.trace_run.specs.Runs.{HasRun, IsBegun}
use Rattle.round_check.specs.Walk.{rounds_of}
use Rattle.trace.specs.Formed.{IsFormedTrace}

-- a run begins with the tokens alone, whatever sections the trace still has
pub started_same : (k : Shape) (trace : Trace) (own sections : List Section) (s : Started) → IsStarted k (record trace { sections = own }) sections s → IsStarted k trace sections s
started_same k trace own sections s is = record { board = is.board; shape = is.shape; cpus = is.cpus; workers = is.workers; locked = is.locked; pass = is.pass; pages = is.pages; vectors = is.vectors }

pub fits_same : (k : Shape) (trace : Trace) (own : List Section) → FitsShape k trace → FitsShape k (record trace { sections = own })
fits_same k trace own fits = record { kernel = fits.kernel; area = fits.area; cpus = fits.cpus; frames = fits.frames; vectors = fits.vectors }

-- so many rounds and ops, and what a machine counts
abbrev pub with_counts : ℕ → ℕ → Machine → Done
with_counts rounds ops m = record { rounds = rounds; ops = ops; failed = m.tally.failed; uncounted = m.tally.uncounted; live = live_count m; kept = length (dead_of m) }

-- ---- words

word_left : (b : Board) (m : Machine) (cpus : List CpuShown) → CpusStand b m cpus → (kind : Kind) (cpu tag : ℕ) (c : CpuShown) → slice_get cpus cpu ≡ Some c → tag < b.shape.tags → word_in kind tag c ≡ moved_word m.tally.moves cpu kind tag
word_left b m cpus s kind cpu tag c at low =
    let here = get_or_from_slice_get cpus cpu c c at in
    ap (λ (x : CpuShown). word_in kind tag (outside x)) (sym here)
    ∙ ap (word_in kind tag) (stand_at b m cpus cpu c s (slice_get_within cpus cpu c at))
    ∙ moved_at b m kind tag low cpu

-- ---- what is left beside the CPUs

-- what a desk leaves
abbrev pub left_of : Desk → Left
left_of d = record { workers = d.workers; keys = d.keys; locked = d.locked }

pub is_left : (p : Place) (d : Desk) (k : Shape) (left : Left) (cpus : List CpuShown) → IsThere p d → p.board.shape ≡ k → left ≡ left_of d → cpus ≡ d.cpus.items → IsLeft k cpus left
is_left p d k left cpus at shape left_is cpus_are =
    let here = at.list.board in
    let own : IsLeft k d.cpus.items (left_of d) = record {
      shape = ap (λ (b : Board). b.shape) here ∙ shape;
      cpus_are = boards p.board p.trace (machine_at p) d at;
      workers_are = All-weaker (λ (w : WorkerShown). w.board ≡ p.board) (λ (w : WorkerShown). w.board ≡ d.locked.board) (λ w e. e ∙ sym here) d.workers.items at.workers.boards;
      keys_are = subst (λ (b : Board). AreKept b d.keys) (sym here) at.keys.kept;
      kernel = subst (λ (s : Shape). length (section_at d.locked.sections 0).tags ≤ s.tags) (ap (λ (b : Board). b.shape) here ∙ shape) (kernel_fits p d at);
      modules = above_kernel p d at;
    } in
    subst (λ (l : Left). IsLeft k cpus l) (sym left_is) (subst (λ (c : List CpuShown). IsLeft k c (left_of d)) (sym cpus_are) own)

of_seats : (ws : List WorkerShown) → slab_cells_of ws ≡ flat_map (λ (s : Seat). slab_cells s.node) (map (λ (w : WorkerShown). w.seat) ws)
of_seats [] = refl
of_seats (w ∷ ws) = ap (λ cells. slab_cells w.seat.node ++ cells) (of_seats ws)

cells_left : (b : Board) (trace : Trace) (m : Machine) (d : Desk) → StandsAt b trace m d → cells_in (left_of d) ≡ live_cells m
cells_left b trace m d at =
    ap₂ (λ (live : Live) (cells : List (Slot × Held)). flat_map (λ (entry : ℕ × Content). content_cell entry.1) live ++ cells) at.keys.live
    (of_seats d.workers.items ∙ ap (λ (seats : List Seat). flat_map (λ (s : Seat). slab_cells s.node) seats) at.workers.seats)

pub has_run : (b : Board) (trace : Trace) (m : Machine) (d : Desk) (old new : PlantShown) → b.shape ≡ old.shape → StandsAt b trace m d → new ≡ record old { cpus = d.cpus.items; left = Some (left_of d) } → old.fresh ≡ false → HasRun m old new
has_run b trace m d old new shape at is used = record {
  shape = ap (λ (p : PlantShown). p.shape) is;
  used = ap (λ (p : PlantShown). p.fresh) is ∙ used;
  count = ap (λ (p : PlantShown). length p.cpus) is ∙ stand_long b m d.cpus.items at.cpus ∙ ap (λ (k : Shape). k.cpus) shape;
  words = λ cpu tag c here low.
      let there : slice_get d.cpus.items cpu ≡ Some c = subst (λ (p : PlantShown). slice_get p.cpus cpu ≡ Some c) is here in
      let below : tag < b.shape.tags = subst (λ (k : Shape). tag < k.tags) (sym shape) low in
      ap₂ (λ bytes calls. (bytes, calls)) (word_left b m d.cpus.items at.cpus Bytes cpu tag c there below) (word_left b m d.cpus.items at.cpus Calls cpu tag c there below);
  cells = ap cells_of is ∙ cells_left b trace m d at;
}

-- what the plant prints then is what the meaning prints
pub has_printed : (p : Place) (d : Desk) (old new : PlantShown) → IsThere p d → IsLocked d.locked → new ≡ record old { cpus = d.cpus.items; left = Some (left_of d) } → (kept : Bool) (top : Option ℕ)
    → quiet_text kept top new ≡ print_text p.trace.sections kept top (machine_at p)
has_printed p d old new at locked is kept top = ap (quiet_text kept top) is ∙ prints p d at locked kept top

-- the plant was as it is once a run begins
pub has_run_from : (m : Machine) (old mid new : PlantShown) → mid.shape ≡ old.shape → HasRun m mid new → HasRun m old new
has_run_from m old mid new same h = record {
  shape = h.shape ∙ same;
  used = h.used;
  count = h.count ∙ ap (λ (k : Shape). k.cpus) same;
  words = λ cpu tag c here low. h.words cpu tag c here (subst (λ (k : Shape). tag < k.tags) (sym same) low);
  cells = h.cells;
}

-- ---- the items

-- the items of a run that begins, whose sections went to its desk
abbrev pub begins : (k : Shape) (trace after : Trace) (items : List Item) (d : Desk) → IsFormedTrace trace → rounds_of trace ≡ Ok tt → after ≡ record trace { sections = [] } → items ≡ after.body → IsBegun k trace d → Begins items after.shows_kept d
begins k trace after items d formed passes same items_are b = record {
  board = b.board;
  trace = trace;
  formed = formed;
  passes = passes;
  items_are = sym (items_are ∙ ap (λ (t : Trace). t.body) same);
  kept_is = sym (ap (λ (t : Trace). t.shows_kept) same);
  stands = b.stands;
}

-- behind the last item of a trace
abbrev pub at_end : (top : Option ℕ) (board : Board) (trace : Trace) → IsFormedTrace trace → rounds_of trace ≡ Ok tt → Place
at_end top board trace formed passes = record { board = board; trace = trace; top = top; front = trace.body; back = []; formed = formed; passes = passes; stands = sym (append-nil trace.body) }

-- with the counts of a body
pub numbers_are : (body : List Item) (m : Machine) (rounds ops : ℕ) → rounds ≡ count_by is_round body → ops ≡ sum_by ops_in body
    → with_counts rounds ops m ≡ done_of body m
numbers_are body m rounds ops r o = λ i. with_counts (r i) (o i) m
