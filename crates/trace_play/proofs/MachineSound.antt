-- The machine of a checked trace is sound.
use Rattle.std.proofs.Common.{T, ◌≡◌, ◌≢◌, ℕ, zero, suc, ◌+◌, ◌<◌, ◌≤◌, Bool, true, false, not, eqb, ltb, List, [], ◌∷◌, ◌++◌, length, map, set, get_or, replicate, Option, Some, None, Ok, All, refl, sym, ap, ◌∙◌, subst, arith, eqb-true, ltb-true, set-set}
use Rattle.std.proofs.lemmas.List.{set-get_or}
use Rattle.std.specs.Prelude.{fold, sum_by}
use Rattle.std.specs.Bool.{⊤}
use Rattle.std.specs.List.{flat_map, range_with_len}
use Rattle.std.proofs.lemmas.Bool.{eqb-false}
use Rattle.std.proofs.lemmas.Grind.{get_or-set_at}
use Rattle.std.proofs.lemmas.List.{length-set, length-map, get_or-set_other, length-replicate}
use Rattle.std.proofs.lemmas.List.FromFn.{length-map-range_with_len, get_or-map-range_with_len}
use Rattle.std.proofs.lemmas.List.Sums.{sum_by-cons, sum_by-append, sum_by-set}
use Rattle.std.proofs.lemmas.List.Elements.{All-head, All-tail, All-weaker}
use Rattle.round_check.proofs.Pairs.{fits_item}
use Rattle.input_form.specs.declared.code.Code.{Code}
use Rattle.input_form.proofs.Judged.{bind_ok}
use Rattle.slab_cache.specs.Slabs.{Slab, NodeState}
use Rattle.slab_cache.specs.Storage.{Storage, home_of}
use Rattle.slab_cache.specs.Homing.{come_home}
use Rattle.trace.specs.declared.traces.Item.{Item}
use Rattle.trace.specs.declared.traces.Item.TheVariants as item
use Rattle.trace.specs.declared.traces.OnOp.{OnOp}
use Rattle.trace.specs.declared.traces.Trace.{Trace}
use Rattle.trace.specs.Formed.{IsFormedItem, IsFormedTrace}
use Rattle.round_check.specs.declared.walk.Walk.{Walk}
use Rattle.round_check.specs.Formed.{FitsOn, FitsItem}
use Rattle.round_check.specs.Keys.{key_at}
use Rattle.round_check.specs.Walk.{start, begun, walk_ops, walk_item, walk_items, rounds_of}
use Rattle.round_check.proofs.Passed.{Fits}
use Rattle.trace_play.specs.Worker.{Seat, WorkerState, all_done}
use Rattle.trace_play.specs.Machine.{Machine, machine_of, fresh_node, fresh_seat, seat_at, worker_at, with_worker}
use Rattle.trace_play.specs.Barrier.{ops_of, cpu_done, cpus_done, modules_done, on_its_way, none_returning, none_on_its_way, storage_home, all_home, cleaned, round_done}
use Rattle.trace_play.specs.Play.{Played, Outcome, refusal_of, item_played, play, played_so_far, nothing_played}
use Rattle.trace_play.specs.Alone.{rises, kept, NamesItsOwn}
use Rattle.trace_play.specs.Fits.{Agree, AgreeAt, AllFit, IsBoundAs, is_owner, RoundFits}
use Rattle.trace_play.specs.Owned.{has_frame, is_object_at, has_cell_of, one_if, slab_has_frame, slabs_sum, slab_has_vector, slab_has_cell, is_taken_at, places_of, NodeSound}
use Rattle.trace_play.specs.Sound.{live_sum, returning_sum, storage_sum, is_away, IsSound}
use Rattle.trace_play.proofs.AloneLemmas.{holds}
use Rattle.trace_play.proofs.Rising.{modules_live}
use Rattle.trace_play.proofs.SideBySide.{find_of_kept, along}
use Rattle.trace_play.proofs.RoundFits.{pass, none_shared}
use Rattle.trace_play.proofs.TraceFits.{Between, begins_between, fits_of_round, item_between, modules_seats}
use Rattle.trace_play.proofs.NodeLemmas.{homes, IsHome}
use Rattle.trace_play.proofs.WorkerSound.{same_node, same_without, worker_sum, AllSound, all_sound}

-- ---- sums

same_sums : (node : NodeState) (all all' : (Storage → ℕ) → ℕ) → ((weight : Storage → ℕ) → all' weight ≡ all weight) → NodeSound node all → NodeSound node all'
same_sums node all all' same sound = same_node node all all' (record { frames = λ f. same _; objects = λ f p v. same _; cells = λ v p. same _ }) sound

-- the seats but for what one of them sends home
abbrev pub elsewhere : Machine → ℕ → (Storage → ℕ) → ℕ
elsewhere m cpu weight = returning_sum weight (set m.seats cpu (none_returning (seat_at cpu m)))

with_seat : (m : Machine) (cpu : ℕ) (seat : Seat) (weight : Storage → ℕ) → cpu < length m.seats → returning_sum weight (set m.seats cpu seat) ≡ sum_by weight seat.returning + elsewhere m cpu weight
with_seat m cpu seat weight below =
    let none = none_returning (seat_at cpu m) in
    let base = set m.seats cpu none in
    let long : length base ≡ length m.seats = length-set m.seats cpu none in
    let s = sum_by-set (λ (x : Seat). sum_by weight x.returning) base cpu seat none (omega arith) in
    let here : get_or base cpu none ≡ none = get_or-set_at m.seats cpu cpu none none refl below in
    let zero_here : sum_by weight (get_or base cpu none).returning ≡ 0 = ap (λ (x : Seat). sum_by weight x.returning) here in
    let same : set base cpu seat ≡ set m.seats cpu seat = set-set m.seats cpu none seat in
    let t : returning_sum weight (set base cpu seat) ≡ returning_sum weight (set m.seats cpu seat) = ap (returning_sum weight) same in
    omega arith

seat_there : (m : Machine) (cpu : ℕ) (weight : Storage → ℕ) → cpu < length m.seats → returning_sum weight m.seats ≡ sum_by weight (seat_at cpu m).returning + elsewhere m cpu weight
seat_there m cpu weight below = ap (returning_sum weight) (sym (set-get_or m.seats cpu (fresh_seat 0 0 cpu))) ∙ with_seat m cpu (seat_at cpu m) weight below

at_seat : (seats : List Seat) (cpu : ℕ) (seat : Seat) (h : ℕ) → cpu < length seats → (P : Seat → Type 0) → (h ≡ cpu → P seat) → (h ≢ cpu → P (get_or seats h (fresh_seat 0 0 h))) → P (get_or (set seats cpu seat) h (fresh_seat 0 0 h))
at_seat seats cpu seat h below P here there = by (eqb h cpu) refl
  where
    by : (b : Bool) → eqb h cpu ≡ b → P (get_or (set seats cpu seat) h (fresh_seat 0 0 h))
    by true e = subst P (sym (get_or-set_at seats cpu h seat (fresh_seat 0 0 h) (eqb-true h cpu e) below)) (here (eqb-true h cpu e))
    by false e = subst P (sym (get_or-set_other seats cpu h seat (fresh_seat 0 0 h) (eqb-false h cpu e))) (there (eqb-false h cpu e))

-- ---- a CPU's turn

pub to_worker : (m : Machine) (cpu : ℕ) → cpu < length m.seats → IsSound m → AllSound cpu (length m.seats) (λ h. (seat_at h m).node) (elsewhere m cpu) (seat_at cpu m).node (worker_sum (elsewhere m cpu) (worker_at cpu m))
to_worker m cpu below s =
    let same : (weight : Storage → ℕ) → worker_sum (elsewhere m cpu) (worker_at cpu m) weight ≡ storage_sum m weight = λ weight. let t = seat_there m cpu weight below in omega arith in
    record {
      cpu_is = s.cpus cpu below;
      own = same_sums _ (storage_sum m) _ same (s.nodes cpu below);
      others = λ h low differ. same_sums _ (storage_sum m) _ same (s.nodes h low);
      homes = same (is_away (length m.seats)) ∙ s.homes;
    }

from_worker : (m : Machine) (cpu : ℕ) (w : WorkerState) → cpu < length m.seats → IsSound m → AllSound cpu (length m.seats) (λ h. (seat_at h m).node) (elsewhere m cpu) w.seat.node (worker_sum (elsewhere m cpu) w) → IsSound (with_worker cpu w m)
from_worker m cpu w below s a =
    let now = with_worker cpu w m in
    let same : (weight : Storage → ℕ) → storage_sum now weight ≡ worker_sum (elsewhere m cpu) w weight = λ weight. ap (λ n. live_sum weight w.live + n) (with_seat m cpu w.seat weight below) in
    let long : length now.seats ≡ length m.seats = length-set m.seats cpu w.seat in
    record {
      cpus = λ h low. at_seat m.seats cpu w.seat h below (λ (x : Seat). x.node.node.cpu ≡ h) (λ e. a.cpu_is ∙ sym e) (λ differ. s.cpus h (omega arith));
      nodes = λ h low.
          at_seat m.seats cpu w.seat h below (λ (x : Seat). NodeSound x.node (storage_sum now))
          (λ e. same_sums w.seat.node _ (storage_sum now) same a.own)
          (λ differ. same_sums (seat_at h m).node _ (storage_sum now) same (a.others h (omega arith) differ));
      homes = ap (λ n. storage_sum now (is_away n)) long ∙ same (is_away (length m.seats)) ∙ a.homes;
    }

pub record SoundSeats (P : Machine → Type 0) (count : ℕ) (m : Machine) : Type 0 where
  pub long : length m.seats ≡ count
  pub sound : IsSound m
  pub also : P m

-- ---- the ops of a round

-- what each CPU's turn keeps, where its ops fit and the machine is sound
pub turns : (ops : List OnOp) (before after : Walk) (m : Machine) → All FitsOn ops → Fits before → walk_ops ops before ≡ Ok after → rises m.live ≡ true → Agree before.keys m.live → (f : RoundFits ops before m) → f.after ≡ after
    → (P : Machine → Type 0) → ((cpu : ℕ) (now : Machine) → cpu < length now.seats → T (rises now.live) → AllFit now.area.entries (ops_of cpu ops) (worker_at cpu now) → IsSound now → P now → P (cpu_done ops now cpu))
    → IsSound m → P m → SoundSeats P (length m.seats) (cpus_done ops m)
turns ops before after m are fits e r agree f same P step s p =
    let own = is_owner after in
    let names : (cpu : ℕ) → NamesItsOwn (own cpu) ops m cpu = λ cpu. subst (λ (x : Walk). NamesItsOwn (is_owner x cpu) ops m cpu) same (f.names cpu) in
    along own ops m r (none_shared after) (λ cpu _. names cpu) (SoundSeats P (length m.seats))
    (λ cpu now below up area begins here h.
    let low : cpu < length now.seats = omega (arith, h.long) in
    let there : AgreeAt (own cpu) before.keys now.live =
    λ key is. subst (IsBoundAs (key_at before.keys key).bound)
    (sym (find_of_kept (own cpu) key now.live (kept (own cpu) m.live) (ap (λ (w : WorkerState). w.live) begins) is ∙ sym (find_of_kept (own cpu) key m.live (kept (own cpu) m.live) refl is)))
    (agree key) in
    let entries = now.area.entries in
    let fit = (pass after entries cpu ops before are fits e (worker_at cpu now) there).fits in
    record {
      long = length-set now.seats cpu _ ∙ h.long;
      sound = from_worker now cpu (all_done entries (ops_of cpu ops) (worker_at cpu now)) low h.sound
          (all_sound cpu (length now.seats) (λ k. (seat_at k now).node) (elsewhere now cpu) low (λ k small differ. h.sound.cpus k small) entries (ops_of cpu ops) (worker_at cpu now) (holds up) fit (to_worker now cpu low h.sound));
      also = step cpu now low (holds up) fit h.sound h.also;
    })
    (record { long = refl; sound = s; also = p })

pub ops_sound : (ops : List OnOp) (before after : Walk) (m : Machine) → All FitsOn ops → Fits before → walk_ops ops before ≡ Ok after → rises m.live ≡ true → Agree before.keys m.live → (f : RoundFits ops before m) → f.after ≡ after → IsSound m → IsSound (cpus_done ops m)
ops_sound ops before after m are fits e r agree f same s = (turns ops before after m are fits e r agree f same (λ _. ⊤) (λ cpu now low up fit sound p. tt) s tt).sound

-- ---- the barrier

pub same_parts : (m now : Machine) → now.seats ≡ m.seats → now.live ≡ m.live → IsSound m → IsSound now
same_parts m now seats live s =
    let at_first : IsSound (record now { seats = m.seats; live = m.live }) = record { cpus = s.cpus; nodes = s.nodes; homes = s.homes } in
    subst IsSound (λ i. record now { seats = sym seats i; live = sym live i }) at_first

-- with what is still on its way
pub record OnTheWay (count : ℕ) (m : Machine) (rest : List Storage) : Type 0 where
  pub long : length m.seats ≡ count
  pub none : (weight : Storage → ℕ) → returning_sum weight m.seats ≡ 0
  pub cpus : (cpu : ℕ) → cpu < count → (seat_at cpu m).node.node.cpu ≡ cpu
  pub nodes : (cpu : ℕ) → cpu < count → NodeSound (seat_at cpu m).node (λ weight. live_sum weight m.live + sum_by weight rest)
  pub homes_are : live_sum (is_away count) m.live + sum_by (is_away count) rest ≡ 0

way_sum : (weight : Storage → ℕ) (seats : List Seat) → sum_by weight (flat_map (λ (seat : Seat). seat.returning) seats) ≡ returning_sum weight seats
way_sum weight [] = refl
way_sum weight (seat ∷ seats) = sum_by-append weight seat.returning (flat_map (λ (s : Seat). s.returning) seats) ∙ ap (λ n. sum_by weight seat.returning + n) (way_sum weight seats) ∙ sym (sum_by-cons (λ (s : Seat). sum_by weight s.returning) seat seats)

none_sent : (weight : Storage → ℕ) (seats : List Seat) → returning_sum weight (map none_returning seats) ≡ 0
none_sent weight [] = refl
none_sent weight (seat ∷ seats) = sum_by-cons (λ (s : Seat). sum_by weight s.returning) (none_returning seat) (map none_returning seats) ∙ ap (λ n. 0 + n) (none_sent weight seats)

same_nodes : (seats : List Seat) (h : ℕ) → (get_or (map none_returning seats) h (fresh_seat 0 0 h)).node ≡ (get_or seats h (fresh_seat 0 0 h)).node
same_nodes [] h = refl
same_nodes (seat ∷ seats) zero = refl
same_nodes (seat ∷ seats) (suc h) = shifted seats h (fresh_seat 0 0 (suc h)) refl
  where
    shifted : (seats : List Seat) (h : ℕ) (d : Seat) → none_returning d ≡ d → (get_or (map none_returning seats) h d).node ≡ (get_or seats h d).node
    shifted [] h d e = refl
    shifted (seat ∷ seats) zero d e = refl
    shifted (seat ∷ seats) (suc h) d e = shifted seats h d e

pub sets_out : (m : Machine) → IsSound m → OnTheWay (length m.seats) (none_on_its_way m) (on_its_way m)
sets_out m s =
    let same : (weight : Storage → ℕ) → live_sum weight m.live + sum_by weight (on_its_way m) ≡ storage_sum m weight = λ weight. ap (λ n. live_sum weight m.live + n) (way_sum weight m.seats) in
    record {
      long = length-map m.seats none_returning;
      none = λ weight. none_sent weight m.seats;
      cpus = λ h low. ap (λ (n : NodeState). n.node.cpu) (same_nodes m.seats h) ∙ s.cpus h low;
      nodes = λ h low. subst (λ (n : NodeState). NodeSound n (λ weight. live_sum weight m.live + sum_by weight (on_its_way m))) (sym (same_nodes m.seats h)) (same_sums _ (storage_sum m) _ same (s.nodes h low));
      homes_are = same (is_away (length m.seats)) ∙ s.homes;
    }

-- its home is a CPU's
pub has_home : (count : ℕ) (given : Storage) → is_away count given ≡ 0 → home_of given < count
has_home count given e = by (ltb (home_of given) count) refl e
  where
    by : (b : Bool) → ltb (home_of given) count ≡ b → one_if (not b) ≡ 0 → home_of given < count
    by true t e = ltb-true (home_of given) count t
    by false t e = absurd (omega arith)

pub home_low : (count : ℕ) (m : Machine) (given : Storage) (rest : List Storage) → OnTheWay count m (given ∷ rest) → home_of given < length m.seats
home_low count m given rest o =
    let away = o.homes_are in
    let c = sum_by-cons (is_away count) given rest in
    let z : is_away count given ≡ 0 = omega arith in
    let low = has_home count given z in
    omega (arith, o.long)

pub one_home : (count : ℕ) (m : Machine) (given : Storage) (rest : List Storage) → OnTheWay count m (given ∷ rest) → OnTheWay count (storage_home m given) rest
unfolding IsHome
one_home count m given rest o =
    let home = home_of given in
    let away = o.homes_are in
    let cons = λ (weight : Storage → ℕ). sum_by-cons weight given rest in
    let z : is_away count given ≡ 0 = let c = cons (is_away count) in omega arith in
    let low : home < count = has_home count given z in
    let seat = seat_at home m in
    let below : home < length m.seats = omega (arith, o.long) in
    let all = λ (weight : Storage → ℕ). live_sum weight m.live + sum_by weight (given ∷ rest) in
    let all' = λ (weight : Storage → ℕ). live_sum weight m.live + sum_by weight rest in
    let less : (weight : Storage → ℕ) → all weight ≡ weight given + all' weight = λ weight. let c = cons weight in omega arith in
    let came = homes seat.node all all' (o.nodes home low) given (sym (o.cpus home low)) less in
    let now : Seat = record seat { node = (come_home given seat.node).node } in
    record {
      long = length-set m.seats home now ∙ o.long;
      none = λ weight.
          let s = sum_by-set (λ (x : Seat). sum_by weight x.returning) m.seats home now (fresh_seat 0 0 home) below in
          let n = o.none weight in
          omega arith;
      cpus = λ h small. at_seat m.seats home now h below (λ (x : Seat). x.node.node.cpu ≡ h) (λ e. came.1 ∙ o.cpus home low ∙ sym e) (λ differ. o.cpus h small);
      nodes = λ h small.
          at_seat m.seats home now h below (λ (x : Seat). NodeSound x.node all')
          (λ e. came.0)
          (λ differ. same_node (seat_at h m).node all all' (same_without (seat_at h m).node.node.cpu all all' given (λ e. differ (sym (o.cpus h small) ∙ sym e)) less) (o.nodes h small));
      homes_are = let l = less (is_away count) in omega arith;
    }

all_at_home : (count : ℕ) (rest : List Storage) (m : Machine) → OnTheWay count m rest → OnTheWay count (fold storage_home m rest) []
all_at_home count [] m o = o
all_at_home count (given ∷ rest) m o = all_at_home count rest (storage_home m given) (one_home count m given rest o)

arrived : (count : ℕ) (m : Machine) → OnTheWay count m [] → IsSound m
arrived count m o =
    let same : (weight : Storage → ℕ) → storage_sum m weight ≡ live_sum weight m.live + sum_by weight [] = λ weight. ap (λ n. live_sum weight m.live + n) (o.none weight) in
    record {
      cpus = λ h low. o.cpus h (omega (arith, o.long));
      nodes = λ h low. same_sums _ _ (storage_sum m) same (o.nodes h (omega (arith, o.long)));
      homes = ap (λ n. storage_sum m (is_away n)) o.long ∙ same (is_away count) ∙ o.homes_are;
    }

pub barrier_sound : (ops : List OnOp) (m : Machine) → IsSound (cpus_done ops m) → IsSound (round_done ops m)
barrier_sound ops m s =
    let left = cpus_done ops m in
    let marked = modules_done ops left in
    let marked_sound : IsSound marked = same_parts left marked (modules_seats ops left) (modules_live ops left) s in
    let home = all_home marked in
    let home_sound : IsSound home = arrived (length marked.seats) home (all_at_home (length marked.seats) (on_its_way marked) (none_on_its_way marked) (sets_out marked marked_sound)) in
    same_parts home (cleaned home) refl refl home_sound

-- ---- the first machine

no_slabs : (weight : ℕ → Option Slab → ℕ) → ((n : ℕ) → weight n None ≡ 0) → (count from : ℕ) → slabs_sum weight from (replicate count None) ≡ 0
no_slabs weight none zero from = refl
no_slabs weight none (suc count) from = let a = none from in let b = no_slabs weight none count (from + 1) in omega arith

nothing_at : {A : Type 0} (count i : ℕ) (x : A) → get_or (replicate count x) i x ≡ x
nothing_at zero i x = refl
nothing_at (suc count) zero x = refl
nothing_at (suc count) (suc i) x = nothing_at count i x

fresh_sound : (frames vectors cpu : ℕ) (all : (Storage → ℕ) → ℕ) → ((weight : Storage → ℕ) → all weight ≡ 0) → NodeSound (fresh_node frames vectors cpu) all
fresh_sound frames vectors cpu all none = record {
  long = length-replicate frames None ∙ sym (length-replicate frames false);
  frames = λ f. (λ i. none (has_frame cpu f) i + no_slabs (slab_has_frame f) (λ n. refl) frames 0 i) ∙ sym (ap one_if (nothing_at frames f false));
  objects = λ f p v. none (is_object_at cpu f p v) ∙ sym (ap (is_taken_at v p) (nothing_at frames f None));
  vectors = λ v. no_slabs (slab_has_vector v) (λ n. refl) frames 0 ∙ sym (ap one_if (nothing_at vectors v false));
  cells = λ v p. none (has_cell_of cpu v p) ∙ sym (no_slabs (slab_has_cell v p) (λ n. refl) frames 0);
  few = λ f. subst (λ o. places_of o ≤ 64) (sym (nothing_at frames f None)) (omega arith);
}

fresh_returning : (weight : Storage → ℕ) (frames vectors count from : ℕ) → returning_sum weight (map (fresh_seat frames vectors) (range_with_len from count)) ≡ 0
fresh_returning weight frames vectors zero from = refl
fresh_returning weight frames vectors (suc count) from = sum_by-cons (λ (s : Seat). sum_by weight s.returning) (fresh_seat frames vectors from) (map (fresh_seat frames vectors) (range_with_len (from + 1) count)) ∙ ap (λ n. 0 + n) (fresh_returning weight frames vectors count (from + 1))

pub first_sound : (trace : Trace) → IsSound (machine_of trace)
first_sound trace =
    let m = machine_of trace in
    let none : (weight : Storage → ℕ) → storage_sum m weight ≡ 0 = λ weight. ap (λ n. 0 + n) (fresh_returning weight trace.frames trace.vectors trace.cpus 0) in
    let long : length m.seats ≡ trace.cpus = length-map-range_with_len (fresh_seat trace.frames trace.vectors) 0 trace.cpus in
    let there = λ (h : ℕ) (low : h < length m.seats). get_or-map-range_with_len (fresh_seat trace.frames trace.vectors) 0 trace.cpus h h (fresh_seat 0 0 h) (omega (arith, long)) (omega arith) in
    record {
      cpus = λ h low. ap (λ (s : Seat). s.node.node.cpu) (there h low);
      nodes = λ h low. subst (λ (s : Seat). NodeSound s.node (storage_sum m)) (sym (there h low)) (fresh_sound trace.frames trace.vectors h (storage_sum m) none);
      homes = none (is_away (length m.seats));
    }

-- ---- the items

-- what holds between items, of any walk that goes on
pub items_keep : (Q : Walk → Machine → Type 0) (trace : Trace) (top : Option ℕ)
    → ((what : Item) (walk next : Walk) (p : Played) → FitsItem what → IsFormedItem trace.cpus trace.sections what → walk_item what walk ≡ Ok next → Between trace walk p.machine → Q walk p.machine → Q next (item_played trace top what p).machine)
    → (items back : List Item) (walk end : Walk) (p : Played) → All FitsItem (items ++ back) → All (IsFormedItem trace.cpus trace.sections) (items ++ back) → walk_items (items ++ back) walk ≡ Ok end → Between trace walk p.machine → Q walk p.machine
    → (mid : Walk) × Q mid (play trace top items p).played.machine
items_keep Q trace top step [] back walk end p are formed e b q = (walk, q)
items_keep Q trace top step (what ∷ items) back walk end p are formed e b q =
    let first = bind_ok (walk_item what walk) (λ x. walk_items (items ++ back) x) end e in
    let fits = All-head FitsItem what (items ++ back) are in
    let form = All-head (IsFormedItem trace.cpus trace.sections) what (items ++ back) formed in
    let mid = item_between trace top what walk first.0 p fits form first.1 b in
    let now = step what walk first.0 p fits form first.1 b q in
    elim (refusal_of trace what p) as (λ (why : Option (ℕ × Code)). (x : Walk) × Q x (elim why as (λ _. Outcome) [ None ↦ play trace top items (item_played trace top what p) | Some w ↦ record { played = p; refused = Some w } ]).played.machine) [
      | None ↦ items_keep Q trace top step items back first.0 end (item_played trace top what p) (All-tail FitsItem what (items ++ back) are) (All-tail (IsFormedItem trace.cpus trace.sections) what (items ++ back) formed) first.2 mid now
      | Some w ↦ (walk, q)
    ]

pub item_sound : (trace : Trace) (top : Option ℕ) (what : Item) (walk next : Walk) (p : Played) → FitsItem what → IsFormedItem trace.cpus trace.sections what → walk_item what walk ≡ Ok next → Between trace walk p.machine → IsSound p.machine → IsSound (item_played trace top what p).machine
unfolding walk_item
item_sound trace top (item.Round ops) walk next p are formed e b s =
    let f = fits_of_round trace ops walk next p.machine are formed b e in
    let same : f.after ≡ next = cc (f.walked, e) in
    barrier_sound ops p.machine (ops_sound ops (begun walk) next p.machine are (record { keys = b.fits.keys; modules = b.fits.modules }) e b.rise b.agree f same s)
item_sound trace top (item.Load line section) walk next p are formed e b s = record { cpus = s.cpus; nodes = s.nodes; homes = s.homes }
item_sound trace top item.Print walk next p are formed e b s = s
item_sound trace top item.Areas walk next p are formed e b s = s

-- what holds after any first items of a checked trace
pub after_items : (Q : Machine → Type 0) (trace : Trace) (top : Option ℕ)
    → ((what : Item) (walk next : Walk) (p : Played) → FitsItem what → IsFormedItem trace.cpus trace.sections what → walk_item what walk ≡ Ok next → Between trace walk p.machine → Q p.machine → Q (item_played trace top what p).machine)
    → IsFormedTrace trace → rounds_of trace ≡ Ok tt → (front back : List Item) → trace.body ≡ front ++ back → Q (machine_of trace) → Q (played_so_far trace top front).played.machine
unfolding rounds_of
after_items Q trace top step formed passes front back stands q =
    let end = bind_ok (walk_items trace.body start) (λ walk. Ok tt) tt passes in
    let all : All FitsItem trace.body = All-weaker (IsFormedItem trace.cpus trace.sections) FitsItem (λ i is. fits_item trace.cpus trace.sections i formed.cpus.1 formed.sections.few is) trace.body formed.items in
    (items_keep (λ walk m. Q m) trace top step front back start end.0 (nothing_played trace)
    (subst (All FitsItem) stands all) (subst (All (IsFormedItem trace.cpus trace.sections)) stands formed.items) (subst (λ xs. walk_items xs start ≡ Ok end.0) stands end.1)
    (begins_between trace) q).1

pub machines_are_sound : (trace : Trace) (top : Option ℕ) → IsFormedTrace trace → rounds_of trace ≡ Ok tt → (front back : List Item) → trace.body ≡ front ++ back → IsSound (played_so_far trace top front).played.machine
machines_are_sound trace top formed passes front back stands = after_items IsSound trace top (item_sound trace top) formed passes front back stands (first_sound trace)
