-- In a round of a checked trace all storage finds its home.
use Rattle.std.proofs.Common.{◌≡◌, ℕ, ◌+◌, ◌-◌, List, [], ◌∷◌, length, Option, None, Ok, All, sym, subst, arith}
use Rattle.std.specs.Prelude.{sum_by}
use Rattle.std.proofs.lemmas.List.Sums.{sum_by-cons}
use Rattle.round_check.specs.Rounds.{IsRound}
use Rattle.round_check.specs.Walk.{begun, walk_ops, rounds_of}
use Rattle.round_check.specs.declared.walk.Walk.{Walk}
use Rattle.round_check.proofs.Pairs.{round_of, all_behind}
use Rattle.slab_cache.specs.Storage.{Storage, home_of}
use Rattle.trace.specs.Formed.{IsFormedItem, IsFormedTrace}
use Rattle.trace.specs.declared.traces.Item.TheVariants as item
use Rattle.trace.specs.declared.traces.OnOp.{OnOp}
use Rattle.trace.specs.declared.traces.Trace.{Trace}
use Rattle.trace_play.specs.Barrier.{cpus_done, modules_done, none_on_its_way, on_its_way, storage_home}
use Rattle.trace_play.specs.Machine.{Machine, seat_at}
use Rattle.trace_play.specs.Play.{played_so_far}
use Rattle.trace_play.specs.Sound.{live_sum, IsSound}
use Rattle.trace_play.proofs.MachineSound.{OnTheWay, home_low, machines_are_sound, one_home, ops_sound, sets_out}
use Rattle.trace_play.proofs.NeedsMet.{storage_there}
use Rattle.trace_play.proofs.TraceFits.{before_round, fits_of_round, modules_seats}
use Rattle.homing.specs.Seats.{AllFind, FindsHome}

-- ---- each in its turn

pub finds_on_the_way : (count : ℕ) (m : Machine) (rest : List Storage) → OnTheWay count m rest → AllFind m.seats rest
finds_on_the_way count m [] o = tt
finds_on_the_way count m (given ∷ rest) o =
    let low = home_low count m given rest o in
    let home = home_of given in
    let own = o.cpus home (omega (arith, o.long)) in
    let node = (seat_at home m).node in
    let all : (Storage → ℕ) → ℕ = λ weight. live_sum weight m.live + sum_by weight (given ∷ rest) in (
      record {
        low = low;
        own = own;
        there = storage_there node all (o.nodes home (omega (arith, o.long))) given (sym own) (λ weight. let s = sum_by-cons weight given rest in omega arith);
      },
      finds_on_the_way count (storage_home m given) rest (one_home count m given rest o),
    )

pub sound_finds_home : (m : Machine) → IsSound m → FindsHome m.seats
sound_finds_home m s = finds_on_the_way (length m.seats) (none_on_its_way m) (on_its_way m) (sets_out m s)

-- ---- a round

module _ (trace : Trace) (top : Option ℕ) (ops : List OnOp) (before : Walk) (formed : IsFormedTrace trace) (passes : rounds_of trace ≡ Ok tt) (round : IsRound trace ops before) (none : (played_so_far trace top round.front).refused ≡ None) where
  abbrev begins : Machine
  begins = (played_so_far trace top round.front).played.machine

  pub ops_leave_it_sound : IsSound (cpus_done ops begins)
  ops_leave_it_sound =
      let r = round_of trace ops before formed passes round in
      let form = (all_behind (IsFormedItem trace.cpus trace.sections) round.front (item.Round ops) round.back (subst (All (IsFormedItem trace.cpus trace.sections)) round.stands formed.items)).0 in
      let b = before_round trace top ops before formed round none in
      let walked : walk_ops ops (begun round.left) ≡ Ok r.after = subst (λ (x : Walk). walk_ops ops x ≡ Ok r.after) round.begins r.walked in
      let f = fits_of_round trace ops round.left r.after begins r.are form b walked in
      let same : f.after ≡ r.after = cc (f.walked, walked) in
      ops_sound ops (begun round.left) r.after begins r.are (record { keys = b.fits.keys; modules = b.fits.modules }) walked b.rise b.agree f same
      (machines_are_sound trace top formed passes round.front (item.Round ops ∷ round.back) round.stands)

  pub finds_after_ops : FindsHome (cpus_done ops begins).seats
  finds_after_ops = sound_finds_home (cpus_done ops begins) ops_leave_it_sound

  pub finds_after_modules : FindsHome (modules_done ops (cpus_done ops begins)).seats
  finds_after_modules = subst FindsHome (sym (modules_seats ops (cpus_done ops begins))) finds_after_ops
