-- A fresh state is safe: nothing is counted in it and its list is empty.
use Rattle.std.proofs.Common.{◌≡◌, ℕ, ◌*◌, ◌==◌, ◌&&◌, nat_lt, nat_le, List, [], ◌∷◌, length, sum_by, slice_index, zero, suc, refl, arith, Bool, true, not, Option, Some, None, eqb-true}
use Rattle.std.specs.List.{list_all}
use Rattle.std.proofs.lemmas.Bool.{and_parts, false≢true}
use Rattle.std.proofs.lemmas.List.Sums.{sum_by-cons}
use Rattle.tag_model.specs.declared.shape.Shape.{Shape}
use Rattle.tag_model.specs.declared.state.CpuPart.{CpuPart}
use Rattle.tag_model.specs.declared.state.Hand.{Hand}
use Rattle.tag_model.specs.declared.state.Held.{Held}
use Rattle.tag_model.specs.declared.state.Held.TheVariants as held
use Rattle.tag_model.specs.declared.state.Kind.{Kind}
use Rattle.tag_model.specs.declared.state.Kind.TheVariants.{Calls}
use Rattle.tag_model.specs.declared.state.ListPart.{ListPart}
use Rattle.tag_model.specs.declared.state.Note.{Note}
use Rattle.tag_model.specs.declared.state.Part.{Part}
use Rattle.tag_model.specs.declared.state.Part.TheVariants.{Cpu, Place, Modules, NextId}
use Rattle.tag_model.specs.declared.state.Reader.{Reader}
use Rattle.tag_model.specs.declared.state.Record.{Record}
use Rattle.tag_model.specs.declared.state.Run.{Run}
use Rattle.tag_model.specs.declared.state.Sweep.{Sweep}
use Rattle.tag_model.specs.declared.state.Sweep.TheVariants as sweep
use Rattle.tag_model.specs.declared.state.Tag.{Tag}
use Rattle.tag_model.specs.Histories.{stops_at}
use Rattle.tag_model.specs.Laws.{Safe, OneOfEach, is_fresh, hand_number, is_held, is_idle, runs_of_cpu, cleared, of_reader, is_reading, same_kind, list_fits, same_run, same_note, contradicts}
use Rattle.tag_model.specs.WordState.{one_if, Every, word_place, word_of, counted, counted_of, in_range, records_with, runs_with, notes_with, users_of, part_fits, is_pass, next_id}
use Rattle.tag_model.proofs.Bounds.{every_first, every_rest}

-- a list that is as long as 0 is empty
empty : {X : Type 0} (xs : List X) → (length xs == 0) ≡ true → xs ≡ []
empty [] e = refl
empty (x ∷ xs) e = let long = eqb-true (length (x ∷ xs)) 0 e in absurd (omega arith)

zeros : (words : List ℕ) (i : ℕ) → list_all (λ w. w == 0) words ≡ true → slice_index words i ≡ 0
zeros [] i e = refl
zeros (w ∷ words) zero e = eqb-true w 0 (and_parts (w == 0) (list_all (λ x. x == 0) words) e).0
zeros (w ∷ words) (suc i) e = zeros words i (and_parts (w == 0) (list_all (λ x. x == 0) words) e).1

no_hand : (hand : Option Hand) → (hand_number hand == 0) ≡ true → hand ≡ None
no_hand None e = refl
no_hand (Some h) e = absurd (false≢true e)

nothing_held : (h : Held) → not (is_held h) ≡ true → h ≡ held.None
nothing_held held.None e = refl
nothing_held held.Empty e = absurd (false≢true e)
nothing_held (held.Counted tag size) e = absurd (false≢true e)

no_sweep : (s : Sweep) → is_idle s ≡ true → s ≡ sweep.None
no_sweep sweep.None e = refl
no_sweep (sweep.Done left) e = absurd (false≢true e)
no_sweep (sweep.Reading left r) e = absurd (false≢true e)

-- what it is for a CPU to be fresh, and for the list
record FreshCpu (k : Shape) (c : CpuPart) : Type 0 where
  number : nat_lt c.number k.cpus ≡ true
  long : (length c.words == 2 * k.tags) ≡ true
  words : list_all (λ w. w == 0) c.words ≡ true
  hand : c.hand ≡ None
  runs : c.runs ≡ []
  notes : c.notes ≡ []

fresh_cpu : (k : Shape) (c : CpuPart) → is_fresh k (Cpu c) ≡ true → FreshCpu k c
fresh_cpu k c e =
    let f = and_parts (nat_lt c.number k.cpus && (length c.words == 2 * k.tags) && list_all (λ w. w == 0) c.words && (hand_number c.hand == 0) && (length c.runs == 0)) (length c.notes == 0) e in
    let g = and_parts (nat_lt c.number k.cpus && (length c.words == 2 * k.tags) && list_all (λ w. w == 0) c.words && (hand_number c.hand == 0)) (length c.runs == 0) f.0 in
    let h = and_parts (nat_lt c.number k.cpus && (length c.words == 2 * k.tags) && list_all (λ w. w == 0) c.words) (hand_number c.hand == 0) g.0 in
    let i = and_parts (nat_lt c.number k.cpus && (length c.words == 2 * k.tags)) (list_all (λ w. w == 0) c.words) h.0 in
    let j = and_parts (nat_lt c.number k.cpus) (length c.words == 2 * k.tags) i.0 in
    record { number = j.0; long = j.1; words = i.1; hand = no_hand c.hand h.1; runs = empty c.runs g.1; notes = empty c.notes f.1 }

record FreshList (l : ListPart) : Type 0 where
  records : l.records ≡ []
  away : l.away ≡ []
  sweep : l.sweep ≡ sweep.None
  stops : l.stops ≡ []

fresh_list : (k : Shape) (l : ListPart) → is_fresh k (Modules l) ≡ true → FreshList l
fresh_list k l e =
    let s = and_parts ((length l.records == 0) && (length l.away == 0) && is_idle l.sweep) (length l.stops == 0) e in
    let f = and_parts ((length l.records == 0) && (length l.away == 0)) (is_idle l.sweep) s.0 in
    let g = and_parts (length l.records == 0) (length l.away == 0) f.0 in
    record { records = empty l.records g.0; away = empty l.away g.1; sweep = no_sweep l.sweep f.1; stops = empty l.stops s.1 }

-- ---- each number of a fresh part that the laws ask for is 0

-- a number that each fresh part has as 0 is 0 in a fresh state
pub none_fresh : (k : Shape) (f : Part → ℕ) (ps : List Part) → Every (is_fresh k) ps → ((p : Part) → is_fresh k p ≡ true → f p ≡ 0) → sum_by f ps ≡ 0
none_fresh k f [] e h = refl
none_fresh k f (p ∷ ps) e h = omega (arith, sum_by-cons f p ps, h p (every_first (is_fresh k) p ps e), none_fresh k f ps (every_rest (is_fresh k) p ps e) h)

pub no_word : (k : Shape) (kind : Kind) (t : ℕ) (p : Part) → is_fresh k p ≡ true → word_of kind t p ≡ 0
no_word k kind t (Cpu c) e = zeros c.words (word_place kind t) (fresh_cpu k c e).words
no_word k kind t (Place n h) e = refl
no_word k kind t (Modules l) e = refl
no_word k kind t (NextId id) e = refl

pub no_count : (k : Shape) (kind : Kind) (t : ℕ) (p : Part) → is_fresh k p ≡ true → counted kind t p ≡ 0
no_count k kind t (Cpu c) e = rw (fresh_cpu k c e).hand refl
no_count k kind t (Place n h) e = rw (nothing_held h e) refl
no_count k kind t (Modules l) e = refl
no_count k kind t (NextId id) e = refl

no_count_of : (k : Shape) (kind : Kind) (tag : Tag) (p : Part) → is_fresh k p ≡ true → counted_of kind tag p ≡ 0
no_count_of k kind tag (Cpu c) e = rw (fresh_cpu k c e).hand refl
no_count_of k kind tag (Place n h) e = rw (nothing_held h e) refl
no_count_of k kind tag (Modules l) e = refl
no_count_of k kind tag (NextId id) e = refl

no_record : (k : Shape) (test : Record → Bool) (p : Part) → is_fresh k p ≡ true → records_with test p ≡ 0
no_record k test (Cpu c) e = refl
no_record k test (Place n h) e = refl
no_record k test (Modules l) e = rw (fresh_list k l e).records refl
no_record k test (NextId id) e = refl

no_user : (k : Shape) (id : ℕ) (p : Part) → is_fresh k p ≡ true → users_of id p ≡ 0
no_user k id (Cpu c) e = refl
no_user k id (Place n h) e = refl
no_user k id (Modules l) e = rw (fresh_list k l e).records refl
no_user k id (NextId next) e = refl

no_run : (k : Shape) (test : Run → Bool) (p : Part) → is_fresh k p ≡ true → runs_with test p ≡ 0
no_run k test (Cpu c) e = rw (fresh_cpu k c e).runs refl
no_run k test (Place n h) e = refl
no_run k test (Modules l) e = rw (fresh_list k l e).away refl
no_run k test (NextId id) e = refl

no_note : (k : Shape) (test : Note → Bool) (p : Part) → is_fresh k p ≡ true → notes_with test p ≡ 0
no_note k test (Cpu c) e = rw (fresh_cpu k c e).notes refl
no_note k test (Place n h) e = refl
no_note k test (Modules l) e = refl
no_note k test (NextId id) e = refl

few_runs : (k : Shape) (id : ℕ) (p : Part) → is_fresh k p ≡ true → one_if (not (nat_le (runs_of_cpu id p) 1)) ≡ 0
few_runs k id (Cpu c) e = rw (fresh_cpu k c e).runs refl
few_runs k id (Place n h) e = refl
few_runs k id (Modules l) e = refl
few_runs k id (NextId next) e = refl

no_reader : (k : Shape) (field : Reader → ℕ) (p : Part) → is_fresh k p ≡ true → of_reader field p ≡ 0
no_reader k field (Cpu c) e = refl
no_reader k field (Place n h) e = refl
no_reader k field (Modules l) e = rw (fresh_list k l e).sweep refl
no_reader k field (NextId id) e = refl

nothing_cleared : (k : Shape) (kind : Kind) (t : ℕ) (p : Part) → is_fresh k p ≡ true → cleared kind t p ≡ 0
nothing_cleared k kind t (Cpu c) e = refl
nothing_cleared k kind t (Place n h) e = refl
nothing_cleared k kind t (Modules l) e = rw (fresh_list k l e).sweep refl
nothing_cleared k kind t (NextId id) e = refl

fresh_fits : (k : Shape) (p : Part) → is_fresh k p ≡ true → one_if (not (part_fits k p)) ≡ 0
fresh_fits k (Cpu c) e = let f = fresh_cpu k c e in rw (f.number, f.long, f.hand) refl
fresh_fits k (Place n h) e = rw (nothing_held h e) refl
fresh_fits k (Modules l) e = rw (fresh_list k l e).records refl
fresh_fits k (NextId id) e = rw (eqb-true id 1 e) refl

fresh_list_fits : (k : Shape) (p : Part) → is_fresh k p ≡ true → one_if (not (list_fits k p)) ≡ 0
fresh_list_fits k (Cpu c) e = refl
fresh_list_fits k (Place n h) e = refl
fresh_list_fits k (Modules l) e = let f = fresh_list k l e in rw (f.records, f.sweep) refl
fresh_list_fits k (NextId id) e = refl

high_fresh : (k : Shape) (next : ℕ) (p : Part) → is_fresh k p ≡ true → one_if (not (records_with (λ r. not (nat_lt r.id next)) p == 0)) ≡ 0
high_fresh k next p e = rw (no_record k (λ r. not (nat_lt r.id next)) p e) refl

-- ---- the laws of a fresh state

pub fresh_safe : (k : Shape) (ps : List Part) → OneOfEach k ps → Every (is_fresh k) ps → Safe k ps
fresh_safe k ps each fresh = record {
  fits = none_fresh k (λ p. one_if (not (part_fits k p))) ps fresh (fresh_fits k);
  each = each;
  sums = record { sums = λ kind t. rw (none_fresh k (word_of kind t) ps fresh (no_word k kind t), none_fresh k (counted kind t) ps fresh (no_count k kind t)) refl };
  cover = record {
    ids_below_next = none_fresh k _ ps fresh (high_fresh k _);
    ids_apart = λ id. omega (arith, none_fresh k (records_with (λ r. r.id == id)) ps fresh (no_record k (λ r. r.id == id)));
    ranges_apart = λ t. omega (arith, none_fresh k (records_with (λ r. in_range r.start r.length t)) ps fresh (no_record k (λ r. in_range r.start r.length t)));
    named = λ tag h. absurd (omega (arith, none_fresh k (counted_of Calls tag) ps fresh (no_count_of k Calls tag)));
    runs = λ run h. absurd (omega (arith, none_fresh k (runs_with (same_run run)) ps fresh (no_run k (same_run run))));
    one_run = λ id. none_fresh k _ ps fresh (few_runs k id);
    users = λ id. omega (arith, none_fresh k (runs_with (λ r. r.id == id)) ps fresh (no_run k (λ r. r.id == id)), none_fresh k (users_of id) ps fresh (no_user k id));
    notes_known = λ n h. absurd (omega (arith, none_fresh k (notes_with (same_note n)) ps fresh (no_note k (same_note n))));
    notes_agree = λ n h. none_fresh k (records_with (contradicts n)) ps fresh (no_record k (contradicts n));
  };
  sweep = record {
    fits = none_fresh k (λ p. one_if (not (list_fits k p))) ps fresh (fresh_list_fits k);
    reading = λ kind h. absurd (omega (arith, none_fresh k (is_reading kind) ps fresh (no_reader k (λ r. one_if (same_kind kind r.pass)))));
    cleared = λ kind t h. none_fresh k (counted kind t) ps fresh (no_count k kind t);
  };
}

-- ---- what it has not

no_stop : (k : Shape) (kind : Kind) (t : ℕ) (p : Part) → is_fresh k p ≡ true → stops_at kind t p ≡ 0
no_stop k kind t (Cpu c) e = refl
no_stop k kind t (Place n h) e = refl
no_stop k kind t (Modules l) e = rw (fresh_list k l e).stops refl
no_stop k kind t (NextId id) e = refl

pub fresh_stops : (k : Shape) (ps : List Part) (kind : Kind) (t : ℕ) → Every (is_fresh k) ps → sum_by (stops_at kind t) ps ≡ 0
fresh_stops k ps kind t fresh = none_fresh k (stops_at kind t) ps fresh (no_stop k kind t)

-- each pass gives 1 as the first id
first_ids : (k : Shape) (ps : List Part) → Every (is_fresh k) ps → sum_by next_id ps ≡ sum_by is_pass ps
first_ids k [] e = refl
first_ids k (p ∷ ps) e = omega (arith, sum_by-cons next_id p ps, sum_by-cons is_pass p ps, here p (every_first (is_fresh k) p ps e), first_ids k ps (every_rest (is_fresh k) p ps e))
  where
    here : (q : Part) → is_fresh k q ≡ true → next_id q ≡ is_pass q
    here (Cpu c) f = refl
    here (Place n h) f = refl
    here (Modules l) f = refl
    here (NextId id) f = eqb-true id 1 f

pub fresh_first_id : (k : Shape) (ps : List Part) → OneOfEach k ps → Every (is_fresh k) ps → sum_by next_id ps ≡ 1
fresh_first_id k ps each fresh = omega (arith, first_ids k ps fresh, each.pass)
