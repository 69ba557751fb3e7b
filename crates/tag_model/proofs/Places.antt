-- Where parts stand in a state: they become others there, and the laws don't ask for the order.
use Rattle.std.proofs.Common.{◌≡◌, ℕ, List, [], ◌∷◌, ◌++◌, sum_by, sym, arith, not}
use Rattle.std.proofs.lemmas.List.Sums.{sum_by-append}
use Rattle.tag_model.specs.declared.shape.Shape.{Shape}
use Rattle.tag_model.specs.declared.state.Kind.TheVariants.{Calls}
use Rattle.tag_model.specs.declared.state.Part.{Part}
use Rattle.tag_model.specs.Laws.{Safe, tag_read, cpu_read}
use Rattle.tag_model.specs.StepRules.{Becomes}
use Rattle.tag_model.specs.WordState.{one_if, word_of, word_from, counted, counted_of, is_cpu, is_pass, is_place, is_place_at, runs_with, notes_with, next_id, part_fits}
use Rattle.tag_model.proofs.Alike.{Alike, alike_book, each_alike, cover_alike, sweep_alike}
use Rattle.tag_model.proofs.Found.{sum_at}

-- ---- parts that become others where they stand

pub becomes_one : (front : List Part) (p q : Part) (back : List Part) → Becomes (p ∷ []) (q ∷ []) (front ++ p ∷ back) (front ++ q ∷ back)
becomes_one front p q back = record {
  rest = front ++ back;
  before = λ f. omega (arith, sum_at f front p back, sum_by-append f front back);
  after = λ f. omega (arith, sum_at f front q back, sum_by-append f front back);
}

-- the first of two stands before the second
pub becomes_two : (front : List Part) (p q : Part) (middle : List Part) (r s : Part) (back : List Part) → Becomes (p ∷ r ∷ []) (q ∷ s ∷ []) (front ++ p ∷ (middle ++ r ∷ back)) (front ++ q ∷ (middle ++ s ∷ back))
becomes_two front p q middle r s back = record {
  rest = front ++ (middle ++ back);
  before = λ f. omega (arith, sum_at f front p (middle ++ r ∷ back), sum_at f middle r back, sum_by-append f front (middle ++ back), sum_by-append f middle back);
  after = λ f. omega (arith, sum_at f front q (middle ++ s ∷ back), sum_at f middle s back, sum_by-append f front (middle ++ back), sum_by-append f middle back);
}

-- the first of two stands behind the second
pub becomes_two_back : (front : List Part) (p q : Part) (middle : List Part) (r s : Part) (back : List Part) → Becomes (p ∷ r ∷ []) (q ∷ s ∷ []) (front ++ r ∷ (middle ++ p ∷ back)) (front ++ s ∷ (middle ++ q ∷ back))
becomes_two_back front p q middle r s back = record {
  rest = front ++ (middle ++ back);
  before = λ f. omega (arith, sum_at f front r (middle ++ p ∷ back), sum_at f middle p back, sum_by-append f front (middle ++ back), sum_by-append f middle back);
  after = λ f. omega (arith, sum_at f front s (middle ++ q ∷ back), sum_at f middle q back, sum_by-append f front (middle ++ back), sum_by-append f middle back);
}

-- parts that become others become them in states with the same sums
pub becomes_like : (v w old new ps qs : List Part) → ((f : Part → ℕ) → sum_by f ps ≡ sum_by f old) → ((f : Part → ℕ) → sum_by f qs ≡ sum_by f new) → Becomes v w old new → Becomes v w ps qs
becomes_like v w old new ps qs h k b = record { rest = b.rest; before = λ f. omega (arith, h f, b.before f); after = λ f. omega (arith, k f, b.after f) }

-- ---- the laws don't ask for the order

pub safe_same : (k : Shape) (ps qs : List Part) → ((f : Part → ℕ) → sum_by f ps ≡ sum_by f qs) → Safe k ps → Safe k qs
safe_same k ps qs same safe =
    let alike : Alike ps qs = record {
      cpus = λ n. same (is_cpu n);
      pass = same is_pass;
      places = λ n. same (is_place_at n);
      few_places = same is_place;
      runs = λ test. same (runs_with test);
      notes = λ test. same (notes_with test);
      next = same next_id;
      one_run = λ id. same _;
      list = λ f o. same f;
    } in
    record {
      fits = omega (arith, safe.fits, same (λ p. one_if (not (part_fits k p))));
      each = each_alike k ps qs (alike_book ps qs alike) safe.each;
      sums = record { sums = λ kind t. rw (sym (same (word_of kind t)), sym (same (counted kind t))) (safe.sums.sums kind t) };
      cover = cover_alike k ps qs (alike_book ps qs alike) safe.cover (λ tag h. safe.cover.named tag (omega (arith, same (counted_of Calls tag))));
      sweep = sweep_alike k ps qs alike safe.sweep
          (λ kind s h le. rw (sym (same (counted kind (tag_read ps))), sym (same (word_from (cpu_read ps) kind (tag_read ps)))) le)
          (λ kind t h none. omega (arith, same (counted kind t)));
    }
