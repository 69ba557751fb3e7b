-- What an allocation, a change and a split do to a sum over the live list.
use Rattle.std.proofs.Common.{◌≡◌, ℕ, zero, suc, ◌+◌, ◌-◌, ◌<◌, ◌≤◌, T, eqb, Some, None, sym, ap, ◌∙◌, subst, subst₂, arith, ne_eqb, add-zero}
use Rattle.std.specs.Prelude.{fold}
use Rattle.std.specs.List.{range_with_len}
use Rattle.std.proofs.lemmas.Bool.{cond-false}
use Rattle.std.proofs.lemmas.Nat.{pow_pos}
use Rattle.split_swap.specs.Parts.{parts_in}
use Rattle.trace_play.specs.Live.{Content, Live, content_at, put, order_of, part_in, part_key, split_live}
use Rattle.trace_play.specs.Worker.{WorkerState}
use Rattle.trace_play.specs.Alone.{rises}
use Rattle.trace_play.specs.Fits.{entry_at, IsUnbound, SplitFits}
use Rattle.trace_play.proofs.Entries.{find_put, sorted_put}
use Rattle.trace_play.proofs.KeysFit.{content_is, order_is}
use Rattle.trace_play.proofs.LiveSums.{found_weight, entries_sum, sum_put}

-- the sum over so many places from one on
abbrev pub parts_sum : (ℕ → ℕ) → ℕ → ℕ → ℕ
parts_sum part from zero = 0
parts_sum part from (suc count) = part from + parts_sum part (from + 1) count

pub put_unbound : (weight : Content → ℕ) (key : ℕ) (content : Content) (live : Live) → T (rises live) → IsUnbound key live → entries_sum weight (put key content live) ≡ entries_sum weight live + weight content
put_unbound weight key content live r none =
    let s = sum_put weight key content live r in
    let z = ap (found_weight weight) none in
    omega arith

-- a content that weighs as much takes the place of one
pub put_alike : (weight : Content → ℕ) (key : ℕ) (old new : Content) (live : Live) → T (rises live) → entry_at key live ≡ Some old → weight new ≡ weight old → entries_sum weight (put key new live) ≡ entries_sum weight live
put_alike weight key old new live r found alike =
    let s = sum_put weight key new live r in
    let f = ap (found_weight weight) found in
    omega arith

pub later_parts : (weight : Content → ℕ) (key first : ℕ) (part : ℕ → Content) (many from new : ℕ) (live : Live) → 0 < from → new ≡ first + from - 1 → T (rises live) → ((q : ℕ) → new ≤ q → q < new + many → IsUnbound q live)
    → entries_sum weight (fold (λ parts place. put (part_key key first place) (part place) parts) live (range_with_len from many)) ≡ entries_sum weight live + parts_sum (λ place. weight (part place)) from many
later_parts weight key first part zero from new live above is r none = sym (add-zero _)
later_parts weight key first part (suc many) from new live above is r none =
    let here : part_key key first from ≡ new = cond-false (eqb from 0) key (first + from - 1) (ne_eqb from 0 (λ e. omega arith)) ∙ sym is in
    let now = put (part_key key first from) (part from) live in
    let one = put_unbound weight (part_key key first from) (part from) live r (subst (λ k. IsUnbound k live) (sym here) (none new (omega arith) (omega arith))) in
    let rest = later_parts weight key first part many (from + 1) (new + 1) now (omega arith) (omega arith) (sorted_put (part_key key first from) (part from) live r)
    (λ q low high. find_put q (part_key key first from) (part from) live ∙ cond-false (eqb q (part_key key first from)) (Some (part from)) (entry_at q live) (ne_eqb q (part_key key first from) (λ e. omega (arith, here))) ∙ none q (omega arith) (omega arith)) in
    omega arith

pub split_sum : (weight : Content → ℕ) (key order first : ℕ) (w : WorkerState) → T (rises w.live) → (f : SplitFits key order first w.live)
    → entries_sum weight (split_live key order first w.live) + weight f.block.content ≡ entries_sum weight w.live + parts_sum (λ place. weight (part_in order place f.block.content)) 0 (parts_in order f.whole)
split_sum weight key order first w r f =
    let content = f.block.content in
    let there : content_at key w.live ≡ content = content_is key w.live content f.block.found in
    let some = pow_pos (f.whole - order) in
    let many = parts_in order f.whole - 1 in
    let parts : parts_in order f.whole ≡ suc many = omega arith in
    let order_there : order_of content ≡ f.whole = order_is f.whole _ content f.block.is in
    let part = λ (place : ℕ). part_in order place content in
    let now = put key (part 0) w.live in
    let first_one = sum_put weight key (part 0) w.live r in
    let was = ap (found_weight weight) f.block.found in
    let rest : entries_sum weight (fold (λ parts place. put (part_key key first place) (part place) parts) now (range_with_len 1 many)) ≡ entries_sum weight now + parts_sum (λ place. weight (part place)) 1 many =
    later_parts weight key first part many 1 first now (omega arith) (omega arith) (sorted_put key (part 0) w.live r)
    (λ q low high.
    let unbound = f.unbound q low high in
    find_put q key (part 0) w.live ∙ cond-false (eqb q key) (Some (part 0)) (entry_at q w.live) (ne_eqb q key (λ e. some_none content (sym f.block.found ∙ ap (λ k. entry_at k w.live) (sym e) ∙ unbound))) ∙ unbound) in
    let whole_sum : entries_sum weight (fold (λ parts place. put (part_key key first place) (part place) parts) w.live (range_with_len 0 (suc many))) + weight content ≡ entries_sum weight w.live + parts_sum (λ place. weight (part place)) 0 (suc many) = omega arith in
    subst₂ (λ (c : Content) n. entries_sum weight (fold (λ parts place. put (part_key key first place) (part_in order place c) parts) w.live (range_with_len 0 n)) + weight content ≡ entries_sum weight w.live + parts_sum (λ place. weight (part place)) 0 (parts_in order f.whole))
    (sym there) (sym (ap (λ c. parts_in order (order_of c)) there ∙ ap (parts_in order) order_there ∙ parts))
    (subst (λ n. entries_sum weight (fold (λ parts place. put (part_key key first place) (part place) parts) w.live (range_with_len 0 (suc many))) + weight content ≡ entries_sum weight w.live + parts_sum (λ place. weight (part place)) 0 n) (sym parts) whole_sum)
  where
    some_none : (c : Content) → Some c ≡ None → ⊥
    some_none c e = let no : ⊥ = cc in no
