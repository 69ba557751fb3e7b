use Rattle.std.proofs.Common.{ℕ, ◌≡◌, ◌+◌, ◌<◌, ◌++◌, IsTrue, List, [], ◌∷◌, length, map, sym, ap, ◌∙◌, subst, arith, length-append}
use Rattle.std.specs.List.{range_with_len}
use Rattle.std.specs.Option.{option_to_list}
use Rattle.std.proofs.lemmas.Bool.{and_from, le-leb, lt-ltb}
use Rattle.tag_model.specs.Index.{page_index}
use Rattle.tag_rule.specs.Made.{AreFresh, fresh_pages, pages_of}
use Rattle.tag_rule.specs.Shown.{Board, PoolShown, has}
use Rattle.tag_rule.proofs.Runs.{has_range}
use Rattle.split_swap.proofs.tests.new_bench.Goals as goal

only : (xs : List PoolShown) (p r : PoolShown) → p ∷ [] ≡ xs ++ r ∷ [] → r ≡ p
only [] p r e = cc
only (x ∷ xs) p r e = absurd (let long = ap length e in omega (arith, long, length-append xs (r ∷ [])))

has_frames : (b : Board) (r : PoolShown) (frame : ℕ) → r ≡ pages_of b 0 → frame < b.shape.frames → IsTrue (has r (page_index r.board.shape 0 frame))
has_frames b r frame is below =
    subst (λ p. IsTrue (has p (page_index p.board.shape 0 frame))) (sym is)
    (has_range (page_index b.shape 0 frame) (page_index b.shape 0 0) b.shape.frames
    ∙ and_from _ _ (le-leb (page_index b.shape 0 0) (page_index b.shape 0 frame) (omega arith)) (lt-ltb (page_index b.shape 0 frame) (page_index b.shape 0 0 + b.shape.frames) (omega arith)))

pub new-requires-clause-cells : goal.new-requires-clause-cells
new-requires-clause-cells c =
    let fresh : AreFresh (record { cpus = 1; tags = 4; kernel_tags = 4; frames = 16; vectors = 0 }) c.in_ok-seats.seats = c.in_ok-seats.ensures in
    let b = fresh.board in
    let one : fresh_pages b ≡ pages_of b 0 ∷ [] = ap (λ n. map (pages_of b) (range_with_len 0 n)) (ap (λ k. k.cpus) fresh.shape) in
    let all : c.in_ok-seats.seats.pages.items ≡ pages_of b 0 ∷ [] = fresh.pages ∙ one in
    let popped : c.in_ok-seats.seats.pages.items ≡ c.pop-2.new.self.items ++ c.unwrap.result ∷ [] = c.pop-2.ensures.items ∙ ap (λ o. c.pop-2.new.self.items ++ option_to_list o) c.unwrap.ensures in
    let is : c.unwrap.result ≡ pages_of b 0 = only c.pop-2.new.self.items (pages_of b 0) c.unwrap.result (sym all ∙ popped) in
    let frames : b.shape.frames ≡ 16 = ap (λ k. k.frames) fresh.shape in
    λ frame below. has_frames b c.unwrap.result frame is (omega (arith, frames))
