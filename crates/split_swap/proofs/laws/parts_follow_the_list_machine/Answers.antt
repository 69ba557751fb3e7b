use Rattle.std.proofs.Common.{ℕ, zero, suc, ◌≡◌, ◌+◌, ◌-◌, ◌*◌, ◌^◌, ◌<◌, List, [], ◌∷◌, length, get_or, map, inl, inr, sym, ap, ◌∙◌, arith}
use Rattle.std.specs.List.{range_with_len}
use Rattle.std.proofs.lemmas.List.FromFn.{length-map-range_with_len, get_or-map-range_with_len}
use Rattle.std.proofs.lemmas.Bool.{cases_eq}
use Rattle.std.proofs.lemmas.Nat.{pow_pos}
use Rattle.tag_model.specs.declared.state.Held.{Held}
use Rattle.tag_model.specs.ListMachine.{Live, done, held_at, with_held, with_each, parts_of}
use Rattle.tag_model.specs.RefMoves.{part_of, split_moves}
use Rattle.tag_model.proofs.LiveLists.{held_here, held_elsewhere}
use Rattle.page_ext.specs.Shown.{BlockShown}
use Rattle.split_swap.specs.Parts.{parts_in, split_op}
use Rattle.split_swap.proofs.laws.parts_follow_the_list_machine.Goals as goal

-- a place that has it keeps it
with_each_stays : (p : ℕ) (places : List ℕ) (h : Held) (live : Live) → held_at p live ≡ h → held_at p (with_each places h live) ≡ h
with_each_stays p [] h live is = is
with_each_stays p (q ∷ places) h live is = with_each_stays p places h (with_held q h live) (elim (cases_eq p q) [
  | inl same ↦ ap (λ n. held_at n (with_held q h live)) same ∙ held_here q h live
  | inr other ↦ held_elsewhere p q h live other ∙ is
])

-- and each of the places gets it
with_each_at : (places : List ℕ) (k : ℕ) (h : Held) (live : Live) (d : ℕ) → k < length places → held_at (get_or places k d) (with_each places h live) ≡ h
with_each_at [] k h live d inside = absurd (omega arith)
with_each_at (q ∷ places) zero h live d inside = with_each_stays q places h (with_held q h live) (held_here q h live)
with_each_at (q ∷ places) (suc k) h live d inside = with_each_at places k h (with_held q h live) d (omega arith)

abbrev others : ℕ → BlockShown → List ℕ
others order block = map (λ place. block.cell.first + place * 2 ^ order) (range_with_len 1 (parts_in order block.order - 1))

many : (order : ℕ) (block : BlockShown) → parts_of (others order block) ≡ parts_in order block.order
many order block = omega (arith, length-map-range_with_len (λ place. block.cell.first + place * 2 ^ order) 1 (parts_in order block.order - 1), pow_pos (block.order - order))

place_at : (order place : ℕ) (block : BlockShown) → place < parts_in order block.order → get_or (block.cell.first ∷ others order block) place 0 ≡ block.cell.first + place * 2 ^ order
place_at order zero block inside = omega arith
place_at order (suc place) block inside = get_or-map-range_with_len (λ n. block.cell.first + n * 2 ^ order) 1 (parts_in order block.order - 1) place (suc place) 0 (omega arith) (omega arith)

split : (order : ℕ) (block : BlockShown) (live : Live) → held_at block.cell.first live ≡ block.cell.held → (place : ℕ) → place < parts_in order block.order
    → held_at (block.cell.first + place * 2 ^ order) (done (split_op order block) live) ≡ part_of (parts_in order block.order) block.cell.held
split order block live is place inside =
    let h : Held = part_of (parts_of (others order block)) (held_at block.cell.first live) in
    ap (λ n. held_at n (done (split_op order block) live)) (sym (place_at order place block inside))
    ∙ with_each_at (block.cell.first ∷ others order block) place h live 0 (omega (arith, many order block))
    ∙ ap (λ n. part_of n (held_at block.cell.first live)) (many order block) ∙ ap (part_of (parts_in order block.order)) is

pub returns-clause-split : goal.returns-clause-split
returns-clause-split c = split

pub returns-clause-split_moves : goal.returns-clause-split_moves
returns-clause-split_moves c = λ cpu order block live is. ap (λ n. split_moves cpu n (held_at block.cell.first live)) (many order block) ∙ ap (split_moves cpu (parts_in order block.order)) is

pub returns-clause-swapped_one : goal.returns-clause-swapped_one
returns-clause-swapped_one c = λ one two live. held_here one (held_at two live) (with_held two (held_at one live) live)

pub returns-clause-swapped_two : goal.returns-clause-swapped_two
returns-clause-swapped_two c = λ one two live apart. held_elsewhere two one (held_at two live) (with_held two (held_at one live) live) (λ same. apart (sym same)) ∙ held_here two (held_at one live) live
