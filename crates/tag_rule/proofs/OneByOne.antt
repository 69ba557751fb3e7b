-- The single cells of a run: its first, and those of the rest.
use Rattle.std.proofs.Common.{◌≡◌, ℕ, ◌+◌, ◌-◌, ◌<◌, All, List, [], ◌∷◌, ◌++◌, map, zero, suc, append_assoc, ap, sym, ◌∙◌, subst, arith}
use Rattle.std.proofs.lemmas.List.Elements.{All-map}
use Rattle.std.specs.List.{range_with_len}
use Rattle.tag_model.specs.declared.state.Held.TheVariants as held
use Rattle.tag_rule.specs.Shown.{Board, CellShown}
use Rattle.tag_rule.specs.Singles.{single_cell, single_cells}

-- the first of some numbers, and the others
front : (first count : ℕ) → 0 < count → range_with_len first count ≡ first ∷ range_with_len (first + 1) (count - 1)
front first zero some = elim some [ ]
front first (suc n) some = let e : n ≡ suc n - 1 = omega arith in ap (λ k. first ∷ range_with_len (first + 1) k) e

-- what is behind the first cell
abbrev pub behind : CellShown → CellShown
behind c = record { board = c.board; first = c.first + 1; count = c.count - 1; held = held.None }

pub cut : (c : CellShown) → 0 < c.count → single_cells c ≡ single_cell c.board c.first ∷ single_cells (behind c)
cut c some = ap (map (single_cell c.board)) (front c.first c.count some)

pub single : (c : CellShown) → c.held ≡ held.None → record c { count = 1 } ≡ single_cell c.board c.first
single c none = ap (λ h. let s : CellShown = record { board = c.board; first = c.first; count = 1; held = h } in s) none

pub last : (c : CellShown) → c.held ≡ held.None → c.count ≡ 1 → c ∷ [] ≡ single_cells c
last c none one =
    ap (λ (h : CellShown). h ∷ []) (ap (λ n. let s : CellShown = record c { count = n } in s) one ∙ single c none)
    ∙ ap (λ n. map (single_cell c.board) (range_with_len c.first n)) (sym one)

-- one more came from the run to the cells so far
pub one_more : (so_far with_one all : List CellShown) (c one more : CellShown) → with_one ≡ so_far ++ one ∷ [] → one ≡ record c { count = 1 } → more ≡ behind c → c.held ≡ held.None → 0 < c.count
    → so_far ++ single_cells c ≡ all → with_one ++ single_cells more ≡ all
one_more so_far with_one all c one more pushed first rest none some is =
    ap (λ (xs : List CellShown). xs ++ single_cells more) (pushed ∙ ap (λ (h : CellShown). so_far ++ h ∷ []) (first ∙ single c none))
    ∙ (append_assoc so_far (single_cell c.board c.first ∷ []) (single_cells more)
    ∙ (ap (λ (m : CellShown). so_far ++ single_cell c.board c.first ∷ single_cells m) rest
    ∙ (ap (λ xs. so_far ++ xs) (sym (cut c some)) ∙ is)))

-- all are of the run's table
pub singles_there : (b : Board) (run : CellShown) (cells : List CellShown) → cells ≡ single_cells run → run.board ≡ b → All (λ (cell : CellShown). cell.board ≡ b) cells
singles_there b run cells are there =
    subst (All (λ (cell : CellShown). cell.board ≡ b)) (sym are) (All-map (λ (cell : CellShown). cell.board ≡ b) (single_cell run.board) (range_with_len run.first run.count) (λ i d low. there))
