-- The parts of what a key has.
use Rattle.std.proofs.Common.{◌≡◌, ℕ, zero, suc, ◌+◌, ◌≢◌, true, false, All, List, [], ◌∷◌, map, replicate, Result, Ok, Err, OnOk, Option, Some, None, refl, sym, ap, ◌∙◌}
use Rattle.std.specs.List.{range_with_len}
use Rattle.std.proofs.lemmas.List.Elements.{All-nil, All-cons, All-head, All-tail}
use Rattle.std.proofs.lemmas.Simd.{map-map}
use Rattle.tag_model.specs.declared.state.Held.{Held}
use Rattle.tag_model.specs.declared.state.Held.TheVariants as held
use Rattle.tag_rule.specs.Shown.{Board}
use Rattle.page_ext.specs.Blocks.{is_whole}
use Rattle.page_ext.specs.Shown.{BlockShown, Fits, IsWhole}
use Rattle.split_swap.specs.Parts.{part_shown, parts_in, parts_shown}
use Rattle.trace_play.specs.Live.{part_in}
use Rattle.round_worker.specs.declared.keys.Kept.{Kept}
use Rattle.round_worker.specs.declared.keys.Kept.TheVariants.{Nothing, Block, Object}
use Rattle.slab_cache.specs.declared.place.Place.{Place}
use Rattle.slab_cache.specs.declared.place.PlaceCell.{PlaceCell}
use Rattle.slab_cache.specs.declared.object.Stored.{Stored}
use Rattle.slab_cache.specs.declared.object.Stored.TheVariants.{Pages, InSlab}
use Rattle.trace_play.specs.Live as live
use Rattle.slab_cache.specs.Shown.{in_slab, is_block, storage_of}
use Rattle.round_worker.specs.Kept.{IsKept, content_of}
use Rattle.round_worker.specs.Parting.{blocks, kept_part, kept_parts}

pub on_both : {X E A B C : Type 0} (r : Result X E) → (A → B → C) → OnOk r A → OnOk r B → OnOk r C
on_both (Ok x) f a b = f a b
on_both (Err e) f a b = tt

whole_is_some : (order : ℕ) (h : Held) → is_whole order h ≡ true → h ≢ held.None
whole_is_some order h whole none = let bad : false ≡ true = sym (ap (is_whole order) none) ∙ whole in let no : ⊥ = cc in no

-- each part is its own
pub parts_kept : (order : ℕ) (block : BlockShown) (board : Board) (places : List ℕ) → block.cell.board ≡ board
    → All (λ part. Fits part × IsWhole part) (map (λ place. part_shown order place block) places) → All (IsKept board) (map Block (map (λ place. part_shown order place block) places))
parts_kept order block board [] table all = All-nil (IsKept board)
parts_kept order block board (place ∷ places) table all =
    let part = part_shown order place block in
    let rest = map (λ p. part_shown order p block) places in
    let one = All-head (λ part. Fits part × IsWhole part) part rest all in
    All-cons (IsKept board) (Block part) (map Block rest) (table, one.0, whole_is_some order part.cell.held one.1)
    (parts_kept order block board places table (All-tail (λ part. Fits part × IsWhole part) part rest all))

pub same_parts : (order : ℕ) (block : BlockShown) → blocks (parts_shown order block) ≡ kept_parts order (Block block)
same_parts order block = map-map Block (λ place. part_shown order place block) (range_with_len 0 (parts_in order block.order))

all_alike : (kept : Kept) (start count : ℕ) → replicate count kept ≡ map (λ _. kept) (range_with_len start count)
all_alike kept start zero = refl
all_alike kept start (suc count) = ap (λ (ks : List Kept). kept ∷ ks) (all_alike kept (start + 1) count)

pub nothing_parts : (order whole : ℕ) → replicate (parts_in order whole) (Nothing order) ≡ kept_parts order (Nothing whole)
nothing_parts order whole = all_alike (Nothing order) 0 (parts_in order whole)

-- what a part is in the meaning
by_cell : (order place : ℕ) (at : Place) (cell : Option PlaceCell) → live.Stored (in_slab at.home at.frame at.place cell) ≡ part_in order place (live.Stored (in_slab at.home at.frame at.place cell))
by_cell order place at None = refl
by_cell order place at (Some cell) = refl

by_stored : (order place : ℕ) (stored : Stored) → is_block stored ≡ false → live.Stored (storage_of stored) ≡ part_in order place (live.Stored (storage_of stored))
by_stored order place (Pages block) is = let no : ⊥ = cc in absurd no
by_stored order place (InSlab at) is = by_cell order place at at.cell

pub part_content : (board : Board) (order : ℕ) (kept : Kept) → IsKept board kept → (place : ℕ) → content_of (kept_part order kept place) ≡ part_in order place (content_of kept)
part_content board order (Nothing whole) own place = refl
part_content board order (Block block) own place = refl
part_content board order (Object obj) own place = by_stored order place obj.stored own.1
