-- A block's parts are those of its halves, one after the other; and what splits of the halves add is what a split of the whole adds.
use Rattle.std.proofs.Common.{◌≡◌, ℕ, suc, ◌+◌, ◌-◌, ◌*◌, ◌/◌, ◌^◌, ◌<◌, ◌≤◌, ◌++◌, IsTrue, List, [], ◌∷◌, length, get_or, set, map, refl, ap, sym, ◌∙◌, arith, inl, inr, ◌⊎◌}
use Rattle.std.specs.List.{range_with_len}
use Rattle.std.proofs.lemmas.List.{same_lists, length-append, get_or_append_left, get_or-append_right, set_past, set-set, get_or-set_same}
use Rattle.std.proofs.lemmas.List.FromFn.{length-map-range_with_len, get_or-map-range_with_len}
use Rattle.std.proofs.lemmas.Bool.{cases_lt, eqb-true, eq-eqb, false≢true}
use Rattle.std.proofs.lemmas.Nat.{pow-add, shr-shr, shl-shr, pow_pos}
use Rattle.std.proofs.Math.Nat.{pow-suc, add-mul, mul_assoc, mul-le-mul_right}
use Rattle.tag_model.specs.declared.state.Held.{Held}
use Rattle.tag_model.specs.declared.state.Held.TheVariants as held
use Rattle.tag_model.specs.declared.state.Kind.{Kind}
use Rattle.tag_model.specs.declared.state.Kind.TheVariants.{Calls}
use Rattle.tag_model.specs.RefMoves.{part_of, split_moves}
use Rattle.tag_model.specs.StepRules.{raised}
use Rattle.tag_model.specs.WordState.{word_place}
use Rattle.tag_model.specs.Wrap.{wrap}
use Rattle.tag_model.proofs.MovedWords.{raises_is}
use Rattle.tag_rule.specs.Shown.{CpuShown, CellShown}
use Rattle.tag_ref.specs.Refs.{holding, moved_by}
use Rattle.page_ext.specs.Blocks.{is_whole, page_bytes}
use Rattle.page_ext.specs.Shown.{BlockShown, Fits, IsWhole, high_half, low_half}
use Rattle.split_swap.specs.Parts.{parts_in, part_shown, parts_shown}
use Rattle.page_ext.specs.Lending.{with_cell}

-- ---- how many parts

pub twice : (order whole : ℕ) → order < whole → parts_in order whole ≡ parts_in order (whole - 1) + parts_in order (whole - 1)
twice order whole below =
    let next : whole - order ≡ suc (whole - 1 - order) = omega arith in
    ap (λ n. 2 ^ n) next ∙ omega (arith, pow-suc 2 (whole - 1 - order))

pub some_parts : (order whole : ℕ) → 0 < parts_in order whole
some_parts order whole = pow_pos (whole - order)

two_halves : (whole : ℕ) → 0 < whole → parts_in (whole - 1) whole ≡ 2
two_halves whole some = let one : whole - (whole - 1) ≡ 1 = omega arith in ap (λ n. 2 ^ n) one

-- ---- the parts of the halves

part_part : (j k : ℕ) (h : Held) → part_of (2 ^ k) (part_of (2 ^ j) h) ≡ part_of (2 ^ (j + k)) h
part_part j k held.None = refl
part_part j k held.Empty = refl
part_part j k (held.Counted tag size) = ap (λ n. held.Counted tag n) (shr-shr size j k)

shared : (order whole : ℕ) (h : Held) → order < whole → part_of (parts_in order (whole - 1)) (part_of (parts_in (whole - 1) whole) h) ≡ part_of (parts_in order whole) h
shared order whole h below =
    let all : whole - (whole - 1) + (whole - 1 - order) ≡ whole - order = omega arith in
    part_part (whole - (whole - 1)) (whole - 1 - order) h ∙ ap (λ n. part_of (2 ^ n) h) all

abbrev shaped : BlockShown → ℕ → ℕ → ℕ → Held → BlockShown
shaped block order frame first h = record { home = block.home; frame = frame; order = order; cell = record block.cell { first = first; count = 2 ^ order; held = h } }

same_part : (block : BlockShown) (order frame other first another : ℕ) (h g : Held) → frame ≡ other → first ≡ another → h ≡ g → shaped block order frame first h ≡ shaped block order other another g
same_part block order frame other first another h g frames firsts helds =
    ap (λ n. shaped block order n first h) frames ∙ ap (λ n. shaped block order other n h) firsts ∙ ap (shaped block order other another) helds

low_part : (order place : ℕ) (block : BlockShown) → order < block.order → part_shown order place (part_shown (block.order - 1) 0 block) ≡ part_shown order place block
low_part order place block below =
    same_part block order _ _ _ _ _ _ (omega arith) (omega arith) (shared order block.order block.cell.held below)

-- the places of the second half come behind those of the first
high_place : (order whole place : ℕ) → order < whole → 1 * 2 ^ (whole - 1) + place * 2 ^ order ≡ (parts_in order (whole - 1) + place) * 2 ^ order
high_place order whole place below =
    let all : whole - 1 - order + order ≡ whole - 1 = omega arith in
    let power : 2 ^ (whole - 1) ≡ 2 ^ (whole - 1 - order) * 2 ^ order = sym (ap (λ n. 2 ^ n) all) ∙ pow-add 2 (whole - 1 - order) order in
    omega (arith, power, add-mul (2 ^ (whole - 1 - order)) place (2 ^ order))

high_part : (order place : ℕ) (block : BlockShown) → order < block.order → part_shown order place (part_shown (block.order - 1) 1 block) ≡ part_shown order (parts_in order (block.order - 1) + place) block
high_part order place block below =
    let p = high_place order block.order place below in
    same_part block order _ _ _ _ _ _ (omega (arith, p)) (omega (arith, p)) (shared order block.order block.cell.held below)

parts_length : (order : ℕ) (block : BlockShown) → length (parts_shown order block) ≡ parts_in order block.order
parts_length order block = length-map-range_with_len (λ place. part_shown order place block) 0 (parts_in order block.order)

pub part_is : (order place : ℕ) (block d : BlockShown) → place < parts_in order block.order → get_or (parts_shown order block) place d ≡ part_shown order place block
part_is order place block d below = get_or-map-range_with_len (λ n. part_shown order n block) 0 (parts_in order block.order) place place d below (omega arith)

pub halves_are_parts : (order : ℕ) (block first second : BlockShown) → order < block.order → first ≡ part_shown (block.order - 1) 0 block → second ≡ part_shown (block.order - 1) 1 block
    → parts_shown order first ++ parts_shown order second ≡ parts_shown order block
halves_are_parts order block first second below first_is second_is =
    ap (λ b. parts_shown order b ++ parts_shown order second) first_is ∙ ap (λ b. parts_shown order (part_shown (block.order - 1) 0 block) ++ parts_shown order b) second_is
    ∙ same_lists _ _ all_long (λ k d inside. go k d (omega (arith, all_long, parts_length order block)) (cases_lt k (parts_in order (block.order - 1))))
  where
    low_long : length (parts_shown order (part_shown (block.order - 1) 0 block)) ≡ parts_in order (block.order - 1)
    low_long = parts_length order (part_shown (block.order - 1) 0 block)

    all_long : length (parts_shown order (part_shown (block.order - 1) 0 block) ++ parts_shown order (part_shown (block.order - 1) 1 block)) ≡ length (parts_shown order block)
    all_long =
        length-append (parts_shown order (part_shown (block.order - 1) 0 block)) (parts_shown order (part_shown (block.order - 1) 1 block))
        ∙ omega (arith, parts_length order (part_shown (block.order - 1) 0 block), parts_length order (part_shown (block.order - 1) 1 block), parts_length order block, twice order block.order below)

    go : (k : ℕ) (d : BlockShown) → k < parts_in order block.order → (k < parts_in order (block.order - 1)) ⊎ (parts_in order (block.order - 1) ≤ k)
        → get_or (parts_shown order (part_shown (block.order - 1) 0 block) ++ parts_shown order (part_shown (block.order - 1) 1 block)) k d ≡ get_or (parts_shown order block) k d
    go k d inside (inl low) =
        get_or_append_left (parts_shown order (part_shown (block.order - 1) 0 block)) (parts_shown order (part_shown (block.order - 1) 1 block)) d k (omega (arith, low_long))
        ∙ part_is order k (part_shown (block.order - 1) 0 block) d low ∙ low_part order k block below ∙ sym (part_is order k block d inside)
    go k d inside (inr high) =
        let behind : parts_in order (block.order - 1) + (k - parts_in order (block.order - 1)) ≡ k = omega arith in
        get_or-append_right (parts_shown order (part_shown (block.order - 1) 0 block)) (parts_shown order (part_shown (block.order - 1) 1 block)) (parts_in order (block.order - 1)) k d low_long high
        ∙ part_is order (k - parts_in order (block.order - 1)) (part_shown (block.order - 1) 1 block) d (omega (arith, twice order block.order below))
        ∙ high_part order (k - parts_in order (block.order - 1)) block below
        ∙ ap (λ n. part_shown order n block) behind
        ∙ sym (part_is order k block d inside)

-- what a half holds
pub half_held : (place : ℕ) (block half : BlockShown) → 0 < block.order → half ≡ part_shown (block.order - 1) place block → half.cell.held ≡ part_of 2 block.cell.held
half_held place block half some is = ap (λ b. b.cell.held) is ∙ ap (λ n. part_of n block.cell.held) (two_halves block.order some)

-- ---- each part fits, and is whole

pub part_fits : (order place : ℕ) (block : BlockShown) → Fits block → order ≤ block.order → place < parts_in order block.order → Fits (part_shown order place block)
part_fits order place block fits small below =
    let all : block.order - order + order ≡ block.order = omega arith in
    let power : 2 ^ block.order ≡ 2 ^ (block.order - order) * 2 ^ order = sym (ap (λ n. 2 ^ n) all) ∙ pow-add 2 (block.order - order) order in
    let room : (place + 1) * 2 ^ order ≤ 2 ^ (block.order - order) * 2 ^ order = mul-le-mul_right {m = place + 1} {n = 2 ^ (block.order - order)} (2 ^ order) (omega arith) in
    let first = fits.first in
    let frames = fits.frames in
    record {
      first = omega arith;
      count = refl;
      home = fits.home;
      frames = omega (arith, add-mul place 1 (2 ^ order));
    }

part_whole : (order whole : ℕ) (h : Held) → order ≤ whole → IsTrue (is_whole whole h) → IsTrue (is_whole order (part_of (parts_in order whole) h))
part_whole order whole held.None small all = absurd (false≢true all)
part_whole order whole held.Empty small all = refl
part_whole order whole (held.Counted tag size) small all =
    let is : size ≡ page_bytes whole = eqb-true size (page_bytes whole) all in
    let sum : order + (whole - order) ≡ whole = omega arith in
    let power : 2 ^ whole ≡ 2 ^ order * 2 ^ (whole - order) = sym (ap (λ n. 2 ^ n) sum) ∙ pow-add 2 order (whole - order) in
    let bytes : size ≡ 4096 * 2 ^ order * 2 ^ (whole - order) = is ∙ ap (λ n. 4096 * n) power ∙ sym (mul_assoc 4096 (2 ^ order) (2 ^ (whole - order))) in
    eq-eqb (size / 2 ^ (whole - order)) (page_bytes order) (ap (λ n. n / 2 ^ (whole - order)) bytes ∙ shl-shr (4096 * 2 ^ order) (whole - order))

pub part_is_whole : (order place : ℕ) (block : BlockShown) → IsWhole block → order ≤ block.order → IsWhole (part_shown order place block)
part_is_whole order place block all small = part_whole order block.order block.cell.held small all

-- ---- the calls of two splits

twice_raised : (kind : Kind) (t a b : ℕ) (words : List ℕ) → raised kind t b (raised kind t a words) ≡ raised kind t (a + b) words
twice_raised kind t a b words = go (cases_lt (word_place kind t) (length words))
  where
    go : (word_place kind t < length words) ⊎ (length words ≤ word_place kind t) → raised kind t b (raised kind t a words) ≡ raised kind t (a + b) words
    go (inl inside) =
        let word = get_or words (word_place kind t) 0 in
        let sum : wrap (wrap (word + a) + b) ≡ wrap (word + (a + b)) = omega arith in
        ap (λ n. set (raised kind t a words) (word_place kind t) (wrap (n + b))) (get_or-set_same words (word_place kind t) (wrap (word + a)) 0 inside)
        ∙ set-set words (word_place kind t) (wrap (word + a)) (wrap (wrap (word + a) + b))
        ∙ ap (set words (word_place kind t)) sum
    go (inr past) =
        ap (raised kind t b) (set_past words (word_place kind t) _ past) ∙ set_past words (word_place kind t) _ past ∙ sym (set_past words (word_place kind t) _ past)

abbrev with_words : CpuShown → List ℕ → CpuShown
with_words cpu words = record cpu { part = record cpu.part { words = words } }

-- a split in two, and then one of each half in m parts
pub split_again : (cpu a b c : CpuShown) (h : Held) (m : ℕ) → 0 < m → a ≡ moved_by (split_moves cpu.part.number 2 h) cpu
    → b ≡ moved_by (split_moves a.part.number m (part_of 2 h)) a → c ≡ moved_by (split_moves b.part.number m (part_of 2 h)) b
    → c ≡ moved_by (split_moves cpu.part.number (m + m) h) cpu
split_again cpu a b c held.None m some first second third = third ∙ second ∙ first
split_again cpu a b c held.Empty m some first second third = third ∙ second ∙ first
split_again cpu a b c (held.Counted tag size) m some first second third =
    let once : (n : ℕ) (x : CpuShown) → moved_by (split_moves x.part.number n (held.Counted tag (size / 2))) x ≡ with_words x (raised Calls tag.number (n - 1) x.part.words) =
    λ n x. ap (with_words x) (raises_is x.part.number Calls tag (n - 1) x.part.words) in
    let calls : 2 - 1 + (m - 1) + (m - 1) ≡ m + m - 1 = omega arith in
    let more : CpuShown → CpuShown = λ x. with_words x (raised Calls tag.number (m - 1) x.part.words) in
    third ∙ once m b ∙ ap more (second ∙ once m a ∙ ap more (first ∙ ap (with_words cpu) (raises_is cpu.part.number Calls tag (2 - 1) cpu.part.words)))
    ∙ ap (with_words cpu)
    (ap (raised Calls tag.number (m - 1)) (twice_raised Calls tag.number (2 - 1) (m - 1) cpu.part.words)
    ∙ twice_raised Calls tag.number (2 - 1 + (m - 1)) (m - 1) cpu.part.words ∙ ap (λ n. raised Calls tag.number n cpu.part.words) calls)
    ∙ sym (ap (with_words cpu) (raises_is cpu.part.number Calls tag (m + m - 1) cpu.part.words))

-- ---- a split in two

pub first_part : (block low : BlockShown) (cell : CellShown) → 0 < block.order → low ≡ low_half block → cell ≡ holding (part_of 2 low.cell.held) low.cell → with_cell low cell ≡ part_shown (block.order - 1) 0 block
first_part block low cell some is holds =
    ap (with_cell low) holds ∙ ap (λ b. with_cell b (holding (part_of 2 b.cell.held) b.cell)) is
    ∙ same_part block (block.order - 1) _ _ _ _ _ _ (omega arith) (omega arith) (ap (λ n. part_of n block.cell.held) (sym (two_halves block.order some)))

pub second_part : (block high : BlockShown) (cell : CellShown) → 0 < block.order → high ≡ high_half block → cell ≡ holding (part_of 2 block.cell.held) high.cell → with_cell high cell ≡ part_shown (block.order - 1) 1 block
second_part block high cell some is holds =
    ap (with_cell high) holds ∙ ap (λ b. with_cell b (holding (part_of 2 block.cell.held) b.cell)) is
    ∙ same_part block (block.order - 1) _ _ _ _ _ _ (omega arith) (omega arith) (ap (λ n. part_of n block.cell.held) (sym (two_halves block.order some)))

pub in_two : (order whole : ℕ) → order < whole → whole - 1 ≡ order → parts_in order whole ≡ 2
in_two order whole below is = let one : whole - order ≡ 1 = omega arith in ap (λ n. 2 ^ n) one

pub two_parts : (order : ℕ) (block first second : BlockShown) → order < block.order → block.order - 1 ≡ order → first ≡ part_shown (block.order - 1) 0 block → second ≡ part_shown (block.order - 1) 1 block
    → first ∷ second ∷ [] ≡ parts_shown order block
two_parts order block first second below is first_is second_is =
    ap (λ b. b ∷ second ∷ []) first_is ∙ ap (λ b. part_shown (block.order - 1) 0 block ∷ b ∷ []) second_is
    ∙ ap (λ n. part_shown n 0 block ∷ part_shown n 1 block ∷ []) is
    ∙ sym (ap (λ n. map (λ place. part_shown order place block) (range_with_len 0 n)) (in_two order block.order below is))
