-- The live list of a core is that of its places: what a place holds, and what is on the list once it holds something else.
use Rattle.std.proofs.Common.{◌≡◌, ℕ, zero, suc, ◌+◌, ◌<◌, ◌==◌, not, true, false, cond, List, [], ◌∷◌, ◌++◌, length, get_or, set, refl, sym, ap, ◌∙◌, arith, Option, Some, None, eq-eqb, ne_eqb, unwrap_or}
use Rattle.std.proofs.lemmas.Bool.{and_from, and_parts}
use Rattle.std.proofs.lemmas.Cmp.{ranked}
use Rattle.std.specs.Ordering.{nat_cmp, is_eq, is_lt}
use Rattle.std.specs.declared.cmp.Ordering.{Ordering}
use Rattle.std.specs.declared.cmp.Ordering.TheVariants.{Less, Equal, Greater}
use Rattle.std.specs.FinMap.Entries.{put, find, is_sorted, below_all, by_order}
use Rattle.tag_model.specs.declared.state.Hand.{Hand}
use Rattle.tag_model.specs.declared.state.Held.{Held}
use Rattle.tag_model.specs.declared.state.Held.TheVariants as held
use Rattle.tag_model.specs.declared.state.Part.{Part}
use Rattle.tag_model.specs.declared.state.Part.TheVariants.{Place}
use Rattle.tag_model.specs.declared.state.Run.{Run}
use Rattle.tag_model.specs.Laws.{live_of, live_pair}
use Rattle.tag_model.specs.ListMachine as list
use Rattle.tag_model.specs.ListMachine.{Live, with_held, without}
use Rattle.core_list.specs.ListState.{ListState}
use Rattle.core_steps.specs.CoreState.{CoreState, cpu_parts, list_parts, place_parts, runs_of, state_with, word_state}

-- ---- numbers in their order

cmp_less : (x y : ℕ) → x < y → nat_cmp x y ≡ Less
cmp_less x y h = elim (nat_cmp x y) as (λ o. nat_cmp x y ≡ o → o ≡ Less) [
  | Less ↦ λ e. refl
  | Equal ↦ λ e. absurd (omega (arith, h, ranked x y Equal (sym e)))
  | Greater ↦ λ e. absurd (omega (arith, h, ranked x y Greater (sym e)))
] refl

cmp_greater : (x y : ℕ) → y < x → nat_cmp x y ≡ Greater
cmp_greater x y h = elim (nat_cmp x y) as (λ o. nat_cmp x y ≡ o → o ≡ Greater) [
  | Less ↦ λ e. absurd (omega (arith, h, ranked x y Less (sym e)))
  | Equal ↦ λ e. absurd (omega (arith, h, ranked x y Equal (sym e)))
  | Greater ↦ λ e. refl
] refl

cmp_equal : (x : ℕ) → nat_cmp x x ≡ Equal
cmp_equal x = elim (nat_cmp x x) as (λ o. nat_cmp x x ≡ o → o ≡ Equal) [
  | Less ↦ λ e. absurd (omega (arith, ranked x x Less (sym e)))
  | Equal ↦ λ e. refl
  | Greater ↦ λ e. absurd (omega (arith, ranked x x Greater (sym e)))
] refl

lt_less : (o : Ordering) → is_lt o ≡ true → o ≡ Less
lt_less Less e = refl
lt_less Equal e = absurd (cc)
lt_less Greater e = absurd (cc)

-- ---- a key below all others

front : (n : ℕ) (e : ℕ × Held) (es : Live) → below_all nat_cmp n (e ∷ es) ≡ true → (nat_cmp n e.0 ≡ Less) × (below_all nat_cmp n es ≡ true)
front n e es below = let both = and_parts (is_lt (nat_cmp n e.0)) (below_all nat_cmp n es) below in (lt_less (nat_cmp n e.0) both.0, both.1)

put_front : (n : ℕ) (h : Held) (es : Live) → below_all nat_cmp n es ≡ true → put nat_cmp n h es ≡ (n, h) ∷ es
put_front n h [] below = refl
put_front n h (e ∷ es) below = ap (λ o. by_order o ((n, h) ∷ e ∷ es) ((e.0, h) ∷ es) (e ∷ put nat_cmp n h es)) (front n e es below).0

without_front : (n : ℕ) (es : Live) → below_all nat_cmp n es ≡ true → without n es ≡ es
without_front n [] below = refl
without_front n (e ∷ es) below =
    let f = front n e es below in
    let other : (e.0 == n) ≡ false = ne_eqb e.0 n (λ same. omega (arith, same, ranked n e.0 Less (sym f.0))) in
    ap (λ b. cond (not b) (e ∷ without n es) (without n es)) other ∙ ap (λ xs. e ∷ xs) (without_front n es f.1)

find_front : (n : ℕ) (es : Live) → below_all nat_cmp n es ≡ true → find nat_cmp n es ≡ None
find_front n [] below = refl
find_front n (e ∷ es) below = let f = front n e es below in ap (λ o. cond (is_eq o) (Some e.1) (find nat_cmp n es)) f.0 ∙ find_front n es f.1

with_front : (n : ℕ) (h : Held) (es : Live) → below_all nat_cmp n es ≡ true → live_pair (Place n h) ++ es ≡ with_held n h es
with_front n held.None es below = sym (without_front n es below)
with_front n held.Empty es below = sym (put_front n held.Empty es below)
with_front n (held.Counted tag size) es below = sym (put_front n (held.Counted tag size) es below)

-- ---- one entry is replaced

put_here : (n : ℕ) (h x : Held) (es : Live) → put nat_cmp n h ((n, x) ∷ es) ≡ (n, h) ∷ es
put_here n h x es = ap (λ o. by_order o ((n, h) ∷ (n, x) ∷ es) ((n, h) ∷ es) ((n, x) ∷ put nat_cmp n h es)) (cmp_equal n)

without_here : (n : ℕ) (x : Held) (es : Live) → below_all nat_cmp n es ≡ true → without n ((n, x) ∷ es) ≡ es
without_here n x es below = ap (λ b. cond (not b) ((n, x) ∷ without n es) (without n es)) (eq-eqb n n refl) ∙ without_front n es below

entry_here : (n : ℕ) (h x : Held) (es : Live) → below_all nat_cmp n es ≡ true → live_pair (Place n h) ++ es ≡ with_held n h ((n, x) ∷ es)
entry_here n held.None x es below = sym (without_here n x es below)
entry_here n held.Empty x es below = sym (put_here n held.Empty x es)
entry_here n (held.Counted tag size) x es below = sym (put_here n (held.Counted tag size) x es)

with_here : (n : ℕ) (h x : Held) (es : Live) → below_all nat_cmp n es ≡ true → live_pair (Place n h) ++ es ≡ with_held n h (live_pair (Place n x) ++ es)
with_here n h held.None es below = with_front n h es below
with_here n h held.Empty es below = entry_here n h held.Empty es below
with_here n h (held.Counted tag size) es below = entry_here n h (held.Counted tag size) es below

put_later : (n k : ℕ) (h x : Held) (es : Live) → n < k → put nat_cmp k h ((n, x) ∷ es) ≡ (n, x) ∷ put nat_cmp k h es
put_later n k h x es less = ap (λ o. by_order o ((k, h) ∷ (n, x) ∷ es) ((n, h) ∷ es) ((n, x) ∷ put nat_cmp k h es)) (cmp_greater k n less)

without_later : (n k : ℕ) (x : Held) (es : Live) → n < k → without k ((n, x) ∷ es) ≡ (n, x) ∷ without k es
without_later n k x es less = ap (λ b. cond (not b) ((n, x) ∷ without k es) (without k es)) (ne_eqb n k (λ same. omega (arith, same, less)))

entry_later : (n k : ℕ) (h x : Held) (es : Live) → n < k → with_held k h ((n, x) ∷ es) ≡ (n, x) ∷ with_held k h es
entry_later n k held.None x es less = without_later n k x es less
entry_later n k held.Empty x es less = put_later n k held.Empty x es less
entry_later n k (held.Counted tag size) x es less = put_later n k (held.Counted tag size) x es less

with_later : (n k : ℕ) (h x : Held) (es : Live) → n < k → with_held k h (live_pair (Place n x) ++ es) ≡ live_pair (Place n x) ++ with_held k h es
with_later n k h held.None es less = refl
with_later n k h held.Empty es less = entry_later n k h held.Empty es less
with_later n k h (held.Counted tag size) es less = entry_later n k h (held.Counted tag size) es less

-- ---- the live list of places

below_from : (m n : ℕ) (places : List Held) → m < n → below_all nat_cmp m (live_of (place_parts n places)) ≡ true
below_from m n [] less = refl
below_from m n (x ∷ places) less = go x (below_from m (n + 1) places (omega arith))
  where
    go : (x : Held) → below_all nat_cmp m (live_of (place_parts (n + 1) places)) ≡ true → below_all nat_cmp m (live_pair (Place n x) ++ live_of (place_parts (n + 1) places)) ≡ true
    go held.None rest = rest
    go held.Empty rest = and_from _ _ (ap is_lt (cmp_less m n less)) rest
    go (held.Counted tag size) rest = and_from _ _ (ap is_lt (cmp_less m n less)) rest

pub live_set_from : (n : ℕ) (places : List Held) (i : ℕ) (h : Held) → i < length places → live_of (place_parts n (set places i h)) ≡ with_held (n + i) h (live_of (place_parts n places))
live_set_from n [] i h below = absurd (omega arith)
live_set_from n (x ∷ places) zero h below =
    with_here n h x (live_of (place_parts (n + 1) places)) (below_from n (n + 1) places (omega arith)) ∙ ap (λ k. with_held k h (live_of (place_parts n (x ∷ places)))) (let same : n ≡ n + 0 = omega arith in same)
live_set_from n (x ∷ places) (suc i) h below =
    let same : n + 1 + i ≡ n + suc i = omega arith in
    ap (λ es. live_pair (Place n x) ++ es) (live_set_from (n + 1) places i h (omega arith))
    ∙ (sym (with_later n (n + 1 + i) h x (live_of (place_parts (n + 1) places)) (omega arith)) ∙ ap (λ k. with_held k h (live_of (place_parts n (x ∷ places)))) same)

-- what a place holds
pub live_held_from : (n : ℕ) (places : List Held) (i : ℕ) → i < length places → list.held_at (n + i) (live_of (place_parts n places)) ≡ get_or places i held.None
live_held_from n [] i below = absurd (omega arith)
live_held_from n (x ∷ places) zero below = ap (λ k. list.held_at k (live_of (place_parts n (x ∷ places)))) (let same : n + 0 ≡ n = omega arith in same) ∙ go x
  where
    go : (x : Held) → list.held_at n (live_pair (Place n x) ++ live_of (place_parts (n + 1) places)) ≡ x
    go held.None = ap (λ o. unwrap_or o held.None) (find_front n (live_of (place_parts (n + 1) places)) (below_from n (n + 1) places (omega arith)))
    go held.Empty = ap (λ o. unwrap_or (cond (is_eq o) (Some held.Empty) (find nat_cmp n (live_of (place_parts (n + 1) places)))) held.None) (cmp_equal n)
    go (held.Counted tag size) = ap (λ o. unwrap_or (cond (is_eq o) (Some (held.Counted tag size)) (find nat_cmp n (live_of (place_parts (n + 1) places)))) held.None) (cmp_equal n)
live_held_from n (x ∷ places) (suc i) below =
    let same : n + suc i ≡ n + 1 + i = omega arith in
    ap (λ k. list.held_at k (live_of (place_parts n (x ∷ places)))) same ∙ (go x ∙ live_held_from (n + 1) places i (omega arith))
  where
    go : (x : Held) → list.held_at (n + 1 + i) (live_pair (Place n x) ++ live_of (place_parts (n + 1) places)) ≡ list.held_at (n + 1 + i) (live_of (place_parts (n + 1) places))
    go held.None = refl
    go held.Empty = ap (λ o. unwrap_or (cond (is_eq o) (Some held.Empty) (find nat_cmp (n + 1 + i) (live_of (place_parts (n + 1) places)))) held.None) (cmp_greater (n + 1 + i) n (omega arith))
    go (held.Counted tag size) = ap (λ o. unwrap_or (cond (is_eq o) (Some (held.Counted tag size)) (find nat_cmp (n + 1 + i) (live_of (place_parts (n + 1) places)))) held.None) (cmp_greater (n + 1 + i) n (omega arith))

pub live_sorted : (n : ℕ) (places : List Held) → is_sorted nat_cmp (live_of (place_parts n places)) ≡ true
live_sorted n [] = refl
live_sorted n (x ∷ places) = go x (below_from n (n + 1) places (omega arith)) (live_sorted (n + 1) places)
  where
    go : (x : Held) → below_all nat_cmp n (live_of (place_parts (n + 1) places)) ≡ true → is_sorted nat_cmp (live_of (place_parts (n + 1) places)) ≡ true → is_sorted nat_cmp (live_pair (Place n x) ++ live_of (place_parts (n + 1) places)) ≡ true
    go held.None below rest = rest
    go held.Empty below rest = and_from _ _ below rest
    go (held.Counted tag size) below rest = and_from _ _ below rest

-- ---- the live list of a core

no_cpu_lives : (n : ℕ) (hands : List (Option Hand)) (words : List (List ℕ)) (runs : ℕ → List Run) (rest : List Part) → live_of (cpu_parts n hands words runs ++ rest) ≡ live_of rest
no_cpu_lives n [] words runs rest = refl
no_cpu_lives n (hand ∷ hands) [] runs rest = refl
no_cpu_lives n (hand ∷ hands) (own ∷ words) runs rest = no_cpu_lives (n + 1) hands words runs rest

no_list_lives : (n : ℕ) (places : List Held) (l : ListState) → live_of (place_parts n places ++ list_parts 0 [] l) ≡ live_of (place_parts n places)
no_list_lives n [] l = refl
no_list_lives n (x ∷ places) l = ap (λ es. live_pair (Place n x) ++ es) (no_list_lives (n + 1) places l)

pub lives_of : (s : CoreState) → live_of (word_state s) ≡ live_of (place_parts 0 s.machine.places)
unfolding state_with
lives_of s = no_cpu_lives 0 s.machine.hands s.words (runs_of s.modules) (place_parts 0 s.machine.places ++ list_parts 0 [] s.modules.list) ∙ no_list_lives 0 s.machine.places s.modules.list

pub live_set : (places : List Held) (key : ℕ) (h : Held) → key < length places → live_of (place_parts 0 (set places key h)) ≡ with_held key h (live_of (place_parts 0 places))
live_set places key h below = live_set_from 0 places key h below ∙ ap (λ k. with_held k h (live_of (place_parts 0 places))) (let same : 0 + key ≡ key = omega arith in same)

pub live_held : (places : List Held) (key : ℕ) → key < length places → list.held_at key (live_of (place_parts 0 places)) ≡ get_or places key held.None
live_held places key below = ap (λ k. list.held_at k (live_of (place_parts 0 places))) (let same : key ≡ 0 + key = omega arith in same) ∙ live_held_from 0 places key below
