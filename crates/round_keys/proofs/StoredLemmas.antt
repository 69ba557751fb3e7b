-- What is said of each key, of the entries one by one and of pages.
use Rattle.std.proofs.Common.{◌≡◌, ℕ, zero, suc, ◌+◌, ◌*◌, ◌<◌, length, take, drop, get_or, Bool, true, false, cond, T, List, [], ◌∷◌, ◌++◌, map, Option, Some, None, is_some, All, IfSome, nat_cmp, is_eq, count_by, refl, sym, ap, ap₂, ◌∙◌, subst, arith}
use Rattle.std.specs.List.{flat_map}
use Rattle.std.specs.Map.{values_of}
use Rattle.std.specs.Option.{option_or}
use Rattle.std.specs.Cmp.{unsigned_tied}
use Rattle.std.specs.FinMap.Entries.{find, put, is_sorted, below_all}
use Rattle.std.proofs.lemmas.Bool.{cond-true, cond-false, eqb-true, eq-eqb}
use Rattle.std.proofs.lemmas.List.Elements.{All-nil, All-cons, All-head, All-tail, All-append, All-map}
use Rattle.std.proofs.lemmas.List.Sums.{sum_by-cons, sum_by-append}
use Rattle.tag_model.specs.Index.{Slot, Page}
use Rattle.tag_model.specs.Index.{Object as ObjectSlot}
use Rattle.tag_model.specs.declared.state.Held.{Held}
use Rattle.tag_rule.specs.Shown.{Board}
use Rattle.slab_cache.specs.Storage.{Pages, Object, Uncounted}
use Rattle.trace_play.specs.Live.{Content, Nothing, Stored, Live, held_of}
use Rattle.trace_play.specs.Left.{word_at}
use Rattle.trace_play.specs.Machine.{content_cell}
use Rattle.tag_model.specs.Reference.{is_counted}
use Rattle.trace_play.proofs.Entries.{first_true, second_true, find_below, put_all}
use Rattle.round_worker.specs.declared.keys.Kept.{Kept}
use Rattle.round_worker.specs.Cells.{first_some, kept_word}
use Rattle.round_worker.specs.Kept.{IsKept, KeyList, content_of, live_of}
use Rattle.round_keys.specs.Pages.{InSlots, IsPage, pages_from, slots_from}
use Rattle.round_worker.specs.Parting.{AreKept}
use Rattle.round_worker.specs.Shown.{WorkerShown}
use Rattle.round_keys.specs.Stored.{bound_word, counted_in, counts_on, counts_slot, key_cells}
use Rattle.round_worker.proofs.CellLemmas.{kept_found, more_found}
use Rattle.round_worker.proofs.KeyLemmas.{live_put}
use Rattle.round_check.proofs.Named.{by_bool}
use Rattle.round_keys.proofs.PageLemmas.{pages_rise, unmapped}

-- ---- the first entry and the others

at_itself : (key : ℕ) → is_eq (nat_cmp key key) ≡ true
at_itself key = unsigned_tied key key ∙ eq-eqb key key refl

module _ {X : Type 0} where
  pub first_found : (e : ℕ × X) (es : List (ℕ × X)) → find nat_cmp e.0 (e ∷ es) ≡ Some e.1
  first_found e es = cond-true (is_eq (nat_cmp e.0 e.0)) (Some e.1) (find nat_cmp e.0 es) (at_itself e.0)

  pub later_found : (e : ℕ × X) (es : List (ℕ × X)) (key : ℕ) (x : X) → T (is_sorted nat_cmp (e ∷ es)) → find nat_cmp key es ≡ Some x → find nat_cmp key (e ∷ es) ≡ Some x
  later_found e es key x up found =
      by_bool (is_eq (nat_cmp key e.0))
      (λ here.
      let same_key : key ≡ e.0 = eqb-true key e.0 (sym (unsigned_tied key e.0) ∙ here) in
      let none : find nat_cmp key es ≡ None = find_below key es (subst (λ k. T (below_all nat_cmp k es)) (sym same_key) (first_true _ _ up)) in
      let no : ⊥ = cc (found, none) in absurd no)
      (λ other. cond-false (is_eq (nat_cmp key e.0)) (Some e.1) (find nat_cmp key es) other ∙ found)

  -- what holds of what each key finds holds of each entry
  pub all_found : (P : X → Type 0) (es : List (ℕ × X)) → T (is_sorted nat_cmp es) → ((key : ℕ) (x : X) → find nat_cmp key es ≡ Some x → P x) → All (λ (e : ℕ × X). P e.1) es
  all_found P [] up h = All-nil (λ (e : ℕ × X). P e.1)
  all_found P (e ∷ es) up h =
      All-cons (λ (e : ℕ × X). P e.1) e es (h e.0 e.1 (first_found e es))
      (all_found P es (second_true _ _ up) (λ key x found. h key x (later_found e es key x up found)))

-- ---- each key's own

pub kept_first : (board : Board) (e : ℕ × Kept) (es : KeyList) → AreKept board (e ∷ es) → IsKept board e.1
kept_first board e es own = own e.0 e.1 (first_found e es)

pub kept_later : (board : Board) (e : ℕ × Kept) (es : KeyList) → T (is_sorted nat_cmp (e ∷ es)) → AreKept board (e ∷ es) → AreKept board es
kept_later board e es up own key kept found = own key kept (later_found e es key kept up found)

-- ---- keys put in, one after the other

pub live_put_all : (es into : KeyList) → live_of (put_all into es) ≡ put_all (live_of into) (live_of es)
live_put_all [] into = refl
live_put_all (e ∷ es) into = live_put_all es (put nat_cmp e.0 e.1 into) ∙ ap (λ (l : Live). put_all l (live_of es)) (live_put e.0 e.1 into)

-- ---- workers that were asked in turn

-- the next one is as it was
pub still_there : (f : WorkerShown → WorkerShown) (ws now : List WorkerShown) (i : ℕ) (d : WorkerShown) → i < length ws → now ≡ map f (take i ws) ++ drop i ws → get_or now i d ≡ get_or ws i d
still_there f ws now i d low is = ap (λ (xs : List WorkerShown). get_or xs i d) is ∙ by ws i low
  where
    by : (ws : List WorkerShown) (i : ℕ) → i < length ws → get_or (map f (take i ws) ++ drop i ws) i d ≡ get_or ws i d
    by [] i low = absurd (omega arith)
    by (w ∷ ws) zero low = refl
    by (w ∷ ws) (suc i) low = by ws i (omega arith)

pub still_itself : {X : Type 0} (xs : List X) (i : ℕ) (d : X) → get_or xs i d ≡ get_or xs i (get_or xs i d)
still_itself [] i d = refl
still_itself (x ∷ xs) zero d = refl
still_itself (x ∷ xs) (suc i) d = still_itself xs i d

-- ---- of all entries, and of all that pages hold

module _ {X : Type 0} (P : X → Type 0) where
  in_slots : (key : ℕ) (slots : List (Option X)) (rest : List (ℕ × X)) → All (λ (e : ℕ × X). P e.1) (slots_from key slots ++ rest) → InSlots P slots × All (λ (e : ℕ × X). P e.1) rest
  in_slots key [] rest all = (All-nil (λ (slot : Option X). IfSome slot P), all)
  in_slots key (None ∷ slots) rest all =
      let later = in_slots (key + 1) slots rest all in
      (All-cons (λ (slot : Option X). IfSome slot P) None slots tt later.0, later.1)
  in_slots key (Some x ∷ slots) rest all =
      let each : ℕ × X → Type 0 = λ (e : ℕ × X). P e.1 in
      let later = in_slots (key + 1) slots rest (All-tail each (key, x) (slots_from (key + 1) slots ++ rest) all) in
      (All-cons (λ (slot : Option X). IfSome slot P) (Some x) slots (All-head each (key, x) (slots_from (key + 1) slots ++ rest) all) later.0, later.1)

  pub in_pages : (number : ℕ) (pages : List (List (Option X))) → All (λ (e : ℕ × X). P e.1) (pages_from number pages) → All (λ (page : List (Option X)). InSlots P page) pages
  in_pages number [] all = All-nil (λ (page : List (Option X)). InSlots P page)
  in_pages number (page ∷ pages) all =
      let both = in_slots (256 * number) page (pages_from (number + 1) pages) all in
      All-cons (λ (page : List (Option X)). InSlots P page) page pages both.0 (in_pages (number + 1) pages both.1)

  of_slots : (key : ℕ) (slots : List (Option X)) → InSlots P slots → All (λ (e : ℕ × X). P e.1) (slots_from key slots)
  of_slots key [] all = All-nil (λ (e : ℕ × X). P e.1)
  of_slots key (None ∷ slots) all = of_slots (key + 1) slots (All-tail (λ (slot : Option X). IfSome slot P) None slots all)
  of_slots key (Some x ∷ slots) all =
      All-cons (λ (e : ℕ × X). P e.1) (key, x) (slots_from (key + 1) slots) (All-head (λ (slot : Option X). IfSome slot P) (Some x) slots all)
      (of_slots (key + 1) slots (All-tail (λ (slot : Option X). IfSome slot P) (Some x) slots all))

  pub of_pages : (number : ℕ) (pages : List (List (Option X))) → All (λ (page : List (Option X)). InSlots P page) pages → All (λ (e : ℕ × X). P e.1) (pages_from number pages)
  of_pages number [] all = All-nil (λ (e : ℕ × X). P e.1)
  of_pages number (page ∷ pages) all =
      let each : List (Option X) → Type 0 = λ (page : List (Option X)). InSlots P page in
      All-append (λ (e : ℕ × X). P e.1) (slots_from (256 * number) page) (pages_from (number + 1) pages) (of_slots (256 * number) page (All-head each page pages all)) (of_pages (number + 1) pages (All-tail each page pages all))

-- what holds of all that keys find holds of all that pages hold
pub pages_hold : {A : Type 0} (f : A → List (Option Kept)) (xs : List A) (P : Kept → Type 0) (es : KeyList) → pages_from 0 (map f xs) ≡ es → All (λ (a : A). IsPage (f a)) xs
    → ((key : ℕ) (kept : Kept) → find nat_cmp key es ≡ Some kept → P kept) → All (λ (a : A). InSlots P (f a)) xs
pages_hold f xs P es is all each =
    let here = λ (key : ℕ) (kept : Kept) (found : find nat_cmp key (pages_from 0 (map f xs)) ≡ Some kept). each key kept (ap (find nat_cmp key) (sym is) ∙ found) in
    unmapped f (λ (slots : List (Option Kept)). InSlots P slots) xs (in_pages P 0 (map f xs) (all_found P (pages_from 0 (map f xs)) (pages_rise f xs all) here))

pub entries_hold : {A : Type 0} (f : A → List (Option Kept)) (xs : List A) (P : Kept → Type 0) (es : KeyList) → pages_from 0 (map f xs) ≡ es → All (λ (a : A). InSlots P (f a)) xs
    → All (λ (e : ℕ × Kept). P e.1) es
entries_hold f xs P es is all = subst (λ (es : KeyList). All (λ (e : ℕ × Kept). P e.1) es) is (of_pages P 0 (map f xs) (All-map (λ (slots : List (Option Kept)). InSlots P slots) f xs all))

-- ---- counted references

cell_counted : (content : Content) → count_by (λ (entry : Slot × Held). is_counted entry.1) (content_cell content) ≡ cond (is_counted (held_of content)) 1 0
cell_counted (Nothing order) = refl
cell_counted (Stored (Pages block)) = sum_by-cons (λ (entry : Slot × Held). cond (is_counted entry.1) 1 0) (Page block.home block.frame, block.holds) [] ∙ one (is_counted block.holds)
  where
    one : (b : Bool) → cond {A = ℕ} b 1 0 + 0 ≡ cond b 1 0
    one true = refl
    one false = refl
cell_counted (Stored (Object home frame place vector holds)) = sum_by-cons (λ (entry : Slot × Held). cond (is_counted entry.1) 1 0) (ObjectSlot home vector place, holds) [] ∙ one (is_counted holds)
  where
    one : (b : Bool) → cond {A = ℕ} b 1 0 + 0 ≡ cond b 1 0
    one true = refl
    one false = refl
cell_counted (Stored (Uncounted home frame place)) = refl

slots_counted : (key : ℕ) (slots : List (Option Kept)) (rest : KeyList) → count_by counts_slot slots + counted_in (live_of rest) ≡ counted_in (live_of (slots_from key slots ++ rest))
slots_counted key [] rest = omega arith
slots_counted key (None ∷ slots) rest =
    let head = sum_by-cons (λ (slot : Option Kept). cond (counts_slot slot) 1 0) None slots in
    let later = slots_counted (key + 1) slots rest in
    omega arith
slots_counted key (Some kept ∷ slots) rest =
    let test = λ (entry : Slot × Held). is_counted entry.1 in
    let cells = λ (entry : ℕ × Content). content_cell entry.1 in
    let head = sum_by-cons (λ (slot : Option Kept). cond (counts_slot slot) 1 0) (Some kept) slots in
    let one = cell_counted (content_of kept) in
    let joined = sum_by-append (λ (entry : Slot × Held). cond (test entry) 1 0) (content_cell (content_of kept)) (flat_map cells (live_of (slots_from (key + 1) slots ++ rest))) in
    let later = slots_counted (key + 1) slots rest in
    omega arith

pub pages_counted : (number : ℕ) (pages : List (List (Option Kept))) → counts_on pages ≡ counted_in (live_of (pages_from number pages))
pages_counted number [] = refl
pages_counted number (page ∷ pages) =
    let head = sum_by-cons (λ (page : List (Option Kept)). count_by counts_slot page) page pages in
    let later = pages_counted (number + 1) pages in
    let here = slots_counted (256 * number) page (pages_from (number + 1) pages) in
    omega arith

-- ---- words

in_turn : {X : Type 0} (a b c : Option X) → option_or (option_or a b) c ≡ option_or a (option_or b c)
in_turn None b c = refl
in_turn (Some x) b c = refl

slots_word : (index key : ℕ) (slots : List (Option Kept)) (rest : KeyList)
    → option_or (first_some (bound_word index) slots) (first_some (kept_word index) (values_of rest)) ≡ first_some (kept_word index) (values_of (slots_from key slots ++ rest))
slots_word index key [] rest = refl
slots_word index key (None ∷ slots) rest = slots_word index (key + 1) slots rest
slots_word index key (Some kept ∷ slots) rest =
    in_turn (kept_word index kept) (first_some (bound_word index) slots) (first_some (kept_word index) (values_of rest))
    ∙ ap (option_or (kept_word index kept)) (slots_word index (key + 1) slots rest)

pages_word : (index number : ℕ) (pages : List (List (Option Kept)))
    → first_some (λ (page : List (Option Kept)). first_some (bound_word index) page) pages ≡ first_some (kept_word index) (values_of (pages_from number pages))
pages_word index number [] = refl
pages_word index number (page ∷ pages) =
    ap (option_or (first_some (bound_word index) page)) (pages_word index (number + 1) pages) ∙ slots_word index (256 * number) page (pages_from (number + 1) pages)

words_found : (board : Board) (index : ℕ) (es : KeyList) → T (is_sorted nat_cmp es) → AreKept board es → first_some (kept_word index) (values_of es) ≡ word_at board.shape index (key_cells es)
words_found board index [] up own = refl
words_found board index (e ∷ es) up own =
    ap₂ option_or (kept_found board index e.1 (kept_first board e es own)) (words_found board index es (second_true _ _ up) (kept_later board e es up own))
    ∙ sym (more_found board.shape index (content_cell (content_of e.1)) (key_cells es))

pub pages_tell : (board : Board) (index : ℕ) (pages : List (List (Option Kept))) → T (is_sorted nat_cmp (pages_from 0 pages)) → AreKept board (pages_from 0 pages)
    → first_some (λ (page : List (Option Kept)). first_some (bound_word index) page) pages ≡ word_at board.shape index (key_cells (pages_from 0 pages))
pages_tell board index pages up own = pages_word index 0 pages ∙ words_found board index (pages_from 0 pages) up own

pub seen_word : {A : Type 0} (f : A → List (Option Kept)) (index : ℕ) (xs : List A)
    → first_some (λ (a : A). first_some (bound_word index) (f a)) xs ≡ first_some (λ (page : List (Option Kept)). first_some (bound_word index) page) (map f xs)
seen_word f index [] = refl
seen_word f index (x ∷ xs) = ap (option_or (first_some (bound_word index) (f x))) (seen_word f index xs)

-- the first of two that is there
pub some_first : {X : Type 0} (w r : Option X) → is_some w ≡ true → w ≡ option_or w r
some_first None r is = let no : ⊥ = cc in absurd no
some_first (Some x) r is = refl

pub none_first : {X : Type 0} (w r : Option X) → is_some w ≡ false → r ≡ option_or w r
none_first None r is = refl
none_first (Some x) r is = let no : ⊥ = cc in absurd no
