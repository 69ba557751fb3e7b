-- What is known is a book where the book is one.
use Rattle.std.proofs.Common.{◌≡◌, ℕ, zero, suc, ◌<◌, ◌⊎◌, inl, inr, List, [], ◌∷◌, length, get_or, All, refl, sym, ap, ◌∙◌, subst, arith}
use Rattle.std.proofs.lemmas.List.Elements.{All-cons, All-head, All-nil, All-tail}
use Rattle.tag_section.specs.Section.{Section}
use Rattle.module_area.specs.declared.entry.Entry.{Entry}
use Rattle.module_area.specs.declared.entry.State.TheVariants.{Dead, Loaded}
use Rattle.module_area.specs.Area.{Area, IsBook}
use Rattle.module_area.specs.Entries.{kept}
use Rattle.module_area.proofs.BookLemmas.{KeepsRange}
use Rattle.reclaim.specs.State.{IsNamed}
use Rattle.round_modules.specs.Known.{IsKnown}
use Rattle.round_modules.proofs.Knows.{known_long}

dead_loaded : Dead ≡ Loaded → ⊥
dead_loaded e = cc

keeps : (b e : Entry) → (e ≡ b) ⊎ (e ≡ kept b) → KeepsRange b e
keeps b e (inl same) = subst (λ (x : Entry). KeepsRange b x) (sym same) (record { same_id = refl; same_section = refl; same_start = refl; same_length = refl; was_loaded = λ h. h })
keeps b e (inr same) = subst (λ (x : Entry). KeepsRange b x) (sym same) (record { same_id = refl; same_section = refl; same_start = refl; same_length = refl; was_loaded = λ h. absurd (dead_loaded h) })

keeps_at : (book known : List Entry) → IsKnown book known → (k : ℕ) (d : Entry) → k < length book → KeepsRange (get_or book k d) (get_or known k d)
keeps_at [] known h k d below = absurd (omega (arith, below))
keeps_at (b ∷ book) [] h k d below = absurd h
keeps_at (b ∷ book) (e ∷ known) h zero d below = keeps b e h.1
keeps_at (b ∷ book) (e ∷ known) h (suc k) d below = keeps_at book known h.2 k d (omega (arith, below))

pub known_book : (area : Area) (known : List Entry) → IsBook area → IsKnown area.entries known → IsBook (record area { entries = known })
known_book area known book h =
    let long = known_long area.entries known h in
    let at : (k : ℕ) (d : Entry) → k < length known → KeepsRange (get_or area.entries k d) (get_or known k d) = λ k d below. keeps_at area.entries known h k d (omega (arith, below, long)) in
    record {
      few = omega (arith, long, book.few);
      above_zero = λ k d below. omega (arith, (at k d below).same_id, book.above_zero k d (omega (arith, below, long)));
      rising = λ i j d less inside. omega (arith, (at i d (omega (arith, less, inside))).same_id, (at j d inside).same_id, book.rising i j d less (omega (arith, inside, long)));
      some_tags = λ k d below. omega (arith, (at k d below).same_length, book.some_tags k d (omega (arith, below, long)));
      in_area = λ k d below. let a = at k d below in
          let lies = book.in_area k d (omega (arith, below, long)) in
          (omega (arith, a.same_start, lies.0), omega (arith, a.same_start, a.same_length, lies.1));
      apart = λ i j d less inside tag one two. let a = at i d (omega (arith, less, inside)) in
          let b = at j d inside in
          book.apart i j d less (omega (arith, inside, long)) tag (omega (arith, a.same_start, one.0), omega (arith, a.same_start, a.same_length, one.1)) (omega (arith, b.same_start, two.0), omega (arith, b.same_start, b.same_length, two.1));
      loaded_once = λ i j d less inside one two same. let a = at i d (omega (arith, less, inside)) in
          let b = at j d inside in
          book.loaded_once i j d less (omega (arith, inside, long)) (a.was_loaded one) (b.was_loaded two) (sym a.same_section ∙ (same ∙ b.same_section));
      small = book.small;
    }

pub known_named : (sections : List Section) (book known : List Entry) → IsKnown book known → All (IsNamed sections) book → All (IsNamed sections) known
known_named sections [] [] h all = all
known_named sections [] (e ∷ known) h all = absurd h
known_named sections (b ∷ book) [] h all = absurd h
known_named sections (b ∷ book) (e ∷ known) h all = All-cons (IsNamed sections) e known (go h.1) (known_named sections book known h.2 (All-tail (IsNamed sections) b book all))
  where
    go : (e ≡ b) ⊎ (e ≡ kept b) → IsNamed sections e
    go (inl same) = subst (IsNamed sections) (sym same) (All-head (IsNamed sections) b book all)
    go (inr same) = subst (IsNamed sections) (sym same) (All-head (IsNamed sections) b book all)

pub known_users : (book known : List Entry) → IsKnown book known → All (λ (e : Entry). e.users ≡ 0) known
known_users [] [] h = All-nil (λ (e : Entry). e.users ≡ 0)
known_users [] (e ∷ known) h = absurd h
known_users (b ∷ book) [] h = absurd h
known_users (b ∷ book) (e ∷ known) h = All-cons (λ (x : Entry). x.users ≡ 0) e known (go h.1) (known_users book known h.2)
  where
    go : (e ≡ b) ⊎ (e ≡ kept b) → e.users ≡ 0
    go (inl same) = ap (λ (x : Entry). x.users) same ∙ h.0
    go (inr same) = ap (λ (x : Entry). x.users) same ∙ h.0

pub known_itself : (book : List Entry) → All (λ (e : Entry). e.users ≡ 0) book → IsKnown book book
known_itself [] none = tt
known_itself (b ∷ book) none = (All-head (λ (e : Entry). e.users ≡ 0) b book none, inl refl, known_itself book (All-tail (λ (e : Entry). e.users ≡ 0) b book none))
