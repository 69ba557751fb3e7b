-- The entries of a book as records of the list: ids stand once and rise, and the entry of an id stands between others.
use Rattle.std.proofs.Common.{◌≡◌, ℕ, suc, ◌<◌, ◌≤◌, ◌==◌, List, [], ◌∷◌, ◌++◌, map, filter, count_by, inl, inr, ◌&&◌, ◌||◌, All, AllPairs, Some, refl, ap, ◌∙◌, subst, arith, Bool, true, false, not, cond, eqb-true, ne_eqb, lt-ltb}
use Rattle.std.specs.List.{list_any}
use Rattle.std.proofs.lemmas.Bool.{and_from, and_parts, or_cases, false≢true, cond-true, cond-false}
use Rattle.std.proofs.lemmas.List.{map-append}
use Rattle.std.proofs.lemmas.List.Elements.{All-head, All-contains}
use Rattle.std.proofs.lemmas.Option.{same_Some}
use Rattle.tag_model.specs.declared.state.Record.{Record}
use Rattle.tag_model.specs.Laws.{rises_from, ids_of}
use Rattle.tag_model.proofs.Found.{found_any, count_at}
use Rattle.tag_model.proofs.Ids.{rises_cons}
use Rattle.tag_model.proofs.Lists.{Apart}
use Rattle.tag_model.proofs.SweepSteps.{rises_apart, rises_none}
use Rattle.module_area.specs.declared.entry.Entry.{Entry}
use Rattle.module_area.specs.Entries.{entry_of, with_entry, without_entry}
use Rattle.module_area.specs.Area.{Area, IsBook}
use Rattle.module_area.proofs.EntryLemmas.{find_some}
use Rattle.core_list.specs.ListState.{record_of}

-- ---- ids that rise

ids_rise : (low : ℕ) (entries : List Entry) → All (λ e. low < e.id) entries → AllPairs (λ one other. one.id < other.id) entries → rises_from low (ids_of (map record_of entries)) ≡ true
ids_rise low [] above rising = refl
ids_rise low (e ∷ es) above rising =
    and_from _ _ (lt-ltb low e.id (All-head (λ x. low < x.id) e es above))
    (ids_rise e.id es (λ k d inside. rising 0 (suc k) d (omega arith) (omega arith)) (λ i j d less inside. rising (suc i) (suc j) d (omega arith) (omega arith)))

-- the ids of a book's records rise
pub book_rises : (area : Area) → IsBook area → rises_from 0 (ids_of (map record_of area.entries)) ≡ true
book_rises area book = ids_rise 0 area.entries book.above_zero book.rising

-- each id of a book's records stands once
pub book_apart : (area : Area) → IsBook area → Apart (map record_of area.entries)
book_apart area book = rises_apart (map record_of area.entries) (book_rises area book)

-- ---- the entry of an id among the others

pub record EntryAt (entries : List Entry) (id : ℕ) (e : Entry) : Type 0 where
  pub front : List Entry
  pub back : List Entry
  pub is : entries ≡ front ++ e ∷ back
  pub same_id : e.id ≡ id
  pub changed : (change : Entry → Entry) → with_entry id change entries ≡ front ++ change e ∷ back

none_changed : (id low : ℕ) (change : Entry → Entry) (entries : List Entry) → id ≤ low → rises_from low (ids_of (map record_of entries)) ≡ true → with_entry id change entries ≡ entries
none_changed id low change [] h e = refl
none_changed id low change (x ∷ xs) h e =
    let both = rises_cons low x.id (ids_of (map record_of xs)) e in
    let other = ne_eqb x.id id (λ same. omega (arith, both.0)) in
    let one : Entry = cond (x.id == id) (change x) x in
    ap (λ es. one ∷ es) (none_changed id x.id change xs (omega (arith, both.0)) both.1) ∙ ap (λ y. y ∷ xs) (cond-false (x.id == id) (change x) x other)

pub entry_at : (low : ℕ) (entries : List Entry) (id : ℕ) (e : Entry) → rises_from low (ids_of (map record_of entries)) ≡ true → entry_of entries id ≡ Some e → EntryAt entries id e
entry_at low [] id e rises found = absurd (cc)
entry_at low (x ∷ xs) id e rises found =
    let both = rises_cons low x.id (ids_of (map record_of xs)) rises in
    go (x.id == id) refl found both.1 (λ later. entry_at x.id xs id e both.1 later)
  where
    go : (b : Bool) → (x.id == id) ≡ b → cond b (Some x) (entry_of xs id) ≡ Some e → rises_from x.id (ids_of (map record_of xs)) ≡ true → (entry_of xs id ≡ Some e → EntryAt xs id e) → EntryAt (x ∷ xs) id e
    go true is found rises later =
        let same_id = eqb-true x.id id is in
        subst (λ y. EntryAt (x ∷ xs) id y) (same_Some x e found) (record {
          front = [];
          back = xs;
          is = refl;
          same_id = same_id;
          changed = λ change. let one : Entry = cond (x.id == id) (change x) x in ap (λ es. one ∷ es) (none_changed id x.id change xs (omega arith) rises) ∙ ap (λ y. y ∷ xs) (cond-true (x.id == id) (change x) x is);
        })
    go false is found rises later =
        let l = later found in
        record {
          front = x ∷ l.front;
          back = l.back;
          is = ap (λ es. x ∷ es) l.is;
          same_id = l.same_id;
          changed = λ change. let one : Entry = cond (x.id == id) (change x) x in ap (λ es. one ∷ es) (l.changed change) ∙ ap (λ y. y ∷ l.front ++ change e ∷ l.back) (cond-false (x.id == id) (change x) x is);
        }

pub book_entry_at : (area : Area) (id : ℕ) (e : Entry) → IsBook area → entry_of area.entries id ≡ Some e → EntryAt area.entries id e
book_entry_at area id e book found = entry_at 0 area.entries id e (book_rises area book) found

-- the records, and the records with the one of the id changed
pub records_at : (entries : List Entry) (id : ℕ) (e : Entry) → (at : EntryAt entries id e) → map record_of entries ≡ map record_of at.front ++ record_of e ∷ map record_of at.back
records_at entries id e at = ap (map record_of) at.is ∙ map-append record_of at.front (e ∷ at.back)

pub records_changed : (entries : List Entry) (id : ℕ) (e : Entry) (change : Entry → Entry) → (at : EntryAt entries id e)
    → map record_of (with_entry id change entries) ≡ map record_of at.front ++ record_of (change e) ∷ map record_of at.back
records_changed entries id e change at = ap (map record_of) (at.changed change) ∙ map-append record_of at.front (change e ∷ at.back)

-- the records without the one of an id
pub records_without : (id : ℕ) (entries : List Entry) → map record_of (without_entry id entries) ≡ filter (λ (r : Record). not (r.id == id)) (map record_of entries)
records_without id [] = refl
records_without id (e ∷ es) = go (e.id == id) (records_without id es)
  where
    go : (b : Bool) → map record_of (without_entry id es) ≡ filter (λ (r : Record). not (r.id == id)) (map record_of es)
        → map record_of (cond (not b) (e ∷ without_entry id es) (without_entry id es)) ≡ cond (not b) (record_of e ∷ filter (λ (r : Record). not (r.id == id)) (map record_of es)) (filter (λ (r : Record). not (r.id == id)) (map record_of es))
    go true later = later
    go false later = ap (λ rs. record_of e ∷ rs) later

-- a record of an id that passes a test is that of the id's entry
pub record TheEntry (entries : List Entry) (id : ℕ) (test : Record → Bool) : Type 0 where
  pub entry : Entry
  pub is : entry_of entries id ≡ Some entry
  pub passes : test (record_of entry) ≡ true

the_entry_from : (low id : ℕ) (test : Record → Bool) (entries : List Entry) → rises_from low (ids_of (map record_of entries)) ≡ true → list_any (λ (r : Record). (r.id == id) && test r) (map record_of entries) ≡ true → TheEntry entries id test
the_entry_from low id test [] rises there = absurd (false≢true there)
the_entry_from low id test (x ∷ xs) rises there =
    let both = rises_cons low x.id (ids_of (map record_of xs)) rises in
    go (x.id == id) refl both.1 there (λ later. the_entry_from x.id id test xs both.1 later)
  where
    go : (b : Bool) → (x.id == id) ≡ b → rises_from x.id (ids_of (map record_of xs)) ≡ true → ((b && test (record_of x)) || list_any (λ (r : Record). (r.id == id) && test r) (map record_of xs)) ≡ true
        → (list_any (λ (r : Record). (r.id == id) && test r) (map record_of xs) ≡ true → TheEntry xs id test) → TheEntry (x ∷ xs) id test
    go true is rises there later =
        let none = rises_none x.id id (map record_of xs) (omega (arith, eqb-true x.id id is)) rises in
        record {
          entry = x;
          is = cond-true (x.id == id) (Some x) (entry_of xs id) is;
          passes = elim (or_cases (test (record_of x)) (list_any (λ (r : Record). (r.id == id) && test r) (map record_of xs)) there) [
            | inl here ↦ here
            | inr more ↦ (let f = found_any (λ (r : Record). (r.id == id) && test r) (map record_of xs) more in
                let one = count_at (λ (r : Record). r.id == id) f.front f.item f.back (and_parts (f.item.id == id) (test f.item) f.passes).0 in
                absurd (omega (arith, one, none, ap (count_by (λ (r : Record). r.id == id)) f.is)))
          ];
        }
    go false is rises there later =
        let l = later there in
        record { entry = l.entry; is = cond-false (x.id == id) (Some x) (entry_of xs id) is ∙ l.is; passes = l.passes }

pub the_entry : (area : Area) (id : ℕ) (test : Record → Bool) → IsBook area → list_any (λ (r : Record). (r.id == id) && test r) (map record_of area.entries) ≡ true → TheEntry area.entries id test
the_entry area id test book there = the_entry_from 0 id test area.entries (book_rises area book) there

-- what holds of each entry holds of that of an id
pub entry_holds : (P : Entry → Type 0) (entries : List Entry) (id : ℕ) (e : Entry) → All P entries → entry_of entries id ≡ Some e → P e
entry_holds P entries id e all is = All-contains P entries e all (find_some (λ (x : Entry). x.id == id) entries e is).0
