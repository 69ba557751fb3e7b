-- The record of an id among the others, where ids rise.
use Rattle.std.proofs.Common.{◌≡◌, ℕ, ◌≤◌, ◌==◌, List, [], ◌∷◌, ◌++◌, sum_by, None, Some, refl, ap, ◌∙◌, subst, arith, Bool, true, false, cond, eqb-true, eq-eqb, ne_eqb, if◌then◌else◌}
use Rattle.std.specs.List.{list_all}
use Rattle.std.proofs.lemmas.Bool.{cond-true, cond-false}
use Rattle.std.proofs.lemmas.List.Sums.{sum_by-cons}
use Rattle.std.proofs.lemmas.Option.{same_Some}
use Rattle.tag_model.specs.declared.state.Record.{Record}
use Rattle.tag_model.specs.Laws.{rises_from, ids_of}
use Rattle.tag_model.proofs.Found.{Found, all_at}
use Rattle.tag_model.proofs.Ids.{rises_cons, RangeOf, range_of}
use Rattle.tag_model.proofs.SweepSteps.{rises_apart}
use Rattle.module_list.specs.Listing.{record_in, with_record}

pub record RecordAt (records : List Record) (id : ℕ) (r : Record) : Type 0 where
  pub front : List Record
  pub back : List Record
  pub is : records ≡ front ++ r ∷ back
  pub same_id : r.id ≡ id
  pub changed : (change : Record → Record) → with_record id change records ≡ front ++ change r ∷ back

none_changed : (id low : ℕ) (change : Record → Record) (records : List Record) → id ≤ low → rises_from low (ids_of records) ≡ true → with_record id change records ≡ records
none_changed id low change [] h e = refl
none_changed id low change (x ∷ xs) h e =
    let both = rises_cons low x.id (ids_of xs) e in
    let other = ne_eqb x.id id (λ same. omega (arith, both.0)) in
    let one : Record = cond (x.id == id) (change x) x in
    ap (λ rs. one ∷ rs) (none_changed id x.id change xs (omega (arith, both.0)) both.1) ∙ ap (λ y. y ∷ xs) (cond-false (x.id == id) (change x) x other)

record_from : (low : ℕ) (records : List Record) (id : ℕ) (r : Record) → rises_from low (ids_of records) ≡ true → record_in id records ≡ Some r → RecordAt records id r
record_from low [] id r rises found = absurd (cc)
record_from low (x ∷ xs) id r rises found =
    let both = rises_cons low x.id (ids_of xs) rises in
    go (x.id == id) refl found both.1 (λ later. record_from x.id xs id r both.1 later)
  where
    go : (b : Bool) → (x.id == id) ≡ b → cond b (Some x) (record_in id xs) ≡ Some r → rises_from x.id (ids_of xs) ≡ true → (record_in id xs ≡ Some r → RecordAt xs id r) → RecordAt (x ∷ xs) id r
    go true is found rises later =
        let same_id = eqb-true x.id id is in
        subst (λ y. RecordAt (x ∷ xs) id y) (same_Some x r found) (record {
          front = [];
          back = xs;
          is = refl;
          same_id = same_id;
          changed = λ change. let one : Record = cond (x.id == id) (change x) x in ap (λ rs. one ∷ rs) (none_changed id x.id change xs (omega arith) rises) ∙ ap (λ y. y ∷ xs) (cond-true (x.id == id) (change x) x is);
        })
    go false is found rises later =
        let l = later found in
        record {
          front = x ∷ l.front;
          back = l.back;
          is = ap (λ rs. x ∷ rs) l.is;
          same_id = l.same_id;
          changed = λ change. let one : Record = cond (x.id == id) (change x) x in ap (λ rs. one ∷ rs) (l.changed change) ∙ ap (λ y. y ∷ l.front ++ change r ∷ l.back) (cond-false (x.id == id) (change x) x is);
        }

pub record_at : (records : List Record) (id : ℕ) (r : Record) → rises_from 0 (ids_of records) ≡ true → record_in id records ≡ Some r → RecordAt records id r
record_at records id r rises found = record_from 0 records id r rises found

-- ---- where it starts and ends

pub range_at : (records : List Record) (id : ℕ) (r : Record) → rises_from 0 (ids_of records) ≡ true → record_in id records ≡ Some r → RangeOf id records r
range_at records id r rises found =
    let at = record_at records id r rises found in
    let f : Found (λ (x : Record). x.id == id) records = record { front = at.front; item = r; back = at.back; is = at.is; passes = eq-eqb r.id id at.same_id } in
    range_of id records (rises_apart records rises) f

-- where there is none, the sums over it are 0
pub none_there : (f : Record → ℕ) (id : ℕ) (records : List Record) → record_in id records ≡ None → sum_by (λ (r : Record). if r.id == id then f r else 0) records ≡ 0
none_there f id [] none = refl
none_there f id (x ∷ xs) none = go (x.id == id) refl none (λ later. none_there f id xs later)
  where
    go : (b : Bool) → (x.id == id) ≡ b → cond b (Some x) (record_in id xs) ≡ None → (record_in id xs ≡ None → sum_by (λ (r : Record). if r.id == id then f r else 0) xs ≡ 0) → sum_by (λ (r : Record). if r.id == id then f r else 0) (x ∷ xs) ≡ 0
    go true is none later = absurd (cc)
    go false is none later =
        let zero_here : cond {A = ℕ} (x.id == id) (f x) 0 ≡ 0 = cond-false (x.id == id) (f x) 0 is in
        omega (arith, sum_by-cons (λ (r : Record). if r.id == id then f r else 0) x xs, later none)

-- what holds of each record holds of that of an id
pub holds_at : (test : Record → Bool) (records : List Record) (id : ℕ) (r : Record) → rises_from 0 (ids_of records) ≡ true → record_in id records ≡ Some r → list_all test records ≡ true → test r ≡ true
holds_at test records id r rises found all = let at = record_at records id r rises found in all_at test at.front r at.back (subst (λ rs. list_all test rs ≡ true) at.is all)
