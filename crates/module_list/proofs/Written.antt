-- A write at the place of an id changes the record of the id, where ids rise.
use Rattle.std.proofs.Common.{◌≡◌, ◌≢◌, ℕ, suc, zero, ◌+◌, ◌<◌, ◌==◌, Bool, true, false, cond, refl, set, take, List, [], ◌∷◌, ◌++◌, length, map, filter, get_or, slice_get, Some, sym, ap, ◌∙◌, subst, arith, ⊎_elim}
use Rattle.std.proofs.lemmas.List.{map-append, same_lists, length-set, length-map, get_or-map, get_or-set_same, get_or-set_other, get_or_default, take_more}
use Rattle.std.proofs.lemmas.List.Elements.{filter-append}
use Rattle.std.proofs.lemmas.Option.{slice_get-get_or}
use Rattle.std.proofs.lemmas.Bool.{cases_eq, cases_order, cond-true, cond-false, eq-eqb, ne_eqb, eqb-true}
use Rattle.tag_model.specs.declared.state.Record.{Record}
use Rattle.tag_model.specs.Laws.{ids_of, rises_from}
use Rattle.tag_model.specs.StepRules.{dead_ids}
use Rattle.tag_model.proofs.Ids.{rises_cons}
use Rattle.module_area.proofs.EntryLemmas.{find_some}
use Rattle.module_list.specs.Listing.{record_in, with_record}

-- each id is above where they rise, and below those behind it
ids_above : (low : ℕ) (records : List Record) (j : ℕ) (d : Record) → rises_from low (ids_of records) ≡ true → j < length records → low < (get_or records j d).id
ids_above low [] j d rises inside = absurd (omega arith)
ids_above low (r ∷ records) zero d rises inside = (rises_cons low r.id (ids_of records) rises).0
ids_above low (r ∷ records) (suc j) d rises inside = let both = rises_cons low r.id (ids_of records) rises in omega (arith, both.0, ids_above r.id records j d both.1 (omega arith))

rises_pairs : (low : ℕ) (records : List Record) (i j : ℕ) (d : Record) → rises_from low (ids_of records) ≡ true → i < j → j < length records → (get_or records i d).id < (get_or records j d).id
rises_pairs low [] i j d rises less inside = absurd (omega arith)
rises_pairs low (r ∷ records) i zero d rises less inside = absurd (omega arith)
rises_pairs low (r ∷ records) zero (suc j) d rises less inside = ids_above r.id records j d (rises_cons low r.id (ids_of records) rises).1 (omega arith)
rises_pairs low (r ∷ records) (suc i) (suc j) d rises less inside = rises_pairs r.id records i j d (rises_cons low r.id (ids_of records) rises).1 (omega arith) (omega arith)

id_at : (records : List Record) (id k : ℕ) (r : Record) → k < length records → r ≡ get_or records k r → slice_get records k ≡ record_in id records → r.id ≡ id
id_at records id k r below here there =
    let found : record_in id records ≡ Some r = sym there ∙ (slice_get-get_or records k r below ∙ ap (λ e. Some e) (sym here)) in
    eqb-true _ _ (find_some (λ (e : Record). e.id == id) records r found).1

written_at : (records : List Record) (id k : ℕ) (r : Record) (change : Record → Record) → rises_from 0 (ids_of records) ≡ true → k < length records → r ≡ get_or records k r → slice_get records k ≡ record_in id records
    → set records k (change r) ≡ with_record id change records
written_at records id k r change rises below here there =
    let same_id = id_at records id k r below here there in
    let one : Record → Record = λ e. cond (e.id == id) (change e) e in
    same_lists (set records k (change r)) (with_record id change records) (length-set records k (change r) ∙ sym (length-map records one))
    (λ j d l.
    let inside : j < length records = omega (arith, length-set records k (change r)) in
    let mapped : get_or (with_record id change records) j d ≡ one (get_or records j d) = get_or-map one records j d d inside in
    ⊎_elim
    (λ e.
    let here_d : get_or records j d ≡ r = ap (λ n. get_or records n d) e ∙ (get_or_default records k d r below ∙ sym here) in
    let written : get_or (set records k (change r)) j d ≡ change r = ap (λ n. get_or (set records k (change r)) n d) e ∙ get_or-set_same records k (change r) d below in
    written ∙ (sym (cond-true (r.id == id) (change r) r (eq-eqb _ _ same_id)) ∙ (ap one (sym here_d) ∙ sym mapped)))
    (λ differs.
    let here_d : get_or records k d ≡ r = get_or_default records k d r below ∙ sym here in
    let id_here : (get_or records k d).id ≡ id = ap (λ (e : Record). e.id) here_d ∙ same_id in
    let other_id : (get_or records j d).id ≢ id = λ e.
    ⊎_elim (λ same. differs same)
    (⊎_elim (λ less. absurd (apart (rises_pairs 0 records j k d rises less below) (e ∙ sym id_here)))
    (λ more. absurd (apart (rises_pairs 0 records k j d rises more inside) (id_here ∙ sym e)))) (cases_order j k) in
    get_or-set_other records k j (change r) d differs ∙ (sym (cond-false _ _ _ (ne_eqb _ _ other_id)) ∙ sym mapped))
    (cases_eq j k))
  where
    apart : {m n : ℕ} → m < n → m ≡ n → ⊥
    apart l e = omega arith

-- the same, where the place was found in a copy of the list
pub written_as : (records now : List Record) (id k : ℕ) (r : Record) (change : Record → Record) → now ≡ records → rises_from 0 (ids_of records) ≡ true → k < length now → r ≡ get_or records k r → slice_get now k ≡ record_in id now
    → set records k (change r) ≡ with_record id change records
written_as records now id k r change same rises below here there =
    written_at records id k r change rises (subst (λ xs. k < length xs) same below) here (subst (λ xs. slice_get xs k ≡ record_in id xs) same there)

-- ---- the dead among the first records, and one more

dead_push : (records : List Record) (r : Record) → dead_ids (records ++ r ∷ []) ≡ dead_ids records ++ cond r.dead (r.id ∷ []) []
dead_push records r =
    let id : Record → ℕ = λ x. x.id in
    let dead : Record → Bool = λ x. x.dead in
    ap (map id) (filter-append dead records (r ∷ [])) ∙ (map-append id (filter dead records) (filter dead (r ∷ [])) ∙ ap (λ ids. dead_ids records ++ ids) (go r.dead))
  where
    go : (b : Bool) → map (λ (x : Record). x.id) (cond b (r ∷ []) []) ≡ cond b (r.id ∷ []) []
    go true = refl
    go false = refl

pub dead_more : (records : List Record) (i : ℕ) (r : Record) → i < length records → get_or records i r ≡ r → dead_ids (take (i + 1) records) ≡ dead_ids (take i records) ++ cond r.dead (r.id ∷ []) []
dead_more records i r below is = ap dead_ids (take_more records i r below ∙ ap (λ x. take i records ++ x ∷ []) is) ∙ dead_push (take i records) r
