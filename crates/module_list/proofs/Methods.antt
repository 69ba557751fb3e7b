-- What a method leaves in the parts of the list is what the change says.
use Rattle.std.proofs.Common.{◌≡◌, ◌≢◌, ℕ, ◌+◌, ◌<◌, ◌≤◌, ◌==◌, nat_le, nat_lt, List, [], ◌∷◌, ◌++◌, filter, refl, sym, ap, ◌∙◌, subst, arith, true, false, not, ne_eqb, leb-true}
use Rattle.std.proofs.lemmas.Bool.{and_parts, le-ltb, false≢true, not_from_false}
use Rattle.tag_model.specs.declared.shape.Shape.{Shape}
use Rattle.tag_model.specs.declared.state.Reader.{Reader}
use Rattle.tag_model.specs.declared.state.Record.{Record}
use Rattle.tag_model.specs.declared.state.Stop.{Stop}
use Rattle.tag_model.specs.declared.state.Sweep.{Sweep}
use Rattle.tag_model.specs.declared.state.Sweep.TheVariants as sweep
use Rattle.tag_model.specs.Laws.{sweep_fits}
use Rattle.tag_model.specs.StepRules.{passes_record, stop_after, sweep_after, without_id}
use Rattle.tag_model.specs.WordState.{in_range}
use Rattle.tag_model.proofs.Found.{all_at}
use Rattle.tag_model.proofs.Lists.{in_range_means}
use Rattle.tag_model.proofs.ScanRow.{reading_fits}
use Rattle.std.specs.List.{list_all}
use Rattle.module_list.specs.declared.list.Stage.{Stage}
use Rattle.module_list.specs.declared.list.Stage.TheVariants.{Idle, Reading, Done}
use Rattle.module_list.specs.Listing.{Listing, may_release, released, scanned, sum_read}
use Rattle.module_list.specs.Stages.{sweep_of}

abbrev pub listing : List Record → Sweep → List Stop → Listing
listing records sweep stops = record { records = records; sweep = sweep; stops = stops }

pub same_listing : (a b : List Record) (s t : Sweep) (x y : List Stop) → a ≡ b → s ≡ t → x ≡ y → listing a s x ≡ listing b t y
same_listing a b s t x y records sweeps stops = ap (listing a s) stops ∙ (ap (λ z. listing a z y) sweeps ∙ ap (λ z. listing z t y) records)

-- ---- the release

-- a sweep that may release is done
stage_done : (stage : Stage) (left : List ℕ) (id : ℕ) → may_release id (sweep_of stage left) ≡ true → stage ≡ Done
stage_done Idle left id e = absurd (false≢true e)
stage_done (Reading r) left id e = absurd (false≢true e)
stage_done Done left id e = refl

pub released_as : (records rest : List Record) (stage : Stage) (left ids : List ℕ) (stops : List Stop) (id : ℕ) → may_release id (sweep_of stage left) ≡ true → rest ≡ filter (λ (r : Record). not (r.id == id)) records → ids ≡ without_id id left
    → listing rest (sweep_of stage ids) stops ≡ released id (listing records (sweep_of stage left) stops)
released_as records rest stage left ids stops id may kept dropped =
    subst (λ s. listing rest (sweep_of s ids) stops ≡ released id (listing records (sweep_of s left) stops)) (sym (stage_done stage left id may))
    (ap (λ rs. listing rs (sweep.Done ids) stops) kept ∙ ap (λ xs. listing (filter (λ (r : Record). not (r.id == id)) records) (sweep.Done xs) stops) dropped)

-- ---- a read

-- the tag that is read lies below the end of its range
pub tag_small : (k : Shape) (records : List Record) (left : List ℕ) (r : Reader) → list_all (λ (x : Record). nat_le (x.start + x.length) 4294967295) records ≡ true → sweep_fits k (sweep.Reading left r) records ≡ true → r.tag < 4294967295
tag_small k records left r ends fits =
    let at = (reading_fits k left r records fits).at in
    let within = in_range_means at.item.start at.item.length r.tag (and_parts (at.item.id == r.id) (in_range at.item.start at.item.length r.tag) at.passes).1 in
    let end = leb-true (at.item.start + at.item.length) 4294967295 (all_at (λ (x : Record). nat_le (x.start + x.length) 4294967295) at.front at.item at.back (subst (λ xs. list_all (λ (x : Record). nat_le (x.start + x.length) 4294967295) xs ≡ true) at.is ends)) in
    omega (arith, within, end)

-- a read that finds something drops the module
pub scan_drops : (k : Shape) (word : ℕ) (records : List Record) (left : List ℕ) (r : Reader) (stops items : List Stop) (s : Sweep) → k.cpus ≤ r.cpu + 1 → sum_read r word ≢ 0 → s ≡ passes_record r.pass (without_id r.id left) records r.id
    → items ≡ stops ++ record { id = r.id; tag = r.tag; kind = r.pass; sum = sum_read r word } ∷ [] → listing records s items ≡ scanned k word (listing records (sweep.Reading left r) stops)
scan_drops k word records left r stops items s at_last some passes pushed =
    let sum = sum_read r word in
    let no_cpu : nat_lt (r.cpu + 1) k.cpus ≡ false = le-ltb (r.cpu + 1) k.cpus at_last in
    let found : not (sum == 0) ≡ true = not_from_false (sum == 0) (ne_eqb sum 0 some) in
    let stop : Stop = record { id = r.id; tag = r.tag; kind = r.pass; sum = sum } in
    let after : sweep_after k records left r sum ≡ passes_record r.pass (without_id r.id left) records r.id = rw (no_cpu, found) refl in
    let one : stop_after k r sum ≡ stop ∷ [] = rw (no_cpu, found) refl in
    same_listing records records s (sweep_after k records left r sum) items (stops ++ stop_after k r sum) refl (passes ∙ sym after) (pushed ∙ ap (λ xs. stops ++ xs) (sym one))
