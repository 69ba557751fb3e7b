-- Each step of a sweep leaves fewer steps, and a sweep that begins has at most two reads for each CPU and tag, and a release for each module.
use Rattle.std.proofs.Common.{◌≡◌, ℕ, ◌+◌, ◌*◌, ◌<◌, ◌≤◌, ◌==◌, ◌&&◌, List, [], ◌∷◌, ◌++◌, length, map, All, Some, refl, sym, ap, subst, arith, true, eq-eqb, Bool, if◌then◌else◌}
use Rattle.std.specs.List.{list_any}
use Rattle.std.proofs.Math.Nat.{mul-le-mul_left, mul_assoc}
use Rattle.std.proofs.lemmas.Bool.{and_from, or_left, cond_both}
use Rattle.std.proofs.lemmas.List.{length-map}
use Rattle.std.proofs.lemmas.List.Elements.{All-map, All-weaker}
use Rattle.std.proofs.lemmas.List.Sums.{sum_by-le}
use Rattle.std.proofs.lemmas.Nat.{mul-le}
use Rattle.tag_model.specs.declared.shape.Shape.{Shape}
use Rattle.tag_model.specs.declared.state.Kind.TheVariants.{Bytes}
use Rattle.tag_model.specs.declared.state.Reader.{Reader}
use Rattle.tag_model.specs.declared.state.Record.{Record}
use Rattle.tag_model.specs.declared.state.Sweep.TheVariants as sweep
use Rattle.tag_model.specs.Laws.{is_listed, sweep_fits}
use Rattle.tag_model.specs.StepRules.{dead_ids}
use Rattle.tag_model.specs.Sweeping.{steps_left}
use Rattle.tag_model.proofs.Found.{any_at}
use Rattle.tag_model.proofs.Records.{dead_are_dead}
use Rattle.tag_model.proofs.SweepSteps.{HasId, begins_at_most, left_begins_pass, read_falls, tags_of_one, without_shorter}
use Rattle.module_area.specs.declared.entry.Entry.{Entry}
use Rattle.module_area.specs.declared.book.TheConstants.{BOOK_LIMIT}
use Rattle.module_area.specs.Entries.{entry_of, kept}
use Rattle.module_area.specs.Area.{Area, LiesIn, IsBook}
use Rattle.core_list.specs.ListState.{ListState, IsList, record_of, tags_of, sweep_steps, most_steps, scanned, scanned_at, sum_read, released, released_at, records_of, dead_list, swept_list}
use Rattle.core_list.proofs.Split.{book_apart, book_entry_at, records_changed, entry_holds}
use Rattle.core_list.proofs.Kept.{dead_not_more, list_dead_marked}

-- ---- a read, and a release

pub scan_falls : (k : Shape) (l : ListState) (word : ℕ) (left : List ℕ) (r : Reader) → IsList l → sweep_fits k l.sweep (records_of l) ≡ true → l.sweep ≡ sweep.Reading left r → sweep_steps k (scanned k word l) < sweep_steps k l
scan_falls k l word left r ok fits reading =
    let falls = read_falls k (records_of l) left r (sum_read r word) (book_apart l.area ok.book) (subst (λ t. sweep_fits k t (records_of l) ≡ true) reading fits) in
    subst (λ t. sweep_steps k (scanned_at k word l t) < steps_left k (records_of l) t) (sym reading) (omega (arith, falls.0, falls.1))

pub release_falls : (k : Shape) (l : ListState) (id : ℕ) (left : List ℕ) → l.sweep ≡ sweep.Done (id ∷ left) → sweep_steps k (released l) < sweep_steps k l
release_falls k l id left done =
    subst (λ t. sweep_steps k (released_at l t) < steps_left k (records_of l) t) (sym done) (omega (arith, without_shorter id (id ∷ left) (or_left _ _ (eq-eqb id id refl))))

-- ---- a sweep that begins

pub begins_of_all : (k : Shape) (l : ListState) → IsList l → sweep_steps k (swept_list l) ≤ 2 * k.cpus * tags_of (dead_ids (records_of l)) l.area.entries + length (dead_ids (records_of l))
begins_of_all k l ok =
    let ids = dead_ids (records_of l) in
    omega (arith, begins_at_most k Bytes (records_of l) ids (book_apart l.area ok.book) (dead_are_dead (records_of l)), ap length (left_begins_pass Bytes ids (records_of l)), mul_assoc 2 k.cpus (tags_of ids l.area.entries))

pub begins_of_one : (k : Shape) (l : ListState) (id : ℕ) (e : Entry) → IsList l → entry_of l.area.entries id ≡ Some e → sweep_steps k (dead_list id l) ≤ 2 * k.cpus * e.length + 1
begins_of_one k l id e ok found =
    let m = dead_list id l in
    let apart = book_apart m.area (list_dead_marked l id ok).book in
    let at = book_entry_at l.area id e ok.book found in
    let same : records_of m ≡ map record_of at.front ++ record_of (kept e) ∷ map record_of at.back = records_changed l.area.entries id e kept at in
    let f : HasId id (records_of m) = record { front = map record_of at.front; item = record_of (kept e); back = map record_of at.back; is = same; passes = eq-eqb e.id id at.same_id } in
    let test : Record → Bool = λ r. (r.id == id) && r.dead in
    let dead : list_any test (records_of m) ≡ true = subst (λ rs. list_any test rs ≡ true) (sym same) (any_at test f.front f.item f.back (and_from _ _ (eq-eqb e.id id at.same_id) refl)) in
    let reads = mul-le-mul_left k.cpus (tags_of_one (records_of m) id f apart) in
    omega (arith, begins_at_most k Bytes (records_of m) (id ∷ []) apart (and_from _ _ dead refl), reads, mul_assoc 2 k.cpus e.length)

-- ---- no sweep takes more

length_small : (k : Shape) (area : Area) → IsBook area → area.first + area.tags ≤ k.tags → All (λ e. e.length ≤ k.tags) area.entries
length_small k area book small = All-weaker (λ e. LiesIn area e.start e.length) (λ e. e.length ≤ k.tags) (λ e lies. omega (arith, lies)) area.entries book.in_area

pub most_of_all : (k : Shape) (l : ListState) → IsList l → l.area.first + l.area.tags ≤ k.tags → 2 * k.cpus * tags_of (dead_ids (records_of l)) l.area.entries + length (dead_ids (records_of l)) ≤ most_steps k
most_of_all k l ok small =
    let ids = dead_ids (records_of l) in
    let few = ok.book.few in
    let each : All (λ (r : Record). (if is_listed ids r.id then r.length else 0) ≤ k.tags) (records_of l) =
    All-map (λ (r : Record). (if is_listed ids r.id then r.length else 0) ≤ k.tags) record_of l.area.entries
    (All-weaker (λ e. e.length ≤ k.tags) (λ e. (if is_listed ids e.id then e.length else 0) ≤ k.tags) (λ e h. cond_both (is_listed ids e.id) e.length 0 (λ n. n ≤ k.tags) (λ is. h) (λ is. omega arith)) l.area.entries (length_small k l.area ok.book small)) in
    let tags : tags_of ids l.area.entries ≤ BOOK_LIMIT * k.tags =
    omega (arith, sum_by-le (λ (r : Record). if is_listed ids r.id then r.length else 0) k.tags (records_of l) each, length-map l.area.entries record_of, mul-le (length (records_of l)) k.tags BOOK_LIMIT k.tags (omega (arith, few, length-map l.area.entries record_of)) (omega arith)) in
    omega (arith, mul-le-mul_left (2 * k.cpus) tags, dead_not_more l.area.entries)

pub most_of_one : (k : Shape) (l : ListState) (id : ℕ) (e : Entry) → IsList l → l.area.first + l.area.tags ≤ k.tags → entry_of l.area.entries id ≡ Some e → 2 * k.cpus * e.length + 1 ≤ most_steps k
most_of_one k l id e ok small found =
    let tags : e.length ≤ BOOK_LIMIT * k.tags = omega (arith, entry_holds (λ x. x.length ≤ k.tags) l.area.entries id e (length_small k l.area ok.book small) found) in
    omega (arith, mul-le-mul_left (2 * k.cpus) tags)
