-- Each change leaves a list that is one: the book stays a book, and the stops and the ids that are left are few.
use Rattle.std.proofs.Common.{◌≡◌, ℕ, ◌+◌, ◌<◌, ◌≤◌, ◌==◌, ◌≢◌, ◌∙◌, ap, List, [], ◌∷◌, length, get_or, map, find, All, AllPairs, None, refl, sym, subst, arith, Bool, true, false, not, cond, eq-eqb}
use Rattle.std.proofs.lemmas.Bool.{both_ways}
use Rattle.std.proofs.lemmas.List.{length-map, length-append, get_or-map}
use Rattle.std.proofs.lemmas.List.Elements.{All-map, All-filter, All-push, All-weaker}
use Rattle.tag_model.specs.declared.shape.Shape.{Shape}
use Rattle.tag_model.specs.declared.state.Kind.TheVariants.{Bytes}
use Rattle.tag_model.specs.declared.state.Stop.{Stop}
use Rattle.tag_model.specs.declared.state.Sweep.{Sweep}
use Rattle.tag_model.specs.declared.state.Sweep.TheVariants as sweep
use Rattle.tag_model.specs.Laws.{sweep_fits}
use Rattle.tag_model.specs.StepRules.{begins_pass, stop_after, dead_ids}
use Rattle.tag_model.proofs.ScanRow.{reading_fits}
use Rattle.tag_model.proofs.SweepSteps.{left_begins_pass, without_not_longer}
use Rattle.module_list.proofs.Keeps.{dead_not_more as few_dead, scan_few}
use Rattle.module_area.specs.declared.entry.Entry.{Entry}
use Rattle.module_area.specs.declared.book.TheConstants.{BOOK_LIMIT}
use Rattle.module_area.specs.Entries.{AreApart, IsFree, IsLoadedAs, is_loaded_as, meets, entered, left as one_left, kept}
use Rattle.module_area.specs.Area.{Area, LiesIn, DifferIfLoaded, IsBook}
use Rattle.module_area.proofs.EntryLemmas.{find_none}
use Rattle.module_area.proofs.StartLemmas.{find_unmet, free_from_none}
use Rattle.module_area.proofs.BookLemmas.{KeepsRange, IsBook-filter, IsBook-push}
use Rattle.core_list.specs.declared.list.TheConstants.{LAST_ID}
use Rattle.core_list.specs.ListState.{ListState, IsList, record_of, records_of, left_ids, load_refusal, loaded, new_entry, or_zero, least_start, with_changed, entered_list, left_list, dead_list, swept_list, sum_read, scanned, scanned_at, read_to, read_to_at, released, released_at}
use Rattle.core_list.proofs.Room.{may_load, least_is_free}

-- a list by its parts
abbrev pub list_of : Area → ℕ → Sweep → List Stop → ListState
list_of area last_id sweep stops = record { area = area; last_id = last_id; sweep = sweep; stops = stops }

-- ---- entries that keep their ranges

AllPairs-map : (R : Entry → Entry → Type 0) (f : Entry → Entry) (xs : List Entry) → AllPairs (λ one other. R (f one) (f other)) xs → AllPairs R (map f xs)
AllPairs-map R f xs pairs i j d less inside =
    let within : j < length xs = omega (arith, length-map xs f) in
    subst (λ x. R x (get_or (map f xs) j d)) (sym (get_or-map f xs i d d (omega arith)))
    (subst (λ x. R (f (get_or xs i d)) x) (sym (get_or-map f xs j d d within)) (pairs i j d less within))

AllPairs-weaker : (R S : Entry → Entry → Type 0) (xs : List Entry) → ((one other : Entry) → R one other → S one other) → AllPairs R xs → AllPairs S xs
AllPairs-weaker R S xs h pairs i j d less inside = h (get_or xs i d) (get_or xs j d) (pairs i j d less inside)

-- a book whose entries keep their ranges is one
pub IsBook-map : (area : Area) (f : Entry → Entry) → ((e : Entry) → KeepsRange e (f e)) → IsBook area → IsBook (record area { entries = map f area.entries })
IsBook-map area f keeps book =
    let all : (P : Entry → Type 0) → ((e : Entry) → P e → P (f e)) → All P area.entries → All P (map f area.entries) = λ P h every. All-map P f area.entries (All-weaker P (λ e. P (f e)) h area.entries every) in
    let pairs : (R : Entry → Entry → Type 0) → ((one other : Entry) → R one other → R (f one) (f other)) → AllPairs R area.entries → AllPairs R (map f area.entries) = λ R h every. AllPairs-map R f area.entries (AllPairs-weaker R (λ one other. R (f one) (f other)) area.entries h every) in
    record {
      few = omega (arith, length-map area.entries f, book.few);
      above_zero = all (λ e. 0 < e.id) (λ e h. omega (arith, (keeps e).same_id)) book.above_zero;
      rising = pairs (λ one other. one.id < other.id) (λ one other h. omega (arith, (keeps one).same_id, (keeps other).same_id)) book.rising;
      some_tags = all (λ e. 1 ≤ e.length) (λ e h. omega (arith, (keeps e).same_length)) book.some_tags;
      in_area = all (λ e. LiesIn area e.start e.length) (λ e h. (omega (arith, h.0, (keeps e).same_start), omega (arith, h.1, (keeps e).same_start, (keeps e).same_length))) book.in_area;
      apart = pairs AreApart (λ one other h tag in_one in_other. h tag (omega (arith, in_one, (keeps one).same_start), omega (arith, in_one, (keeps one).same_start, (keeps one).same_length)) (omega (arith, in_other, (keeps other).same_start), omega (arith, in_other, (keeps other).same_start, (keeps other).same_length))) book.apart;
      loaded_once = pairs DifferIfLoaded (λ one other h is_one is_other same. h ((keeps one).was_loaded is_one) ((keeps other).was_loaded is_other) (sym (keeps one).same_section ∙ (same ∙ (keeps other).same_section))) book.loaded_once;
      small = book.small;
    }

-- a change of one entry that keeps its range
keeps_one : (id : ℕ) (change : Entry → Entry) → ((e : Entry) → KeepsRange e (change e)) → (e : Entry) → KeepsRange e (cond (e.id == id) (change e) e)
keeps_one id change keeps e = go (e.id == id)
  where
    go : (b : Bool) → KeepsRange e (cond b (change e) e)
    go true = keeps e
    go false = record { same_id = refl; same_section = refl; same_start = refl; same_length = refl; was_loaded = λ h. h }

keeps_entered : (e : Entry) → KeepsRange e (entered e)
keeps_entered e = record { same_id = refl; same_section = refl; same_start = refl; same_length = refl; was_loaded = λ h. h }

keeps_left : (e : Entry) → KeepsRange e (one_left e)
keeps_left e = record { same_id = refl; same_section = refl; same_start = refl; same_length = refl; was_loaded = λ h. h }

keeps_kept : (e : Entry) → KeepsRange e (kept e)
keeps_kept e = record { same_id = refl; same_section = refl; same_start = refl; same_length = refl; was_loaded = λ h. absurd (cc) }

pub list_changed : (l : ListState) (id : ℕ) (change : Entry → Entry) → ((e : Entry) → KeepsRange e (change e)) → IsList l → IsList (with_changed id change l)
list_changed l id change keeps ok =
    let f : Entry → Entry = λ e. cond (e.id == id) (change e) e in
    record {
      book = IsBook-map l.area f (keeps_one id change keeps) ok.book;
      given = All-map (λ e. e.id ≤ l.last_id) f l.area.entries (All-weaker (λ e. e.id ≤ l.last_id) (λ e. (f e).id ≤ l.last_id) (λ e h. omega (arith, (keeps_one id change keeps e).same_id)) l.area.entries ok.given);
      last = ok.last;
      few = ok.few;
    }

pub list_entered : (l : ListState) (id : ℕ) → IsList l → IsList (entered_list id l)
list_entered l id ok = list_changed l id entered keeps_entered ok

pub list_left : (l : ListState) (id : ℕ) → IsList l → IsList (left_list id l)
list_left l id ok = list_changed l id one_left keeps_left ok

-- ---- the dead, and a sweep of them

pub dead_not_more : (entries : List Entry) → length (dead_ids (map record_of entries)) ≤ length entries
dead_not_more entries = omega (arith, few_dead (map record_of entries), length-map entries record_of)

pub list_dead_marked : (l : ListState) (id : ℕ) → IsList l → IsList (dead_list id l)
list_dead_marked l id ok =
    let m = list_changed l id kept keeps_kept ok in
    record { book = m.book; given = m.given; last = m.last; few = omega arith }

pub list_swept : (l : ListState) → IsList l → IsList (swept_list l)
list_swept l ok =
    let ids = dead_ids (records_of l) in
    let few : length (left_ids (begins_pass Bytes ids (records_of l))) ≡ length ids = ap length (left_begins_pass Bytes ids (records_of l)) in
    record { book = ok.book; given = ok.given; last = ok.last; few = omega (arith, ok.book.few, dead_not_more l.area.entries) }

-- ---- a read

pub list_read_to : (cpu sum : ℕ) (l : ListState) → IsList l → IsList (read_to cpu sum l)
list_read_to cpu sum l ok = go l.sweep ok.few
  where
    go : (s : Sweep) → length l.stops + length (left_ids s) ≤ BOOK_LIMIT → IsList (read_to_at cpu sum l s)
    go sweep.None few = ok
    go (sweep.Done left) few = ok
    go (sweep.Reading left r) few = record { book = ok.book; given = ok.given; last = ok.last; few = few }

pub list_scanned : (k : Shape) (word : ℕ) (l : ListState) → IsList l → sweep_fits k l.sweep (records_of l) ≡ true → IsList (scanned k word l)
list_scanned k word l ok fits = go l.sweep ok.few fits
  where
    go : (s : Sweep) → length l.stops + length (left_ids s) ≤ BOOK_LIMIT → sweep_fits k s (records_of l) ≡ true → IsList (scanned_at k word l s)
    go sweep.None few fits = ok
    go (sweep.Done left) few fits = ok
    go (sweep.Reading left r) few fits =
        let listed = (reading_fits k left r (records_of l) fits).listed in
        record {
          book = ok.book;
          given = ok.given;
          last = ok.last;
          few = omega (arith, length-append l.stops (stop_after k r (sum_read r word)), scan_few k (records_of l) left r (sum_read r word) listed);
        }

-- ---- a release

pub list_released : (l : ListState) → IsList l → IsList (released l)
list_released l ok = go l.sweep ok.few
  where
    go : (s : Sweep) → length l.stops + length (left_ids s) ≤ BOOK_LIMIT → IsList (released_at l s)
    go sweep.None few = ok
    go (sweep.Reading left r) few = ok
    go (sweep.Done []) few = ok
    go (sweep.Done (id ∷ left)) few = record {
      book = IsBook-filter l.area.entries l.area.first l.area.tags ok.book (λ e. not (e.id == id));
      given = All-filter (λ e. not (e.id == id)) (λ e. e.id ≤ l.last_id) l.area.entries ok.given;
      last = ok.last;
      few = omega (arith, without_not_longer id (id ∷ left));
    }

-- ---- a load

pub loaded_means : (section : ℕ) (e : Entry) → IsLoadedAs section e → is_loaded_as section e ≡ true
loaded_means section e is = rw is.0 (eq-eqb e.section section is.1)

-- a section that has no loaded entry
pub unnamed_all : (section : ℕ) (entries : List Entry) → find (is_loaded_as section) entries ≡ None → All (λ e. ¬ IsLoadedAs section e) entries
unnamed_all section entries none =
    All-weaker (λ e. is_loaded_as section e ≡ false) (λ e. ¬ IsLoadedAs section e) (λ e no_one is. both_ways (is_loaded_as section e) no_one (loaded_means section e is)) entries (find_none (is_loaded_as section) entries none)

pub list_loaded : (l : ListState) (section size : ℕ) → IsList l → 1 ≤ size → load_refusal section size l ≡ None → IsList (loaded section size l)
list_loaded l section size ok some none =
    let may = may_load section size l none in
    let free = least_is_free l.area size may.start may.is in
    let is : or_zero (least_start l.area size) ≡ may.start = ap or_zero may.is in
    let entry : Entry = new_entry section size l in
    let room : length l.area.entries ≢ BOOK_LIMIT = may.some_room in
    let id : l.last_id ≢ LAST_ID = may.some_id in
    record {
      book = IsBook-push l.area.entries l.area.first l.area.tags ok.book entry (omega (arith, ok.book.few)) (omega arith)
          (All-weaker (λ e. e.id ≤ l.last_id) (λ e. e.id < l.last_id + 1) (λ e h. omega arith) l.area.entries ok.given)
          (unnamed_all section l.area.entries may.unnamed) some (omega (arith, free.low), omega (arith, free.high))
          (subst (λ start. IsFree l.area.entries start size) (sym is) (free_from_none l.area.entries may.start size (find_unmet (λ e. meets e may.start size) l.area.entries free.unmet)));
      given = All-push (λ e. e.id ≤ l.last_id + 1) l.area.entries entry (All-weaker (λ e. e.id ≤ l.last_id) (λ e. e.id ≤ l.last_id + 1) (λ e h. omega arith) l.area.entries ok.given) (omega arith);
      last = omega (arith, ok.last);
      few = ok.few;
    }
