-- What a cleaning with lent words releases: the dead modules whose tags' words add up to 0.
use Rattle.std.proofs.Common.{◌≡◌, ◌≢◌, ℕ, ◌+◌, ◌<◌, ◌≤◌, ◌==◌, ◌&&◌, ◌||◌, List, [], ◌∷◌, filter, map, None, Some, refl, sym, ap, ◌∙◌, subst, arith, Bool, true, false, not, cond, All, eqb-true, eq-eqb, ne_eqb, inl, inr, ◌⊎◌}
use Rattle.std.specs.List.{list_all, list_any, range_with_len}
use Rattle.std.proofs.lemmas.Bool.{and_from, and_parts, cases_Bool, cases_eq, cond-true, cond-false, false≢true}
use Rattle.std.proofs.lemmas.List.Elements.{All-cons, All-nil, All-head, All-tail, All-weaker}
use Rattle.std.proofs.lemmas.Option.{same_Some}
use Rattle.tag_model.specs.declared.shape.Shape.{Shape}
use Rattle.tag_model.specs.declared.state.Kind.{Kind}
use Rattle.tag_model.specs.declared.state.Kind.TheVariants.{Bytes, Calls}
use Rattle.tag_model.specs.declared.state.ListPart.{ListPart}
use Rattle.tag_model.specs.declared.state.Record.{Record}
use Rattle.tag_model.specs.declared.state.Stop.{Stop}
use Rattle.tag_model.specs.declared.state.Sweep.{Sweep}
use Rattle.tag_model.specs.declared.state.Sweep.TheVariants as sweep
use Rattle.tag_model.specs.Laws.{covers_listed, ids_of, is_listed, rises_from}
use Rattle.tag_model.specs.StepRules.{Sweeps, dead_ids}
use Rattle.tag_model.proofs.Accounted.{sweeps_account}
use Rattle.tag_model.specs.Sweeping.{has_stop, ids_left, is_accounted}
use Rattle.tag_model.specs.WordState.{in_range, record_fits}
use Rattle.tag_model.proofs.Found.{any_at}
use Rattle.tag_model.proofs.Ids.{rises_cons}
use Rattle.tag_model.proofs.Lists.{in_range_from, in_range_means}
use Rattle.tag_model.proofs.Passes.{SweepOk, begins_pass_ok}
use Rattle.tag_model.proofs.Records.{dead_are_dead, rises_dead}
use Rattle.tag_rule.specs.Shown.{CpuShown}
use Rattle.module_area.specs.declared.entry.Entry.{Entry}
use Rattle.module_area.specs.Entries.{entry_of, is_dead}
use Rattle.module_area.specs.Area.{Area, IsBook, LiesIn}
use Rattle.module_list.specs.Listing.{releasable, swept}
use Rattle.tag_rule.specs.Seated.{no_cpu}
use Rattle.core_list.specs.ListState.{record_of}
use Rattle.core_list.proofs.Split.{book_apart, book_entry_at, book_rises, entry_holds, records_at, the_entry}
use Rattle.reclaim.specs.Quiet.{OwnReads, is_quiet, is_quiet_tag, is_unquiet, no_own, then_own, total}
use Rattle.reclaim.specs.State.{IsLocked, LockedShown, is_still, part_of}
use Rattle.reclaim.specs.Steps.{with_listing}
use Rattle.reclaim.specs.Sweeps.{Cleaned, Releases, is_kept, no_release, then_release, with_entries}
use Rattle.reclaim.proofs.Clean.{cleaned, with_part}
use Rattle.reclaim.proofs.QuietParts.{base_of, counts_here, made_up}
use Rattle.reclaim.proofs.QuietSweep.{AreAll, AreRecords, IsQuietly, IsTrueStop, are_all, begins_start, own_reads, scans_quietly, start_whole}
use Rattle.reclaim.proofs.QuietSums.{number}
use Rattle.reclaim.proofs.Reading.{reads_account, reads_keep}
use Rattle.tag_model.proofs.Lists.{all_range, range_at}

-- ---- from the beginning to the end of the reads

pub begins_quietly : (k : Shape) (cpus : List CpuShown) (l : LockedShown) → AreAll k cpus → AreRecords k (map record_of l.area.entries) → IsBook l.area → IsQuietly k cpus (with_listing swept (part_of l))
begins_quietly k cpus l all recs book =
    let records = map record_of l.area.entries in
    record {
      whole = start_whole cpus (with_listing swept (part_of l)).sweep all.are (begins_start Bytes (dead_ids records) records);
      stops = All-nil (IsTrueStop cpus records);
      law = λ kind t small some. begins_pass_ok k Bytes (dead_ids records) records (made_up k kind t cpus) (base_of k records kind t cpus recs.some_cpu recs.fit recs.apart small all.are some) (rises_dead 0 records (book_rises l.area book)) (dead_are_dead records) (λ e u h. absurd (false≢true e));
    }

pub reads_quietly : (k : Shape) (cpus : List CpuShown) (old new : ListPart) → AreAll k cpus → CpuShown → AreRecords k old.records → IsQuietly k cpus old → OwnReads k cpus old new → IsQuietly k cpus new
reads_quietly k cpus old new all d recs was no_own = was
reads_quietly k cpus old new all d recs was (then_own {mid} before scan) =
    let m = reads_quietly k cpus old mid all d recs was before in
    let same = (reads_keep k old mid (own_reads k cpus old mid before)).records in
    scans_quietly k cpus mid new all d (subst (AreRecords k) (sym same) recs) m scan

-- ---- an entry that stays, and one that goes

-- each entry is that of its id
pub each_found : (low : ℕ) (es : List Entry) → rises_from low (ids_of (map record_of es)) ≡ true → All (λ (e : Entry). (low < e.id) × (entry_of es e.id ≡ Some e)) es
each_found low [] rises = All-nil (λ (e : Entry). (low < e.id) × (entry_of [] e.id ≡ Some e))
each_found low (x ∷ xs) rises =
    let both = rises_cons low x.id (ids_of (map record_of xs)) rises in
    All-cons (λ (e : Entry). (low < e.id) × (entry_of (x ∷ xs) e.id ≡ Some e)) x xs (both.0, cond-true (x.id == x.id) (Some x) (entry_of xs x.id) (eq-eqb x.id x.id refl))
    (All-weaker (λ (e : Entry). (x.id < e.id) × (entry_of xs e.id ≡ Some e)) (λ (e : Entry). (low < e.id) × (entry_of (x ∷ xs) e.id ≡ Some e))
    (λ e h. (omega (arith, h.0, both.0), cond-false (x.id == e.id) (Some x) (entry_of xs e.id) (ne_eqb x.id e.id (λ same. omega (arith, h.0, same))) ∙ h.1)) xs (each_found x.id xs both.1))

record StopOf (P : Stop → Type 0) (id : ℕ) : Type 0 where
  pub stop : Stop
  pub its : stop.id ≡ id
  pub holds : P stop

stop_of : (P : Stop → Type 0) (id : ℕ) (stops : List Stop) → All P stops → has_stop id stops ≡ true → StopOf P id
stop_of P id [] all there = absurd (false≢true there)
stop_of P id (s ∷ stops) all there = go (s.id == id) refl there (λ h. stop_of P id stops (All-tail P s stops all) h)
  where
    go : (b : Bool) → (s.id == id) ≡ b → (b || has_stop id stops) ≡ true → (has_stop id stops ≡ true → StopOf P id) → StopOf P id
    go true is h later = record { stop = s; its = eqb-true s.id id is; holds = All-head P s stops all }
    go false is h later = later h

-- a dead entry with a stop has a tag whose words don't add up to 0
stops_unquiet : (cpus : List CpuShown) (area : Area) (e : Entry) (stops : List Stop) → IsBook area → entry_of area.entries e.id ≡ Some e → All (IsTrueStop cpus (map record_of area.entries)) stops → has_stop e.id stops ≡ true → is_quiet cpus e ≡ false
stops_unquiet cpus area e stops book found all there =
    let s = stop_of (IsTrueStop cpus (map record_of area.entries)) e.id stops all there in
    let test : Record → Bool = λ r. in_range r.start r.length s.stop.tag in
    let t = the_entry area e.id test book (subst (λ i. list_any (λ (r : Record). (r.id == i) && test r) (map record_of area.entries) ≡ true) s.its s.holds.1) in
    let same : t.entry ≡ e = same_Some t.entry e (sym t.is ∙ found) in
    let within = in_range_means e.start e.length s.stop.tag (subst (λ (x : Entry). in_range x.start x.length s.stop.tag ≡ true) same t.passes) in
    go (cases_Bool (is_quiet cpus e)) s.stop.kind s.holds.0 within
  where
    loud : (kind : Kind) (t : ℕ) → total kind t cpus ≢ 0 → is_quiet_tag cpus t ≡ true → ⊥
    loud Bytes t some h = some (eqb-true (total Bytes t cpus) 0 (and_parts (total Bytes t cpus == 0) (total Calls t cpus == 0) h).0)
    loud Calls t some h = some (eqb-true (total Calls t cpus) 0 (and_parts (total Bytes t cpus == 0) (total Calls t cpus == 0) h).1)

    go : {t : ℕ} → (is_quiet cpus e ≡ true) ⊎ (is_quiet cpus e ≡ false) → (kind : Kind) → total kind t cpus ≢ 0 → (e.start ≤ t) × (t < e.start + e.length) → is_quiet cpus e ≡ false
    go (inr no_one) kind some within = no_one
    go {t} (inl quiet) kind some within = absurd (loud kind t some (range_at (is_quiet_tag cpus) e.start e.length t quiet within.0 within.1))

-- a dead entry on the list of a sweep that is done has none
listed_quiet : (k : Shape) (cpus : List CpuShown) (area : Area) (e : Entry) (p : ListPart) → IsBook area → area.first + area.tags ≤ k.tags → entry_of area.entries e.id ≡ Some e → p.records ≡ map record_of area.entries → is_still p.sweep ≡ true → IsQuietly k cpus p
    → is_listed (ids_left p.sweep) e.id ≡ true → is_quiet cpus e ≡ true
listed_quiet k cpus area e p book small found records still quietly listed = go p.sweep refl still listed
  where
    lies : LiesIn area e.start e.length
    lies = entry_holds (λ x. LiesIn area x.start x.length) area.entries e.id e book.in_area found

    covered : (left : List ℕ) (t : ℕ) → is_listed left e.id ≡ true → e.start ≤ t → t < e.start + e.length → covers_listed left t p.records ≡ true
    covered left t listed above below =
        let at = book_entry_at area e.id e book found in
        subst (λ rs. covers_listed left t rs ≡ true) (sym (records ∙ records_at area.entries e.id e at))
        (any_at (λ (r : Record). is_listed left r.id && in_range r.start r.length t) (map record_of at.front) (record_of e) (map record_of at.back) (and_from _ _ listed (in_range_from e.start e.length t above below)))

    zero_sum : (left : List ℕ) → p.sweep ≡ sweep.Done left → (kind : Kind) (t : ℕ) → t < k.tags → covers_listed left t p.records ≡ true → (total kind t cpus == 0) ≡ true
    zero_sum left done kind t small covers = elim (cases_eq (total kind t cpus) 0) [
      | inl none ↦ eq-eqb (total kind t cpus) 0 none
      | inr some ↦ (let ok = subst (λ s. SweepOk k s p.records (made_up k kind t cpus)) done (quietly.law kind t small some) in
          absurd (omega (arith, ok.cleared kind t covers, counts_here k kind t cpus)))
    ]

    go : (s : Sweep) → p.sweep ≡ s → is_still s ≡ true → is_listed (ids_left s) e.id ≡ true → is_quiet cpus e ≡ true
    go sweep.None is still listed = absurd (false≢true listed)
    go (sweep.Reading left r) is still listed = absurd (false≢true still)
    go (sweep.Done left) is still listed =
        all_range (is_quiet_tag cpus) e.start e.length (λ t above below.
        let covers = covered left t listed above below in
        let within : t < k.tags = omega (arith, lies, below) in
        and_from _ _ (zero_sum left is Bytes t within covers) (zero_sum left is Calls t within covers))

-- ---- what stays

kept_is : (d s q : Bool) → (d ≡ true → s ≡ true → q ≡ false) → (d ≡ true → s ≡ false → q ≡ true) → (not d || s) ≡ not (d && q)
kept_is false s q has has_not = refl
kept_is true true q has has_not = sym (ap not (has refl refl))
kept_is true false q has has_not = sym (ap not (has_not refl refl))

filter_same : (p q : Entry → Bool) (es : List Entry) → All (λ e. p e ≡ q e) es → filter p es ≡ filter q es
filter_same p q [] all = refl
filter_same p q (x ∷ xs) all =
    let later = filter_same p q xs (All-tail (λ e. p e ≡ q e) x xs all) in
    (λ i. cond (All-head (λ e. p e ≡ q e) x xs all i) (x ∷ later i) (later i))

dead_is_in : (area : Area) (e : Entry) → IsBook area → entry_of area.entries e.id ≡ Some e → is_dead e.state ≡ true → list_any (λ (r : Record). (r.id == e.id) && r.dead) (map record_of area.entries) ≡ true
dead_is_in area e book found dead =
    let at = book_entry_at area e.id e book found in
    subst (λ rs. list_any (λ (r : Record). (r.id == e.id) && r.dead) rs ≡ true) (sym (records_at area.entries e.id e at))
    (any_at (λ (r : Record). (r.id == e.id) && r.dead) (map record_of at.front) (record_of e) (map record_of at.back) (and_from _ _ (eq-eqb e.id e.id refl) dead))

accounted_listed : (d l s : Bool) → (not d || l || s) ≡ true → d ≡ true → s ≡ false → l ≡ true
accounted_listed true true s h is none = refl
accounted_listed true false s h is none = absurd (false≢true (sym none ∙ h))
accounted_listed false l s h is none = absurd (false≢true is)

pub stays_unquiet : (k : Shape) (cpus : List CpuShown) (area : Area) (p : ListPart) → IsBook area → area.first + area.tags ≤ k.tags → p.records ≡ map record_of area.entries → is_still p.sweep ≡ true → IsQuietly k cpus p → ((id : ℕ) → is_accounted id p ≡ true)
    → filter (is_kept p.stops) area.entries ≡ filter (is_unquiet cpus) area.entries
stays_unquiet k cpus area p book small records still quietly accounted =
    filter_same (is_kept p.stops) (is_unquiet cpus) area.entries
    (All-weaker (λ (e : Entry). (0 < e.id) × (entry_of area.entries e.id ≡ Some e)) (λ e. is_kept p.stops e ≡ is_unquiet cpus e)
    (λ e h. kept_is (is_dead e.state) (has_stop e.id p.stops) (is_quiet cpus e)
    (λ dead has. stops_unquiet cpus area e p.stops book h.1 (subst (λ rs. All (IsTrueStop cpus rs) p.stops) records quietly.stops) has)
    (λ dead has_not. listed_quiet k cpus area e p book small h.1 records still quietly
    (accounted_listed (list_any (λ (r : Record). (r.id == e.id) && r.dead) p.records) (is_listed (ids_left p.sweep) e.id) (has_stop e.id p.stops) (accounted e.id) (ap (list_any (λ (r : Record). (r.id == e.id) && r.dead)) records ∙ dead_is_in area e book h.1 dead) has_not)))
    area.entries (each_found 0 area.entries (book_rises area book)))

-- releases leave the stops
pub releases_stops : (old new : LockedShown) (count : ℕ) → Releases old count new → new.stops ≡ old.stops
releases_stops old new count no_release = refl
releases_stops old new count (then_release {count = n} {mid} id before first dead) = releases_stops old mid n before

-- ---- all together

-- after a sweep that was begun and read to its end with lent words, and the releases
pub record CleanedQuietly (cpus : List CpuShown) (old new : LockedShown) (count : ℕ) : Type 0 where
  pub clean : Cleaned old new count
  pub exact : new.area ≡ with_entries (filter (is_unquiet cpus) old.area.entries) old

pub cleaned_quietly : (cpus : List CpuShown) (old mid new : LockedShown) (count : ℕ) (p : ListPart) → IsLocked old → map number cpus ≡ range_with_len 0 old.board.shape.cpus → list_all (record_fits old.board.shape) (map record_of old.area.entries) ≡ true
    → OwnReads old.board.shape cpus (with_listing swept (part_of old)) p → is_still p.sweep ≡ true → mid ≡ with_part p old → Releases mid count new → releasable new.sweep ≡ None → CleanedQuietly cpus old new count
cleaned_quietly cpus old mid new count p ok all fit own still is_mid releases none_first =
    let k = old.board.shape in
    let from = with_listing swept (part_of old) in
    let reads = own_reads k cpus from p own in
    let every = are_all k cpus all in
    let recs : AreRecords k (map record_of old.area.entries) = record { some_cpu = ok.checked.some_cpu; fit = fit; apart = book_apart old.area ok.book } in
    let d : CpuShown = record { board = old.board; part = no_cpu } in
    let quietly = reads_quietly k cpus from p every d recs (begins_quietly k cpus old every recs ok.book) own in
    let row : Sweeps (part_of old) from = record { after = refl } in
    let accounted : (id : ℕ) → is_accounted id p ≡ true = λ id. reads_account k from p id reads (sweeps_account (part_of old) from id row) in
    let clean = cleaned old mid new count p ok reads still is_mid releases none_first in
    let stops : new.stops ≡ p.stops = releases_stops mid new count releases ∙ ap (λ (l : LockedShown). l.stops) is_mid in
    let same = stays_unquiet k cpus old.area p ok.book ok.within (reads_keep k from p reads).records still quietly accounted in
    record { clean = clean; exact = clean.area ∙ ap (λ es. with_entries es old) (ap (λ st. filter (is_kept st) old.area.entries) stops ∙ same) }
