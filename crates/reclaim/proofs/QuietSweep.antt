-- A sweep whose words are lent: its sums are those of the seats, and so it stops exactly where they aren't 0.
use Rattle.std.proofs.Common.{◌≡◌, ◌≢◌, ℕ, ◌+◌, ◌^◌, ◌<◌, ◌≤◌, ◌==◌, ◌&&◌, nat_lt, List, [], ◌∷◌, ◌++◌, length, get_or, map, find, sum_by, slice_index, Option, None, Some, IsSomeAnd, refl, sym, ap, ◌∙◌, subst, arith, Bool, true, false, not, if◌then◌else◌, All, eqb-true, eq-eqb, inl, inr, ◌⊎◌}
use Rattle.std.specs.List.{list_all, list_any, range_with_len}
use Rattle.std.proofs.lemmas.Bool.{and_from, and_parts, cases_Bool, cases_eq, false≢true, ltb-false}
use Rattle.std.proofs.lemmas.List.{get_or_default, get_or-map, length-map}
use Rattle.std.proofs.lemmas.List.Elements.{All-append, All-cons, All-nil}
use Rattle.std.proofs.lemmas.List.FromFn.{get_or-range_with_len, length-range_with_len}
use Rattle.tag_model.specs.declared.shape.Shape.{Shape}
use Rattle.tag_model.specs.declared.state.CpuPart.{CpuPart}
use Rattle.tag_model.specs.declared.state.Kind.{Kind}
use Rattle.tag_model.specs.declared.state.Kind.TheVariants.{Bytes, Calls}
use Rattle.tag_model.specs.declared.state.ListPart.{ListPart}
use Rattle.tag_model.specs.declared.state.Reader.{Reader}
use Rattle.tag_model.specs.declared.state.Record.{Record}
use Rattle.tag_model.specs.declared.state.Stop.{Stop}
use Rattle.tag_model.specs.declared.state.Sweep.{Sweep}
use Rattle.tag_model.specs.declared.state.Sweep.TheVariants as sweep
use Rattle.tag_model.specs.Laws.{covers_listed, ids_of, is_calls, is_listed, rises_from, sweep_fits}
use Rattle.tag_model.proofs.SweepSteps.{scans_fall}
use Rattle.tag_model.specs.StepRules.{Scans, after_pass, begins_pass, end_of, goes_on, passes_record, stop_after, sweep_after, without_id}
use Rattle.tag_model.specs.Wrap.{wrap}
use Rattle.tag_model.specs.WordState.{counted, in_range, record_fits, word_from, word_place}
use Rattle.tag_model.proofs.Found.{any_at}
use Rattle.tag_model.proofs.Lists.{Apart}
use Rattle.tag_model.proofs.Passes.{SweepOk}
use Rattle.tag_model.proofs.ScanRow.{pass_so_far, reading_fits, scan_ok}
use Rattle.tag_rule.specs.Shown.{CpuShown}
use Rattle.percpu_words.specs.CpuWords.{word_in}
use Rattle.module_list.specs.Listing.{reader_of}
use Rattle.reclaim.specs.Quiet.{OwnReads, ScansOwn, no_own, then_own, total}
use Rattle.reclaim.specs.Steps.{Reads, no_read, then_read}
use Rattle.reclaim.proofs.QuietParts.{base_of, counts_here, counts_no_bytes, counts_other, fits_up, made_up, words_of}
use Rattle.reclaim.proofs.QuietSums.{AreFrom, from, from_all, from_next, from_none, number}
use Rattle.reclaim.proofs.Reading.{tag_within}

-- ---- all CPUs

pub record AreAll (k : Shape) (cpus : List CpuShown) : Type 0 where
  pub are : AreFrom 0 cpus
  pub long : length cpus ≡ k.cpus
  pub below : All (λ c. number c < k.cpus) cpus

number_at : (k : Shape) (cpus : List CpuShown) → map number cpus ≡ range_with_len 0 k.cpus → (i : ℕ) (d : CpuShown) → i < length cpus → number (get_or cpus i d) ≡ i
number_at k cpus all i d below =
    let long : length cpus ≡ k.cpus = sym (length-map cpus number) ∙ (ap length all ∙ length-range_with_len 0 k.cpus) in
    let is = sym (get_or-map number cpus i d (number d) below) ∙ (ap (λ ns. get_or ns i (number d)) all ∙ get_or-range_with_len 0 k.cpus i (number d) (omega arith)) in
    omega (arith, is)

pub are_all : (k : Shape) (cpus : List CpuShown) → map number cpus ≡ range_with_len 0 k.cpus → AreAll k cpus
are_all k cpus all =
    let long : length cpus ≡ k.cpus = sym (length-map cpus number) ∙ (ap length all ∙ length-range_with_len 0 k.cpus) in
    record { are = all ∙ ap (range_with_len 0) (sym long); long = long; below = λ i d below. omega (arith, number_at k cpus all i d below, long) }

-- ---- where a sweep stands

pub record ReadingAt (s : Sweep) (r : Reader) : Type 0 where
  pub left : List ℕ
  pub is : s ≡ sweep.Reading left r

pub reading_at : (s : Sweep) (r : Reader) → reader_of s ≡ Some r → ReadingAt s r
reading_at sweep.None r e = absurd (cc)
reading_at (sweep.Done left) r e = absurd (cc)
reading_at (sweep.Reading left x) r e = let same : x ≡ r = cc in record { left = left; is = ap (λ y. sweep.Reading left y) same }

pub cpu_below : (k : Shape) (s : Sweep) (records : List Record) (r : Reader) → sweep_fits k s records ≡ true → reader_of s ≡ Some r → r.cpu < k.cpus
cpu_below k s records r fits is = let at = reading_at s r is in (reading_fits k at.left r records (subst (λ x. sweep_fits k x records ≡ true) at.is fits)).cpu

pub index_below : (k : Shape) (s : Sweep) (records : List Record) (r : Reader) (cpus : List CpuShown) → sweep_fits k s records ≡ true → reader_of s ≡ Some r → map number cpus ≡ range_with_len 0 k.cpus → r.cpu < length cpus
index_below k s records r cpus fits is all = omega (arith, cpu_below k s records r fits is, (are_all k cpus all).long)

pub next_is : (k : Shape) (s : Sweep) (r : Reader) (cpus : List CpuShown) (seat : CpuShown) → reader_of s ≡ Some r → map number cpus ≡ range_with_len 0 k.cpus → r.cpu < length cpus → IsSomeAnd (reader_of s) (λ x. x.cpu ≡ (get_or cpus r.cpu seat).part.number)
next_is k s r cpus seat is all below = subst (λ o. IsSomeAnd o (λ (x : Reader). x.cpu ≡ (get_or cpus r.cpu seat).part.number)) (sym is) (sym (number_at k cpus all r.cpu seat below))

pub scans_own : (k : Shape) (cpus : List CpuShown) (old new : ListPart) (r : Reader) (seat : CpuShown) (cpu : CpuPart) → rises_from 0 (ids_of old.records) ≡ true → sweep_fits k old.sweep old.records ≡ true → reader_of old.sweep ≡ Some r
    → r.cpu < length cpus → cpu ≡ (get_or cpus r.cpu seat).part → ((left : List ℕ) (x : Reader) → old.sweep ≡ sweep.Reading left x → Scans k left x cpu old new) → ScansOwn k cpus old new
scans_own k cpus old new r seat cpu rises fits is below seat_is row =
    let at = reading_at old.sweep r is in
    let scan = row at.left r at.is in
    let fit = subst (λ s. sweep_fits k s old.records ≡ true) at.is fits in
    record {
      one = record { left = at.left; reader = r; cpu = cpu; row = scan; listed = (reading_fits k at.left r old.records fit).listed; within = tag_within k at.left r old.records fit; falls = (scans_fall k at.left r cpu old new rises fits scan).0 };
      fits = fits;
      own = λ d. seat_is ∙ ap (λ (c : CpuShown). c.part) (get_or_default cpus r.cpu seat d below);
    }

-- the reads, without what they read
pub own_reads : (k : Shape) (cpus : List CpuShown) (old new : ListPart) → OwnReads k cpus old new → Reads k old new
own_reads k cpus old new no_own = no_read
own_reads k cpus old new (then_own {mid} before scan) = then_read (own_reads k cpus old mid before) scan.one

-- ---- where a pass begins

abbrev pub IsStart : Sweep → Type 0
IsStart sweep.None = Unit {0}
IsStart (sweep.Done left) = Unit {0}
IsStart (sweep.Reading left r) = (r.cpu ≡ 0) × (r.sum ≡ 0)

pub begins_start : (pass : Kind) (left : List ℕ) (records : List Record) → IsStart (begins_pass pass left records)
begins_start pass [] records = tt
begins_start pass (id ∷ left) records = (refl, refl)

after_start : (pass : Kind) (left : List ℕ) (records : List Record) → IsStart (after_pass pass left records)
after_start pass [] records = tt
after_start Bytes (id ∷ left) records = begins_start Calls (id ∷ left) records
after_start Calls (id ∷ left) records = tt

goes_start : (o : Option ℕ) (pass : Kind) (left : List ℕ) (records : List Record) → IsStart (goes_on o pass left records)
goes_start None pass left records = after_start pass left records
goes_start (Some next) pass left records = (refl, refl)

-- ---- the sum so far and the words still to read are together all words

abbrev pub IsWhole : List CpuShown → Sweep → Type 0
IsWhole cpus sweep.None = Unit {0}
IsWhole cpus (sweep.Done left) = Unit {0}
IsWhole cpus (sweep.Reading left r) = wrap (r.sum + sum_by (from r.cpu r.pass r.tag) cpus) ≡ total r.pass r.tag cpus

pub start_whole : (cpus : List CpuShown) (s : Sweep) → AreFrom 0 cpus → IsStart s → IsWhole cpus s
start_whole cpus sweep.None are start = tt
start_whole cpus (sweep.Done left) are start = tt
start_whole cpus (sweep.Reading left r) are start =
    let all : sum_by (from r.cpu r.pass r.tag) cpus ≡ sum_by (word_in r.pass r.tag) cpus = from_all r.cpu 0 r.pass r.tag cpus (omega (arith, start.0)) are in
    omega (arith, all, start.1)

-- a stop tells a tag of a record of its id, whose words don't add up to 0
abbrev pub IsTrueStop : List CpuShown → List Record → Stop → Type 0
IsTrueStop cpus records s = (total s.kind s.tag cpus ≢ 0) × (list_any (λ (r : Record). (r.id == s.id) && in_range r.start r.length s.tag) records ≡ true)

-- what a sweep with lent words keeps: the sums are whole, each stop is true, and for each kind and tag whose words don't add up to 0, the sweep law holds as if something were counted there
pub record IsQuietly (k : Shape) (cpus : List CpuShown) (p : ListPart) : Type 0 where
  pub whole : IsWhole cpus p.sweep
  pub stops : All (IsTrueStop cpus p.records) p.stops
  pub law : (kind : Kind) (t : ℕ) → t < k.tags → total kind t cpus ≢ 0 → SweepOk k p.sweep p.records (made_up k kind t cpus)

-- what the records are
pub record AreRecords (k : Shape) (records : List Record) : Type 0 where
  pub some_cpu : 0 < k.cpus
  pub fit : list_all (record_fits k) records ≡ true
  pub apart : Apart records

module _ (k : Shape) (cpus : List CpuShown) (all : AreAll k cpus) (records : List Record) (recs : AreRecords k records) (left : List ℕ) (r : Reader) (fits : sweep_fits k (sweep.Reading left r) records ≡ true) (sum : ℕ) where
  tag_listed : covers_listed left r.tag records ≡ true
  tag_listed =
      let f = reading_fits k left r records fits in
      let both = and_parts (f.at.item.id == r.id) (in_range f.at.item.start f.at.item.length r.tag) f.at.passes in
      subst (λ xs. covers_listed left r.tag xs ≡ true) (sym f.at.is)
      (any_at (λ (x : Record). is_listed left x.id && in_range x.start x.length r.tag) f.at.front f.at.item f.at.back (and_from _ _ (subst (λ i. is_listed left i ≡ true) (sym (eqb-true f.at.item.id r.id both.0)) f.listed) both.1))

  -- what is counted in the made-up state is at most what is read and still to read
  enough : wrap (sum + sum_by (from (r.cpu + 1) r.pass r.tag) cpus) ≡ total r.pass r.tag cpus → (kind : Kind) (t : ℕ) → t < k.tags → total kind t cpus ≢ 0 → SweepOk k (sweep.Reading left r) records (made_up k kind t cpus)
      → sum_by (counted r.pass r.tag) (made_up k kind t cpus) ≤ wrap (sum + sum_by (word_from (r.cpu + 1) r.pass r.tag) (made_up k kind t cpus))
  enough whole kind t small some ok = go (cases_eq t r.tag)
    where
      same : (kind pass : Kind) → r.pass ≡ pass → total kind r.tag cpus ≢ 0 → r.tag < k.tags → SweepOk k (sweep.Reading left r) records (made_up k kind r.tag cpus) → wrap (sum + sum_by (from (r.cpu + 1) pass r.tag) cpus) ≡ total pass r.tag cpus
          → sum_by (counted pass r.tag) (made_up k kind r.tag cpus) ≤ wrap (sum + sum_by (word_from (r.cpu + 1) pass r.tag) (made_up k kind r.tag cpus))
      same Bytes Bytes is some small ok whole = omega (arith, counts_here k Bytes r.tag cpus, words_of k (r.cpu + 1) Bytes r.tag cpus small, whole, some)
      same Calls Calls is some small ok whole = omega (arith, counts_here k Calls r.tag cpus, words_of k (r.cpu + 1) Calls r.tag cpus small, whole, some)
      same Calls Bytes is some small ok whole = omega (arith, counts_no_bytes k r.tag cpus r.tag)
      same Bytes Calls is some small ok whole =
          let none = (pass_so_far k left r records (made_up k Bytes r.tag cpus) ok).bytes (ap is_calls is) r.tag tag_listed in
          absurd (omega (arith, none, counts_here k Bytes r.tag cpus))

      go : (t ≡ r.tag) ⊎ (t ≢ r.tag) → sum_by (counted r.pass r.tag) (made_up k kind t cpus) ≤ wrap (sum + sum_by (word_from (r.cpu + 1) r.pass r.tag) (made_up k kind t cpus))
      go (inl is) = subst (λ n. sum_by (counted r.pass r.tag) (made_up k kind n cpus) ≤ wrap (sum + sum_by (word_from (r.cpu + 1) r.pass r.tag) (made_up k kind n cpus))) (sym is)
          (same kind r.pass refl (subst (λ n. total kind n cpus ≢ 0) is some) (subst (λ n. n < k.tags) is small) (subst (λ n. SweepOk k (sweep.Reading left r) records (made_up k kind n cpus)) is ok) whole)
      go (inr apart) = omega (arith, counts_other k kind t cpus r.pass r.tag apart)

  -- the stop that a read adds is true
  true_stop : wrap (sum + sum_by (from (r.cpu + 1) r.pass r.tag) cpus) ≡ total r.pass r.tag cpus → sum < 2 ^ 64 → All (IsTrueStop cpus records) (stop_after k r sum)
  true_stop whole small = go (cases_Bool (nat_lt (r.cpu + 1) k.cpus)) (cases_Bool (not (sum == 0)))
    where
      go : (nat_lt (r.cpu + 1) k.cpus ≡ true) ⊎ (nat_lt (r.cpu + 1) k.cpus ≡ false) → (not (sum == 0) ≡ true) ⊎ (not (sum == 0) ≡ false) → All (IsTrueStop cpus records) (stop_after k r sum)
      go (inl more) any = rw more (All-nil (IsTrueStop cpus records))
      go (inr last) (inr none) = rw (last, none) (All-nil (IsTrueStop cpus records))
      go (inr last) (inl some) =
          let past = from_none (r.cpu + 1) 0 r.pass r.tag cpus (omega (arith, ltb-false (r.cpu + 1) k.cpus last, all.long)) all.are in
          let stop : Stop = record { id = r.id; tag = r.tag; kind = r.pass; sum = sum } in
          let not_zero : sum ≢ 0 = λ e. false≢true (sym (ap (λ b. not b) (eq-eqb sum 0 e)) ∙ some) in
          rw (last, some) (All-cons (IsTrueStop cpus records) stop [] (λ e. not_zero (omega (arith, whole, past, e)), tag_within k left r records fits) (All-nil (IsTrueStop cpus records)))

  -- and the sums stay whole
  still_whole : wrap (sum + sum_by (from (r.cpu + 1) r.pass r.tag) cpus) ≡ total r.pass r.tag cpus → IsWhole cpus (sweep_after k records left r sum)
  still_whole whole = at_cpu (nat_lt (r.cpu + 1) k.cpus)
    where
      at_end : (b : Bool) → IsWhole cpus (if b then sweep.Reading left (record r { tag = r.tag + 1; cpu = 0; sum = 0 }) else passes_record r.pass left records r.id)
      at_end true = start_whole cpus (sweep.Reading left (record r { tag = r.tag + 1; cpu = 0; sum = 0 })) all.are (refl, refl)
      at_end false = start_whole cpus (passes_record r.pass left records r.id) all.are (goes_start (find (nat_lt r.id) left) r.pass left records)

      at_sum : (b : Bool) → IsWhole cpus (if b then passes_record r.pass (without_id r.id left) records r.id else (if nat_lt (r.tag + 1) (end_of r.id records) then sweep.Reading left (record r { tag = r.tag + 1; cpu = 0; sum = 0 }) else passes_record r.pass left records r.id))
      at_sum true = start_whole cpus (passes_record r.pass (without_id r.id left) records r.id) all.are (goes_start (find (nat_lt r.id) (without_id r.id left)) r.pass (without_id r.id left) records)
      at_sum false = at_end (nat_lt (r.tag + 1) (end_of r.id records))

      at_cpu : (b : Bool) → IsWhole cpus (if b then sweep.Reading left (record r { cpu = r.cpu + 1; sum = sum }) else (if not (sum == 0) then passes_record r.pass (without_id r.id left) records r.id
          else (if nat_lt (r.tag + 1) (end_of r.id records) then sweep.Reading left (record r { tag = r.tag + 1; cpu = 0; sum = 0 }) else passes_record r.pass left records r.id)))
      at_cpu true = whole
      at_cpu false = at_sum (not (sum == 0))

-- ---- one read

-- the word that is read and those still to read are those that were still to read
read_whole : (k : Shape) (cpus : List CpuShown) (all : AreAll k cpus) (r : Reader) (cpu : CpuPart) → r.cpu < k.cpus → ((d : CpuShown) → cpu ≡ (get_or cpus r.cpu d).part) → CpuShown → wrap (r.sum + sum_by (from r.cpu r.pass r.tag) cpus) ≡ total r.pass r.tag cpus
    → wrap (wrap (r.sum + slice_index cpu.words (word_place r.pass r.tag)) + sum_by (from (r.cpu + 1) r.pass r.tag) cpus) ≡ total r.pass r.tag cpus
read_whole k cpus all r cpu below own d whole =
    let next = from_next 0 r.cpu r.pass r.tag cpus d all.are (omega (arith, below, all.long)) in
    let next_here : sum_by (from r.cpu r.pass r.tag) cpus ≡ word_in r.pass r.tag (get_or cpus r.cpu d) + sum_by (from (r.cpu + 1) r.pass r.tag) cpus = subst (λ n. sum_by (from n r.pass r.tag) cpus ≡ word_in r.pass r.tag (get_or cpus r.cpu d) + sum_by (from (n + 1) r.pass r.tag) cpus) (omega arith) next in
    let word = ap (λ (c : CpuPart). slice_index c.words (word_place r.pass r.tag)) (own d) in
    omega (arith, whole, next_here, word)

pub scans_quietly : (k : Shape) (cpus : List CpuShown) (old new : ListPart) → AreAll k cpus → CpuShown → AreRecords k old.records → IsQuietly k cpus old → ScansOwn k cpus old new → IsQuietly k cpus new
scans_quietly k cpus old new all d recs was scan =
    let one = scan.one in
    let left = one.left in
    let r = one.reader in
    let sum = wrap (r.sum + slice_index one.cpu.words (word_place r.pass r.tag)) in
    let fits : sweep_fits k (sweep.Reading left r) old.records ≡ true = subst (λ s. sweep_fits k s old.records ≡ true) one.row.reading scan.fits in
    let fit = reading_fits k left r old.records fits in
    let whole = read_whole k cpus all r one.cpu fit.cpu scan.own d (subst (IsWhole cpus) one.row.reading was.whole) in
    let next : ListPart = record old { sweep = sweep_after k old.records left r sum; stops = old.stops ++ stop_after k r sum; reads = old.reads + 1 } in
    subst (IsQuietly k cpus) (sym one.row.after) (quietly next (record {
      whole = still_whole k cpus all old.records recs left r fits sum whole;
      stops = All-append (IsTrueStop cpus old.records) old.stops (stop_after k r sum) was.stops (true_stop k cpus all old.records recs left r fits sum whole (omega arith));
      law = λ kind t small some.
          let ok = subst (λ s. SweepOk k s old.records (made_up k kind t cpus)) one.row.reading (was.law kind t small some) in
          scan_ok k left r sum old.records (made_up k kind t cpus) (base_of k old.records kind t cpus recs.some_cpu recs.fit recs.apart small all.are some) (fits_up k kind t cpus recs.some_cpu all.below) ok (omega arith)
          (enough k cpus all old.records recs left r fits sum whole kind t small some ok);
    }))
  where
    quietly : (next : ListPart) → IsQuietly k cpus next → IsQuietly k cpus next
    quietly next q = q
