-- What a step of an op is and leaves: it is one of the step rules, its own CPU is ready for what comes next, and the places of other keys stay.
use Rattle.std.proofs.Common.{◌≡◌, ◌≢◌, ℕ, zero, suc, ◌+◌, ◌<◌, ◌≤◌, ◌==◌, List, [], ◌∷◌, length, set, refl, sym, ap, ◌∙◌, subst, arith, Option, None, Bool, true, false, cond, not, nat_lt, ◌||◌, inl, inr, eqb-true, ltb-true}
use Rattle.std.proofs.lemmas.Bool.{and_parts, or_cases}
use Rattle.std.proofs.lemmas.Bool.Decides.{nat_tests}
use Rattle.std.proofs.lemmas.List.{get_or-set_same, get_or-set_other}
use Rattle.std.specs.List.{AllByRecursion}
use Rattle.tag_model.specs.declared.shape.Shape.{Shape}
use Rattle.tag_model.specs.declared.state.Hand.{Hand}
use Rattle.tag_model.specs.declared.state.Held.{Held}
use Rattle.tag_model.specs.declared.state.Held.TheVariants as held
use Rattle.cpu_ops.specs.declared.op.CpuOp.{CpuOp}
use Rattle.cpu_ops.specs.declared.op.CpuOp.TheVariants.{Open, Close, Split, Swap, Trim, Enter, Leave}
use Rattle.cpu_ops.specs.declared.op.TheConstants.{KEY_END}
use Rattle.cpu_ops.specs.Machine.{Waiting, Scene, reserves, names_key, held_at, tag_in, is_outside, is_used, open_refusal, part_key, is_new_key, clear_step, with_call, step_of, hand_after, places_after, advanced, first_refusal, is_reserved, is_live, size_of, in_hand, put_down, bytes_in, with_bytes}
use Rattle.tag_model.specs.Reference.{is_counted}
use Rattle.core_steps.specs.CoreState.{IsReady, IsWaiting, IsOpening, HoldsOpening, runs_in, IsClosing, IsSplitting, IsSwapping, IsTrimming, IsUnderWay, HoldsParts}
use Rattle.cpu_ops.specs.MayQueue.{IsOp, IsOpen, IsKey, IsSplit, IsSwap, IsTrim}
use Rattle.cpu_ops.specs.declared.refused.StepRefused.{StepRefused}
use Rattle.tag_section.specs.Section.{Section, tags_in}
use Rattle.tag_model.specs.StepRules.{may_begin}
use Rattle.tag_model.specs.declared.state.Run.{Run}
use Rattle.core_steps.proofs.Takes.{IsRuled, CanWrite, PlacesFit}
use Rattle.core_steps.proofs.Splits.{names_part, parts_apart, part_below, part_later, new_key_means, split_passes, SplitPasses, unused_key, first_parts, rest_hand, share_written, can_share, rest_holds, rest_none}
use Rattle.std.proofs.lemmas.Bool.{cases_eq, cases_lt}
use Rattle.cpu_ops.specs.declared.step.WordStep.{WordStep}
use Rattle.cpu_ops.specs.declared.step.WordStep.TheVariants.{AddCall, Write}
use Rattle.std.proofs.Common.{◌-◌, ◌*◌, ◌%◌}
use Rattle.core_steps.proofs.Hands.{taken, can_clear, can_exchange, can_put, can_lower, lowered_all, lowered_some, can_end, bytes_taken, passes}

-- a number below 3, by cases
pub below_three : (P : ℕ → Type 0) (n : ℕ) → n < 3 → P 0 → P 1 → P 2 → P n
below_three P zero h a b c = a
below_three P (suc zero) h a b c = b
below_three P (suc (suc zero)) h a b c = c
below_three P (suc (suc (suc n))) h a b c = absurd (omega arith)

-- a key that an op under way names is reserved
pub reserved : (key done : ℕ) (op : CpuOp) (ops : List CpuOp) → 0 < done → names_key key op ≡ true → reserves key (record { ops = op ∷ ops; done = done }) ≡ true
reserved key done op ops some names = grind (arith, nat_tests)

same_key : (key : ℕ) → (key == key) ≡ true
same_key key = grind (arith, nat_tests)

or_second : (a b : Bool) → b ≡ true → (a || b) ≡ true
or_second true b h = refl
or_second false b h = h

or_first : (a b : Bool) → a ≡ true → (a || b) ≡ true
or_first a b h = rw h refl

-- what is ready stays ready where the places that it reserves stay
pub others_ready : (sections : List Section) (places next : List Held) (hand : Option Hand) (ops : List CpuOp) (done : ℕ) → IsReady sections places hand ops done
    → ((key : ℕ) → reserves key (record { ops = ops; done = done }) ≡ true → held_at next key ≡ held_at places key) → IsReady sections next hand ops done
others_ready sections places next hand [] done r keeps = r
others_ready sections places next hand (Open key section index size ∷ ops) done r keeps = (
  record {
    within = r.0.within;
    start = r.0.start;
    begun = r.0.begun;
    counted = r.0.counted;
    place = λ h. keeps key (reserved key done (Open key section index size) ops h (same_key key)) ∙ r.0.place h;
  },
  r.1,
  r.2,
)
others_ready sections places next hand (Close key ∷ ops) done r keeps = r
others_ready sections places next hand (Split key parts first ∷ ops) done r keeps = (
  record {
    within = r.0.within;
    start = r.0.start;
    counting = r.0.counting;
    writing = r.0.writing;
    empty = λ part some later within. keeps (part_key key first part) (reserved (part_key key first part) done (Split key parts first) ops some (names_part key parts first part within)) ∙ r.0.empty part some later within;
  },
  r.1,
  r.2,
)
others_ready sections places next hand (Swap one two ∷ ops) done r keeps = (
  record {
    within = r.0.within;
    start = r.0.start;
    in_hand = r.0.in_hand;
    first = λ h. keeps one (reserved one done (Swap one two) ops h (or_first (one == one) (two == one) (same_key one))) ∙ r.0.first h;
    second = λ e. let h : 0 < done = omega arith in
        subst (λ (x : Held). is_counted x ≡ true) (sym (keeps two (reserved two done (Swap one two) ops h (or_second (one == two) (two == two) (same_key two))))) (r.0.second e);
  },
  r.1,
  r.2,
)
others_ready sections places next hand (Trim key bytes ∷ ops) done r keeps = (
  record {
    within = r.0.within;
    start = r.0.start;
    in_hand = r.0.in_hand;
    more = r.0.more;
    place = λ h. keeps key (reserved key done (Trim key bytes) ops h (same_key key)) ∙ r.0.place h;
  },
  r.1,
  r.2,
)
others_ready sections places next hand (Enter section ∷ ops) done r keeps = r
others_ready sections places next hand (Leave section ∷ ops) done r keeps = r

waiting_first : IsWaiting None 0
waiting_first = record { within = omega arith; start = λ _. refl }

-- before its first step
pub ready_first : (sections : List Section) (places : List Held) (ops : List CpuOp) → AllByRecursion (IsOp sections) ops → IsReady sections places None ops 0
ready_first sections places [] all = (refl, refl)
ready_first sections places (Open key section index size ∷ ops) all =
    (record { within = omega arith; start = λ _. refl; begun = λ e. absurd (omega arith); counted = λ e. absurd (omega arith); place = λ h. absurd (omega arith) }, all.0, all.1)
ready_first sections places (Close key ∷ ops) all =
    (record { within = omega arith; start = λ _. refl; cleared = λ e. absurd (omega arith); lowered = λ e. absurd (omega arith) }, all.0, all.1)
ready_first sections places (Split key parts first ∷ ops) all =
    (record { within = let two = all.0.two_parts in omega arith; start = λ _. refl; counting = λ some. absurd (omega arith); writing = λ past. let two = all.0.two_parts in absurd (omega arith); empty = λ part some. absurd (omega arith) }, all.0, all.1)
ready_first sections places (Swap one two ∷ ops) all =
    (record { within = omega arith; start = λ _. refl; in_hand = λ h. absurd (omega arith); first = λ h. absurd (omega arith); second = λ e. absurd (omega arith) }, all.0, all.1)
ready_first sections places (Trim key bytes ∷ ops) all =
    (record { within = omega arith; start = λ _. refl; in_hand = λ h. absurd (omega arith); more = λ e. absurd (omega arith); place = λ h. absurd (omega arith) }, all.0, all.1)
ready_first sections places (Enter section ∷ ops) all = (waiting_first, all.0, all.1)
ready_first sections places (Leave section ∷ ops) all = (waiting_first, all.0, all.1)

-- ---- the keys of an op whose first step isn't refused are free

live_free : (places : List Held) (waiting : List Waiting) (named key : ℕ) → is_live places waiting named ≡ true → (named == key) ≡ true → is_reserved key waiting ≡ false
live_free places waiting named key live names =
    let same = eqb-true named key names in
    let free = (and_parts (is_counted (held_at places named)) (not (is_reserved named waiting)) live).1 in
    subst (λ (k : ℕ). is_reserved k waiting ≡ false) same (grind (arith, nat_tests))

pub live_counted : (places : List Held) (waiting : List Waiting) (key : ℕ) → is_live places waiting key ≡ true → is_counted (held_at places key) ≡ true
live_counted places waiting key live = (and_parts (is_counted (held_at places key)) (not (is_reserved key waiting)) live).0

-- an allocation that isn't refused has an unused key, and a tag that it may use
test_passes : (b : Bool) (x y : Option StepRefused) → cond b x y ≡ None → x ≢ None → (b ≡ false) × (y ≡ None)
test_passes true x y none some = absurd (some none)
test_passes false x y none some = (refl, none)

unused_first : (places : List Held) (waiting : List Waiting) (inside : List (Option Run)) (key section : ℕ) → open_refusal places waiting inside key section ≡ None → is_used places waiting key ≡ false
unused_first places waiting inside key section none = (test_passes (is_used places waiting key) _ _ none (λ e. cc)).0

pub running_first : (places : List Held) (waiting : List Waiting) (inside : List (Option Run)) (key section : ℕ) → open_refusal places waiting inside key section ≡ None → is_outside section inside ≡ false
running_first places waiting inside key section none = (test_passes (is_outside section inside) _ _ (test_passes (is_used places waiting key) _ _ none (λ e. cc)).1 (λ e. cc)).0

pub free_key : (places : List Held) (waiting : List Waiting) (scene : Scene) (op : CpuOp) (key : ℕ) → first_refusal places waiting scene op ≡ None → names_key key op ≡ true → is_reserved key waiting ≡ false
free_key places waiting scene (Open named section index size) key none names =
    let same : named ≡ key = grind (arith, nat_tests) in
    subst (λ (k : ℕ). is_reserved k waiting ≡ false) same (unused_key places waiting named (unused_first places waiting scene.inside named section none)).1
free_key places waiting scene (Close named) key none names = live_free places waiting named key (passes _ _ _ none).0 names
free_key places waiting scene (Split named parts first) key none names =
    let p = split_passes places waiting named parts first none in
    elim (or_cases (named == key) (is_new_key key parts first) names) [
      | inl e ↦ live_free places waiting named key p.live e
      | inr e ↦ let range = new_key_means key parts first e in (unused_key places waiting key (p.unused key range.0 range.1)).1
    ]
free_key places waiting scene (Swap one two) key none names = elim (or_cases (one == key) (two == key) names) [
  | inl e ↦ live_free places waiting one key (passes _ _ _ none).0 e
  | inr e ↦ live_free places waiting two key (passes _ _ _ (passes _ _ _ none).1).0 e
]
free_key places waiting scene (Trim named bytes) key none names = live_free places waiting named key (passes _ _ _ none).0 names
free_key places waiting scene (Enter section) key none names = cc
free_key places waiting scene (Leave section) key none names = cc

free_place : (places : List Held) (waiting : List Waiting) (inside : List (Option Run)) (key section : ℕ) → open_refusal places waiting inside key section ≡ None → held_at places key ≡ held.None
free_place places waiting inside key section none = (unused_key places waiting key (unused_first places waiting inside key section none)).0

-- ---- a step of an op

-- a step on words and places is one of the step rules; what goes in or out of a module has no hand
abbrev pub Ruled : CpuOp → Option Hand → Type 0 → Type 0
Ruled (Open key section index size) hand T = T
Ruled (Close key) hand T = T
Ruled (Split key parts first) hand T = T
Ruled (Swap one two) hand T = T
Ruled (Trim key bytes) hand T = T
Ruled (Enter section) hand T = hand ≡ None
Ruled (Leave section) hand T = hand ≡ None

pub record Next (k : Shape) (sections : List Section) (inside : List (Option Run)) (places : List Held) (hand : Option Hand) (op : CpuOp) (ops : List CpuOp) (done : ℕ) : Type 0 where
  pub ruled : Ruled op hand (IsRuled k (runs_in inside) (step_of op done hand places inside) hand places)
  pub ready : let w = advanced (op ∷ ops) done in IsReady sections (places_after (step_of op done hand places inside) places) (hand_after (step_of op done hand places inside) hand) w.ops w.done
  pub kept : (key : ℕ) → names_key key op ≡ false → held_at (places_after (step_of op done hand places inside) places) key ≡ held_at places key

-- what an allocation under a tag needs of the CPU's runs
pub record MayBegin (k : Shape) (inside : List (Option Run)) (section index : ℕ) : Type 0 where
  pub allowed : may_begin k (tag_in inside section index) (runs_in inside) ≡ true
  pub below : (tag_in inside section index).number < k.tags

other_key : (named key : ℕ) → (named == key) ≡ false → key ≢ named
other_key named key other = λ e. grind (arith, nat_tests)

-- the place of another key stays
kept_at : (places : List Held) (named key : ℕ) (x : Held) → (named == key) ≡ false → held_at (set places named x) key ≡ held_at places key
kept_at places named key x other = get_or-set_other places named key x held.None (other_key named key other)

neither : (a b : Bool) → (a || b) ≡ false → (a ≡ false) × (b ≡ false)
neither true b h = cc
neither false b h = (refl, h)

module _ (k : Shape) (sections : List Section) (inside : List (Option Run)) (places : List Held) (fit : PlacesFit places) (len : length places ≡ KEY_END)
    (hand : Option Hand) (ops : List CpuOp) (queued : AllByRecursion (IsOp sections) ops) where
  next_open : (key section index size done : ℕ) → IsOpen sections key section index size → IsOpening places hand key size done → (done ≡ 0 → (held_at places key ≡ held.None) × MayBegin k inside section index)
      → Next k sections inside places hand (Open key section index size) ops done
  next_open key section index size done is under = below_three
      (λ (d : ℕ). IsOpening places hand key size d → (d ≡ 0 → (held_at places key ≡ held.None) × MayBegin k inside section index) → Next k sections inside places hand (Open key section index size) ops d)
      done under.within
      (λ o first. record {
        ruled = record { free = o.start refl; allowed = (first refl).1.allowed; below = (first refl).1.below };
        ready = (
          record { within = omega arith; start = λ e. absurd (omega arith); begun = λ _. record { tag = tag_in inside section index; held = refl }; counted = λ e. absurd (omega arith); place = λ _. (first refl).0 },
          is,
          queued,
        );
        kept = λ key other. refl;
      })
      (λ o first. let b = o.begun refl in record {
        ruled = record { h = record { tag = b.tag; bytes = 0; calls = 1; opening = true }; held = b.held; holds = record { opening = refl; none_yet = refl; some = is.some_bytes; fits = is.size_below } };
        ready = (
          record { within = omega arith; start = λ e. absurd (omega arith); begun = λ e. absurd (omega arith); counted = λ _. record { tag = b.tag; held = ap (with_bytes size) b.held }; place = λ _. o.place (omega arith) },
          is,
          queued,
        );
        kept = λ key other. refl;
      })
      (λ o first. record {
        ruled = (omega (arith, is.key_below), written o (o.counted refl));
        ready = ready_first sections (set places key (put_down hand)) ops queued;
        kept = λ other ne. kept_at places key other (put_down hand) ne;
      })
      under
    where
      written : IsOpening places hand key size 2 → HoldsOpening hand size → CanWrite hand None (held_at places key) (put_down hand)
      written o c = let a = is.some_bytes in let b = is.size_below in rw c.held (record {
        place_fits = grind (arith, nat_tests);
        hand_fits = refl;
        stays = λ kind named. rw (o.place (omega arith)) (omega arith);
        settled = refl;
      })

  next_close : (key done : ℕ) → IsKey key → IsClosing hand done → (done ≡ 0 → is_counted (held_at places key) ≡ true) → Next k sections inside places hand (Close key) ops done
  next_close key done is under = below_three
      (λ (d : ℕ). IsClosing hand d → (d ≡ 0 → is_counted (held_at places key) ≡ true) → Next k sections inside places hand (Close key) ops d)
      done under.within
      (λ o live. record {
        ruled = (omega (arith, is.key_below), can_clear hand (held_at places key) (o.start refl) (fit key));
        ready = (record { within = omega arith; start = λ e. absurd (omega arith); cleared = λ _. taken (held_at places key) (fit key) (live refl); lowered = λ e. absurd (omega arith) }, is, queued);
        kept = λ other ne. kept_at places key other held.None ne;
      })
      (λ o live. record {
        ruled = can_lower (bytes_in hand) hand (o.cleared refl) (omega arith);
        ready = (record { within = omega arith; start = λ e. absurd (omega arith); cleared = λ e. absurd (omega arith); lowered = λ _. lowered_all hand (o.cleared refl) }, is, queued);
        kept = λ other ne. refl;
      })
      (λ o live. record {
        ruled = can_end hand (o.lowered refl);
        ready = rw (o.lowered refl).held (ready_first sections places ops queued);
        kept = λ other ne. refl;
      })
      under

  -- a step that is known, and what the CPU then waits for
  by_step : (op : CpuOp) (done : ℕ) (step : WordStep) (w : Waiting) → step_of op done hand places inside ≡ step → advanced (op ∷ ops) done ≡ w
      → Ruled op hand (IsRuled k (runs_in inside) step hand places) → IsReady sections (places_after step places) (hand_after step hand) w.ops w.done
      → ((key : ℕ) → names_key key op ≡ false → held_at (places_after step places) key ≡ held_at places key) → Next k sections inside places hand op ops done
  by_step op done step w is then ruled ready kept = record {
    ruled = subst (λ (s : WordStep). Ruled op hand (IsRuled k (runs_in inside) s hand places)) (sym is) ruled;
    ready = subst (λ (v : Waiting). IsReady sections (places_after (step_of op done hand places inside) places) (hand_after (step_of op done hand places inside) hand) v.ops v.done) (sym then)
        (subst (λ (s : WordStep). IsReady sections (places_after s places) (hand_after s hand) w.ops w.done) (sym is) ready);
    kept = λ key other. subst (λ (s : WordStep). held_at (places_after s places) key ≡ held_at places key) (sym is) (kept key other);
  }

  module _ (key parts first done : ℕ) (is : IsSplit key parts first) (o : IsSplitting places hand key parts first done) where
    op : CpuOp
    op = Split key parts first

    goes_on : done + 1 < 2 * parts → advanced (Split key parts first ∷ ops) done ≡ record { ops = Split key parts first ∷ ops; done = done + 1 }
    goes_on more = let t : (done + 1 == 2 * parts) ≡ false = grind (arith, nat_tests) in rw t refl

    ends : done + 1 ≡ 2 * parts → advanced (Split key parts first ∷ ops) done ≡ record { ops = ops; done = 0 }
    ends last = let t : (done + 1 == 2 * parts) ≡ true = grind (arith, nat_tests) in rw t refl

    -- the key is cleared
    split_clears : done ≡ 0 → is_counted (held_at places key) ≡ true → size_of (held_at places key) % parts ≡ 0 → ((part : ℕ) → part ≢ 0 → part < parts → held_at places (part_key key first part) ≡ held.None)
        → Next k sections inside places hand (Split key parts first) ops done
    split_clears e live even free =
        let two = is.two_parts in
        by_step (Split key parts first) done (clear_step key places) (record { ops = Split key parts first ∷ ops; done = done + 1 })
        (let t : (done == 0) ≡ true = grind (arith, nat_tests) in rw t refl) (goes_on (omega arith))
        (omega (arith, is.key_below), can_clear hand (held_at places key) (o.start e) (fit key)) (
          record {
            within = omega arith;
            start = λ z. absurd (omega arith);
            counting = λ some few. let one : 1 ≡ done + 1 = omega arith in subst (λ (n : ℕ). HoldsParts (in_hand (held_at places key)) parts n) one (first_parts (held_at places key) parts (fit key) live (omega arith) even);
            writing = λ past. absurd (omega arith);
            empty = λ part some later within. elim (cases_eq part 0) [
              | inl z ↦ rw z (get_or-set_same places key held.None held.None (omega (arith, is.key_below)))
              | inr ne ↦ get_or-set_other places key (part_key key first part) held.None held.None (parts_apart key parts first 0 part is.apart (omega arith) within) ∙ free part ne within
            ];
          },
          is,
          queued,
        )
        (λ other ne. kept_at places key other held.None (neither (key == other) (is_new_key other parts first) ne).0)

    -- a call is added
    split_adds : 0 < done → done < parts → Next k sections inside places hand (Split key parts first) ops done
    split_adds some more =
        let r = o.counting some (omega arith) in
        let few = is.few_parts in
        by_step (Split key parts first) done AddCall (record { ops = Split key parts first ∷ ops; done = done + 1 })
        (let t : (done == 0) ≡ false = grind (arith, nat_tests) in let l : nat_lt done parts ≡ true = grind (arith, nat_tests) in rw (t, l) refl) (goes_on (omega arith))
        (record {
          h = record { tag = r.tag; bytes = parts * r.size; calls = done; opening = false };
          held = r.held;
          holds = record { settled = refl; counted = some_product parts r.size (omega arith) r.some; room = omega arith };
        }) (
          record {
            within = omega arith;
            start = λ z. absurd (omega arith);
            counting = λ _ _. added r;
            writing = λ past. let left : 2 * parts - (done + 1) ≡ parts = omega arith in let all : done + 1 ≡ parts = omega arith in
                rw left (subst (λ (n : ℕ). HoldsParts (with_call hand) parts n) all (added r));
            empty = λ part _ later within. o.empty part some (omega arith) within;
          },
          is,
          queued,
        )
        (λ other ne. refl)
      where
        some_product : (n m : ℕ) → 0 < n → 0 < m → 0 < n * m
        some_product n m a b = grind arith

        added : HoldsParts hand parts done → HoldsParts (with_call hand) parts (done + 1)
        added r = record { tag = r.tag; size = r.size; some = r.some; fits = r.fits; held = ap with_call r.held }

    -- a part is written
    split_writes : parts ≤ done → Next k sections inside places hand (Split key parts first) ops done
    split_writes past =
        let two = is.two_parts in let few = is.few_parts in let within = o.within in
        let left = 2 * parts - done in
        let part = done - parts in
        let r = o.writing past in
        let small : part < parts = omega arith in
        let here = o.empty part (omega arith) (omega arith) small in
        let there : part_key key first part < length places = let b = part_below key parts first part is small in omega arith in
        let write = Write (part_key key first part) (held.Counted r.tag r.size) (rest_hand r.tag r.size left) in
        let step : step_of (Split key parts first) done hand places inside ≡ write =
        let t : (done == 0) ≡ false = grind (arith, nat_tests) in let l : nat_lt done parts ≡ false = grind (arith, nat_tests) in rw (t, l) (share_written (part_key key first part) left hand r (omega arith)) in
        let ruled : IsRuled k (runs_in inside) write hand places = (there, can_share left hand (held_at places (part_key key first part)) r (omega arith) (omega arith) here) in
        let kept : (other : ℕ) → names_key other (Split key parts first) ≡ false → held_at (set places (part_key key first part) (held.Counted r.tag r.size)) other ≡ held_at places other =
        λ other ne. get_or-set_other places (part_key key first part) other (held.Counted r.tag r.size) held.None
        (λ same. let named = subst (λ (n : ℕ). names_key n (Split key parts first) ≡ true) (sym same) (names_part key parts first part small) in cc) in
        elim (cases_eq left 1) [
          | inl e ↦ by_step (Split key parts first) done write (record { ops = ops; done = 0 }) step (ends (omega arith)) ruled
              (rw (rest_none r.tag r.size left e) (ready_first sections (set places (part_key key first part) (held.Counted r.tag r.size)) ops queued)) kept
          | inr ne ↦ by_step (Split key parts first) done write (record { ops = Split key parts first ∷ ops; done = done + 1 }) step (goes_on (omega arith)) ruled (
            record {
              within = omega arith;
              start = λ z. absurd (omega arith);
              counting = λ _ fewer. absurd (omega arith);
              writing = λ _. let rest : left - 1 ≡ 2 * parts - (done + 1) = omega arith in subst (λ (n : ℕ). HoldsParts (rest_hand r.tag r.size left) n n) rest (rest_holds left hand r ne);
              empty = λ next _ later below. get_or-set_other places (part_key key first part) (part_key key first next) (held.Counted r.tag r.size) held.None
                  (parts_apart key parts first part next is.apart (omega arith) below) ∙ o.empty next (omega arith) (omega arith) below;
            },
            is,
            queued,
          ) kept
        ]

  next_split : (waiting : List Waiting) (key parts first done : ℕ) → IsSplit key parts first → IsSplitting places hand key parts first done → (done ≡ 0 → SplitPasses places waiting key parts first)
      → Next k sections inside places hand (Split key parts first) ops done
  next_split waiting key parts first done is o passes = elim (cases_eq done 0) [
    | inl e ↦ let p = passes e in split_clears key parts first done is o e (live_counted places waiting key p.live) p.even
        (λ part ne within. let at = part_later key first part ne in rw at (unused_key places waiting (first + (part - 1)) (p.unused (first + (part - 1)) (omega arith) (omega arith))).0)
    | inr ne ↦ elim (cases_lt done parts) [
      | inl more ↦ split_adds key parts first done is o (omega arith) more
      | inr past ↦ split_writes key parts first done is o past
    ]
  ]

  next_swap : (one two done : ℕ) → IsSwap one two → IsSwapping places hand one two done → (done ≡ 0 → (is_counted (held_at places one) ≡ true) × (is_counted (held_at places two) ≡ true))
      → Next k sections inside places hand (Swap one two) ops done
  next_swap one two done is under = below_three
      (λ (d : ℕ). IsSwapping places hand one two d → (d ≡ 0 → (is_counted (held_at places one) ≡ true) × (is_counted (held_at places two) ≡ true)) → Next k sections inside places hand (Swap one two) ops d)
      done under.within
      (λ o live. record {
        ruled = (omega (arith, is.first.key_below), can_clear hand (held_at places one) (o.start refl) (fit one));
        ready = (
          record {
            within = omega arith;
            start = λ e. absurd (omega arith);
            in_hand = λ _. taken (held_at places one) (fit one) (live refl).0;
            first = λ _. get_or-set_same places one held.None held.None (omega (arith, is.first.key_below));
            second = λ _. rw (get_or-set_other places one two held.None held.None (λ e. is.apart (sym e))) (live refl).1;
          },
          is,
          queued,
        );
        kept = λ other ne. kept_at places one other held.None (neither (one == other) (two == other) ne).0;
      })
      (λ o live. record {
        ruled = (omega (arith, is.second.key_below), can_exchange hand (held_at places two) (o.in_hand (omega arith)) (fit two));
        ready = (
          record {
            within = omega arith;
            start = λ e. absurd (omega arith);
            in_hand = λ _. taken (held_at places two) (fit two) (o.second refl);
            first = λ _. get_or-set_other places two one (put_down hand) held.None is.apart ∙ o.first (omega arith);
            second = λ e. absurd (omega arith);
          },
          is,
          queued,
        );
        kept = λ other ne. kept_at places two other (put_down hand) (neither (one == other) (two == other) ne).1;
      })
      (λ o live. record {
        ruled = (omega (arith, is.first.key_below), can_put hand (held_at places one) (o.in_hand (omega arith)) (o.first (omega arith)));
        ready = ready_first sections (set places one (put_down hand)) ops queued;
        kept = λ other ne. kept_at places one other (put_down hand) (neither (one == other) (two == other) ne).0;
      })
      under

  next_trim : (key bytes done : ℕ) → IsTrim key bytes → IsTrimming places hand key bytes done → (done ≡ 0 → (is_counted (held_at places key) ≡ true) × (bytes < size_of (held_at places key)))
      → Next k sections inside places hand (Trim key bytes) ops done
  next_trim key bytes done is under = below_three
      (λ (d : ℕ). IsTrimming places hand key bytes d → (d ≡ 0 → (is_counted (held_at places key) ≡ true) × (bytes < size_of (held_at places key))) → Next k sections inside places hand (Trim key bytes) ops d)
      done under.within
      (λ o live. record {
        ruled = (omega (arith, is.key_below), can_clear hand (held_at places key) (o.start refl) (fit key));
        ready = (
          record {
            within = omega arith;
            start = λ e. absurd (omega arith);
            in_hand = λ _. taken (held_at places key) (fit key) (live refl).0;
            more = λ _. let b = bytes_taken (held_at places key) in let l = (live refl).1 in omega arith;
            place = λ _. get_or-set_same places key held.None held.None (omega (arith, is.key_below));
          },
          is,
          queued,
        );
        kept = λ other ne. kept_at places key other held.None ne;
      })
      (λ o live. record {
        ruled = let l = o.more refl in can_lower bytes hand (o.in_hand (omega arith)) (omega arith);
        ready = (
          record {
            within = omega arith;
            start = λ e. absurd (omega arith);
            in_hand = λ _. lowered_some bytes hand (o.in_hand (omega arith)) (o.more refl);
            more = λ e. absurd (omega arith);
            place = λ _. o.place (omega arith);
          },
          is,
          queued,
        );
        kept = λ other ne. refl;
      })
      (λ o live. record {
        ruled = (omega (arith, is.key_below), can_put hand (held_at places key) (o.in_hand (omega arith)) (o.place (omega arith)));
        ready = ready_first sections (set places key (put_down hand)) ops queued;
        kept = λ other ne. kept_at places key other (put_down hand) ne;
      })
      under

  -- an op of one step, which goes into a module or out of it
  next_enter : (section done : ℕ) → IsWaiting hand done → Next k sections inside places hand (Enter section) ops done
  next_enter section done w =
      let e : 0 ≡ done = omega (arith, w.within) in
      subst (λ (d : ℕ). Next k sections inside places hand (Enter section) ops d) e
      (record { ruled = w.start (sym e); ready = rw (w.start (sym e)) (ready_first sections places ops queued); kept = λ key other. refl })

  next_leave : (section done : ℕ) → IsWaiting hand done → Next k sections inside places hand (Leave section) ops done
  next_leave section done w =
      let e : 0 ≡ done = omega (arith, w.within) in
      subst (λ (d : ℕ). Next k sections inside places hand (Leave section) ops d) e
      (record { ruled = w.start (sym e); ready = rw (w.start (sym e)) (ready_first sections places ops queued); kept = λ key other. refl })

  -- the next step of a CPU that is ready and isn't refused
  pub next : (waiting : List Waiting) (scene : Scene) (op : CpuOp) (done : ℕ) → scene.inside ≡ inside → IsUnderWay places hand op done → IsOp sections op → (done ≡ 0 → first_refusal places waiting scene op ≡ None)
      → ((section index : ℕ) → section < length sections → index < tags_in sections section → is_outside section inside ≡ false → MayBegin k inside section index)
      → Next k sections inside places hand op ops done
  next waiting scene (Open key section index size) done same under is free begin = next_open key section index size done is under
      (λ e. (free_place places waiting scene.inside key section (free e), begin section index is.has_section is.in_section (rw (← same) (running_first places waiting scene.inside key section (free e)))))
  next waiting scene (Close key) done same under is free begin = next_close key done is under (λ e. live_counted places waiting key (passes _ _ _ (free e)).0)
  next waiting scene (Split key parts first) done same under is free begin = next_split waiting key parts first done is under (λ e. split_passes places waiting key parts first (free e))
  next waiting scene (Swap one two) done same under is free begin = next_swap one two done is under
      (λ e. let first = passes _ _ _ (free e) in (live_counted places waiting one first.0, live_counted places waiting two (passes _ _ _ first.1).0))
  next waiting scene (Trim key bytes) done same under is free begin = next_trim key bytes done is under
      (λ e. let first = passes _ _ _ (free e) in (live_counted places waiting key first.0, ltb-true bytes (size_of (held_at places key)) (passes _ _ _ first.1).0))
  next waiting scene (Enter section) done same under is free begin = next_enter section done under
  next waiting scene (Leave section) done same under is free begin = next_leave section done under
