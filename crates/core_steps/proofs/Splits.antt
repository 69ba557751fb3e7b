-- A split: the keys of its parts are apart, and what is in hand goes into them in equal shares.
use Rattle.std.proofs.Common.{◌≡◌, ◌≢◌, ℕ, zero, suc, ◌+◌, ◌-◌, ◌*◌, ◌/◌, ◌%◌, ◌<◌, ◌≤◌, ◌==◌, ◌||◌, nat_lt, nat_le, List, refl, sym, ap, ◌∙◌, subst, arith, Option, Some, None, Bool, true, false, not, cond, find, if◌then◌else◌, inl, inr, ltb-true, lt-ltb, leb-true, le-leb, eqb-true}
use Rattle.std.proofs.Math.Nat.{mul-div_cancel_left, suc-mul}
use Rattle.std.proofs.lemmas.Bool.{and_parts, and_from, cases_eq}
use Rattle.std.proofs.lemmas.Bool.Decides.{nat_tests}
use Rattle.std.specs.List.{range_with_len}
use Rattle.tag_model.specs.declared.state.Tag.{Tag}
use Rattle.tag_model.specs.declared.state.Hand.{Hand}
use Rattle.tag_model.specs.declared.state.Held.{Held}
use Rattle.tag_model.specs.declared.state.Held.TheVariants as held
use Rattle.tag_model.specs.declared.state.Kind.{Kind}
use Rattle.tag_model.specs.declared.state.Kind.TheVariants.{Bytes, Calls}
use Rattle.tag_model.specs.declared.limits.TheConstants.{SIZE_END, MAX_HAND_CALLS}
use Rattle.tag_model.specs.Reference.{amount, same_tag, hand_counts_of, held_counts_of, held_fits, hand_fits, is_settled, is_counted}
use Rattle.tag_model.proofs.CpuFits.{hand_fits_from}
use Rattle.cpu_ops.specs.declared.op.CpuOp.TheVariants.{Split}
use Rattle.cpu_ops.specs.declared.refused.StepRefused.{StepRefused}
use Rattle.cpu_ops.specs.declared.op.TheConstants.{KEY_END}
use Rattle.cpu_ops.specs.declared.step.WordStep.TheVariants.{Write}
use Rattle.cpu_ops.specs.Machine.{Waiting, in_hand, bytes_in, size_of, is_used, is_live, is_reserved, holds_nothing, held_at, part_key, is_new_key, unless_used, names_key, share_step, split_refusal}
use Rattle.core_steps.specs.CoreState.{HoldsParts, settled_hand}
use Rattle.cpu_ops.specs.MayQueue.{IsSplit}
use Rattle.core_steps.proofs.Takes.{CanWrite}
use Rattle.core_steps.proofs.Hands.{taken, bytes_taken, passes}

-- ---- keys

pub new_key_means : (key parts first : ℕ) → is_new_key key parts first ≡ true → (first ≤ key) × (key + 1 < first + parts)
new_key_means key parts first h =
    let both = and_parts (nat_le first key) (nat_lt (key + 1) (first + parts)) h in (leb-true first key both.0, ltb-true (key + 1) (first + parts) both.1)

pub new_key_from : (key parts first : ℕ) → first ≤ key → key + 1 < first + parts → is_new_key key parts first ≡ true
new_key_from key parts first low high = and_from _ _ (le-leb first key low) (lt-ltb (key + 1) (first + parts) high)

pub part_later : (key first part : ℕ) → part ≢ 0 → part_key key first part ≡ first + (part - 1)
part_later key first part later = let t : (part == 0) ≡ false = grind (arith, nat_tests) in rw t refl

new_part : (key parts first part : ℕ) → part ≢ 0 → part < parts → is_new_key (part_key key first part) parts first ≡ true
new_part key parts first part later within = let e = part_later key first part later in new_key_from (part_key key first part) parts first (omega arith) (omega arith)

-- an op names the key of each part
pub names_part : (key parts first part : ℕ) → part < parts → names_key (part_key key first part) (Split key parts first) ≡ true
names_part key parts first part within = elim (cases_eq part 0) [
  | inl e ↦ rw e (let t : (key == key) ≡ true = grind (arith, nat_tests) in rw t refl)
  | inr later ↦ let new = new_part key parts first part later within in grind arith
]

pub parts_apart : (key parts first i j : ℕ) → is_new_key key parts first ≡ false → i < j → j < parts → part_key key first j ≢ part_key key first i
parts_apart key parts first i j apart less within same = elim (cases_eq i 0) [
  | inl e ↦
      let at_key : part_key key first j ≡ key = same ∙ ap (part_key key first) e in
      let new : is_new_key key parts first ≡ true = subst (λ (n : ℕ). is_new_key n parts first ≡ true) at_key (new_part key parts first j (omega arith) within) in cc
  | inr later ↦ let a = part_later key first i later in let b = part_later key first j (omega arith) in absurd (omega arith)
]

pub part_below : (key parts first part : ℕ) → IsSplit key parts first → part < parts → part_key key first part < KEY_END
part_below key parts first part is within = elim (cases_eq part 0) [
  | inl e ↦ rw e is.key_below
  | inr later ↦ let a = part_later key first part later in omega (arith, is.last_below)
]

-- ---- what isn't refused

not_found : (b : Bool) (a : ℕ) (rest : Option ℕ) → cond b (Some a) rest ≡ None → (b ≡ false) × (rest ≡ None)
not_found true a rest h = cc
not_found false a rest h = (refl, h)

find_none : (p : ℕ → Bool) (a n key : ℕ) → find p (range_with_len a n) ≡ None → a ≤ key → key < a + n → p key ≡ false
find_none p a zero key none low high = absurd (omega arith)
find_none p a (suc n) key none low high =
    let both = not_found (p a) a (find p (range_with_len (a + 1) n)) none in
    elim (cases_eq key a) [
      | inl e ↦ rw e both.0
      | inr ne ↦ find_none p (a + 1) n key both.1 (omega arith) (omega arith)
    ]

none_used : (o : Option ℕ) (rest : Option StepRefused) → unless_used o rest ≡ None → (o ≡ None) × (rest ≡ None)
none_used None rest h = (refl, h)
none_used (Some key) rest h = cc

pub record SplitPasses (places : List Held) (waiting : List Waiting) (key parts first : ℕ) : Type 0 where
  pub live : is_live places waiting key ≡ true
  pub unused : (new : ℕ) → first ≤ new → new + 1 < first + parts → is_used places waiting new ≡ false
  pub even : size_of (held_at places key) % parts ≡ 0

pub split_passes : (places : List Held) (waiting : List Waiting) (key parts first : ℕ) → split_refusal places waiting key parts first ≡ None → SplitPasses places waiting key parts first
split_passes places waiting key parts first none =
    let live = passes _ _ _ none in
    let used = none_used _ _ live.1 in
    let even = passes (size_of (held_at places key) % parts == 0) _ _ used.1 in
    record {
      live = live.0;
      unused = λ new low high. find_none (is_used places waiting) first (parts - 1) new used.0 low (omega arith);
      even = eqb-true (size_of (held_at places key) % parts) 0 even.0;
    }

nothing_held : (x : Held) → holds_nothing x ≡ true → x ≡ held.None
nothing_held held.None h = refl
nothing_held held.Empty h = cc
nothing_held (held.Counted tag size) h = cc

neither : (a b : Bool) → (not a || b) ≡ false → (a ≡ true) × (b ≡ false)
neither true b h = (refl, h)
neither false b h = cc

pub unused_key : (places : List Held) (waiting : List Waiting) (key : ℕ) → is_used places waiting key ≡ false → (held_at places key ≡ held.None) × (is_reserved key waiting ≡ false)
unused_key places waiting key h = let both = neither _ _ h in (nothing_held (held_at places key) both.0, both.1)

-- ---- shares

some_factor : (n q : ℕ) → 0 < n * q → 0 < q
some_factor n zero h = absurd (omega arith)
some_factor n (suc q) h = omega arith

-- the reference that is taken in hand is so many parts of a size
pub first_parts : (x : Held) (parts : ℕ) → held_fits x ≡ true → is_counted x ≡ true → 0 < parts → size_of x % parts ≡ 0 → HoldsParts (in_hand x) parts 1
first_parts x parts fits live some even =
    let r = taken x fits live in
    let size : size_of x ≡ r.size = sym (bytes_taken x) ∙ ap bytes_in r.held in
    let whole : r.size ≡ parts * (r.size / parts) = let e : r.size % parts ≡ 0 = subst (λ (n : ℕ). n % parts ≡ 0) size even in omega arith in
    let more = r.some in let less = r.fits in
    record { tag = r.tag; size = r.size / parts; some = some_factor parts (r.size / parts) (omega arith); fits = omega arith; held = r.held ∙ ap (λ (n : ℕ). settled_hand r.tag n 1) whole }

-- a hand of so many parts, after one is written
abbrev pub rest_hand : Tag → ℕ → ℕ → Option Hand
rest_hand tag size left = if left == 1 then None else settled_hand tag (left * size - size) (left - 1)

pub share_written : (key left : ℕ) (hand : Option Hand) (r : HoldsParts hand left left) → 0 < left → share_step key hand ≡ Write key (held.Counted r.tag r.size) (rest_hand r.tag r.size left)
share_written key left hand r some = rw r.held (let e : left * r.size / left ≡ r.size = mul-div_cancel_left r.size some in rw e refl)

one_of : (n m : ℕ) → 0 < n → m ≤ n * m
one_of zero m h = absurd (omega arith)
one_of (suc n) m h = omega (arith, suc-mul n m)

amount_parts : (kind : Kind) (b : Bool) (bytes calls share : ℕ) → share ≤ bytes → 0 < calls
    → cond b (amount kind bytes calls) 0 ≡ cond b (amount kind (bytes - share) (calls - 1)) 0 + cond b (amount kind share 1) 0
amount_parts Bytes true bytes calls share within some = omega arith
amount_parts Calls true bytes calls share within some = omega arith
amount_parts kind false bytes calls share within some = refl

amount_last : (kind : Kind) (b : Bool) (share : ℕ) → cond b (amount kind (1 * share) 1) 0 ≡ cond b (amount kind share 1) 0
amount_last Bytes true share = omega arith
amount_last Calls true share = refl
amount_last kind false share = refl

rest_counts : (kind : Kind) (named tag : Tag) (size left : ℕ) → 0 < left
    → hand_counts_of kind named (settled_hand tag (left * size) left) ≡ hand_counts_of kind named (rest_hand tag size left) + held_counts_of kind named (held.Counted tag size)
rest_counts kind named tag size left some = elim (cases_eq left 1) [
  | inl e ↦ rw e (let a = amount_last kind (same_tag tag named) size in omega arith)
  | inr ne ↦ let t : (left == 1) ≡ false = grind (arith, nat_tests) in rw t (amount_parts kind (same_tag tag named) (left * size) left size (one_of left size some) some)
]

rest_fits : (tag : Tag) (size left : ℕ) → 0 < left → left ≤ MAX_HAND_CALLS → left * size < SIZE_END → hand_fits (rest_hand tag size left) ≡ true
rest_fits tag size left some few fits = elim (cases_eq left 1) [
  | inl e ↦ rw e refl
  | inr ne ↦ let t : (left == 1) ≡ false = grind (arith, nat_tests) in
      rw t (hand_fits_from (record { tag = tag; bytes = left * size - size; calls = left - 1; opening = false }) (record { bytes = omega arith; some = omega arith; calls = omega arith; opening = refl }))
]

rest_settled : (tag : Tag) (size left : ℕ) → is_settled (rest_hand tag size left) ≡ true
rest_settled tag size left = elim (left == 1) as (λ (b : Bool). is_settled (if b then None else settled_hand tag (left * size - size) (left - 1)) ≡ true) [ true ↦ refl | false ↦ refl ]

pub can_share : (left : ℕ) (hand : Option Hand) (x : Held) (r : HoldsParts hand left left) → 0 < left → left ≤ MAX_HAND_CALLS → x ≡ held.None → CanWrite hand (rest_hand r.tag r.size left) x (held.Counted r.tag r.size)
can_share left hand x r some few empty = record {
  place_fits = let o = one_of left r.size some in let f = r.fits in and_from _ _ (lt-ltb 0 r.size r.some) (lt-ltb r.size SIZE_END (omega arith));
  hand_fits = rest_fits r.tag r.size left some few r.fits;
  stays = λ kind named. let c = rest_counts kind named r.tag r.size left some in rw empty (let e : hand_counts_of kind named hand ≡ hand_counts_of kind named (settled_hand r.tag (left * r.size) left) = ap (hand_counts_of kind named) r.held in omega arith);
  settled = rest_settled r.tag r.size left;
}

less_one : (n m : ℕ) → n * m - m ≡ (n - 1) * m
less_one zero m = omega arith
less_one (suc n) m = let e : suc n - 1 ≡ n = omega arith in rw e (omega (arith, suc-mul n m))

-- what is left is a part fewer
pub rest_holds : (left : ℕ) (hand : Option Hand) (r : HoldsParts hand left left) → left ≢ 1 → HoldsParts (rest_hand r.tag r.size left) (left - 1) (left - 1)
rest_holds left hand r ne =
    let t : (left == 1) ≡ false = grind (arith, nat_tests) in
    let e = less_one left r.size in let f = r.fits in
    record { tag = r.tag; size = r.size; some = r.some; fits = omega arith; held = rw (t, e) refl }

pub rest_none : (tag : Tag) (size left : ℕ) → left ≡ 1 → rest_hand tag size left ≡ None
rest_none tag size left e = rw e refl
