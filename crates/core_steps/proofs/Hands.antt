-- What a hand takes from a place, and what it is put down as.
use Rattle.std.proofs.Common.{◌≡◌, ℕ, ◌-◌, ◌<◌, ◌≤◌, refl, ap, arith, Option, Some, None, Bool, true, false, not, if◌then◌else◌, nat_lt, ltb-true, lt-ltb}
use Rattle.std.proofs.lemmas.Bool.{and_parts, and_from}
use Rattle.tag_model.specs.declared.state.Tag.{Tag}
use Rattle.tag_model.specs.declared.state.Hand.{Hand}
use Rattle.tag_model.specs.declared.state.Held.{Held}
use Rattle.tag_model.specs.declared.state.Held.TheVariants as held
use Rattle.tag_model.specs.declared.state.Kind.{Kind}
use Rattle.tag_model.specs.declared.limits.TheConstants.{SIZE_END}
use Rattle.tag_model.specs.Reference.{hand_counts_of, held_counts_of, held_fits, hand_fits, is_settled, is_counted}
use Rattle.cpu_ops.specs.declared.refused.StepRefused.{StepRefused}
use Rattle.cpu_ops.specs.Machine.{in_hand, put_down, bytes_in, size_of, less_bytes}
use Rattle.core_steps.specs.CoreState.{HoldsReference, HoldsCall, settled_hand}
use Rattle.core_steps.proofs.Takes.{CanWrite, InHand, CanSubtractBytes, CanSubtractCall}

in_hand_fits : (x : Held) → held_fits x ≡ true → hand_fits (in_hand x) ≡ true
in_hand_fits held.None h = refl
in_hand_fits held.Empty h = refl
in_hand_fits (held.Counted tag size) h = let e : nat_lt size SIZE_END ≡ true = (and_parts (nat_lt 0 size) (nat_lt size SIZE_END) h).1 in rw e refl

in_hand_settled : (x : Held) → is_settled (in_hand x) ≡ true
in_hand_settled held.None = refl
in_hand_settled held.Empty = refl
in_hand_settled (held.Counted tag size) = refl

in_hand_counts : (kind : Kind) (tag : Tag) (x : Held) → hand_counts_of kind tag (in_hand x) ≡ held_counts_of kind tag x
in_hand_counts kind tag held.None = refl
in_hand_counts kind tag held.Empty = refl
in_hand_counts kind tag (held.Counted named size) = refl

pub bytes_taken : (x : Held) → bytes_in (in_hand x) ≡ size_of x
bytes_taken held.None = refl
bytes_taken held.Empty = refl
bytes_taken (held.Counted tag size) = refl

-- a reference that is taken in hand
pub taken : (x : Held) → held_fits x ≡ true → is_counted x ≡ true → HoldsReference (in_hand x)
taken held.None f c = cc
taken held.Empty f c = cc
taken (held.Counted tag size) f c =
    let both = and_parts _ _ f in
    record { tag = tag; size = size; some = ltb-true 0 size both.0; fits = ltb-true size SIZE_END both.1; held = refl }

put_fits : (hand : Option Hand) → HoldsReference hand → held_fits (put_down hand) ≡ true
put_fits hand r = rw r.held (and_from _ _ (lt-ltb 0 r.size r.some) (lt-ltb r.size SIZE_END r.fits))

put_counts : (kind : Kind) (tag : Tag) (hand : Option Hand) → HoldsReference hand → hand_counts_of kind tag hand ≡ held_counts_of kind tag (put_down hand)
put_counts kind tag hand r = rw r.held refl

-- ---- what may be written

pub can_clear : (hand : Option Hand) (x : Held) → hand ≡ None → held_fits x ≡ true → CanWrite hand (in_hand x) x held.None
can_clear hand x free fits = record { place_fits = refl; hand_fits = in_hand_fits x fits; stays = λ kind tag. rw free (omega (arith, in_hand_counts kind tag x)); settled = in_hand_settled x }

pub can_exchange : (hand : Option Hand) (x : Held) → HoldsReference hand → held_fits x ≡ true → CanWrite hand (in_hand x) x (put_down hand)
can_exchange hand x r fits = record { place_fits = put_fits hand r; hand_fits = in_hand_fits x fits; stays = λ kind tag. omega (arith, in_hand_counts kind tag x, put_counts kind tag hand r); settled = in_hand_settled x }

pub can_put : (hand : Option Hand) (x : Held) → HoldsReference hand → x ≡ held.None → CanWrite hand None x (put_down hand)
can_put hand x r empty = record { place_fits = put_fits hand r; hand_fits = refl; stays = λ kind tag. rw empty (omega (arith, put_counts kind tag hand r)); settled = refl }

-- ---- what may be subtracted

pub can_lower : (bytes : ℕ) (hand : Option Hand) → HoldsReference hand → bytes ≤ bytes_in hand → InHand hand (CanSubtractBytes bytes)
can_lower bytes hand r within = let e : bytes_in hand ≡ r.size = ap bytes_in r.held in record { h = record { tag = r.tag; bytes = r.size; calls = 1; opening = false }; held = r.held; holds = record { settled = refl; within = omega arith } }

pub lowered_all : (hand : Option Hand) → HoldsReference hand → HoldsCall (less_bytes (bytes_in hand) hand)
lowered_all hand r = let e : r.size - r.size ≡ 0 = omega arith in record { tag = r.tag; held = rw r.held (ap (λ (n : ℕ). settled_hand r.tag n 1) e) }

pub lowered_some : (bytes : ℕ) (hand : Option Hand) → HoldsReference hand → bytes < bytes_in hand → HoldsReference (less_bytes bytes hand)
lowered_some bytes hand r more =
    let e : bytes_in hand ≡ r.size = ap bytes_in r.held in
    record { tag = r.tag; size = r.size - bytes; some = omega arith; fits = let f = r.fits in omega arith; held = rw r.held refl }

pub can_end : (hand : Option Hand) → HoldsCall hand → InHand hand CanSubtractCall
can_end hand r = record { h = record { tag = r.tag; bytes = 0; calls = 1; opening = false }; held = r.held; holds = record { settled = refl; some = omega arith; bytes_first = λ _. refl } }

-- ---- refusals that don't come

pub passes : (b : Bool) (refused : StepRefused) (rest : Option StepRefused) → (if not b then Some refused else rest) ≡ None → (b ≡ true) × (rest ≡ None)
passes true refused rest h = (refl, h)
passes false refused rest h = cc
