-- Each step that a CPU takes on a word or a place is one of the step rules, and leads the whole state on.
use Rattle.std.proofs.Common.{◌≡◌, ℕ, ◌+◌, ◌*◌, ◌<◌, ◌≤◌, List, [], ◌++◌, length, set, refl, subst, arith, Option, Some, None, true, false, inl, inr}
use Rattle.std.proofs.lemmas.Bool.{cases_lt}
use Rattle.std.proofs.lemmas.List.{length-set, get_or_past}
use Rattle.tag_model.specs.declared.shape.Shape.{Shape}
use Rattle.tag_model.specs.declared.state.Tag.{Tag}
use Rattle.tag_model.specs.declared.state.Hand.{Hand}
use Rattle.tag_model.specs.declared.state.Held.{Held}
use Rattle.tag_model.specs.declared.state.Run.{Run}
use Rattle.tag_model.specs.declared.state.Held.TheVariants as held
use Rattle.tag_model.specs.declared.state.Kind.{Kind}
use Rattle.tag_model.specs.declared.state.Kind.TheVariants.{Bytes, Calls}
use Rattle.tag_model.specs.declared.state.Part.{Part}
use Rattle.tag_model.specs.declared.state.Part.TheVariants.{Cpu, Place}
use Rattle.tag_model.specs.declared.limits.TheConstants.{SIZE_END, MAX_HAND_CALLS}
use Rattle.tag_model.specs.Shape.{IsChecked}
use Rattle.tag_model.specs.Laws.{Safe}
use Rattle.tag_model.specs.Reference.{hand_counts_of, held_counts_of, held_fits, hand_fits, is_settled}
use Rattle.tag_model.specs.StepRules.{begins_allocation, adds_bytes, adds_call, subtracts_bytes, subtracts_call, writes_place, BeginsAllocation, AddsBytes, AddsCall, SubtractsBytes, SubtractsCall, WritesPlace, may_begin, raised, lowered, without_call}
use Rattle.tag_model.specs.WordState.{part_fits}
use Rattle.tag_model.proofs.CpuRows.{safe-begins_allocation, safe-adds_bytes, safe-adds_call, safe-subtracts_bytes, safe-subtracts_call, seen}
use Rattle.tag_model.proofs.CpuFits.{HandFits, hand_fits_means}
use Rattle.tag_model.proofs.PlaceRow.{safe-writes_place}
use Rattle.tag_model.proofs.Swept.{part_passes}
use Rattle.tag_model.proofs.Told.{hand_in_tags}
use Rattle.cpu_ops.specs.declared.step.WordStep.{WordStep}
use Rattle.cpu_ops.specs.declared.step.WordStep.TheVariants.{BeginAllocation, AddBytes, AddCall, SubtractBytes, SubtractCall, Write, GoIn, GoOut}
use Rattle.cpu_ops.specs.Machine.{Machine, hand_at, held_at, hand_after, places_after, words_after, raised_in_hand, lowered_in_hand, with_bytes, with_call, less_bytes}
use Rattle.cpu_ops.specs.Needs.{CanTake, HandInWords, HasRoom, HasBytes, HasCall}
use Rattle.module_ops.specs.Modules.{words_at}
use Rattle.core_steps.specs.CoreState.{cpu_part, cpu_parts, place_parts}
use Rattle.core_steps.proofs.Parts.{becomes_first, length-cpu_parts, get_or-cpu_parts, get_or-place_parts, length-place_parts, sum_both, sum_without}
use Rattle.core_steps.specs.Kinds.{StepKind}
use Rattle.core_steps.proofs.ByKind.{word_kind}
use Rattle.core_steps.proofs.Leads.{Leads, leads_cpu, leads_place}

-- ---- a step may be taken by the step rules

pub record InHand (hand : Option Hand) (P : Hand → Type 0) : Type 0 where
  pub h : Hand
  pub held : hand ≡ Some h
  pub holds : P h

pub record IsBegun (hand : Hand) (size : ℕ) : Type 0 where
  pub opening : hand.opening ≡ true
  pub none_yet : hand.bytes ≡ 0
  pub some : 0 < size
  pub fits : size < SIZE_END

pub record CanAddCall (hand : Hand) : Type 0 where
  pub settled : hand.opening ≡ false
  pub counted : 0 < hand.bytes
  pub room : hand.calls < MAX_HAND_CALLS

pub record CanSubtractBytes (bytes : ℕ) (hand : Hand) : Type 0 where
  pub settled : hand.opening ≡ false
  pub within : bytes ≤ hand.bytes

pub record CanSubtractCall (hand : Hand) : Type 0 where
  pub settled : hand.opening ≡ false
  pub some : 0 < hand.calls
  pub bytes_first : hand.calls ≡ 1 → hand.bytes ≡ 0

-- what is counted stays, over the place and the hand
pub record CanWrite (hand next : Option Hand) (was will : Held) : Type 0 where
  pub place_fits : held_fits will ≡ true
  pub hand_fits : hand_fits next ≡ true
  pub stays : (kind : Kind) (tag : Tag) → hand_counts_of kind tag hand + held_counts_of kind tag was ≡ hand_counts_of kind tag next + held_counts_of kind tag will
  pub settled : is_settled next ≡ true

pub record CanBegin (k : Shape) (runs : List Run) (tag : Tag) (hand : Option Hand) : Type 0 where
  pub free : hand ≡ None
  pub allowed : may_begin k tag runs ≡ true
  pub below : tag.number < k.tags

-- steps on words and places; what goes into modules and out of them is no such step
abbrev pub IsRuled : Shape → List Run → WordStep → Option Hand → List Held → Type 0
IsRuled k runs (BeginAllocation tag) hand places = CanBegin k runs tag hand
IsRuled k runs (AddBytes size) hand places = InHand hand (λ h. IsBegun h size)
IsRuled k runs AddCall hand places = InHand hand CanAddCall
IsRuled k runs (SubtractBytes bytes) hand places = InHand hand (CanSubtractBytes bytes)
IsRuled k runs SubtractCall hand places = InHand hand CanSubtractCall
IsRuled k runs (Write key will next) hand places = (key < length places) × CanWrite hand next (held_at places key) will
IsRuled k runs (GoIn section) hand places = ⊥
IsRuled k runs (GoOut section) hand places = ⊥

abbrev pub tail_of : List Held → List Part → List Part
tail_of places lists = place_parts 0 places ++ lists

-- a hand is as it was where it is put back
module _ (k : Shape) (checked : IsChecked k) (m : Machine) (words : List (List ℕ)) (cpu : ℕ) (runs : ℕ → List Run) (lists : List Part) (len : length m.hands ≡ length words) (below : cpu < length m.hands) where
  pub leads_step : (step : WordStep) → IsRuled k (runs (0 + cpu)) step (hand_at m cpu) m.places
      → Leads k (word_kind step) (cpu_parts 0 m.hands words runs ++ tail_of m.places lists)
      (cpu_parts 0 (set m.hands cpu (hand_after step (hand_at m cpu))) (set words cpu (words_after step (hand_at m cpu) (words_at words cpu))) runs ++ tail_of (places_after step m.places) lists)
  leads_step (BeginAllocation tag) r = leads_cpu k StepKind.AddCall m.hands words runs (tail_of m.places lists) cpu _ (raised Calls tag.number 1 (words_at words cpu)) len below
      (let row : BeginsAllocation k tag (cpu_part (0 + cpu) (hand_at m cpu) (words_at words cpu) (runs (0 + cpu))) (cpu_part (0 + cpu) (Some (record { tag = tag; bytes = 0; calls = 1; opening = true })) (raised Calls tag.number 1 (words_at words cpu)) (runs (0 + cpu))) =
      record { free = r.free; allowed = r.allowed; after = refl } in
      record { row = begins_allocation row; of_kind = refl; begins = λ after. refl; safe = λ old new becomes. safe-begins_allocation k tag _ _ old new checked row becomes })
  leads_step (AddBytes size) r = rw r.held (leads_cpu k StepKind.AddBytes m.hands words runs (tail_of m.places lists) cpu (with_bytes size (Some r.h)) (raised Bytes r.h.tag.number size (words_at words cpu)) len below
      (let row : AddsBytes size r.h (cpu_part (0 + cpu) (hand_at m cpu) (words_at words cpu) (runs (0 + cpu))) (cpu_part (0 + cpu) (with_bytes size (Some r.h)) (raised Bytes r.h.tag.number size (words_at words cpu)) (runs (0 + cpu))) =
      record { held = r.held; opening = r.holds.opening; none_yet = r.holds.none_yet; some = r.holds.some; fits = r.holds.fits; after = refl } in
      record { row = adds_bytes row; of_kind = refl; begins = λ after. refl; safe = λ old new becomes. safe-adds_bytes k size r.h _ _ old new checked row becomes }))
  leads_step AddCall r = rw r.held (leads_cpu k StepKind.AddCall m.hands words runs (tail_of m.places lists) cpu (with_call (Some r.h)) (raised Calls r.h.tag.number 1 (words_at words cpu)) len below
      (let row : AddsCall r.h (cpu_part (0 + cpu) (hand_at m cpu) (words_at words cpu) (runs (0 + cpu))) (cpu_part (0 + cpu) (with_call (Some r.h)) (raised Calls r.h.tag.number 1 (words_at words cpu)) (runs (0 + cpu))) =
      record { held = r.held; settled = r.holds.settled; counted = r.holds.counted; room = r.holds.room; after = refl } in
      record { row = adds_call row; of_kind = refl; begins = λ after. refl; safe = λ old new becomes. safe-adds_call k r.h _ _ old new checked row becomes }))
  leads_step (SubtractBytes bytes) r = rw r.held (leads_cpu k StepKind.SubBytes m.hands words runs (tail_of m.places lists) cpu (less_bytes bytes (Some r.h)) (lowered Bytes r.h.tag.number bytes (words_at words cpu)) len below
      (let row : SubtractsBytes bytes r.h (cpu_part (0 + cpu) (hand_at m cpu) (words_at words cpu) (runs (0 + cpu))) (cpu_part (0 + cpu) (less_bytes bytes (Some r.h)) (lowered Bytes r.h.tag.number bytes (words_at words cpu)) (runs (0 + cpu))) =
      record { held = r.held; settled = r.holds.settled; within = r.holds.within; after = refl } in
      record { row = subtracts_bytes row; of_kind = refl; begins = λ after. refl; safe = λ old new becomes. safe-subtracts_bytes k bytes r.h _ _ old new checked row becomes }))
  leads_step SubtractCall r = rw r.held (leads_cpu k StepKind.SubCall m.hands words runs (tail_of m.places lists) cpu (without_call r.h) (lowered Calls r.h.tag.number 1 (words_at words cpu)) len below
      (let row : SubtractsCall r.h (cpu_part (0 + cpu) (hand_at m cpu) (words_at words cpu) (runs (0 + cpu))) (cpu_part (0 + cpu) (without_call r.h) (lowered Calls r.h.tag.number 1 (words_at words cpu)) (runs (0 + cpu))) =
      record { held = r.held; settled = r.holds.settled; some = r.holds.some; bytes_first = r.holds.bytes_first; after = refl } in
      record { row = subtracts_call row; of_kind = refl; begins = λ after. refl; safe = λ old new becomes. safe-subtracts_call k r.h _ _ old new checked row becomes }))
  leads_step (Write key will next) r =
      leads_place k StepKind.WriteCell m.hands words runs m.places lists cpu key next (words_at words cpu) will len below r.0
      (let row : WritesPlace (cpu_part (0 + cpu) (hand_at m cpu) (words_at words cpu) (runs (0 + cpu))) (cpu_part (0 + cpu) next (words_at words cpu) (runs (0 + cpu))) (held_at m.places key) will =
      record { place_fits = r.1.place_fits; hand_fits = r.1.hand_fits; stays = r.1.stays; settled = inr r.1.settled; after = refl } in
      record { row = writes_place row; of_kind = refl; begins = λ after. refl; safe = λ old new becomes. safe-writes_place k (0 + key) _ _ (held_at m.places key) will old new checked row becomes })
  leads_step (GoIn section) r = elim r [ ]
  leads_step (GoOut section) r = elim r [ ]

-- ---- what the laws tell of the hands and the places

-- every place is in its bounds
abbrev pub PlacesFit : List Held → Type 0
PlacesFit places = (key : ℕ) → held_fits (held_at places key) ≡ true

pub places_fit : (k : Shape) (m : Machine) (words : List (List ℕ)) (runs : ℕ → List Run) (lists : List Part) → Safe k (cpu_parts 0 m.hands words runs ++ tail_of m.places lists) → PlacesFit m.places
places_fit k m words runs lists safe key = elim (cases_lt key (length m.places)) [
  | inl l ↦
      let part = Place (0 + key) (held_at m.places key) in
      let len = length-place_parts 0 m.places in
      part_passes (part_fits k) (cpu_parts 0 m.hands words runs ++ (place_parts 0 m.places ++ lists)) part
      (λ f. let a = sum_both f (cpu_parts 0 m.hands words runs) (place_parts 0 m.places ++ lists) in let b = sum_both f (place_parts 0 m.places) lists in
      let c = sum_without f (place_parts 0 m.places) key part (omega arith) (get_or-place_parts 0 m.places key part l) in omega arith)
      safe.fits
  | inr past ↦ rw (get_or_past m.places key held.None past) refl
]

-- what is known of a hand
pub record HandSeen (k : Shape) (h : Hand) : Type 0 where
  pub below : h.tag.number < k.tags
  pub fits : HandFits h

pub hand_seen : (k : Shape) (m : Machine) (words : List (List ℕ)) (runs : ℕ → List Run) (lists : List Part) (cpu : ℕ) (h : Hand) → IsChecked k → length m.hands ≡ length words → cpu < length m.hands
    → Safe k (cpu_parts 0 m.hands words runs ++ tail_of m.places lists) → hand_at m cpu ≡ Some h → HandSeen k h
hand_seen k m words runs lists cpu h checked len below safe is =
    let c = cpu_part (0 + cpu) (hand_at m cpu) (words_at words cpu) (runs (0 + cpu)) in
    let ps = cpu_parts 0 m.hands words runs in
    let there = length-cpu_parts 0 m.hands words runs len in
    let b = becomes_first ps (tail_of m.places lists) cpu (Cpu c) (Cpu c) (omega arith) (get_or-cpu_parts 0 m.hands words runs cpu (Cpu c) len below) in
    let s = seen k c [] _ _ _ b safe in
    record {
      below = hand_in_tags k c h [] _ _ _ checked b safe is;
      fits = hand_fits_means h (subst (λ (o : Option Hand). hand_fits o ≡ true) is s.fit.hand);
    }

-- ---- the words and the places that a step writes are there

module _ (k : Shape) (words places : ℕ) (own : words ≡ 2 * k.tags) (runs : List Run) where
  hand_in_words : (hand : Option Hand) → ((h : Hand) → hand ≡ Some h → HandSeen k h) → HandInWords hand words
  hand_in_words None s = tt
  hand_in_words (Some h) s = let f = (s h refl).below in omega arith

  has_room : (hand : Option Hand) → InHand hand CanAddCall → HasRoom hand
  has_room None r = tt
  has_room (Some h) r = let e : h ≡ r.h = cc in rw e r.holds.room

  has_bytes : (bytes : ℕ) (hand : Option Hand) → InHand hand (CanSubtractBytes bytes) → HasBytes bytes hand
  has_bytes bytes None r = tt
  has_bytes bytes (Some h) r = let e : h ≡ r.h = cc in rw e r.holds.within

  has_call : (hand : Option Hand) → InHand hand CanSubtractCall → HasCall hand
  has_call None r = tt
  has_call (Some h) r = let e : h ≡ r.h = cc in rw e r.holds.some

  pub can_take : (step : WordStep) (hand : Option Hand) (all : List Held) → length all ≡ places → ((h : Hand) → hand ≡ Some h → HandSeen k h) → IsRuled k runs step hand all → CanTake step hand words places
  can_take (BeginAllocation tag) hand all len s r = let b = r.below in omega arith
  can_take (AddBytes size) hand all len s r = hand_in_words hand s
  can_take AddCall hand all len s r = (hand_in_words hand s, has_room hand r)
  can_take (SubtractBytes bytes) hand all len s r = (hand_in_words hand s, has_bytes bytes hand r)
  can_take SubtractCall hand all len s r = (hand_in_words hand s, has_call hand r)
  can_take (Write key will next) hand all len s r = let b = r.0 in omega arith
  can_take (GoIn section) hand all len s r = tt
  can_take (GoOut section) hand all len s r = tt

-- ---- what a step keeps

length-raised : (hand : Option Hand) (kind : Kind) (n : ℕ) (words : List ℕ) → length (raised_in_hand hand kind n words) ≡ length words
length-raised None kind n words = refl
length-raised (Some h) kind n words = length-set words _ _

length-lowered : (hand : Option Hand) (kind : Kind) (n : ℕ) (words : List ℕ) → length (lowered_in_hand hand kind n words) ≡ length words
length-lowered None kind n words = refl
length-lowered (Some h) kind n words = length-set words _ _

pub length-words_after : (step : WordStep) (hand : Option Hand) (words : List ℕ) → length (words_after step hand words) ≡ length words
length-words_after (BeginAllocation tag) hand words = length-set words _ _
length-words_after (AddBytes size) hand words = length-raised hand Bytes size words
length-words_after AddCall hand words = length-raised hand Calls 1 words
length-words_after (SubtractBytes bytes) hand words = length-lowered hand Bytes bytes words
length-words_after SubtractCall hand words = length-lowered hand Calls 1 words
length-words_after (Write key will next) hand words = refl
length-words_after (GoIn section) hand words = refl
length-words_after (GoOut section) hand words = refl
