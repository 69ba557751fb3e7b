-- The steps of an allocation, a free and a trim: each may be taken, and together they are the moves of the list machine.
use Rattle.std.proofs.Common.{◌≡◌, ◌≢◌, ℕ, ◌+◌, ◌-◌, ◌<◌, ◌≤◌, ◌==◌, Bool, true, false, IsTrue, Option, Some, None, List, [], refl, ap, sym, ◌∙◌, subst, arith, inl, inr}
use Rattle.std.proofs.lemmas.Grind.{common_steps}
use Rattle.tag_model.specs.declared.limits.TheConstants.{SIZE_END}
use Rattle.tag_model.specs.declared.shape.Shape.{Shape}
use Rattle.tag_model.specs.declared.state.CpuPart.{CpuPart}
use Rattle.tag_model.specs.declared.state.Hand.{Hand}
use Rattle.tag_model.specs.declared.state.Held.{Held}
use Rattle.tag_model.specs.declared.state.Held.TheVariants as held
use Rattle.tag_model.specs.declared.state.Kind.TheVariants.{Bytes, Calls}
use Rattle.tag_model.specs.declared.state.Tag.{Tag}
use Rattle.tag_model.specs.Reference.{same_tag, held_fits, hand_fits, held_counts_of, hand_counts_of}
use Rattle.tag_model.specs.RefMoves.{open_moves, close_moves, trim_moves, trimmed, words_after_moves}
use Rattle.tag_model.specs.StepRules.{BeginsAllocation, AddsBytes, SubtractsBytes, SubtractsCall, WritesPlace, raised, lowered}
use Rattle.tag_model.specs.ListMachine.{Open, Mark, Close, Trim, held_at, LeavesSome}
use Rattle.tag_model.proofs.LiveLists.{held_here}
use Rattle.tag_model.proofs.MovedWords.{raises_is, lowers_is}
use Rattle.tag_rule.specs.Shown.{Board, CpuShown, CellShown}
use Rattle.tag_rule.specs.Steps.{with_hand, hand_after, HoldsBytes, HoldsCall}
use Rattle.tag_ref.specs.Refs.{moved_by, holding, MeetsMachine}

-- ---- what is in hand after a write

itself : (n : ℕ) → (n == n) ≡ true
itself n = grind arith

pub same_itself : (tag : Tag) → same_tag tag tag ≡ true
same_itself tag = rw (itself tag.number, itself tag.module) refl

-- a hand with one call
abbrev pub one_call : Tag → ℕ → Bool → Hand
one_call tag bytes opening = record { tag = tag; bytes = bytes; calls = 1; opening = opening }

-- a cell that gives up its reference
pub taken : (tag : Tag) (size : ℕ) → hand_after None (held.Counted tag size) held.None ≡ Some (one_call tag size false)
taken tag size = rw (same_itself tag) (let n : 0 + size - 0 ≡ size = omega arith in ap (λ bytes. Some (one_call tag bytes false)) n)

-- a cell that takes all that is in hand
pub given : (tag : Tag) (size : ℕ) (opening : Bool) → hand_after (Some (one_call tag size opening)) held.None (held.Counted tag size) ≡ None
given tag size opening = rw (same_itself tag) refl

-- ---- the writes may be taken

small : (tag : Tag) (size : ℕ) → IsTrue (held_fits (held.Counted tag size)) → size < SIZE_END
small tag size fit = grind (arith, common_steps)

fits : (tag : Tag) (size : ℕ) → 0 < size → size < SIZE_END → IsTrue (held_fits (held.Counted tag size))
fits tag size some below = grind (arith, common_steps)

one_fits : (tag : Tag) (size : ℕ) → size < SIZE_END → IsTrue (hand_fits (Some (one_call tag size false)))
one_fits tag size below = grind (arith, common_steps)

pub may_take : (c : CpuPart) (tag : Tag) (size : ℕ) → c.hand ≡ None → IsTrue (held_fits (held.Counted tag size))
    → WritesPlace c (with_hand (hand_after c.hand (held.Counted tag size) held.None) c) (held.Counted tag size) held.None
may_take c tag size free fit =
    let after : hand_after c.hand (held.Counted tag size) held.None ≡ Some (one_call tag size false) = ap (λ hand. hand_after hand (held.Counted tag size) held.None) free ∙ taken tag size in
    subst (λ hand. WritesPlace c (with_hand hand c) (held.Counted tag size) held.None) (sym after) (record {
      place_fits = refl;
      hand_fits = one_fits tag size (small tag size fit);
      stays = λ kind named. let none : hand_counts_of kind named c.hand ≡ 0 = ap (hand_counts_of kind named) free in omega (arith, none);
      settled = inr refl;
      after = refl;
    })

pub may_give : (c : CpuPart) (tag : Tag) (size : ℕ) (opening : Bool) → c.hand ≡ Some (one_call tag size opening) → 0 < size → size < SIZE_END
    → WritesPlace c (with_hand (hand_after c.hand held.None (held.Counted tag size)) c) held.None (held.Counted tag size)
may_give c tag size opening is some below =
    let after : hand_after c.hand held.None (held.Counted tag size) ≡ None = ap (λ hand. hand_after hand held.None (held.Counted tag size)) is ∙ given tag size opening in
    subst (λ hand. WritesPlace c (with_hand hand c) held.None (held.Counted tag size)) (sym after) (record {
      place_fits = fits tag size some below;
      hand_fits = refl;
      stays = λ kind named. let all : hand_counts_of kind named c.hand ≡ held_counts_of kind named (held.Counted tag size) = ap (hand_counts_of kind named) is in omega (arith, all);
      settled = inr refl;
      after = refl;
    })

-- ---- what a CPU is after the steps

-- the CPU with other words, and with this in hand
abbrev pub made : CpuPart → List ℕ → Option Hand → CpuPart
made c words hand = record c { words = words; hand = hand }

-- once nothing is in hand again
pub at_rest : (c : CpuPart) (words moved : List ℕ) (hand : Option Hand) → c.hand ≡ None → words ≡ moved → hand ≡ None → made c words hand ≡ record c { words = moved }
at_rest c words moved hand free same none = ap (λ ws. made c ws hand) same ∙ ap (λ h. made c moved h) (none ∙ sym free)

two_raised : (c : CpuPart) (tag : Tag) (size : ℕ) → raised Bytes tag.number size (raised Calls tag.number 1 c.words) ≡ words_after_moves c.number c.words (open_moves c.number (held.Counted tag size))
two_raised c tag size = sym (raises_is c.number Bytes tag size _ ∙ ap (raised Bytes tag.number size) (raises_is c.number Calls tag 1 c.words))

two_lowered : (c : CpuPart) (tag : Tag) (size : ℕ) → lowered Calls tag.number 1 (lowered Bytes tag.number size c.words) ≡ words_after_moves c.number c.words (close_moves c.number (held.Counted tag size))
two_lowered c tag size = sym (lowers_is c.number Calls tag 1 _ ∙ ap (lowered Calls tag.number 1) (lowers_is c.number Bytes tag size c.words))

one_lowered : (c : CpuPart) (tag : Tag) (size bytes : ℕ) → lowered Bytes tag.number bytes c.words ≡ words_after_moves c.number c.words (trim_moves c.number bytes (held.Counted tag size))
one_lowered c tag size bytes = sym (lowers_is c.number Bytes tag bytes c.words)

-- add-call, add-bytes
pub counted : (k : Shape) (tag : Tag) (size : ℕ) (c d e : CpuPart) → BeginsAllocation k tag c d → AddsBytes size (one_call tag 0 true) d e
    → e ≡ made c (raised Bytes tag.number size (raised Calls tag.number 1 c.words)) (Some (one_call tag size true))
counted k tag size c d e b a = a.after ∙ ap (λ (p : CpuPart). made p (raised Bytes tag.number size p.words) (Some (one_call tag size true))) b.after

-- write-cell writes the reference
pub opened : (c e f : CpuPart) (tag : Tag) (size : ℕ) → c.hand ≡ None
    → e ≡ made c (raised Bytes tag.number size (raised Calls tag.number 1 c.words)) (Some (one_call tag size true))
    → f ≡ with_hand (hand_after e.hand held.None (held.Counted tag size)) e
    → f ≡ record c { words = words_after_moves c.number c.words (open_moves c.number (held.Counted tag size)) }
opened c e f tag size free is write =
    write ∙ ap (λ (p : CpuPart). with_hand (hand_after p.hand held.None (held.Counted tag size)) p) is
    ∙ at_rest c _ _ _ free (two_raised c tag size) (given tag size true)

-- write-cell clears the cell, and takes what it held
pub cleared : (c d : CpuPart) (tag : Tag) (size : ℕ) → c.hand ≡ None → d ≡ with_hand (hand_after c.hand (held.Counted tag size) held.None) c → d ≡ made c c.words (Some (one_call tag size false))
cleared c d tag size free write = write ∙ ap (λ hand. with_hand hand c) (ap (λ hand. hand_after hand (held.Counted tag size) held.None) free ∙ taken tag size)

-- sub-bytes, of what a free or a trim took
pub lessened : (c d e : CpuPart) (tag : Tag) (size bytes : ℕ) → d ≡ made c c.words (Some (one_call tag size false)) → SubtractsBytes bytes (one_call tag size false) d e
    → e ≡ made c (lowered Bytes tag.number bytes c.words) (Some (one_call tag (size - bytes) false))
lessened c d e tag size bytes is s = s.after ∙ ap (λ (p : CpuPart). made p (lowered Bytes tag.number bytes p.words) (Some (one_call tag (size - bytes) false))) is

-- sub-call, once no byte is left
pub closed : (c e f : CpuPart) (tag : Tag) (size : ℕ) → c.hand ≡ None → e ≡ made c (lowered Bytes tag.number size c.words) (Some (one_call tag (size - size) false)) → SubtractsCall (one_call tag (size - size) false) e f
    → f ≡ record c { words = words_after_moves c.number c.words (close_moves c.number (held.Counted tag size)) }
closed c e f tag size free is s =
    s.after ∙ ap (λ (p : CpuPart). made p (lowered Calls tag.number 1 p.words) None) is ∙ at_rest c _ _ _ free (two_lowered c tag size) refl

-- write-cell writes the lowered size
pub lowered_back : (c e f : CpuPart) (tag : Tag) (size bytes : ℕ) → c.hand ≡ None → e ≡ made c (lowered Bytes tag.number bytes c.words) (Some (one_call tag (size - bytes) false))
    → f ≡ with_hand (hand_after e.hand held.None (held.Counted tag (size - bytes))) e
    → f ≡ record c { words = words_after_moves c.number c.words (trim_moves c.number bytes (held.Counted tag size)) }
lowered_back c e f tag size bytes free is write =
    write ∙ ap (λ (p : CpuPart). with_hand (hand_after p.hand held.None (held.Counted tag (size - bytes))) p) is
    ∙ at_rest c _ _ _ free (one_lowered c tag size bytes) (given tag (size - bytes) false)

-- ---- an allocation

abbrev pub shown : Board → CpuPart → CpuShown
shown board part = record { board = board; part = part }

pub same_shown : (a b : Board) (p q : CpuPart) → a ≡ b → p ≡ q → shown a p ≡ shown b q
same_shown a b p q boards parts = ap (λ board. shown board p) boards ∙ ap (shown b) parts

-- what write-cell leaves of a CPU
abbrev pub wrote : CpuShown → Held → Held → CpuShown
wrote cpu was next = shown cpu.board (with_hand (hand_after cpu.part.hand was next) cpu.part)

begun : (k : Shape) (tag : Tag) (c d : CpuPart) → BeginsAllocation k tag c d → d.hand ≡ Some (one_call tag 0 true)
begun k tag c d b = ap (λ (p : CpuPart). p.hand) b.after

pub counted_by : (k : Shape) (tag : Tag) (size : ℕ) (c d e : CpuPart) → BeginsAllocation k tag c d → ((hand : Hand) → d.hand ≡ Some hand → AddsBytes size hand d e)
    → e ≡ made c (raised Bytes tag.number size (raised Calls tag.number 1 c.words)) (Some (one_call tag size true))
counted_by k tag size c d e b adds = counted k tag size c d e b (adds (one_call tag 0 true) (begun k tag c d b))

pub write_opened : (k : Shape) (tag : Tag) (size : ℕ) (c d e : CpuPart) (was : Held) → was ≡ held.None → (0 < size) × (size < SIZE_END)
    → BeginsAllocation k tag c d → ((hand : Hand) → d.hand ≡ Some hand → AddsBytes size hand d e)
    → WritesPlace e (with_hand (hand_after e.hand was (held.Counted tag size)) e) was (held.Counted tag size)
write_opened k tag size c d e was none bounds b adds =
    subst (λ h. WritesPlace e (with_hand (hand_after e.hand h (held.Counted tag size)) e) h (held.Counted tag size)) (sym none)
    (may_give e tag size true (ap (λ (p : CpuPart). p.hand) (counted_by k tag size c d e b adds)) bounds.0 bounds.1)

pub opens : (cpu begun counted after : CpuShown) (was : Held) (tag : Tag) (size : ℕ) → cpu.part.hand ≡ None → was ≡ held.None
    → BeginsAllocation cpu.board.shape tag cpu.part begun.part → begun.board ≡ cpu.board
    → ((hand : Hand) → begun.part.hand ≡ Some hand → AddsBytes size hand begun.part counted.part) → counted.board ≡ begun.board
    → after ≡ wrote counted was (held.Counted tag size) → after ≡ moved_by (open_moves cpu.part.number (held.Counted tag size)) cpu
opens cpu begun counted after was tag size free none b board_b adds board_c write =
    let parts = opened cpu.part counted.part _ tag size free (counted_by cpu.board.shape tag size cpu.part begun.part counted.part b adds) refl in
    write ∙ ap (λ h. wrote counted h (held.Counted tag size)) none ∙ same_shown counted.board cpu.board _ _ (board_c ∙ board_b) parts

-- ---- a free

-- the cell's reference is taken in hand
pub takes : (cpu cleared_cpu : CpuShown) (was : Held) (tag : Tag) (size : ℕ) → cpu.part.hand ≡ None → was ≡ held.Counted tag size → cleared_cpu ≡ wrote cpu was held.None
    → cleared_cpu ≡ shown cpu.board (made cpu.part cpu.part.words (Some (one_call tag size false)))
takes cpu cleared_cpu was tag size free is write =
    write ∙ ap (λ h. wrote cpu h held.None) is ∙ ap (shown cpu.board) (cleared cpu.part _ tag size free refl)

-- a cell that isn't counted is cleared too
pub write_cleared : (c : CpuPart) (was : Held) → c.hand ≡ None → IsTrue (held_fits was) → WritesPlace c (with_hand (hand_after c.hand was held.None) c) was held.None
write_cleared c (held.Counted tag size) free fit = may_take c tag size free fit
write_cleared c held.Empty free fit = record { place_fits = refl; hand_fits = subst (λ hand. IsTrue (hand_fits hand)) (sym free) refl; stays = λ kind named. refl; settled = inl refl; after = refl }
write_cleared c held.None free fit = record { place_fits = refl; hand_fits = subst (λ hand. IsTrue (hand_fits hand)) (sym free) refl; stays = λ kind named. refl; settled = inl refl; after = refl }

pub holds_bytes : (cpu cleared_cpu : CpuShown) (was : Held) (tag : Tag) (size bytes : ℕ) → cpu.part.hand ≡ None → was ≡ held.Counted tag size → bytes ≤ size → cleared_cpu ≡ wrote cpu was held.None → HoldsBytes bytes cleared_cpu
holds_bytes cpu cleared_cpu was tag size bytes free is le write =
    record { hand = one_call tag size false; held = ap (λ (p : CpuShown). p.part.hand) (takes cpu cleared_cpu was tag size free is write); settled = refl; within = le }

-- so many of its bytes are taken
pub lessens : (cpu cleared_cpu less : CpuShown) (was : Held) (tag : Tag) (size bytes : ℕ) → cpu.part.hand ≡ None → was ≡ held.Counted tag size → cleared_cpu ≡ wrote cpu was held.None
    → ((hand : Hand) → cleared_cpu.part.hand ≡ Some hand → SubtractsBytes bytes hand cleared_cpu.part less.part) → less.board ≡ cleared_cpu.board
    → less ≡ shown cpu.board (made cpu.part (lowered Bytes tag.number bytes cpu.part.words) (Some (one_call tag (size - bytes) false)))
lessens cpu cleared_cpu less was tag size bytes free is write subtracts board =
    let all = takes cpu cleared_cpu was tag size free is write in
    same_shown less.board cpu.board less.part _ (board ∙ ap (λ (p : CpuShown). p.board) all)
    (lessened cpu.part cleared_cpu.part less.part tag size bytes (ap (λ (p : CpuShown). p.part) all) (subtracts (one_call tag size false) (ap (λ (p : CpuShown). p.part.hand) all)))

abbrev pub emptied : CpuShown → Tag → ℕ → CpuShown
emptied cpu tag size = shown cpu.board (made cpu.part (lowered Bytes tag.number size cpu.part.words) (Some (one_call tag (size - size) false)))

pub holds_call : (cpu less : CpuShown) (tag : Tag) (size : ℕ) → less ≡ emptied cpu tag size → HoldsCall less
holds_call cpu less tag size is =
    record { hand = one_call tag (size - size) false; held = ap (λ (p : CpuShown). p.part.hand) is; settled = refl; bytes_first = λ last. omega arith }

pub closes : (cpu less after : CpuShown) (was : Held) (tag : Tag) (size : ℕ) → cpu.part.hand ≡ None → was ≡ held.Counted tag size → less ≡ emptied cpu tag size
    → ((hand : Hand) → less.part.hand ≡ Some hand → SubtractsCall hand less.part after.part) → after.board ≡ less.board
    → after ≡ moved_by (close_moves cpu.part.number was) cpu
closes cpu less after was tag size free is emptied_is subtracts board =
    let call = subtracts (one_call tag (size - size) false) (ap (λ (p : CpuShown). p.part.hand) emptied_is) in
    let parts = closed cpu.part less.part after.part tag size free (ap (λ (p : CpuShown). p.part) emptied_is) call in
    same_shown after.board cpu.board after.part _ (board ∙ ap (λ (p : CpuShown). p.board) emptied_is) parts ∙ ap (λ h. moved_by (close_moves cpu.part.number h) cpu) (sym is)

-- ---- a trim

pub write_lowered : (cpu less : CpuShown) (was : Held) (tag : Tag) (size bytes : ℕ) → was ≡ held.None → bytes < size → size < SIZE_END
    → less ≡ shown cpu.board (made cpu.part (lowered Bytes tag.number bytes cpu.part.words) (Some (one_call tag (size - bytes) false)))
    → WritesPlace less.part (with_hand (hand_after less.part.hand was (held.Counted tag (size - bytes))) less.part) was (held.Counted tag (size - bytes))
write_lowered cpu less was tag size bytes none below fit is =
    subst (λ h. WritesPlace less.part (with_hand (hand_after less.part.hand h (held.Counted tag (size - bytes))) less.part) h (held.Counted tag (size - bytes))) (sym none)
    (may_give less.part tag (size - bytes) false (ap (λ (p : CpuShown). p.part.hand) is) (omega (arith, below)) (omega (arith, fit)))

pub trims : (cpu less after : CpuShown) (held_first was : Held) (tag : Tag) (size bytes : ℕ) → cpu.part.hand ≡ None → held_first ≡ held.Counted tag size → was ≡ held.None
    → less ≡ shown cpu.board (made cpu.part (lowered Bytes tag.number bytes cpu.part.words) (Some (one_call tag (size - bytes) false)))
    → after ≡ wrote less was (held.Counted tag (size - bytes)) → after ≡ moved_by (trim_moves cpu.part.number bytes held_first) cpu
trims cpu less after held_first was tag size bytes free first none is write =
    let parts = lowered_back cpu.part less.part _ tag size bytes free (ap (λ (p : CpuShown). p.part) is) refl in
    write ∙ ap (λ h. wrote less h (held.Counted tag (size - bytes))) none ∙ same_shown less.board cpu.board _ _ (ap (λ (p : CpuShown). p.board) is) parts
    ∙ ap (λ h. moved_by (trim_moves cpu.part.number bytes h) cpu) (sym first)

-- ---- the list machine

pub meets_open : (cpu cpu_after : CpuShown) (cell cell_after : CellShown) (tag : Tag) (size : ℕ) → cell_after ≡ holding (held.Counted tag size) cell → cpu_after ≡ moved_by (open_moves cpu.part.number (held.Counted tag size)) cpu
    → MeetsMachine (λ place. Open place tag size) cpu cell cpu_after cell_after
meets_open cpu cpu_after cell cell_after tag size at words live is =
    (at ∙ ap (λ h. holding h cell) (sym (held_here cell.first (held.Counted tag size) live)), words)

pub meets_mark : (cpu cpu_after : CpuShown) (cell cell_after : CellShown) → cell_after ≡ holding held.Empty cell → cpu_after ≡ cpu → MeetsMachine Mark cpu cell cpu_after cell_after
meets_mark cpu cpu_after cell cell_after at same live is = (at ∙ ap (λ h. holding h cell) (sym (held_here cell.first held.Empty live)), same)

pub meets_close : (cpu cpu_after : CpuShown) (cell cell_after : CellShown) → cell_after ≡ holding held.None cell → cpu_after ≡ moved_by (close_moves cpu.part.number cell.held) cpu → MeetsMachine Close cpu cell cpu_after cell_after
meets_close cpu cpu_after cell cell_after at words live is =
    (at ∙ ap (λ h. holding h cell) (sym (held_here cell.first held.None live)), words ∙ ap (λ h. moved_by (close_moves cpu.part.number h) cpu) (sym is))

pub meets_trim : (cpu cpu_after : CpuShown) (cell cell_after : CellShown) (bytes : ℕ) → cell_after ≡ holding (trimmed bytes cell.held) cell → cpu_after ≡ moved_by (trim_moves cpu.part.number bytes cell.held) cpu
    → MeetsMachine (λ place. Trim place bytes) cpu cell cpu_after cell_after
meets_trim cpu cpu_after cell cell_after bytes at words live is =
    (at ∙ ap (λ h. holding h cell) (ap (trimmed bytes) (sym is) ∙ sym (held_here cell.first (trimmed bytes (held_at cell.first live)) live)), words ∙ ap (λ h. moved_by (trim_moves cpu.part.number bytes h) cpu) (sym is))

-- ---- of a cell that is Counted

pub some_left : (h : Held) (tag : Tag) (size bytes : ℕ) → h ≡ held.Counted tag size → LeavesSome bytes h → bytes < size
some_left h tag size bytes is some = subst (LeavesSome bytes) is some

pub small_held : (h : Held) (tag : Tag) (size : ℕ) → h ≡ held.Counted tag size → IsTrue (held_fits h) → size < SIZE_END
small_held h tag size is fit = small tag size (subst (λ x. IsTrue (held_fits x)) is fit)

-- ---- of one that isn't

abbrev pub NotCounted : Held → Type 0
NotCounted h = (tag : Tag) (size : ℕ) → h ≡ held.Counted tag size → ⊥

pub empty_mark : (h : Held) → NotCounted h → h ≢ held.None → h ≡ held.Empty
empty_mark held.None n some = absurd (some refl)
empty_mark held.Empty n some = refl
empty_mark (held.Counted tag size) n some = absurd (n tag size refl)

pub untrimmed : (h : Held) (bytes : ℕ) → NotCounted h → trimmed bytes h ≡ h
untrimmed held.None bytes n = refl
untrimmed held.Empty bytes n = refl
untrimmed (held.Counted tag size) bytes n = absurd (n tag size refl)

pub no_trim_moves : (cpu : ℕ) (h : Held) (bytes : ℕ) → NotCounted h → trim_moves cpu bytes h ≡ []
no_trim_moves cpu held.None bytes n = refl
no_trim_moves cpu held.Empty bytes n = refl
no_trim_moves cpu (held.Counted tag size) bytes n = absurd (n tag size refl)

-- the empty mark is written, and cleared, with no word changed
pub marks : (cpu after : CpuShown) (was : Held) → was ≡ held.None → after ≡ wrote cpu was held.Empty → after ≡ cpu
marks cpu after was none write = write ∙ ap (λ h. wrote cpu h held.Empty) none

pub clears_mark : (cpu after : CpuShown) (was : Held) → was ≡ held.Empty → after ≡ wrote cpu was held.None → after ≡ moved_by (close_moves cpu.part.number was) cpu
clears_mark cpu after was is write = write ∙ ap (λ h. wrote cpu h held.None) is ∙ ap (λ h. moved_by (close_moves cpu.part.number h) cpu) (sym is)
