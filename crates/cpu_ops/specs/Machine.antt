-- The machine without its words: hands by CPU, places by key, and the ops of each CPU.
use Rattle.std.specs.Prelude.{◌≡◌, ◌++◌, is_some, length, replicate, ℕ, ◌+◌, ◌-◌, ◌*◌, ◌<◌, ◌==◌, ◌&&◌, ◌||◌, not, nat_lt, nat_le, ◌/◌, ◌%◌, find, Bool, true, false, if◌then◌else◌, Option, Some, None, List, [], ◌∷◌, slice_set, slice_index_or}
use Rattle.std.specs.List.{list_any, range_with_len}
use Rattle.tag_model.specs.declared.state.Tag.{Tag}
use Rattle.tag_model.specs.declared.state.Hand.{Hand}
use Rattle.tag_model.specs.declared.state.Held.{Held}
use Rattle.tag_model.specs.declared.state.Held.TheVariants as held
use Rattle.tag_model.specs.declared.state.Run.{Run}
use Rattle.tag_model.specs.declared.state.Kind.{Kind}
use Rattle.tag_model.specs.declared.state.Kind.TheVariants.{Bytes, Calls}
use Rattle.tag_model.specs.Moves.{Move}
use Rattle.tag_model.specs.StepRules.{raised, lowered, without_call}
use Rattle.cpu_ops.specs.declared.op.CpuOp.{CpuOp}
use Rattle.cpu_ops.specs.declared.op.CpuOp.TheVariants.{Open, Close, Split, Swap, Trim, Enter, Leave}
use Rattle.cpu_ops.specs.declared.refused.StepRefused.{StepRefused}
use Rattle.cpu_ops.specs.declared.refused.StepRefused.TheVariants.{NoStep, ListHeld, NotLive, KeyUsed, NotRunning, Inside, NotLoaded, Uneven, TooSmall}
use Rattle.cpu_ops.specs.declared.op.TheConstants.{KEY_END}
use Rattle.cpu_ops.specs.declared.step.WordStep.{WordStep}
use Rattle.cpu_ops.specs.declared.step.WordStep.TheVariants.{BeginAllocation, AddBytes, AddCall, SubtractBytes, SubtractCall, Write, GoIn, GoOut}
use Rattle.core_list.specs.ListState.{ListState, loaded_entry}
use Rattle.tag_model.specs.Reference.{is_counted}

-- the ops of a CPU, of which so many steps of the first are done
pub record Waiting : Type 0 where
  pub ops : List CpuOp
  pub done : ℕ

pub record Machine : Type 0 where
  pub hands : List (Option Hand)
  pub places : List Held
  pub waiting : List Waiting

abbrev pub machine_of : List (Option Hand) → List Held → List Waiting → Machine
machine_of hands places waiting = record { hands = hands; places = places; waiting = waiting }

abbrev pub nothing_waits : Waiting
nothing_waits = record { ops = []; done = 0 }

abbrev pub hand_at : Machine → ℕ → Option Hand
hand_at m cpu = slice_index_or m.hands cpu None

abbrev pub held_at : List Held → ℕ → Held
held_at places key = slice_index_or places key held.None

abbrev pub waiting_at : Machine → ℕ → Waiting
waiting_at m cpu = slice_index_or m.waiting cpu nothing_waits

-- nothing is in hand, no place holds anything, and nothing waits
unfoldable pub no_places : List Held
no_places = replicate KEY_END held.None

abbrev pub fresh_machine : ℕ → Machine
fresh_machine cpus = record { hands = replicate cpus None; places = no_places; waiting = replicate cpus nothing_waits }

-- the op is the CPU's last
abbrev pub with_op : Waiting → CpuOp → Waiting
with_op w op = record w { ops = w.ops ++ op ∷ [] }

abbrev pub queued_on : Machine → ℕ → CpuOp → Machine
queued_on m cpu op = record m { waiting = slice_set m.waiting cpu (with_op (waiting_at m cpu) op) }

-- ---- hands and places

-- a reference is taken in hand: its bytes and its call
abbrev pub in_hand : Held → Option Hand
in_hand (held.Counted tag size) = Some (record { tag = tag; bytes = size; calls = 1; opening = false })
in_hand other = None

-- what is in hand is put down as a reference
abbrev pub put_down : Option Hand → Held
put_down None = held.None
put_down (Some h) = held.Counted h.tag h.bytes

abbrev pub bytes_in : Option Hand → ℕ
bytes_in None = 0
bytes_in (Some h) = h.bytes

abbrev pub holds_nothing : Held → Bool
holds_nothing held.None = true
holds_nothing other = false

abbrev pub size_of : Held → ℕ
size_of (held.Counted tag size) = size
size_of other = 0

-- an equal share of what is in hand: its bytes over its calls
abbrev pub share_of : Hand → ℕ
share_of h = h.bytes / h.calls

-- what is in hand without a share: so many bytes and a call less, none where that was the last call
abbrev pub rest_of : Hand → ℕ → Option Hand
rest_of h share = without_call (record h { bytes = h.bytes - share })

-- ---- keys of a split

-- the first part of a split keeps its key, the others have FIRST, FIRST + 1 and so on
abbrev pub part_key : ℕ → ℕ → ℕ → ℕ
part_key key first part = if part == 0 then key else first + (part - 1)

-- the key is one of the new ones
abbrev pub is_new_key : ℕ → ℕ → ℕ → Bool
is_new_key key parts first = nat_le first key && nat_lt (key + 1) (first + parts)

abbrev pub new_keys : ℕ → ℕ → List ℕ
new_keys parts first = range_with_len first (parts - 1)

-- ---- the table of steps

-- kernel tag i has tag number i
abbrev pub kernel_tag : ℕ → Tag
kernel_tag index = record { number = index; «module» = 0 }

-- by section, the run of the CPU on the section's module
abbrev pub run_at : List (Option Run) → ℕ → Option Run
run_at inside section = slice_index_or inside section None

-- tag i of a module is the i-th of its range
abbrev pub module_tag : Option Run → ℕ → Tag
module_tag None index = kernel_tag index
module_tag (Some r) index = record { number = r.start + index; «module» = r.id }

-- a tag of the kernel's section, or of a module that the CPU is inside
abbrev pub tag_in : List (Option Run) → ℕ → ℕ → Tag
tag_in inside section index = if section == 0 then kernel_tag index else module_tag (run_at inside section) index

-- write-cell clears the place, and takes in hand what it held
abbrev pub clear_step : ℕ → List Held → WordStep
clear_step key places = Write key held.None (in_hand (held_at places key))

-- write-cell writes what is in hand into the place
abbrev pub put_step : ℕ → Option Hand → WordStep
put_step key hand = Write key (put_down hand) None

-- write-cell writes an equal share of what is in hand into the place, and keeps the rest
abbrev pub share_step : ℕ → Option Hand → WordStep
share_step key None = Write key held.None None
share_step key (Some h) = Write key (held.Counted h.tag (share_of h)) (rest_of h (share_of h))

-- how many steps an op takes
abbrev pub step_count : CpuOp → ℕ
step_count (Split key parts first) = 2 * parts
step_count (Enter section) = 1
step_count (Leave section) = 1
step_count other = 3

-- an allocation: add-call, add-bytes with its size, write-cell
abbrev pub open_step : ℕ → Tag → ℕ → ℕ → Option Hand → WordStep
open_step key tag size done hand =
    if done == 0 then BeginAllocation tag
    else (if done == 1 then AddBytes size
    else put_step key hand)

-- a free: write-cell clears the cell, sub-bytes subtracts its size, sub-call
abbrev pub close_step : ℕ → ℕ → Option Hand → List Held → WordStep
close_step key done hand places =
    if done == 0 then clear_step key places
    else (if done == 1 then SubtractBytes (bytes_in hand)
    else SubtractCall)

-- a split into k parts: write-cell clears the cell, add-call k - 1 times, write-cell writes a share under each part's key
abbrev pub split_step : ℕ → ℕ → ℕ → ℕ → Option Hand → List Held → WordStep
split_step key parts first done hand places =
    if done == 0 then clear_step key places
    else (if nat_lt done parts then AddCall
    else share_step (part_key key first (done - parts)) hand)

-- a swap: write-cell clears the first cell, writes its reference into the second and takes the second's in hand, and writes that into the first
abbrev pub swap_step : ℕ → ℕ → ℕ → Option Hand → List Held → WordStep
swap_step one two done hand places =
    if done == 0 then clear_step one places
    else (if done == 1 then Write two (put_down hand) (in_hand (held_at places two))
    else put_step one hand)

-- a trim: write-cell clears the cell, sub-bytes subtracts so many bytes, write-cell writes the lowered size
abbrev pub trim_step : ℕ → ℕ → ℕ → Option Hand → List Held → WordStep
trim_step key bytes done hand places =
    if done == 0 then clear_step key places
    else (if done == 1 then SubtractBytes bytes
    else put_step key hand)

-- the step that comes after so many, with this in hand, these places and these runs
abbrev pub step_of : CpuOp → ℕ → Option Hand → List Held → List (Option Run) → WordStep
step_of (Open key section index size) done hand places inside = open_step key (tag_in inside section index) size done hand
step_of (Close key) done hand places inside = close_step key done hand places
step_of (Split key parts first) done hand places inside = split_step key parts first done hand places
step_of (Swap one two) done hand places inside = swap_step one two done hand places
step_of (Trim key bytes) done hand places inside = trim_step key bytes done hand places
step_of (Enter section) done hand places inside = GoIn section
step_of (Leave section) done hand places inside = GoOut section

-- the op names the key
abbrev pub names_key : ℕ → CpuOp → Bool
names_key key (Open named section index size) = named == key
names_key key (Close named) = named == key
names_key key (Split named parts first) = (named == key) || is_new_key key parts first
names_key key (Swap one two) = (one == key) || (two == key)
names_key key (Trim named bytes) = named == key
names_key key other = false

-- ---- when a step is refused

-- an op names its keys from its first step to its last
abbrev pub first_names : ℕ → List CpuOp → Bool
first_names key [] = false
first_names key (op ∷ ops) = names_key key op

abbrev pub reserves : ℕ → Waiting → Bool
reserves key w = not (w.done == 0) && first_names key w.ops

abbrev pub is_reserved : ℕ → List Waiting → Bool
is_reserved key waiting = list_any (reserves key) waiting

-- the key holds something, or an op under way names it
abbrev pub is_used : List Held → List Waiting → ℕ → Bool
is_used places waiting key = not (holds_nothing (held_at places key)) || is_reserved key waiting

-- the key holds a reference, and no op under way names it
abbrev pub is_live : List Held → List Waiting → ℕ → Bool
is_live places waiting key = is_counted (held_at places key) && not (is_reserved key waiting)

-- what a CPU sees of the modules: whether the manager holds the list, the list, and the CPU's own runs
pub record Scene : Type 0 where
  pub held : Bool
  pub list : ListState
  pub inside : List (Option Run)

-- the tag is a module's, and the CPU isn't inside
abbrev pub is_outside : ℕ → List (Option Run) → Bool
is_outside section inside = not (section == 0) && not (is_some (run_at inside section))

abbrev pub open_refusal : List Held → List Waiting → List (Option Run) → ℕ → ℕ → Option StepRefused
open_refusal places waiting inside key section =
    if is_used places waiting key then Some (KeyUsed key)
    else (if is_outside section inside then Some (NotRunning section)
    else None)

abbrev pub close_refusal : List Held → List Waiting → ℕ → Option StepRefused
close_refusal places waiting key = if not (is_live places waiting key) then Some (NotLive key) else None

-- the lowest new key of a split that is used
abbrev pub used_key : List Held → List Waiting → ℕ → ℕ → Option ℕ
used_key places waiting parts first = find (is_used places waiting) (new_keys parts first)

-- a used key comes before what else is refused
abbrev pub unless_used : Option ℕ → Option StepRefused → Option StepRefused
unless_used None rest = rest
unless_used (Some key) rest = Some (KeyUsed key)

abbrev pub split_refusal : List Held → List Waiting → ℕ → ℕ → ℕ → Option StepRefused
split_refusal places waiting key parts first =
    if not (is_live places waiting key) then Some (NotLive key)
    else unless_used (used_key places waiting parts first)
    (if not (size_of (held_at places key) % parts == 0) then Some Uneven else None)

abbrev pub swap_refusal : List Held → List Waiting → ℕ → ℕ → Option StepRefused
swap_refusal places waiting one two =
    if not (is_live places waiting one) then Some (NotLive one)
    else (if not (is_live places waiting two) then Some (NotLive two)
    else None)

abbrev pub trim_refusal : List Held → List Waiting → ℕ → ℕ → Option StepRefused
trim_refusal places waiting key bytes =
    if not (is_live places waiting key) then Some (NotLive key)
    else (if not (nat_lt bytes (size_of (held_at places key))) then Some TooSmall
    else None)

abbrev pub enter_refusal : Scene → ℕ → Option StepRefused
enter_refusal scene section =
    if scene.held then Some ListHeld
    else (if not (is_some (loaded_entry section scene.list)) then Some (NotLoaded section)
    else (if is_some (run_at scene.inside section) then Some (Inside section)
    else None))

abbrev pub leave_refusal : Scene → ℕ → Option StepRefused
leave_refusal scene section =
    if scene.held then Some ListHeld
    else (if not (is_some (run_at scene.inside section)) then Some (NotRunning section)
    else None)

-- an op's first step
abbrev pub first_refusal : List Held → List Waiting → Scene → CpuOp → Option StepRefused
first_refusal places waiting scene (Open key section index size) = open_refusal places waiting scene.inside key section
first_refusal places waiting scene (Close key) = close_refusal places waiting key
first_refusal places waiting scene (Split key parts first) = split_refusal places waiting key parts first
first_refusal places waiting scene (Swap one two) = swap_refusal places waiting one two
first_refusal places waiting scene (Trim key bytes) = trim_refusal places waiting key bytes
first_refusal places waiting scene (Enter section) = enter_refusal scene section
first_refusal places waiting scene (Leave section) = leave_refusal scene section

abbrev pub refusal_in : Machine → Scene → List CpuOp → ℕ → Option StepRefused
refusal_in m scene [] done = Some NoStep
refusal_in m scene (op ∷ ops) done = if done == 0 then first_refusal m.places m.waiting scene op else None

-- why the CPU's next step is refused, if it is
abbrev pub refusal_of : Machine → Scene → ℕ → Option StepRefused
refusal_of m scene cpu = let w = waiting_at m cpu in refusal_in m scene w.ops w.done

-- ---- what a step changes

abbrev pub with_bytes : ℕ → Option Hand → Option Hand
with_bytes bytes None = None
with_bytes bytes (Some h) = Some (record h { bytes = bytes })

abbrev pub with_call : Option Hand → Option Hand
with_call None = None
with_call (Some h) = Some (record h { calls = h.calls + 1 })

abbrev pub less_bytes : ℕ → Option Hand → Option Hand
less_bytes bytes None = None
less_bytes bytes (Some h) = Some (record h { bytes = h.bytes - bytes })

abbrev pub less_call : Option Hand → Option Hand
less_call None = None
less_call (Some h) = without_call h

abbrev pub hand_after : WordStep → Option Hand → Option Hand
hand_after (BeginAllocation tag) hand = Some (record { tag = tag; bytes = 0; calls = 1; opening = true })
hand_after (AddBytes size) hand = with_bytes size hand
hand_after AddCall hand = with_call hand
hand_after (SubtractBytes bytes) hand = less_bytes bytes hand
hand_after SubtractCall hand = less_call hand
hand_after (Write key held next) hand = next
hand_after other hand = hand

abbrev pub places_after : WordStep → List Held → List Held
places_after (Write key held next) places = slice_set places key held
places_after other places = places

-- a word of the tag in hand is raised
abbrev pub raised_in_hand : Option Hand → Kind → ℕ → List ℕ → List ℕ
raised_in_hand None kind n words = words
raised_in_hand (Some h) kind n words = raised kind h.tag.number n words

-- a word of the tag in hand is lowered
abbrev pub lowered_in_hand : Option Hand → Kind → ℕ → List ℕ → List ℕ
lowered_in_hand None kind n words = words
lowered_in_hand (Some h) kind n words = lowered kind h.tag.number n words

abbrev pub words_after : WordStep → Option Hand → List ℕ → List ℕ
words_after (BeginAllocation tag) hand words = raised Calls tag.number 1 words
words_after (AddBytes size) hand words = raised_in_hand hand Bytes size words
words_after AddCall hand words = raised_in_hand hand Calls 1 words
words_after (SubtractBytes bytes) hand words = lowered_in_hand hand Bytes bytes words
words_after SubtractCall hand words = lowered_in_hand hand Calls 1 words
words_after other hand words = words

-- a move on a word of the tag in hand
abbrev pub move_in_hand : ℕ → Option Hand → Kind → ℕ → ℕ → List Move
move_in_hand cpu None kind up down = []
move_in_hand cpu (Some h) kind up down = record { cpu = cpu; kind = kind; tag = h.tag.number; up = up; down = down } ∷ []

-- the step as a move of the CPU's words
abbrev pub moves_of : ℕ → WordStep → Option Hand → List Move
moves_of cpu (BeginAllocation tag) hand = record { cpu = cpu; kind = Calls; tag = tag.number; up = 1; down = 0 } ∷ []
moves_of cpu (AddBytes size) hand = move_in_hand cpu hand Bytes size 0
moves_of cpu AddCall hand = move_in_hand cpu hand Calls 1 0
moves_of cpu (SubtractBytes bytes) hand = move_in_hand cpu hand Bytes 0 bytes
moves_of cpu SubtractCall hand = move_in_hand cpu hand Calls 0 1
moves_of cpu other hand = []

-- one step more is done, and after an op's last step the next op is the first
abbrev pub advanced : List CpuOp → ℕ → Waiting
advanced [] done = nothing_waits
advanced (op ∷ ops) done = if done + 1 == step_count op then record { ops = ops; done = 0 } else record { ops = op ∷ ops; done = done + 1 }

abbrev pub step_in : Machine → List (Option Run) → ℕ → List CpuOp → ℕ → Option WordStep
step_in m inside cpu [] done = None
step_in m inside cpu (op ∷ ops) done = Some (step_of op done (hand_at m cpu) m.places inside)

-- the CPU's next step, if anything waits
abbrev pub step_at : Machine → List (Option Run) → ℕ → Option WordStep
step_at m inside cpu = let w = waiting_at m cpu in step_in m inside cpu w.ops w.done

-- the CPU takes a step of its first op
abbrev pub machine_after : Machine → ℕ → WordStep → Waiting → Machine
machine_after m cpu step next = record {
  hands = slice_set m.hands cpu (hand_after step (hand_at m cpu));
  places = places_after step m.places;
  waiting = slice_set m.waiting cpu next;
}

abbrev pub stepped_by : Machine → List (Option Run) → ℕ → List CpuOp → ℕ → Machine
stepped_by m inside cpu [] done = m
stepped_by m inside cpu (op ∷ ops) done = machine_after m cpu (step_of op done (hand_at m cpu) m.places inside) (advanced (op ∷ ops) done)

-- the machine after the CPU's next step
abbrev pub after_step : Machine → List (Option Run) → ℕ → Machine
after_step m inside cpu = let w = waiting_at m cpu in stepped_by m inside cpu w.ops w.done

abbrev pub own_words_in : Option WordStep → Option Hand → List ℕ → List ℕ
own_words_in None hand own = own
own_words_in (Some step) hand own = words_after step hand own

-- the CPU's own words after its next step
abbrev pub own_words_after : Machine → List (Option Run) → List ℕ → ℕ → List ℕ
own_words_after m inside own cpu = own_words_in (step_at m inside cpu) (hand_at m cpu) own

abbrev pub moves_in : Machine → List (Option Run) → ℕ → List CpuOp → ℕ → List Move
moves_in m inside cpu [] done = []
moves_in m inside cpu (op ∷ ops) done = moves_of cpu (step_of op done (hand_at m cpu) m.places inside) (hand_at m cpu)

-- the moves of the CPU's next step
abbrev pub moves_of_step : Machine → List (Option Run) → ℕ → List Move
moves_of_step m inside cpu = let w = waiting_at m cpu in moves_in m inside cpu w.ops w.done
