-- Two lines of a round that passed.
use Rattle.std.proofs.Common.{◌≡◌, ◌≢◌, ℕ, ◌<◌, ◌≤◌, Bool, true, false, not, ◌&&◌, eqb, List, [], ◌∷◌, ◌++◌, length, Ok, IfOk, All, IsSome, refl, sym, ap, ◌∙◌, subst, arith}
use Rattle.std.specs.Bool.{⊤}
use Rattle.std.proofs.lemmas.Result.{IfOk-at_ok}
use Rattle.std.proofs.lemmas.Bool.{eqb-true, eq-eqb}
use Rattle.std.proofs.lemmas.List.{length-replicate, length-set}
use Rattle.std.proofs.lemmas.List.Elements.{All-cons, All-head, All-tail, All-weaker}
use Rattle.tag_section.specs.Section.{Section}
use Rattle.input_form.specs.declared.code.Code.TheVariants as code
use Rattle.trace.specs.declared.traces.Item.{Item}
use Rattle.trace.specs.declared.traces.Item.TheVariants as item
use Rattle.trace.specs.declared.traces.OnOp.{OnOp}
use Rattle.trace.specs.declared.traces.Trace.{Trace}
use Rattle.trace.specs.declared.traces.TraceOp.{TraceOp}
use Rattle.trace.specs.declared.traces.TraceOp.TheVariants as op
use Rattle.trace.specs.Formed.{IsFormedOp, IsFormedOn, IsFormedItem, IsFormedTrace}
use Rattle.input_form.specs.Judging.{at}
use Rattle.input_form.proofs.Judged.{bind_ok, at_ok, checked}
use Rattle.round_check.specs.declared.keys.KeyState.{KeyState}
use Rattle.round_check.specs.declared.walk.Walk.{Walk}
use Rattle.round_check.specs.Formed.{FitsOp, FitsOn, FitsItem}
use Rattle.round_check.specs.Keys.{key_at}
use Rattle.round_check.specs.Rounds.{names_key, IsRound, IsLine}
use Rattle.round_check.specs.Tables.{unbound, unbound_keys, absent, absent_modules}
use Rattle.round_check.specs.Walk.{start, begun, module_at, load_module, walk_op, walk_ops, walk_item, walk_items, rounds_of}
use Rattle.round_check.proofs.Named.{by_bool}
use Rattle.round_check.proofs.Passed.{Fits, Passed, op_ok, fits_on, free_ok, Enters, enters, leaves, unloads}

-- ---- lists of lines

-- the first of some lines
pub first_line : (on : OnOp) (others : List OnOp) (walk new : Walk) → walk_ops (on ∷ others) walk ≡ Ok new → (next : Walk) × (walk_op on.cpu on.op walk ≡ Ok next) × (walk_ops others next ≡ Ok new)
first_line on others walk new e =
    let b = bind_ok (at on.line (walk_op on.cpu on.op walk)) (λ next. walk_ops others next) new e in
    (b.0, at_ok on.line (walk_op on.cpu on.op walk) b.0 b.1, b.2)

-- what the front leaves, and what stands behind it
behind : (front back : List OnOp) (walk here new : Walk) → walk_ops front walk ≡ Ok here → walk_ops (front ++ back) walk ≡ Ok new → walk_ops back here ≡ Ok new
behind [] back walk here new f e = let same : walk ≡ here = cc in subst (λ w. walk_ops back w ≡ Ok new) same e
behind (on ∷ front) back walk here new f e =
    let one = first_line on front walk here f in
    let two = first_line on (front ++ back) walk new e in
    let same : two.0 ≡ one.0 = cc (two.1, one.1) in
    behind front back one.0 here new one.2 (subst (λ w. walk_ops (front ++ back) w ≡ Ok new) same two.2)

-- a property that each line that passes keeps
module _ (P : Walk → Type 0) (keeps : (on : OnOp) (walk new : Walk) → Passed on.cpu on.op walk new → P walk → P new) where
  pub kept_on : (ops : List OnOp) (walk new : Walk) → All FitsOn ops → Fits walk → walk_ops ops walk ≡ Ok new → P walk → P new × Fits new
  kept_on [] walk new are fits e h = let same : walk ≡ new = cc in (subst P same h, subst Fits same fits)
  kept_on (on ∷ ops) walk new are fits e h =
      let one = first_line on ops walk new e in
      let passed = op_ok on.cpu on.op walk one.0 fits (All-head FitsOn on ops are).1 one.1 in
      kept_on ops one.0 new (All-tail FitsOn on ops are) (fits_on on.cpu on.op walk one.0 fits passed) one.2 (keeps on walk one.0 passed h)

pub fits_ops : (ops : List OnOp) (walk new : Walk) → All FitsOn ops → Fits walk → walk_ops ops walk ≡ Ok new → Fits new
fits_ops ops walk new are fits e = (kept_on (λ _. ⊤) (λ on walk new p h. tt) ops walk new are fits e tt).1

-- where two lines of a list stand
data Places (ops : List OnOp) (one two : OnOp) (front front' : List OnOp) : Type 0 where
  Same : one ≡ two → Places ops one two front front'
  Before : (middle : List OnOp) → front' ≡ front ++ one ∷ middle → Places ops one two front front'
  After : (middle : List OnOp) → front ≡ front' ++ two ∷ middle → Places ops one two front front'

places : (ops : List OnOp) (one two : OnOp) (front front' back back' : List OnOp) → ops ≡ front ++ one ∷ back → ops ≡ front' ++ two ∷ back' → Places ops one two front front'
places ops one two [] [] back back' a b = Same (let e : one ∷ back ≡ two ∷ back' = sym a ∙ b in let same : one ≡ two = cc in same)
places ops one two [] (on ∷ front') back back' a b =
    let e : one ∷ back ≡ on ∷ front' ++ two ∷ back' = sym a ∙ b in
    let same : on ≡ one = cc in
    Before front' (ap (λ x. x ∷ front') same)
places ops one two (on ∷ front) [] back back' a b =
    let e : on ∷ front ++ one ∷ back ≡ two ∷ back' = sym a ∙ b in
    let same : on ≡ two = cc in
    After front (ap (λ x. x ∷ front) same)
places ops one two (on ∷ front) (on' ∷ front') back back' a b =
    let e : on ∷ front ++ one ∷ back ≡ on' ∷ front' ++ two ∷ back' = sym a ∙ b in
    let same : on ≡ on' = cc in
    let rest : front ++ one ∷ back ≡ front' ++ two ∷ back' = cc in
    elim (places (front ++ one ∷ back) one two front front' back back' refl rest) [
      | Same h ↦ Same h
      | Before middle h ↦ Before middle (ap (λ x. x ∷ front') (sym same) ∙ ap (λ xs. on ∷ xs) h)
      | After middle h ↦ After middle (ap (λ x. x ∷ front) same ∙ ap (λ xs. on' ∷ xs) h)
    ]

-- ---- a line and a later one

pub record InOrder (one two : OnOp) (at_one at_two : Walk) : Type 0 where
  pub fits : Fits at_one
  pub fits_one : FitsOn one
  pub next : Walk
  pub passed : walk_op one.cpu one.op at_one ≡ Ok next
  pub middle : List OnOp
  pub are : All FitsOn middle
  pub between : walk_ops middle next ≡ Ok at_two
  pub fits_two : FitsOn two
  pub last : Walk
  pub passed_two : walk_op two.cpu two.op at_two ≡ Ok last

pub all_behind : {X : Type 0} (P : X → Type 0) (front : List X) (x : X) (back : List X) → All P (front ++ x ∷ back) → P x × All P back
all_behind P [] x back h = (All-head P x back h, All-tail P x back h)
all_behind P (y ∷ front) x back h = all_behind P front x back (All-tail P y (front ++ x ∷ back) h)

pub all_front : {X : Type 0} (P : X → Type 0) (front back : List X) → All P (front ++ back) → All P front
all_front P [] back h = λ k d below. absurd (omega arith)
all_front P (y ∷ front) back h = All-cons P y front (All-head P y (front ++ back) h) (all_front P front back (All-tail P y (front ++ back) h))

in_order : (ops : List OnOp) (before after : Walk) → All FitsOn ops → Fits before → walk_ops ops before ≡ Ok after → (one two : OnOp) (at_one at_two : Walk) (first : IsLine before ops one at_one) (second : IsLine before ops two at_two) (middle : List OnOp) → second.front ≡ first.front ++ one ∷ middle → InOrder one two at_one at_two
in_order ops before after are fits e one two at_one at_two first second middle h =
    let whole = subst (λ xs. walk_ops xs before ≡ Ok after) second.stands e in
    let rest = first_line two second.back at_two after (behind second.front (two ∷ second.back) before at_two after second.walked whole) in
    let some = first_line one middle at_one at_two (behind first.front (one ∷ middle) before at_one at_two first.walked (subst (λ xs. walk_ops xs before ≡ Ok at_two) h second.walked)) in
    let all_first = subst (All FitsOn) first.stands are in
    let all_second = subst (All FitsOn) second.stands are in
    let fronts = subst (All FitsOn) h (all_front FitsOn second.front (two ∷ second.back) all_second) in
    let here = all_behind FitsOn first.front one middle fronts in
    record {
      fits = fits_ops first.front before at_one (all_front FitsOn first.front (one ∷ first.back) all_first) fits first.walked;
      fits_one = here.0;
      next = some.0;
      passed = some.1;
      middle = middle;
      are = here.1;
      between = some.2;
      fits_two = (all_behind FitsOn second.front two second.back all_second).0;
      last = rest.0;
      passed_two = rest.1;
    }

-- the line's CPU has named the key in this round
pub record IsOf (cpu key : ℕ) (walk : Walk) : Type 0 where
  pub round : (key_at walk.keys key).round ≡ walk.round
  pub cpu_is : (key_at walk.keys key).cpu ≡ cpu

own_cpu : (a b : ℕ) (c d : ℕ) → not (eqb a b && not (eqb c d)) ≡ true → a ≡ b → c ≡ d
own_cpu a b c d own same =
    let yes : eqb a b ≡ true = eq-eqb a b same in
    let left : not (not (eqb c d)) ≡ true = ap (λ t. not (t && not (eqb c d))) (sym yes) ∙ own in
    eqb-true c d (twice (eqb c d) left)
  where
    twice : (t : Bool) → not (not t) ≡ true → t ≡ true
    twice true h = refl
    twice false h = let no : ⊥ = cc in absurd no

-- a later line that names the key is of the same CPU
named_by : (cpu key : ℕ) (on : OnOp) (walk new : Walk) → Passed on.cpu on.op walk new → IsOf cpu key walk → names_key walk.keys on.op key ≡ true → on.cpu ≡ cpu
named_by cpu key on walk new passed of named = sym (own_cpu _ _ _ on.cpu (passed.keys.owns.own key named) of.round) ∙ of.cpu_is

pub of_kept : (cpu key : ℕ) → key < 65536 → (on : OnOp) (walk new : Walk) → Passed on.cpu on.op walk new → (length walk.keys ≡ 65536) × IsOf cpu key walk → (length new.keys ≡ 65536) × IsOf cpu key new
of_kept cpu key below on walk new passed h =
    by_bool (names_key walk.keys on.op key)
    (λ named.
    let stamped = passed.keys.binds.stamped key named (omega (arith, h.0)) in
    (passed.keys.binds.long ∙ h.0, record { round = stamped.0 ∙ sym passed.round; cpu_is = stamped.1 ∙ named_by cpu key on walk new passed h.1 named }))
    (λ other.
    let same = passed.keys.binds.others key other in
    (passed.keys.binds.long ∙ h.0, record { round = ap (λ (s : KeyState). s.round) same ∙ h.1.round ∙ sym passed.round; cpu_is = ap (λ (s : KeyState). s.cpu) same ∙ h.1.cpu_is }))

pub same_cpu : (one two : OnOp) (at_one at_two : Walk) → InOrder one two at_one at_two → (key : ℕ) → names_key at_one.keys one.op key ≡ true → names_key at_two.keys two.op key ≡ true → two.cpu ≡ one.cpu
same_cpu one two at_one at_two o key named named' =
    let passed = op_ok one.cpu one.op at_one o.next o.fits o.fits_one.1 o.passed in
    let below = passed.keys.owns.within key named in
    let fits = fits_on one.cpu one.op at_one o.next o.fits passed in
    let stamped = passed.keys.binds.stamped key named (omega (arith, o.fits.keys)) in
    let later = kept_on (λ walk. (length walk.keys ≡ 65536) × IsOf one.cpu key walk) (of_kept one.cpu key below) o.middle o.next at_two o.are fits o.between
    (fits.keys, record { round = stamped.0 ∙ sym passed.round; cpu_is = stamped.1 }) in
    named_by one.cpu key two at_two o.last (op_ok two.cpu two.op at_two o.last later.1 o.fits_two.1 o.passed_two) later.0.1 named'

-- ---- modules

at_op : (on : OnOp) (what : TraceOp) (walk new : Walk) → on.op ≡ what → walk_op on.cpu on.op walk ≡ Ok new → walk_op on.cpu what walk ≡ Ok new
at_op on what walk new is e = subst (λ w. walk_op on.cpu w walk ≡ Ok new) is e

-- after an unload, up to a later line
unloaded_there : (one two : OnOp) (at_one at_two : Walk) → InOrder one two at_one at_two → (section : ℕ) → one.op ≡ op.Unload section → (section < 65) × ((module_at at_two section).unloaded ≡ at_two.round) × Fits at_two
unloaded_there one two at_one at_two o section is =
    let below = subst FitsOp is o.fits_one.1 in
    let passed = op_ok one.cpu one.op at_one o.next o.fits o.fits_one.1 o.passed in
    let left = (unloads one.cpu section at_one o.next o.fits below (at_op one (op.Unload section) at_one o.next is o.passed)).leaves in
    let later = kept_on (λ walk. (module_at walk section).unloaded ≡ walk.round) (λ on walk new p h. p.stays.unloaded section h) o.middle o.next at_two o.are (fits_on one.cpu one.op at_one o.next o.fits passed) o.between (left ∙ sym passed.round) in
    (below, later.0, later.1)

-- after an enter or a leave, up to a later line
moved_there : (one two : OnOp) (at_one at_two : Walk) → (o : InOrder one two at_one at_two) → (section : ℕ) → section < 65 → Enters at_one o.next section → ((module_at at_two section).moved ≡ at_two.round) × Fits at_two
moved_there one two at_one at_two o section below here =
    let passed = op_ok one.cpu one.op at_one o.next o.fits o.fits_one.1 o.passed in
    kept_on (λ walk. (module_at walk section).moved ≡ walk.round) (λ on walk new p h. p.stays.moved section h) o.middle o.next at_two o.are (fits_on one.cpu one.op at_one o.next o.fits passed) o.between (here.leaves ∙ sym passed.round)

unload_then_enter : (one two : OnOp) (at_one at_two : Walk) → InOrder one two at_one at_two → (section : ℕ) → one.op ≡ op.Unload section → two.op ≢ op.Enter section
unload_then_enter one two at_one at_two o section is other =
    let there = unloaded_there one two at_one at_two o section is in
    (enters two.cpu section at_two o.last there.2 there.0 (at_op two (op.Enter section) at_two o.last other o.passed_two)).found there.1

unload_then_leave : (one two : OnOp) (at_one at_two : Walk) → InOrder one two at_one at_two → (section : ℕ) → one.op ≡ op.Unload section → two.op ≢ op.Leave section
unload_then_leave one two at_one at_two o section is other =
    let there = unloaded_there one two at_one at_two o section is in
    (leaves two.cpu section at_two o.last there.2 there.0 (at_op two (op.Leave section) at_two o.last other o.passed_two)).found there.1

enter_then_unload : (one two : OnOp) (at_one at_two : Walk) → InOrder one two at_one at_two → (section : ℕ) → one.op ≡ op.Enter section → two.op ≢ op.Unload section
enter_then_unload one two at_one at_two o section is other =
    let below = subst FitsOp is o.fits_one.1 in
    let there = moved_there one two at_one at_two o section below (enters one.cpu section at_one o.next o.fits below (at_op one (op.Enter section) at_one o.next is o.passed)) in
    (unloads two.cpu section at_two o.last there.1 below (at_op two (op.Unload section) at_two o.last other o.passed_two)).found there.0

leave_then_unload : (one two : OnOp) (at_one at_two : Walk) → InOrder one two at_one at_two → (section : ℕ) → one.op ≡ op.Leave section → two.op ≢ op.Unload section
leave_then_unload one two at_one at_two o section is other =
    let below = subst FitsOp is o.fits_one.1 in
    let there = moved_there one two at_one at_two o section below (leaves one.cpu section at_one o.next o.fits below (at_op one (op.Leave section) at_one o.next is o.passed)) in
    (unloads two.cpu section at_two o.last there.1 below (at_op two (op.Unload section) at_two o.last other o.passed_two)).found there.0

-- ---- rounds of a trace

fits_op : (sections : List Section) (what : TraceOp) → length sections ≤ 65 → IsFormedOp sections what → FitsOp what
fits_op sections (op.Page key order) few is = is
fits_op sections (op.Kmalloc key size) few is = is.0
fits_op sections (op.Free key) few is = is
fits_op sections (op.Split key order first) few is = is
fits_op sections (op.Swap one two) few is = (is.0, is.1)
fits_op sections (op.Trim key pages) few is = is.0
fits_op sections (op.Hook section index) few is = omega (arith, is.0)
fits_op sections op.Unhook few is = tt
fits_op sections (op.Enter section) few is = omega (arith, is.1)
fits_op sections (op.Leave section) few is = omega (arith, is.1)
fits_op sections (op.Unload section) few is = omega (arith, is.1)

pub fits_all : (cpus : ℕ) (sections : List Section) (ops : List OnOp) → cpus ≤ 64 → length sections ≤ 65 → All (IsFormedOn cpus sections) ops → All FitsOn ops
fits_all cpus sections ops low few are = All-weaker (IsFormedOn cpus sections) FitsOn (λ on is. (omega (arith, is.0), fits_op sections on.op few is.1)) ops are

pub fits_item : (cpus : ℕ) (sections : List Section) (i : Item) → cpus ≤ 64 → length sections ≤ 65 → IsFormedItem cpus sections i → FitsItem i
fits_item cpus sections (item.Round ops) low few is = fits_all cpus sections ops low few is
fits_item cpus sections (item.Load line section) low few is = omega (arith, is.1)
fits_item cpus sections item.Print low few is = tt
fits_item cpus sections item.Areas low few is = tt

load_fits : (walk : Walk) (section : ℕ) → Fits walk → IfOk (load_module walk section) Fits
unfolding load_module
load_fits walk section fits =
    checked Fits (not (module_at walk section).loaded) (code.AlreadyLoaded section) _
    (λ _. record { keys = fits.keys; modules = length-set walk.modules section _ ∙ fits.modules })

item_fits : (i : Item) (walk new : Walk) → FitsItem i → Fits walk → walk_item i walk ≡ Ok new → Fits new
unfolding walk_item
item_fits (item.Round ops) walk new are fits e = fits_ops ops (begun walk) new are (record { keys = fits.keys; modules = fits.modules }) e
item_fits (item.Load line section) walk new are fits e = IfOk-at_ok Fits (at_ok line (load_module walk section) new e) (load_fits walk section fits)
item_fits item.Print walk new are fits e = let same : walk ≡ new = cc in subst Fits same fits
item_fits item.Areas walk new are fits e = let same : walk ≡ new = cc in subst Fits same fits

items_fit : (items : List Item) (walk new : Walk) → All FitsItem items → Fits walk → walk_items items walk ≡ Ok new → Fits new
items_fit [] walk new are fits e = let same : walk ≡ new = cc in subst Fits same fits
items_fit (i ∷ items) walk new are fits e =
    let b = bind_ok (walk_item i walk) (λ next. walk_items items next) new e in
    items_fit items b.0 new (All-tail FitsItem i items are) (item_fits i walk b.0 (All-head FitsItem i items are) fits b.1) b.2

pub items_behind : (front back : List Item) (walk here new : Walk) → walk_items front walk ≡ Ok here → walk_items (front ++ back) walk ≡ Ok new → walk_items back here ≡ Ok new
items_behind [] back walk here new f e = let same : walk ≡ here = cc in subst (λ w. walk_items back w ≡ Ok new) same e
items_behind (i ∷ front) back walk here new f e =
    let one = bind_ok (walk_item i walk) (λ next. walk_items front next) here f in
    let two = bind_ok (walk_item i walk) (λ next. walk_items (front ++ back) next) new e in
    let same : two.0 ≡ one.0 = cc (two.1, one.1) in
    items_behind front back one.0 here new one.2 (subst (λ w. walk_items (front ++ back) w ≡ Ok new) same two.2)

round_at : (ops : List OnOp) (back : List Item) (left new : Walk) → walk_items (item.Round ops ∷ back) left ≡ Ok new → (after : Walk) × (walk_ops ops (begun left) ≡ Ok after)
unfolding walk_item
round_at ops back left new e = let b = bind_ok (walk_item (item.Round ops) left) (λ next. walk_items back next) new e in (b.0, b.1)

long_keys : (n : ℕ) → length (unbound_keys n) ≡ n
unfolding unbound_keys
long_keys n = length-replicate n unbound

long_modules : (n : ℕ) → length (absent_modules n) ≡ n
unfolding absent_modules
long_modules n = length-replicate n absent

pub start_fits : Fits start
start_fits = record { keys = long_keys 65536; modules = long_modules 65 }

-- a round of a trace that the check takes
pub record Round (ops : List OnOp) (before : Walk) : Type 0 where
  pub are : All FitsOn ops
  pub fits : Fits before
  pub after : Walk
  pub walked : walk_ops ops before ≡ Ok after

pub round_of : (trace : Trace) (ops : List OnOp) (before : Walk) → IsFormedTrace trace → rounds_of trace ≡ Ok tt → IsRound trace ops before → Round ops before
unfolding rounds_of
round_of trace ops before formed e r =
    let end = bind_ok (walk_items trace.body start) (λ walk. Ok tt) tt e in
    let items : All FitsItem trace.body = All-weaker (IsFormedItem trace.cpus trace.sections) FitsItem (λ i is. fits_item trace.cpus trace.sections i formed.cpus.1 formed.sections.few is) trace.body formed.items in
    let parts = subst (All FitsItem) r.stands items in
    let whole = subst (λ xs. walk_items xs start ≡ Ok end.0) r.stands end.1 in
    let after = round_at ops r.back r.left end.0 (items_behind r.front (item.Round ops ∷ r.back) start r.left end.0 r.walked whole) in
    let fits = items_fit r.front start r.left (all_front FitsItem r.front (item.Round ops ∷ r.back) parts) start_fits r.walked in
    record {
      are = (all_behind FitsItem r.front (item.Round ops) r.back parts).0;
      fits = subst Fits (sym r.begins) (record { keys = fits.keys; modules = fits.modules });
      after = after.0;
      walked = subst (λ walk. walk_ops ops walk ≡ Ok after.0) (sym r.begins) after.1;
    }

-- ---- the laws

-- of two lines, what holds of one and a later one, of either
of_both : (P : OnOp → OnOp → Type 0) (ops : List OnOp) (before : Walk) → Round ops before → (one two : OnOp) (at_one at_two : Walk) (first : IsLine before ops one at_one) (second : IsLine before ops two at_two)
    → (one ≡ two → P one two) → (InOrder one two at_one at_two → P one two) → (InOrder two one at_two at_one → P one two) → P one two
of_both P ops before r one two at_one at_two first second same earlier later =
    elim (places ops one two first.front second.front first.back second.back first.stands second.stands) [
      | Same h ↦ same h
      | Before middle h ↦ earlier (in_order ops before r.after r.are r.fits r.walked one two at_one at_two first second middle h)
      | After middle h ↦ later (in_order ops before r.after r.are r.fits r.walked two one at_two at_one second first middle h)
    ]

pub keys_apart : (ops : List OnOp) (before : Walk) → Round ops before → (one two : OnOp) (at_one at_two : Walk) → IsLine before ops one at_one → IsLine before ops two at_two → (key : ℕ) → names_key at_one.keys one.op key ≡ true → names_key at_two.keys two.op key ≡ true → one.cpu ≡ two.cpu
keys_apart ops before r one two at_one at_two first second key named named' =
    of_both (λ (a b : OnOp). a.cpu ≡ b.cpu) ops before r one two at_one at_two first second
    (λ h. ap (λ (o : OnOp). o.cpu) h)
    (λ o. sym (same_cpu one two at_one at_two o key named named'))
    (λ o. same_cpu two one at_two at_one o key named' named)

unlike_enter : (section : ℕ) → op.Unload section ≡ op.Enter section → ⊥
unlike_enter section e = let no : ⊥ = cc in no

unlike_leave : (section : ℕ) → op.Unload section ≡ op.Leave section → ⊥
unlike_leave section e = let no : ⊥ = cc in no

pub unloads_apart : (ops : List OnOp) (before : Walk) → Round ops before → (one two : OnOp) (at_one at_two : Walk) → IsLine before ops one at_one → IsLine before ops two at_two → (section : ℕ) → one.op ≡ op.Unload section → (two.op ≢ op.Enter section) × (two.op ≢ op.Leave section)
unloads_apart ops before r one two at_one at_two first second section is =
    of_both (λ (a b : OnOp). (b.op ≢ op.Enter section) × (b.op ≢ op.Leave section)) ops before r one two at_one at_two first second
    (λ h.
    let here : two.op ≡ op.Unload section = sym (ap (λ (o : OnOp). o.op) h) ∙ is in
    (λ e. unlike_enter section (sym here ∙ e), λ e. unlike_leave section (sym here ∙ e)))
    (λ o. (unload_then_enter one two at_one at_two o section is, unload_then_leave one two at_one at_two o section is))
    (λ o. (λ e. enter_then_unload two one at_two at_one o section e is, λ e. leave_then_unload two one at_two at_one o section e is))

pub freed_bound : (ops : List OnOp) (before : Walk) → Round ops before → (on : OnOp) (here : Walk) → IsLine before ops on here → (key : ℕ) → on.op ≡ op.Free key → IsSome (key_at here.keys key).bound
freed_bound ops before r on here line key is =
    let all = subst (All FitsOn) line.stands r.are in
    let whole = subst (λ xs. walk_ops xs before ≡ Ok r.after) line.stands r.walked in
    let rest = first_line on line.back here r.after (behind line.front (on ∷ line.back) before here r.after line.walked whole) in
    let fits = subst FitsOp is (all_behind FitsOn line.front on line.back all).0.1 in
    free_ok on.cpu key here rest.0 (omega (arith, fits.1)) (at_op on (op.Free key) here rest.0 is rest.1)
