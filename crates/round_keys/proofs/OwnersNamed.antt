-- A bound key that the ops of a round name is of the CPU whose op names it outright first.
use Rattle.std.proofs.Common.{◌≡◌, ◌≢◌, ℕ, zero, suc, ◌<◌, ◌≤◌, Bool, true, false, cond, not, ◌||◌, T, eqb, List, [], ◌∷◌, length, get_or, replicate, Option, Some, None, Ok, IfOk, IsSome, is_some, All, refl, sym, ap, ◌∙◌, subst, arith, ne_eqb, eq-eqb}
use Rattle.std.specs.Prelude.{◌&&◌, option_map}
use Rattle.std.specs.List.{find}
use Rattle.std.proofs.lemmas.Result.{IfOk-at_ok}
use Rattle.std.proofs.lemmas.List.{length-set}
use Rattle.std.proofs.lemmas.List.Elements.{All-head, All-tail, All-weaker}
use Rattle.input_form.specs.declared.code.Code.TheVariants as code
use Rattle.input_form.proofs.Judged.{bind_ok, at_ok, checked}
use Rattle.trace.specs.Formed.{IsFormedItem, IsFormedTrace}
use Rattle.trace.specs.declared.traces.Item.{Item}
use Rattle.trace.specs.declared.traces.Item.TheVariants as item
use Rattle.trace.specs.declared.traces.OnOp.{OnOp}
use Rattle.trace.specs.declared.traces.Trace.{Trace}
use Rattle.trace.specs.declared.traces.TraceOp.{TraceOp}
use Rattle.trace.specs.declared.traces.TraceOp.TheVariants as op
use Rattle.round_check.specs.declared.keys.Bound.{Bound}
use Rattle.round_check.specs.declared.keys.KeyState.{KeyState}
use Rattle.round_check.specs.declared.walk.Walk.{Walk}
use Rattle.round_check.specs.Formed.{FitsOn, FitsItem}
use Rattle.round_check.specs.Keys.{key_at}
use Rattle.round_check.specs.Rounds.{is_one_of, names_key, new_keys, IsRound}
use Rattle.round_check.specs.Tables.{unbound, unbound_keys}
use Rattle.round_check.specs.Walk.{start, begun, module_at, load_module, walk_ops, walk_item, walk_items, rounds_of}
use Rattle.round_check.proofs.Named.{by_bool}
use Rattle.round_check.proofs.Passed.{Fits, Passed, op_ok, fits_on}
use Rattle.round_check.proofs.Pairs.{IsOf, first_line, kept_on, of_kept, round_of, fits_item, start_fits, all_front}
use Rattle.trace_play.specs.Live.{Content, Live}
use Rattle.trace_play.specs.Machine.{Machine}
use Rattle.trace_play.specs.Play.{played_so_far}
use Rattle.trace_play.specs.Alone.{rises, kept}
use Rattle.trace_play.specs.Fits.{entry_at, Agree, IsBoundAs, is_owner}
use Rattle.trace_play.proofs.AloneLemmas.{holds}
use Rattle.trace_play.proofs.Entries.{find_kept, sorted_kept, same}
use Rattle.trace_play.proofs.Told.{OpTold, line_told}
use Rattle.trace_play.proofs.TraceFits.{before_round}
use Rattle.round_worker.specs.Shown.{WorkerShown}
use Rattle.round_keys.specs.Handed.{names, is_cpu, handed, with_lives}

some_none : {A P : Type 0} (o : Option A) → IsSome o → o ≡ None → P
some_none o some none = let no : ⊥ = cc (ap is_some none, some) in absurd no

-- ---- which keys an op names

both_or : (a b : Bool) → (a || b) ≡ true → (a || (b || false)) ≡ true
both_or true b e = refl
both_or false true e = refl
both_or false false e = e

neither_or : (a b : Bool) → (a || b) ≡ false → (a || (b || false)) ≡ false
neither_or true b e = e
neither_or false true e = e
neither_or false false e = refl

none_in : {P : Type 0} → false ≡ true → P
none_in e = let no : ⊥ = cc in absurd no

outright_named : (keys : List KeyState) (what : TraceOp) (q : ℕ) → names what q ≡ true → names_key keys what q ≡ true
outright_named keys (op.Page key order) q e = ap (λ b. b || false) e
outright_named keys (op.Kmalloc key size) q e = ap (λ b. b || false) e
outright_named keys (op.Free key) q e = ap (λ b. b || false) e
outright_named keys (op.Split key order first) q e = ap (λ b. b || is_one_of (new_keys (key_at keys key).bound order first) q) e
outright_named keys (op.Swap one two) q e = both_or (eqb one q) (eqb two q) e
outright_named keys (op.Trim key pages) q e = ap (λ b. b || false) e
outright_named keys (op.Hook section index) q e = none_in e
outright_named keys op.Unhook q e = none_in e
outright_named keys (op.Enter section) q e = none_in e
outright_named keys (op.Leave section) q e = none_in e
outright_named keys (op.Unload section) q e = none_in e

-- a bound key that isn't named outright isn't named: a split's new keys were free
else_unnamed : (cpu : ℕ) (here next : Walk) (what : TraceOp) (q : ℕ) → OpTold cpu what here next → IsSome (key_at here.keys q).bound → names what q ≡ false → names_key here.keys what q ≡ false
else_unnamed cpu here next (op.Page key order) q told some e = ap (λ b. b || false) e
else_unnamed cpu here next (op.Kmalloc key size) q told some e = ap (λ b. b || false) e
else_unnamed cpu here next (op.Free key) q told some e = ap (λ b. b || false) e
else_unnamed cpu here next (op.Split key order first) q told some e =
    let new = new_keys (key_at here.keys key).bound order first in
    ap (λ b. b || is_one_of new q) e
    ∙ by_bool {P = is_one_of new q ≡ false} (is_one_of new q)
    (λ named. some_none (key_at here.keys q).bound some (told.free q (subst (λ b. is_one_of (new_keys b order first) q ≡ true) told.found named)))
    (λ none. none)
else_unnamed cpu here next (op.Swap one two) q told some e = neither_or (eqb one q) (eqb two q) e
else_unnamed cpu here next (op.Trim key pages) q told some e = ap (λ b. b || false) e
else_unnamed cpu here next (op.Hook section index) q told some e = refl
else_unnamed cpu here next op.Unhook q told some e = refl
else_unnamed cpu here next (op.Enter section) q told some e = refl
else_unnamed cpu here next (op.Leave section) q told some e = refl
else_unnamed cpu here next (op.Unload section) q told some e = refl

-- ---- along the lines of a round

-- the key is bound, and no line of the round has named it
record IsUntouched (key : ℕ) (here : Walk) : Type 0 where
  unmarked : (key_at here.keys key).round ≢ here.round
  bound : IsSome (key_at here.keys key).bound

-- who named it last is the only owner
one_owner : (after : Walk) (c key : ℕ) → IsOf c key after → (cpu : ℕ) → eqb c cpu ≡ is_owner after cpu key
one_owner after c key of cpu =
    ap (λ n. eqb n cpu) (sym of.cpu_is)
    ∙ sym (ap (λ b. b && eqb (key_at after.keys key).cpu cpu) (eq-eqb (key_at after.keys key).round after.round of.round))

no_owner : (after : Walk) (key : ℕ) → IsUntouched key after → (cpu : ℕ) → false ≡ is_owner after cpu key
no_owner after key un cpu = sym (ap (λ b. b && eqb (key_at after.keys key).cpu cpu) (ne_eqb (key_at after.keys key).round after.round un.unmarked))

module _ (after : Walk) (key : ℕ) where
  by_first : (ops : List OnOp) (here : Walk) → All FitsOn ops → Fits here → walk_ops ops here ≡ Ok after → IsUntouched key here → (cpu : ℕ) → handed ops cpu key ≡ is_owner after cpu key
  by_first [] here are fits e un cpu = let same_walk : here ≡ after = cc in no_owner after key (subst (IsUntouched key) same_walk un) cpu
  by_first (on ∷ ops) here are fits e un cpu =
      let first = first_line on ops here after e in
      let next = first.0 in
      let fits_line = All-head FitsOn on ops are in
      let later = All-tail FitsOn on ops are in
      let passed = op_ok on.cpu on.op here next fits fits_line.1 first.1 in
      let fits_next = fits_on on.cpu on.op here next fits passed in
      by (names on.op key)
      (λ outright.
      let named = outright_named here.keys on.op key outright in
      let below : key < 65536 = passed.keys.owns.within key named in
      let stamped = passed.keys.binds.stamped key named (omega (arith, fits.keys)) in
      let now : IsOf on.cpu key next = record { round = stamped.0 ∙ sym passed.round; cpu_is = stamped.1 } in
      let at_end = (kept_on (λ walk. (length walk.keys ≡ 65536) × IsOf on.cpu key walk) (of_kept on.cpu key below) ops next after later fits_next first.2 (passed.keys.binds.long ∙ fits.keys, now)).0.1 in
      one_owner after on.cpu key at_end cpu)
      (λ not_outright.
      let same_state = passed.keys.binds.others key (else_unnamed on.cpu here next on.op key (line_told on.cpu on.op here next first.1) un.bound not_outright) in
      by_first ops next later fits_next first.2
      (record {
        unmarked = λ h. un.unmarked (ap (λ (s : KeyState). s.round) (sym same_state) ∙ h ∙ passed.round);
        bound = subst (λ (s : KeyState). IsSome s.bound) (sym same_state) un.bound;
      }) cpu)
    where
      by : (b : Bool) → (b ≡ true → eqb on.cpu cpu ≡ is_owner after cpu key) → (b ≡ false → handed ops cpu key ≡ is_owner after cpu key)
          → is_cpu cpu (option_map (λ (x : OnOp). x.cpu) (cond b (Some on) (find (λ (x : OnOp). names x.op key) ops))) ≡ is_owner after cpu key
      by true f g = f refl
      by false f g = g refl

-- ---- the marks before a round are of earlier ones

abbrev AreLow : Walk → Type 0
AreLow walk = (q : ℕ) → (key_at walk.keys q).round ≤ walk.round

low_on : (on : OnOp) (walk new : Walk) → Passed on.cpu on.op walk new → (length walk.keys ≡ 65536) × AreLow walk → (length new.keys ≡ 65536) × AreLow new
low_on on walk new passed h = (
  passed.keys.binds.long ∙ h.0,
  λ q. by_bool (names_key walk.keys on.op q)
      (λ named.
      let below = passed.keys.owns.within q named in
      let stamped = passed.keys.binds.stamped q named (omega (arith, h.0)) in
      omega (arith, stamped.0, passed.round))
      (λ other.
      let was = h.1 q in
      let is = ap (λ (s : KeyState). s.round) (passed.keys.binds.others q other) in
      omega (arith, is, passed.round)),
)

load_low : (walk : Walk) (section : ℕ) → Fits walk → AreLow walk → IfOk (load_module walk section) (λ next. AreLow next × Fits next)
unfolding load_module
load_low walk section fits low =
    let after : Walk → Type 0 = λ next. AreLow next × Fits next in
    checked after (not (module_at walk section).loaded) (code.AlreadyLoaded section) _
    (λ _. (low, record { keys = fits.keys; modules = length-set walk.modules section _ ∙ fits.modules }))

item_low : (i : Item) (walk new : Walk) → FitsItem i → Fits walk → AreLow walk → walk_item i walk ≡ Ok new → AreLow new × Fits new
unfolding walk_item
item_low (item.Round ops) walk new are fits low e =
    let left = kept_on (λ x. (length x.keys ≡ 65536) × AreLow x) low_on ops (begun walk) new are (record { keys = fits.keys; modules = fits.modules }) e
    (fits.keys, λ q. let was = low q in omega arith) in
    (left.0.1, left.1)
item_low (item.Load line section) walk new are fits low e = IfOk-at_ok (λ next. AreLow next × Fits next) (at_ok line (load_module walk section) new e) (load_low walk section fits low)
item_low item.Print walk new are fits low e = let same_walk : walk ≡ new = cc in subst (λ x. AreLow x × Fits x) same_walk (low, fits)
item_low item.Areas walk new are fits low e = let same_walk : walk ≡ new = cc in subst (λ x. AreLow x × Fits x) same_walk (low, fits)

items_low : (items : List Item) (walk new : Walk) → All FitsItem items → Fits walk → AreLow walk → walk_items items walk ≡ Ok new → AreLow new
items_low [] walk new are fits low e = let same_walk : walk ≡ new = cc in subst AreLow same_walk low
items_low (i ∷ items) walk new are fits low e =
    let b = bind_ok (walk_item i walk) (λ next. walk_items items next) new e in
    let one = item_low i walk b.0 (All-head FitsItem i items are) fits low b.1 in
    items_low items b.0 new (All-tail FitsItem i items are) one.1 one.0 b.2

all_unbound : (n key : ℕ) → get_or (replicate n unbound) key unbound ≡ unbound
all_unbound zero key = refl
all_unbound (suc n) zero = refl
all_unbound (suc n) (suc key) = all_unbound n key

none_marked : (n q : ℕ) → (key_at (unbound_keys n) q).round ≡ 0
unfolding unbound_keys
none_marked n q = ap (λ (s : KeyState). s.round) (all_unbound n q)

start_low : AreLow start
start_low q = let zero_there = none_marked 65536 q in omega (arith, zero_there)

-- ---- tests that agree at the bound keys

no_content : {A : Type 0} (a b : Bool) → cond {A = Option A} a None None ≡ cond {A = Option A} b None None
no_content true true = refl
no_content true false = refl
no_content false true = refl
no_content false false = refl

at_found : {A : Type 0} (a b : Bool) (o : Option A) → ((x : A) → o ≡ Some x → a ≡ b) → cond a o None ≡ cond b o None
at_found a b None g = no_content a b
at_found a b (Some x) g = ap (λ c. cond c (Some x) None) (g x refl)

pub kept_alike : (p r : ℕ → Bool) (live : Live) → T (rises live) → ((q : ℕ) (content : Content) → entry_at q live ≡ Some content → p q ≡ r q) → kept p live ≡ kept r live
kept_alike p r live up h =
    same _ _ (sorted_kept p live up) (sorted_kept r live up)
    (λ q. find_kept p q live ∙ at_found (p q) (r q) (entry_at q live) (h q) ∙ sym (find_kept r q live))

-- ---- a round of a checked trace

bound_there : (bound : Option Bound) (content : Content) → IsBoundAs bound (Some content) → IsSome bound
bound_there None content h = absurd h
bound_there (Some what) content h = refl

module _ (trace : Trace) (top : Option ℕ) (ops : List OnOp) (before after : Walk) (formed : IsFormedTrace trace) (passes : rounds_of trace ≡ Ok tt) (round : IsRound trace ops before)
    (none : (played_so_far trace top round.front).refused ≡ None) (walked : walk_ops ops before ≡ Ok after) where
  abbrev machine : Machine
  machine = (played_so_far trace top round.front).played.machine

  left_low : AreLow round.left
  left_low =
      let all : All FitsItem trace.body = All-weaker (IsFormedItem trace.cpus trace.sections) FitsItem (λ i is. fits_item trace.cpus trace.sections i formed.cpus.1 formed.sections.few is) trace.body formed.items in
      items_low round.front start round.left (all_front FitsItem round.front (item.Round ops ∷ round.back) (subst (All FitsItem) round.stands all)) start_fits start_low round.walked

  untouched : (q : ℕ) (content : Content) → entry_at q machine.live ≡ Some content → IsUntouched q before
  untouched q content found =
      let agree : Agree round.left.keys machine.live = (before_round trace top ops before formed round none).agree in
      let was = left_low q in
      subst (IsUntouched q) (sym round.begins)
      (record {
        unmarked = λ e. let no : ⊥ = omega (arith, e, was) in no;
        bound = bound_there (key_at round.left.keys q).bound content (subst (IsBoundAs (key_at round.left.keys q).bound) found (agree q));
      })

  -- a bound key goes to its owner
  pub bound_to_owner : (q : ℕ) (content : Content) → entry_at q machine.live ≡ Some content → (cpu : ℕ) → handed ops cpu q ≡ is_owner after cpu q
  bound_to_owner q content found cpu =
      let r = round_of trace ops before formed passes round in
      by_first after q ops before r.are r.fits walked (untouched q content found) cpu

  pub named_are_owners : (cpu : ℕ) → kept (handed ops cpu) machine.live ≡ kept (is_owner after cpu) machine.live
  named_are_owners cpu = kept_alike (handed ops cpu) (is_owner after cpu) machine.live (holds (before_round trace top ops before formed round none).rise) (λ q content found. bound_to_owner q content found cpu)

  -- so the workers begin with what the meaning's workers begin with
  pub handed_to_owners : (workers : List WorkerShown) → with_lives (λ cpu. kept (handed ops cpu) machine.live) workers ≡ with_lives (λ cpu. kept (is_owner after cpu) machine.live) workers
  handed_to_owners workers = (λ i. with_lives (λ cpu. named_are_owners cpu i) workers)
