-- Each round of a checked trace fits what the items before it left.
use Rattle.std.proofs.Common.{◌≡◌, ℕ, ◌<◌, true, not, List, [], ◌∷◌, length, map, get_or, replicate, zero, suc, Option, Some, None, Ok, IfOk, All, refl, sym, ap, ◌∙◌, subst, subst₂}
use Rattle.std.specs.List.{range_with_len}
use Rattle.std.proofs.lemmas.Result.{IfOk-at_ok}
use Rattle.std.proofs.lemmas.List.{length-set, length-map}
use Rattle.std.proofs.lemmas.List.FromFn.{length-map-range_with_len}
use Rattle.std.proofs.lemmas.List.Elements.{All-head, All-tail, All-weaker}
use Rattle.input_form.specs.declared.code.Code.{Code}
use Rattle.input_form.specs.declared.code.Code.TheVariants as code
use Rattle.input_form.proofs.Judged.{bind_ok, at_ok, checked}
use Rattle.trace.specs.declared.traces.Item.{Item}
use Rattle.trace.specs.declared.traces.Item.TheVariants as item
use Rattle.trace.specs.declared.traces.OnOp.{OnOp}
use Rattle.trace.specs.declared.traces.Trace.{Trace}
use Rattle.trace.specs.declared.traces.TraceOp.{TraceOp}
use Rattle.trace.specs.declared.traces.TraceOp.TheVariants as op
use Rattle.trace.specs.Formed.{IsFormedOn, IsFormedItem, IsFormedTrace}
use Rattle.round_check.specs.declared.walk.Walk.{Walk}
use Rattle.round_check.specs.Formed.{FitsOn, FitsItem}
use Rattle.round_check.specs.Keys.{key_at}
use Rattle.round_check.specs.Rounds.{IsRound}
use Rattle.round_check.specs.Tables.{unbound, unbound_keys}
use Rattle.round_check.specs.Walk.{start, begun, module_at, load_module, walk_ops, walk_item, walk_items, rounds_of}
use Rattle.round_check.proofs.Passed.{Fits}
use Rattle.round_check.proofs.Pairs.{round_of, fits_ops, fits_item, start_fits, all_front, all_behind}
use Rattle.trace_play.specs.Live.{Live}
use Rattle.trace_play.specs.Machine.{Machine, machine_of, fresh_seat}
use Rattle.trace_play.specs.Barrier.{cpu_done, cpus_done, module_done, modules_done, storage_home, on_its_way, none_on_its_way, none_returning, round_done}
use Rattle.trace_play.specs.Play.{Played, Outcome, refusal_of, item_played, play, played_so_far, nothing_played}
use Rattle.trace_play.specs.Alone.{rises}
use Rattle.trace_play.specs.Fits.{Agree, IsBoundAs, RoundFits}
use Rattle.trace_play.proofs.AloneLemmas.{holds, holding}
use Rattle.trace_play.proofs.Rising.{fold_keeps, play_keeps, item_rises, round_live}
use Rattle.trace_play.proofs.RoundFits.{round_fits}

-- ---- how many CPUs there are

pub module_seats : (m : Machine) (what : TraceOp) → (module_done m what).seats ≡ m.seats
module_seats m (op.Page key order) = refl
module_seats m (op.Kmalloc key size) = refl
module_seats m (op.Free key) = refl
module_seats m (op.Split key order first) = refl
module_seats m (op.Swap one two) = refl
module_seats m (op.Trim key pages) = refl
module_seats m (op.Hook section index) = refl
module_seats m op.Unhook = refl
module_seats m (op.Enter section) = refl
module_seats m (op.Leave section) = refl
module_seats m (op.Unload section) = refl

pub modules_seats : (ops : List OnOp) (m : Machine) → (modules_done ops m).seats ≡ m.seats
modules_seats ops m = fold_keeps (λ (x : Machine). x.seats ≡ m.seats) module_done (λ x what h. module_seats x what ∙ h) (map (λ (on : OnOp). on.op) ops) m refl

pub cpus_count : (ops : List OnOp) (m : Machine) → length (cpus_done ops m).seats ≡ length m.seats
cpus_count ops m = fold_keeps (λ (x : Machine). length x.seats ≡ length m.seats) (cpu_done ops) (λ x cpu h. length-set x.seats cpu _ ∙ h) (range_with_len 0 (length m.seats)) m refl

pub round_count : (ops : List OnOp) (m : Machine) → length (round_done ops m).seats ≡ length m.seats
round_count ops m =
    let marked = modules_done ops (cpus_done ops m) in
    fold_keeps (λ (x : Machine). length x.seats ≡ length marked.seats) storage_home (λ x given h. length-set x.seats _ _ ∙ h) (on_its_way marked) (none_on_its_way marked) (length-map marked.seats none_returning)
    ∙ ap length (modules_seats ops (cpus_done ops m))
    ∙ cpus_count ops m

item_count : (count : ℕ) (trace : Trace) (top : Option ℕ) (what : Item) (p : Played) → length p.machine.seats ≡ count → length (item_played trace top what p).machine.seats ≡ count
item_count count trace top (item.Round ops) p h = round_count ops p.machine ∙ h
item_count count trace top (item.Load line section) p h = h
item_count count trace top item.Print p h = h
item_count count trace top item.Areas p h = h

pub seats_count : (trace : Trace) (top : Option ℕ) (items : List Item) → length (played_so_far trace top items).played.machine.seats ≡ trace.cpus
seats_count trace top items =
    play_keeps (λ (m : Machine). length m.seats ≡ trace.cpus) trace top (item_count trace.cpus trace top) items (nothing_played trace) (length-map-range_with_len (fresh_seat trace.frames trace.vectors) 0 trace.cpus)

-- ---- an item

load_keys : (walk : Walk) (section : ℕ) → Fits walk → IfOk (load_module walk section) (λ next. (next.keys ≡ walk.keys) × Fits next)
unfolding load_module
load_keys walk section fits =
    let after : Walk → Type 0 = λ next. (next.keys ≡ walk.keys) × Fits next in
    checked after (not (module_at walk section).loaded) (code.AlreadyLoaded section) _
    (λ _. (refl, record { keys = fits.keys; modules = length-set walk.modules section _ ∙ fits.modules }))

-- what is known between two items
pub record Between (trace : Trace) (walk : Walk) (m : Machine) : Type 0 where
  pub fits : Fits walk
  pub rise : rises m.live ≡ true
  pub count : length m.seats ≡ trace.cpus
  pub agree : Agree walk.keys m.live

pub fits_of_round : (trace : Trace) (ops : List OnOp) (walk after : Walk) (m : Machine) → All FitsOn ops → All (IsFormedOn trace.cpus trace.sections) ops → Between trace walk m → walk_ops ops (begun walk) ≡ Ok after → RoundFits ops (begun walk) m
fits_of_round trace ops walk after m are formed b e =
    round_fits ops (begun walk) after m are
    (subst (λ n. All (λ (on : OnOp). on.cpu < n) ops) (sym b.count) (All-weaker (IsFormedOn trace.cpus trace.sections) (λ (on : OnOp). on.cpu < trace.cpus) (λ on is. is.0) ops formed))
    (record { keys = b.fits.keys; modules = b.fits.modules }) e b.rise b.agree

pub item_between : (trace : Trace) (top : Option ℕ) (what : Item) (walk next : Walk) (p : Played) → FitsItem what → IsFormedItem trace.cpus trace.sections what → walk_item what walk ≡ Ok next → Between trace walk p.machine
    → Between trace next (item_played trace top what p).machine
unfolding walk_item
item_between trace top (item.Round ops) walk next p are formed e b =
    let f = fits_of_round trace ops walk next p.machine are formed b e in
    let same : f.after ≡ next = cc (f.walked, e) in
    record {
      fits = fits_ops ops (begun walk) next are (record { keys = b.fits.keys; modules = b.fits.modules }) e;
      rise = holding _ (item_rises trace top (item.Round ops) p (holds b.rise));
      count = item_count trace.cpus trace top (item.Round ops) p b.count;
      agree = subst₂ (λ (x : Walk) (live : Live). Agree x.keys live) same (sym (round_live ops p.machine)) f.agree;
    }
item_between trace top (item.Load line section) walk next p are formed e b =
    let told = IfOk-at_ok (λ (x : Walk). (x.keys ≡ walk.keys) × Fits x) (at_ok line (load_module walk section) next e) (load_keys walk section b.fits) in
    record { fits = told.1; rise = b.rise; count = b.count; agree = subst (λ keys. Agree keys p.machine.live) (sym told.0) b.agree }
item_between trace top item.Print walk next p are formed e b = let same : walk ≡ next = cc in subst (λ (x : Walk). Between trace x p.machine) same b
item_between trace top item.Areas walk next p are formed e b = let same : walk ≡ next = cc in subst (λ (x : Walk). Between trace x p.machine) same b

-- ---- the items

items_between : (trace : Trace) (top : Option ℕ) (items : List Item) (walk next : Walk) (p : Played) → All FitsItem items → All (IsFormedItem trace.cpus trace.sections) items → walk_items items walk ≡ Ok next
    → Between trace walk p.machine → (play trace top items p).refused ≡ None → Between trace next (play trace top items p).played.machine
items_between trace top [] walk next p are formed e b none = let same : walk ≡ next = cc in subst (λ (x : Walk). Between trace x p.machine) same b
items_between trace top (what ∷ items) walk next p are formed e b none =
    let first = bind_ok (walk_item what walk) (λ x. walk_items items x) next e in
    let mid = item_between trace top what walk first.0 p (All-head FitsItem what items are) (All-head (IsFormedItem trace.cpus trace.sections) what items formed) first.1 b in
    elim (refusal_of trace what p) as (λ (why : Option (ℕ × Code)). (elim why as (λ _. Outcome) [ None ↦ play trace top items (item_played trace top what p) | Some w ↦ record { played = p; refused = Some w } ]).refused ≡ None
    → Between trace next (elim why as (λ _. Outcome) [ None ↦ play trace top items (item_played trace top what p) | Some w ↦ record { played = p; refused = Some w } ]).played.machine) [
      | None ↦ λ h. items_between trace top items first.0 next (item_played trace top what p) (All-tail FitsItem what items are) (All-tail (IsFormedItem trace.cpus trace.sections) what items formed) first.2 mid h
      | Some w ↦ λ h. let no : ⊥ = cc in absurd no
    ] none

no_key_bound : (n key : ℕ) → (key_at (unbound_keys n) key).bound ≡ None
unfolding unbound_keys
no_key_bound n key = ap (λ s. s.bound) (all_same n key)
  where
    all_same : (n key : ℕ) → get_or (replicate n unbound) key unbound ≡ unbound
    all_same zero key = refl
    all_same (suc n) zero = refl
    all_same (suc n) (suc key) = all_same n key

nothing_bound : Agree start.keys []
nothing_bound key = subst (λ b. IsBoundAs b None) (sym (no_key_bound 65536 key)) tt

pub begins_between : (trace : Trace) → Between trace start (machine_of trace)
begins_between trace = record { fits = start_fits; rise = refl; count = length-map-range_with_len (fresh_seat trace.frames trace.vectors) 0 trace.cpus; agree = nothing_bound }

-- after the items before a round
pub before_round : (trace : Trace) (top : Option ℕ) (ops : List OnOp) (before : Walk) → IsFormedTrace trace → (round : IsRound trace ops before) → (played_so_far trace top round.front).refused ≡ None
    → Between trace round.left (played_so_far trace top round.front).played.machine
before_round trace top ops before formed round none =
    let all : All FitsItem trace.body = All-weaker (IsFormedItem trace.cpus trace.sections) FitsItem (λ i is. fits_item trace.cpus trace.sections i formed.cpus.1 formed.sections.few is) trace.body formed.items in
    items_between trace top round.front start round.left (nothing_played trace)
    (all_front FitsItem round.front (item.Round ops ∷ round.back) (subst (All FitsItem) round.stands all))
    (all_front (IsFormedItem trace.cpus trace.sections) round.front (item.Round ops ∷ round.back) (subst (All (IsFormedItem trace.cpus trace.sections)) round.stands formed.items))
    round.walked (begins_between trace) none

pub rounds_fit : (trace : Trace) (top : Option ℕ) (ops : List OnOp) (before : Walk) → IsFormedTrace trace → rounds_of trace ≡ Ok tt → (round : IsRound trace ops before) → (played_so_far trace top round.front).refused ≡ None
    → RoundFits ops before (played_so_far trace top round.front).played.machine
rounds_fit trace top ops before formed passes round none =
    let r = round_of trace ops before formed passes round in
    let items = subst (All (IsFormedItem trace.cpus trace.sections)) round.stands formed.items in
    let m = (played_so_far trace top round.front).played.machine in
    subst (λ (walk : Walk). RoundFits ops walk m) (sym round.begins)
    (fits_of_round trace ops round.left r.after m r.are
    (all_behind (IsFormedItem trace.cpus trace.sections) round.front (item.Round ops) round.back items).0
    (before_round trace top ops before formed round none)
    (subst (λ (walk : Walk). walk_ops ops walk ≡ Ok r.after) round.begins r.walked))
