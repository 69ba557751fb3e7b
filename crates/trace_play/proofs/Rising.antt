-- No key stands twice.
use Rattle.std.proofs.Common.{◌≡◌, ℕ, true, T, List, [], ◌∷◌, Option, Some, None, refl, sym, ap, ◌∙◌, subst}
use Rattle.std.specs.Prelude.{fold, ◌&&◌, map, length}
use Rattle.std.specs.List.{list_all, range_with_len}
use Rattle.module_area.specs.declared.entry.Entry.{Entry}
use Rattle.input_form.specs.declared.code.Code.{Code}
use Rattle.trace.specs.declared.traces.Item.{Item}
use Rattle.trace.specs.declared.traces.Item.TheVariants as item
use Rattle.trace.specs.declared.traces.OnOp.{OnOp}
use Rattle.trace.specs.declared.traces.Trace.{Trace}
use Rattle.trace.specs.declared.traces.TraceOp.{TraceOp}
use Rattle.trace.specs.declared.traces.TraceOp.TheVariants as op
use Rattle.trace_play.specs.Live.{Live}
use Rattle.trace_play.specs.Worker.{WorkerState, done, all_done}
use Rattle.trace_play.specs.Machine.{Machine, worker_at}
use Rattle.trace_play.specs.Barrier.{ops_of, cpu_done, cpus_done, module_done, modules_done, storage_home, on_its_way, none_on_its_way, round_done}
use Rattle.trace_play.specs.Play.{Played, Outcome, refusal_of, item_played, play, played_so_far, nothing_played}
use Rattle.trace_play.specs.Alone.{rises, names_only, named_by}
use Rattle.trace_play.proofs.AloneLemmas.{holding, all_touch, still_rises}

-- ---- folds

pub fold_keeps : {A B : Type 0} (P : B → Type 0) (f : B → A → B) → ((b : B) (x : A) → P b → P (f b x)) → (xs : List A) (b : B) → P b → P (fold f b xs)
fold_keeps P f step [] b h = h
fold_keeps P f step (x ∷ xs) b h = fold_keeps P f step xs (f b x) (step b x h)

-- what each item keeps holds after any of them
pub play_keeps : (P : Machine → Type 0) (trace : Trace) (top : Option ℕ) → ((item : Item) (p : Played) → P p.machine → P (item_played trace top item p).machine)
    → (items : List Item) (p : Played) → P p.machine → P (play trace top items p).played.machine
play_keeps P trace top step [] p h = h
play_keeps P trace top step (item ∷ items) p h =
    elim (refusal_of trace item p) as (λ (why : Option (ℕ × Code)). P (elim why as (λ _. Outcome) [ None ↦ play trace top items (item_played trace top item p) | Some why ↦ record { played = p; refused = Some why } ]).played.machine) [
      | None ↦ play_keeps P trace top step items (item_played trace top item p) (step item p h)
      | Some why ↦ h
    ]

-- ---- keys

all_pass : (keys : List ℕ) → list_all (λ _. true) keys ≡ true
all_pass [] = refl
all_pass (key ∷ keys) = all_pass keys

names_any : (entries : List Entry) (ops : List TraceOp) (w : WorkerState) → names_only (λ _. true) entries ops w ≡ true
names_any entries [] w = refl
names_any entries (what ∷ ops) w = ap (λ b. b && names_only (λ _. true) entries ops (done entries what w)) (all_pass (named_by w.live what)) ∙ names_any entries ops (done entries what w)

pub worker_rises : (entries : List Entry) (ops : List TraceOp) (w : WorkerState) → T (rises w.live) → T (rises (all_done entries ops w).live)
worker_rises entries ops w r = still_rises w.live (all_done entries ops w).live (all_touch (λ _. true) entries ops w (names_any entries ops w)) r

pub cpus_rise : (ops : List OnOp) (m : Machine) → T (rises m.live) → T (rises (cpus_done ops m).live)
cpus_rise ops m r = fold_keeps (λ (x : Machine). T (rises x.live)) (cpu_done ops) (λ x cpu h. worker_rises x.area.entries (ops_of cpu ops) (worker_at cpu x) h) (range_with_len 0 (length m.seats)) m r

module_live : (m : Machine) (what : TraceOp) → (module_done m what).live ≡ m.live
module_live m (op.Page key order) = refl
module_live m (op.Kmalloc key size) = refl
module_live m (op.Free key) = refl
module_live m (op.Split key order first) = refl
module_live m (op.Swap one two) = refl
module_live m (op.Trim key pages) = refl
module_live m (op.Hook section index) = refl
module_live m op.Unhook = refl
module_live m (op.Enter section) = refl
module_live m (op.Leave section) = refl
module_live m (op.Unload section) = refl

pub modules_live : (ops : List OnOp) (m : Machine) → (modules_done ops m).live ≡ m.live
modules_live ops m = fold_keeps (λ (x : Machine). x.live ≡ m.live) module_done (λ x what h. module_live x what ∙ h) (map (λ (on : OnOp). on.op) ops) m refl

-- behind the ops a round leaves the live list as it is
pub round_live : (ops : List OnOp) (m : Machine) → (round_done ops m).live ≡ (cpus_done ops m).live
round_live ops m =
    let left = cpus_done ops m in
    let marked = modules_done ops left in
    fold_keeps (λ (x : Machine). x.live ≡ marked.live) storage_home (λ x given h. h) (on_its_way marked) (none_on_its_way marked) refl
    ∙ modules_live ops left

pub item_rises : (trace : Trace) (top : Option ℕ) (what : Item) (p : Played) → T (rises p.machine.live) → T (rises (item_played trace top what p).machine.live)
item_rises trace top (item.Round ops) p r = subst (λ (live : Live). T (rises live)) (sym (round_live ops p.machine)) (cpus_rise ops p.machine r)
item_rises trace top (item.Load line section) p r = r
item_rises trace top item.Print p r = r
item_rises trace top item.Areas p r = r

pub keys_rise : (trace : Trace) (top : Option ℕ) (items : List Item) → rises (played_so_far trace top items).played.machine.live ≡ true
keys_rise trace top items = holding _ (play_keeps (λ (m : Machine). T (rises m.live)) trace top (item_rises trace top) items (nothing_played trace) tt)
