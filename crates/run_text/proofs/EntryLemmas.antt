-- The entries of a well formed trace's machine are of modules' sections.
use Rattle.std.proofs.Common.{◌≡◌, ℕ, ◌+◌, ◌<◌, Bool, true, false, cond, not, List, [], ◌∷◌, ◌++◌, map, length, unwrap_or, All, Option, None, Some, refl, subst}
use Rattle.std.specs.Prelude.{◌&&◌}
use Rattle.std.specs.List.{range_with_len}
use Rattle.std.proofs.lemmas.List.Elements.{All-nil, All-cons, All-append, All-filter, All-head, All-map, All-tail, All-weaker}
use Rattle.module_area.specs.declared.entry.Entry.{Entry}
use Rattle.module_area.specs.declared.entry.State.TheVariants.{Loaded}
use Rattle.module_area.specs.Area.{least_start}
use Rattle.module_area.specs.Entries.{is_dead, is_loaded_as, kept}
use Rattle.tag_section.specs.Section.{Section}
use Rattle.reclaim.specs.State.{IsNamed}
use Rattle.trace.specs.Formed.{IsFormedItem, IsFormedTrace}
use Rattle.trace.specs.declared.traces.Item.{Item}
use Rattle.trace.specs.declared.traces.Item.TheVariants as item
use Rattle.trace.specs.declared.traces.OnOp.{OnOp}
use Rattle.trace.specs.declared.traces.Trace.{Trace}
use Rattle.trace.specs.declared.traces.TraceOp.{TraceOp}
use Rattle.trace.specs.declared.traces.TraceOp.TheVariants as op
use Rattle.trace_play.specs.Barrier.{all_home, cpu_done, cpus_done, is_named, module_done, modules_done, none_on_its_way, on_its_way, round_done, storage_home}
use Rattle.trace_play.specs.Machine.{Machine}
use Rattle.trace_play.specs.Play.{Outcome, Played, item_played, nothing_played, play, played_so_far, refusal_of, section_len}
use Rattle.trace_play.proofs.Rising.{fold_keeps}
use Rattle.input_form.specs.declared.code.Code.{Code}
use Rattle.round_check.proofs.Pairs.{all_front}

-- the entry is that of a module's section, and has its length
abbrev pub IsOfModule : List Section → Entry → Type 0
IsOfModule sections e = (0 < e.section) × IsNamed sections e

module _ (trace : Trace) (top : Option ℕ) where
  abbrev Holds : Machine → Type 0
  Holds m = All (IsOfModule trace.sections) m.area.entries

  unloads : (section : ℕ) (entries : List Entry) → All (IsOfModule trace.sections) entries
      → All (IsOfModule trace.sections) (map (λ (e : Entry). cond (is_loaded_as section e) (kept e) e) entries)
  unloads section entries all =
      All-map (IsOfModule trace.sections) (λ (e : Entry). cond (is_loaded_as section e) (kept e) e) entries
      (All-weaker (IsOfModule trace.sections) (λ (e : Entry). IsOfModule trace.sections (cond (is_loaded_as section e) (kept e) e)) (λ e is. by e is (is_loaded_as section e)) entries all)
    where
      by : (e : Entry) → IsOfModule trace.sections e → (b : Bool) → IsOfModule trace.sections (cond b (kept e) e)
      by e is true = is
      by e is false = is

  one_line : (m : Machine) (what : TraceOp) → Holds m → Holds (module_done m what)
  one_line m (op.Page key order) all = all
  one_line m (op.Kmalloc key size) all = all
  one_line m (op.Free key) all = all
  one_line m (op.Split key order first) all = all
  one_line m (op.Swap one two) all = all
  one_line m (op.Trim key pages) all = all
  one_line m (op.Hook section index) all = all
  one_line m op.Unhook all = all
  one_line m (op.Enter section) all = all
  one_line m (op.Leave section) all = all
  one_line m (op.Unload section) all = unloads section m.area.entries all

  one_round : (ops : List OnOp) (m : Machine) → Holds m → Holds (round_done ops m)
  one_round ops m all =
      let left = cpus_done ops m in
      let marked = modules_done ops left in
      let home = all_home marked in
      let ran : Holds left = fold_keeps Holds (cpu_done ops) (λ x cpu h. h) (range_with_len 0 (length m.seats)) m all in
      let ended : Holds marked = fold_keeps Holds module_done one_line (map (λ (on : OnOp). on.op) ops) left ran in
      let came : Holds home = fold_keeps Holds storage_home (λ x given h. h) (on_its_way marked) (none_on_its_way marked) ended in
      All-filter (λ (e : Entry). not (is_dead e.state && not (is_named e.id home))) (IsOfModule trace.sections) home.area.entries came

  one_item : (what : Item) (p : Played) → IsFormedItem trace.cpus trace.sections what → Holds p.machine → Holds (item_played trace top what p).machine
  one_item (item.Round ops) p is all = one_round ops p.machine all
  one_item (item.Load line section) p is all =
      let m = p.machine in
      let size = section_len trace section in
      let entry : Entry = record { id = m.last_id + 1; section = section; start = unwrap_or (least_start m.area size) 0; length = size; state = Loaded; users = 0 } in
      All-append (IsOfModule trace.sections) m.area.entries (entry ∷ []) all
      (All-cons (IsOfModule trace.sections) entry [] (is.0, (is.1, refl)) (All-nil (IsOfModule trace.sections)))
  one_item item.Print p is all = all
  one_item item.Areas p is all = all

  items_hold : (items : List Item) (p : Played) → All (IsFormedItem trace.cpus trace.sections) items → Holds p.machine → Holds (play trace top items p).played.machine
  items_hold [] p are all = all
  items_hold (what ∷ items) p are all =
      elim (refusal_of trace what p) as (λ (why : Option (ℕ × Code)). Holds (elim why as (λ _. Outcome) [ None ↦ play trace top items (item_played trace top what p) | Some w ↦ record { played = p; refused = Some w } ]).played.machine) [
        | None ↦ items_hold items (item_played trace top what p) (All-tail (IsFormedItem trace.cpus trace.sections) what items are) (one_item what p (All-head (IsFormedItem trace.cpus trace.sections) what items are) all)
        | Some w ↦ all
      ]

pub entries_of_modules : (trace : Trace) (top : Option ℕ) → IsFormedTrace trace → (front back : List Item) → trace.body ≡ front ++ back
    → All (IsOfModule trace.sections) (played_so_far trace top front).played.machine.area.entries
entries_of_modules trace top formed front back stands =
    items_hold trace top front (nothing_played trace)
    (all_front (IsFormedItem trace.cpus trace.sections) front back (subst (All (IsFormedItem trace.cpus trace.sections)) stands formed.items))
    (All-nil (IsOfModule trace.sections))
