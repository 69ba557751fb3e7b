-- Each round of a checked trace is ready.
use Rattle.std.proofs.Common.{◌≡◌, ℕ, zero, suc, ◌+◌, ◌<◌, ◌≤◌, Bool, true, false, cond, not, ◌||◌, eqb, List, [], ◌∷◌, length, map, set, get_or, replicate, Option, Some, None, Ok, IfOk, All, is_some, inl, inr, ◌⊎◌, refl, sym, ap, ◌∙◌, subst, subst₂, arith, eqb-true, ne_eqb, eq-eqb}
use Rattle.std.specs.Prelude.{◌&&◌, if◌then◌else◌}
use Rattle.std.specs.List.{find, list_all, range_with_len}
use Rattle.std.specs.Option.{option_or}
use Rattle.std.proofs.lemmas.Bool.{eqb-false, cases_lt, or_left, or_right}
use Rattle.std.proofs.lemmas.Result.{IfOk-at_ok}
use Rattle.std.proofs.lemmas.Grind.{get_or-set_at}
use Rattle.std.proofs.lemmas.List.{length-set, get_or-set_other, get_or_past, length-replicate}
use Rattle.std.proofs.lemmas.List.FromFn.{length-map-range_with_len, get_or-map-range_with_len}
use Rattle.std.proofs.lemmas.List.Folds.{find-append}
use Rattle.std.proofs.lemmas.List.Sums.{sum_by-cons}
use Rattle.std.proofs.lemmas.List.Elements.{All-head, All-tail, All-weaker}
use Rattle.tag_model.specs.declared.state.Tag.{Tag}
use Rattle.module_area.specs.declared.entry.Entry.{Entry}
use Rattle.module_area.specs.Entries.{is_loaded_as}
use Rattle.input_form.specs.declared.code.Code.{Code}
use Rattle.input_form.specs.declared.code.Code.TheVariants as code
use Rattle.input_form.proofs.Judged.{at_ok, bind_ok, checked}
use Rattle.slab_cache.specs.Storage.{Storage, home_of}
use Rattle.slab_cache.specs.Homing.{come_home}
use Rattle.trace.specs.declared.traces.Item.{Item}
use Rattle.trace.specs.declared.traces.Item.TheVariants as item
use Rattle.trace.specs.declared.traces.OnOp.{OnOp}
use Rattle.trace.specs.declared.traces.Trace.{Trace}
use Rattle.trace.specs.declared.traces.TraceOp.{TraceOp}
use Rattle.trace.specs.Formed.{IsFormedOn, IsFormedItem, IsFormedTrace}
use Rattle.round_check.specs.declared.walk.Walk.{Walk}
use Rattle.round_check.specs.CpuState.{CpuState}
use Rattle.round_check.specs.Cpus.{idle, idle_cpus, cpu_at, is_inside}
use Rattle.round_check.specs.Formed.{FitsOn, FitsItem}
use Rattle.round_check.specs.Rounds.{IsRound}
use Rattle.round_check.specs.Tables.{absent, absent_modules}
use Rattle.round_check.specs.Walk.{start, begun, module_at, load_module, walk_ops, walk_item, walk_items, rounds_of}
use Rattle.round_check.proofs.Named.{by_bool}
use Rattle.round_check.proofs.Passed.{Fits}
use Rattle.round_check.proofs.Pairs.{round_of, fits_item, all_front, all_behind}
use Rattle.trace_play.specs.Live.{Content, Live}
use Rattle.trace_play.specs.Worker.{Seat, WorkerState, done, all_done, tag_from, tag_in}
use Rattle.trace_play.specs.Machine.{Machine, machine_of, fresh_seat, seat_at, worker_at}
use Rattle.trace_play.specs.Barrier.{ops_of, cpu_done, cpus_done, modules_done, on_its_way, none_returning, none_on_its_way, storage_home, all_home, is_named, round_done}
use Rattle.trace_play.specs.Play.{Played, Outcome, refusal_of, item_played, loaded, play, played_so_far, nothing_played, section_len}
use Rattle.trace_play.specs.Alone.{kept, alone, others}
use Rattle.trace_play.specs.Fits.{AllFit, is_owner, RoundFits}
use Rattle.trace_play.specs.Fitting.{Each, Fit, IsInRange, HookFits, FreeFits}
use Rattle.trace_play.specs.Sound.{content_weight, live_sum, is_away, IsSound}
use Rattle.trace_play.specs.Ready.{runs_inside, IsHook, HooksAre, none_out, one_more, IsReady}
use Rattle.trace_play.proofs.Entries.{sorted_kept}
use Rattle.trace_play.proofs.AloneLemmas.{holds}
use Rattle.trace_play.proofs.Rising.{fold_keeps}
use Rattle.trace_play.proofs.SideBySide.{each_has}
use Rattle.trace_play.proofs.Told.{not_true}
use Rattle.trace_play.proofs.TraceFits.{Between, begins_between, fits_of_round, item_between, modules_seats, round_count}
use Rattle.trace_play.proofs.WorkerSound.{AllSound, worker_sum, same_node}
use Rattle.trace_play.proofs.MachineSound.{elsewhere, to_worker, item_sound, first_sound}
use Rattle.trace_play.proofs.NeedsMet.{all_there, all_in_range}
use Rattle.trace_play.proofs.HooksFit.{either_or, hooks_map, HookState, pass_hooks}
use Rattle.trace_play.proofs.ModulesHold.{loaded_one, dead_go, module_set, is_loaded, Along, lines_along, entering_loaded}

-- ---- between items

-- what is inside is loaded, entries are loaded as the walk says, and each hook that is out is one of its section
pub record Modules (trace : Trace) (walk : Walk) (m : Machine) : Type 0 where
  pub long : length walk.cpus ≡ 64
  pub inside_loaded : (cpu section : ℕ) → is_inside section (cpu_at walk.cpus cpu) ≡ true → is_loaded walk section ≡ true
  pub agree : (section : ℕ) → is_loaded walk section ≡ is_some (loaded_one section m.area.entries)
  pub hooks : (cpu : ℕ) → cpu < length m.seats → HooksAre (IsHook trace m.area.entries (cpu_at walk.cpus cpu)) (cpu_at walk.cpus cpu).hooks (seat_at cpu m).hooks

begins_along : (trace : Trace) (walk : Walk) (m : Machine) → Modules trace walk m → Along (begun walk) (begun walk) m.area.entries m.area.entries
begins_along trace walk m h = record { long = h.long; inside_loaded = h.inside_loaded; was = λ section e. e; agree = h.agree; same = λ section e. refl }

-- a hook's tag stays where its module's entry stays
tag_stays : (entries entries' : List Entry) (section index : ℕ) → ((section ≡ 0 → ⊥) → loaded_one section entries' ≡ loaded_one section entries) → tag_in entries section index ≡ tag_in entries' section index
tag_stays entries entries' section index same = by (eqb section 0) refl
  where
    by : (b : Bool) → eqb section 0 ≡ b → tag_from index (if b then None else find (is_loaded_as section) entries) ≡ tag_from index (if b then None else find (is_loaded_as section) entries')
    by true e = refl
    by false e = ap (tag_from index) (sym (same (eqb-false section 0 e)))

hook_stays : (trace : Trace) (entries entries' : List Entry) (state : CpuState) (section : ℕ) (tag : Tag) → (is_inside section state ≡ true → loaded_one section entries' ≡ loaded_one section entries) → IsHook trace entries state section tag → IsHook trace entries' state section tag
hook_stays trace entries entries' state section tag same h = record {
  index = h.index;
  low = h.low;
  is = h.is ∙ tag_stays entries entries' section h.index (λ differ. same (either_or (eqb section 0) (is_inside section state) h.may (ne_eqb section 0 differ)));
  may = h.may;
}

-- ---- seats behind the barrier

set_hooks : (seats : List Seat) (i h : ℕ) (seat : Seat) → seat.hooks ≡ (get_or seats i (fresh_seat 0 0 i)).hooks → (get_or (set seats i seat) h (fresh_seat 0 0 h)).hooks ≡ (get_or seats h (fresh_seat 0 0 h)).hooks
set_hooks seats i h seat same =
    by_bool {P = (get_or (set seats i seat) h (fresh_seat 0 0 h)).hooks ≡ (get_or seats h (fresh_seat 0 0 h)).hooks} (eqb h i)
    (λ e. here (eqb-true h i e) (cases_lt i (length seats)))
    (λ e. ap (λ (s : Seat). s.hooks) (get_or-set_other seats i h seat (fresh_seat 0 0 h) (eqb-false h i e)))
  where
    here : h ≡ i → (i < length seats) ⊎ (length seats ≤ i) → (get_or (set seats i seat) h (fresh_seat 0 0 h)).hooks ≡ (get_or seats h (fresh_seat 0 0 h)).hooks
    here e (inl below) = ap (λ (s : Seat). s.hooks) (get_or-set_at seats i h seat (fresh_seat 0 0 h) e below) ∙ same ∙ ap (λ n. (get_or seats n (fresh_seat 0 0 n)).hooks) (sym e)
    here e (inr past) =
        ap (λ (s : Seat). s.hooks) (get_or_past (set seats i seat) h (fresh_seat 0 0 h) (omega (arith, length-set seats i seat)))
        ∙ sym (ap (λ (s : Seat). s.hooks) (get_or_past seats h (fresh_seat 0 0 h) (omega arith)))

none_hooks : (seats : List Seat) (h : ℕ) (d : Seat) → (get_or (map none_returning seats) h d).hooks ≡ (get_or seats h d).hooks
none_hooks [] h d = refl
none_hooks (seat ∷ seats) zero d = refl
none_hooks (seat ∷ seats) (suc h) d = none_hooks seats h d

round_hooks : (ops : List OnOp) (m : Machine) (h : ℕ) → (seat_at h (round_done ops m)).hooks ≡ (seat_at h (cpus_done ops m)).hooks
round_hooks ops m h =
    let left = cpus_done ops m in
    let marked = modules_done ops left in
    fold_keeps (λ (x : Machine). (seat_at h x).hooks ≡ (seat_at h marked).hooks) storage_home
    (λ x given e. set_hooks x.seats (home_of given) h (record (seat_at (home_of given) x) { node = (come_home given (seat_at (home_of given) x).node).node }) refl ∙ e)
    (on_its_way marked) (none_on_its_way marked) (none_hooks marked.seats h (fresh_seat 0 0 h))
    ∙ ap (λ seats. (get_or seats h (fresh_seat 0 0 h)).hooks) (modules_seats ops left)

pub cpus_area : (ops : List OnOp) (m : Machine) → (cpus_done ops m).area ≡ m.area
cpus_area ops m = fold_keeps (λ (x : Machine). x.area ≡ m.area) (cpu_done ops) (λ x cpu e. e) (range_with_len 0 (length m.seats)) m refl

round_entries : (ops : List OnOp) (m : Machine) (section : ℕ) → loaded_one section (round_done ops m).area.entries ≡ loaded_one section (modules_done ops (cpus_done ops m)).area.entries
round_entries ops m section =
    let marked = modules_done ops (cpus_done ops m) in
    let home = all_home marked in
    dead_go section (λ (e : Entry). not (is_named e.id home)) home.area.entries
    ∙ ap (λ area. loaded_one section area.entries) (fold_keeps (λ (x : Machine). x.area ≡ marked.area) storage_home (λ x given e. e) (on_its_way marked) (none_on_its_way marked) refl)

-- ---- a round

module _ (trace : Trace) (few : trace.cpus ≤ 64) where
  begins_hooks : (walk : Walk) (m : Machine) (cpu : ℕ) (ok : ℕ → Bool) → ((section : ℕ) → is_inside section (cpu_at walk.cpus cpu) ≡ true → ok section ≡ true) → cpu < length m.seats → Modules trace walk m
      → (w : WorkerState) → w.seat ≡ seat_at cpu m → HookState trace m.area.entries cpu ok (begun walk) w
  begins_hooks walk m cpu ok inside low h w same = record {
    long = h.long;
    hooks = subst (λ (s : Seat). HooksAre (IsHook trace m.area.entries (cpu_at walk.cpus cpu)) (cpu_at walk.cpus cpu).hooks s.hooks) (sym same) (h.hooks cpu low);
    inside = inside;
  }

  pub round_modules : (ops : List OnOp) (walk after : Walk) (m : Machine) → All FitsOn ops → All (IsFormedOn trace.cpus trace.sections) ops → walk_ops ops (begun walk) ≡ Ok after → Between trace walk m → Modules trace walk m → (f : RoundFits ops (begun walk) m) → f.after ≡ after → Modules trace after (round_done ops m)
  round_modules ops walk after m are formed e b h f same =
      let entries = m.area.entries in
      let left = cpus_done ops m in
      let a0 : Along (begun walk) (begun walk) entries left.area.entries = subst (λ area. Along (begun walk) (begun walk) entries area.entries) (sym (cpus_area ops m)) (begins_along trace walk m h) in
      let a = lines_along (begun walk) entries ops left (begun walk) after are (record { keys = b.fits.keys; modules = b.fits.modules }) e a0 in
      record {
        long = a.long;
        inside_loaded = a.inside_loaded;
        agree = λ section. a.agree section ∙ ap is_some (sym (round_entries ops m section));
        hooks = λ cpu low.
            let below : cpu < length m.seats = omega (arith, seats_same ops m) in
            let low_cpu : cpu < 64 = omega (arith, b.count) in
            let w = alone (is_owner f.after cpu) (worker_at cpu m) in
            let p = pass_hooks trace entries cpu (λ _. true) (λ _. true) (λ section index e' l. refl) low_cpu after ops (begun walk) formed e (λ section e'. refl) w (begins_hooks walk m cpu (λ _. true) (λ section e'. refl) below h w refl) in
            let seat = (each_has (is_owner f.after) ops m b.rise f.apart (λ c _. f.names c) cpu below).0 in
            let hooks_are : (seat_at cpu (round_done ops m)).hooks ≡ (all_done entries (ops_of cpu ops) w).seat.hooks = round_hooks ops m cpu ∙ ap (λ (s : Seat). s.hooks) seat in
            subst (λ tags. HooksAre (IsHook trace (round_done ops m).area.entries (cpu_at after.cpus cpu)) (cpu_at after.cpus cpu).hooks tags) (sym hooks_are)
            (hooks_map (cpu_at after.cpus cpu).hooks (all_done entries (ops_of cpu ops) w).seat.hooks
            (λ section tag among hook. hook_stays trace entries (round_done ops m).area.entries (cpu_at after.cpus cpu) section tag (λ inside. round_entries ops m section ∙ a.same section (a.inside_loaded cpu section inside)) hook)
            p.left.hooks);
      }
    where
      seats_same : (ops : List OnOp) (m : Machine) → length (round_done ops m).seats ≡ length m.seats
      seats_same ops m = round_count ops m

  -- ---- `load`

  load_told : (walk : Walk) (section : ℕ) → IfOk (load_module walk section) (λ next. (is_loaded walk section ≡ false) × (next.cpus ≡ walk.cpus) × ((s : ℕ) → section < length walk.modules → is_loaded next s ≡ cond (eqb s section) true (is_loaded walk s)))
  unfolding load_module
  load_told walk section =
      let after : Walk → Type 0 = λ next. (is_loaded walk section ≡ false) × (next.cpus ≡ walk.cpus) × ((s : ℕ) → section < length walk.modules → is_loaded next s ≡ cond (eqb s section) true (is_loaded walk s)) in
      checked after (not (module_at walk section).loaded) (code.AlreadyLoaded section) _
      (λ none. (not_true _ none, refl, λ s below. module_set walk.modules section s _ below))

  load_modules : (section size : ℕ) (walk next : Walk) (m : Machine) → section < 65 → Fits walk → load_module walk section ≡ Ok next → Modules trace walk m → Modules trace next (loaded section size m)
  load_modules section size walk next m low fits e h =
      let told = IfOk-at_ok (λ (next : Walk). (is_loaded walk section ≡ false) × (next.cpus ≡ walk.cpus) × ((s : ℕ) → section < length walk.modules → is_loaded next s ≡ cond (eqb s section) true (is_loaded walk s))) e (load_told walk section) in
      let there = λ (s : ℕ). told.2 s (omega (arith, fits.modules)) in
      let entries' = (loaded section size m).area.entries in
      let stays : (s : ℕ) → is_loaded walk s ≡ true → loaded_one s entries' ≡ loaded_one s m.area.entries =
      λ s l. find-append (is_loaded_as s) m.area.entries _ ∙ or_some (loaded_one s m.area.entries) _ (sym (h.agree s) ∙ l) in
      record {
        long = ap length told.1 ∙ h.long;
        inside_loaded = λ cpu s i.
            there s
            ∙ or_true (eqb s section) (is_loaded walk s) (h.inside_loaded cpu s (ap (λ cs. is_inside s (cpu_at cs cpu)) (sym told.1) ∙ i));
        agree = λ s.
            there s
            ∙ by_bool {P = cond (eqb s section) true (is_loaded walk s) ≡ is_some (loaded_one s entries')} (eqb s section)
            (λ t. ap (λ b. cond b true (is_loaded walk s)) t ∙ sym (ap is_some (find-append (is_loaded_as s) m.area.entries _) ∙ some_right (loaded_one s m.area.entries) (eqb section s) _ (eq-eqb section s (sym (eqb-true s section t)))))
            (λ t. ap (λ b. cond b true (is_loaded walk s)) t ∙ h.agree s ∙ sym (ap is_some (find-append (is_loaded_as s) m.area.entries _ ∙ none_right (loaded_one s m.area.entries) (eqb section s) _ (ne_eqb section s (λ same. eqb-false s section t (sym same))))));
        hooks = λ cpu below.
            subst (λ (st : CpuState). HooksAre (IsHook trace entries' st) st.hooks (seat_at cpu m).hooks) (sym (ap (λ cs. cpu_at cs cpu) told.1))
            (hooks_map (cpu_at walk.cpus cpu).hooks (seat_at cpu m).hooks (λ s tag among hook. hook_stays trace m.area.entries entries' (cpu_at walk.cpus cpu) s tag (λ inside. stays s (h.inside_loaded cpu s inside)) hook) (h.hooks cpu below));
      }
    where
      or_some : (o p : Option Entry) → is_some o ≡ true → option_or o p ≡ o
      or_some None p e = let no : ⊥ = cc in absurd no
      or_some (Some x) p e = refl

      or_true : (a b : Bool) → b ≡ true → cond a true b ≡ true
      or_true true b e = refl
      or_true false b e = e

      some_right : (o : Option Entry) (b : Bool) (x : Entry) → b ≡ true → is_some (option_or o (cond b (Some x) None)) ≡ true
      some_right None true x e = refl
      some_right None false x e = let no : ⊥ = cc in absurd no
      some_right (Some y) b x e = refl

      none_right : (o : Option Entry) (b : Bool) (x : Entry) → b ≡ false → option_or o (cond b (Some x) None) ≡ o
      none_right None true x e = let no : ⊥ = cc in absurd no
      none_right None false x e = refl
      none_right (Some y) b x e = refl

  -- ---- the items

  pub item_modules : (top : Option ℕ) (what : Item) (walk next : Walk) (p : Played) → FitsItem what → IsFormedItem trace.cpus trace.sections what → walk_item what walk ≡ Ok next → Between trace walk p.machine → Modules trace walk p.machine → Modules trace next (item_played trace top what p).machine
  unfolding walk_item
  item_modules top (item.Round ops) walk next p are formed e b h =
      let f = fits_of_round trace ops walk next p.machine are formed b e in
      let same : f.after ≡ next = cc (f.walked, e) in
      round_modules ops walk next p.machine are formed e b h f same
  item_modules top (item.Load line section) walk next p are formed e b h = load_modules section (section_len trace section) walk next p.machine are b.fits (at_ok line (load_module walk section) next e) h
  item_modules top item.Print walk next p are formed e b h = let same : walk ≡ next = cc in subst (λ (x : Walk). Modules trace x p.machine) same h
  item_modules top item.Areas walk next p are formed e b h = let same : walk ≡ next = cc in subst (λ (x : Walk). Modules trace x p.machine) same h

  idle_at : (n cpu : ℕ) → (length (idle_cpus n) ≡ n) × (cpu_at (idle_cpus n) cpu ≡ idle)
  unfolding idle_cpus
  idle_at n cpu = (length-replicate n idle, all_same n cpu)
    where
      all_same : (n cpu : ℕ) → get_or (replicate n idle) cpu idle ≡ idle
      all_same zero cpu = refl
      all_same (suc n) zero = refl
      all_same (suc n) (suc cpu) = all_same n cpu

  absent_at : (n section : ℕ) → (get_or (absent_modules n) section absent).loaded ≡ false
  unfolding absent_modules
  absent_at n section = ap (λ s. s.loaded) (all_same n section)
    where
      all_same : (n section : ℕ) → get_or (replicate n absent) section absent ≡ absent
      all_same zero section = refl
      all_same (suc n) zero = refl
      all_same (suc n) (suc section) = all_same n section

  pub first_modules : Modules trace start (machine_of trace)
  first_modules = record {
    long = (idle_at 64 0).0;
    inside_loaded = λ cpu section e. let no : ⊥ = cc (e, ap (is_inside section) (idle_at 64 cpu).1) in absurd no;
    agree = λ section. absent_at 65 section;
    hooks = λ cpu low.
        let there : seat_at cpu (machine_of trace) ≡ fresh_seat trace.frames trace.vectors cpu = get_or-map-range_with_len (fresh_seat trace.frames trace.vectors) 0 trace.cpus cpu cpu (fresh_seat 0 0 cpu) (omega (arith, length-map-range_with_len (fresh_seat trace.frames trace.vectors) 0 trace.cpus)) (omega arith) in
        subst₂ (λ (st : CpuState) tags. HooksAre (IsHook trace [] st) st.hooks tags) (sym (idle_at 64 cpu).1) (sym (ap (λ (s : Seat). s.hooks) there)) none_out;
  }

-- what items that are not refused keep
pub items_both : (Q : Walk → Machine → Type 0) (trace : Trace) (top : Option ℕ)
    → ((what : Item) (walk next : Walk) (p : Played) → FitsItem what → IsFormedItem trace.cpus trace.sections what → walk_item what walk ≡ Ok next → Between trace walk p.machine → Q walk p.machine → Q next (item_played trace top what p).machine)
    → (items : List Item) (walk next : Walk) (p : Played) → All FitsItem items → All (IsFormedItem trace.cpus trace.sections) items → walk_items items walk ≡ Ok next → Between trace walk p.machine → Q walk p.machine → (play trace top items p).refused ≡ None
    → Between trace next (play trace top items p).played.machine × Q next (play trace top items p).played.machine
items_both Q trace top step [] walk next p are formed e b q none = let same : walk ≡ next = cc in subst (λ (x : Walk). Between trace x p.machine × Q x p.machine) same (b, q)
items_both Q trace top step (what ∷ items) walk next p are formed e b q none =
    let first = bind_ok (walk_item what walk) (λ x. walk_items items x) next e in
    let fits = All-head FitsItem what items are in
    let form = All-head (IsFormedItem trace.cpus trace.sections) what items formed in
    let mid = item_between trace top what walk first.0 p fits form first.1 b in
    let now = step what walk first.0 p fits form first.1 b q in
    elim (refusal_of trace what p) as (λ (why : Option (ℕ × Code)). (elim why as (λ _. Outcome) [ None ↦ play trace top items (item_played trace top what p) | Some w ↦ record { played = p; refused = Some w } ]).refused ≡ None
    → Between trace next (elim why as (λ _. Outcome) [ None ↦ play trace top items (item_played trace top what p) | Some w ↦ record { played = p; refused = Some w } ]).played.machine
    × Q next (elim why as (λ _. Outcome) [ None ↦ play trace top items (item_played trace top what p) | Some w ↦ record { played = p; refused = Some w } ]).played.machine) [
      | None ↦ λ h. items_both Q trace top step items first.0 next (item_played trace top what p) (All-tail FitsItem what items are) (All-tail (IsFormedItem trace.cpus trace.sections) what items formed) first.2 mid now h
      | Some w ↦ λ h. let no : ⊥ = cc in absurd no
    ] none

-- ---- a worker with its own keys alone

two_parts : (weight : Storage → ℕ) (mine : ℕ → Bool) (live : Live) → live_sum weight live ≡ live_sum weight (kept mine live) + live_sum weight (kept (others mine) live)
two_parts weight mine [] = refl
two_parts weight mine (e ∷ live) = by (mine e.0) (two_parts weight mine live)
  where
    by : (b : Bool) → live_sum weight live ≡ live_sum weight (kept mine live) + live_sum weight (kept (others mine) live)
        → live_sum weight (e ∷ live) ≡ live_sum weight (cond b (e ∷ kept mine live) (kept mine live)) + live_sum weight (cond (not b) (e ∷ kept (others mine) live) (kept (others mine) live))
    by true later = omega (arith, sum_by-cons (λ (x : ℕ × Content). content_weight weight x.1) e live, sum_by-cons (λ (x : ℕ × Content). content_weight weight x.1) e (kept mine live))
    by false later = omega (arith, sum_by-cons (λ (x : ℕ × Content). content_weight weight x.1) e live, sum_by-cons (λ (x : ℕ × Content). content_weight weight x.1) e (kept (others mine) live))

abbrev beside : (ℕ → Bool) → Machine → ℕ → (Storage → ℕ) → ℕ
beside mine m cpu weight = live_sum weight (kept (others mine) m.live) + elsewhere m cpu weight

alone_sound : (mine : ℕ → Bool) (m : Machine) (cpu : ℕ) → cpu < length m.seats → IsSound m → AllSound cpu (length m.seats) (λ h. (seat_at h m).node) (beside mine m cpu) (seat_at cpu m).node (worker_sum (beside mine m cpu) (alone mine (worker_at cpu m)))
alone_sound mine m cpu below s =
    let a = to_worker m cpu below s in
    let all = worker_sum (elsewhere m cpu) (worker_at cpu m) in
    let all' = worker_sum (beside mine m cpu) (alone mine (worker_at cpu m)) in
    let same : (weight : Storage → ℕ) → all' weight ≡ all weight = λ weight. let t = two_parts weight mine m.live in omega arith in
    record {
      cpu_is = a.cpu_is;
      own = same_node (seat_at cpu m).node all all' (record { frames = λ f. same _; objects = λ f p v. same _; cells = λ v p. same _ }) a.own;
      others = λ h low differ. same_node (seat_at h m).node all all' (record { frames = λ f. same _; objects = λ f p v. same _; cells = λ v p. same _ }) (a.others h low differ);
      homes = same (is_away (length m.seats)) ∙ a.homes;
    }

-- ---- all that the ops need

fit_of : (may_count : Tag → Bool) (entries : List Entry) (ops : List TraceOp) (w : WorkerState) → Each (λ what w. IsInRange what) entries ops w → AllFit entries ops w → Each (HookFits may_count entries) entries ops w → Each FreeFits entries ops w → Fit may_count entries ops w
fit_of may_count entries [] w r k h o = tt
fit_of may_count entries (what ∷ ops) w r k h o =
    (record { range = r.0; keys = k.0; hooks = h.0; own = o.0 }, fit_of may_count entries ops (done entries what w) r.1 k.1 h.1 o.1)

all_may : (trace : Trace) (entries : List Entry) (state : CpuState) (may_count : Tag → Bool) (sections : List ℕ) (tags : List Tag) → ((section : ℕ) (tag : Tag) → IsHook trace entries state section tag → may_count tag ≡ true) → HooksAre (IsHook trace entries state) sections tags → list_all may_count tags ≡ true
all_may trace entries state may_count sections tags may none_out = refl
all_may trace entries state may_count sections tags may (one_more before others section tag hook rest) =
    both (may_count tag) (list_all may_count others) (may section tag hook) (all_may trace entries state may_count before others may rest)
  where
    both : (a b : Bool) → a ≡ true → b ≡ true → (a && b) ≡ true
    both true b p q = q
    both false b p q = let no : ⊥ = cc in absurd no

pub ready_round : (trace : Trace) (ops : List OnOp) (walk : Walk) (m : Machine) → trace.cpus ≤ 64 → All FitsOn ops → All (IsFormedOn trace.cpus trace.sections) ops → Between trace walk m → Modules trace walk m → IsSound m → (f : RoundFits ops (begun walk) m) → IsReady trace ops (begun walk) f.after m
ready_round trace ops walk m few are formed b h s f =
    let entries = m.area.entries in
    let before = begun walk in
    record {
      loaded = λ cpu section runs.
          let there : is_loaded walk section ≡ true =
          by_bool {P = is_loaded walk section ≡ true} (is_inside section (cpu_at walk.cpus cpu))
          (λ i. h.inside_loaded cpu section i)
          (λ i. entering_loaded before entries cpu section ops m before f.after are (record { keys = b.fits.keys; modules = b.fits.modules }) f.walked (begins_along trace walk m h) (either_or (is_inside section (cpu_at walk.cpus cpu)) _ runs i)) in
          sym (h.agree section) ∙ there;
      hooks = λ cpu may_count low may.
          all_may trace entries (cpu_at walk.cpus cpu) may_count (cpu_at walk.cpus cpu).hooks (seat_at cpu m).hooks
          (λ section tag hook.
          let runs : (eqb section 0 || runs_inside before ops cpu section) ≡ true =
          by_bool {P = (eqb section 0 || runs_inside before ops cpu section) ≡ true} (eqb section 0) (λ e. or_left (eqb section 0) _ e)
          (λ e. or_right (eqb section 0) _ (or_left (is_inside section (cpu_at walk.cpus cpu)) _ (either_or (eqb section 0) _ hook.may e))) in
          ap may_count hook.is ∙ may section hook.index runs hook.low)
          (h.hooks cpu low);
      needs = λ cpu may_count low may.
          let mine = is_owner f.after cpu in
          let w = alone mine (worker_at cpu m) in
          let keys = f.fits cpu in
          let hooks = pass_hooks trace entries cpu (runs_inside before ops cpu) may_count may (omega (arith, b.count)) f.after ops before formed f.walked
          (λ section e. or_right (is_inside section (cpu_at before.cpus cpu)) _ e) w
          (begins_hooks trace few walk m cpu (runs_inside before ops cpu) (λ section i. or_left (is_inside section (cpu_at before.cpus cpu)) _ i) low h w refl) in
          fit_of may_count entries (ops_of cpu ops) w
          (all_in_range trace.cpus trace.sections cpu entries ops formed w)
          keys
          hooks.fits
          (all_there cpu (length m.seats) (λ k. (seat_at k m).node) (beside mine m cpu) low (λ k small differ. s.cpus k small) entries (ops_of cpu ops) w (sorted_kept mine m.live (holds b.rise)) keys (alone_sound mine m cpu low s));
    }

record SoundModules (trace : Trace) (walk : Walk) (m : Machine) : Type 0 where
  sound : IsSound m
  modules_are : Modules trace walk m

pub rounds_ready : (trace : Trace) (top : Option ℕ) (ops : List OnOp) (before after : Walk) → IsFormedTrace trace → rounds_of trace ≡ Ok tt → (round : IsRound trace ops before) → (played_so_far trace top round.front).refused ≡ None → walk_ops ops before ≡ Ok after
    → IsReady trace ops before after (played_so_far trace top round.front).played.machine
rounds_ready trace top ops before after formed passes round none walked =
    let all : All FitsItem trace.body = All-weaker (IsFormedItem trace.cpus trace.sections) FitsItem (λ i is. fits_item trace.cpus trace.sections i formed.cpus.1 formed.sections.few is) trace.body formed.items in
    let forms = subst (All (IsFormedItem trace.cpus trace.sections)) round.stands formed.items in
    let here = items_both (SoundModules trace) trace top
    (λ what walk next p are form e b q. record { sound = item_sound trace top what walk next p are form e b q.sound; modules_are = item_modules trace formed.cpus.1 top what walk next p are form e b q.modules_are })
    round.front start round.left (nothing_played trace)
    (all_front FitsItem round.front (item.Round ops ∷ round.back) (subst (All FitsItem) round.stands all))
    (all_front (IsFormedItem trace.cpus trace.sections) round.front (item.Round ops ∷ round.back) forms)
    round.walked (begins_between trace) (record { sound = first_sound trace; modules_are = first_modules trace formed.cpus.1 }) none in
    let m = (played_so_far trace top round.front).played.machine in
    let r = round_of trace ops before formed passes round in
    let form = (all_behind (IsFormedItem trace.cpus trace.sections) round.front (item.Round ops) round.back forms).0 in
    let f = fits_of_round trace ops round.left after m r.are form here.0 (subst (λ (x : Walk). walk_ops ops x ≡ Ok after) round.begins walked) in
    let same : f.after ≡ after = cc (f.walked, walked, round.begins) in
    subst₂ (λ (x y : Walk). IsReady trace ops x y m) (sym round.begins) same
    (ready_round trace ops round.left m formed.cpus.1 r.are form here.0 here.1.modules_are here.1.sound f)
