-- What a round's end asks holds behind its ops, its unloads and the storage that came home.
use Rattle.std.proofs.Common.{◌≡◌, ℕ, zero, suc, ◌+◌, ◌<◌, ◌≤◌, ◌⊎◌, inl, inr, Bool, true, false, cond, not, ltb, List, [], ◌∷◌, ◌++◌, length, map, get_or, Option, Some, All, Contains, refl, sym, ap, ap₂, ◌∙◌, subst, arith, ⊎_elim, ltb-true, eqb-true, ne_eqb, leb, leb-true}
use Rattle.std.specs.Prelude.{◌&&◌, ◌==◌, IsSome, filter, is_some, nat_lt}
use Rattle.std.specs.List.{list_all, list_any, range_with_len}
use Rattle.std.proofs.lemmas.Bool.{and_parts, cases_lt}
use Rattle.std.proofs.lemmas.List.Elements.{Contains-get_or}
use Rattle.tag_model.specs.declared.state.Held.TheVariants as held
use Rattle.tag_model.specs.declared.state.Kind.{Kind}
use Rattle.tag_model.specs.declared.state.Kind.TheVariants.{Bytes, Calls}
use Rattle.tag_model.specs.declared.state.Record.{Record}
use Rattle.tag_model.specs.declared.state.Tag.{Tag}
use Rattle.tag_model.specs.Reference.{live_total}
use Rattle.tag_model.specs.Telling.{is_covered_by}
use Rattle.tag_model.specs.WordState.{in_range}
use Rattle.tag_model.specs.Wrap.{wrap}
use Rattle.module_area.specs.Area.{Area, IsBook}
use Rattle.module_area.specs.Entries.{Covers, covers, entry_of, is_dead}
use Rattle.module_area.specs.declared.entry.Entry.{Entry}
use Rattle.module_area.specs.declared.entry.State.{State}
use Rattle.module_area.specs.declared.entry.State.TheVariants.{Dead, Loaded}
use Rattle.core_list.specs.ListState.{record_of}
use Rattle.tag_rule.specs.Shown.{Board, CpuShown}
use Rattle.reclaim.specs.Quiet.{is_quiet, is_quiet_tag, is_unquiet, total}
use Rattle.reclaim.specs.State.{IsNamed, LockedShown, part_of}
use Rattle.round_check.proofs.Named.{by_bool}
use Rattle.round_keys.specs.Stored.{IsCovered}
use Rattle.round_modules.specs.Known.{AreCounted, AreHeld, known_area, unloaded_by}
use Rattle.round_modules.proofs.Meant.{unloads_meant}
use Rattle.round_modules.proofs.Members.{list_any_has, map_from, same_cover}
use Rattle.round_worker.specs.Kept.{KeyList, content_of, live_of}
use Rattle.round_worker.specs.declared.keys.Kept.{Kept}
use Rattle.trace.specs.declared.traces.Item.TheVariants as item
use Rattle.trace.specs.declared.traces.OnOp.{OnOp}
use Rattle.trace.specs.declared.traces.Trace.{Trace}
use Rattle.trace_cover.proofs.Quiet.{range_fails}
use Rattle.trace_play.specs.Barrier.{all_home, cpus_done, is_named, modules_done, none_on_its_way, on_its_way, round_done, storage_home}
use Rattle.trace_play.specs.Live.{Content, held_of}
use Rattle.trace_play.specs.Machine.{Machine, live_cells}
use Rattle.trace_play.specs.Play.{Played, nothing_played, section_len}
use Rattle.trace_play.proofs.HooksFit.{either_or}
use Rattle.trace_play.proofs.Rising.{fold_keeps, modules_live}
use Rattle.trace_play.proofs.WordsTotal.{AreLow, low_after}
use Rattle.std.proofs.lemmas.List.{append_assoc}
use Rattle.trace_cover.specs.Cover.{is_quiet_at, is_quiet_range}
use Rattle.trace_cover.proofs.Holds.{Covered, before_cleaning}
use Rattle.trace_cover.proofs.Items.{AtRound, at_round}
use Rattle.trace_cover.proofs.Quiet.{Counts, counts_at}
use Rattle.trace_cover.proofs.Told.{play_round, round_counted, round_few, round_tells}
use Rattle.trace_play.specs.Ready.{IsReady}
use Rattle.round_check.specs.declared.walk.Walk.{Walk}
use Rattle.standing.specs.Standing.{CpusStand, HasRoomFor, RoundOf, first_of}
use Rattle.standing.specs.Turning.{home_of_round}
use Rattle.standing.proofs.EndTotals.{total_is, total_past}
use Rattle.trace_play.proofs.ReadyHolds.{cpus_area}

-- ---- what came home changes no module and no key

home_area : (m : Machine) → (all_home m).area ≡ m.area
home_area m = fold_keeps (λ (x : Machine). x.area ≡ m.area) storage_home (λ x given h. h) (on_its_way m) (none_on_its_way m) refl

home_live : (m : Machine) → (all_home m).live ≡ m.live
home_live m = fold_keeps (λ (x : Machine). x.live ≡ m.live) storage_home (λ x given h. h) (on_its_way m) (none_on_its_way m) refl

-- ---- lists

-- tests that agree at each tag of a range
range_same : (p q : ℕ → Bool) (from many : ℕ) → ((t : ℕ) → from ≤ t → t < from + many → p t ≡ q t) → list_all p (range_with_len from many) ≡ list_all q (range_with_len from many)
range_same p q from zero same = refl
range_same p q from (suc many) same =
    ap₂ (λ a b. a && b) (same from (omega arith) (omega arith)) (range_same p q (from + 1) many (λ t low high. same t (omega (arith, low)) (omega (arith, high))))

-- tests that agree at each element
filter_same : {X : Type 0} (p q : X → Bool) (xs : List X) → All (λ x. p x ≡ q x) xs → filter p xs ≡ filter q xs
filter_same p q [] same = refl
filter_same p q (x ∷ xs) same =
    ap (λ b. cond b (x ∷ filter p xs) (filter p xs)) (same 0 x (omega arith))
    ∙ ap (λ ys. cond (q x) (x ∷ ys) ys) (filter_same p q xs (λ k d low. same (suc k) d (omega (arith, low))))

-- a record of a module above 0 that covers a tag is that of an entry of its id
record_found : (k : LockedShown) (tag : Tag) → 0 < tag.module → is_covered_by k.board.shape (part_of k).records tag ≡ true → IsSome (entry_of k.area.entries tag.module)
record_found k tag above h =
    let not_kernel : (tag.module == 0) ≡ false = ne_eqb tag.module 0 (λ e. omega (arith, e, above)) in
    go k.area.entries (sym (ap (λ b. cond b (nat_lt tag.number k.board.shape.kernel_tags) (list_any (λ (r : Record). (r.id == tag.module) && in_range r.start r.length tag.number) (part_of k).records)) not_kernel) ∙ h)
  where
    some : (b : Bool) (e : Entry) (o : Option Entry) → b ≡ true → is_some (cond b (Some e) o) ≡ true
    some true e o is = refl
    some false e o is = let no : ⊥ = cc in absurd no

    past : (b : Bool) (e : Entry) (o : Option Entry) → is_some o ≡ true → is_some (cond b (Some e) o) ≡ true
    past true e o is = refl
    past false e o is = is

    go : (es : List Entry) → list_any (λ (r : Record). (r.id == tag.module) && in_range r.start r.length tag.number) (map record_of es) ≡ true → IsSome (entry_of es tag.module)
    go [] any = let no : ⊥ = cc in absurd no
    go (e ∷ es) any =
        by_bool {P = IsSome (entry_of (e ∷ es) tag.module)} ((e.id == tag.module) && in_range e.start e.length tag.number)
        (λ here. some (e.id == tag.module) e (entry_of es tag.module) (and_parts (e.id == tag.module) (in_range e.start e.length tag.number) here).0)
        (λ none. past (e.id == tag.module) e (entry_of es tag.module) (go es (either_or _ (list_any (λ (r : Record). (r.id == tag.module) && in_range r.start r.length tag.number) (map record_of es)) any none)))

module _ (trace : Trace) (top : Option ℕ) (ops : List OnOp) (r : RoundOf trace top ops) (b : Board) (room : HasRoomFor b trace) where
  abbrev begins : Machine
  begins = first_of trace top ops r

  abbrev home : Machine
  home = home_of_round ops begins

  abbrev known : List Entry
  known = unloaded_by ops begins.area.entries

  -- ---- the modules

  here : AtRound trace r.formed ops r.before r.after begins
  here = at_round trace r.formed top ops r.before r.after r.passes r.round r.none r.walked

  covered : Covered trace home
  covered = before_cleaning trace ops r.before begins here.between.rise here.fits (subst (λ (x : Walk). IsReady trace ops r.before x begins) (sym here.same) here.ready) here.holds_now.covered

  entries_are : home.area.entries ≡ known
  entries_are =
      ap (λ (a : Area). a.entries) (home_area (modules_done ops (cpus_done ops begins)) ∙ unloads_meant (cpus_done ops begins) ops)
      ∙ ap (λ (a : Area). unloaded_by ops a.entries) (cpus_area ops begins)

  area_is : home.area ≡ known_area b.shape trace.area known
  area_is = λ i. let a : Area = record { entries = entries_are i; first = (covered.first ∙ sym room.kernel) i; tags = covered.tags i } in a

  pub book : IsBook (known_area b.shape trace.area known) × All (λ (e : Entry). e.users ≡ 0) known × All (IsNamed trace.sections) known
  book = (
    subst IsBook area_is covered.book,
    subst (All (λ (e : Entry). e.users ≡ 0)) entries_are covered.unused,
    subst (All (IsNamed trace.sections)) entries_are (λ k d low. let h = covered.named k d low in (h.0, sym h.1)),
  )

  -- ---- the words

  behind : trace.body ≡ (r.round.front ++ item.Round ops ∷ []) ++ r.round.back
  behind = r.round.stands ∙ sym (append_assoc r.round.front (item.Round ops ∷ []) r.round.back)

  seats_are : length home.seats ≡ trace.cpus
  seats_are =
      subst (λ (p : Played). length p.machine.seats ≡ trace.cpus) (play_round trace top ops r.round.front (nothing_played trace) r.none)
      (low_after trace top r.formed r.passes (r.round.front ++ item.Round ops ∷ []) r.round.back behind).seats

  low_moves : AreLow trace.cpus home.tally.moves
  low_moves =
      subst (λ (p : Played). AreLow trace.cpus p.machine.tally.moves) (play_round trace top ops r.round.front (nothing_played trace) r.none)
      (low_after trace top r.formed r.passes (r.round.front ++ item.Round ops ∷ []) r.round.back behind).low

  module _ (cpus : List CpuShown) (s : CpusStand b home cpus) where
    total_at : (kind : Kind) (t : ℕ) → t < b.shape.tags → total kind t cpus ≡ wrap (live_total kind t (live_cells home))
    total_at kind t low =
        total_is b home kind t cpus s (omega (arith, seats_are, room.cpus)) (subst (λ n. AreLow n home.tally.moves) (sym seats_are) low_moves) low
        ∙ round_tells trace top ops r.before r.after r.formed r.passes r.round r.none r.walked kind t

    quiet_at : (t : ℕ) → t < b.shape.tags → is_quiet_tag cpus t ≡ is_quiet_at home t
    quiet_at t low = ap₂ (λ x y. (x == 0) && (y == 0)) (total_at Bytes t low) (total_at Calls t low)

    -- a tag under which something is counted is one of the table's
    loud_low : (t : ℕ) → is_quiet_tag cpus t ≡ false → t < b.shape.tags
    loud_low t loud =
        ⊎_elim (λ low. low)
        (λ high. let none = ap₂ (λ x y. (x == 0) && (y == 0)) (total_past b home Bytes t cpus s high) (total_past b home Calls t cpus s high) in let no : ⊥ = cc (none, loud) in absurd no)
        (cases_lt t b.shape.tags)

    quiet_same : (e : Entry) → e.start + e.length ≤ 128 + trace.area → is_quiet cpus e ≡ is_quiet_range home e
    quiet_same e lies = range_same (is_quiet_tag cpus) (is_quiet_at home) e.start e.length (λ t low high. quiet_at t (omega (arith, high, lies, room.area)))

    -- what stays is what the cleaning keeps
    unquiet_same : All (λ (e : Entry). is_unquiet cpus e ≡ not (is_dead e.state && not (is_named e.id home))) home.area.entries
    unquiet_same k d low =
        let e = get_or home.area.entries k d in
        let named = round_counted trace top ops r.before r.after r.formed r.passes r.round r.none r.walked k d low in
        let lies = covered.book.in_area k d low in
        ap (λ q. not (is_dead e.state && q)) (quiet_same e (omega (arith, lies.1, covered.first, covered.tags)) ∙ sym (twice (is_quiet_range home e)) ∙ sym (ap not named))
      where
        twice : (x : Bool) → not (not x) ≡ x
        twice true = refl
        twice false = refl

    pub kept : known_area b.shape trace.area (filter (is_unquiet cpus) known) ≡ (round_done ops begins).area
    kept =
        let stays : filter (is_unquiet cpus) known ≡ (round_done ops begins).area.entries =
        ap (filter (is_unquiet cpus)) (sym entries_are) ∙ filter_same (is_unquiet cpus) (λ (e : Entry). not (is_dead e.state && not (is_named e.id home))) home.area.entries unquiet_same in
        λ i. let a : Area = record { entries = stays i; first = (room.kernel ∙ sym covered.first) i; tags = sym covered.tags i } in a

    -- ---- what is counted has a module

    module _ (l : LockedShown) (keys : KeyList) (live : live_of keys ≡ (cpus_done ops begins).live)
        (told : list_any (λ (e : Entry). is_dead e.state) known ≡ true → All (λ (entry : ℕ × Kept). IsCovered l entry.1) keys) where
      live_is : home.live ≡ live_of keys
      live_is = home_live (modules_done ops (cpus_done ops begins)) ∙ modules_live ops (cpus_done ops begins) ∙ sym live

      kernel_few : section_len trace 0 ≤ 128
      kernel_few = r.formed.sections.within_limits 0 r.formed.kernel

      few : length (live_cells home) ≤ 131072
      few = round_few trace top ops r.before r.after r.formed r.passes r.round r.none r.walked

      -- an entry that covers a tag; if a module is dead, the list has the entry's module
      record Found (t : ℕ) : Type 0 where
        entry : Entry
        there : Contains known entry
        at : Covers entry t
        held : list_any (λ (e : Entry). is_dead e.state) known ≡ true → IsSome (entry_of l.area.entries entry.id)

      found_of : (t : ℕ) → Counts trace home covered kernel_few few t → Found t
      found_of t counted =
          let key = counted.key in
          let tag = key.4.tag in
          let size = key.4.size in
          let e = counted.entry.1 in
          let there : Contains home.area.entries e = (counted.entry.0, counted.entry.2, counted.entry.3) in
          let parts = and_parts (e.id == tag.module) (covers e tag.number) counted.entry.4 in
          let range = and_parts (leb e.start tag.number) (ltb tag.number (e.start + e.length)) parts.1 in
          let id : e.id ≡ tag.module = eqb-true e.id tag.module parts.0 in
          let above : 0 < e.id = subst (λ (x : Entry). 0 < x.id) there.2 (covered.book.above_zero there.0 e there.1) in
          let bound : Contains (live_of keys) key.1 = subst (λ xs. Contains xs key.1) live_is (key.0, key.2, key.3) in
          let from = map_from (λ (entry : ℕ × Kept). (entry.0, content_of entry.1)) keys key.1 bound in
          let is : held_of (content_of from.item.1) ≡ held.Counted tag size = ap (λ (x : ℕ × Content). held_of x.1) from.holds ∙ key.4.is in
          record {
            entry = e;
            there = subst (λ xs. Contains xs e) entries_are there;
            at = subst (Covers e) key.4.at (leb-true e.start tag.number range.0, ltb-true tag.number (e.start + e.length) range.1);
            held = λ dead.
                let covers_it : IsCovered l from.item.1 = subst (λ (x : ℕ × Kept). IsCovered l x.1) from.there.2 (told dead from.there.0 from.item from.there.1) in
                subst (λ n. IsSome (entry_of l.area.entries n)) (sym id) (record_found l tag (omega (arith, above, id)) (covers_it tag size is));
          }

      found_at : (t : ℕ) → 128 ≤ t → is_quiet_tag cpus t ≡ false → Found t
      found_at t high loud = found_of t (counts_at trace home covered kernel_few few t high (sym (quiet_at t (loud_low t loud)) ∙ loud))

      has_dead : (e : Entry) → Contains known e → e.state ≡ Dead → list_any (λ (x : Entry). is_dead x.state) known ≡ true
      has_dead e there dead = list_any_has (λ (x : Entry). is_dead x.state) known e there (ap is_dead dead)

      counted : AreCounted cpus b.shape.kernel_tags l.area.entries known
      counted t high loud =
          let f = found_at t (omega (arith, high, room.kernel)) loud in
          (f.there.0, f.entry, f.there.1, f.there.2, (f.at, by f.entry.state refl f.there f.held))
        where
          by : (state : State) {e : Entry} → e.state ≡ state → Contains known e → (list_any (λ (x : Entry). is_dead x.state) known ≡ true → IsSome (entry_of l.area.entries e.id)) → (e.state ≡ Loaded) ⊎ IsSome (entry_of l.area.entries e.id)
          by Loaded is there held = inl is
          by Dead {e} is there held = inr (held (has_dead e there is))

      held_all : AreHeld cpus l.area.entries known
      held_all k d low dead unquiet =
          let e = get_or known k d in
          let there : Contains known e = Contains-get_or known k d low in
          let loud : is_quiet cpus e ≡ false = not_quiet (is_dead e.state) (is_quiet cpus e) (ap is_dead dead) unquiet in
          let t = range_fails (is_quiet_tag cpus) e.start e.length loud in
          let f = found_at t.0 (omega (arith, t.1, (book.0.in_area k d low).0, room.kernel)) t.3 in
          let same : f.entry ≡ e = same_cover known f.entry e t.0 book.0.apart f.there there f.at (t.1, t.2) in
          subst (λ (x : Entry). IsSome (entry_of l.area.entries x.id)) same (f.held (has_dead e there dead))
        where
          not_quiet : (a q : Bool) → a ≡ true → not (a && q) ≡ true → q ≡ false
          not_quiet true true is h = let no : ⊥ = cc in absurd no
          not_quiet true false is h = refl
          not_quiet false q is h = let no : ⊥ = cc in absurd no

      pub met : AreHeld cpus l.area.entries known × AreCounted cpus b.shape.kernel_tags l.area.entries known
      met = (held_all, counted)
