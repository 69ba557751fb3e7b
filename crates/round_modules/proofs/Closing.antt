-- The book after a round: what the words tell to be counted of what the CPUs leave behind is what they tell of what is known.
use Rattle.std.proofs.Common.{◌≡◌, ℕ, zero, suc, ◌+◌, ◌<◌, ◌≤◌, ◌==◌, ◌&&◌, ◌⊎◌, not, Bool, true, false, cond, List, [], ◌∷◌, map, filter, Option, None, Some, IsSome, All, AllPairs, Contains, refl, sym, ap, ◌∙◌, subst, arith, ⊎_elim, eqb-true, eq-eqb}
use Rattle.std.specs.List.{list_all, range_with_len}
use Rattle.std.proofs.lemmas.Bool.{and_from, and_parts, cond-true, cond-false, false≢true}
use Rattle.std.proofs.lemmas.List.Elements.{All-contains}
use Rattle.std.proofs.lemmas.List.Kept.{AllPairs-filter}
use Rattle.module_area.specs.declared.entry.Entry.{Entry}
use Rattle.module_area.specs.declared.entry.State.{State}
use Rattle.module_area.specs.declared.entry.State.TheVariants.{Dead, Loaded}
use Rattle.module_area.specs.Entries.{AreApart, Covers, entry_of, is_dead, kept}
use Rattle.core_list.specs.ListState.{run_of}
use Rattle.tag_model.specs.declared.state.Run.{Run}
use Rattle.tag_rule.specs.Shown.{CpuShown}
use Rattle.reclaim.specs.Quiet.{is_quiet, is_quiet_tag, is_unquiet}
use Rattle.reclaim.proofs.Gone.{some_and}
use Rattle.round_modules.specs.Known.{AreAsKnown, AreCounted, AreHeld, AreLoadedIn, IsLoadedIn, dead_unless, stays}
use Rattle.round_modules.proofs.Members.{Member, Rises, any_member, entry_member, filter_from, filter_has, list_any_from, list_any_has, map_from, map_has, same_cover, same_id, same_members}
use Rattle.round_modules.proofs.Knows.{rises_by_ids}

-- ---- what an unquiet dead entry has

-- a tag of a run of numbers that fails the test
pub record Failing (p : ℕ → Bool) (start size : ℕ) : Type 0 where
  pub tag : ℕ
  pub above : start ≤ tag
  pub below : tag < start + size
  pub fails : p tag ≡ false

failing : (p : ℕ → Bool) (start size : ℕ) → list_all p (range_with_len start size) ≡ false → Failing p start size
failing p start zero h = absurd (false≢true (sym h))
failing p start (suc n) h = go (p start) refl h (λ rest. failing p (start + 1) n rest)
  where
    go : (b : Bool) → p start ≡ b → (b && list_all p (range_with_len (start + 1) n)) ≡ false → (list_all p (range_with_len (start + 1) n) ≡ false → Failing p (start + 1) n) → Failing p start (suc n)
    go false is h rest = record { tag = start; above = omega arith; below = omega arith; fails = is }
    go true is h rest = let f = rest h in record { tag = f.tag; above = omega (arith, f.above); below = omega (arith, f.below); fails = f.fails }

unquiet_fails : (cpus : List CpuShown) (e : Entry) → e.state ≡ Dead → is_unquiet cpus e ≡ true → is_quiet cpus e ≡ false
unquiet_fails cpus e dead h = go (is_quiet cpus e) (subst (λ (s : State). not (is_dead s && is_quiet cpus e) ≡ true) dead h)
  where
    go : (b : Bool) → not b ≡ true → b ≡ false
    go false h = refl
    go true h = absurd (false≢true h)

loaded_unquiet : (cpus : List CpuShown) (e : Entry) → e.state ≡ Loaded → is_unquiet cpus e ≡ true
loaded_unquiet cpus e loaded = ap (λ (s : State). not (is_dead s && is_quiet cpus e)) loaded

same_range : (x e : Entry) (t : ℕ) → run_of x ≡ run_of e → Covers e t → Covers x t
same_range x e t same h =
    let start : x.start ≡ e.start = ap (λ (r : Run). r.start) same in
    let size : x.length ≡ e.length = ap (λ (r : Run). r.length) same in
    (omega (arith, h.0, start), omega (arith, h.1, start, size))

-- an entry by its run, its state and its users
pub same_entry : (x e : Entry) → run_of x ≡ run_of e → x.state ≡ e.state → x.users ≡ e.users → x ≡ e
same_entry x e run state users = λ i. record { id = (run i).id; section = (run i).section; start = (run i).start; length = (run i).length; state = state i; users = users i }

-- ---- the book and what is known

-- nobody is inside; what stays is loaded in the book, and what the book has of what is known is as it is known
pub record Known (cpus : List CpuShown) (first : ℕ) (book known : List Entry) : Type 0 where
  pub rises : Rises book
  pub apart : AllPairs AreApart book
  pub above : All (λ (e : Entry). first ≤ e.start) book
  pub unused_book : All (λ (e : Entry). e.users ≡ 0) book
  pub rises_known : Rises known
  pub unused_known : All (λ (e : Entry). e.users ≡ 0) known
  pub loaded : AreLoadedIn book known
  pub as_known : AreAsKnown book known
  pub held : AreHeld cpus book known
  pub counted : AreCounted cpus first book known

module _ (cpus : List CpuShown) (first : ℕ) (book known : List Entry) (k : Known cpus first book known) where
  run_same : (x e : Entry) → Contains book x → Contains known e → x.id ≡ e.id → run_of x ≡ run_of e
  run_same x e there_x there_e same =
      let all : All (λ (y : Entry). y.id ≡ e.id → run_of y ≡ run_of e) book = All-contains (λ (z : Entry). All (λ (y : Entry). y.id ≡ z.id → run_of y ≡ run_of z) book) known e k.as_known there_e in
      All-contains (λ (y : Entry). y.id ≡ e.id → run_of y ≡ run_of e) book x all there_x same

  zero_book : (x : Entry) → Contains book x → x.users ≡ 0
  zero_book x h = All-contains (λ (e : Entry). e.users ≡ 0) book x k.unused_book h

  zero_known : (e : Entry) → Contains known e → e.users ≡ 0
  zero_known e h = All-contains (λ (x : Entry). x.users ≡ 0) known e k.unused_known h

  -- a module that stays is loaded in the book
  its_loaded : (e : Entry) → Contains known e → e.state ≡ Loaded → Member Entry book (λ x. (x.id ≡ e.id) × (x.state ≡ Loaded))
  its_loaded e there loaded =
      let here : IsLoadedIn book e = All-contains (λ (x : Entry). x.state ≡ Loaded → IsLoadedIn book x) known e k.loaded there loaded in
      let s = some_and (entry_of book e.id) (λ x. (x.state ≡ Loaded) × (run_of x ≡ run_of e)) here in
      let m = entry_member book s.entry e.id s.is in
      record { item = s.entry; there = m.0; holds = (m.1, s.holds.0) }

  -- an id of a known module stays as the module does
  stays_is : (e : Entry) (id : ℕ) → Contains known e → e.id ≡ id → stays known id ≡ not (is_dead e.state)
  stays_is e id there same = go (stays known id) refl
    where
      go : (b : Bool) → stays known id ≡ b → b ≡ not (is_dead e.state)
      go true is =
          let m = list_any_from (λ (x : Entry). (x.id == id) && not (is_dead x.state)) known is in
          let both = and_parts (m.item.id == id) (not (is_dead m.item.state)) m.holds in
          let one : m.item ≡ e = same_id known m.item e k.rises_known m.there there (eqb-true m.item.id id both.0 ∙ sym same) in
          sym (subst (λ (x : Entry). not (is_dead x.state) ≡ true) one both.1)
      go false is = other (not (is_dead e.state)) refl
        where
          other : (b : Bool) → not (is_dead e.state) ≡ b → false ≡ b
          other false here = refl
          other true here = absurd (false≢true (sym is ∙ list_any_has (λ (x : Entry). (x.id == id) && not (is_dead x.state)) known e there (and_from _ _ (eq-eqb e.id id same) here)))

  -- what the book has of a known module becomes just that
  matched : (x e : Entry) → Contains book x → Contains known e → x.id ≡ e.id → dead_unless known x ≡ e
  matched x e there_x there_e same = go e.state refl
    where
      run : run_of x ≡ run_of e
      run = run_same x e there_x there_e same

      users : x.users ≡ e.users
      users = zero_book x there_x ∙ sym (zero_known e there_e)

      go : (s : State) → e.state ≡ s → dead_unless known x ≡ e
      go Loaded is =
          let m = its_loaded e there_e is in
          let one : m.item ≡ x = same_id book m.item x k.rises m.there there_x (m.holds.0 ∙ sym same) in
          let live : x.state ≡ Loaded = subst (λ (y : Entry). y.state ≡ Loaded) one m.holds.1 in
          cond-true (stays known x.id) x (kept x) (stays_is e x.id there_e (sym same) ∙ ap (λ (s : State). not (is_dead s)) is) ∙ same_entry x e run (live ∙ sym is) users
      go Dead is = cond-false (stays known x.id) x (kept x) (stays_is e x.id there_e (sym same) ∙ ap (λ (s : State). not (is_dead s)) is) ∙ same_entry (kept x) e run (sym is) users

  keeps_id : (x : Entry) → (dead_unless known x).id ≡ x.id
  keeps_id x = go (stays known x.id)
    where
      go : (b : Bool) → (cond b x (kept x)).id ≡ x.id
      go true = refl
      go false = refl

  marked_ids : map (λ (e : Entry). e.id) (map (dead_unless known) book) ≡ map (λ (e : Entry). e.id) book
  marked_ids = go book
    where
      go : (es : List Entry) → map (λ (e : Entry). e.id) (map (dead_unless known) es) ≡ map (λ (e : Entry). e.id) es
      go [] = refl
      go (e ∷ es) = λ i. keeps_id e i ∷ go es i

  -- a dead entry of the book, unquiet, is known
  unquiet_known : (x : Entry) → Contains book x → stays known x.id ≡ false → is_unquiet cpus (kept x) ≡ true → Member Entry known (λ e. x.id ≡ e.id)
  unquiet_known x there off unquiet =
      let f = failing (is_quiet_tag cpus) x.start x.length (unquiet_fails cpus (kept x) refl unquiet) in
      let low : first ≤ x.start = All-contains (λ (e : Entry). first ≤ e.start) book x k.above there in
      let c = any_member (λ (e : Entry). Covers e f.tag × ((e.state ≡ Loaded) ⊎ IsSome (entry_of book e.id))) known (k.counted f.tag (omega (arith, low, f.above)) f.fails) in
      let y : Member Entry book (λ z. z.id ≡ c.item.id) = ⊎_elim (λ loaded. its c.item (its_loaded c.item c.there loaded)) (λ some. found c.item some) c.holds.1 in
      let covers : Covers y.item f.tag = same_range y.item c.item f.tag (run_same y.item c.item y.there c.there y.holds) c.holds.0 in
      let one : x ≡ y.item = same_cover book x y.item f.tag k.apart there y.there (f.above, f.below) covers in
      let one_id : x.id ≡ y.item.id = ap (λ (e : Entry). e.id) one in
      record { item = c.item; there = c.there; holds = one_id ∙ y.holds }
    where
      its : (e : Entry) → Member Entry book (λ z. (z.id ≡ e.id) × (z.state ≡ Loaded)) → Member Entry book (λ z. z.id ≡ e.id)
      its e m = record { item = m.item; there = m.there; holds = m.holds.0 }

      found : (e : Entry) → IsSome (entry_of book e.id) → Member Entry book (λ z. z.id ≡ e.id)
      found e some = go (entry_of book e.id) refl some
        where
          go : (o : Option Entry) → entry_of book e.id ≡ o → IsSome o → Member Entry book (λ z. z.id ≡ e.id)
          go None is some = absurd (false≢true some)
          go (Some z) is some = let m = entry_member book z e.id is in record { item = z; there = m.0; holds = m.1 }

  there_of : (e : Entry) → Contains (filter (is_unquiet cpus) (map (dead_unless known) book)) e → Contains (filter (is_unquiet cpus) known) e
  there_of e h =
      let f = filter_from (is_unquiet cpus) (map (dead_unless known) book) e h in
      let m = map_from (dead_unless known) book e f.0 in
      go m.item m.there m.holds f.1 (stays known m.item.id) refl
    where
      put : (x s : Entry) → Contains book x → dead_unless known x ≡ e → is_unquiet cpus e ≡ true → Contains known s → x.id ≡ s.id → Contains (filter (is_unquiet cpus) known) e
      put x s there is passes in_known same =
          let one : s ≡ e = sym (matched x s there in_known same) ∙ is in
          filter_has (is_unquiet cpus) known e (subst (λ (z : Entry). Contains known z) one in_known) passes

      go : (x : Entry) → Contains book x → dead_unless known x ≡ e → is_unquiet cpus e ≡ true → (b : Bool) → stays known x.id ≡ b → Contains (filter (is_unquiet cpus) known) e
      go x there is passes true stay =
          let m = list_any_from (λ (z : Entry). (z.id == x.id) && not (is_dead z.state)) known stay in
          put x m.item there is passes m.there (sym (eqb-true m.item.id x.id (and_parts (m.item.id == x.id) (not (is_dead m.item.state)) m.holds).0))
      go x there is passes false off =
          let dead : kept x ≡ e = sym (cond-false (stays known x.id) x (kept x) off) ∙ is in
          let m = unquiet_known x there off (ap (is_unquiet cpus) dead ∙ passes) in
          put x m.item there is passes m.there m.holds

  back_of : (e : Entry) → Contains (filter (is_unquiet cpus) known) e → Contains (filter (is_unquiet cpus) (map (dead_unless known) book)) e
  back_of e h =
      let f = filter_from (is_unquiet cpus) known e h in
      let m = its e.state refl f.0 f.1 in
      let one : dead_unless known m.item ≡ e = matched m.item e m.there f.0 m.holds in
      filter_has (is_unquiet cpus) (map (dead_unless known) book) e (subst (λ (z : Entry). Contains (map (dead_unless known) book) z) one (map_has (dead_unless known) book m.item m.there)) f.1
    where
      its : (s : State) → e.state ≡ s → Contains known e → is_unquiet cpus e ≡ true → Member Entry book (λ x. x.id ≡ e.id)
      its Loaded is there passes = let m = its_loaded e there is in record { item = m.item; there = m.there; holds = m.holds.0 }
      its Dead is there passes = go (entry_of book e.id) refl (All-contains (λ (x : Entry). x.state ≡ Dead → is_unquiet cpus x ≡ true → IsSome (entry_of book x.id)) known e k.held there is passes)
        where
          go : (o : Option Entry) → entry_of book e.id ≡ o → IsSome o → Member Entry book (λ x. x.id ≡ e.id)
          go None found some = absurd (false≢true some)
          go (Some z) found some = let m = entry_member book z e.id found in record { item = z; there = m.0; holds = m.1 }

  pub closes : filter (is_unquiet cpus) (map (dead_unless known) book) ≡ filter (is_unquiet cpus) known
  closes =
      same_members (filter (is_unquiet cpus) (map (dead_unless known) book)) (filter (is_unquiet cpus) known)
      (AllPairs-filter (λ (one : Entry) (other : Entry). one.id < other.id) (is_unquiet cpus) (map (dead_unless known) book) (rises_by_ids book (map (dead_unless known) book) marked_ids k.rises))
      (AllPairs-filter (λ (one : Entry) (other : Entry). one.id < other.id) (is_unquiet cpus) known k.rises_known) there_of back_of
