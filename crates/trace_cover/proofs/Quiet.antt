-- A module is named exactly where something is counted under one of its tags.
use Rattle.std.proofs.Common.{◌≡◌, ◌≢◌, ℕ, zero, suc, ◌+◌, ◌<◌, ◌≤◌, Bool, true, false, cond, not, eqb, List, [], ◌∷◌, length, get_or, Option, Some, None, All, AllPairs, refl, sym, ap, ◌∙◌, subst, subst₂, arith, eqb-true, eq-eqb, ne_eqb, leb, ltb, leb-true, ltb-true, ⊎_elim}
use Rattle.std.specs.Prelude.{◌&&◌, ◌==◌, ◌||◌, nat_lt}
use Rattle.std.specs.List.{Any, enumerate_from, flat_map, list_all, list_any, range_with_len}
use Rattle.std.proofs.lemmas.Bool.{cases_lt, eqb-false, and_parts}
use Rattle.std.proofs.lemmas.List.{get_or_default}
use Rattle.std.proofs.lemmas.List.Folds.{Any-from_list_any, list_any-append}
use Rattle.std.proofs.lemmas.List.Sums.{sum_by-append, sum_by-cons}
use Rattle.tag_model.specs.declared.state.Held.{Held}
use Rattle.tag_model.specs.declared.state.Held.TheVariants as held
use Rattle.tag_model.specs.declared.state.Kind.{Kind}
use Rattle.tag_model.specs.declared.state.Kind.TheVariants.{Bytes, Calls}
use Rattle.tag_model.specs.declared.state.Tag.{Tag}
use Rattle.tag_model.specs.Index.{Slot}
use Rattle.tag_model.specs.Index as index
use Rattle.tag_model.specs.Reference.{amount, held_counts, live_total}
use Rattle.tag_model.specs.Wrap.{wrap}
use Rattle.module_area.specs.declared.entry.Entry.{Entry}
use Rattle.module_area.specs.Entries.{Covers, covers}
use Rattle.page_ext.specs.Blocks.{page_bytes}
use Rattle.slab_cache.specs.Classes.{slab_order}
use Rattle.slab_cache.specs.Slabs.{Slab, slab_held}
use Rattle.slab_cache.specs.Storage.{Object, Pages, Uncounted}
use Rattle.round_check.proofs.Named.{by_bool}
use Rattle.trace.specs.declared.traces.Trace.{Trace}
use Rattle.trace_play.specs.Live as live
use Rattle.trace_play.specs.Live.{Content, Live, Nothing, Stored}
use Rattle.trace_play.specs.Machine.{Machine, content_cell, live_cells, names, slab_cell, slab_cells}
use Rattle.trace_play.specs.Barrier.{is_named}
use Rattle.trace_play.specs.Play.{section_len}
use Rattle.trace_play.specs.Worker.{Seat}
use Rattle.trace_play.proofs.HooksFit.{either_or}
use Rattle.trace_cover.specs.Cover.{HasReference, has_tag, held_may, is_covered, is_quiet_at, is_quiet_range}
use Rattle.trace_cover.proofs.Passes.{AllMay, content_may}
use Rattle.trace_cover.proofs.Holds.{Covered, named_keys}
use Rattle.trace_cover.proofs.Few.{calls_most}
use Rattle.tag_model.proofs.Lists.{range_at}

-- ---- a list's element that passes

any_here : {X : Type 0} (P : X → Type 0) (x : X) (xs : List X) → P x → Any P (x ∷ xs)
any_here P x xs p = (0, x, omega arith, refl, p)

any_later : {X : Type 0} (P : X → Type 0) (x : X) (xs : List X) → Any P xs → Any P (x ∷ xs)
any_later P x xs any = (suc any.0, any.1, (let l = any.2 in omega arith), any.3, any.4)

-- ---- what a key's reference counts

module _ (kind : Kind) (t : ℕ) where
  held_total : (slot : Slot) (h : Held) → live_total kind t ((slot, h) ∷ []) ≡ held_counts kind t h
  held_total slot h = let s = sum_by-cons (λ (entry : Slot × Held). held_counts kind t entry.1) (slot, h) [] in omega (arith, s)

  counted : (h : Held) → held_counts kind t h ≢ 0 → (tag : Tag) × (size : ℕ) × (h ≡ held.Counted tag size) × (tag.number ≡ t)
  counted held.None n = absurd (n refl)
  counted held.Empty n = absurd (n refl)
  counted (held.Counted tag size) n =
      by_bool {P = (named : Tag) × (bytes : ℕ) × (held.Counted tag size ≡ held.Counted named bytes) × (named.number ≡ t)} (eqb tag.number t)
      (λ e. (tag, size, refl, eqb-true tag.number t e))
      (λ e. absurd (n (ap (λ b. cond b (amount kind size 1) 0) e)))

  content_total : (content : Content) → live_total kind t (content_cell content) ≢ 0 → HasReference t content
  content_total (Nothing order) n = absurd (n refl)
  content_total (Stored (Pages block)) n = let c = counted block.holds (λ e. n (held_total (index.Page block.home block.frame) block.holds ∙ e)) in record { tag = c.0; size = c.1; is = c.2; at = c.3 }
  content_total (Stored (Object home frame place vector holds)) n = let c = counted holds (λ e. n (held_total (index.Object home vector place) holds ∙ e)) in record { tag = c.0; size = c.1; is = c.2; at = c.3 }
  content_total (Stored (Uncounted home frame place)) n = absurd (n refl)

  keys_total : (entries : Live) → live_total kind t (flat_map (λ (entry : ℕ × Content). content_cell entry.1) entries) ≢ 0 → Any (λ (entry : ℕ × Content). HasReference t entry.1) entries
  keys_total [] n = absurd (n refl)
  keys_total (e ∷ entries) n =
      let s = sum_by-append (λ (entry : Slot × Held). held_counts kind t entry.1) (content_cell e.1) (flat_map (λ (entry : ℕ × Content). content_cell entry.1) entries) in
      by_bool {P = Any (λ (entry : ℕ × Content). HasReference t entry.1) (e ∷ entries)} (eqb (live_total kind t (content_cell e.1)) 0)
      (λ z. any_later (λ (entry : ℕ × Content). HasReference t entry.1) e entries (keys_total entries (λ later. n (s ∙ (let here = eqb-true (live_total kind t (content_cell e.1)) 0 z in omega (arith, here, later))))))
      (λ z. any_here (λ (entry : ℕ × Content). HasReference t entry.1) e entries (content_total e.1 (eqb-false _ 0 z)))

  -- slabs count under tag 0 alone
  slab_total : (cpu frame : ℕ) (slab : Option Slab) → 0 < t → live_total kind t (slab_cell cpu frame slab) ≡ 0
  slab_total cpu frame None some = refl
  slab_total cpu frame (Some slab) some = held_total (index.Page cpu frame) (slab_held slab.class) ∙ ap (λ b. cond b (amount kind (page_bytes (slab_order slab.class)) 1) 0) (ne_eqb 0 t (λ e. omega (arith, e, some)))

  flat_zero : {X : Type 0} (f : X → List (Slot × Held)) (xs : List X) → ((x : X) → live_total kind t (f x) ≡ 0) → live_total kind t (flat_map f xs) ≡ 0
  flat_zero f [] each = refl
  flat_zero f (x ∷ xs) each = sum_by-append (λ (entry : Slot × Held). held_counts kind t entry.1) (f x) (flat_map f xs) ∙ (let here = each x in let later = flat_zero f xs each in omega (arith, here, later))

  -- what is counted under a tag above 0 is a key's
  pub key_counts : (m : Machine) → 0 < t → live_total kind t (live_cells m) ≢ 0 → Any (λ (entry : ℕ × Content). HasReference t entry.1) m.live
  key_counts m some n =
      keys_total m.live
      (λ none. n (sum_by-append (λ (entry : Slot × Held). held_counts kind t entry.1) (flat_map (λ (entry : ℕ × Content). content_cell entry.1) m.live) (flat_map (λ (seat : Seat). slab_cells seat.node) m.seats)
      ∙ (let slabs = flat_zero (λ (seat : Seat). slab_cells seat.node) m.seats (λ seat. flat_zero (λ (entry : ℕ × Option Slab). slab_cell seat.node.node.cpu entry.0 entry.1) (enumerate_from 0 seat.node.slabs) (λ entry. slab_total seat.node.node.cpu entry.0 entry.1 some)) in omega (arith, none, slabs))))

-- ---- a key's reference is counted

one_counts : (t : ℕ) (content : Content) → HasReference t content → 1 ≤ live_total Calls t (content_cell content)
one_counts t content h = by content h.is
  where
    is_one : (h' : Held) → h' ≡ held.Counted h.tag h.size → held_counts Calls t h' ≡ 1
    is_one h' e = ap (held_counts Calls t) e ∙ ap (λ b. cond b 1 0) (eq-eqb h.tag.number t h.at)

    by : (content : Content) → live.held_of content ≡ held.Counted h.tag h.size → 1 ≤ live_total Calls t (content_cell content)
    by (Nothing order) e = let no : ⊥ = cc in absurd no
    by (Stored (Pages block)) e = omega (arith, held_total Calls t (index.Page block.home block.frame) block.holds, is_one block.holds e)
    by (Stored (Object home frame place vector holds)) e = omega (arith, held_total Calls t (index.Object home vector place) holds, is_one holds e)
    by (Stored (Uncounted home frame place)) e = let no : ⊥ = cc in absurd no

keys_count : (t : ℕ) (entries : Live) → Any (λ (entry : ℕ × Content). HasReference t entry.1) entries → 1 ≤ live_total Calls t (flat_map (λ (entry : ℕ × Content). content_cell entry.1) entries)
keys_count t [] any = let l = any.2 in absurd (omega (arith, l))
keys_count t (e ∷ entries) (zero, x, below, same, h) =
    let s = sum_by-append (λ (entry : Slot × Held). held_counts Calls t entry.1) (content_cell e.1) (flat_map (λ (entry : ℕ × Content). content_cell entry.1) entries) in
    let one = one_counts t e.1 (subst (λ (y : ℕ × Content). HasReference t y.1) (sym same) h) in
    omega (arith, s, one)
keys_count t (e ∷ entries) (suc k, x, below, same, h) =
    let s = sum_by-append (λ (entry : Slot × Held). held_counts Calls t entry.1) (content_cell e.1) (flat_map (λ (entry : ℕ × Content). content_cell entry.1) entries) in
    let later = keys_count t entries (k, x, (let b = below in omega (arith, b)), same, h) in
    omega (arith, s, later)

pub machine_counts : (m : Machine) (t : ℕ) → Any (λ (entry : ℕ × Content). HasReference t entry.1) m.live → 1 ≤ live_total Calls t (live_cells m)
machine_counts m t any =
    let s = sum_by-append (λ (entry : Slot × Held). held_counts Calls t entry.1) (flat_map (λ (entry : ℕ × Content). content_cell entry.1) m.live) (flat_map (λ (seat : Seat). slab_cells seat.node) m.seats) in
    omega (arith, s, keys_count t m.live any)

-- ---- a key's reference that names a module

abbrev NamesIt : ℕ → Content → Type 0
NamesIt id content = (tag : Tag) × (size : ℕ) × (live.held_of content ≡ held.Counted tag size) × (tag.module ≡ id)

module _ (id : ℕ) (some : 0 < id) where
  abbrev naming : List (Slot × Held) → Bool
  naming cells = list_any (λ (entry : Slot × Held). names id entry.1) cells

  held_names : (slot : Slot) (h : Held) → naming ((slot, h) ∷ []) ≡ true → (tag : Tag) × (size : ℕ) × (h ≡ held.Counted tag size) × (tag.module ≡ id)
  held_names slot held.None e = let no : ⊥ = cc in absurd no
  held_names slot held.Empty e = let no : ⊥ = cc in absurd no
  held_names slot (held.Counted tag size) e = (tag, size, refl, eqb-true tag.module id (only (eqb tag.module id) e))
    where
      only : (b : Bool) → (b || false) ≡ true → b ≡ true
      only true h = refl
      only false h = h

  content_names : (content : Content) → naming (content_cell content) ≡ true → NamesIt id content
  content_names (Nothing order) e = let no : ⊥ = cc in absurd no
  content_names (Stored (Pages block)) e = held_names (index.Page block.home block.frame) block.holds e
  content_names (Stored (Object home frame place vector holds)) e = held_names (index.Object home vector place) holds e
  content_names (Stored (Uncounted home frame place)) e = let no : ⊥ = cc in absurd no

  keys_named : (entries : Live) → naming (flat_map (λ (entry : ℕ × Content). content_cell entry.1) entries) ≡ true → Any (λ (entry : ℕ × Content). NamesIt id entry.1) entries
  keys_named [] e = let no : ⊥ = cc in absurd no
  keys_named (x ∷ entries) e =
      by_bool {P = Any (λ (entry : ℕ × Content). NamesIt id entry.1) (x ∷ entries)} (naming (content_cell x.1))
      (λ h. any_here (λ (entry : ℕ × Content). NamesIt id entry.1) x entries (content_names x.1 h))
      (λ h. any_later (λ (entry : ℕ × Content). NamesIt id entry.1) x entries (keys_named entries (either_or (naming (content_cell x.1)) _ (sym (list_any-append (λ (entry : Slot × Held). names id entry.1) (content_cell x.1) _) ∙ e) h)))

  slab_names : (cpu frame : ℕ) (slab : Option Slab) → naming (slab_cell cpu frame slab) ≡ false
  slab_names cpu frame None = refl
  slab_names cpu frame (Some slab) = ap (λ b. b || false) (ne_eqb 0 id (λ e. omega (arith, e, some)))

  none_flat : {X : Type 0} (f : X → List (Slot × Held)) (xs : List X) → ((x : X) → naming (f x) ≡ false) → naming (flat_map f xs) ≡ false
  none_flat f [] each = refl
  none_flat f (x ∷ xs) each = list_any-append (λ (entry : Slot × Held). names id entry.1) (f x) (flat_map f xs) ∙ ap (λ b. b || naming (flat_map f xs)) (each x) ∙ none_flat f xs each

  key_names : (m : Machine) → is_named id m ≡ true → Any (λ (entry : ℕ × Content). NamesIt id entry.1) m.live
  key_names m e =
      let slabs = none_flat (λ (seat : Seat). slab_cells seat.node) m.seats (λ seat. none_flat (λ (entry : ℕ × Option Slab). slab_cell seat.node.node.cpu entry.0 entry.1) (enumerate_from 0 seat.node.slabs) (λ entry. slab_names seat.node.node.cpu entry.0 entry.1)) in
      let keys = naming (flat_map (λ (entry : ℕ × Content). content_cell entry.1) m.live) in
      keys_named m.live (left_true keys (naming (flat_map (λ (seat : Seat). slab_cells seat.node) m.seats)) (sym (list_any-append (λ (entry : Slot × Held). names id entry.1) (flat_map (λ (entry : ℕ × Content). content_cell entry.1) m.live) _) ∙ e) slabs)
    where
      left_true : (a b : Bool) → (a || b) ≡ true → b ≡ false → a ≡ true
      left_true true b h n = refl
      left_true false b h n = let no : ⊥ = cc in absurd no

-- ---- entries

may_at : (may : Tag → Bool) (entries : Live) (k : ℕ) (d : ℕ × Content) → AllMay may entries → k < length entries → content_may may (get_or entries k d).1 ≡ true
may_at may [] k d a low = absurd (omega (arith, low))
may_at may (e ∷ entries) zero d a low = a.0
may_at may (e ∷ entries) (suc k) d a low = may_at may entries k d a.1 (omega (arith, low))

may_of : (may : Tag → Bool) (content : Content) (tag : Tag) (size : ℕ) → live.held_of content ≡ held.Counted tag size → content_may may content ≡ true → may tag ≡ true
may_of may content tag size is h = sym (ap (held_may may) is) ∙ h

-- two places of a list that no relation of earlier and later joins are one
one_place : (R : Entry → Entry → Type 0) (entries : List Entry) (i j : ℕ) (a b : Entry) → AllPairs R entries → i < length entries → j < length entries → get_or entries i a ≡ a → get_or entries j b ≡ b → (R a b → ⊥) → (R b a → ⊥) → a ≡ b
one_place R entries i j a b pairs low_i low_j is_a is_b not_ab not_ba =
    ⊎_elim
    (λ less. absurd (not_ab (subst₂ R is_a (get_or_default entries j a b low_j ∙ is_b) (pairs i j a less low_j))))
    (λ more. ⊎_elim (λ less. absurd (not_ba (subst₂ R is_b (get_or_default entries i b a low_i ∙ is_a) (pairs j i b less low_i)))) (λ same. sym is_a ∙ get_or_default entries i a b low_i ∙ ap (λ k. get_or entries k b) (omega (arith, more, same)) ∙ is_b) (cases_lt j i))
    (cases_lt i j)

-- a test that doesn't hold of all of a range fails somewhere in it
pub range_fails : (p : ℕ → Bool) (from many : ℕ) → list_all p (range_with_len from many) ≡ false → (t : ℕ) × (from ≤ t) × (t < from + many) × (p t ≡ false)
range_fails p from zero h = let no : ⊥ = cc in absurd no
range_fails p from (suc many) h =
    by_bool {P = (t : ℕ) × (from ≤ t) × (t < from + suc many) × (p t ≡ false)} (p from)
    (λ e. let r = range_fails p (from + 1) many (sym (ap (λ b. b && list_all p (range_with_len (from + 1) many)) e) ∙ h) in (r.0, omega (arith, r.1), omega (arith, r.2), r.3))
    (λ e. (from, omega arith, omega arith, e))

-- ---- named or quiet

module _ (trace : Trace) (m : Machine) (c : Covered trace m) (kernel : section_len trace 0 ≤ 128) (few : length (live_cells m) ≤ 131072) where
  abbrev covered_here : Tag → Bool
  covered_here = is_covered (section_len trace 0) m.area.entries

  -- something is counted under a tag of a module: a key has it, and an entry of its module
  pub record Counts (t : ℕ) : Type 0 where
    pub key : Any (λ (entry : ℕ × Content). HasReference t entry.1) m.live
    pub entry : Any (λ (e : Entry). has_tag key.4.tag e ≡ true) m.area.entries

  pub counts_at : (t : ℕ) → 128 ≤ t → is_quiet_at m t ≡ false → Counts t
  counts_at t high loud =
      let key = either in
      let may = may_of covered_here key.1.1 key.4.tag key.4.size key.4.is (ap (λ (x : ℕ × Content). content_may covered_here x.1) (sym key.3) ∙ may_at covered_here m.live key.0 key.1 c.refs key.2) in
      record {
        key = key;
        entry = Any-from_list_any (has_tag key.4.tag) m.area.entries
            (either_or ((key.4.tag.module == 0) && nat_lt key.4.tag.number (section_len trace 0)) _ may
            (not_kernel key.4.tag key.4.at));
      }
    where
      total_of : (n : ℕ) → (wrap n == 0) ≡ false → n ≢ 0
      total_of n e z = let w : wrap n ≡ 0 = omega (arith, z) in let no : ⊥ = cc (e, eq-eqb (wrap n) 0 w) in no

      either : Any (λ (entry : ℕ × Content). HasReference t entry.1) m.live
      either =
          by_bool {P = Any (λ (entry : ℕ × Content). HasReference t entry.1) m.live} (wrap (live_total Bytes t (live_cells m)) == 0)
          (λ e. key_counts Calls t m (omega (arith, high)) (total_of _ (sym (ap (λ b. b && (wrap (live_total Calls t (live_cells m)) == 0)) e) ∙ loud)))
          (λ e. key_counts Bytes t m (omega (arith, high)) (total_of _ e))

      not_kernel : (tag : Tag) → tag.number ≡ t → ((tag.module == 0) && nat_lt tag.number (section_len trace 0)) ≡ false
      not_kernel tag at =
          by_bool {P = ((tag.module == 0) && nat_lt tag.number (section_len trace 0)) ≡ false} ((tag.module == 0) && nat_lt tag.number (section_len trace 0))
          (λ h. let l = ltb-true tag.number (section_len trace 0) (and_parts (tag.module == 0) _ h).1 in absurd (omega (arith, l, kernel, at, high)))
          (λ h. h)

  tag_in_entry : (e : Entry) (tag : Tag) → has_tag tag e ≡ true → (e.id ≡ tag.module) × Covers e tag.number
  tag_in_entry e tag h =
      let both = and_parts (e.id == tag.module) (covers e tag.number) h in
      let range = and_parts (leb e.start tag.number) (ltb tag.number (e.start + e.length)) both.1 in
      (eqb-true e.id tag.module both.0, (leb-true e.start tag.number range.0, ltb-true tag.number (e.start + e.length) range.1))

  loud_named : (k : ℕ) (e : Entry) → k < length m.area.entries → get_or m.area.entries k e ≡ e → is_quiet_range m e ≡ false → is_named e.id m ≡ true
  loud_named k e low is loud =
      let t = range_fails (is_quiet_at m) e.start e.length loud in
      let lies = subst (λ (x : Entry). (m.area.first ≤ x.start) × (x.start + x.length ≤ m.area.first + m.area.tags)) is (c.book.in_area k e low) in
      let counted = counts_at t.0 (omega (arith, t.1, lies.0, c.first)) t.3 in
      let key = counted.key in
      let found = tag_in_entry counted.entry.1 key.4.tag counted.entry.4 in
      let covers_t : Covers counted.entry.1 t.0 = subst (Covers counted.entry.1) key.4.at found.1 in
      let same : e ≡ counted.entry.1 = one_place (λ one other. (tag : ℕ) → Covers one tag → ¬ Covers other tag) m.area.entries k counted.entry.0 e counted.entry.1 c.book.apart low counted.entry.2 is counted.entry.3 (λ apart. apart t.0 (t.1, t.2) covers_t) (λ apart. apart t.0 covers_t (t.1, t.2)) in
      let named : is_named key.4.tag.module m ≡ true = may_of (λ tag. is_named tag.module m) key.1.1 key.4.tag key.4.size key.4.is (ap (λ (x : ℕ × Content). content_may (λ tag. is_named tag.module m) x.1) (sym key.3) ∙ may_at (λ tag. is_named tag.module m) m.live key.0 key.1 (named_keys m) key.2) in
      ap (λ id. is_named id m) (ap (λ (x : Entry). x.id) same ∙ found.0) ∙ named

  named_loud : (k : ℕ) (e : Entry) → k < length m.area.entries → get_or m.area.entries k e ≡ e → is_named e.id m ≡ true → is_quiet_range m e ≡ true → ⊥
  named_loud k e low is named quiet =
      let some : 0 < e.id = subst (λ (x : Entry). 0 < x.id) is (c.book.above_zero k e low) in
      let key = key_names e.id some m named in
      let tag = key.4.0 in
      let may : covered_here tag ≡ true = may_of covered_here key.1.1 tag key.4.1 key.4.2 (ap (λ (x : ℕ × Content). content_may covered_here x.1) (sym key.3) ∙ may_at covered_here m.live key.0 key.1 c.refs key.2) in
      let entry = Any-from_list_any (has_tag tag) m.area.entries (either_or ((tag.module == 0) && nat_lt tag.number (section_len trace 0)) _ may (not_kernel tag (omega (arith, key.4.3, some)))) in
      let found = tag_in_entry entry.1 tag entry.4 in
      let ids : e.id ≡ entry.1.id = sym key.4.3 ∙ sym found.0 in
      let same : e ≡ entry.1 = one_place (λ one other. one.id < other.id) m.area.entries k entry.0 e entry.1 c.book.rising low entry.2 is entry.3 (λ less. omega (arith, less, ids)) (λ less. omega (arith, less, ids)) in
      let at : Covers e tag.number = subst (λ (x : Entry). Covers x tag.number) (sym same) found.1 in
      let count = machine_counts m tag.number (key.0, key.1, key.2, key.3, record { tag = tag; size = key.4.1; is = key.4.2; at = refl }) in
      let most = calls_most tag.number (live_cells m) in
      let none : (wrap (live_total Calls tag.number (live_cells m)) == 0) ≡ true = (and_parts (wrap (live_total Bytes tag.number (live_cells m)) == 0) _ (range_at (is_quiet_at m) e.start e.length tag.number quiet at.0 at.1)).1 in
      let zero_is = eqb-true (wrap (live_total Calls tag.number (live_cells m))) 0 none in
      omega (arith, zero_is, count, most, few)
    where
      not_kernel : (tag : Tag) → 0 < tag.module → ((tag.module == 0) && nat_lt tag.number (section_len trace 0)) ≡ false
      not_kernel tag some = ap (λ b. b && nat_lt tag.number (section_len trace 0)) (ne_eqb tag.module 0 (λ e. omega (arith, e, some)))

  pub named_or_quiet : (k : ℕ) (e : Entry) → k < length m.area.entries → get_or m.area.entries k e ≡ e → is_named e.id m ≡ not (is_quiet_range m e)
  named_or_quiet k e low is =
      by_bool {P = is_named e.id m ≡ not (is_quiet_range m e)} (is_quiet_range m e)
      (λ quiet. by_bool {P = is_named e.id m ≡ not (is_quiet_range m e)} (is_named e.id m) (λ named. absurd (named_loud k e low is named quiet)) (λ named. named ∙ sym (ap not quiet)))
      (λ loud. loud_named k e low is loud ∙ sym (ap not loud))

  pub are_counted : All (λ (e : Entry). is_named e.id m ≡ not (is_quiet_range m e)) m.area.entries
  are_counted k d low = let e = get_or m.area.entries k d in named_or_quiet k e low (get_or_default m.area.entries k e d low)
