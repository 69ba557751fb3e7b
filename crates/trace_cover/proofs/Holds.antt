-- What holds of modules and references between the items of a checked trace.
use Rattle.std.proofs.Common.{◌≡◌, ℕ, ◌+◌, ◌<◌, ◌≤◌, Bool, true, false, cond, not, ◌||◌, List, [], ◌∷◌, length, map, Option, Some, None, All, refl, sym, ap, ◌∙◌, subst, subst₂, arith, eqb-true, lt-ltb, le-leb, eq-eqb}
use Rattle.std.specs.Prelude.{IsSome, IsTrue, nat_lt, ◌&&◌, ◌==◌, if◌then◌else◌}
use Rattle.std.specs.List.{find, filter, flat_map, list_all, list_any, range_with_len}
use Rattle.std.proofs.lemmas.List.Folds.{list_any-append}
use Rattle.std.proofs.lemmas.List.Elements.{All-head, All-tail, All-weaker, All-map, All-filter}
use Rattle.tag_model.specs.declared.state.Held.{Held}
use Rattle.tag_model.specs.declared.state.Held.TheVariants as held
use Rattle.tag_model.specs.declared.state.Tag.{Tag}
use Rattle.tag_model.specs.Index as index
use Rattle.tag_model.specs.Index.{Slot}
use Rattle.module_area.specs.declared.entry.Entry.{Entry}
use Rattle.module_area.specs.declared.entry.State.{State}
use Rattle.module_area.specs.declared.entry.State.TheVariants.{Loaded, Dead}
use Rattle.module_area.specs.Area.{Area, IsBook}
use Rattle.module_area.specs.Entries.{covers, is_dead, is_loaded_as, is_loaded_at}
use Rattle.module_area.proofs.BookLemmas.{IsBook-filter}
use Rattle.trace.specs.declared.traces.OnOp.{OnOp}
use Rattle.trace.specs.declared.traces.Trace.{Trace}
use Rattle.trace.specs.declared.traces.TraceOp.{TraceOp}
use Rattle.trace.specs.declared.traces.TraceOp.TheVariants as op
use Rattle.round_check.specs.declared.walk.Walk.{Walk}
use Rattle.slab_cache.specs.Storage.{Object, Pages, Uncounted}
use Rattle.trace_play.specs.Live as live
use Rattle.trace_play.specs.Live.{Content, Live, Nothing, Stored}
use Rattle.trace_play.specs.Alone.{rises}
use Rattle.trace_play.specs.Machine.{Machine, content_cell, names}
use Rattle.trace_play.specs.Barrier.{all_home, cleaned, cpu_done, cpus_done, is_named, module_done, modules_done, none_on_its_way, on_its_way, storage_home}
use Rattle.trace_play.specs.Play.{section_len}
use Rattle.trace_play.specs.Fits.{RoundFits}
use Rattle.trace_play.specs.Ready.{IsReady, MayCount, runs_inside}
use Rattle.trace_play.specs.Worker.{tag_from}
use Rattle.trace_play.proofs.Rising.{fold_keeps}
use Rattle.trace_cover.specs.Cover.{AreNamed, IsOfSection, has_tag, is_covered}
use Rattle.trace_cover.specs.Cover.{held_may}
use Rattle.trace_cover.proofs.Passes.{AllMay, content_may}
use Rattle.std.proofs.lemmas.Bool.{or_left, or_right, and_parts}
use Rattle.trace_cover.proofs.Areas.{book_map, covered_map, unloads, unloads_keeps, unloads_users}
use Rattle.trace_cover.proofs.RoundMay.{round_may}
use Rattle.trace_play.proofs.ReadyHolds.{cpus_area}

-- the entries are a book of the trace's, and the keys have tags of the kernel's and of entries
pub record Covered (trace : Trace) (m : Machine) : Type 0 where
  pub book : IsBook m.area
  pub first : m.area.first ≡ 128
  pub tags : m.area.tags ≡ trace.area
  pub named : All (IsOfSection trace) m.area.entries
  pub given : All (λ (e : Entry). e.id ≤ m.last_id) m.area.entries
  pub unused : All (λ (e : Entry). e.users ≡ 0) m.area.entries
  pub refs : AllMay (is_covered (section_len trace 0) m.area.entries) m.live

-- ---- tests of tags

pub may_more : (may more : Tag → Bool) → ((tag : Tag) → may tag ≡ true → more tag ≡ true) → (entries : Live) → AllMay may entries → AllMay more entries
may_more may more less [] a = tt
may_more may more less (e ∷ entries) a = (by (live.held_of e.1) a.0, may_more may more less entries a.1)
  where
    by : (h : Held) → held_may may h ≡ true → held_may more h ≡ true
    by held.None h = refl
    by held.Empty h = refl
    by (held.Counted tag size) h = less tag h

pub both_may : (may more : Tag → Bool) (entries : Live) → AllMay may entries → AllMay more entries → AllMay (λ tag. may tag && more tag) entries
both_may may more [] a b = tt
both_may may more (e ∷ entries) a b = (by (live.held_of e.1) a.0 b.0, both_may may more entries a.1 b.1)
  where
    both : (p q : Bool) → p ≡ true → q ≡ true → (p && q) ≡ true
    both true q p r = r
    both false q p r = p

    by : (h : Held) → held_may may h ≡ true → held_may more h ≡ true → held_may (λ tag. may tag && more tag) h ≡ true
    by held.None g h = refl
    by held.Empty g h = refl
    by (held.Counted tag size) g h = both (may tag) (more tag) g h

-- a module that a key's reference names is named
keys_name : (is_one : ℕ → Bool) (entries : Live) → ((id : ℕ) → list_any (λ (entry : Slot × Held). names id entry.1) (flat_map (λ (entry : ℕ × Content). content_cell entry.1) entries) ≡ true → is_one id ≡ true) → AllMay (λ tag. is_one tag.module) entries
keys_name is_one [] h = tt
keys_name is_one (e ∷ entries) h = (
  by_content e.1 (λ id is. h id (list_any-append (λ (entry : Slot × Held). names id entry.1) (content_cell e.1) _ ∙ or_left _ _ is)),
  keys_name is_one entries (λ id is. h id (list_any-append (λ (entry : Slot × Held). names id entry.1) (content_cell e.1) _ ∙ or_right _ _ is)),
)
  where
    same : (n : ℕ) → (n == n) ≡ true
    same n = eq-eqb n n refl

    by_held : (slot : Slot) (x : Held) → ((id : ℕ) → list_any (λ (entry : Slot × Held). names id entry.1) ((slot, x) ∷ []) ≡ true → is_one id ≡ true) → held_may (λ tag. is_one tag.module) x ≡ true
    by_held slot held.None h = refl
    by_held slot held.Empty h = refl
    by_held slot (held.Counted tag size) h = h tag.module (or_left _ _ (same tag.module))

    by_content : (content : Content) → ((id : ℕ) → list_any (λ (entry : Slot × Held). names id entry.1) (content_cell content) ≡ true → is_one id ≡ true) → content_may (λ tag. is_one tag.module) content ≡ true
    by_content (Nothing order) h = refl
    by_content (Stored (Pages block)) h = by_held (index.Page block.home block.frame) block.holds h
    by_content (Stored (Object home frame place vector holds)) h = by_held (index.Object home vector place) holds h
    by_content (Stored (Uncounted home frame place)) h = refl

pub named_keys : (m : Machine) → AllMay (λ tag. is_named tag.module m) m.live
named_keys m =
    keys_name (λ id. is_named id m) m.live
    (λ id is. list_any-append (λ (entry : Slot × Held). names id entry.1) (flat_map (λ (entry : ℕ × Content). content_cell entry.1) m.live) _ ∙ or_left _ _ is)

-- ---- entries that are found

found_any : (p q : Entry → Bool) (entries : List Entry) (e : Entry) → find p entries ≡ Some e → q e ≡ true → list_any q entries ≡ true
found_any p q [] e is h = let no : ⊥ = cc in absurd no
found_any p q (x ∷ xs) e is h = by (p x) is (found_any p q xs e)
  where
    by : (b : Bool) → cond b (Some x) (find p xs) ≡ Some e → (find p xs ≡ Some e → q e ≡ true → list_any q xs ≡ true) → (q x || list_any q xs) ≡ true
    by true is later = let same : x ≡ e = cc in or_left _ _ (ap q same ∙ h)
    by false is later = or_right _ _ (later is h)

found_all : (P : Entry → Type 0) (p : Entry → Bool) (entries : List Entry) (e : Entry) → All P entries → find p entries ≡ Some e → P e × (p e ≡ true)
found_all P p [] e all is = let no : ⊥ = cc in absurd no
found_all P p (x ∷ xs) e all is = by (p x) refl is (found_all P p xs e (All-tail P x xs all))
  where
    by : (b : Bool) → p x ≡ b → cond b (Some x) (find p xs) ≡ Some e → (find p xs ≡ Some e → P e × (p e ≡ true)) → P e × (p e ≡ true)
    by true t is later = let same : x ≡ e = cc in subst (λ y. P y × (p y ≡ true)) same (All-head P x xs all, t)
    by false t is later = later is

loaded_section : (section : ℕ) (e : Entry) → is_loaded_as section e ≡ true → e.section ≡ section
loaded_section section e h = by e.state h
  where
    by : (state : State) → is_loaded_at state e.section section ≡ true → e.section ≡ section
    by Loaded h = eqb-true e.section section h
    by Dead h = let no : ⊥ = cc in absurd no

-- ---- what a CPU may count under is covered

pub counts : (trace : Trace) (ops : List OnOp) (before after : Walk) (m : Machine) → Covered trace m → IsReady trace ops before after m → (cpu : ℕ) → MayCount trace m.area.entries before ops cpu (is_covered (section_len trace 0) m.area.entries)
counts trace ops before after m c r cpu section index may low = by (section == 0) refl may
  where
    kernel : ℕ
    kernel = section_len trace 0

    entries : List Entry
    entries = m.area.entries

    both : (p q : Bool) → p ≡ true → q ≡ true → (p && q) ≡ true
    both true q p r = r
    both false q p r = p

    same : (n : ℕ) → (n == n) ≡ true
    same n = eq-eqb n n refl

    by_entry : (o : Option Entry) → find (is_loaded_as section) entries ≡ o → IsSome o → IsTrue (is_covered kernel entries (tag_from index o))
    by_entry None is some = let no : ⊥ = cc in absurd no
    by_entry (Some e) is some =
        let f : IsOfSection trace e × (is_loaded_as section e ≡ true) = found_all (IsOfSection trace) (is_loaded_as section) entries e c.named is in
        let long : e.length ≡ section_len trace section = f.0.1 ∙ ap (section_len trace) (loaded_section section e f.1) in
        (or_right _ _ (found_any (is_loaded_as section) (has_tag (tag_from index (Some e))) entries e is
        (both _ _ (same e.id) (both _ _ (le-leb e.start (e.start + index) (omega arith)) (lt-ltb (e.start + index) (e.start + e.length) (omega (arith, long, low)))))))

    by : (b : Bool) → (section == 0) ≡ b → (b || runs_inside before ops cpu section) ≡ true → IsTrue (is_covered kernel entries (tag_from index (if b then None else find (is_loaded_as section) entries)))
    by true e runs = (or_left _ _ (lt-ltb index kernel (subst (λ s. index < section_len trace s) (eqb-true section 0 e) low)))
    by false e runs = by_entry (find (is_loaded_as section) entries) refl (r.loaded cpu section runs)

-- ---- a round

pub cpus_last : (ops : List OnOp) (m : Machine) → (cpus_done ops m).last_id ≡ m.last_id
cpus_last ops m = fold_keeps (λ (x : Machine). x.last_id ≡ m.last_id) (cpu_done ops) (λ x cpu h. h) (range_with_len 0 (length m.seats)) m refl

module_covered : (trace : Trace) (m : Machine) (what : TraceOp) → Covered trace m → Covered trace (module_done m what)
module_covered trace m (op.Page key order) c = c
module_covered trace m (op.Kmalloc key size) c = c
module_covered trace m (op.Free key) c = c
module_covered trace m (op.Split key order first) c = c
module_covered trace m (op.Swap one two) c = c
module_covered trace m (op.Trim key pages) c = c
module_covered trace m (op.Hook section index) c = c
module_covered trace m op.Unhook c = c
module_covered trace m (op.Enter section) c = c
module_covered trace m (op.Leave section) c = c
module_covered trace m (op.Unload section) c =
    let f = unloads section in
    let keeps = unloads_keeps section in
    record {
      book = book_map f keeps m.area c.book;
      first = c.first;
      tags = c.tags;
      named = All-map (IsOfSection trace) f m.area.entries (All-weaker (IsOfSection trace) (λ e. IsOfSection trace (f e)) (λ e h. (subst (λ s. s < length trace.sections) (sym (keeps e).same_section) h.0, (keeps e).same_length ∙ h.1 ∙ ap (section_len trace) (sym (keeps e).same_section))) m.area.entries c.named);
      given = All-map (λ (e : Entry). e.id ≤ m.last_id) f m.area.entries (All-weaker (λ (e : Entry). e.id ≤ m.last_id) (λ e. (f e).id ≤ m.last_id) (λ e h. subst (λ n. n ≤ m.last_id) (sym (keeps e).same_id) h) m.area.entries c.given);
      unused = All-map (λ (e : Entry). e.users ≡ 0) f m.area.entries (All-weaker (λ (e : Entry). e.users ≡ 0) (λ e. (f e).users ≡ 0) (λ e h. unloads_users section e ∙ h) m.area.entries c.unused);
      refs = may_more _ _ (λ tag h. covered_map (section_len trace 0) f keeps m.area.entries tag ∙ h) m.live c.refs;
    }

-- behind the ops, the unloads and what came home
pub before_cleaning : (trace : Trace) (ops : List OnOp) (before : Walk) (m : Machine) → rises m.live ≡ true → (f : RoundFits ops before m) → IsReady trace ops before f.after m → Covered trace m → Covered trace (all_home (modules_done ops (cpus_done ops m)))
before_cleaning trace ops before m up f r c =
    let left = cpus_done ops m in
    let area = cpus_area ops m in
    let refs = round_may (is_covered (section_len trace 0) m.area.entries) trace ops before m up f r (λ cpu low. counts trace ops before f.after m c r cpu) c.refs in
    let here : Covered trace left = record {
      book = subst IsBook (sym area) c.book;
      first = ap (λ (a : Area). a.first) area ∙ c.first;
      tags = ap (λ (a : Area). a.tags) area ∙ c.tags;
      named = subst (λ (a : Area). All (IsOfSection trace) a.entries) (sym area) c.named;
      given = subst₂ (λ (a : Area) last. All (λ (e : Entry). e.id ≤ last) a.entries) (sym area) (sym (cpus_last ops m)) c.given;
      unused = subst (λ (a : Area). All (λ (e : Entry). e.users ≡ 0) a.entries) (sym area) c.unused;
      refs = subst (λ (a : Area). AllMay (is_covered (section_len trace 0) a.entries) left.live) (sym area) refs;
    } in
    let marked = modules_done ops left in
    let marked_is : Covered trace marked = fold_keeps (Covered trace) module_done (λ x what h. module_covered trace x what h) (map (λ (on : OnOp). on.op) ops) left here in
    fold_keeps (Covered trace) storage_home
    (λ x given h. record { book = h.book; first = h.first; tags = h.tags; named = h.named; given = h.given; unused = h.unused; refs = h.refs })
    (on_its_way marked) (none_on_its_way marked)
    (record { book = marked_is.book; first = marked_is.first; tags = marked_is.tags; named = marked_is.named; given = marked_is.given; unused = marked_is.unused; refs = marked_is.refs })

-- ---- the cleaning

any_filter : (p q : Entry → Bool) → ((e : Entry) → p e ≡ true → q e ≡ true) → (entries : List Entry) → list_any p entries ≡ true → list_any p (filter q entries) ≡ true
any_filter p q less [] h = h
any_filter p q less (e ∷ es) h = by (p e) refl (q e) refl h (any_filter p q less es)
  where
    by : (a : Bool) → p e ≡ a → (b : Bool) → q e ≡ b → (a || list_any p es) ≡ true → (list_any p es ≡ true → list_any p (filter q es) ≡ true) → list_any p (cond b (e ∷ filter q es) (filter q es)) ≡ true
    by true pe true qe h later = or_left _ _ pe
    by true pe false qe h later = let t = less e pe in let no : ⊥ = cc in absurd no
    by false pe true qe h later = or_right _ _ (later h)
    by false pe false qe h later = later h

all_kept : (p q : Entry → Bool) → ((e : Entry) → q e ≡ true → p e ≡ true) → (entries : List Entry) → list_all p (filter q entries) ≡ true
all_kept p q less [] = refl
all_kept p q less (e ∷ es) = by (q e) refl (all_kept p q less es)
  where
    both : (a b : Bool) → a ≡ true → b ≡ true → (a && b) ≡ true
    both true b p q = q
    both false b p q = p

    by : (b : Bool) → q e ≡ b → list_all p (filter q es) ≡ true → list_all p (cond b (e ∷ filter q es) (filter q es)) ≡ true
    by true qe later = both _ _ (less e qe) later
    by false qe later = later

abbrev stays_in : Machine → Entry → Bool
stays_in m entry = not (is_dead entry.state && not (is_named entry.id m))

pub cleaned_covered : (trace : Trace) (m : Machine) → Covered trace m → Covered trace (cleaned m)
cleaned_covered trace m c =
    let keep = stays_in m in
    let kernel = section_len trace 0 in
    record {
      book = IsBook-filter m.area.entries m.area.first m.area.tags c.book keep;
      first = c.first;
      tags = c.tags;
      named = All-filter keep (IsOfSection trace) m.area.entries c.named;
      given = All-filter keep (λ (e : Entry). e.id ≤ m.last_id) m.area.entries c.given;
      unused = All-filter keep (λ (e : Entry). e.users ≡ 0) m.area.entries c.unused;
      refs = may_more (λ tag. is_covered kernel m.area.entries tag && is_named tag.module m) (is_covered kernel (filter keep m.area.entries))
          (λ tag h.
          let both = and_parts (is_covered kernel m.area.entries tag) (is_named tag.module m) h in
          by_either ((tag.module == 0) && nat_lt tag.number kernel) (list_any (has_tag tag) m.area.entries) both.0
          (λ any. any_filter (has_tag tag) keep
          (λ e has. kept_if e.state (is_named e.id m) (ap (λ id. is_named id m) (eqb-true e.id tag.module (and_parts (e.id == tag.module) (covers e tag.number) has).0) ∙ both.1))
          m.area.entries any))
          m.live (both_may (is_covered kernel m.area.entries) (λ tag. is_named tag.module m) m.live c.refs (named_keys m));
    }
  where
    by_either : (a b : Bool) {d : Bool} → (a || b) ≡ true → (b ≡ true → d ≡ true) → (a || d) ≡ true
    by_either true b e f = refl
    by_either false b e f = f e

    kept_if : (state : State) (named : Bool) → named ≡ true → not (is_dead state && not named) ≡ true
    kept_if Loaded named e = refl
    kept_if Dead true e = refl
    kept_if Dead false e = let no : ⊥ = cc in absurd no

pub cleaned_named : (m : Machine) → AreNamed (cleaned m)
cleaned_named m = all_kept (λ e. not (is_dead e.state) || is_named e.id m) (stays_in m) (λ e h. by (is_dead e.state) (is_named e.id m) h) m.area.entries
  where
    by : (dead named : Bool) → not (dead && not named) ≡ true → (not dead || named) ≡ true
    by true true e = refl
    by true false e = e
    by false named e = refl
