-- Entries marked dead, place by place.
use Rattle.std.proofs.Common.{◌≡◌, ℕ, ◌+◌, ◌<◌, ◌≤◌, ◌&&◌, not, Bool, true, false, cond, set, List, length, get_or, map, slice_get, Some, IsSomeAnd, All, AllPairs, Contains, refl, sym, ap, ◌∙◌, subst, arith, ⊎_elim}
use Rattle.std.proofs.lemmas.Bool.{and_parts, cases_eq, cond-true, cond-false, false≢true}
use Rattle.std.proofs.lemmas.List.{get_or-map, get_or-set_other, get_or-set_same, length-map, length-set, same_lists, set-get_or}
use Rattle.std.proofs.lemmas.List.Elements.{All-contains, All-set}
use Rattle.std.proofs.lemmas.Option.{same_Some, slice_get-get_or}
use Rattle.module_area.specs.declared.entry.Entry.{Entry}
use Rattle.module_area.specs.declared.entry.State.TheVariants.{Loaded}
use Rattle.module_area.specs.Area.{Area}
use Rattle.module_area.specs.Entries.{entry_of, is_dead, kept, with_entry}
use Rattle.module_area.proofs.EntryLemmas.{set_at_id}
use Rattle.reclaim.specs.State.{LockedShown}
use Rattle.reclaim.specs.Sweeps.{with_entries}
use Rattle.round_modules.specs.Known.{dead_unless, stays}
use Rattle.round_modules.proofs.Closing.{same_entry}
use Rattle.reclaim.proofs.Enter.{loaded_state}
use Rattle.round_modules.proofs.CpuLists.{dead_state}
use Rattle.round_modules.proofs.Members.{entry_is}

pub at_place : (book : Area) (es : List Entry) (place : ℕ) (entry d : Entry) → book.entries ≡ es → place < length es → slice_get book.entries place ≡ Some entry → get_or es place d ≡ entry
at_place book es place entry d same below found = same_Some (get_or es place d) entry (sym (slice_get-get_or es place d below) ∙ (ap (λ xs. slice_get xs place) (sym same) ∙ found))

-- what goes may be marked dead
pub may_mark : (book : Area) (es : List Entry) (known : List Entry) (place : ℕ) (entry : Entry) → book.entries ≡ es → AllPairs (λ (one : Entry) (other : Entry). one.id < other.id) es → place < length es → slice_get book.entries place ≡ Some entry → All (λ (e : Entry). e.users ≡ 0) es
    → (not (is_dead entry.state) && not (stays known entry.id)) ≡ true → IsSomeAnd (entry_of es entry.id) (λ e. (e.state ≡ Loaded) × (e.users ≡ 0))
may_mark book es known place entry same rises below found unused goes =
    let there : Contains es entry = (place, below, at_place book es place entry entry same below found) in
    subst (λ o. IsSomeAnd o (λ e. (e.state ≡ Loaded) × (e.users ≡ 0))) (sym (entry_is es entry entry.id rises there refl))
    (loaded_state entry.state (and_parts (not (is_dead entry.state)) (not (stays known entry.id)) goes).0, All-contains (λ (e : Entry). e.users ≡ 0) es entry unused there)

pub is_marked : (l new : LockedShown) (book : Area) (known : List Entry) (place : ℕ) (entry : Entry) → book.entries ≡ l.area.entries → AllPairs (λ (one : Entry) (other : Entry). one.id < other.id) l.area.entries → place < length l.area.entries → slice_get book.entries place ≡ Some entry
    → (not (is_dead entry.state) && not (stays known entry.id)) ≡ true → ◌≡◌ {A = Area} new.area (with_entries (with_entry entry.id kept l.area.entries) l) → (d : Entry) → ◌≡◌ {A = Area} new.area (with_entries (set l.area.entries place (dead_unless known (get_or l.area.entries place d))) l)
is_marked l new book known place entry same rises below found goes is d =
    let es : List Entry = l.area.entries in
    let at : get_or es place d ≡ entry = at_place book es place entry d same below found in
    let off : stays known entry.id ≡ false = no_stay (stays known entry.id) (and_parts (not (is_dead entry.state)) (not (stays known entry.id)) goes).1 in
    let dead : dead_unless known (get_or es place d) ≡ kept entry = ap (dead_unless known) at ∙ cond-false (stays known entry.id) entry (kept entry) off in
    let put : set es place (kept entry) ≡ with_entry entry.id kept es = set_at_id es entry.id place entry kept rises below (sym (at_place book es place entry entry same below found)) refl in
    is ∙ ap (λ (xs : List Entry). with_entries xs l) (sym put ∙ ap (set es place) (sym dead))
  where
    no_stay : (b : Bool) → not b ≡ true → b ≡ false
    no_stay false h = refl
    no_stay true h = absurd (false≢true h)

pub is_left : (l : LockedShown) (book : Area) (known : List Entry) (place : ℕ) (entry : Entry) → book.entries ≡ l.area.entries → place < length l.area.entries → slice_get book.entries place ≡ Some entry
    → (not (is_dead entry.state) && not (stays known entry.id)) ≡ false → (d : Entry) → ◌≡◌ {A = Area} l.area (with_entries (set l.area.entries place (dead_unless known (get_or l.area.entries place d))) l)
is_left l book known place entry same below found stay d =
    let es : List Entry = l.area.entries in
    let at : get_or es place d ≡ entry = at_place book es place entry d same below found in
    let still : dead_unless known entry ≡ entry = go (not (is_dead entry.state)) refl (stays known entry.id) refl stay in
    ap (λ (xs : List Entry). with_entries xs l) (sym (set-get_or es place d) ∙ ap (set es place) (at ∙ (sym still ∙ ap (dead_unless known) (sym at))))
  where
    go : (a : Bool) → not (is_dead entry.state) ≡ a → (b : Bool) → stays known entry.id ≡ b → (a && not b) ≡ false → dead_unless known entry ≡ entry
    go a is_a true is h = cond-true (stays known entry.id) entry (kept entry) is
    go false is_a false is h = cond-false (stays known entry.id) entry (kept entry) is ∙ same_entry (kept entry) entry refl (sym (dead_state entry.state is_a)) refl
    go true is_a false is h = absurd (false≢true (sym h))

-- ---- from place to place

-- the entries before the place are marked, and the others as they were
pub record Marks (known : List Entry) (n : ℕ) (old now : LockedShown) : Type 0 where
  pub board : now.board ≡ old.board
  pub sections : now.sections ≡ old.sections
  pub first : now.area.first ≡ old.area.first
  pub tags : now.area.tags ≡ old.area.tags
  pub long : length now.area.entries ≡ length old.area.entries
  pub done : (k : ℕ) (d : Entry) → k < n → k < length old.area.entries → get_or now.area.entries k d ≡ dead_unless known (get_or old.area.entries k d)
  pub rest : (k : ℕ) (d : Entry) → n ≤ k → get_or now.area.entries k d ≡ get_or old.area.entries k d
  pub unused : All (λ (e : Entry). e.users ≡ 0) now.area.entries

pub marks_none : (known : List Entry) (l : LockedShown) → All (λ (e : Entry). e.users ≡ 0) l.area.entries → Marks known 0 l l
marks_none known l unused = record { board = refl; sections = refl; first = refl; tags = refl; long = refl; done = λ k d below inside. absurd (omega (arith, below)); rest = λ k d past. refl; unused = unused }

some_entry : Entry
some_entry = record { id = 0; section = 0; start = 0; length = 0; state = Loaded; users = 0 }

same_users : (known : List Entry) (e : Entry) → (dead_unless known e).users ≡ e.users
same_users known e = go (stays known e.id)
  where
    go : (b : Bool) → (cond b e (kept e)).users ≡ e.users
    go true = refl
    go false = refl

pub marks_more : (known : List Entry) (n : ℕ) (old now new : LockedShown) → Marks known n old now → n < length old.area.entries → new.board ≡ now.board → new.sections ≡ now.sections
    → ((d : Entry) → ◌≡◌ {A = Area} new.area (with_entries (set now.area.entries n (dead_unless known (get_or now.area.entries n d))) now)) → Marks known (n + 1) old new
marks_more known n old now new m inside board sections is =
    let es : List Entry = now.area.entries in
    let entries : (d : Entry) → new.area.entries ≡ set es n (dead_unless known (get_or es n d)) = λ d. ap (λ (a : Area). a.entries) (is d) in
    let long : length new.area.entries ≡ length old.area.entries = ap length (entries some_entry) ∙ (length-set es n (dead_unless known (get_or es n some_entry)) ∙ m.long) in
    record {
      board = board ∙ m.board;
      sections = sections ∙ m.sections;
      first = ap (λ (a : Area). a.first) (is some_entry) ∙ m.first;
      tags = ap (λ (a : Area). a.tags) (is some_entry) ∙ m.tags;
      long = long;
      done = λ k d below within.
          ⊎_elim
          (λ here. ap (λ xs. get_or xs k d) (entries d) ∙ (ap (λ j. get_or (set es n (dead_unless known (get_or es n d))) j d) here ∙ (get_or-set_same es n (dead_unless known (get_or es n d)) d (omega (arith, m.long, inside)) ∙ (ap (dead_unless known) (m.rest n d (omega arith)) ∙ ap (λ j. dead_unless known (get_or old.area.entries j d)) (sym here)))))
          (λ other. ap (λ xs. get_or xs k d) (entries d) ∙ (get_or-set_other es n k (dead_unless known (get_or es n d)) d other ∙ m.done k d (omega (arith, below, other)) within))
          (cases_eq k n);
      rest = λ k d past. ap (λ xs. get_or xs k d) (entries d) ∙ (get_or-set_other es n k (dead_unless known (get_or es n d)) d (λ same. omega (arith, past, same)) ∙ m.rest k d (omega (arith, past)));
      unused = subst (All (λ (e : Entry). e.users ≡ 0)) (sym (entries some_entry)) (All-set (λ (e : Entry). e.users ≡ 0) es n (dead_unless known (get_or es n some_entry)) (same_users known (get_or es n some_entry) ∙ m.unused n some_entry (omega (arith, m.long, inside))) m.unused);
    }

pub marks_all : (known : List Entry) (n : ℕ) (old now : LockedShown) → Marks known n old now → length old.area.entries ≤ n → ◌≡◌ {A = Area} now.area (with_entries (map (dead_unless known) old.area.entries) old)
marks_all known n old now m all =
    let entries : now.area.entries ≡ map (dead_unless known) old.area.entries =
    same_lists now.area.entries (map (dead_unless known) old.area.entries) (m.long ∙ sym (length-map old.area.entries (dead_unless known)))
    (λ k d less. m.done k d (omega (arith, less, m.long, all)) (omega (arith, less, m.long)) ∙ sym (get_or-map (dead_unless known) old.area.entries k d d (omega (arith, less, m.long)))) in
    λ i. record { entries = entries i; first = m.first i; tags = m.tags i }
