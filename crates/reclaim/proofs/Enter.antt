-- A CPU comes into a module, and goes out: the book and the list change alike.
use Rattle.std.proofs.Common.{◌≡◌, ℕ, ◌+◌, ◌<◌, ◌≤◌, ◌==◌, ◌&&◌, ◌||◌, nat_le, List, [], ◌∷◌, map, find, count_by, All, None, Some, IsSomeAnd, refl, sym, ap, ◌∙◌, subst, arith, Bool, true, false, not, cond, eqb-true, eq-eqb, leb-true}
use Rattle.std.specs.List.{list_any}
use Rattle.std.proofs.lemmas.Bool.{and_from, and_parts, or_left, cond-true, cond-false, cond_both, false≢true}
use Rattle.std.proofs.lemmas.List.Elements.{All-map, All-weaker}
use Rattle.tag_model.specs.declared.shape.Shape.{Shape}
use Rattle.tag_model.specs.declared.state.CpuPart.{CpuPart}
use Rattle.tag_model.specs.declared.state.ListPart.{ListPart}
use Rattle.tag_model.specs.declared.state.Record.{Record}
use Rattle.tag_model.specs.declared.state.Run.{Run}
use Rattle.tag_model.specs.Laws.{is_loaded_as}
use Rattle.std.proofs.lemmas.Option.{same_Some}
use Rattle.tag_model.proofs.Found.{any_at, count_at, found_any}
use Rattle.tag_rule.specs.Listed.{changed, has_run, is_loaded, with_run, without_run}
use Rattle.tag_rule.specs.declared.changing.Change.TheVariants as change
use Rattle.tag_rule.specs.Shown.{ListShown}
use Rattle.tag_section.specs.Section.{Section}
use Rattle.module_area.specs.declared.entry.Entry.{Entry}
use Rattle.module_area.specs.declared.entry.State.{State}
use Rattle.module_area.specs.declared.entry.State.TheVariants.{Dead, Loaded}
use Rattle.module_area.specs.Entries.{entered, entry_of, is_dead, left, with_entry}
use Rattle.module_area.specs.Area.{Area, IsBook}
use Rattle.module_area.proofs.BookLemmas.{KeepsRange}
use Rattle.module_area.proofs.EntryLemmas.{find_some}
use Rattle.module_list.specs.Listing as listing
use Rattle.module_list.specs.Listing.{Listing, listing_of, record_in}
use Rattle.core_list.specs.ListState.{ListState, record_of, run_of}
use Rattle.core_list.proofs.Kept.{IsBook-map}
use Rattle.core_list.proofs.Listed.{listed_entered, listed_left, record_found}
use Rattle.core_list.proofs.Split.{book_entry_at, records_at, the_entry}
use Rattle.tag_rule.specs.Runs.{covers_run, is_on, runs_between, with_away}
use Rattle.reclaim.specs.State.{IsLocked, IsNamed, LockedShown, entered_locked, left_locked, part_of}

-- ---- a change of one entry

-- a change that keeps section and length keeps the names
pub named_changed : (sections : List Section) (id : ℕ) (change : Entry → Entry) (entries : List Entry) → ((e : Entry) → IsNamed sections e → IsNamed sections (change e)) → All (IsNamed sections) entries → All (IsNamed sections) (with_entry id change entries)
named_changed sections id change entries keeps all =
    All-map (IsNamed sections) (λ (e : Entry). cond (e.id == id) (change e) e) entries
    (All-weaker (IsNamed sections) (λ e. IsNamed sections (cond (e.id == id) (change e) e)) (λ e h. cond_both (e.id == id) (change e) e (IsNamed sections) (λ is. keeps e h) (λ is. h)) entries all)

pub entry_changed : (id : ℕ) (change : Entry → Entry) (es : List Entry) (e : Entry) → ((x : Entry) → (change x).id ≡ x.id) → entry_of es id ≡ Some e → entry_of (with_entry id change es) id ≡ Some (change e)
entry_changed id change [] e keeps found = absurd (cc)
entry_changed id change (x ∷ xs) e keeps found = go (x.id == id) refl found (entry_changed id change xs e keeps)
  where
    go : (b : Bool) → (x.id == id) ≡ b → cond b (Some x) (entry_of xs id) ≡ Some e → (entry_of xs id ≡ Some e → entry_of (with_entry id change xs) id ≡ Some (change e))
        → cond ((cond b (change x) x).id == id) (Some (cond b (change x) x)) (entry_of (with_entry id change xs) id) ≡ Some (change e)
    go true is here later = let same : x ≡ e = cc in cond-true ((change x).id == id) (Some (change x)) (entry_of (with_entry id change xs) id) (ap (λ n. n == id) (keeps x) ∙ is) ∙ ap (λ y. Some (change y)) same
    go false is here later = cond-false (x.id == id) (Some x) (entry_of (with_entry id change xs) id) is ∙ later here

-- a book with one more user of a module is one
book_entered : (area : Area) (id : ℕ) → IsBook area → IsBook (record area { entries = with_entry id entered area.entries })
book_entered area id book = IsBook-map area (λ (e : Entry). cond (e.id == id) (entered e) e) keeps book
  where
    keeps : (e : Entry) → KeepsRange e (cond (e.id == id) (entered e) e)
    keeps e = go (e.id == id)
      where
        go : (b : Bool) → KeepsRange e (cond b (entered e) e)
        go true = record { same_id = refl; same_section = refl; same_start = refl; same_length = refl; was_loaded = λ h. h }
        go false = record { same_id = refl; same_section = refl; same_start = refl; same_length = refl; was_loaded = λ h. h }

as_list : LockedShown → ListState
as_list l = record { area = l.area; last_id = 0; sweep = l.sweep; stops = l.stops }

records_entered : (l : LockedShown) (id : ℕ) → (listing.entered id (listing_of (part_of l))).records ≡ map record_of (with_entry id entered l.area.entries)
unfolding as_list
records_entered l id = sym (ap (λ (x : Listing). x.records) (listed_entered (as_list l) id))

records_left : (l : LockedShown) (id : ℕ) → (listing.left id (listing_of (part_of l))).records ≡ map record_of (with_entry id left l.area.entries)
unfolding as_list
records_left l id = sym (ap (λ (x : Listing). x.records) (listed_left (as_list l) id))

-- ---- enter

pub loaded_there : (l : LockedShown) (id : ℕ) (e : Entry) → IsLocked l → entry_of l.area.entries id ≡ Some e → e.state ≡ Loaded → is_loaded id (part_of l).records ≡ true
loaded_there l id e ok found loaded =
    let at = book_entry_at l.area id e ok.book found in
    let test : Record → Bool = λ r. (r.id == id) && not r.dead in
    subst (λ rs. list_any test rs ≡ true) (sym (records_at l.area.entries id e at))
    (any_at test (map record_of at.front) (record_of e) (map record_of at.back) (and_from _ _ (eq-eqb e.id id at.same_id) (ap (λ s. not (is_dead s)) loaded)))

-- after the enter, with the CPU's run on its way
pub begun_enter : (l : LockedShown) (id : ℕ) (e : Entry) → entry_of l.area.entries id ≡ Some e → changed (change.Enter id) (part_of l) ≡ record (part_of (entered_locked id l)) { away = run_of e ∷ [] }
begun_enter l id e found =
    let of : List Record → List Run → ListPart = λ rs runs. record { records = rs; sweep = l.sweep; stops = l.stops; reads = l.reads; away = runs } in
    ap (λ rs. of rs (with_run (record_in id (map record_of l.area.entries)) [])) (records_entered l id) ∙ ap (λ o. of (map record_of (with_entry id entered l.area.entries)) (with_run o [])) (record_found l.area.entries id e found)

pub id_of : (l : LockedShown) (id : ℕ) (e : Entry) → entry_of l.area.entries id ≡ Some e → e.id ≡ id
id_of l id e found = eqb-true e.id id (find_some (λ (x : Entry). x.id == id) l.area.entries e found).1

pub on_its_way : (id : ℕ) (e : Entry) → e.id ≡ id → find (is_on id) (run_of e ∷ []) ≡ Some (run_of e)
on_its_way id e same = cond-true (e.id == id) (Some (run_of e)) None (eq-eqb e.id id same)

pub is_there : (id : ℕ) (e : Entry) → e.id ≡ id → has_run id (run_of e ∷ []) ≡ true
is_there id e same = or_left _ _ (eq-eqb e.id id same)

pub none_way : (id : ℕ) (e : Entry) → e.id ≡ id → without_run id (run_of e ∷ []) ≡ []
none_way id e same = cond-true (e.id == id) [] (run_of e ∷ []) (eq-eqb e.id id same)

-- what a run that is covered says of the entry of its id
pub record CoveredEntry (k : Shape) (area : Area) (run : Run) (list : ListPart) (cpu : CpuPart) : Type 0 where
  pub entry : Entry
  pub is : entry_of area.entries run.id ≡ Some entry
  pub loaded : entry.state ≡ Loaded
  pub least : runs_between run.id list cpu ≤ entry.users
  pub most : entry.users ≤ k.cpus + count_by (is_on run.id) list.away

pub loaded_state : (s : State) → not (is_dead s) ≡ true → s ≡ Loaded
loaded_state Loaded e = refl
loaded_state Dead e = absurd (false≢true e)

pub covered_entry : (k : Shape) (area : Area) (run : Run) (list : ListPart) (cpu : CpuPart) → IsBook area → list_any (covers_run k run list cpu) (map record_of area.entries) ≡ true → CoveredEntry k area run list cpu
covered_entry k area run list cpu book covered =
    let rest : Record → Bool = λ r. covers_run k run list cpu r in
    let there : list_any (λ (r : Record). (r.id == run.id) && rest r) (map record_of area.entries) ≡ true = any_more run.id rest (map record_of area.entries) (λ r h. same_id r h) covered in
    let t = the_entry area run.id rest book there in
    let all = and_parts _ (nat_le t.entry.users (k.cpus + count_by (is_on run.id) list.away)) t.passes in
    let some = and_parts (is_loaded_as run (record_of t.entry)) (nat_le (runs_between run.id list cpu) t.entry.users) all.0 in
    let dead = and_parts _ (not (is_dead t.entry.state)) some.0 in
    record {
      entry = t.entry;
      is = t.is;
      loaded = loaded_state t.entry.state dead.1;
      least = leb-true (runs_between run.id list cpu) t.entry.users some.1;
      most = leb-true t.entry.users (k.cpus + count_by (is_on run.id) list.away) all.1;
    }
  where
    same_id : (r : Record) → covers_run k run list cpu r ≡ true → (r.id == run.id) ≡ true
    same_id r h =
        let a = and_parts _ (nat_le r.users (k.cpus + count_by (is_on run.id) list.away)) h in
        let b = and_parts (is_loaded_as run r) (nat_le (runs_between run.id list cpu) r.users) a.0 in
        let c = and_parts _ (not r.dead) b.0 in
        let d = and_parts _ (r.length == run.length) c.0 in
        let e = and_parts _ (r.start == run.start) d.0 in
        (and_parts (r.id == run.id) (r.section == run.section) e.0).0

    any_more : (id : ℕ) (p : Record → Bool) (rs : List Record) → ((r : Record) → p r ≡ true → (r.id == id) ≡ true) → list_any p rs ≡ true → list_any (λ (r : Record). (r.id == id) && p r) rs ≡ true
    any_more id p rs h any = let f = found_any p rs any in subst (λ xs. list_any (λ (r : Record). (r.id == id) && p r) xs ≡ true) (sym f.is) (any_at (λ (r : Record). (r.id == id) && p r) f.front f.item f.back (and_from _ _ (h f.item f.passes) f.passes))

-- the entry of a module that a CPU has just entered has at most as many users as there are CPUs
pub few_users : (k : Shape) (l : LockedShown) (id : ℕ) (e : Entry) (list : ListPart) (cpu : CpuPart) → IsLocked l → entry_of l.area.entries id ≡ Some e → e.id ≡ id → list.away ≡ []
    → list_any (covers_run k (run_of e) list cpu) (map record_of (with_entry id entered l.area.entries)) ≡ true → e.users + 1 ≤ k.cpus
few_users k l id e list cpu ok found same none covered =
    let c = covered_entry k (record l.area { entries = with_entry id entered l.area.entries }) (run_of e) list cpu (book_entered l.area id ok.book) covered in
    let its : Some c.entry ≡ Some (entered e) = sym c.is ∙ (ap (entry_of (with_entry id entered l.area.entries)) same ∙ entry_changed id entered l.area.entries e (λ x. refl) found) in
    let is : c.entry ≡ entered e = same_Some c.entry (entered e) its in
    omega (arith, c.most, ap (λ (x : Entry). x.users) is, ap (λ runs. count_by (is_on e.id) runs) none)

-- ---- the list, step by step

-- after the enter, and after the CPU got its run
pub record EnterParts (l : LockedShown) (id : ℕ) (e : Entry) (one two : ListShown) : Type 0 where
  pub records : one.part.records ≡ map record_of (with_entry id entered l.area.entries)
  pub found : find (is_on id) one.part.away ≡ Some (run_of e)
  pub board_one : one.board ≡ l.board
  pub board : two.board ≡ l.board
  pub part : two.part ≡ part_of (entered_locked id l)

pub enter_parts : (l : LockedShown) (id : ℕ) (e : Entry) (was one two : ListShown) → entry_of l.area.entries id ≡ Some e → was.board ≡ l.board → was.part ≡ part_of l
    → one ≡ record was { part = changed (change.Enter id) was.part } → two ≡ with_away (without_run id one.part.away) one → EnterParts l id e one two
enter_parts l id e was one two found board part is_one is_two =
    let same = id_of l id e found in
    let part_one : one.part ≡ record (part_of (entered_locked id l)) { away = run_of e ∷ [] } = ap (λ (x : ListShown). x.part) is_one ∙ (ap (changed (change.Enter id)) part ∙ begun_enter l id e found) in
    let away : one.part.away ≡ run_of e ∷ [] = ap (λ (x : ListPart). x.away) part_one in
    let board_one : one.board ≡ l.board = ap (λ (x : ListShown). x.board) is_one ∙ board in
    record {
      records = ap (λ (x : ListPart). x.records) part_one;
      found = ap (find (is_on id)) away ∙ on_its_way id e same;
      board_one = board_one;
      board = ap (λ (x : ListShown). x.board) is_two ∙ board_one;
      part = ap (λ (x : ListShown). x.part) is_two ∙ (ap (λ (x : ListPart). let y : ListPart = record x { away = without_run id x.away } in y) part_one ∙ ap (λ runs. let y : ListPart = record (part_of (entered_locked id l)) { away = runs } in y) (none_way id e same));
    }

pub locked_entered : (l : LockedShown) (id : ℕ) → IsLocked l → IsBook (record l.area { entries = with_entry id entered l.area.entries }) → IsLocked (entered_locked id l)
locked_entered l id ok book = record { checked = ok.checked; book = book; first = ok.first; within = ok.within; named = named_changed l.sections id entered l.area.entries (λ e h. h) ok.named; still = ok.still }

pub locked_left : (l : LockedShown) (id : ℕ) → IsLocked l → IsBook (record l.area { entries = with_entry id left l.area.entries }) → IsLocked (left_locked id l)
locked_left l id ok book = record { checked = ok.checked; book = book; first = ok.first; within = ok.within; named = named_changed l.sections id left l.area.entries (λ e h. h) ok.named; still = ok.still }

-- ---- leave

pub record FoundRun (id : ℕ) (runs : List Run) : Type 0 where
  pub run : Run
  pub is : find (is_on id) runs ≡ Some run
  pub on_id : run.id ≡ id

pub found_run : (id : ℕ) (runs : List Run) → has_run id runs ≡ true → FoundRun id runs
found_run id [] any = absurd (false≢true any)
found_run id (r ∷ runs) any = go (r.id == id) refl any (found_run id runs)
  where
    go : (b : Bool) → (r.id == id) ≡ b → (b || has_run id runs) ≡ true → (has_run id runs ≡ true → FoundRun id runs) → FoundRun id (r ∷ runs)
    go true is any later = record { run = r; is = cond-true (r.id == id) (Some r) (find (is_on id) runs) is; on_id = eqb-true r.id id is }
    go false is any later = let f = later any in record { run = f.run; is = cond-false (r.id == id) (Some r) (find (is_on id) runs) is ∙ f.is; on_id = f.on_id }

leave_one : (l : LockedShown) (id : ℕ) (run : Run) (was one : ListShown) → run.id ≡ id → was.part ≡ part_of l → one ≡ with_away (run ∷ was.part.away) was → one.part ≡ record (part_of l) { away = run ∷ [] }
leave_one l id run was one same part is_one = ap (λ (x : ListShown). x.part) is_one ∙ ap (λ (x : ListPart). let y : ListPart = record x { away = run ∷ x.away } in y) part

pub leave_has : (l : LockedShown) (id : ℕ) (run : Run) (was one : ListShown) → run.id ≡ id → was.part ≡ part_of l → one ≡ with_away (run ∷ was.part.away) was → has_run id one.part.away ≡ true
leave_has l id run was one same part is_one = ap (λ (x : ListPart). has_run id x.away) (leave_one l id run was one same part is_one) ∙ or_left _ _ (eq-eqb run.id id same)

-- the module of a run has a user
pub leave_used : (l : LockedShown) (k : Shape) (id : ℕ) (run : Run) (was one : ListShown) (cpu : CpuPart) → IsLocked l → run.id ≡ id → was.part ≡ part_of l → one ≡ with_away (run ∷ was.part.away) was
    → list_any (covers_run k run one.part cpu) was.part.records ≡ true → IsSomeAnd (entry_of l.area.entries id) (λ e. 0 < e.users)
leave_used l k id run was one cpu ok same part is_one covered =
    let c = covered_entry k l.area run one.part cpu ok.book (subst (λ (x : ListPart). list_any (covers_run k run one.part cpu) x.records ≡ true) part covered) in
    let away : count_by (is_on run.id) one.part.away ≡ count_by (is_on run.id) (run ∷ []) = ap (λ (x : ListPart). count_by (is_on run.id) x.away) (leave_one l id run was one same part is_one) in
    let first = count_at (is_on run.id) [] run [] (eq-eqb run.id run.id refl) in
    subst (λ i. IsSomeAnd (entry_of l.area.entries i) (λ e. 0 < e.users)) same (subst (λ o. IsSomeAnd o (λ (e : Entry). 0 < e.users)) (sym c.is) (omega (arith, c.least, away, first)))

pub leave_part : (l : LockedShown) (id : ℕ) (run : Run) (was one two : ListShown) → run.id ≡ id → was.part ≡ part_of l → one ≡ with_away (run ∷ was.part.away) was
    → two ≡ record one { part = changed (change.Leave id) one.part } → two.part ≡ part_of (left_locked id l)
leave_part l id run was one two same part is_one is_two =
    let of : List Record → List Run → ListPart = λ rs runs. record { records = rs; sweep = l.sweep; stops = l.stops; reads = l.reads; away = runs } in
    ap (λ (x : ListShown). x.part) is_two ∙ (ap (changed (change.Leave id)) (leave_one l id run was one same part is_one)
    ∙ (ap (λ rs. of rs (without_run id (run ∷ []))) (records_left l id) ∙ ap (of (map record_of (with_entry id left l.area.entries))) (cond-true (run.id == id) [] (run ∷ []) (eq-eqb run.id id same))))
