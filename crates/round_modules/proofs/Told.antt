-- What a meeting of the list, the next id and all CPUs tells of what is known.
use Rattle.std.proofs.Common.{◌≡◌, ℕ, suc, zero, ◌≤◌, ◌==◌, ◌||◌, not, Bool, true, false, List, [], ◌∷◌, length, map, count_by, sum_by, IsSomeAnd, All, Any, Contains, refl, sym, ap, ◌∙◌, subst, arith, eqb-true, eq-eqb}
use Rattle.std.specs.List.{list_all, list_any}
use Rattle.std.proofs.lemmas.Bool.{and_parts, false≢true}
use Rattle.std.proofs.lemmas.List.Elements.{All-contains, All-head, All-tail}
use Rattle.std.proofs.lemmas.List.Sums.{sum_by-cons}
use Rattle.tag_model.specs.declared.shape.Shape.{Shape}
use Rattle.tag_model.specs.declared.state.Note.{Note}
use Rattle.tag_model.specs.declared.state.Record.{Record}
use Rattle.tag_model.specs.declared.state.Run.{Run}
use Rattle.tag_model.specs.Laws.{is_loaded_as}
use Rattle.tag_model.specs.Telling.{is_as_noted}
use Rattle.tag_rule.specs.Meeting.{AreMet, IsMetCpu, runs_on}
use Rattle.tag_rule.specs.Runs.{is_on}
use Rattle.tag_rule.specs.Shown.{CpuShown}
use Rattle.module_area.specs.declared.entry.Entry.{Entry}
use Rattle.module_area.specs.declared.entry.State.TheVariants.{Loaded}
use Rattle.module_area.specs.Entries.{is_dead}
use Rattle.core_list.specs.ListState.{record_of, run_of}
use Rattle.reclaim.specs.State.{LockedShown, part_of}
use Rattle.round_modules.specs.Inside.{AreInside, AreNoted, IsNoteOf}
use Rattle.round_modules.specs.Known.{AreAsKnown, AreLoadedIn, IsLoadedIn, runs_of, staying}
use Rattle.reclaim.proofs.Enter.{loaded_state}
use Rattle.round_modules.proofs.Members.{Rises, all_members, any_member, entry_is, filter_has, list_all_at, list_any_from, map_from, map_has}

-- the first CPU is inside all that stays
first_inside : (n : ℕ) (runs : List Run) (c : CpuShown) (cs : List CpuShown) → 1 ≤ n → AreInside n runs (c ∷ cs) → c.part.runs ≡ runs
first_inside zero runs c cs some is = absurd (omega (arith, some))
first_inside (suc n) runs c cs some is = cc

-- the record of a run that is covered
alike_run : (run : Run) (e : Entry) → is_loaded_as run (record_of e) ≡ true → (run_of e ≡ run) × (e.state ≡ Loaded)
alike_run run e h =
    let a = and_parts _ (not (is_dead e.state)) h in
    let b = and_parts _ (e.length == run.length) a.0 in
    let c = and_parts _ (e.start == run.start) b.0 in
    let d = and_parts (e.id == run.id) (e.section == run.section) c.0 in
    ((λ i. record { id = eqb-true e.id run.id d.0 i; section = eqb-true e.section run.section d.1 i; start = eqb-true e.start run.start c.1 i; length = eqb-true e.length run.length b.1 i }), loaded_state e.state a.1)

pub loaded_told : (k : Shape) (l : LockedShown) (next n : ℕ) (known : List Entry) (cpus : List CpuShown) → Rises l.area.entries → AreMet k (part_of l) next cpus → (1 ≤ n) × (n ≤ length cpus) → AreInside n (runs_of known) cpus → AreLoadedIn l.area.entries known
loaded_told k l next n known [] rises met some inside = absurd (omega (arith, some.0, some.1))
loaded_told k l next n known (c ∷ cs) rises met some inside =
    all_members (λ e. e.state ≡ Loaded → IsLoadedIn l.area.entries e) known
    (λ e there loaded.
    let own : IsMetCpu (part_of l) next c.part = All-head (λ (x : CpuShown). IsMetCpu (part_of l) next x.part) c cs met.each in
    let all : list_all (λ (run : Run). list_any (is_loaded_as run) (map record_of l.area.entries)) (runs_of known) ≡ true = subst (λ (rs : List Run). list_all (λ (run : Run). list_any (is_loaded_as run) (map record_of l.area.entries)) rs ≡ true) (first_inside n (runs_of known) c cs some.0 inside) own.loaded in
    let stay : Contains (staying known) e = filter_has (λ (x : Entry). not (is_dead x.state)) known e there (ap (λ s. not (is_dead s)) loaded) in
    let any = list_all_at (λ (run : Run). list_any (is_loaded_as run) (map record_of l.area.entries)) (runs_of known) (run_of e) all (map_has run_of (staying known) e stay) in
    let r = list_any_from (is_loaded_as (run_of e)) (map record_of l.area.entries) any in
    let m = map_from record_of l.area.entries r.item r.there in
    let both = alike_run (run_of e) m.item (ap (is_loaded_as (run_of e)) m.holds ∙ r.holds) in
    subst (λ o. IsSomeAnd o (λ x. (x.state ≡ Loaded) × (run_of x ≡ run_of e))) (sym (entry_is l.area.entries m.item e.id rises m.there (ap (λ (x : Run). x.id) both.0))) (both.1, both.0))

-- the record of a note's id is as the note tells
as_note : (n : Note) (e x : Entry) → IsNoteOf e n → x.id ≡ e.id → is_as_noted n (record_of x) ≡ true → run_of x ≡ run_of e
as_note n e x note same h =
    let id : x.id ≡ n.id = same ∙ sym note.0 in
    let rest = other (x.id == n.id) _ (eq-eqb x.id n.id id) h in
    let a = and_parts _ (not n.seen_dead || is_dead x.state) rest in
    let b = and_parts _ (x.length == n.length) a.0 in
    let c = and_parts (x.section == n.section) (x.start == n.start) b.0 in
    λ i. record {
      id = same i;
      section = (eqb-true x.section n.section c.0 ∙ note.1) i;
      start = (eqb-true x.start n.start c.1 ∙ note.2) i;
      length = (eqb-true x.length n.length b.1 ∙ note.3) i;
    }
  where
    other : (a b : Bool) → a ≡ true → (not a || b) ≡ true → b ≡ true
    other true b is h = h
    other false b is h = absurd (false≢true is)

pub known_told : (k : Shape) (l : LockedShown) (next : ℕ) (known : List Entry) (cpus : List CpuShown) → AreMet k (part_of l) next cpus → AreNoted known cpus → AreAsKnown l.area.entries known
known_told k l next known cpus met noted =
    all_members (λ e. All (λ x. x.id ≡ e.id → run_of x ≡ run_of e) l.area.entries) known
    (λ e there. all_members (λ x. x.id ≡ e.id → run_of x ≡ run_of e) l.area.entries
    (λ x in_book same.
    let c = any_member (λ (y : CpuShown). Any (IsNoteOf e) y.part.notes) cpus (All-contains (λ (y : Entry). Any (λ (z : CpuShown). Any (IsNoteOf y) z.part.notes) cpus) known e noted there) in
    let n = any_member (IsNoteOf e) c.item.part.notes c.holds in
    let own : IsMetCpu (part_of l) next c.item.part = All-contains (λ (y : CpuShown). IsMetCpu (part_of l) next y.part) cpus c.item met.each c.there in
    let of_note = list_all_at (λ (m : Note). list_all (is_as_noted m) (map record_of l.area.entries)) c.item.part.notes n.item own.agree n.there in
    as_note n.item e x n.holds same (list_all_at (is_as_noted n.item) (map record_of l.area.entries) (record_of x) of_note (map_has record_of l.area.entries x in_book))))

-- ---- nobody is inside

no_runs : (id : ℕ) (cpus : List CpuShown) → All (λ (c : CpuShown). c.part.runs ≡ []) cpus → sum_by (λ (c : CpuShown). count_by (is_on id) c.part.runs) cpus ≡ 0
no_runs id [] none = refl
no_runs id (c ∷ cs) none =
    let own : count_by (is_on id) c.part.runs ≡ 0 = ap (count_by (is_on id)) (All-head (λ (x : CpuShown). x.part.runs ≡ []) c cs none) in
    omega (arith, sum_by-cons (λ (x : CpuShown). count_by (is_on id) x.part.runs) c cs, own, no_runs id cs (All-tail (λ (x : CpuShown). x.part.runs ≡ []) c cs none))

pub users_told : (k : Shape) (l : LockedShown) (next : ℕ) (cpus : List CpuShown) → AreMet k (part_of l) next cpus → All (λ (c : CpuShown). c.part.runs ≡ []) cpus → All (λ (e : Entry). e.users ≡ 0) l.area.entries
users_told k l next cpus met none =
    all_members (λ (e : Entry). e.users ≡ 0) l.area.entries
    (λ e there.
    let test = list_all_at (λ (r : Record). r.users == runs_on r.id (part_of l) cpus) (map record_of l.area.entries) (record_of e) met.users (map_has record_of l.area.entries e there) in
    let own : e.users ≡ runs_on e.id (part_of l) cpus = eqb-true e.users (runs_on e.id (part_of l) cpus) test in
    omega (arith, own, no_runs e.id cpus none))
