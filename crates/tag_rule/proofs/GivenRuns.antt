-- A run that goes from the module list to a CPU, or back: the views move so with no word changed, and the cover law ties the run to its record.
use Rattle.std.proofs.Common.{◌≡◌, ℕ, ◌+◌, ◌<◌, ◌≤◌, ◌==◌, ◌||◌, ◌⊎◌, not, List, [], ◌∷◌, ◌++◌, find, filter, count_by, refl, sym, ap, subst, ◌∙◌, arith, length, inl, inr, Bool, true, false, cond, le-leb, Option, Some, None, append-nil, length-append}
use Rattle.std.specs.List.{list_all, list_any}
use Rattle.std.proofs.lemmas.Bool.{and_from, cases_Bool, false≢true, or_left}
use Rattle.std.proofs.lemmas.List.{length-map, map-append}
use Rattle.std.proofs.lemmas.List.Folds.{list_all-append}
use Rattle.std.proofs.lemmas.List.Sums.{sum_by-cons}
use Rattle.tag_model.specs.declared.shape.Shape.{Shape}
use Rattle.tag_model.specs.declared.state.CpuPart.{CpuPart}
use Rattle.tag_model.specs.declared.state.Hand.{Hand}
use Rattle.tag_model.specs.declared.state.ListPart.{ListPart}
use Rattle.tag_model.specs.declared.state.Part.{Part}
use Rattle.tag_model.specs.declared.state.Part.TheVariants.{Cpu, Modules}
use Rattle.tag_model.specs.declared.state.Record.{Record}
use Rattle.tag_model.specs.declared.state.Run.{Run}
use Rattle.tag_model.specs.Laws.{Safe, is_loaded_as, same_run}
use Rattle.tag_model.specs.StepRules.{GivesRun, Stands, TakesRun}
use Rattle.tag_model.specs.WordState.{record_fits, records_with, runs_with, users_of}
use Rattle.tag_model.proofs.Alike.{of_records}
use Rattle.tag_model.proofs.BaseMoves.{safe-gives_run, safe-takes_run}
use Rattle.tag_model.proofs.Found.{all_at, any_at, count_at, found}
use Rattle.tag_model.proofs.Lent.{few_runs, stand_back, the_list_of}
use Rattle.tag_model.proofs.Ids.{all_filter}
use Rattle.tag_model.proofs.ListTells.{list_laws_of, users_are_runs}
use Rattle.tag_model.proofs.Lists.{record_fits_means}
use Rattle.tag_model.proofs.Swept.{loaded_as_means, same_run_refl}
use Rattle.tag_model.proofs.Told.{one_run_each}
use Rattle.tag_rule.specs.declared.view.View.{View}
use Rattle.tag_rule.specs.declared.words.Words.{Words}
use Rattle.tag_rule.specs.Meeting.{StandSafe}
use Rattle.tag_rule.specs.Listed.{without_run}
use Rattle.tag_rule.specs.Rule.{Moves, view_of}
use Rattle.tag_rule.specs.Runs.{covers_run, is_on, other_runs, runs_between}
use Rattle.tag_rule.specs.Seated.{CpuHolds, CpuKept, ListHolds, cpu_in, ids_in, list_in, run_in_tags}
use Rattle.tag_rule.specs.Shown.{Board, CpuShown, ListShown}
use Rattle.tag_rule.specs.Tokens.{board_of}
use Rattle.tag_rule.proofs.Away.{FirstRun, first_run}
use Rattle.tag_rule.proofs.Meets.{Own, list_tells}
use Rattle.tag_model.proofs.ListTells.{users_here}

-- ---- what becomes of the two

abbrev pub as_list : Option Run → List Run
as_list None = []
as_list (Some r) = r ∷ []

abbrev pub given_cpu : ℕ → List Run → CpuPart → CpuPart
given_cpu id away c = record c { runs = c.runs ++ as_list (find (is_on id) away) }

abbrev pub given_list : ℕ → ListPart → ListPart
given_list id l = record l { away = without_run id l.away }

abbrev pub taken_cpu : ℕ → CpuPart → CpuPart
taken_cpu id c = record c { runs = other_runs id c.runs }

abbrev pub taken_list : ℕ → List Run → ListPart → ListPart
taken_list id runs l = record l { away = as_list (find (is_on id) runs) ++ l.away }

-- ---- runs on an id

none_on : (id : ℕ) (runs : List Run) → list_any (is_on id) runs ≡ false → count_by (is_on id) runs ≡ 0
none_on id [] e = refl
none_on id (r ∷ runs) e = go (cases_Bool (r.id == id)) (λ later. none_on id runs later)
  where
    go : ((r.id == id) ≡ true) ⊎ ((r.id == id) ≡ false) → (list_any (is_on id) runs ≡ false → count_by (is_on id) runs ≡ 0) → count_by (is_on id) (r ∷ runs) ≡ 0
    go (inl is) later = absurd (false≢true (sym e ∙ or_left (r.id == id) (list_any (is_on id) runs) is))
    go (inr apart) later =
        let here : cond {A = ℕ} (r.id == id) 1 0 ≡ 0 = rw apart refl in
        let rest : list_any (is_on id) runs ≡ false = subst (λ (b : Bool). (b || list_any (is_on id) runs) ≡ false) apart e in
        omega (arith, sum_by-cons (λ (x : Run). cond {A = ℕ} (x.id == id) 1 0) r runs, later rest)

-- where none is on the id, all stay
all_stay : (id : ℕ) (runs : List Run) → count_by (is_on id) runs ≡ 0 → other_runs id runs ≡ runs
all_stay id [] e = refl
all_stay id (r ∷ runs) e = go (cases_Bool (r.id == id)) (λ later. all_stay id runs later)
  where
    go : ((r.id == id) ≡ true) ⊎ ((r.id == id) ≡ false) → (count_by (is_on id) runs ≡ 0 → other_runs id runs ≡ runs) → other_runs id (r ∷ runs) ≡ r ∷ runs
    go (inl is) later =
        let here : cond {A = ℕ} (r.id == id) 1 0 ≡ 1 = rw is refl in
        absurd (omega (arith, sum_by-cons (λ (x : Run). cond {A = ℕ} (x.id == id) 1 0) r runs))
    go (inr apart) later = rw apart (ap (λ (rs : List Run). r ∷ rs) (later (omega (arith, sum_by-cons (λ (x : Run). cond {A = ℕ} (x.id == id) 1 0) r runs))))

-- where at most one is, it alone goes
one_goes : (id : ℕ) (runs : List Run) → count_by (is_on id) runs ≤ 1 → other_runs id runs ≡ without_run id runs
one_goes id [] e = refl
one_goes id (r ∷ runs) e = go (cases_Bool (r.id == id)) (λ later. one_goes id runs later)
  where
    go : ((r.id == id) ≡ true) ⊎ ((r.id == id) ≡ false) → (count_by (is_on id) runs ≤ 1 → other_runs id runs ≡ without_run id runs) → other_runs id (r ∷ runs) ≡ without_run id (r ∷ runs)
    go (inl is) later =
        let here : cond {A = ℕ} (r.id == id) 1 0 ≡ 1 = rw is refl in
        rw is (all_stay id runs (omega (arith, sum_by-cons (λ (x : Run). cond {A = ℕ} (x.id == id) 1 0) r runs)))
    go (inr apart) later = rw apart (ap (λ (rs : List Run). r ∷ rs) (later (omega (arith, sum_by-cons (λ (x : Run). cond {A = ℕ} (x.id == id) 1 0) r runs))))

-- ---- the moves

module _ (k : Shape) (id : ℕ) (c : CpuPart) (l : ListPart) where
  pub gives_moves : list_any (is_on id) l.away ≡ true → list_any (is_on id) c.runs ≡ false → Moves k (Cpu c ∷ Modules l ∷ []) (Cpu (given_cpu id l.away c) ∷ Modules (given_list id l) ∷ [])
  gives_moves some none =
      let f = first_run id l.away some in
      let row : GivesRun c (given_cpu id l.away c) l (given_list id l) = record {
        front = c.runs;
        run = f.run;
        back = [];
        ahead = f.ahead;
        behind = f.behind;
        away = f.is;
        first = subst (λ (n : ℕ). count_by (λ (r : Run). r.id == n) c.runs ≡ 0) (sym f.on_id) (none_on id c.runs none);
        had = sym (append-nil c.runs);
        cpu = λ i. record c { runs = c.runs ++ as_list (f.finds i) };
        list = λ i. record l { away = f.without i };
      } in
      record { owned = λ q. refl; exact = λ q. refl; safe = λ ps qs ok b safe. safe-gives_run k c (given_cpu id l.away c) l (given_list id l) ps qs row b safe }

  pub takes_moves : list_any (is_on id) c.runs ≡ true → c.hand ≡ None → Moves k (Cpu c ∷ Modules l ∷ []) (Cpu (taken_cpu id c) ∷ Modules (taken_list id c.runs l) ∷ [])
  takes_moves some free =
      let f = first_run id c.runs some in
      record {
        owned = λ q. refl;
        exact = λ q. refl;
        safe = λ ps qs ok b safe.
            let one = one_run_each k c (Modules l ∷ []) (Cpu (taken_cpu id c) ∷ Modules (taken_list id c.runs l) ∷ []) ps qs b safe id in
            let row : TakesRun c (taken_cpu id c) l (taken_list id c.runs l) = record {
              front = f.ahead;
              run = f.run;
              back = f.behind;
              settled = rw free refl;
              has = f.is;
              cpu = λ i. record c { runs = (one_goes id c.runs one ∙ f.without) i };
              list = λ i. record l { away = as_list (f.finds i) ++ l.away };
            } in
            safe-takes_run k c (taken_cpu id c) l (taken_list id c.runs l) ps qs row b safe;
      }

-- ---- what the cover law says between the two

-- a run that the two have, its record and that record's users
pub between : (k : Shape) (run : Run) (c : CpuPart) (l : ListPart) (ps : List Part) → Stands (Cpu c ∷ Modules l ∷ []) ps → Safe k ps → 0 < count_by (same_run run) c.runs + count_by (same_run run) l.away → list_any (covers_run k run l c) l.records ≡ true
between k run c l ps s safe some =
    let list = stand_back (Cpu c ∷ []) (Modules l ∷ []) ps s in
    let one = the_list_of k l ps list safe in
    let loaded = safe.cover.runs run (omega (arith, s.among (runs_with (same_run run)))) in
    let f = found (is_loaded_as run) l.records (omega (arith, one.only (records_with (is_loaded_as run)) (of_records _))) in
    let like = loaded_as_means run f.item f.passes in
    let users : users_of run.id (Modules l) ≡ f.item.users = subst (λ (id : ℕ). users_of id (Modules l) ≡ f.item.users) like.id (users_here k l (list_laws_of k l ps list safe) f.front f.item f.back f.is) in
    let all = users_are_runs k l ps list safe run.id in
    let low : runs_between run.id l c ≤ f.item.users = omega (arith, s.among (runs_with (λ r. r.id == run.id))) in
    let high : f.item.users ≤ k.cpus + count_by (is_on run.id) l.away = omega (arith, few_runs k l ps one safe run.id) in
    subst (λ (rs : List Record). list_any (covers_run k run l c) rs ≡ true) (sym f.is)
    (any_at (covers_run k run l c) f.front f.item f.back (and_from _ _ (and_from _ _ f.passes (le-leb _ _ low)) (le-leb _ _ high)))

-- the run's range is of the shape
pub in_tags : (k : Shape) (run : Run) (c : CpuPart) (l : ListPart) (ps : List Part) → Stands (Cpu c ∷ Modules l ∷ []) ps → Safe k ps → 0 < count_by (same_run run) c.runs + count_by (same_run run) l.away → run_in_tags k run ≡ true
in_tags k run c l ps s safe some =
    let list = stand_back (Cpu c ∷ []) (Modules l ∷ []) ps s in
    let one = the_list_of k l ps list safe in
    let loaded = safe.cover.runs run (omega (arith, s.among (runs_with (same_run run)))) in
    let f = found (is_loaded_as run) l.records (omega (arith, one.only (records_with (is_loaded_as run)) (of_records _))) in
    let like = loaded_as_means run f.item f.passes in
    let fit = record_fits_means k f.item (all_at (record_fits k) f.front f.item f.back (subst (λ (rs : List Record). list_all (record_fits k) rs ≡ true) f.is (list_laws_of k l ps list safe).records_fit)) in
    le-leb (run.start + run.length) k.tags (omega (arith, fit.within, like.start, like.length))

-- ---- the seats, before and after: `v` is the CPU's view, and `u` the list's

seat_me : (m : Own) (d : CpuPart) → m ≡ (view_of (Cpu d ∷ []), []) → m ≡ (view_of (Cpu (cpu_in m.0.parts) ∷ []), [])
seat_me m d is = is ∙ (λ i. (view_of (Cpu (cpu_in (sym is i).0.parts) ∷ []), []))

module _ (k : Shape) (id : ℕ) (v u : View) (cpu : CpuPart) (list : ListPart) (v_is : v ≡ view_of (Cpu (cpu_in v.parts) ∷ [])) (u_is : u ≡ view_of (Modules (list_in u.parts) ∷ [])) (cpu_is : cpu_in v.parts ≡ cpu) (list_is : list_in u.parts ≡ list) where
  pub gives_at : list_any (is_on id) list.away ≡ true → list_any (is_on id) cpu.runs ≡ false → Moves k (v.parts ++ u.parts) (Cpu (given_cpu id (list_in u.parts).away (cpu_in v.parts)) ∷ Modules (given_list id (list_in u.parts)) ∷ [])
  gives_at some none =
      subst (λ (ps : List Part). Moves k ps (Cpu (given_cpu id (list_in u.parts).away (cpu_in v.parts)) ∷ Modules (given_list id (list_in u.parts)) ∷ [])) (λ i. (sym v_is i).parts ++ (sym u_is i).parts)
      (gives_moves k id (cpu_in v.parts) (list_in u.parts) (ap (λ (l : ListPart). list_any (is_on id) l.away) list_is ∙ some) (ap (λ (c : CpuPart). list_any (is_on id) c.runs) cpu_is ∙ none))

  pub takes_at : list_any (is_on id) cpu.runs ≡ true → cpu.hand ≡ None → Moves k (v.parts ++ u.parts) (Cpu (taken_cpu id (cpu_in v.parts)) ∷ Modules (taken_list id (cpu_in v.parts).runs (list_in u.parts)) ∷ [])
  takes_at some free =
      subst (λ (ps : List Part). Moves k ps (Cpu (taken_cpu id (cpu_in v.parts)) ∷ Modules (taken_list id (cpu_in v.parts).runs (list_in u.parts)) ∷ [])) (λ i. (sym v_is i).parts ++ (sym u_is i).parts)
      (takes_moves k id (cpu_in v.parts) (list_in u.parts) (ap (λ (c : CpuPart). list_any (is_on id) c.runs) cpu_is ∙ some) (ap (λ (c : CpuPart). c.hand) cpu_is ∙ free))

-- the run that was given
module _ (k : Shape) (id : ℕ) (c : CpuPart) (l : ListPart) (run : Run) (s : StandSafe k (Cpu (given_cpu id l.away c) ∷ Modules (given_list id l) ∷ [])) (finds : find (is_on id) l.away ≡ Some run) where
  has_given : 0 < count_by (same_run run) (given_cpu id l.away c).runs + count_by (same_run run) (given_list id l).away
  has_given =
      let some : 0 < count_by (same_run run) (c.runs ++ as_list (find (is_on id) l.away)) =
      subst (λ (o : Option Run). 0 < count_by (same_run run) (c.runs ++ as_list o)) (sym finds) (count_at (same_run run) c.runs run [] (same_run_refl run)) in
      omega (arith, some)

  pub given_covered : list_any (covers_run k run (given_list id l) (given_cpu id l.away c)) l.records ≡ true
  given_covered = between k run (given_cpu id l.away c) (given_list id l) s.state s.stands s.safe has_given

  given_in_tags : run_in_tags k run ≡ true
  given_in_tags = in_tags k run (given_cpu id l.away c) (given_list id l) s.state s.stands s.safe has_given

-- what a CPU's seat keeps
pub record SeatKept (k : Shape) (m : Own) (number : ℕ) (hand : Option Hand) (ids : List ℕ) : Type 0 where
  pub me : m ≡ (view_of (Cpu (cpu_in m.0.parts) ∷ []), [])
  pub holds : CpuHolds k (cpu_in m.0.parts)
  pub kept : CpuKept number hand ids (cpu_in m.0.parts)

seat_kept : (k : Shape) (m : Own) (d : CpuPart) (number : ℕ) (hand : Option Hand) (ids : List ℕ) → m ≡ (view_of (Cpu d ∷ []), []) → CpuHolds k d → CpuKept number hand ids d → SeatKept k m number hand ids
seat_kept k m d number hand ids is holds kept = record {
  me = is ∙ (λ i. (view_of (Cpu (cpu_in (sym is i).0.parts) ∷ []), []));
  holds = subst (λ (x : Own). CpuHolds k (cpu_in x.0.parts)) (sym is) holds;
  kept = subst (λ (x : Own). CpuKept number hand ids (cpu_in x.0.parts)) (sym is) kept;
}

-- `w` is the table that the call found behind the CPU's share, which is `own`
module _ (w own : Words) (id : ℕ) (c : CpuPart) (l : ListPart) (same : w ≡ own) (s : StandSafe w.shape (Cpu (given_cpu id l.away c) ∷ Modules (given_list id l) ∷ [])) where
  given_holds : FirstRun id l.away → CpuHolds own.shape c → CpuHolds own.shape (given_cpu id l.away c)
  given_holds f h = record {
    number = h.number;
    long = h.long;
    hand = h.hand;
    in_tags = h.in_tags;
    runs = subst (λ (o : Option Run). list_all (run_in_tags own.shape) (c.runs ++ as_list o) ≡ true) (sym f.finds)
        (list_all-append (run_in_tags own.shape) c.runs (f.run ∷ []) ∙ and_from _ _ h.runs (and_from _ _ (subst (λ (x : Words). run_in_tags x.shape f.run ≡ true) same (given_in_tags w.shape id c l f.run s f.finds)) refl));
  }

  pub given_seat : (list : ListPart) (cpu : CpuPart) (m : Own) (number : ℕ) (hand : Option Hand) (ids next : List ℕ) → l ≡ list → c ≡ cpu → list_any (is_on id) list.away ≡ true → length cpu.runs < 64 → CpuHolds own.shape c → CpuKept number hand ids c → next ≡ ids ++ id ∷ []
      → m ≡ (view_of (Cpu (given_cpu id l.away c) ∷ []), []) → SeatKept own.shape m number hand next
  given_seat list cpu m number hand ids next list_is cpu_is some few holds kept more is =
      let f = first_run id l.away (ap (λ (x : ListPart). list_any (is_on id) x.away) list_is ∙ some) in
      let at : (ids_in c.runs ++ id ∷ []) ≡ ids_in (c.runs ++ as_list (find (is_on id) l.away)) =
      ap (λ (n : ℕ). ids_in c.runs ++ n ∷ []) (sym f.on_id) ∙ sym (map-append (λ (r : Run). r.id) c.runs (f.run ∷ [])) ∙ ap (λ (o : Option Run). ids_in (c.runs ++ as_list o)) (sym f.finds) in
      seat_kept own.shape m (given_cpu id l.away c) number hand next is (given_holds f holds) (record {
        number_is = kept.number_is;
        hand_is = kept.hand_is;
        ids_are = more ∙ ap (λ (xs : List ℕ). xs ++ id ∷ []) kept.ids_are ∙ at;
        few = omega (arith, ap (λ (xs : List ℕ). length xs) more, length-append ids (id ∷ []), ap (λ (xs : List ℕ). length xs) kept.ids_are, length-map c.runs (λ (r : Run). r.id), ap (λ (x : CpuPart). length x.runs) cpu_is);
      })

  pub given_list_holds : (board : Board) (cpu : CpuShown) (list : ListShown) → record { board = board_of own; part = c } ≡ cpu → record { board = board; part = l } ≡ list → cpu.board ≡ list.board → ListHolds board.shape (given_list id l)
  given_list_holds board cpu list cpu_is list_is one =
      let shape : own.shape ≡ board.shape = ap (λ (x : CpuShown). x.board.shape) cpu_is ∙ (λ i. (one i).shape) ∙ sym (ap (λ (x : ListShown). x.board.shape) list_is) in
      subst (λ (k : Shape). ListHolds k (given_list id l)) shape (subst (λ (x : Words). ListHolds x.shape (given_list id l)) same (list_tells w.shape (Cpu (given_cpu id l.away c) ∷ []) (given_list id l) s))

  pub given_covers : (board : Board) (cpu : CpuShown) (list : ListShown) (run : Run) (m n : Own) → record { board = board_of own; part = c } ≡ cpu → record { board = board; part = l } ≡ list → cpu.board ≡ list.board → find (is_on id) list.part.away ≡ Some run
      → m ≡ (view_of (Cpu (given_cpu id l.away c) ∷ []), []) → n ≡ (view_of (Modules (given_list id l) ∷ []), []) → list_any (covers_run list.board.shape run (list_in n.0.parts) (cpu_in m.0.parts)) list.part.records ≡ true
  given_covers board cpu list run m n cpu_is list_is one finds m_is n_is =
      let shape : list.board.shape ≡ w.shape = sym (ap (λ (x : Words). x.shape) same ∙ ap (λ (x : CpuShown). x.board.shape) cpu_is ∙ (λ i. (one i).shape)) in
      (λ i. list_any (covers_run (shape i) run (list_in (n_is i).0.parts) (cpu_in (m_is i).0.parts)) (sym list_is i).part.records)
      ∙ given_covered w.shape id c l run s (ap (λ (x : ListShown). find (is_on id) x.part.away) list_is ∙ finds)

-- ---- the run that was taken

ids_without : (id : ℕ) (runs : List Run) → filter (λ (n : ℕ). not (n == id)) (ids_in runs) ≡ ids_in (other_runs id runs)
ids_without id [] = refl
ids_without id (r ∷ runs) = go (cases_Bool (r.id == id)) (ids_without id runs)
  where
    go : ((r.id == id) ≡ true) ⊎ ((r.id == id) ≡ false) → filter (λ (n : ℕ). not (n == id)) (ids_in runs) ≡ ids_in (other_runs id runs) → filter (λ (n : ℕ). not (n == id)) (ids_in (r ∷ runs)) ≡ ids_in (other_runs id (r ∷ runs))
    go (inl is) later = rw is later
    go (inr apart) later = rw apart (ap (λ (xs : List ℕ). r.id ∷ xs) later)

module _ (w own : Words) (id : ℕ) (c : CpuPart) (l : ListPart) (same : w ≡ own) (s : StandSafe w.shape (Cpu (taken_cpu id c) ∷ Modules (taken_list id c.runs l) ∷ [])) where
  taken_holds : CpuHolds own.shape c → CpuHolds own.shape (taken_cpu id c)
  taken_holds h = record { number = h.number; long = h.long; hand = h.hand; in_tags = h.in_tags; runs = all_filter (run_in_tags own.shape) (λ (r : Run). not (r.id == id)) c.runs h.runs }

  pub taken_seat : (m : Own) (number : ℕ) (hand : Option Hand) (ids next : List ℕ) → CpuHolds own.shape c → CpuKept number hand ids c → next ≡ filter (λ (n : ℕ). not (n == id)) ids → length next ≤ length ids → m ≡ (view_of (Cpu (taken_cpu id c) ∷ []), []) → SeatKept own.shape m number hand next
  taken_seat m number hand ids next holds kept less few is =
      seat_kept own.shape m (taken_cpu id c) number hand next is (taken_holds holds)
      (record { number_is = kept.number_is; hand_is = kept.hand_is; ids_are = less ∙ ap (λ (xs : List ℕ). filter (λ (n : ℕ). not (n == id)) xs) kept.ids_are ∙ ids_without id c.runs; few = omega (arith, kept.few) })

  taken_covered : (run : Run) → find (is_on id) c.runs ≡ Some run → list_any (covers_run w.shape run (taken_list id c.runs l) (taken_cpu id c)) l.records ≡ true
  taken_covered run finds =
      let some : 0 < count_by (same_run run) (as_list (find (is_on id) c.runs) ++ l.away) =
      subst (λ (o : Option Run). 0 < count_by (same_run run) (as_list o ++ l.away)) (sym finds) (count_at (same_run run) [] run l.away (same_run_refl run)) in
      between w.shape run (taken_cpu id c) (taken_list id c.runs l) s.state s.stands s.safe (omega (arith, some))

  pub taken_list_holds : (board : Board) (cpu : CpuShown) (list : ListShown) → record { board = board_of own; part = c } ≡ cpu → record { board = board; part = l } ≡ list → cpu.board ≡ list.board → ListHolds board.shape (taken_list id c.runs l)
  taken_list_holds board cpu list cpu_is list_is one =
      let shape : own.shape ≡ board.shape = ap (λ (x : CpuShown). x.board.shape) cpu_is ∙ (λ i. (one i).shape) ∙ sym (ap (λ (x : ListShown). x.board.shape) list_is) in
      subst (λ (k : Shape). ListHolds k (taken_list id c.runs l)) shape (subst (λ (x : Words). ListHolds x.shape (taken_list id c.runs l)) same (list_tells w.shape (Cpu (taken_cpu id c) ∷ []) (taken_list id c.runs l) s))

  pub taken_covers : (board : Board) (cpu : CpuShown) (list : ListShown) (run : Run) (m n : Own) → record { board = board_of own; part = c } ≡ cpu → record { board = board; part = l } ≡ list → cpu.board ≡ list.board → find (is_on id) cpu.part.runs ≡ Some run
      → m ≡ (view_of (Cpu (taken_cpu id c) ∷ []), []) → n ≡ (view_of (Modules (taken_list id c.runs l) ∷ []), []) → list_any (covers_run list.board.shape run (list_in n.0.parts) (cpu_in m.0.parts)) list.part.records ≡ true
  taken_covers board cpu list run m n cpu_is list_is one finds m_is n_is =
      let shape : list.board.shape ≡ w.shape = sym (ap (λ (x : Words). x.shape) same ∙ ap (λ (x : CpuShown). x.board.shape) cpu_is ∙ (λ i. (one i).shape)) in
      (λ i. list_any (covers_run (shape i) run (list_in (n_is i).0.parts) (cpu_in (m_is i).0.parts)) (sym list_is i).part.records)
      ∙ taken_covered run (ap (λ (x : CpuShown). find (is_on id) x.part.runs) cpu_is ∙ finds)
