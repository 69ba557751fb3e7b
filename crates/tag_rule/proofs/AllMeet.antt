-- All CPUs, the module list and the next id stand together: what the cover law says between them.
use Rattle.std.proofs.Common.{◌≡◌, ℕ, ◌+◌, ◌==◌, ◌&&◌, nat_lt, List, [], ◌∷◌, ◌++◌, map, count_by, sum_by, refl, sym, ap, subst, ◌∙◌, arith, true, lt-ltb, le-leb, eq-eqb, append_assoc, cond}
use Rattle.std.specs.List.{All, list_all, list_any, range_with_len}
use Rattle.std.proofs.lemmas.Bool.{and_from, and_parts}
use Rattle.std.proofs.lemmas.List.Elements.{All-cons, All-head, All-nil, All-tail}
use Rattle.std.proofs.lemmas.List.Sums.{sum_by-append, sum_by-cons}
use Rattle.tag_model.specs.declared.shape.Shape.{Shape}
use Rattle.tag_model.specs.declared.state.CpuPart.{CpuPart}
use Rattle.tag_model.specs.declared.state.ListPart.{ListPart}
use Rattle.tag_model.specs.declared.state.Note.{Note}
use Rattle.tag_model.specs.declared.state.Part.{Part}
use Rattle.tag_model.specs.declared.state.Part.TheVariants.{Cpu, Modules, NextId}
use Rattle.tag_model.specs.declared.state.Record.{Record}
use Rattle.tag_model.specs.declared.state.Run.{Run}
use Rattle.tag_model.specs.Laws.{Safe, is_loaded_as}
use Rattle.tag_model.specs.StepRules.{Stands}
use Rattle.tag_model.specs.Telling.{AreAllLent, is_as_noted}
use Rattle.tag_model.specs.WordState.{in_range, is_cpu, is_list, is_pass, next_id, one_if, runs_with}
use Rattle.tag_model.proofs.Found.{any_at, found_any}
use Rattle.tag_model.proofs.Lent.{all_lent, next_is, stand_front}
use Rattle.tag_model.proofs.ListTells.{all_each, away_is_loaded, ids_below, list_laws_of, users_are_runs}
use Rattle.tag_model.proofs.PartTells.{note_given, notes_agree_by}
use Rattle.tag_model.proofs.Parts.{standing}
use Rattle.tag_model.proofs.Told.{one_run_each, run_is_loaded}
use Rattle.tag_rule.specs.declared.words.Words.{Words}
use Rattle.tag_rule.specs.Meeting.{AreLoaded, AreMet, IsMetCpu, StandSafe, first_notes, runs_on, stacked, with_notes}
use Rattle.tag_rule.specs.Shown.{Board, CpuShown, ListShown}
use Rattle.tag_rule.specs.Tokens.{board_of}
use Rattle.tag_rule.proofs.Dealt.{count_run}
use Rattle.tag_model.proofs.ListTells.{users_here}
use Rattle.tag_rule.proofs.Tellings.{list_holds}

-- ---- parts one by one before others

stacked_sum : (f : Part → ℕ) (cpus : List CpuShown) (parts : List Part) → sum_by f (stacked cpus parts) ≡ sum_by (λ (c : CpuShown). f (Cpu c.part)) cpus + sum_by f parts
stacked_sum f [] parts = omega arith
stacked_sum f (c ∷ cpus) parts = omega (arith, stacked_sum f cpus (Cpu c.part ∷ parts), sum_by-cons f (Cpu c.part) parts, sum_by-cons (λ (x : CpuShown). f (Cpu x.part)) c cpus)

no_cpus : (f : Part → ℕ) → ((c : CpuPart) → f (Cpu c) ≡ 0) → (cpus : List CpuShown) → sum_by (λ (c : CpuShown). f (Cpu c.part)) cpus ≡ 0
no_cpus f none [] = refl
no_cpus f none (c ∷ cpus) = omega (arith, sum_by-cons (λ (x : CpuShown). f (Cpu x.part)) c cpus, none c.part, no_cpus f none cpus)

numbers_sum : (m : ℕ) (cpus : List CpuShown) → sum_by (λ (c : CpuShown). is_cpu m (Cpu c.part)) cpus ≡ count_by (λ n. n == m) (map (λ (c : CpuShown). c.part.number) cpus)
numbers_sum m [] = refl
numbers_sum m (c ∷ cpus) = omega (arith, sum_by-cons (λ (x : CpuShown). is_cpu m (Cpu x.part)) c cpus, sum_by-cons (λ (n : ℕ). cond {A = ℕ} (n == m) 1 0) c.part.number (map (λ (x : CpuShown). x.part.number) cpus), numbers_sum m cpus)

module _ (k : Shape) (l : ListPart) (next : ℕ) (cpus : List CpuShown) (s : StandSafe k (stacked cpus (Modules l ∷ NextId next ∷ []))) where
  state : List Part
  state = s.state

  safe : Safe k s.state
  safe = s.safe

  list_stands : Stands (Modules l ∷ []) s.state
  list_stands = record {
    rest = s.stands.rest ++ stacked cpus (NextId next ∷ []);
    among = λ f. omega (
      arith,
      s.stands.among f,
      stacked_sum f cpus (Modules l ∷ NextId next ∷ []),
      stacked_sum f cpus (NextId next ∷ []),
      sum_by-append f s.stands.rest (stacked cpus (NextId next ∷ [])),
      sum_by-cons f (Modules l) (NextId next ∷ []),
      sum_by-cons f (Modules l) [],
    );
  }

  pass_stands : Stands (NextId next ∷ []) s.state
  pass_stands = record {
    rest = s.stands.rest ++ stacked cpus (Modules l ∷ []);
    among = λ f. omega (
      arith,
      s.stands.among f,
      stacked_sum f cpus (Modules l ∷ NextId next ∷ []),
      stacked_sum f cpus (Modules l ∷ []),
      sum_by-append f s.stands.rest (stacked cpus (Modules l ∷ [])),
      sum_by-cons f (Modules l) (NextId next ∷ []),
      sum_by-cons f (Modules l) [],
    );
  }

  cpu_stands : (front : List CpuShown) (c : CpuShown) (back : List CpuShown) → cpus ≡ front ++ c ∷ back → Stands (Cpu c.part ∷ Modules l ∷ []) s.state
  cpu_stands front c back is = record {
    rest = s.stands.rest ++ stacked (front ++ back) (NextId next ∷ []);
    among = λ f.
        let g : CpuShown → ℕ = λ x. f (Cpu x.part) in
        let here : sum_by g cpus ≡ sum_by g (front ++ c ∷ back) = ap (λ (xs : List CpuShown). sum_by g xs) is in
        omega (
          arith,
          s.stands.among f,
          here,
          stacked_sum f cpus (Modules l ∷ NextId next ∷ []),
          stacked_sum f (front ++ back) (NextId next ∷ []),
          sum_by-append f s.stands.rest (stacked (front ++ back) (NextId next ∷ [])),
          sum_by-append g front (c ∷ back),
          sum_by-append g front back,
          sum_by-cons g c back,
          sum_by-cons f (Modules l) (NextId next ∷ []),
          sum_by-cons f (Cpu c.part) (Modules l ∷ []),
          sum_by-cons f (Modules l) [],
        );
  }

  next_here : sum_by next_id s.state ≡ next
  next_here = next_is k next s.state pass_stands s.safe

  all_are_lent : map (λ (c : CpuShown). c.part.number) cpus ≡ range_with_len 0 k.cpus → AreAllLent k (stacked cpus (Modules l ∷ NextId next ∷ []))
  all_are_lent numbers = record {
    cpus = λ m low.
        let counts : count_by (λ n. n == m) (map (λ (c : CpuShown). c.part.number) cpus) ≡ one_if (in_range 0 k.cpus m) = ap (λ (xs : List ℕ). count_by (λ n. n == m) xs) numbers ∙ count_run m 0 k.cpus in
        let within : one_if (in_range 0 k.cpus m) ≡ 1 = rw (and_from _ _ (le-leb 0 m (omega arith)) (lt-ltb m (0 + k.cpus) (omega arith))) refl in
        omega (arith, stacked_sum (is_cpu m) cpus (Modules l ∷ NextId next ∷ []), numbers_sum m cpus, counts, within);
    list = omega (arith, stacked_sum is_list cpus (Modules l ∷ NextId next ∷ []), no_cpus is_list (λ c. refl) cpus);
    pass = omega (arith, stacked_sum is_pass cpus (Modules l ∷ NextId next ∷ []), no_cpus is_pass (λ c. refl) cpus);
  }

  met_cpu : (front : List CpuShown) (c : CpuShown) (back : List CpuShown) → cpus ≡ front ++ c ∷ back → IsMetCpu l next c.part
  met_cpu front c back is =
      let both = cpu_stands front c back is in
      let alone = stand_front (Cpu c.part ∷ []) (Modules l ∷ []) s.state both in
      record {
        one_run = λ id. one_run_each k c.part [] _ s.state s.state (standing _ s.state alone) s.safe id;
        loaded = all_each (λ (run : Run). list_any (is_loaded_as run) l.records) c.part.runs (λ f. run_is_loaded k c.part l _ s.state s.state (standing _ s.state both) s.safe f.front f.item f.back f.is);
        given = all_each (λ (n : Note). nat_lt n.id next) c.part.notes (λ f. lt-ltb f.item.id next (omega (arith, next_here, note_given k c.part s.state f.front f.item f.back alone s.safe f.is)));
        agree = all_each (λ (n : Note). list_all (is_as_noted n) l.records) c.part.notes (λ f. notes_agree_by k c.part l s.state f.front f.item f.back both s.safe f.is);
      }

  met_from : (front rest : List CpuShown) → cpus ≡ front ++ rest → All (λ (c : CpuShown). IsMetCpu l next c.part) rest
  met_from front [] is = All-nil (λ (c : CpuShown). IsMetCpu l next c.part)
  met_from front (c ∷ rest) is = All-cons (λ (x : CpuShown). IsMetCpu l next x.part) c rest (met_cpu front c rest is) (met_from (front ++ c ∷ []) rest (is ∙ sym (append_assoc front (c ∷ []) rest)))

  on_their_way : AreLoaded l l.away
  on_their_way =
      all_each (λ (run : Run). list_any (is_loaded_as run) l.records) l.away
      (λ f.
      let g = found_any (λ (r : Record). is_loaded_as f.item r && nat_lt 0 r.users) l.records (away_is_loaded k l s.state list_stands s.safe f.front f.item f.back f.is) in
      subst (λ (rs : List Record). list_any (is_loaded_as f.item) rs ≡ true) (sym g.is) (any_at (is_loaded_as f.item) g.front g.item g.back (and_parts (is_loaded_as f.item g.item) (nat_lt 0 g.item.users) g.passes).0))

  users_all : map (λ (c : CpuShown). c.part.number) cpus ≡ range_with_len 0 k.cpus → list_all (λ (r : Record). r.users == runs_on r.id l cpus) l.records ≡ true
  users_all numbers =
      all_each (λ (r : Record). r.users == runs_on r.id l cpus) l.records
      (λ f.
      let users = users_here k l (list_laws_of k l s.state list_stands s.safe) f.front f.item f.back f.is in
      let runs = users_are_runs k l s.state list_stands s.safe f.item.id in
      let lent = all_lent k (stacked cpus (Modules l ∷ NextId next ∷ [])) s.state (all_are_lent numbers) s.stands s.safe (runs_with (λ r. r.id == f.item.id)) (λ n held. refl) in
      let sum = stacked_sum (runs_with (λ r. r.id == f.item.id)) cpus (Modules l ∷ NextId next ∷ []) in
      eq-eqb f.item.users (runs_on f.item.id l cpus) (omega (arith, users, runs, lent, sum)))

  pub all_met : map (λ (c : CpuShown). c.part.number) cpus ≡ range_with_len 0 k.cpus → AreMet k l next cpus
  all_met numbers =
      let holds = list_holds k l s.state list_stands s.safe in
      record {
        rise = holds.rises;
        below = subst (λ (n : ℕ). list_all (λ (r : Record). nat_lt r.id n) l.records ≡ true) next_here (ids_below k l s.state list_stands s.safe);
        fit = holds.in_area;
        apart = holds.apart;
        users = users_all numbers;
        loaded = on_their_way;
        each = met_from [] cpus refl;
      }

-- ---- by what the tokens show

-- notes change no board and no number
pub boards_stay : (b : Board) (records : List Record) (cpus : List CpuShown) → All (λ (c : CpuShown). c.board ≡ b) cpus → All (λ (c : CpuShown). c.board ≡ b) (first_notes records cpus)
boards_stay b records [] all = All-nil (λ (c : CpuShown). c.board ≡ b)
boards_stay b records (c ∷ cpus) all = All-cons (λ (x : CpuShown). x.board ≡ b) (with_notes records c) cpus (All-head (λ (x : CpuShown). x.board ≡ b) c cpus all) (All-tail (λ (x : CpuShown). x.board ≡ b) c cpus all)

numbers_stay : (records : List Record) (cpus : List CpuShown) → map (λ (c : CpuShown). c.part.number) (first_notes records cpus) ≡ map (λ (c : CpuShown). c.part.number) cpus
numbers_stay records [] = refl
numbers_stay records (c ∷ cpus) = refl

-- `w` is the table that the call found behind the list's share, which is `own`
pub met_shown : (w own : Words) (l : ListPart) (list : ListShown) (n next : ℕ) (cpus given now : List CpuShown) (records : List Record) (parts : List Part) → w ≡ own → record { board = board_of own; part = l } ≡ list → n ≡ next → parts ≡ Modules l ∷ NextId n ∷ []
    → StandSafe w.shape (stacked given parts) → given ≡ first_notes records cpus → now ≡ given → map (λ (c : CpuShown). c.part.number) cpus ≡ range_with_len 0 list.board.shape.cpus → AreMet list.board.shape list.part next now
met_shown w own l list n next cpus given now records parts same list_is next_is all_is s given_is now_is numbers =
    let shape : w.shape ≡ list.board.shape = ap (λ (x : Words). x.shape) same ∙ ap (λ (x : ListShown). x.board.shape) list_is in
    let met = all_met w.shape l n given (subst (λ (ps : List Part). StandSafe w.shape (stacked given ps)) all_is s)
    (ap (λ (cs : List CpuShown). map (λ (c : CpuShown). c.part.number) cs) given_is ∙ numbers_stay records cpus ∙ numbers ∙ ap (λ (k : Shape). range_with_len 0 k.cpus) (sym shape)) in
    coe 0 1 (i. AreMet (shape i) (list_is i).part (next_is i) (sym now_is i)) met
