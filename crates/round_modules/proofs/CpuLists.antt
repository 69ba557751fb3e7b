-- Lists of CPUs that come in, take notes and go out.
use Rattle.std.proofs.Common.{◌≡◌, ℕ, zero, suc, ◌-◌, ◌<◌, ◌≤◌, ◌==◌, ◌||◌, not, Bool, true, false, cond, List, [], ◌∷◌, ◌++◌, length, map, take, drop, replicate, All, refl, sym, ap, ◌∙◌, subst, arith, eq-eqb, ne_eqb}
use Rattle.std.proofs.lemmas.Bool.{cond-true, cond-false, false≢true}
use Rattle.std.proofs.lemmas.List.{length-map, map-append, take-append-drop}
use Rattle.std.proofs.lemmas.List.Elements.{All-append, All-cons, All-head, All-nil, All-tail}
use Rattle.tag_model.specs.declared.state.Record.{Record}
use Rattle.tag_model.specs.declared.state.Run.{Run}
use Rattle.tag_rule.specs.Listed.{has_run}
use Rattle.tag_rule.specs.Meeting.{first_notes, with_notes}
use Rattle.tag_rule.specs.Runs.{other_runs, with_runs}
use Rattle.tag_rule.specs.Shown.{CpuShown}
use Rattle.module_area.specs.declared.entry.Entry.{Entry}
use Rattle.module_area.specs.declared.entry.State.{State}
use Rattle.module_area.specs.declared.entry.State.TheVariants.{Dead, Loaded}
use Rattle.module_area.specs.Entries.{is_dead}
use Rattle.core_list.specs.ListState.{run_of}
use Rattle.round_modules.specs.Inside.{AreInside, come_in, left_runs, outside, runs_in}
use Rattle.round_modules.specs.Known.{runs_of, staying}
use Rattle.round_modules.proofs.Members.{Rises, pairs_head}

-- ---- runs on what stays loaded

pub runs_of_cons : (e : Entry) (es : List Entry) → runs_of (e ∷ es) ≡ runs_of (e ∷ []) ++ runs_of es
runs_of_cons e es = go (is_dead e.state)
  where
    go : (b : Bool) → map run_of (cond (not b) (e ∷ staying es) (staying es)) ≡ map run_of (cond (not b) (e ∷ []) []) ++ map run_of (staying es)
    go true = refl
    go false = refl

pub dead_state : (s : State) → not (is_dead s) ≡ false → s ≡ Dead
dead_state Loaded e = absurd (false≢true (sym e))
dead_state Dead e = refl

pub run_of_one : (e : Entry) → not (is_dead e.state) ≡ true → runs_of (e ∷ []) ≡ run_of e ∷ []
run_of_one e loaded = ap (map run_of) (cond-true (not (is_dead e.state)) (e ∷ []) [] loaded)

pub run_of_none : (e : Entry) → not (is_dead e.state) ≡ false → runs_of (e ∷ []) ≡ []
run_of_none e dead = ap (map run_of) (cond-false (not (is_dead e.state)) (e ∷ []) [] dead)

pub run_short : (e : Entry) → length (runs_of (e ∷ [])) ≤ 1
run_short e = go (not (is_dead e.state))
  where
    go : (b : Bool) → length (map run_of (cond b (e ∷ []) [])) ≤ 1
    go true = omega arith
    go false = omega arith

pub has_run_append : (id : ℕ) (a b : List Run) → has_run id a ≡ false → has_run id b ≡ false → has_run id (a ++ b) ≡ false
has_run_append id [] b one two = two
has_run_append id (r ∷ a) b one two = go (r.id == id) one (λ rest. has_run_append id a b rest two)
  where
    go : (t : Bool) → (t || has_run id a) ≡ false → (has_run id a ≡ false → has_run id (a ++ b) ≡ false) → (t || has_run id (a ++ b)) ≡ false
    go true one rest = one
    go false one rest = rest one

-- no run on an entry of another id
pub other_run : (id : ℕ) (e : Entry) → e.id < id → has_run id (runs_of (e ∷ [])) ≡ false
other_run id e less = go (not (is_dead e.state))
  where
    go : (b : Bool) → has_run id (map run_of (cond b (e ∷ []) [])) ≡ false
    go true = ap (λ t. t || false) (ne_eqb e.id id (λ same. omega (arith, less, same)))
    go false = refl

-- the ids that are left have no run yet, once the CPU is inside the first
pub outside_more : (e : Entry) (es : List Entry) (runs : List Run) → Rises (e ∷ es) → All (λ (x : Entry). has_run x.id runs ≡ false) es → All (λ (x : Entry). has_run x.id (runs ++ runs_of (e ∷ [])) ≡ false) es
outside_more e es runs rises none = λ k d less. has_run_append _ runs (runs_of (e ∷ [])) (none k d less) (other_run _ e (pairs_head (λ (one : Entry) (other : Entry). one.id < other.id) e es rises k d less))

-- ---- the runs of a CPU that goes out

same_others : (id : ℕ) (es : List Entry) → All (λ (x : Entry). id < x.id) es → other_runs id (runs_of es) ≡ runs_of es
same_others id [] above = refl
same_others id (e ∷ es) above = go (not (is_dead e.state)) (same_others id es (All-tail (λ (x : Entry). id < x.id) e es above))
  where
    other : not (e.id == id) ≡ true
    other = ap not (ne_eqb e.id id (λ same. omega (arith, All-head (λ (x : Entry). id < x.id) e es above, same)))

    go : (b : Bool) → other_runs id (runs_of es) ≡ runs_of es → other_runs id (map run_of (cond b (e ∷ staying es) (staying es))) ≡ map run_of (cond b (e ∷ staying es) (staying es))
    go true rest = cond-true (not (e.id == id)) (run_of e ∷ other_runs id (runs_of es)) (other_runs id (runs_of es)) other ∙ ap (λ rs. run_of e ∷ rs) rest
    go false rest = rest

pub left_first : (e : Entry) (es : List Entry) → Rises (e ∷ es) → left_runs e (runs_of (e ∷ es)) ≡ runs_of es
left_first e es rises = go e.state refl
  where
    above : All (λ (x : Entry). e.id < x.id) es
    above = pairs_head (λ (one : Entry) (other : Entry). one.id < other.id) e es rises

    gone : not (e.id == e.id) ≡ false
    gone = ap not (eq-eqb e.id e.id refl)

    go : (s : State) → e.state ≡ s → cond (is_dead s) (map run_of (cond (not (is_dead s)) (e ∷ staying es) (staying es))) (other_runs e.id (map run_of (cond (not (is_dead s)) (e ∷ staying es) (staying es)))) ≡ runs_of es
    go Dead is = refl
    go Loaded is = cond-false (not (e.id == e.id)) (run_of e ∷ other_runs e.id (runs_of es)) (other_runs e.id (runs_of es)) gone ∙ same_others e.id es above

pub first_has_run : (e : Entry) (es : List Entry) → e.state ≡ Loaded → has_run e.id (runs_of (e ∷ es)) ≡ true
first_has_run e es loaded = ap (λ (s : State). has_run e.id (map run_of (cond (not (is_dead s)) (e ∷ staying es) (staying es)))) loaded ∙ ap (λ b. b || has_run e.id (runs_of es)) (eq-eqb e.id e.id refl)

-- ---- the first so many CPUs

all_none : (m : ℕ) (cpus : List CpuShown) → map runs_in cpus ≡ replicate m [] → All (λ (c : CpuShown). c.part.runs ≡ []) cpus
all_none m [] is = All-nil (λ (c : CpuShown). c.part.runs ≡ [])
all_none zero (c ∷ cs) is = absurd (cc)
all_none (suc m) (c ∷ cs) is =
    let head : c.part.runs ≡ [] = cc in
    let rest : map runs_in cs ≡ replicate m [] = cc in
    All-cons (λ (x : CpuShown). x.part.runs ≡ []) c cs head (all_none m cs rest)

pub record Split (n : ℕ) (runs : List Run) (cpus : List CpuShown) : Type 0 where
  pub within : All (λ (c : CpuShown). c.part.runs ≡ runs) (take n cpus)
  pub others : All (λ (c : CpuShown). c.part.runs ≡ []) (drop n cpus)

pub inside_split : (n : ℕ) (runs : List Run) (cpus : List CpuShown) → n ≤ length cpus → AreInside n runs cpus → Split n runs cpus
inside_split zero runs cpus few is = record { within = All-nil (λ (c : CpuShown). c.part.runs ≡ runs); others = all_none (length cpus - 0) cpus is }
inside_split (suc n) runs [] few is = absurd (omega (arith, few))
inside_split (suc n) runs (c ∷ cs) few is =
    let head : c.part.runs ≡ runs = cc in
    let count : length (c ∷ cs) - suc n ≡ length cs - n = omega arith in
    let rest : map runs_in cs ≡ replicate n runs ++ replicate (length (c ∷ cs) - suc n) [] = cc in
    let more = inside_split n runs cs (omega (arith, few)) (rest ∙ ap (λ m. replicate n runs ++ replicate m []) count) in
    record { within = All-cons (λ (x : CpuShown). x.part.runs ≡ runs) c (take n cs) head more.within; others = more.others }

none_in : (cpus : List CpuShown) (m : ℕ) → length cpus ≡ m → All (λ (c : CpuShown). c.part.runs ≡ []) cpus → map runs_in cpus ≡ replicate m []
none_in [] zero is none = refl
none_in [] (suc m) is none = absurd (omega (arith, is))
none_in (c ∷ cs) zero is none = absurd (omega (arith, is))
none_in (c ∷ cs) (suc m) is none = λ i. All-head (λ (x : CpuShown). x.part.runs ≡ []) c cs none i ∷ none_in cs m (omega (arith, is)) (All-tail (λ (x : CpuShown). x.part.runs ≡ []) c cs none) i

pub came_in : (n : ℕ) (runs : List Run) (cpus : List CpuShown) → n ≤ length cpus → All (λ (c : CpuShown). c.part.runs ≡ []) cpus → AreInside n runs (come_in n runs cpus)
came_in zero runs cpus few none = none_in cpus (length cpus - 0) (omega arith) none
came_in (suc n) runs [] few none = absurd (omega (arith, few))
came_in (suc n) runs (c ∷ cs) few none =
    let more = came_in n runs cs (omega (arith, few)) (All-tail (λ (x : CpuShown). x.part.runs ≡ []) c cs none) in
    let count : length (come_in n runs cs) - n ≡ length (come_in (suc n) runs (c ∷ cs)) - suc n = omega arith in
    λ i. runs ∷ (more ∙ ap (λ m. replicate n runs ++ replicate m []) count) i

-- ---- what stays of a CPU

pub outside_noted : (records : List Record) (cpus : List CpuShown) → map outside (first_notes records cpus) ≡ map outside cpus
outside_noted records [] = refl
outside_noted records (c ∷ cs) = refl

outside_in : (runs : List Run) (cpus : List CpuShown) → map outside (map (with_runs runs) cpus) ≡ map outside cpus
outside_in runs [] = refl
outside_in runs (c ∷ cs) = ap (λ xs. outside c ∷ xs) (outside_in runs cs)

pub outside_come_in : (n : ℕ) (runs : List Run) (cpus : List CpuShown) → map outside (come_in n runs cpus) ≡ map outside cpus
outside_come_in n runs cpus =
    map-append outside (map (with_runs runs) (take n cpus)) (drop n cpus)
    ∙ (ap (λ xs. xs ++ map outside (drop n cpus)) (outside_in runs (take n cpus))
    ∙ (sym (map-append outside (take n cpus) (drop n cpus)) ∙ ap (map outside) (take-append-drop n cpus)))

pub runs_noted : (records : List Record) (cpus : List CpuShown) → map runs_in (first_notes records cpus) ≡ map runs_in cpus
runs_noted records [] = refl
runs_noted records (c ∷ cs) = refl

pub length_noted : (records : List Record) (cpus : List CpuShown) → length (first_notes records cpus) ≡ length cpus
length_noted records [] = refl
length_noted records (c ∷ cs) = refl

pub inside_noted : (n : ℕ) (runs : List Run) (records : List Record) (cpus : List CpuShown) → AreInside n runs cpus → AreInside n runs (first_notes records cpus)
inside_noted n runs records cpus is = runs_noted records cpus ∙ (is ∙ ap (λ m. replicate n runs ++ replicate (m - n) []) (sym (length_noted records cpus)))

pub none_noted : (records : List Record) (cpus : List CpuShown) → All (λ (c : CpuShown). c.part.runs ≡ []) cpus → All (λ (c : CpuShown). c.part.runs ≡ []) (first_notes records cpus)
none_noted records [] none = none
none_noted records (c ∷ cs) none = All-cons (λ (x : CpuShown). x.part.runs ≡ []) (with_notes records c) cs (All-head (λ (x : CpuShown). x.part.runs ≡ []) c cs none) (All-tail (λ (x : CpuShown). x.part.runs ≡ []) c cs none)

pub none_left : (n : ℕ) (cpus : List CpuShown) → All (λ (c : CpuShown). c.part.runs ≡ []) (drop n cpus) → All (λ (c : CpuShown). c.part.runs ≡ []) (come_in n [] cpus)
none_left n cpus others = All-append (λ (c : CpuShown). c.part.runs ≡ []) (map (with_runs []) (take n cpus)) (drop n cpus) (all_out (take n cpus)) others
  where
    all_out : (cs : List CpuShown) → All (λ (c : CpuShown). c.part.runs ≡ []) (map (with_runs []) cs)
    all_out [] = All-nil (λ (c : CpuShown). c.part.runs ≡ [])
    all_out (c ∷ cs) = All-cons (λ (x : CpuShown). x.part.runs ≡ []) (with_runs [] c) (map (with_runs []) cs) refl (all_out cs)

-- ---- what holds of each CPU's number, board and hand

pub alike_boards : (P : CpuShown → Type 0) → ((c : CpuShown) → P c → P (outside c)) → ((c : CpuShown) → P (outside c) → P c) → (xs ys : List CpuShown) → map outside ys ≡ map outside xs → All P xs → All P ys
alike_boards P out back xs ys same all = all_back ys (subst (All P) (sym same) (all_out xs all))
  where
    all_out : (cs : List CpuShown) → All P cs → All P (map outside cs)
    all_out [] h = All-nil P
    all_out (c ∷ cs) h = All-cons P (outside c) (map outside cs) (out c (All-head P c cs h)) (all_out cs (All-tail P c cs h))

    all_back : (cs : List CpuShown) → All P (map outside cs) → All P cs
    all_back [] h = All-nil P
    all_back (c ∷ cs) h = All-cons P c cs (back c (All-head P (outside c) (map outside cs) h)) (all_back cs (All-tail P (outside c) (map outside cs) h))

numbers_out : (cs : List CpuShown) → map (λ (c : CpuShown). c.part.number) (map outside cs) ≡ map (λ (c : CpuShown). c.part.number) cs
numbers_out [] = refl
numbers_out (c ∷ cs) = ap (λ ns. c.part.number ∷ ns) (numbers_out cs)

pub alike_numbers : (xs ys : List CpuShown) → map outside ys ≡ map outside xs → map (λ (c : CpuShown). c.part.number) ys ≡ map (λ (c : CpuShown). c.part.number) xs
alike_numbers xs ys same = sym (numbers_out ys) ∙ (ap (map (λ (c : CpuShown). c.part.number)) same ∙ numbers_out xs)

-- CPUs with the same runs are inside the same
pub inside_along : (n : ℕ) (runs : List Run) (xs ys : List CpuShown) → map runs_in ys ≡ map runs_in xs → AreInside n runs xs → AreInside n runs ys
inside_along n runs xs ys same inside =
    let long : length ys ≡ length xs = sym (length-map ys runs_in) ∙ (ap length same ∙ length-map xs runs_in) in
    same ∙ (inside ∙ ap (λ m. replicate n runs ++ replicate (m - n) []) (sym long))
