-- All CPUs before and after those that were inside went out.
use Rattle.std.proofs.Common.{◌≡◌, ℕ, ◌≤◌, List, [], ◌++◌, map, take, drop, length, All, sym, ap, ◌∙◌, subst, arith}
use Rattle.tag_model.specs.declared.state.Record.{Record}
use Rattle.tag_model.specs.declared.state.Run.{Run}
use Rattle.tag_rule.specs.Meeting.{first_notes}
use Rattle.tag_rule.specs.Runs.{with_runs}
use Rattle.tag_rule.specs.Shown.{Board, CpuShown}
use Rattle.reclaim.specs.State.{LockedShown}
use Rattle.round_modules.specs.Inside.{AreInside, come_in, outside}
use Rattle.round_modules.specs.Known.{SameModules}
use Rattle.round_modules.proofs.CpuLists.{Split, alike_boards, inside_noted, inside_split, length_noted, none_left, outside_come_in, outside_noted}

-- once all have met
pub noted_alike : (records : List Record) (cpus met : List CpuShown) → met ≡ first_notes records cpus → map outside met ≡ map outside cpus
noted_alike records cpus met is = ap (map outside) is ∙ outside_noted records cpus

pub met_inside : (n : ℕ) (runs : List Run) (records : List Record) (cpus met : List CpuShown) → met ≡ first_notes records cpus → AreInside n runs cpus → AreInside n runs met
met_inside n runs records cpus met is inside = subst (AreInside n runs) (sym is) (inside_noted n runs records cpus inside)

pub met_split : (n : ℕ) (runs : List Run) (records : List Record) (cpus met : List CpuShown) → met ≡ first_notes records cpus → n ≤ length cpus → AreInside n runs cpus → Split n runs met
met_split n runs records cpus met is few inside =
    inside_split n runs met (omega (arith, few, ap length is, length_noted records cpus)) (met_inside n runs records cpus met is inside)

-- once the first so many are out
pub left_is : (n : ℕ) (met out : List CpuShown) → out ≡ map (with_runs []) (take n met) → out ++ drop n met ≡ come_in n [] met
left_is n met out is = ap (λ (xs : List CpuShown). xs ++ drop n met) is

pub left_alike : (n : ℕ) (records : List Record) (cpus met out : List CpuShown) → met ≡ first_notes records cpus → out ≡ map (with_runs []) (take n met) → map outside (out ++ drop n met) ≡ map outside cpus
left_alike n records cpus met out is out_is = ap (map outside) (left_is n met out out_is) ∙ (outside_come_in n [] met ∙ noted_alike records cpus met is)

pub left_none : (n : ℕ) (runs : List Run) (records : List Record) (cpus met out : List CpuShown) → met ≡ first_notes records cpus → n ≤ length cpus → AreInside n runs cpus → out ≡ map (with_runs []) (take n met) → All (λ (c : CpuShown). c.part.runs ≡ []) (out ++ drop n met)
left_none n runs records cpus met out is few inside out_is = subst (All (λ (c : CpuShown). c.part.runs ≡ [])) (sym (left_is n met out out_is)) (none_left n met (met_split n runs records cpus met is few inside).others)

-- the boards of CPUs that are alike
pub alike_board : (b d : Board) (xs ys : List CpuShown) → map outside ys ≡ map outside xs → d ≡ b → All (λ (c : CpuShown). c.board ≡ b) xs → All (λ (c : CpuShown). c.board ≡ d) ys
alike_board b d xs ys same board all = alike_boards (λ (c : CpuShown). c.board ≡ d) (λ c h. h) (λ c h. h) xs ys same (subst (λ (x : Board). All (λ (c : CpuShown). c.board ≡ x) xs) (sym board) all)

-- the list that met, that the CPUs left, and that met again
pub same_around : (l one two three : LockedShown) → one ≡ l → SameModules one two → three ≡ two → SameModules l three
same_around l one two three is same again = subst (λ (x : LockedShown). SameModules l x) (sym again) (subst (λ (x : LockedShown). SameModules x two) is same)

pub met_some : (n : ℕ) (records : List Record) (cpus met : List CpuShown) → met ≡ first_notes records cpus → (1 ≤ n) × (n ≤ length cpus) → (1 ≤ n) × (n ≤ length met)
met_some n records cpus met is some = (some.0, omega (arith, some.1, ap length is, length_noted records cpus))
