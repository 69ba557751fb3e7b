-- One more module, and one more CPU.
use Rattle.std.proofs.Common.{◌≡◌, ◌+◌, ◌<◌, ◌≤◌, List, [], ◌∷◌, ◌++◌, length, None, All, sym, ap, ◌∙◌, subst, arith, append_assoc, length-append, false}
use Rattle.std.proofs.lemmas.List.Elements.{All-tail}
use Rattle.tag_model.specs.declared.state.Run.{Run}
use Rattle.tag_rule.specs.Listed.{has_run}
use Rattle.tag_rule.specs.Runs.{with_runs}
use Rattle.tag_rule.specs.Shown.{Board, CpuShown}
use Rattle.module_area.specs.declared.entry.Entry.{Entry}
use Rattle.module_area.specs.declared.entry.State.TheVariants.{Loaded}
use Rattle.reclaim.specs.State.{LockedShown}
use Rattle.round_modules.specs.Inside.{left_runs}
use Rattle.round_modules.specs.Known.{AreLoadedIn, IsLoadedIn, SameModules, runs_of}
use Rattle.round_modules.proofs.Alike.{all_loaded_alike}
use Rattle.round_modules.proofs.CpuLists.{left_first, outside_more, run_short, runs_of_cons}
use Rattle.round_modules.proofs.Members.{Rises, pairs_tail}

-- what a CPU needs that is to come into these modules
pub record MayCome (l : LockedShown) (cpu : CpuShown) (known : List Entry) : Type 0 where
  pub table : cpu.board ≡ l.board
  pub outside : All (λ (e : Entry). has_run e.id cpu.part.runs ≡ false) known
  pub room : length cpu.part.runs + length known ≤ 64
  pub rising : Rises known
  pub loaded : AreLoadedIn l.area.entries known

pub may_come_on : (l m : LockedShown) (cpu mid : CpuShown) (e : Entry) (es known : List Entry) → known ≡ e ∷ es → MayCome l cpu known → mid ≡ with_runs (cpu.part.runs ++ runs_of (e ∷ [])) cpu → SameModules l m → MayCome m mid es
may_come_on l m cpu mid e es known is may mid_is same =
    let all : MayCome l cpu (e ∷ es) = subst (MayCome l cpu) is may in
    let runs : mid.part.runs ≡ cpu.part.runs ++ runs_of (e ∷ []) = ap (λ (c : CpuShown). c.part.runs) mid_is in
    record {
      table = ap (λ (c : CpuShown). c.board) mid_is ∙ (all.table ∙ sym same.board);
      outside = subst (λ (rs : List Run). All (λ (x : Entry). has_run x.id rs ≡ false) es) (sym runs) (outside_more e es cpu.part.runs all.rising (All-tail (λ (x : Entry). has_run x.id cpu.part.runs ≡ false) e es all.outside));
      room = omega (arith, all.room, ap length runs, length-append cpu.part.runs (runs_of (e ∷ [])), run_short e);
      rising = pairs_tail (λ (one : Entry) (other : Entry). one.id < other.id) e es all.rising;
      loaded = all_loaded_alike l.area.entries m.area.entries es same.entries (All-tail (λ (x : Entry). x.state ≡ Loaded → IsLoadedIn l.area.entries x) e es all.loaded);
    }

pub came_on : (cpu mid new : CpuShown) (e : Entry) (es known : List Entry) → known ≡ e ∷ es → mid ≡ with_runs (cpu.part.runs ++ runs_of (e ∷ [])) cpu → new ≡ with_runs (mid.part.runs ++ runs_of es) mid → new ≡ with_runs (cpu.part.runs ++ runs_of known) cpu
came_on cpu mid new e es known is mid_is new_is =
    new_is
    ∙ (ap (λ (c : CpuShown). with_runs (c.part.runs ++ runs_of es) c) mid_is
    ∙ ap (λ (rs : List Run). with_runs rs cpu) (append_assoc cpu.part.runs (runs_of (e ∷ [])) (runs_of es) ∙ ap (λ (rs : List Run). cpu.part.runs ++ rs) (sym (runs_of_cons e es) ∙ ap runs_of (sym is))))

-- ---- out

pub record MayLeave (l : LockedShown) (cpu : CpuShown) (known : List Entry) : Type 0 where
  pub table : cpu.board ≡ l.board
  pub no_hand : cpu.part.hand ≡ None
  pub rising : Rises known
  pub inside : cpu.part.runs ≡ runs_of known

pub may_leave_on : (l m : LockedShown) (cpu mid : CpuShown) (e : Entry) (es known : List Entry) → known ≡ e ∷ es → MayLeave l cpu known → mid ≡ with_runs (left_runs e cpu.part.runs) cpu → SameModules l m → MayLeave m mid es
may_leave_on l m cpu mid e es known is may mid_is same =
    let all : MayLeave l cpu (e ∷ es) = subst (MayLeave l cpu) is may in
    record {
      table = ap (λ (c : CpuShown). c.board) mid_is ∙ (all.table ∙ sym same.board);
      no_hand = ap (λ (c : CpuShown). c.part.hand) mid_is ∙ all.no_hand;
      rising = pairs_tail (λ (one : Entry) (other : Entry). one.id < other.id) e es all.rising;
      inside = ap (λ (c : CpuShown). c.part.runs) mid_is ∙ (ap (left_runs e) all.inside ∙ left_first e es all.rising);
    }

pub left_on : (cpu mid new : CpuShown) (runs : List Run) → mid ≡ with_runs runs cpu → new ≡ with_runs [] mid → new ≡ with_runs [] cpu
left_on cpu mid new runs mid_is new_is = new_is ∙ ap (with_runs []) mid_is

-- ---- the other CPUs

pub boards_on : (b d : Board) (c : CpuShown) (cs cpus : List CpuShown) → cpus ≡ c ∷ cs → d ≡ b → All (λ (x : CpuShown). x.board ≡ b) cpus → All (λ (x : CpuShown). x.board ≡ d) cs
boards_on b d c cs cpus is same all = subst (λ (y : Board). All (λ (x : CpuShown). x.board ≡ y) cs) (sym same) (All-tail (λ (x : CpuShown). x.board ≡ b) c cs (subst (All (λ (x : CpuShown). x.board ≡ b)) is all))

pub rest_on : (P : CpuShown → Type 0) (c : CpuShown) (cs cpus : List CpuShown) → cpus ≡ c ∷ cs → All P cpus → All P cs
rest_on P c cs cpus is all = All-tail P c cs (subst (All P) is all)
