-- All CPUs met the list, those that were inside went out, and all met it again.
use Rattle.std.proofs.Common.{◌≡◌, ℕ, ◌≤◌, List, [], ◌++◌, map, take, drop, length, All, sym, ◌∙◌, subst}
use Rattle.tag_rule.specs.Meeting.{AreMet, first_notes}
use Rattle.tag_rule.specs.Runs.{with_runs}
use Rattle.tag_rule.specs.Shown.{CpuShown}
use Rattle.module_area.specs.declared.entry.Entry.{Entry}
use Rattle.reclaim.specs.State.{IsLocked, LockedShown, part_of}
use Rattle.round_modules.specs.Inside.{AreInside, AreNoted, outside}
use Rattle.round_modules.specs.Known.{AreAsKnown, AreLoadedIn, SameModules, runs_of}
use Rattle.round_modules.proofs.Alike.{all_loaded_alike, as_known_alike}
use Rattle.round_modules.proofs.CpuLists.{none_noted}
use Rattle.round_modules.proofs.Knows.{noted_more}
use Rattle.round_modules.proofs.Leaves.{left_alike, left_none, met_inside, met_some, noted_alike, same_around}
use Rattle.round_modules.proofs.Told.{known_told, loaded_told, users_told}

-- The modules that stay loaded are loaded in the list too, and what the list has of a known module is as it is known.
pub record AreGone (l out : LockedShown) (xs ys : List CpuShown) (known : List Entry) : Type 0 where
  pub same : SameModules l out
  pub alike : map outside ys ≡ map outside xs
  pub none : All (λ (c : CpuShown). c.part.runs ≡ []) ys
  pub users : All (λ (e : Entry). e.users ≡ 0) out.area.entries
  pub loaded : AreLoadedIn out.area.entries known
  pub as_known : AreAsKnown out.area.entries known

-- the list and the CPUs before, once they met, once the first so many are out, and once they met again
pub are_gone : {n next then_next : ℕ} {l one two out : LockedShown} {xs met left ys : List CpuShown} {known : List Entry}
    → IsLocked l → (1 ≤ n) × (n ≤ length xs) → AreInside n (runs_of known) xs → AreNoted known xs
    → one ≡ l → met ≡ first_notes (part_of l).records xs → AreMet l.board.shape (part_of l) next met
    → left ≡ map (with_runs []) (take n met) → SameModules one two
    → out ≡ two → ys ≡ first_notes (part_of two).records (left ++ drop n met) → AreMet two.board.shape (part_of two) then_next ys
    → AreGone l out xs ys known
are_gone {n} {next} {then_next} {l} {one} {two} {out} {xs} {met} {left} {ys} {known} ok some inside noted one_is met_is told left_is kept out_is ys_is told_then =
    let same = same_around l one two out one_is kept out_is in
    let none = subst (All (λ (c : CpuShown). c.part.runs ≡ [])) (sym ys_is) (none_noted (part_of two).records _ (left_none n (runs_of known) (part_of l).records xs met left met_is some.1 inside left_is)) in
    record {
      same = same;
      alike = noted_alike (part_of two).records _ ys ys_is ∙ left_alike n (part_of l).records xs met left met_is left_is;
      none = none;
      users = subst (λ (x : LockedShown). All (λ (e : Entry). e.users ≡ 0) x.area.entries) (sym out_is) (users_told two.board.shape two then_next ys told_then none);
      loaded = all_loaded_alike l.area.entries out.area.entries known same.entries
          (loaded_told l.board.shape l next n known met ok.book.rising told (met_some n (part_of l).records xs met met_is some) (met_inside n (runs_of known) (part_of l).records xs met met_is inside));
      as_known = as_known_alike l.area.entries out.area.entries known same.entries
          (known_told l.board.shape l next known met told (subst (AreNoted known) (sym met_is) (noted_more known (part_of l).records xs noted)));
    }
