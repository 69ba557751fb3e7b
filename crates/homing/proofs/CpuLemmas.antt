-- A CPU's words, and the moves of another CPU.
use Rattle.std.proofs.Common.{◌≡◌, ◌≢◌, ℕ, zero, suc, ◌<◌, Bool, true, false, cond, eqb, List, [], ◌∷◌, ◌++◌, length, map, set, get_or, Option, Some, None, refl, ap, ◌∙◌, ne_eqb, arith}
use Rattle.std.proofs.lemmas.Bool.{cond-false}
use Rattle.round_worker.proofs.Rounds.{moved_by_both}
use Rattle.tag_model.specs.declared.state.Held.{Held}
use Rattle.tag_model.specs.declared.state.Held.TheVariants as held
use Rattle.tag_model.specs.declared.state.Kind.TheVariants.{Bytes, Calls}
use Rattle.tag_model.specs.Moves.{Move}
use Rattle.tag_model.specs.RefMoves.{close_moves, lowers, words_after_move, words_after_moves}
use Rattle.tag_rule.specs.Shown.{CpuShown}
use Rattle.tag_ref.specs.Refs.{moved_by}
use Rattle.slab_cache.specs.Slabs.{Slab, NodeState, is_used, slab_at, slab_held, with_place}
use Rattle.slab_cache.specs.Storage.{Storage, Pages, Object, Uncounted}
use Rattle.slab_cache.specs.Homing.{Taken, come_home, place_home, slab_left}

-- ---- moves of another CPU

module _ (cpu : ℕ) where
  one_elsewhere : (words : List ℕ) (move : Move) → move.cpu ≢ cpu → words_after_move cpu words move ≡ words
  one_elsewhere words move other = cond-false (eqb move.cpu cpu) _ words (ne_eqb move.cpu cpu other)

  close_elsewhere : (own : ℕ) (h : Held) (words : List ℕ) → own ≢ cpu → words_after_moves cpu words (close_moves own h) ≡ words
  close_elsewhere own held.None words other = refl
  close_elsewhere own held.Empty words other = refl
  close_elsewhere own (held.Counted tag size) words other =
      one_elsewhere (words_after_move cpu words (lowers own Bytes tag size)) (lowers own Calls tag 1) other ∙ one_elsewhere words (lowers own Bytes tag size) other

  slab_elsewhere : (frame : ℕ) (node : NodeState) (slab : Slab) (words : List ℕ) → node.node.cpu ≢ cpu → words_after_moves cpu words (slab_left frame node slab).moves ≡ words
  slab_elsewhere frame node slab words other = by (is_used slab) _ _ refl (close_elsewhere node.node.cpu (slab_held slab.class) words other)
    where
      by : (used : Bool) (a b : Taken) → words_after_moves cpu words a.moves ≡ words → words_after_moves cpu words b.moves ≡ words → words_after_moves cpu words (cond {A = Taken} used a b).moves ≡ words
      by true a b p q = p
      by false a b p q = q

  place_elsewhere : (frame place : ℕ) (node : NodeState) (slab : Option Slab) (words : List ℕ) → node.node.cpu ≢ cpu → words_after_moves cpu words (place_home frame place node slab).moves ≡ words
  place_elsewhere frame place node None words other = refl
  place_elsewhere frame place node (Some slab) words other = slab_elsewhere frame node (with_place false place slab) words other

  home_elsewhere : (given : Storage) (node : NodeState) (words : List ℕ) → node.node.cpu ≢ cpu → words_after_moves cpu words (come_home given node).moves ≡ words
  home_elsewhere (Pages block) node words other = refl
  home_elsewhere (Object home frame place vector holds) node words other = place_elsewhere frame place node (slab_at frame node) words other
  home_elsewhere (Uncounted home frame place) node words other = place_elsewhere frame place node (slab_at frame node) words other

pub still_elsewhere : (given : Storage) (node : NodeState) (seat : CpuShown) → node.node.cpu ≢ seat.part.number → moved_by (come_home given node).moves seat ≡ seat
still_elsewhere given node seat other = ap (λ (words : List ℕ). record seat { part = record seat.part { words = words } }) (home_elsewhere seat.part.number given node seat.part.words other)

-- ---- moves behind others

pub all_moved_by_both : (one two : List Move) (cpus : List CpuShown) → map (moved_by (one ++ two)) cpus ≡ map (moved_by two) (map (moved_by one) cpus)
all_moved_by_both one two [] = refl
all_moved_by_both one two (seat ∷ cpus) =
    ap (λ (s : CpuShown). s ∷ map (moved_by (one ++ two)) cpus) (moved_by_both one two seat) ∙ ap (λ (rest : List CpuShown). moved_by two (moved_by one seat) ∷ rest) (all_moved_by_both one two cpus)

pub none_moved : (cpus : List CpuShown) → map (moved_by []) cpus ≡ cpus
none_moved [] = refl
none_moved (seat ∷ cpus) = ap (λ (rest : List CpuShown). seat ∷ rest) (none_moved cpus)

-- ---- a function that changes one of a list

all_still : {A : Type 0} (f : A → A) (xs : List A) (d : A) → ((i : ℕ) → i < length xs → f (get_or xs i d) ≡ get_or xs i d) → map f xs ≡ xs
all_still f [] d same = refl
all_still f (x ∷ xs) d same = ap (λ y. y ∷ map f xs) (same 0 (omega arith)) ∙ ap (λ ys. x ∷ ys) (all_still f xs d (λ i low. same (suc i) (omega arith)))

pub one_changes : {A : Type 0} (f : A → A) (xs : List A) (i : ℕ) (d : A) → i < length xs → ((j : ℕ) → j < length xs → j ≢ i → f (get_or xs j d) ≡ get_or xs j d) → map f xs ≡ set xs i (f (get_or xs i d))
one_changes f [] i d low same = absurd (omega arith)
one_changes f (x ∷ xs) zero d low same = ap (λ ys. f x ∷ ys) (all_still f xs d (λ j below. same (suc j) (omega arith) (λ e. absurd (omega (arith, e)))))
one_changes f (x ∷ xs) (suc i) d low same =
    ap (λ y. y ∷ map f xs) (same 0 (omega arith) (λ e. absurd (omega (arith, e))))
    ∙ ap (λ ys. x ∷ ys) (one_changes f xs i d (omega arith) (λ j below other. same (suc j) (omega arith) (λ e. other (omega (arith, e)))))
