-- What the keys are bound to stays their own.
use Rattle.std.proofs.Common.{◌≡◌, IfSome, ℕ, suc, ◌+◌, ◌-◌, ◌<◌, arith, replicate, cond, not, eqb, Option, Some, None, Result, Ok, Err, OnOk, OnErr, nat_cmp, refl, sym, ap, ◌∙◌, subst, ⊎_elim}
use Rattle.std.specs.Option.{unwrap_or}
use Rattle.std.specs.FinMap.Entries.{find, put}
use Rattle.std.proofs.lemmas.Bool.{cases_Bool, cond-true, cond-false}
use Rattle.tag_rule.specs.Shown.{Board}
use Rattle.trace_play.proofs.Entries.{find_put, find_kept}
use Rattle.trace_play.specs.Live.{part_key}
use Rattle.round_worker.specs.declared.keys.Kept.{Kept}
use Rattle.round_worker.specs.Kept.{IsKept, KeyList}
use Rattle.round_worker.specs.Parting.{AreKept, with_parts}
use Rattle.round_worker.proofs.KeyLemmas.{never, others}

pub on_ok : {X E A B : Type 0} (r : Result X E) → (A → B) → OnOk r A → OnOk r B
on_ok (Ok x) f a = f a
on_ok (Err e) f a = tt

pub inside_some : {X : Type 0} (x y : X) → Some x ≡ Some y → x ≡ y
inside_some x y e = ap (λ o. unwrap_or o x) e

pub kept_put : (board : Board) (old now : KeyList) (key : ℕ) (kept : Kept) → now ≡ put nat_cmp key kept old → AreKept board old → IsKept board kept → AreKept board now
kept_put board old now key kept is own one q other found =
    let here = eqb q key in
    let there : cond here (Some kept) (find nat_cmp q old) ≡ Some other = sym (ap (λ (es : KeyList). find nat_cmp q es) is ∙ find_put q key kept old) ∙ found in
    ⊎_elim
    (λ yes. subst (IsKept board) (inside_some kept other (sym (cond-true here (Some kept) (find nat_cmp q old) yes) ∙ there)) one)
    (λ no. own q other (sym (cond-false here (Some kept) (find nat_cmp q old) no) ∙ there))
    (cases_Bool here)

-- once it was put, or memory was refused
pub kept_after : {X E : Type 0} (r : Result X E) (board : Board) (old now : KeyList) (key : ℕ) (kept : Kept) → OnOk r (now ≡ put nat_cmp key kept old) → OnErr r (now ≡ old)
    → AreKept board old → IsKept board kept → AreKept board now
kept_after (Ok x) board old now key kept ok err own one = kept_put board old now key kept ok own one
kept_after (Err e) board old now key kept ok err own one = subst (AreKept board) (sym err) own

pub kept_taken : (board : Board) (old now : KeyList) (key : ℕ) → now ≡ others key old → AreKept board old → AreKept board now
kept_taken board old now key is own q other found =
    let left = not (eqb q key) in
    let there : cond left (find nat_cmp q old) None ≡ Some other = sym (ap (λ (es : KeyList). find nat_cmp q es) is ∙ find_kept (λ k. not (eqb k key)) q old) ∙ found in
    ⊎_elim
    (λ yes. own q other (sym (cond-true left (find nat_cmp q old) None yes) ∙ there))
    (λ no. never other (sym (cond-false left (find nat_cmp q old) None no) ∙ there))
    (cases_Bool left)

-- ---- one part more

pub put_next : (key first place count : ℕ) (kept : Kept) (keys now : KeyList) → place < count → now ≡ put nat_cmp (part_key key first place) kept keys
    → with_parts key first (replicate (count - (place + 1)) kept) (place + 1) now ≡ with_parts key first (replicate (count - place) kept) place keys
put_next key first place count kept keys now below is =
    let more : suc (count - (place + 1)) ≡ count - place = omega arith in
    ap (λ (ks : KeyList). with_parts key first (replicate (count - (place + 1)) kept) (place + 1) ks) is
    ∙ ap (λ (n : ℕ). with_parts key first (replicate n kept) place keys) more

pub if_some : {X : Type 0} (o : Option X) (P : X → Type 0) → ((x : X) → o ≡ Some x → P x) → IfSome o P
if_some None P f = tt
if_some (Some x) P f = f x refl
