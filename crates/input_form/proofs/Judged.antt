-- What holds of what judging gives, check by check.
use Rattle.std.proofs.Common.{◌≡◌, ℕ, Bool, true, false, cond, Option, Some, None, Result, Ok, Err, IfOk, IfSome, refl}
use Rattle.std.specs.Option.{ok_or}
use Rattle.input_form.specs.declared.code.Code.{Code}
use Rattle.input_form.specs.Judging.{◌>>=◌, ◌>>◌, need, at}

-- a part that gives a value
pub bound : {A B E : Type 0} (Q : A → Type 0) (P : B → Type 0) (r : Result A E) (f : A → Result B E) → IfOk r Q → ((x : A) → Q x → IfOk (f x) P) → IfOk (r >>= f) P
bound Q P (Ok x) f here after = after x here
bound Q P (Err e) f here after = tt

-- a part that gives a value, whatever it is
pub given : {A B E : Type 0} (P : B → Type 0) (r : Result A E) (f : A → Result B E) → ((x : A) → IfOk (f x) P) → IfOk (r >>= f) P
given P (Ok x) f after = after x
given P (Err e) f after = tt

-- a part that gives none
pub passed : {A B E : Type 0} {Q : Type 0} (P : B → Type 0) (r : Result A E) (s : Result B E) → IfOk r (λ _. Q) → (Q → IfOk s P) → IfOk (r >> s) P
passed P (Ok x) s here after = after here
passed P (Err e) s here after = tt

-- a part that gives none, and says nothing
pub skipped : {A B E : Type 0} (P : B → Type 0) (r : Result A E) (s : Result B E) → IfOk s P → IfOk (r >> s) P
skipped P (Ok x) s after = after
skipped P (Err e) s after = tt

-- a check
pub checked : {B : Type 0} (P : B → Type 0) (b : Bool) (code : Code) (s : Result B Code) → (b ≡ true → IfOk s P) → IfOk (need b code >> s) P
checked P true code s after = after refl
checked P false code s after = tt

-- a check at the end
pub checks : {Q : Type 0} (b : Bool) (code : Code) → (b ≡ true → Q) → IfOk (need b code) (λ _. Q)
checks true code is = is refl
checks false code is = tt

-- the same with the line's number
pub numbered : {A : Type 0} (P : A → Type 0) (number : ℕ) (r : Result A Code) → IfOk r P → IfOk (at number r) P
numbered P number (Ok x) here = here
numbered P number (Err code) here = tt

-- one of two parts
pub either : {A E : Type 0} (P : A → Type 0) (b : Bool) (r s : Result A E) → IfOk r P → IfOk s P → IfOk (cond b r s) P
either P true r s one other = one
either P false r s one other = other

-- a value that is there
pub from_some : {A : Type 0} (P : A → Type 0) (o : Option A) (code : Code) → IfSome o P → IfOk (ok_or o code) P
from_some P None code h = tt
from_some P (Some x) code h = h

-- what a judgement that gave a value went through
pub bind_ok : {A B E : Type 0} (r : Result A E) (f : A → Result B E) (x : B) → (r >>= f) ≡ Ok x → (y : A) × (r ≡ Ok y) × (f y ≡ Ok x)
bind_ok (Ok y) f x e = (y, refl, e)
bind_ok (Err d) f x e = let no : ⊥ = cc in absurd no

pub at_ok : {A : Type 0} (number : ℕ) (r : Result A Code) (x : A) → at number r ≡ Ok x → r ≡ Ok x
at_ok number (Ok y) x e = cc
at_ok number (Err code) x e = let no : ⊥ = cc in absurd no

-- a weaker statement of the same
pub weaker : {A E : Type 0} (Q P : A → Type 0) (r : Result A E) → ((x : A) → Q x → P x) → IfOk r Q → IfOk r P
weaker Q P (Ok x) more h = more x h
weaker Q P (Err e) more h = tt
