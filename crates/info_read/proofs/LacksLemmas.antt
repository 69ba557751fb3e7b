-- Bytes that words of a form don't have.
use Rattle.std.proofs.Common.{◌≡◌, ℕ, zero, suc, ◌-◌, Bool, true, false, not, eqb, leb, ◌&&◌, List, [], ◌∷◌, ◌++◌, length, replicate, refl, subst}
use Rattle.std.specs.List.{list_all}
use Rattle.std.proofs.lemmas.Bool.{and_parts, eqb-true, false_from_ne_true, both_ways}
use Rattle.std.specs.Str.{bytes_eq}
use Rattle.codetag.specs.declared.names.TheConstants.{FILE_LIMIT, FUNCTION_LIMIT}
use Rattle.codetag.specs.Names.{is_file_byte, is_function_byte, is_file, is_function}
use Rattle.tag_section.specs.declared.module_name.TheConstants.{NAME_LIMIT}
use Rattle.tag_section.specs.ModuleName.{kernel_name, is_module_byte, is_module_name}
use Rattle.allocinfo.specs.Text.{right}
use Rattle.info_read.proofs.CutLemmas.{Lacks}

pub lacks_by_test : (p : ℕ → Bool) (mark : ℕ) (word : List ℕ) → p mark ≡ false → list_all p word ≡ true → Lacks mark word
lacks_by_test p mark [] out all = tt
lacks_by_test p mark (b ∷ bs) out all =
    let parts = and_parts (p b) (list_all p bs) all in
    (false_from_ne_true (eqb b mark) (λ same. both_ways (p mark) out (subst (λ x. p x ≡ true) (eqb-true b mark same) parts.0)), lacks_by_test p mark bs out parts.1)

pub Lacks-append : (mark : ℕ) (xs ys : List ℕ) → Lacks mark xs → Lacks mark ys → Lacks mark (xs ++ ys)
Lacks-append mark [] ys l r = r
Lacks-append mark (x ∷ xs) ys l r = (l.0, Lacks-append mark xs ys l.1 r)

lacks_spaces : (mark : ℕ) (n : ℕ) → eqb 32 mark ≡ false → Lacks mark (replicate n 32)
lacks_spaces mark zero out = tt
lacks_spaces mark (suc n) out = (out, lacks_spaces mark n out)

pub lacks_right : (mark places : ℕ) (word : List ℕ) → eqb 32 mark ≡ false → Lacks mark word → Lacks mark (right places word)
lacks_right mark places word out lacks = Lacks-append mark (replicate (places - length word) 32) word (lacks_spaces mark (places - length word) out) lacks

module _ (mark : ℕ) (word : List ℕ) where
  pub lacks_file : is_file_byte mark ≡ false → is_file word ≡ true → Lacks mark word
  unfolding is_file
  lacks_file out formed = lacks_by_test is_file_byte mark word out (and_parts (leb 1 (length word) && leb (length word) FILE_LIMIT) (list_all is_file_byte word) formed).1

  pub lacks_function : is_function_byte mark ≡ false → is_function word ≡ true → Lacks mark word
  unfolding is_function
  lacks_function out formed = lacks_by_test is_function_byte mark word out (and_parts (leb 1 (length word) && leb (length word) FUNCTION_LIMIT) (list_all is_function_byte word) formed).1

  pub lacks_module : is_module_byte mark ≡ false → is_module_name word ≡ true → Lacks mark word
  unfolding is_module_name
  lacks_module out formed =
      let short = leb 1 (length word) && leb (length word) NAME_LIMIT in
      let letters = and_parts (short && list_all is_module_byte word) (not (bytes_eq word kernel_name)) formed in
      lacks_by_test is_module_byte mark word out (and_parts short (list_all is_module_byte word) letters.0).1

-- the separators are no bytes of names
pub file_colon : is_file_byte 58 ≡ false
unfolding is_file_byte
file_colon = refl

pub file_newline : is_file_byte 10 ≡ false
unfolding is_file_byte
file_newline = refl

pub function_space : is_function_byte 32 ≡ false
unfolding is_function_byte
function_space = refl

pub function_newline : is_function_byte 10 ≡ false
unfolding is_function_byte
function_newline = refl

pub module_colon : is_module_byte 58 ≡ false
unfolding is_module_byte
module_colon = refl

pub module_bracket : is_module_byte 93 ≡ false
unfolding is_module_byte
module_bracket = refl

pub module_newline : is_module_byte 10 ≡ false
unfolding is_module_byte
module_newline = refl
