-- What a code tag says, and its text.
use Rattle.std.specs.Prelude.{ℕ, List, ◌++◌, Option, Some, None, codes, decimal}
use Rattle.codetag.specs.Names.{IsFile, IsLine, IsFunction}

-- the parts of a code tag: the place in the source, and the function around it
pub record TagParts : Type 0 where
  pub file : List ℕ
  pub line : ℕ
  pub function : List ℕ

-- each part is of its form
pub record IsFormed (tag : TagParts) : Type 0 where
  pub file : IsFile tag.file
  pub line : IsLine tag.line
  pub function : IsFunction tag.function

-- `file:line func:function`, or `file:line [module] func:function`
unfoldable pub tag_text : TagParts → Option (List ℕ) → List ℕ
tag_text tag None = tag.file ++ codes ":" ++ decimal tag.line ++ codes " func:" ++ tag.function
tag_text tag (Some module_name) =
    tag.file ++ codes ":" ++ decimal tag.line ++ codes " [" ++ module_name ++ codes "] func:" ++ tag.function

-- `file:line [module:kept] func:function`
unfoldable pub kept_text : TagParts → List ℕ → List ℕ
kept_text tag module_name =
    tag.file ++ codes ":" ++ decimal tag.line ++ codes " [" ++ module_name ++ codes ":kept] func:" ++ tag.function
