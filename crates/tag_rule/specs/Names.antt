-- The table of a name for which a call picks none.
use Rattle.std.specs.Prelude.{[]}
use Rattle.tag_rule.specs.Shown.{Board}

abbrev pub no_board : Board
no_board = record {
  table = record { words = 0; slots = 0; views_name = 0; atom = 0; block = 0; offset = 0; slot_names = [] };
  shape = record { cpus = 0; tags = 0; kernel_tags = 0; frames = 0; vectors = 0 };
}
