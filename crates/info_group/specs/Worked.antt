-- A worked text of allocinfo, and its groups.
use Rattle.std.specs.Prelude.{ℕ, Result, Ok, Err, List, ◌++◌, codes}
use Rattle.allocinfo.specs.Text.{header_text}
use Rattle.info_read.specs.declared.row.InfoRow.{InfoRow}
use Rattle.info_read.specs.Reading.{rows_of}
use Rattle.info_group.specs.Grouping.{groups_of}
use Rattle.info_group.specs.Text.{groups_text}

abbrev pub text_by : (InfoRow → List ℕ) → Result (List InfoRow) ℕ → Result (List ℕ) ℕ
text_by key (Ok rows) = Ok (groups_text (groups_of key rows))
text_by key (Err line) = Err line

-- the text of the groups by a key, or the line that is refused
abbrev pub grouped : (InfoRow → List ℕ) → List ℕ → Result (List ℕ) ℕ
grouped key text = text_by key (rows_of text)

-- two rows of one file, one of them below 0; a kept row; a row at 0
abbrev pub four_rows : List ℕ
four_rows =
    header_text
    ++ codes "         -32        1 fs/ext4/b.c:12 [ext4] func:ext4_b \n"
    ++ codes "        2048        1 fs/ext4/a.c:11 [ext4:kept] func:ext4_a \n"
    ++ codes "           8 18446744073709551615 fs/ext4/b.c:13 [ext4] func:ext4_c \n"
    ++ codes "           0        0 mm/a.c:1 func:fa \n"
