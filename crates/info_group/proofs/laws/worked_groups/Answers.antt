use Rattle.std.proofs.Common.{refl}
use Rattle.std.specs.Fmt.{digits}
use Rattle.codetag.specs.Names.{is_file, is_file_byte, is_function, is_function_byte}
use Rattle.tag_section.specs.ModuleName.{is_module_byte, is_module_name}
use Rattle.text_form.specs.Lines.{lines_of, tail_of}
use Rattle.info_read.specs.Cuts.{unpadded}
use Rattle.info_read.specs.Line.{formed_name, formed_row, formed_tag, parts_of, row_of}
use Rattle.info_read.specs.Place.{bracket_of, inside_of, label_of, last_word, place_of}
use Rattle.info_read.specs.Reading.{rows_of}
use Rattle.info_group.specs.Text.{group_text}
use Rattle.info_group.proofs.laws.worked_groups.Goals as goal

pub returns-clause-files : goal.returns-clause-files
unfolding lines_of tail_of rows_of row_of parts_of formed_row formed_tag formed_name place_of last_word bracket_of inside_of label_of unpadded is_file is_file_byte is_function is_function_byte is_module_name is_module_byte group_text digits
returns-clause-files c = refl

pub returns-clause-modules : goal.returns-clause-modules
unfolding lines_of tail_of rows_of row_of parts_of formed_row formed_tag formed_name place_of last_word bracket_of inside_of label_of unpadded is_file is_file_byte is_function is_function_byte is_module_name is_module_byte group_text digits
returns-clause-modules c = refl

pub returns-clause-refused : goal.returns-clause-refused
unfolding lines_of tail_of rows_of row_of parts_of formed_row formed_tag formed_name place_of last_word bracket_of inside_of label_of unpadded is_file is_file_byte is_function is_function_byte is_module_name is_module_byte group_text digits
returns-clause-refused c = refl
