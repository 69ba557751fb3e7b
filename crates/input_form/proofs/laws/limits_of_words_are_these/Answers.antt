use Rattle.std.proofs.Common.{refl}
use Rattle.text_form.specs.Words.{words_of}
use Rattle.codetag.specs.Names.{is_file_byte, is_function_byte, is_file, is_function}
use Rattle.tag_section.specs.ModuleName.{is_module_byte, is_module_name}
use Rattle.input_form.specs.Words.{number_word}
use Rattle.input_form.specs.Head.{begun, tag_of, added, tag_line}
use Rattle.input_form.proofs.laws.limits_of_words_are_these.Goals as goal

pub returns-clause-keys : goal.returns-clause-keys
unfolding words_of is_file_byte is_function_byte is_file is_function is_module_byte is_module_name number_word begun tag_of added tag_line
returns-clause-keys c = (refl, refl, refl, refl)

pub returns-clause-sections : goal.returns-clause-sections
unfolding words_of is_file_byte is_function_byte is_file is_function is_module_byte is_module_name number_word begun tag_of added tag_line
returns-clause-sections c = (refl, refl)

pub returns-clause-tag_lines : goal.returns-clause-tag_lines
unfolding words_of is_file_byte is_function_byte is_file is_function is_module_byte is_module_name number_word begun tag_of added tag_line
returns-clause-tag_lines c = (refl, refl, refl, refl)
