-- The worked traces, computed.
use Rattle.std.proofs.Common.{◌≡◌, None, Some, refl, codes}
use Rattle.std.specs.Fmt.{digits}
use Rattle.text_form.specs.Lines.{lines_of, tail_of}
use Rattle.text_form.specs.Words.{words_of}
use Rattle.codetag.specs.Names.{is_file_byte, is_function_byte, is_file, is_function}
use Rattle.codetag.specs.TagParts.{tag_text, kept_text}
use Rattle.tag_section.specs.ModuleName.{is_module_byte, is_module_name}
use Rattle.allocinfo.specs.Text.{place_text, row_text}
use Rattle.allocinfo.specs.Rank.{inserted, ranked}
use Rattle.input_form.specs.Forms.{line_form, tail_form, is_skipped, first_line}
use Rattle.trace.specs.TraceGrammar.{trace_op, on_line}
use Rattle.input_form.specs.Words.{is_word, number_word, cpu_word}
use Rattle.input_form.specs.Head.{head_line, head_word, size_line, kernel_line, section_form, begun, module_line, tag_of, added, tag_line}
use Rattle.trace.specs.TraceWords.{trace_keyword, on_name}
use Rattle.input_form.specs.Places.{module_word, tag_word}
use Rattle.trace.specs.TraceReading.{print_line, trace_header, trace_of}
use Rattle.input_form.specs.Reading.{body_line, judged_line, word_line}
use Rattle.trace_play.specs.Printed.{area_text, areas_text}
use Rattle.trace_play.specs.Play.{done_text}
use Rattle.trace_play.specs.Answer.{run_answer, told, refusal_text}
use Rattle.input_form.specs.Codes.{code_text}
use Rattle.round_check.specs.Cpus.{idle_cpus}
use Rattle.round_check.specs.Tables.{unbound_keys, absent_modules}
use Rattle.round_check.specs.Keys.{own_key, bound_key, free_key, take_key, give_key, part_keys, split_key, swap_keys, trim_key}
use Rattle.round_check.specs.Walk.{enter_module, leave_module, unload_module, hook_tag, unhook_tag, load_module, walk_op, walk_item, rounds_of}
use Rattle.trace_play.specs.Left.{held_at}
use Rattle.tag_model.specs.Index.{page_index, program_shape}
use Rattle.tag_model.specs.Moves.{moved_word}
use Rattle.tag_model.specs.declared.state.Held.TheVariants as held
use Rattle.tag_model.specs.declared.state.Kind.TheVariants.{Bytes, Calls}
use Rattle.trace_play.specs.Rows.{empty_mark_free, empty_mark_free_text, freed_twice, kept_range_bars_load, kept_rows_printed, kept_rows_printed_text, nested_hooks, nested_hooks_text, no_frames, no_frames_text, no_vectors, no_vectors_text, range_given_again, range_given_again_text, shared_key, slab_and_object, slab_and_object_text, storage_home_at_barrier, storage_home_at_barrier_text, swapped_references, swapped_references_text, swapped_unequal, top_one_text, two_file_systems, two_file_systems_text}

abbrev pub TheseArePrinted : Type 0
TheseArePrinted =
    (told (run_answer None slab_and_object) ≡ (0, slab_and_object_text))
    × (told (run_answer (Some 1) slab_and_object) ≡ (0, top_one_text))
    × (told (run_answer None storage_home_at_barrier) ≡ (0, storage_home_at_barrier_text))
    × (told (run_answer None no_vectors) ≡ (0, no_vectors_text))
    × (told (run_answer None kept_range_bars_load) ≡ (1, codes "line 19: no-room\n"))
    × (told (run_answer None range_given_again) ≡ (0, range_given_again_text))
    × (told (run_answer None empty_mark_free) ≡ (0, empty_mark_free_text))
    × (told (run_answer None freed_twice) ≡ (1, codes "line 11: no-key 1\n"))
    × (told (run_answer None nested_hooks) ≡ (0, nested_hooks_text))
    × (told (run_answer None no_frames) ≡ (0, no_frames_text))
    × (told (run_answer None swapped_references) ≡ (0, swapped_references_text))
    × (told (run_answer None swapped_unequal) ≡ (1, codes "line 10: orders\n"))
    × (told (run_answer None shared_key) ≡ (1, codes "line 8: shared-key 1\n"))
    × (told (run_answer None two_file_systems) ≡ (0, two_file_systems_text))
    × (told (run_answer None kept_rows_printed) ≡ (0, kept_rows_printed_text))

pub these_are_printed : TheseArePrinted
unfolding digits lines_of tail_of words_of is_file_byte is_function_byte is_file is_function tag_text kept_text is_module_byte is_module_name place_text row_text inserted ranked line_form tail_form is_skipped first_line trace_op on_line is_word number_word cpu_word head_line size_line kernel_line section_form begun module_line tag_of added tag_line trace_keyword head_word on_name module_word tag_word print_line body_line word_line judged_line trace_header trace_of area_text areas_text done_text run_answer refusal_text code_text idle_cpus unbound_keys absent_modules own_key bound_key free_key take_key give_key part_keys split_key swap_keys trim_key enter_module leave_module unload_module hook_tag unhook_tag load_module walk_op walk_item rounds_of empty_mark_free empty_mark_free_text freed_twice kept_range_bars_load kept_rows_printed kept_rows_printed_text nested_hooks nested_hooks_text no_frames no_frames_text no_vectors no_vectors_text range_given_again range_given_again_text shared_key slab_and_object slab_and_object_text storage_home_at_barrier storage_home_at_barrier_text swapped_references swapped_references_text swapped_unequal top_one_text two_file_systems two_file_systems_text
these_are_printed = (refl, refl, refl, refl, refl, refl, refl, refl, refl, refl, refl, refl, refl, refl, refl)

abbrev pub TheseAreLeft : Type 0
TheseAreLeft =
    (moved_word (run_answer None storage_home_at_barrier).machine.tally.moves 0 Bytes 1 ≡ 32768)
    × (moved_word (run_answer None storage_home_at_barrier).machine.tally.moves 0 Calls 1 ≡ 2)
    × (moved_word (run_answer None storage_home_at_barrier).machine.tally.moves 1 Bytes 1 ≡ 18446744073709535232)
    × (moved_word (run_answer None storage_home_at_barrier).machine.tally.moves 1 Calls 1 ≡ 18446744073709551615)
    × (held_at program_shape (run_answer None storage_home_at_barrier).machine (page_index program_shape 0 0) ≡ held.Counted (record { number = 1; «module» = 0 }) 16384)
    × (held_at program_shape (run_answer None storage_home_at_barrier).machine (page_index program_shape 0 1) ≡ held.None)

pub these_are_left : TheseAreLeft
unfolding digits lines_of tail_of words_of is_file_byte is_function_byte is_file is_function tag_text kept_text is_module_byte is_module_name place_text row_text inserted ranked line_form tail_form is_skipped first_line trace_op on_line is_word number_word cpu_word head_line size_line kernel_line section_form begun module_line tag_of added tag_line trace_keyword head_word on_name module_word tag_word print_line body_line word_line judged_line trace_header trace_of area_text areas_text done_text run_answer refusal_text code_text idle_cpus unbound_keys absent_modules own_key bound_key free_key take_key give_key part_keys split_key swap_keys trim_key enter_module leave_module unload_module hook_tag unhook_tag load_module walk_op walk_item rounds_of storage_home_at_barrier
these_are_left = (refl, refl, refl, refl, refl, refl)
