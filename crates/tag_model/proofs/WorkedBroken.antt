-- Where one thing in the worked state is other than it is, it isn't safe.
use Rattle.std.proofs.Common.{true, inl, inr, arith, [], ◌∷◌}
use Rattle.tag_model.specs.declared.state.Held.TheVariants as held
use Rattle.tag_model.specs.declared.state.Kind.TheVariants.{Bytes, Calls}
use Rattle.tag_model.specs.declared.state.Part.TheVariants.{Place}
use Rattle.tag_model.specs.declared.state.Sweep.TheVariants as sweep
use Rattle.tag_model.specs.Laws.{Safe}
use Rattle.tag_model.specs.Worked.{at_second, dead_tag, first_cpu, first_module, freeing, kernel_tag, note_of_dead, run_inside, second_cpu, second_module, small_list, small_places, small_shape, state_of, with_hand, with_note, with_places, with_records, with_sweep}

pub another_section : Safe small_shape (with_note (record note_of_dead { section = 1 })) → ⊥
another_section safe = omega (arith, safe.cover.notes_agree (record note_of_dead { section = 1 }) (omega arith))

pub another_start : Safe small_shape (with_note (record note_of_dead { start = 2 })) → ⊥
another_start safe = omega (arith, safe.cover.notes_agree (record note_of_dead { start = 2 }) (omega arith))

pub another_length : Safe small_shape (with_note (record note_of_dead { length = 1 })) → ⊥
another_length safe = omega (arith, safe.cover.notes_agree (record note_of_dead { length = 1 }) (omega arith))

pub dead_but_loaded : Safe small_shape (with_note (record { id = 1; section = 1; start = 2; length = 2; seen_dead = true })) → ⊥
dead_but_loaded safe = omega (arith, safe.cover.notes_agree (record { id = 1; section = 1; start = 2; length = 2; seen_dead = true }) (omega arith))

pub not_given : Safe small_shape (with_note (record note_of_dead { id = 3 })) → ⊥
not_given safe = omega (arith, safe.cover.notes_known (record note_of_dead { id = 3 }) (omega arith))

pub no_record : Safe small_shape (with_places (Place 0 (held.Counted (record dead_tag { «module» = 3 }) 64) ∷ Place 1 (held.Counted kernel_tag 8) ∷ [])) → ⊥
no_record safe = elim (safe.cover.named (record dead_tag { «module» = 3 }) (omega arith)) [ inl kernel ↦ omega (arith, kernel.0, kernel.1) | inr there ↦ omega (arith, there) ]

pub another_range : Safe small_shape (with_places (Place 0 (held.Counted (record dead_tag { «module» = 1 }) 64) ∷ Place 1 (held.Counted kernel_tag 8) ∷ [])) → ⊥
another_range safe = elim (safe.cover.named (record dead_tag { «module» = 1 }) (omega arith)) [ inl kernel ↦ omega (arith, kernel.0, kernel.1) | inr there ↦ omega (arith, there) ]

pub no_kernel_tag : Safe small_shape (with_places (Place 0 (held.Counted (record dead_tag { «module» = 0 }) 64) ∷ Place 1 (held.Counted kernel_tag 8) ∷ [])) → ⊥
no_kernel_tag safe = elim (safe.cover.named (record dead_tag { «module» = 0 }) (omega arith)) [ inl kernel ↦ omega (arith, kernel.0, kernel.1) | inr there ↦ omega (arith, there) ]

pub hand : Safe small_shape (with_hand (record freeing { tag = record dead_tag { «module» = 1 } })) → ⊥
hand safe = elim (safe.cover.named (record dead_tag { «module» = 1 }) (omega arith)) [ inl kernel ↦ omega (arith, kernel.0) | inr there ↦ omega (arith, there) ]

pub opening : Safe small_shape (with_hand (record freeing { opening = true })) → ⊥
opening safe = omega (arith, safe.fits)

pub run_on_dead : Safe small_shape (with_records (record first_module { dead = true } ∷ second_module ∷ [])) → ⊥
run_on_dead safe = omega (arith, safe.cover.runs run_inside (omega arith))

pub run_on_another_range : Safe small_shape (state_of (record first_cpu { runs = record run_inside { length = 1 } ∷ [] }) second_cpu small_places small_list) → ⊥
run_on_another_range safe = omega (arith, safe.cover.runs (record run_inside { length = 1 }) (omega arith))

pub another_user : Safe small_shape (with_records (record first_module { users = 2 } ∷ second_module ∷ [])) → ⊥
another_user safe = omega (arith, safe.cover.users 1)

pub ranges_overlap : Safe small_shape (with_records (record first_module { length = 3 } ∷ second_module ∷ [])) → ⊥
ranges_overlap safe = omega (arith, safe.cover.ranges_apart 4)

pub an_id_twice : Safe small_shape (with_records (first_module ∷ record second_module { id = 1 } ∷ [])) → ⊥
an_id_twice safe = omega (arith, safe.cover.ids_apart 1)

pub not_below_next : Safe small_shape (with_records (first_module ∷ record second_module { id = 3 } ∷ [])) → ⊥
not_below_next safe = omega (arith, safe.cover.ids_below_next)

pub a_byte_more : Safe small_shape (with_places (Place 0 (held.Counted dead_tag 65) ∷ Place 1 (held.Counted kernel_tag 8) ∷ [])) → ⊥
a_byte_more safe = omega (arith, safe.sums.sums Bytes 4)

pub a_call_less : Safe small_shape (with_places (Place 1 (held.Counted kernel_tag 8) ∷ [])) → ⊥
a_call_less safe = omega (arith, safe.sums.sums Calls 4)

pub sum_too_low : Safe small_shape (with_sweep (sweep.Reading (2 ∷ []) (record at_second { sum = 40 }))) → ⊥
sum_too_low safe = omega (arith, safe.sweep.reading Bytes (omega arith))

pub done_too_early : Safe small_shape (with_sweep (sweep.Done (2 ∷ []))) → ⊥
done_too_early safe = omega (arith, safe.sweep.cleared Calls 4 (omega arith))

pub calls_too_early : Safe small_shape (with_sweep (sweep.Reading (2 ∷ []) (record at_second { pass = Calls; sum = 2 }))) → ⊥
calls_too_early safe = omega (arith, safe.sweep.cleared Bytes 4 (omega arith))

pub past_the_tag : Safe small_shape (with_sweep (sweep.Reading (2 ∷ []) (record at_second { tag = 5; cpu = 0; sum = 0 }))) → ⊥
past_the_tag safe = omega (arith, safe.sweep.cleared Bytes 4 (omega arith))

pub lists_the_loaded : Safe small_shape (with_sweep (sweep.Reading (1 ∷ []) (record at_second { id = 1; tag = 2; sum = 0 }))) → ⊥
lists_the_loaded safe = omega (arith, safe.sweep.fits)
