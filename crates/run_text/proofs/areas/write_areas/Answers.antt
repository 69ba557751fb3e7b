use Rattle.std.proofs.Common.{◌≡◌, ◌++◌, ◌∙◌, ℕ, List, OnOk, Result, Ok, Err, ap, refl, sym}
use Rattle.module_area.specs.declared.entry.Entry.{Entry}
use Rattle.tag_section.specs.Section.{Section}
use Rattle.trace_play.specs.Machine.{Machine}
use Rattle.trace_play.specs.Printed.{areas_text}
use Rattle.run_text.specs.Lines.{area_lines}
use Rattle.run_text.proofs.areas.write_areas.Goals as goal

of_machine : (sections : List Section) (m : Machine) → areas_text sections m ≡ area_lines sections m.area.entries
unfolding area_lines areas_text
of_machine sections m = refl

of_any : {E : Type 0} (r : Result (Unit {0}) E) (sections : List Section) (entries : List Entry) (old new : List ℕ) → OnOk r (new ≡ old ++ area_lines sections entries)
    → OnOk r ((m : Machine) → m.area.entries ≡ entries → new ≡ old ++ areas_text sections m)
of_any (Ok done) sections entries old new written =
    λ m same. written ∙ ap (λ (es : List Entry). old ++ area_lines sections es) (sym same) ∙ ap (λ (bs : List ℕ). old ++ bs) (sym (of_machine sections m))
of_any (Err error) sections entries old new written = tt

pub returns : goal.returns
returns c = of_any c.write_lines.result c.args.locked.now.sections c.args.locked.now.area.entries c.args.out.now.items c.write_lines.new.out.items c.write_lines.ensures
