use Rattle.std.proofs.Common.{ℕ, ◌<◌, ◌≤◌}
use Rattle.tag_section.specs.Section.{tags_in}
use Rattle.core_steps.proofs.tests.assert_tags.Given as goal

-- each section so far has a tag
abbrev pub invariant-loop-section : goal.invariant-loop-section
invariant-loop-section g l = (section : ℕ) → section < l.section → 1 ≤ tags_in l.sections section
