use Rattle.std.proofs.Common.{◌≡◌, ◌≤◌, ◌<◌, ◌-◌, ◌+◌, [], ◌∷◌, length, ap, sym, ◌∙◌, subst, arith, length-append}
use Rattle.std.proofs.lemmas.List.{get_or_read}
use Rattle.std.proofs.lemmas.Bool.Decides.{nat_tests}
use Rattle.tag_section.specs.Section.{Section, no_section, section_at, tag_limit}
use Rattle.tag_section.proofs.SectionLemmas.{replaced}
use Rattle.tag_section.proofs.sections.Sections.add_line.Goals as goal
use Rattle.tag_section.proofs.sections.Sections.add_line.Goals.{then-last-eq0, else-last-eq0}

pub invariant_of-self-2 : goal.invariant_of-self-2
invariant_of-self-2 c =
    let sections = c.self.inside.sections.items in
    let n = c.len-last.result - 1 in
    let some : 0 < length sections = subst (λ s. 0 < length s) (sym c.self.view_is) c.requires in
    let below : n < length sections = omega (arith, c.self.inside.sections.ok.0) in
    let here : c.index_mut-lines.result.now ≡ section_at sections n = get_or_read sections n _ below c.index_mut-lines.ensures.value no_section in
    let same : c.push.new.self.name ≡ (section_at sections n).name =
    ap (λ (s : Section). s.name) c.in_ok-push.ensures.ok ∙ ap (λ (s : Section). s.name) here in
    let fitted : length c.index_mut-lines.result.now.tags ≤ tag_limit n =
    subst (λ (s : Section). length s.tags ≤ tag_limit n) (sym here) (c.self.invariant.0.within_limits n below) in
    let limit_is : c.if-last-eq0.limit ≡ tag_limit n =
    elim c.if-last-eq0.branch [ then-last-eq0 w ↦ grind (arith, nat_tests) | else-last-eq0 w ↦ grind (arith, nat_tests) ] in
    let tags = c.index_mut-lines.result.now.tags in
    let grown : length c.push.new.self.tags ≡ length tags + 1 =
    ap (λ (s : Section). length s.tags) c.in_ok-push.ensures.ok ∙ length-append tags (c.args.tag ∷ []) in
    let fits : length c.push.new.self.tags ≤ tag_limit n = omega arith in
    replaced sections n c.push.new.self c.self.inside.numbers c.self.invariant.0 c.self.invariant.1 below same fits
