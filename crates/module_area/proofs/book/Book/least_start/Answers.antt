use Rattle.std.proofs.Common.{sym, ap, ◌∙◌, arith}
use Rattle.module_area.specs.Area.{Area}
use Rattle.module_area.proofs.StartLemmas.{found, free_from_none, least_start_is, met_before, no_least_start}
use Rattle.module_area.proofs.book.Book.least_start.Goals as goal

pub returns-in-None-clause-least : goal.returns-in-None-clause-least
returns-in-None-clause-least c =
    let first_is = ap (λ (a : Area). a.first) c.self.view_is in
    let tags_is = ap (λ (a : Area). a.tags) c.self.view_is in
    record {
      lies = (c.loop-start.invariant.from_first, omega arith);
      free = free_from_none c.args.self.now.entries c.loop-start.start c.args.size (sym c.met.ensures.value ∙ c.in-None.is);
      least = c.loop-start.invariant.met_before;
    }

pub returns-in-None-clause-value : goal.returns-in-None-clause-value
returns-in-None-clause-value c = sym (least_start_is c.args.self.now c.args.size c.loop-start.start c.met.ensures.formed c.requires (returns-in-None-clause-least c))

pub returns-clause-value : goal.returns-clause-value
returns-clause-value c =
    let first_is = ap (λ (a : Area). a.first) c.self.view_is in
    let tags_is = ap (λ (a : Area). a.tags) c.self.view_is in
    sym (no_least_start c.args.self.now c.args.size (λ other lies. c.loop-start.invariant.met_before other (omega (arith, lies.1)) lies))

pub overflow_add-start : goal.overflow_add-start
overflow_add-start c =
    let f = found c.args.self.now c.loop-start.start c.args.size c.in-Some.entry c.met.ensures.formed (sym c.met.ensures.value ∙ c.in-Some.is) in
    omega (arith, c.met.ensures.formed.small)

pub loop-start-smaller : goal.loop-start-smaller
loop-start-smaller c =
    let f = found c.args.self.now c.loop-start.start c.args.size c.in-Some.entry c.met.ensures.formed (sym c.met.ensures.value ∙ c.in-Some.is) in
    let first_is = ap (λ (a : Area). a.first) c.self.view_is in
    let tags_is = ap (λ (a : Area). a.tags) c.self.view_is in
    omega arith

pub loop-start-preserved : goal.loop-start-preserved
loop-start-preserved c =
    let f = found c.args.self.now c.loop-start.start c.args.size c.in-Some.entry c.met.ensures.formed (sym c.met.ensures.value ∙ c.in-Some.is) in
    let first_is = ap (λ (a : Area). a.first) c.self.view_is in
    let tags_is = ap (λ (a : Area). a.tags) c.self.view_is in
    record {
      from_first = omega arith;
      in_area = omega arith;
      met_before = met_before c.args.self.now c.loop-start.start c.args.size c.in-Some.entry f c.requires c.loop-start.invariant.met_before;
    }
