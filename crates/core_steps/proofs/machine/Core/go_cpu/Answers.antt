use Rattle.std.proofs.Common.{◌≡◌, ℕ, List, [], subst, sym, ◌∙◌, arith}
use Rattle.std.proofs.lemmas.List.{get_or_default}
use Rattle.core_steps.specs.CoreState.{CoreState, IsCore}
use Rattle.cpu_ops.specs.Needs.{CanGo}
use Rattle.module_ops.specs.Modules.{words_at, scene_at}
use Rattle.core_steps.proofs.Kept.{can_go, gone, goes_free, goes_fits, goes_is}
use Rattle.core_steps.proofs.machine.Core.go_cpu.Goals as goal

pub step-requires : goal.step-requires
step-requires c =
    let s : CoreState = record { shape = c.self.inside.shape; sections = c.self.inside.sections; machine = c.self.inside.machine; words = c.self.inside.words.items; modules = c.self.inside.modules } in
    let own : c.index_mut.result.now ≡ words_at s.words c.args.cpu = c.index_mut.ensures.value ∙ get_or_default s.words c.args.cpu c.index_mut.result.now [] (omega (arith, c.self.invariant.words)) in
    rw (c.scene.ensures) (subst (λ (w : List ℕ). CanGo s.machine (scene_at s.modules c.args.cpu) w c.args.cpu) (sym own) (can_go s c.args.cpu c.self.invariant c.if-cpu-self.false))

pub take-requires : goal.take-requires
take-requires c =
    let s : CoreState = record { shape = c.self.inside.shape; sections = c.self.inside.sections; machine = c.self.inside.machine; words = c.self.inside.words.items; modules = c.self.inside.modules } in
    goes_fits s c.args.cpu c.self.invariant c.if-cpu-self.false c.step.result c.in_ok-step.step c.step.new.self c.index_mut.result.now c.step.new.words c.in_ok-step.was (rw c.scene.ensures at c.step.ensures.answer)

pub invariant_of-self-2 : goal.invariant_of-self-2
invariant_of-self-2 c =
    let s : CoreState = record { shape = c.self.inside.shape; sections = c.self.inside.sections; machine = c.self.inside.machine; words = c.self.inside.words.items; modules = c.self.inside.modules } in
    let answer = rw c.scene.ensures at c.step.ensures.answer in
    let free = goes_free s c.args.cpu c.self.invariant c.if-cpu-self.false c.step.result c.in_ok-step.step c.step.new.self c.index_mut.result.now c.step.new.words c.in_ok-step.was answer in
    let is = goes_is s c.args.cpu c.self.invariant c.if-cpu-self.false c.step.result c.in_ok-step.step c.step.new.self c.index_mut.result.now c.step.new.words c.in_ok-step.was answer c.take.new.self c.index_mut.ensures.value (rw c.scene.ensures at c.step.ensures.ok) c.take.ensures in
    subst IsCore (sym is) (gone s c.args.cpu c.self.invariant free.0).core
