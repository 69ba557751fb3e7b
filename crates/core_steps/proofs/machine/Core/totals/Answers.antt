use Rattle.std.proofs.Common.{◌≡◌, ◌∙◌, ap, subst}
use Rattle.tag_model.specs.declared.state.Kind.TheVariants.{Bytes, Calls}
use Rattle.tag_model.specs.Laws.{live_of}
use Rattle.tag_model.specs.Reference.{live_total}
use Rattle.core_steps.specs.CoreState.{CoreState, total_of, word_state}
use Rattle.core_steps.specs.Laws.{IsIdle}
use Rattle.core_steps.proofs.Others.{idle_hand}
use Rattle.core_steps.proofs.Quiet.{quiet_exact}
use Rattle.core_steps.proofs.Totals.{totals_counted}
use Rattle.core_steps.proofs.machine.Core.totals.Goals as goal

pub returns-clause-counted_bytes : goal.returns-clause-counted_bytes
returns-clause-counted_bytes c =
    rw (← c.self.view_is) (c.total.ensures ∙ ap (λ words. total_of words Bytes c.args.tag) c.as_slice-words.ensures.value
    ∙ totals_counted (record { shape = c.self.inside.shape; sections = c.self.inside.sections; machine = c.self.inside.machine; words = c.self.inside.words.items; modules = c.self.inside.modules }) c.self.invariant Bytes c.args.tag)

pub returns-clause-counted_calls : goal.returns-clause-counted_calls
returns-clause-counted_calls c =
    rw (← c.self.view_is) (c.total-2.ensures ∙ ap (λ words. total_of words Calls c.args.tag) c.as_slice-words.ensures.value
    ∙ totals_counted (record { shape = c.self.inside.shape; sections = c.self.inside.sections; machine = c.self.inside.machine; words = c.self.inside.words.items; modules = c.self.inside.modules }) c.self.invariant Calls c.args.tag)

pub returns-clause-live_bytes : goal.returns-clause-live_bytes
returns-clause-live_bytes c =
    let s : CoreState = record { shape = c.self.inside.shape; sections = c.self.inside.sections; machine = c.self.inside.machine; words = c.self.inside.words.items; modules = c.self.inside.modules } in
    subst (λ (x : CoreState). IsIdle x → c.total.result ≡ live_total Bytes c.args.tag (live_of (word_state x))) c.self.view_is
    (λ idle. c.total.ensures ∙ (ap (λ words. total_of words Bytes c.args.tag) c.as_slice-words.ensures.value ∙ quiet_exact s Bytes c.args.tag c.self.invariant (λ cpu below. idle_hand s cpu c.self.invariant idle below)))

pub returns-clause-live_calls : goal.returns-clause-live_calls
returns-clause-live_calls c =
    let s : CoreState = record { shape = c.self.inside.shape; sections = c.self.inside.sections; machine = c.self.inside.machine; words = c.self.inside.words.items; modules = c.self.inside.modules } in
    subst (λ (x : CoreState). IsIdle x → c.total-2.result ≡ live_total Calls c.args.tag (live_of (word_state x))) c.self.view_is
    (λ idle. c.total-2.ensures ∙ (ap (λ words. total_of words Calls c.args.tag) c.as_slice-words.ensures.value ∙ quiet_exact s Calls c.args.tag c.self.invariant (λ cpu below. idle_hand s cpu c.self.invariant idle below)))
