use Rattle.std.proofs.Common.{◌≡◌, ◌↔◌, false, true, IsErr, None, position, refl, sym, ap, ◌∙◌, subst}
use Rattle.std.proofs.lemmas.Bool.{false≢true}
use Rattle.current_tag.specs.Hooks.{TaskShown}
use Rattle.slab_cache.specs.Bits.{class_at}
use Rattle.slab_cache.specs.Calls.{Gives, IsOpenIn}
use Rattle.slab_cache.specs.Classes.{slab_order}
use Rattle.slab_cache.specs.Giving.{object_from_new, slab_or_new, start_in}
use Rattle.slab_cache.specs.Shown.{SlabNodeShown, state_of}
use Rattle.slab_cache.specs.Tables.{is_open_slab}
use Rattle.slab_cache.proofs.ClassLemmas.{objects_some}
use Rattle.slab_cache.proofs.GivenLemmas.{frame_within, gives_new, new_open, none_of_map, not_none, open_here, same_open}
use Rattle.slab_cache.proofs.giving.object_of.Goals as goal

pub object_at-requires-clause-open : goal.object_at-requires-clause-open
object_at-requires-clause-open c =
    let class = class_at c.args.class.index in
    open_here class c.in-Some.frame c.args.node.now (sym (ap (λ (n : SlabNodeShown). position (is_open_slab class) n.slabs) c.node.view_is) ∙ sym c.open_frame.ensures ∙ c.in-Some.is)

pub returns-in-Some-clause-gives : goal.returns-in-Some-clause-gives
returns-in-Some-clause-gives c =
    let class = class_at c.args.class.index in
    let chosen = same_open class c.args.node.now ∙ sym (ap (λ (n : SlabNodeShown). position (is_open_slab class) n.slabs) c.node.view_is) ∙ sym c.open_frame.ensures ∙ c.in-Some.is in
    subst (λ o. Gives (slab_or_new c.args.task.now.current class (state_of c.args.node.now) o) c.args.node.now c.object_at.new.node c.args.cpu.now c.object_at.new.cpu c.object_at.result) (sym chosen) c.object_at.ensures

pub returns-in-Some-clause-no_frames : goal.returns-in-Some-clause-no_frames
returns-in-Some-clause-no_frames c =
    let class = class_at c.args.class.index in
    let chosen = same_open class c.args.node.now ∙ sym (ap (λ (n : SlabNodeShown). position (is_open_slab class) n.slabs) c.node.view_is) ∙ sym c.open_frame.ensures ∙ c.in-Some.is in
    subst (λ o. (false ≡ true) ↔ (slab_or_new c.args.task.now.current class (state_of c.args.node.now) o ≡ None)) (sym chosen) (not_none _ c.object_at.ensures.given c.object_at.ensures.is)

pub object_at-requires-in-None-clause-open : goal.object_at-requires-in-None-clause-open
object_at-requires-in-None-clause-open c =
    let makes = c.in_ok-frame-in-None.ensures.makes in
    let class = class_at c.args.class.index in
    subst (λ st. IsOpenIn class c.in_ok-frame-in-None.frame st) (sym makes.becomes.is)
    (new_open class c.in_ok-frame-in-None.frame (state_of c.args.node.now) (objects_some c.args.class.index c.args.class.known) (frame_within class c.args.node.now c.in_ok-frame-in-None.frame c.requires.at_home.stands makes.start))

pub returns-in_ok-frame-in-None-clause-gives : goal.returns-in_ok-frame-in-None-clause-gives
returns-in_ok-frame-in-None-clause-gives c =
    let class = class_at c.args.class.index in
    let chosen = same_open class c.args.node.now ∙ sym (ap (λ (n : SlabNodeShown). position (is_open_slab class) n.slabs) c.node.view_is) ∙ sym c.open_frame.ensures ∙ c.in-None.is in
    subst (λ o. Gives (slab_or_new c.args.task.now.current class (state_of c.args.node.now) o) c.args.node.now c.object_at-in-None.new.node c.args.cpu.now c.object_at-in-None.new.cpu c.object_at-in-None.result) (sym chosen)
    (subst (λ tag. Gives (slab_or_new tag class (state_of c.args.node.now) None) c.args.node.now c.object_at-in-None.new.node c.args.cpu.now c.object_at-in-None.new.cpu c.object_at-in-None.result) (ap (λ (t : TaskShown). t.current) c.in_ok-frame-in-None.ensures.task)
    (gives_new c.new_slab.new.task.current class c.in_ok-frame-in-None.frame c.args.node.now c.new_slab.new.node c.object_at-in-None.new.node c.args.cpu.now c.new_slab.new.cpu c.object_at-in-None.new.cpu c.object_at-in-None.result c.requires.at_home.own c.requires.at_home.stands
    c.in_ok-frame-in-None.ensures.makes c.object_at-in-None.ensures))

pub returns-in_ok-frame-in-None-clause-no_frames : goal.returns-in_ok-frame-in-None-clause-no_frames
returns-in_ok-frame-in-None-clause-no_frames c =
    let class = class_at c.args.class.index in
    let state = state_of c.args.node.now in
    let chosen = same_open class c.args.node.now ∙ sym (ap (λ (n : SlabNodeShown). position (is_open_slab class) n.slabs) c.node.view_is) ∙ sym c.open_frame.ensures ∙ c.in-None.is in
    let none = none_of_map (object_from_new c.args.task.now.current class state) (start_in (slab_order class) state) in
    subst (λ o. (false ≡ true) ↔ (slab_or_new c.args.task.now.current class state o ≡ None)) (sym chosen)
    (λ e. absurd (false≢true e), λ e. subst IsErr c.in_ok-frame-in-None.was (c.new_slab.ensures.no_frames.1 (none.0 e)))

pub returns-in_err-frame-in-None-clause-no_frames : goal.returns-in_err-frame-in-None-clause-no_frames
returns-in_err-frame-in-None-clause-no_frames c =
    let class = class_at c.args.class.index in
    let state = state_of c.args.node.now in
    let chosen = same_open class c.args.node.now ∙ sym (ap (λ (n : SlabNodeShown). position (is_open_slab class) n.slabs) c.node.view_is) ∙ sym c.open_frame.ensures ∙ c.in-None.is in
    let none = none_of_map (object_from_new c.args.task.now.current class state) (start_in (slab_order class) state) in
    subst (λ o. IsErr c.from_residual.result ↔ (slab_or_new c.args.task.now.current class state o ≡ None)) (sym chosen)
    (λ _. none.1 (c.new_slab.ensures.no_frames.0 (subst IsErr (sym c.in_err-frame-in-None.was) refl)), λ _. search)
