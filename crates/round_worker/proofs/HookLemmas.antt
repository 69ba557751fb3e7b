-- A task and the hooks that are out on it.
use Rattle.std.proofs.Common.{◌≡◌, ◌+◌, ◌-◌, List, [], ◌∷◌, map, length, refl, sym, ap, ◌∙◌, subst, arith, reverse, ◌++◌}
use Rattle.std.proofs.lemmas.List.{reverse-append}
use Rattle.std.specs.Prelude.{slice_get, drop}
use Rattle.tag_model.specs.declared.state.Tag.{Tag}
use Rattle.current_tag.specs.Hooks.{Kept, TaskShown, hooked, kept_of, restored}
use Rattle.round_worker.specs.declared.hooks.Hook.{Hook}
use Rattle.round_worker.specs.HooksOut.{AreHooks, tag_of}
use Rattle.current_tag.proofs.Unhooked.{unhooked}

pub current_is : (task : TaskShown) (hooks : List Hook) → AreHooks task hooks → task.current ≡ slice_get (map tag_of hooks) 0
current_is task [] a = ap (λ (t : TaskShown). t.current) a
current_is task (hook ∷ hooks) a = ap (λ (t : TaskShown). t.current) a.0

pub depth_is : (task : TaskShown) (hooks : List Hook) → AreHooks task hooks → task.depth ≡ length (map tag_of hooks)
depth_is task [] a = ap (λ (t : TaskShown). t.depth) a
depth_is task (hook ∷ hooks) a =
    let more : task.depth ≡ task.depth - 1 + 1 = ap (λ (t : TaskShown). t.depth) a.0 in
    let rest : task.depth - 1 ≡ length (map tag_of hooks) = depth_is (restored hook.saved task) hooks a.2 in
    omega (arith, more, rest)

pub one_more : (tag : Tag) (task : TaskShown) (hooks : List Hook) → AreHooks task hooks → AreHooks (hooked tag task) (record { tag = tag; saved = kept_of task } ∷ hooks)
one_more tag task hooks a = (ap (hooked tag) (sym (unhooked tag task)), refl, subst (λ (t : TaskShown). AreHooks t hooks) (sym (unhooked tag task)) a)

-- the last hook is taken off
pub one_less : (task after : TaskShown) (hook : Hook) (hooks : List Hook) → AreHooks task (hook ∷ hooks) → after ≡ restored hook.saved task → AreHooks after hooks
one_less task after hook hooks a is = subst (λ (t : TaskShown). AreHooks t hooks) (sym is) a.2

-- hooks as they stand in a vector, which has the first one first
pub behind : (items : List Hook) (hook : Hook) → reverse (items ++ hook ∷ []) ≡ hook ∷ reverse items
behind items hook = reverse-append items (hook ∷ [])

pub put_on : (tag : Tag) (saved : Kept) (task after : TaskShown) (items now : List Hook) → AreHooks task (reverse items) → after ≡ hooked tag task → saved ≡ kept_of task
    → now ≡ items ++ record { tag = tag; saved = saved } ∷ [] → AreHooks after (reverse now)
put_on tag saved task after items now a hooks keeps is =
    let hook : Kept → List Hook = λ s. record { tag = tag; saved = s } ∷ reverse items in
    subst (λ hs. AreHooks after hs) (sym (ap reverse is ∙ behind items (record { tag = tag; saved = saved })))
    (subst (λ s. AreHooks after (hook s)) (sym keeps)
    (subst (λ t. AreHooks t (hook (kept_of task))) (sym hooks) (one_more tag task (reverse items) a)))

pub put_on_tags : (tag : Tag) (saved : Kept) (items now : List Hook) → now ≡ items ++ record { tag = tag; saved = saved } ∷ []
    → map tag_of (reverse now) ≡ tag ∷ map tag_of (reverse items)
put_on_tags tag saved items now is = ap (λ (hs : List Hook). map tag_of hs) (ap reverse is ∙ behind items (record { tag = tag; saved = saved }))

-- the hook that was put out last
last_first : (task : TaskShown) (hook : Hook) (old now : List Hook) → AreHooks task (reverse old) → old ≡ now ++ hook ∷ [] → AreHooks task (hook ∷ reverse now)
last_first task hook old now a is = subst (λ hs. AreHooks task hs) (ap reverse is ∙ behind now hook) a

pub innermost : (task : TaskShown) (hook : Hook) (old now : List Hook) → AreHooks task (reverse old) → old ≡ now ++ hook ∷ [] → hook.saved.depth ≡ task.depth
innermost task hook old now a is = (last_first task hook old now a is).1

pub taken_off : (task after : TaskShown) (hook : Hook) (old now : List Hook) → AreHooks task (reverse old) → old ≡ now ++ hook ∷ [] → after ≡ restored hook.saved task → AreHooks after (reverse now)
taken_off task after hook old now a is back = one_less task after hook (reverse now) (last_first task hook old now a is) back

pub taken_off_tags : (hook : Hook) (old now : List Hook) → old ≡ now ++ hook ∷ [] → map tag_of (reverse now) ≡ drop 1 (map tag_of (reverse old))
taken_off_tags hook old now is = ap (λ (hs : List Hook). drop 1 (map tag_of hs)) (sym (ap reverse is ∙ behind now hook))
