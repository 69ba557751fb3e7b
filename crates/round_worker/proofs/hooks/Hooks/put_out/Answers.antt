use Rattle.std.proofs.Common.{◌≡◌, Bool, List, [], ◌∷◌, ◌++◌, ap, cond, length, reverse, is_ok, ◌∙◌, arith}
use Rattle.tag_model.specs.declared.state.Tag.{Tag}
use Rattle.round_worker.specs.declared.hooks.Hook.{Hook}
use Rattle.round_worker.proofs.HookLemmas.{depth_is, put_on, put_on_tags}
use Rattle.round_worker.proofs.hooks.Hooks.put_out.Goals as goal

pub save-saved-requires : goal.save-saved-requires
save-saved-requires c =
    let depth = depth_is c.self.inside.task (reverse c.self.inside.out.items) c.self.invariant ∙ ap (λ (tags : List Tag). length tags) c.self.view_is in
    omega (arith, depth, c.requires)

abbrev new_hook : goal.After-unwrap → Hook
new_hook c = record { tag = c.args.tag; saved = c.save-saved.result }

items : (c : goal.After-unwrap) → c.push.new.self.items ≡ c.self.inside.out.items ++ new_hook c ∷ []
items c =
    let before = c.reserve.new.self.items in
    c.push.ensures.items
    ∙ ap (λ (b : Bool). cond b (before ++ new_hook c ∷ []) before) (ap is_ok c.unwrap.ensures)
    ∙ ap (λ (hs : List Hook). hs ++ new_hook c ∷ []) c.in_ok-reserve.ensures.items

pub invariant_of-self-2 : goal.invariant_of-self-2
invariant_of-self-2 c =
    put_on c.args.tag c.save-saved.result c.self.inside.task c.save-saved.new.self c.self.inside.out.items c.push.new.self.items c.self.invariant c.save-saved.ensures.hooked c.save-saved.ensures.kept (items c)

pub returns : goal.returns
returns c = record {
  ok = put_on_tags c.args.tag c.save-saved.result c.self.inside.out.items c.push.new.self.items (items c) ∙ ap (λ (tags : List Tag). c.args.tag ∷ tags) c.self.view_is;
  err = tt;
}
