use Rattle.std.proofs.Common.{ℕ, rules}
use Rattle.tag_rule.proofs.Keeps.{goes_at}
use Rattle.tag_rule.proofs.seats.store.Goals as goal

pub store-requires : goal.store-requires
store-requires g c = (search rules, search rules, goes_at _ _ _ _ _ _ _ (λ (n : ℕ). g.W.After.after c.args.new) (λ (n : ℕ). g.W.After.told c.args.new) c.args.words.now.made c.requires.place c.requires.step)
