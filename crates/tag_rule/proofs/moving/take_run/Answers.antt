use Rattle.std.proofs.Common.{ap, arith, filter, not, ◌==◌, ℕ, ◌≡◌, rules}
use Rattle.std.proofs.lemmas.Fn.{filter_same}
use Rattle.tag_rule.specs.Shown.{CpuShown, ListShown}
use Rattle.tag_rule.proofs.GivenRuns.{taken_covers, taken_list_holds, taken_seat, takes_at}
use Rattle.tag_rule.proofs.Meets.{tells_moved}
use Rattle.tag_rule.proofs.Tellings.{list_seat}
use Rattle.tag_rule.proofs.moving.take_run.Goals as goal

pub exchange-requires-clause-moves : goal.exchange-requires-clause-moves
exchange-requires-clause-moves c =
    takes_at _ _ _ _ _ _ (ap (λ m. m.0) c.cpu.invariant.me) (ap (λ m. m.0) c.list.invariant.me) (ap (λ (x : CpuShown). x.part) c.cpu.view_is) (ap (λ (x : ListShown). x.part) c.list.view_is) c.requires.inside c.requires.free

pub exchange-requires-clause-tells : goal.exchange-requires-clause-tells
exchange-requires-clause-tells c = tells_moved _ _ _ (exchange-requires-clause-moves c)

pub invariant_of-cpu : goal.invariant_of-cpu
invariant_of-cpu c =
    let items : c.retain.new.self.items ≡ filter (λ (n : ℕ). not (n == c.args.id)) c.cpu.inside.ids.items = filter_same _ (λ (n : ℕ). not (n == c.args.id)) _ (λ x b f' k. search rules) _ _ c.retain.ensures.filtered in
    let after = taken_seat _ _ _ _ _ c.deref.ensures c.exchange.ensures.told _ _ _ _ _ c.cpu.invariant.holds c.cpu.invariant.kept items (omega (arith, c.retain.ensures.bound)) c.exchange.ensures.one.1 in
    record { table = search rules; me = after.me; holds = after.holds; kept = after.kept; room = omega (arith, c.retain.ensures.capacity, c.cpu.invariant.room) }

pub invariant_of-list : goal.invariant_of-list
invariant_of-list c =
    list_seat _ _ (search rules) c.exchange.ensures.other.1 (taken_list_holds _ _ _ _ _ c.deref.ensures c.exchange.ensures.told _ _ _ c.cpu.view_is c.list.view_is c.requires.table) c.list.invariant.kept

pub returns-clause-covered : goal.returns-clause-covered
returns-clause-covered c run finds =
    taken_covers _ _ _ _ _ c.deref.ensures c.exchange.ensures.told _ _ _ run _ _ c.cpu.view_is c.list.view_is c.requires.table finds c.exchange.ensures.one.1 c.exchange.ensures.other.1
