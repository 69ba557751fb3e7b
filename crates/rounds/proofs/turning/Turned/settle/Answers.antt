use Rattle.std.proofs.Common.{◌∙◌, ap, map, subst, sym, ◌≡◌, List, All}
use Rattle.std.specs.Prelude.{fold}
use Rattle.round_keys.specs.Handed.{without_live}
use Rattle.round_worker.specs.Kept.{KeyList, live_of}
use Rattle.round_worker.specs.Parting.{AreKept}
use Rattle.round_worker.specs.Shown.{WorkerShown}
use Rattle.trace_play.specs.Alone.{put_all}
use Rattle.rounds.proofs.Settled.{asks_all, asks_book, asks_hands, asks_inside, asks_met, asks_named, asks_noted, asks_some, asks_tables, asks_users, asks_within, stands}
use Rattle.rounds.proofs.turning.Turned.settle.Goals as goal

pub end-requires-clause-tables : goal.end-requires-clause-tables
end-requires-clause-tables c = asks_tables c.requires.turn c.args.self c.requires.is _ _ c.meet_dead.new.locked c.as_mut_slice-2.ensures.value c.as_slice-2.ensures.value c.meet_dead.ensures.same.1

pub end-requires-clause-all : goal.end-requires-clause-all
end-requires-clause-all c = asks_all c.requires.turn c.args.self c.requires.is _ _ c.meet_dead.new.locked c.as_mut_slice-2.ensures.value c.as_slice-2.ensures.value c.meet_dead.ensures.same.1

pub end-requires-clause-hands : goal.end-requires-clause-hands
end-requires-clause-hands c = asks_hands c.requires.turn c.args.self c.requires.is _ _ c.meet_dead.new.locked c.as_mut_slice-2.ensures.value c.as_slice-2.ensures.value c.meet_dead.ensures.same.1

pub end-requires-clause-some : goal.end-requires-clause-some
end-requires-clause-some c = asks_some c.requires.turn c.args.self c.requires.is _ _ c.meet_dead.new.locked c.as_mut_slice-2.ensures.value c.as_slice-2.ensures.value c.meet_dead.ensures.same.1 c.len-inside.result (c.len-inside.ensures ∙ c.args.self.desk.workers.ok.0)

pub end-requires-clause-inside : goal.end-requires-clause-inside
end-requires-clause-inside c = asks_inside c.requires.turn c.args.self c.requires.is _ _ c.meet_dead.new.locked c.as_mut_slice-2.ensures.value c.as_slice-2.ensures.value c.meet_dead.ensures.same.1 c.len-inside.result (c.len-inside.ensures ∙ c.args.self.desk.workers.ok.0)

pub end-requires-clause-noted : goal.end-requires-clause-noted
end-requires-clause-noted c = asks_noted c.requires.turn c.args.self c.requires.is _ _ c.meet_dead.new.locked c.as_mut_slice-2.ensures.value c.as_slice-2.ensures.value c.meet_dead.ensures.same.1

pub end-requires-clause-book : goal.end-requires-clause-book
end-requires-clause-book c = asks_book c.requires.turn c.args.self c.requires.is _ _ c.meet_dead.new.locked c.as_mut_slice-2.ensures.value c.as_slice-2.ensures.value c.meet_dead.ensures.same.1

pub end-requires-clause-users : goal.end-requires-clause-users
end-requires-clause-users c = asks_users c.requires.turn c.args.self c.requires.is _ _ c.meet_dead.new.locked c.as_mut_slice-2.ensures.value c.as_slice-2.ensures.value c.meet_dead.ensures.same.1

pub end-requires-clause-named : goal.end-requires-clause-named
end-requires-clause-named c = asks_named c.requires.turn c.args.self c.requires.is _ _ c.meet_dead.new.locked c.as_mut_slice-2.ensures.value c.as_slice-2.ensures.value c.meet_dead.ensures.same.1 _ c.in_ok-shared.ensures

pub end-requires-clause-within : goal.end-requires-clause-within
end-requires-clause-within c = asks_within c.requires.turn c.args.self c.requires.is _ _ c.meet_dead.new.locked c.as_mut_slice-2.ensures.value c.as_slice-2.ensures.value c.meet_dead.ensures.same.1

-- what came back
back : (own keys : KeyList) (given workers : List WorkerShown) → given ≡ workers → live_of keys ≡ fold (λ into (w : WorkerShown). put_all into w.live) (live_of own) given → live_of keys ≡ fold (λ into (w : WorkerShown). put_all into w.live) (live_of own) workers
back own keys given workers same e = e ∙ ap (fold (λ into (w : WorkerShown). put_all into w.live) (live_of own)) same

pub end-requires-clause-held : goal.end-requires-clause-held
end-requires-clause-held c =
    let keys = back c.args.self.desk.keys c.take_back.new.self c.as_mut_slice.result.now c.args.self.desk.workers.items c.as_mut_slice.ensures.value c.in_ok-take_back.ensures.store in
    (asks_met c.requires.turn c.args.self c.requires.is _ _ c.meet_dead.new.locked c.as_mut_slice-2.ensures.value c.as_slice-2.ensures.value c.meet_dead.ensures.same.1 c.take_back.new.self keys c.as_slice.result.now c.as_slice.ensures.value c.meet_dead.ensures.covered).0

pub end-requires-clause-counted : goal.end-requires-clause-counted
end-requires-clause-counted c =
    let keys = back c.args.self.desk.keys c.take_back.new.self c.as_mut_slice.result.now c.args.self.desk.workers.items c.as_mut_slice.ensures.value c.in_ok-take_back.ensures.store in
    (asks_met c.requires.turn c.args.self c.requires.is _ _ c.meet_dead.new.locked c.as_mut_slice-2.ensures.value c.as_slice-2.ensures.value c.meet_dead.ensures.same.1 c.take_back.new.self keys c.as_slice.result.now c.as_slice.ensures.value c.meet_dead.ensures.covered).1

pub returns : goal.returns
returns c = λ t is.
    let same = c.meet_dead.ensures.same.0 in
    let workers = c.as_mut_slice.ensures.value in
    let keys = back c.args.self.desk.keys c.meet_dead.new.keys c.as_mut_slice.result.now c.args.self.desk.workers.items workers (ap live_of same ∙ c.in_ok-take_back.ensures.store) in
    stands t c.args.self is _ _ c.meet_dead.new.locked c.as_mut_slice-2.ensures.value c.as_slice-2.ensures.value c.meet_dead.ensures.same.1 c.meet_dead.new.keys keys
    c.end.new.cpus c.take_back.new.workers c.end.new.locked c.end.new.pass
    c.end.ensures.rest c.end.ensures.outside (c.in_ok-take_back.ensures.workers ∙ ap (map without_live) workers)
    (subst (AreKept t.board) (sym same) (c.in_ok-take_back.ensures.still t.board is.beside.own (subst (All (λ (w : WorkerShown). w.board ≡ t.board)) (sym workers) is.workers.boards)))
    c.end.ensures.same.0 c.end.ensures.area (c.end.ensures.sections ∙ c.in_ok-shared.ensures) c.end.ensures.same.1
