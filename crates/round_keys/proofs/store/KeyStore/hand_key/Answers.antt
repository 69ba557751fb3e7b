use Rattle.std.proofs.Common.{◌≡◌, get_or, set, sym, subst, ◌∙◌}
use Rattle.std.proofs.lemmas.List.Elements.{All-set}
use Rattle.trace_play.specs.Live as live_words
use Rattle.trace_play.specs.Live.{Live}
use Rattle.trace_play.proofs.AloneLemmas.{holds}
use Rattle.round_worker.specs.Kept.{KeyList, content_of}
use Rattle.round_worker.specs.Parting.{AreKept}
use Rattle.round_worker.specs.Shown.{WorkerShown}
use Rattle.round_worker.proofs.KeptLemmas.{kept_taken, on_ok}
use Rattle.round_keys.specs.Handing.{HandedSo, with_key}
use Rattle.round_keys.proofs.HandLemmas.{hands_it, hands_nothing, kept_still, low_from}
use Rattle.round_keys.proofs.store.KeyStore.hand_key.Goals as goal

pub put-requires : goal.put-requires
put-requires c = c.requires.kept c.args.cpu c.index-workers-cpu.result c.requires.cpu c.args.key c.in-Some.kept (sym c.take.ensures.value ∙ c.in-Some.is)

pub returns-in-Some-clause-handed : goal.returns-in-Some-clause-handed
returns-in-Some-clause-handed c who live from up so =
    let d = c.index-workers-cpu.result in
    let one = get_or c.args.workers.now c.args.cpu d in
    let found = sym c.take.ensures.value ∙ c.in-Some.is in
    on_ok c.put.result
    (λ (is : c.put.new.self ≡ record one { live = live_words.put c.args.key (content_of c.in-Some.kept) one.live }).
    subst (λ (w : WorkerShown). HandedSo (with_key c.args.key c.args.cpu who) live from c.take.new.self (set c.args.workers.now c.args.cpu w)) (sym is)
    (subst (λ (store : KeyList). HandedSo (with_key c.args.key c.args.cpu who) live from store (set c.args.workers.now c.args.cpu (record one { live = live_words.put c.args.key (content_of c.in-Some.kept) one.live }))) (sym c.take.ensures.keys)
    (hands_it who live (holds up) from c.args.self.now c.args.workers.now c.args.key c.args.cpu so c.in-Some.kept d found (low_from who live from c.args.self.now c.args.workers.now so c.args.cpu c.requires.cpu))))
    c.put.ensures

pub returns-in-Some-clause-kept : goal.returns-in-Some-clause-kept
returns-in-Some-clause-kept c =
    let d = c.index-workers-cpu.result in
    let one = get_or c.args.workers.now c.args.cpu d in
    let all = kept_still c.args.key c.args.self.now c.take.new.self c.args.workers.now c.take.ensures.keys c.requires.kept in
    on_ok c.put.result
    (λ (is : c.put.new.self ≡ record one { live = live_words.put c.args.key (content_of c.in-Some.kept) one.live }).
    All-set (λ (w : WorkerShown). AreKept w.board c.take.new.self) c.args.workers.now c.args.cpu c.put.new.self
    (subst (λ (w : WorkerShown). AreKept w.board c.take.new.self) (sym is) (all c.args.cpu d c.requires.cpu)) all)
    c.put.ensures

pub returns-in-Some-clause-still : goal.returns-in-Some-clause-still
returns-in-Some-clause-still c board own = kept_taken board c.args.self.now c.take.new.self c.args.key c.take.ensures.keys own

pub returns-in-None-clause-handed : goal.returns-in-None-clause-handed
returns-in-None-clause-handed c who live from up so =
    subst (λ store. HandedSo (with_key c.args.key c.args.cpu who) live from store c.args.workers.now) (sym c.take.ensures.keys)
    (hands_nothing who live (holds up) from c.args.self.now c.args.workers.now c.args.key c.args.cpu so (sym c.take.ensures.value ∙ c.in-None.is))

pub returns-in-None-clause-kept : goal.returns-in-None-clause-kept
returns-in-None-clause-kept c = kept_still c.args.key c.args.self.now c.take.new.self c.args.workers.now c.take.ensures.keys c.requires.kept

pub returns-in-None-clause-still : goal.returns-in-None-clause-still
returns-in-None-clause-still c board own = kept_taken board c.args.self.now c.take.new.self c.args.key c.take.ensures.keys own
