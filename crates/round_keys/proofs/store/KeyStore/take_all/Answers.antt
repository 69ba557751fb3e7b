use Rattle.std.proofs.Common.{◌≡◌, ℕ, ◌∷◌, All, refl, sym, ap, subst, ◌∙◌}
use Rattle.std.proofs.lemmas.List.Elements.{All-head, All-tail}
use Rattle.trace_play.proofs.AloneLemmas.{holds}
use Rattle.trace_play.proofs.Entries.{put_all}
use Rattle.round_worker.specs.declared.keys.Kept.{Kept}
use Rattle.round_worker.specs.Kept.{IsKept, KeyList, live_of}
use Rattle.round_worker.specs.Parting.{AreKept}
use Rattle.round_worker.proofs.KeyLemmas.{all_entries, any_order}
use Rattle.round_worker.proofs.KeptLemmas.{kept_put}
use Rattle.round_keys.proofs.StoredLemmas.{live_put_all}
use Rattle.round_keys.proofs.store.KeyStore.take_all.Goals as goal

pub loop-key-init : goal.loop-key-init
loop-key-init c = record {
  next = tt;
  finite = tt;
  put = refl;
  kept = λ board own all. (own, all);
}

pub loop-key-preserved : goal.loop-key-preserved
loop-key-preserved c =
    let entry : ℕ × Kept = (c.in-Some.key, c.in-Some.kept) in
    let rest = c.next.new.self in
    let items : c.loop-key.key-iterator ≡ entry ∷ rest = c.in-Some.ensures.steps in
    let put_there = c.in_ok-put.ensures.put in
    record {
      next = tt;
      finite = tt;
      put = ap (λ (into : KeyList). put_all into rest) put_there ∙ ap (λ (es : KeyList). put_all c.loop-key.self es) (sym items) ∙ c.loop-key.invariant.put;
      kept = λ board own all.
          let both = c.loop-key.invariant.kept board own all in
          let left = subst (λ (es : KeyList). All (λ (e : ℕ × Kept). IsKept board e.1) es) items both.1 in (
            kept_put board c.loop-key.self c.put.new.self entry.0 entry.1 put_there both.0 (All-head (λ (e : ℕ × Kept). IsKept board e.1) entry rest left),
            All-tail (λ (e : ℕ × Kept). IsKept board e.1) entry rest left,
          );
    }

pub returns-clause-store : goal.returns-clause-store
returns-clause-store c =
    let entries = c.into_entries-key-items in
    ap live_of
    (ap (λ (es : KeyList). put_all c.loop-key.self es) (sym c.in-None.ensures.steps.0) ∙ c.loop-key.invariant.put
    ∙ ap (λ (es : KeyList). put_all c.args.self.now es) c.into_iter-key-iterator.ensures.into_iter_gives
    ∙ any_order c.args.self.now entries.result (holds c.tell.ensures) entries.ensures.once
    ∙ ap (λ (es : KeyList). put_all c.args.self.now es) entries.ensures.all)
    ∙ live_put_all c.args.keys c.args.self.now

pub returns-clause-still : goal.returns-clause-still
returns-clause-still c = λ board own mine.
    let entries = c.into_entries-key-items in
    (c.loop-key.invariant.kept board own
    (subst (λ (es : KeyList). All (λ (e : ℕ × Kept). IsKept board e.1) es) (sym c.into_iter-key-iterator.ensures.into_iter_gives)
    (all_entries (IsKept board) entries.result entries.ensures.once (subst (AreKept board) (sym entries.ensures.all) mine)))).0
