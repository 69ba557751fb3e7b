-- What the meaning says that an op finds is what the worker has at its keys.
use Rattle.std.proofs.Common.{◌≡◌, ℕ, Option, Some, None, nat_cmp, refl, sym, ap, ◌∙◌, subst, ◌≢◌, eqb, not, ne_eqb}
use Rattle.std.proofs.lemmas.Bool.{cond-true}
use Rattle.trace_play.proofs.Entries.{find_kept}
use Rattle.std.specs.Prelude.{option_map, unwrap_or}
use Rattle.std.specs.FinMap.Entries.{find}
use Rattle.trace_play.specs.Live.{Content, content_at}
use Rattle.trace_play.specs.Live as live
use Rattle.trace_play.specs.Fits.{HasBlock, IsBlockOf, SplitFits, SwapFits, TrimFits}
use Rattle.slab_cache.specs.Storage.{home_of}
use Rattle.trace_play.specs.Worker.{Seat, WorkerState}
use Rattle.trace_play.specs.Fitting.{IsOf, IsThere}
use Rattle.page_ext.specs.Blocks.{page_bytes}
use Rattle.round_worker.specs.declared.keys.Kept.{Kept}
use Rattle.round_worker.specs.Kept.{KeyList, MaySplit, MaySwap, MayTrim, content_of, live_of}
use Rattle.round_worker.proofs.KeyLemmas.{live_find, never, others}
use Rattle.round_worker.proofs.KeptLemmas.{inside_some}

module _ (key : ℕ) (keys : KeyList) (kept : Kept) (found : Some kept ≡ find nat_cmp key keys) where
  -- the key has this in the meaning too
  pub bound_as : find nat_cmp key (live_of keys) ≡ Some (content_of kept)
  bound_as = live_find key keys ∙ ap (option_map content_of) (sym found)

  pub found_as : (content : Content) → find nat_cmp key (live_of keys) ≡ Some content → content ≡ content_of kept
  found_as content there = inside_some content (content_of kept) (sym there ∙ bound_as)

  pub block_as : (order bytes : ℕ) → HasBlock key order bytes (live_of keys) → IsBlockOf order bytes (content_of kept)
  block_as order bytes has = subst (IsBlockOf order bytes) (found_as has.content has.found) has.is

  pub content_is : content_at key (live_of keys) ≡ content_of kept
  content_is = ap (λ o. unwrap_or o (live.Nothing 0)) bound_as

-- a key that has a block isn't free
pub not_none : (key order bytes : ℕ) (keys : KeyList) {A : Type 0} → None ≡ find nat_cmp key keys → HasBlock key order bytes (live_of keys) → A
not_none key order bytes keys none has = never has.content (sym (live_find key keys ∙ ap (option_map content_of) (sym none)) ∙ has.found)

pub may_trim : (key bytes : ℕ) (keys : KeyList) (kept : Kept) → Some kept ≡ find nat_cmp key keys → TrimFits key bytes (live_of keys) → MayTrim bytes (content_of kept)
may_trim key bytes keys kept found fits = record { order = fits.order; left = fits.left; is = block_as key keys kept found fits.order fits.left fits.block; more = fits.more }

pub may_swap : (one two : ℕ) (keys : KeyList) (a b : Kept) → Some a ≡ find nat_cmp one keys → Some b ≡ find nat_cmp two keys → SwapFits one two (live_of keys) → MaySwap (content_of a) (content_of b)
may_swap one two keys a b first second fits = record {
  order = fits.order;
  first = block_as one keys a first fits.order (page_bytes fits.order) fits.first;
  second = block_as two keys b second fits.order (page_bytes fits.order) fits.second;
}

-- another key is still there
pub still_there : (one two : ℕ) (keys now : KeyList) → one ≢ two → now ≡ others one keys → find nat_cmp two now ≡ find nat_cmp two keys
still_there one two keys now differ is =
    ap (λ (es : KeyList). find nat_cmp two es) is ∙ find_kept (λ k. not (eqb k one)) two keys
    ∙ cond-true (not (eqb two one)) (find nat_cmp two keys) None (ap not (ne_eqb two one (λ e. differ (sym e))))

pub none_is : {X : Type 0} (o : Option X) → ((x : X) → o ≡ Some x → ⊥) → o ≡ None
none_is None isnt = refl
none_is (Some x) isnt = absurd (isnt x refl)

-- whether storage is there depends on the seat alone
pub there_still : (content : Content) (w v : WorkerState) → w.seat ≡ v.seat → IsThere content w → IsThere content v
there_still (live.Nothing order) w v same there = tt
there_still (live.Stored given) w v same there = subst (λ (s : Seat). home_of given ≡ s.node.node.cpu → IsOf s.node given) same there

pub may_split : (key order first : ℕ) (keys : KeyList) (kept : Kept) → Some kept ≡ find nat_cmp key keys → SplitFits key order first (live_of keys) → MaySplit order first (content_of kept)
may_split key order first keys kept found fits = record { whole = fits.whole; above = fits.above; is = block_as key keys kept found fits.whole (page_bytes fits.whole) fits.block; few = fits.keys }
