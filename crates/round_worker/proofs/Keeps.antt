-- What holds of a worker holds on after each op.
use Rattle.std.proofs.Common.{◌≡◌, ℕ, ◌≢◌, ◌+◌, ◌^◌, ◌≤◌, Bool, true, false, List, [], ◌∷◌, All, Option, Some, None, Result, OnOk, OnErr, nat_cmp, length, refl, sym, ap, ◌∙◌, subst}
use Rattle.std.specs.Prelude.{slice_get, ◌&&◌}
use Rattle.std.specs.Bool.{IsTrue}
use Rattle.std.specs.List.{list_all}
use Rattle.std.specs.FinMap.Entries.{put}
use Rattle.tag_model.specs.declared.state.Tag.{Tag}
use Rattle.tag_model.specs.declared.state.Held.{Held}
use Rattle.tag_model.specs.declared.state.Held.TheVariants as held
use Rattle.tag_model.specs.RefMoves.{reference_to}
use Rattle.tag_rule.specs.Shown.{Board, CpuShown}
use Rattle.buddy.specs.Frames.{marked}
use Rattle.buddy.proofs.FrameLemmas.{all_within, least_told, length-marked}
use Rattle.page_ext.specs.Blocks.{page_bytes}
use Rattle.page_ext.specs.Shown.{BlockShown, NodeShown}
use Rattle.page_ext.specs.Paging.{GivesBlock, MayCount}
use Rattle.round_worker.specs.declared.keys.Kept.{Kept}
use Rattle.round_worker.specs.declared.keys.Kept.TheVariants.{Block}
use Rattle.round_worker.specs.declared.worker.Going.{Going}
use Rattle.round_worker.specs.Kept.{IsKept, KeyList}
use Rattle.round_worker.specs.Parting.{AreKept}
use Rattle.round_worker.specs.Shown.{may_count}
use Rattle.slab_cache.specs.NodeLending.{with_node}
use Rattle.slab_cache.specs.Shown.{SlabNodeShown, Stands}
use Rattle.round_worker.specs.Working.{IsGoing, IsWorker}
use Rattle.round_worker.proofs.KeyLemmas.{others}
use Rattle.round_worker.proofs.KeptLemmas.{kept_after, kept_taken}

first_true : (a b : Bool) → IsTrue (a && b) → IsTrue a
first_true true b e = refl
first_true false b e = e

pub may_count_current : (hooks : List Tag) (cpu : CpuShown) → IsTrue (list_all (may_count cpu) hooks) → MayCount (slice_get hooks 0) cpu
may_count_current [] cpu all = tt
may_count_current (tag ∷ hooks) cpu all = first_true (may_count cpu tag) (list_all (may_count cpu) hooks) all

-- a reference is something
pub counts_some : (tag : Option Tag) (size : ℕ) (h : Held) → h ≡ reference_to tag size → h ≢ held.None
counts_some None size h is none = let no : ⊥ = cc in no
counts_some (Some tag) size h is none = let no : ⊥ = cc in no

module _ (frames : ℕ) (node : SlabNodeShown) (hooks : List Tag) (keys : KeyList) (returning : List Going) (me : IsWorker frames node hooks keys returning) where
  -- the keys change
  pub with_keys : (now : KeyList) → AreKept node.node.board now → IsWorker frames node hooks now returning
  with_keys now own = record { stands = me.stands; frames_are = me.frames_are; few = me.few; kept = own; going = me.going }

  pub put_keeps : {X E : Type 0} (r : Result X E) (now : KeyList) (key : ℕ) (kept : Kept) → OnOk r (now ≡ put nat_cmp key kept keys) → OnErr r (now ≡ keys) → IsKept node.node.board kept → IsWorker frames node hooks now returning
  put_keeps r now key kept ok err own = with_keys now (kept_after r node.node.board keys now key kept ok err me.kept own)

  pub take_keeps : (now : KeyList) (key : ℕ) → now ≡ others key keys → IsWorker frames node hooks now returning
  take_keeps now key is = with_keys now (kept_taken node.node.board keys now key is me.kept)

  -- the node changes
  pub node_keeps : (after : SlabNodeShown) → after.node.board ≡ node.node.board → Stands after → length after.slabs ≡ length node.slabs → IsWorker frames after hooks keys returning
  node_keeps after board stands long = record {
    stands = stands;
    frames_are = long ∙ me.frames_are;
    few = me.few;
    kept = subst (λ (b : Board). AreKept b keys) (sym board) me.kept;
    going = subst (λ (b : Board). All (IsGoing b) returning) (sym board) me.going;
  }

  -- frames of it are taken or free
  pub stands_still : (taken : Bool) (frame order : ℕ) (after : NodeShown) → frame + 2 ^ order ≤ length node.node.node.frames
      → after ≡ record node.node { node = record node.node.node { frames = marked taken frame order node.node.node.frames } } → Stands (with_node node after)
  stands_still taken frame order after within is = record {
    own = ap (λ (n : NodeShown). n.node.cpu) is ∙ me.stands.own;
    frames = ap (λ (n : NodeShown). length n.node.frames) is ∙ length-marked taken frame order node.node.node.frames within ∙ me.stands.frames;
    slab_cells = λ at slab here. me.stands.slab_cells at slab here ∙ sym (ap (λ (n : NodeShown). n.board) is);
    vector_cells = λ number pool here. me.stands.vector_cells number pool here ∙ sym (ap (λ (n : NodeShown). n.board) is);
  }

  pub page_keeps : {X E : Type 0} (r : Result X E) (tag : Option Tag) (order key : ℕ) (block : BlockShown) (after : NodeShown) (now : KeyList) (cpu cpu_after : CpuShown) → node.node.board ≡ cpu.board
      → GivesBlock tag order node.node after cpu cpu_after block → OnOk r (now ≡ put nat_cmp key (Block block) keys) → OnErr r (now ≡ keys) → IsWorker frames (with_node node after) hooks now returning
  page_keeps r tag order key block after now cpu cpu_after table g ok err =
      let within = all_within false node.node.node.frames block.frame order (least_told node.node.node.frames order block.frame g.start).is.free in
      let board : after.board ≡ node.node.board = ap (λ (n : NodeShown). n.board) g.taken in
      let rest = node_keeps (with_node node after) board (stands_still true block.frame order after within g.taken) refl in
      let own : IsKept after.board (Block block) = (g.table ∙ sym (board ∙ table), g.fits, counts_some tag (page_bytes order) block.cell.held (ap (λ b. b.holds) g.given)) in
      record { stands = rest.stands; frames_are = rest.frames_are; few = rest.few; kept = kept_after r after.board keys now key (Block block) ok err rest.kept own; going = rest.going }
