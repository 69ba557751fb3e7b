-- What an op leaves of a worker, from what its parts did.
use Rattle.std.proofs.Common.{◌≡◌, ℕ, ◌+◌, ◌++◌, ◌≢◌, Bool, true, false, not, T, eqb, List, [], ◌∷◌, Option, Some, None, nat_cmp, map, refl, sym, ap, ◌∙◌, subst, append_assoc, add-zero, ne_eqb, eq-eqb, zero, suc, length, ◌-◌, arith}
use Rattle.std.specs.Prelude.{fold}
use Rattle.std.specs.List.{range_with_len}
use Rattle.std.proofs.lemmas.Nat.{pow_pos}
use Rattle.std.proofs.lemmas.List.FromFn.{length-map-range_with_len}
use Rattle.round_worker.specs.Parting.{with_parts}
use Rattle.std.proofs.lemmas.Bool.{cond-true, cond-false}
use Rattle.std.proofs.lemmas.List.{map-append}
use Rattle.trace_play.proofs.Entries.{find_kept}
use Rattle.std.specs.Prelude.{option_map, slice_get, unwrap_or, ◌*◌, ◌<◌, if◌then◌else◌}
use Rattle.std.specs.FinMap.Entries.{find, put, is_sorted}
use Rattle.tag_model.specs.declared.state.Tag.{Tag}
use Rattle.tag_model.specs.Moves.{Move}
use Rattle.tag_model.specs.RefMoves.{reference_to, open_moves, close_moves, split_moves, trim_moves, trimmed}
use Rattle.split_swap.specs.Parts.{parts_in}
use Rattle.tag_rule.specs.Shown.{CpuShown}
use Rattle.tag_ref.specs.Refs.{moved_by}
use Rattle.page_ext.specs.Blocks.{block_at, page_bytes}
use Rattle.page_ext.specs.Shown.{BlockShown, NodeShown}
use Rattle.page_ext.specs.Paging.{GivesBlock}
use Rattle.module_area.specs.declared.entry.Entry.{Entry}
use Rattle.slab_cache.specs.Storage as storage
use Rattle.slab_cache.specs.Storage.{Storage, has_cell, home_of}
use Rattle.slab_cache.specs.Giving.{Given, block_from, given_block, given_object}
use Rattle.slab_cache.specs.Homing.{come_home}
use Rattle.trace.specs.declared.traces.TraceOp.{TraceOp}
use Rattle.trace.specs.declared.traces.TraceOp.TheVariants as op
use Rattle.trace_play.specs.Live as live
use Rattle.trace_play.specs.Live.{Content, Live, Stored, content_at, held_of, is_nothing, order_of, part_in, part_key, split_live, swap_live, trim_live, with_held}
use Rattle.trace_play.specs.Worker.{WorkerState, allocated, closed, cpu_of, current_tag, done, freed, given_back, is_home, one_failed, one_given, sent_home, split, trim, with_live, with_moves, with_taken}
use Rattle.trace_play.specs.Worker as meant
use Rattle.trace_play.specs.Worker.{Tally}
use Rattle.trace_play.specs.Alone.{joined}
use Rattle.std.proofs.Math.Nat.{add_assoc}
use Rattle.round_worker.specs.declared.keys.Kept.{Kept}
use Rattle.round_worker.specs.declared.keys.Kept.TheVariants.{Nothing, Block}
use Rattle.round_worker.specs.declared.worker.Going.{Going}
use Rattle.round_worker.specs.Kept.{KeyList, content_of, exchanged, live_of}
use Rattle.round_worker.specs.Shown.{Leaves, WorkerShown, at_start, with_state}
use Rattle.slab_cache.specs.NodeLending.{with_node}
use Rattle.slab_cache.specs.Shown.{IsNow, SlabNodeShown, Stands, state_of}
use Rattle.round_worker.specs.Working.{going_storage, shown}
use Rattle.round_worker.proofs.Needs.{content_is}
use Rattle.round_worker.proofs.KeyLemmas.{live_find, live_put, live_rises, live_where, others, put_both, put_found, put_taken}

-- ---- what an op does comes behind what was done before

abbrev pub behind : Tally → WorkerState → WorkerState
behind before w = record w { tally = joined before w.tally }

abbrev tallied : WorkerState → List Move → ℕ → ℕ → WorkerState
tallied w moves failed uncounted = record w { tally = record { moves = moves; failed = failed; uncounted = uncounted } }

module _ (before : Tally) where
  one_failed_behind : (w : WorkerState) → one_failed (behind before w) ≡ behind before (one_failed w)
  one_failed_behind w = ap (λ (n : ℕ). tallied w (before.moves ++ w.tally.moves) n (before.uncounted + w.tally.uncounted)) (add_assoc before.failed w.tally.failed 1)

  given_behind : (what : Storage) (ms : List Move) (w : WorkerState) → one_given what (with_moves ms (behind before w)) ≡ behind before (one_given what (with_moves ms w))
  given_behind (storage.Pages block) ms w = ap (λ (all : List Move). tallied w all (before.failed + w.tally.failed) (before.uncounted + w.tally.uncounted)) (append_assoc before.moves w.tally.moves ms)
  given_behind (storage.Object home frame place vector holds) ms w =
      ap (λ (all : List Move). tallied w all (before.failed + w.tally.failed) (before.uncounted + w.tally.uncounted)) (append_assoc before.moves w.tally.moves ms)
  given_behind (storage.Uncounted home frame place) ms w =
      λ i. tallied w (append_assoc before.moves w.tally.moves ms i) (before.failed + w.tally.failed) (add_assoc before.uncounted w.tally.uncounted 1 i)

  allocated_behind : (key order : ℕ) (given : Option Given) (w : WorkerState) → allocated key order given (behind before w) ≡ behind before (allocated key order given w)
  allocated_behind key order None w = one_failed_behind (with_live (live.put key (live.Nothing order) w.live) w)
  allocated_behind key order (Some given) w = given_behind given.storage given.moves (meant.with_node given.node (with_live (live.put key (Stored given.storage) w.live) w))

  moved_behind : (ms : List Move) (w : WorkerState) → with_moves ms (behind before w) ≡ behind before (with_moves ms w)
  moved_behind ms w = ap (λ (all : List Move). tallied w all (before.failed + w.tally.failed) (before.uncounted + w.tally.uncounted)) (append_assoc before.moves w.tally.moves ms)

  back_behind : (content : Content) (ms : List Move) (w : WorkerState) → given_back content (with_moves ms (behind before w)) ≡ behind before (given_back content (with_moves ms w))
  back_behind (live.Nothing order) ms w = moved_behind ms w
  back_behind (Stored given) ms w = by (is_home given w)
    where
      by : (b : Bool) → (if b then with_taken (come_home given w.seat.node) (with_moves ms (behind before w)) else sent_home given (with_moves ms (behind before w)))
          ≡ behind before (if b then with_taken (come_home given w.seat.node) (with_moves ms w) else sent_home given (with_moves ms w))
      by true =
          ap (with_taken (come_home given w.seat.node)) (moved_behind ms w)
          ∙ moved_behind (come_home given w.seat.node).moves (meant.with_node (come_home given w.seat.node).node (with_moves ms w))
      by false = ap (sent_home given) (moved_behind ms w)

  -- what an op does comes behind what was done before
  pub done_behind : (entries : List Entry) (what : TraceOp) (w : WorkerState) → done entries what (behind before w) ≡ behind before (done entries what w)
  done_behind entries (op.Page key order) w = allocated_behind key order (given_block (current_tag w) order w.seat.node) w
  done_behind entries (op.Kmalloc key size) w = allocated_behind key 0 (given_object (current_tag w) size w.seat.node) w
  done_behind entries (op.Free key) w = back_behind (content_at key w.live) (close_moves (cpu_of w) (held_of (content_at key w.live))) (with_live (live.without key w.live) w)
  done_behind entries (op.Split key order first) w =
      moved_behind (split_moves (cpu_of w) (parts_in order (order_of (content_at key w.live))) (held_of (content_at key w.live))) (with_live (split_live key order first w.live) w)
  done_behind entries (op.Swap one two) w = refl
  done_behind entries (op.Trim key pages) w =
      moved_behind (trim_moves (cpu_of w) (pages * 4096) (held_of (content_at key w.live))) (with_live (trim_live key (pages * 4096) w.live) w)
  done_behind entries (op.Hook section index) w = refl
  done_behind entries op.Unhook w = refl
  done_behind entries (op.Enter section) w = refl
  done_behind entries (op.Leave section) w = refl
  done_behind entries (op.Unload section) w = refl

-- a worker of which nothing more is counted
pub still : (w : WorkerShown) → w ≡ record w { failed = w.failed + 0; uncounted = w.uncounted + 0 }
still w = λ i. record w { failed = sym (add-zero w.failed) i; uncounted = sym (add-zero w.uncounted) i }

pub one_more_missing : (given : Storage) (n : ℕ) → n + (if has_cell given then 0 else 1) ≡ (if has_cell given then n else n + 1)
one_more_missing (storage.Pages block) n = omega arith
one_more_missing (storage.Object home frame place vector holds) n = omega arith
one_more_missing (storage.Uncounted home frame place) n = refl

-- ---- the worker

module _ (node : SlabNodeShown) (hooks : List Tag) (keys : KeyList) (returning : List Going) (entries : List Entry) (failed uncounted : ℕ) where
  abbrev me : WorkerShown
  me = shown node hooks keys returning entries failed uncounted

  -- the worker with other keys
  abbrev keyed : Live → ℕ → ℕ → WorkerShown
  keyed now lost without = record me { live = now; failed = lost; uncounted = without }

  pub nothing_given : (key order : ℕ) (now : KeyList) → now ≡ put nat_cmp key (Nothing order) keys
      → shown node hooks now returning entries (failed + 1) uncounted ≡ with_state (allocated key order None (at_start me)) me
  nothing_given key order now is = λ i. keyed ((ap live_of is ∙ live_put key (Nothing order) keys) i) (failed + 1) (sym (add-zero uncounted) i)

  pub object_given : (key : ℕ) (kept : Kept) (given : Storage) (now : KeyList) (without : ℕ) → now ≡ put nat_cmp key kept keys → content_of kept ≡ Stored given
      → without ≡ (if has_cell given then uncounted else uncounted + 1)
      → shown node hooks now returning entries failed without ≡ with_state (one_given given (with_live (live.put key (Stored given) (live_of keys)) (at_start me))) me
  object_given key kept given now without is same count =
      by given (ap live_of is ∙ live_put key kept keys ∙ ap (λ (c : Content). live.put key c (live_of keys)) same) count
    where
      by : (what : Storage) → live_of now ≡ live.put key (Stored given) (live_of keys) → without ≡ (if has_cell what then uncounted else uncounted + 1)
          → shown node hooks now returning entries failed without ≡ with_state (one_given what (with_live (live.put key (Stored given) (live_of keys)) (at_start me))) me
      by (storage.Pages block) l n = λ i. keyed (l i) (sym (add-zero failed) i) ((n ∙ sym (add-zero uncounted)) i)
      by (storage.Object home frame place vector holds) l n = λ i. keyed (l i) (sym (add-zero failed) i) ((n ∙ sym (add-zero uncounted)) i)
      by (storage.Uncounted home frame place) l n = λ i. keyed (l i) (sym (add-zero failed) i) (n i)

  pub page_given : (key order : ℕ) (block : BlockShown) (after : NodeShown) (now : KeyList) (cpu cpu_after : CpuShown) → node.node.node.cpu ≡ cpu.part.number
      → GivesBlock (slice_get hooks 0) order node.node after cpu cpu_after block → now ≡ put nat_cmp key (Block block) keys
      → Leaves (done entries (op.Page key order) (at_start me)) me (shown (with_node node after) hooks now returning entries failed uncounted) cpu cpu_after
  page_given key order block after now cpu cpu_after own g is =
      let tag = slice_get hooks 0 in
      let left = state_of node in
      let bound : live_of now ≡ live.put key (Stored (storage.Pages (block_at tag node.node.node.cpu order block.frame))) (live_of keys) =
      ap live_of is ∙ live_put key (Block block) keys ∙ ap (λ b. live.put key (Stored (storage.Pages b)) (live_of keys)) g.given in
      subst (λ (start : Option ℕ). Leaves (allocated key order (option_map (block_from tag order left) start) (at_start me)) me (shown (with_node node after) hooks now returning entries failed uncounted) cpu cpu_after)
      (sym g.start)
      (record {
        worker = λ i. record {
          board = (g.taken i).board;
          cpu = (g.taken i).node.cpu;
          seat = record { node = record left { node = (g.taken i).node }; hooks = hooks; returning = me.seat.returning };
          live = bound i;
          entries = entries;
          failed = sym (add-zero failed) i;
          uncounted = sym (add-zero uncounted) i;
        };
        moves = g.moves ∙ ap (λ (n : ℕ). moved_by (open_moves n (reference_to tag (page_bytes order))) cpu) (sym own);
      })

  -- ---- trims and exchanges

  pub trimmed_so : (key bytes : ℕ) (kept new : Kept) (taken now : KeyList) (cpu cpu_after : CpuShown) → node.node.node.cpu ≡ cpu.part.number → T (is_sorted nat_cmp keys)
      → Some kept ≡ find nat_cmp key keys → taken ≡ others key keys → now ≡ put nat_cmp key new taken → content_of new ≡ with_held (trimmed bytes) (content_of kept)
      → cpu_after ≡ moved_by (trim_moves cpu.part.number bytes (held_of (content_of kept))) cpu
      → Leaves (trim key bytes (at_start me)) me (shown node hooks now returning entries failed uncounted) cpu cpu_after
  trimmed_so key bytes kept new taken now cpu cpu_after own r found out in_ same moves =
      let before : content_of kept ≡ content_at key (live_of keys) = sym (ap (λ o. unwrap_or o (live.Nothing 0)) (live_find key keys ∙ ap (option_map content_of) (sym found))) in
      let bound : live_of now ≡ live.put key (with_held (trimmed bytes) (content_of kept)) (live_of keys) =
      ap live_of (in_ ∙ ap (λ (es : KeyList). put nat_cmp key new es) out ∙ put_taken key new keys r) ∙ live_put key new keys ∙ ap (λ (c : Content). live.put key c (live_of keys)) same in
      subst (λ (c : Content). Leaves (with_moves (trim_moves node.node.node.cpu bytes (held_of c)) (with_live (live.put key (with_held (trimmed bytes) c) (live_of keys)) (at_start me))) me (shown node hooks now returning entries failed uncounted) cpu cpu_after)
      before
      (record {
        worker = ap (λ (l : Live). keyed l failed uncounted) bound ∙ still _;
        moves = moves ∙ ap (λ (n : ℕ). moved_by (trim_moves n bytes (held_of (content_of kept))) cpu) (sym own);
      })

  swapped_live : (one two : ℕ) (a b : Content) (l : Live) → T (is_sorted nat_cmp l) → find nat_cmp one l ≡ Some a → find nat_cmp two l ≡ Some b
      → live.put one (exchanged a b) (live.put two (exchanged b a) l)
      ≡ (if is_nothing a then l else (if is_nothing b then l else live.put one (with_held (λ _. held_of b) a) (live.put two (with_held (λ _. held_of a) b) l)))
  swapped_live one two a b l r first second = by (is_nothing a) (is_nothing b)
    where
      as_before : live.put one a (live.put two b l) ≡ l
      as_before = ap (live.put one a) (put_found two b l r second) ∙ put_found one a l r first

      by : (x y : Bool) → live.put one (if x then a else (if y then a else with_held (λ _. held_of b) a)) (live.put two (if y then b else (if x then b else with_held (λ _. held_of a) b)) l)
          ≡ (if x then l else (if y then l else live.put one (with_held (λ _. held_of b) a) (live.put two (with_held (λ _. held_of a) b) l)))
      by true true = as_before
      by true false = as_before
      by false true = as_before
      by false false = refl

  pub swapped_so : (one two : ℕ) (a b a_after b_after : Kept) (out gone back now : KeyList) (cpu cpu_after : CpuShown) → one ≢ two → T (is_sorted nat_cmp keys)
      → Some a ≡ find nat_cmp one keys → out ≡ others one keys → Some b ≡ find nat_cmp two out → gone ≡ others two out → back ≡ put nat_cmp two b_after gone → now ≡ put nat_cmp one a_after back
      → content_of a_after ≡ exchanged (content_of a) (content_of b) → content_of b_after ≡ exchanged (content_of b) (content_of a) → cpu_after ≡ cpu
      → Leaves (done entries (op.Swap one two) (at_start me)) me (shown node hooks now returning entries failed uncounted) cpu cpu_after
  swapped_so one two a b a_after b_after out gone back now cpu cpu_after differ r first out_is second gone_is back_is now_is a_is b_is same =
      let l = live_of keys in
      let there : find nat_cmp two keys ≡ Some b =
      sym (second ∙ ap (λ (es : KeyList). find nat_cmp two es) out_is ∙ find_kept (λ k. not (eqb k one)) two keys
      ∙ cond-true (not (eqb two one)) (find nat_cmp two keys) None (ap not (ne_eqb two one (λ e. differ (sym e))))) in
      let first_live : find nat_cmp one l ≡ Some (content_of a) = live_find one keys ∙ ap (option_map content_of) (sym first) in
      let second_live : find nat_cmp two l ≡ Some (content_of b) = live_find two keys ∙ ap (option_map content_of) there in
      let a_at : content_of a ≡ content_at one l = ap (λ o. unwrap_or o (live.Nothing 0)) (sym first_live) in
      let b_at : content_of b ≡ content_at two l = ap (λ o. unwrap_or o (live.Nothing 0)) (sym second_live) in
      let all : now ≡ put nat_cmp one a_after (put nat_cmp two b_after keys) =
      now_is ∙ ap (put nat_cmp one a_after) (back_is ∙ ap (put nat_cmp two b_after) (gone_is ∙ ap (others two) out_is)) ∙ put_both one two a_after b_after keys differ r in
      let bound : live_of now ≡ live.put one (exchanged (content_of a) (content_of b)) (live.put two (exchanged (content_of b) (content_of a)) l) =
      ap live_of all ∙ live_put one a_after (put nat_cmp two b_after keys) ∙ (λ i. live.put one (a_is i) (live_put two b_after keys i)) ∙ ap (λ (c : Content). live.put one (exchanged (content_of a) (content_of b)) (live.put two c l)) b_is in
      let by_contents = λ (x y : Content). if is_nothing x then l else (if is_nothing y then l else live.put one (with_held (λ _. held_of y) x) (live.put two (with_held (λ _. held_of x) y) l)) in
      let swapped : live_of now ≡ swap_live one two l =
      bound ∙ swapped_live one two (content_of a) (content_of b) l (subst T (sym (live_rises keys)) r) first_live second_live ∙ (λ i. by_contents (a_at i) (b_at i)) in
      record { worker = ap (λ (l : Live). keyed l failed uncounted) swapped ∙ still _; moves = same }

  -- ---- frees

  pub came_home : (given : Storage) (moves : List Move) (after : SlabNodeShown) (cpu cpu_after : CpuShown) → home_of given ≡ node.node.node.cpu → Stands node → IsNow (come_home given (state_of node)).node node after
      → cpu_after ≡ moved_by (moves ++ (come_home given (state_of node)).moves) cpu
      → Leaves (given_back (Stored given) (with_moves moves (at_start me))) me (shown after hooks keys returning entries failed uncounted) cpu cpu_after
  came_home given moves after cpu cpu_after own stands now moved =
      let w = with_moves moves (at_start me) in
      subst (λ (s : WorkerState). Leaves s me (shown after hooks keys returning entries failed uncounted) cpu cpu_after)
      (sym (cond-true (is_home given w) (with_taken (come_home given (state_of node)) w) (sent_home given w) (eq-eqb (home_of given) node.node.node.cpu own)))
      (record {
        worker = λ i. record {
          board = now.board i;
          cpu = (now.stands.own ∙ now.cpu ∙ sym stands.own) i;
          seat = record { node = now.is i; hooks = hooks; returning = me.seat.returning };
          live = live_of keys;
          entries = entries;
          failed = sym (add-zero failed) i;
          uncounted = sym (add-zero uncounted) i;
        };
        moves = moved;
      })

  pub sent_away : (given : Storage) (moves : List Move) (going : Going) (now : List Going) (cpu cpu_after : CpuShown) → home_of given ≢ node.node.node.cpu → going_storage going ≡ closed given
      → now ≡ returning ++ going ∷ [] → cpu_after ≡ moved_by moves cpu
      → Leaves (given_back (Stored given) (with_moves moves (at_start me))) me (shown node hooks keys now entries failed uncounted) cpu cpu_after
  sent_away given moves going now cpu cpu_after other same is moved =
      let w = with_moves moves (at_start me) in
      let sent : map going_storage now ≡ map going_storage returning ++ closed given ∷ [] =
      ap (map going_storage) is ∙ map-append going_storage returning (going ∷ []) ∙ ap (λ (s : Storage). map going_storage returning ++ s ∷ []) same in
      subst (λ (s : WorkerState). Leaves s me (shown node hooks keys now entries failed uncounted) cpu cpu_after)
      (sym (cond-false (is_home given w) (with_taken (come_home given (state_of node)) w) (sent_home given w) (ne_eqb (home_of given) node.node.node.cpu other)))
      (record { worker = ap (λ (ss : List Storage). record me { seat = record me.seat { returning = ss } }) sent ∙ still _; moves = moved })

  -- the key is taken, and then what it had is given back
  pub freed_so : (key : ℕ) (kept : Kept) (taken : KeyList) (new : WorkerShown) (cpu cpu_after : CpuShown) → node.node.node.cpu ≡ cpu.part.number → Some kept ≡ find nat_cmp key keys → taken ≡ others key keys
      → Leaves (given_back (content_of kept) (with_moves (close_moves cpu.part.number (held_of (content_of kept))) (at_start (shown node hooks taken returning entries failed uncounted)))) (shown node hooks taken returning entries failed uncounted) new cpu cpu_after
      → Leaves (freed key (at_start me)) me new cpu cpu_after
  freed_so key kept taken new cpu cpu_after own found out leaves =
      let gone : live_of taken ≡ live.without key (live_of keys) = ap live_of out ∙ live_where (λ other. not (eqb other key)) keys in
      let begin : Live → WorkerState = λ l. at_start (record me { live = l }) in
      let back : ℕ → Content → Live → WorkerState = λ n content l. given_back content (with_moves (close_moves n (held_of content)) (begin l)) in
      let same : back cpu.part.number (content_of kept) (live_of taken) ≡ freed key (at_start me) =
      λ i. back (sym own i) (sym (content_is key keys kept found) i) (gone i) in
      record { worker = leaves.worker ∙ ap (λ (s : WorkerState). with_state s me) same; moves = leaves.moves ∙ ap (λ (s : WorkerState). moved_by s.tally.moves cpu) same }

  pub nothing_freed : (key : ℕ) (taken : KeyList) (cpu : CpuShown) → None ≡ find nat_cmp key keys → taken ≡ others key keys
      → Leaves (freed key (at_start me)) me (shown node hooks taken returning entries failed uncounted) cpu cpu
  nothing_freed key taken cpu none out =
      let gone : live_of taken ≡ live.without key (live_of keys) = ap live_of out ∙ live_where (λ other. not (eqb other key)) keys in
      let empty : live.Nothing 0 ≡ content_at key (live_of keys) = ap (λ o. unwrap_or o (live.Nothing 0)) (ap (option_map content_of) none ∙ sym (live_find key keys)) in
      let back : Content → Live → WorkerState = λ content l. given_back content (with_moves (close_moves node.node.node.cpu (held_of content)) (at_start (record me { live = l }))) in
      let same : back (live.Nothing 0) (live_of taken) ≡ freed key (at_start me) = λ i. back (empty i) (gone i) in
      record { worker = still _ ∙ ap (λ (s : WorkerState). with_state s me) same; moves = ap (λ (s : WorkerState). moved_by s.tally.moves cpu) same }

  -- ---- splits

  -- parts that are put one after the other, the first at the key that was taken
  parts_live : (key first : ℕ) (part : ℕ → Content) (kepts : ℕ → Kept) → ((place : ℕ) → content_of (kepts place) ≡ part place) → (count place : ℕ) (into : KeyList)
      → live_of (with_parts key first (map kepts (range_with_len place count)) place into) ≡ fold (λ parts n. live.put (part_key key first n) (part n) parts) (live_of into) (range_with_len place count)
  parts_live key first part kepts same zero place into = refl
  parts_live key first part kepts same (suc count) place into =
      parts_live key first part kepts same count (place + 1) (put nat_cmp (part_key key first place) (kepts place) into)
      ∙ ap (λ (l : Live). fold (λ parts n. live.put (part_key key first n) (part n) parts) l (range_with_len (place + 1) count))
      (live_put (part_key key first place) (kepts place) into ∙ ap (λ (c : Content). live.put (part_key key first place) c (live_of into)) (same place))

  parts_taken : (key first : ℕ) (kepts : List Kept) → T (is_sorted nat_cmp keys) → 0 < length kepts → with_parts key first kepts 0 (others key keys) ≡ with_parts key first kepts 0 keys
  parts_taken key first [] r some = absurd (omega arith)
  parts_taken key first (kept ∷ kepts) r some = ap (λ (ks : KeyList). with_parts key first kepts 1 ks) (put_taken key kept keys r)

  pub split_so : (key order first : ℕ) (kept : Kept) (kepts : ℕ → Kept) (taken now : KeyList) (cpu cpu_after : CpuShown) → node.node.node.cpu ≡ cpu.part.number → T (is_sorted nat_cmp keys)
      → Some kept ≡ find nat_cmp key keys → taken ≡ others key keys
      → ((place : ℕ) → content_of (kepts place) ≡ part_in order place (content_of kept))
      → now ≡ with_parts key first (map kepts (range_with_len 0 (parts_in order (order_of (content_of kept))))) 0 taken
      → cpu_after ≡ moved_by (split_moves cpu.part.number (parts_in order (order_of (content_of kept))) (held_of (content_of kept))) cpu
      → Leaves (split key order first (at_start me)) me (shown node hooks now returning entries failed uncounted) cpu cpu_after
  split_so key order first kept kepts taken now cpu cpu_after own r found out same is moves =
      let count = parts_in order (order_of (content_of kept)) in
      let all = map kepts (range_with_len 0 count) in
      let some : 0 < length all = omega (arith, length-map-range_with_len kepts 0 count, pow_pos (order_of (content_of kept) - order)) in
      let into : Content → Live = λ content. fold (λ parts n. live.put (part_key key first n) (part_in order n content) parts) (live_of keys) (range_with_len 0 (parts_in order (order_of content))) in
      let bound : live_of now ≡ into (content_of kept) =
      ap live_of (is ∙ ap (with_parts key first all 0) out ∙ parts_taken key first all r some) ∙ parts_live key first (λ n. part_in order n (content_of kept)) kepts same count 0 keys in
      let before : content_of kept ≡ content_at key (live_of keys) = sym (content_is key keys kept found) in
      subst (λ (c : Content). Leaves (with_moves (split_moves node.node.node.cpu (parts_in order (order_of c)) (held_of c)) (with_live (into c) (at_start me))) me (shown node hooks now returning entries failed uncounted) cpu cpu_after)
      before
      (record {
        worker = ap (λ (l : Live). keyed l failed uncounted) bound ∙ still _;
        moves = moves ∙ ap (λ (n : ℕ). moved_by (split_moves n count (held_of (content_of kept))) cpu) (sym own);
      })
