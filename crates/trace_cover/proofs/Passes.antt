-- What the ops of a CPU leave under tags that pass a test, where its hooks and its keys had such tags alone.
use Rattle.std.proofs.Common.{◌≡◌, ℕ, Bool, true, false, cond, List, [], ◌∷◌, Option, Some, None, nat_cmp, Less, Equal, Greater, Ordering, refl, sym, ap, ◌∙◌}
use Rattle.std.specs.Prelude.{⊤, ◌+◌, ◌&&◌, if◌then◌else◌, drop, slice_get, ◌*◌}
use Rattle.std.specs.List.{list_all, range_with_len}
use Rattle.std.specs.Option.{unwrap_or, option_map}
use Rattle.std.specs.Ordering.{eq_by_cmp}
use Rattle.std.specs.FinMap.Entries.{by_order, find, put, where_key}
use Rattle.tag_model.specs.declared.state.Held.{Held}
use Rattle.tag_model.specs.declared.state.Held.TheVariants as held
use Rattle.tag_model.specs.declared.state.Tag.{Tag}
use Rattle.tag_model.specs.RefMoves.{part_of, trimmed, reference_to}
use Rattle.module_area.specs.declared.entry.Entry.{Entry}
use Rattle.slab_cache.specs.Slabs.{NodeState, Slab, open_frame, slab_at, lowest_vector, new_slab}
use Rattle.slab_cache.specs.Classes.{class_of, order_of}
use Rattle.slab_cache.specs.Storage.{Pages, Object, Uncounted, has_cell, object_at}
use Rattle.slab_cache.specs.Homing.{come_home}
use Rattle.slab_cache.specs.Giving.{Given, given_block, given_object, block_from, object_from, object_from_new, object_or_block, slab_or_new, start_in}
use Rattle.split_swap.specs.Parts.{parts_in}
use Rattle.trace.specs.declared.traces.TraceOp.{TraceOp}
use Rattle.trace.specs.declared.traces.TraceOp.TheVariants as op
use Rattle.trace_play.specs.Live as live
use Rattle.trace_play.specs.Live.{Content, Nothing, Stored, Live, content_at, is_nothing, part_in, part_key, split_live, swap_live, trim_live, with_held, without}
use Rattle.trace_play.specs.Worker.{WorkerState, with_live, with_moves, with_node, allocated, all_done, current_tag, done, given_back, is_home, sent_home, tag_in, with_taken}
use Rattle.trace_play.specs.Fitting.{Fit, HookFits}
use Rattle.trace_play.proofs.Rising.{fold_keeps}
use Rattle.trace_cover.specs.Cover.{held_may}

module _ (may : Tag → Bool) where
  -- ---- live lists

  abbrev pub content_may : Content → Bool
  content_may content = held_may may (live.held_of content)

  abbrev pub AllMay : Live → Type 0
  AllMay [] = ⊤
  AllMay (entry ∷ entries) = (content_may entry.1 ≡ true) × AllMay entries

  pub put_may : (key : ℕ) (content : Content) (entries : Live) → content_may content ≡ true → AllMay entries → AllMay (put nat_cmp key content entries)
  put_may key content [] c a = (c, tt)
  put_may key content (e ∷ entries) c a = by (nat_cmp key e.0) (put_may key content entries c a.1)
    where
      by : (o : Ordering) → AllMay (put nat_cmp key content entries) → AllMay (by_order o ((key, content) ∷ e ∷ entries) ((e.0, content) ∷ entries) (e ∷ put nat_cmp key content entries))
      by Less later = (c, a)
      by Equal later = (c, a.1)
      by Greater later = (a.0, later)

  pub where_may : (p : ℕ → Bool) (entries : Live) → AllMay entries → AllMay (where_key nat_cmp p entries)
  where_may p [] a = tt
  where_may p (e ∷ entries) a = by (p e.0) (where_may p entries a.1)
    where
      by : (b : Bool) → AllMay (where_key nat_cmp p entries) → AllMay (cond b (e ∷ where_key nat_cmp p entries) (where_key nat_cmp p entries))
      by true later = (a.0, later)
      by false later = later

  pub at_may : (key : ℕ) (entries : Live) → AllMay entries → content_may (content_at key entries) ≡ true
  at_may key [] a = refl
  at_may key (e ∷ entries) a = by (eq_by_cmp nat_cmp key e.0) (at_may key entries a.1)
    where
      by : (b : Bool) → content_may (unwrap_or (find nat_cmp key entries) (Nothing 0)) ≡ true → content_may (unwrap_or (cond b (Some e.1) (find nat_cmp key entries)) (Nothing 0)) ≡ true
      by true later = a.0
      by false later = later

  pub found_may : (key : ℕ) (content : Content) (entries : Live) → AllMay entries → find nat_cmp key entries ≡ Some content → content_may content ≡ true
  found_may key content entries a e = sym (ap (λ o. content_may (unwrap_or o (Nothing 0))) e) ∙ at_may key entries a

  -- ---- contents

  part_held : (parts : ℕ) (h : Held) → held_may may h ≡ true → held_may may (part_of parts h) ≡ true
  part_held parts held.None h = refl
  part_held parts held.Empty h = refl
  part_held parts (held.Counted tag size) h = h

  trimmed_held : (bytes : ℕ) (h : Held) → held_may may h ≡ true → held_may may (trimmed bytes h) ≡ true
  trimmed_held bytes held.None h = refl
  trimmed_held bytes held.Empty h = refl
  trimmed_held bytes (held.Counted tag size) h = h

  part_may : (order place : ℕ) (content : Content) → content_may content ≡ true → content_may (part_in order place content) ≡ true
  part_may order place (Nothing whole) c = refl
  part_may order place (Stored (Pages block)) c = part_held (parts_in order block.order) block.holds c
  part_may order place (Stored (Object home frame part vector holds)) c = c
  part_may order place (Stored (Uncounted home frame part)) c = c

  with_may : (change : Held → Held) (content : Content) → ((h : Held) → held_may may h ≡ true → held_may may (change h) ≡ true) → content_may content ≡ true → content_may (with_held change content) ≡ true
  with_may change (Nothing whole) keeps c = refl
  with_may change (Stored (Pages block)) keeps c = keeps block.holds c
  with_may change (Stored (Object home frame part vector holds)) keeps c = c
  with_may change (Stored (Uncounted home frame part)) keeps c = c

  -- ---- what is given

  abbrev TagMay : Option Tag → Type 0
  TagMay None = ⊤
  TagMay (Some tag) = may tag ≡ true

  reference_may : (tag : Option Tag) (bytes : ℕ) → TagMay tag → held_may may (reference_to tag bytes) ≡ true
  reference_may None bytes t = refl
  reference_may (Some tag) bytes t = t

  abbrev IfGiven : Option Given → Type 0
  IfGiven None = ⊤
  IfGiven (Some given) = content_may (Stored given.storage) ≡ true

  block_may : (tag : Option Tag) (order : ℕ) (node : NodeState) → TagMay tag → IfGiven (given_block tag order node)
  block_may tag order node t = by (start_in order node)
    where
      by : (start : Option ℕ) → IfGiven (option_map (block_from tag order node) start)
      by None = tt
      by (Some start) = reference_may tag _ t

  place_may : (home frame place : ℕ) (vector : Option ℕ) (h : Held) → held_may may h ≡ true → content_may (Stored (object_at home frame place vector h)) ≡ true
  place_may home frame place None h m = refl
  place_may home frame place (Some vector) h m = m

  object_may : (tag : Option Tag) (size : ℕ) (node : NodeState) → TagMay tag → IfGiven (given_object tag size node)
  object_may tag size node t = by_class (class_of size)
    where
      by_slab : (class frame : ℕ) (slab : Option Slab) → IfGiven (option_map (object_from tag class frame node) slab)
      by_slab class frame None = tt
      by_slab class frame (Some slab) = place_may node.node.cpu frame _ slab.vector (reference_to tag class) (reference_may tag class t)

      by_start : (class : ℕ) (start : Option ℕ) → IfGiven (option_map (object_from_new tag class node) start)
      by_start class None = tt
      by_start class (Some start) = place_may _ start _ (new_slab class (lowest_vector node)).vector (reference_to tag class) (reference_may tag class t)

      by_frame : (class : ℕ) (frame : Option ℕ) → IfGiven (slab_or_new tag class node frame)
      by_frame class None = by_start class _
      by_frame class (Some frame) = by_slab class frame (slab_at frame node)

      by_class : (class : Option ℕ) → IfGiven (object_or_block tag size node class)
      by_class None = block_may tag (order_of size) node t
      by_class (Some class) = by_frame class (open_frame class node)

  -- ---- the ops

  abbrev pub WorkerMay : WorkerState → Type 0
  WorkerMay w = (list_all may w.seat.hooks ≡ true) × AllMay w.live

  current_may : (hooks : List Tag) → list_all may hooks ≡ true → TagMay (slice_get hooks 0)
  current_may [] h = tt
  current_may (tag ∷ hooks) h = first (may tag) h
    where
      first : (b : Bool) → (b && list_all may hooks) ≡ true → b ≡ true
      first true e = refl
      first false e = e

  allocated_may : (key order : ℕ) (given : Option Given) (w : WorkerState) → IfGiven given → WorkerMay w → WorkerMay (allocated key order given w)
  allocated_may key order None w g m = (m.0, put_may key (Nothing order) w.live refl m.1)
  allocated_may key order (Some given) w g m = by (has_cell given.storage) (m.0, put_may key (Stored given.storage) w.live g m.1)
    where
      now : WorkerState
      now = with_moves given.moves (with_node given.node (with_live (put nat_cmp key (Stored given.storage) w.live) w))

      by : (b : Bool) → WorkerMay now → WorkerMay (if b then now else record now { tally = record now.tally { uncounted = now.tally.uncounted + 1 } })
      by true h = h
      by false h = h

  given_back_may : (content : Content) (w : WorkerState) → WorkerMay w → WorkerMay (given_back content w)
  given_back_may (Nothing order) w m = m
  given_back_may (Stored given) w m = by (is_home given w)
    where
      by : (b : Bool) → WorkerMay (if b then with_taken (come_home given w.seat.node) w else sent_home given w)
      by true = m
      by false = m

  swap_may : (one two : ℕ) (entries : Live) → AllMay entries → AllMay (swap_live one two entries)
  swap_may one two entries a = by (is_nothing (content_at one entries)) (is_nothing (content_at two entries))
    where
      first : Content
      first = content_at one entries

      second : Content
      second = content_at two entries

      by : (p q : Bool) → AllMay (if p then entries else (if q then entries else put nat_cmp one (with_held (λ _. live.held_of second) first) (put nat_cmp two (with_held (λ _. live.held_of first) second) entries)))
      by true q = a
      by false true = a
      by false false =
          put_may one _ _ (with_may (λ _. live.held_of second) first (λ h m. at_may two entries a) (at_may one entries a))
          (put_may two _ entries (with_may (λ _. live.held_of first) second (λ h m. at_may one entries a) (at_may two entries a)) a)

  split_may : (key order first : ℕ) (entries : Live) → AllMay entries → AllMay (split_live key order first entries)
  split_may key order first entries a =
      let whole = content_at key entries in
      fold_keeps AllMay (λ parts place. put nat_cmp (part_key key first place) (part_in order place whole) parts)
      (λ parts place m. put_may (part_key key first place) _ parts (part_may order place whole (at_may key entries a)) m) (range_with_len 0 (parts_in order (live.order_of whole))) entries a

  drop_may : (hooks : List Tag) → list_all may hooks ≡ true → list_all may (drop 1 hooks) ≡ true
  drop_may [] h = refl
  drop_may (tag ∷ hooks) h = second (may tag) h
    where
      second : (b : Bool) → (b && list_all may hooks) ≡ true → list_all may hooks ≡ true
      second true e = e
      second false e = let no : ⊥ = cc in absurd no

  op_may : (entries : List Entry) (what : TraceOp) (w : WorkerState) → HookFits may entries what w → WorkerMay w → WorkerMay (done entries what w)
  op_may entries (op.Page key order) w f m = allocated_may key order _ w (block_may (current_tag w) order w.seat.node (current_may w.seat.hooks m.0)) m
  op_may entries (op.Kmalloc key size) w f m = allocated_may key 0 _ w (object_may (current_tag w) size w.seat.node (current_may w.seat.hooks m.0)) m
  op_may entries (op.Free key) w f m = given_back_may (content_at key w.live) _ (m.0, where_may _ w.live m.1)
  op_may entries (op.Split key order first) w f m = (m.0, split_may key order first w.live m.1)
  op_may entries (op.Swap one two) w f m = (m.0, swap_may one two w.live m.1)
  op_may entries (op.Trim key pages) w f m = (m.0, put_may key _ w.live (with_may (trimmed (pages * 4096)) (content_at key w.live) (trimmed_held (pages * 4096)) (at_may key w.live m.1)) m.1)
  op_may entries (op.Hook section index) w f m = (both (may (tag_in entries section index)) f.1 m.0, m.1)
    where
      both : (b : Bool) {c : Bool} → b ≡ true → c ≡ true → (b && c) ≡ true
      both true e h = h
      both false e h = e
  op_may entries op.Unhook w f m = (drop_may w.seat.hooks m.0, m.1)
  op_may entries (op.Enter section) w f m = m
  op_may entries (op.Leave section) w f m = m
  op_may entries (op.Unload section) w f m = m

  pub ops_may : (entries : List Entry) (ops : List TraceOp) (w : WorkerState) → Fit may entries ops w → WorkerMay w → WorkerMay (all_done entries ops w)
  ops_may entries [] w f m = m
  ops_may entries (what ∷ ops) w f m = ops_may entries ops (done entries what w) f.1 (op_may entries what w f.0.hooks m)
