-- Op after op: what was done so far, and that the rest from here is the meaning of all from the start.
use Rattle.std.proofs.Common.{◌≡◌, ℕ, ◌+◌, ◌<◌, ◌≤◌, ◌^◌, Bool, true, false, List, [], ◌∷◌, ◌++◌, Option, Some, None, drop, length, refl, sym, ap, ◌∙◌, subst, append-nil, add-zero, arith, suc, get_or, map}
use Rattle.std.proofs.Math.Seq.{drop-cons}
use Rattle.trace.specs.declared.traces.OnOp.{OnOp}
use Rattle.std.specs.Prelude.{◌&&◌, if◌then◌else◌}
use Rattle.std.specs.Bool.{IsTrue}
use Rattle.std.specs.List.{list_all}
use Rattle.tag_model.specs.Moves.{Move}
use Rattle.tag_model.specs.RefMoves.{words_after_move, words_after_moves}
use Rattle.tag_model.specs.declared.state.Tag.{Tag}
use Rattle.tag_rule.specs.Shown.{CpuShown}
use Rattle.tag_ref.specs.Refs.{moved_by}
use Rattle.module_area.specs.declared.entry.Entry.{Entry}
use Rattle.slab_cache.specs.Storage as storage
use Rattle.slab_cache.specs.Storage.{Storage}
use Rattle.slab_cache.specs.Giving.{Given, given_block, given_object}
use Rattle.trace.specs.declared.traces.TraceOp.{TraceOp}
use Rattle.trace.specs.declared.traces.TraceOp.TheVariants as op
use Rattle.trace_play.specs.Live as live
use Rattle.trace_play.specs.Worker.{Tally}
use Rattle.std.proofs.Math.Nat.{add_assoc}
use Rattle.trace_play.specs.Live.{Content, Stored, content_at}
use Rattle.trace_play.specs.Worker.{WorkerState, all_done, allocated, current_tag, done, given_back, is_home, one_given}
use Rattle.trace_play.specs.Fitting.{Fit, FreeFits, HookFits, IsThere, OpNeeds}
use Rattle.round_worker.specs.Shown.{Leaves, Ready, WorkerShown, at_start, may_count, with_state}
use Rattle.round_worker.proofs.DoneLemmas.{behind, done_behind, still}

-- ---- moves

words_after_both : (cpu : ℕ) (words : List ℕ) (one two : List Move) → words_after_moves cpu words (one ++ two) ≡ words_after_moves cpu (words_after_moves cpu words one) two
words_after_both cpu words [] two = refl
words_after_both cpu words (move ∷ one) two = words_after_both cpu (words_after_move cpu words move) one two

pub moved_by_both : (one two : List Move) (cpu : CpuShown) → moved_by (one ++ two) cpu ≡ moved_by two (moved_by one cpu)
moved_by_both one two cpu = ap (λ (words : List ℕ). record cpu { part = record cpu.part { words = words } }) (words_after_both cpu.part.number cpu.part.words one two)

-- ---- hooks and counts of an op

module _ (test : Tag → Bool) where
  given_hooks : (what : Storage) (w : WorkerState) → (one_given what w).seat.hooks ≡ w.seat.hooks
  given_hooks (storage.Pages block) w = refl
  given_hooks (storage.Object home frame place vector holds) w = refl
  given_hooks (storage.Uncounted home frame place) w = refl

  allocated_hooks : (key order : ℕ) (given : Option Given) (w : WorkerState) → (allocated key order given w).seat.hooks ≡ w.seat.hooks
  allocated_hooks key order None w = refl
  allocated_hooks key order (Some given) w = given_hooks given.storage _

  either_hooks : (b : Bool) (x y : WorkerState) (hooks : List Tag) → x.seat.hooks ≡ hooks → y.seat.hooks ≡ hooks → (if b then x else y).seat.hooks ≡ hooks
  either_hooks true x y hooks p q = p
  either_hooks false x y hooks p q = q

  back_hooks : (content : Content) (w : WorkerState) → (given_back content w).seat.hooks ≡ w.seat.hooks
  back_hooks (live.Nothing order) w = refl
  back_hooks (Stored given) w = either_hooks (is_home given w) _ _ w.seat.hooks refl refl

  rest_pass : (tags : List Tag) → IsTrue (list_all test tags) → IsTrue (list_all test (drop 1 tags))
  rest_pass [] all = all
  rest_pass (tag ∷ tags) all = second (test tag) (list_all test tags) all
    where
      second : (a b : Bool) → IsTrue (a && b) → IsTrue b
      second true b e = e
      second false b e = let no : ⊥ = cc in absurd no

  one_more_pass : (tag : Tag) (tags : List Tag) → IsTrue (test tag) → IsTrue (list_all test tags) → IsTrue (list_all test (tag ∷ tags))
  one_more_pass tag tags one all = ap (λ b. b && list_all test tags) one ∙ all

  same_pass : (tags now : List Tag) → now ≡ tags → IsTrue (list_all test tags) → IsTrue (list_all test now)
  same_pass tags now is all = subst (λ (ts : List Tag). IsTrue (list_all test ts)) (sym is) all

  pub hooks_pass : (entries : List Entry) (what : TraceOp) (w : WorkerState) → HookFits test entries what w → IsTrue (list_all test w.seat.hooks) → IsTrue (list_all test (done entries what w).seat.hooks)
  hooks_pass entries (op.Page key order) w fits all = same_pass w.seat.hooks _ (allocated_hooks key order (given_block (current_tag w) order w.seat.node) w) all
  hooks_pass entries (op.Kmalloc key size) w fits all = same_pass w.seat.hooks _ (allocated_hooks key 0 (given_object (current_tag w) size w.seat.node) w) all
  hooks_pass entries (op.Free key) w fits all = same_pass w.seat.hooks _ (back_hooks (content_at key w.live) _) all
  hooks_pass entries (op.Split key order first) w fits all = all
  hooks_pass entries (op.Swap one two) w fits all = all
  hooks_pass entries (op.Trim key pages) w fits all = all
  hooks_pass entries (op.Hook section index) w fits all = one_more_pass _ w.seat.hooks fits.1 all
  hooks_pass entries op.Unhook w fits all = rest_pass w.seat.hooks all
  hooks_pass entries (op.Enter section) w fits all = all
  hooks_pass entries (op.Leave section) w fits all = all
  hooks_pass entries (op.Unload section) w fits all = all

-- at most one more of each is counted
record CountsFew (before after : WorkerState) : Type 0 where
  failed : after.tally.failed ≤ before.tally.failed + 1
  uncounted : after.tally.uncounted ≤ before.tally.uncounted + 1

no_more : (before after : WorkerState) → after.tally.failed ≡ before.tally.failed → after.tally.uncounted ≡ before.tally.uncounted → CountsFew before after
no_more before after f u = record { failed = omega (arith, f); uncounted = omega (arith, u) }

given_counts : (what : Storage) (before w : WorkerState) → w.tally.failed ≡ before.tally.failed → w.tally.uncounted ≡ before.tally.uncounted → CountsFew before (one_given what w)
given_counts (storage.Pages block) before w f u = no_more before w f u
given_counts (storage.Object home frame place vector holds) before w f u = no_more before w f u
given_counts (storage.Uncounted home frame place) before w f u = record { failed = omega (arith, f); uncounted = omega (arith, u) }

allocated_counts : (key order : ℕ) (given : Option Given) (w : WorkerState) → CountsFew w (allocated key order given w)
allocated_counts key order None w = record { failed = omega arith; uncounted = omega arith }
allocated_counts key order (Some given) w = given_counts given.storage w _ refl refl

either_counts : (b : Bool) (before x y : WorkerState) → CountsFew before x → CountsFew before y → CountsFew before (if b then x else y)
either_counts true before x y p q = p
either_counts false before x y p q = q

back_counts : (content : Content) (before w : WorkerState) → w.tally.failed ≡ before.tally.failed → w.tally.uncounted ≡ before.tally.uncounted → CountsFew before (given_back content w)
back_counts (live.Nothing order) before w f u = no_more before w f u
back_counts (Stored given) before w f u = either_counts (is_home given w) before _ _ (no_more before _ f u) (no_more before _ f u)

counts_few : (entries : List Entry) (what : TraceOp) (w : WorkerState) → CountsFew w (done entries what w)
counts_few entries (op.Page key order) w = allocated_counts key order (given_block (current_tag w) order w.seat.node) w
counts_few entries (op.Kmalloc key size) w = allocated_counts key 0 (given_object (current_tag w) size w.seat.node) w
counts_few entries (op.Free key) w = back_counts (content_at key w.live) w _ refl refl
counts_few entries (op.Split key order first) w = no_more w _ refl refl
counts_few entries (op.Swap one two) w = no_more w _ refl refl
counts_few entries (op.Trim key pages) w = no_more w _ refl refl
counts_few entries (op.Hook section index) w = no_more w _ refl refl
counts_few entries op.Unhook w = no_more w _ refl refl
counts_few entries (op.Enter section) w = no_more w _ refl refl
counts_few entries (op.Leave section) w = no_more w _ refl refl
counts_few entries (op.Unload section) w = no_more w _ refl refl

-- ---- what an op needs doesn't depend on what was done before

module _ (test : Tag → Bool) (entries : List Entry) (before : Tally) where
  hook_needs : (what : TraceOp) (w : WorkerState) → HookFits test entries what (behind before w) → HookFits test entries what w
  hook_needs (op.Page key order) w h = h
  hook_needs (op.Kmalloc key size) w h = h
  hook_needs (op.Free key) w h = h
  hook_needs (op.Split key order first) w h = h
  hook_needs (op.Swap one two) w h = h
  hook_needs (op.Trim key pages) w h = h
  hook_needs (op.Hook section index) w h = h
  hook_needs op.Unhook w h = h
  hook_needs (op.Enter section) w h = h
  hook_needs (op.Leave section) w h = h
  hook_needs (op.Unload section) w h = h

  there_needs : (content : Content) (w : WorkerState) → IsThere content (behind before w) → IsThere content w
  there_needs (live.Nothing order) w h = h
  there_needs (Stored given) w h = h

  free_needs : (what : TraceOp) (w : WorkerState) → FreeFits what (behind before w) → FreeFits what w
  free_needs (op.Page key order) w h = h
  free_needs (op.Kmalloc key size) w h = h
  free_needs (op.Free key) w h = there_needs (content_at key w.live) w h
  free_needs (op.Split key order first) w h = h
  free_needs (op.Swap one two) w h = h
  free_needs (op.Trim key pages) w h = h
  free_needs (op.Hook section index) w h = h
  free_needs op.Unhook w h = h
  free_needs (op.Enter section) w h = h
  free_needs (op.Leave section) w h = h
  free_needs (op.Unload section) w h = h

  pub needs_now : (what : TraceOp) (w : WorkerState) → OpNeeds test entries what (behind before w) → OpNeeds test entries what w
  needs_now what w needs = record { range = needs.range; keys = needs.keys; hooks = hook_needs what w needs.hooks; own = free_needs what w needs.own }

-- ---- the round

-- so far this was done, and these ops are left
pub record Goes (ops : List TraceOp) (start : WorkerShown) (seat : CpuShown) (left : List TraceOp) (now : WorkerShown) (seat_now : CpuShown) : Type 0 where
  pub state : WorkerState
  pub leaves : Leaves state start now seat seat_now
  pub fits : Fit (may_count seat) start.entries left state
  pub rest : all_done start.entries left state ≡ all_done start.entries ops (at_start start)
  pub ready : Ready now seat_now
  pub failed : now.failed + length left < 2 ^ 64
  pub uncounted : now.uncounted + length left < 2 ^ 64

pub begins : (ops : List TraceOp) (start : WorkerShown) (seat : CpuShown) → Ready start seat → Fit (may_count seat) start.entries ops (at_start start) → start.failed + length ops < 2 ^ 64 → start.uncounted + length ops < 2 ^ 64
    → Goes ops start seat ops start seat
begins ops start seat ready fits failed uncounted = record { state = at_start start; leaves = record { worker = still start; moves = refl }; fits = fits; rest = refl; ready = ready; failed = failed; uncounted = uncounted }

pub ends : (ops : List TraceOp) (start : WorkerShown) (seat : CpuShown) (now : WorkerShown) (seat_now : CpuShown) → Goes ops start seat [] now seat_now → Leaves (all_done start.entries ops (at_start start)) start now seat seat_now
ends ops start seat now seat_now g = subst (λ (s : WorkerState). Leaves s start now seat seat_now) g.rest g.leaves

-- counts of what was done before, and then of what was done
both_counted : (start : WorkerShown) (s t : WorkerState) → with_state t (with_state s start) ≡ with_state (behind s.tally t) start
both_counted start s t = λ i. record start {
  seat = t.seat;
  live = t.live;
  failed = add_assoc start.failed s.tally.failed t.tally.failed i;
  uncounted = add_assoc start.uncounted s.tally.uncounted t.tally.uncounted i;
}

module _ (ops : List TraceOp) (start : WorkerShown) (seat : CpuShown) (what : TraceOp) (left : List TraceOp) (now : WorkerShown) (seat_now : CpuShown) (g : Goes ops start seat (what ∷ left) now seat_now) where
  abbrev before : Tally
  before = g.state.tally

  as_state : g.state ≡ behind before (at_start now)
  as_state =
      (λ i. record g.state { tally = record { moves = sym (append-nil before.moves) i; failed = sym (add-zero before.failed) i; uncounted = sym (add-zero before.uncounted) i } })
      ∙ ap (λ (w : WorkerShown). behind before (at_start w)) (sym g.leaves.worker)

  entries_is : now.entries ≡ start.entries
  entries_is = ap (λ (w : WorkerShown). w.entries) g.leaves.worker

  counts_is : may_count seat ≡ may_count seat_now
  counts_is = ap may_count (sym g.leaves.moves)

  -- what the next op needs
  pub needs_next : OpNeeds (may_count seat_now) now.entries what (at_start now)
  needs_next =
      subst (λ (test : Tag → Bool). OpNeeds test now.entries what (at_start now)) counts_is
      (subst (λ (entries : List Entry). OpNeeds (may_count seat) entries what (at_start now)) (sym entries_is)
      (needs_now (may_count seat) start.entries before what (at_start now) (subst (λ (s : WorkerState). OpNeeds (may_count seat) start.entries what s) as_state g.fits.0)))

  pub one_failed : now.failed + 1 < 2 ^ 64
  one_failed = omega (arith, g.failed)

  pub one_uncounted : now.uncounted + 1 < 2 ^ 64
  one_uncounted = omega (arith, g.uncounted)

  pub goes_on : (next : WorkerShown) (seat_next : CpuShown) → Leaves (done now.entries what (at_start now)) now next seat_now seat_next → Goes ops start seat left next seat_next
  goes_on next seat_next l =
      let t = done now.entries what (at_start now) in
      let step_is : done start.entries what g.state ≡ behind before t =
      ap (done start.entries what) as_state ∙ done_behind before start.entries what (at_start now) ∙ ap (λ (entries : List Entry). behind before (done entries what (at_start now))) (sym entries_is) in
      let few = counts_few now.entries what (at_start now) in
      let lost : next.failed ≡ now.failed + t.tally.failed = ap (λ (w : WorkerShown). w.failed) l.worker in
      let without : next.uncounted ≡ now.uncounted + t.tally.uncounted = ap (λ (w : WorkerShown). w.uncounted) l.worker in
      let hooks : IsTrue (list_all (may_count seat_now) t.seat.hooks) = hooks_pass (may_count seat_now) now.entries what (at_start now) needs_next.hooks g.ready.allowed in
      record {
        state = done start.entries what g.state;
        leaves = record {
          worker = l.worker ∙ ap (with_state t) g.leaves.worker ∙ both_counted start g.state t ∙ ap (λ (s : WorkerState). with_state s start) (sym step_is);
          moves = l.moves ∙ ap (moved_by t.tally.moves) g.leaves.moves ∙ sym (moved_by_both before.moves t.tally.moves seat) ∙ ap (λ (s : WorkerState). moved_by s.tally.moves seat) (sym step_is);
        };
        fits = g.fits.1;
        rest = g.rest;
        ready = record {
          table = ap (λ (w : WorkerShown). w.board) l.worker ∙ g.ready.table ∙ sym (ap (λ (c : CpuShown). c.board) l.moves);
          own = ap (λ (w : WorkerShown). w.cpu) l.worker ∙ g.ready.own ∙ sym (ap (λ (c : CpuShown). c.part.number) l.moves);
          hand = ap (λ (c : CpuShown). c.part.hand) l.moves ∙ g.ready.hand;
          allowed = subst (λ (c : CpuShown). IsTrue (list_all (may_count c) next.seat.hooks)) (sym l.moves)
              (subst (λ (tags : List Tag). IsTrue (list_all (may_count seat_now) tags)) (sym (ap (λ (w : WorkerShown). w.seat.hooks) l.worker)) hooks);
        };
        failed = omega (arith, g.failed, few.failed, lost);
        uncounted = omega (arith, g.uncounted, few.uncounted, without);
      }

-- ---- the ops of lines

next_op : (ons : List OnOp) (i : ℕ) (d : OnOp) → i < length ons → map (λ (on : OnOp). on.op) (drop i ons) ≡ (get_or ons i d).op ∷ map (λ (on : OnOp). on.op) (drop (i + 1) ons)
next_op ons i d below =
    let more : suc i ≡ i + 1 = omega arith in
    ap (λ (rest : List OnOp). map (λ (on : OnOp). on.op) rest) (drop-cons ons i d below ∙ ap (λ (n : ℕ). get_or ons i d ∷ drop n ons) more)

module _ (ops : List TraceOp) (start : WorkerShown) (seat : CpuShown) (ons : List OnOp) (i : ℕ) (d : OnOp) (now begun : WorkerShown) (seat_now : CpuShown) (below : i < length ons)
    (g : Goes ops start seat (map (λ (on : OnOp). on.op) (drop i ons)) now seat_now) (same : begun ≡ now) where
  at_op : Goes ops start seat ((get_or ons i d).op ∷ map (λ (on : OnOp). on.op) (drop (i + 1) ons)) begun seat_now
  at_op =
      subst (λ (w : WorkerShown). Goes ops start seat ((get_or ons i d).op ∷ map (λ (on : OnOp). on.op) (drop (i + 1) ons)) w seat_now) (sym same)
      (subst (λ (left : List TraceOp). Goes ops start seat left now seat_now) (next_op ons i d below) g)

  pub op_needs : OpNeeds (may_count seat_now) begun.entries (get_or ons i d).op (at_start begun)
  op_needs = needs_next ops start seat (get_or ons i d).op (map (λ (on : OnOp). on.op) (drop (i + 1) ons)) begun seat_now at_op

  pub op_ready : Ready begun seat_now
  op_ready = at_op.ready

  pub op_failed : begun.failed + 1 < 2 ^ 64
  op_failed = one_failed ops start seat (get_or ons i d).op (map (λ (on : OnOp). on.op) (drop (i + 1) ons)) begun seat_now at_op

  pub op_uncounted : begun.uncounted + 1 < 2 ^ 64
  op_uncounted = one_uncounted ops start seat (get_or ons i d).op (map (λ (on : OnOp). on.op) (drop (i + 1) ons)) begun seat_now at_op

  pub op_done : (next : WorkerShown) (seat_next : CpuShown) → Leaves (done begun.entries (get_or ons i d).op (at_start begun)) begun next seat_now seat_next
      → Goes ops start seat (map (λ (on : OnOp). on.op) (drop (i + 1) ons)) next seat_next
  op_done next seat_next l = goes_on ops start seat (get_or ons i d).op (map (λ (on : OnOp). on.op) (drop (i + 1) ons)) begun seat_now at_op next seat_next l
