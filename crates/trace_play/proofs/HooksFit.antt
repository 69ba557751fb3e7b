-- The hooks of a CPU in a round of a checked trace.
use Rattle.std.proofs.Common.{◌≡◌, ◌≢◌, ℕ, ◌-◌, ◌<◌, Bool, true, false, cond, not, ◌||◌, eqb, List, [], ◌∷◌, ◌++◌, length, map, set, drop, take, Option, Some, None, Ok, All, refl, sym, ap, ◌∙◌, subst, subst₂, arith, eqb-true, ne_eqb, eq-eqb}
use Rattle.std.specs.Prelude.{◌&&◌, IsTrue}
use Rattle.std.specs.List.{list_any, filter}
use Rattle.std.proofs.lemmas.Bool.{eqb-false, or_left, or_right}
use Rattle.std.proofs.lemmas.Grind.{get_or-set_at}
use Rattle.std.proofs.lemmas.List.{length-set, length-append, get_or-set_other}
use Rattle.std.proofs.lemmas.List.Elements.{All-head, All-tail}
use Rattle.std.proofs.lemmas.List.Folds.{list_any-append}
use Rattle.tag_model.specs.declared.state.Tag.{Tag}
use Rattle.module_area.specs.declared.entry.Entry.{Entry}
use Rattle.slab_cache.specs.Storage as storage
use Rattle.slab_cache.specs.Storage.{Storage}
use Rattle.slab_cache.specs.Giving.{Given}
use Rattle.trace.specs.declared.traces.OnOp.{OnOp}
use Rattle.trace.specs.declared.traces.Trace.{Trace}
use Rattle.trace.specs.declared.traces.TraceOp.{TraceOp}
use Rattle.trace.specs.declared.traces.TraceOp.TheVariants as op
use Rattle.trace.specs.Formed.{IsFormedOp, IsFormedOn}
use Rattle.round_check.specs.declared.walk.Walk.{Walk}
use Rattle.round_check.specs.CpuState.{CpuState}
use Rattle.round_check.specs.Cpus.{idle, cpu_at, is_inside}
use Rattle.round_check.specs.Walk.{walk_ops}
use Rattle.round_check.proofs.Named.{by_bool}
use Rattle.round_check.proofs.Pairs.{first_line}
use Rattle.tag_model.specs.RefMoves.{close_moves}
use Rattle.trace_play.specs.Live.{Content, Nothing, Stored, content_at, held_of, without}
use Rattle.trace_play.specs.Worker.{WorkerState, cpu_of, with_moves, with_live, one_given, allocated, is_home, given_back, tag_in, done, all_done}
use Rattle.trace_play.specs.Barrier.{ops_of}
use Rattle.trace_play.specs.Fitting.{Each, HookFits}
use Rattle.trace_play.specs.Ready.{enters, IsHook, HooksAre, none_out, one_more}
use Rattle.trace_play.specs.Play.{section_len}
use Rattle.trace_play.proofs.CpusTold.{CpuTold, cpu_told}

-- ---- lists of hooks

pub either_or : (a b : Bool) → (a || b) ≡ true → (a ≡ false → b ≡ true)
either_or true b e g = let no : ⊥ = cc in absurd no
either_or false b e g = e

abbrev is_among : List ℕ → ℕ → Bool
is_among sections section = list_any (λ other. eqb other section) sections

pub hooks_map : {Hook Hook' : ℕ → Tag → Type 0} (sections : List ℕ) (tags : List Tag) → ((section : ℕ) (tag : Tag) → is_among sections section ≡ true → Hook section tag → Hook' section tag) → HooksAre Hook sections tags → HooksAre Hook' sections tags
hooks_map sections tags f none_out = none_out
hooks_map sections tags f (one_more before others section tag hook rest) =
    let append = λ (x : ℕ). list_any-append (λ other. eqb other x) before (section ∷ []) in
    one_more before others section tag
    (f section tag (append section ∙ or_right (is_among before section) (is_among (section ∷ []) section) (or_left (eqb section section) false (eq-eqb section section refl))) hook)
    (hooks_map before others (λ x y e h. f x y (append x ∙ or_left (is_among before x) (is_among (section ∷ []) x) e) h) rest)

pub hooks_long : {Hook : ℕ → Tag → Type 0} (sections : List ℕ) (tags : List Tag) → HooksAre Hook sections tags → length tags ≡ length sections
hooks_long sections tags none_out = refl
hooks_long sections tags (one_more before others section tag hook rest) = let l = hooks_long before others rest in omega (arith, length-append before (section ∷ []))

take_front : (xs : List ℕ) (x : ℕ) → take (length (xs ++ x ∷ []) - 1) (xs ++ x ∷ []) ≡ xs
take_front xs x = ap (λ n. take n (xs ++ x ∷ [])) (let e : length (xs ++ x ∷ []) - 1 ≡ length xs = omega (arith, length-append xs (x ∷ [])) in e) ∙ front xs
  where
    front : (ys : List ℕ) → take (length ys) (ys ++ x ∷ []) ≡ ys
    front [] = refl
    front (y ∷ ys) = ap (λ zs. y ∷ zs) (front ys)

hooks_drop : {Hook : ℕ → Tag → Type 0} (sections : List ℕ) (tags : List Tag) → 0 < length sections → HooksAre Hook sections tags → HooksAre Hook (take (length sections - 1) sections) (drop 1 tags)
hooks_drop sections tags some none_out = absurd (omega arith)
hooks_drop {Hook} sections tags some (one_more before others section tag hook rest) = subst (λ xs. HooksAre Hook xs others) (sym (take_front before section)) rest

-- ---- the worker's hooks

one_given_hooks : (given : Storage) (w : WorkerState) → (one_given given w).seat.hooks ≡ w.seat.hooks
one_given_hooks (storage.Pages block) w = refl
one_given_hooks (storage.Object home frame place vector holds) w = refl
one_given_hooks (storage.Uncounted home frame place) w = refl

allocated_hooks : (key order : ℕ) (given : Option Given) (w : WorkerState) → (allocated key order given w).seat.hooks ≡ w.seat.hooks
allocated_hooks key order None w = refl
allocated_hooks key order (Some given) w = one_given_hooks given.storage _

back_hooks : (content : Content) (w : WorkerState) → (given_back content w).seat.hooks ≡ w.seat.hooks
back_hooks (Nothing order) w = refl
back_hooks (Stored given) w = by (is_home given w) _ _ refl refl
  where
    by : (b : Bool) (x y : WorkerState) → x.seat.hooks ≡ w.seat.hooks → y.seat.hooks ≡ w.seat.hooks → (cond b x y).seat.hooks ≡ w.seat.hooks
    by true x y p q = p
    by false x y p q = q

-- ---- the states of CPUs

pub cpu_set : (cpus : List CpuState) (at cpu : ℕ) (state : CpuState) → at < length cpus → cpu_at (set cpus at state) cpu ≡ cond (eqb cpu at) state (cpu_at cpus cpu)
cpu_set cpus at cpu state below =
    by_bool {P = cpu_at (set cpus at state) cpu ≡ cond (eqb cpu at) state (cpu_at cpus cpu)} (eqb cpu at)
    (λ e. get_or-set_at cpus at cpu state idle (eqb-true cpu at e) below ∙ sym (ap (λ b. cond b state (cpu_at cpus cpu)) e))
    (λ e. get_or-set_other cpus at cpu state idle (eqb-false cpu at e) ∙ sym (ap (λ b. cond b state (cpu_at cpus cpu)) e))

-- another CPU's line leaves a CPU's state
other_cpu : (at cpu : ℕ) (what : TraceOp) (here next : Walk) → at ≢ cpu → CpuTold at what here next → (cpu_at next.cpus cpu ≡ cpu_at here.cpus cpu) × (length next.cpus ≡ length here.cpus)
other_cpu at cpu what here next differ told = by what told
  where
    same : next.cpus ≡ here.cpus → (cpu_at next.cpus cpu ≡ cpu_at here.cpus cpu) × (length next.cpus ≡ length here.cpus)
    same e = (ap (λ cpus. cpu_at cpus cpu) e, ap length e)

    changed : (state : CpuState) → next.cpus ≡ set here.cpus at state → (cpu_at next.cpus cpu ≡ cpu_at here.cpus cpu) × (length next.cpus ≡ length here.cpus)
    changed state e = (ap (λ cpus. cpu_at cpus cpu) e ∙ get_or-set_other here.cpus at cpu state idle (λ h. differ (sym h)), ap length e ∙ length-set here.cpus at state)

    by : (what : TraceOp) → CpuTold at what here next → (cpu_at next.cpus cpu ≡ cpu_at here.cpus cpu) × (length next.cpus ≡ length here.cpus)
    by (op.Page key order) t = same t.cpus_are
    by (op.Kmalloc key size) t = same t.cpus_are
    by (op.Free key) t = same t.cpus_are
    by (op.Split key order first) t = same t.cpus_are
    by (op.Swap one two) t = same t.cpus_are
    by (op.Trim key pages) t = same t.cpus_are
    by (op.Hook section index) t = changed _ t.cpus_are
    by op.Unhook t = changed _ t.cpus_are
    by (op.Enter section) t = changed _ t.cpus_are
    by (op.Leave section) t = changed _ t.cpus_are
    by (op.Unload section) t = same t.cpus_are

pub inside_more : (section other : ℕ) (xs : List ℕ) → list_any (λ x. eqb x section) (xs ++ other ∷ []) ≡ true → list_any (λ x. eqb x section) xs ≡ false → other ≡ section
inside_more section other xs e none = eqb-true other section (only (eqb other section) (either_or (list_any (λ x. eqb x section) xs) (eqb other section || false) (sym (list_any-append (λ x. eqb x section) xs (other ∷ [])) ∙ e) none))
  where
    only : (b : Bool) → (b || false) ≡ true → b ≡ true
    only true h = refl
    only false h = h

pub inside_less : (section other : ℕ) (xs : List ℕ) → list_any (λ x. eqb x section) (filter (λ x. not (eqb x other)) xs) ≡ true → list_any (λ x. eqb x section) xs ≡ true
inside_less section other [] e = e
inside_less section other (x ∷ xs) e = by (eqb x other) e (inside_less section other xs)
  where
    by : (b : Bool) → list_any (λ y. eqb y section) (cond (not b) (x ∷ filter (λ y. not (eqb y other)) xs) (filter (λ y. not (eqb y other)) xs)) ≡ true
        → (list_any (λ y. eqb y section) (filter (λ y. not (eqb y other)) xs) ≡ true → list_any (λ y. eqb y section) xs ≡ true) → (eqb x section || list_any (λ y. eqb y section) xs) ≡ true
    by true h rest = or_right (eqb x section) (list_any (λ y. eqb y section) xs) (rest h)
    by false h rest = by_bool {P = (eqb x section || list_any (λ y. eqb y section) xs) ≡ true} (eqb x section) (λ t. or_left (eqb x section) _ t) (λ t. or_right (eqb x section) _ (rest (either_or (eqb x section) _ h t)))

pub inside_kept : (section other : ℕ) (xs : List ℕ) → section ≢ other → list_any (λ x. eqb x section) xs ≡ true → list_any (λ x. eqb x section) (filter (λ x. not (eqb x other)) xs) ≡ true
inside_kept section other [] differ e = e
inside_kept section other (x ∷ xs) differ e = by (eqb x other) refl (inside_kept section other xs differ)
  where
    by : (b : Bool) → eqb x other ≡ b → (list_any (λ y. eqb y section) xs ≡ true → list_any (λ y. eqb y section) (filter (λ y. not (eqb y other)) xs) ≡ true)
        → list_any (λ y. eqb y section) (cond (not b) (x ∷ filter (λ y. not (eqb y other)) xs) (filter (λ y. not (eqb y other)) xs)) ≡ true
    by true t rest = rest (either_or (eqb x section) _ e (ne_eqb x section (λ h. differ (sym h ∙ eqb-true x other t))))
    by false t rest = by_bool {P = (eqb x section || list_any (λ y. eqb y section) (filter (λ y. not (eqb y other)) xs)) ≡ true} (eqb x section) (λ s. or_left (eqb x section) _ s) (λ s. or_right (eqb x section) _ (rest (either_or (eqb x section) _ e s)))

-- ---- a CPU's ops

module _ (trace : Trace) (entries : List Entry) (cpu : ℕ) (ok : ℕ → Bool) where
  abbrev Hook : CpuState → ℕ → Tag → Type 0
  Hook state = IsHook trace entries state

  pub record HookState (here : Walk) (w : WorkerState) : Type 0 where
    pub long : length here.cpus ≡ 64
    pub hooks : HooksAre (IsHook trace entries (cpu_at here.cpus cpu)) (cpu_at here.cpus cpu).hooks w.seat.hooks
    pub inside : (section : ℕ) → is_inside section (cpu_at here.cpus cpu) ≡ true → ok section ≡ true

  same_state : (here next : Walk) (w w' : WorkerState) → cpu_at next.cpus cpu ≡ cpu_at here.cpus cpu → length next.cpus ≡ length here.cpus → w'.seat.hooks ≡ w.seat.hooks → HookState here w → HookState next w'
  same_state here next w w' state long hooks s = record {
    long = long ∙ s.long;
    hooks = subst₂ (λ (st : CpuState) tags. HooksAre (IsHook trace entries st) st.hooks tags) (sym state) (sym hooks) s.hooks;
    inside = λ section e. s.inside section (ap (is_inside section) (sym state) ∙ e);
  }

  own_state : (here next : Walk) (w' : WorkerState) (state : CpuState) → cpu < 64 → length here.cpus ≡ 64 → next.cpus ≡ set here.cpus cpu state → HooksAre (IsHook trace entries state) state.hooks w'.seat.hooks → ((section : ℕ) → is_inside section state ≡ true → ok section ≡ true) → HookState next w'
  own_state here next w' state low long are hooks inside =
      let there : cpu_at next.cpus cpu ≡ state = ap (λ cpus. cpu_at cpus cpu) are ∙ get_or-set_at here.cpus cpu cpu state idle refl (omega arith) in
      record {
        long = ap length are ∙ length-set here.cpus cpu state ∙ long;
        hooks = subst (λ (st : CpuState). HooksAre (IsHook trace entries st) st.hooks w'.seat.hooks) (sym there) hooks;
        inside = λ section e. inside section (ap (is_inside section) (sym there) ∙ e);
      }

  abbrev StepsTo : (Tag → Bool) → TraceOp → Walk → WorkerState → Type 0
  StepsTo may_count what next w = HookFits may_count entries what w × HookState next (done entries what w)

  own_line : (may_count : Tag → Bool) → ((section index : ℕ) → (eqb section 0 || ok section) ≡ true → index < section_len trace section → IsTrue (may_count (tag_in entries section index)))
      → cpu < 64 → (what : TraceOp) (here next : Walk) (w : WorkerState) → IsFormedOp trace.sections what → CpuTold cpu what here next → ((section : ℕ) → enters section what ≡ true → ok section ≡ true) → HookState here w → StepsTo may_count what next w
  own_line may_count may low (op.Page key order) here next w is t entering s = (tt, same_state here next w _ (ap (λ cpus. cpu_at cpus cpu) t.cpus_are) (ap length t.cpus_are) (allocated_hooks key order _ w) s)
  own_line may_count may low (op.Kmalloc key size) here next w is t entering s = (tt, same_state here next w _ (ap (λ cpus. cpu_at cpus cpu) t.cpus_are) (ap length t.cpus_are) (allocated_hooks key 0 _ w) s)
  own_line may_count may low (op.Free key) here next w is t entering s = (tt, same_state here next w _ (ap (λ cpus. cpu_at cpus cpu) t.cpus_are) (ap length t.cpus_are) (back_hooks (content_at key w.live) (with_moves (close_moves (cpu_of w) (held_of (content_at key w.live))) (with_live (without key w.live) w))) s)
  own_line may_count may low (op.Split key order first) here next w is t entering s = (tt, same_state here next w _ (ap (λ cpus. cpu_at cpus cpu) t.cpus_are) (ap length t.cpus_are) refl s)
  own_line may_count may low (op.Swap one two) here next w is t entering s = (tt, same_state here next w _ (ap (λ cpus. cpu_at cpus cpu) t.cpus_are) (ap length t.cpus_are) refl s)
  own_line may_count may low (op.Trim key pages) here next w is t entering s = (tt, same_state here next w _ (ap (λ cpus. cpu_at cpus cpu) t.cpus_are) (ap length t.cpus_are) refl s)
  own_line may_count may low (op.Hook section index) here next w is t entering s =
      let old = cpu_at here.cpus cpu in
      let long = hooks_long old.hooks w.seat.hooks s.hooks in
      let allowed : (eqb section 0 || ok section) ≡ true =
      by_bool {P = (eqb section 0 || ok section) ≡ true} (eqb section 0) (λ e. or_left (eqb section 0) _ e) (λ e. or_right (eqb section 0) _ (s.inside section (either_or (eqb section 0) _ t.may e))) in (
        (let few = t.few in omega arith, may section index allowed is.1),
        own_state here next (done entries (op.Hook section index) w) (record { hooks = old.hooks ++ section ∷ []; inside = old.inside }) low s.long t.cpus_are
            (one_more old.hooks w.seat.hooks section (tag_in entries section index) (record { index = index; low = is.1; is = refl; may = t.may })
            (hooks_map old.hooks w.seat.hooks (λ x y e h. record { index = h.index; low = h.low; is = h.is; may = h.may }) s.hooks))
            s.inside,
      )
  own_line may_count may low op.Unhook here next w is t entering s =
      let old = cpu_at here.cpus cpu in
      let long = hooks_long old.hooks w.seat.hooks s.hooks in (
        (let some = t.some in omega arith),
        own_state here next (done entries op.Unhook w) (record { hooks = take (length old.hooks - 1) old.hooks; inside = old.inside }) low s.long t.cpus_are
            (hooks_map (take (length old.hooks - 1) old.hooks) (drop 1 w.seat.hooks) (λ x y e h. record { index = h.index; low = h.low; is = h.is; may = h.may }) (hooks_drop old.hooks w.seat.hooks t.some s.hooks))
            s.inside,
      )
  own_line may_count may low (op.Enter section) here next w is t entering s =
      let old = cpu_at here.cpus cpu in (
        tt,
        own_state here next w (record { hooks = old.hooks; inside = old.inside ++ section ∷ [] }) low s.long t.cpus_are
            (hooks_map old.hooks w.seat.hooks
            (λ x y e h. record {
              index = h.index;
              low = h.low;
              is = h.is;
              may =
                  by_bool {P = (eqb x 0 || list_any (λ z. eqb z x) (old.inside ++ section ∷ [])) ≡ true} (eqb x 0) (λ f. or_left (eqb x 0) _ f)
                  (λ f. or_right (eqb x 0) _ (list_any-append (λ z. eqb z x) old.inside (section ∷ []) ∙ or_left (list_any (λ z. eqb z x) old.inside) _ (either_or (eqb x 0) _ h.may f)));
            })
            s.hooks)
            (λ x e. by_bool {P = ok x ≡ true} (is_inside x old) (λ f. s.inside x f) (λ f. entering x (eq-eqb section x (inside_more x section old.inside e f)))),
      )
  own_line may_count may low (op.Leave section) here next w is t entering s =
      let old = cpu_at here.cpus cpu in (
        tt,
        own_state here next w (record { hooks = old.hooks; inside = filter (λ other. not (eqb other section)) old.inside }) low s.long t.cpus_are
            (hooks_map old.hooks w.seat.hooks
            (λ x y e h. record {
              index = h.index;
              low = h.low;
              is = h.is;
              may =
                  by_bool {P = (eqb x 0 || list_any (λ z. eqb z x) (filter (λ z. not (eqb z section)) old.inside)) ≡ true} (eqb x 0) (λ f. or_left (eqb x 0) _ f)
                  (λ f. or_right (eqb x 0) _ (inside_kept x section old.inside (λ same. let no : ⊥ = cc (ap (is_among old.hooks) same, e, t.none) in no) (either_or (eqb x 0) _ h.may f)));
            })
            s.hooks)
            (λ x e. s.inside x (inside_less x section old.inside e)),
      )
  own_line may_count may low (op.Unload section) here next w is t entering s = (tt, same_state here next w w (ap (λ cpus. cpu_at cpus cpu) t.cpus_are) (ap length t.cpus_are) refl s)

  pub record HooksPass (may_count : Tag → Bool) (ops : List TraceOp) (after : Walk) (w : WorkerState) : Type 0 where
    pub fits : Each (HookFits may_count entries) entries ops w
    pub left : HookState after (all_done entries ops w)

  pub pass_hooks : (may_count : Tag → Bool) → ((section index : ℕ) → (eqb section 0 || ok section) ≡ true → index < section_len trace section → IsTrue (may_count (tag_in entries section index)))
      → cpu < 64 → (after : Walk) (ops : List OnOp) (here : Walk) → All (IsFormedOn trace.cpus trace.sections) ops → walk_ops ops here ≡ Ok after
      → ((section : ℕ) → list_any (λ (on : OnOp). eqb on.cpu cpu && enters section on.op) ops ≡ true → ok section ≡ true) → (w : WorkerState) → HookState here w → HooksPass may_count (ops_of cpu ops) after w
  pass_hooks may_count may low after [] here are e entering w s = let same : here ≡ after = cc in record { fits = tt; left = subst (λ (x : Walk). HookState x w) same s }
  pass_hooks may_count may low after (on ∷ ops) here are e entering w s =
      let first = first_line on ops here after e in
      let next = first.0 in
      let told = cpu_told on.cpu on.op here next first.1 in
      let later = λ (section : ℕ) (h : list_any (λ (x : OnOp). eqb x.cpu cpu && enters section x.op) ops ≡ true). entering section (or_right (eqb on.cpu cpu && enters section on.op) _ h) in
      by (eqb on.cpu cpu)
      (λ same.
      let step = own_line may_count may low on.op here next w (All-head (IsFormedOn trace.cpus trace.sections) on ops are).1 (subst (λ c. CpuTold c on.op here next) (eqb-true on.cpu cpu same) told)
      (λ section h. entering section (or_left (eqb on.cpu cpu && enters section on.op) _ (ap (λ b. b && enters section on.op) same ∙ h))) s in
      let rest = pass_hooks may_count may low after ops next (All-tail (IsFormedOn trace.cpus trace.sections) on ops are) first.2 later (done entries on.op w) step.1 in
      record { fits = (step.0, rest.fits); left = rest.left })
      (λ other.
      let stays = other_cpu on.cpu cpu on.op here next (eqb-false on.cpu cpu other) told in
      pass_hooks may_count may low after ops next (All-tail (IsFormedOn trace.cpus trace.sections) on ops are) first.2 later w (same_state here next w w stays.0 stays.1 refl s))
    where
      by : (b : Bool) → (b ≡ true → HooksPass may_count (on.op ∷ ops_of cpu ops) after w) → (b ≡ false → HooksPass may_count (ops_of cpu ops) after w)
          → HooksPass may_count (map (λ (x : OnOp). x.op) (cond b (on ∷ filter (λ (x : OnOp). eqb x.cpu cpu) ops) (filter (λ (x : OnOp). eqb x.cpu cpu) ops))) after w
      by true h g = h refl
      by false h g = g refl
