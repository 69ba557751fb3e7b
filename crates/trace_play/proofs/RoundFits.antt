-- The rounds of a checked trace fit.
use Rattle.std.proofs.Common.{◌≡◌, ℕ, ◌<◌, Bool, true, false, cond, eqb, ltb, List, [], ◌∷◌, length, map, None, Ok, All, refl, sym, ap, ◌∙◌, subst, subst₂, arith, eqb-true, eq-eqb, ltb-true, lt-ltb}
use Rattle.std.specs.Prelude.{◌&&◌}
use Rattle.std.specs.List.{filter}
use Rattle.std.proofs.lemmas.Bool.{cond-true, eqb-false, and_parts, and_from}
use Rattle.std.proofs.lemmas.List.Elements.{All-head, All-tail}
use Rattle.module_area.specs.declared.entry.Entry.{Entry}
use Rattle.trace.specs.declared.traces.OnOp.{OnOp}
use Rattle.trace.specs.declared.traces.TraceOp.{TraceOp}
use Rattle.round_check.specs.declared.keys.KeyState.{KeyState}
use Rattle.round_check.specs.declared.walk.Walk.{Walk}
use Rattle.round_check.specs.Formed.{FitsOn}
use Rattle.round_check.specs.Keys.{key_at}
use Rattle.round_check.specs.Rounds.{names_key}
use Rattle.round_check.specs.Walk.{walk_op, walk_ops}
use Rattle.round_check.proofs.Named.{by_bool}
use Rattle.round_check.proofs.Passed.{Fits, op_ok, fits_on}
use Rattle.round_check.proofs.Pairs.{IsOf, first_line, kept_on, of_kept}
use Rattle.trace_play.specs.Worker.{WorkerState, done, all_done}
use Rattle.trace_play.specs.Machine.{Machine, worker_at}
use Rattle.trace_play.specs.Barrier.{ops_of, cpus_done}
use Rattle.trace_play.specs.Alone.{rises, kept, names_only, alone, worker_done, NoneShared, NamesItsOwn}
use Rattle.trace_play.specs.Fits.{entry_at, AllFit, AgreeAt, Agree, IsBoundAs, is_owner, RoundFits}
use Rattle.trace_play.proofs.Entries.{find_kept}
use Rattle.trace_play.proofs.AloneLemmas.{own_names}
use Rattle.trace_play.proofs.SideBySide.{find_of_kept, kept_all, are_left, unnamed}
use Rattle.trace_play.proofs.Told.{line_told}
use Rattle.trace_play.proofs.KeysFit.{step_fits}

-- ---- lines

-- ---- who names a key

-- who names a key owns it by the table that the round leaves
owns_it : (on : OnOp) (ops : List OnOp) (here next after : Walk) → Fits here → FitsOn on → All FitsOn ops → walk_op on.cpu on.op here ≡ Ok next → walk_ops ops next ≡ Ok after
    → (key : ℕ) → names_key here.keys on.op key ≡ true → is_owner after on.cpu key ≡ true
owns_it on ops here next after fits fits_line are e rest key named =
    let passed = op_ok on.cpu on.op here next fits fits_line.1 e in
    let below : key < 65536 = passed.keys.owns.within key named in
    let stamped = passed.keys.binds.stamped key named (omega (arith, fits.keys)) in
    let now : IsOf on.cpu key next = record { round = stamped.0 ∙ sym passed.round; cpu_is = stamped.1 } in
    let later = (kept_on (λ walk. (length walk.keys ≡ 65536) × IsOf on.cpu key walk) (of_kept on.cpu key below) ops next after are (fits_on on.cpu on.op here next fits passed) rest (passed.keys.binds.long ∙ fits.keys, now)).0.1 in
    and_from _ _ (eq-eqb _ _ later.round) (eq-eqb _ _ later.cpu_is)

owner_cpu : (after : Walk) (cpu key : ℕ) → is_owner after cpu key ≡ true → ((key_at after.keys key).round ≡ after.round) × ((key_at after.keys key).cpu ≡ cpu)
owner_cpu after cpu key h = let both = and_parts (eqb (key_at after.keys key).round after.round) (eqb (key_at after.keys key).cpu cpu) h in (eqb-true _ _ both.0, eqb-true _ _ both.1)

pub none_shared : (after : Walk) → NoneShared (is_owner after)
none_shared after one two differ key h =
    let is = owner_cpu after one key h in
    by (is_owner after two key) (λ g. differ (sym is.1 ∙ (owner_cpu after two key g).1))
  where
    by : (b : Bool) → (b ≡ true → ⊥) → b ≡ false
    by true g = absurd (g refl)
    by false g = refl

-- ---- one CPU's ops of a round

pub record PassFits (after : Walk) (mine : ℕ → Bool) (entries : List Entry) (ops : List TraceOp) (w : WorkerState) : Type 0 where
  pub fits : AllFit entries ops w
  pub names : names_only mine entries ops w ≡ true
  pub agree : AgreeAt mine after.keys (all_done entries ops w).live

module _ (after : Walk) (entries : List Entry) (cpu : ℕ) where
  pub pass : (ops : List OnOp) (here : Walk) → All FitsOn ops → Fits here → walk_ops ops here ≡ Ok after → (w : WorkerState) → AgreeAt (is_owner after cpu) here.keys w.live → PassFits after (is_owner after cpu) entries (ops_of cpu ops) w
  pass [] here are fits e w a = let same : here ≡ after = cc in record { fits = tt; names = refl; agree = subst (λ (x : Walk). AgreeAt (is_owner after cpu) x.keys w.live) same a }
  pass (on ∷ ops) here are fits e w a =
      let first = first_line on ops here after e in
      let next = first.0 in
      let fits_line = All-head FitsOn on ops are in
      let later = All-tail FitsOn on ops are in
      let passed = op_ok on.cpu on.op here next fits fits_line.1 first.1 in
      let fits_next = fits_on on.cpu on.op here next fits passed in
      let owns = owns_it on ops here next after fits fits_line later first.1 first.2 in
      by (eqb on.cpu cpu)
      (λ same.
      let mine = is_owner after cpu in
      let step = step_fits mine on.cpu here next w fits.keys a entries on.op (line_told on.cpu on.op here next first.1) passed.keys.owns.within
      (λ k h. subst (λ c. is_owner after c k ≡ true) (eqb-true on.cpu cpu same) (owns k h)) in
      let rest = pass ops next later fits_next first.2 (done entries on.op w) step.after in
      record { fits = (step.fits, rest.fits); names = and_from _ _ step.names rest.names; agree = rest.agree })
      (λ other.
      pass ops next later fits_next first.2 w
      (λ q own. subst (λ (s : KeyState). IsBoundAs s.bound (entry_at q w.live)) (sym (passed.keys.binds.others q (unnamed_by on.cpu here on.op q owns other own))) (a q own)))
    where
      by : (b : Bool) → (b ≡ true → PassFits after (is_owner after cpu) entries (on.op ∷ ops_of cpu ops) w) → (b ≡ false → PassFits after (is_owner after cpu) entries (ops_of cpu ops) w)
          → PassFits after (is_owner after cpu) entries (map (λ (x : OnOp). x.op) (cond b (on ∷ filter (λ (x : OnOp). eqb x.cpu cpu) ops) (filter (λ (x : OnOp). eqb x.cpu cpu) ops))) w
      by true h g = h refl
      by false h g = g refl

      unnamed_by : (other : ℕ) (here : Walk) (what : TraceOp) (q : ℕ) → ((k : ℕ) → names_key here.keys what k ≡ true → is_owner after other k ≡ true) → eqb other cpu ≡ false → is_owner after cpu q ≡ true → names_key here.keys what q ≡ false
      unnamed_by other here what q owns differ own =
          by_bool {P = names_key here.keys what q ≡ false} (names_key here.keys what q)
          (λ named. absurd (eqb-false other cpu differ (sym (owner_cpu after other q (owns q named)).1 ∙ (owner_cpu after cpu q own).1)))
          (λ h. h)

-- ---- keys that no CPU owns

unowned : (after : Walk) (count : ℕ) (key : ℕ) → ((cpu : ℕ) → cpu < count → is_owner after cpu key ≡ false)
    → (ops : List OnOp) (here : Walk) → All (λ on. on.cpu < count) ops → All FitsOn ops → Fits here → walk_ops ops here ≡ Ok after → key_at after.keys key ≡ key_at here.keys key
unowned after count key none [] here low are fits e = let same : here ≡ after = cc in ap (λ (x : Walk). key_at x.keys key) (sym same)
unowned after count key none (on ∷ ops) here low are fits e =
    let first = first_line on ops here after e in
    let next = first.0 in
    let fits_line = All-head FitsOn on ops are in
    let later = All-tail FitsOn on ops are in
    let passed = op_ok on.cpu on.op here next fits fits_line.1 first.1 in
    let owns = owns_it on ops here next after fits fits_line later first.1 first.2 in
    let below : on.cpu < count = All-head (λ (x : OnOp). x.cpu < count) on ops low in
    unowned after count key none ops next (All-tail (λ (x : OnOp). x.cpu < count) on ops low) later (fits_on on.cpu on.op here next fits passed) first.2
    ∙ passed.keys.binds.others key
    (by_bool {P = names_key here.keys on.op key ≡ false} (names_key here.keys on.op key)
    (λ named. let no : ⊥ = cc (owns key named, none on.cpu below) in absurd no)
    (λ h. h))

-- ---- a round

pub round_fits : (ops : List OnOp) (before after : Walk) (m : Machine) → All FitsOn ops → All (λ on. on.cpu < length m.seats) ops → Fits before → walk_ops ops before ≡ Ok after → rises m.live ≡ true → Agree before.keys m.live → RoundFits ops before m
round_fits ops before after m are low fits e r a =
    let entries = m.area.entries in
    let own = is_owner after in
    let begins = λ (cpu : ℕ). alone (own cpu) (worker_at cpu m) in
    let agree_alone : (cpu : ℕ) → AgreeAt (own cpu) before.keys (kept (own cpu) m.live) =
    λ cpu key is. subst (IsBoundAs (key_at before.keys key).bound) (sym (find_kept (own cpu) key m.live ∙ cond-true (own cpu key) (entry_at key m.live) None is)) (a key) in
    let passes = λ (cpu : ℕ). pass after entries cpu ops before are fits e (begins cpu) (agree_alone cpu) in
    let names : (cpu : ℕ) → NamesItsOwn (own cpu) ops m cpu = λ cpu. sym (own_names (own cpu) entries (ops_of cpu ops) (worker_at cpu m) r) ∙ (passes cpu).names in
    let apart = none_shared after in
    record {
      after = after;
      walked = e;
      apart = apart;
      names = names;
      fits = λ cpu. (passes cpu).fits;
      agree = λ key.
          let cpu = (key_at after.keys key).cpu in
          by_bool (is_owner after cpu key && ltb cpu (length m.seats))
          (λ h.
          let is = and_parts (is_owner after cpu key) (ltb cpu (length m.seats)) h in
          let below : cpu < length m.seats = ltb-true _ _ is.1 in
          let left : kept (own cpu) (cpus_done ops m).live ≡ (worker_done own ops m cpu).live = ap (λ (w : WorkerState). w.live) (are_left own ops m r apart (λ c _. names c) cpu below) ∙ kept_all (worker_done own ops m cpu).live in
          subst (IsBoundAs (key_at after.keys key).bound) (sym (find_of_kept (own cpu) key (cpus_done ops m).live (worker_done own ops m cpu).live left is.0)) ((passes cpu).agree key is.0))
          (λ h.
          let none : (c : ℕ) → c < length m.seats → is_owner after c key ≡ false = λ c below. not_owner (is_owner after c key) (λ g. neither _ _ h (subst (λ d. is_owner after d key ≡ true) (sym (owner_cpu after c key g).1) g) (lt-ltb _ _ (subst (λ d. d < length m.seats) (sym (owner_cpu after c key g).1) below))) in
          subst₂ IsBoundAs
          (ap (λ (s : KeyState). s.bound) (sym (unowned after (length m.seats) key none ops before low are fits e)))
          (sym (unnamed own ops m r apart (λ c _. names c) key none))
          (a key));
    }
  where
    neither : (a b : Bool) → (a && b) ≡ false → a ≡ true → b ≡ true → ⊥
    neither true true h p q = let no : ⊥ = cc in no
    neither true false h p q = let no : ⊥ = cc in no
    neither false b h p q = let no : ⊥ = cc in no

    not_owner : (b : Bool) → (b ≡ true → ⊥) → b ≡ false
    not_owner true h = absurd (h refl)
    not_owner false h = refl
