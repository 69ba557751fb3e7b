-- The keys behind a round's ops have tags that pass a test, where those before it do and each CPU's hooks do.
use Rattle.std.proofs.Common.{◌≡◌, ℕ, ◌<◌, Bool, true, false, cond, T, eqb, ltb, List, [], ◌∷◌, length, Some, nat_cmp, refl, sym, ap, ◌∙◌, subst, eqb-true, ltb-true, lt-ltb, eq-eqb}
use Rattle.std.specs.Prelude.{◌&&◌}
use Rattle.std.specs.Cmp.{unsigned_tied}
use Rattle.std.specs.FinMap.Entries.{find, is_sorted}
use Rattle.std.proofs.lemmas.Bool.{and_parts}
use Rattle.tag_model.specs.declared.state.Tag.{Tag}
use Rattle.trace.specs.declared.traces.OnOp.{OnOp}
use Rattle.trace.specs.declared.traces.Trace.{Trace}
use Rattle.round_check.specs.declared.walk.Walk.{Walk}
use Rattle.round_check.specs.Keys.{key_at}
use Rattle.round_check.proofs.Named.{by_bool}
use Rattle.trace_play.specs.Live.{Content, Live}
use Rattle.trace_play.specs.Machine.{Machine, worker_at}
use Rattle.trace_play.specs.Barrier.{cpus_done, ops_of}
use Rattle.trace_play.specs.Alone.{alone, rises, worker_done}
use Rattle.trace_play.specs.Fits.{is_owner, RoundFits}
use Rattle.trace_play.specs.Ready.{IsReady, MayCount}
use Rattle.trace_play.proofs.Entries.{find_below, first_true, second_true}
use Rattle.trace_play.proofs.AloneLemmas.{holds}
use Rattle.trace_play.proofs.Rising.{cpus_rise}
use Rattle.trace_play.proofs.SideBySide.{each_has, find_of_kept, unnamed}
use Rattle.trace_cover.proofs.Passes.{AllMay, WorkerMay, content_may, found_may, ops_may, where_may}

module _ (may : Tag → Bool) where
  -- what each key that is found has, all have
  pub all_found : (entries : Live) → T (is_sorted nat_cmp entries) → ((key : ℕ) (content : Content) → find nat_cmp key entries ≡ Some content → content_may may content ≡ true) → AllMay may entries
  all_found [] up found = tt
  all_found (e ∷ entries) up found = (
    found e.0 e.1 (ap (λ b. cond b (Some e.1) (find nat_cmp e.0 entries)) (unsigned_tied e.0 e.0 ∙ same e.0)),
    all_found entries (second_true _ _ up)
        (λ key content is.
        by_bool {P = content_may may content ≡ true} (eqb key e.0)
        (λ t. let none = find_below e.0 entries (first_true _ _ up) in let no : ⊥ = cc (is, ap (λ k. find nat_cmp k entries) (eqb-true key e.0 t), none) in absurd no)
        (λ t. found key content (ap (λ b. cond b (Some e.1) (find nat_cmp key entries)) (unsigned_tied key e.0 ∙ t) ∙ is))),
  )
    where
      same : (n : ℕ) → eqb n n ≡ true
      same n = eq-eqb n n refl

  pub round_may : (trace : Trace) (ops : List OnOp) (before : Walk) (m : Machine) → rises m.live ≡ true → (f : RoundFits ops before m) → IsReady trace ops before f.after m
      → ((cpu : ℕ) → cpu < length m.seats → MayCount trace m.area.entries before ops cpu may) → AllMay may m.live → AllMay may (cpus_done ops m).live
  round_may trace ops before m up f r counts a =
      all_found (cpus_done ops m).live (cpus_rise ops m (holds up))
      (λ key content is.
      let own = is_owner f.after in
      let cpu = (key_at f.after.keys key).cpu in
      by_bool {P = content_may may content ≡ true} (own cpu key && ltb cpu (length m.seats))
      (λ h.
      let both = and_parts (own cpu key) (ltb cpu (length m.seats)) h in
      let below : cpu < length m.seats = ltb-true _ _ both.1 in
      let has = each_has own ops m up f.apart (λ c _. f.names c) cpu below in
      let worker : WorkerMay may (worker_done own ops m cpu) = ops_may may m.area.entries (ops_of cpu ops) (alone (own cpu) (worker_at cpu m)) (r.needs cpu may below (counts cpu below)) (r.hooks cpu may below (counts cpu below), where_may may (own cpu) m.live a) in
      found_may may key content (worker_done own ops m cpu).live worker.1 (sym (find_of_kept (own cpu) key (cpus_done ops m).live (worker_done own ops m cpu).live has.1 both.0) ∙ is))
      (λ h.
      let none : (c : ℕ) → c < length m.seats → own c key ≡ false =
      λ c below. not_owner (own c key) (λ g.
      let same : (key_at f.after.keys key).cpu ≡ c = eqb-true _ _ (and_parts (eqb (key_at f.after.keys key).round f.after.round) (eqb (key_at f.after.keys key).cpu c) g).1 in
      neither _ _ h (subst (λ d. own d key ≡ true) (sym same) g) (lt-ltb _ _ (subst (λ d. d < length m.seats) (sym same) below))) in
      found_may may key content m.live a (sym (unnamed own ops m up f.apart (λ c _. f.names c) key none) ∙ is)))
    where
      neither : (a b : Bool) → (a && b) ≡ false → a ≡ true → b ≡ true → ⊥
      neither true true h p q = let no : ⊥ = cc in no
      neither true false h p q = let no : ⊥ = cc in no
      neither false b h p q = let no : ⊥ = cc in no

      not_owner : (b : Bool) → (b ≡ true → ⊥) → b ≡ false
      not_owner true h = absurd (h refl)
      not_owner false h = refl
