-- One key more is handed out, and so all that the ops name.
use Rattle.std.proofs.Common.{◌≡◌, ◌≢◌, ℕ, zero, suc, ◌+◌, ◌<◌, ◌≤◌, Bool, true, false, cond, not, ◌||◌, T, eqb, List, [], ◌∷◌, length, map, get_or, set, take, Option, Some, None, is_some, All, nat_cmp, refl, sym, ap, ◌∙◌, subst, arith, eqb-true, eq-eqb, ne_eqb}
use Rattle.std.specs.Prelude.{option_map}
use Rattle.std.specs.List.{find, range_with_len}
use Rattle.std.specs.Option.{option_or}
use Rattle.std.specs.FinMap.Entries as entries
use Rattle.std.proofs.lemmas.Bool.{eqb-false}
use Rattle.std.proofs.lemmas.List.{take_more}
use Rattle.std.proofs.lemmas.List.Elements.{All-head, All-tail, All-weaker}
use Rattle.std.proofs.lemmas.List.Folds.{find-append}
use Rattle.trace.specs.declared.traces.OnOp.{OnOp}
use Rattle.trace.specs.declared.traces.TraceOp.TheVariants as op
use Rattle.round_check.proofs.Named.{by_bool}
use Rattle.trace_play.specs.Live.{Content, Live}
use Rattle.trace_play.specs.Live as live_words
use Rattle.trace_play.specs.Alone.{rises, kept}
use Rattle.trace_play.specs.Fits.{entry_at}
use Rattle.trace_play.proofs.Entries.{find_kept, find_put, sorted_kept, sorted_put, same}
use Rattle.trace_play.proofs.SideBySide.{kept_all}
use Rattle.round_worker.specs.declared.keys.Kept.{Kept}
use Rattle.round_worker.specs.Kept.{KeyList, content_of, live_of}
use Rattle.round_worker.specs.Parting.{AreKept}
use Rattle.round_worker.specs.Shown.{WorkerShown}
use Rattle.round_worker.proofs.KeyLemmas.{others, live_find, live_where}
use Rattle.round_worker.proofs.KeptLemmas.{kept_taken}
use Rattle.round_keys.specs.Handed.{handed_to, is_cpu, names, with_lives_from, with_lives}
use Rattle.round_keys.specs.Handing.{HandedSo, with_key, with_op}
use Rattle.round_keys.proofs.OwnersNamed.{kept_alike}

-- ---- tests on a key that is handed out

-- left in the store: as before but at the key
left_after : {A : Type 0} (who : Option ℕ) (cpu q key : ℕ) (o : Option A)
    → cond (not (eqb q key)) (cond (not (is_some who)) o None) None ≡ cond (not (is_some (option_or who (cond (eqb key q) (Some cpu) None)))) o None
left_after {A} who cpu q key o =
    by_bool (eqb q key)
    (λ here. at_it who (eqb q key) (eqb key q) here (eq-eqb key q (sym (eqb-true q key here))))
    (λ other. elsewhere who (eqb q key) (eqb key q) other (ne_eqb key q (λ e. eqb-false q key other (sym e))))
  where
    at_it : (w : Option ℕ) (a b : Bool) → a ≡ true → b ≡ true → cond (not a) (cond (not (is_some w)) o None) None ≡ cond (not (is_some (option_or w (cond b (Some cpu) None)))) o None
    at_it None true true e f = refl
    at_it (Some c) true true e f = refl
    at_it w false b e f = let no : ⊥ = cc in absurd no
    at_it w true false e f = let no : ⊥ = cc in absurd no

    elsewhere : (w : Option ℕ) (a b : Bool) → a ≡ false → b ≡ false → cond (not a) (cond (not (is_some w)) o None) None ≡ cond (not (is_some (option_or w (cond b (Some cpu) None)))) o None
    elsewhere None false false e f = refl
    elsewhere (Some c) false false e f = refl
    elsewhere w true b e f = let no : ⊥ = cc in absurd no
    elsewhere w false true e f = let no : ⊥ = cc in absurd no

-- a CPU's keys: the key is one more of the CPU's that gets it, and of no other
of_others : (who : Option ℕ) (c cpu q key : ℕ) → c ≢ cpu → is_cpu c (option_or who (cond (eqb key q) (Some cpu) None)) ≡ is_cpu c who
of_others (Some d) c cpu q key other = refl
of_others None c cpu q key other = by (eqb key q)
  where
    by : (b : Bool) → is_cpu c (cond b (Some cpu) None) ≡ false
    by true = ne_eqb cpu c (λ e. other (sym e))
    by false = refl

elsewhere_same : (who : Option ℕ) (c cpu q key : ℕ) → eqb key q ≡ false → is_cpu c (option_or who (cond (eqb key q) (Some cpu) None)) ≡ is_cpu c who
elsewhere_same (Some d) c cpu q key e = refl
elsewhere_same None c cpu q key e = ap (λ b. is_cpu c (cond b (Some cpu) None)) e

got_before : (who : Option ℕ) (c cpu q key : ℕ) → is_some who ≡ true → is_cpu c (option_or who (cond (eqb key q) (Some cpu) None)) ≡ is_cpu c who
got_before (Some d) c cpu q key e = refl
got_before None c cpu q key e = let no : ⊥ = cc in absurd no

-- ---- the workers' keys

with_same : (f g : ℕ → Live) (from : List WorkerShown) (place : ℕ) → ((c : ℕ) → place ≤ c → g c ≡ f c) → with_lives_from place g from ≡ with_lives_from place f from
with_same f g [] place e = refl
with_same f g (w ∷ from) place e =
    (λ i. record w { live = e place (omega arith) i } ∷ with_same f g from (place + 1) (λ c above. e c (omega arith)) i)

with_one : (f g : ℕ → Live) (from : List WorkerShown) (place n at : ℕ) (d : WorkerShown) → ((c : ℕ) → c ≢ at → g c ≡ f c) → at ≡ place + n → n < length from
    → with_lives_from place g from ≡ set (with_lives_from place f from) n (record (get_or (with_lives_from place f from) n d) { live = g at })
with_one f g [] place n at d e is low = absurd (omega arith)
with_one f g (w ∷ from) place zero at d e is low =
    let here : place ≡ at = omega (arith, is) in
    (λ i. record w { live = g (here i) } ∷ with_same f g from (place + 1) (λ c above. e c (λ s. omega (arith, s))) i)
with_one f g (w ∷ from) place (suc n) at d e is low =
    (λ i. record w { live = e place (λ s. omega (arith, s)) i } ∷ with_one f g from (place + 1) n at d e (omega (arith, is)) (omega (arith, low)) i)

-- ---- one key

module _ (who : ℕ → Option ℕ) (live : Live) (up : T (rises live)) (from : List WorkerShown) (store : KeyList) (now : List WorkerShown) (key cpu : ℕ) (so : HandedSo who live from store now) where
  abbrev next : ℕ → Option ℕ
  next = with_key key cpu who

  abbrev has : (ℕ → Option ℕ) → ℕ → Live
  has who cpu = kept (λ q. is_cpu cpu (who q)) live

  store_after : live_of (others key store) ≡ kept (λ q. not (is_some (next q))) live
  store_after =
      let left = λ (q : ℕ). not (is_some (who q)) in
      let other = λ (q : ℕ). not (eqb q key) in
      live_where other store ∙ ap (kept other) so.rest
      ∙ same (kept other (kept left live)) (kept (λ q. not (is_some (next q))) live) (sorted_kept other (kept left live) (sorted_kept left live up)) (sorted_kept (λ q. not (is_some (next q))) live up)
      (λ q. find_kept other q (kept left live) ∙ ap (λ o. cond (other q) o None) (find_kept left q live)
      ∙ left_after (who q) cpu q key (entry_at q live)
      ∙ sym (find_kept (λ q. not (is_some (next q))) q live))

  in_store : entry_at key (live_of store) ≡ cond (not (is_some (who key))) (entry_at key live) None
  in_store = ap (entry_at key) so.rest ∙ find_kept (λ q. not (is_some (who q))) key live

  pub hands_nothing : entries.find nat_cmp key store ≡ None → HandedSo next live from (others key store) now
  hands_nothing none =
      let gone : cond (not (is_some (who key))) (entry_at key live) None ≡ None = sym in_store ∙ live_find key store ∙ ap (option_map content_of) none in
      record {
        rest = store_after;
        given = so.given ∙ (λ i. with_lives (λ c. kept_alike (λ q. is_cpu c (who q)) (λ q. is_cpu c (next q)) live up (λ q content found. as_before c q content found gone) i) from);
      }
    where
      was_given : (w : Option ℕ) (o : Option Content) (content : Content) → o ≡ Some content → cond (not (is_some w)) o None ≡ None → is_some w ≡ true
      was_given (Some c) o content found gone = refl
      was_given None o content found gone = let no : ⊥ = cc in absurd no

      as_before : (c q : ℕ) (content : Content) → entry_at q live ≡ Some content → cond (not (is_some (who key))) (entry_at key live) None ≡ None → is_cpu c (who q) ≡ is_cpu c (next q)
      as_before c q content found gone =
          by_bool (eqb key q)
          (λ here.
          let at : key ≡ q = eqb-true key q here in
          sym (got_before (who q) c cpu q key (subst (λ k. is_some (who k) ≡ true) at (was_given (who key) (entry_at key live) content (subst (λ k. entry_at k live ≡ Some content) (sym at) found) gone))))
          (λ other. sym (elsewhere_same (who q) c cpu q key other))

  pub hands_it : (given : Kept) (d : WorkerShown) → entries.find nat_cmp key store ≡ Some given → cpu < length from
      → HandedSo next live from (others key store) (set now cpu (record (get_or now cpu d) { live = live_words.put key (content_of given) (get_or now cpu d).live }))
  hands_it given d found low =
      let content = content_of given in
      let there : cond (not (is_some (who key))) (entry_at key live) None ≡ Some content = sym in_store ∙ live_find key store ∙ ap (option_map content_of) found in
      let parts = was_free (who key) (entry_at key live) content there in
      let at_cpu : has next cpu ≡ live_words.put key content (has who cpu) = with_it content parts.0 parts.1 in
      let before = with_lives (has who) from in
      let first : cpu ≡ 0 + cpu = omega arith in
      record {
        rest = store_after;
        given =
            (λ i. set (so.given i) cpu (record (get_or (so.given i) cpu d) { live = live_words.put key content (get_or (so.given i) cpu d).live }))
            ∙ ap (λ (l : Live). set before cpu (record (get_or before cpu d) { live = live_words.put key content l })) (live_at (has who) from 0 cpu cpu d first low)
            ∙ ap (λ (l : Live). set before cpu (record (get_or before cpu d) { live = l })) (sym at_cpu)
            ∙ sym (with_one (has who) (has next) from 0 cpu cpu d (λ c other. (λ i. kept (λ q. of_others (who q) c cpu q key other i) live)) first low);
      }
    where
      was_free : (w : Option ℕ) (o : Option Content) (content : Content) → cond (not (is_some w)) o None ≡ Some content → (w ≡ None) × (o ≡ Some content)
      was_free None o content e = (refl, e)
      was_free (Some c) o content e = let no : ⊥ = cc in absurd no

      live_at : (f : ℕ → Live) (from : List WorkerShown) (place n at : ℕ) (d : WorkerShown) → at ≡ place + n → n < length from → (get_or (with_lives_from place f from) n d).live ≡ f at
      live_at f [] place n at d is low = absurd (omega arith)
      live_at f (w ∷ from) place zero at d is low = let here : place ≡ at = omega (arith, is) in ap f here
      live_at f (w ∷ from) place (suc n) at d is low = live_at f from (place + 1) n at d (omega (arith, is)) (omega (arith, low))

      its_own : (w : Option ℕ) (q : ℕ) (content : Content) → (eqb q key ≡ true → w ≡ None) → (eqb q key ≡ true → entry_at q live ≡ Some content) → (b : Bool) → eqb q key ≡ b
          → cond (is_cpu cpu (option_or w (cond (eqb key q) (Some cpu) None))) (entry_at q live) None ≡ cond b (Some content) (cond (is_cpu cpu w) (entry_at q live) None)
      its_own w q content free found true e =
          ap (λ (o : Option ℕ). cond (is_cpu cpu (option_or o (cond (eqb key q) (Some cpu) None))) (entry_at q live) None) (free e)
          ∙ ap (λ b. cond (is_cpu cpu (cond b (Some cpu) None)) (entry_at q live) None) (eq-eqb key q (sym (eqb-true q key e)))
          ∙ ap (λ b. cond b (entry_at q live) None) (eq-eqb cpu cpu refl)
          ∙ found e
      its_own w q content free found false e =
          ap (λ b. cond b (entry_at q live) None) (elsewhere_same w cpu cpu q key (ne_eqb key q (λ s. eqb-false q key e (sym s))))

      with_it : (content : Content) → who key ≡ None → entry_at key live ≡ Some content → has next cpu ≡ live_words.put key content (has who cpu)
      with_it content free found =
          same (has next cpu) (live_words.put key content (has who cpu)) (sorted_kept (λ q. is_cpu cpu (next q)) live up) (sorted_put key content (has who cpu) (sorted_kept (λ q. is_cpu cpu (who q)) live up))
          (λ q. find_kept (λ q. is_cpu cpu (next q)) q live
          ∙ its_own (who q) q content (λ e. ap who (eqb-true q key e) ∙ free) (λ e. ap (λ k. entry_at k live) (eqb-true q key e) ∙ found) (eqb q key) refl
          ∙ sym (find_put q key content (has who cpu) ∙ ap (cond (eqb q key) (Some content)) (find_kept (λ q. is_cpu cpu (who q)) q live)))

-- ---- an op

both_keys : (who : ℕ → Option ℕ) (one two cpu : ℕ) → with_key two cpu (with_key one cpu who) ≡ with_op (op.Swap one two) cpu who
both_keys who one two cpu = (λ i q. by (who q) (eqb one q) (eqb two q) i)
  where
    by : (w : Option ℕ) (a b : Bool) → option_or (option_or w (cond a (Some cpu) None)) (cond b (Some cpu) None) ≡ option_or w (cond (a || b) (Some cpu) None)
    by (Some c) a b = refl
    by None true b = refl
    by None false b = refl

pub or_nothing : {A : Type 0} (o : Option A) → option_or o None ≡ o
or_nothing None = refl
or_nothing (Some x) = refl

no_key : (who : ℕ → Option ℕ) → (λ (q : ℕ). option_or (who q) None) ≡ who
no_key who = (λ i q. or_nothing (who q) i)

module _ (live : Live) (from : List WorkerShown) (store : KeyList) (now : List WorkerShown) where
  pub after_both : (who : ℕ → Option ℕ) (one two cpu : ℕ) → HandedSo (with_key two cpu (with_key one cpu who)) live from store now → HandedSo (with_op (op.Swap one two) cpu who) live from store now
  after_both who one two cpu h = subst (λ w. HandedSo w live from store now) (both_keys who one two cpu) h

  pub after_none : (who : ℕ → Option ℕ) → HandedSo who live from store now → HandedSo (λ (q : ℕ). option_or (who q) None) live from store now
  after_none who h = subst (λ w. HandedSo w live from store now) (sym (no_key who)) h

-- ---- the ops of a round

-- one more op
pub one_more : (ops : List OnOp) (i : ℕ) (d : OnOp) → i < length ops → with_op (get_or ops i d).op (get_or ops i d).cpu (handed_to (take i ops)) ≡ handed_to (take (i + 1) ops)
one_more ops i d low =
    let on = get_or ops i d in
    (λ j q. (by on (names on.op q) (find (λ (x : OnOp). names x.op q) (take i ops))
    ∙ ap (option_map (λ (x : OnOp). x.cpu)) (sym (find-append (λ (x : OnOp). names x.op q) (take i ops) (on ∷ [])))
    ∙ ap (λ (xs : List OnOp). handed_to xs q) (sym (take_more ops i d low))) j)
  where
    by : (on : OnOp) (b : Bool) (o : Option OnOp) → option_or (option_map (λ (x : OnOp). x.cpu) o) (cond b (Some on.cpu) None) ≡ option_map (λ (x : OnOp). x.cpu) (option_or o (cond b (Some on) None))
    by on b (Some x) = refl
    by on true None = refl
    by on false None = refl

none_kept : (live : Live) → kept (λ _. false) live ≡ []
none_kept [] = refl
none_kept (e ∷ live) = none_kept live

-- as nothing is handed out yet
pub begins : (store : KeyList) (from : List WorkerShown) → All (λ (w : WorkerShown). w.live ≡ []) from → HandedSo (handed_to []) (live_of store) from store from
begins store from none = record {
  rest = sym (kept_all (live_of store));
  given = idle from 0 none;
}
  where
    idle : (ws : List WorkerShown) (place : ℕ) → All (λ (w : WorkerShown). w.live ≡ []) ws → ws ≡ with_lives_from place (λ _. kept (λ _. false) (live_of store)) ws
    idle [] place all = refl
    idle (w ∷ ws) place all =
        let here : w.live ≡ kept (λ _. false) (live_of store) = All-head (λ (x : WorkerShown). x.live ≡ []) w ws all ∙ sym (none_kept (live_of store)) in
        (λ i. record w { live = here i } ∷ idle ws (place + 1) (All-tail (λ (x : WorkerShown). x.live ≡ []) w ws all) i)

pub kept_still : (key : ℕ) (old now : KeyList) (workers : List WorkerShown) → now ≡ others key old → All (λ (w : WorkerShown). AreKept w.board old) workers → All (λ (w : WorkerShown). AreKept w.board now) workers
kept_still key old now workers is all = All-weaker (λ (w : WorkerShown). AreKept w.board old) (λ (w : WorkerShown). AreKept w.board now) (λ w own. kept_taken w.board old now key is own) workers all

-- ---- the workers' keys by their places

pub many_with_lives : (lives : ℕ → Live) (ws : List WorkerShown) (place : ℕ) → length (with_lives_from place lives ws) ≡ length ws
many_with_lives lives [] place = refl
many_with_lives lives (w ∷ ws) place = ap suc (many_with_lives lives ws (place + 1))

pub lives_there : (lives : ℕ → Live) (ws : List WorkerShown) (place : ℕ) → map (λ (w : WorkerShown). w.live) (with_lives_from place lives ws) ≡ map lives (range_with_len place (length ws))
lives_there lives [] place = refl
lives_there lives (w ∷ ws) place = ap (λ (ls : List Live). lives place ∷ ls) (lives_there lives ws (place + 1))

pub worker_there : (lives : ℕ → Live) (ws : List WorkerShown) (place i at : ℕ) (d : WorkerShown) → at ≡ place + i → i < length ws → get_or (with_lives_from place lives ws) i d ≡ record (get_or ws i d) { live = lives at }
worker_there lives [] place i at d is low = absurd (omega arith)
worker_there lives (w ∷ ws) place zero at d is low = let here : place ≡ at = omega (arith, is) in ap (λ (n : ℕ). record w { live = lives n }) here
worker_there lives (w ∷ ws) place (suc i) at d is low = worker_there lives ws (place + 1) i at d (omega (arith, is)) (omega (arith, low))

-- there are as many workers as there were
pub low_from : (who : ℕ → Option ℕ) (live : Live) (from : List WorkerShown) (store : KeyList) (now : List WorkerShown) → HandedSo who live from store now → (cpu : ℕ) → cpu < length now → cpu < length from
low_from who live from store now so cpu low = subst (λ n. cpu < n) (ap length so.given ∙ many_with_lives (λ c. kept (λ q. is_cpu c (who q)) live) from 0) low
