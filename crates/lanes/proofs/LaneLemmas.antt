-- Lanes that are cut in two, and put together again.
use Rattle.std.proofs.Common.{◌≡◌, ℕ, zero, suc, Bool, true, false, List, [], ◌∷◌, ◌++◌, length, map, take, drop, refl, ap, subst, arith, get_or}
use Rattle.std.proofs.lemmas.List.{map-append}
use Rattle.std.specs.Prelude.{◌<◌, ◌&&◌, slice_set}
use Rattle.std.specs.List.{list_all}
use Rattle.tag_rule.specs.Shown.{CpuShown}
use Rattle.trace.specs.declared.traces.OnOp.{OnOp}
use Rattle.round_worker.specs.Shown.{WorkerShown}
use Rattle.lanes.specs.Lanes.{AreDone, AreReady, IsLaneDone}

abbrev Lane : Type 0
Lane = List OnOp

-- lanes side by side, one part behind the other
pub done_both : (low high : List Lane) (ws ws' vs vs' : List WorkerShown) (cs cs' ds ds' : List CpuShown) → AreDone low ws vs cs ds → AreDone high ws' vs' cs' ds' → AreDone (low ++ high) (ws ++ ws') (vs ++ vs') (cs ++ cs') (ds ++ ds')
done_both [] high [] ws' [] vs' [] cs' [] ds' one two = two
done_both (ops ∷ low) high (w ∷ ws) ws' (v ∷ vs) vs' (c ∷ cs) cs' (d ∷ ds) ds' one two = (one.0, done_both low high ws ws' vs vs' cs cs' ds ds' one.1 two)
done_both low high ws ws' vs vs' cs cs' ds ds' one two = absurd one

-- as many workers and CPUs as lanes
pub record AsMany {V : Type 0} (lanes : List V) (workers : List WorkerShown) (cpus : List CpuShown) : Type 0 where
  pub as_workers : length workers ≡ length lanes
  pub as_cpus : length cpus ≡ length lanes

module _ {V : Type 0} (items : V → Lane) where
  pub as_many : (lanes : List V) (ws : List WorkerShown) (cs : List CpuShown) → AreReady (map items lanes) ws cs → AsMany lanes ws cs
  as_many [] [] [] r = record { as_workers = refl; as_cpus = refl }
  as_many (ops ∷ lanes) (w ∷ ws) (c ∷ cs) r =
      let rest = as_many lanes ws cs r.1 in
      record { as_workers = ap suc rest.as_workers; as_cpus = ap suc rest.as_cpus }
  as_many lanes ws cs r = absurd r

  pub ready_front : (n : ℕ) (lanes : List V) (ws : List WorkerShown) (cs : List CpuShown) → AreReady (map items lanes) ws cs → AreReady (map items (take n lanes)) (take n ws) (take n cs)
  ready_front zero lanes ws cs r = tt
  ready_front (suc n) [] [] [] r = tt
  ready_front (suc n) (ops ∷ lanes) (w ∷ ws) (c ∷ cs) r = (r.0, ready_front n lanes ws cs r.1)
  ready_front (suc n) lanes ws cs r = absurd r

  pub ready_back : (n : ℕ) (lanes : List V) (ws : List WorkerShown) (cs : List CpuShown) → AreReady (map items lanes) ws cs → AreReady (map items (drop n lanes)) (drop n ws) (drop n cs)
  ready_back zero lanes ws cs r = r
  ready_back (suc n) [] [] [] r = tt
  ready_back (suc n) (ops ∷ lanes) (w ∷ ws) (c ∷ cs) r = ready_back n lanes ws cs r.1
  ready_back (suc n) lanes ws cs r = absurd r

  -- the same of parts that are known by equations
  pub front_is_ready : (n : ℕ) (lanes low : List V) (ws ws' : List WorkerShown) (cs cs' : List CpuShown) → low ≡ take n lanes → ws' ≡ take n ws → cs' ≡ take n cs
      → AreReady (map items lanes) ws cs → AreReady (map items low) ws' cs'
  front_is_ready n lanes low ws ws' cs cs' l w c r = rw (l, w, c) (ready_front n lanes ws cs r)

  pub back_is_ready : (n : ℕ) (lanes high : List V) (ws ws' : List WorkerShown) (cs cs' : List CpuShown) → high ≡ drop n lanes → ws' ≡ drop n ws → cs' ≡ drop n cs
      → AreReady (map items lanes) ws cs → AreReady (map items high) ws' cs'
  back_is_ready n lanes high ws ws' cs cs' l w c r = rw (l, w, c) (ready_back n lanes ws cs r)

  pub halves_done : (lanes low high : List V) (all ws ws' vs vs' : List WorkerShown) (all_cpus cs cs' ds ds' : List CpuShown) → lanes ≡ low ++ high → all ≡ ws ++ ws' → all_cpus ≡ cs ++ cs'
      → AreDone (map items low) ws vs cs ds → AreDone (map items high) ws' vs' cs' ds' → AreDone (map items lanes) all (vs ++ vs') all_cpus (ds ++ ds')
  halves_done lanes low high all ws ws' vs vs' all_cpus cs cs' ds ds' l w c one two =
      rw (l, w, c, map-append items low high) (done_both (map items low) (map items high) ws ws' vs vs' cs cs' ds ds' one two)

  idle_done : (ops : Lane) (w : WorkerShown) (c : CpuShown) → length ops ≡ 0 → IsLaneDone ops w w c c
  idle_done [] w c none = (refl, refl)
  idle_done (on ∷ ops) w c none = absurd (omega arith)

  -- where no lane has an op, all is as it was
  pub none_done : (is_idle : V → Bool) → ((lane : V) → is_idle lane ≡ true → length (items lane) ≡ 0) → (lanes : List V) (ws : List WorkerShown) (cs : List CpuShown)
      → list_all is_idle lanes ≡ true → AreReady (map items lanes) ws cs → AreDone (map items lanes) ws ws cs cs
  none_done is_idle empty [] [] [] all r = tt
  none_done is_idle empty (ops ∷ lanes) (w ∷ ws) (c ∷ cs) all r = (idle_done (items ops) w c (empty ops (first _ _ all)), none_done is_idle empty lanes ws cs (second _ _ all) r.1)
    where
      first : (a b : Bool) → (a && b) ≡ true → a ≡ true
      first true b e = refl
      first false b e = e

      second : (a b : Bool) → (a && b) ≡ true → b ≡ true
      second true b e = e
      second false b e = absurd (cc)
  none_done is_idle empty lanes ws cs all r = absurd r

  -- ---- one lane

  rest_done : (ws : List WorkerShown) (cs : List CpuShown) → AreReady [] ws cs → AreDone [] ws ws cs cs
  rest_done [] [] r = tt
  rest_done ws cs r = absurd r

  pub one_done : (lanes : List V) (ws : List WorkerShown) (cs : List CpuShown) (lane : V) (w v : WorkerShown) (c d : CpuShown) → length lanes < 2 → lane ≡ get_or lanes 0 lane
      → AreReady (map items lanes) ws cs → IsLaneDone (items lane) (get_or ws 0 w) v (get_or cs 0 c) d → AreDone (map items lanes) ws (slice_set ws 0 v) cs (slice_set cs 0 d)
  one_done [] [] [] lane w v c d few is r done = tt
  one_done (first ∷ []) (u ∷ ws) (b ∷ cs) lane w v c d few is r done = (subst (λ (ops : V). IsLaneDone (items ops) u v b d) is done, rest_done ws cs r.1)
  one_done (first ∷ next ∷ lanes) ws cs lane w v c d few is r done = absurd (omega (arith, few))
  one_done lanes ws cs lane w v c d few is r done = absurd r
