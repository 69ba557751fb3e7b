-- A CPU in its bounds, part by part, and what its hand counts.
use Rattle.std.proofs.Common.{◌≡◌, ℕ, ◌*◌, ◌<◌, ◌≤◌, ◌==◌, ◌&&◌, ◌||◌, nat_lt, nat_le, List, length, refl, subst, inl, inr, arith, Bool, true, false, not, eqb-true, ltb-true, leb-true, eq-eqb, le-leb, lt-ltb, ne_eqb, Some, cond}
use Rattle.std.specs.List.{list_any, list_all}
use Rattle.std.proofs.lemmas.Bool.{and_parts, and_from}
use Rattle.tag_model.specs.declared.limits.TheConstants.{SIZE_END, MAX_HAND_CALLS}
use Rattle.tag_model.specs.declared.shape.Shape.{Shape}
use Rattle.tag_model.specs.declared.state.CpuPart.{CpuPart}
use Rattle.tag_model.specs.declared.state.Hand.{Hand}
use Rattle.tag_model.specs.declared.state.Kind.{Kind}
use Rattle.tag_model.specs.declared.state.Kind.TheVariants.{Calls}
use Rattle.tag_model.specs.declared.state.Part.{Part}
use Rattle.tag_model.specs.declared.state.Part.TheVariants.{Cpu}
use Rattle.tag_model.specs.declared.state.Record.{Record}
use Rattle.tag_model.specs.declared.state.Run.{Run}
use Rattle.tag_model.specs.declared.state.Tag.{Tag}
use Rattle.tag_model.specs.Laws.{CoverLaw, IsCovered}
use Rattle.tag_model.specs.Reference.{amount, same_tag, hand_counts, hand_counts_of, hand_fits}
use Rattle.tag_model.specs.WordState.{Every, in_range, records_with, record_fits, part_fits, cpu_fits, hand_may_open, counted_of}
use Rattle.tag_model.proofs.Alike.{of_records}
use Rattle.tag_model.proofs.Found.{found, all_at}
use Rattle.tag_model.proofs.Lists.{record_fits_means}
use Rattle.tag_model.proofs.Parts.{TheList}
use Rattle.tag_model.proofs.Swept.{Holds, ListLaws, IsLive, run_on_loaded, live_from_run, part_passes}

pub record HandFits (h : Hand) : Type 0 where
  pub bytes : h.bytes < SIZE_END
  pub some : 0 < h.calls
  pub calls : h.calls ≤ MAX_HAND_CALLS
  pub opening : (not h.opening || (h.calls == 1)) ≡ true

pub hand_fits_means : (h : Hand) → hand_fits (Some h) ≡ true → HandFits h
hand_fits_means h e =
    let back = and_parts (nat_lt h.bytes SIZE_END && (nat_lt 0 h.calls && nat_le h.calls MAX_HAND_CALLS)) (not h.opening || (h.calls == 1)) e in
    let front = and_parts (nat_lt h.bytes SIZE_END) (nat_lt 0 h.calls && nat_le h.calls MAX_HAND_CALLS) back.0 in
    let calls = and_parts (nat_lt 0 h.calls) (nat_le h.calls MAX_HAND_CALLS) front.1 in
    record { bytes = ltb-true h.bytes SIZE_END front.0; some = ltb-true 0 h.calls calls.0; calls = leb-true h.calls MAX_HAND_CALLS calls.1; opening = back.1 }

pub hand_fits_from : (h : Hand) → HandFits h → hand_fits (Some h) ≡ true
hand_fits_from h f = and_from _ _ (and_from _ _ (lt-ltb h.bytes SIZE_END f.bytes) (and_from _ _ (lt-ltb 0 h.calls f.some) (le-leb h.calls MAX_HAND_CALLS f.calls))) f.opening

pub record CpuFits (k : Shape) (c : CpuPart) : Type 0 where
  pub number : nat_lt c.number k.cpus ≡ true
  pub words : length c.words ≡ 2 * k.tags
  pub hand : hand_fits c.hand ≡ true
  pub may_open : hand_may_open c.hand c.runs ≡ true

pub cpu_fits_means : (k : Shape) (c : CpuPart) → cpu_fits k c ≡ true → CpuFits k c
cpu_fits_means k c e =
    let last = and_parts (nat_lt c.number k.cpus && (length c.words == 2 * k.tags) && hand_fits c.hand) (hand_may_open c.hand c.runs) e in
    let middle = and_parts (nat_lt c.number k.cpus && (length c.words == 2 * k.tags)) (hand_fits c.hand) last.0 in
    let front = and_parts (nat_lt c.number k.cpus) (length c.words == 2 * k.tags) middle.0 in
    record { number = front.0; words = eqb-true (length c.words) (2 * k.tags) front.1; hand = middle.1; may_open = last.1 }

pub cpu_fits_from : (k : Shape) (c : CpuPart) → CpuFits k c → cpu_fits k c ≡ true
cpu_fits_from k c f = and_from _ _ (and_from _ _ (and_from _ _ f.number (eq-eqb (length c.words) (2 * k.tags) f.words)) f.hand) f.may_open

-- ---- what a hand counts

pub same_tag_refl : (tag : Tag) → same_tag tag tag ≡ true
same_tag_refl tag = and_from _ _ (eq-eqb tag.number tag.number refl) (eq-eqb tag.module tag.module refl)

-- two tags that are alike are one
pub same_tag_means : (a b : Tag) → same_tag a b ≡ true → a ≡ b
same_tag_means a b e =
    let both = and_parts (a.number == b.number) (a.module == b.module) e in
    λ i. record { number = eqb-true a.number b.number both.0 i; «module» = eqb-true a.module b.module both.1 i }

-- a hand counts calls under its own tag alone
pub hand_names : (tag : Tag) (h : Hand) → 0 < hand_counts_of Calls tag (Some h) → h.tag ≡ tag
hand_names tag h e = go (same_tag h.tag tag) refl e
  where
    go : (b : Bool) → same_tag h.tag tag ≡ b → 0 < cond b h.calls 0 → h.tag ≡ tag
    go true is e = same_tag_means h.tag tag is
    go false is e = absurd (omega arith)

pub hand_is_counted : (h : Hand) → hand_counts_of Calls h.tag (Some h) ≡ h.calls
hand_is_counted h = rw (same_tag_refl h.tag) refl

pub counts_here : (kind : Kind) (h : Hand) → hand_counts kind h.tag.number (Some h) ≡ amount kind h.bytes h.calls
counts_here kind h = rw (eq-eqb h.tag.number h.tag.number refl) refl

pub counts_elsewhere : (kind : Kind) (t : ℕ) (h : Hand) → (h.tag.number ≡ t → ⊥) → hand_counts kind t (Some h) ≡ 0
counts_elsewhere kind t h ne = rw (ne_eqb h.tag.number t ne) refl

-- the hand of a CPU has a covered tag
pub hand_covered : (k : Shape) (c : CpuPart) (h : Hand) (ps : List Part) → Holds ps (Cpu c) → Every (part_fits k) ps → CoverLaw k ps → c.hand ≡ Some h → IsCovered k ps h.tag
hand_covered k c h ps stands fits cover is =
    let fit = hand_fits_means h (subst (λ o. hand_fits o ≡ true) is (cpu_fits_means k c (part_passes (part_fits k) ps (Cpu c) stands fits)).hand) in
    let counts : hand_counts_of Calls h.tag c.hand ≡ h.calls = rw is (hand_is_counted h) in
    cover.named h.tag (omega (arith, stands (counted_of Calls h.tag), fit.some))

-- an allocation's hand has a live tag
pub opening_live : (k : Shape) (c : CpuPart) (h : Hand) (ps : List Part) (t : TheList ps) → ListLaws k t.l → Holds ps (Cpu c) → Every (part_fits k) ps → CoverLaw k ps → c.hand ≡ Some h → h.opening ≡ true → IsLive k ps h.tag.number
opening_live k c h ps t laws stands fits cover is opens =
    go (h.tag.module == 0) refl (hand_covered k c h ps stands fits cover is)
  where
    open_test : (not h.opening || (h.tag.module == 0) || list_any (λ (r : Run). (r.id == h.tag.module) && in_range r.start r.length h.tag.number) c.runs) ≡ true
    open_test = subst (λ o. hand_may_open o c.runs ≡ true) is (cpu_fits_means k c (part_passes (part_fits k) ps (Cpu c) stands fits)).may_open

    ran : (h.tag.module == 0) ≡ false → list_any (λ (r : Run). (r.id == h.tag.module) && in_range r.start r.length h.tag.number) c.runs ≡ true
    ran e = subst (λ b. (b || list_any (λ (r : Run). (r.id == h.tag.module) && in_range r.start r.length h.tag.number) c.runs) ≡ true) e
        (subst (λ o. (not o || (h.tag.module == 0) || list_any (λ (r : Run). (r.id == h.tag.module) && in_range r.start r.length h.tag.number) c.runs) ≡ true) opens open_test)

    go : (b : Bool) → (h.tag.module == 0) ≡ b → IsCovered k ps h.tag → IsLive k ps h.tag.number
    go false e covered = live_from_run k ps h.tag (run_on_loaded k c ps h.tag stands cover (ran e))
    go true e (inl kernel) = inl kernel.1
    go true e (inr record_there) =
        let f = found (λ (r : Record). (r.id == h.tag.module) && in_range r.start r.length h.tag.number) t.l.records (omega (arith, t.only (records_with (λ r. (r.id == h.tag.module) && in_range r.start r.length h.tag.number)) (of_records _))) in
        let fit = record_fits_means k f.item (all_at (record_fits k) f.front f.item f.back (subst (λ xs. list_all (record_fits k) xs ≡ true) f.is laws.records_fit)) in
        let same = eqb-true f.item.id h.tag.module (and_parts (f.item.id == h.tag.module) (in_range f.item.start f.item.length h.tag.number) f.passes).0 in
        absurd (omega (arith, fit, same, eqb-true h.tag.module 0 e))
