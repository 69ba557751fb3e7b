-- A step on the module list: the list part before it and after it, and the sweep law of a state by its list part.
use Rattle.std.proofs.Common.{◌≡◌, ℕ, ◌+◌, ◌<◌, ◌≤◌, List, [], ◌∷◌, sum_by, refl, sym, subst, arith, true, not}
use Rattle.std.proofs.lemmas.Bool.{and_from}
use Rattle.tag_model.specs.declared.shape.Shape.{Shape}
use Rattle.tag_model.specs.declared.state.CpuPart.{CpuPart}
use Rattle.tag_model.specs.declared.state.Kind.{Kind}
use Rattle.tag_model.specs.declared.state.Kind.TheVariants.{Bytes, Calls}
use Rattle.tag_model.specs.declared.state.ListPart.{ListPart}
use Rattle.tag_model.specs.declared.state.Part.{Part}
use Rattle.tag_model.specs.declared.state.Part.TheVariants.{Cpu, Modules, NextId}
use Rattle.tag_model.specs.declared.state.Record.{Record}
use Rattle.tag_model.specs.declared.state.Sweep.{Sweep}
use Rattle.tag_model.specs.declared.state.Sweep.TheVariants as sweep
use Rattle.tag_model.specs.Laws.{Safe, SweepLaw, cleared, is_reading, of_reader, reader_number, same_kind, tag_read, cpu_read, has_cleared, list_fits, rises_from, ids_of}
use Rattle.tag_model.specs.Shape.{IsChecked}
use Rattle.tag_model.specs.StepRules.{Becomes}
use Rattle.tag_model.specs.Wrap.{wrap}
use Rattle.tag_model.specs.WordState.{one_if, word_from, counted, is_list}
use Rattle.tag_model.proofs.Alike.{of_list, of_field, of_reading, of_cleared, of_fits}
use Rattle.tag_model.proofs.Bounds.{fresh}
use Rattle.tag_model.proofs.Found.{fails_none}
use Rattle.tag_model.proofs.Parts.{IsOfList, TheList, no_list}
use Rattle.tag_model.proofs.Passes.{SweepOk, ReadsEnough, PassBase}
use Rattle.tag_model.proofs.Swept.{ListLaws, one_if_true}

-- the parts have one list part, this one
pub record OneList (l : ListPart) (v : List Part) : Type 0 where
  pub only : (f : Part → ℕ) → IsOfList f → sum_by f v ≡ f (Modules l)
  pub stands : (f : Part → ℕ) → f (Modules l) ≤ sum_by f v

pub list_alone : (l : ListPart) → OneList l (Modules l ∷ [])
list_alone l = record { only = λ f o. omega arith; stands = λ f. omega arith }

pub list_with_cpu : (c : CpuPart) (l : ListPart) → OneList l (Cpu c ∷ Modules l ∷ [])
list_with_cpu c l = record { only = λ f o. omega (arith, o.cpu c); stands = λ f. omega arith }

pub list_with_pass : (l : ListPart) (id : ℕ) → OneList l (Modules l ∷ NextId id ∷ [])
list_with_pass l id = record { only = λ f o. omega (arith, o.pass id); stands = λ f. omega arith }

-- it is then the state's list part, before and after
rest_has_none : (v w ps qs : List Part) (l : ListPart) → OneList l v → (b : Becomes v w ps qs) → sum_by is_list ps ≡ 1 → sum_by is_list b.rest ≡ 0
rest_has_none v w ps qs l o b one = omega (arith, b.before is_list, o.only is_list of_list)

pub one_before : (v w ps qs : List Part) (l : ListPart) → OneList l v → Becomes v w ps qs → sum_by is_list ps ≡ 1 → OneList l ps
one_before v w ps qs l o b one = record {
  only = λ f of. omega (arith, b.before f, o.only f of, no_list b.rest (rest_has_none v w ps qs l o b one) f of);
  stands = λ f. omega (arith, b.before f, o.stands f);
}

pub one_after : (v w ps qs : List Part) (l m : ListPart) → OneList l v → OneList m w → Becomes v w ps qs → sum_by is_list ps ≡ 1 → OneList m qs
one_after v w ps qs l m o p b one = record {
  only = λ f of. omega (arith, b.after f, p.only f of, no_list b.rest (rest_has_none v w ps qs l o b one) f of);
  stands = λ f. omega (arith, b.after f, p.stands f);
}

abbrev pub the_one : {l : ListPart} {ps : List Part} → OneList l ps → TheList ps
the_one {l} o = record { l = l; only = o.only; stands = o.stands }

-- ---- the sweep law by the list part

pub same_kind_refl : (kind : Kind) → same_kind kind kind ≡ true
same_kind_refl Bytes = refl
same_kind_refl Calls = refl

reads_enough : (s : Sweep) (ps : List Part) → reader_number (λ r. r.tag) s ≡ tag_read ps → reader_number (λ r. r.cpu) s ≡ cpu_read ps → reader_number (λ r. r.sum) s ≡ sum_by (of_reader (λ r. r.sum)) ps
    → ((kind : Kind) → 0 < reader_number (λ r. one_if (same_kind kind r.pass)) s → sum_by (counted kind (tag_read ps)) ps ≤ wrap (sum_by (of_reader (λ r. r.sum)) ps + sum_by (word_from (cpu_read ps) kind (tag_read ps)) ps))
    → ReadsEnough s ps
reads_enough sweep.None ps tag cpu sum law = tt
reads_enough (sweep.Done left) ps tag cpu sum law = tt
reads_enough (sweep.Reading left reader) ps tag cpu sum law =
    let one : one_if (same_kind reader.pass reader.pass) ≡ 1 = rw (same_kind_refl reader.pass) refl in
    rw (tag, cpu, sum) (law reader.pass (omega arith))

pub sweep_ok : (k : Shape) (l : ListPart) (ps : List Part) → OneList l ps → ListLaws k l → SweepLaw k ps → SweepOk k l.sweep l.records ps
sweep_ok k l ps o laws law = record {
  fits = laws.sweep;
  reading = reads_enough l.sweep ps (sym (o.only (of_reader (λ r. r.tag)) (of_field _))) (sym (o.only (of_reader (λ r. r.cpu)) (of_field _))) (sym (o.only (of_reader (λ r. r.sum)) (of_field _)))
      (λ kind h. law.reading kind (omega (arith, o.only (is_reading kind) (of_reading kind))));
  cleared = λ kind t e.
      let one : one_if (has_cleared l.sweep kind t l.records) ≡ 1 = rw e refl in
      law.cleared kind t (omega (arith, o.only (cleared kind t) (of_cleared kind t)));
}

pub same_kind_means : (a b : Kind) → 0 < one_if (same_kind a b) → a ≡ b
same_kind_means Bytes Bytes h = refl
same_kind_means Bytes Calls h = absurd (omega arith)
same_kind_means Calls Bytes h = absurd (omega arith)
same_kind_means Calls Calls h = refl

read_enough : (s : Sweep) (ps : List Part) → ReadsEnough s ps → (kind : Kind) → 0 < reader_number (λ r. one_if (same_kind kind r.pass)) s
    → sum_by (counted kind (reader_number (λ r. r.tag) s)) ps ≤ wrap (reader_number (λ r. r.sum) s + sum_by (word_from (reader_number (λ r. r.cpu) s) kind (reader_number (λ r. r.tag) s)) ps)
read_enough sweep.None ps e kind h = absurd (omega arith)
read_enough (sweep.Done left) ps e kind h = absurd (omega arith)
read_enough (sweep.Reading left reader) ps e kind h =
    subst (λ x. sum_by (counted x reader.tag) ps ≤ wrap (reader.sum + sum_by (word_from reader.cpu x reader.tag) ps)) (sym (same_kind_means kind reader.pass h)) e

pub sweep_from : (k : Shape) (l : ListPart) (ps : List Part) → OneList l ps → rises_from 0 (ids_of l.records) ≡ true → SweepOk k l.sweep l.records ps → SweepLaw k ps
sweep_from k l ps o rise ok = record {
  fits = omega (arith, o.only (λ p. one_if (not (list_fits k p))) (of_fits k), fails_none (list_fits k (Modules l)) (and_from _ _ rise ok.fits));
  reading = λ kind h.
      rw (o.only (of_reader (λ r. r.tag)) (of_field _), o.only (of_reader (λ r. r.cpu)) (of_field _), o.only (of_reader (λ r. r.sum)) (of_field _))
      (read_enough l.sweep ps ok.reading kind (omega (arith, o.only (is_reading kind) (of_reading kind))));
  cleared = λ kind t h. ok.cleared kind t (one_if_true (has_cleared l.sweep kind t l.records) (omega (arith, o.only (cleared kind t) (of_cleared kind t))));
}

-- a sweep asks only for what is counted and for the words
pub sweep_ok_after : (k : Shape) (s : Sweep) (records : List Record) (ps qs : List Part) → ((kind : Kind) (t : ℕ) → sum_by (counted kind t) qs ≡ sum_by (counted kind t) ps) → ((i : ℕ) (kind : Kind) (t : ℕ) → sum_by (word_from i kind t) qs ≡ sum_by (word_from i kind t) ps)
    → SweepOk k s records ps → SweepOk k s records qs
sweep_ok_after k s records ps qs counts words ok = record {
  fits = ok.fits;
  reading = go s ok.reading;
  cleared = λ kind t e. omega (arith, counts kind t, ok.cleared kind t e);
}
  where
    go : (s : Sweep) → ReadsEnough s ps → ReadsEnough s qs
    go sweep.None e = tt
    go (sweep.Done left) e = tt
    go (sweep.Reading left reader) e = rw (counts reader.pass reader.tag, words reader.cpu reader.pass reader.tag) e

pub pass_base : (k : Shape) (l : ListPart) (ps : List Part) → IsChecked k → ListLaws k l → Safe k ps → PassBase k l.records ps
pass_base k l ps ok laws safe = record { some_cpu = ok.some_cpu; fit = laws.records_fit; apart = laws.apart; fresh = fresh k ps ok safe.each safe.fits safe.sums }
