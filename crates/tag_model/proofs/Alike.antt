-- Two states that differ at most in words and in what is counted: they have the same CPUs, places, runs, notes and module list.
use Rattle.std.proofs.Common.{◌≡◌, ℕ, ◌+◌, ◌<◌, ◌≤◌, ◌==◌, ◌&&◌, nat_lt, nat_le, List, [], ◌∷◌, sum_by, refl, sym, subst, inl, inr, arith, Bool, not, Option}
use Rattle.tag_model.specs.declared.shape.Shape.{Shape}
use Rattle.tag_model.specs.declared.state.CpuPart.{CpuPart}
use Rattle.tag_model.specs.declared.state.Hand.{Hand}
use Rattle.tag_model.specs.declared.state.Held.{Held}
use Rattle.tag_model.specs.declared.state.Kind.{Kind}
use Rattle.tag_model.specs.declared.state.Kind.TheVariants.{Calls}
use Rattle.tag_model.specs.declared.state.Note.{Note}
use Rattle.tag_model.specs.declared.state.Part.{Part}
use Rattle.tag_model.specs.declared.state.Part.TheVariants.{Cpu, Place}
use Rattle.tag_model.specs.declared.state.Reader.{Reader}
use Rattle.tag_model.specs.declared.state.Record.{Record}
use Rattle.tag_model.specs.declared.state.Run.{Run}
use Rattle.tag_model.specs.declared.state.Tag.{Tag}
use Rattle.tag_model.specs.Laws.{OneOfEach, CoverLaw, SweepLaw, IsCovered, is_loaded_as, same_run, same_note, contradicts, runs_of_cpu, cleared, of_reader, is_reading, list_fits, tag_read, cpu_read}
use Rattle.tag_model.specs.StepRules.{Becomes}
use Rattle.tag_model.specs.Wrap.{wrap}
use Rattle.tag_model.specs.WordState.{one_if, Every, word_from, counted, counted_of, is_cpu, is_place, is_place_at, is_list, is_pass, in_range, records_with, runs_with, notes_with, users_of, next_id}
use Rattle.tag_model.proofs.Parts.{becomes_same, IsOfList}

pub record Alike (ps qs : List Part) : Type 0 where
  pub cpus : (n : ℕ) → sum_by (is_cpu n) ps ≡ sum_by (is_cpu n) qs
  pub pass : sum_by is_pass ps ≡ sum_by is_pass qs
  pub places : (n : ℕ) → sum_by (is_place_at n) ps ≡ sum_by (is_place_at n) qs
  pub few_places : sum_by is_place ps ≡ sum_by is_place qs
  pub runs : (test : Run → Bool) → sum_by (runs_with test) ps ≡ sum_by (runs_with test) qs
  pub notes : (test : Note → Bool) → sum_by (notes_with test) ps ≡ sum_by (notes_with test) qs
  pub next : sum_by next_id ps ≡ sum_by next_id qs
  pub one_run : (id : ℕ) → sum_by (λ p. one_if (not (nat_le (runs_of_cpu id p) 1))) ps ≡ sum_by (λ p. one_if (not (nat_le (runs_of_cpu id p) 1))) qs
  pub list : (f : Part → ℕ) → IsOfList f → sum_by f ps ≡ sum_by f qs

-- the same of all but the sweep
pub record AlikeBook (ps qs : List Part) : Type 0 where
  pub cpus : (n : ℕ) → sum_by (is_cpu n) ps ≡ sum_by (is_cpu n) qs
  pub pass : sum_by is_pass ps ≡ sum_by is_pass qs
  pub places : (n : ℕ) → sum_by (is_place_at n) ps ≡ sum_by (is_place_at n) qs
  pub few_places : sum_by is_place ps ≡ sum_by is_place qs
  pub runs : (test : Run → Bool) → sum_by (runs_with test) ps ≡ sum_by (runs_with test) qs
  pub notes : (test : Note → Bool) → sum_by (notes_with test) ps ≡ sum_by (notes_with test) qs
  pub next : sum_by next_id ps ≡ sum_by next_id qs
  pub one_run : (id : ℕ) → sum_by (λ p. one_if (not (nat_le (runs_of_cpu id p) 1))) ps ≡ sum_by (λ p. one_if (not (nat_le (runs_of_cpu id p) 1))) qs
  pub list : sum_by is_list ps ≡ sum_by is_list qs
  pub records : (test : Record → Bool) → sum_by (records_with test) ps ≡ sum_by (records_with test) qs
  pub users : (id : ℕ) → sum_by (users_of id) ps ≡ sum_by (users_of id) qs
  pub high : (next : ℕ) → sum_by (λ p. one_if (not (records_with (λ r. not (nat_lt r.id next)) p == 0))) ps ≡ sum_by (λ p. one_if (not (records_with (λ r. not (nat_lt r.id next)) p == 0))) qs

-- parts that become parts like them leave the state like it was
pub alike_after : (v w ps qs : List Part) → Alike v w → Becomes v w ps qs → Alike ps qs
alike_after v w ps qs a b = record {
  cpus = λ n. sym (becomes_same (is_cpu n) v w ps qs b (a.cpus n));
  pass = sym (becomes_same is_pass v w ps qs b a.pass);
  places = λ n. sym (becomes_same (is_place_at n) v w ps qs b (a.places n));
  few_places = sym (becomes_same is_place v w ps qs b a.few_places);
  runs = λ test. sym (becomes_same (runs_with test) v w ps qs b (a.runs test));
  notes = λ test. sym (becomes_same (notes_with test) v w ps qs b (a.notes test));
  next = sym (becomes_same next_id v w ps qs b a.next);
  one_run = λ id. sym (becomes_same (λ p. one_if (not (nat_le (runs_of_cpu id p) 1))) v w ps qs b (a.one_run id));
  list = λ f o. sym (becomes_same f v w ps qs b (a.list f o));
}

-- a CPU's words and hand may differ
pub alike_cpu : (c : CpuPart) (words : List ℕ) (hand : Option Hand) → Alike (Cpu c ∷ []) (Cpu (record c { words = words; hand = hand }) ∷ [])
alike_cpu c words hand = record {
  cpus = λ n. refl;
  pass = refl;
  places = λ n. refl;
  few_places = refl;
  runs = λ test. refl;
  notes = λ test. refl;
  next = refl;
  one_run = λ id. refl;
  list = λ f o. omega (arith, o.cpu c, o.cpu (record c { words = words; hand = hand }));
}

-- and so may what a place of its holds
pub alike_place : (c : CpuPart) (hand : Option Hand) (n : ℕ) (was next : Held) → Alike (Cpu c ∷ Place n was ∷ []) (Cpu (record c { hand = hand }) ∷ Place n next ∷ [])
alike_place c hand n was next = record {
  cpus = λ n. refl;
  pass = refl;
  places = λ n. refl;
  few_places = refl;
  runs = λ test. refl;
  notes = λ test. refl;
  next = refl;
  one_run = λ id. refl;
  list = λ f o. omega (arith, o.cpu c, o.cpu (record c { hand = hand }), o.place n was, o.place n next);
}

-- ---- numbers that only the list part has

pub of_list : IsOfList is_list
of_list = record { cpu = λ c. refl; place = λ n held. refl; pass = λ id. refl }

pub of_records : (test : Record → Bool) → IsOfList (records_with test)
of_records test = record { cpu = λ c. refl; place = λ n held. refl; pass = λ id. refl }

pub of_users : (id : ℕ) → IsOfList (users_of id)
of_users id = record { cpu = λ c. refl; place = λ n held. refl; pass = λ next. refl }

pub of_high : (next : ℕ) → IsOfList (λ p. one_if (not (records_with (λ r. not (nat_lt r.id next)) p == 0)))
of_high next = record { cpu = λ c. refl; place = λ n held. refl; pass = λ id. refl }

pub of_field : (field : Reader → ℕ) → IsOfList (of_reader field)
of_field field = record { cpu = λ c. refl; place = λ n held. refl; pass = λ id. refl }

pub of_reading : (kind : Kind) → IsOfList (is_reading kind)
of_reading kind = record { cpu = λ c. refl; place = λ n held. refl; pass = λ id. refl }

pub of_cleared : (kind : Kind) (t : ℕ) → IsOfList (cleared kind t)
of_cleared kind t = record { cpu = λ c. refl; place = λ n held. refl; pass = λ id. refl }

pub of_fits : (k : Shape) → IsOfList (λ p. one_if (not (list_fits k p)))
of_fits k = record { cpu = λ c. refl; place = λ n held. refl; pass = λ id. refl }

pub alike_book : (ps qs : List Part) → Alike ps qs → AlikeBook ps qs
alike_book ps qs a = record {
  cpus = a.cpus;
  pass = a.pass;
  places = a.places;
  few_places = a.few_places;
  runs = a.runs;
  notes = a.notes;
  next = a.next;
  one_run = a.one_run;
  list = a.list is_list of_list;
  records = λ test. a.list (records_with test) (of_records test);
  users = λ id. a.list (users_of id) (of_users id);
  high = λ next. a.list (λ p. one_if (not (records_with (λ r. not (nat_lt r.id next)) p == 0))) (of_high next);
}

pub book_after : (v w ps qs : List Part) → AlikeBook v w → Becomes v w ps qs → AlikeBook ps qs
book_after v w ps qs a b = record {
  cpus = λ n. sym (becomes_same (is_cpu n) v w ps qs b (a.cpus n));
  pass = sym (becomes_same is_pass v w ps qs b a.pass);
  places = λ n. sym (becomes_same (is_place_at n) v w ps qs b (a.places n));
  few_places = sym (becomes_same is_place v w ps qs b a.few_places);
  runs = λ test. sym (becomes_same (runs_with test) v w ps qs b (a.runs test));
  notes = λ test. sym (becomes_same (notes_with test) v w ps qs b (a.notes test));
  next = sym (becomes_same next_id v w ps qs b a.next);
  one_run = λ id. sym (becomes_same (λ p. one_if (not (nat_le (runs_of_cpu id p) 1))) v w ps qs b (a.one_run id));
  list = sym (becomes_same is_list v w ps qs b a.list);
  records = λ test. sym (becomes_same (records_with test) v w ps qs b (a.records test));
  users = λ id. sym (becomes_same (users_of id) v w ps qs b (a.users id));
  high = λ next. sym (becomes_same (λ p. one_if (not (records_with (λ r. not (nat_lt r.id next)) p == 0))) v w ps qs b (a.high next));
}

-- ---- what alike states share of the laws

pub each_alike : (k : Shape) (ps qs : List Part) → AlikeBook ps qs → OneOfEach k ps → OneOfEach k qs
each_alike k ps qs a e = record {
  cpus = λ n h. omega (arith, a.cpus n, e.cpus n h);
  list = omega (arith, a.list, e.list);
  pass = omega (arith, a.pass, e.pass);
  places = λ n. omega (arith, a.places n, e.places n);
  few_places = omega (arith, a.few_places, e.few_places);
}

pub covered_alike : (k : Shape) (ps qs : List Part) → AlikeBook ps qs → (tag : Tag) → IsCovered k ps tag → IsCovered k qs tag
covered_alike k ps qs a tag (inl h) = inl h
covered_alike k ps qs a tag (inr h) = inr (omega (arith, a.records (λ r. (r.id == tag.module) && in_range r.start r.length tag.number)))

-- the cover law stays where each tag that is newly counted is covered
pub cover_alike : (k : Shape) (ps qs : List Part) → AlikeBook ps qs → CoverLaw k ps → ((tag : Tag) → 0 < sum_by (counted_of Calls tag) qs → IsCovered k ps tag) → CoverLaw k qs
cover_alike k ps qs a c named = record {
  ids_below_next =
      subst (λ next. Every (λ p. (records_with (λ r. not (nat_lt r.id next)) p == 0)) qs) a.next
      (omega (arith, c.ids_below_next, a.high (sum_by next_id ps)));
  ids_apart = λ id. omega (arith, a.records (λ r. r.id == id), c.ids_apart id);
  ranges_apart = λ t. omega (arith, a.records (λ r. in_range r.start r.length t), c.ranges_apart t);
  named = λ tag h. covered_alike k ps qs a tag (named tag h);
  runs = λ run h. omega (arith, a.records (is_loaded_as run), c.runs run (omega (arith, a.runs (same_run run))));
  one_run = λ id. omega (arith, a.one_run id, c.one_run id);
  users = λ id. omega (arith, a.runs (λ r. r.id == id), a.users id, c.users id);
  notes_known = λ n h. omega (arith, a.next, c.notes_known n (omega (arith, a.notes (same_note n))));
  notes_agree = λ n h. omega (arith, a.records (contradicts n), c.notes_agree n (omega (arith, a.notes (same_note n))));
}

-- the sweep law stays where no word that it still reads and no count under what it has read breaks it
pub sweep_alike : (k : Shape) (ps qs : List Part) → Alike ps qs → SweepLaw k ps
    → ((kind : Kind) (s : ℕ) → 0 < sum_by (is_reading kind) ps → sum_by (counted kind (tag_read ps)) ps ≤ wrap (s + sum_by (word_from (cpu_read ps) kind (tag_read ps)) ps) → sum_by (counted kind (tag_read ps)) qs ≤ wrap (s + sum_by (word_from (cpu_read ps) kind (tag_read ps)) qs))
    → ((kind : Kind) (t : ℕ) → 0 < sum_by (cleared kind t) ps → sum_by (counted kind t) ps ≡ 0 → sum_by (counted kind t) qs ≡ 0)
    → SweepLaw k qs
sweep_alike k ps qs a w still stays = record {
  fits = omega (arith, w.fits, a.list (λ p. one_if (not (list_fits k p))) (of_fits k));
  reading = λ kind h.
      let same_tag : tag_read ps ≡ tag_read qs = a.list (of_reader (λ r. r.tag)) (of_field _) in
      let same_cpu : cpu_read ps ≡ cpu_read qs = a.list (of_reader (λ r. r.cpu)) (of_field _) in
      let same_sum : sum_by (of_reader (λ r. r.sum)) ps ≡ sum_by (of_reader (λ r. r.sum)) qs = a.list (of_reader (λ r. r.sum)) (of_field _) in
      let reads : 0 < sum_by (is_reading kind) ps = omega (arith, a.list (is_reading kind) (of_reading kind)) in
      subst (λ t. sum_by (counted kind t) qs ≤ wrap (sum_by (of_reader (λ r. r.sum)) qs + sum_by (word_from (cpu_read qs) kind t) qs)) same_tag
      (subst (λ i. sum_by (counted kind (tag_read ps)) qs ≤ wrap (sum_by (of_reader (λ r. r.sum)) qs + sum_by (word_from i kind (tag_read ps)) qs)) same_cpu
      (subst (λ s. sum_by (counted kind (tag_read ps)) qs ≤ wrap (s + sum_by (word_from (cpu_read ps) kind (tag_read ps)) qs)) same_sum
      (still kind (sum_by (of_reader (λ r. r.sum)) ps) reads (w.reading kind reads))));
  cleared = λ kind t h.
      let was : 0 < sum_by (cleared kind t) ps = omega (arith, a.list (cleared kind t) (of_cleared kind t)) in
      stays kind t was (w.cleared kind t was);
}
