-- Reads of words that aren't the last CPU's, one after another, leave the list as one read over them does.
use Rattle.std.proofs.Common.{◌≡◌, ℕ, zero, suc, ◌+◌, ◌*◌, ◌<◌, ◌≤◌, nat_lt, List, [], ◌∷◌, Some, length, refl, sym, ap, ◌∙◌, subst, arith, Bool, true, false, append-nil, lt-ltb}
use Rattle.tag_model.specs.declared.shape.Shape.{Shape}
use Rattle.tag_model.specs.declared.state.Reader.{Reader}
use Rattle.tag_model.specs.declared.state.Sweep.{Sweep}
use Rattle.tag_model.specs.declared.state.Sweep.TheVariants as sweep
use Rattle.tag_section.specs.Section.{Section}
use Rattle.core_list.specs.ListState.{ListState, IsList, next_of, read_to, read_to_at}
use Rattle.module_ops.specs.declared.op.ManagerOp.{ManagerOp}
use Rattle.module_ops.specs.Modules.{Managing, ModuleTable, CanManage, TellNothing, managed, managed_times, read_of, read_over, reads_in, reads_next, words_at}
use Rattle.module_ops.proofs.Sweeping.{reads_inside}

-- ---- the reader keeps its tag

pub stays_in_tag : (words : List (List ℕ)) (n : ℕ) (r : Reader) → ◌≡◌ {A = Reader} (read_over words n r) (record r { cpu = r.cpu + n; sum = (read_over words n r).sum })
stays_in_tag words zero r = let none : r.cpu ≡ r.cpu + 0 = omega arith in ap (λ c. let x : Reader = record r { cpu = c } in x) none
stays_in_tag words (suc n) r =
    let next : Reader = (read_over words 1 r) in
    let more : r.cpu + 1 + n ≡ r.cpu + suc n = omega arith in
    stays_in_tag words n next ∙ ap (λ c. let x : Reader = record r { cpu = c; sum = (read_over words n next).sum } in x) more

-- ---- the manager's steps

-- a sweep is under way, and reads
abbrev reading_at : ModuleTable → List ℕ → ManagerOp → List ManagerOp → Reader → ModuleTable
reading_at ms left op ops r = record { inside = ms.inside; list = record ms.list { sweep = sweep.Reading left r }; manager = record { ops = op ∷ ops; under_way = true } }

module _ (k : Shape) (sections : List Section) (words : List (List ℕ)) (ms : ModuleTable) (left : List ℕ) (op : ManagerOp) (ops : List ManagerOp) where
  one_read : (r : Reader) → r.cpu + 1 < k.cpus → ◌≡◌ {A = ModuleTable} (managed k sections words (reading_at ms left op ops r)) (reading_at ms left op ops (read_over words 1 r))
  one_read r more = let before : nat_lt (r.cpu + 1) k.cpus ≡ true = lt-ltb (r.cpu + 1) k.cpus more in rw (before, append-nil) refl

  some_reads : (n : ℕ) (r : Reader) → r.cpu + n < k.cpus → ◌≡◌ {A = ModuleTable} (managed_times k sections words n (reading_at ms left op ops r)) (reading_at ms left op ops (read_over words n r))
  some_reads zero r within = refl
  some_reads (suc n) r within = ap (managed_times k sections words n) (one_read r (omega arith)) ∙ some_reads n (read_over words 1 r) (omega arith)

  quiet_reads : (n : ℕ) (r : Reader) → r.cpu + n < k.cpus → TellNothing k sections words n (reading_at ms left op ops r)
  quiet_reads zero r within = tt
  quiet_reads (suc n) r within =
      let before : nat_lt (r.cpu + 1) k.cpus ≡ true = lt-ltb (r.cpu + 1) k.cpus (omega arith) in
      (refl, rw before refl, subst (TellNothing k sections words n) (sym (one_read r (omega arith))) (quiet_reads n (read_over words 1 r) (omega arith)))

-- ---- the table of a sweep that reads

pub record ReadsAt (ms : ModuleTable) (r : Reader) : Type 0 where
  pub left : List ℕ
  pub op : ManagerOp
  pub ops : List ManagerOp
  pub sweep : ms.list.sweep ≡ sweep.Reading left r
  pub manager : ◌≡◌ {A = Managing} ms.manager (record { ops = op ∷ ops; under_way = true })

reads_sweep : (s : Sweep) (r : Reader) → read_of (next_of s) ≡ Some r → (left : List ℕ) × (s ≡ sweep.Reading left r)
reads_sweep sweep.None r e = absurd (cc)
reads_sweep (sweep.Done []) r e = absurd (cc)
reads_sweep (sweep.Done (id ∷ left)) r e = absurd (cc)
reads_sweep (sweep.Reading left x) r e = let same : x ≡ r = cc in (left, ap (sweep.Reading left) same)

pub reads_at : (ms : ModuleTable) (r : Reader) → reads_next ms ≡ Some r → ReadsAt ms r
reads_at ms r e = go ms.manager.ops ms.manager.under_way refl refl e
  where
    go : (ops : List ManagerOp) (way : Bool) → ms.manager.ops ≡ ops → ms.manager.under_way ≡ way → reads_in ops way (next_of ms.list.sweep) ≡ Some r → ReadsAt ms r
    go [] way is under e = absurd (cc)
    go (op ∷ ops) false is under e = absurd (cc)
    go (op ∷ ops) true is under e =
        let s = reads_sweep ms.list.sweep r e in
        record {
          left = s.0;
          op = op;
          ops = ops;
          sweep = s.1;
          manager = ap (λ xs. let m : Managing = record { ops = xs; under_way = ms.manager.under_way } in m) is ∙ ap (λ b. let m : Managing = record { ops = op ∷ ops; under_way = b } in m) under;
        }

same_table : (ms : ModuleTable) (r : Reader) → (at : ReadsAt ms r) → ◌≡◌ {A = ModuleTable} ms (reading_at ms at.left at.op at.ops r)
same_table ms r at =
    ap (λ m. let t : ModuleTable = record ms { manager = m } in t) at.manager
    ∙ ap (λ s. let t : ModuleTable = record { inside = ms.inside; list = record ms.list { sweep = s }; manager = record { ops = at.op ∷ at.ops; under_way = true } } in t) at.sweep

-- what is left where the list goes on at a CPU with a sum
read_on_is : (ms : ModuleTable) (list : ListState) (words : List (List ℕ)) (n : ℕ) (r : Reader) → (at : ReadsAt ms r) → ◌≡◌ {A = ListState} list (read_to (read_over words n r).cpu (read_over words n r).sum ms.list)
    → ◌≡◌ {A = ModuleTable} (record ms { list = list }) (reading_at ms at.left at.op at.ops (read_over words n r))
read_on_is ms list words n r at e =
    let after = read_over words n r in
    let to : Sweep → ListState = λ s. read_to_at after.cpu after.sum ms.list s in
    let cpu : after.cpu ≡ r.cpu + n = ap (λ (x : Reader). x.cpu) (stays_in_tag words n r) in
    let same : ◌≡◌ {A = Reader} (record r { cpu = after.cpu; sum = after.sum }) after = ap (λ c. let x : Reader = record r { cpu = c; sum = after.sum } in x) cpu ∙ sym (stays_in_tag words n r) in
    ap (λ l. let t : ModuleTable = record ms { list = l } in t) (e ∙ ap to at.sweep)
    ∙ (ap (λ m. let t : ModuleTable = record { inside = ms.inside; list = to (sweep.Reading at.left r); manager = m } in t) at.manager
    ∙ ap (λ x. reading_at ms at.left at.op at.ops x) same)

pub read_on_after : (k : Shape) (sections : List Section) (words : List (List ℕ)) (ms : ModuleTable) (list : ListState) (n : ℕ) (r : Reader) → reads_next ms ≡ Some r → r.cpu + n < k.cpus
    → ◌≡◌ {A = ListState} list (read_to (read_over words n r).cpu (read_over words n r).sum ms.list) → ◌≡◌ {A = ModuleTable} (record ms { list = list }) (managed_times k sections words n ms)
read_on_after k sections words ms list n r next within e =
    let at = reads_at ms r next in
    read_on_is ms list words n r at e ∙ (sym (some_reads k sections words ms at.left at.op at.ops n r within) ∙ ap (managed_times k sections words n) (sym (same_table ms r at)))

pub read_on_quiet : (k : Shape) (sections : List Section) (words : List (List ℕ)) (ms : ModuleTable) (n : ℕ) (r : Reader) → reads_next ms ≡ Some r → r.cpu + n < k.cpus → TellNothing k sections words n ms
read_on_quiet k sections words ms n r next within =
    let at = reads_at ms r next in
    subst (TellNothing k sections words n) (sym (same_table ms r at)) (quiet_reads k sections words ms at.left at.op at.ops n r within)

-- ---- what is read is there

pub record ReadsThere (k : Shape) (words : List (List ℕ)) (r : Reader) : Type 0 where
  pub cpu : r.cpu < k.cpus
  pub cpus : length words ≡ k.cpus
  pub few : k.cpus ≤ 64
  pub tags : (cpu : ℕ) → cpu < length words → 2 * r.tag + 1 < length (words_at words cpu)

pub reads_there : (k : Shape) (sections : List Section) (words : List (List ℕ)) (ms : ModuleTable) (r : Reader) → CanManage k sections words ms → IsList ms.list → reads_next ms ≡ Some r → ReadsThere k words r
reads_there k sections words ms r can ok next =
    let at = reads_at ms r next in
    let inside = reads_inside k ms.list r ok can.sweep (ap next_of at.sweep) in
    record {
      cpu = inside.cpu;
      cpus = can.cpus;
      few = can.checked.few_cpus;
      tags = λ cpu below. omega (arith, can.own_words cpu (omega (arith, can.cpus)), can.area, inside.tag);
    }
