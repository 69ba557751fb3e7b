-- A CPU takes a note of each record.
use Rattle.std.proofs.Common.{◌≡◌, List, [], ◌∷◌, ◌++◌, map, refl, sym, subst, ◌∙◌, arith, append_assoc}
use Rattle.std.proofs.lemmas.List.Sums.{sum_by-append}
use Rattle.tag_model.specs.declared.shape.Shape.{Shape}
use Rattle.tag_model.specs.declared.state.CpuPart.{CpuPart}
use Rattle.tag_model.specs.declared.state.ListPart.{ListPart}
use Rattle.tag_model.specs.declared.state.Part.{Part}
use Rattle.tag_model.specs.declared.state.Part.TheVariants.{Cpu, Modules}
use Rattle.tag_model.specs.declared.state.Record.{Record}
use Rattle.tag_model.specs.Laws.{Safe}
use Rattle.tag_model.specs.StepRules.{Becomes}
use Rattle.tag_model.proofs.BaseMoves.{safe-notes_record}
use Rattle.tag_model.proofs.Places.{safe_same}
use Rattle.tag_rule.specs.declared.view.View.{View}
use Rattle.tag_model.specs.Laws.{note_of}
use Rattle.tag_rule.specs.Rule.{Moves, view_of}
use Rattle.tag_rule.specs.Seated.{cpu_in, list_in}

abbrev pub noting : List Record → CpuPart → CpuPart
noting records c = record c { notes = map note_of records ++ c.notes }

module _ (k : Shape) (c : CpuPart) (l : ListPart) where
  -- the notes of some last records
  notes_keep : (front rest : List Record) → l.records ≡ front ++ rest → (ps qs : List Part) → Becomes (Cpu c ∷ Modules l ∷ []) (Cpu (noting rest c) ∷ Modules l ∷ []) ps qs → Safe k ps → Safe k qs
  notes_keep front [] is ps qs b safe = safe_same k ps qs (λ f. omega (arith, b.before f, b.after f)) safe
  notes_keep front (r ∷ rest) is ps qs b safe =
      let w : List Part = Cpu (noting rest c) ∷ Modules l ∷ [] in
      let mid : List Part = b.rest ++ w in
      let first : Becomes (Cpu c ∷ Modules l ∷ []) w ps mid = record { rest = b.rest; before = b.before; after = λ f. sum_by-append f b.rest w } in
      let then_one : Becomes w (Cpu (noting (r ∷ rest) c) ∷ Modules l ∷ []) mid qs = record { rest = b.rest; before = λ f. sum_by-append f b.rest w; after = b.after } in
      safe-notes_record k (noting rest c) (noting (r ∷ rest) c) l mid qs (record { front = front; entry = r; back = rest; there = is; after = refl }) then_one
      (notes_keep (front ++ r ∷ []) rest (is ∙ sym (append_assoc front (r ∷ []) rest)) ps mid first safe)

  notes_moves : Moves k (Cpu c ∷ Modules l ∷ []) (Cpu (noting l.records c) ∷ Modules l ∷ [])
  notes_moves = record { owned = λ q. refl; exact = λ q. refl; safe = λ ps qs ok b safe. notes_keep [] l.records refl ps qs b safe }

pub notes_at : (k : Shape) (v u : View) → v ≡ view_of (Cpu (cpu_in v.parts) ∷ []) → u ≡ view_of (Modules (list_in u.parts) ∷ []) → Moves k (v.parts ++ u.parts) (Cpu (noting (list_in u.parts).records (cpu_in v.parts)) ∷ Modules (list_in u.parts) ∷ [])
notes_at k v u v_is u_is =
    subst (λ (ps : List Part). Moves k ps (Cpu (noting (list_in u.parts).records (cpu_in v.parts)) ∷ Modules (list_in u.parts) ∷ [])) (λ i. (sym v_is i).parts ++ (sym u_is i).parts) (notes_moves k (cpu_in v.parts) (list_in u.parts))
