-- What a desk at a place prints is what the meaning prints there.
use Rattle.std.proofs.Common.{Bool, ◌≡◌, ℕ, ◌<◌, ◌≤◌, length, get_or, Option, All, sym, ap, ◌∙◌, subst, arith}
use Rattle.std.proofs.lemmas.List.Elements.{All-weaker}
use Rattle.tag_model.specs.Reference.{live_total}
use Rattle.tag_section.specs.Section.{section_at}
use Rattle.module_area.specs.declared.entry.Entry.{Entry}
use Rattle.module_area.specs.Area.{Area}
use Rattle.tag_rule.specs.Shown.{Board, CpuShown}
use Rattle.reclaim.specs.State.{IsLocked}
use Rattle.run_text.specs.Rows.{TotalsAreLive, quiet_rows}
use Rattle.run_text.proofs.EntryLemmas.{IsOfModule, entries_of_modules}
use Rattle.run_text.proofs.RowLemmas.{text_is_live}
use Rattle.trace.specs.declared.traces.Trace.{Trace}
use Rattle.trace_play.specs.Machine.{Machine, live_cells}
use Rattle.trace_play.specs.Printed.{print_text, some_rows_text}
use Rattle.trace_play.specs.Totals.{IsAccounted}
use Rattle.trace_play.proofs.TotalsHold.{accounted, totals_after}
use Rattle.trace_play.proofs.WordsTotal.{AreLow, low_after, words_are_live}
use Rattle.standing.proofs.CpusMoved.{stand_at}
use Rattle.standing.proofs.EndTotals.{total_is}
use Rattle.rounds.specs.Places.{IsThere, Place, machine_at}
use Rattle.rounds.specs.Turns.{StandsAt}
use Rattle.rounds.specs.declared.desk.Desk.{Desk}

pub boards : (b : Board) (trace : Trace) (m : Machine) (d : Desk) → StandsAt b trace m d → (k : ℕ) (c : CpuShown) → k < length d.cpus.items → (get_or d.cpus.items k c).board ≡ d.locked.board
boards b trace m d at k c low = ap (λ (x : CpuShown). x.board) (stand_at b m d.cpus.items k c at.cpus low) ∙ sym at.list.board

module _ (p : Place) (d : Desk) (at : IsThere p d) where
  pub above_kernel : All (λ (e : Entry). 0 < e.section) d.locked.area.entries
  above_kernel =
      subst (λ (a : Area). All (λ (e : Entry). 0 < e.section) a.entries) (sym at.list.area)
      (All-weaker (IsOfModule p.trace.sections) (λ (e : Entry). 0 < e.section) (λ e h. h.0) (machine_at p).area.entries (entries_of_modules p.trace p.top p.formed p.front p.back p.stands))

  pub kernel_fits : length (section_at d.locked.sections 0).tags ≤ d.locked.board.shape.tags
  kernel_fits =
      let few = p.formed.sections.within_limits 0 p.formed.kernel in
      let same : length (section_at d.locked.sections 0).tags ≡ length (section_at p.trace.sections 0).tags = ap (λ sections. length (section_at sections 0).tags) at.list.sections_are in
      let tags : d.locked.board.shape.tags ≡ p.board.shape.tags = ap (λ (b : Board). b.shape.tags) at.list.board in
      omega (arith, few, same, tags, at.room.area)

  totals : (tags : ℕ) → tags ≡ p.board.shape.tags → TotalsAreLive tags d.cpus.items (machine_at p)
  totals tags same kind t low =
      let m = machine_at p in
      let l = low_after p.trace p.top p.formed p.passes p.front p.back p.stands in
      let low_moves : AreLow (length m.seats) m.tally.moves = subst (λ n. AreLow n m.tally.moves) (sym l.seats) l.low in
      let accounts : IsAccounted m = λ kind tag. accounted kind tag m (totals_after kind tag p.trace p.top p.formed p.passes p.front p.back p.stands) in
      total_is p.board m kind t d.cpus.items at.cpus (omega (arith, l.seats, at.room.cpus)) low_moves (omega (arith, low, same))
      ∙ words_are_live m accounts low_moves kind t (live_total kind t (live_cells m)) (accounts kind t)

  pub prints : IsLocked d.locked → (kept : Bool) (top : Option ℕ) → some_rows_text top d.locked.sections (quiet_rows kept d.locked d.cpus.items) ≡ print_text p.trace.sections kept top (machine_at p)
  prints locked kept top =
      text_is_live top kept d.locked d.cpus.items (machine_at p) locked kernel_fits (ap (λ (a : Area). a.entries) (sym at.list.area)) (totals d.locked.board.shape.tags (ap (λ (b : Board). b.shape.tags) at.list.board))
      ∙ ap (λ sections. print_text sections kept top (machine_at p)) at.list.sections_are
