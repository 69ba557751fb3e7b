use Rattle.std.proofs.Common.{◌≡◌, Some, sym, ap, ◌∙◌}
use Rattle.module_area.specs.Area.{Area}
use Rattle.module_area.specs.Entries.{entry_of, id_loaded}
use Rattle.cpu_ops.proofs.LoadedEntry.{loaded_by_id}
use Rattle.cpu_ops.proofs.scene.loaded.Goals as goal

pub returns-in-Some-clause-value : goal.returns-in-Some-clause-value
returns-in-Some-clause-value c =
    let book = c.book-book.ensures.value in
    let id : id_loaded c.args.list.now.area.entries c.args.section ≡ Some c.in-Some.id = ap (λ (a : Area). id_loaded a.entries c.args.section) (sym book) ∙ sym c.loaded.ensures.value ∙ c.in-Some.is in
    let got : c.get.result ≡ entry_of c.args.list.now.area.entries c.in-Some.id = c.get.ensures.value ∙ ap (λ (a : Area). entry_of a.entries c.in-Some.id) book in
    (got ∙ loaded_by_id c.args.section c.args.list.now c.in-Some.id c.book-book.ensures.holds id)
