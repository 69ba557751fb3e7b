use Rattle.module_area.proofs.StartLemmas.{room_at_start}
use Rattle.module_area.proofs.book.Book.reserve.Goals as goal

pub returns-in-Some-clause-no_room : goal.returns-in-Some-clause-no_room
returns-in-Some-clause-no_room c =
    (λ e. absurd (cc e), λ h. absurd (room_at_start c.args.self.now c.args.length c.in-Some.start c.in-Some.ensures.least h.2))
