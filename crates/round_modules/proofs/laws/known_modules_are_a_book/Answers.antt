use Rattle.round_modules.proofs.KnownBooks.{known_book, known_itself, known_named, known_users}
use Rattle.round_modules.proofs.laws.known_modules_are_a_book.Goals as goal

pub returns-clause-book : goal.returns-clause-book
returns-clause-book c = known_book

pub returns-clause-named : goal.returns-clause-named
returns-clause-named c = known_named

pub returns-clause-users : goal.returns-clause-users
returns-clause-users c = known_users

pub returns-clause-itself : goal.returns-clause-itself
returns-clause-itself c = known_itself
