-- The status where there are no arguments to serve.
use Rattle.std.specs.Prelude.{ℕ}
use Rattle.memprof.specs.declared.Unread.{Unread}
use Rattle.memprof.specs.declared.Unread.TheVariants.{Failed, Memory}

abbrev pub status_of : Unread → ℕ
status_of Failed = 2
status_of (Memory want) = 3
