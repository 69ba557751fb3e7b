-- What a change of the list makes of what is kept at run time.
use Rattle.std.specs.Prelude.{IsTrue, IsSome}
use Rattle.module_list.specs.Listing.{Listing, marked_dead, may_release, record_in, released, swept}
use Rattle.tag_rule.specs.declared.changing.Change.{Change}
use Rattle.tag_rule.specs.declared.changing.Change.TheVariants as change

abbrev pub MayKeep : Change → Listing → Type 0
MayKeep (change.Enter id) l = Unit {0}
MayKeep (change.Leave id) l = Unit {0}
MayKeep (change.Dead id) l = IsSome (record_in id l.records)
MayKeep change.Sweep l = Unit {0}
MayKeep (change.Release id) l = IsTrue (may_release id l.sweep)

-- an enter and a leave change users alone, which aren't kept
abbrev pub kept_after : Change → Listing → Listing
kept_after (change.Enter id) l = l
kept_after (change.Leave id) l = l
kept_after (change.Dead id) l = marked_dead id l
kept_after change.Sweep l = swept l
kept_after (change.Release id) l = released id l
