-- What the report of every script says, whatever the script: the laws of this crate, each once.
use Rattle.report_laws.specs.Shown.{PrintedAsShown, PrintedValues}
use Rattle.report_laws.specs.Moves.{PrintedCounts}
use Rattle.report_laws.specs.Honest.{HonestByLines, OneHolder}
use Rattle.report_laws.specs.Looking.{LooksBack}
use Rattle.report_laws.specs.Settled.{MarkedWhereSettled, SettledIsLast, ChangesAreCaught}

pub record ReportLaws : Type 0 where
  -- a `show` line prints the client's copies as they are then, with `s` where a field is settled
  pub printed_as_shown : PrintedAsShown
  -- each printed field shows a value that the object had, and one with `s` the newest
  pub printed_values : PrintedValues
  -- the printed numbers are those of events that were delivered, and of moves that were sampled, accepted and taken
  pub printed_counts : PrintedCounts
  -- a client with no line `raw` is an honest one, and there is no other
  pub honest_by_lines : HonestByLines
  -- no two periods of a client hold one slot
  pub one_holder : OneHolder
  -- what an own list leaves is what is found by looking back over it
  pub looks_back : LooksBack
  -- a field is told as settled exactly where it is settled in a period that holds the slot, and was not written since
  pub marked_where_settled : MarkedWhereSettled
  -- and what is told as settled is shown for the newest value of the own list, which is the object's
  pub settled_is_last : SettledIsLast
  -- each field of what is shown and not hidden is due, or was written since, or is on its way, or right
  pub changes_are_caught : ChangesAreCaught
