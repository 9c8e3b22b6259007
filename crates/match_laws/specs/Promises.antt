-- What every match keeps, whatever its script: the laws, each once. Each is said where it is defined; here they stand together, so that
-- who runs a match has one clause for them all.
use Rattle.match_laws.specs.Laws.{Isolation, EventsInOrder, MovesInOrder, LooseInOrder, LittleIsRefused}
use Rattle.match_laws.specs.Others.{NonInterference}
use Rattle.match_laws.specs.Values.{CopiesShowValues, SettledIsNewest, ChangesRecover}
use Rattle.match_laws.specs.Applied.{AppliedAreAccepted, AppliedInOrder}
use Rattle.match_laws.specs.Words.{PrintedInOrder}

pub record MatchLaws : Type 0 where
  -- a client's datagrams are those of a server that is fed with its own list alone
  pub isolation : Isolation
  -- no line that names another client changes anything for a client, and the lines of its own list name it
  pub non_interference : NonInterference
  -- what an honest client's copies show at every line, its object had
  pub copies_show_values : CopiesShowValues
  -- a settled field shows the value that its object has now
  pub settled_is_newest : SettledIsNewest
  -- each field of what is shown and not hidden is due, or written and not drained, or on its way, or right
  pub changes_recover : ChangesRecover
  -- in each honest client's journal, what is delivered is a front of what was posted
  pub events_in_order : EventsInOrder
  -- there each accepted move was sampled, once and in order
  pub moves_in_order : MovesInOrder
  -- there delivered unguaranteed events are some of those that were posted, in order
  pub loose_events_in_order : LooseInOrder
  -- no line of an honest client tells a refusal of a datagram, but of an old one
  pub little_is_refused : LittleIsRefused
  -- the moves that ticks took of a client are the first that its server accepted
  pub applied_are_accepted : AppliedAreAccepted
  -- and of an honest client the first that it sampled
  pub applied_in_order : AppliedInOrder
  -- the printed words of delivered events are the first of those of posted ones
  pub printed_in_order : PrintedInOrder
