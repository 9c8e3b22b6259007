use Rattle.std.proofs.Common.{◌≡◌, None, length}
use Rattle.messages.specs.InboxState.{waiting}
use Rattle.tribes_channel.specs.Channel.{Gathers, ready_of}
use Rattle.tribes_channel.proofs.receiving.gather.Given as goal

abbrev pub invariant-events : goal.invariant-events
invariant-events l = record {
  gathers : Gathers l.fn.inbox l.fn.link l.inbox l.link;
  none_waits : waiting l.inbox ≡ None;
}

abbrev pub decreases-events : goal.decreases-events
decreases-events l = length (ready_of l.link)
