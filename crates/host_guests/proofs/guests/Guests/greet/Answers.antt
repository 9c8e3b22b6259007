use Rattle.greeting.proofs.Forms.{long}
use Rattle.host_guests.proofs.guests.Guests.greet.Goals as goal

pub joining_in-requires : goal.joining_in-requires
joining_in-requires c = long c.args.bytes.now _ c.in-Asks.ensures.answer.0.0
