use Rattle.std.proofs.Common.{◌∙◌, ap, sym}
use Rattle.host_guests.specs.Guests.{GuestsState, guest_at}
use Rattle.host_guests.proofs.Standing.{to_guest}
use Rattle.host_guests.proofs.guests.Guests.address.Goals as goal

pub returns-in-Some-clause-log : goal.returns-in-Some-clause-log
returns-in-Some-clause-log c log datagram stands =
    to_guest c.args.self.now c.args.place c.in-Some.guest datagram log
    (ap (λ (s : GuestsState). guest_at s c.args.place) (sym c.self.view_is) ∙ sym c.guest.ensures ∙ c.in-Some.is) stands
