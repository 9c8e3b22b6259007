-- What contracts see of a pace, by its fields.
use Rattle.pace.specs.declared.pace.Pace.TheInside.{Inside}
use Rattle.pace.specs.Pacing.{Pacing}

abbrev pub pacing_of : Inside → Pacing
pacing_of p = record { terms = p.terms; start = p.start; rate = p.rate; saved = p.saved; last = p.last; eased = p.eased }
