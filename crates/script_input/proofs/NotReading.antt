-- Where no text was read to its end, no script of any kind was.
use Rattle.script_input.specs.declared.limits.TheConstants.{MAX_SCRIPT_BYTES}
use Rattle.script_input.specs.declared.status.Status.{Status}
use Rattle.script_input.specs.declared.status.Status.TheVariants.{Done, Usage, Script, TooLong, ReadFault, WriteFault, NoMemory, LinkFault, ClockFault, Demo}
use Rattle.script_input.specs.Reading.{Seen, Reading, NotGave, NotRead}

pub not_read : {S : Type 0} (reading : Reading S) (source : Seen) (s : Status) → NotGave MAX_SCRIPT_BYTES source s → NotRead reading source s
not_read reading source Done h = h
not_read reading source (Usage place) h = h
not_read reading source (Script line fault) h = absurd h
not_read reading source TooLong h = h
not_read reading source ReadFault h = h
not_read reading source WriteFault h = h
not_read reading source NoMemory h = h
not_read reading source LinkFault h = h
not_read reading source ClockFault h = h
not_read reading source (Demo place) h = h
