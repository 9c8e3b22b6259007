-- What contracts see of a clock, by its fields.
use Rattle.draw_clock.specs.declared.clock.DrawClock.TheInside.{Inside}
use Rattle.draw_clock.specs.Clocking.{Clock}

abbrev pub clock_of : Inside → Clock
clock_of c = record { pace = c.pace; start = c.start; newest = c.newest; came = c.came; read = c.read; position = c.position }
