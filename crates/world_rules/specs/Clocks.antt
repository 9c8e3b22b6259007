-- The clock, which counts ticks and the captures of both teams.
use Rattle.std.specs.Prelude.{ℕ, ◌+◌, min}
use Rattle.world_rules.specs.declared.object.TheConstants.{MAX_SCORE, MAX_TICK}
use Rattle.world_rules.specs.declared.object.Clock.{Clock as ClockPart}
use Rattle.world_rules.specs.declared.object.Object.{Object}
use Rattle.world_rules.specs.declared.object.State.TheVariants.{Clock}

unfoldable pub clock_next : ℕ → ℕ → Object → ClockPart → Object
clock_next red blue o c = record o {
  state = Clock (record {
    tick = min MAX_TICK (c.tick + 1);
    red = min MAX_SCORE (c.red + red);
    blue = min MAX_SCORE (c.blue + blue);
  });
}
