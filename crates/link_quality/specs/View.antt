-- What contracts see, by the fields.
use Rattle.std.specs.Prelude.{◌≡◌, IfSome}
use Rattle.link_quality.specs.declared.packets.LinkQuality.TheInside.{Inside}
use Rattle.link_quality.specs.declared.packets.TheConstants.{WAITING_PACKETS}
use Rattle.link_quality.specs.Smoothing.{IsSmall}
use Rattle.link_quality.specs.Packets.{Quality}

abbrev pub quality_of : Inside → Quality
quality_of q = record { waiting = q.waiting.items; verdicts = q.verdicts; smoothed = q.smoothed; last = q.last }

-- what holds of each
pub record IsSound (q : Inside) : Type 0 where
  pub places : q.waiting.capacity ≡ WAITING_PACKETS
  pub small : IfSome q.smoothed IsSmall
