use Rattle.std.proofs.Common.{arith, ap}
use Rattle.link_quality.specs.Traffic.{Meter}
use Rattle.link_quality.proofs.Meters.{one_more}
use Rattle.link_quality.proofs.traffic.TrafficMeter.went.Goals as goal

pub returns-clause-log : goal.returns-clause-log
returns-clause-log c log h =
    let before = c.before_at-before.ensures.value in
    let current = c.current_at-current.ensures.value in
    let more = c.with_datagram-self-inside.ensures in
    let not_past = c.if-second-self.false in
    let same = ap (λ (m : Meter). m.second) c.self.view_is in
    rw (before, more, current) (one_more c.args.self.now (record { bytes = c.args.bytes; time = c.args.now }) log h (omega (arith, not_past, same)))
