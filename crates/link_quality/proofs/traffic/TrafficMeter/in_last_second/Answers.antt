use Rattle.std.proofs.Common.{◌/◌, arith, ap}
use Rattle.link_quality.specs.Traffic.{Meter}
use Rattle.link_quality.proofs.Meters.{told_before}
use Rattle.link_quality.proofs.traffic.TrafficMeter.in_last_second.Goals as goal

pub returns-clause-told : goal.returns-clause-told
returns-clause-told c log h =
    let told = c.before_at.ensures.value in
    let not_past = c.if-second-self.false in
    let same = ap (λ (m : Meter). m.second) c.self.view_is in
    rw told (told_before c.args.self.now (c.args.now / 1000) log h (omega (arith, not_past, same)))
