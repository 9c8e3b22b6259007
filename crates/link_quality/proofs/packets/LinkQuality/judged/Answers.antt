use Rattle.std.proofs.Common.{sym, subst}
use Rattle.link_quality.specs.Packets.{Quality, StandsFor}
use Rattle.link_quality.specs.View.{quality_of}
use Rattle.link_quality.proofs.PacketFacts.{judged_more}
use Rattle.link_quality.proofs.packets.LinkQuality.judged.Goals as goal

pub returns-in-Some-clause-log : goal.returns-in-Some-clause-log
returns-in-Some-clause-log c log h =
    let P : Quality → Type 0 = λ q. StandsFor q log in
    let rest = c.pop_front.ensures.items in
    let kept = c.add.ensures in
    let trip = c.smoothed_by-self-inside.ensures.value in
    let since = c.saturating_sub.ensures in
    rw (rest, kept, trip, since)
    (judged_more (quality_of c.self.inside) c.args.verdict c.args.now c.in-Some.sent log (sym c.in-Some.ensures.value) (subst P (sym c.self.view_is) h))
