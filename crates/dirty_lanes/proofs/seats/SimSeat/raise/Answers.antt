use Rattle.std.proofs.Common.{arith, ◌∙◌, sym, ap, ◌<◌}
use Rattle.dirty_lanes.specs.declared.rule.LaneSize.{LaneSize}
use Rattle.dirty_lanes.specs.Rule.{sim_of}
use Rattle.dirty_lanes.proofs.Plays.{raises_as}
use Rattle.dirty_lanes.proofs.seats.SimSeat.raise.Goals as goal

pub fetch_or-requires : goal.fetch_or-requires
fetch_or-requires g c =
    let i = c.self.invariant in
    let l = c.lanes.invariant in
    let o = ap (λ (z : LaneSize). z.objects) c.lanes.view_is in
    let d = ap (λ (z : LaneSize). z.clients) c.lanes.view_is in
    let words = ap (λ z. z.words) l.named in
    let few : c.args.client < 16 = omega (arith, l.few) in (
      i.named ∙ sym l.named,
      omega (arith, l.words, words, c.mask_word.ensures),
      raises_as _ c.lanes.inside.objects _ _ c.self.inside.seat.me (sim_of c.self.inside.seat.me.0) c.args.client c.args.object c.args.bits _ i.sits l.long c.mask_word.ensures few (omega arith) c.requires.bits,
    )
