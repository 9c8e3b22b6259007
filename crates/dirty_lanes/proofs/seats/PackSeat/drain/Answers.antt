use Rattle.std.proofs.Common.{arith, ◌∙◌, sym, ap}
use Rattle.dirty_lanes.specs.declared.rule.LaneSize.{LaneSize}
use Rattle.dirty_lanes.specs.Rule.{pack_of}
use Rattle.dirty_lanes.proofs.Plays.{swaps_as}
use Rattle.dirty_lanes.proofs.seats.PackSeat.drain.Goals as goal

pub swap-requires : goal.swap-requires
swap-requires g c =
    let i = c.self.invariant in
    let l = c.lanes.invariant in
    let o = ap (λ (z : LaneSize). z.objects) c.lanes.view_is in
    let words = ap (λ z. z.words) l.named in (
      i.named ∙ sym l.named,
      omega (arith, l.words, words, c.mask_word.ensures, i.few),
      swaps_as _ c.lanes.inside.objects _ _ c.self.inside.seat.me (pack_of c.self.inside.seat.me.0) c.self.inside.client c.args.object _ i.sits l.long i.client_is c.mask_word.ensures i.few (omega arith),
    )
