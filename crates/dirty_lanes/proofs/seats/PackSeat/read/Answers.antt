use Rattle.std.proofs.Common.{arith, ◌∙◌, sym, ap}
use Rattle.dirty_lanes.specs.declared.rule.LaneSize.{LaneSize}
use Rattle.dirty_lanes.specs.Rule.{pack_of}
use Rattle.dirty_lanes.proofs.Plays.{loads_as}
use Rattle.dirty_lanes.proofs.seats.PackSeat.read.Goals as goal

pub load-found-requires : goal.load-found-requires
load-found-requires g c =
    let i = c.self.invariant in
    let l = c.lanes.invariant in
    let o = ap (λ (z : LaneSize). z.objects) c.lanes.view_is in
    let words = ap (λ z. z.words) l.named in (
      i.named ∙ sym l.named,
      omega (arith, l.words, words, c.field_word.ensures),
      loads_as _ c.lanes.inside.objects _ _ c.self.inside.seat.me (pack_of c.self.inside.seat.me.0) c.self.inside.client c.args.object c.args.field _ i.sits l.long i.client_is c.field_word.ensures i.few c.requires.field (omega arith),
    )
