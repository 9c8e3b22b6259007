use Rattle.std.proofs.Common.{◌<◌, length, refl, arith}
use Rattle.own_lists.specs.Course.{hide_step}
use Rattle.client_seat.proofs.Making.{partly_next}
use Rattle.client_seat.proofs.seat.Seat.hide_all.Goals as goal

pub loop-n-preserved : goal.loop-n-preserved
loop-n-preserved c = record {
  partly =
      let s = c.loop-n.self-inside in
      let lt : c.loop-n.n-index < length c.args.hides.now = omega arith in
      partly_next hide_step c.args.hides.now c.loop-n.n-index 0 lt c.args.self.now (record { pair = s.pair; waiting = s.waiting.items; taken = s.taken }) c.step.new.self
      (λ t steps. refl) c.step.ensures.stands c.step.ensures.keeps c.step.ensures.keeping c.loop-n.invariant.partly;
  places = c.loop-n.invariant.places;
}
