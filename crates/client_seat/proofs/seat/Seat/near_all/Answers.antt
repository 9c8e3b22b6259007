use Rattle.std.proofs.Common.{◌<◌, length, refl, arith}
use Rattle.own_lists.specs.Course.{near_step}
use Rattle.client_seat.proofs.Making.{partly_next}
use Rattle.client_seat.proofs.seat.Seat.near_all.Goals as goal

pub loop-near-preserved : goal.loop-near-preserved
loop-near-preserved c = record {
  partly =
      let s = c.loop-near.self-inside in
      let lt : c.loop-near.near-index < length c.args.nears.now = omega arith in
      partly_next near_step c.args.nears.now c.loop-near.near-index (record { n = 0; level = 0 }) lt c.args.self.now (record { pair = s.pair; waiting = s.waiting.items; taken = s.taken }) c.step.new.self
      (λ t steps. refl) c.step.ensures.stands c.step.ensures.keeps c.step.ensures.keeping c.loop-near.invariant.partly;
  places = c.loop-near.invariant.places;
}
