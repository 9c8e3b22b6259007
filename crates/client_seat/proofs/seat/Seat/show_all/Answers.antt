use Rattle.std.proofs.Common.{◌<◌, length, refl, false, arith}
use Rattle.own_lists.specs.Course.{show_step}
use Rattle.client_seat.proofs.Making.{partly_next}
use Rattle.client_seat.proofs.seat.Seat.show_all.Goals as goal

pub loop-show-preserved : goal.loop-show-preserved
loop-show-preserved c = record {
  partly =
      let s = c.loop-show.self-inside in
      let lt : c.loop-show.show-index < length c.args.shows.now = omega arith in
      partly_next show_step c.args.shows.now c.loop-show.show-index (record { kind = 0; block = 0; level = 0; control = false }) lt c.args.self.now (record { pair = s.pair; waiting = s.waiting.items; taken = s.taken }) c.step.new.self
      (λ t steps. refl) c.step.ensures.stands c.step.ensures.keeps c.step.ensures.keeping c.loop-show.invariant.partly;
  places = c.loop-show.invariant.places;
}
