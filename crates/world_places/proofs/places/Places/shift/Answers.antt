use Rattle.world_places.proofs.Placing.{shifted}
use Rattle.world_places.proofs.places.Places.shift.Goals as goal

pub returns : goal.returns
returns c = λ before behind was now at e fits keeps placed.
    shifted c.args.number c.args.x c.args.y now c.args.self.now c.put.new.self before behind was at e fits keeps c.put.ensures placed
