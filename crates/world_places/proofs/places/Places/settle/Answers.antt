use Rattle.std.proofs.Common.{subst, Bool}
use Rattle.world_places.specs.Places.{IsMarked}
use Rattle.world_places.proofs.Placing.{settled, added}
use Rattle.world_places.proofs.places.Places.settle.Goals as goal

pub returns-clause-moved : goal.returns-clause-moved
returns-clause-moved c = λ before behind was at fits placed.
    let mark = subst (λ (b : Bool). IsMarked c.args.number b c.args.self.now c.mark.new.self) c.is_special.ensures c.mark.ensures in
    settled c.args.number c.args.o.now c.args.self.now c.mark.new.self c.put.new.self before behind was fits mark c.put.ensures at placed

pub returns-clause-added : goal.returns-clause-added
returns-clause-added c = λ os at fits placed.
    let mark = subst (λ (b : Bool). IsMarked c.args.number b c.args.self.now c.mark.new.self) c.is_special.ensures c.mark.ensures in
    added c.args.number c.args.o.now c.args.self.now c.mark.new.self c.put.new.self os fits mark c.put.ensures at placed
