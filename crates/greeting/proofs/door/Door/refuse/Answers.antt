use Rattle.std.proofs.Common.{◌≡◌, ◌∙◌, Some, ap, sym}
use Rattle.greeting.specs.Door.{DoorState}
use Rattle.greeting.proofs.Standing.{refused}
use Rattle.greeting.proofs.door.Door.refuse.Goals as goal

pub returns-clause-log : goal.returns-clause-log
returns-clause-log c =
    let asks : c.args.self.now.asking ≡ Some c.in-Some.guest = ap (λ (s : DoorState). s.asking) (sym c.self.view_is) ∙ c.in-Some.is in
    refused c.args.self.now c.turn.new.self c.in-Some.guest c.write_refusal.new.self asks c.turn.ensures
