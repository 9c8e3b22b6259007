use Rattle.std.proofs.Common.{rules}
use Rattle.std.proofs.lemmas.Int.{to_z-of_z}
use mir.Syntax.{w32}
use mir.Val.{to_z, of_z, SFits}
use Rattle.tribes_link.specs.Doors.{address_of, bytes_in}
use Rattle.tribes_link.proofs.Joined.{heard_behind}
use Rattle.tribes_link.proofs.doors.tribes_door_hear.Goals as goal

pub returns-clause-heard : goal.returns-clause-heard
returns-clause-heard c = λ is_open.
    let fits : SFits w32 c.hear_at-code.result = search rules in
    heard_behind c.address_of.result (address_of c.args.from.now) c.args.bytes.now c.hear_at-code.result (to_z w32 (of_z w32 c.hear_at-code.result))
    c.hear_at-code.new.number (bytes_in c.hear_at-code.new.reply) _ _ c.args.door.now.held.value c.put.new.self.held.value
    (search rules) (search rules) (search rules) (to_z-of_z w32 c.hear_at-code.result fits) c.hear_at-code.ensures.heard
