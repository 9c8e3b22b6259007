use Rattle.std.proofs.Common.{length, rules}
use Rattle.std.proofs.lemmas.Int.{to_z-of_z}
use mir.Syntax.{w32}
use mir.Val.{to_z, of_z, SFits}
use Rattle.tribes_link.proofs.Both.{ended_behind}
use Rattle.tribes_link.proofs.channels.tribes_message.Goals as goal

pub returns-clause-ended : goal.returns-clause-ended
returns-clause-ended c = λ end_open channel_open n0 n1 n2.
    let fits : SFits w32 c.next_of-code.result = search rules in
    ended_behind c.next_of-code.result (to_z w32 (of_z w32 c.next_of-code.result)) (length c.args.bytes.now) _ _ _ _ c.next_of-code.ensures.ended
    c.args.end.now.held.value c.args.channel.now.held.value c.put-2.new.self.held.value c.put-3.new.self.held.value
    (search rules) (search rules) (search rules) (search rules) (to_z-of_z w32 c.next_of-code.result fits) n0 n1 n2
