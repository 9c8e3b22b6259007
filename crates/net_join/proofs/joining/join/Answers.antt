use Rattle.std.proofs.Common.{◌≡◌, ◌∙◌, ap}
use Rattle.tn_outside.specs.Links.{answer_at}
use Rattle.net_rules.proofs.ByAnswer.{on_ok, on_err}
use Rattle.net_join.specs.Stages.{nonce_of}
use Rattle.net_rules.proofs.Rounds.{starts_place}
use Rattle.net_join.proofs.Rounds.{not_begun, all_joined, part_joined}
use Rattle.net_join.proofs.joining.join.Goals as goal

pub returns-in_default-clause-front : goal.returns-in_default-clause-front
returns-in_default-clause-front g c o b = not_begun o c.args.turns (g.K.Sink.written c.args.sink.now) (g.L.Link.sent c.args.link.now) b.written_is b.sent_is

pub returns-clause-done : goal.returns-clause-done
returns-clause-done g c =
    on_ok c.write_ending.result
    (λ wrote o b.
    let st = starts_place o (g.L.Link.ahead c.args.link.now) (g.C.Clock.ahead c.args.clock.now) (g.C.Clock.ahead c.now.new.self) c.in-Ok.start b.ahead_is b.clock_is c.in-Ok.ensures.tells in
    let is : c.join_turns.new.joiner.nonce ≡ nonce_of (answer_at o.clock 0) = c.join_turns.ensures.nonce ∙ c.new-joiner.ensures.nonce ∙ ap nonce_of st.0 in
    all_joined o c.args.turns c.join_turns.new.joiner (g.K.Sink.written c.args.sink.now) (g.K.Sink.written c.write_ending.new.sink) (g.L.Link.sent c.join_turns.new.link) is b.written_is
    (c.in_ok-join_turns.ensures.done o st.0 st.1 b.sent_is) wrote)
    c.write_ending.ensures.written

pub returns-clause-front : goal.returns-clause-front
returns-clause-front g c =
    on_err c.write_ending.result
    (λ wrote o b.
    let st = starts_place o (g.L.Link.ahead c.args.link.now) (g.C.Clock.ahead c.args.clock.now) (g.C.Clock.ahead c.now.new.self) c.in-Ok.start b.ahead_is b.clock_is c.in-Ok.ensures.tells in
    let is : c.join_turns.new.joiner.nonce ≡ nonce_of (answer_at o.clock 0) = c.join_turns.ensures.nonce ∙ c.new-joiner.ensures.nonce ∙ ap nonce_of st.0 in
    part_joined o c.args.turns c.join_turns.new.joiner (g.K.Sink.written c.args.sink.now) (g.K.Sink.written c.write_ending.new.sink) (g.L.Link.sent c.join_turns.new.link) is b.written_is
    (c.in_ok-join_turns.ensures.done o st.0 st.1 b.sent_is) wrote)
    c.write_ending.ensures.front
