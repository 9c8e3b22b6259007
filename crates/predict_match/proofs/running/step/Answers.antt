use Rattle.std.proofs.Common.{◌≡◌, ◌<◌, ◌∷◌, sym, subst}
use Rattle.match_script.specs.declared.types.Script.{Script}
use Rattle.match_engine.specs.match_laws.pair_core.stream_manager.Stands.{ClientStandsFor}
use Rattle.predict_client.specs.Following.{Follows}
use Rattle.predict_laws.specs.predict_lines.Lines.{end_of}
use Rattle.match_engine.proofs.Lent.{kinds_are}
use Rattle.predict_match.proofs.Beside.{end_stands, some_end, some_stands}
use Rattle.predict_match.proofs.running.step.Goals as goal

pub follow-requires : goal.follow-requires
follow-requires g c =
    let past = c.requires.stands.0 in
    let beside = c.requires.stands.1 in
    let below = subst (λ (s : Script). c.args.client < s.head.clients) (sym c.in-Ok.ensures.script) beside.client in
    kinds_are c.change_by.new.game (c.args.line.now ∷ past) c.args.client (c.in-Ok.ensures.stands past beside.lines) below c.pair.result.now c.pair.ensures

pub returns-clause-stands : goal.returns-clause-stands
returns-clause-stands g c past beside =
    let old = c.args.game.now in
    let new = c.change_by.new.game in
    let line = c.args.line.now in
    let client = c.args.client in
    let same : new.script ≡ old.script = c.in-Ok.ensures.script in
    let done = c.in-Ok.ensures.stands past beside.lines in
    let below = subst (λ (s : Script). client < s.head.clients) (sym same) beside.client in
    let now : ClientStandsFor c.pair.result.now.client (end_of old.script.head (line ∷ past) client) =
    subst (λ (s : Script). ClientStandsFor c.pair.result.now.client (end_of s.head (line ∷ past) client)) same
    (end_stands new (line ∷ past) client done below c.pair.result.now c.pair.ensures) in
    let follows = c.follow.ensures (end_of old.script.head past client) (end_of old.script.head (line ∷ past) client)
    (some_end old past client beside.lines beside.client) (some_stands old past client beside.lines beside.client) now
    (c.in-Ok.ensures.change past beside.lines) beside.follows in
    record {
      lines = done;
      client = below;
      follows = subst (λ (s : Script). Follows c.follow.new.predict (end_of s.head (line ∷ past) client)) (sym same) follows;
    }
