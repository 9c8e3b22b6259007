use Rattle.std.proofs.Common.{◌≡◌, ◌∷◌, List, sym, subst}
use Rattle.match_laws.specs.pair_core.stream_manager.Client as end
use Rattle.match_laws.specs.pair_core.stream_manager.Client.{ClientEvent}
use Rattle.predict_client.specs.Following.{Follows}
use Rattle.predict_lines.specs.declared.changes.EndChange.{EndChange}
use Rattle.predict_lines.specs.Changes.{IsChange}
use Rattle.predict_lines.proofs.following.follow.Goals as goal

pub returns-in-Sampled : goal.returns-in-Sampled
returns-in-Sampled c old new before was now change h =
    let more : new ≡ end.Sampled c.in-Sampled.m ∷ old = subst (λ (x : EndChange). IsChange x old new) c.in-Sampled.is change in
    subst (λ (x : List ClientEvent). Follows c.moved.new.predict x) (sym more) (c.moved.ensures old before was h)
