use Rattle.std.proofs.Common.{◌∙◌, List, ℕ, sym, ap, subst}
use Rattle.tn_outside.specs.Totals.{AddsFront}
use Rattle.demo_format.specs.declared.head.DemoHead.{DemoHead}
use Rattle.demo_format.specs.Head.{head_in}
use Rattle.demo_view.proofs.Below.stream_manager.Ends.{map_err}
use Rattle.demo_replay.specs.Replaying.{replay_of}
use Rattle.demo_replay.proofs.Written.{head-is}
use Rattle.demo_replay.proofs.replaying.replay.Goals as goal

pub returns-in-Ok-clause-front : goal.returns-in-Ok-clause-front
returns-in-Ok-clause-front g c =
    let bytes = c.args.bytes.now in
    let w = g.K.Sink.written c.args.sink.now in
    let w' = g.K.Sink.written c.tell_all.new.sink in
    let body : List ℕ = c.split_at.result.1.now in
    let same = ap (λ (h : DemoHead). replay_of h body) (sym (head-is bytes c.in-Ok.head (sym c.in-Ok.ensures.value))) ∙ ap (λ (l : List ℕ). replay_of (head_in bytes) l) c.split_at.ensures.back in
    map_err c.tell_all.result (λ (front : AddsFront w w' (replay_of c.in-Ok.head body)). subst (λ (l : List ℕ). AddsFront w w' l) same front) c.tell_all.ensures.front
