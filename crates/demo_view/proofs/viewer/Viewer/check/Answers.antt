use Rattle.std.proofs.Common.{◌≡◌, ◌∙◌, List, Option, ℕ, sym, ap, subst}
use Rattle.datablocks.specs.Holding.{StandsFor as BlocksStandFor}
use Rattle.event_manager.specs.Receiving.{take_answer}
use Rattle.stream_manager.specs.Faults.{events_at_client}
use Rattle.stream_manager.specs.End.{events_answer}
use Rattle.stream_manager.specs.Client.{client_end, blocks_check, ghosts_check}
use Rattle.stream_manager.specs.Packets.{took, blocks_seen}
use Rattle.demo_view.specs.Viewing.{as_client, body_view}
use Rattle.demo_view.specs.Stands.{ViewerState}
use Rattle.demo_view.specs.Calls.{made_whole}
use Rattle.demo_view.proofs.Refusing.{view-exits, view-passes}
use Rattle.demo_view.proofs.viewer.Viewer.check.Goals as goal

pub returns-in_err-check_head-clause-answer : goal.returns-in_err-check_head-clause-answer
returns-in_err-check_head-clause-answer c packets s =
    view-exits c.from_residual.result c.check_head.result _ (body_view packets (made_whole c.args.self.now c.args.body.now)) _ c.from_residual.ensures.1 c.in_err-check_head.was (c.check_head.ensures.answer packets s)

pub returns-in_err-check_blocks-clause-answer : goal.returns-in_err-check_blocks-clause-answer
returns-in_err-check_blocks-clause-answer c packets s =
    let blocks : BlocksStandFor c.self.inside.blocks (blocks_seen packets) = subst (λ (b : List (Option (List ℕ))). BlocksStandFor b (blocks_seen packets)) (sym (ap (λ (x : ViewerState). x.blocks) c.self.view_is)) s.blocks in
    view-exits c.from_residual-in_err-check_blocks.result c.check_blocks.result (blocks_check (blocks_seen packets) c.args.body.now.blocks) _ _ c.from_residual-in_err-check_blocks.ensures.1 c.in_err-check_blocks.was (c.check_blocks.ensures.answer (blocks_seen packets) blocks)
    ∙ view-passes c.check_head.result _ _ c.in_ok-check_head.was (c.check_head.ensures.answer packets s)

pub returns-in_err-check_events-clause-answer : goal.returns-in_err-check_events-clause-answer
returns-in_err-check_events-clause-answer c packets s =
    let told : as_client c.check_events.result ≡ events_at_client (events_answer (client_end (took packets)) (made_whole c.args.self.now c.args.body.now).events) =
    c.check_events.ensures.answer
    ∙ ap (λ (x : ViewerState). events_at_client (take_answer x.events.delivered (made_whole x c.args.body.now).events)) c.self.view_is
    ∙ ap (λ (n : ℕ). events_at_client (take_answer n (made_whole c.args.self.now c.args.body.now).events)) s.events.delivered in
    let blocks : BlocksStandFor c.self.inside.blocks (blocks_seen packets) = subst (λ (b : List (Option (List ℕ))). BlocksStandFor b (blocks_seen packets)) (sym (ap (λ (x : ViewerState). x.blocks) c.self.view_is)) s.blocks in
    view-exits c.from_residual-in_err-check_events.result c.check_events.result (events_at_client (events_answer (client_end (took packets)) (made_whole c.args.self.now c.args.body.now).events)) (ghosts_check (took packets) c.args.body.now) _ c.from_residual-in_err-check_events.ensures.1 c.in_err-check_events.was told
    ∙ view-passes c.check_blocks.result (blocks_check (blocks_seen packets) c.args.body.now.blocks) _ c.in_ok-check_blocks.was (c.check_blocks.ensures.answer (blocks_seen packets) blocks)
    ∙ view-passes c.check_head.result _ _ c.in_ok-check_head.was (c.check_head.ensures.answer packets s)

pub returns-clause-answer : goal.returns-clause-answer
returns-clause-answer c packets s =
    let told : as_client c.check_events.result ≡ events_at_client (events_answer (client_end (took packets)) (made_whole c.args.self.now c.args.body.now).events) =
    c.check_events.ensures.answer
    ∙ ap (λ (x : ViewerState). events_at_client (take_answer x.events.delivered (made_whole x c.args.body.now).events)) c.self.view_is
    ∙ ap (λ (n : ℕ). events_at_client (take_answer n (made_whole c.args.self.now c.args.body.now).events)) s.events.delivered in
    let blocks : BlocksStandFor c.self.inside.blocks (blocks_seen packets) = subst (λ (b : List (Option (List ℕ))). BlocksStandFor b (blocks_seen packets)) (sym (ap (λ (x : ViewerState). x.blocks) c.self.view_is)) s.blocks in
    c.check_ghosts.ensures.answer packets s
    ∙ view-passes c.check_events.result (events_at_client (events_answer (client_end (took packets)) (made_whole c.args.self.now c.args.body.now).events)) _ c.in_ok-check_events.was told
    ∙ view-passes c.check_blocks.result (blocks_check (blocks_seen packets) c.args.body.now.blocks) _ c.in_ok-check_blocks.was (c.check_blocks.ensures.answer (blocks_seen packets) blocks)
    ∙ view-passes c.check_head.result _ _ c.in_ok-check_head.was (c.check_head.ensures.answer packets s)
