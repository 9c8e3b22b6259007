use Rattle.std.proofs.Common.{◌≡◌, ◌∙◌, ℕ, [], Some, None, sym, ap}
use Rattle.std.specs.Result.{result_err}
use Rattle.tn_types.specs.Checks.{first_fault}
use Rattle.ghost_client.specs.State.{copy_in}
use Rattle.ghost_client.specs.Faults.{item_fault}
use Rattle.datablocks.specs.Holding.{after_all}
use Rattle.stream_manager.specs.ClientCalls.{held_bits}
use Rattle.stream_manager.specs.Client.{control_fault, ghosts_refused}
use Rattle.stream_manager.proofs.Came.{held-word}
use Rattle.stream_manager.proofs.Checks.{on_ok}
use Rattle.demo_view.specs.Stands.{ViewerState}
use Rattle.demo_view.proofs.Seen.{ghosts-refused, ghosts-passed}
use Rattle.demo_view.proofs.viewer.Viewer.check_ghosts.Goals as goal

pub returns-in-Err-clause-answer : goal.returns-in-Err-clause-answer
returns-in-Err-clause-answer c packets s =
    let word : c.held_after-held.result ≡ held_bits (after_all c.self.inside.blocks c.args.body.now.blocks) = held-word c.held_after-held.result (after_all c.self.inside.blocks c.args.body.now.blocks) c.held_after-held.type_inv c.held_after-held.ensures in
    let there : Some c.in-Err.fault ≡ first_fault (item_fault (copy_in c.args.self.now.copies.slots) (held_bits (after_all c.args.self.now.blocks c.args.body.now.blocks))) [] c.args.body.now.ghosts =
    sym (ap result_err c.in-Err.is) ∙ c.check.ensures
    ∙ ap (λ (held : ℕ). first_fault (item_fault (copy_in c.self.inside.copies.slots) held) [] c.args.body.now.ghosts) word
    ∙ ap (λ (x : ViewerState). first_fault (item_fault (copy_in x.copies.slots) (held_bits (after_all x.blocks c.args.body.now.blocks))) [] c.args.body.now.ghosts) c.self.view_is in
    ghosts-refused c.args.self.now.version c.args.self.now.copies.kinds c.args.body.now c.requires.fits c.args.self.now packets s c.in-Err.fault there

none_there : (c : goal.After-check_control) → None ≡ first_fault (item_fault (copy_in c.args.self.now.copies.slots) (held_bits (after_all c.args.self.now.blocks c.args.body.now.blocks))) [] c.args.body.now.ghosts
none_there c =
    let word : c.held_after-held.result ≡ held_bits (after_all c.self.inside.blocks c.args.body.now.blocks) = held-word c.held_after-held.result (after_all c.self.inside.blocks c.args.body.now.blocks) c.held_after-held.type_inv c.held_after-held.ensures in
    sym (ap result_err c.in_default.is) ∙ c.check.ensures
    ∙ ap (λ (held : ℕ). first_fault (item_fault (copy_in c.self.inside.copies.slots) held) [] c.args.body.now.ghosts) word
    ∙ ap (λ (x : ViewerState). first_fault (item_fault (copy_in x.copies.slots) (held_bits (after_all x.blocks c.args.body.now.blocks))) [] c.args.body.now.ghosts) c.self.view_is

pub returns-clause-answer : goal.returns-clause-answer
returns-clause-answer c packets s =
    c.check_control.ensures ∙ ap (λ (x : ViewerState). ghosts_refused (control_fault (copy_in x.copies.slots) c.args.body.now.control)) c.self.view_is
    ∙ ghosts-passed c.args.self.now.version c.args.self.now.copies.kinds c.args.body.now c.requires.fits c.args.self.now packets s (none_there c)

pub returns-clause-fit : goal.returns-clause-fit
returns-clause-fit c = on_ok c.check_control.result (sym (none_there c))
