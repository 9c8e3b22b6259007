use Rattle.std.proofs.Common.{List, ℕ, sym, subst}
use Rattle.std.specs.Prelude.{OnOk}
use Rattle.tn_types.specs.Histories.{Does}
use Rattle.messages.specs.InboxStands.{Took, InboxStandsFor}
use Rattle.messages.proofs.inbox.Inbox.take_piece.Goals as goal

pub returns-clause-stands : goal.returns-clause-stands
returns-clause-stands c =
    subst (λ (piece : List ℕ). OnOk c.take_form.result (Does InboxStandsFor c.args.self.now (Took piece) c.take_form.new.self)) (sym c.in-Some.ensures.some) c.take_form.ensures.stands
