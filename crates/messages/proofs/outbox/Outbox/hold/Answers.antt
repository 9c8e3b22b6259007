use Rattle.std.proofs.Common.{◌≡◌, ℕ, List, ◌++◌, length, sym, ◌∙◌, ap, arith}
use Rattle.messages.specs.declared.form.ParcelKind.{ParcelKind}
use Rattle.messages.specs.Pieces.{pieces_by}
use Rattle.messages.proofs.CutPieces.{event-pieces}
use Rattle.messages.proofs.outbox.Outbox.hold.Goals as goal

pub hold_piece-requires-clause-room : goal.hold_piece-requires-clause-room
hold_piece-requires-clause-room c =
    let one : length (pieces_by c.args.kind c.args.bytes.now) ≡ 1 = ap (λ (k : ParcelKind). length (pieces_by k c.args.bytes.now)) c.in-Event.is ∙ ap length (event-pieces c.args.bytes.now) in
    omega (arith, c.requires.room, one)

pub returns-in-Event-clause-held : goal.returns-in-Event-clause-held
returns-in-Event-clause-held c =
    c.hold_piece.ensures.held
    ∙ ap (λ (t : List (List ℕ)). c.args.self.now.held ++ t) (sym (event-pieces c.args.bytes.now) ∙ ap (λ (k : ParcelKind). pieces_by k c.args.bytes.now) (sym c.in-Event.is))
