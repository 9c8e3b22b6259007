use Rattle.std.proofs.Common.{◌≡◌, ℕ, ◌≤◌, List, [], ◌∷◌, length, sym, ◌∙◌, ap, arith}
use Rattle.messages.specs.declared.form.Form.{Form}
use Rattle.messages.specs.declared.form.ParcelKind.{ParcelKind}
use Rattle.messages.specs.declared.form.ParcelKind.TheVariants.{Event, Message}
use Rattle.messages.specs.Forms.{form_byte}
use Rattle.messages.specs.Pieces.{pieces_by}
use Rattle.messages.specs.declared.form.Form.TheVariants.{Short, Alone}
use Rattle.messages.proofs.CutPieces.{event-pieces, short-message}
use Rattle.messages.proofs.single.loose_piece.Goals as goal
use Rattle.messages.proofs.single.loose_piece.Goals.{in-Event, in-Message}

-- the piece with the form's first byte, where the parcel's pieces are known
of-form : (kind known : ParcelKind) (form which : Form) (byte : ℕ) (bytes piece : List ℕ) → pieces_by known bytes ≡ (form_byte which ∷ bytes) ∷ []
    → kind ≡ known → form ≡ which → byte ≡ form_byte form → piece ≡ byte ∷ bytes → pieces_by kind bytes ≡ piece ∷ []
of-form kind known form which byte bytes piece are k f b p =
    ap (λ (t : ParcelKind). pieces_by t bytes) k ∙ are ∙ ap (λ (t : ℕ). (t ∷ bytes) ∷ []) (sym (b ∙ ap form_byte f)) ∙ ap (λ (t : List ℕ). t ∷ []) (sym p)

pub returns-clause-piece : goal.returns-clause-piece
returns-clause-piece c =
    let bytes : List ℕ = c.args.bytes.now in
    let few : length bytes ≤ 23 = omega arith in
    elim c.match-kind.branch [
      | in-Event w ↦ of-form c.args.kind Event c.match-kind.form Short c.byte.result bytes c.piece_of.result (event-pieces bytes) w.in-Event.is w.form-is c.byte.ensures c.piece_of.ensures
      | in-Message w ↦ of-form c.args.kind Message c.match-kind.form Alone c.byte.result bytes c.piece_of.result (short-message bytes few) w.in-Message.is w.form-is c.byte.ensures c.piece_of.ensures
    ]
