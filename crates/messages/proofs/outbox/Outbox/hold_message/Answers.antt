use Rattle.std.proofs.Common.{◌≡◌, ℕ, suc, ◌+◌, ◌/◌, ◌%◌, ◌<◌, ◌≤◌, List, [], ◌∷◌, ◌++◌, length, drop, sym, ◌∙◌, ap, append_assoc, arith}
use Rattle.std.proofs.lemmas.List.{length_push}
use Rattle.messages.specs.declared.form.ParcelKind.TheVariants.{Message}
use Rattle.messages.specs.Pieces.{first_piece, rest_of, pieces_by}
use Rattle.messages.proofs.CutPieces.{short-message, long-message}
use Rattle.messages.proofs.outbox.Outbox.hold_message.Goals as goal

pub hold_piece-requires-clause-room : goal.hold_piece-requires-clause-room
hold_piece-requires-clause-room c =
    let few : length c.args.bytes.now ≤ 23 = omega arith in
    let one : length (pieces_by Message c.args.bytes.now) ≡ 1 = ap length (short-message c.args.bytes.now few) in
    omega (arith, c.requires.room, one)

pub returns-then-count-le-MAX_SINGLE_BYTES-clause-held : goal.returns-then-count-le-MAX_SINGLE_BYTES-clause-held
returns-then-count-le-MAX_SINGLE_BYTES-clause-held c =
    let few : length c.args.bytes.now ≤ 23 = omega arith in
    c.hold_piece.ensures.held ∙ ap (λ (t : List (List ℕ)). c.args.self.now.held ++ t) (sym (short-message c.args.bytes.now few))

pub push-requires : goal.push-requires
push-requires c =
    let long : 23 < length c.args.bytes.now = omega arith in
    let count : length (pieces_by Message c.args.bytes.now) ≡ suc (length (rest_of (drop 21 c.args.bytes.now))) = ap length (long-message c.args.bytes.now long) in
    record { room = omega (arith, c.requires.room, count) }

pub hold_rest-requires : goal.hold_rest-requires
hold_rest-requires c =
    let long : 23 < length c.args.bytes.now = omega arith in
    let count : length (pieces_by Message c.args.bytes.now) ≡ suc (length (rest_of (drop 21 c.args.bytes.now))) = ap length (long-message c.args.bytes.now long) in
    let same : length (rest_of c.split_at.result.1.now) ≡ length (rest_of (drop 21 c.args.bytes.now)) = ap (λ (r : List ℕ). length (rest_of r)) c.split_at.ensures.back in
    let held : length c.push.new.self.held ≡ length c.args.self.now.held + 1 = ap length c.push.ensures.held ∙ length_push c.args.self.now.held c.piece_of.result in
    record { room = omega (arith, c.requires.room, count, same, held, c.push.ensures.places) }

pub returns-clause-held : goal.returns-clause-held
returns-clause-held c =
    let bytes : List ℕ = c.args.bytes.now in
    let held : List (List ℕ) = c.args.self.now.held in
    let rest : List ℕ = c.split_at.result.1.now in
    let long : 23 < length bytes = omega arith in
    let piece : c.piece_of.result ≡ first_piece (length bytes) bytes =
    c.piece_of.ensures
    ∙ ap (λ (b : ℕ). b ∷ length bytes % 256 ∷ length bytes / 256 ∷ c.split_at.result.0.now) c.byte.ensures
    ∙ ap (λ (t : List ℕ). 2 ∷ length bytes % 256 ∷ length bytes / 256 ∷ t) c.split_at.ensures.front in
    c.hold_rest.ensures.held
    ∙ ap (λ (t : List (List ℕ)). t ++ rest_of rest) c.push.ensures.held
    ∙ append_assoc held (c.piece_of.result ∷ []) (rest_of rest)
    ∙ ap (λ (p : List ℕ). held ++ p ∷ rest_of rest) piece
    ∙ ap (λ (r : List ℕ). held ++ first_piece (length bytes) bytes ∷ rest_of r) c.split_at.ensures.back
    ∙ ap (λ (t : List (List ℕ)). held ++ t) (sym (long-message bytes long))
