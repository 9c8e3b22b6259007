use Rattle.std.proofs.Common.{◌≡◌, ℕ, suc, ◌+◌, ◌<◌, ◌≤◌, List, [], ◌∷◌, ◌++◌, length, take, drop, refl, sym, ◌∙◌, ap, append_assoc, arith}
use Rattle.std.proofs.lemmas.List.{length_push}
use Rattle.messages.specs.Pieces.{rest_of}
use Rattle.messages.proofs.CutPieces.{rest-more, rest-last, length-rest}
use Rattle.messages.proofs.outbox.Outbox.hold_rest.Goals as goal

pub rest-init : goal.rest-init
rest-init c = record { held = refl; room = omega (arith, c.requires.room, length-rest c.args.bytes.now); places = refl }

pub hold_piece-requires-clause-room : goal.hold_piece-requires-clause-room
hold_piece-requires-clause-room c = omega (arith, c.rest.invariant.room, length-rest c.rest.rest.now)

pub rest-preserved : goal.rest-preserved
rest-preserved c =
    let rest : List ℕ = c.rest.rest.now in
    let before : List (List ℕ) = c.rest.self.held in
    let after : List ℕ = c.split_at.result.1.now in
    let long : 23 < length rest = omega arith in
    let more : rest_of rest ≡ (3 ∷ take 23 rest) ∷ rest_of (drop 23 rest) = rest-more rest long in
    let held : c.hold_piece.new.self.held ≡ before ++ (3 ∷ take 23 rest) ∷ [] = c.hold_piece.ensures.held ∙ ap (λ (p : List ℕ). before ++ (3 ∷ p) ∷ []) c.split_at.ensures.front in
    let count : length c.hold_piece.new.self.held ≡ length before + 1 = ap length held ∙ length_push before (3 ∷ take 23 rest) in
    let counts : length (rest_of rest) ≡ suc (length (rest_of (drop 23 rest))) = ap length more in
    let same : length (rest_of after) ≡ length (rest_of (drop 23 rest)) = ap (λ (r : List ℕ). length (rest_of r)) c.split_at.ensures.back in
    record {
      held = ap (λ (t : List (List ℕ)). t ++ rest_of after) held
          ∙ append_assoc before ((3 ∷ take 23 rest) ∷ []) (rest_of after)
          ∙ ap (λ (r : List ℕ). before ++ (3 ∷ take 23 rest) ∷ rest_of r) c.split_at.ensures.back
          ∙ ap (λ (t : List (List ℕ)). before ++ t) (sym more)
          ∙ c.rest.invariant.held;
      room = omega (arith, count, counts, same, c.rest.invariant.room, c.hold_piece.ensures.places);
      places = c.hold_piece.ensures.places ∙ c.rest.invariant.places;
    }

pub hold_piece-requires-2-clause-room : goal.hold_piece-requires-2-clause-room
hold_piece-requires-2-clause-room c = omega (arith, c.rest.invariant.room, length-rest c.rest.rest.now)

pub returns-clause-held : goal.returns-clause-held
returns-clause-held c =
    let few : length c.rest.rest.now ≤ 23 = omega arith in
    c.hold_piece-2.ensures.held ∙ ap (λ (t : List (List ℕ)). c.rest.self.held ++ t) (sym (rest-last c.rest.rest.now few)) ∙ c.rest.invariant.held
