use Rattle.std.proofs.Common.{◌≡◌, ℕ, ◌+◌, ◌≤◌, List, [], ◌∷◌, length, sym, ◌∙◌, ap, arith}
use Rattle.messages.specs.declared.form.Form.TheVariants.{Short, Alone}
use Rattle.messages.specs.Forms.{form_byte}
use Rattle.messages.proofs.CutPieces.{event-pieces, short-message}
use Rattle.messages.proofs.single.loose_parcel.Goals as goal

pub returns-in-Some-Short-clause-parcel : goal.returns-in-Some-Short-clause-parcel
returns-in-Some-Short-clause-parcel c =
    let bytes : List ℕ = c.in-Some.bytes.now in
    let first : form_byte Short ≡ c.in-Some.byte = cc (c.in-Some-Short.ensures.byte, ap form_byte c.in-Some-Short.field-0-is) in
    event-pieces bytes ∙ ap (λ (p : List ℕ). p ∷ []) (ap (λ (b : ℕ). b ∷ bytes) first ∙ sym c.in-Some.ensures.some ∙ c.as_slice.ensures.value)

pub returns-in-Some-Alone-clause-parcel : goal.returns-in-Some-Alone-clause-parcel
returns-in-Some-Alone-clause-parcel c =
    let bytes : List ℕ = c.in-Some.bytes.now in
    let first : form_byte Alone ≡ c.in-Some.byte = cc (c.in-Some-Alone.ensures.byte, ap form_byte c.in-Some-Alone.field-0-is) in
    let fewer : length c.as_slice.result.now ≡ length bytes + 1 = c.in-Some.ensures.fewer in
    let few : length bytes ≤ 23 = omega (arith, c.as_slice.ensures.fits) in
    short-message bytes few ∙ ap (λ (p : List ℕ). p ∷ []) (ap (λ (b : ℕ). b ∷ bytes) first ∙ sym c.in-Some.ensures.some ∙ c.as_slice.ensures.value)
