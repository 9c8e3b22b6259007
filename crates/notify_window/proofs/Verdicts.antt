-- Fates of packets.
use Rattle.std.proofs.Common.{◌≡◌, ◌≢◌, ℕ, ◌+◌, ◌-◌, ◌<◌, ◌≤◌, ◌^◌, Bool, true, false, ◌&&◌, nat_le, nat_lt, List, [], ◌∷◌, ◌++◌, if◌then◌else◌, refl, sym, ◌∙◌, ap, arith, inl, inr, ◌==◌}
use Rattle.std.specs.Int.{bit_at}
use Rattle.std.proofs.lemmas.Bool.Decides.{nat_tests}
use Rattle.std.proofs.lemmas.Bool.{cases_lt, cases_eq}
use Rattle.std.proofs.lemmas.Nat.Bits.{bit_at-lt, bit_at-zero}
use Rattle.tn_types.specs.BitWords.{bit_of}
use Rattle.notify_window.specs.Log.{WindowEvent, Sent, Came, Told, judged_of, Unjudged, Received, Lost, is_received, fate_of, fate_of_bit, notices_of}
use Rattle.notify_window.proofs.Words.{is_from_bits}

-- what is above the judged is unjudged
pub fate-above : (s : ℕ) (log : List WindowEvent) → judged_of log < s → fate_of s log ≡ Unjudged
fate-above s [] h = refl
fate-above s (Sent ∷ log) h = fate-above s log h
fate-above s (Came ping seq ∷ log) h = fate-above s log h
fate-above s (Told horizon mask ∷ log) h =
    let early : nat_lt (judged_of log) s ≡ true = grind (arith, nat_tests) in
    let late : nat_le s horizon ≡ false = grind (arith, nat_tests) in
    rw (early, late) (fate-above s log (omega arith))

-- the verdict that an acknowledgement brings
pub fate-told : (s horizon mask : ℕ) (log : List WindowEvent) → judged_of log < s → s ≤ horizon → fate_of s (Told horizon mask ∷ log) ≡ fate_of_bit (bit_at mask (horizon - s))
fate-told s horizon mask log above within =
    let early : nat_lt (judged_of log) s ≡ true = grind (arith, nat_tests) in
    let reached : nat_le s horizon ≡ true = grind (arith, nat_tests) in
    rw (early, reached)

-- an acknowledgement leaves what was judged before, and what it does not reach
pub fate-told_judged : (s horizon mask : ℕ) (log : List WindowEvent) → s ≤ judged_of log → fate_of s (Told horizon mask ∷ log) ≡ fate_of s log
fate-told_judged s horizon mask log judged = let early : nat_lt (judged_of log) s ≡ false = grind (arith, nat_tests) in rw early

pub fate-told_above : (s horizon mask : ℕ) (log : List WindowEvent) → horizon < s → fate_of s (Told horizon mask ∷ log) ≡ fate_of s log
fate-told_above s horizon mask log above = let late : nat_le s horizon ≡ false = grind (arith, nat_tests) in rw late (neither (nat_lt (judged_of log) s))
  where
    neither : (b : Bool) → (if b && false then fate_of_bit (bit_at mask (horizon - s)) else fate_of s log) ≡ fate_of s log
    neither true = refl
    neither false = refl

judged-later : (later log : List WindowEvent) → judged_of log ≤ judged_of (later ++ log)
judged-later [] log = omega arith
judged-later (Sent ∷ later) log = judged-later later log
judged-later (Came ping seq ∷ later) log = judged-later later log
judged-later (Told horizon mask ∷ later) log = omega (arith, judged-later later log)

fate-judged : (s : ℕ) (later log : List WindowEvent) → s ≤ judged_of log → fate_of s (later ++ log) ≡ fate_of s log
fate-judged s [] log l = refl
fate-judged s (Sent ∷ later) log l = fate-judged s later log l
fate-judged s (Came ping seq ∷ later) log l = fate-judged s later log l
fate-judged s (Told horizon mask ∷ later) log l = fate-told_judged s horizon mask (later ++ log) (omega (arith, judged-later later log)) ∙ fate-judged s later log l

-- a verdict is for good
pub fate-later : (s : ℕ) (later log : List WindowEvent) → fate_of s log ≢ Unjudged → fate_of s (later ++ log) ≡ fate_of s log
fate-later s later log known = elim (cases_lt (judged_of log) s) [
  | inl above ↦ absurd (known (fate-above s log above))
  | inr judged ↦ fate-judged s later log judged
]

fate_of_bit-is : (bit : ℕ) → fate_of_bit bit ≢ Unjudged
fate_of_bit-is bit h = either (bit == 1) h
  where
    either : (b : Bool) → (if b then Received else Lost) ≢ Unjudged
    either true h = cc
    either false h = cc

-- what is judged has a verdict
pub fate-known : (s : ℕ) (log : List WindowEvent) → 0 < s → s ≤ judged_of log → fate_of s log ≢ Unjudged
fate-known s [] pos l = absurd (omega arith)
fate-known s (Sent ∷ log) pos l = fate-known s log pos l
fate-known s (Came ping seq ∷ log) pos l = fate-known s log pos l
fate-known s (Told horizon mask ∷ log) pos l = elim (cases_lt (judged_of log) s) [
  | inl above ↦ (λ h. fate_of_bit-is _ (sym (fate-told s horizon mask log above (omega arith)) ∙ h))
  | inr judged ↦ (λ h. fate-known s log pos judged (sym (fate-told_judged s horizon mask log judged) ∙ h))
]

received-bit : (n : ℕ) → n < 2 → bit_of (is_received (fate_of_bit n)) ≡ n
received-bit n small = elim (cases_eq n 1) [
  | inl e ↦ rw e
  | inr e ↦ (let t : (n == 1) ≡ false = grind (arith, nat_tests) in rw t (omega arith))
]

-- the word of verdicts: what the acknowledgement judges by its bits, and nothing above
pub notices_bit : (horizon mask i : ℕ) (log : List WindowEvent) →
    (if nat_lt i (horizon - judged_of log) then bit_at mask (horizon - judged_of log - 1 - i) else 0) ≡ bit_of (is_received (fate_of (judged_of log + 1 + i) (Told horizon mask ∷ log)))
notices_bit horizon mask i log = elim (cases_lt i (horizon - judged_of log)) [
  | inl l ↦ (let t : nat_lt i (horizon - judged_of log) ≡ true = grind (arith, nat_tests) in
      let place : horizon - judged_of log - 1 - i ≡ horizon - (judged_of log + 1 + i) = omega arith in
      rw (t, place) (sym (ap (λ f. bit_of (is_received f)) (fate-told (judged_of log + 1 + i) horizon mask log (omega arith) (omega arith)) ∙ received-bit _ (bit_at-lt mask (horizon - (judged_of log + 1 + i))))))
  | inr l ↦ (let t : nat_lt i (horizon - judged_of log) ≡ false = grind (arith, nat_tests) in
      let none : fate_of (judged_of log + 1 + i) (Told horizon mask ∷ log) ≡ Unjudged = fate-above (judged_of log + 1 + i) (Told horizon mask ∷ log) (omega arith) in
      rw t (sym (ap (λ f. bit_of (is_received f)) none)))
]

pub notices_bits : (bits horizon mask : ℕ) (log : List WindowEvent) → bits < 2 ^ 32 →
    ((i : ℕ) → i < 32 → bit_at bits i ≡ (if nat_lt i (horizon - judged_of log) then bit_at mask (horizon - judged_of log - 1 - i) else 0)) → bits ≡ (notices_of horizon mask log).bits
notices_bits bits horizon mask log small each = is_from_bits _ bits small (λ i l. each i l ∙ notices_bit horizon mask i log)

-- no verdict where the horizon is below the first unjudged number
pub notices_none : (horizon mask : ℕ) (log : List WindowEvent) → horizon ≤ judged_of log → 0 ≡ (notices_of horizon mask log).bits
notices_none horizon mask log below = notices_bits 0 horizon mask log (omega arith) (λ i l.
    let t : nat_lt i (horizon - judged_of log) ≡ false = grind (arith, nat_tests) in rw t (bit_at-zero i))
