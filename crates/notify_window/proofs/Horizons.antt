-- What was processed, and the mask that tells of it.
use Rattle.std.proofs.Common.{◌≡◌, ℕ, ◌-◌, ◌<◌, ◌≤◌, ◌^◌, max, Bool, true, false, not, ◌&&◌, ◌||◌, ◌==◌, nat_le, nat_lt, List, [], ◌∷◌, ◌++◌, if◌then◌else◌, refl, ◌∙◌, ap, subst, arith, inl, inr, ◌⊎◌}
use Rattle.std.specs.Int.{bit_at}
use Rattle.std.proofs.lemmas.Bool.Decides.{nat_tests}
use Rattle.std.proofs.lemmas.Bool.{cases_lt, cases_eq}
use Rattle.notify_window.specs.declared.Arrival.TheVariants.{Old, Fresh}
use Rattle.tn_types.specs.BitWords.{bit_of}
use Rattle.notify_window.specs.Bits.{moved_bit}
use Rattle.notify_window.specs.Log.{WindowEvent, Sent, Came, Told, horizon_of, is_processed, mask_bit, mask_of, arrival_of, AreFresh}
use Rattle.notify_window.proofs.Words.{bit_at-from_bits, is_from_bits}

-- above the horizon nothing is processed
pub processed-above : (s : ℕ) (log : List WindowEvent) → horizon_of log < s → is_processed s log ≡ false
processed-above s [] h = refl
processed-above s (Sent ∷ log) h = processed-above s log h
processed-above s (Came ping seq ∷ log) h =
    let rest : is_processed s log ≡ false = processed-above s log (omega arith) in
    let other : (seq == s) ≡ false = grind (arith, nat_tests) in
    rw (rest, other) (never ping)
  where
    never : (ping : Bool) → ((not ping && false) || false) ≡ false
    never true = refl
    never false = refl
processed-above s (Told horizon mask ∷ log) h = processed-above s log h

-- an arrival that is fresh tells nothing new of a number up to the horizon
pub processed-fresh : (s seq : ℕ) (ping : Bool) (log : List WindowEvent) → arrival_of ping seq (horizon_of log) ≡ Fresh → s ≤ horizon_of log → is_processed s (Came ping seq ∷ log) ≡ is_processed s log
processed-fresh s seq true log fresh l = refl
processed-fresh s seq false log fresh l = elim (cases_lt (horizon_of log) seq) [
  | inl above ↦ (let other : (seq == s) ≡ false = grind (arith, nat_tests) in rw other)
  | inr below ↦ (let old : nat_le seq (horizon_of log) ≡ true = grind (arith, nat_tests) in
      let never : Old seq (horizon_of log) ≡ Fresh = rw old at fresh in absurd cc)
]

horizon-later : (later log : List WindowEvent) → horizon_of log ≤ horizon_of (later ++ log)
horizon-later [] log = omega arith
horizon-later (Sent ∷ later) log = horizon-later later log
horizon-later (Came ping seq ∷ later) log = omega (arith, horizon-later later log)
horizon-later (Told horizon mask ∷ later) log = horizon-later later log

-- at or below the horizon nothing changes any more
pub processed-later : (s : ℕ) (later log : List WindowEvent) → AreFresh later log → s ≤ horizon_of log → is_processed s (later ++ log) ≡ is_processed s log
processed-later s [] log fresh l = refl
processed-later s (Sent ∷ later) log fresh l = processed-later s later log fresh l
processed-later s (Came ping seq ∷ later) log fresh l = processed-fresh s seq ping (later ++ log) fresh.0 (omega (arith, horizon-later later log)) ∙ processed-later s later log fresh.1 l
processed-later s (Told horizon mask ∷ later) log fresh l = processed-later s later log fresh l

at_seq : (seq i : ℕ) (ping : Bool) → i < seq → ((not ping && seq == seq - i) ≡ (i == 0 && not ping))
at_seq seq i true l = zero_first (i == 0)
  where
    zero_first : (b : Bool) → false ≡ (b && false)
    zero_first true = refl
    zero_first false = refl
at_seq seq i false l = elim (cases_eq i 0) [
  | inl e ↦ (let t : (seq == seq - i) ≡ true = grind (arith, nat_tests) in let u : (i == 0) ≡ true = grind (arith, nat_tests) in rw (t, u))
  | inr e ↦ (let t : (seq == seq - i) ≡ false = grind (arith, nat_tests) in let u : (i == 0) ≡ false = grind (arith, nat_tests) in rw (t, u))
]

-- a mask that moved tells of the greater horizon
came_bit : (seq i : ℕ) (ping : Bool) (log : List WindowEvent) → horizon_of log < seq → i < 32 →
    moved_bit (mask_of log) (seq - horizon_of log) (not ping) i ≡ bit_of (nat_lt i seq && is_processed (seq - i) (Came ping seq ∷ log))
came_bit seq i ping log above small = elim (cases_lt i seq) [
  | inl l ↦ (let t : nat_lt i seq ≡ true = grind (arith, nat_tests) in rw (t, at_seq seq i ping l) (either (i == 0 && not ping) _ _ (rest l)))
  | inr l ↦ (let t : nat_lt i seq ≡ false = grind (arith, nat_tests) in let u : (i == 0) ≡ false = grind (arith, nat_tests) in rw (t, u) (none l))
]
  where
    either : (b : Bool) (n : ℕ) (old : Bool) → n ≡ bit_of old → (if b then 1 else n) ≡ bit_of (b || old)
    either true n old h = refl
    either false n old h = h

    rest : i < seq → (if nat_lt i (seq - horizon_of log) then 0 else bit_at (mask_of log) (i - (seq - horizon_of log))) ≡ bit_of (is_processed (seq - i) log)
    rest l = elim (cases_lt i (seq - horizon_of log)) [
      | inl h ↦ (let t : nat_lt i (seq - horizon_of log) ≡ true = grind (arith, nat_tests) in
          let u : is_processed (seq - i) log ≡ false = processed-above (seq - i) log (omega arith) in rw (t, u))
      | inr h ↦ (let t : nat_lt i (seq - horizon_of log) ≡ false = grind (arith, nat_tests) in
          let low : i - (seq - horizon_of log) < 32 = omega arith in
          let same : horizon_of log - (i - (seq - horizon_of log)) ≡ seq - i = omega arith in
          let v : nat_lt (i - (seq - horizon_of log)) (horizon_of log) ≡ true = grind (arith, nat_tests) in
          rw t (bit_at-from_bits (mask_bit log) 32 (i - (seq - horizon_of log)) low ∙ rw (v, same)))
    ]

    none : seq ≤ i → (if nat_lt i (seq - horizon_of log) then 0 else bit_at (mask_of log) (i - (seq - horizon_of log))) ≡ 0
    none l =
        let t : nat_lt i (seq - horizon_of log) ≡ false = grind (arith, nat_tests) in
        let low : i - (seq - horizon_of log) < 32 = omega arith in
        let v : nat_lt (i - (seq - horizon_of log)) (horizon_of log) ≡ false = grind (arith, nat_tests) in
        rw t (bit_at-from_bits (mask_bit log) 32 (i - (seq - horizon_of log)) low ∙ rw v)

came_above : (new seq : ℕ) (ping : Bool) (log : List WindowEvent) → horizon_of log < seq → new < 2 ^ 32 →
    ((i : ℕ) → i < 32 → bit_at new i ≡ moved_bit (mask_of log) (seq - horizon_of log) (not ping) i) → new ≡ mask_of (Came ping seq ∷ log)
came_above new seq ping log above small each =
    let top : seq ≡ max (horizon_of log) seq = omega arith in
    is_from_bits (mask_bit (Came ping seq ∷ log)) new small (λ i l.
    each i l ∙ subst (λ n. moved_bit (mask_of log) (seq - horizon_of log) (not ping) i ≡ bit_of (nat_lt i n && is_processed (n - i) (Came ping seq ∷ log))) top (came_bit seq i ping log above l))

-- a ping up to the horizon leaves the mask
came_below : (new seq by : ℕ) (log : List WindowEvent) → seq ≤ horizon_of log → by ≡ 0 → new < 2 ^ 32 →
    ((i : ℕ) → i < 32 → bit_at new i ≡ moved_bit (mask_of log) by false i) → new ≡ mask_of (Came true seq ∷ log)
came_below new seq by log below none small each =
    let top : horizon_of log ≡ max (horizon_of log) seq = omega arith in
    is_from_bits (mask_bit (Came true seq ∷ log)) new small (λ i l.
    each i l ∙ ap (λ n. moved_bit (mask_of log) n false i) none ∙ unmoved i ∙ bit_at-from_bits (mask_bit log) 32 i l
    ∙ ap (λ n. bit_of (nat_lt i n && is_processed (n - i) log)) top)
  where
    unmoved : (i : ℕ) → moved_bit (mask_of log) 0 false i ≡ bit_at (mask_of log) i
    unmoved i = let t : nat_lt i 0 ≡ false = grind (arith, nat_tests) in let z : i - 0 ≡ i = omega arith in rw (t, z) (either (i == 0))
      where
        either : (b : Bool) → (if b && false then 1 else bit_at (mask_of log) i) ≡ bit_at (mask_of log) i
        either true = refl
        either false = refl

-- a ping, or a data packet above the horizon, is fresh
pub is_fresh : (ping : Bool) (seq h : ℕ) → (ping ≡ true) ⊎ (h < seq) → arrival_of ping seq h ≡ Fresh
is_fresh true seq h o = refl
is_fresh false seq h (inl e) = cc
is_fresh false seq h (inr l) = let t : nat_le seq h ≡ false = grind (arith, nat_tests) in rw t

-- and a data packet that is fresh is above the horizon
is_above : (seq h : ℕ) → arrival_of false seq h ≡ Fresh → seq ≤ h → ⊥
is_above seq h fresh below =
    let old : nat_le seq h ≡ true = grind (arith, nat_tests) in
    let never : Old seq h ≡ Fresh = rw old at fresh in
    cc

-- the mask that a fresh arrival leaves
pub came_mask : (m new h seq : ℕ) (ping : Bool) (log : List WindowEvent) → m ≡ mask_of log → h ≡ horizon_of log → arrival_of ping seq h ≡ Fresh → new < 2 ^ 32 →
    ((i : ℕ) → i < 32 → bit_at new i ≡ moved_bit m (seq - h) (not ping) i) → new ≡ mask_of (Came ping seq ∷ log)
came_mask m new h seq ping log is_mask e fresh small each = elim (cases_lt h seq) [
  | inl above ↦ came_above new seq ping log (omega arith) small from_log
  | inr below ↦ at_most ping fresh from_log below
]
  where
    from_log : (i : ℕ) → i < 32 → bit_at new i ≡ moved_bit (mask_of log) (seq - horizon_of log) (not ping) i
    from_log i l = each i l ∙ ap (λ n. moved_bit n (seq - h) (not ping) i) is_mask ∙ ap (λ n. moved_bit (mask_of log) (seq - n) (not ping) i) e

    at_most : (ping : Bool) → arrival_of ping seq h ≡ Fresh → ((i : ℕ) → i < 32 → bit_at new i ≡ moved_bit (mask_of log) (seq - horizon_of log) (not ping) i) → seq ≤ h → new ≡ mask_of (Came ping seq ∷ log)
    at_most true fresh known below = came_below new seq (seq - horizon_of log) log (omega arith) (omega arith) small known
    at_most false fresh known below = absurd (is_above seq h fresh below)
