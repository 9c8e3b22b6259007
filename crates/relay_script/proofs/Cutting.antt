-- The first line of a text.
use Rattle.std.specs.List.{position_or_len}
use Rattle.std.proofs.Common.{◌≡◌, ℕ, suc, ◌+◌, ◌<◌, ◌≤◌, Bool, true, false, List, [], ◌∷◌, length, get_or, nat_eq, arith, refl}
use Rattle.match_script.specs.Text.{lines_of}
use Rattle.match_script.specs.Shape.{first_line}
use Rattle.match_script.proofs.Cutting.{no_lines}
use Rattle.match_script.proofs.Pieces as pieces
use Rattle.relay_script.specs.Lines.{is_relay}

pub no_line : (text : List ℕ) → length text ≡ 0 → lines_of text ≡ []
no_line [] e = no_lines
no_line (b ∷ text) e = absurd (omega arith)

pub cut_is_first : (text line rest : List ℕ) → 0 < length text → lines_of text ≡ line ∷ lines_of rest → line ≡ first_line text
cut_is_first text line rest some e = pieces.cut_is_first text line rest some e

pub cut_first : (text line rest : List ℕ) → 0 < length text → lines_of text ≡ line ∷ lines_of rest → lines_of text ≡ first_line text ∷ lines_of rest
cut_first text line rest some e = pieces.cut_first text line rest some e

line_more : (b : ℕ) (text : List ℕ) → nat_eq b 10 ≡ false → first_line (b ∷ text) ≡ b ∷ first_line text
line_more b text e = let one : 1 + position_or_len (λ b. nat_eq b 10) text ≡ suc (position_or_len (λ b. nat_eq b 10) text) = omega arith in rw (e, one) refl

no_more : (b : ℕ) (text : List ℕ) → nat_eq b 10 ≡ true → first_line (b ∷ text) ≡ []
no_more b text e = rw e refl

-- ---- lines of the relay's

after_r : (b : ℕ) (text : List ℕ) → nat_eq b 32 ≡ is_relay (first_line (114 ∷ b ∷ text))
after_r b text = by_end (nat_eq b 10) refl
  where
    by_end : (v : Bool) → nat_eq b 10 ≡ v → nat_eq b 32 ≡ is_relay (first_line (114 ∷ b ∷ text))
    by_end true e = rw (line_more 114 (b ∷ text) refl, no_more b text e) (grind arith)
    by_end false e = rw (line_more 114 (b ∷ text) refl, line_more b text e) (grind arith)

pub with_r : (text : List ℕ) → 2 ≤ length text → get_or text 0 0 ≡ 114 → nat_eq (get_or text 1 0) 32 ≡ is_relay (first_line text)
with_r [] le e = absurd (omega arith)
with_r (a ∷ []) le e = absurd (omega arith)
with_r (a ∷ b ∷ text) le e = rw e (after_r b text)

other_first : (a b : ℕ) (text : List ℕ) → nat_eq a 114 ≡ false → is_relay (first_line (a ∷ b ∷ text)) ≡ false
other_first a b text n = by_end (nat_eq a 10) refl
  where
    by_end : (v : Bool) → nat_eq a 10 ≡ v → is_relay (first_line (a ∷ b ∷ text)) ≡ false
    by_end true e = rw (no_more a (b ∷ text) e) refl
    by_end false e = rw (line_more a (b ∷ text) e, n) refl

pub without_r : (text : List ℕ) → 2 ≤ length text → nat_eq (get_or text 0 0) 114 ≡ false → is_relay (first_line text) ≡ false
without_r [] le e = absurd (omega arith)
without_r (a ∷ []) le e = absurd (omega arith)
without_r (a ∷ b ∷ text) le e = other_first a b text e

pub too_short : (text : List ℕ) → length text < 2 → is_relay (first_line text) ≡ false
too_short [] lt = refl
too_short (a ∷ []) lt = by_end (nat_eq a 10) refl
  where
    by_end : (v : Bool) → nat_eq a 10 ≡ v → is_relay (first_line (a ∷ [])) ≡ false
    by_end true e = rw (no_more a [] e) refl
    by_end false e = rw (line_more a [] e) (grind arith)
too_short (a ∷ b ∷ text) lt = absurd (omega arith)
