-- The words of a line, where they are as many as some line has; and the first line of a text by its words, where the
-- line's end is not looked for before.
use Rattle.std.specs.Prelude.{ℕ, ◌≡◌, ◌==◌, ◌&&◌, nat_lt, nat_le, suc, take, drop, List, [], ◌∷◌, Bool, true, false, if◌then◌else◌, Result, Err}
use Rattle.std.specs.List.{position_or_len}
use Rattle.match_script.specs.declared.limits.TheConstants.{MAX_BODY_LINES}
use Rattle.match_script.specs.Text.{is_text, words_of}
use Rattle.match_script.specs.Lines.{body_line}
use Rattle.match_script.specs.declared.types.BodyLine.{BodyLine}
use Rattle.match_script.specs.declared.types.ScriptFault.{ScriptFault}
use Rattle.match_script.specs.declared.types.ScriptFault.TheVariants.{UnknownWord, TooManyLines}
use Rattle.match_script.specs.declared.words.Words.{Words}
use Rattle.match_script.specs.declared.cut.Piece.{Piece}
use Rattle.match_script.specs.declared.cut.Piece.TheVariants.{Inner, Last, Odd}
use Rattle.match_script.specs.declared.words.Words.TheVariants.{One, Two, Three, Four, Six, Other}

abbrev pub has_shape : List (List ℕ) → Bool
has_shape (a ∷ []) = true
has_shape (a ∷ b ∷ []) = true
has_shape (a ∷ b ∷ c ∷ []) = true
has_shape (a ∷ b ∷ c ∷ d ∷ []) = true
has_shape (a ∷ b ∷ c ∷ d ∷ e ∷ f ∷ []) = true
has_shape _ = false

abbrev pub AreWords : Words → List (List ℕ) → Type 0
AreWords (One a) ws = ws ≡ a.now ∷ []
AreWords (Two a b) ws = ws ≡ a.now ∷ b.now ∷ []
AreWords (Three a b c) ws = ws ≡ a.now ∷ b.now ∷ c.now ∷ []
AreWords (Four a b c d) ws = ws ≡ a.now ∷ b.now ∷ c.now ∷ d.now ∷ []
AreWords (Six a b c d e f) ws = ws ≡ a.now ∷ b.now ∷ c.now ∷ d.now ∷ e.now ∷ f.now ∷ []
AreWords Other ws = has_shape ws ≡ false

-- the line of the body that these words are
abbrev pub words_line : ℕ → Words → Result BodyLine ScriptFault
words_line clients (One a) = body_line clients (a.now ∷ [])
words_line clients (Two a b) = body_line clients (a.now ∷ b.now ∷ [])
words_line clients (Three a b c) = body_line clients (a.now ∷ b.now ∷ c.now ∷ [])
words_line clients (Four a b c d) = body_line clients (a.now ∷ b.now ∷ c.now ∷ d.now ∷ [])
words_line clients (Six a b c d e f) = body_line clients (a.now ∷ b.now ∷ c.now ∷ d.now ∷ e.now ∷ f.now ∷ [])
words_line clients Other = Err UnknownWord

-- line k of the body, counted from 0, by its words
unfoldable pub words_at : ℕ → ℕ → Words → Result BodyLine ScriptFault
words_at clients k words = if nat_le MAX_BODY_LINES k then Err TooManyLines else words_line clients words

-- a byte of a word
abbrev pub is_word_byte : ℕ → Bool
is_word_byte b = nat_lt 32 b && nat_le b 126

-- the first line of a text, and what comes after its newline
abbrev pub first_line : List ℕ → List ℕ
first_line text = take (position_or_len (λ b. b == 10) text) text

abbrev pub after_line : List ℕ → List ℕ
after_line text = drop (suc (position_or_len (λ b. b == 10) text)) text

-- the first word of a text, by what stands behind it: a space, or the line's end; or the line may be no text
abbrev pub IsPiece : Piece → List ℕ → Type 0
IsPiece (Inner word rest) text =
    (words_of (first_line text) ≡ word.now ∷ words_of (first_line rest.now))
    × (is_text (first_line text) ≡ is_text (first_line rest.now)) × (after_line text ≡ after_line rest.now)
IsPiece (Last word rest) text =
    (words_of (first_line text) ≡ word.now ∷ []) × (is_text (first_line text) ≡ true) × (after_line text ≡ rest.now)
IsPiece Odd text = Unit {0}

-- these are the words of a text's first line, which is text, and this comes after it
pub record AreFirstWords (ws : Words) (rest text : List ℕ) : Type 0 where
  pub words : AreWords ws (words_of (first_line text))
  pub clean : is_text (first_line text) ≡ true
  pub after : rest ≡ after_line text
