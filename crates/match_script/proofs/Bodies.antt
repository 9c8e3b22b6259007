-- A body, line by line.
use Rattle.std.proofs.Common.{◌≡◌, ℕ, suc, ◌+◌, ◌<◌, List, [], ◌∷◌, ◌++◌, length, arith, Option, true, false, Result, Ok, Err, refl, append_assoc, add-one}
use Rattle.std.proofs.lemmas.List.{append-nil}
use Rattle.std.proofs.lemmas.List.Elements.{All-push}
use Rattle.std.specs.List.{All}
use Rattle.match_script.specs.declared.types.BodyLine.{BodyLine}
use Rattle.match_script.specs.declared.types.ScriptFault.{ScriptFault}
use Rattle.match_script.specs.declared.types.ScriptFault.TheVariants.{BadHeader, TooManyLines}
use Rattle.match_script.specs.Script.{Fault, ◌>>=◌, may_come, ticks_behind, body_of, line_at, header_words}
use Rattle.match_script.specs.Text.{lines_of}
use Rattle.match_script.specs.Ranges.{LineFits}
use Rattle.match_script.proofs.Cutting.{no_lines}

abbrev pub with_front : List BodyLine → Result (List BodyLine) Fault → Result (List BodyLine) Fault
with_front front (Ok lines) = Ok (front ++ lines)
with_front front (Err e) = Err e

moved : (front : List BodyLine) (line : BodyLine) (read : Result (List BodyLine) Fault) → with_front front (read >>= λ rest. Ok (line ∷ rest)) ≡ with_front (front ++ line ∷ []) read
moved front line (Ok lines) = rw append_assoc refl
moved front line (Err e) = refl

pub body_goes_on : (ticks : Option ℕ) (clients n k : ℕ) (text line rest : List ℕ) (front : List BodyLine) (read : BodyLine) → lines_of text ≡ line ∷ lines_of rest → line_at clients k line ≡ Ok read → may_come ticks read ≡ true
    → with_front front (body_of ticks clients n k (lines_of text)) ≡ with_front (front ++ read ∷ []) (body_of (ticks_behind ticks read) clients n (k + 1) (lines_of rest))
unfolding body_of
body_goes_on ticks clients n k text line rest front read cut e may =
    rw (cut, e, may, add-one) (moved front read (body_of (ticks_behind ticks read) clients n (suc k) (lines_of rest)))

pub body_stops : (ticks : Option ℕ) (clients n k : ℕ) (text line rest : List ℕ) (front : List BodyLine) (fault : ScriptFault) → lines_of text ≡ line ∷ lines_of rest → line_at clients k line ≡ Err fault
    → with_front front (body_of ticks clients n k (lines_of text)) ≡ Err (n + (k + 1), fault)
unfolding body_of
body_stops ticks clients n k text line rest front fault cut e = rw (cut, e, add-one) refl

-- a tick too many
pub body_is_full : (ticks : Option ℕ) (clients n k : ℕ) (text line rest : List ℕ) (front : List BodyLine) (read : BodyLine) → lines_of text ≡ line ∷ lines_of rest → line_at clients k line ≡ Ok read → may_come ticks read ≡ false
    → with_front front (body_of ticks clients n k (lines_of text)) ≡ Err (n + (k + 1), TooManyLines)
unfolding body_of
body_is_full ticks clients n k text line rest front read cut e may = rw (cut, e, may, add-one) refl

pub body_ends : (ticks : Option ℕ) (clients n k : ℕ) (text : List ℕ) (front : List BodyLine) → length text ≡ 0 → with_front front (body_of ticks clients n k (lines_of text)) ≡ Ok front
unfolding body_of
body_ends ticks clients n k [] front e = rw (no_lines, append-nil) refl
body_ends ticks clients n k (b ∷ text) front e = absurd (omega arith)

pub line_few : (clients k : ℕ) (line : List ℕ) (read : BodyLine) → line_at clients k line ≡ Ok read → k < 100000
unfolding line_at
line_few clients k line read e = grind arith

pub no_line : (n : ℕ) (text : List ℕ) → length text ≡ 0 → header_words n (lines_of text) ≡ Err (n, BadHeader)
unfolding header_words
no_line n [] e = rw no_lines refl
no_line n (b ∷ text) e = absurd (omega arith)

pub fits_more : (clients : ℕ) (lines : List BodyLine) (line : BodyLine) → All (LineFits clients) lines → LineFits clients line → All (LineFits clients) (lines ++ line ∷ [])
fits_more clients lines line fit h = All-push (LineFits clients) lines line fit h
