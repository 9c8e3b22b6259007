-- The lines that a report goes over are those of the text, in the text's order.
use Rattle.std.proofs.Common.{◌≡◌, ◌∙◌, ℕ, suc, ◌+◌, ◌<◌, List, [], ◌∷◌, ◌++◌, length, get_or, reverse, refl, sym, ap, arith, append_assoc, append-nil, length-append}
use Rattle.std.proofs.lemmas.List.{reverse-append, length-reverse, reverse-reverse}
use Rattle.std.proofs.Math.Seq.{get_or-append_seam}
use Rattle.match_script.specs.declared.types.BodyLine.{BodyLine}
use Rattle.relay_script.specs.declared.entries.Entry.{Entry}
use Rattle.relay_script.specs.declared.entries.Entry.TheVariants.{OfMatch, OfRelay}
use Rattle.relay_script.specs.declared.types.PlacedLine.{PlacedLine}
use Rattle.relay_script.specs.Whole.{match_lines, relay_lines}
use Rattle.relay_report.specs.Met.{past_of, match_past}
use Rattle.relay_node.specs.Running.{IsBehind}
use Rattle.relay_node.specs.Order.{StandAsInTheText}
use Rattle.relay_node.proofs.Places.{past_more, past_relay, behind_later}

-- the relay's lines among these, the newest first, each with how many of the match stand before it
placed_of : List Entry → List PlacedLine
placed_of [] = []
placed_of (OfMatch line ∷ past) = placed_of past
placed_of (OfRelay line ∷ past) = record { behind = length (match_past past); line = line } ∷ placed_of past

placed_behind : (past : List Entry) → IsBehind (placed_of past) (length (match_past past))
unfolding placed_of
placed_behind [] = tt
placed_behind (OfMatch line ∷ past) =
    behind_later (placed_of past) (length (match_past past)) (length (match_past (OfMatch line ∷ past))) (placed_behind past) (omega arith)
placed_behind (OfRelay line ∷ past) = (omega arith, placed_behind past)

-- what is turned round and put in front
turned : {X : Type 0} (x : X) (xs ys : List X) → reverse (x ∷ xs) ++ ys ≡ reverse xs ++ (x ∷ ys)
turned x xs ys = ap (λ l. l ++ ys) (reverse-append (x ∷ []) xs) ∙ append_assoc (reverse xs) (x ∷ []) ys

-- the lines before, by the first lines of a body and the relay's lines among these, are they themselves
past_is : (past : List Entry) (later : List BodyLine) → past_of (reverse (match_past past) ++ later) (length (match_past past)) (placed_of past) ≡ past
unfolding placed_of
past_is [] later = refl
past_is (OfRelay line ∷ past) later =
    past_relay (reverse (match_past past) ++ later) (placed_of past) (record { behind = length (match_past past); line = line })
    ∙ ap (λ (l : List Entry). OfRelay line ∷ l) (past_is past later)
past_is (OfMatch line ∷ past) later =
    let lines = match_past past in
    let body : List BodyLine = reverse lines ++ (line ∷ later) in
    let n = length lines in
    let long : length (reverse lines) ≡ n = length-reverse lines in
    let lt : n < length body = omega (arith, long, length-append (reverse lines) (line ∷ later)) in
    let one : length (line ∷ lines) ≡ n + 1 = omega arith in
    let here : get_or body n line ≡ line = ap (λ (k : ℕ). get_or body k line) (sym long) ∙ get_or-append_seam (reverse lines) line later line in
    ap (λ (l : List BodyLine). past_of l (length (line ∷ lines)) (placed_of past)) (turned line lines later)
    ∙ ap (λ (k : ℕ). past_of body k (placed_of past)) one
    ∙ past_more body (placed_of past) n line (placed_behind past) lt
    ∙ ap (λ (l : BodyLine). OfMatch l ∷ past_of body n (placed_of past)) here
    ∙ ap (λ (l : List Entry). OfMatch line ∷ l) (past_is past (line ∷ later))

-- ---- by the text

lines_onto : (es rs : List Entry) → match_past (reverse es ++ rs) ≡ reverse (match_lines es) ++ match_past rs
unfolding match_lines
lines_onto [] rs = refl
lines_onto (OfMatch line ∷ es) rs =
    ap match_past (turned (OfMatch line) es rs) ∙ lines_onto es (OfMatch line ∷ rs) ∙ sym (turned line (match_lines es) (match_past rs))
lines_onto (OfRelay line ∷ es) rs = ap match_past (turned (OfRelay line) es rs) ∙ lines_onto es (OfRelay line ∷ rs)

placed_onto : (es rs : List Entry) → placed_of (reverse es ++ rs) ≡ reverse (relay_lines (length (match_past rs)) es) ++ placed_of rs
unfolding relay_lines placed_of
placed_onto [] rs = refl
placed_onto (OfMatch line ∷ es) rs =
    let one : length (match_past (OfMatch line ∷ rs)) ≡ suc (length (match_past rs)) = omega arith in
    ap placed_of (turned (OfMatch line) es rs) ∙ placed_onto es (OfMatch line ∷ rs)
    ∙ ap (λ (k : ℕ). reverse (relay_lines k es) ++ placed_of rs) one
placed_onto (OfRelay line ∷ es) rs =
    ap placed_of (turned (OfRelay line) es rs) ∙ placed_onto es (OfRelay line ∷ rs)
    ∙ sym (turned (record { behind = length (match_past rs); line = line }) (relay_lines (length (match_past rs)) es) (placed_of rs))

pub as_in_the_text : StandAsInTheText
unfolding placed_of
as_in_the_text es =
    let lines : match_past (reverse es) ≡ reverse (match_lines es) =
    ap match_past (sym (append-nil (reverse es))) ∙ lines_onto es [] ∙ append-nil (reverse (match_lines es)) in
    let placed : placed_of (reverse es) ≡ reverse (relay_lines 0 es) = ap placed_of (sym (append-nil (reverse es))) ∙ placed_onto es [] ∙ append-nil (reverse (relay_lines 0 es)) in
    let body : reverse (match_past (reverse es)) ++ [] ≡ match_lines es =
    append-nil (reverse (match_past (reverse es))) ∙ ap reverse lines ∙ reverse-reverse (match_lines es) in
    let long : length (match_past (reverse es)) ≡ length (match_lines es) = ap (λ (l : List BodyLine). length l) lines ∙ length-reverse (match_lines es) in
    sym (λ j. past_of (body j) (long j) (placed j)) ∙ past_is (reverse es) []
