-- The lines of a report are those that were told, in the order of the script.
use Rattle.std.proofs.Common.{◌≡◌, ℕ, zero, suc, List, [], ◌∷◌, ◌++◌, map, take, reverse, Some, refl, sym, ap, ◌∙◌, append-nil, append_assoc}
use Rattle.std.specs.Prelude.{zip, slice_get}
use Rattle.std.proofs.lemmas.List.{map-append}
use Rattle.std.proofs.lemmas.Grind.{reverse_onto, flat_map-append}
use Rattle.match_script.specs.declared.types.BodyLine.{BodyLine}
use Rattle.match_script.specs.declared.types.Head.{Head}
use Rattle.match_script.specs.declared.types.Script.{Script}
use Rattle.match_script.specs.Text.{lines_of}
use Rattle.match_report.specs.Text.{told_text}
use Rattle.match_laws.specs.Report.{told_after, line_text, told_lines, text_behind, report_so_far, report}
use Rattle.match_laws.specs.Laws.{first}
use Rattle.match_laws.specs.Words.{ToldLine, side_by_side}
use Rattle.match_laws.proofs.WordsBytes.{told_in_line}
use Rattle.match_laws.proofs.WordsCut.{line_cut}

-- ---- the lines that were done

-- each with its line of the report, without the newline
abbrev pub plain_lines : Head → List BodyLine → List ToldLine
plain_lines head [] = []
plain_lines head (line ∷ past) = plain_lines head past ++ (line, told_text (told_after head past line)) ∷ []

-- ---- the lines of the report

abbrev text_in : ToldLine → List ℕ
text_in x = x.1

-- a line with its newline, between what stands before and behind it
placed : (front text rest : List ℕ) → (front ++ ((text ++ 10 ∷ []) ++ [])) ++ rest ≡ front ++ (text ++ 10 ∷ rest)
placed front text rest =
    append_assoc front ((text ++ 10 ∷ []) ++ []) rest
    ∙ ap (λ l. front ++ l) (ap (λ l. l ++ rest) (append-nil (text ++ 10 ∷ [])) ∙ append_assoc text (10 ∷ []) rest)

report-lines : (head : Head) (past : List BodyLine) (rest : List ℕ)
    → lines_of (report_so_far head past ++ rest) ≡ map text_in (plain_lines head past) ++ lines_of rest
report-lines head [] rest = refl
report-lines head (line ∷ past) rest =
    let told = told_after head past line in
    let text = told_text told in
    ap (λ l. lines_of (l ++ rest)) (flat_map-append text_behind (told_lines head past) ((line, line_text head past line) ∷ []))
    ∙ ap lines_of (placed (report_so_far head past) text rest)
    ∙ report-lines head past (text ++ 10 ∷ rest)
    ∙ ap (λ l. map text_in (plain_lines head past) ++ l) (line_cut text rest (told_in_line told))
    ∙ sym (append_assoc (map text_in (plain_lines head past)) (text ∷ []) (lines_of rest))
    ∙ ap (λ l. l ++ lines_of rest) (sym (map-append text_in (plain_lines head past) ((line, text) ∷ [])))

-- the same pairs, from the oldest line on
abbrev plain_lines_on : Head → List BodyLine → List BodyLine → List ToldLine
plain_lines_on head past [] = []
plain_lines_on head past (line ∷ lines) = (line, told_text (told_after head past line)) ∷ plain_lines_on head (line ∷ past) lines

forward : (head : Head) (lines past : List BodyLine)
    → plain_lines head (reverse lines ++ past) ≡ plain_lines head past ++ plain_lines_on head past lines
forward head [] past = sym (append-nil (plain_lines head past))
forward head (line ∷ lines) past =
    ap (λ l. plain_lines head (l ++ past)) (reverse_onto lines line [])
    ∙ ap (plain_lines head) (append_assoc (reverse lines) (line ∷ []) past)
    ∙ forward head lines (line ∷ past)
    ∙ append_assoc (plain_lines head past) ((line, told_text (told_after head past line)) ∷ []) (plain_lines_on head (line ∷ past) lines)

all-forward : (head : Head) (lines : List BodyLine) → plain_lines head (reverse lines) ≡ plain_lines_on head [] lines
all-forward head lines = ap (plain_lines head) (sym (append-nil (reverse lines))) ∙ forward head lines []

zip-front : (head : Head) (n : ℕ) (lines past : List BodyLine)
    → zip (take n lines) (map text_in (plain_lines_on head past lines)) ≡ plain_lines_on head past (take n lines)
zip-front head zero lines past = refl
zip-front head (suc n) [] past = refl
zip-front head (suc n) (line ∷ lines) past =
    ap (λ l. (line, told_text (told_after head past line)) ∷ l) (zip-front head n lines (line ∷ past))

whole-report : (s : Script) → lines_of (report s) ≡ map text_in (plain_lines s.head (reverse s.body))
unfolding report lines_of
whole-report s =
    ap lines_of (sym (append-nil (report_so_far s.head (reverse s.body)))) ∙ report-lines s.head (reverse s.body) []
    ∙ append-nil (map text_in (plain_lines s.head (reverse s.body)))

-- the first lines, each with its line of the report, are those that were done
pub told_side_by_side : (s : Script) (n : ℕ) → side_by_side (take n s.body) (report s) ≡ plain_lines s.head (first n s)
told_side_by_side s n =
    ap (zip (take n s.body)) (whole-report s ∙ ap (map text_in) (all-forward s.head s.body))
    ∙ zip-front s.head n s.body [] ∙ sym (all-forward s.head (take n s.body))

-- ---- one line

-- the text of line n is what it tells after those before it
line-at : (head : Head) (n : ℕ) (lines past : List BodyLine) (line : BodyLine) → slice_get lines n ≡ Some line
    → slice_get (map text_in (plain_lines_on head past lines)) n ≡ Some (told_text (told_after head (reverse (take n lines) ++ past) line))
line-at head n [] past line e = absurd cc
line-at head zero (l ∷ lines) past line e =
    let same : l ≡ line = cc in ap (λ (x : BodyLine). Some (told_text (told_after head past x))) same
line-at head (suc n) (l ∷ lines) past line e =
    line-at head n lines (l ∷ past) line e
    ∙ ap (λ (before : List BodyLine). Some (told_text (told_after head before line)))
    (sym (append_assoc (reverse (take n lines)) (l ∷ []) past) ∙ ap (λ before. before ++ past) (sym (reverse_onto (take n lines) l [])))

pub line_told : (s : Script) (n : ℕ) (line : BodyLine) → slice_get s.body n ≡ Some line
    → slice_get (lines_of (report s)) n ≡ Some (told_text (told_after s.head (first n s) line))
line_told s n line e =
    ap (λ lines. slice_get lines n) (whole-report s ∙ ap (map text_in) (all-forward s.head s.body)) ∙ line-at s.head n s.body [] line e
    ∙ ap (λ (before : List BodyLine). Some (told_text (told_after s.head before line))) (append-nil (first n s))
