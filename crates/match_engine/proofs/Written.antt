-- A report grows by the line of each line that is done.
use Rattle.std.proofs.Common.{◌≡◌, ℕ, ◌+◌, ◌<◌, List, [], ◌∷◌, ◌++◌, length, get_or, take, drop, reverse}
use Rattle.std.proofs.Common.{sym, ◌∙◌, ap, append_assoc}
use Rattle.std.proofs.lemmas.List.{take_more, reverse-append, append-nil, take-append-drop}
use Rattle.std.proofs.lemmas.List.Concat.{flat_map-append}
use Rattle.match_script.specs.declared.types.BodyLine.{BodyLine}
use Rattle.match_script.specs.declared.types.Head.{Head}
use Rattle.match_laws.specs.Report.{line_text, told_lines, text_behind, report_so_far}

pub reverse_next : {X : Type 0} (xs : List X) (i : ℕ) (d : X) → i < length xs
    → reverse (take (i + 1) xs) ≡ get_or xs i d ∷ reverse (take i xs)
reverse_next xs i d lt = ap reverse (take_more xs i d lt) ∙ reverse-append (take i xs) (get_or xs i d ∷ [])

module _ (head : Head) where
  pub one_line_more : (past : List BodyLine) (line : BodyLine)
      → report_so_far head (line ∷ past) ≡ report_so_far head past ++ line_text head past line
  one_line_more past line =
      flat_map-append text_behind (told_lines head past) ((line, line_text head past line) ∷ [])
      ∙ ap (λ l. report_so_far head past ++ l) (append-nil (line_text head past line))

  -- what is told of the first lines stands in front of what is told of all
  pub in_front : (later past : List BodyLine)
      → (rest : List ℕ) × (report_so_far head (later ++ past) ≡ report_so_far head past ++ rest)
  in_front [] past = ([], sym (append-nil (report_so_far head past)))
  in_front (line ∷ later) past =
      let r = in_front later past in
      let text = line_text head (later ++ past) line in (
        r.0 ++ text,
        one_line_more (later ++ past) line ∙ ap (λ l. l ++ text) r.1 ∙ append_assoc (report_so_far head past) r.0 text,
      )

  -- the report of lines of which this one stands at place i
  pub split_at_line : (items : List BodyLine) (i : ℕ) (line : BodyLine) → i < length items → line ≡ get_or items i line
      → (rest : List ℕ)
      × (report_so_far head (reverse items)
      ≡ report_so_far head (reverse (take i items)) ++ (line_text head (reverse (take i items)) line ++ rest))
  split_at_line items i line lt is =
      let past : List BodyLine = reverse (take i items) in
      let later : List BodyLine = reverse (drop (i + 1) items) in
      let next : reverse (take (i + 1) items) ≡ line ∷ past = reverse_next items i line lt ∙ ap (λ x. x ∷ past) (sym is) in
      let parts : reverse items ≡ later ++ (line ∷ past) =
      ap reverse (sym (take-append-drop (i + 1) items)) ∙ reverse-append (take (i + 1) items) (drop (i + 1) items)
      ∙ ap (λ l. later ++ l) next in
      let r = in_front later (line ∷ past) in (
        r.0,
        ap (report_so_far head) parts ∙ r.1 ∙ ap (λ l. l ++ r.0) (one_line_more past line)
            ∙ append_assoc (report_so_far head past) (line_text head past line) r.0,
      )
