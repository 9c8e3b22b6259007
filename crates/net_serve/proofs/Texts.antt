-- The text of a script that grows line by line.
use Rattle.std.proofs.Common.{◌≡◌, ◌∙◌, ℕ, List, [], ◌∷◌, ◌++◌, reverse, Option, sym, ap, append_assoc}
use Rattle.std.proofs.lemmas.List.{append-nil, reverse-append}
use Rattle.tn_outside.specs.Totals.{Adds, AddsFront}
use Rattle.tn_outside.proofs.Totals.{adds_then, front_more, front_longer, whole_front}
use Rattle.match_script.specs.declared.types.BodyLine.{BodyLine}
use Rattle.match_script.specs.declared.types.Head.{Head}
use Rattle.match_script.specs.Print.{text_of}
use Rattle.match_script.proofs.Joining.{grows_by_a_line}
use Rattle.net_serve.specs.Lines.{script_line, text_so_far}

pub text_more : (head : Head) (past : List BodyLine) (line : BodyLine) → text_so_far head (line ∷ past) ≡ text_so_far head past ++ script_line line
text_more head past line =
    ap (λ (xs : List BodyLine). text_of (record { head = head; body = xs })) (reverse-append (line ∷ []) past) ∙ grows_by_a_line head (reverse past) line

-- a text of further lines goes on behind it
pub text_grows : (head : Head) (more past : List BodyLine) → (rest : List ℕ) × (text_so_far head (more ++ past) ≡ text_so_far head past ++ rest)
text_grows head [] past = ([], sym (append-nil (text_so_far head past)))
text_grows head (line ∷ more) past =
    let r = text_grows head more past in (
      r.0 ++ script_line line,
      text_more head (more ++ past) line ∙ ap (λ (t : List ℕ). t ++ script_line line) r.1 ∙ append_assoc (text_so_far head past) r.0 (script_line line),
    )

-- ---- what was written

module _ (head : Head) (first : Option (List ℕ)) where
  -- a line was written
  pub wrote_line : (old new : Option (List ℕ)) (past : List BodyLine) (line : BodyLine) → Adds first old (text_so_far head past)
      → Adds old new (script_line line) → Adds first new (text_so_far head (line ∷ past))
  wrote_line old new past line before more =
      adds_then first old new (text_so_far head past) (script_line line) (text_so_far head (line ∷ past)) before more (text_more head past line)

  -- or a front of it
  pub wrote_front : (old new : Option (List ℕ)) (past : List BodyLine) (line : BodyLine) → Adds first old (text_so_far head past)
      → AddsFront old new (script_line line) → AddsFront first new (text_so_far head (line ∷ past))
  wrote_front old new past line before more =
      front_more first old new (text_so_far head past) (script_line line) [] (text_so_far head (line ∷ past)) before more
      (text_more head past line ∙ ap (λ (t : List ℕ). text_so_far head past ++ t) (sym (append-nil (script_line line))))

  -- a front stays one where further lines come
  pub front_grows : (now : Option (List ℕ)) (more past whole : List BodyLine) → whole ≡ more ++ past → AddsFront first now (text_so_far head past)
      → AddsFront first now (text_so_far head whole)
  front_grows now more past whole e f =
      let r = text_grows head more past in
      front_longer first now (text_so_far head past) r.0 (text_so_far head whole) f (ap (text_so_far head) e ∙ r.1)

  pub nothing_more : (now : Option (List ℕ)) (more past whole : List BodyLine) → whole ≡ more ++ past → Adds first now (text_so_far head past)
      → AddsFront first now (text_so_far head whole)
  nothing_more now more past whole e h = front_grows now more past whole e (whole_front first now (text_so_far head past) h)
