-- What was told once the script's next line was done.
use Rattle.std.proofs.Common.{◌≡◌, ◌∙◌, ℕ, ◌+◌, ◌<◌, ◌≤◌, List, ◌∷◌, length, get_or, reverse, take, Option, Some, None, sym, ap, subst, inl, inr, arith}
use Rattle.std.specs.Prelude.{slice_get}
use Rattle.std.proofs.lemmas.List.{take_all, length-reverse, length-take}
use Rattle.std.proofs.lemmas.Bool.{cases_lt}
use Rattle.std.proofs.lemmas.Option.{slice_get_within, slice_get-get_or, get_or_from_slice_get}
use Rattle.tn_outside.specs.Totals.{Adds, AddsFront}
use Rattle.tn_outside.proofs.Totals.{adds_then, front_more}
use Rattle.match_script.specs.declared.types.BodyLine.{BodyLine}
use Rattle.match_script.specs.declared.types.BodyLine.TheVariants as script
use Rattle.match_script.specs.declared.types.Script.{Script}
use Rattle.match_script.specs.Ranges.{HasRanges}
use Rattle.match_laws.proofs.Below.own_lists.Counting.{counted_few}
use Rattle.match_laws.specs.Report.{line_text, report_so_far, report}
use Rattle.match_engine.specs.Match.{MatchState, IsPlayed, last_told}
use Rattle.match_engine.proofs.Written.{reverse_next, one_line_more, split_at_line}

-- the line of a script at a place within it
at_place : (s : Script) (at : ℕ) → at < length s.body → (line : BodyLine) × (slice_get s.body at ≡ Some line)
at_place s at lt = (get_or s.body at script.World, slice_get-get_or s.body at script.World lt)

-- the lines that were done with the next one
one_more : (s : Script) (at : ℕ) (line : BodyLine) → slice_get s.body at ≡ Some line → reverse (take (at + 1) s.body) ≡ line ∷ reverse (take at s.body)
one_more s at line there =
    reverse_next s.body at line (slice_get_within s.body at line there)
    ∙ ap (λ (x : BodyLine). x ∷ reverse (take at s.body)) (get_or_from_slice_get s.body at line line there)

next_lines : (m n : MatchState) (line : BodyLine) → slice_get m.script.body m.place ≡ Some line → n.script ≡ m.script → n.place ≡ m.place + 1
    → reverse (take n.place n.script.body) ≡ line ∷ reverse (take m.place m.script.body)
next_lines m n line there script place =
    ap (λ (x : Script). reverse (take n.place x.body)) script ∙ ap (λ (k : ℕ). reverse (take k m.script.body)) place ∙ one_more m.script m.place line there

module _ (m n : MatchState) (more : length m.script.body ≤ m.place → ⊥) (same : n.script ≡ m.script) (place : n.place ≡ m.place + 1) (played : IsPlayed n) where
  -- there was a next line
  pub more_lines : m.place < length m.script.body
  more_lines = elim (cases_lt m.place (length m.script.body)) [
    | inl lt ↦ lt
    | inr past ↦ absurd (more past)
  ]

  -- it was told
  told_of : (line : BodyLine) → slice_get m.script.body m.place ≡ Some line → n.told ≡ last_told m.script.head (line ∷ reverse (take m.place m.script.body))
  told_of line there = played.told ∙ ap (λ (s : Script). last_told s.head (reverse (take n.place n.script.body))) same ∙ ap (last_told m.script.head) (next_lines m n line there same place)

  pub not_none : n.told ≡ None → ⊥
  not_none none =
      let l = at_place m.script m.place more_lines in
      let told = told_of l.0 l.1 in
      cc

-- the report grows by the line
pub told_more : (s : Script) (at : ℕ) (first old new : Option (List ℕ)) → at < length s.body → Adds first old (report_so_far s.head (reverse (take at s.body)))
    → ((line : BodyLine) → slice_get s.body at ≡ Some line → Adds old new (line_text s.head (reverse (take at s.body)) line))
    → Adds first new (report_so_far s.head (reverse (take (at + 1) s.body)))
told_more s at first old new lt so_far tells =
    let l = at_place s at lt in
    let past : List BodyLine = reverse (take at s.body) in
    adds_then first old new (report_so_far s.head past) (line_text s.head past l.0) _ so_far (tells l.0 l.1)
    (ap (report_so_far s.head) (one_more s at l.0 l.1) ∙ one_line_more s.head past l.0)

-- a front of the line leaves a front of the report
pub told_front : (s : Script) (at : ℕ) (first old new : Option (List ℕ)) → at < length s.body → Adds first old (report_so_far s.head (reverse (take at s.body)))
    → ((line : BodyLine) → slice_get s.body at ≡ Some line → AddsFront old new (line_text s.head (reverse (take at s.body)) line))
    → AddsFront first new (report s)
unfolding report
told_front s at first old new lt so_far tells =
    let l = at_place s at lt in
    let past : List BodyLine = reverse (take at s.body) in
    let whole = split_at_line s.head s.body at l.0 lt (sym (get_or_from_slice_get s.body at l.0 l.0 l.1)) in
    front_more first old new (report_so_far s.head past) (line_text s.head past l.0) whole.0 _ so_far (tells l.0 l.1) whole.1

-- after all lines it is whole
pub told_all : (s : Script) (at : ℕ) (first new : Option (List ℕ)) → length s.body ≤ at → Adds first new (report_so_far s.head (reverse (take at s.body))) → Adds first new (report s)
unfolding report
told_all s at first new past so_far =
    subst (λ (b : List BodyLine). Adds first new (report_so_far s.head (reverse b))) (take_all at s.body past) so_far

-- of a script's own lines there are never too many
pub few_done : (m : MatchState) → IsPlayed m → HasRanges m.script → m.game.done < 4000000
few_done m played ranges =
    let front = take m.place m.script.body in
    omega (arith, played.game.counted, counted_few (reverse front), length-reverse front, length-take m.place m.script.body, ranges.few)
