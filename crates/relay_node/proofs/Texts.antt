-- What is written of a relay's report, line by line of the relay.
use Rattle.std.proofs.Common.{◌≡◌, ◌∙◌, ℕ, ◌+◌, ◌<◌, ◌≤◌, List, [], ◌∷◌, ◌++◌, length, get_or, take, drop, reverse, Option, refl, sym, ap, subst, append_assoc}
use Rattle.std.proofs.lemmas.List.{append-nil, take_all, reverse-append, take-append-drop}
use Rattle.tn_outside.specs.Totals.{Adds, AddsFront}
use Rattle.tn_outside.proofs.Totals.{adds_then, front_more, front_longer, whole_front}
use Rattle.relay_report.proofs.Below.match_engine.Written.{reverse_next}
use Rattle.relay_script.specs.declared.types.PlacedLine.{PlacedLine}
use Rattle.relay_script.specs.declared.types.RelayScript.{RelayScript}
use Rattle.relay_report.specs.Met.{past_of}
use Rattle.relay_report.specs.Report.{line_text, report_so_far, relay_report}

module _ (r : RelayScript) where
  abbrev text_of : List PlacedLine → PlacedLine → List ℕ
  text_of earlier placed = line_text r.script.head r.client (past_of r.script.body placed.behind earlier) placed.line

  -- what is written for the first lines stands in front of what is written for all
  in_front : (later earlier : List PlacedLine) → (rest : List ℕ) × (report_so_far r (later ++ earlier) ≡ report_so_far r earlier ++ rest)
  in_front [] earlier = ([], sym (append-nil (report_so_far r earlier)))
  in_front (placed ∷ later) earlier =
      let more = in_front later earlier in
      let text = text_of (later ++ earlier) placed in
      (more.0 ++ text, ap (λ (t : List ℕ). t ++ text) more.1 ∙ append_assoc (report_so_far r earlier) more.0 text)

  module _ (lines : List PlacedLine) (i : ℕ) (placed : PlacedLine) (lt : i < length lines) (is : placed ≡ get_or lines i placed) where
    abbrev earlier : List PlacedLine
    earlier = reverse (take i lines)

    pub next_is : reverse (take (i + 1) lines) ≡ placed ∷ earlier
    next_is = reverse_next lines i placed lt ∙ ap (λ (l : PlacedLine). l ∷ earlier) (sym is)

    split_at : reverse lines ≡ reverse (drop (i + 1) lines) ++ (placed ∷ earlier)
    split_at =
        ap reverse (sym (take-append-drop (i + 1) lines)) ∙ reverse-append (take (i + 1) lines) (drop (i + 1) lines)
        ∙ ap (λ (l : List PlacedLine). reverse (drop (i + 1) lines) ++ l) next_is

    pub more_written : (first old new : Option (List ℕ)) → Adds first old (report_so_far r earlier) → Adds old new (text_of earlier placed)
        → Adds first new (report_so_far r (reverse (take (i + 1) lines)))
    more_written first old new so_far adds =
        adds_then first old new (report_so_far r earlier) (text_of earlier placed) _ so_far adds (ap (report_so_far r) next_is)

    -- of a line a front was written
    pub front_written : (first old new : Option (List ℕ)) → Adds first old (report_so_far r earlier) → AddsFront old new (text_of earlier placed)
        → AddsFront first new (report_so_far r (reverse lines))
    front_written first old new so_far adds =
        let text = text_of earlier placed in
        let so = report_so_far r earlier in
        let rest = in_front (reverse (drop (i + 1) lines)) (placed ∷ earlier) in
        front_more first old new so text rest.0 _ so_far adds (ap (report_so_far r) split_at ∙ rest.1 ∙ append_assoc so text rest.0)

  -- all lines were done
  pub all_written : (lines : List PlacedLine) (i : ℕ) (first new : Option (List ℕ)) → length lines ≤ i
      → Adds first new (report_so_far r (reverse (take i lines))) → Adds first new (report_so_far r (reverse lines))
  all_written lines i first new past so_far =
      subst (λ (l : List PlacedLine). Adds first new (report_so_far r (reverse l))) (take_all i lines past) so_far

  -- what was written so far is a front of all
  pub so_far_front : (lines : List PlacedLine) (i : ℕ) (first old : Option (List ℕ)) → Adds first old (report_so_far r (reverse (take i lines)))
      → AddsFront first old (report_so_far r (reverse lines))
  so_far_front lines i first old adds =
      let so = report_so_far r (reverse (take i lines)) in
      let split : reverse lines ≡ reverse (drop i lines) ++ reverse (take i lines) =
      ap reverse (sym (take-append-drop i lines)) ∙ reverse-append (take i lines) (drop i lines) in
      let rest = in_front (reverse (drop i lines)) (reverse (take i lines)) in
      front_longer first old so rest.0 (report_so_far r (reverse lines)) (whole_front first old so adds) (ap (report_so_far r) split ∙ rest.1)

  pub whole : report_so_far r (reverse r.lines) ≡ relay_report r
  unfolding relay_report
  whole = refl
