-- What a script's lines tell, line by line.
use Rattle.std.proofs.Common.{◌≡◌, ℕ, ◌+◌, List, [], ◌∷◌, ◌++◌, reverse, sum_by, refl, sym, ap, ◌∙◌, arith}
use Rattle.std.proofs.lemmas.Grind.{flat_map-append}
use Rattle.std.proofs.lemmas.List.Sums.{sum_by-append}
use Rattle.std.specs.List.{flat_map}
use Rattle.match_script.specs.declared.types.BodyLine.{BodyLine}
use Rattle.match_script.specs.declared.types.Head.{Head}
use Rattle.match_report.specs.declared.told.Told.{Told}
use Rattle.match_report.specs.Text.{report_line}
use Rattle.match_engine.specs.match_laws.Report.{told_after, told_lines, text_behind, line_text, report_so_far, report}
use Rattle.match_count.specs.Counting.{tellings_so_far, tellings, TellingsAreReport, counts_of, with_line, data_in, pings_in, down_in, old_in, events_in, moves_in, bytes_in}

so_far : (head : Head) (past : List BodyLine) → flat_map report_line (tellings_so_far head past) ≡ report_so_far head past
so_far head [] = refl
so_far head (line ∷ past) =
    flat_map-append report_line (tellings_so_far head past) (told_after head past line ∷ [])
    ∙ ap (λ (text : List ℕ). text ++ flat_map report_line (told_after head past line ∷ [])) (so_far head past)
    ∙ sym (flat_map-append text_behind (told_lines head past) ((line, line_text head past line) ∷ []))

pub tellings_written : TellingsAreReport
unfolding tellings report
tellings_written s = so_far s.head (reverse s.body)

sum_next : (f : Told → ℕ) (told : List Told) (next : Told) → sum_by f (told ++ next ∷ []) ≡ sum_by f told + f next
sum_next f told next = omega (arith, sum_by-append f told (next ∷ []))

-- each count of one line more
pub one_line_counted : (told : List Told) (next : Told) → counts_of (told ++ next ∷ []) ≡ with_line (counts_of told) next
unfolding counts_of
one_line_counted told next =
    rw (
      sum_next data_in told next,
      sum_next pings_in told next,
      sum_next down_in told next,
      sum_next old_in told next,
      sum_next events_in told next,
      sum_next moves_in told next,
      sum_next bytes_in told next,
    )
    refl
