-- The numbers of a `show` line.
use Rattle.std.proofs.Common.{ℕ, List, length, take, sym, ap, ◌∙◌}
use Rattle.pair_core.specs.stream_manager.Client.{control_at}
use Rattle.pair_core.specs.History.{history}
use Rattle.pair_core.specs.Answers.{client_run, sampled_in, accepted_in}
use Rattle.match_script.specs.Text.{words_of}
use Rattle.own_lists.specs.Kept.{Kept, undrained}
use Rattle.own_lists.specs.Past.{client_terms}
use Rattle.match_laws.specs.client_seat.Told.{copies_told}
use Rattle.match_laws.specs.Laws.{first}
use Rattle.match_laws.specs.Values.{moment_of, kept_then}
use Rattle.match_laws.proofs.Applied.{taken}
use Rattle.report_laws.specs.Moves.{show_begins, PrintedCounts}
use Rattle.report_laws.proofs.Cutting.{words_are}
use Rattle.report_laws.proofs.Showing.{text_is}

pub printed_counts : PrintedCounts
printed_counts s c n text is =
    let t = client_terms s.head c in
    let k : Kept = kept_then (moment_of s c n) in
    let events = client_run t k.course.steps in
    let sampled = length (sampled_in t k.course.steps) in
    let accepted = length (accepted_in t k.course.steps) in
    ap (λ (l : List ℕ). take 10 (words_of l)) (text_is s c n text is)
    ∙ ap (take 10) (words_are c events sampled accepted k.course.taken (control_at (history t k.course.steps).client)
    (copies_told t k.course.steps (undrained k)))
    ∙ ap (show_begins c events sampled accepted) (sym (taken s.head c (first n s)).count)
