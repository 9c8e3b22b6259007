-- The commands over one match. `run` and `alone` read a script; `big` makes its own of its numbers, and reads nothing. Each writes the text
-- that it makes of its script.
use Rattle.std.specs.Prelude.{ℕ, ◌≡◌, ◌<◌, List, reverse, None}
use Rattle.std.specs.List.{flat_map}
use Rattle.match_script.specs.Script.{script_of}
use Rattle.match_script.specs.Ranges.{HasRanges}
use Rattle.match_script.specs.declared.types.Script.{Script}
use Rattle.match_count.specs.match_laws.Laws.{packs_in}
use Rattle.match_count.specs.match_laws.Promises.{MatchLaws}
use Rattle.match_count.specs.match_laws.Report.{report, told_lines, text_behind}
use Rattle.report_laws.specs.Promises.{ReportLaws}
use Rattle.two_worlds.specs.Text.{alone_text}
use Rattle.script_maker.specs.Made.{made}
use Rattle.match_count.specs.Counting.{counts_of, tellings}
use Rattle.match_count.specs.Summary.{summary_text}
use Rattle.script_input.specs.declared.status.Status.TheVariants.{Done}
use Rattle.script_input.specs.Outcome.{Row, of_script}

-- `run`: a script's report
abbrev pub reporting : Row
reporting = of_script script_of HasRanges (λ script text. text ≡ report script)

-- `alone C`: what a server writes for its packs that serves client C alone
abbrev pub serving_alone : (client : ℕ) → Row
serving_alone client = of_script script_of HasRanges (λ script text. text ≡ alone_text script client)

-- `big`: what the report of the made script has is counted
abbrev pub counting : (seed clients steps : ℕ) → Row
counting seed clients steps = record {
  limit = None;
  asked = λ input. Done;
  makes = λ input text. HasRanges (made seed clients steps) × (text ≡ summary_text seed clients steps (counts_of (tellings (made seed clients steps))));
}

-- what `alone C` writes is what the report of `run` has of the `pack C` lines
abbrev pub AloneIsOfRun : Type 0
AloneIsOfRun = (script : Script) (client : ℕ) → client < script.head.clients
    → let lines = told_lines script.head (reverse script.body) in
    (report script ≡ flat_map text_behind lines) × (alone_text script client ≡ flat_map (λ line. line) (packs_in client lines))

-- what the commands keep
pub record CommandLaws : Type 0 where
  -- what the report and the journals of every match keep: isolation, what is delivered, accepted, shown, settled, printed
  pub matches : MatchLaws
  -- what the words of a report's `show` lines say of shown fields and of moves, and which fields are settled, by looking back
  pub reports : ReportLaws
  -- `alone` writes the datagrams that the report has of its client
  pub alone : AloneIsOfRun
