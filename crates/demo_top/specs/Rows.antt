-- The commands on demos: `demo C` reads a script, and writes the demo of client C; `replay` and `replay K` read a demo, and tell it.
use Rattle.std.specs.Prelude.{ℕ, ◌≡◌, List, Option, Some, None, Result, Ok, Err}
use Rattle.match_script.specs.Script.{script_of}
use Rattle.match_script.specs.Ranges.{HasRanges}
use Rattle.script_input.specs.declared.status.Status.{Status}
use Rattle.script_input.specs.declared.status.Status.TheVariants.{Done, Demo as NoDemo}
use Rattle.script_input.specs.Outcome.{Row, of_script}
use Rattle.demo_format.specs.declared.head.DemoHead.{DemoHead}
use Rattle.demo_format.specs.declared.head.TheConstants.{MAX_DEMO_BYTES}
use Rattle.demo_format.specs.Head.{read_head}
use Rattle.demo_format.specs.Records.{body_of}
use Rattle.demo_record.specs.Recording.{demo_text}
use Rattle.demo_replay.specs.Replaying.{replay_of, replay_at_of}

-- `demo C`: the demo of a client of a script's match
abbrev pub recording : (client : ℕ) → Row
recording client = of_script script_of HasRanges (λ script text. text ≡ demo_text script client)

-- bytes with a head are a demo; of other ones the place of the first part is told that is missing or out of its range
abbrev pub answer_to : Result DemoHead ℕ → Status
answer_to (Ok head) = Done
answer_to (Err place) = NoDemo place

-- a command that reads a demo: what it tells of a head and of the bytes after it
abbrev pub of_demo : (told : DemoHead → List ℕ → List ℕ) → Row
of_demo told = record {
  limit = Some MAX_DEMO_BYTES;
  asked = λ input. answer_to (read_head input);
  makes = λ input text. (head : DemoHead) × (read_head input ≡ Ok head) × (text ≡ told head (body_of input));
}

-- `replay` tells all records, `replay K` what is shown after so many
abbrev pub told_of : Option ℕ → DemoHead → List ℕ → List ℕ
told_of None head body = replay_of head body
told_of (Some count) head body = replay_at_of head body count

abbrev pub replaying : Option ℕ → Row
replaying count = of_demo (told_of count)
