-- How a call of a command ends that writes what it makes of its input, in one form for all commands: what each answer says of the source
-- and of the sink, and which answer it is.
use Rattle.std.specs.Prelude.{ℕ, ◌≡◌, ◌+◌, ◌≤◌, ◌⊎◌, List, [], length, Option, Some, None, Result, Ok, Err, Bool, true, false, nat_le}
use Rattle.script_input.specs.declared.limits.TheConstants.{MAX_SCRIPT_BYTES}
use Rattle.tn_outside.specs.Causes.{Rose}
use Rattle.tn_outside.specs.Totals.{Adds, AddsFront}
use Rattle.tn_outside.specs.declared.failed.RunFault.{RunFault}
use Rattle.tn_outside.specs.declared.failed.RunFault.TheVariants as fault
use Rattle.script_input.specs.declared.status.Status.{Status}
use Rattle.script_input.specs.declared.status.Status.TheVariants.{Done, Script, TooLong, ReadFault, WriteFault, NoMemory, Demo}
use Rattle.script_input.specs.Reading.{Seen, IsUntouched, IsSpared, HasFailed, Reading, Gave, NotGave, GaveAtMost, answer_to}

-- ---- after a run

abbrev pub status_of : RunFault → Status
status_of fault.NoMemory = NoMemory
status_of fault.WriteFault = WriteFault

-- the answer after a run, with the sink's count of faults before what was gathered is handed on and after it: nothing is handed on
-- after a run that came to no end
abbrev pub EndsBehind : Result (Unit {0}) RunFault → ℕ → ℕ → Status → Type 0
EndsBehind (Ok u) before now Done = now ≡ before
EndsBehind (Ok u) before now WriteFault = (before ≤ now) × Rose before now
EndsBehind (Ok u) before now s = ⊥
EndsBehind (Err why) before now s = (s ≡ status_of why) × (now ≡ before)

-- ---- a command

-- what a command makes of its input: how many bytes it reads at most, if it reads at all; the answer that an input asks for, which is
-- `Done` or why the command makes no text of it; and the texts of which it writes one
pub record Row : Type 1 where
  pub limit : Option ℕ
  pub asked : List ℕ → Status
  pub makes : List ℕ → List ℕ → Type 0

-- a command that reads a script of some kind: what it writes of a script in its ranges
abbrev pub of_script : {S : Type 0} → Reading S → (fits : S → Type 0) → (makes : S → List ℕ → Type 0) → Row
of_script {S} reading fits makes = record {
  limit = Some MAX_SCRIPT_BYTES;
  asked = λ input. answer_to (reading input);
  makes = λ input text. (script : S) × (reading input ≡ Ok script) × fits script × makes script text;
}

-- what was added to a sink: a text, or a front of it
abbrev pub Adding : Type 1
Adding = Option (List ℕ) → Option (List ℕ) → List ℕ → Type 0

-- ---- reading

-- the command's input: all that the source held, within its limit; nothing where it reads nothing
abbrev pub Takes : Option ℕ → Seen → List ℕ → Type 0
Takes (Some limit) source input = Gave limit source.old source.new input
Takes None source input = IsUntouched source × (input ≡ [])

-- why the command has no input: it was not read to its end; where nothing is read, memory was not to be had
abbrev pub TakesNone : Option ℕ → Seen → Status → Type 0
TakesNone (Some limit) source s = NotGave limit source s
TakesNone None source s = (s ≡ NoMemory) × IsUntouched source

-- one byte past the limit tells that an input is too long, and no further byte is taken
abbrev pub TakesFew : Option ℕ → Seen → Type 0
TakesFew (Some limit) source = GaveAtMost (limit + 1) source.old source.new
TakesFew None source = IsUntouched source

-- ---- the whole call

-- a text of the command for an input was added
abbrev pub Writes : Row → Adding → List ℕ → Option (List ℕ) → Option (List ℕ) → Type 0
Writes row adds input old new = (text : List ℕ) × row.makes input text × adds old new text

-- the command's input was taken, and a text for it was added to the sink: all of it, or a front
abbrev pub Wrote : Adding → Row → Seen → Seen → Type 0
Wrote adds row source sink =
    (input : List ℕ) × Takes row.limit source input × (row.asked input ≡ Done) × Writes row adds input sink.old sink.new

-- the command's input was taken, and asks for this answer, so that no text was made
abbrev pub Refused : Row → Seen → Status → Type 0
Refused row source s = (input : List ℕ) × Takes row.limit source input × (row.asked input ≡ s)

-- the cause of an answer: a fault is answered exactly where that count of faults rose
abbrev pub Cause : Row → Seen → Seen → Status → Type 0
Cause row source sink Done = IsSpared source × IsSpared sink × Wrote Adds row source sink
Cause row source sink WriteFault = IsSpared source × HasFailed sink × Wrote AddsFront row source sink
Cause row source sink NoMemory = IsSpared source × IsSpared sink
Cause row source sink (Script line why) = IsSpared source × IsUntouched sink × Refused row source (Script line why)
Cause row source sink (Demo place) = IsSpared source × IsUntouched sink × Refused row source (Demo place)
Cause row source sink s = TakesNone row.limit source s × IsUntouched sink

pub record Outcome (row : Row) (source sink : Seen) (s : Status) : Type 0 where
  pub answer : Cause row source sink s
  pub taken : TakesFew row.limit source
  -- whatever the answer, nothing was written, or a front of a text of the command for its input
  pub written : (sink.new ≡ sink.old) ⊎ Wrote AddsFront row source sink
  -- no count of faults fell
  pub reads : source.faults ≤ source.faults_after
  pub writes : sink.faults ≤ sink.faults_after

-- ---- which answer it is

-- the answer that an input asks for, if the command reads one of so few bytes
abbrev pub asked_within : (short : Bool) → Status → Status
asked_within true s = s
asked_within false s = TooLong

abbrev pub wanted_of : Option ℕ → (List ℕ → Status) → List ℕ → Status
wanted_of (Some limit) asked input = asked_within (nat_le (length input) limit) (asked input)
wanted_of None asked input = asked []

abbrev pub wanted : Row → List ℕ → Status
wanted row input = wanted_of row.limit row.asked input

-- the command reads its source
abbrev pub Reads : Option ℕ → Type 0
Reads (Some limit) = Unit {0}
Reads None = ⊥

-- the wanted answer, or that of a fault of the outside or of want of memory, which came before it; a source is asked only where the
-- command reads one
abbrev pub IsWanted : Row → List ℕ → Seen → Seen → Status → Type 0
IsWanted row input source sink ReadFault = Reads row.limit × HasFailed source
IsWanted row input source sink WriteFault = (wanted row input ≡ Done) × HasFailed sink
IsWanted row input source sink NoMemory = Unit {0}
IsWanted row input source sink s = s ≡ wanted row input

-- what the source tells is an input of which the command makes a text, where the command reads
abbrev pub TellsInput : Option ℕ → (List ℕ → Status) → Option (List ℕ) → Type 0
TellsInput (Some limit) asked held = (input : List ℕ) × (held ≡ Some input) × (length input ≤ limit) × (asked input ≡ Done)
TellsInput None asked held = asked [] ≡ Done

abbrev pub CanBeDone : Row → Option (List ℕ) → Type 0
CanBeDone row held = TellsInput row.limit row.asked held

-- ---- the whole of it

pub record Serves (row : Row) (source sink : Seen) (s : Status) : Type 0 where
  -- what each answer says of the source and of the sink, and what holds after every answer
  pub outcome : Outcome row source sink s
  -- the answer is the one that the input asks for, where nothing fails and memory is there
  pub exact : (input : List ℕ) → source.old ≡ Some input → IsWanted row input source sink s
  -- an input of which the command makes a text, and no fault: the whole text, or no memory for it
  pub complete : CanBeDone row source.old → (HasFailed source → ⊥) → (HasFailed sink → ⊥) → (s ≡ Done) ⊎ (s ≡ NoMemory)
