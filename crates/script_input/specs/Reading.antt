-- What a call took from its source: all bytes, where they are not too many; a text of at most 1,048,576 bytes that is a script; or why
-- there is none.
use Rattle.std.specs.Prelude.{ℕ, ◌≡◌, ◌+◌, ◌≤◌, List, length, Option, Result, Ok, Err}
use Rattle.script_input.specs.declared.limits.TheConstants.{MAX_SCRIPT_BYTES}
use Rattle.tn_outside.specs.Causes.{Rose}
use Rattle.tn_outside.specs.Totals.{Drained, GaveFront}
use Rattle.match_script.specs.Script.{Fault}
use Rattle.script_input.specs.declared.status.Status.{Status}
use Rattle.script_input.specs.declared.status.Status.TheVariants.{Done, Script, TooLong, ReadFault, NoMemory}

-- what is told of a source or a sink before a call and after it: its bytes, and how often it has failed
pub record Seen : Type 0 where
  pub old : Option (List ℕ)
  pub new : Option (List ℕ)
  pub faults : ℕ
  pub faults_after : ℕ

abbrev pub seen : Option (List ℕ) → Option (List ℕ) → ℕ → ℕ → Seen
seen old new faults faults_after = record { old = old; new = new; faults = faults; faults_after = faults_after }

abbrev pub HasFailed : Seen → Type 0
HasFailed s = Rose s.faults s.faults_after

abbrev pub IsSpared : Seen → Type 0
IsSpared s = s.faults_after ≡ s.faults

abbrev pub IsUntouched : Seen → Type 0
IsUntouched s = (s.new ≡ s.old) × IsSpared s

-- ---- reading

-- all that the source held were these bytes, and they are no more than that
pub record Gave (limit : ℕ) (old new : Option (List ℕ)) (bytes : List ℕ) : Type 0 where
  pub all : Drained old new bytes
  pub few : length bytes ≤ limit

-- what a text is read as: a script of some kind, or its first fault
abbrev pub Reading : Type 0 → Type 0
Reading S = List ℕ → Result S Fault

-- the source gave a whole text, which is read so
abbrev pub ReadAs : {S : Type 0} → Reading S → Option (List ℕ) → Option (List ℕ) → Result S Fault → Type 0
ReadAs reading old new read = (text : List ℕ) × Gave MAX_SCRIPT_BYTES old new text × (reading text ≡ read)

-- the source gave so many bytes, and keeps the rest
abbrev pub GaveBytes : ℕ → Option (List ℕ) → Option (List ℕ) → Type 0
GaveBytes n old new = (bytes : List ℕ) × (length bytes ≡ n) × GaveFront old new bytes

abbrev pub GaveAtMost : ℕ → Option (List ℕ) → Option (List ℕ) → Type 0
GaveAtMost n old new = (k : ℕ) × (k ≤ n) × GaveBytes k old new

-- why the bytes were not read to their end: the source failed, or it did not and they are too many, or more than memory holds
abbrev pub NotGave : ℕ → Seen → Status → Type 0
NotGave limit source TooLong = GaveBytes (limit + 1) source.old source.new × IsSpared source
NotGave limit source ReadFault = HasFailed source × GaveAtMost limit source.old source.new
NotGave limit source NoMemory = IsSpared source
NotGave limit source s = ⊥

-- why no script was read: no text was, or it is none
abbrev pub NotRead : {S : Type 0} → Reading S → Seen → Status → Type 0
NotRead reading source (Script line fault) = ReadAs reading source.old source.new (Err (line, fault)) × IsSpared source
NotRead reading source s = NotGave MAX_SCRIPT_BYTES source s

-- ---- which answer it is

-- the answer that a text asks for
abbrev pub answer_to : {S : Type 0} → Result S Fault → Status
answer_to (Ok script) = Done
answer_to (Err (line, fault)) = Script line fault
