-- A call whose script was read ends as its run does; one whose script was not has the cause of that for its own.
use Rattle.std.proofs.Common.{ℕ, ◌≡◌, ◌+◌, ◌≤◌, ◌⊎◌, inl, inr, List, Option, Some, None, Result, Ok, Err, OnOk, OnErr, refl, sym, ap, subst, arith}
use Rattle.script_input.specs.declared.limits.TheConstants.{MAX_SCRIPT_BYTES}
use Rattle.tn_outside.specs.Causes.{Rose, HandsOn}
use Rattle.tn_outside.specs.Totals.{Adds, AddsFront}
use Rattle.tn_outside.specs.declared.failed.RunFault.{RunFault}
use Rattle.tn_outside.specs.declared.failed.RunFault.TheVariants as fault
use Rattle.tn_outside.proofs.Totals.{whole_front}
use Rattle.script_input.specs.declared.status.Status.{Status}
use Rattle.script_input.specs.declared.status.Status.TheVariants.{Done, Usage, Script, TooLong, ReadFault, WriteFault, NoMemory, LinkFault, ClockFault, Demo}
use Rattle.match_script.specs.declared.types.ScriptFault.{ScriptFault}
use Rattle.script_input.specs.Reading.{Seen, seen, Reading, ReadAs, NotRead, NotGave, GaveAtMost, IsSpared, IsUntouched, answer_to}
use Rattle.script_input.specs.Outcome.{Row, of_script, Adding, Takes, TakesFew, Writes, Refused, Cause, Outcome, Serves, EndsBehind}
use Rattle.script_input.proofs.Exact.{serves}

-- a fault that comes later in a call is one of the call
pub rose_later : (a b n : ℕ) → a ≤ b → Rose b n → Rose a n
rose_later a b n le rose = omega arith

pub on_ok : {T E P : Type 0} (r : Result T E) (x : T) → r ≡ Ok x → OnOk r P → P
on_ok {T} {E} {P} r x e h = subst (λ (y : Result T E). OnOk y P) e h

pub on_err : {T E P : Type 0} (r : Result T E) (x : E) → r ≡ Err x → OnErr r P → P
on_err {T} {E} {P} r x e h = subst (λ (y : Result T E). OnErr y P) e h

-- ---- the ends of a run

-- what is so of each end of a run is so of the answer behind it
module _ (P : Status → Type 0) (f f1 f2 : ℕ) where
  -- what the run gathered was handed on, or was not
  behind_end : (s : Status) → f1 ≡ f → EndsBehind (Ok tt) f1 f2 s → (f2 ≡ f → P Done) → (f ≤ f2 → Rose f f2 → P WriteFault) → P s
  behind_end Done kept e done failed = done (omega (arith, kept, e))
  behind_end (Usage place) kept e done failed = absurd e
  behind_end (Script line fault) kept e done failed = absurd e
  behind_end TooLong kept e done failed = absurd e
  behind_end ReadFault kept e done failed = absurd e
  behind_end WriteFault kept e done failed = failed (omega (arith, kept, e.0)) (rose_later f f1 f2 (omega (arith, kept)) e.1)
  behind_end NoMemory kept e done failed = absurd e
  behind_end LinkFault kept e done failed = absurd e
  behind_end ClockFault kept e done failed = absurd e
  behind_end (Demo place) kept e done failed = absurd e

  pub by_end : (ran : Result (Unit {0}) RunFault) (s : Status) → HandsOn f f1 (ran ≡ Err fault.WriteFault) → EndsBehind ran f1 f2 s
      → (ran ≡ Ok tt → (f2 ≡ f → P Done) × (f ≤ f2 → Rose f f2 → P WriteFault))
      → (ran ≡ Err fault.WriteFault → f ≤ f2 → Rose f f2 → P WriteFault)
      → (ran ≡ Err fault.NoMemory → f2 ≡ f → P NoMemory)
      → P s
  by_end (Ok u) s cause e whole front memory = let ends = whole refl in behind_end s (cause.spared (λ h. cc h)) e ends.0 ends.1
  by_end (Err fault.WriteFault) s cause e whole front memory =
      let rose = cause.failed refl in subst P (sym e.0) (front refl (omega (arith, cause.later, e.1)) (omega (arith, rose, e.1)))
  by_end (Err fault.NoMemory) s cause e whole front memory =
      let kept = cause.spared (λ h. cc h) in subst P (sym e.0) (memory refl (omega (arith, kept, e.1)))

-- behind `Done` the run came to its end
pub done_ran : (ran : Result (Unit {0}) RunFault) (f1 f2 : ℕ) → EndsBehind ran f1 f2 Done → ran ≡ Ok tt
done_ran (Ok u) f1 f2 e = refl
done_ran (Err fault.WriteFault) f1 f2 e = absurd (let no = e.0 in cc)
done_ran (Err fault.NoMemory) f1 f2 e = absurd (let no = e.0 in cc)

-- ---- a command and its input

-- a run that wrote this text, or a front of it
module _ (row : Row) (input text : List ℕ) (is : row.makes input text) (w w1 : Option (List ℕ)) where
  pub one_whole : (ran : Result (Unit {0}) RunFault) → OnOk ran (Adds w w1 text) → OnOk ran (Writes row Adds input w w1)
  one_whole (Ok u) adds = (text, is, adds)
  one_whole (Err why) adds = tt

  pub one_front : (ran : Result (Unit {0}) RunFault) → OnErr ran (AddsFront w w1 text) → OnErr ran (Writes row AddsFront input w w1)
  one_front (Ok u) front = tt
  one_front (Err why) front = (text, is, front)

-- what was added, or nothing
abbrev pub Perhaps : Row → List ℕ → Option (List ℕ) → Option (List ℕ) → Type 0
Perhaps row input w w' = (w' ≡ w) ⊎ Writes row AddsFront input w w'

module _ (row : Row) (source : Seen) (few : TakesFew row.limit source) where
  -- the input was taken, and asks for a text; and what the sink was told to be before the run, after it, and after the call
  module _ (input : List ℕ) (takes : Takes row.limit source input) (asks : row.asked input ≡ Done) (spared : IsSpared source)
      (w w1 w2 : Option (List ℕ)) (same : w2 ≡ w1) (f f1 f2 : ℕ) where
    abbrev Ended : Status → Type 0
    Ended s = Serves row source (seen w w2 f f2) s

    ends : (s : Status) → Outcome row source (seen w w2 f f2) s → Ended s
    ends s o = serves row source (seen w w2 f f2) s o

    reads : source.faults ≤ source.faults_after
    reads = omega (arith, spared)

    -- as the run left the sink, handing on leaves it
    here : (P : Option (List ℕ) → Type 0) → P w1 → P w2
    here P h = subst P (sym same) h

    front_of : Writes row Adds input w w2 → Writes row AddsFront input w w2
    front_of (text, is, adds) = (text, is, whole_front w w2 text adds)

    done : Writes row Adds input w w2 → f2 ≡ f → Ended Done
    done whole kept = ends Done (record { answer = (spared, kept, (input, takes, asks, whole)); taken = few; written = inr (input, takes, asks, front_of whole); reads = reads; writes = omega (arith, kept) })

    write_fault : Writes row AddsFront input w w2 → f ≤ f2 → Rose f f2 → Ended WriteFault
    write_fault front later rose = ends WriteFault (record { answer = (spared, rose, (input, takes, asks, front)); taken = few; written = inr (input, takes, asks, front); reads = reads; writes = later })

    no_memory : Perhaps row input w w2 → f2 ≡ f → Ended NoMemory
    no_memory (inl still) kept = ends NoMemory (record { answer = (spared, kept); taken = few; written = inl still; reads = reads; writes = omega (arith, kept) })
    no_memory (inr front) kept = ends NoMemory (record { answer = (spared, kept); taken = few; written = inr (input, takes, asks, front); reads = reads; writes = omega (arith, kept) })

    -- a run that wrote a text; or a front of one, and failed; or perhaps nothing, for want of memory
    pub ended : (ran : Result (Unit {0}) RunFault) (s : Status) → OnOk ran (Writes row Adds input w w1)
        → (ran ≡ Err fault.WriteFault → Writes row AddsFront input w w1)
        → (ran ≡ Err fault.NoMemory → Perhaps row input w w1)
        → HandsOn f f1 (ran ≡ Err fault.WriteFault) → EndsBehind ran f1 f2 s → Ended s
    ended ran s whole front memory cause e = by_end Ended f f1 f2 ran s cause e
        (λ ok. let there = here (λ x. Writes row Adds input w x) (on_ok ran tt ok whole) in (done there, write_fault (front_of there)))
        (λ failed. write_fault (here (λ x. Writes row AddsFront input w x) (front failed)))
        (λ none. no_memory (here (λ x. Perhaps row input w x) (memory none)))

    -- a run that wrote this text, or a front of it
    pub ended_with : (text : List ℕ) → row.makes input text → (ran : Result (Unit {0}) RunFault) (s : Status) → OnOk ran (Adds w w1 text)
        → OnErr ran (AddsFront w w1 text) → HandsOn f f1 (ran ≡ Err fault.WriteFault) → EndsBehind ran f1 f2 s → Ended s
    ended_with text is ran s whole front cause e = ended ran s (one_whole row input text is w w1 ran whole)
        (λ h. (text, is, on_err ran fault.WriteFault h front)) (λ h. inr (text, is, on_err ran fault.NoMemory h front)) cause e

  -- the input was not taken
  module _ (sink : Seen) (u : IsUntouched sink) (reads : source.faults ≤ source.faults_after) where
    abbrev NoInput : Status → Type 0
    NoInput s = Serves row source sink s

    none : (s : Status) → Cause row source sink s → NoInput s
    none s cause = serves row source sink s (record { answer = cause; taken = few; written = inl u.0; reads = reads; writes = omega (arith, u.1) })

    pub refused_script : (line : ℕ) (why : ScriptFault) → IsSpared source → Refused row source (Script line why) → NoInput (Script line why)
    refused_script line why spared refused = none (Script line why) (spared, u, refused)

    pub refused_demo : (place : ℕ) → IsSpared source → Refused row source (Demo place) → NoInput (Demo place)
    refused_demo place spared refused = none (Demo place) (spared, u, refused)

-- bytes within a limit were not taken
module _ (limit : ℕ) (asked : List ℕ → Status) (makes : List ℕ → List ℕ → Type 0) (source : Seen) (few : GaveAtMost (limit + 1) source.old source.new)
    (sink : Seen) (u : IsUntouched sink) (reads : source.faults ≤ source.faults_after) where
  abbrev row : Row
  row = record { limit = Some limit; asked = asked; makes = makes }

  none_taken : (s : Status) → NotGave limit source s → Cause row source sink s
  none_taken Done p = absurd p
  none_taken (Usage place) p = absurd p
  none_taken (Script line why) p = absurd p
  none_taken TooLong p = (p, u)
  none_taken ReadFault p = (p, u)
  none_taken WriteFault p = absurd p
  none_taken NoMemory p = (p, u.1)
  none_taken LinkFault p = absurd p
  none_taken ClockFault p = absurd p
  none_taken (Demo place) p = absurd p

  pub not_taken : (s : Status) → NotGave limit source s → Serves row source sink s
  not_taken s p = serves row source sink s (record { answer = none_taken s p; taken = few; written = inl u.0; reads = reads; writes = omega (arith, u.1) })

-- nothing is read, and there was no memory for what is made
pub not_made : (asked : List ℕ → Status) (makes : List ℕ → List ℕ → Type 0) (source sink : Seen) → IsUntouched source → IsUntouched sink
    → Serves (record { limit = None; asked = asked; makes = makes }) source sink NoMemory
not_made asked makes source sink still u =
    serves (record { limit = None; asked = asked; makes = makes }) source sink NoMemory
    (record { answer = (still.1, u.1); taken = still; written = inl u.0; reads = omega (arith, still.1); writes = omega (arith, u.1) })

-- ---- a command that reads a script

module _ {S : Type 0} (reading : Reading S) (fits : S → Type 0) (makes : S → List ℕ → Type 0) (source : Seen) (few : GaveAtMost (MAX_SCRIPT_BYTES + 1) source.old source.new) where
  abbrev script_row : Row
  script_row = of_script reading fits makes

  -- no script was read
  pub no_script : (sink : Seen) (s : Status) → NotRead reading source s → IsUntouched sink → source.faults ≤ source.faults_after → Serves script_row source sink s
  no_script sink (Script line why) p u later =
      refused_script script_row source few sink u later line why p.1 (p.0.0, p.0.1, ap answer_to p.0.2)
  no_script sink Done p u later = absurd p
  no_script sink (Usage place) p u later = absurd p
  no_script sink TooLong p u later = not_taken MAX_SCRIPT_BYTES script_row.asked script_row.makes source few sink u later TooLong p
  no_script sink ReadFault p u later = not_taken MAX_SCRIPT_BYTES script_row.asked script_row.makes source few sink u later ReadFault p
  no_script sink WriteFault p u later = absurd p
  no_script sink NoMemory p u later = not_taken MAX_SCRIPT_BYTES script_row.asked script_row.makes source few sink u later NoMemory p
  no_script sink LinkFault p u later = absurd p
  no_script sink ClockFault p u later = absurd p
  no_script sink (Demo place) p u later = absurd p

  -- a script was read
  module _ (script : S) (read : ReadAs reading source.old source.new (Ok script)) (fit : fits script) (spared : IsSpared source)
      (w w1 w2 : Option (List ℕ)) (same : w2 ≡ w1) (f f1 f2 : ℕ) where
    asks : script_row.asked read.0 ≡ Done
    asks = ap answer_to read.2

    abbrev ScriptEnded : Status → Type 0
    ScriptEnded s = Serves script_row source (seen w w2 f f2) s

    -- this text was written of it, or a front of it
    pub script_ended : (text : List ℕ) → makes script text → (ran : Result (Unit {0}) RunFault) (s : Status) → OnOk ran (Adds w w1 text)
        → OnErr ran (AddsFront w w1 text) → HandsOn f f1 (ran ≡ Err fault.WriteFault) → EndsBehind ran f1 f2 s → ScriptEnded s
    script_ended text is ran s whole front cause e =
        ended_with script_row source few read.0 read.1 asks spared w w1 w2 same f f1 f2 text (script, read.2, fit, is) ran s whole front cause e

    -- some text was
    abbrev Tells : Adding → Type 0
    Tells adds = (text : List ℕ) × makes script text × adds w w1 text

    of_it : (adds : Adding) → Tells adds → Writes script_row adds read.0 w w1
    of_it adds t = (t.0, (script, read.2, fit, t.1), t.2)

    whole_of : (ran : Result (Unit {0}) RunFault) → OnOk ran (Tells Adds) → OnOk ran (Writes script_row Adds read.0 w w1)
    whole_of (Ok v) t = of_it Adds t
    whole_of (Err why) t = tt

    pub script_ended_so : (ran : Result (Unit {0}) RunFault) (s : Status) → OnOk ran (Tells Adds) → (ran ≡ Err fault.WriteFault → Tells AddsFront)
        → (ran ≡ Err fault.NoMemory → w1 ≡ w) → HandsOn f f1 (ran ≡ Err fault.WriteFault) → EndsBehind ran f1 f2 s → ScriptEnded s
    script_ended_so ran s whole front nothing cause e =
        ended script_row source few read.0 read.1 asks spared w w1 w2 same f f1 f2 ran s (whole_of ran whole)
        (λ h. of_it AddsFront (front h)) (λ h. inl (nothing h)) cause e
