-- Each end of `replay` has its outcome.
use Rattle.std.proofs.Common.{ℕ, ◌≡◌, ◌+◌, ◌≤◌, List, Option, Some, None, Result, Ok, Err, OnOk, inr, refl, ap, sym, subst, arith}
use Rattle.std.specs.Prelude.{◌↔◌}
use Rattle.tn_outside.specs.Causes.{Rose, HandsOn}
use Rattle.tn_outside.specs.Totals.{Adds, AddsFront}
use Rattle.tn_outside.specs.declared.failed.RunFault.{RunFault}
use Rattle.tn_outside.specs.declared.failed.RunFault.TheVariants as run
use Rattle.script_input.specs.declared.status.Status.{Status}
use Rattle.script_input.specs.declared.status.Status.TheVariants.{Done, WriteFault, NoMemory, Demo as NoDemo}
use Rattle.script_input.specs.Reading.{Seen, seen, Gave, GaveAtMost, NotGave, IsUntouched, IsSpared}
use Rattle.script_input.specs.Outcome.{Adding, Writes, Serves}
use Rattle.script_input.proofs.Outcome.{ended, not_taken, refused_demo}
use Rattle.demo_format.specs.Head.{head_in, head_or, head_fault, read_head}
use Rattle.demo_format.specs.Records.{body_of}
use Rattle.demo_replay.specs.declared.replaying.ReplayFault.{ReplayFault}
use Rattle.demo_replay.specs.declared.replaying.ReplayFault.TheVariants as fault
use Rattle.demo_replay.specs.declared.replaying.ReplayFault.TheVariants.{Head}
use Rattle.demo_top.specs.Rows.{answer_to, told_of, replaying}

-- ---- what is told of a demo, by its head

has-head : (bytes : List ℕ) → ((place : ℕ) → read_head bytes ≡ Err place → ⊥) → read_head bytes ≡ Ok (head_in bytes)
has-head bytes none = by_fault (head_fault bytes) refl
  where
    by_fault : (o : Option ℕ) → head_fault bytes ≡ o → read_head bytes ≡ Ok (head_in bytes)
    by_fault None e = ap (head_or bytes) e
    by_fault (Some place) e = absurd (none place (ap (head_or bytes) e))

-- an answer that refuses no head: the bytes have one
module _ {T : Type 0} (bytes : List ℕ) (r : Result T ReplayFault) (refused : (place : ℕ) → (r ≡ Err (Head place)) ↔ (read_head bytes ≡ Err place)) where
  pub write-failed : r ≡ Err fault.WriteFault → read_head bytes ≡ Ok (head_in bytes)
  write-failed e = has-head bytes (λ place k. let h = (refused place).1 k in cc (e, h))

  pub memory-failed : r ≡ Err fault.NoMemory → read_head bytes ≡ Ok (head_in bytes)
  memory-failed e = has-head bytes (λ place k. let h = (refused place).1 k in cc (e, h))

-- ---- what was written

module _ (count : Option ℕ) (bytes : List ℕ) (w w' : Option (List ℕ)) where
  abbrev text : List ℕ
  text = told_of count (head_in bytes) (body_of bytes)

  pub writes : (adds : Adding) → read_head bytes ≡ Ok (head_in bytes) → adds w w' text → Writes (replaying count) adds bytes w w'
  writes adds read a = (text, (head_in bytes, read, refl), a)

  pub writes-all : (r : Result (Unit {0}) ReplayFault) → OnOk r (read_head bytes ≡ Ok (head_in bytes)) → OnOk r (Adds w w' text)
      → OnOk r (Writes (replaying count) Adds bytes w w')
  writes-all (Ok u) read a = writes Adds read a
  writes-all (Err why) read a = tt

  pub asks : (adds : Adding) → Writes (replaying count) adds bytes w w' → answer_to (read_head bytes) ≡ Done
  asks adds t = ap answer_to t.1.1

-- ---- the ends

-- a telling that came to its end
abbrev all-told : Result (Unit {0}) RunFault
all-told = Ok tt

-- the demo was read; and what the sink was told to be before the telling, after it, and after the call
module _ (count : Option ℕ) (source : Seen) (few : GaveAtMost 16777217 source.old source.new) (spared : IsSpared source)
    (bytes : List ℕ) (gave : Gave 16777216 source.old source.new bytes) (w w1 : Option (List ℕ)) (f f1 : ℕ) where
  abbrev Ended : Option (List ℕ) → ℕ → Status → Type 0
  Ended w2 f2 s = Serves (replaying count) source (seen w w2 f f2) s

  module _ (whole : Writes (replaying count) Adds bytes w w1) (w2 : Option (List ℕ)) (same : w2 ≡ w1) (f2 : ℕ) (kept : f1 ≡ f) where
    worked : HandsOn f f1 (all-told ≡ Err run.WriteFault)
    worked = record { later = omega (arith, kept); failed = λ h. absurd cc; spared = λ no. kept }

    pub told-done : f2 ≡ f1 → Ended w2 f2 Done
    told-done still = ended (replaying count) source few bytes gave (asks count bytes w w1 Adds whole) spared w w1 w2 same f f1 f2
        (Ok tt) Done whole (λ h. absurd cc) (λ h. absurd cc) worked still

    pub told-kept-back : f1 ≤ f2 → Rose f1 f2 → Ended w2 f2 WriteFault
    told-kept-back later rose = ended (replaying count) source few bytes gave (asks count bytes w w1 Adds whole) spared w w1 w2 same f f1 f2
        (Ok tt) WriteFault whole (λ h. absurd cc) (λ h. absurd cc) worked (later, rose)

  module _ (front : Writes (replaying count) AddsFront bytes w w1) where
    pub told-failed : f ≤ f1 → Rose f f1 → Ended w1 f1 WriteFault
    told-failed later rose = ended (replaying count) source few bytes gave (asks count bytes w w1 AddsFront front) spared w w1 w1 refl f f1 f1
        (Err run.WriteFault) WriteFault tt (λ h. front) (λ h. absurd cc) (record { later = later; failed = λ h. rose; spared = λ no. absurd (no refl) }) (refl, refl)

    pub told-short : f1 ≡ f → Ended w1 f1 NoMemory
    told-short kept = ended (replaying count) source few bytes gave (asks count bytes w w1 AddsFront front) spared w w1 w1 refl f f1 f1
        (Err run.NoMemory) NoMemory tt (λ h. absurd cc) (λ h. inr front) (record { later = omega (arith, kept); failed = λ h. absurd cc; spared = λ no. kept }) (refl, refl)

  pub told-refused : (place : ℕ) → read_head bytes ≡ Err place → w1 ≡ w → f1 ≡ f → Ended w1 f1 (NoDemo place)
  told-refused place e same kept =
      refused_demo (replaying count) source few (seen w w1 f f1) (same, kept) (omega (arith, spared)) place spared (bytes, gave, ap answer_to e)

-- no demo was read
pub told-not-read : (count : Option ℕ) (source : Seen) → GaveAtMost 16777217 source.old source.new → source.faults ≤ source.faults_after
    → (s : Status) → NotGave 16777216 source s → (w : Option (List ℕ)) (f : ℕ) → Serves (replaying count) source (seen w w f f) s
told-not-read count source few later s lacking w f =
    not_taken 16777216 (replaying count).asked (replaying count).makes source few (seen w w f f) (refl, refl) later s lacking
