-- What is answered, and what is refused.
use Rattle.std.proofs.Common.{◌≡◌, ℕ, ◌+◌, get_or, ◌*◌, ◌<◌, ◌≤◌, Bool, true, false, cond, ◌||◌, ◌==◌, List, length, take, Option, Some, None, Ok, Err, refl, ap, sym, ◌∙◌, arith}
use Rattle.std.specs.Prelude.{ℤ, nat_lt, slice_get, unwrap_or}
use Rattle.std.specs.Option.{option_and_then}
use Rattle.std.proofs.lemmas.Bool.{le-leb, lt-leb}
use Rattle.std.proofs.lemmas.Bool.Decides.{nat_tests}
use Rattle.std.proofs.lemmas.Option.{slice_get-get_or, slice_get_past}
use Rattle.tn_types.specs.Checks.{Checked, then_check}
use Rattle.timeline.specs.declared.refusal.Refusal.{Refusal}
use Rattle.timeline.specs.declared.refusal.Refusal.TheVariants.{NoSlot, NoField, NoKind, NoPacket, GoesBack}
use Rattle.timeline.specs.declared.between.Interpolation.{Interpolation}
use Rattle.timeline.specs.declared.between.Interpolation.TheVariants.{Stepped}
use Rattle.timeline.specs.Keeping.{Kept, kept_of, value_in}
use Rattle.timeline.specs.Telling.{Told, told_of, kind_of, frames_of}
use Rattle.timeline.specs.Standing.{SlotKept, Drawing, StandsFor, way_of, kind_shown, kind_told, value_told, slot_check, field_check, packet_check, kind_check}

-- ---- refusals

pub slot_bad : (t : Drawing) (slot : ℕ) → length t.slots ≤ slot → slot_check t slot ≡ Err NoSlot
slot_bad t slot h = let e = le-leb (length t.slots) slot h in rw e refl

pub slot_good : (t : Drawing) (slot : ℕ) → slot < length t.slots → slot_check t slot ≡ Ok tt
slot_good t slot h = let e = lt-leb (length t.slots) slot h in rw e refl

pub field_bad : (t : Drawing) (field : ℕ) → t.fields ≤ field → field_check t field ≡ Err NoField
field_bad t field h = let e = le-leb t.fields field h in rw e refl

pub field_good : (t : Drawing) (field : ℕ) → field < t.fields → field_check t field ≡ Ok tt
field_good t field h = let e = lt-leb t.fields field h in rw e refl

pub kind_bad : (t : Drawing) (kind : ℕ) → length t.ways ≤ kind * t.fields → kind_check t kind ≡ Err NoKind
kind_bad t kind h = let e = le-leb (length t.ways) (kind * t.fields) h in rw e refl

pub kind_good : (t : Drawing) (kind : ℕ) → kind * t.fields < length t.ways → kind_check t kind ≡ Ok tt
kind_good t kind h = let e = lt-leb (length t.ways) (kind * t.fields) h in rw e refl

-- a slot that is none; a packet that is none, or goes back
pub no_slot : (t : Drawing) (slot : ℕ) (next : Checked Refusal) → length t.slots ≤ slot → then_check (slot_check t slot) next ≡ Err NoSlot
no_slot t slot next h = ap (λ c. then_check c next) (slot_bad t slot h)

pub packet_answer : (t : Drawing) (slot packet : ℕ) → slot < length t.slots → then_check (slot_check t slot) (packet_check t packet) ≡ packet_check t packet
packet_answer t slot packet h = ap (λ c. then_check c (packet_check t packet)) (slot_good t slot h)

-- a packet that may tell is one
passed : (b : Bool) (e : Refusal) (rest : Checked Refusal) → cond b (Err e) rest ≡ Ok tt → b ≡ false
passed false e rest h = refl
passed true e rest h = absurd (cc)

pub is_packet : (t : Drawing) (packet : ℕ) → packet_check t packet ≡ Ok tt → packet ≤ 16777215
is_packet t packet h =
    let low : (packet == 0 || nat_lt 16777215 packet) ≡ false = passed (packet == 0 || nat_lt 16777215 packet) NoPacket (cond (nat_lt packet t.latest) (Err GoesBack) (Ok tt)) h in
    grind (arith, nat_tests)

-- one check after two others
pub three_pass : (a b c : Checked Refusal) (u : Unit {0}) → then_check a b ≡ Ok u → then_check a (then_check b c) ≡ c
three_pass (Ok v) (Ok w) c u e = refl
three_pass (Ok v) (Err r) c u e = absurd (cc)
three_pass (Err r) b c u e = absurd (cc)

pub two_refuse : (a b c : Checked Refusal) (r : Refusal) → then_check a b ≡ Err r → then_check a (then_check b c) ≡ Err r
two_refuse (Ok u) (Ok v) c r e = absurd (cc)
two_refuse (Ok u) (Err q) c r e = e
two_refuse (Err q) b c r e = e

pub both_good : (t : Drawing) (slot field : ℕ) → slot < length t.slots → field < t.fields → then_check (slot_check t slot) (field_check t field) ≡ Ok tt
both_good t slot field s f = ap (λ c. then_check c (field_check t field)) (slot_good t slot s) ∙ field_good t field f

-- how a field goes
pub way_here : (ways : List Interpolation) (fields kind field : ℕ) (way : Interpolation) → kind * fields + field < length ways → way ≡ get_or ways (kind * fields + field) way
    → way ≡ way_of ways fields kind field
way_here ways fields kind field way less is = sym (ap (λ o. unwrap_or o Stepped) (slice_get-get_or ways (kind * fields + field) way less ∙ ap Some (sym is)))

pub no_way : (ways : List Interpolation) (fields kind field : ℕ) → length ways ≤ kind * fields + field → Stepped ≡ way_of ways fields kind field
no_way ways fields kind field past = sym (ap (λ o. unwrap_or o Stepped) (slice_get_past ways (kind * fields + field) past))

-- ---- answers

told_same : (t : Drawing) (log : List Told) (slot at : ℕ) (x : SlotKept) → StandsFor t log → slice_get t.slots slot ≡ Some x
    → kind_told at (told_of slot log) ≡ kind_shown at x.kind x.end
told_same t log slot at x h here =
    let s = h.slots_are slot x here in
    let l = told_of slot log in
    sym (ap (λ a. kind_shown at a x.end) s.kind_is ∙ ap (kind_shown at (kind_of l)) s.end_is)

pub kind_stands : (t : Drawing) (log : List Told) (slot at : ℕ) (x : SlotKept) → StandsFor t log → slice_get t.slots slot ≡ Some x
    → kind_shown at x.kind x.end ≡ kind_told at (told_of slot log)
kind_stands t log slot at x h here = sym (told_same t log slot at x h here)

pub no_value : (t : Drawing) (log : List Told) (slot field at : ℕ) (x : SlotKept) → StandsFor t log → slice_get t.slots slot ≡ Some x
    → kind_shown at x.kind x.end ≡ None → None ≡ value_told t field at (told_of slot log)
no_value t log slot field at x h here none =
    let l = told_of slot log in
    sym (ap (option_and_then (λ kind. value_in (way_of t.ways t.fields kind field) at (take t.depth (frames_of field l)))) (told_same t log slot at x h here ∙ none))

pub its_value : (t : Drawing) (log : List Told) (slot field at kind : ℕ) (x : SlotKept) (v : Option ℤ) → StandsFor t log → slice_get t.slots slot ≡ Some x
    → kind_shown at x.kind x.end ≡ Some kind → field < t.fields
    → ((k : Kept) → slice_get x.fields field ≡ Some k → v ≡ value_in (way_of t.ways t.fields kind field) at k.frames) → v ≡ value_told t field at (told_of slot log)
its_value t log slot field at kind x v h here some less is =
    let l = told_of slot log in
    let s = h.slots_are slot x here in
    is (kept_of t.depth (take t.depth (frames_of field l))) (s.frames_are field less)
    ∙ sym (ap (option_and_then (λ kind. value_in (way_of t.ways t.fields kind field) at (take t.depth (frames_of field l)))) (told_same t log slot at x h here ∙ some))
