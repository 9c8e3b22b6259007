-- Whole datagrams: the fault is the decoder's, and the parts of a packet are its spelling.
use Rattle.std.proofs.Common.{◌≡◌, ℕ, Bool, true, false, cond, List, ◌++◌, Some, Result, Ok, Err, refl, sym, ap, subst, ◌∙◌}
use Rattle.std.specs.Prelude.{IfOk, IsErr}
use Rattle.std.specs.Result.{result_err}
use Rattle.std.proofs.lemmas.List.{append_cancel_right}
use Rattle.tn_types.specs.declared.choices.NoMemory.{NoMemory as OutOfMemory}
use Rattle.bit_stream.specs.Bits.{bits_of}
use Rattle.bit_stream.specs.Reading.{Unread, end_at}
use Rattle.bit_stream.specs.declared.reader.PaddingFault.{PaddingFault}
use Rattle.wire_format.specs.declared.fault.BitsFault.{BitsFault}
use Rattle.wire_format.specs.declared.fault.BitsCause.TheVariants as causes
use Rattle.wire_format.specs.Reading.{◌>>=◌, padding_as_fault, whole_of}
use Rattle.wire_format.proofs.Formats.{IsFormat, bind_ok}
use Rattle.packet_parts.specs.declared.packets.Telling.{Telling}
use Rattle.packet_parts.specs.declared.reader.Halt.{Halt}
use Rattle.packet_parts.specs.declared.reader.Halt.TheVariants.{Fault, NoMemory}
use Rattle.packet_parts.specs.Parts.{Told, Stop, begun, closed, ended, spelled, Tells, IsTold}
use Rattle.packet_parts.proofs.Erasing.{left, read_of, Same, same_left}

abbrev Reads : Type 0
Reads = Result (Unit {0} × Told) Stop

-- ---- the fault

abbrev place_or : ℕ → Result (Unit {0}) PaddingFault → ℕ
place_or d (Ok x) = d
place_or d (Err e) = e.place

abbrev Ended : Type 0
Ended = Result (Unit {0}) PaddingFault

abbrev good : Ended
good = Ok tt

abbrev bad : PaddingFault → Ended
bad e = Err e

end_here : (b : Bool) (place : ℕ) (e : PaddingFault) → cond b good (bad (record { place = place })) ≡ bad e → e.place ≡ place
end_here true place e h = absurd cc
end_here false place e h = sym (ap (place_or 0) h)

place_of_end : (u : Unread) (e : PaddingFault) → end_at u ≡ Err e → e.place ≡ u.place
unfolding end_at
place_of_end u e h = end_here _ u.place e h

closed_fault : {A : Type 0} (x : A) (t : Told) (r : Result (Unit {0}) PaddingFault) → ((e : PaddingFault) → r ≡ Err e → e.place ≡ t.unread.place) → (closed t r).fault ≡ result_err (padding_as_fault x r)
closed_fault x t (Ok u) h = refl
closed_fault x t (Err e) h = ap (λ p. Some (record { place = p; cause = causes.Padding })) (sym (h e refl))

abbrev fault_or : BitsFault → Result Unread BitsFault → BitsFault
fault_or d (Ok x) = d
fault_or d (Err e) = e

ended_fault : {A : Type 0} (r : Result (A × Unread) BitsFault) (m : Reads) → Same r m → (ended m).fault ≡ result_err (r >>= λ x. padding_as_fault x.0 (end_at x.1))
ended_fault (Ok x) (Ok y) e =
    subst (λ (u : Unread). (closed y.1 (end_at y.1.unread)).fault ≡ result_err (padding_as_fault x.0 (end_at u))) (sym (same_left x.1 y.1.unread e))
    (closed_fault x.0 y.1 (end_at y.1.unread) (place_of_end y.1.unread))
ended_fault (Ok x) (Err stop) e = absurd cc
ended_fault (Err d) (Ok y) e = absurd cc
ended_fault (Err d) (Err stop) e = ap (λ r. Some (fault_or d r)) (sym e)

pub fault_told : {A : Type 0} (out : Result Telling OutOfMemory) (r : Result (A × Unread) BitsFault) (m : Reads) → Same r m → IfOk out (λ t. t ≡ ended m)
    → IfOk out (λ t. t.fault ≡ result_err (r >>= λ x. padding_as_fault x.0 (end_at x.1)))
fault_told (Ok t) r m same h = ap (λ (t : Telling). t.fault) h ∙ ended_fault r m same
fault_told (Err e) r m same h = tt

-- ---- the packet

padded : {A : Type 0} (x y : A) (r : Result (Unit {0}) PaddingFault) → padding_as_fault x r ≡ Ok y → x ≡ y
padded x y (Ok u) e = cc
padded x y (Err d) e = absurd cc

stands : {A : Type 0} (said : Result (Unit {0}) Halt) (m : Reads) (s : Told) (x : A × Unread) → Same (Ok x) m → Tells said s m → (said ≡ Err NoMemory → ⊥) → s.unread ≡ x.1
stands (Ok u) m s x same tells ample = sym (same_left x.1 s.unread (same ∙ ap (λ (z : Reads). left (read_of z)) tells))
stands (Err (Fault cause)) m s x same tells ample =
    let wrong = same ∙ ap (λ (z : Reads). left (read_of z)) tells in
    absurd cc
stands (Err NoMemory) m s x same tells ample = absurd (ample refl)

pub packet_told : {A : Type 0} (read : Unread → Result (A × Unread) BitsFault) (spell : A → List Bool) (Fits : A → Type 0) → IsFormat read spell Fits
    → (bytes : List ℕ) (m : Reads) (s : Told) (said : Result (Unit {0}) Halt) (out : Result Telling OutOfMemory) → Same (read (begun bytes).unread) m → IsTold s → s.whole ≡ bits_of bytes
    → Tells said s m → (said ≡ Err NoMemory → IsErr out) → IfOk out (λ t. t.parts ≡ s.parts) → (p : A) → whole_of read bytes ≡ Ok p → IfOk out (λ t. spelled t.parts ≡ spell p)
packet_told read spell Fits format bytes m s said (Err e) same told whole tells memory parts p h = tt
packet_told read spell Fits format bytes m s said (Ok t) same told whole tells memory parts p h =
    let a = bind_ok (read (begun bytes).unread) (λ y. padding_as_fault y.0 (end_at y.1)) p h in
    let x = padded a.0.0 p (end_at a.0.1) a.2 in
    let takes = format.takes (begun bytes).unread a.0 a.1 in
    let end : s.unread ≡ a.0.1 = stands said m s a.0 (ap (λ z. left z) (sym a.1) ∙ same) tells (λ w. let h = memory w in absurd cc) in
    let bits : spelled s.parts ++ s.unread.rest ≡ spell a.0.0 ++ a.0.1.rest = sym told.bits ∙ whole ∙ takes.0.rest in
    let same_bits : spelled s.parts ++ a.0.1.rest ≡ spell a.0.0 ++ a.0.1.rest = ap (λ (u : Unread). spelled s.parts ++ u.rest) (sym end) ∙ bits in
    ap (λ ps. spelled ps) parts ∙ append_cancel_right (spelled s.parts) (spell a.0.0) a.0.1.rest same_bits ∙ ap spell x

-- ---- kinds of the table
