-- A part that is kept stands behind those before it, and what is left stands behind it.
use Rattle.std.proofs.Common.{◌≡◌, ℕ, ◌+◌, ◌<◌, ◌^◌, Bool, List, [], ◌∷◌, ◌++◌, length, Ok, refl, sym, ap, ◌∙◌, append_assoc, length-append, arith}
use Rattle.std.specs.List.{AllByRecursion}
use Rattle.std.proofs.lemmas.List.{append-nil}
use Rattle.std.proofs.lemmas.Grind.{flat_map-append}
use Rattle.bit_stream.specs.Bits.{number}
use Rattle.bit_stream.specs.Reading.{Unread}
use Rattle.bit_stream.proofs.Numbers.{length-number}
use Rattle.wire_format.specs.Reading.{part_at}
use Rattle.wire_format.proofs.Formats.{a_number}
use Rattle.packet_parts.specs.declared.part.Part.{Part}
use Rattle.packet_parts.specs.declared.part.PartName.{PartName}
use Rattle.packet_parts.specs.Parts.{Told, behind, begun, spelled, AreBehind, IsTold}

-- a part behind others
stands_behind : (bit : ℕ) (ps : List Part) (p : Part) → AreBehind bit ps → p.bit ≡ bit + length (spelled ps) → AreBehind bit (ps ++ p ∷ [])
stands_behind bit [] p h e = (omega (arith, e), tt)
stands_behind bit (q ∷ ps) p h e =
    (h.0, stands_behind (bit + q.width) ps p h.1 (omega (arith, e, length-append (number q.width q.value) (spelled ps), length-number q.width q.value)))

all_fit : (ps : List Part) (p : Part) → AllByRecursion (λ q. q.value < 2 ^ q.width) ps → p.value < 2 ^ p.width → AllByRecursion (λ q. q.value < 2 ^ q.width) (ps ++ p ∷ [])
all_fit [] p h e = (e, tt)
all_fit (q ∷ ps) p h e = (h.0, all_fit ps p h.1 e)

spelled_behind : (ps : List Part) (p : Part) → spelled (ps ++ p ∷ []) ≡ spelled ps ++ number p.width p.value
spelled_behind ps p = flat_map-append (λ q. number q.width q.value) ps (p ∷ []) ∙ ap (λ (b : List Bool). spelled ps ++ b) (append-nil (number p.width p.value))

pub keeps : (name : PartName) (width : ℕ) (s : Told) (n : ℕ × Unread) → IsTold s → part_at width s.unread ≡ Ok n → IsTold (behind name width s n)
keeps name width s n h e =
    let t = (a_number width).takes s.unread n e in
    let p : Part = record { bit = s.unread.place; width = width; name = name; value = n.0 } in
    let more = spelled_behind s.parts p in
    record {
      places = stands_behind 0 s.parts p h.places (omega (arith, h.end));
      values = all_fit s.parts p h.values t.1;
      bits = h.bits ∙ ap (λ (b : List Bool). spelled s.parts ++ b) t.0.rest ∙ sym (append_assoc (spelled s.parts) (number width n.0) n.1.rest) ∙ ap (λ (b : List Bool). b ++ n.1.rest) (sym more);
      end = omega (arith, h.end, t.0.place, ap (λ (b : List Bool). length b) more, length-append (spelled s.parts) (number width n.0));
    }

pub begins : (bytes : List ℕ) → IsTold (begun bytes)
begins bytes = record { places = tt; values = tt; bits = refl; end = refl }
