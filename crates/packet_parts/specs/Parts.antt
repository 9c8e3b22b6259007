-- A datagram is read part by part, as `wire_format` reads it, and each part that was read is kept: its bit, its bits, what it
-- is, and its number. Reading stops at the first fault, with the parts before it.
use Rattle.std.specs.Prelude.{ℕ, zero, suc, ◌≡◌, ◌+◌, ◌<◌, ◌^◌, List, [], ◌∷◌, ◌++◌, length, Bool, Some, None, Result, Ok, Err}
use Rattle.std.specs.List.{flat_map, AllByRecursion}
use Rattle.bit_stream.specs.Bits.{number, bits_of}
use Rattle.bit_stream.specs.Reading.{Unread, end_at}
use Rattle.bit_stream.specs.declared.reader.PaddingFault.{PaddingFault}
use Rattle.wire_format.specs.declared.fault.BitsFault.{BitsFault}
use Rattle.wire_format.specs.declared.fault.BitsCause.{BitsCause}
use Rattle.wire_format.specs.declared.fault.BitsCause.TheVariants as causes
use Rattle.packet_parts.specs.declared.part.Part.{Part}
use Rattle.packet_parts.specs.declared.part.PartName.{PartName}
use Rattle.packet_parts.specs.declared.packets.Telling.{Telling}
use Rattle.packet_parts.specs.declared.reader.Halt.{Halt}
use Rattle.packet_parts.specs.declared.reader.Halt.TheVariants.{Fault, NoMemory}

-- all bits of a datagram, the parts that were read, and what is left
pub record Told : Type 0 where
  pub whole : List Bool
  pub parts : List Part
  pub unread : Unread

-- the first part that is faulty begins behind what was told
pub record Stop : Type 0 where
  pub told : Told
  pub cause : BitsCause

-- nothing was read of these bytes
abbrev pub begun : List ℕ → Told
begun bytes = record { whole = bits_of bytes; parts = []; unread = record { place = 0; rest = bits_of bytes } }

-- one reading and then the next
abbrev pub goes_on : {A B : Type 0} → Result A Stop → (A → Result B Stop) → Result B Stop
goes_on (Ok x) f = f x
goes_on (Err e) f = Err e

infixl 10 ◌>>=◌
abbrev pub ◌>>=◌ : {A B : Type 0} → Result A Stop → (A → Result B Stop) → Result B Stop
m >>= f = goes_on m f

-- ---- one part

-- what was told, and behind it a number that was read
abbrev pub behind : PartName → ℕ → Told → ℕ × Unread → Told
behind name width s n = record {
  whole = s.whole;
  parts = s.parts ++ record { bit = s.unread.place; width = width; name = name; value = n.0 } ∷ [];
  unread = n.1;
}

abbrev pub kept : PartName → ℕ → Told → Result (ℕ × Unread) BitsFault → Result (ℕ × Told) Stop
kept name width s (Ok n) = Ok (n.0, behind name width s n)
kept name width s (Err e) = Err (record { told = s; cause = e.cause })

-- a number that is read in this way, as a part of this name
unfoldable pub told : PartName → ℕ → (Unread → Result (ℕ × Unread) BitsFault) → Told → Result (ℕ × Told) Stop
told name width read s = kept name width s (read s.unread)

-- ---- many

unfoldable pub counted_told : (Told → Result (Unit {0} × Told) Stop) → ℕ → Told → Result (Unit {0} × Told) Stop
counted_told item_told zero s = Ok (tt, s)
counted_told item_told (suc n) s = do
  first ← item_told s
  counted_told item_told n first.1

-- ---- the end

-- nothing else is left but zero bits up to a whole byte
abbrev pub closed : Told → Result (Unit {0}) PaddingFault → Telling
closed s (Ok u) = record { parts = s.parts; fault = None }
closed s (Err e) = record { parts = s.parts; fault = Some (record { place = s.unread.place; cause = causes.Padding }) }

abbrev pub ended : Result (Unit {0} × Told) Stop → Telling
ended (Ok s) = closed s.1 (end_at s.1.unread)
ended (Err stop) = record { parts = stop.told.parts; fault = Some (record { place = stop.told.unread.place; cause = stop.cause }) }

-- ---- what a call answered, and what it told

abbrev pub Tells : {X : Type 0} → Result X Halt → Told → Result (X × Told) Stop → Type 0
Tells (Ok x) new read = read ≡ Ok (x, new)
Tells (Err (Fault cause)) new read = read ≡ Err (record { told = new; cause = cause })
Tells (Err NoMemory) new read = Unit {0}

-- ---- what parts are

-- the bits of parts, put together
abbrev pub spelled : List Part → List Bool
spelled parts = flat_map (λ p. number p.width p.value) parts

-- each begins where the one before it ends, the first at this bit
abbrev pub AreBehind : ℕ → List Part → Type 0
AreBehind bit [] = Unit {0}
AreBehind bit (p ∷ ps) = (p.bit ≡ bit) × AreBehind (bit + p.width) ps

-- these are the first parts of these bits: they stand one behind the other from bit 0 on, each number fits its width, and
-- put together they are the bits' front
pub record AreFirstOf (whole : List Bool) (parts : List Part) : Type 0 where
  pub places : AreBehind 0 parts
  pub values : AllByRecursion (λ p. p.value < 2 ^ p.width) parts
  pub bits : (rest : List Bool) × (whole ≡ spelled parts ++ rest)

-- what was read are the first parts, and what is left stands behind them
pub record IsTold (s : Told) : Type 0 where
  pub places : AreBehind 0 s.parts
  pub values : AllByRecursion (λ p. p.value < 2 ^ p.width) s.parts
  pub bits : s.whole ≡ spelled s.parts ++ s.unread.rest
  pub end : s.unread.place ≡ length (spelled s.parts)
