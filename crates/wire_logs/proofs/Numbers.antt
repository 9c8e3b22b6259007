-- The numbers of events: a packet has them whole, and its datagram their lowest bits. In version 1 these are the whole ones; from
-- version 2 on the end that reads them makes them whole by what it has delivered.
use Rattle.std.proofs.Common.{◌≡◌, ◌∙◌, ℕ, suc, ◌<◌, ◌^◌, ◌%◌, Bool, true, false, List, [], ◌∷◌, ◌++◌, length, map, if◌then◌else◌, Option, Some, None, refl, ap, arith}
use Rattle.std.specs.Prelude.{IfSome}
use Rattle.std.specs.List.{AllByRecursion, flat_map}
use Rattle.std.specs.Option.{option_map}
use Rattle.bit_stream.specs.Bits.{number}
use Rattle.wire_format.specs.declared.events.EventItem.{EventItem}
use Rattle.wire_format.specs.Reading.{AreListed}
use Rattle.wire_format.specs.Events.{is_low, spell_event, spell_events, low_event, low_number, IsEvent}
use Rattle.wire_format.proofs.LowNumbers.{low-event, low-fits}
use Rattle.event_logs.specs.event_manager.Low.{whole_number, whole_items, IsFound}
use Rattle.event_manager.proofs.WholeNumbers.{found}

-- the events as they stand in a datagram
abbrev pub low_events : ℕ → List EventItem → List EventItem
low_events version es = map (low_event version) es

-- ---- they are spelled alike

low-all : (version : ℕ) (es : List EventItem) → flat_map (spell_event version) (low_events version es) ≡ flat_map (spell_event version) es
low-all version [] = refl
low-all version (e ∷ es) =
    ap (λ (t : List Bool). t ++ flat_map (spell_event version) (low_events version es)) (low-event version e)
    ∙ ap (λ (t : List Bool). spell_event version e ++ t) (low-all version es)

pub count-low : (version : ℕ) (es : List EventItem) → length (low_events version es) ≡ length es
count-low version [] = refl
count-low version (e ∷ es) = ap (λ (n : ℕ). suc n) (count-low version es)

pub low-spelled : (version : ℕ) (es : List EventItem) → spell_events version (low_events version es) ≡ spell_events version es
low-spelled version es =
    ap (λ (n : ℕ). number 5 n ++ flat_map (spell_event version) (low_events version es)) (count-low version es)
    ∙ ap (λ (t : List Bool). number 5 (length es) ++ t) (low-all version es)

-- ---- they fit their parts

fits-all : (version : ℕ) (es : List EventItem) → AllByRecursion (IsEvent 1) es → AllByRecursion (IsEvent version) (low_events version es)
fits-all version [] h = tt
fits-all version (e ∷ es) h = (record { number = low-fits version e.number; payload = h.0.payload }, fits-all version es h.1)

pub low-fit : (version : ℕ) (es : List EventItem) → AreListed 31 (IsEvent 1) es → AreListed 31 (IsEvent version) (low_events version es)
low-fit version es h = record { few = omega (arith, h.few, count-low version es); each = fits-all version es h.each }

-- ---- they are made whole

same-number : (version n : ℕ) → is_low version ≡ false → n < 2 ^ 24 → low_number version n ≡ n
same-number version n other small =
    ap (λ (b : Bool). n % 2 ^ (if b then 7 else 24)) other ∙ whole
  where
    whole : n % 2 ^ 24 ≡ n
    whole = omega (arith, small)

same-option : (version : ℕ) (o : Option ℕ) → is_low version ≡ false → IfSome o (λ n. n < 2 ^ 24) → option_map (low_number version) o ≡ o
same-option version None other small = refl
same-option version (Some n) other small = ap (λ (k : ℕ). Some k) (same-number version n other small)

same-events : (version : ℕ) (es : List EventItem) → is_low version ≡ false → AllByRecursion (IsEvent 1) es → low_events version es ≡ es
same-events version [] other small = refl
same-events version (e ∷ es) other small =
    ap (λ (o : Option ℕ). record { number = o; payload = e.payload } ∷ low_events version es) (same-option version e.number other small.0.number)
    ∙ ap (λ (t : List EventItem). e ∷ t) (same-events version es other small.1)

whole-one : (version delivered : ℕ) (o : Option ℕ) → is_low version ≡ true → IfSome o (IsFound delivered) → option_map (whole_number delivered) (option_map (low_number version) o) ≡ o
whole-one version delivered None low h = refl
whole-one version delivered (Some n) low h =
    ap (λ (b : Bool). Some (whole_number delivered (n % 2 ^ (if b then 7 else 24)))) low ∙ ap (λ (k : ℕ). Some k) (found delivered n h)

whole-again : (version delivered : ℕ) (es : List EventItem) → is_low version ≡ true → AllByRecursion (λ (e : EventItem). IfSome e.number (IsFound delivered)) es
    → whole_items delivered (low_events version es) ≡ es
whole-again version delivered [] low h = refl
whole-again version delivered (e ∷ es) low h =
    ap (λ (o : Option ℕ). record { number = o; payload = e.payload } ∷ whole_items delivered (low_events version es)) (whole-one version delivered e.number low h.0)
    ∙ ap (λ (t : List EventItem). e ∷ t) (whole-again version delivered es low h.1)

pub made-whole : (version delivered : ℕ) (es : List EventItem) → AllByRecursion (IsEvent 1) es
    → (is_low version ≡ true → AllByRecursion (λ (e : EventItem). IfSome e.number (IsFound delivered)) es)
    → (if is_low version then whole_items delivered (low_events version es) else low_events version es) ≡ es
made-whole version delivered es small near = go (is_low version) refl
  where
    go : (b : Bool) → is_low version ≡ b → (if b then whole_items delivered (low_events version es) else low_events version es) ≡ es
    go true e = whole-again version delivered es e (near e)
    go false e = same-events version es e small
