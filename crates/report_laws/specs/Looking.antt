-- What is known of a field, looking back over an own list, the newest item first. Its newest value is that of the last write to it, or the
-- one that its period began with. It was written where a tick wrote it and neither a pack made a data packet nor the period began since.
use Rattle.std.specs.Prelude.{ℕ, ℤ, pos, ◌≡◌, ◌+◌, ◌==◌, ◌&&◌, ◌||◌, Bool, true, false, not, if◌then◌else◌, List, [], ◌∷◌, length, slice_get, Option, Some, None, refl}
use Rattle.std.specs.Option.{option_or}
use Rattle.std.specs.List.{list_any}
use Rattle.tn_types.specs.BitWords.{has_bit}
use Rattle.notify_window.specs.declared.SendState.{SendState}
use Rattle.notify_window.specs.declared.SendState.TheVariants.{Held, Worn, Room}
use Rattle.pair_core.specs.stream_manager.Limits.{Terms}
use Rattle.pair_core.specs.stream_manager.Server.{server_state}
use Rattle.pair_core.specs.History.{history}
use Rattle.match_script.specs.declared.types.BodyLine.TheVariants.{Pack}
use Rattle.own_lists.specs.Own.{OwnShow, OwnWrite, OwnItem, Line, Scan, Tick}
use Rattle.own_lists.specs.Kept.{kept, journal}
use Rattle.own_lists.specs.Conditions.{AreOwn}

-- how many periods began
abbrev pub begun_in : List OwnItem → ℕ
begun_in [] = 0
begun_in (Scan hides nears shows ∷ items) = begun_in items + length shows
begun_in (item ∷ items) = begun_in items

abbrev pub is_write_to : ℕ → ℕ → OwnWrite → Bool
is_write_to n f w = (n == w.n) && (f == w.field)

-- period n is among those that begin here, with number k
abbrev pub begins_with : ℕ → List OwnShow → ℕ → Bool
begins_with k [] n = false
begins_with k (s ∷ shows) n = (n == k) || begins_with (k + 1) shows n

-- ---- the newest value

-- the last of these writes, which stand in their order, to field f of period n
abbrev pub last_write : List OwnWrite → ℕ → ℕ → Option ℤ
last_write [] n f = None
last_write (w ∷ writes) n f = option_or (last_write writes n f) (if is_write_to n f w then Some w.value else None)

-- the value with which period n begins, where these begin with number k
abbrev pub first_value : ℕ → List OwnShow → ℕ → ℕ → Option ℤ
first_value k [] n f = None
first_value k (s ∷ shows) n f = if n == k then slice_get s.values f else first_value (k + 1) shows n f

abbrev pub newest_value : List OwnItem → ℕ → ℕ → Option ℤ
newest_value [] n f = None
newest_value (Tick writes taken ∷ items) n f = option_or (last_write writes n f) (newest_value items n f)
newest_value (Scan hides nears shows ∷ items) n f =
    if begins_with (begun_in items) shows n then first_value (begun_in items) shows n f else newest_value items n f
newest_value (Line line ∷ items) n f = newest_value items n f

-- ---- written since

abbrev pub is_room : SendState → Bool
is_room Room = true
is_room Held = false
is_room Worn = false

-- a pack makes a data packet, and so drains what was written
abbrev pub drains_now : Terms → List OwnItem → Bool
drains_now t items = is_room (server_state t.config (history t (journal t items)).server)

abbrev pub written_since : Terms → List OwnItem → ℕ → ℕ → Bool
written_since t [] n f = false
written_since t (Tick writes taken ∷ items) n f = list_any (is_write_to n f) writes || written_since t items n f
written_since t (Scan hides nears shows ∷ items) n f = not (begins_with (begun_in items) shows n) && written_since t items n f
written_since t (Line (Pack c) ∷ items) n f = not (drains_now t items) && written_since t items n f
written_since t (Line line ∷ items) n f = written_since t items n f

-- ---- the law

-- what is kept of an own list, item by item, is what is found by looking back over it
pub record LooksBack : Type 0 where
  pub written : (t : Terms) (items : List OwnItem) (n f : ℕ) → has_bit ((kept t items).written n) f ≡ written_since t items n f
  pub newest : (t : Terms) (items : List OwnItem) → AreOwn t items → (n f : ℕ)
      → slice_get ((kept t items).values n) f ≡ newest_value items n f

-- ---- examples: two periods begin, field 1 of the second is written twice in a tick

abbrev a_show : List ℤ → OwnShow
a_show values = record { how = record { kind = 0; block = 0; level = 0; control = false }; values = values }

abbrev a_write : ℕ → ℕ → ℤ → OwnWrite
a_write n field value = record { n = n; field = field; value = value }

abbrev written_twice : List OwnItem
written_twice =
    Tick (a_write 1 1 (pos 7) ∷ a_write 0 0 (pos 3) ∷ a_write 1 1 (pos 9) ∷ []) 0
    ∷ Scan [] [] (a_show (pos 1 ∷ pos 2 ∷ []) ∷ a_show (pos 4 ∷ pos 5 ∷ []) ∷ []) ∷ []

the_last_write : newest_value written_twice 1 1 ≡ Some (pos 9)
the_last_write = refl

the_first_value : newest_value written_twice 1 0 ≡ Some (pos 4)
the_first_value = refl

no_such_period : newest_value written_twice 2 0 ≡ None
no_such_period = refl
