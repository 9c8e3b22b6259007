-- What each step does to what is known of one client.
use Rattle.std.proofs.Common.{◌≡◌, ℕ, suc, ap, ◌+◌, ◌≤◌, Bool, true, false, not, ◌&&◌, ◌||◌, ◌==◌, List, [], ◌∷◌, ◌++◌, length, set, Some, refl, arith, length-append}
use Rattle.std.specs.Prelude.{slice_get, if◌then◌else◌}
use Rattle.std.specs.Int.Bits.{bit_or}
use Rattle.dirty_lanes.specs.declared.view.WrittenField.{WrittenField}
use Rattle.dirty_lanes.specs.declared.view.RaisedBits.{RaisedBits}
use Rattle.dirty_lanes.specs.declared.view.DrainedBits.{DrainedBits}
use Rattle.dirty_lanes.specs.declared.view.ReadField.{ReadField}
use Rattle.dirty_lanes.specs.declared.view.SimStep.{SimStep}
use Rattle.dirty_lanes.specs.declared.view.SimStep.TheVariants.{Write, Raise}
use Rattle.dirty_lanes.specs.declared.view.PackStep.{PackStep}
use Rattle.dirty_lanes.specs.declared.view.PackStep.TheVariants.{Drain, Read}
use Rattle.tn_types.specs.BitWords.{has_bit}
use Rattle.dirty_lanes.specs.Views.{is_at, newest, newest_value, values, pending, raises_of, last_read, owes, drains_of}
use Rattle.dirty_lanes.specs.Rule.{covered, ReadsStand, DrainsTake}
use Rattle.dirty_lanes.proofs.LaneWords.{or_true, and_true, test_here, bit_or_set, bit_or_unset, no_bit, get_front, get_last}

-- a value by the test of the last write
pick-length : (b : Bool) (xs : List ℕ) (x n : ℕ) → length xs ≡ n + 1 → length (if b then xs ++ x ∷ [] else xs) ≡ (if b then n + 1 else n) + 1
pick-length true xs x n e = omega (arith, length-append xs (x ∷ []))
pick-length false xs x n e = e

pub length-values : (sim : List SimStep) (o f : ℕ) → length (values sim o f) ≡ newest sim o f + 1
length-values [] o f = refl
length-values (Write w ∷ l) o f = pick-length (is_at w.object w.field o f) (values l o f) w.value (newest l o f) (length-values l o f)
length-values (Raise r ∷ l) o f = length-values l o f

pick-at : (b : Bool) (xs : List ℕ) (x n last : ℕ) → length xs ≡ n + 1 → slice_get xs n ≡ Some last → slice_get (if b then xs ++ x ∷ [] else xs) (if b then n + 1 else n) ≡ Some (if b then x else last)
pick-at true xs x n last e at = get_last xs (n + 1) x e
pick-at false xs x n last e at = at

pub values-newest : (sim : List SimStep) (o f : ℕ) → slice_get (values sim o f) (newest sim o f) ≡ Some (newest_value sim o f)
values-newest [] o f = refl
values-newest (Write w ∷ l) o f = pick-at (is_at w.object w.field o f) (values l o f) w.value (newest l o f) (newest_value l o f) (length-values l o f) (values-newest l o f)
values-newest (Raise r ∷ l) o f = values-newest l o f

pick-opening : (b : Bool) (n x last : ℕ) → (n ≡ 0 → last ≡ 0) → (if b then n + 1 else n) ≡ 0 → (if b then x else last) ≡ 0
pick-opening true n x last h e = absurd (omega arith)
pick-opening false n x last h e = h e

-- a field that was never written has the value 0
pub opening_value : (sim : List SimStep) (o f : ℕ) → newest sim o f ≡ 0 → newest_value sim o f ≡ 0
opening_value [] o f e = refl
opening_value (Write w ∷ l) o f e = pick-opening (is_at w.object w.field o f) (newest l o f) w.value (newest_value l o f) (opening_value l o f) e
opening_value (Raise r ∷ l) o f e = opening_value l o f e

pick-front : (b : Bool) (xs : List ℕ) (x k v : ℕ) → slice_get xs k ≡ Some v → slice_get (if b then xs ++ x ∷ [] else xs) k ≡ Some v
pick-front true xs x k v e = get_front xs (x ∷ []) k v e
pick-front false xs x k v e = e

pub stand_write : (sim : List SimStep) (w : WrittenField) (log : List PackStep) → ReadsStand sim log → ReadsStand (Write w ∷ sim) log
stand_write sim w [] s = tt
stand_write sim w (Drain d ∷ l) s = stand_write sim w l s
stand_write sim w (Read r ∷ l) s = (pick-front (is_at w.object w.field r.object r.field) (values sim r.object r.field) w.value r.version r.value s.0, stand_write sim w l s.1)

pub stand_raise : (sim : List SimStep) (r : RaisedBits) (log : List PackStep) → ReadsStand sim log → ReadsStand (Raise r ∷ sim) log
stand_raise sim r [] s = tt
stand_raise sim r (Drain d ∷ l) s = stand_raise sim r l s
stand_raise sim r (Read x ∷ l) s = (s.0, stand_raise sim r l s.1)

pick-below : (b : Bool) (k n : ℕ) → k ≤ n → k ≤ (if b then n + 1 else n)
pick-below true k n h = omega arith
pick-below false k n h = h

pub below_write : (sim : List SimStep) (w : WrittenField) (log : List PackStep) (o f : ℕ) → last_read log o f ≤ newest sim o f → last_read log o f ≤ newest (Write w ∷ sim) o f
below_write sim w log o f h = pick-below (is_at w.object w.field o f) (last_read log o f) (newest sim o f) h

cover-write : (b A : Bool) (k n : ℕ) (B C D : Bool) → ((((k == n) || B) || C) || D) ≡ true → ((((k == (if b then n + 1 else n)) || B) || C) || (b || D)) ≡ true
cover-write true A k n B C D e = or_true ((((k == (n + 1)) || B) || C))
cover-write false A k n B C D e = e

pub covered_write : (sim : List SimStep) (w : WrittenField) (log : List PackStep) (c m o f : ℕ) → covered sim log c m o f ≡ true → covered (Write w ∷ sim) log c m o f ≡ true
covered_write sim w log c m o f e = cover-write (is_at w.object w.field o f) true (last_read log o f) (newest sim o f) (has_bit m f) (owes log o f) (pending sim c o f) e

-- raised for another client or object
pub covered_raise_else : (sim : List SimStep) (r : RaisedBits) (log : List PackStep) (c m o f : ℕ) → is_at r.client r.object c o ≡ false → covered sim log c m o f ≡ true → covered (Raise r ∷ sim) log c m o f ≡ true
covered_raise_else sim r log c m o f ne e = rw (ne, and_true (pending sim c o f)) e

raise-here : (a A B B' C D : Bool) → (a ≡ true → B' ≡ true) → (a ≡ false → B' ≡ B) → (((A || B) || C) || D) ≡ true → (((A || B') || C) || (D && not a)) ≡ true
raise-here true A B B' C D set unset e = rw (set refl, or_true A) refl
raise-here false A B B' C D set unset e = rw (unset refl, and_true D) e

pub covered_raise : (sim : List SimStep) (r : RaisedBits) (log : List PackStep) (c m o f : ℕ) → is_at r.client r.object c o ≡ true → covered sim log c m o f ≡ true → covered (Raise r ∷ sim) log c (bit_or m r.bits) o f ≡ true
covered_raise sim r log c m o f here e =
    rw here (raise-here (has_bit r.bits f) (last_read log o f == newest sim o f) (has_bit m f) (has_bit (bit_or m r.bits) f) (owes log o f) (pending sim c o f) (bit_or_set m r.bits f) (bit_or_unset m r.bits f) e)

drain-else : (A B C D : Bool) → (((A || B) || C) || D) ≡ true → (((A || B) || (false || C)) || D) ≡ true
drain-else A B C D e = e

pub covered_drain_else : (sim : List SimStep) (d : DrainedBits) (log : List PackStep) (c m o f : ℕ) → (d.object == o) ≡ false → covered sim log c m o f ≡ true → covered sim (Drain d ∷ log) c m o f ≡ true
covered_drain_else sim d log c m o f ne e = rw ne e

drain-here : (A B C D : Bool) → (((A || B) || C) || D) ≡ true → (((A || false) || (B || C)) || D) ≡ true
drain-here true B C D e = refl
drain-here false true C D e = refl
drain-here false false C D e = e

pub covered_drain : (sim : List SimStep) (d : DrainedBits) (log : List PackStep) (c o f : ℕ) → (d.object == o) ≡ true → covered sim log c d.bits o f ≡ true → covered sim (Drain d ∷ log) c 0 o f ≡ true
covered_drain sim d log c o f here e = rw (here, no_bit f) (drain-here (last_read log o f == newest sim o f) (has_bit d.bits f) (owes log o f) (pending sim c o f) e)

pub covered_read_else : (sim : List SimStep) (r : ReadField) (log : List PackStep) (c m o f : ℕ) → is_at r.object r.field o f ≡ false → covered sim log c m o f ≡ true → covered sim (Read r ∷ log) c m o f ≡ true
covered_read_else sim r log c m o f ne e = rw (ne, and_true (owes log o f)) e

pub covered_read : (sim : List SimStep) (r : ReadField) (log : List PackStep) (c m o f : ℕ) → is_at r.object r.field o f ≡ true → r.version ≡ newest sim o f → covered sim (Read r ∷ log) c m o f ≡ true
covered_read sim r log c m o f here new = rw (here, new, test_here (newest sim o f)) refl

-- the word after one more raise
takes_raise : (mask bits : ℕ) (ds rs : List ℕ) → DrainsTake mask ds rs → DrainsTake (bit_or mask bits) ds (bits ∷ rs)
takes_raise mask bits [] rs h = ap (λ (n : ℕ). bit_or n bits) h
takes_raise mask bits (d ∷ ds) rs h = (suc h.0, ap (λ (n : ℕ). bit_or n bits) h.1, h.2)

pub takes_raise_here : (sim : List SimStep) (r : RaisedBits) (ds : List ℕ) (c m o : ℕ) → is_at r.client r.object c o ≡ true → DrainsTake m ds (raises_of sim c o) → DrainsTake (bit_or m r.bits) ds (raises_of (Raise r ∷ sim) c o)
takes_raise_here sim r ds c m o here h = rw here (takes_raise m r.bits ds (raises_of sim c o) h)

pub takes_raise_else : (sim : List SimStep) (r : RaisedBits) (ds : List ℕ) (c m o : ℕ) → is_at r.client r.object c o ≡ false → DrainsTake m ds (raises_of sim c o) → DrainsTake m ds (raises_of (Raise r ∷ sim) c o)
takes_raise_else sim r ds c m o ne h = rw ne h

pub takes_drain_here : (d : DrainedBits) (pack : List PackStep) (o : ℕ) (rs : List ℕ) → (d.object == o) ≡ true → DrainsTake d.bits (drains_of pack o) rs → DrainsTake 0 (drains_of (Drain d ∷ pack) o) rs
takes_drain_here d pack o rs here h = rw here (0, refl, h)

pub takes_drain_else : (d : DrainedBits) (pack : List PackStep) (o m : ℕ) (rs : List ℕ) → (d.object == o) ≡ false → DrainsTake m (drains_of pack o) rs → DrainsTake m (drains_of (Drain d ∷ pack) o) rs
takes_drain_else d pack o m rs ne h = rw ne h
