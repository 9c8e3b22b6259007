-- Reading that keeps parts reads as `wire_format` does: what is left and the first fault are the same.
use Rattle.std.proofs.Common.{◌≡◌, ℕ, zero, suc, Bool, true, false, cond, Result, Ok, Err, refl, sym, ap, subst, ◌∙◌}
use Rattle.std.specs.Prelude.{◌==◌}
use Rattle.bit_stream.specs.Reading.{Unread, number_at}
use Rattle.wire_format.specs.declared.fault.BitsFault.{BitsFault}
use Rattle.wire_format.specs.declared.fault.BitsCause.{BitsCause}
use Rattle.wire_format.specs.declared.fault.BitsCause.TheVariants as causes
use Rattle.wire_format.specs.Reading.{◌>>=◌, part_at, such_at, optional_at, counted_at, listed_at, short_as_fault}
use Rattle.packet_parts.specs.declared.part.PartName.{PartName}
use Rattle.packet_parts.specs.Parts.{Told, Stop, goes_on, told, kept, counted_told}
use Rattle.packet_parts.specs.Telling.{optional_told, byte_told, listed_told}

abbrev pub fault_of : Stop → BitsFault
fault_of stop = record { place = stop.told.unread.place; cause = stop.cause }

-- what was read, without the parts
abbrev pub read_of : {A : Type 0} → Result (A × Told) Stop → Result (A × Unread) BitsFault
read_of (Ok x) = Ok (x.0, x.1.unread)
read_of (Err stop) = Err (fault_of stop)

-- what is left, or the fault
abbrev pub left : {A : Type 0} → Result (A × Unread) BitsFault → Result Unread BitsFault
left (Ok x) = Ok x.1
left (Err e) = Err e

-- both leave the same
abbrev pub Same : {A B : Type 0} → Result (A × Unread) BitsFault → Result (B × Told) Stop → Type 0
Same read m = left read ≡ left (read_of m)

abbrev left_ok : Unread → Result Unread BitsFault
left_ok u = Ok u

pub same_left : (u v : Unread) → left_ok u ≡ left_ok v → u ≡ v
same_left u v e = cc

-- ---- one reading behind another

module _ {A B C : Type 0} where
  -- where the number that was read counts
  pub same_then : (r : Result (A × Unread) BitsFault) (m : Result (A × Told) Stop) (g : A × Unread → Result (B × Unread) BitsFault) (f : A × Told → Result (C × Told) Stop)
      → read_of m ≡ r → ((x : A) (t : Told) → Same (g (x, t.unread)) (f (x, t))) → Same (r >>= g) (goes_on m f)
  same_then r (Ok n) g f e h = subst (λ (z : Result (A × Unread) BitsFault). Same (z >>= g) (f n)) e (h n.0 n.1)
  same_then r (Err stop) g f e h = subst (λ (z : Result (A × Unread) BitsFault). left (z >>= g) ≡ Err (fault_of stop)) e refl

  -- the last part
  pub last : (r : Result (A × Unread) BitsFault) (m : Result (C × Told) Stop) (g : A × Unread → Result (B × Unread) BitsFault)
      → Same r m → ((x : A × Unread) → left (g x) ≡ Ok x.1) → Same (r >>= g) m
  last (Ok x) m g e h = h x ∙ e
  last (Err d) m g e h = e

module _ {A B C D : Type 0} where
  -- where only what is left counts
  pub left_then : (r : Result (A × Unread) BitsFault) (m : Result (D × Told) Stop) (g : A × Unread → Result (B × Unread) BitsFault) (f : D × Told → Result (C × Told) Stop)
      → Same r m → ((x : A) (y : D) (t : Told) → Same (g (x, t.unread)) (f (y, t))) → Same (r >>= g) (goes_on m f)
  left_then (Ok x) (Ok y) g f e h = subst (λ (u : Unread). Same (g (x.0, u)) (f y)) (sym (same_left x.1 y.1.unread e)) (h x.0 y.0 y.1)
  left_then (Ok x) (Err stop) g f e h = absurd cc
  left_then (Err d) (Ok y) g f e h = absurd cc
  left_then (Err d) (Err stop) g f e h = e

pub same_if : {A B : Type 0} (b : Bool) (r1 r2 : Result (A × Unread) BitsFault) (m1 m2 : Result (B × Told) Stop) → Same r1 m1 → Same r2 m2 → Same (cond b r1 r2) (cond b m1 m2)
same_if true r1 r2 m1 m2 h k = h
same_if false r1 r2 m1 m2 h k = k

-- ---- one part

-- a fault is where the part begins
abbrev pub FailsHere : (Unread → Result (ℕ × Unread) BitsFault) → Type 0
FailsHere read = (u : Unread) (e : BitsFault) → read u ≡ Err e → e.place ≡ u.place

abbrev place_or : ℕ → Result (ℕ × Unread) BitsFault → ℕ
place_or d (Ok x) = d
place_or d (Err e) = e.place

short_here : (b : Bool) (n : ℕ × Unread) (place : ℕ) (e : BitsFault) → short_as_fault (cond b (Err (record { place = place })) (Ok n)) ≡ Err e → e.place ≡ place
short_here true n place e h = sym (ap (place_or 0) h)
short_here false n place e h = absurd cc

pub part_here : (w : ℕ) → FailsHere (part_at w)
unfolding part_at number_at
part_here w u e h = short_here _ _ u.place e h

such_of : (test : ℕ → Bool) (r : Result (ℕ × Unread) BitsFault) (place : ℕ) (cause : BitsCause) (e : BitsFault) → ((d : BitsFault) → r ≡ Err d → d.place ≡ place)
    → (r >>= λ n. cond (test n.0) (Ok n) (Err (record { place = place; cause = cause }))) ≡ Err e → e.place ≡ place
such_of test (Err d) place cause e here h = sym (ap (place_or 0) h) ∙ here d refl
such_of test (Ok n) place cause e here h = by_test (test n.0) h
  where
    by_test : (b : Bool) → cond b (Ok n) (Err (record { place = place; cause = cause })) ≡ Err e → e.place ≡ place
    by_test true h = absurd cc
    by_test false h = sym (ap (place_or 0) h)

pub such_here : (cause : BitsCause) (test : ℕ → Bool) (w : ℕ) → FailsHere (such_at cause test w)
unfolding such_at
such_here cause test w u e h = such_of test (part_at w u) u.place cause e (part_here w u) h

kept_same : (name : PartName) (w : ℕ) (s : Told) (r : Result (ℕ × Unread) BitsFault) → ((e : BitsFault) → r ≡ Err e → e.place ≡ s.unread.place) → read_of (kept name w s r) ≡ r
kept_same name w s (Ok n) here = refl
kept_same name w s (Err e) here = ap (λ p. Err (record { place = p; cause = e.cause })) (sym (here e refl))

pub told_same : (name : PartName) (w : ℕ) (read : Unread → Result (ℕ × Unread) BitsFault) (s : Told) → FailsHere read → read_of (told name w read s) ≡ read s.unread
unfolding told
told_same name w read s here = kept_same name w s (read s.unread) (here s.unread)

pub part_same : (name : PartName) (w : ℕ) (s : Told) → read_of (told name w (part_at w) s) ≡ part_at w s.unread
part_same name w s = told_same name w (part_at w) s (part_here w)

pub such_same : (name : PartName) (cause : BitsCause) (test : ℕ → Bool) (w : ℕ) (s : Told) → read_of (told name w (such_at cause test w) s) ≡ such_at cause test w s.unread
such_same name cause test w s = told_same name w (such_at cause test w) s (such_here cause test w)

-- a number that is the last part
pub only_left : (r : Result (ℕ × Unread) BitsFault) (m : Result (ℕ × Told) Stop) → read_of m ≡ r → Same r (goes_on m (λ x. Ok (tt {0}, x.1)))
only_left r (Ok x) e = subst (λ (z : Result (ℕ × Unread) BitsFault). left z ≡ Ok x.1.unread) e refl
only_left r (Err stop) e = subst (λ (z : Result (ℕ × Unread) BitsFault). left z ≡ Err (fault_of stop)) e refl

-- ---- parts of several lists

pub optional_same : (flag name : PartName) (w : ℕ) (s : Told) → Same (optional_at w s.unread) (optional_told flag name w s)
unfolding optional_at optional_told
optional_same flag name w s =
    same_then _ _ _ _ (part_same flag 1 s) (λ f t.
    same_if (f == 0) _ _ _ _ refl
    (same_then _ _ _ _ (part_same name w t) (λ n u. refl)))

pub byte_same : (name : PartName) (s : Told) → Same (part_at 8 s.unread) (byte_told name s)
unfolding byte_told
byte_same name s = only_left _ _ (part_same name 8 s)

pub counted_same : {A : Type 0} (item_at : Unread → Result (A × Unread) BitsFault) (item_told : Told → Result (Unit {0} × Told) Stop) → ((s : Told) → Same (item_at s.unread) (item_told s))
    → (n : ℕ) (s : Told) → Same (counted_at item_at n s.unread) (counted_told item_told n s)
unfolding counted_at counted_told
counted_same item_at item_told h zero s = refl
counted_same item_at item_told h (suc n) s =
    left_then _ _ _ _ (h s) (λ x y t.
    last _ _ _ (counted_same item_at item_told h n t) (λ z. refl))

pub listed_same : {A : Type 0} (name : PartName) (most w : ℕ) (item_at : Unread → Result (A × Unread) BitsFault) (item_told : Told → Result (Unit {0} × Told) Stop) → ((s : Told) → Same (item_at s.unread) (item_told s))
    → (s : Told) → Same (listed_at most w item_at s.unread) (listed_told name most w item_told s)
unfolding listed_at listed_told
listed_same name most w item_at item_told h s =
    same_then _ _ _ _ (such_same name causes.CountBits _ w s) (λ n t. counted_same item_at item_told h n t)
