-- Values of objects that are in their ranges are in those of their kind.
use Rattle.std.proofs.Common.{◌≡◌, ℕ, zero, suc, ◌+◌, ◌<◌, ◌≤◌, Bool, true, false, cond, List, [], ◌∷◌, ◌++◌, length, Option, Some, None, refl, arith, sym, ap, subst, ◌∙◌}
use Rattle.std.specs.Prelude.{ℤ, pos, ◌≤ℤ◌, slice_get, option_map}
use Rattle.std.specs.List.{AllByRecursion}
use Rattle.std.proofs.lemmas.Int.{ints}
use Rattle.world_rules.specs.declared.object.Object.{Object}
use Rattle.world_rules.specs.declared.object.State.{State}
use Rattle.world_rules.specs.declared.object.State.TheVariants.{Player, Disc, Mine, Drone, Flag, Clock}
use Rattle.world_rules.specs.Kinds.{kind_of}
use Rattle.world_rules.specs.Ranges.{ObjectFits, StateFits, PlaceFits, HolderFits}
use Rattle.world_sim.specs.Rows.{values_of, part_values, as_number, holder_number, field_writes, row_writes, world_writes, differs}
use Rattle.world_sim.specs.declared.rows.Write.{Write}
use Rattle.world_sim.specs.Facts.{ValuesFit, ValueFits, IsWriteOf}
use Rattle.tn_types.specs.declared.moves.MoveBits.{MoveBits}
use Rattle.world_rules.proofs.Ranging.{objects_fit}
use Rattle.world_sim.specs.Worlds.{Worlds, WasCounted, IsWorld, next, after, coming, kind_at}
use Rattle.world_sim.proofs.ForGood.{kind_stays}

low : (n : ℕ) → pos 0 ≤ℤ pos n
low n = omega (arith, ints)

high : (n m : ℕ) → n ≤ m → pos n ≤ℤ pos m
high n m h = omega (arith, ints)

flag_of : (b : Bool) → as_number b ≤ 1
flag_of true = omega arith
flag_of false = omega arith

holder_of : (holder : Option ℕ) → HolderFits holder → holder_number holder ≤ 16
holder_of None h = omega arith
holder_of (Some client) h = omega arith

pub fit : (o : Object) (s : State) → PlaceFits o.place → StateFits s → ValuesFit (Some (kind_of s)) (part_values o s)
fit o (Player p) place h = (low _, high _ _ place.0, (low _, high _ _ place.1, (low _, high _ _ h.1, (low _, high _ _ h.2, (low _, high _ _ h.3, tt)))))
fit o (Disc d) place h = (low _, high _ _ place.0, (low _, high _ _ place.1, tt))
fit o (Mine m) place h = (low _, high _ _ place.0, (low _, high _ _ place.1, (low _, high _ _ (flag_of m.armed), tt)))
fit o (Drone d) place h = (low _, high _ _ place.0, (low _, high _ _ place.1, (low _, high _ _ h, tt)))
fit o (Flag f) place h = (low _, high _ _ place.0, (low _, high _ _ place.1, (low _, high _ _ (holder_of f.holder h), tt)))
fit o (Clock c) place h = (low _, high _ _ h.0, (low _, high _ _ h.1, (low _, high _ _ h.2, tt)))

-- the values of an object at its number
pub ranges_at : (os : List Object) (k : ℕ) (values : List ℤ) → AllByRecursion ObjectFits os → Some values ≡ option_map values_of (slice_get os k) → ValuesFit (option_map (λ (o : Object). kind_of o.state) (slice_get os k)) values
ranges_at [] k values h e = absurd (cc)
ranges_at (o ∷ os) zero values h e =
    let same : values_of o ≡ values = cc in
    subst (λ (vs : List ℤ). ValuesFit (Some (kind_of o.state)) vs) same (fit o o.state h.0.place h.0.state)
ranges_at (o ∷ os) (suc k) values h e = ranges_at os k values h.1 e

-- ---- what a tick writes

abbrev AllFrom : (ℕ → ℤ → Type 0) → ℕ → List ℤ → Type 0
AllFrom P field [] = Unit {0}
AllFrom P field (y ∷ ys) = P field y × AllFrom P (suc field) ys

fit_from : (o : Object) (s : State) → PlaceFits o.place → StateFits s → AllFrom (ValueFits (Some (kind_of s))) 0 (part_values o s)
fit_from o (Player p) place h = ((low _, high _ _ place.0), ((low _, high _ _ place.1), ((low _, high _ _ h.1), ((low _, high _ _ h.2), ((low _, high _ _ h.3), tt)))))
fit_from o (Disc d) place h = ((low _, high _ _ place.0), ((low _, high _ _ place.1), tt))
fit_from o (Mine m) place h = ((low _, high _ _ place.0), ((low _, high _ _ place.1), ((low _, high _ _ (flag_of m.armed)), tt)))
fit_from o (Drone d) place h = ((low _, high _ _ place.0), ((low _, high _ _ place.1), ((low _, high _ _ h), tt)))
fit_from o (Flag f) place h = ((low _, high _ _ place.0), ((low _, high _ _ place.1), ((low _, high _ _ (holder_of f.holder h)), tt)))
fit_from o (Clock c) place h = ((low _, high _ _ h.0), ((low _, high _ _ h.1), ((low _, high _ _ h.2), tt)))

-- a write of this object, of a field and a value that pass, by the row of versions that were counted
record IsOf (P : ℕ → ℤ → Type 0) (number ticks : ℕ) (write : Write) : Type 0 where
  pub object : write.object ≡ number
  pub value : P write.field write.value
  pub first : 1 ≤ write.version
  pub last : write.version ≤ ticks + 1

field_of : (P : ℕ → ℤ → Type 0) (object field ticks : ℕ) (a b : ℤ) (v : ℕ) (rest : List Write) → P field b → v ≤ ticks → AllByRecursion (IsOf P object ticks) rest → AllByRecursion (IsOf P object ticks) (field_writes object field a b v ++ rest)
field_of P object field ticks a b v rest p few h = by (differs a b)
  where
    by : (written : Bool) → AllByRecursion (IsOf P object ticks) (cond written ((record { object = object; field = field; version = v + 1; value = b }) ∷ []) [] ++ rest)
    by true = (record { object = refl; value = p; first = omega arith; last = omega arith }, h)
    by false = h

row_of : (P : ℕ → ℤ → Type 0) (object field ticks : ℕ) (xs ys : List ℤ) (vs : List ℕ) → AllFrom P field ys → AllByRecursion (λ v. v ≤ ticks) vs → AllByRecursion (IsOf P object ticks) (row_writes object field xs ys vs)
unfolding row_writes
row_of P object field ticks [] ys vs p few = tt
row_of P object field ticks (x ∷ xs) [] vs p few = tt
row_of P object field ticks (x ∷ xs) (y ∷ ys) [] p few = tt
row_of P object field ticks (x ∷ xs) (y ∷ ys) (v ∷ vs) p few = field_of P object field ticks x y v (row_writes object (suc field) xs ys vs) p.0 few.0 (row_of P object (suc field) ticks xs ys vs p.1 few.1)

told : (old : Worlds) (object : ℕ) (ws : List Write) → object < length old.objects → AllByRecursion (IsOf (ValueFits (kind_at old object)) object old.ticks) ws → AllByRecursion (IsWriteOf old) ws
told old object [] there h = tt
told old object (w ∷ ws) there h = (
  record {
    object = omega (arith, h.0.object, there);
    value = subst (λ (k : ℕ). ValueFits (kind_at old k) w.field w.value) (sym h.0.object) h.0.value;
    first = h.0.first;
    last = h.0.last;
  },
  told old object ws there h.1,
)

both : (old : Worlds) (xs ys : List Write) → AllByRecursion (IsWriteOf old) xs → AllByRecursion (IsWriteOf old) ys → AllByRecursion (IsWriteOf old) (xs ++ ys)
both old [] ys h k = k
both old (x ∷ xs) ys h k = (h.0, both old xs ys h.1 k)

-- the objects after the tick from this number on, whose kinds are those before it
abbrev KindsFrom : Worlds → ℕ → List Object → List Object → Type 0
KindsFrom old i os after = (k : ℕ) → k < length os → (i + k < length old.objects) × (kind_at old (i + k) ≡ option_map (λ (o : Object). kind_of o.state) (slice_get after k))

writes_from : (old : Worlds) (i : ℕ) (os after : List Object) (vs : List (List ℕ)) → KindsFrom old i os after → AllByRecursion ObjectFits after → AllByRecursion (WasCounted old.ticks) vs → AllByRecursion (IsWriteOf old) (world_writes i os after vs)
unfolding world_writes
writes_from old i [] after vs kinds fits few = tt
writes_from old i (r ∷ os) [] vs kinds fits few = tt
writes_from old i (r ∷ os) (o ∷ after) [] kinds fits few = tt
writes_from old i (r ∷ os) (o ∷ after) (v ∷ vs) kinds fits few =
    let here = kinds 0 (omega arith) in
    let there : i < length old.objects = omega (arith, here.0) in
    let place : i + 0 ≡ i = omega arith in
    let kind : kind_at old i ≡ Some (kind_of o.state) = ap (λ k. kind_at old k) (sym place) ∙ here.1 in
    let all = fit_from o o.state fits.0.place fits.0.state in
    let ws = row_writes i 0 (values_of r) (values_of o) v in
    let row : AllByRecursion (IsOf (ValueFits (kind_at old i)) i old.ticks) ws = subst (λ (k : Option ℕ). AllByRecursion (IsOf (ValueFits k) i old.ticks) ws) (sym kind)
    (row_of (ValueFits (Some (kind_of o.state))) i 0 old.ticks (values_of r) (values_of o) v all few.0) in
    let later : KindsFrom old (suc i) os after = λ k less. (
      omega (arith, (kinds (suc k) (omega (arith, less))).0),
      ap (λ j. kind_at old j) (let e : suc i + k ≡ i + suc k = omega arith in e) ∙ (kinds (suc k) (omega (arith, less))).1,
    ) in
    both old ws (world_writes (suc i) os after vs) (told old i ws there row) (writes_from old (suc i) os after vs later fits.1 few.1)

-- each write of the tick behind a world
pub writes_fit : (w : Worlds) (moves : List (Option MoveBits)) (ws : List Write) → ws ≡ world_writes 0 w.objects (after w moves) w.versions → IsWorld w → AllByRecursion (IsWriteOf w) ws
unfolding next
writes_fit w moves ws e h =
    let kinds : KindsFrom w 0 w.objects (after w moves) = λ k less. (
      omega (arith, less),
      (let z : 0 + k ≡ k = omega arith in ap (λ j. kind_at w j) z ∙ sym (kind_stays w moves k less)),
    ) in
    subst (λ (vs : List Write). AllByRecursion (IsWriteOf w) vs) (sym e)
    (writes_from w 0 w.objects (after w moves) w.versions kinds (objects_fit w.objects moves (coming w) h.fits) h.counted)
