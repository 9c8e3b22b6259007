-- What the lanes lack after a tick, where they lacked nothing before it: one version at most of each field, of those that the tick wrote
-- and those of the objects that it made.
use Rattle.std.proofs.Common.{◌≡◌, ℕ, zero, suc, ◌+◌, ◌<◌, ◌≤◌, Bool, true, false, not, ◌&&◌, ◌||◌, ◌==◌, List, [], ◌∷◌, ◌++◌, length, map, replicate, Option, ◌∙◌, refl, sym, ap, subst, arith, nat_lt, nat_le}
use Rattle.std.specs.Prelude.{ℤ, is_some, slice_get, option_map, option_and_then, if◌then◌else◌}
use Rattle.std.specs.List.{All, list_any}
use Rattle.std.proofs.lemmas.Bool.Decides.{nat_tests}
use Rattle.std.proofs.lemmas.List.Elements.{All-nil, All-append, All-cons}
use Rattle.std.proofs.lemmas.List.Folds.{list_any-append}
use Rattle.dirty_lanes.specs.declared.limits.TheConstants.{MAX_LANE_FIELDS}
use Rattle.tn_types.specs.declared.moves.MoveBits.{MoveBits}
use Rattle.dirty_lanes.specs.declared.view.SimStep.{SimStep}
use Rattle.dirty_lanes.specs.Views.{newest}
use Rattle.world_rules.specs.declared.object.Object.{Object}
use Rattle.world_rules.specs.declared.object.State.{State}
use Rattle.world_rules.specs.declared.object.State.TheVariants.{Player, Disc, Mine, Drone, Flag, Clock}
use Rattle.world_rules.specs.declared.setup.Setup.{Setup}
use Rattle.world_sim.specs.declared.rows.Write.{Write}
use Rattle.world_sim.specs.Rows.{values_of, part_values, differs, fresh_versions, field_writes, row_versions, row_writes, versions_next, world_writes}
use Rattle.world_sim.specs.Worlds.{Worlds, AreOfFields, first_world, next, after, coming, value_at, version_at}
use Rattle.world_sim.proofs.Histories.{HaveSameFields, same_fields_next}
use Rattle.world_lanes.specs.Behind.{is_unwritten, is_behind, objects_below, Brings, IsBrought}
use Rattle.world_lanes.specs.Storing.{objects_between, is_near, IsNear}
use Rattle.world_lanes.specs.Ticked.{is_write_of, is_written, IsTicked}
use Rattle.world_lanes.proofs.Again.{still_behind, brings_again}
use Rattle.world_lanes.proofs.Bringing.{brings_by}

never : true ≡ false → ⊥
never e = cc

least : (n : ℕ) → nat_le 0 n ≡ true
least n = grind (arith, nat_tests)

same_number : (n : ℕ) → (n == n) ≡ true
same_number n = grind (arith, nat_tests)

below_or : (a b : Bool) → b ≡ true → (a || b) ≡ true
below_or true b e = refl
below_or false b e = e

or_first : (a b : Bool) → a ≡ true → (a || b) ≡ true
or_first true b e = refl
or_first false b e = absurd (never (sym e))

-- what the lanes lack of a field that they wrote so often: one version at most, and only of those that were written or made
record Lacks (n : ℕ) (value : Option ℤ) (version : Option ℕ) (chosen : Bool) : Type 0 where
  pub near : is_near n version ≡ true
  pub lacking : (is_some value && is_unwritten n version) ≡ true → chosen ≡ true

lacks_more : (n : ℕ) (value : Option ℤ) (version : Option ℕ) (less more : Bool) → (less ≡ true → more ≡ true) → Lacks n value version less → Lacks n value version more
lacks_more n value version less more m x = record { near = x.near; lacking = λ e. m (x.lacking e) }

-- ---- one field

counted_one : (d : Bool) (v n : ℕ) → nat_le n v ≡ false → nat_le (if d then v + 1 else v) n ≡ true
counted_one true v n e = grind (arith, nat_tests)
counted_one false v n e = grind (arith, nat_tests)

lacking_one : (d : Bool) (v n : ℕ) → nat_le n v ≡ false → nat_le n (if d then v + 1 else v) ≡ true → d ≡ true
lacking_one true v n e f = refl
lacking_one false v n e f = absurd (never (sym f ∙ e))

here : (object field : ℕ) (x y : ℤ) (v : ℕ) → differs x y ≡ true → list_any (is_write_of object (field + 0)) (field_writes object field x y v) ≡ true
here object field x y v d =
    let z : field + 0 ≡ field = omega arith in
    rw (d, z, same_number object, same_number field) refl

field_lacks : (object field : ℕ) (xs ys : List ℤ) (vs : List ℕ) (k n : ℕ) → length xs ≡ length ys → length xs ≡ length vs
    → (is_some (slice_get xs k) && is_unwritten n (slice_get vs k)) ≡ false
    → Lacks n (slice_get ys k) (slice_get (row_versions xs ys vs) k) (list_any (is_write_of object (field + k)) (row_writes object field xs ys vs))
unfolding row_versions row_writes
field_lacks object field [] [] vs k n l m e = record { near = refl; lacking = λ f. absurd (never (sym f)) }
field_lacks object field [] (y ∷ ys) vs k n l m e = absurd (omega (arith, l))
field_lacks object field (x ∷ xs) [] vs k n l m e = absurd (omega (arith, l))
field_lacks object field (x ∷ xs) (y ∷ ys) [] k n l m e = absurd (omega (arith, m))
field_lacks object field (x ∷ xs) (y ∷ ys) (v ∷ vs) zero n l m e = record {
  near = counted_one (differs x y) v n e;
  lacking = λ f.
      list_any-append (is_write_of object (field + 0)) (field_writes object field x y v) (row_writes object (suc field) xs ys vs)
      ∙ or_first (list_any (is_write_of object (field + 0)) (field_writes object field x y v)) (list_any (is_write_of object (field + 0)) (row_writes object (suc field) xs ys vs))
      (here object field x y v (lacking_one (differs x y) v n e f));
}
field_lacks object field (x ∷ xs) (y ∷ ys) (v ∷ vs) (suc k) n l m e =
    let own = row_writes object (suc field) xs ys vs in
    let at : suc field + k ≡ field + suc k = omega arith in
    lacks_more n (slice_get ys k) (slice_get (row_versions xs ys vs) k) (list_any (is_write_of object (suc field + k)) own)
    (list_any (is_write_of object (field + suc k)) (field_writes object field x y v ++ own))
    (λ w. list_any-append (is_write_of object (field + suc k)) (field_writes object field x y v) own
    ∙ below_or (list_any (is_write_of object (field + suc k)) (field_writes object field x y v)) (list_any (is_write_of object (field + suc k)) own)
    (ap (λ (j : ℕ). list_any (is_write_of object j) own) (sym at) ∙ w))
    (field_lacks object (suc field) xs ys vs k n (omega (arith, l)) (omega (arith, m)) e)

-- ---- all objects

abbrev pub value_in : List Object → ℕ → ℕ → Option ℤ
value_in os object field = option_and_then (λ values. slice_get values field) (option_map values_of (slice_get os object))

abbrev pub version_in : List (List ℕ) → ℕ → ℕ → Option ℕ
version_in vs object field = option_and_then (λ versions. slice_get versions field) (slice_get vs object)

zeros_near : (n m k : ℕ) → is_near n (slice_get (replicate m 0) k) ≡ true
zeros_near n zero k = refl
zeros_near n (suc m) zero = least n
zeros_near n (suc m) (suc k) = zeros_near n m k

made_near : (n : ℕ) (os : List Object) (k f : ℕ) → is_near n (version_in (map fresh_versions os) k f) ≡ true
made_near n [] k f = refl
made_near n (o ∷ os) zero f = zeros_near n (length (values_of o)) f
made_near n (o ∷ os) (suc k) f = made_near n os k f

later_or : (a b c d : Bool) → ((a ≡ true) → c ≡ true) → ((b ≡ true) → d ≡ true) → (a || b) ≡ true → (c || d) ≡ true
later_or true b c d x y e = or_first c d (x refl)
later_or false b c d x y e = below_or c d (y e)

objects_lack : (i : ℕ) (os later : List Object) (vs : List (List ℕ)) (k f n : ℕ) → HaveSameFields os later → AreOfFields os vs
    → (is_some (value_in os k f) && is_unwritten n (version_in vs k f)) ≡ false
    → Lacks n (value_in later k f) (version_in (versions_next os later vs) k f) (list_any (is_write_of (i + k) f) (world_writes i os later vs) || nat_le (length os) k)
unfolding versions_next world_writes
objects_lack i [] later vs k f n s h e = record { near = made_near n later k f; lacking = λ u. least k }
objects_lack i (o ∷ os) [] vs k f n s h e = absurd s
objects_lack i (o ∷ os) (p ∷ later) [] k f n s h e = absurd h
objects_lack i (o ∷ os) (p ∷ later) (v ∷ vs) zero f n s h e =
    let own = row_writes i 0 (values_of o) (values_of p) v in
    let all = own ++ world_writes (suc i) os later vs in
    let z : i + 0 ≡ i = omega arith in
    let g : 0 + f ≡ f = omega arith in
    lacks_more n (slice_get (values_of p) f) (slice_get (row_versions (values_of o) (values_of p) v) f) (list_any (is_write_of i (0 + f)) own)
    (list_any (is_write_of (i + 0) f) all || nat_le (length (o ∷ os)) 0)
    (λ w. or_first (list_any (is_write_of (i + 0) f) all) (nat_le (length (o ∷ os)) 0)
    (ap (λ (j : ℕ). list_any (is_write_of j f) all) z ∙ list_any-append (is_write_of i f) own (world_writes (suc i) os later vs)
    ∙ or_first (list_any (is_write_of i f) own) (list_any (is_write_of i f) (world_writes (suc i) os later vs))
    (ap (λ (j : ℕ). list_any (is_write_of i j) own) (sym g) ∙ w)))
    (field_lacks i 0 (values_of o) (values_of p) v f n s.0 h.0 e)
objects_lack i (o ∷ os) (p ∷ later) (v ∷ vs) (suc k) f n s h e =
    let own = row_writes i 0 (values_of o) (values_of p) v in
    let rest = world_writes (suc i) os later vs in
    let at : suc i + k ≡ i + suc k = omega arith in
    lacks_more n (value_in later k f) (version_in (versions_next os later vs) k f) (list_any (is_write_of (suc i + k) f) rest || nat_le (length os) k)
    (list_any (is_write_of (i + suc k) f) (own ++ rest) || nat_le (length (o ∷ os)) (suc k))
    (later_or (list_any (is_write_of (suc i + k) f) rest) (nat_le (length os) k) (list_any (is_write_of (i + suc k) f) (own ++ rest)) (nat_le (length (o ∷ os)) (suc k))
    (λ w. list_any-append (is_write_of (i + suc k) f) own rest
    ∙ below_or (list_any (is_write_of (i + suc k) f) own) (list_any (is_write_of (i + suc k) f) rest) (ap (λ (j : ℕ). list_any (is_write_of j f) rest) (sym at) ∙ w))
    (λ w. grind (arith, nat_tests, w)))
    (objects_lack (suc i) os later vs k f n s.1 h.1 e)

tick_lacks : (before : Worlds) (moves : List (Option MoveBits)) (steps : List SimStep) → AreOfFields before.objects before.versions → IsBrought before steps
    → (o f : ℕ) → Lacks (newest steps o f) (value_at (next before moves) o f) (version_at (next before moves) o f)
    (is_written (next before moves).writes o f || nat_le (length before.objects) o)
unfolding next
tick_lacks before moves steps of brought o f =
    let z : 0 + o ≡ o = omega arith in
    let writes = world_writes 0 before.objects (after before moves) before.versions in
    subst (λ (j : ℕ). Lacks (newest steps o f) (value_in (after before moves) o f) (version_in (versions_next before.objects (after before moves) before.versions) o f)
    (list_any (is_write_of j f) writes || nat_le (length before.objects) o)) z
    (objects_lack 0 before.objects (after before moves) before.versions o f (newest steps o f) (same_fields_next before.objects moves (coming before)) of (brought o f))

module _ (w : Worlds) (had : ℕ) (steps : List SimStep) (is : IsTicked w had steps) where
  lacks : (o f : ℕ) → Lacks (newest steps o f) (value_at w o f) (version_at w o f) (is_written w.writes o f || nat_le had o)
  lacks o f =
      let tick = is.1.1 in
      subst (λ (v : Worlds). Lacks (newest steps o f) (value_at v o f) (version_at v o f) (is_written v.writes o f || nat_le had o)) (sym tick.next)
      (subst (λ (n : ℕ). Lacks (newest steps o f) (value_at (next is.1.0 is.0) o f) (version_at (next is.1.0 is.0) o f) (is_written (next is.1.0 is.0).writes o f || nat_le n o)) tick.objects
      (tick_lacks is.1.0 is.0 steps tick.versions tick.brought o f))

  pub near_after : IsNear w steps
  near_after o f = (lacks o f).near

  pub lacking_after : (o f : ℕ) → is_behind w steps o f ≡ true → (is_written w.writes o f || nat_le had o) ≡ true
  lacking_after o f = (lacks o f).lacking

-- ---- what is there

some_below : {X : Type 0} (xs : List X) (k : ℕ) → is_some (slice_get xs k) ≡ true → k < length xs
some_below [] k e = absurd (never (sym e))
some_below (x ∷ xs) zero e = omega arith
some_below (x ∷ xs) (suc k) e = let h = some_below xs k e in omega (arith, h)

part_few : (o : Object) (s : State) → length (part_values o s) ≤ 5
part_few o (Player p) = omega arith
part_few o (Disc d) = omega arith
part_few o (Mine m) = omega arith
part_few o (Drone d) = omega arith
part_few o (Flag f) = omega arith
part_few o (Clock k) = omega arith

there_in : (os : List Object) (k f : ℕ) → is_some (value_in os k f) ≡ true → (k < length os) × (f < MAX_LANE_FIELDS)
there_in [] k f e = absurd (never (sym e))
there_in (o ∷ os) zero f e = let h = some_below (values_of o) f e in let m = part_few o o.state in (omega arith, omega (arith, h, m))
there_in (o ∷ os) (suc k) f e = let h = there_in os k f e in let l = h.0 in (omega (arith, l), h.1)

left_true : (a b : Bool) → (a && b) ≡ true → a ≡ true
left_true true b e = refl
left_true false b e = e

both_below : (k n f m : ℕ) → k < n → f < m → (nat_lt k n && nat_lt f m) ≡ true
both_below k n f m a b =
    let x : nat_lt k n ≡ true = grind (arith, nat_tests, a) in
    let y : nat_lt f m ≡ true = grind (arith, nat_tests, b) in
    rw (x, y) refl

-- the lanes are behind in fields that are there alone
pub behind_there : (w : Worlds) (steps : List SimStep) (o f : ℕ) → is_behind w steps o f ≡ true → objects_below (length w.objects) o f ≡ true
behind_there w steps o f e =
    let h = there_in w.objects o f (left_true (is_some (value_at w o f)) (is_unwritten (newest steps o f) (version_at w o f)) e) in
    both_below o (length w.objects) f MAX_LANE_FIELDS h.0 h.1

none_left : (c b : Bool) → (b ≡ true → c ≡ true) → (not c && b) ≡ false
none_left true b h = refl
none_left false true h = absurd (never (sym (h refl)))
none_left false false h = refl

-- all that is there was stored, where one version at most was lacking
pub whole_after : (w : Worlds) (a b : List SimStep) → IsNear w a → Brings w (objects_below (length w.objects)) a b → IsBrought w b
whole_after w a b near x o f =
    still_behind w (objects_below (length w.objects)) a b near x o f ∙ none_left (objects_below (length w.objects) o f) (is_behind w a o f) (behind_there w a o f)

pub first_near : (w : Worlds) (steps : List SimStep) (seed : ℕ) (setup : Setup) → w ≡ first_world seed setup → IsNear w steps
first_near w steps seed setup e o f =
    let is : version_at w o f ≡ version_at (first_world seed setup) o f = ap (λ (v : Worlds). version_at v o f) e in
    ap (is_near (newest steps o f)) is ∙ made_near (newest steps o f) (first_world seed setup).objects o f

-- ---- what a tick wrote

IsPlace : ℕ → Write → Type 0
IsPlace most w = (w.object < most) × (w.field < MAX_LANE_FIELDS)

by_difference : (most object field v : ℕ) (y : ℤ) (d : Bool) → object < most → field < MAX_LANE_FIELDS
    → All (IsPlace most) (if d then (record { object = object; field = field; version = v + 1; value = y }) ∷ [] else [])
unfolding IsPlace
by_difference most object field v y true a b = All-cons (IsPlace most) (record { object = object; field = field; version = v + 1; value = y }) [] (a, b) (All-nil (IsPlace most))
by_difference most object field v y false a b = All-nil (IsPlace most)

one_place : (most object field : ℕ) (x y : ℤ) (v : ℕ) → object < most → field < MAX_LANE_FIELDS → All (IsPlace most) (field_writes object field x y v)
one_place most object field x y v a b = by_difference most object field v y (differs x y) a b

row_places : (most object field : ℕ) (xs ys : List ℤ) (vs : List ℕ) → object < most → field + length ys ≤ MAX_LANE_FIELDS → All (IsPlace most) (row_writes object field xs ys vs)
unfolding row_writes
row_places most object field [] ys vs a b = All-nil (IsPlace most)
row_places most object field (x ∷ xs) [] vs a b = All-nil (IsPlace most)
row_places most object field (x ∷ xs) (y ∷ ys) [] a b = All-nil (IsPlace most)
row_places most object field (x ∷ xs) (y ∷ ys) (v ∷ vs) a b =
    All-append (IsPlace most) (field_writes object field x y v) (row_writes object (suc field) xs ys vs) (one_place most object field x y v a (omega (arith, b)))
    (row_places most object (suc field) xs ys vs a (omega (arith, b)))

world_places : (most i : ℕ) (os later : List Object) (vs : List (List ℕ)) → i + length later ≤ most → All (IsPlace most) (world_writes i os later vs)
unfolding world_writes
world_places most i [] later vs a = All-nil (IsPlace most)
world_places most i (o ∷ os) [] vs a = All-nil (IsPlace most)
world_places most i (o ∷ os) (p ∷ later) [] a = All-nil (IsPlace most)
world_places most i (o ∷ os) (p ∷ later) (v ∷ vs) a =
    let few = part_few p p.state in
    All-append (IsPlace most) (row_writes i 0 (values_of o) (values_of p) v) (world_writes (suc i) os later vs)
    (row_places most i 0 (values_of o) (values_of p) v (omega (arith, a)) (omega (arith, few)))
    (world_places most (suc i) os later vs (omega (arith, a)))

tick_places : (before : Worlds) (moves : List (Option MoveBits)) → All (IsPlace (length (next before moves).objects)) (next before moves).writes
unfolding next
tick_places before moves = world_places (length (after before moves)) 0 before.objects (after before moves) before.versions (omega arith)

as_many : (os later : List Object) → HaveSameFields os later → length os ≤ length later
as_many [] later s = omega arith
as_many (o ∷ os) [] s = absurd s
as_many (o ∷ os) (p ∷ later) s = let h = as_many os later s.1 in omega (arith, h)

more_next : (before : Worlds) (moves : List (Option MoveBits)) → length before.objects ≤ length (next before moves).objects
unfolding next
more_next before moves = as_many before.objects (after before moves) (same_fields_next before.objects moves (coming before))

module _ (w : Worlds) (had : ℕ) (steps : List SimStep) (is : IsTicked w had steps) where
  places : All (IsPlace (length w.objects)) w.writes
  places = subst (λ (v : Worlds). All (IsPlace (length v.objects)) v.writes) (sym is.1.1.next) (tick_places is.1.0 is.0)

  pub objects_after : All (λ x. x.object < length w.objects) w.writes
  unfolding IsPlace
  objects_after k d l = (places k d l).0

  pub fields_after : All (λ x. x.field < MAX_LANE_FIELDS) w.writes
  unfolding IsPlace
  fields_after k d l = (places k d l).1

  pub more_after : had ≤ length w.objects
  more_after =
      let m = more_next is.1.0 is.0 in
      let e = ap (λ (v : Worlds). length v.objects) is.1.1.next in
      let o = is.1.1.objects in
      omega (arith, m, e, o)

-- ---- all of it

same_where : (c d b : Bool) → (b ≡ true → c ≡ true) → (b ≡ true → d ≡ true) → (c && b) ≡ (d && b)
same_where c d true x y = rw (x refl, y refl) refl
same_where true true false x y = refl
same_where true false false x y = refl
same_where false true false x y = refl
same_where false false false x y = refl

chosen_too : (a l o : Bool) → o ≡ true → (a || l) ≡ true → (a || (l && o)) ≡ true
chosen_too true l o e f = refl
chosen_too false true o e f = e
chosen_too false false o e f = f

-- what the tick wrote and made is all that the lanes lack
pub chosen_after : (w : Worlds) (had : ℕ) (steps : List SimStep) → IsTicked w had steps → (o f : ℕ)
    → ((is_written w.writes o f || objects_between had (length w.objects) o f) && is_behind w steps o f) ≡ (objects_below (length w.objects) o f && is_behind w steps o f)
chosen_after w had steps is o f =
    same_where (is_written w.writes o f || objects_between had (length w.objects) o f) (objects_below (length w.objects) o f) (is_behind w steps o f)
    (λ e. chosen_too (is_written w.writes o f) (nat_le had o) (objects_below (length w.objects) o f) (behind_there w steps o f e) (lacking_after w had steps is o f e))
    (behind_there w steps o f)

all_from : (w : Worlds) (o f : ℕ) (steps : List SimStep) → (objects_between 0 (length w.objects) o f && is_behind w steps o f) ≡ (objects_below (length w.objects) o f && is_behind w steps o f)
all_from w o f steps = ap (λ (b : Bool). (b && objects_below (length w.objects) o f) && is_behind w steps o f) (least o)

-- the same, where the fields of all objects from the first on were stored
pub whole_from : (w : Worlds) (a b : List SimStep) → IsNear w a → Brings w (objects_between 0 (length w.objects)) a b → IsBrought w b
whole_from w a b near x =
    whole_after w a b near (brings_by w (objects_between 0 (length w.objects)) (objects_below (length w.objects)) a b (λ o f. all_from w o f a) x)

-- the writes were stored, and then the fields of the objects that were made
pub brings_after : (w : Worlds) (had : ℕ) (a b c : List SimStep) → IsTicked w had a → Brings w (is_written w.writes) a b
    → Brings w (objects_between had (length w.objects)) b c → Brings w (objects_below (length w.objects)) a c
brings_after w had a b c is x y =
    let chosen : ℕ → ℕ → Bool = λ o f. is_written w.writes o f || objects_between had (length w.objects) o f in
    brings_by w chosen (objects_below (length w.objects)) a c (chosen_after w had a is)
    (brings_again w (is_written w.writes) (objects_between had (length w.objects)) chosen a b c (near_after w had a is) x y (λ o f. refl))
