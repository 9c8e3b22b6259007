-- To add what a tick wrote and made is to add all values of the world after it.
use Rattle.std.proofs.Common.{◌≡◌, ℕ, zero, suc, ◌+◌, ◌-◌, ◌<◌, ◌≤◌, Bool, true, false, List, [], ◌∷◌, ◌++◌, length, map, drop, get_or, set, refl, ap, sym, ◌∙◌, arith, Option, Some}
use Rattle.std.specs.Prelude.{ℤ, pos, negsuc, slice_get, option_map, option_and_then, if◌then◌else◌}
use Rattle.std.specs.Option.{unwrap_or}
use Rattle.std.specs.List.{AllByRecursion}
use Rattle.tn_types.specs.declared.moves.MoveBits.{MoveBits}
use Rattle.world_rules.specs.declared.object.Object.{Object}
use Rattle.world_sim.specs.declared.rows.Write.{Write}
use Rattle.world_sim.specs.Rows.{differs, values_of, row_writes, world_writes}
use Rattle.world_sim.specs.Worlds.{Worlds, AreOfFields, next, after, coming, value_at}
use Rattle.world_sim.proofs.Histories.{HaveSameFields, same_fields_next, same_value}
use Rattle.race_history.specs.History.{Values, HasVersions, worlds_from, world_after, versions_told, field_history, IsHistoryOf}
use Rattle.race_history.specs.Growing.{grown, grown_later, changed_at, with_value, with_write, with_writes, with_row, with_rows, with_new}
use Rattle.race_history.proofs.Extending.{with_item}
use Rattle.race_history.proofs.Histories.{length_of_fields, length_of_row, rows_of, history_grows, goes_on_by}

-- ---- a change at a place

pub changed_there : {A : Type 0} (change : A → A) (xs : List A) (i : ℕ) (a b : A) → i < length xs → a ≡ get_or xs i a → b ≡ change a → set xs i b ≡ changed_at i change xs
changed_there change [] i a b l e f = absurd (omega (arith, l))
changed_there change (x ∷ xs) zero a b l e f = ap (λ y. y ∷ xs) (f ∙ ap change e)
changed_there change (x ∷ xs) (suc i) a b l e f = ap (λ ys. x ∷ ys) (changed_there change xs i a b (omega (arith, l)) e f)

pub unchanged_past : {A : Type 0} (change : A → A) (xs : List A) (i : ℕ) → length xs ≤ i → xs ≡ changed_at i change xs
unchanged_past change [] i l = refl
unchanged_past change (x ∷ xs) zero l = absurd (omega (arith, l))
unchanged_past change (x ∷ xs) (suc i) l = ap (λ ys. x ∷ ys) (unchanged_past change xs i (omega (arith, l)))

-- ---- several changes, where numbers count from i

module _ {A : Type 0} (key : Write → ℕ) (step : Write → A → A) where
  abbrev applied : ℕ → List A → List Write → List A
  applied i xs [] = xs
  applied i xs (w ∷ ws) = applied i (changed_at (key w - i) (step w) xs) ws

  abbrev folded : A → List Write → A
  folded x [] = x
  folded x (w ∷ ws) = folded (step w x) ws

  append : (i : ℕ) (xs : List A) (a b : List Write) → applied i xs (a ++ b) ≡ applied i (applied i xs a) b
  append i xs [] b = refl
  append i xs (w ∷ a) b = append i (changed_at (key w - i) (step w) xs) a b

  none : (i : ℕ) (ws : List Write) → applied i [] ws ≡ []
  none i [] = refl
  none i (w ∷ ws) = none i ws

  -- all of the first
  stay : (i : ℕ) (x : A) (xs : List A) (ws : List Write) → AllByRecursion (λ w. key w ≡ i) ws → applied i (x ∷ xs) ws ≡ folded x ws ∷ xs
  stay i x xs [] h = refl
  stay i x xs (w ∷ ws) h =
      let z : key w - i ≡ 0 = let e = h.0 in omega (arith, e) in
      ap (λ (k : ℕ). applied i (changed_at k (step w) (x ∷ xs)) ws) z ∙ stay i (step w x) xs ws h.1

  -- none of the first
  skip : (i : ℕ) (x : A) (xs : List A) (ws : List Write) → AllByRecursion (λ w. suc i ≤ key w) ws → applied i (x ∷ xs) ws ≡ x ∷ applied (suc i) xs ws
  skip i x xs [] h = refl
  skip i x xs (w ∷ ws) h =
      let z : key w - i ≡ suc (key w - suc i) = let e = h.0 in omega (arith, e) in
      ap (λ (k : ℕ). applied i (changed_at k (step w) (x ∷ xs)) ws) z ∙ skip i x (changed_at (key w - suc i) (step w) xs) ws h.1

-- ---- one field

-- a value that came last is no version when it comes again
differs_not : (x : ℤ) → differs x x ≡ false
differs_not (pos a) = grind (arith)
differs_not (negsuc a) = grind (arith)

alone : (x : ℤ) → (if differs x x then x ∷ [] else []) ≡ []
alone x = ap (λ (t : Bool). if t then x ∷ [] else []) (differs_not x)

again_by : (d : Bool) (before x : ℤ) → differs before x ≡ d → grown_later before (if d then x ∷ [] else []) x ≡ (if d then x ∷ [] else [])
again_by true before x e = ap (λ (vs : List ℤ). x ∷ vs) (alone x)
again_by false before x e = ap (λ (t : Bool). if t then x ∷ [] else []) e

later_again : (before : ℤ) (later : List ℤ) (x : ℤ) → grown_later before (grown_later before later x) x ≡ grown_later before later x
later_again before [] x = again_by (differs before x) before x refl
later_again before (v ∷ later) x = ap (λ (vs : List ℤ). v ∷ vs) (later_again v later x)

grown_again : (told : List ℤ) (x : ℤ) → grown (grown told x) x ≡ grown told x
grown_again [] x = ap (λ (vs : List ℤ). x ∷ vs) (alone x)
grown_again (v ∷ later) x = ap (λ (vs : List ℤ). v ∷ vs) (later_again v later x)

-- ---- what holds of each of several writes

weaker : (P Q : Write → Type 0) (ws : List Write) → ((w : Write) → P w → Q w) → AllByRecursion P ws → AllByRecursion Q ws
weaker P Q [] f h = tt
weaker P Q (w ∷ ws) f h = (f w h.0, weaker P Q ws f h.1)

both : (P : Write → Type 0) (a b : List Write) → AllByRecursion P a → AllByRecursion P b → AllByRecursion P (a ++ b)
both P [] b h k = k
both P (w ∷ a) b h k = (h.0, both P a b h.1 k)

with_one : (P : Write → Type 0) (d : Bool) (w : Write) (ws : List Write) → P w → AllByRecursion P ws → AllByRecursion P ((if d then w ∷ [] else []) ++ ws)
with_one P true w ws x h = (x, h)
with_one P false w ws x h = h

-- ---- the fields of one object

-- the fields with this value written, and the objects
abbrev field_step : Write → List ℤ → List ℤ
field_step w told = grown told w.value

abbrev field_of : Write → ℕ
field_of w = w.field

abbrev object_of : Write → ℕ
object_of w = w.object

-- no field grows by the value that it has
abbrev AreSettled : List (List ℤ) → List ℤ → Type 0
AreSettled told [] = Unit {0}
AreSettled [] (x ∷ xs) = ⊥
AreSettled (u ∷ told) (x ∷ xs) = (grown u x ≡ u) × AreSettled told xs

fields_from : (object field : ℕ) (xs ys : List ℤ) (vs : List ℕ) → AllByRecursion (λ w. field ≤ w.field) (row_writes object field xs ys vs)
unfolding row_writes
fields_from object field [] ys vs = tt
fields_from object field (x ∷ xs) [] vs = tt
fields_from object field (x ∷ xs) (y ∷ ys) [] = tt
fields_from object field (x ∷ xs) (y ∷ ys) (v ∷ vs) =
    with_one (λ w. field ≤ w.field) (differs x y) (record { object = object; field = field; version = v + 1; value = y }) (row_writes object (suc field) xs ys vs) (omega arith)
    (weaker (λ w. suc field ≤ w.field) (λ w. field ≤ w.field) (row_writes object (suc field) xs ys vs) (λ w h. omega (arith, h)) (fields_from object (suc field) xs ys vs))

own_object : (object field : ℕ) (xs ys : List ℤ) (vs : List ℕ) → AllByRecursion (λ w. w.object ≡ object) (row_writes object field xs ys vs)
unfolding row_writes
own_object object field [] ys vs = tt
own_object object field (x ∷ xs) [] vs = tt
own_object object field (x ∷ xs) (y ∷ ys) [] = tt
own_object object field (x ∷ xs) (y ∷ ys) (v ∷ vs) =
    with_one (λ w. w.object ≡ object) (differs x y) (record { object = object; field = field; version = v + 1; value = y }) (row_writes object (suc field) xs ys vs) refl
    (own_object object (suc field) xs ys vs)

objects_from : (i : ℕ) (os later : List Object) (vs : List (List ℕ)) → AllByRecursion (λ w. i ≤ w.object) (world_writes i os later vs)
unfolding world_writes
objects_from i [] later vs = tt
objects_from i (o ∷ os) [] vs = tt
objects_from i (o ∷ os) (p ∷ later) [] = tt
objects_from i (o ∷ os) (p ∷ later) (v ∷ vs) =
    both (λ w. i ≤ w.object) (row_writes i 0 (values_of o) (values_of p) v) (world_writes (suc i) os later vs)
    (weaker (λ w. w.object ≡ i) (λ w. i ≤ w.object) (row_writes i 0 (values_of o) (values_of p) v) (λ w h. omega (arith, h)) (own_object i 0 (values_of o) (values_of p) v))
    (weaker (λ w. suc i ≤ w.object) (λ w. i ≤ w.object) (world_writes (suc i) os later vs) (λ w h. omega (arith, h)) (objects_from (suc i) os later vs))

-- a field with its write, if it is one
field_applied : (d : Bool) (object field : ℕ) (x y : ℤ) (v : ℕ) (u : List ℤ) (told : List (List ℤ)) (rest : List Write) → differs x y ≡ d → grown u x ≡ u
    → applied field_of field_step field (u ∷ told) ((if d then (record { object = object; field = field; version = v + 1; value = y }) ∷ [] else []) ++ rest)
    ≡ applied field_of field_step field (grown u y ∷ told) rest
field_applied true object field x y v u told rest e s =
    let z : field - field ≡ 0 = omega arith in
    ap (λ (k : ℕ). applied field_of field_step field (changed_at k (λ (t : List ℤ). grown t y) (u ∷ told)) rest) z
field_applied false object field x y v u told rest e s =
    ap (λ (t : List ℤ). applied field_of field_step field (t ∷ told) rest) (sym (ap (grown u) (sym (same_value x y e)) ∙ s))

row_applied : (object field : ℕ) (told : List (List ℤ)) (xs ys : List ℤ) (vs : List ℕ) → length told ≡ length xs → length xs ≡ length ys → length xs ≡ length vs → AreSettled told xs
    → applied field_of field_step field told (row_writes object field xs ys vs) ≡ with_row told ys
unfolding row_writes
row_applied object field [] [] [] vs k l m s = refl
row_applied object field [] [] (y ∷ ys) vs k l m s = absurd (omega (arith, l))
row_applied object field (u ∷ told) [] ys vs k l m s = absurd (omega (arith, k))
row_applied object field [] (x ∷ xs) ys vs k l m s = absurd (omega (arith, k))
row_applied object field (u ∷ told) (x ∷ xs) [] vs k l m s = absurd (omega (arith, l))
row_applied object field (u ∷ told) (x ∷ xs) (y ∷ ys) [] k l m s = absurd (omega (arith, m))
row_applied object field (u ∷ told) (x ∷ xs) (y ∷ ys) (v ∷ vs) k l m s =
    field_applied (differs x y) object field x y v u told (row_writes object (suc field) xs ys vs) refl s.0
    ∙ skip field_of field_step field (grown u y) told (row_writes object (suc field) xs ys vs) (fields_from object (suc field) xs ys vs)
    ∙ ap (λ (ts : List (List ℤ)). grown u y ∷ ts) (row_applied object (suc field) told xs ys vs (omega (arith, k)) (omega (arith, l)) (omega (arith, m)) s.1)

-- ---- all objects

value_folded : (told : List (List ℤ)) (ws : List Write) → folded object_of with_value told ws ≡ applied field_of field_step 0 told ws
value_folded told [] = refl
value_folded told (w ∷ ws) =
    let z : w.field - 0 ≡ w.field = omega arith in
    value_folded (with_value w told) ws ∙ ap (λ (k : ℕ). applied field_of field_step 0 (changed_at k (field_step w) told) ws) (sym z)

writes_applied : (values : Values) (ws : List Write) → with_writes ws values ≡ applied object_of with_value 0 values ws
writes_applied values [] = refl
writes_applied values (w ∷ ws) =
    let z : w.object - 0 ≡ w.object = omega arith in
    writes_applied (with_write w values) ws ∙ ap (λ (k : ℕ). applied object_of with_value 0 (changed_at k (with_value w) values) ws) (sym z)

-- of each object, as many fields as it has, and none grows by the value that it has
abbrev AreAllSettled : Values → List Object → Type 0
AreAllSettled [] [] = Unit {0}
AreAllSettled (t ∷ values) [] = ⊥
AreAllSettled [] (o ∷ os) = ⊥
AreAllSettled (t ∷ values) (o ∷ os) = (length t ≡ length (values_of o)) × (AreSettled t (values_of o) × AreAllSettled values os)

all_new : (rows : List (List ℤ)) → map (with_row []) rows ≡ with_rows [] rows
all_new [] = refl
all_new (row ∷ rows) = ap (λ (ts : Values). with_row [] row ∷ ts) (all_new rows)

world_applied : (i : ℕ) (values : Values) (os later : List Object) (vs : List (List ℕ)) → AreAllSettled values os → HaveSameFields os later → AreOfFields os vs
    → applied object_of with_value i values (world_writes i os later vs) ++ map (with_row []) (drop (length values) (map values_of later)) ≡ with_rows values (map values_of later)
unfolding world_writes
world_applied i [] [] later vs h s f = all_new (map values_of later)
world_applied i (t ∷ values) [] later vs h s f = absurd h
world_applied i [] (o ∷ os) later vs h s f = absurd h
world_applied i (t ∷ values) (o ∷ os) [] vs h s f = absurd s
world_applied i (t ∷ values) (o ∷ os) (p ∷ later) [] h s f = absurd f
world_applied i (t ∷ values) (o ∷ os) (p ∷ later) (v ∷ vs) h s f =
    let own = row_writes i 0 (values_of o) (values_of p) v in
    let rest = world_writes (suc i) os later vs in
    let new = map (with_row []) (drop (length values) (map values_of later)) in
    let first : applied object_of with_value i (t ∷ values) (own ++ rest) ≡ with_row t (values_of p) ∷ applied object_of with_value (suc i) values rest =
    append object_of with_value i (t ∷ values) own rest
    ∙ ap (λ (ts : Values). applied object_of with_value i ts rest)
    (stay object_of with_value i t values own (own_object i 0 (values_of o) (values_of p) v)
    ∙ ap (λ (u : List (List ℤ)). u ∷ values) (value_folded t own ∙ row_applied i 0 t (values_of o) (values_of p) v h.0 s.0 f.0 h.1.0))
    ∙ skip object_of with_value i (with_row t (values_of p)) values rest (objects_from (suc i) os later vs) in
    ap (λ (ts : Values). ts ++ new) first ∙ ap (λ (ts : Values). with_row t (values_of p) ∷ ts) (world_applied (suc i) values os later vs h.1.1 s.1 f.1)

-- ---- the values of worlds are settled

field_settled : (worlds : List Worlds) (last : Worlds) (o f : ℕ) (told : List ℤ) (x : ℤ) → told ≡ field_history (worlds ++ last ∷ []) o f → value_at last o f ≡ Some x → grown told x ≡ told
field_settled worlds last o f told x e at =
    let is : told ≡ grown (field_history worlds o f) x = e ∙ history_grows worlds last o f ∙ ap (with_item grown (field_history worlds o f)) at in
    ap (λ (t : List ℤ). grown t x) is ∙ grown_again (field_history worlds o f) x ∙ sym is

row_settled : (told : List (List ℤ)) (xs : List ℤ) → length told ≡ length xs → ((f : ℕ) (x : ℤ) → slice_get xs f ≡ Some x → grown (unwrap_or (slice_get told f) []) x ≡ unwrap_or (slice_get told f) []) → AreSettled told xs
row_settled told [] l h = tt
row_settled [] (x ∷ xs) l h = absurd (omega (arith, l))
row_settled (u ∷ told) (x ∷ xs) l h = (h 0 x refl, row_settled told xs (omega (arith, l)) (λ f y e. h (suc f) y e))

all_settled : (values : Values) (os : List Object) → length values ≡ length os → ((k : ℕ) → length_of_fields (slice_get values k) ≡ length_of_row (option_map values_of (slice_get os k)))
    → ((o f : ℕ) (x : ℤ) → option_and_then (λ (row : List ℤ). slice_get row f) (option_map values_of (slice_get os o)) ≡ Some x → grown (versions_told values o f) x ≡ versions_told values o f)
    → AreAllSettled values os
all_settled [] [] l f h = tt
all_settled [] (o ∷ os) l f h = absurd (omega (arith, l))
all_settled (t ∷ values) [] l f h = absurd (omega (arith, l))
all_settled (t ∷ values) (o ∷ os) l f h =
    let own : Some (length t) ≡ Some (length (values_of o)) = f 0 in
    let long : length t ≡ length (values_of o) = cc in
    (long, (row_settled t (values_of o) long (h 0), all_settled values os (omega (arith, l)) (λ k. f (suc k)) (λ k. h (suc k))))

worlds_end : (first : Worlds) (ticks : List (List (Option MoveBits))) → (before : List Worlds) × (worlds_from first ticks ≡ before ++ world_after first ticks ∷ [])
worlds_end first [] = ([], refl)
worlds_end first (moves ∷ ticks) =
    let h = worlds_end (next first moves) ticks in
    (first ∷ h.0, ap (λ (ws : List Worlds). first ∷ ws) h.1)

history_settled : (first : Worlds) (ticks : List (List (Option MoveBits))) (values : Values) → IsHistoryOf first ticks values → AreAllSettled values (world_after first ticks).objects
history_settled first ticks values h =
    let e = worlds_end first ticks in
    let last = world_after first ticks in
    all_settled values last.objects h.objects h.fields
    (λ o f x at. field_settled e.0 last o f (versions_told values o f) x (h.each o f ∙ ap (λ (ws : List Worlds). field_history ws o f) e.1) at)

-- ---- what a tick wrote and made

length_changed : {A : Type 0} (i : ℕ) (change : A → A) (xs : List A) → length (changed_at i change xs) ≡ length xs
length_changed i change [] = refl
length_changed zero change (x ∷ xs) = refl
length_changed (suc i) change (x ∷ xs) = ap suc (length_changed i change xs)

length_with_writes : (ws : List Write) (values : Values) → length (with_writes ws values) ≡ length values
length_with_writes [] values = refl
length_with_writes (w ∷ ws) values = length_with_writes ws (with_write w values) ∙ length_changed w.object (with_value w) values

tick_applied : (w : Worlds) (moves : List (Option MoveBits)) (values : Values) → HasVersions w → AreAllSettled values w.objects
    → with_new (with_writes (next w moves).writes values) (rows_of (next w moves)) ≡ with_rows values (rows_of (next w moves))
unfolding next
tick_applied w moves values f h =
    let writes = world_writes 0 w.objects (after w moves) w.versions in
    let rows = map values_of (after w moves) in
    let many = length_with_writes writes values in
    (λ j. with_writes writes values ++ map (with_row []) (drop (many j) rows))
    ∙ ap (λ (ts : Values). ts ++ map (with_row []) (drop (length values) rows)) (writes_applied values writes)
    ∙ world_applied 0 values w.objects (after w moves) w.versions h (same_fields_next w.objects moves (coming w)) f

pub goes_on_by_writes : (w : Worlds) (old new : Values) → new ≡ with_new (with_writes w.writes old) (rows_of w) → (first : Worlds) (ticks : List (List (Option MoveBits))) (moves : List (Option MoveBits))
    → HasVersions (world_after first ticks) → IsHistoryOf first ticks old → w ≡ next (world_after first ticks) moves → IsHistoryOf first (ticks ++ moves ∷ []) new
goes_on_by_writes w old new e first ticks moves f h is = goes_on_by w old new
    (e ∙ ap (λ (v : Worlds). with_new (with_writes v.writes old) (rows_of v)) is ∙ tick_applied (world_after first ticks) moves old f (history_settled first ticks old h)
    ∙ ap (λ (v : Worlds). with_rows old (rows_of v)) (sym is)) first ticks moves h is
