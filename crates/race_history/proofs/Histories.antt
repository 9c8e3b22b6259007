-- One more world: each field that it has gets a version where its value differs from the newest one. And values that
-- tell the same worlds are the same.
use Rattle.std.proofs.Common.{◌≡◌, ℕ, zero, suc, ◌≤◌, Bool, true, false, List, [], ◌∷◌, ◌++◌, length, map, get_or, refl, ap, sym, subst, ◌∙◌, arith, Option, Some, None}
use Rattle.std.specs.Prelude.{ℤ, if◌then◌else◌, slice_get, option_map, option_and_then}
use Rattle.std.specs.Option.{unwrap_or}
use Rattle.std.specs.List.{filter_map, cons_option}
use Rattle.std.proofs.lemmas.List.Elements.{filter_map-append}
use Rattle.std.proofs.lemmas.List.{append-nil, length-map}
use Rattle.tn_types.specs.declared.limits.TheConstants.{MAX_FIELDS}
use Rattle.tn_types.specs.declared.moves.MoveBits.{MoveBits}
use Rattle.world_rules.specs.declared.object.Object.{Object}
use Rattle.world_rules.specs.declared.object.State.{State}
use Rattle.world_rules.specs.declared.object.State.TheVariants.{Player, Disc, Mine, Drone, Flag, Clock}
use Rattle.world_sim.specs.Rows.{differs, values_of, part_values}
use Rattle.world_sim.specs.Worlds.{Worlds, next, coming, values_at, value_at}
use Rattle.world_sim.proofs.Histories.{HaveSameFields, same_fields_next}
use Rattle.race_history.specs.Deciding.{Decides}
use Rattle.race_history.specs.History.{Values, worlds_from, world_after, later_versions, versions, field_in, field_history, fields_told, versions_told, IsHistory, IsHistoryOf}
use Rattle.race_history.specs.Growing.{grown, grown_later, with_row, with_rows}
use Rattle.race_history.proofs.Extending.{with_item, at_place, length_extended}

-- ---- one field

either : (d : Bool) (y before : ℤ) (more less more' less' : List ℤ) (now : ℤ) → more ≡ grown_later y more' now → less ≡ grown_later before less' now → (if d then y ∷ more else less) ≡ grown_later before (if d then y ∷ more' else less') now
either true y before more less more' less' now e f = ap (λ (vs : List ℤ). y ∷ vs) e
either false y before more less more' less' now e f = f

later_grows : (before : ℤ) (xs : List ℤ) (now : ℤ) → later_versions before (xs ++ now ∷ []) ≡ grown_later before (later_versions before xs) now
later_grows before [] now = refl
later_grows before (y ∷ ys) now =
    either (differs before y) y before (later_versions y (ys ++ now ∷ [])) (later_versions before (ys ++ now ∷ [])) (later_versions y ys) (later_versions before ys) now (later_grows y ys now) (later_grows before ys now)

versions_grow : (xs : List ℤ) (now : ℤ) → versions (xs ++ now ∷ []) ≡ grown (versions xs) now
versions_grow [] now = refl
versions_grow (x ∷ xs) now = ap (λ (vs : List ℤ). x ∷ vs) (later_grows x xs now)

by_option : (xs : List ℤ) (now : Option ℤ) → versions (xs ++ cons_option now []) ≡ with_item grown (versions xs) now
by_option xs None = ap versions (append-nil xs)
by_option xs (Some now) = versions_grow xs now

pub history_grows : (worlds : List Worlds) (w : Worlds) (object field : ℕ) → field_history (worlds ++ w ∷ []) object field ≡ with_item grown (field_history worlds object field) (value_at w object field)
history_grows worlds w object field =
    ap versions (filter_map-append (field_in object field) worlds (w ∷ [])) ∙ by_option (filter_map (field_in object field) worlds) (value_at w object field)

-- ---- all fields

-- the values of all objects of a world
abbrev pub rows_of : Worlds → List (List ℤ)
rows_of w = map values_of w.objects

row_at : (os : List Object) (k : ℕ) → slice_get (map values_of os) k ≡ option_map values_of (slice_get os k)
row_at [] k = refl
row_at (o ∷ os) zero = refl
row_at (o ∷ os) (suc k) = row_at os k

field_grows : (told : List (List ℤ)) (row : Option (List ℤ)) (field : ℕ) → unwrap_or (slice_get (with_item with_row told row) field) [] ≡ with_item grown (unwrap_or (slice_get told field) []) (option_and_then (λ values. slice_get values field) row)
field_grows told None field = refl
field_grows told (Some row) field = at_place grown [] told row field

told_grows : (values : Values) (w : Worlds) (object field : ℕ) → versions_told (with_rows values (rows_of w)) object field ≡ with_item grown (versions_told values object field) (value_at w object field)
told_grows values w object field =
    ap (λ (told : List (List ℤ)). unwrap_or (slice_get told field) []) (at_place with_row [] values (rows_of w) object)
    ∙ field_grows (fields_told values object) (slice_get (rows_of w) object) field
    ∙ ap (λ (row : Option (List ℤ)). with_item grown (versions_told values object field) (option_and_then (λ values. slice_get values field) row)) (row_at w.objects object)

-- ---- how many

-- no more objects are told than there are, each with no more fields than it has
abbrev pub AreWithin : Values → List (List ℤ) → Type 0
AreWithin [] now = Unit {0}
AreWithin (t ∷ values) [] = ⊥
AreWithin (t ∷ values) (row ∷ now) = (length t ≤ length row) × AreWithin values now

counts_grow : (values : Values) (now : List (List ℤ)) → AreWithin values now → length (with_rows values now) ≡ length now
counts_grow [] [] h = refl
counts_grow [] (row ∷ now) h = ap suc (counts_grow [] now tt)
counts_grow (t ∷ values) [] h = absurd h
counts_grow (t ∷ values) (row ∷ now) h = ap suc (counts_grow values now h.1)

abbrev pub length_of_fields : Option (List (List ℤ)) → Option ℕ
length_of_fields told = option_map (λ (t : List (List ℤ)). length t) told

abbrev pub length_of_row : Option (List ℤ) → Option ℕ
length_of_row row = option_map (λ (r : List ℤ). length r) row

fields_grow : (values : Values) (now : List (List ℤ)) (k : ℕ) → AreWithin values now → length_of_fields (slice_get (with_rows values now) k) ≡ length_of_row (slice_get now k)
fields_grow [] [] k h = refl
fields_grow [] (row ∷ now) zero h = ap Some (length_extended grown [] [] row (omega arith))
fields_grow [] (row ∷ now) (suc k) h = fields_grow [] now k tt
fields_grow (t ∷ values) [] k h = absurd h
fields_grow (t ∷ values) (row ∷ now) zero h = ap Some (length_extended grown [] t row h.0)
fields_grow (t ∷ values) (row ∷ now) (suc k) h = fields_grow values now k h.1

-- ---- the rows of a world

pub length_rows : (w : Worlds) → length (rows_of w) ≡ length w.objects
length_rows w = length-map w.objects values_of

part_few : (o : Object) (s : State) → length (part_values o s) ≤ MAX_FIELDS
part_few o (Player p) = omega arith
part_few o (Disc d) = omega arith
part_few o (Mine m) = omega arith
part_few o (Drone d) = omega arith
part_few o (Flag f) = omega arith
part_few o (Clock k) = omega arith

abbrev IsRow : List ℤ → Option Object → Type 0
IsRow row o = Some row ≡ option_map values_of o

of_few : (row : List ℤ) (o : Option Object) → IsRow row o → length row ≤ MAX_FIELDS
of_few row None e = absurd (cc)
of_few row (Some o) e =
    let same : row ≡ values_of o = cc in
    subst (λ (r : List ℤ). length r ≤ MAX_FIELDS) (sym same) (part_few o o.state)

pub row_few : (w : Worlds) (object : ℕ) (row : List ℤ) → Some row ≡ values_at w object → length row ≤ MAX_FIELDS
row_few w object row e = of_few row (slice_get w.objects object) e

row_of : (os : List Object) (k : ℕ) (row : List ℤ) → IsRow row (slice_get os k) → row ≡ get_or (map values_of os) k row
row_of [] k row e = absurd (cc)
row_of (o ∷ os) zero row e = cc
row_of (o ∷ os) (suc k) row e = row_of os k row e

pub row_is : (w : Worlds) (object : ℕ) (row : List ℤ) → Some row ≡ values_at w object → row ≡ get_or (rows_of w) object row
row_is w object row e = row_of w.objects object row e

-- ---- the first world

pub begins : (w : Worlds) → IsHistoryOf w [] (with_rows [] (rows_of w))
begins w = record {
  objects = counts_grow [] (rows_of w) tt ∙ length_rows w;
  fields = λ object. fields_grow [] (rows_of w) object tt ∙ ap length_of_row (row_at w.objects object);
  each = λ object field. told_grows [] w object field ∙ sym (by_option [] (value_at w object field));
}

-- ---- a world more

worlds_more : (first : Worlds) (ticks : List (List (Option MoveBits))) (moves : List (Option MoveBits)) → worlds_from first (ticks ++ moves ∷ []) ≡ worlds_from first ticks ++ next (world_after first ticks) moves ∷ []
worlds_more first [] moves = refl
worlds_more first (row ∷ ticks) moves = ap (λ (ws : List Worlds). first ∷ ws) (worlds_more (next first row) ticks moves)

pub after_more : (first : Worlds) (ticks : List (List (Option MoveBits))) (moves : List (Option MoveBits)) → world_after first (ticks ++ moves ∷ []) ≡ next (world_after first ticks) moves
after_more first [] moves = refl
after_more first (row ∷ ticks) moves = after_more (next first row) ticks moves

within : (values : Values) (os after : List Object) → length values ≡ length os → ((k : ℕ) → length_of_fields (slice_get values k) ≡ length_of_row (option_map values_of (slice_get os k))) → HaveSameFields os after → AreWithin values (map values_of after)
within [] os after l f s = tt
within (t ∷ values) [] after l f s = absurd (omega (arith, l))
within (t ∷ values) (o ∷ os) [] l f s = absurd s
within (t ∷ values) (o ∷ os) (p ∷ after) l f s =
    let own : Some (length t) ≡ Some (length (values_of o)) = f 0 in
    let same : length t ≡ length (values_of o) = cc in (
      let e = s.0 in omega (arith, same, e),
      within values os after (omega (arith, l)) (λ k. f (suc k)) s.1,
    )

within_next : (w : Worlds) (moves : List (Option MoveBits)) (values : Values) → length values ≡ length w.objects → ((k : ℕ) → length_of_fields (slice_get values k) ≡ length_of_row (values_at w k)) → AreWithin values (rows_of (next w moves))
unfolding next
within_next w moves values l f = within values w.objects (next w moves).objects l f (same_fields_next w.objects moves (coming w))

one_more : (worlds : List Worlds) (last w : Worlds) (values : Values) → IsHistory worlds last values → AreWithin values (rows_of w) → IsHistory (worlds ++ w ∷ []) w (with_rows values (rows_of w))
one_more worlds last w values h inside = record {
  objects = counts_grow values (rows_of w) inside ∙ length_rows w;
  fields = λ object. fields_grow values (rows_of w) object inside ∙ ap length_of_row (row_at w.objects object);
  each = λ object field.
      told_grows values w object field
      ∙ ap (λ (told : List ℤ). with_item grown told (value_at w object field)) (h.each object field)
      ∙ sym (history_grows worlds w object field);
}

pub goes_on : (first : Worlds) (ticks : List (List (Option MoveBits))) (moves : List (Option MoveBits)) (values : Values) → IsHistoryOf first ticks values → IsHistoryOf first (ticks ++ moves ∷ []) (with_rows values (rows_of (next (world_after first ticks) moves)))
goes_on first ticks moves values h =
    let w = next (world_after first ticks) moves in
    let one = one_more (worlds_from first ticks) (world_after first ticks) w values h (within_next (world_after first ticks) moves values h.objects h.fields) in
    subst (λ (p : List Worlds × Worlds). IsHistory p.0 p.1 (with_rows values (rows_of w)))
    (λ j. (sym (worlds_more first ticks moves) j, sym (after_more first ticks moves) j)) one

-- ---- the same, as `add` says it

pub begins_by : (w : Worlds) (old new : Values) → new ≡ with_rows old (rows_of w) → old ≡ [] → IsHistoryOf w [] new
begins_by w old new e none = subst (λ (values : Values). IsHistoryOf w [] values) (sym (e ∙ ap (λ (values : Values). with_rows values (rows_of w)) none)) (begins w)

pub goes_on_by : (w : Worlds) (old new : Values) → new ≡ with_rows old (rows_of w) → (first : Worlds) (ticks : List (List (Option MoveBits))) (moves : List (Option MoveBits)) → IsHistoryOf first ticks old → w ≡ next (world_after first ticks) moves → IsHistoryOf first (ticks ++ moves ∷ []) new
goes_on_by w old new e first ticks moves h is =
    subst (λ (values : Values). IsHistoryOf first (ticks ++ moves ∷ []) values) (sym (e ∙ ap (λ (v : Worlds). with_rows old (rows_of v)) is)) (goes_on first ticks moves old h)

-- ---- the same worlds

field_at : (one other : List (List ℤ)) → length one ≡ length other → ((field : ℕ) → unwrap_or (slice_get one field) [] ≡ unwrap_or (slice_get other field) []) → one ≡ other
field_at [] [] l h = refl
field_at [] (y ∷ other) l h = absurd (omega (arith, l))
field_at (x ∷ one) [] l h = absurd (omega (arith, l))
field_at (x ∷ one) (y ∷ other) l h = λ j. h 0 j ∷ field_at one other (omega (arith, l)) (λ field. h (suc field)) j

object_at : (one other : Values) → length one ≡ length other → ((k : ℕ) → length_of_fields (slice_get one k) ≡ length_of_fields (slice_get other k)) → ((object field : ℕ) → versions_told one object field ≡ versions_told other object field) → one ≡ other
object_at [] [] l f h = refl
object_at [] (y ∷ other) l f h = absurd (omega (arith, l))
object_at (x ∷ one) [] l f h = absurd (omega (arith, l))
object_at (x ∷ one) (y ∷ other) l f h =
    let own : Some (length x) ≡ Some (length y) = f 0 in
    let long : length x ≡ length y = cc in
    λ j. field_at x y long (h 0) j ∷ object_at one other (omega (arith, l)) (λ k. f (suc k)) (λ object. h (suc object)) j

pub determined : (worlds : List Worlds) (last : Worlds) (one other : Values) → IsHistory worlds last one → IsHistory worlds last other → one ≡ other
determined worlds last one other h k =
    object_at one other (h.objects ∙ sym k.objects) (λ object. h.fields object ∙ sym (k.fields object)) (λ object field. h.each object field ∙ sym (k.each object field))

pub decided : (first : Worlds) (ticks : List (List (Option MoveBits))) (told made : Values) (same : Bool) → IsHistoryOf first ticks made → Decides same (told ≡ made) → Decides same (IsHistoryOf first ticks told)
decided first ticks told made true h d = subst (λ (values : Values). IsHistoryOf first ticks values) (sym d) h
decided first ticks told made false h d = λ k. d (determined (worlds_from first ticks) (world_after first ticks) told made k h)
