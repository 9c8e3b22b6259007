-- The version of a field is how many values it had, less 1.
use Rattle.std.proofs.Common.{◌≡◌, ℕ, zero, suc, ◌+◌, Bool, true, false, cond, List, [], ◌∷◌, ◌++◌, length, map, replicate, Option, Some, None, refl, sym, ap, ◌∙◌, subst, arith}
use Rattle.std.specs.Prelude.{ℤ, pos, negsuc, slice_get, option_map, option_and_then, int_lt, ◌≤◌}
use Rattle.std.proofs.lemmas.Bool.{or_parts, ltb-false}
use Rattle.std.proofs.lemmas.List.{length-replicate}
use Rattle.tn_types.specs.declared.moves.MoveBits.{MoveBits}
use Rattle.quantised_fields.specs.declared.kind.Kind.{Kind}
use Rattle.world_rules.specs.declared.object.Object.{Object}
use Rattle.world_rules.specs.declared.object.State.{State}
use Rattle.world_rules.specs.declared.object.State.TheVariants.{Player, Disc, Mine, Drone, Flag, Clock}
use Rattle.world_rules.specs.declared.setup.Setup.{Setup}
use Rattle.world_rules.specs.Identity.{Identity}
use Rattle.world_rules.specs.Kinds.{kind_of, match_kinds}
use Rattle.world_rules.specs.Next.{object_next, objects_next, discs_made, Moment}
use Rattle.world_rules.proofs.Identities.{stays_itself}
use Rattle.world_sim.specs.Rows.{values_of, part_values, fresh_versions, differs, version_next, row_versions, versions_next}
use Rattle.world_sim.specs.Worlds.{Worlds, AreOfFields, next, after, coming, first_world, value_at, version_at}
use Rattle.world_sim.specs.History.{world_after, worlds, with_value, values_by_version, last_version, AreValuesOf}

-- ---- how many fields an object has

fields_in : Option Kind → ℕ
fields_in None = 0
fields_in (Some kind) = length kind.fields

fields_of : ℕ → ℕ
fields_of kind = fields_in (slice_get match_kinds kind)

counted_fields : (o : Object) (s : State) → length (part_values o s) ≡ fields_of (kind_of s)
unfolding fields_of fields_in
counted_fields o (Player p) = refl
counted_fields o (Disc d) = refl
counted_fields o (Mine m) = refl
counted_fields o (Drone d) = refl
counted_fields o (Flag f) = refl
counted_fields o (Clock c) = refl

same_fields : (os : List Object) (moves : List (Option MoveBits)) (t : Moment) (o : Object) → length (values_of o) ≡ length (values_of (object_next os moves t o))
same_fields os moves t o =
    counted_fields o o.state
    ∙ ap (λ (i : Identity). fields_of i.kind) (sym (stays_itself os moves t o))
    ∙ sym (counted_fields (object_next os moves t o) (object_next os moves t o).state)

abbrev pub HaveSameFields : List Object → List Object → Type 0
HaveSameFields [] after = Unit {0}
HaveSameFields (o ∷ os) [] = ⊥
HaveSameFields (o ∷ os) (p ∷ after) = (length (values_of o) ≡ length (values_of p)) × HaveSameFields os after

each_same : (os : List Object) (moves : List (Option MoveBits)) (t : Moment) (xs made : List Object) → HaveSameFields xs (map (object_next os moves t) xs ++ made)
each_same os moves t [] made = tt
each_same os moves t (o ∷ xs) made = (same_fields os moves t o, each_same os moves t xs made)

pub same_fields_next : (os : List Object) (moves : List (Option MoveBits)) (t : Moment) → HaveSameFields os (objects_next os moves t)
same_fields_next os moves t = each_same os moves t os (discs_made os moves)

length_versions : (xs ys : List ℤ) (vs : List ℕ) → length xs ≡ length ys → length xs ≡ length vs → length ys ≡ length (row_versions xs ys vs)
unfolding row_versions
length_versions [] [] vs e h = refl
length_versions [] (y ∷ ys) vs e h = absurd (omega (arith, e))
length_versions (x ∷ xs) [] vs e h = absurd (omega (arith, e))
length_versions (x ∷ xs) (y ∷ ys) [] e h = absurd (omega (arith, h))
length_versions (x ∷ xs) (y ∷ ys) (v ∷ vs) e h = ap suc (length_versions xs ys vs (omega (arith, e)) (omega (arith, h)))

pub of_fields_fresh : (os : List Object) → AreOfFields os (map fresh_versions os)
of_fields_fresh [] = tt
of_fields_fresh (o ∷ os) = (sym (length-replicate (length (values_of o)) 0), of_fields_fresh os)

pub of_fields_next : (os after : List Object) (vs : List (List ℕ)) → HaveSameFields os after → AreOfFields os vs → AreOfFields after (versions_next os after vs)
unfolding versions_next
of_fields_next [] after vs s h = of_fields_fresh after
of_fields_next (o ∷ os) [] vs s h = absurd s
of_fields_next (o ∷ os) (p ∷ after) [] s h = absurd h
of_fields_next (o ∷ os) (p ∷ after) (v ∷ vs) s h = (length_versions (values_of o) (values_of p) v s.0 h.0, of_fields_next os after vs s.1 h.1)

-- ---- one field

same_number : (a b : ℕ) → a ≤ b → b ≤ a → a ≡ b
same_number a b h k = omega arith

never : true ≡ false → ⊥
never e = cc

neither : (x y : ℤ) → int_lt x y ≡ false → int_lt y x ≡ false → x ≡ y
neither (pos a) (pos b) p q = ap pos (same_number a b (ltb-false b a q) (ltb-false a b p))
neither (pos a) (negsuc b) p q = absurd (never q)
neither (negsuc a) (pos b) p q = absurd (never p)
neither (negsuc a) (negsuc b) p q = ap negsuc (same_number a b (ltb-false b a p) (ltb-false a b q))

pub same_value : (x y : ℤ) → differs x y ≡ false → x ≡ y
same_value x y e = let h = or_parts (int_lt x y) (int_lt y x) e in neither x y h.0 h.1

-- these are the values of a field with this value and version
record Tells (values : List ℤ) (value : Option ℤ) (version : Option ℕ) : Type 0 where
  pub newest : value ≡ slice_get values 0
  pub many : version ≡ last_version values

none_yet : (values : List ℤ) (version : Option ℕ) → Tells values None version → values ≡ []
none_yet [] version h = refl
none_yet (v ∷ values) version h = let e : None ≡ Some v = h.newest in absurd (cc)

abbrev One : ℤ → List ℤ → ℤ → ℕ → Type 0
One u us x v = (x ≡ u) × (v ≡ length us)

one_of : (u : ℤ) (us : List ℤ) (x : ℤ) (v : ℕ) → Tells (u ∷ us) (Some x) (Some v) → One u us x v
one_of u us x v h = let a : Some x ≡ Some u = h.newest in let b : Some v ≡ Some (length us) = h.many in (cc, cc)

written_or_not : (differ : Bool) (u : ℤ) (us : List ℤ) (y : ℤ) (v : ℕ) → v ≡ length us → (differ ≡ false → u ≡ y) → Tells (cond differ (y ∷ u ∷ us) (u ∷ us)) (Some y) (Some (cond differ (v + 1) v))
written_or_not true u us y v e h = record { newest = refl; many = ap Some (let f : v + 1 ≡ suc (length us) = omega (arith, e) in f) }
written_or_not false u us y v e h = record { newest = ap Some (sym (h refl)); many = ap Some e }

field_told : (values : List ℤ) (x y : ℤ) (v : ℕ) → Tells values (Some x) (Some v) → Tells (with_value (Some y) values) (Some y) (Some (version_next x y v))
field_told [] x y v h = let e : Some x ≡ None = h.newest in absurd (cc)
field_told (u ∷ us) x y v h =
    let o = one_of u us x v h in
    subst (λ (z : ℤ). Tells (with_value (Some y) (u ∷ us)) (Some y) (Some (version_next z y v))) (sym o.0)
    (written_or_not (differs u y) u us y v o.1 (same_value u y))

-- ---- the fields of one object

fresh_told : (ys : List ℤ) (field : ℕ) (values : List ℤ) → values ≡ [] → Tells (with_value (slice_get ys field) values) (slice_get ys field) (slice_get (replicate (length ys) 0) field)
fresh_told [] field values e = rw e (record { newest = refl; many = refl })
fresh_told (y ∷ ys) zero values e = rw e (record { newest = refl; many = refl })
fresh_told (y ∷ ys) (suc field) values e = fresh_told ys field values e

nothing_told : (values : List ℤ) → values ≡ [] → Tells (with_value None values) None None
nothing_told values e = rw e (record { newest = refl; many = refl })

fields_told : (xs ys : List ℤ) (vs : List ℕ) (field : ℕ) (values : List ℤ) → length xs ≡ length ys → length xs ≡ length vs → Tells values (slice_get xs field) (slice_get vs field) → Tells (with_value (slice_get ys field) values) (slice_get ys field) (slice_get (row_versions xs ys vs) field)
unfolding row_versions
fields_told [] [] vs field values e h t = nothing_told values (none_yet values (slice_get vs field) t)
fields_told [] (y ∷ ys) vs field values e h t = absurd (omega (arith, e))
fields_told (x ∷ xs) [] vs field values e h t = absurd (omega (arith, e))
fields_told (x ∷ xs) (y ∷ ys) [] field values e h t = absurd (omega (arith, h))
fields_told (x ∷ xs) (y ∷ ys) (v ∷ vs) zero values e h t = field_told values x y v t
fields_told (x ∷ xs) (y ∷ ys) (v ∷ vs) (suc field) values e h t = fields_told xs ys vs field values (omega (arith, e)) (omega (arith, h)) t

-- ---- all objects

abbrev value_in : List Object → ℕ → ℕ → Option ℤ
value_in os object field = option_and_then (λ values. slice_get values field) (option_map values_of (slice_get os object))

abbrev version_in : List (List ℕ) → ℕ → ℕ → Option ℕ
version_in vs object field = option_and_then (λ versions. slice_get versions field) (slice_get vs object)

made_told : (after : List Object) (object field : ℕ) (values : List ℤ) → values ≡ [] → Tells (with_value (value_in after object field) values) (value_in after object field) (version_in (map fresh_versions after) object field)
made_told [] object field values e = nothing_told values e
made_told (p ∷ after) zero field values e = fresh_told (values_of p) field values e
made_told (p ∷ after) (suc object) field values e = made_told after object field values e

objects_told : (os after : List Object) (vs : List (List ℕ)) (object field : ℕ) (values : List ℤ) → HaveSameFields os after → AreOfFields os vs → Tells values (value_in os object field) (version_in vs object field) → Tells (with_value (value_in after object field) values) (value_in after object field) (version_in (versions_next os after vs) object field)
unfolding versions_next
objects_told [] after vs object field values s h t = made_told after object field values (none_yet values (version_in vs object field) t)
objects_told (o ∷ os) [] vs object field values s h t = absurd s
objects_told (o ∷ os) (p ∷ after) [] object field values s h t = absurd h
objects_told (o ∷ os) (p ∷ after) (v ∷ vs) zero field values s h t = fields_told (values_of o) (values_of p) v field values s.0 h.0 t
objects_told (o ∷ os) (p ∷ after) (v ∷ vs) (suc object) field values s h t = objects_told os after vs object field values s.1 h.1 t

-- ---- the worlds of a match

fields_after : (first : Worlds) (log : List (List (Option MoveBits))) → AreOfFields first.objects first.versions → AreOfFields (world_after first log).objects (world_after first log).versions
unfolding next
fields_after first [] h = h
fields_after first (moves ∷ log) h =
    let w = world_after first log in
    of_fields_next w.objects (after w moves) w.versions (same_fields_next w.objects moves (coming w)) (fields_after first log h)

all_told : (first : Worlds) (log : List (List (Option MoveBits))) (object field : ℕ) → first.versions ≡ map fresh_versions first.objects → Tells (values_by_version (worlds first log) object field) (value_at (world_after first log) object field) (version_at (world_after first log) object field)
unfolding next
all_told first [] object field fresh =
    subst (λ (vs : List (List ℕ)). Tells (with_value (value_in first.objects object field) []) (value_in first.objects object field) (version_in vs object field))
    (sym fresh) (made_told first.objects object field [] refl)
all_told first (moves ∷ log) object field fresh =
    let w = world_after first log in
    let of_first : AreOfFields first.objects first.versions = subst (λ (vs : List (List ℕ)). AreOfFields first.objects vs) (sym fresh) (of_fields_fresh first.objects) in
    objects_told w.objects (after w moves) w.versions object field (values_by_version (worlds first log) object field)
    (same_fields_next w.objects moves (coming w)) (fields_after first log of_first) (all_told first log object field fresh)

pub versions_count_values : (seed : ℕ) (setup : Setup) (log : List (List (Option MoveBits))) (object field : ℕ) → AreValuesOf (world_after (first_world seed setup) log) object field (values_by_version (worlds (first_world seed setup) log) object field)
versions_count_values seed setup log object field =
    let t = all_told (first_world seed setup) log object field refl in
    record { newest = t.newest; version = t.many }
