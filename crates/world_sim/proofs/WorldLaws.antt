-- What holds of every world.
use Rattle.std.proofs.Common.{sym, ap, ◌∙◌, ◌≡◌, ℕ, zero, suc, ◌<◌, ◌≤◌, ◌+◌, ◌-◌, ◌^◌, Bool, true, false, cond, List, [], ◌∷◌, length, map, replicate, refl, arith, length-append, Option}
use Rattle.std.specs.Prelude.{ℤ}
use Rattle.std.specs.List.{AllByRecursion, filter_map}
use Rattle.std.proofs.lemmas.List.{length-map, length-take}
use Rattle.world_rules.specs.declared.object.Object.{Object}
use Rattle.tn_types.specs.declared.moves.MoveBits.{MoveBits}
use Rattle.world_sim.specs.declared.rows.Write.{Write}
use Rattle.world_sim.specs.declared.rows.Row.{Row}
use Rattle.world_rules.specs.Players.{fired}
use Rattle.world_rules.specs.Next.{object_next, Moment}
use Rattle.world_sim.specs.Rows.{values_of, fresh_versions, row_versions, versions_next, world_writes, differs}
use Rattle.world_sim.proofs.Kept.{first_values, first_counts}
use Rattle.world_cells.specs.Grid.{numbers, lasts}
use Rattle.world_cells.specs.Lines.{GridParts}
use Rattle.world_cells.specs.Cells.{IsGrid}
use Rattle.world_places.specs.Places.{PlaceLists, ArePlaced}
use Rattle.world_sim.specs.declared.glance.Glance.{Glance}
use Rattle.world_sim.specs.Glances.{glance_of}
use Rattle.world_sim.specs.Turns.{HasGoing}
use Rattle.world_sim.proofs.Lasting.{lasting_next}
use Rattle.world_sim.proofs.Histories.{of_fields_fresh, of_fields_next, same_fields_next}
use Rattle.world_rules.specs.Ranges.{ObjectFits}
use Rattle.world_rules.proofs.Ranging.{objects_fit}
use Rattle.world_rules.specs.Identity.{IsPeopled}
use Rattle.world_rules.proofs.Peopled.{peopled_next}
use Rattle.world_sim.specs.RowsNext.{fresh_row, row_values, row_counts, IsSoundRow}
use Rattle.world_sim.specs.Worlds.{Worlds, WasCounted, AreOfFields, IsWorld, IsKept, next, after, coming, first_world}
use Rattle.world_rules.specs.Next.{discs_made, objects_next}
use Rattle.world_rules.specs.declared.setup.Setup.{Setup}
use Rattle.world_rules.specs.Spawning.{first_objects}

small_row : (t : ℕ) (vs : List ℕ) → t < 2 ^ 32 - 1 → AllByRecursion (λ v. v ≤ t) vs → AllByRecursion (λ v. v < 2 ^ 32 - 1) vs
small_row t [] h a = tt
small_row t (v ∷ vs) h a = (omega (arith, a.0), small_row t vs h a.1)

pub sound_rows : (t : ℕ) (os : List Object) (rows : List Row) → t < 2 ^ 32 - 1 → map row_values rows ≡ map values_of os → AreOfFields os (map row_counts rows) → AllByRecursion (WasCounted t) (map row_counts rows) → AllByRecursion IsSoundRow rows
sound_rows t [] [] h e f a = tt
sound_rows t [] (r ∷ rows) h e f a = absurd f
sound_rows t (o ∷ os) [] h e f a = absurd f
sound_rows t (o ∷ os) (r ∷ rows) h e f a =
    let here : row_values r ≡ values_of o = cc in
    let later : map row_values rows ≡ map values_of os = cc in
    ((small_row t r.versions.items h a.0, ap (λ (xs : List ℤ). length xs) here ∙ f.0), sound_rows t os rows h later f.1 a.1)

bumped : (t v : ℕ) (b : Bool) → v ≤ t → cond b (v + 1) v ≤ t + 1
bumped t v true h = omega arith
bumped t v false h = omega arith

counted_row : (t : ℕ) (xs ys : List ℤ) (vs : List ℕ) → AllByRecursion (λ v. v ≤ t) vs → AllByRecursion (λ v. v ≤ t + 1) (row_versions xs ys vs)
unfolding row_versions
counted_row t [] ys vs a = tt
counted_row t (x ∷ xs) [] vs a = tt
counted_row t (x ∷ xs) (y ∷ ys) [] a = tt
counted_row t (x ∷ xs) (y ∷ ys) (v ∷ vs) a = (bumped t v (differs x y) a.0, counted_row t xs ys vs a.1)

zeros_counted : (t n : ℕ) → AllByRecursion (λ v. v ≤ t) (replicate n 0)
zeros_counted t zero = tt
zeros_counted t (suc n) = (omega arith, zeros_counted t n)

pub fresh_counted : (t : ℕ) (os : List Object) → AllByRecursion (WasCounted t) (map fresh_versions os)
fresh_counted t [] = tt
fresh_counted t (o ∷ os) = (zeros_counted t (length (values_of o)), fresh_counted t os)

counted_next : (t : ℕ) (os after : List Object) (vs : List (List ℕ)) → AllByRecursion (WasCounted t) vs → AllByRecursion (WasCounted (t + 1)) (versions_next os after vs)
unfolding versions_next
counted_next t [] after vs a = fresh_counted (t + 1) after
counted_next t (o ∷ os) [] vs a = tt
counted_next t (o ∷ os) (p ∷ after) [] a = fresh_counted (t + 1) (p ∷ after)
counted_next t (o ∷ os) (p ∷ after) (v ∷ vs) a = (counted_row t (values_of o) (values_of p) v a.0, counted_next t os after vs a.1)

pub more_objects : (os : List Object) (moves : List (Option MoveBits)) (t : Moment) → length os ≤ length (objects_next os moves t)
more_objects os moves t = let l = length-append (map (object_next os moves t) os) (discs_made os moves) in let m : length (map (object_next os moves t) os) ≡ length os = simp length-map in omega (arith, l, m)

few_objects : (os : List Object) (moves : List (Option MoveBits)) (t : Moment) → length os ≤ 1024 → length (objects_next os moves t) ≤ 1024
unfolding discs_made
few_objects os moves t h =
    let l = length-append (map (object_next os moves t) os) (discs_made os moves) in
    let m : length (map (object_next os moves t) os) ≡ length os = simp length-map in
    let k = length-take (1024 - length os) (filter_map (fired moves) os) in
    omega (arith, l, m, k)

pub world_next : (w : Worlds) (moves : List (Option MoveBits)) → IsWorld w → IsWorld (next w moves)
unfolding next
world_next w moves h = record {
  few = few_objects w.objects moves (coming w) h.few;
  versions = of_fields_next w.objects (after w moves) w.versions (same_fields_next w.objects moves (coming w)) h.versions;
  counted = counted_next w.ticks w.objects (after w moves) w.versions h.counted;
  fits = objects_fit w.objects moves (coming w) h.fits;
  peopled = peopled_next w.clients w.objects moves (coming w) h.peopled;
}

world_by : (w : Worlds) (moves : List (Option MoveBits)) (os : List Object) (vs : List (List ℕ)) (ws : List Write) → os ≡ after w moves → vs ≡ versions_next w.objects (after w moves) w.versions → ws ≡ world_writes 0 w.objects (after w moves) w.versions → IsWorld w → IsWorld (record { seed = w.seed; clients = w.clients; radius = w.radius; ticks = w.ticks + 1; objects = os; versions = vs; writes = ws })
unfolding next
world_by w moves os vs ws f g h is = rw (f, g, h) (world_next w moves is)

pub kept_from : (w : Worlds) (moves : List (Option MoveBits)) (was : List Object) (had : List (List ℕ)) (os : List Object) (rows : List Row) (ws : List Write) (glances : List Glance) (cells : GridParts) (places : PlaceLists) (always going : List ℕ) → was ≡ w.objects → had ≡ w.versions → os ≡ objects_next was moves (coming w) → map row_values rows ≡ map values_of os → map row_counts rows ≡ versions_next was os had → ws ≡ world_writes 0 was os had → glances ≡ map glance_of os → IsGrid cells os → ArePlaced places os → always ≡ numbers lasts 0 was → HasGoing going os → IsWorld w → IsKept (record { seed = w.seed; clients = w.clients; radius = w.radius; ticks = w.ticks + 1; objects = os; versions = map row_counts rows; writes = ws }) rows glances cells places always going
kept_from w moves was had os rows ws glances cells places always going a b f k g h seen grid placed lasting stir is =
    let now : os ≡ after w moves = rw a at f in
    record {
      world = world_by w moves os (map row_counts rows) ws now (rw (a, b, now) at g) (rw (a, b, now) at h) is;
      values = k;
      glanced = seen;
      grid = grid;
      placed = placed;
      lasting = lasting ∙ rw (a, now) (sym (lasting_next w.clients w.objects moves (coming w) is.peopled));
      has_going = stir;
    }

pub fresh_world : (seed clients radius : ℕ) (os all : List Object) (rows : List Row) (ws : List Write) (glances : List Glance) (cells : GridParts) (places : PlaceLists) (always going : List ℕ) → length os ≤ 1024 → AllByRecursion ObjectFits os → IsPeopled clients os → all ≡ os → rows ≡ map fresh_row os → glances ≡ map glance_of all → IsGrid cells all → ArePlaced places all → always ≡ numbers lasts 0 all → HasGoing going all → IsKept (record { seed = seed; clients = clients; radius = radius; ticks = 0; objects = all; versions = map row_counts rows; writes = ws }) rows glances cells places always going
fresh_world seed clients radius os all rows ws glances cells places always going few fits peopled e f seen grid placed lasting stir =
    record {
      world = rw (e, first_counts os rows f) (record { few = few; versions = of_fields_fresh os; counted = fresh_counted 0 os; fits = fits; peopled = peopled });
      values = first_values os all rows e f;
      glanced = seen;
      grid = grid;
      placed = placed;
      lasting = lasting;
      has_going = stir;
    }

pub first_is : (seed : ℕ) (setup : Setup) (os : List Object) (rows : List Row) (ws : List Write) → os ≡ first_objects 0 setup.spawns → rows ≡ map fresh_row os → ws ≡ [] → (let w : Worlds = record { seed = seed; clients = setup.clients; radius = setup.radius; ticks = 0; objects = os; versions = map row_counts rows; writes = ws } in w ≡ first_world seed setup)
first_is seed setup os rows ws e f g = rw (first_counts os rows f, e, g) refl
