use Rattle.std.proofs.Common.{◌≡◌, ◌∙◌, ◌<◌, ◌≤◌, ◌+◌, ◌++◌, ℕ, length, ap, arith, length-set, refl, sym, subst, List, get_or, set, map, Some}
use Rattle.std.specs.Prelude.{slice_get}
use Rattle.std.proofs.lemmas.List.{get_or-map, length-map}
use Rattle.world_rules.specs.declared.object.Object.{Object}
use Rattle.world_rules.specs.Next.{object_next}
use Rattle.world_sim.specs.declared.glance.Glance.{Glance}
use Rattle.world_sim.specs.declared.rows.Row.{Row}
use Rattle.world_sim.specs.declared.rows.Write.{Write}
use Rattle.world_sim.specs.Rows.{values_of, row_writes}
use Rattle.world_sim.specs.RowsNext.{IsSoundRow, row_next, row_values, rows_updated, rows_writes}
use Rattle.world_sim.specs.Found.{is_ending}
use Rattle.world_sim.specs.Turns.{moment, HasGoing}
use Rattle.world_sim.proofs.ForGood.{got}
use Rattle.world_sim.proofs.Kept.{as_many}
use Rattle.world_sim.proofs.RowLoops.{sound_now, update_more, updated_at, length_updated, row_writes_at, row_writes_end}
use Rattle.world_sim.proofs.Gathered.{hitting_few, triggered_few, mark_at}
use Rattle.world_sim.proofs.Glancing.{as_many_glances, glance_at, set_glances}
use Rattle.world_sim.proofs.Turns.{standing_found, row_of_old, stepped_more, stepped_at, stepped_length, stepped_all, grid_turn}
use Rattle.world_sim.proofs.Placing.{placed_turn, next_place_fits}
use Rattle.world_sim.proofs.Going.{Turned, over_for_good, quiet_before, turned_passed, none_turned}
use Rattle.world_sim.proofs.step.turn_all.Goals as goal

pub turn-requires-clause-found : goal.turn-requires-clause-found
turn-requires-clause-found c =
    let os = c.args.table.now.objects.items in
    let found = c.args.old.now.found.now in
    record {
      discs = hitting_few os found c.requires.old.found_is c.requires.old.few;
      mines = triggered_few os found c.requires.old.found_is c.requires.old.few;
      standing = standing_found os found c.requires.old.found_is;
    }

pub turn-requires-clause-turn : goal.turn-requires-clause-turn
turn-requires-clause-turn c =
    let os = c.args.table.now.objects.items in
    let rows = c.args.table.now.rows.items in
    let next = object_next os c.args.old.now.moves.now (moment c.args.old.now) in
    let i = c.loop-i.i in
    let many : length rows ≡ length os = as_many rows os c.requires.values in
    let l : i < length os = omega (arith, c.loop-i-test.true, c.len-many.ensures, c.args.table.now.objects.ok) in
    let m : i < length rows = omega (arith, l, many) in
    record {
      small = omega (arith, l, c.requires.old.few);
      sound = subst IsSoundRow (sym c.index_mut-row.ensures.value) (sound_now i rows c.loop-i.table.rows.items (map next os) c.index_mut-row.result.now c.loop-i.invariant.turned.rows_are m c.requires.sound);
      values_are =
          ap row_values c.index_mut-row.ensures.value
          ∙ row_of_old i next os c.loop-i.table.objects.items rows c.loop-i.table.rows.items c.index_mut-row.result.now c.index_mut-object.result.now c.requires.values l m c.loop-i.invariant.turned.objects_are c.loop-i.invariant.turned.rows_are
          ∙ ap values_of (sym c.index_mut-object.ensures.value);
      room = omega (arith, l, c.requires.old.few, c.loop-i.invariant.few, c.loop-i.invariant.room);
    }

pub index_mut-object-requires : goal.index_mut-object-requires
index_mut-object-requires c =
    let os = c.args.table.now.objects.items in
    let rows = c.args.table.now.rows.items in
    let next = object_next os c.args.old.now.moves.now (moment c.args.old.now) in
    let i = c.loop-i.i in
    let many : length rows ≡ length os = as_many rows os c.requires.values in
    let l : i < length os = omega (arith, c.loop-i-test.true, c.len-many.ensures, c.args.table.now.objects.ok) in
    let m : i < length rows = omega (arith, l, many) in
    omega (arith, l, c.loop-i.table.objects.ok, ap (λ (xs : List Object). length xs) c.loop-i.invariant.turned.objects_are, stepped_length i next os)

pub index_mut-row-requires : goal.index_mut-row-requires
index_mut-row-requires c =
    let os = c.args.table.now.objects.items in
    let rows = c.args.table.now.rows.items in
    let next = object_next os c.args.old.now.moves.now (moment c.args.old.now) in
    let i = c.loop-i.i in
    let many : length rows ≡ length os = as_many rows os c.requires.values in
    let l : i < length os = omega (arith, c.loop-i-test.true, c.len-many.ensures, c.args.table.now.objects.ok) in
    let m : i < length rows = omega (arith, l, many) in
    omega (arith, m, c.loop-i.table.rows.ok, ap (λ (xs : List Row). length xs) c.loop-i.invariant.turned.rows_are, length_updated i rows (map next os))

pub index_mut-glance-requires : goal.index_mut-glance-requires
index_mut-glance-requires c =
    let os = c.args.table.now.objects.items in
    let next = object_next os c.args.old.now.moves.now (moment c.args.old.now) in
    let i = c.loop-i.i in
    let l : i < length os = omega (arith, c.loop-i-test.true, c.len-many.ensures, c.args.table.now.objects.ok) in
    let many = as_many_glances c.loop-i.table.objects.items c.loop-i.table.glances.items c.loop-i.invariant.glances in
    omega (arith, l, many, c.loop-i.table.glances.ok, ap (λ (xs : List Object). length xs) c.loop-i.invariant.turned.objects_are, stepped_length i next os)

pub turn-requires-clause-glance : goal.turn-requires-clause-glance
turn-requires-clause-glance c =
    let os = c.args.table.now.objects.items in
    let next = object_next os c.args.old.now.moves.now (moment c.args.old.now) in
    let i = c.loop-i.i in
    let objects = c.loop-i.table.objects.items in
    let l : i < length os = omega (arith, c.loop-i-test.true, c.len-many.ensures, c.args.table.now.objects.ok) in
    let long : i < length objects = omega (arith, l, ap (λ (xs : List Object). length xs) c.loop-i.invariant.turned.objects_are, stepped_length i next os) in
    glance_at objects c.loop-i.table.glances.items i c.index_mut-object.result.now c.index_mut-glance.result.now c.loop-i.invariant.glances long c.index_mut-object.ensures.value c.index_mut-glance.ensures.value

pub loop-i-preserved : goal.loop-i-preserved
loop-i-preserved c =
    let os = c.args.table.now.objects.items in
    let rows = c.args.table.now.rows.items in
    let next = object_next os c.args.old.now.moves.now (moment c.args.old.now) in
    let i = c.loop-i.i in
    let many : length rows ≡ length os = as_many rows os c.requires.values in
    let l : i < length os = omega (arith, c.loop-i-test.true, c.len-many.ensures, c.args.table.now.objects.ok) in
    let m : i < length rows = omega (arith, l, many) in
    let objects = c.loop-i.table.objects.items in
    let was = c.index_mut-object.result.now in
    let row = c.index_mut-row.result.now in
    let made = c.turn.new.object in
    let long : i < length objects = omega (arith, l, ap (λ (xs : List Object). length xs) c.loop-i.invariant.turned.objects_are, stepped_length i next os) in
    let mapped : i < length (map next os) = (let k : length (map next os) ≡ length os = simp length-map in omega (arith, l, k)) in
    let same : was ≡ get_or os i was = c.index_mut-object.ensures.value ∙ ap (λ (xs : List Object). get_or xs i was) c.loop-i.invariant.turned.objects_are ∙ stepped_at i next os was l in
    let at : slice_get os i ≡ Some was = got os i was l same in
    let ending : c.index-ending.result.now ≡ is_ending os was = c.index-ending.ensures ∙ mark_at os c.args.old.now.found.now i c.index-ending.result.now was c.requires.old.found_is l ∙ ap (is_ending os) (sym same) in
    let new : made ≡ next was = c.turn.ensures.object os i c.requires.old at ending in
    let there : made ≡ get_or (map next os) i made = new ∙ ap next same ∙ sym (get_or-map next os i was made l) in
    let row_same : row ≡ get_or rows i row = c.index_mut-row.ensures.value ∙ ap (λ (xs : List Row). get_or xs i row) c.loop-i.invariant.turned.rows_are ∙ updated_at i rows (map next os) row m in
    let row_new : c.turn.new.row ≡ row_next (get_or c.loop-i.table.rows.items i row) (get_or (map next os) i made) = c.turn.ensures.keeps_up.row_is ∙ ap (λ (r : Row). row_next r made) c.index_mut-row.ensures.value ∙ ap (row_next (get_or c.loop-i.table.rows.items i row)) there in
    let written = c.turn.ensures.keeps_up.written ∙ ap (λ (o : Object). c.loop-i.table.beside.writes.items ++ row_writes i 0 row.values.items (values_of o) row.versions.items) there in
    let turned : Turned os next rows (i + 1) (set objects i made) (set c.loop-i.table.rows.items i c.turn.new.row) c.turn.new.beside.writes.items = record {
      objects_are = stepped_more i next os objects was made c.loop-i.invariant.turned.objects_are l (new ∙ ap next same);
      rows_are = update_more i rows c.loop-i.table.rows.items (map next os) row c.turn.new.row made c.loop-i.invariant.turned.rows_are m mapped row_new;
      writes_are = c.loop-i.invariant.turned.writes_are ∙ row_writes_at c.loop-i.table.beside.writes.items c.turn.new.beside.writes.items i rows (map next os) row made written row_same m mapped;
    } in
    let to = c.next_turn-i-in-loop-i.result in
    let most : to ≤ length os = omega (arith, c.next_turn-i-in-loop-i.ensures.most, c.len-many.ensures, c.args.table.now.objects.ok) in
    let going : HasGoing c.leave_over.new.going (set objects i made) = c.leave_over.ensures objects made c.turn.ensures.glance long (over_for_good os c.args.old.now.moves.now (moment c.args.old.now) was made (slice_get objects i) (got objects i was long c.index_mut-object.ensures.value) new) c.loop-i.invariant.going in
    let glances = set_glances objects c.loop-i.table.glances.items i made c.turn.new.glance c.loop-i.invariant.glances c.turn.ensures.glance in
    let quiet = c.next_turn-i-in-loop-i.ensures.passed (set objects i made) (c.deref-in-loop-i.ensures.value ∙ glances) going in
    record {
      turned = turned_passed os c.args.old.now.moves.now (moment c.args.old.now) rows (i + 1) to (set objects i made) (set c.loop-i.table.rows.items i c.turn.new.row) c.turn.new.beside.writes.items c.requires.values c.requires.sound many c.next_turn-i-in-loop-i.ensures.order most
          (quiet_before os (set objects i made) next c.args.old.now.found.now _ (i + 1) (i + 1) to turned.objects_are (omega arith) most c.requires.old.found_is c.deref-in-loop-i-2.ensures.value quiet) turned;
      most = most;
      glances = glances;
      grid = grid_turn c.loop-i.table.beside.cells c.turn.new.beside.cells objects i was made long c.index_mut-object.ensures.value c.loop-i.invariant.grid c.turn.ensures.keeps_up.grid;
      placed = placed_turn c.loop-i.table.beside.places c.turn.new.beside.places objects i was made long c.index_mut-object.ensures.value (next_place_fits os c.args.old.now.moves.now (moment c.args.old.now) i made c.requires.fits mapped there) c.loop-i.invariant.placed c.turn.ensures.keeps_up.placed;
      going = going;
      few = omega (arith, c.turn.ensures.keeps_up.few, c.loop-i.invariant.few, c.next_turn-i-in-loop-i.ensures.order);
      room = omega (arith, c.turn.ensures.keeps_up.kept, c.loop-i.invariant.room);
      kept = c.loop-i.invariant.kept;
      rows_kept = c.loop-i.invariant.rows_kept;
      glances_kept = c.loop-i.invariant.glances_kept;
    }

pub loop-i-init : goal.loop-i-init
loop-i-init c =
    let os = c.args.table.now.objects.items in
    let rows = c.args.table.now.rows.items in
    let next = object_next os c.args.old.now.moves.now (moment c.args.old.now) in
    let many : length rows ≡ length os = as_many rows os c.requires.values in
    let to = c.next_turn-i.result in
    let most : to ≤ length os = omega (arith, c.next_turn-i.ensures.most, c.len-many.ensures, c.args.table.now.objects.ok) in
    let quiet = quiet_before os os next c.args.old.now.found.now _ 0 0 to refl (omega arith) most c.requires.old.found_is c.deref-2.ensures.value (c.next_turn-i.ensures.passed os (c.deref.ensures.value ∙ c.requires.glances) c.requires.going) in
    record {
      turned = turned_passed os c.args.old.now.moves.now (moment c.args.old.now) rows 0 to os rows c.args.table.now.beside.writes.items c.requires.values c.requires.sound many c.next_turn-i.ensures.order most quiet (none_turned os next rows c.args.table.now.beside.writes.items c.requires.none);
      most = most;
      glances = c.requires.glances;
      grid = c.requires.grid;
      placed = c.requires.placed;
      going = c.requires.going;
      few = omega (arith, ap (λ (ws : List Write). length ws) c.requires.none);
      room = c.requires.room;
      kept = omega arith;
      rows_kept = omega arith;
      glances_kept = omega arith;
    }

pub returns-clause-objects : goal.returns-clause-objects
returns-clause-objects c =
    let os = c.args.table.now.objects.items in
    let rows = c.args.table.now.rows.items in
    let next = object_next os c.args.old.now.moves.now (moment c.args.old.now) in
    let i = c.loop-i.i in
    let many : length rows ≡ length os = as_many rows os c.requires.values in
    let end : i ≡ length os = omega (arith, c.loop-i-test.false, c.len-many.ensures, c.args.table.now.objects.ok, c.loop-i.invariant.most) in
    c.loop-i.invariant.turned.objects_are ∙ rw end (stepped_all next os)

pub returns-clause-rows : goal.returns-clause-rows
returns-clause-rows c =
    let os = c.args.table.now.objects.items in
    let rows = c.args.table.now.rows.items in
    let next = object_next os c.args.old.now.moves.now (moment c.args.old.now) in
    let i = c.loop-i.i in
    let many : length rows ≡ length os = as_many rows os c.requires.values in
    let end : i ≡ length os = omega (arith, c.loop-i-test.false, c.len-many.ensures, c.args.table.now.objects.ok, c.loop-i.invariant.most) in
    let whole : c.loop-i.table.objects.items ≡ map next os = c.loop-i.invariant.turned.objects_are ∙ rw end (stepped_all next os) in
    c.loop-i.invariant.turned.rows_are
    ∙ ap (λ (n : ℕ). rows_updated n rows (map next os)) (end ∙ sym many)
    ∙ ap (rows_updated (length rows) rows) (sym whole)

pub returns-clause-writes : goal.returns-clause-writes
returns-clause-writes c =
    let os = c.args.table.now.objects.items in
    let rows = c.args.table.now.rows.items in
    let next = object_next os c.args.old.now.moves.now (moment c.args.old.now) in
    let i = c.loop-i.i in
    let many : length rows ≡ length os = as_many rows os c.requires.values in
    let end : i ≡ length os = omega (arith, c.loop-i-test.false, c.len-many.ensures, c.args.table.now.objects.ok, c.loop-i.invariant.most) in
    let whole : c.loop-i.table.objects.items ≡ map next os = c.loop-i.invariant.turned.objects_are ∙ rw end (stepped_all next os) in
    sym (c.loop-i.invariant.turned.writes_are ∙ row_writes_end c.loop-i.table.beside.writes.items i rows (map next os) (omega (arith, end, many)))
    ∙ ap (rows_writes 0 rows) (sym whole)

pub next_turn-i-requires-in-loop-i-clause-glances : goal.next_turn-i-requires-in-loop-i-clause-glances
next_turn-i-requires-in-loop-i-clause-glances c =
    let os = c.args.table.now.objects.items in
    let next = object_next os c.args.old.now.moves.now (moment c.args.old.now) in
    let i = c.loop-i.i in
    let many = as_many_glances c.loop-i.table.objects.items c.loop-i.table.glances.items c.loop-i.invariant.glances in
    let same : length (set c.loop-i.table.glances.items i c.turn.new.glance) ≡ length c.loop-i.table.glances.items = length-set c.loop-i.table.glances.items i c.turn.new.glance in
    omega (arith, c.len-many.ensures, c.args.table.now.objects.ok, ap (λ (xs : List Glance). length xs) c.deref-in-loop-i.ensures.value, same, many, ap (λ (xs : List Object). length xs) c.loop-i.invariant.turned.objects_are, stepped_length i next os)
