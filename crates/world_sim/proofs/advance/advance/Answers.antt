use Rattle.std.proofs.Common.{◌≡◌, ◌∙◌, ◌++◌, length, ap, arith, sym, List, map, refl}
use Rattle.std.proofs.lemmas.List.{length-map}
use Rattle.world_rules.specs.declared.object.Object.{Object}
use Rattle.world_sim.specs.declared.rows.Row.{Row}
use Rattle.world_sim.specs.RowsNext.{fresh_row, rows_next, rows_writes}
use Rattle.world_sim.proofs.Gathered.{flags_few}
use Rattle.world_sim.proofs.Going.{going_more}
use Rattle.world_sim.proofs.Placing.{all_fit}
use Rattle.world_sim.proofs.Kept.{as_many, writes_kept}
use Rattle.world_sim.proofs.RowLoops.{length_updated, rows_whole, writes_whole}
use Rattle.world_sim.proofs.advance.advance.Goals as goal

pub overflow_cast-red : goal.overflow_cast-red
overflow_cast-red c = omega (arith, c.captures_of-red.ensures.few, ap (λ (xs : List Object). length xs) c.deref-2.ensures.value, flags_few c.args.table.now.objects.items c.prepare.new.work.found c.in_ok-prepare.ensures.found c.requires.few)

pub overflow_cast-blue : goal.overflow_cast-blue
overflow_cast-blue c = omega (arith, c.captures_of-blue.ensures.few, ap (λ (xs : List Object). length xs) c.deref-4.ensures.value, flags_few c.args.table.now.objects.items c.prepare.new.work.found c.in_ok-prepare.ensures.found c.requires.few)

pub add_made-requires-clause-rows_room : goal.add_made-requires-clause-rows_room
add_made-requires-clause-rows_room c =
    let rows = c.prepare.new.rows.items in
    omega (
      arith,
      c.in_ok-prepare.ensures.rows_room,
      c.turn_all.ensures.rows_kept,
      ap (λ (xs : List Row). length xs) c.in_ok-prepare.ensures.rows,
      ap (λ (xs : List Row). length xs) c.turn_all.ensures.rows,
      length_updated (length rows) rows c.turn_all.new.table.objects.items,
      ap (λ (xs : List Object). length xs) c.deref-5.ensures.value,
    )

pub returns-clause-rows : goal.returns-clause-rows
returns-clause-rows c =
    let rows = c.prepare.new.rows.items in
    let after = c.turn_all.new.table.objects.items in
    let made = c.deref-5.result.now in
    let stepped : length after ≡ length c.prepare.new.objects.items = ap (λ (xs : List Object). length xs) c.turn_all.ensures.objects ∙ simp length-map in
    let many : length rows ≡ length after = omega (arith, as_many c.args.table.now.rows.items c.args.table.now.objects.items c.requires.kept, ap (λ (xs : List Row). length xs) c.in_ok-prepare.ensures.rows, ap (λ (xs : List Object). length xs) c.in_ok-prepare.ensures.objects, stepped) in
    c.add_made.ensures.rows
    ∙ ap (λ (xs : List Row). xs ++ map fresh_row made) c.turn_all.ensures.rows
    ∙ rows_whole rows after made many
    ∙ ap (rows_next rows) (sym c.add_made.ensures.objects)
    ∙ ap (λ (xs : List Row). rows_next xs c.add_made.new.objects.items) c.in_ok-prepare.ensures.rows

pub returns-clause-writes : goal.returns-clause-writes
returns-clause-writes c =
    let rows = c.prepare.new.rows.items in
    let after = c.turn_all.new.table.objects.items in
    let made = c.deref-5.result.now in
    let stepped : length after ≡ length c.prepare.new.objects.items = ap (λ (xs : List Object). length xs) c.turn_all.ensures.objects ∙ simp length-map in
    let many : length rows ≡ length after = omega (arith, as_many c.args.table.now.rows.items c.args.table.now.objects.items c.requires.kept, ap (λ (xs : List Row). length xs) c.in_ok-prepare.ensures.rows, ap (λ (xs : List Object). length xs) c.in_ok-prepare.ensures.objects, stepped) in
    c.turn_all.ensures.writes
    ∙ writes_whole 0 rows after made many
    ∙ ap (rows_writes 0 rows) (sym c.add_made.ensures.objects)
    ∙ ap (λ (xs : List Row). rows_writes 0 xs c.add_made.new.objects.items) c.in_ok-prepare.ensures.rows
    ∙ writes_kept c.args.table.now.rows.items c.args.table.now.objects.items c.add_made.new.objects.items (rows_writes 0 c.args.table.now.rows.items c.add_made.new.objects.items) c.requires.kept refl

pub add_made-requires-clause-fits : goal.add_made-requires-clause-fits
add_made-requires-clause-fits c =
    all_fit c.args.table.now.objects.items c.prepare.new.objects.items c.turn_all.new.table.objects.items c.deref-5.result.now c.args.moves.now _ c.requires.fits c.in_ok-prepare.ensures.objects c.turn_all.ensures.objects
    (c.deref-5.ensures.value ∙ c.in_ok-prepare.ensures.made)

pub returns-clause-going : goal.returns-clause-going
returns-clause-going c = going_more c.turn_all.new.table.going c.turn_all.new.table.objects.items c.deref-5.result.now c.add_made.new.objects.items c.add_made.ensures.objects c.turn_all.ensures.going
