use Rattle.std.proofs.Common.{length, refl, ap, ◌∙◌}
use Rattle.std.proofs.lemmas.List.{length-replicate}
use Rattle.timeline.specs.Standing.{fresh}
use Rattle.timeline.proofs.SlotFacts.{new_stands, new_whole}
use Rattle.timeline.proofs.told.Timeline.new.Goals as goal

pub invariant_of-result : goal.invariant_of-result
invariant_of-result c =
    new_whole c.args.shape.fields c.args.shape.depth c.args.shape.slots c.in_ok-slots.slots.items c.requires.few_fields c.requires.some_depth c.in_ok-slots.ensures

pub returns-clause-log : goal.returns-clause-log
returns-clause-log c =
    new_stands
    (record { ways = c.in_ok-table.table.items; fields = c.args.shape.fields; depth = c.args.shape.depth; latest = 0; slots = c.in_ok-slots.slots.items })
    c.args.shape.slots refl c.in_ok-slots.ensures

pub returns-clause-shape : goal.returns-clause-shape
returns-clause-shape c =
    (c.in_ok-table.ensures, refl, refl, ap length c.in_ok-slots.ensures ∙ length-replicate c.args.shape.slots (fresh c.args.shape.fields c.args.shape.depth))
