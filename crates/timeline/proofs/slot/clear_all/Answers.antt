use Rattle.std.proofs.Common.{◌<◌, length, arith, ap, sym, ◌∙◌}
use Rattle.std.specs.Prelude.{slice_set}
use Rattle.std.proofs.lemmas.List.Edits.{map_over_more}
use Rattle.timeline.specs.Standing.{emptied}
use Rattle.timeline.proofs.slot.clear_all.Goals as goal

pub fields-preserved : goal.fields-preserved
fields-preserved c =
    let less : c.fields.frames-index < length c.args.fields.now = omega arith in
    ap (slice_set c.fields.fields c.fields.frames-index) (c.clear.ensures ∙ ap emptied (sym c.frames-item.is))
    ∙ map_over_more emptied c.args.fields.now c.fields.fields c.fields.frames-index c.frames-item.result less c.fields.invariant c.frames-item.is
