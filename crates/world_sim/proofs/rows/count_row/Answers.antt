use Rattle.std.proofs.Common.{◌∙◌, take, ap}
use Rattle.world_sim.specs.Rows.{row_versions}
use Rattle.world_sim.proofs.RowFields.{counts_end, refilled}
use Rattle.world_sim.proofs.rows.count_row.Goals as goal

pub returns : goal.returns
returns c =
    c.truncate.ensures.items
    ∙ ap (take c.common_len-n.result) (refilled c.args.versions.now.items c.count_changes.new.versions (rw c.as_mut_slice.ensures.value at c.count_changes.ensures.many))
    ∙ counts_end (take c.common_len-n.result c.count_changes.new.versions) c.common_len-n.result c.args.before.now c.args.now.now c.args.versions.now.items (row_versions c.args.before.now c.args.now.now c.args.versions.now.items)
    (rw c.as_mut_slice.ensures.value at c.count_changes.ensures.counts)
    (rw c.as_slice.ensures.value at c.common_len-n.ensures.shortest)
