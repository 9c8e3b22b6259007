use Rattle.std.proofs.Common.{◌==◌, ◌<◌, length, get_or}
use Rattle.std.proofs.lemmas.List.Folds.{list_any_at}
use Rattle.lane_periods.proofs.Numbers.{same-number}
use Rattle.lane_periods.proofs.periods.has_object.Goals as goal

pub bounds-objects-n : goal.bounds-objects-n
bounds-objects-n c =
    let lt : c.loop-n.n-index < length c.args.up.now = c.loop-n-test.true in
    c.requires.shown (get_or c.args.up.now c.loop-n.n-index 0) (list_any_at (λ m. m == get_or c.args.up.now c.loop-n.n-index 0) c.args.up.now c.loop-n.n-index 0 lt (same-number (get_or c.args.up.now c.loop-n.n-index 0)))
