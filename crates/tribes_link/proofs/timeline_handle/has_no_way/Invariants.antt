use Rattle.std.proofs.Common.{◌≡◌, drop}
use Rattle.std.specs.List.{list_any}
use Rattle.tribes_link.specs.Drawing.{is_no_way}
use Rattle.tribes_link.proofs.timeline_handle.has_no_way.Given as goal

abbrev pub invariant-rows : goal.invariant-rows
invariant-rows l = list_any is_no_way l.rows ≡ list_any is_no_way (drop l.row-index l.rows)
