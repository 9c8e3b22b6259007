use Rattle.std.proofs.Common.{◌≡◌, map, take}
use Rattle.tribes_link.specs.Drawing.{way_of}
use Rattle.tribes_link.proofs.timeline_handle.ways_of.Given as goal

abbrev pub invariant-rows : goal.invariant-rows
invariant-rows l = l.ways.items ≡ map way_of (take l.row-index l.rows)
