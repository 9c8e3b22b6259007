use Rattle.std.proofs.Common.{◌≡◌, map, take}
use Rattle.own_items.specs.Items.{show_of}
use Rattle.alone_server.proofs.server.showings.Given as goal

abbrev pub invariant-loop-show : goal.invariant-loop-show
invariant-loop-show l = l.out.items ≡ map (λ s. (show_of s).how) (take l.show-index l.shows)
