use Rattle.std.proofs.Common.{◌≡◌, ◌-◌, length}
use Rattle.own_items.specs.Source.{Stands}
use Rattle.own_list_cli.proofs.own_lines.Given as goal

abbrev pub invariant-items : goal.invariant-items
invariant-items l = record {
  stands : Stands l.source;
  script : l.source.script ≡ l.script;
}

abbrev pub decreases-items : goal.decreases-items
decreases-items l = length l.script.body - l.source.place
