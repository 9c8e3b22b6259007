use Rattle.std.proofs.Common.{◌≡◌, take}
use Rattle.std.specs.Prelude.{reverse}
use Rattle.ghost_client.specs.StandsFor.{StandsFor}
use Rattle.demo_view.proofs.kept.created.Given as goal

abbrev pub invariant-creates : goal.invariant-creates
invariant-creates l = record {
  kinds : l.copies.kinds ≡ l.kinds;
  stands : StandsFor l.copies (reverse (take l.create-index l.creates));
}
