use Rattle.std.proofs.Common.{◌≡◌, ◌*◌, ◌++◌, take, drop}
use Rattle.hex.specs.Hex.{encode_lower}
use Rattle.match_report.proofs.draft.write_pairs.Given as goal

abbrev pub invariant-each : goal.invariant-each
invariant-each l = take (2 * l.i) l.pairs ++ encode_lower (drop l.i l.bytes) ≡ encode_lower l.bytes
