use Rattle.std.proofs.Common.{◌≡◌, ◌≤◌, ◌-◌, ◌+◌, vec_len}
use Rattle.tn_outside.specs.Totals.{GaveFront}
use Rattle.script_input.proofs.input.read_all.Given as goal

abbrev pub invariant-reads : goal.invariant-reads
invariant-reads g l = record {
  gave : GaveFront (g.S.Source.held l.fn.source) (g.S.Source.held l.source) l.bytes.items;
  few : vec_len l.bytes ≤ l.fn.limit + 1;
  spared : g.S.Source.faults l.source ≡ g.S.Source.faults l.fn.source;
}

abbrev pub decreases-reads : goal.decreases-reads
decreases-reads g l = l.fn.limit + 1 - vec_len l.bytes
