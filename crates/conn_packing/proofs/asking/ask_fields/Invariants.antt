use Rattle.std.proofs.Common.{◌≡◌, ◌≤◌, ◌+◌}
use Rattle.std.specs.Prelude.{map, filter, vec_len, vec_capacity}
use Rattle.tn_types.specs.BitWords.{has_bit}
use Rattle.ghost_model.specs.Words.{upto}
use Rattle.conn_packing.specs.Asking.{AreAsked}
use Rattle.conn_packing.proofs.asking.ask_fields.Given as goal

abbrev pub invariant-fields : goal.invariant-fields
invariant-fields g l = record {
  told : AreAsked g.V.Values.ranges g.V.Values.asks l.initial.values l.values (map (λ f. (l.choice.n, f)) (filter (has_bit l.choice.mask) (upto l.field))) l.fn.listed.items l.list.items;
  few : vec_len l.list ≤ vec_len l.fn.listed + l.field;
  room : vec_capacity l.list ≡ vec_capacity l.fn.listed;
}
