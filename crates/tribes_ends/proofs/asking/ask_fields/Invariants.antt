use Rattle.std.proofs.Common.{◌≡◌, ◌≤◌, ◌+◌, ◌++◌, take, map}
use Rattle.std.specs.Prelude.{filter}
use Rattle.tn_types.specs.BitWords.{has_bit}
use Rattle.ghost_model.specs.Words.{upto}
use Rattle.tribes_ends.specs.Lists.{ask_of}
use Rattle.tribes_ends.proofs.asking.ask_fields.Given as goal

abbrev pub invariant-fields : goal.invariant-fields
invariant-fields l = record {
  told : take l.count l.asks ≡ take l.fn.before l.fn.asks ++ map ask_of (map (λ f. (l.choice.n, f)) (filter (has_bit l.choice.mask) (upto l.field)));
  few : l.count ≤ l.fn.before + l.field;
}
