use Rattle.std.proofs.Common.{◌≡◌, ◌<◌, ◌≤◌, ℕ, List, Option, Some, None, subst, sym, rules, length}
use Rattle.std.specs.Prelude.{IfSome, MatchOption, slice_index_or}
use denote.Bor.{Bor}
use Rattle.quantised_fields.specs.declared.kind.Kind.{Kind}
use Rattle.quantised_fields.specs.Kinds.{table_fault, IsWithinLimits}
use Rattle.quantised_fields.proofs.Limits.{within_limits}
use Rattle.quantised_fields.proofs.table.KindTable.kind.Goals as goal

-- what a look-up found is one of the kinds
found : (kinds : List Kind) (k : ℕ) (r : Option (Bor Kind)) → table_fault kinds ≡ None → IfSome r (λ x. x.now ≡ slice_index_or kinds k x.now) → MatchOption r (length kinds ≤ k) (λ x. k < length kinds) → IfSome r (λ kind. IsWithinLimits kind.now)
found kinds k None none is lt = tt
found kinds k (Some x) none is lt = subst IsWithinLimits (sym is) (within_limits kinds none k x.now lt)

pub returns-clause-limits : goal.returns-clause-limits
returns-clause-limits c =
    let none : table_fault c.as_slice.result.now ≡ None = search rules in
    found c.as_slice.result.now c.args.k c.get.result none c.get.ensures.lookup.1 (search rules)
