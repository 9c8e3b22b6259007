-- How many of a list pass a test.
use Rattle.std.proofs.Common.{◌≡◌, ℕ, ◌+◌, Bool, cond, List, ◌∷◌, count_by}
use Rattle.std.proofs.lemmas.List.Sums.{sum_by-cons}
use Rattle.world_rules.specs.declared.object.Object.{Object}

abbrev pub one : Bool → ℕ
one b = cond b 1 0

pub count_cons : (p : Object → Bool) (o : Object) (os : List Object) → count_by p (o ∷ os) ≡ one (p o) + count_by p os
count_cons p o os = sum_by-cons (λ x. one (p x)) o os
