use Rattle.std.proofs.Common.{◌≡◌, ◌∙◌, ◌+◌, ◌*◌, ◌/◌, ◌-◌, ◌<◌, ◌∷◌, drop, bit_and, sym, ap, subst, arith, length}
use Rattle.std.specs.Int.{trailing_zeros, w64}
use Rattle.work_list.specs.Work.{IsUnique, has, first_of}
use Rattle.work_list.specs.Bits.{to_come}
use Rattle.work_list.proofs.Lists.{has_here}
use Rattle.work_list.proofs.ToCome.{first_to_come, unique_to_come}
use Rattle.work_list.proofs.work_walk.WorkWalk.next_work.Given.{Over}
use Rattle.work_list.proofs.work_walk.WorkWalk.next_work.Goals as goal
use Rattle.work_list.proofs.work_walk.WorkWalk.next_work.Goals.{After-tick}

-- the member that it comes to, and the others
module _ (g : Over) (c : After-tick g) where
  splits : c.args.self.now ≡ (c.in_ok-base.base + trailing_zeros w64 c.in_ok-base.rest) ∷ to_come c.self.inside.words.now (c.in_ok-base.base / 64) (bit_and c.in_ok-base.rest (c.in_ok-base.rest - 1))
  splits =
      let ws = c.self.inside.words.now in
      let b = c.in_ok-base.base in
      let rest = c.in_ok-base.rest in
      let at = c.in_ok-base.ensures.first in
      let inside : b / 64 < length ws = omega (arith, at.0, c.self.invariant.0) in
      let first = first_to_come ws (b / 64) rest inside (omega (arith, at.0)) (omega (arith, c.in_ok-base.ensures.some)) (omega arith) in
      let word : 64 * (b / 64) ≡ b = omega (arith, at.1) in
      sym c.self.view_is ∙ sym c.in_ok-base.ensures.same ∙ first ∙ ap (λ n. (n + trailing_zeros w64 rest) ∷ to_come ws (b / 64) (bit_and rest (rest - 1))) word

pub returns-clause-next : goal.returns-clause-next
returns-clause-next g c = sym (ap first_of (splits g c))

pub returns-clause-others : goal.returns-clause-others
returns-clause-others g c = sym (ap (drop 1) (splits g c))

pub returns-clause-member : goal.returns-clause-member
returns-clause-member g c =
    let s = c.in_ok-base.base + trailing_zeros w64 c.in_ok-base.rest in
    let others = to_come c.self.inside.words.now (c.in_ok-base.base / 64) (bit_and c.in_ok-base.rest (c.in_ok-base.rest - 1)) in
    ap (λ l. has l s) (splits g c) ∙ has_here s others

pub returns-clause-unique : goal.returns-clause-unique
returns-clause-unique g c = subst IsUnique c.self.view_is (unique_to_come c.self.inside.words.now (c.self.inside.base / 64) c.self.inside.rest)

pub filled-requires-clause-fits : goal.filled-requires-clause-fits
filled-requires-clause-fits g c = c.self.invariant.3
