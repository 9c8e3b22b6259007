use Rattle.std.proofs.Common.{◌≡◌, ◌∙◌, ◌*◌, ◌+◌, ◌/◌, ◌%◌, ◌<◌, ℕ, List, ap, arith, cond, nat_eq, nat_le, nat_lt, length, length-set, subst, min, max}
use Rattle.std.specs.Int.{bit_at}
use Rattle.std.proofs.lemmas.Bool.Decides.{nat_tests}
use Rattle.world_cells.specs.Lines.{is_before}
use Rattle.world_cells.proofs.LineBits.{IsPutIn, put_none, put_more, put_all, same_default}
use Rattle.world_cells.proofs.lines.Lines.shift.Goals as goal

pub loop-line-init : goal.loop-line-init
loop-line-init c = record {
  many = c.self.invariant;
  put = rw c.min-line.ensures (subst (λ (ws : List ℕ). IsPutIn (min c.args.from c.args.to) (min c.args.from c.args.to + 1) c.args.number c.args.to ws c.self.inside.words.items) c.self.view_is (put_none (min c.args.from c.args.to) c.args.number c.args.to c.self.inside.words.items));
}

pub loop-line-preserved : goal.loop-line-preserved
loop-line-preserved c =
    let words = c.loop-line.self-inside.words.items in
    let place = (c.loop-line.line + 1) * 16 + c.args.number / 64 in
    let number : c.args.number < 1024 = c.requires.number in
    let many : length words ≡ 272 = c.loop-line.invariant.many in
    let few : c.loop-line.line + 1 < 17 = omega (arith, c.loop-line-test.true, c.requires.from, c.requires.to) in
    let low : min c.args.from c.args.to < c.loop-line.line + 1 = omega arith in
    let within : place < length words = omega (arith, number, many, few) in
    let same : nat_le c.args.to c.loop-line.line ≡ nat_lt c.args.to (c.loop-line.line + 1) = grind (arith, nat_tests) in
    record {
      many = length-set words place c.with_bit.result ∙ many;
      put = put_more (min c.args.from c.args.to) (c.loop-line.line + 1) c.args.number c.args.to c.with_bit.result c.args.self.now words low few number many c.loop-line.invariant.put
          (λ k l. c.with_bit.ensures k l ∙ ap (λ b. cond (nat_eq k (c.args.number % 64)) (cond b 1 0) (bit_at c.index.result.now k)) same ∙ ap (λ w. cond (nat_eq k (c.args.number % 64)) (is_before (c.loop-line.line + 1) c.args.to) (bit_at w k)) (c.index.ensures ∙ same_default words place _ within));
    }

pub returns : goal.returns
returns c = λ at.
    let end : c.loop-line.line ≡ max c.args.from c.args.to = omega (arith, c.loop-line.auto.line-end, c.loop-line-test.false) in
    put_all c.args.number c.args.from c.args.to c.args.self.now c.loop-line.self-inside.words.items at (rw end at c.loop-line.invariant.put)
