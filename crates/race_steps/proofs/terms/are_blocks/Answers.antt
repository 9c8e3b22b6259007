use Rattle.std.proofs.Common.{◌≡◌, length, refl, sym, ap, ◌∙◌, arith, Some, None, Bor}
use Rattle.std.specs.Prelude.{Option, is_some}
use Rattle.std.specs.Option.{option_copied}
use Rattle.race_steps.proofs.Same.{same_where_ends}
use Rattle.race_steps.proofs.terms.are_blocks.Goals as goal

is_some-option_copied : {X : Type 0} (o : Option (Bor X)) → is_some (option_copied o) ≡ is_some o
is_some-option_copied None = refl
is_some-option_copied (Some x) = refl

pub returns : goal.returns
returns c =
    let there = is_some-option_copied c.block.result in
    same_where_ends c.args.conn.now.blocks.blocks c.args.blocks.now (length c.args.blocks.now) c.is_none.result refl
    (λ j l. c.loop-number.invariant j (omega (arith, l, c.loop-number-test.false)))
    (ap is_some (sym c.block.ensures) ∙ there ∙ c.is_none.ensures)
