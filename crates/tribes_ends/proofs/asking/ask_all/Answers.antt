use Rattle.std.proofs.Common.{arith, take}
use Rattle.std.proofs.lemmas.List.{take_more}
use Rattle.tribes_ends.proofs.Noted.{item-noted}
use Rattle.tribes_ends.proofs.asking.ask_all.Goals as goal

pub items-preserved : goal.items-preserved
items-preserved c = record {
  told = item-noted c.args.choices.now c.items.choice-index _ _ (take c.items.count c.items.asks) c.items-test.true (take_more c.args.choices.now c.items.choice-index _ c.items-test.true)
      c.ask_fields-count.ensures.told c.items.invariant.told;
  few = omega (arith, c.items.invariant.few, c.ask_fields-count.ensures.few);
}
