use Rattle.std.proofs.Common.{◌∙◌, ℕ, List, take, sym, ap, subst, arith}
use Rattle.std.proofs.lemmas.List.{take_more}
use Rattle.conn_packing.specs.Reads.{asked_by_all}
use Rattle.conn_packing.specs.Asking.{AreAsked}
use Rattle.conn_packing.proofs.Asked.{asked-then, all-push}
use Rattle.conn_packing.proofs.asking.ask_all.Goals as goal

pub items-preserved : goal.items-preserved
items-preserved g c =
    record {
      told = subst (λ (fs : List (ℕ × ℕ)). AreAsked g.V.Values.ranges g.V.Values.asks c.args.values.now c.ask_fields-list.new.values fs c.args.listed.items c.ask_fields-list.result.items)
          (sym (all-push (take c.items.choice-index c.args.choices.now) _) ∙ ap asked_by_all (sym (take_more c.args.choices.now c.items.choice-index _ c.items-test.true)))
          (asked-then g.V.Values.ranges g.V.Values.asks c.args.values.now c.items.values c.ask_fields-list.new.values
          (asked_by_all (take c.items.choice-index c.args.choices.now)) _ c.args.listed.items c.items.list.items c.ask_fields-list.result.items
          (g.met.V.Values.asks_more c.args.values.now c.items.values c.ask_fields-list.new.values) (g.met.V.Values.asks_ranges c.args.values.now c.items.values)
          c.items.invariant.told c.ask_fields-list.ensures.told);
      few = omega (arith, c.items.invariant.few, c.ask_fields-list.ensures.few);
      room = c.ask_fields-list.ensures.room ∙ c.items.invariant.room;
    }
