use Rattle.std.proofs.Common.{◌≡◌, ℕ, ◌<◌, List, Option, length, sym, subst}
use Rattle.std.specs.List.{All}
use Rattle.wire_format.specs.declared.blocks.BlockItem.{BlockItem}
use Rattle.datablocks.proofs.Taking.{held_more}
use Rattle.datablocks.proofs.receiver.BlockReceiver.held_after.Goals as goal

pub items-preserved : goal.items-preserved
items-preserved c =
    let numbered : All (λ (x : BlockItem). x.number < 64) c.as_slice-item-items.result.now = subst (λ (xs : List BlockItem). All (λ (x : BlockItem). x.number < 64) xs) (sym c.as_slice-item-items.ensures.value) c.requires in
    held_more c.args.self.now c.as_slice-item-items.result.now c.items.item-index c.item-item.result c.items.held c.with_bit-held.result c.from.result (subst (λ (bs : List (Option (List ℕ))). length bs ≡ 64) c.self.view_is c.self.invariant.places) numbered c.items-test.true c.item-item.is c.from.ensures c.items.invariant c.with_bit-held.ensures.set c.with_bit-held.ensures.others
