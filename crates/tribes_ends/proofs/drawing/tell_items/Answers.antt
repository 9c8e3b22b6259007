use Rattle.std.proofs.Common.{◌∙◌, ℕ, ◌+◌, List, take, drop, sym, subst}
use Rattle.ghost_client.specs.State.{value_of}
use Rattle.timeline.specs.Telling.{Told}
use Rattle.timeline.specs.Standing.{Hears}
use Rattle.tribes_ends.specs.Drawing.{told_item, told_items}
use Rattle.tribes_ends.proofs.Hearing.{hears-more, keeps-more, items-same, rest-of-none, told-more}
use Rattle.tribes_ends.proofs.drawing.tell_items.Goals as goal

pub items-preserved : goal.items-preserved
items-preserved c =
    let old = c.args.timeline.now in
    let now = c.items.timeline in
    let new = c.tell_item.new.timeline in
    let items = c.args.items.now in
    let i = c.items.item-index in
    let item = c.item-item.result in
    let value = value_of c.args.copies.now in
    let told : Hears now (told_item c.args.packet value old.fields item) new =
    subst (λ (n : ℕ). Hears now (told_item c.args.packet value n item) new) c.items.invariant.shape.fields c.tell_item.ensures.told in
    record {
      told =
          subst (λ (l : List Told). Hears old l new) (sym (told-more items i item c.items-test.true c.item-item.is c.args.packet value old.fields))
          (hears-more old now new (told_items c.args.packet value old.fields (take i items)) (told_item c.args.packet value old.fields item) c.items.invariant.told told);
      shape = keeps-more old now new c.items.invariant.shape c.tell_item.ensures.shape;
      packet = c.tell_item.ensures.packet;
      none = items-same now new (drop (i + 1) items) c.tell_item.ensures.shape ∙ rest-of-none items i item c.items-test.true c.item-item.is now c.items.invariant.none;
    }
