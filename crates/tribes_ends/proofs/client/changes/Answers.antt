use Rattle.std.proofs.Common.{◌∙◌, ap, map, take}
use Rattle.tribes_ends.specs.Lists.{change_of}
use Rattle.tribes_ends.proofs.Listing.{first-ones}
use Rattle.tribes_ends.proofs.client.changes.Goals as goal

pub returns-clause-told : goal.returns-clause-told
returns-clause-told c = λ log s.
    c.list_changes.ensures ∙ ap (λ l. map change_of l) (c.split_at.ensures.front ∙ ap (λ k. take k c.changes-items.result.now) c.min.ensures ∙ first-ones c.changes-items.result.now 128 ∙ ap (λ l. take 128 l) (c.changes-items.ensures.log log s))
