use Rattle.std.proofs.Common.{◌∙◌, ap, map, take}
use Rattle.tribes_ends.specs.Lists.{number_of}
use Rattle.tribes_ends.proofs.Listing.{first-ones}
use Rattle.tribes_ends.proofs.server.moves.Goals as goal

pub returns-clause-told : goal.returns-clause-told
returns-clause-told c =
    c.list_moves.ensures ∙ ap (λ l. map number_of l) (c.split_at.ensures.front ∙ ap (λ k. take k c.taken_bits-taken.result.now) c.min.ensures ∙ first-ones c.taken_bits-taken.result.now 32 ∙ ap (λ l. take 32 l) c.taken_bits-taken.ensures)
