use Rattle.std.proofs.Common.{ap, ◌∙◌, ◌++◌, List, ℕ, length, drop, replicate}
use Rattle.std.proofs.lemmas.List.{drop-replicate}
use Rattle.keyed_digest.proofs.keyed.filled.Goals as goal

pub returns : goal.returns
returns c =
    ap (λ (front : List ℕ). front ++ drop (length c.args.key.now) (replicate 64 0)) c.copy_from_slice.ensures.after
    ∙ ap (λ (rest : List ℕ). c.args.key.now ++ rest) (drop-replicate (length c.args.key.now) 64 0)
