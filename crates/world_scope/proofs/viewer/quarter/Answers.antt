use Rattle.std.proofs.Common.{ℕ, ◌*◌, ◌/◌, ◌∙◌, ap}
use Rattle.world_scope.proofs.Shares.{share_tells}
use Rattle.world_scope.proofs.viewer.quarter.Goals as goal

pub returns : goal.returns
returns c = record {
  value =
      ap (λ (a : ℕ). a * c.args.share / 281474976710656) c.from.ensures
      ∙ share_tells c.args.whole c.args.share c.args.away c.requires.whole c.requires.field c.requires.near c.requires.share;
}
