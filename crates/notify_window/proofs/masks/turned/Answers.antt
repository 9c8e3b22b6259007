use Rattle.std.proofs.Common.{◌∙◌, ap, ◌-◌, ◌/◌, ◌^◌}
use Rattle.std.specs.Int.{bit_at}
use Rattle.notify_window.proofs.Words.{bit_at-turned}
use Rattle.notify_window.proofs.masks.turned.Goals as goal

pub returns : goal.returns
returns c i l = ap (λ n. bit_at (n / 2 ^ (32 - c.args.count)) i) c.reverse_bits.ensures ∙ bit_at-turned c.args.mask c.args.count i c.requires.some c.requires.few l
