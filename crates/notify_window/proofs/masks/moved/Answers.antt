use Rattle.notify_window.proofs.Words.{moved_bit-set}
use Rattle.notify_window.proofs.masks.moved.Goals as goal

pub returns-in-Body : goal.returns-in-Body
returns-in-Body c i l = rw c.in-Body.is (moved_bit-set c.args.mask c.args.by _ i (c.raised-higher.ensures i l))
