use Rattle.notify_window.proofs.Words.{bit_at-shl}
use Rattle.notify_window.proofs.masks.raised.Goals as goal

pub returns-then-by-lt-MAX_UNJUDGED_PACKETS : goal.returns-then-by-lt-MAX_UNJUDGED_PACKETS
returns-then-by-lt-MAX_UNJUDGED_PACKETS c i l = bit_at-shl c.args.mask c.args.by i l
