use Rattle.std.proofs.Common.{sym}
use Rattle.datagram_tags.proofs.Tags.{verifies, same_tagged}
use Rattle.datagram_tags.specs.Tagging.{tagged}
use Rattle.datagram_tags.proofs.laws.other_end_verifies.Goals as goal

pub returns : goal.returns
returns c a b number bytes answer ends is =
    verifies b number (tagged a a.side number bytes) answer is bytes (sym (same_tagged a b number bytes ends))
