use Rattle.std.proofs.Common.{◌∙◌, take}
use Rattle.datagram_tags.proofs.Tags.{same_tagged}
use Rattle.datagram_tags.proofs.laws.verifies_only_what_is_tagged.Goals as goal

pub returns : goal.returns
returns c a b number datagram count ends is = is.1 ∙ same_tagged a b number (take count datagram) ends
