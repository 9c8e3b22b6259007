use Rattle.std.proofs.Common.{◌≡◌, ◌∙◌, arith, ap}
use Rattle.datagram_tags.specs.Tagging.{KeyedState, other, tag_bytes}
use Rattle.datagram_tags.proofs.Tags.{wrong}
use Rattle.datagram_tags.proofs.keyed_end.KeyedEnd.look.Goals as goal

pub returns-else-is_same : goal.returns-else-is_same
returns-else-is_same c =
    let tag_is : c.count-tag.result ≡ tag_bytes c.args.self.now.tag = c.count-tag.ensures ∙ ap (λ (s : KeyedState). tag_bytes s.tag) c.self.view_is in
    let side_is : c.other.result ≡ other c.args.self.now.side = c.other.ensures ∙ ap (λ (s : KeyedState). other s.side) c.self.view_is in
    record {
      answer =
          wrong c.args.self.now c.args.number c.count-tag.result c.other.result c.args.datagram.now c.split_at.result.0.now c.split_at.result.1.now
          c.digest-digest.result tag_is side_is (omega arith) c.split_at.ensures.front c.split_at.ensures.back c.digest-digest.ensures
          (λ same. cc (c.is_same.ensures.1 same));
    }
