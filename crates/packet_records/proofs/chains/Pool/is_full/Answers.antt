use Rattle.std.proofs.Common.{◌≡◌, List, length, ap, arith, sym, ◌∙◌}
use Rattle.std.proofs.lemmas.Grind.{common_steps}
use Rattle.packet_records.specs.Pool.{Held, records}
use Rattle.packet_records.specs.Ring.{from_start}
use Rattle.packet_records.proofs.PoolFacts.{same_length}
use Rattle.packet_records.proofs.chains.Pool.is_full.Goals as goal

pub returns : goal.returns
returns c =
    let n : length (records c.args.self.now) ≡ length c.self.inside.packets.items =
    ap (λ (l : List Held). length (records l)) (sym c.self.view_is) ∙ same_length (from_start c.self.inside.nodes.items c.self.inside.start) 0 c.self.inside.packets.items in
    (λ t. grind (arith, common_steps, n, t, c.len.ensures), λ le. grind (arith, common_steps, n, le, c.len.ensures))
