-- What a line brings newly to a spectator: nothing, where the relay's client took no packet; else that packet alone.
use Rattle.std.proofs.Common.{◌≡◌, ◌∙◌, ℕ, ◌-◌, List, [], ◌∷◌, map, take, length, ap, arith}
use Rattle.wire_format.specs.declared.server.ServerPacket.{ServerPacket}
use Rattle.relay_model.specs.Watching.{Took}
use Rattle.relay_report.specs.Met.{newly}

pub no_more : (older newer : List ServerPacket) → newer ≡ older → newly older newer ≡ []
no_more older newer e =
    ap (λ (l : List ServerPacket). newly older l) e ∙ ap (λ (n : ℕ). map Took (take n older)) (let z : length older - length older ≡ 0 = omega arith in z)

pub one_more : (p : ServerPacket) (older newer : List ServerPacket) → newer ≡ p ∷ older → newly older newer ≡ Took p ∷ []
one_more p older newer e =
    ap (λ (l : List ServerPacket). newly older l) e ∙ ap (λ (n : ℕ). map Took (take n (p ∷ older))) (let z : length (p ∷ older) - length older ≡ 1 = omega arith in z)
