-- Datagrams that come one after another.
use Rattle.std.proofs.Common.{◌≡◌, ℕ, List, [], ◌∷◌, ◌++◌, refl}
use Rattle.wire_format.specs.declared.server.ServerPacket.{ServerPacket}
use Rattle.demo_view.specs.Viewing.{ViewTerms, taking, viewing}

pub viewing-append : (t : ViewTerms) (xs ys : List (List ℕ)) (packets : List ServerPacket) → viewing t (xs ++ ys) packets ≡ viewing t ys (viewing t xs packets)
viewing-append t [] ys packets = refl
viewing-append t (x ∷ xs) ys packets = viewing-append t xs ys (taking t x packets)
