-- Answers of comparisons, and what is asked of all items of a list behind a list.
use Rattle.std.proofs.Common.{◌≡◌, List, [], ◌∷◌, ◌++◌}
use Rattle.std.specs.Prelude.{◌↔◌, Bool, true, false}
use Rattle.std.specs.List.{AllByRecursion}
use Rattle.race_history.specs.Deciding.{Decides}

pub all_append : {X : Type 0} (P : X → Type 0) (xs ys : List X) → AllByRecursion P (xs ++ ys) ↔ (AllByRecursion P xs × AllByRecursion P ys)
all_append {X} P [] ys = (λ a. (tt, a), λ b. b.1)
all_append {X} P (x ∷ xs) ys = let h = all_append P xs ys in (λ a. ((a.0, (h.0 a.1).0), (h.0 a.1).1), λ b. (b.0.0, h.1 (b.0.1, b.1)))

-- ---- answers

pub holds : (b : Bool) (P : Type 0) → Decides b P → b ≡ true → P
holds true P d e = d
holds false P d e = absurd (cc)

pub fails : (b : Bool) (P : Type 0) → Decides b P → b ≡ false → P → ⊥
fails true P d e = absurd (cc)
fails false P d e = d

pub decides_same : (b : Bool) (P Q : Type 0) → P ↔ Q → Decides b P → Decides b Q
decides_same true P Q h d = h.0 d
decides_same false P Q h d = λ q. d (h.1 q)
