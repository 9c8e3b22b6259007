-- What a player's copy shows is in the ranges of a standing player.
use Rattle.std.proofs.Common.{◌≡◌, ℕ, zero, suc, ◌≤◌, ◌<◌, false, List, [], ◌∷◌, arith}
use Rattle.std.specs.Prelude.{pos, ◌+ℤ◌, ◌≤ℤ◌, ◌==◌, IfSome}
use Rattle.std.proofs.lemmas.Int.{ints}
use Rattle.std.proofs.lemmas.Bool.Decides.{nat_tests}
use Rattle.ghost_client.specs.declared.copy.GhostCopy.{GhostCopy}
use Rattle.ghost_client.specs.State.{IsInRange}
use Rattle.wire_format.specs.Ghosts.{AreLevels, widths}
use Rattle.quantised_fields.specs.Levels.{shown_in}
use Rattle.world_rules.specs.Kinds.{match_kinds}
use Rattle.world_rules.specs.declared.kinds.TheConstants.{PLAYER}
use Rattle.client_predict.specs.Standing.{IsStanding}
use Rattle.predict_client.specs.Following.{standing_of}

-- a level of 16 bits shows a coordinate, and one of 5 bits ammo
coordinate_most : (l : ℕ) → l < 65536 → shown_in l 65535 65535 ≤ 65535
coordinate_most l h = omega arith

ammo_most : (l : ℕ) → l < 32 → shown_in l 20 31 ≤ 20
ammo_most l h = omega arith

of_nat : (n most : ℕ) → n ≤ most → (pos 0 ≤ℤ (pos 0 +ℤ pos n)) × ((pos 0 +ℤ pos n) ≤ℤ pos most)
of_nat n most h = (omega (arith, ints), omega (arith, ints))

-- a player's levels, one for each field
levels_fit : (block : ℕ) (levels : List ℕ) → AreLevels (widths match_kinds PLAYER) levels
    → IfSome (standing_of match_kinds (record { kind = PLAYER; block = block; levels = levels })) IsStanding
levels_fit block (x ∷ y ∷ hp ∷ ammo ∷ score ∷ []) h =
    let at_x = of_nat _ 65535 (coordinate_most x h.0) in
    let at_y = of_nat _ 65535 (coordinate_most y h.1.0) in
    let has = of_nat _ 20 (ammo_most ammo h.1.1.1.0) in
    record { x_least = at_x.0; x_most = at_x.1; y_least = at_y.0; y_most = at_y.1; ammo_least = has.0; ammo_most = has.1 }
levels_fit block [] h = absurd h
levels_fit block (x ∷ []) h = absurd h.1
levels_fit block (x ∷ y ∷ []) h = absurd h.1.1
levels_fit block (x ∷ y ∷ hp ∷ []) h = absurd h.1.1.1
levels_fit block (x ∷ y ∷ hp ∷ ammo ∷ []) h = absurd h.1.1.1.1
levels_fit block (x ∷ y ∷ hp ∷ ammo ∷ score ∷ one ∷ more) h = absurd h.1.1.1.1.1

fits_by : (kind block : ℕ) (levels : List ℕ) → AreLevels (widths match_kinds kind) levels
    → IfSome (standing_of match_kinds (record { kind = kind; block = block; levels = levels })) IsStanding
fits_by zero block levels h = levels_fit block levels h
fits_by (suc k) block levels h = let e : (suc k == PLAYER) ≡ false = grind (arith, nat_tests) in rw e tt

pub standing_fits : (copy : GhostCopy) → IsInRange match_kinds copy → IfSome (standing_of match_kinds copy) IsStanding
standing_fits copy h = fits_by copy.kind copy.block copy.levels h.levels
