-- What holds of each word of a kind holds of the word of any number.
use Rattle.std.proofs.Common.{ℕ, Bool, true, false, List}
use Rattle.std.specs.Prelude.{◌==◌, if◌then◌else◌, codes}
use Rattle.world_rules.specs.declared.kinds.TheConstants.{PLAYER, DISC, MINE, DRONE, FLAG, CLOCK}
use Rattle.world_rules.specs.Kinds.{kind_word}

module _ (P : List ℕ → Type 0) (player : P (codes "player")) (disc : P (codes "disc")) (mine : P (codes "mine")) (drone : P (codes "drone"))
    (flag : P (codes "flag")) (clock : P (codes "clock")) (unknown : P (codes "unknown")) where
  pub of_kind_word : (kind : ℕ) → P (kind_word kind)
  of_kind_word kind = go (kind == PLAYER) (kind == DISC) (kind == MINE) (kind == DRONE) (kind == FLAG) (kind == CLOCK)
    where
      go : (a b c d e f : Bool)
          → P (if a then codes "player" else if b then codes "disc" else if c then codes "mine" else if d then codes "drone"
          else if e then codes "flag" else if f then codes "clock" else codes "unknown")
      go true b c d e f = player
      go false true c d e f = disc
      go false false true d e f = mine
      go false false false true e f = drone
      go false false false false true f = flag
      go false false false false false true = clock
      go false false false false false false = unknown
