-- A connection of a match has moves of ten bits in each version, and 128 bytes are enough for them.
use Rattle.std.proofs.Common.{◌≡◌, ℕ, ◌<◌, ◌≤◌, Bool, true, false, refl, sym, subst, arith}
use Rattle.std.specs.Prelude.{nat_lt}
use Rattle.wire_format.specs.declared.wire.Wire.{Wire}
use Rattle.wire_format.specs.Moves.{move_width}
use Rattle.pair_steps.specs.stream_manager.Limits.{IsConfig, least_size}
use Rattle.match_script.specs.declared.types.Head.{Head}
use Rattle.match_script.specs.Ranges.{HeadFits}
use Rattle.own_lists.specs.Past.{client_terms}

abbrev of_ten_bits : ℕ → Wire
of_ten_bits version = record { version = version; move_bits = 10 }

ten_bits : (version : ℕ) → (move_width (of_ten_bits version) ≡ 10) × (least_size (of_ten_bits version) ≡ 128)
ten_bits version = go (nat_lt version 3) refl
  where
    go : (b : Bool) → nat_lt version 3 ≡ b → (move_width (of_ten_bits version) ≡ 10) × (least_size (of_ten_bits version) ≡ 128)
    go true e = rw e (refl, refl)
    go false e = rw e (refl, refl)

-- also where a match has fewer clients
pub config_fits : (head : Head) (c : ℕ) → HeadFits head → c < 16 → IsConfig (client_terms head c).config
config_fits head c h few = record {
  client = few;
  some_life = h.life_least;
  life = h.life;
  least = subst (λ (n : ℕ). n ≤ head.size) (sym (ten_bits head.version).1) h.size_least;
  size = h.size;
  some_version = h.version_least;
  version = omega (arith, h.version);
  some_bits = omega arith;
  move_bits = (ten_bits head.version).0;
}
