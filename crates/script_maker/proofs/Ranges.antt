-- A made script has the ranges of a script.
use Rattle.std.proofs.Common.{ℕ, ◌<◌, ◌≤◌, ◌^◌, replicate, refl, arith}
use Rattle.std.specs.List.{All}
use Rattle.std.proofs.lemmas.List.Elements.{All-from_recursion, All-weaker}
use Rattle.rand_pcg.specs.Lcg.{Lcg}
use Rattle.tn_types.specs.declared.limits.TheConstants.{MAX_CLIENTS}
use Rattle.match_script.specs.declared.limits.TheConstants.{MAX_BODY_LINES}
use Rattle.world_rules.specs.Spawning.{SpawnFits}
use Rattle.match_script.specs.Ranges.{BlockFits, HeadFits, HasRanges}
use Rattle.script_maker.specs.Draws.{generator}
use Rattle.script_maker.specs.Header.{blocks, objects, head_with}
use Rattle.script_maker.specs.Made.{script_drawn, made}
use Rattle.script_maker.proofs.Fitting.{lines_fit, lines_few}
use Rattle.script_maker.proofs.Spawned.{Fits, objects_fit, sixty_objects, owners_rise}

block_fits : (value : ℕ) → value < 256 → BlockFits (replicate 8 value)
block_fits value h = (omega arith, (h, (h, (h, (h, (h, (h, (h, (h, tt)))))))))

blocks_fit : All BlockFits blocks
blocks_fit = All-from_recursion BlockFits blocks (block_fits 0 (omega arith), (block_fits 1 (omega arith), (block_fits 2 (omega arith), (block_fits 3 (omega arith), tt))))

head_fits : (seed clients : ℕ) (g : Lcg) → seed < 2 ^ 32 → 1 ≤ clients → clients ≤ MAX_CLIENTS → HeadFits (head_with seed clients (objects clients g).0)
head_fits seed clients g s least most =
    let spawns = (objects clients g).0 in
    let fit : All (Fits clients) spawns = objects_fit clients g in
    record {
      version_least = omega arith;
      version = omega arith;
      seed = s;
      clients_least = least;
      clients = most;
      life_least = omega arith;
      life = omega arith;
      size_least = omega arith;
      size = omega arith;
      radius = omega arith;
      blocks_few = omega arith;
      blocks = blocks_fit;
      setup = record {
        clients_least = least;
        clients = most;
        few = omega (arith, sixty_objects clients g most);
        spawns = All-weaker (Fits clients) (SpawnFits clients) (λ s f. f.0) spawns fit;
        owners = owners_rise clients g;
      };
      same_clients = refl;
      same_radius = refl;
      objects = All-weaker (Fits clients) (λ s. s.block < 4) (λ s f. f.1) spawns fit;
    }

pub made_has_ranges : (seed clients steps : ℕ) → seed < 2 ^ 32 → 1 ≤ clients → clients ≤ MAX_CLIENTS → steps ≤ MAX_BODY_LINES → HasRanges (made seed clients steps)
unfolding script_drawn
made_has_ranges seed clients steps s least most few =
    let g = generator seed 0 in
    let o = objects clients g in record {
      head = head_fits seed clients g s least most;
      few = omega (arith, lines_few clients steps o.1);
      lines = lines_fit clients steps o.1 few;
    }
