use Rattle.std.proofs.Common.{refl}
use Rattle.world_rules.proofs.kinds.match_kinds.Goals as goal

pub table-requires : goal.table-requires
table-requires c = rw (c.player_kind-player.ensures, c.disc_kind-disc.ensures, c.mine_kind-mine.ensures, c.drone_kind-drone.ensures, c.flag_kind-flag.ensures, c.clock_kind-clock.ensures) refl
