use Rattle.std.proofs.Common.{◌∙◌, ap, List}
use Rattle.world_rules.specs.declared.object.Object.{Object}
use Rattle.world_rules.specs.Flags.{flag_next, captures}
use Rattle.world_rules.specs.Clocks.{clock_next}
use Rattle.world_sim.specs.Turns.{moment}
use Rattle.world_sim.proofs.Gathered.{disc_same, mine_same}
use Rattle.world_sim.proofs.Turns.{player_turn, drone_turn, flag_turn, by_state}
use Rattle.world_sim.proofs.step.object_next.Goals as goal

pub returns-in-Player : goal.returns-in-Player
returns-in-Player c = λ os i is at ending.
    c.player_next.ensures
    ∙ player_turn os c.args.old.now.moves.now (moment c.args.old.now) c.args.o.now c.in-Player.p c.move_of-m.result c.damage.result c.hits.result c.in-Player.is c.move_of-m.ensures (c.damage.ensures os i is.found_is at) (c.hits.ensures os is.found_is)

pub returns-in-Disc : goal.returns-in-Disc
returns-in-Disc c = λ os i is at ending.
    c.disc_next.ensures ∙ disc_same os c.args.o.now c.in-Disc.d c.args.ending c.in-Disc.is ending ∙ by_state os c.args.old.now.moves.now (moment c.args.old.now) c.args.o.now _ c.in-Disc.is

pub returns-in-Mine : goal.returns-in-Mine
returns-in-Mine c = λ os i is at ending.
    c.mine_next.ensures ∙ mine_same os c.args.o.now c.in-Mine.m c.args.ending c.in-Mine.is ending ∙ by_state os c.args.old.now.moves.now (moment c.args.old.now) c.args.o.now _ c.in-Mine.is

pub returns-in-Drone : goal.returns-in-Drone
returns-in-Drone c = λ os i is at ending.
    c.drone_next.ensures
    ∙ drone_turn os c.args.old.now.moves.now (moment c.args.old.now) c.args.o.now c.in-Drone.d c.drawn.result c.harm.result c.in-Drone.is c.drawn.ensures (c.harm.ensures os i is.found_is at)

pub returns-in-Flag : goal.returns-in-Flag
returns-in-Flag c = λ os i is at ending.
    c.flag_next.ensures
    ∙ ap (λ (ps : List Object). flag_next ps c.args.old.now.moves.now c.args.o.now c.in-Flag.f.holder) c.deref.ensures.value
    ∙ flag_turn os c.args.old.now.found.now.players.items c.args.old.now.moves.now (moment c.args.old.now) c.args.o.now c.in-Flag.f.holder c.in-Flag.is is.found_is.players_are

pub returns-in-Clock : goal.returns-in-Clock
returns-in-Clock c = λ os i is at ending.
    c.clock_next.ensures
    ∙ ap (λ n. clock_next n c.args.old.now.blue c.args.o.now c.in-Clock.c) is.red_is
    ∙ ap (λ n. clock_next (captures os 0) n c.args.o.now c.in-Clock.c) is.blue_is
    ∙ by_state os c.args.old.now.moves.now (moment c.args.old.now) c.args.o.now _ c.in-Clock.is
