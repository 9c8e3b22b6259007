use Rattle.std.proofs.Common.{◌∙◌, sym}
use Rattle.world_sim.specs.Turns.{moment}
use Rattle.world_sim.proofs.Turns.{quiet_stays, dead_drone, mine_turn, stays_kept}
use Rattle.world_sim.proofs.step.turn.Goals as goal

pub returns-then-is_quiet-clause-object : goal.returns-then-is_quiet-clause-object
returns-then-is_quiet-clause-object c = λ os i is at ending.
    quiet_stays os c.args.old.now.moves.now (moment c.args.old.now) c.args.object.now c.args.ending (sym c.is_quiet.ensures ∙ c.if-is_quiet.true) ending

pub returns-then-is_quiet-clause-keeps_up : goal.returns-then-is_quiet-clause-keeps_up
returns-then-is_quiet-clause-keeps_up c = stays_kept c.args.number c.args.object.now c.args.row.now c.args.beside.now c.requires.turn.values_are c.requires.turn.sound

pub returns-else-object-clause-object : goal.returns-else-object-clause-object
returns-else-object-clause-object c = λ os i is at ending.
    quiet_stays os c.args.old.now.moves.now (moment c.args.old.now) c.args.object.now c.args.ending (dead_drone c.args.object.now c.in-Drone.d c.args.ending c.in-Drone.is c.if-object.false) ending

pub returns-else-object-clause-keeps_up : goal.returns-else-object-clause-keeps_up
returns-else-object-clause-keeps_up c = stays_kept c.args.number c.args.object.now c.args.row.now c.args.beside.now c.requires.turn.values_are c.requires.turn.sound

pub returns-in-Mine : goal.returns-in-Mine
returns-in-Mine c = record {
  object = λ os i is at ending. c.step_mine.ensures.object ∙ mine_turn os c.args.old.now.moves.now (moment c.args.old.now) c.args.object.now c.in-Mine.m c.args.ending c.in-Mine.is ending;
  glance = c.step_mine.ensures.glance;
  keeps_up = c.step_mine.ensures.keeps_up;
}
