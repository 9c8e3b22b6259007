use Rattle.std.proofs.Common.{◌≡◌, ◌+◌, ◌++◌, ◌∷◌, [], ◌∙◌, sym, ap, subst, List}
use Rattle.std.specs.Prelude.{Option}
use Rattle.tn_types.specs.declared.moves.MoveBits.{MoveBits}
use Rattle.world_sim.specs.Worlds.{Worlds, next}
use Rattle.race_history.specs.History.{Values, HasVersions, world_after, IsHistoryOf}
use Rattle.race_history.proofs.Histories.{after_more}
use Rattle.race_sim.proofs.simulation.advance.Goals as goal

ticks_next : (w v : Worlds) (moves : List (Option MoveBits)) → v ≡ next w moves → v.ticks ≡ w.ticks + 1
unfolding next
ticks_next w v moves e = ap (λ (u : Worlds). u.ticks) e

pub returns-clause-ticks : goal.returns-clause-ticks
returns-clause-ticks c = ticks_next c.args.world.now c.tick.new.self c.args.taken.now c.in_ok-tick.ensures.ok

world_next : (first w v : Worlds) (ticks more : List (List (Option MoveBits))) (moves : List (Option MoveBits)) → v ≡ next w moves → more ≡ ticks ++ moves ∷ []
    → w ≡ world_after first ticks → v ≡ world_after first more
world_next first w v ticks more moves is long at = is ∙ ap (λ (u : Worlds). next u moves) at ∙ sym (after_more first ticks moves) ∙ ap (world_after first) (sym long)

pub returns-clause-world : goal.returns-clause-world
returns-clause-world c = λ first at.
    world_next first c.args.world.now c.tick.new.self c.args.moves.now c.push.new.self c.args.taken.now c.in_ok-tick.ensures.ok c.in_ok-push.ensures.added at

values_next : (first w v : Worlds) (ticks more : List (List (Option MoveBits))) (moves : List (Option MoveBits)) (values : Values) → v ≡ next w moves → more ≡ ticks ++ moves ∷ []
    → w ≡ world_after first ticks → (v ≡ next (world_after first ticks) moves → IsHistoryOf first (ticks ++ moves ∷ []) values) → IsHistoryOf first more values
values_next first w v ticks more moves values is long at made =
    subst (λ (l : List (List (Option MoveBits))). IsHistoryOf first l values) (sym long) (made (is ∙ ap (λ (u : Worlds). next u moves) at))

pub returns-clause-values : goal.returns-clause-values
returns-clause-values c = λ first versions at old.
    values_next first c.args.world.now c.tick.new.self c.args.moves.now c.push.new.self c.args.taken.now c.add_tick.new.self c.in_ok-tick.ensures.ok c.in_ok-push.ensures.added at
    (c.in_ok-add_tick.ensures.next first c.args.moves.now c.args.taken.now (subst HasVersions at versions) old)
