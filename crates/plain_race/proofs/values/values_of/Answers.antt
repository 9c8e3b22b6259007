use Rattle.std.proofs.Common.{◌≡◌, ◌∙◌, ◌+◌, ℕ, List, Option, take, ap, sym, subst, ◌++◌, ◌∷◌, []}
use Rattle.tn_types.specs.declared.moves.MoveBits.{MoveBits}
use Rattle.world_sim.specs.Worlds.{Worlds, next, first_world}
use Rattle.legal_race.specs.race_history.History.{IsHistoryOf, world_after}
use Rattle.legal_race.proofs.Below.race_course.Following.{ticks_next}
use Rattle.legal_race.proofs.Below.race_history.Histories.{after_more}
use Rattle.plain_race.proofs.Calls.{row_more}
use Rattle.plain_race.proofs.values.values_of.Goals as goal

pub loop-tick-preserved : goal.loop-tick-preserved
loop-tick-preserved c =
    let first = first_world c.args.head.now.seed c.args.head.now.setup in
    let k = c.loop-tick.tick in
    let ticks = c.args.moves.now in
    let row = c.in-Some.row.now in
    let longer : take (k + 1) ticks ≡ take k ticks ++ row ∷ [] = row_more ticks k row c.in-Some.ensures.value in
    let here : c.tick.new.self ≡ next (world_after first (take k ticks)) row = c.in_ok-tick.ensures.ok ∙ ap (λ (w : Worlds). next w row) c.loop-tick.invariant.world in
    record {
      ticks = ap (λ (w : Worlds). w.ticks) c.in_ok-tick.ensures.ok ∙ ticks_next c.loop-tick.world row ∙ ap (λ (n : ℕ). n + 1) c.loop-tick.invariant.ticks;
      world = here ∙ sym (after_more first (take k ticks) row) ∙ ap (world_after first) (sym longer);
      values = subst (λ (ts : List (List (Option MoveBits))). IsHistoryOf first ts c.add-in-loop-tick.new.self) (sym longer) (c.in_ok-add-2.ensures.next first (take k ticks) row c.loop-tick.invariant.values here);
    }
