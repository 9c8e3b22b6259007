use Rattle.std.proofs.Common.{◌∙◌, ◌++◌, ◌∷◌, ℕ, [], List, Option, take, sym, ap, append-nil}
use Rattle.std.specs.List.{filter_map, cons_option}
use Rattle.relay_spectator.specs.Watches.{period_at}
use Rattle.relay_spectator.proofs.Watching.{mapped_more}
use Rattle.relay_spectator.proofs.watch.Watch.hides.Goals as goal
use Rattle.relay_spectator.proofs.watch.Watch.hides.Goals.{in-Some+in_ok-push, in_default}

pub loop-slot-preserved : goal.loop-slot-preserved
loop-slot-preserved c =
    let f = period_at c.args.self.now.periods in
    let killed = c.args.killed.now in
    let i = c.loop-slot.slot-index in
    let more = mapped_more f killed i 0 c.loop-slot-test.true in
    let by : Option ℕ → List ℕ = λ o. filter_map f (take i killed) ++ cons_option o [] in
    elim c.match-period.branch [
      | in-Some+in_ok-push w ↦ ap (λ v. v.items) w.hides-is ∙ w.in_ok-push.ensures.items
          ∙ ap (λ (l : List ℕ). l ++ w.in-Some.n ∷ []) c.loop-slot.invariant ∙ ap by (sym w.in-Some.is ∙ c.period.ensures) ∙ sym more
      | in_default w ↦ ap (λ v. v.items) w.hides-is ∙ c.loop-slot.invariant ∙ sym (append-nil (filter_map f (take i killed)))
          ∙ ap by (sym w.in_default.is ∙ c.period.ensures) ∙ sym more
    ]
