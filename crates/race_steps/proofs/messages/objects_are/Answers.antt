use Rattle.std.proofs.Common.{arith, false, ap, sym, ◌∙◌}
use Rattle.std.specs.Prelude.{is_some, slice_get}
use Rattle.race_steps.specs.Asked.{object_shown}
use Rattle.std.specs.Option.{option_and_then}
use Rattle.race_steps.specs.Walking.{Fits}
use Rattle.race_steps.specs.declared.fit.Fit.{Fit}
use Rattle.race_steps.specs.declared.fit.Fit.TheVariants.{Nothing, Next, Other}
use Rattle.race_steps.proofs.Walks.{nothing_more, next_more, other_stops, list_ends_none, item_fits}
use Rattle.race_steps.proofs.messages.objects_are.Goals as goal
use Rattle.race_steps.proofs.messages.objects_are.Goals.{in-Nothing, in-Next}

pub returns-in-Other : goal.returns-in-Other
returns-in-Other c =
    let taken = c.args.taken.now in
    let asked = slice_get c.args.shown.now c.loop-message.n in
    let fits = item_fits object_shown taken c.loop-message.message-index c.message-item.result asked Other c.loop-message-test.true c.message-item.is c.in-Other.ensures in
    other_stops _ false object_shown taken c.args.shown.now c.loop-message.n c.loop-message.message-index c.loop-message.invariant fits

pub loop-message-preserved : goal.loop-message-preserved
loop-message-preserved c =
    let taken = c.args.taken.now in
    let asked = slice_get c.args.shown.now c.loop-message.n in
    let fits : (fit : Fit) → Fits (object_shown c.message-item.result) asked fit → Fits (option_and_then object_shown (slice_get taken c.loop-message.message-index)) asked fit = λ fit. item_fits object_shown taken c.loop-message.message-index c.message-item.result asked fit c.loop-message-test.true c.message-item.is in
    elim c.match-object_fit.branch [
      | in-Nothing w ↦ rw w.n-is (nothing_more _ false object_shown taken c.args.shown.now c.loop-message.n c.loop-message.message-index c.loop-message.invariant (fits Nothing w.in-Nothing.ensures))
      | in-Next w ↦ rw w.n-is (next_more _ false object_shown taken c.args.shown.now c.loop-message.n c.loop-message.message-index c.loop-message.invariant (fits Next w.in-Next.ensures))
    ]

pub returns : goal.returns
returns c = list_ends_none _ object_shown c.args.taken.now c.args.shown.now c.loop-message.n c.loop-message.message-index _ c.loop-message.invariant (omega (arith, c.loop-message-test.false)) (ap is_some (sym c.get.ensures) ∙ c.is_none.ensures)
