use Rattle.std.proofs.Common.{◌≡◌, refl}
use Rattle.world_sim.proofs.Watching.{round_plots, round_have}
use Rattle.world_sim.proofs.watch.watch_round.Goals as goal

pub returns-clause-near : goal.returns-clause-near
returns-clause-near c =
    let all : c.watch_plot-4.new.watched ≡ round_plots c.args.watched.now c.args.place.now = rw (c.watch_plot-4.ensures, c.watch_plot-3.ensures, c.watch_plot-2.ensures, c.watch_plot.ensures, c.first_near.ensures, c.last_near.ensures, c.first_near-2.ensures, c.last_near-2.ensures) refl in
    λ q fits h. rw all (round_have c.args.watched.now c.args.place.now q c.requires fits h)
