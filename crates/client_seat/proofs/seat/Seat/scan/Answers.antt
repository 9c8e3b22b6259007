use Rattle.std.proofs.Common.{◌++◌, map}
use Rattle.own_lists.specs.Course.{hide_step, near_step, show_step}
use Rattle.client_seat.proofs.Making.{may_first, may_rest, becomes_both}
use Rattle.client_seat.proofs.seat.Seat.scan.Goals as goal

pub hide_all-requires : goal.hide_all-requires
hide_all-requires c =
    let hides = map hide_step c.args.hides.now in
    let nears = map near_step c.args.nears.now in
    let shows = map show_step c.args.shows.now in
    may_first c.args.self.now hides (nears ++ shows) c.requires

pub near_all-requires : goal.near_all-requires
near_all-requires c =
    let hides = map hide_step c.args.hides.now in
    let nears = map near_step c.args.nears.now in
    let shows = map show_step c.args.shows.now in
    may_first c.hide_all.new.self nears shows (may_rest c.args.self.now c.hide_all.new.self hides (nears ++ shows) c.requires c.hide_all.ensures.stands)

pub show_all-requires : goal.show_all-requires
show_all-requires c =
    let hides = map hide_step c.args.hides.now in
    let nears = map near_step c.args.nears.now in
    let shows = map show_step c.args.shows.now in
    may_rest c.hide_all.new.self c.near_all.new.self nears shows
    (may_rest c.args.self.now c.hide_all.new.self hides (nears ++ shows) c.requires c.hide_all.ensures.stands) c.near_all.ensures.stands

pub returns-clause-stands : goal.returns-clause-stands
returns-clause-stands c =
    let hides = map hide_step c.args.hides.now in
    let nears = map near_step c.args.nears.now in
    let shows = map show_step c.args.shows.now in
    becomes_both c.args.self.now c.hide_all.new.self c.show_all.new.self hides (nears ++ shows) c.hide_all.ensures.stands
    (becomes_both c.hide_all.new.self c.near_all.new.self c.show_all.new.self nears shows c.near_all.ensures.stands c.show_all.ensures.stands)
