use Rattle.std.proofs.Common.{◌≡◌, ◌∙◌, ◌&&◌, Some, sym, subst, ap}
use Rattle.std.specs.Prelude.{slice_get}
use Rattle.std.specs.Option.{option_copied}
use Rattle.pair_core.specs.Answers.{came_up}
use Rattle.pair_core.specs.Stands.{PairState, StandsFor}
use Rattle.pair_core.proofs.Brought.{up_stands, up_answer, up_handed, up_moves}
use Rattle.pair_core.proofs.pair.Pair.bring_up.Goals as goal
use Rattle.pair_core.proofs.pair.Pair.bring_up.Goals.{in-Ok, in-Err}

pub returns-clause-stands : goal.returns-clause-stands
returns-clause-stands c t steps s =
    let p : PairState = record { conn = c.self.inside.conn; client = c.self.inside.client; down = c.self.inside.down.list; up = c.self.inside.up.list; prepared = c.self.inside.down.has_room && c.self.inside.up.has_room; keeps_all = c.self.inside.keeps_all; sent = c.self.inside.sent } in
    let stands : StandsFor p t steps = subst (λ (x : PairState). StandsFor x t steps) (sym c.self.view_is) s in
    let there : slice_get p.up c.args.k ≡ Some c.in-Some.datagram.now = sym c.get.ensures.value ∙ ap option_copied c.in-Some.is in
    up_stands p c.arrive.new.self t steps c.args.k c.args.room c.in-Some.datagram.now there c.arrive.ensures.terms c.arrive.ensures.stands stands

pub returns-clause-answer : goal.returns-clause-answer
returns-clause-answer c t steps s =
    let p : PairState = record { conn = c.self.inside.conn; client = c.self.inside.client; down = c.self.inside.down.list; up = c.self.inside.up.list; prepared = c.self.inside.down.has_room && c.self.inside.up.has_room; keeps_all = c.self.inside.keeps_all; sent = c.self.inside.sent } in
    let stands : StandsFor p t steps = subst (λ (x : PairState). StandsFor x t steps) (sym c.self.view_is) s in
    let there : slice_get p.up c.args.k ≡ Some c.in-Some.datagram.now = sym c.get.ensures.value ∙ ap option_copied c.in-Some.is in
    let told = up_answer p t steps stands c.in-Some.datagram.now c.args.room c.args.k there c.arrive.result c.arrive.ensures.answer in
    elim c.match-arrive.branch [ in-Ok w ↦ w.result-is ∙ ap came_up (sym w.in-Ok.is) ∙ told | in-Err w ↦ w.result-is ∙ ap came_up (sym w.in-Err.is) ∙ told ]

pub returns-clause-handed : goal.returns-clause-handed
returns-clause-handed c t steps s =
    let p : PairState = record { conn = c.self.inside.conn; client = c.self.inside.client; down = c.self.inside.down.list; up = c.self.inside.up.list; prepared = c.self.inside.down.has_room && c.self.inside.up.has_room; keeps_all = c.self.inside.keeps_all; sent = c.self.inside.sent } in
    let stands : StandsFor p t steps = subst (λ (x : PairState). StandsFor x t steps) (sym c.self.view_is) s in
    let there : slice_get p.up c.args.k ≡ Some c.in-Some.datagram.now = sym c.get.ensures.value ∙ ap option_copied c.in-Some.is in
    up_handed p t steps stands c.in-Some.datagram.now c.args.room c.args.k there c.arrive.new.self c.arrive.ensures.handed

pub returns-clause-moves : goal.returns-clause-moves
returns-clause-moves c = elim c.match-arrive.branch [
  | in-Ok w ↦ rw w.result-is (λ t steps s.
      let p : PairState = record { conn = c.self.inside.conn; client = c.self.inside.client; down = c.self.inside.down.list; up = c.self.inside.up.list; prepared = c.self.inside.down.has_room && c.self.inside.up.has_room; keeps_all = c.self.inside.keeps_all; sent = c.self.inside.sent } in
      let stands : StandsFor p t steps = subst (λ (x : PairState). StandsFor x t steps) (sym c.self.view_is) s in
      let there : slice_get p.up c.args.k ≡ Some c.in-Some.datagram.now = sym c.get.ensures.value ∙ ap option_copied c.in-Some.is in
      up_moves p t steps stands c.in-Some.datagram.now c.args.room c.args.k there c.arrive.new.self w.in-Ok.ensures.moves)
  | in-Err w ↦ rw w.result-is tt
]
