use Rattle.std.proofs.Common.{◌≡◌, ◌∙◌, ◌&&◌, true, Some, sym, subst, ap}
use Rattle.std.specs.Prelude.{slice_get}
use Rattle.std.specs.Option.{option_copied}
use Rattle.pair_core.specs.Answers.{came_down}
use Rattle.pair_core.specs.Stands.{PairState, StandsFor}
use Rattle.pair_core.proofs.Brought.{down_stands, down_answer, down_handed}
use Rattle.pair_core.proofs.pair.Pair.bring_down.Goals as goal
use Rattle.pair_core.proofs.pair.Pair.bring_down.Goals.{in-Ok, in-Err}

pub returns-clause-stands : goal.returns-clause-stands
returns-clause-stands c t steps s =
    let p : PairState = record { conn = c.self.inside.conn; client = c.self.inside.client; down = c.self.inside.down.list; up = c.self.inside.up.list; prepared = c.self.inside.down.has_room && c.self.inside.up.has_room; keeps_all = c.self.inside.keeps_all; sent = c.self.inside.sent } in
    let stands : StandsFor p t steps = subst (λ (x : PairState). StandsFor x t steps) (sym c.self.view_is) s in
    let there : slice_get p.down c.args.k ≡ Some c.in-Some.datagram.now = sym c.get.ensures.value ∙ ap option_copied c.in-Some.is in
    let all : p.keeps_all ≡ true = subst (λ (x : PairState). x.keeps_all ≡ true) (sym c.self.view_is) c.requires.kept in
    down_stands p c.arrive.new.self t steps c.args.k c.in-Some.datagram.now all there c.arrive.ensures.terms c.arrive.ensures.stands stands

pub returns-clause-answer : goal.returns-clause-answer
returns-clause-answer c t steps s =
    let p : PairState = record { conn = c.self.inside.conn; client = c.self.inside.client; down = c.self.inside.down.list; up = c.self.inside.up.list; prepared = c.self.inside.down.has_room && c.self.inside.up.has_room; keeps_all = c.self.inside.keeps_all; sent = c.self.inside.sent } in
    let stands : StandsFor p t steps = subst (λ (x : PairState). StandsFor x t steps) (sym c.self.view_is) s in
    let there : slice_get p.down c.args.k ≡ Some c.in-Some.datagram.now = sym c.get.ensures.value ∙ ap option_copied c.in-Some.is in
    let all : p.keeps_all ≡ true = subst (λ (x : PairState). x.keeps_all ≡ true) (sym c.self.view_is) c.requires.kept in
    let told = down_answer p t steps stands c.args.k c.in-Some.datagram.now all there c.arrive.result c.arrive.ensures.answer in
    elim c.match-arrive.branch [ in-Ok w ↦ w.result-is ∙ ap came_down (sym w.in-Ok.is) ∙ told | in-Err w ↦ w.result-is ∙ ap came_down (sym w.in-Err.is) ∙ told ]

pub returns-clause-handed : goal.returns-clause-handed
returns-clause-handed c t steps s =
    let p : PairState = record { conn = c.self.inside.conn; client = c.self.inside.client; down = c.self.inside.down.list; up = c.self.inside.up.list; prepared = c.self.inside.down.has_room && c.self.inside.up.has_room; keeps_all = c.self.inside.keeps_all; sent = c.self.inside.sent } in
    let stands : StandsFor p t steps = subst (λ (x : PairState). StandsFor x t steps) (sym c.self.view_is) s in
    let there : slice_get p.down c.args.k ≡ Some c.in-Some.datagram.now = sym c.get.ensures.value ∙ ap option_copied c.in-Some.is in
    let all : p.keeps_all ≡ true = subst (λ (x : PairState). x.keeps_all ≡ true) (sym c.self.view_is) c.requires.kept in
    down_handed p t steps stands c.args.k c.in-Some.datagram.now all there c.arrive.new.self c.arrive.ensures.handed
