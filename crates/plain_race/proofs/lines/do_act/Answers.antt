use Rattle.std.proofs.Common.{◌≡◌, ◌++◌, ◌∷◌, [], List, true, false, Some, None, sym, subst}
use Rattle.pair_core.specs.Calls.{step_of}
use Rattle.pair_core.specs.History.{PairStep}
use Rattle.kept_pair.specs.Kept.{terms_in}
use Rattle.plain_race.specs.Asks.{act_given}
use Rattle.plain_race.specs.Done.{AreStepsOf, DoesLine, StopsAtLine, IsRefused}
use Rattle.plain_race.proofs.Doing.{act_is, act_made, act_wanting, nothing_made}
use Rattle.plain_race.proofs.Calls.{if_ok}
use Rattle.plain_race.proofs.lines.do_act.Goals as goal

pub act-requires : goal.act-requires
act-requires c =
    let e : act_given c.args.client c.room_in-room.result c.args.line.now ≡ Some c.in-Some.step = cc (c.in_ok-step.ensures, c.in-Some.is) in
    record { act = (act_is c.args.client c.room_in-room.result c.args.line.now c.in-Some.step e).act }

pub returns-in-Some-clause-done : goal.returns-in-Some-clause-done
returns-in-Some-clause-done c =
    let client = c.args.client in
    let line = c.args.line.now in
    let old = c.args.pair.now in
    let new = c.act.new.pair in
    let g = c.in-Some.step in
    let e : act_given client c.room_in-room.result line ≡ Some g = cc (c.in_ok-step.ensures, c.in-Some.is) in
    let a = act_is client c.room_in-room.result line g e in
    if_ok (λ b. b ≡ true → new.steps ≡ old.steps ++ step_of g ∷ []) (λ b. b ≡ true → DoesLine client line old new) c.act.result
    (λ b made is lines h. subst (λ (l : List PairStep). AreStepsOf (terms_in old) client (lines ++ line ∷ []) l) (sym (made is))
    (act_made (terms_in old) client c.room_in-room.result lines line old.steps g a c.room_in-room.ensures h))
    c.act.ensures.made

pub returns-in-Some-clause-stopped : goal.returns-in-Some-clause-stopped
returns-in-Some-clause-stopped c =
    let client = c.args.client in
    let line = c.args.line.now in
    let old = c.args.pair.now in
    let new = c.act.new.pair in
    let g = c.in-Some.step in
    let e : act_given client c.room_in-room.result line ≡ Some g = cc (c.in_ok-step.ensures, c.in-Some.is) in
    let a = act_is client c.room_in-room.result line g e in
    if_ok (λ b. b ≡ false → IsRefused old new) (λ b. b ≡ false → StopsAtLine client line old new) c.act.result
    (λ b refused is. record { refused = refused is; asks = act_wanting client c.room_in-room.result line g a })
    c.act.ensures.refused

pub returns-in-None-clause-done : goal.returns-in-None-clause-done
returns-in-None-clause-done c = λ is lines h.
    let e : act_given c.args.client c.room_in-room.result c.args.line.now ≡ None = cc (c.in_ok-step.ensures, c.in-None.is) in
    nothing_made (terms_in c.args.pair.now) c.args.client c.room_in-room.result lines c.args.line.now c.args.pair.now.steps c.requires.no_pack e h
