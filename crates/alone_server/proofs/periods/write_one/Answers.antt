use Rattle.std.proofs.Common.{◌≡◌, ◌∙◌, ◌<◌, length, ap, subst, rules}
use Rattle.std.specs.Prelude.{slice_set}
use Rattle.std.proofs.lemmas.Int.{to_z-of_z}
use mir.Syntax.{w64}
use mir.Val.{to_z, of_z, SFits}
use Rattle.alone_server.specs.declared.periods.OwnPeriod.{OwnPeriod}
use Rattle.own_items.specs.Items.{write_of}
use Rattle.own_items.proofs.Below.match_engine.Rising.{here, number_is, found_same}
use Rattle.alone_server.proofs.Holding.{holds_wrote}
use Rattle.alone_server.proofs.periods.write_one.Goals as goal

pub write-requires : goal.write-requires
write-requires c =
    let f = c.requires.field in
    let at = c.in-Some.ensures.found in
    subst (λ (p : OwnPeriod). c.args.write.now.field < length p.values.items)
    (found_same (λ (p : OwnPeriod). p.n) c.args.periods.now c.requires.rising c.args.write.now.n c.in-Some.at at.period at.there at.number c.index-periods-at.result f.period f.found) f.value

pub returns : goal.returns
returns c = λ shows k h.
    let ps = c.args.periods.now in
    let n = c.args.write.now.n in
    let at = c.in-Some.ensures.found in
    let d = c.index-periods-at.result in
    let fits : SFits w64 c.args.write.now.value = search rules in
    let same : to_z w64 (of_z w64 c.args.write.now.value) ≡ c.args.write.now.value = to_z-of_z w64 c.args.write.now.value fits in
    holds_wrote (record { shows = shows; periods = ps }) k h (write_of c.args.write.now) c.in-Some.at _ c.write.new.self
    (here (λ (p : OwnPeriod). p.n) ps c.requires.rising n c.in-Some.at at.period at.there at.number d)
    (number_is (λ (p : OwnPeriod). p.n) ps c.requires.rising n c.in-Some.at at.period at.there at.number d)
    c.write.ensures.n c.write.ensures.kind (c.write.ensures.values ∙ ap (slice_set _ c.args.write.now.field) same) c.write.ensures.written
