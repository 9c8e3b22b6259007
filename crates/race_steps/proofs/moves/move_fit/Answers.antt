use Rattle.std.proofs.Common.{◌≡◌, length, refl, sym, ap, ◌∙◌, Some, None}
use Rattle.std.specs.Prelude.{slice_get}
use Rattle.std.proofs.lemmas.Option.{slice_get_read, slice_get_past}
use Rattle.tn_types.specs.declared.moves.MoveBits.{MoveBits}
use Rattle.race_steps.proofs.moves.move_fit.Goals as goal

pub returns-then-is_same : goal.returns-then-is_same
returns-then-is_same c =
    let accepted = c.args.accepted.now in
    let there = c.in-Some-get.ensures.lookup.3 in
    let asked : slice_get accepted c.args.k ≡ Some c.in-Some-get.own.now = slice_get_read accepted (length accepted) c.args.k c.in-Some-get.own.now refl there.0 (there.1 c.in-Some-get.own.now) in
    (c.in-Some.taken, sym c.in-Some.ensures, asked ∙ ap (λ (m : MoveBits). Some m) (sym c.if-is_same.ensures))

pub returns-else-is_same : goal.returns-else-is_same
returns-else-is_same c =
    let accepted = c.args.accepted.now in
    let there = c.in-Some-get.ensures.lookup.3 in
    let asked : slice_get accepted c.args.k ≡ Some c.in-Some-get.own.now = slice_get_read accepted (length accepted) c.args.k c.in-Some-get.own.now refl there.0 (there.1 c.in-Some-get.own.now) in
    let differ = c.if-is_same.ensures in
    (c.in-Some.taken, sym c.in-Some.ensures, λ same. let e : Some c.in-Some.taken ≡ Some c.in-Some-get.own.now = sym same ∙ asked in differ (cc))

pub returns-in-None : goal.returns-in-None
returns-in-None c =
    let past : slice_get c.args.accepted.now c.args.k ≡ None = slice_get_past c.args.accepted.now c.args.k c.in-None.ensures.lookup.3 in
    (c.in-Some.taken, sym c.in-Some.ensures, λ same. absurd (let e : None ≡ Some c.in-Some.taken = sym past ∙ same in cc))
