use Rattle.std.proofs.Common.{◌≡◌, ◌∙◌, ◌<◌, ◌/◌, ◌*◌, length, get_or, ap, sym, arith, inl, inr}
use Rattle.std.proofs.lemmas.Bool.{cases_lt}
use Rattle.work_list.specs.Bits.{to_come}
use Rattle.work_list.proofs.ToCome.{AreEmpty, skip_empty, none_to_come}
use Rattle.work_list.proofs.work_walk.filled.Goals as goal

pub words-init : goal.words-init
words-init c = record {
  from = omega arith;
  empty = λ i l m. absurd (omega (arith, l, m));
}

pub words-preserved : goal.words-preserved
words-preserved c = record {
  from = omega (arith, c.words.invariant.from);
  empty = λ i l m. elim (cases_lt i c.words.at) [
    | inl early ↦ c.words.invariant.empty i l early
    | inr late ↦ let e : i ≡ c.words.at = omega (arith, m, late) in rw e (omega (arith, c.if-words-at-ne0.false))
  ];
}

pub returns-then-words-at-ne0-clause-same : goal.returns-then-words-at-ne0-clause-same
returns-then-words-at-ne0-clause-same c =
    let ws = c.args.words.now in
    let none : c.args.rest ≡ 0 = omega (arith, c.if-rest-ne0.false) in
    let inside : c.args.base / 64 < length ws = omega (arith, c.requires.first.0, c.requires.words) in
    let at : 64 * c.words.at / 64 ≡ c.words.at = omega arith in
    ap (λ w. to_come ws w (get_or ws c.words.at 0)) at
    ∙ skip_empty ws (c.args.base / 64) inside c.words.at c.words.invariant.from (omega (arith, c.words-test.true)) c.words.invariant.empty
    ∙ ap (to_come ws (c.args.base / 64)) (sym none)

pub returns-clause-none : goal.returns-clause-none
returns-clause-none c e =
    let ws = c.args.words.now in
    let none : c.args.rest ≡ 0 = omega (arith, c.if-rest-ne0.false) in
    let inside : c.args.base / 64 < length ws = omega (arith, c.requires.first.0, c.requires.words) in
    let empty : AreEmpty ws (c.args.base / 64) 4 = λ i l m. c.words.invariant.empty i l (omega (arith, m, c.words-test.false)) in
    ap (to_come ws (c.args.base / 64)) none ∙ none_to_come ws (c.args.base / 64) inside empty
