use Rattle.std.proofs.Common.{◌≡◌, ℕ, ◌<◌, ◌+◌, ◌*◌, ◌^◌, ◌++◌, ◌∙◌, List, length, drop, count_by, OnErr, Result, Ok, Err, sym, ap, subst, arith}
use Rattle.std.specs.Int.{trailing_zeros, w64}
use Rattle.std.proofs.lemmas.List.{append-nil}
use Rattle.world_cells.specs.Lines.{AreBits}
use Rattle.world_scope.specs.declared.viewer.Seen.{Seen}
use Rattle.world_scope.specs.Views.{look}
use Rattle.world_scope.specs.Candidates.{may_see, to_come}
use Rattle.world_scope.proofs.Rests.{IsRest, lowest, rest_next}
use Rattle.world_scope.proofs.Walking.{mark_few, word_bits, empty_before, empty_behind, come_words, count_words, come_none}
use Rattle.world_scope.proofs.WholeWords.{word_places}
use Rattle.world_scope.proofs.gather.gather_words.Goals as goal

any_err : {A E P : Type 0} → (r : Result A E) → P → OnErr r P
any_err (Ok a) p = tt
any_err (Err e) p = p

pub word-requires : goal.word-requires
word-requires g c =
    let some : 0 < c.loop-rest.rest = omega (arith, c.loop-rest-test.true) in
    mark_few c.marks-rest.result c.loop-rest.rest c.loop-rest.next some c.loop-rest.invariant.fits c.loop-rest.invariant.left c.marks-rest.ensures.few

pub word-bits-requires : goal.word-bits-requires
word-bits-requires g c =
    let some : 0 < c.loop-rest.rest = omega (arith, c.loop-rest-test.true) in
    mark_few c.marks-rest.result c.loop-rest.rest c.loop-rest.next some c.loop-rest.invariant.fits c.loop-rest.invariant.left c.marks-rest.ensures.few

pub gather_word-requires : goal.gather_word-requires
gather_word-requires g c =
    let p = may_see (look c.args.viewer.now) in
    let os = c.args.world.now.objects in
    let s = trailing_zeros w64 c.loop-rest.rest in
    let some : 0 < c.loop-rest.rest = omega (arith, c.loop-rest-test.true) in
    let few = mark_few c.marks-rest.result c.loop-rest.rest c.loop-rest.next some c.loop-rest.invariant.fits c.loop-rest.invariant.left c.marks-rest.ensures.few in
    record {
      part = record {
        glanced = c.glances.ensures.value;
        placed = word_places c.args.places.now c.word.result os s c.requires.placed c.word.ensures;
        few = omega (arith, few);
        marked = subst (λ (w : ℕ). AreBits w (64 * s) 64 p os) (sym c.word-bits.ensures) (word_bits c.args.set.now p os s c.requires.those few);
        owned = c.requires.owned;
        ready = c.requires.ready;
      };
    }

pub returns-in_err-out-clause-room : goal.returns-in_err-out-clause-room
returns-in_err-out-clause-room g c =
    let v = look c.args.viewer.now in
    let os = c.args.world.now.objects in
    let s = trailing_zeros w64 c.loop-rest.rest in
    let some : 0 < c.loop-rest.rest = omega (arith, c.loop-rest-test.true) in
    let few = mark_few c.marks-rest.result c.loop-rest.rest c.loop-rest.next some c.loop-rest.invariant.fits c.loop-rest.invariant.left c.marks-rest.ensures.few in
    let low = lowest c.marks-rest.result 0 c.loop-rest.rest c.loop-rest.next some c.loop-rest.invariant.fits c.loop-rest.invariant.left in
    let empty = empty_before c.args.set.now c.marks-rest.result c.loop-rest.rest c.loop-rest.next some c.loop-rest.invariant.fits c.loop-rest.invariant.left c.marks-rest.ensures.none in
    let come = come_words c.args.set.now v os c.loop-rest.next s c.requires.those c.requires.owned (omega (arith, low.reached)) (omega (arith, few)) empty in
    let whole : c.loop-rest.out.items ++ to_come v os (64 * s) ≡ to_come v os 0 = ap (λ (ys : List Seen). c.loop-rest.out.items ++ ys) (sym come) ∙ c.loop-rest.invariant.so_far in
    any_err c.from_residual.result (omega (arith, c.in_err-out.ensures.room, c.loop-rest.invariant.room, ap (λ (ys : List Seen). length ys) whole))

pub returns-in_err-out-clause-steps : goal.returns-in_err-out-clause-steps
returns-in_err-out-clause-steps g c =
    let p = may_see (look c.args.viewer.now) in
    let os = c.args.world.now.objects in
    let s = trailing_zeros w64 c.loop-rest.rest in
    let some : 0 < c.loop-rest.rest = omega (arith, c.loop-rest-test.true) in
    let few = mark_few c.marks-rest.result c.loop-rest.rest c.loop-rest.next some c.loop-rest.invariant.fits c.loop-rest.invariant.left c.marks-rest.ensures.few in
    let low = lowest c.marks-rest.result 0 c.loop-rest.rest c.loop-rest.next some c.loop-rest.invariant.fits c.loop-rest.invariant.left in
    let empty = empty_before c.args.set.now c.marks-rest.result c.loop-rest.rest c.loop-rest.next some c.loop-rest.invariant.fits c.loop-rest.invariant.left c.marks-rest.ensures.none in
    let count = count_words c.args.set.now p os c.loop-rest.next s c.requires.those (omega (arith, low.reached)) (omega (arith, few)) empty in
    omega (arith, count, c.gather_word.ensures.steps, c.loop-rest.invariant.steps)

pub loop-rest-preserved : goal.loop-rest-preserved
loop-rest-preserved g c =
    let v = look c.args.viewer.now in
    let os = c.args.world.now.objects in
    let s = trailing_zeros w64 c.loop-rest.rest in
    let some : 0 < c.loop-rest.rest = omega (arith, c.loop-rest-test.true) in
    let small : c.loop-rest.rest < 2 ^ 64 = c.loop-rest.invariant.fits in
    let few = mark_few c.marks-rest.result c.loop-rest.rest c.loop-rest.next some small c.loop-rest.invariant.left c.marks-rest.ensures.few in
    let low = lowest c.marks-rest.result 0 c.loop-rest.rest c.loop-rest.next some small c.loop-rest.invariant.left in
    let empty = empty_before c.args.set.now c.marks-rest.result c.loop-rest.rest c.loop-rest.next some small c.loop-rest.invariant.left c.marks-rest.ensures.none in
    let come = come_words c.args.set.now v os c.loop-rest.next s c.requires.those c.requires.owned (omega (arith, low.reached)) (omega (arith, few)) empty in
    let count = count_words c.args.set.now (may_see v) os c.loop-rest.next s c.requires.those (omega (arith, low.reached)) (omega (arith, few)) empty in
    let on : 64 * (s + 1) ≡ 64 * s + 64 = omega arith in
    let behind : 0 + s + 1 ≡ s + 1 = omega arith in
    record {
      few = omega (arith, few);
      fits = omega (arith, small, c.without_lowest-rest.ensures.less);
      left = subst (λ (n : ℕ). IsRest c.marks-rest.result 0 c.without_lowest-rest.result n) behind (rest_next c.marks-rest.result 0 c.loop-rest.rest c.loop-rest.next c.without_lowest-rest.result some small c.loop-rest.invariant.left c.without_lowest-rest.ensures.bits);
      so_far =
          ap (λ (n : ℕ). c.in_ok-out.out.items ++ to_come v os n) on
          ∙ c.in_ok-out.ensures.ok
          ∙ ap (λ (ys : List Seen). c.loop-rest.out.items ++ ys) (sym come)
          ∙ c.loop-rest.invariant.so_far;
      room = omega (arith, c.loop-rest.invariant.room, c.in_ok-out.ensures.kept);
      steps =
          let e : count_by (may_see v) (drop (64 * (s + 1)) os) ≡ count_by (may_see v) (drop (64 * s + 64) os) = ap (λ (n : ℕ). count_by (may_see v) (drop n os)) on in
          omega (arith, e, count, c.gather_word.ensures.steps, c.loop-rest.invariant.steps);
    }

pub returns-clause-ok : goal.returns-clause-ok
returns-clause-ok g c =
    let v = look c.args.viewer.now in
    let os = c.args.world.now.objects in
    let none : c.loop-rest.rest ≡ 0 = omega (arith, c.loop-rest-test.false) in
    let left = c.loop-rest.invariant.left in
    let empty = empty_behind c.args.set.now c.marks-rest.result c.loop-rest.rest c.loop-rest.next none left c.marks-rest.ensures.none in
    let come = come_words c.args.set.now v os c.loop-rest.next 16 c.requires.those c.requires.owned c.loop-rest.invariant.few (omega arith) empty in
    sym (append-nil c.loop-rest.out.items)
    ∙ ap (λ (ys : List Seen). c.loop-rest.out.items ++ ys) (sym (come ∙ come_none v os c.requires.few))
    ∙ c.loop-rest.invariant.so_far
