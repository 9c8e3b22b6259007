use Rattle.std.proofs.Common.{◌≡◌, ◌+◌, ◌*◌, ◌<◌, ◌≤◌, ◌^◌, ℕ, false, sym, arith, inl, inr, get_or}
use Rattle.std.specs.Int.{trailing_zeros, w64}
use Rattle.std.proofs.lemmas.Bool.{cases_lt}
use Rattle.work_list.specs.Bits.{in_words}
use Rattle.work_list.proofs.Words.{lowest_whole}
use Rattle.work_list.proofs.Members.{found_in, none_left, no_bits}
use Rattle.work_list.proofs.work_list.first_in.Goals as goal

pub returns-then-words-at-ne0 : goal.returns-then-words-at-ne0
returns-then-words-at-ne0 c =
    let ws = c.args.words.now in
    let z = trailing_zeros w64 (get_or ws c.words.at 0) in
    let range : get_or ws c.words.at 0 < 2 ^ 64 = c.requires.fits c.words.at in
    let low = lowest_whole (get_or ws c.words.at 0) range (omega (arith, c.if-words-at-ne0.true)) in
    let e : 64 * c.words.at + 0 + z ≡ 64 * c.words.at + z = omega arith in
    let none : (u : ℕ) → 64 * c.args.word ≤ u → u < 64 * c.words.at + 0 → in_words ws u ≡ false = λ u l m. c.words.invariant.none u l (omega (arith, m)) in
    let found = found_in ws (64 * c.args.word) c.words.at 0 z (omega (arith, c.words-test.true)) (omega (arith, c.words.invariant.from)) none low in
    sym (rw e at found)

pub returns : goal.returns
returns c =
    sym (none_left c.args.words.now (64 * c.args.word) (omega (arith, c.requires.few)) (λ u l m. c.words.invariant.none u l (omega (arith, m, c.words-test.false))))

pub words-preserved : goal.words-preserved
words-preserved c = record {
  from = omega (arith, c.words.invariant.from);
  none = λ u l m. elim (cases_lt u (64 * c.words.at)) [
    | inl early ↦ c.words.invariant.none u l early
    | inr late ↦ no_bits c.args.words.now c.words.at u (omega (arith, c.if-words-at-ne0.false)) late (omega (arith, m))
  ];
}

pub words-init : goal.words-init
words-init c = record {
  from = omega arith;
  none = λ u l m. absurd (omega (arith, l, m));
}
