use Rattle.std.proofs.Common.{◌≡◌, ◌∙◌, ◌+◌, ◌*◌, ◌/◌, ◌%◌, ◌<◌, ◌^◌, sym, ap, arith, get_or}
use Rattle.std.specs.Int.{trailing_zeros, w64}
use Rattle.std.proofs.lemmas.Nat.{shr_le}
use Rattle.work_list.specs.Work.{first_of}
use Rattle.work_list.proofs.Words.{IsLowest, lowest}
use Rattle.work_list.proofs.Members.{found_in, skip_word}
use Rattle.work_list.proofs.work_list.first_from.Goals as goal
use Rattle.work_list.proofs.work_list.first_from.Goals.{Then-rest-ne0}

module _ (c : Then-rest-ne0) where
  low : IsLowest (get_or c.args.words.now (c.args.slot / 64) 0) (c.args.slot % 64) (trailing_zeros w64 (get_or c.args.words.now (c.args.slot / 64) 0 / 2 ^ (c.args.slot % 64)))
  low =
      let range : get_or c.args.words.now (c.args.slot / 64) 0 < 2 ^ 64 = c.fits-words (c.args.slot / 64) in
      lowest (get_or c.args.words.now (c.args.slot / 64) 0) (c.args.slot % 64) range (omega (arith, c.if-rest-ne0.true)) (omega (arith, range, shr_le (get_or c.args.words.now (c.args.slot / 64) 0) (c.args.slot % 64)))

pub overflow_cast-result-then-rest-ne0 : goal.overflow_cast-result-then-rest-ne0
overflow_cast-result-then-rest-ne0 c = let l = low c in omega (arith, l.inside, c.requires.few, c.if-slot-eq-MAX_SLOTS.false)

pub returns-then-rest-ne0 : goal.returns-then-rest-ne0
returns-then-rest-ne0 c =
    let ws = c.args.words.now in
    let s = c.args.slot in
    let z = trailing_zeros w64 (get_or ws (s / 64) 0 / 2 ^ (s % 64)) in
    let at : 64 * (s / 64) + s % 64 ≡ s = omega arith in
    let found = found_in ws s (s / 64) (s % 64) z (omega (arith, c.requires.few, c.if-slot-eq-MAX_SLOTS.false)) (omega arith) (λ u l m. absurd (omega (arith, l, m))) (low c) in
    sym (rw at at found)

pub returns : goal.returns
returns c =
    let ws = c.args.words.now in
    let s = c.args.slot in
    let skip = skip_word ws s (omega (arith, c.requires.few, c.if-slot-eq-MAX_SLOTS.false)) (omega (arith, c.if-rest-ne0.false)) in
    c.first_in.ensures ∙ sym (ap first_of skip)

pub first_in-requires-clause-fits : goal.first_in-requires-clause-fits
first_in-requires-clause-fits c = c.fits-words
