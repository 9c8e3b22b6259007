use Rattle.std.proofs.Common.{◌≡◌, ◌∙◌, sym, ap, ◌<◌, ◌++◌, ◌∷◌, [], ℕ, List, length, take, arith, length-set}
use Rattle.std.proofs.lemmas.List.{take_more, take_more_set}
use Rattle.std.specs.Slots.{slots_items, slots_len}
use Rattle.std.specs.Mem.Slots.{slots_counts}
use Rattle.dirty_lanes.proofs.Rows.{from_get, there}
use Rattle.dirty_lanes.proofs.ends.copy_words.Goals as goal

pub loop-i-preserved : goal.loop-i-preserved
loop-i-preserved c =
    let i : ℕ = c.loop-i.i in
    let row : List ℕ = slots_items c.args.closed.now.words in
    let word = c.word.ensures in
    let count : length row ≡ slots_len c.args.closed.now.words = sym (slots_counts c.args.closed.now.words).0 in
    let within : i < length row = there row i c.word.result word in
    let front = c.loop-i.invariant.0 in
    let long = c.loop-i.invariant.1 in
    let here : i < length c.loop-i.words.items = omega arith in (
      take_more_set c.loop-i.words.items i c.word.result here ∙ ap (λ (l : List ℕ). l ++ c.word.result ∷ []) front ∙ ap (λ (x : ℕ). take i row ++ x ∷ []) (sym (from_get row i c.word.result word)) ∙ sym (take_more row i 0 within),
      length-set c.loop-i.words.items i c.word.result ∙ long,
    )
