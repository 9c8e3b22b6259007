use Rattle.std.proofs.Common.{◌≡◌, ◌∙◌, ◌==◌, ◌<◌, ◌++◌, ◌∷◌, [], true, ℕ, List, length, get_or, sym, ap, subst, arith}
use Rattle.std.specs.Prelude.{slice_index}
use Rattle.std.proofs.lemmas.List.{take_more, map-append}
use Rattle.std.proofs.lemmas.List.Folds.{list_any_at}
use Rattle.tn_types.specs.declared.choices.Drain.{Drain}
use Rattle.dirty_lanes.specs.Views.{a_drain}
use Rattle.dirty_lanes.specs.declared.view.PackView.{PackView}
use Rattle.lane_periods.specs.Periods.{has}
use Rattle.lane_periods.specs.Views.{own_bits}
use Rattle.lane_periods.proofs.Numbers.{same-number}
use Rattle.lane_periods.proofs.Owed.{onto-more}
use Rattle.lane_periods.proofs.drains.drain_all.Goals as goal

has-at : (up : List ℕ) (i : ℕ) → i < length up → has (get_or up i 0) up ≡ true
has-at up i lt = list_any_at (λ m. m == get_or up i 0) up i 0 lt (same-number (get_or up i 0))

pub object-requires : goal.object-requires
object-requires g c =
    let lt : c.loop-n.n-index < length c.up-n-items.result.now = c.loop-n-test.true in
    (c.up-n-items.ensures.are).shown (get_or c.up-n-items.result.now c.loop-n.n-index 0)
    (subst (λ (up : List ℕ). has (get_or c.up-n-items.result.now c.loop-n.n-index 0) up ≡ true) c.up-n-items.ensures.value (has-at c.up-n-items.result.now c.loop-n.n-index lt))

pub loop-n-preserved : goal.loop-n-preserved
loop-n-preserved g c =
    let i = c.loop-n.invariant in
    let lt : c.loop-n.n-index < length c.up-n-items.result.now = c.loop-n-test.true in
    let word : Drain = record { n = get_or c.up-n-items.result.now c.loop-n.n-index 0; bits = c.drain-bits.result } in
    let step = c.drain-bits.ensures.step in
    let object : c.object.result ≡ slice_index c.args.periods.now.objects (get_or c.up-n-items.result.now c.loop-n.n-index 0) = c.object.ensures in
    record {
      client = ap (λ (v : PackView). v.client) step ∙ i.client;
      told = (
        i.told.0 ++ word ∷ [],
        map-append (λ (d : Drain). d.n) i.told.0 (word ∷ []) ∙ ap (λ (l : List ℕ). l ++ get_or c.up-n-items.result.now c.loop-n.n-index 0 ∷ []) i.told.1 ∙ sym (take_more c.up-n-items.result.now c.loop-n.n-index 0 lt),
        ap (λ (v : PackView). v.steps) step
            ∙ (λ j. a_drain (object j) c.drain-bits.result ∷ i.told.2 j)
            ∙ sym (onto-more c.args.periods.now.objects i.told.0 word c.args.seat.now.steps),
        c.push_reserved.ensures.items
            ∙ (λ j. i.told.3 j ++ record { n = get_or c.up-n-items.result.now c.loop-n.n-index 0; bits = c.own_bits-own.ensures j } ∷ [])
            ∙ sym (map-append (own_bits c.args.periods.now.table c.args.periods.now.kinds) i.told.0 (word ∷ [])),
      );
      room = let r = i.room in let p = c.push_reserved.ensures.len in omega arith;
      capacity = c.push_reserved.ensures.capacity ∙ i.capacity;
    }
