use Rattle.std.proofs.Common.{◌≡◌, ℕ, ◌<◌, ◌∙◌, ap, arith, length, length-set}
use Rattle.world_places.specs.Places.{place_at}
use Rattle.world_scope.specs.Sight.{distance}
use Rattle.world_scope.specs.Rings.{center, rings_out}
use Rattle.world_scope.proofs.WholeWords.{put_one, most_one, least_one}
use Rattle.world_scope.proofs.whole_words.levels_of.Goals as goal

pub loop-k-preserved : goal.loop-k-preserved
loop-k-preserved c =
    let r = c.args.rings.now in
    let far : ℕ → ℕ = λ j. distance (center r) (place_at c.args.places.now j) in
    let levels = c.loop-k.levels in
    let k = c.loop-k.k in
    let many : length levels ≡ 64 = c.loop-k.invariant.many in
    let within : k < length levels = omega (arith, many, c.loop-k-test.true) in
    let here : c.away-away.result ≡ far k = c.away-away.ensures in
    let most = c.greater-furthest.ensures in
    record {
      many = length-set levels k c.level.result ∙ many;
      levels = put_one (λ j x. x ≡ rings_out r (far j)) levels k c.level.result within c.loop-k.invariant.levels (c.level.ensures ∙ ap (rings_out r) here);
      furthest = most_one far k c.loop-k.furthest c.greater-furthest.result c.loop-k.invariant.furthest (omega (arith, most)) (omega (arith, most, here));
      least = least_one far k c.loop-k.furthest c.greater-furthest.result c.loop-k.invariant.least (omega (arith, most, here));
    }

pub returns-clause-least : goal.returns-clause-least
returns-clause-least c = λ most all. c.loop-k.invariant.least most (λ j l. all j (omega (arith, l, c.loop-k.auto.k-end)))
