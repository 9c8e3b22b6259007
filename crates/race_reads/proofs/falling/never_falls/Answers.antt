use Rattle.std.proofs.Common.{◌≡◌, ◌∙◌, ◌*◌, ◌<◌, List, ℕ, length, sym, ap, subst, arith}
use Rattle.std.specs.Prelude.{◌↔◌}
use Rattle.std.specs.List.{AllByRecursion}
use Rattle.std.specs.Vec.{with_items}
use Rattle.std.proofs.lemmas.List.{with_items_is, length-replicate}
use Rattle.dirty_lanes.specs.declared.limits.TheConstants.{MAX_LANE_FIELDS}
use Rattle.tn_types.specs.declared.choices.Read.{Read}
use Rattle.race_reads.specs.Reads.{NeverFalls}
use Rattle.race_reads.specs.Legal.{reads_of}
use Rattle.race_reads.specs.Tables.{HasPlace, RisesFrom, noted}
use Rattle.race_reads.proofs.Deciding.{holds, fails}
use Rattle.race_reads.proofs.Rising.{never_falls, noted-long}
use Rattle.race_reads.proofs.Packs.{all_at, table_more, table_stops}
use Rattle.race_reads.proofs.falling.never_falls.Goals as goal

pub loop-i-init : goal.loop-i-init
loop-i-init c =
    let objects = c.args.objects.now in
    let reads = reads_of c.args.steps.now.list in record {
      long = ap length c.in-Ok.ensures ∙ length-replicate (MAX_LANE_FIELDS * c.args.count) 0;
      means = subst (λ (last : List ℕ). NeverFalls objects reads ↔ RisesFrom objects last reads) (sym c.in-Ok.ensures) (never_falls objects c.args.count reads c.requires.places);
    }

pub all_rise-requires-clause-places : goal.all_rise-requires-clause-places
all_rise-requires-clause-places c =
    let lt : c.loop-i.i < length c.args.steps.now.list = omega arith in
    let P : Read → Type 0 = HasPlace c.args.objects.now c.args.count in
    subst (λ (rs : List Read). AllByRecursion P rs) (sym c.reads.ensures) (all_at P c.args.steps.now.list c.loop-i.i lt c.requires.places)

pub returns-then-not-all_rise : goal.returns-then-not-all_rise
returns-then-not-all_rise c =
    let objects = c.args.objects.now in
    let steps = c.args.steps.now.list in
    let lt : c.loop-i.i < length steps = omega arith in
    table_stops objects c.loop-i.last.items c.deref_mut.result.now c.loop-i.last.items c.reads.result.now (NeverFalls objects (reads_of steps)) steps c.loop-i.i c.deref_mut.ensures.value c.reads.ensures lt c.loop-i.invariant.means
    (fails c.all_rise.result (RisesFrom objects c.deref_mut.result.now c.reads.result.now) c.all_rise.ensures.rise c.if-not-all_rise.true)

pub loop-i-preserved : goal.loop-i-preserved
loop-i-preserved c =
    let objects = c.args.objects.now in
    let steps = c.args.steps.now.list in
    let lt : c.loop-i.i < length steps = omega arith in
    let new : c.all_rise.new.last ≡ noted objects c.deref_mut.result.now c.reads.result.now = c.all_rise.ensures.noted c.if-not-all_rise.false in
    let keeps : length c.all_rise.new.last ≡ length c.loop-i.last.items = ap length new ∙ noted-long objects c.deref_mut.result.now c.reads.result.now ∙ ap length c.deref_mut.ensures.value in
    let items : (with_items c.loop-i.last c.all_rise.new.last).items ≡ c.all_rise.new.last = with_items_is c.loop-i.last c.all_rise.new.last (omega arith) in record {
      long = ap length items ∙ keeps ∙ c.loop-i.invariant.long;
      means = table_more objects c.loop-i.last.items c.deref_mut.result.now (with_items c.loop-i.last c.all_rise.new.last).items c.reads.result.now (NeverFalls objects (reads_of steps)) steps c.loop-i.i c.deref_mut.ensures.value c.reads.ensures lt c.loop-i.invariant.means
          (holds c.all_rise.result (RisesFrom objects c.deref_mut.result.now c.reads.result.now) c.all_rise.ensures.rise c.if-not-all_rise.false) (items ∙ new);
    }
