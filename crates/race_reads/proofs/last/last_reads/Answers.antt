use Rattle.std.proofs.Common.{◌≡◌, ◌∙◌, ◌*◌, ◌<◌, ◌≤◌, List, ℕ, Option, None, length, sym, ap, subst, arith, replicate}
use Rattle.std.specs.Vec.{with_items}
use Rattle.std.proofs.lemmas.List.{with_items_is}
use Rattle.dirty_lanes.specs.declared.limits.TheConstants.{MAX_LANE_FIELDS}
use Rattle.race_reads.specs.Legal.{reads_of}
use Rattle.race_reads.specs.Tables.{AreLast, noted_periods}
use Rattle.race_reads.proofs.LastReads.{are_last, noted_long}
use Rattle.race_reads.proofs.Packs.{note_end, table_noted}
use Rattle.race_reads.proofs.last.last_reads.Goals as goal

pub loop-i-preserved : goal.loop-i-preserved
loop-i-preserved c =
    let steps = c.args.steps.now.list in
    let lt : c.loop-i.i < length steps = omega arith in
    let keeps : length c.note_reads.new.last ≡ length c.loop-i.last.items = ap length c.note_reads.ensures ∙ noted_long c.deref_mut.result.now c.reads.result.now ∙ ap length c.deref_mut.ensures.value in
    let items : (with_items c.loop-i.last c.note_reads.new.last).items ≡ c.note_reads.new.last = with_items_is c.loop-i.last c.note_reads.new.last (omega arith) in
    table_noted (noted_periods (replicate (MAX_LANE_FIELDS * c.args.periods) None) (reads_of steps)) c.loop-i.last.items c.deref_mut.result.now (with_items c.loop-i.last c.note_reads.new.last).items c.reads.result.now steps c.loop-i.i c.deref_mut.ensures.value c.reads.ensures lt c.loop-i.invariant
    (items ∙ c.note_reads.ensures)

pub returns : goal.returns
returns c =
    let steps = c.args.steps.now.list in
    let all = noted_periods (replicate (MAX_LANE_FIELDS * c.args.periods) None) (reads_of steps) in
    let past : length steps ≤ c.loop-i.i = omega arith in
    subst (λ (last : List (Option ℕ)). AreLast c.args.periods (reads_of steps) last) (sym (note_end all c.loop-i.last.items steps c.loop-i.i c.loop-i.invariant past)) (are_last c.args.periods (reads_of steps) c.requires)
