use Rattle.std.proofs.Common.{◌<◌, List, length, sym, subst, arith}
use Rattle.std.specs.List.{AllByRecursion}
use Rattle.tn_types.specs.declared.choices.Read.{Read}
use Rattle.race_reads.specs.Reads.{ReadStands}
use Rattle.race_reads.specs.Legal.{reads_of}
use Rattle.race_reads.proofs.Deciding.{holds, fails}
use Rattle.race_reads.proofs.Packs.{packs_stop, packs_more}
use Rattle.race_reads.proofs.standing.reads_stand.Goals as goal

pub returns-then-not-all_stand : goal.returns-then-not-all_stand
returns-then-not-all_stand c =
    let P : Read → Type 0 = ReadStands c.args.values.now c.args.objects.now in
    let steps = c.args.steps.now.list in
    let lt : c.loop-i.i < length steps = omega arith in
    let d = fails c.all_stand.result (AllByRecursion P c.reads.result.now) c.all_stand.ensures c.if-not-all_stand.true in
    packs_stop P (AllByRecursion P (reads_of steps)) steps c.loop-i.i c.loop-i.invariant lt (λ a. d (subst (λ (rs : List Read). AllByRecursion P rs) (sym c.reads.ensures) a))

pub loop-i-preserved : goal.loop-i-preserved
loop-i-preserved c =
    let P : Read → Type 0 = ReadStands c.args.values.now c.args.objects.now in
    let steps = c.args.steps.now.list in
    let lt : c.loop-i.i < length steps = omega arith in
    let d = holds c.all_stand.result (AllByRecursion P c.reads.result.now) c.all_stand.ensures c.if-not-all_stand.false in
    packs_more P (AllByRecursion P (reads_of steps)) steps c.loop-i.i c.loop-i.invariant lt (subst (λ (rs : List Read). AllByRecursion P rs) c.reads.ensures d)
