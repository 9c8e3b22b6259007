use Rattle.std.proofs.Common.{◌≡◌, ◌<◌, suc, ◌-◌, length, sym, subst, arith}
use Rattle.kept_pair.specs.StepLists.{drains_start, reads_start}
use Rattle.kept_pair.proofs.Cutting.{found, drains-later, reads-later}
use Rattle.kept_pair.proofs.step_list.starts.Goals as goal

pub returns-clause-drains : goal.returns-clause-drains
returns-clause-drains c =
    let later = c.if-i-eq0.false in
    let here : c.args.i - 1 < length c.args.entries.now = let r = c.requires in omega arith in
    subst (λ n. c.index-entries-i.result.drains_end ≡ drains_start 0 c.args.entries.now n) (let e : suc (c.args.i - 1) ≡ c.args.i = omega arith in e)
    (sym (drains-later 0 c.args.entries.now (c.args.i - 1) c.index-entries-i.result (found c.args.entries.now (c.args.i - 1) c.index-entries-i.result here c.index-entries-i.is)))

pub returns-clause-reads : goal.returns-clause-reads
returns-clause-reads c =
    let later = c.if-i-eq0.false in
    let here : c.args.i - 1 < length c.args.entries.now = let r = c.requires in omega arith in
    subst (λ n. c.index-entries-i.result.reads_end ≡ reads_start 0 c.args.entries.now n) (let e : suc (c.args.i - 1) ≡ c.args.i = omega arith in e)
    (sym (reads-later 0 c.args.entries.now (c.args.i - 1) c.index-entries-i.result (found c.args.entries.now (c.args.i - 1) c.index-entries-i.result here c.index-entries-i.is)))
