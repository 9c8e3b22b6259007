use Rattle.std.proofs.Common.{◌≡◌, suc, ◌-◌, ◌<◌, ◌≤◌, length, take, drop, get_or, Some, sym, subst, arith}
use Rattle.std.specs.Prelude.{slice_get}
use Rattle.pair_core.specs.Flat.{cut}
use Rattle.pair_core.proofs.Flat.{rise-first, rise-later, cut-later}
use Rattle.pair_core.proofs.datagrams.span.Goals as goal

pub returns-then-place-eq0-clause-within : goal.returns-then-place-eq0-clause-within
returns-then-place-eq0-clause-within c =
    let here : c.args.place < length c.args.ends.now = c.if-place-ends.false in
    let first : c.args.place ≡ 0 = c.if-place-eq0.true in
    subst (λ n. (0 ≤ get_or c.args.ends.now n 0) × (get_or c.args.ends.now n 0 ≤ c.args.len)) (sym first) (rise-first 0 c.args.ends.now c.args.len 0 (omega arith) c.requires)

pub returns-clause-some : goal.returns-clause-some
returns-clause-some c bytes =
    let here : c.args.place < length c.args.ends.now = c.if-place-ends.false in
    let later = c.if-place-eq0.false in
    let next : suc (c.args.place - 1) ≡ c.args.place = omega arith in
    subst (λ n. slice_get (cut 0 c.args.ends.now bytes) n ≡ Some (take (get_or c.args.ends.now n 0 - get_or c.args.ends.now (c.args.place - 1) 0) (drop (get_or c.args.ends.now (c.args.place - 1) 0) bytes))) next
    (cut-later 0 c.args.ends.now bytes (c.args.place - 1) 0 0 (omega arith))

pub returns-clause-within : goal.returns-clause-within
returns-clause-within c =
    let here : c.args.place < length c.args.ends.now = c.if-place-ends.false in
    let later = c.if-place-eq0.false in
    let next : suc (c.args.place - 1) ≡ c.args.place = omega arith in
    subst (λ n. (get_or c.args.ends.now (c.args.place - 1) 0 ≤ get_or c.args.ends.now n 0) × (get_or c.args.ends.now n 0 ≤ c.args.len)) next
    (rise-later 0 c.args.ends.now c.args.len (c.args.place - 1) 0 0 (omega arith) c.requires)
