use Rattle.std.proofs.Common.{◌∙◌, List, map, take, get_or, pos, sym, ap, subst, arith}
use Rattle.std.proofs.lemmas.List.{map_more, take_all, get_or-map, length-map}
use Rattle.own_lists.specs.Own.{OwnWrite as Told}
use Rattle.own_lists.specs.Kept.{Kept, wrote_all}
use Rattle.own_items.specs.declared.items.OwnWrite.{OwnWrite}
use Rattle.own_items.specs.Items.{write_of}
use Rattle.alone_server.specs.Periods.{Holds, MayWrite}
use Rattle.alone_server.proofs.Holding.{holds_rising, wrote_on, each_of, may_later, has_field}
use Rattle.alone_server.proofs.periods.write_each.Goals as goal

-- a write where none is named
none : OwnWrite
none = record { n = 0; field = 0; value = pos 0 }

pub write_one-requires-clause-rising : goal.write_one-requires-clause-rising
write_one-requires-clause-rising c =
    let r = c.requires in
    holds_rising _ _ (c.loop-write.invariant r.0 r.1 r.2)

pub write_one-requires-clause-field : goal.write_one-requires-clause-field
unfolding none
write_one-requires-clause-field c =
    let r = c.requires in
    let writes = c.args.writes.now in
    let i = c.loop-write.write-index in
    let front : List Told = map write_of (take i writes) in
    let may : MayWrite r.1 (get_or (map write_of writes) i (write_of none)) =
    each_of (MayWrite r.1) (map write_of writes) i (write_of none) r.3 (omega (arith, c.loop-write-test.true, length-map writes write_of)) in
    let this : MayWrite r.1 (write_of (get_or writes i none)) = subst (MayWrite r.1) (get_or-map write_of writes i none (write_of none) c.loop-write-test.true) may in
    has_field _ (wrote_all front r.1) (write_of (get_or writes i none)) (c.loop-write.invariant r.0 r.1 r.2) (may_later front r.1 (write_of (get_or writes i none)) this)

pub loop-write-preserved : goal.loop-write-preserved
unfolding none
loop-write-preserved c = λ shows k h.
    let writes = c.args.writes.now in
    let i = c.loop-write.write-index in
    let front : List Told = map write_of (take i writes) in
    let now = c.loop-write.invariant shows k h in
    let next = map_more write_of writes i none c.loop-write-test.true in
    subst (λ (j : Kept). Holds (record { shows = shows; periods = c.write_one.new.periods }) j)
    (sym (ap (λ ws. wrote_all ws k) next ∙ wrote_on front (write_of (get_or writes i none)) k)) (c.write_one.ensures shows (wrote_all front k) now)

pub returns : goal.returns
returns c = λ shows k h.
    subst (λ (ws : List OwnWrite). Holds (record { shows = shows; periods = c.loop-write.periods }) (wrote_all (map write_of ws) k))
    (take_all c.loop-write.write-index c.args.writes.now (omega (arith, c.loop-write-test.false))) (c.loop-write.invariant shows k h)
