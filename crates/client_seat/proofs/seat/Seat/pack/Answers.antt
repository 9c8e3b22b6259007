use Rattle.std.proofs.Common.{sym, subst, List}
use Rattle.tn_types.specs.declared.choices.Read.{Read}
use Rattle.stream_manager.specs.Limits.{Terms}
use Rattle.own_lists.specs.pair_core.Calls.{MayPack}
use Rattle.own_lists.specs.pair_core.History.{Pack}
use Rattle.own_lists.specs.Course.{Course, with_step}
use Rattle.client_seat.specs.Stands.{SeatState, StandsFor, Becomes}
use Rattle.client_seat.proofs.Making.{with_pair, stands_more}
use Rattle.client_seat.proofs.Packs.{prepared, none_by_pack, server-packs, pack-ok}
use Rattle.client_seat.proofs.seat.Seat.pack.Goals as goal

pub pack-answer-requires-clause-may : goal.pack-answer-requires-clause-may
pack-answer-requires-clause-may g c =
    let old : SeatState = record { pair = c.self.inside.pair; waiting = c.self.inside.waiting.items; taken = c.self.inside.taken } in
    let may : MayPack c.self.inside.pair c.args.drains.now (g.V.Values.ranges c.args.values.now) =
    subst (λ (x : SeatState). MayPack x.pair c.args.drains.now (g.V.Values.ranges c.args.values.now)) (sym c.self.view_is) c.requires.may in
    record { terms = may.terms; steps = may.steps; stands = c.in_ok-prepare.ensures.stands may.terms may.steps may.stands; drained = may.drained; ranged = may.ranged }

pub returns-clause-packs : goal.returns-clause-packs
returns-clause-packs g c =
    let old : SeatState = record { pair = c.self.inside.pair; waiting = c.self.inside.waiting.items; taken = c.self.inside.taken } in
    let ready : SeatState = with_pair old c.prepare.new.self in
    let new : SeatState = with_pair old c.pack-answer.new.self in
    let reads : List Read = c.pack-answer.ensures.told.0 in
    let packs = c.pack-answer.ensures.told.1 in
    let prepares : Becomes old (λ t k. k) ready = prepared old c.prepare.new.self c.in_ok-prepare.ensures.stands c.in_ok-prepare.ensures.prepared in
    let does : Becomes ready (λ t k. with_step (Pack c.args.drains.now reads) k) new =
    stands_more ready c.pack-answer.new.self (Pack c.args.drains.now reads) (none_by_pack c.args.drains.now reads) packs.stands c.pack-answer.ensures.keeps in
    let stood : (t : Terms) (k : Course) → StandsFor c.args.self.now t k → StandsFor ready t k =
    λ t k s. prepares t k (subst (λ (x : SeatState). StandsFor x t k) (sym c.self.view_is) s) in
    pack-ok c.packed_by.result c.args.self.now new c.args.drains.now reads c.args.client (λ rs. g.V.Values.asks c.args.values.now rs c.pack-answer.new.values)
    (λ t k s. does t k (stood t k s))
    (λ t k s.
    server-packs t k.steps c.args.client c.packed_by.result c.pack-answer.result c.pack-answer.new.self.down c.pack-answer.new.self.keeps_all c.args.drains.now reads (c.pack-answer.ensures.answer t k.steps (stood t k s).holds.pair)
    (packs.stands t k.steps (stood t k s).holds.pair).down c.packed_by.ensures.worn c.packed_by.ensures.made)
    (λ t k s. packs.read t k.steps (stood t k s).holds.pair) c.pack-answer.ensures.told.2
