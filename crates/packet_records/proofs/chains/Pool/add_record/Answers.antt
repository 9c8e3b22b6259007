use Rattle.std.proofs.Common.{arith, rules, refl, ◌≡◌, ◌≤◌, ◌<◌, ◌+◌, ◌++◌, ◌∷◌, [], ◌∙◌, List, map, length, ap, sym, subst}
use Rattle.std.proofs.lemmas.Grind.{common_steps}
use Rattle.std.specs.VecDeque.{deque_capacity}
use Rattle.packet_records.specs.declared.pool.Packet.{Packet}
use Rattle.packet_records.specs.Pool.{Held, held_in, records, IsSound}
use Rattle.packet_records.specs.Ring.{IsRing}
use Rattle.packet_records.proofs.RingFacts.{place_inside}
use Rattle.packet_records.proofs.PoolFacts.{entry_for}
use Rattle.packet_records.proofs.SoundFacts.{count_few, room_for, room_of, adding_start, adding_next, sound_push, records_push}
use Rattle.packet_records.proofs.chains.Pool.add_record.Goals as goal

pub place_after-at-requires-clause-count : goal.place_after-at-requires-clause-count
place_after-at-requires-clause-count c =
    let i = c.self.inside in
    count_few i.nodes.items i.start i.count i.newest i.packets.items c.self.invariant.1

pub items-init : goal.items-init
items-init c =
    let i = c.self.inside in
    record {
      packets = refl;
      start = refl;
      count = refl;
      adding = adding_start i.nodes.items i.start i.count c.args.seq c.place_after-at.result i.newest c.args.choices.now c.self.invariant.1.ring c.place_after-at.ensures.place;
    }

pub add_node-requires : goal.add_node-requires
add_node-requires c =
    let i = c.self.inside in
    let a = c.items.invariant.adding in
    let room = room_for i.nodes.items i.start i.count i.newest i.packets.items c.args.self.now c.self.view_is c.requires.room c.self.invariant.1 in
    let lt = c.items-test.true in
    let few = c.requires.few in
    let inside = place_inside i.start (i.count + c.items.choice-index) a.ring.inside (omega (arith, room, lt, few)) in
    omega (arith, inside, a.place, a.ring.long)

pub place_after-at-requires-in-items-clause-start : goal.place_after-at-requires-in-items-clause-start
place_after-at-requires-in-items-clause-start c =
    let i = c.self.inside in
    let a = c.items.invariant.adding in
    let room = room_for i.nodes.items i.start i.count i.newest i.packets.items c.args.self.now c.self.view_is c.requires.room c.self.invariant.1 in
    let lt = c.items-test.true in
    let few = c.requires.few in
    let inside = place_inside i.start (i.count + c.items.choice-index) a.ring.inside (omega (arith, room, lt, few)) in
    omega (arith, inside, a.place)

pub items-preserved : goal.items-preserved
items-preserved c =
    let i = c.self.inside in
    let v = c.items.invariant in
    let room = room_for i.nodes.items i.start i.count i.newest i.packets.items c.args.self.now c.self.view_is c.requires.room c.self.invariant.1 in
    let lt = c.items-test.true in
    let few = c.requires.few in
    record {
      packets = v.packets;
      start = v.start;
      count = v.count;
      adding = adding_next i.nodes.items c.items.self-inside.nodes.items c.add_node.new.nodes.items i.start i.count c.args.seq c.items.choice-index c.items.at c.place_after-at-in-items.result c.items.self-inside.newest c.add_node.new.newest c.args.choices.now (omega (arith, room, lt, few)) c.add_node.ensures.slot c.add_node.ensures.nodes c.add_node.ensures.newest c.place_after-at-in-items.ensures.place v.adding;
    }

pub invariant_of-self : goal.invariant_of-self
invariant_of-self c =
    let i = c.self.inside in
    let l = c.items.self-inside in
    let v = c.items.invariant in
    let cs = c.args.choices.now in
    let p : Packet = record { seq = c.args.seq; count = length cs } in
    let room = room_of i.nodes.items i.start i.packets.items c.args.self.now c.self.view_is c.requires.room in
    let all : c.items.choice-index ≡ length cs = (let le = c.items-test.false in let ge = c.items.auto.choice-index-end in omega (arith, le, ge)) in
    let ring = subst (λ k. IsRing l.nodes.items i.start (i.count + k) l.newest) all v.adding.ring in
    let short : length l.packets.items < 32 = omega (arith, room, ap (λ q. length q.items) v.packets) in
    let wide : 32 ≤ deque_capacity l.packets = omega (arith, c.self.invariant.0, ap deque_capacity v.packets) in
    let behind : c.push_back.new.self.items ≡ l.packets.items ++ p ∷ [] = search rules in
    let pushed : c.push_back.new.self.items ≡ i.packets.items ++ p ∷ [] = behind ∙ ap (λ q. q.items ++ p ∷ []) v.packets in
    let sound = sound_push i.nodes.items i.start i.count i.newest i.packets.items p l.nodes.items l.newest room c.requires.few ring c.self.invariant.1 in (
      grind (arith, common_steps, ap length behind),
      subst (λ (xs : List Packet). IsSound l.nodes.items l.start (l.count + length cs) l.newest xs) (sym pushed)
          (subst (λ k. IsSound l.nodes.items l.start (k + length cs) l.newest (i.packets.items ++ p ∷ [])) (sym v.count)
          (subst (λ k. IsSound l.nodes.items k (i.count + length cs) l.newest (i.packets.items ++ p ∷ [])) (sym v.start) sound)),
    )

pub returns : goal.returns
returns c =
    let i = c.self.inside in
    let l = c.items.self-inside in
    let v = c.items.invariant in
    let cs = c.args.choices.now in
    let p : Packet = record { seq = c.args.seq; count = length cs } in
    let room = room_of i.nodes.items i.start i.packets.items c.args.self.now c.self.view_is c.requires.room in
    let short : length l.packets.items < 32 = omega (arith, room, ap (λ q. length q.items) v.packets) in
    let wide : 32 ≤ deque_capacity l.packets = omega (arith, c.self.invariant.0, ap deque_capacity v.packets) in
    let all : c.items.choice-index ≡ length cs = (let le = c.items-test.false in let ge = c.items.auto.choice-index-end in omega (arith, le, ge)) in
    let behind : c.push_back.new.self.items ≡ l.packets.items ++ p ∷ [] = search rules in
    ap (λ (xs : List Packet). records (held_in l.nodes.items l.start xs)) (behind ∙ ap (λ q. q.items ++ p ∷ []) v.packets)
    ∙ ap (λ k. records (held_in l.nodes.items k (i.packets.items ++ p ∷ []))) v.start
    ∙ records_push i.nodes.items l.nodes.items i.start i.count c.args.seq i.packets.items cs c.self.invariant.1.counted v.adding.olds (λ j lt. v.adding.news j (omega (arith, lt, all)))
    ∙ ap (λ (h : List Held). records h ++ record { seq = c.args.seq; entries = map (entry_for c.args.seq) cs } ∷ []) c.self.view_is
