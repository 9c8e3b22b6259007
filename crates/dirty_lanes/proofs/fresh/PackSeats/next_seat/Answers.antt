use Rattle.std.proofs.Common.{◌≡◌, ◌∙◌, sym, ap, ◌-◌, ◌+◌, ◌∷◌, [], ℕ, subst, arith, length, length-append}
use Rattle.dirty_lanes.specs.declared.view.GivenSeats.{GivenSeats}
use Rattle.dirty_lanes.specs.Rule.{pack_of}
use Rattle.dirty_lanes.specs.Named.{IsRow}
use Rattle.dirty_lanes.specs.Views.{VersionsRise}
use Rattle.dirty_lanes.proofs.Plays.{Mine, pack_sits}
use Rattle.dirty_lanes.proofs.Rows.{row_last, row_front}
use Rattle.dirty_lanes.proofs.fresh.PackSeats.next_seat.Goals as goal

pub invariant_of-result : goal.invariant_of-result
invariant_of-result g c =
    let i = c.self.invariant in
    let e = c.in_ok-seat.ensures.items in
    let r = row_last g.N.LaneName.table c.self.inside.clients c.pop.new.self.items c.in_ok-seat.seat (subst (λ z. IsRow g.N.LaneName.table c.self.inside.clients z) e i.row) in
    let n = c.in_ok-seat.ensures.len in
    let count : length c.self.inside.packs.items ≡ length c.pop.new.self.items + 1 = ap (λ z. length z) e ∙ length-append c.pop.new.self.items (c.in_ok-seat.seat ∷ []) in
    let k = i.count in
    let who : c.self.inside.clients - length c.pop.new.self.items - 1 ≡ c.self.inside.next = omega arith in
    let small = i.few in
    record {
      named = r.0;
      sits = pack_sits c.in_ok-seat.seat.me _ r.1;
      client_is = ap (λ (z : Mine). (pack_of z.0).client) r.1 ∙ who;
      few = omega arith;
      rises = subst (λ (z : Mine). VersionsRise (pack_of z.0).steps) (sym r.1) tt;
    }

pub invariant_of-self-2 : goal.invariant_of-self-2
invariant_of-self-2 g c =
    let i = c.self.invariant in
    let e = c.in_ok-seat.ensures.items in
    let count : length c.self.inside.packs.items ≡ length c.pop.new.self.items + 1 = ap (λ z. length z) e ∙ length-append c.pop.new.self.items (c.in_ok-seat.seat ∷ []) in
    let k = i.count in
    record {
      row = row_front g.N.LaneName.table c.self.inside.clients c.pop.new.self.items c.in_ok-seat.seat (subst (λ z. IsRow g.N.LaneName.table c.self.inside.clients z) e i.row);
      count = omega arith;
      few = i.few;
    }

pub returns-clause-seat : goal.returns-clause-seat
returns-clause-seat g c =
    let i = c.self.invariant in
    let e = c.in_ok-seat.ensures.items in
    let r = row_last g.N.LaneName.table c.self.inside.clients c.pop.new.self.items c.in_ok-seat.seat (subst (λ z. IsRow g.N.LaneName.table c.self.inside.clients z) e i.row) in
    let count : length c.self.inside.packs.items ≡ length c.pop.new.self.items + 1 = ap (λ z. length z) e ∙ length-append c.pop.new.self.items (c.in_ok-seat.seat ∷ []) in
    let k = i.count in
    let who : c.self.inside.clients - length c.pop.new.self.items - 1 ≡ c.self.inside.next = omega arith in
    let next = ap (λ (z : GivenSeats). z.next) c.self.view_is in
    ap (λ (z : Mine). pack_of z.0) r.1 ∙ ap (λ (n : ℕ). record { client = n; steps = [] }) (who ∙ next)

pub returns-clause-left : goal.returns-clause-left
returns-clause-left g c =
    let e = c.in_ok-seat.ensures.items in
    let count : length c.self.inside.packs.items ≡ length c.pop.new.self.items + 1 = ap (λ z. length z) e ∙ length-append c.pop.new.self.items (c.in_ok-seat.seat ∷ []) in
    let k = c.self.invariant.count in
    let next = ap (λ (z : GivenSeats). z.next) c.self.view_is in
    let clients = ap (λ (z : GivenSeats). z.clients) c.self.view_is in
    omega arith

pub returns-clause-next : goal.returns-clause-next
returns-clause-next g c = ap (λ (z : GivenSeats). z.next + 1) c.self.view_is
