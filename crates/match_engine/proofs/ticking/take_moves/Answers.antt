use Rattle.std.proofs.Common.{◌≡◌, ◌∙◌, ◌++◌, ◌∷◌, [], ◌≤◌, ◌<◌, List, length, map, take, drop, set, get_or, sym, ap, arith, append-nil}
use Rattle.std.specs.Prelude.{slice_get}
use Rattle.std.proofs.lemmas.List.{map_more, take_all, drop_all}
use Rattle.std.proofs.lemmas.List.Elements.{All-get_or}
use Rattle.match_laws.specs.client_seat.Stands.{SeatState, without_first}
use Rattle.match_engine.proofs.Taking.{next_is, mapped_more}
use Rattle.match_engine.proofs.ticking.take_moves.Goals as goal

pub take_move-requires : goal.take_move-requires
take_move-requires c =
    let i = c.loop-i.i in
    let d = c.index_mut.result.now in
    let seats = c.args.seats.now.items in
    let lt : i < length seats = omega (arith, c.loop-i-test.true, c.len-i-end.ensures) in
    let same : d ≡ get_or seats i d = c.index_mut.ensures.value ∙ next_is without_first seats c.loop-i.seats.items i d lt c.loop-i.invariant.seats in
    omega (arith, ap (λ (s : SeatState). s.taken) same, All-get_or (λ (s : SeatState). s.taken < 4294967295) seats i d lt c.requires)

pub loop-i-preserved : goal.loop-i-preserved
loop-i-preserved c =
    let i = c.loop-i.i in
    let d = c.index_mut.result.now in
    let seats = c.args.seats.now.items in
    let lt : i < length seats = omega (arith, c.loop-i-test.true, c.len-i-end.ensures) in
    let same : d ≡ get_or seats i d = c.index_mut.ensures.value ∙ next_is without_first seats c.loop-i.seats.items i d lt c.loop-i.invariant.seats in
    record {
      moves = c.in_ok-push.ensures.items ∙ ap (λ ms. ms ++ c.take_move.result ∷ []) c.loop-i.invariant.moves
          ∙ ap (λ m. map (λ (s : SeatState). slice_get s.waiting 0) (take i seats) ++ m ∷ []) (c.take_move.ensures.value ∙ ap (λ (s : SeatState). slice_get s.waiting 0) same)
          ∙ sym (map_more (λ (s : SeatState). slice_get s.waiting 0) seats i d lt);
      seats = ap (λ (s : SeatState). set c.loop-i.seats.items i s) (c.take_move.ensures.rest ∙ ap without_first same)
          ∙ mapped_more without_first seats c.loop-i.seats.items i d lt c.loop-i.invariant.seats;
    }

pub returns-clause-moves : goal.returns-clause-moves
returns-clause-moves c =
    let seats = c.args.seats.now.items in
    let all : take c.loop-i.i seats ≡ seats = take_all c.loop-i.i seats (omega (arith, c.loop-i-test.false, c.len-i-end.ensures)) in
    c.loop-i.invariant.moves ∙ ap (λ (ss : List SeatState). map (λ s. slice_get s.waiting 0) ss) all

pub returns-clause-seats : goal.returns-clause-seats
returns-clause-seats c =
    let seats = c.args.seats.now.items in
    let done : length seats ≤ c.loop-i.i = omega (arith, c.loop-i-test.false, c.len-i-end.ensures) in
    c.loop-i.invariant.seats ∙ ap (λ (ss : List SeatState). map without_first ss ++ drop c.loop-i.i seats) (take_all c.loop-i.i seats done)
    ∙ ap (λ (ss : List SeatState). map without_first seats ++ ss) (drop_all c.loop-i.i seats done) ∙ append-nil (map without_first seats)
