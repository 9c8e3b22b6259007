-- What a match lends of a client, its pair, stands for what the lines of the client did.
use Rattle.std.proofs.Common.{◌≡◌, ℕ, ◌<◌, List, [], ◌∷◌, length, get_or, sym, subst, arith}
use Rattle.match_script.specs.declared.types.BodyLine.{BodyLine}
use Rattle.match_script.specs.declared.types.Head.{Head}
use Rattle.world_rules.specs.Kinds.{match_kinds}
use Rattle.client_scope.specs.StandsFor.{Table}
use Rattle.match_laws.specs.client_seat.Stands.{SeatState}
use Rattle.match_laws.specs.pair_core.Stands.{PairState, StandsFor as PairStandsFor}
use Rattle.match_laws.specs.own_lists.Past.{client_terms, kept_by, after}
use Rattle.match_engine.specs.Match.{MatchState, StandsFor}

-- a scope and a seat, where none is named
pub some_scope : Table
some_scope = record { count = 0; shown = []; hides = []; nears = []; shows = []; marks = [] }

pub some_of : {X : Type 0} (xs : List X) → 0 < length xs → X
some_of [] lt = absurd (omega (arith, lt))
some_of (x ∷ xs) lt = x

module _ (m : MatchState) (past : List BodyLine) (c : ℕ) (stands : StandsFor m past) (below : c < m.script.head.clients) where
  below_game : c < m.game.head.clients
  below_game = subst (λ (h : Head). c < h.clients) (sym stands.head) below

  pub has_seat : c < length m.game.seats
  has_seat = omega (arith, below_game, stands.game.seat_count)

  pub seat : SeatState
  seat = some_of m.game.seats (omega (arith, below_game, stands.game.seat_count))

  in_game : (h : Head) → m.game.head ≡ h → PairStandsFor (get_or m.game.seats c seat).pair (client_terms h c) (kept_by h (after h past) c).course.steps
  in_game h e =
      subst (λ (h : Head). PairStandsFor (get_or m.game.seats c seat).pair (client_terms h c) (kept_by h (after h past) c).course.steps) e
      (stands.game.client c seat some_scope below_game).course.holds.pair

  pub seat_stands : PairStandsFor (get_or m.game.seats c seat).pair (client_terms m.script.head c) (kept_by m.script.head (after m.script.head past) c).course.steps
  seat_stands = in_game m.script.head stands.head

  module _ (p : PairState) (is : (d : SeatState) → p ≡ (get_or m.game.seats c d).pair) where
    pub pair_stands : PairStandsFor p (client_terms m.script.head c) (kept_by m.script.head (after m.script.head past) c).course.steps
    pair_stands =
        subst (λ (x : PairState). PairStandsFor x (client_terms m.script.head c) (kept_by m.script.head (after m.script.head past) c).course.steps)
        (sym (is seat)) seat_stands

    pub kinds_are : p.client.copies.kinds ≡ match_kinds
    kinds_are = pair_stands.client_kinds
