-- What a delivery to the server brings: no more moves than there is room for, and none where it is refused.
use Rattle.std.proofs.Common.{◌≡◌, ℕ, ◌+◌, ◌-◌, ◌≤◌, Bool, true, false, List, ◌∷◌, ◌++◌, length, min, take, drop, nat_le, cond, Option, Some, None, Result, Ok, Err, refl, ap, sym, ◌∙◌, arith, length-append}
use Rattle.std.specs.Prelude.{slice_get}
use Rattle.std.proofs.lemmas.List.{length-take, take_all, drop-append-le}
use Rattle.tn_types.specs.declared.limits.TheConstants.{MAX_WAITING_MOVES}
use Rattle.tn_types.specs.declared.moves.MoveBits.{MoveBits}
use Rattle.move_manager.specs.Sending.{Packet}
use Rattle.move_manager.specs.Accepting.{new_count, accept}
use Rattle.wire_format.specs.declared.client.ClientPacket.{ClientPacket}
use Rattle.wire_format.specs.declared.client.ClientPacket.TheVariants as up
use Rattle.stream_manager.specs.declared.fault.ArriveFault.{ArriveFault}
use Rattle.stream_manager.specs.declared.fault.ClientFault.{ClientFault}
use Rattle.stream_manager.specs.declared.server.Taken.{Taken}
use Rattle.stream_manager.specs.Limits.{Terms}
use Rattle.stream_manager.specs.Server.{ServerEvent, accepted_at, took_at_server, taken_of, server_answer, server_datagrams}
use Rattle.stream_manager.specs.Client.{client_datagrams, arrive_answer}
use Rattle.own_lists.specs.pair_core.declared.step.Answer.{Answer}
use Rattle.own_lists.specs.pair_core.declared.step.Answer.TheVariants as says
use Rattle.own_lists.specs.pair_core.declared.step.PairStep.{PairStep as GivenStep}
use Rattle.own_lists.specs.pair_core.declared.step.PairStep.TheVariants as given
use Rattle.own_lists.specs.pair_core.History.{PairStep, Down, history, server_gets}
use Rattle.own_lists.specs.pair_core.Answers.{accepted_in, answer, brought_up, brought_down, came_up, came_down}
use Rattle.own_lists.specs.pair_core.Calls.{step_of, Does, Hands, HandsUp, Keeps, Accepts, LendsMoves}
use Rattle.own_lists.specs.pair_core.Stands.{PairState}
use Rattle.own_lists.specs.Course.{Course, room_in, with_step}
use Rattle.client_seat.specs.Answering.{TellsUp, TellsDown, ComesUp, room_for}
use Rattle.client_seat.specs.Stands.{SeatState, Holds, StandsFor}

-- ---- few moves

accept-few : (life room : ℕ) (p : Packet) (acc : List MoveBits) → length (accept life room p acc) ≤ length acc + room
accept-few life room p acc = by (nat_le p.first (length acc))
  where
    by : (b : Bool) → length (cond b (acc ++ take (new_count life room (length acc) p) (drop (length acc - p.first) p.moves)) acc) ≤ length acc + room
    by true =
        let all = length-append acc (take (new_count life room (length acc) p) (drop (length acc - p.first) p.moves)) in
        let few = length-take (new_count life room (length acc) p) (drop (length acc - p.first) p.moves) in
        omega (arith, all, few)
    by false = omega arith

came-few : (t : Terms) (log : List ServerEvent) (room : ℕ) (a : Result ClientPacket ArriveFault) → length (accepted_at t.config (took_at_server log room a)) ≤ length (accepted_at t.config log) + room
came-few t log room (Ok (up.Ping head)) = omega arith
came-few t log room (Ok (up.Body p)) = accept-few t.config.life room (record { first = p.first; moves = p.moves }) (accepted_at t.config log)
came-few t log room (Err e) = omega arith

gets-few : (t : Terms) (log : List ServerEvent) (room : ℕ) (o : Option (List ℕ)) → length (accepted_at t.config (server_gets t.config room o log)) ≤ length (accepted_at t.config log) + room
gets-few t log room None = omega arith
gets-few t log room (Some bytes) = came-few t log room (server_answer t.config log bytes)

few-new : (t : Terms) (steps : List PairStep) (g : GivenStep) → ComesUp g → length (accepted_in t (step_of g ∷ steps)) ≤ length (accepted_in t steps) + room_for g
few-new t steps (given.Up k room) comes = gets-few t (history t steps).server room (slice_get (client_datagrams t.config (history t steps).client) k)
few-new t steps (given.Raw bytes room) comes = gets-few t (history t steps).server room (Some bytes)
few-new t steps other comes = absurd comes

-- ---- none where it is refused

-- the answer of a datagram that came says whether it was taken
none-taken : (t : Terms) (log : List ServerEvent) (room : ℕ) (a : Result ClientPacket ArriveFault) → ((moves : ℕ) → came_up (taken_of t.config log room a) ≡ says.Came moves → ⊥)
    → accepted_at t.config (took_at_server log room a) ≡ accepted_at t.config log
none-taken t log room (Ok p) refused = absurd (refused _ refl)
none-taken t log room (Err e) refused = refl

none-got : (t : Terms) (steps : List PairStep) (k room : ℕ) (o : Option (List ℕ)) → ((moves : ℕ) → brought_up t (history t steps) k room o ≡ says.Came moves → ⊥)
    → accepted_at t.config (server_gets t.config room o (history t steps).server) ≡ accepted_in t steps
none-got t steps k room None refused = refl
none-got t steps k room (Some bytes) refused = none-taken t (history t steps).server room (server_answer t.config (history t steps).server bytes) refused

none-new : (t : Terms) (steps : List PairStep) (g : GivenStep) → ComesUp g → ((moves : ℕ) → answer t steps (step_of g) ≡ says.Came moves → ⊥) → accepted_in t (step_of g ∷ steps) ≡ accepted_in t steps
none-new t steps (given.Up k room) comes refused = none-got t steps k room (slice_get (client_datagrams t.config (history t steps).client) k) refused
none-new t steps (given.Raw bytes room) comes refused = none-taken t (history t steps).server room (server_answer t.config (history t steps).server bytes) refused
none-new t steps other comes refused = absurd comes

-- ---- what else is said of such a step

came-tells : (r : Result Taken ArriveFault) → TellsUp (came_up r)
came-tells (Ok taken) = tt
came-tells (Err fault) = tt

brought-tells : (t : Terms) (steps : List PairStep) (k room : ℕ) (o : Option (List ℕ)) → TellsUp (brought_up t (history t steps) k room o)
brought-tells t steps k room None = tt
brought-tells t steps k room (Some bytes) = came-tells (taken_of t.config (history t steps).server room (server_answer t.config (history t steps).server bytes))

pub up-tells : (t : Terms) (steps : List PairStep) (g : GivenStep) → ComesUp g → TellsUp (answer t steps (step_of g))
up-tells t steps (given.Up k room) comes = brought-tells t steps k room (slice_get (client_datagrams t.config (history t steps).client) k)
up-tells t steps (given.Raw bytes room) comes = came-tells (taken_of t.config (history t steps).server room (server_answer t.config (history t steps).server bytes))
up-tells t steps other comes = absurd comes

came-down-tells : (r : Result (Unit {0}) ClientFault) → TellsDown (came_down r)
came-down-tells (Ok u) = tt
came-down-tells (Err fault) = tt

brought-down-tells : (t : Terms) (steps : List PairStep) (k : ℕ) (o : Option (List ℕ)) → TellsDown (brought_down t (history t steps) k o)
brought-down-tells t steps k None = tt
brought-down-tells t steps k (Some bytes) = came-down-tells (arrive_answer t.config t.kinds bytes (history t steps).client)

pub down-tells : (t : Terms) (steps : List PairStep) (k : ℕ) → TellsDown (answer t steps (Down k))
down-tells t steps k = brought-down-tells t steps k (slice_get (server_datagrams t (history t steps).server) k)

-- there is no fourth answer
pub no_other_down : (a : Answer) → TellsDown a → ((moves : ℕ) → a ≡ says.Came moves → ⊥) → ((fault : ClientFault) → a ≡ says.ClientRefused fault → ⊥)
    → ((k sent : ℕ) → a ≡ says.NotSent k sent → ⊥) → ⊥
no_other_down (says.NotSent k sent) h came refused lost = lost k sent refl
no_other_down (says.ClientRefused fault) h came refused lost = refused fault refl
no_other_down (says.Came moves) h came refused lost = came moves refl
no_other_down other h came refused lost = absurd h

pub up-hands : (old new : PairState) (g : GivenStep) → ComesUp g → Hands old (step_of g) new → HandsUp old (step_of g) new
up-hands old new (given.Up k room) comes h = h
up-hands old new (given.Raw bytes room) comes h = h
up-hands old new other comes h = absurd comes

pub up-keeps : (old new : PairState) (g : GivenStep) → ComesUp g → Keeps old (step_of g) new → new.client ≡ old.client
up-keeps old new (given.Up k room) comes h = h
up-keeps old new (given.Raw bytes room) comes h = h
up-keeps old new other comes h = absurd comes

pub up-lends : (old new : PairState) (g : GivenStep) (moves : ℕ) → ComesUp g → Accepts old (step_of g) (says.Came moves) new → LendsMoves old (step_of g) new
up-lends old new (given.Up k room) moves comes h = h
up-lends old new (given.Raw bytes room) moves comes h = h
up-lends old new other moves comes h = absurd comes

-- ---- the same of a seat

module _ (old : SeatState) (new : PairState) (g : GivenStep) (comes : ComesUp g) (does : Does old.pair (step_of g) new) (t : Terms) (k : Course) (s : StandsFor old t k) where
  pub refused-holds : ((moves : ℕ) → answer t k.steps (step_of g) ≡ says.Came moves → ⊥) → Holds (record { pair = new; waiting = old.waiting; taken = old.taken }) t (with_step (step_of g) k)
  refused-holds refused = record {
    pair = does t k.steps s.holds.pair;
    waiting = s.holds.waiting ∙ ap (λ (ms : List MoveBits). drop k.taken ms) (sym (none-new t k.steps g comes refused));
    taken = s.holds.taken;
    few = rw (none-new t k.steps g comes refused) s.holds.few;
  }

  pub came-holds : (count : ℕ) (waiting : List MoveBits) → LendsMoves old.pair (step_of g) new → room_for g ≡ room_in t k → count ≡ min (length new.conn.taken) (MAX_WAITING_MOVES - length old.waiting) → waiting ≡ old.waiting ++ take count new.conn.taken
      → Holds (record { pair = new; waiting = waiting; taken = old.taken }) t (with_step (step_of g) k)
  came-holds count waiting lends room counted filled =
      let before = accepted_in t k.steps in
      let more : accepted_in t (step_of g ∷ k.steps) ≡ before ++ new.conn.taken = lends t k.steps s.holds.pair in
      let long : length (accepted_in t (step_of g ∷ k.steps)) ≡ length before + length new.conn.taken = ap (λ (ms : List MoveBits). length ms) more ∙ length-append before new.conn.taken in
      let few = few-new t k.steps g comes in
      let same : length old.waiting ≡ length (drop k.taken before) = ap (λ (ms : List MoveBits). length ms) s.holds.waiting in
      let all : take count new.conn.taken ≡ new.conn.taken = take_all count new.conn.taken (omega (arith, counted, few, long, room, same)) in
      let front : drop k.taken (before ++ new.conn.taken) ≡ drop k.taken before ++ new.conn.taken = drop-append-le k.taken before new.conn.taken s.holds.few in
      record {
        pair = does t k.steps s.holds.pair;
        waiting = filled ∙ ap (λ ms. old.waiting ++ ms) all ∙ ap (λ ms. ms ++ new.conn.taken) s.holds.waiting ∙ sym front ∙ ap (λ (ms : List MoveBits). drop k.taken ms) (sym more);
        taken = s.holds.taken;
        few = omega (arith, s.holds.few, long);
      }
