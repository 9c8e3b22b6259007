-- What a client line does: it may be made at any time, it leaves the periods as they are, and the server accepts no more moves in it
-- than have a place.
use Rattle.std.proofs.Common.{◌≡◌, ℕ, ◌-◌, ◌≤◌, Bool, true, false, cond, List, [], ◌∷◌, ◌++◌, length, take, drop, nat_le, Option, Some, None, Result, Ok, Err, refl, sym, ◌∙◌, arith, append-nil}
use Rattle.std.specs.Prelude.{slice_get}
use Rattle.std.proofs.lemmas.List.{length-take}
use Rattle.tn_types.specs.Checks.{Checked}
use Rattle.tn_types.specs.declared.moves.MoveBits.{MoveBits}
use Rattle.wire_format.specs.declared.fault.BitsFault.{BitsFault}
use Rattle.wire_format.specs.declared.client.ClientPacket.{ClientPacket}
use Rattle.wire_format.specs.declared.client.ClientPacket.TheVariants as up
use Rattle.move_manager.specs.Sending.{Packet}
use Rattle.move_manager.specs.Accepting.{new_count, accept}
use Rattle.stream_manager.specs.declared.fault.ArriveFault.{ArriveFault}
use Rattle.stream_manager.specs.Limits.{Terms}
use Rattle.stream_manager.specs.Faults.{checked_packet}
use Rattle.stream_manager.specs.Wire.{read_up}
use Rattle.event_manager.specs.Receiving.{run_of}
use Rattle.stream_manager.specs.End.{came_of}
use Rattle.stream_manager.specs.Server as server
use Rattle.stream_manager.specs.Server.{ServerEvent, server_end, accepted_at, took_at_server, packet_answer, packet_check}
use Rattle.stream_manager.specs.Client.{client_datagrams}
use Rattle.kept_pair.specs.pair_core.History.{PairStep, history, server_gets}
use Rattle.kept_pair.specs.pair_core.Conditions.{IsMet}
use Rattle.kept_pair.specs.pair_core.Answers.{accepted_in}
use Rattle.kept_pair.specs.pair_core.Calls.{step_of}
use Rattle.kept_pair.specs.Kept.{KeptState, IsReady}
use Rattle.pair_periods.specs.pair_steps.Steps.{IsNoPack}
use Rattle.pair_periods.proofs.Below.pair_steps.Journals.{IsQuiet}
use Rattle.connection_lock.specs.declared.net_line.NetLine.{NetLine}
use Rattle.connection_lock.specs.declared.net_line.NetLine.TheVariants as line
use Rattle.connection_lock.specs.Rule.{IsQuiet as IsQuietPair}
use Rattle.connection_lock.specs.Turns.{line_step, line_given}

-- ---- moves

pub record Grows (room : ℕ) (old new : List MoveBits) : Type 0 where
  pub more : List MoveBits
  pub is : new ≡ old ++ more
  pub few : length more ≤ room

none-new : (room : ℕ) (old new : List MoveBits) → new ≡ old → Grows room old new
none-new room old new same = record { more = []; is = same ∙ sym (append-nil old); few = omega arith }

accept-grows : (life room : ℕ) (p : Packet) (acc : List MoveBits) → Grows room acc (accept life room p acc)
accept-grows life room p acc = by (nat_le p.first (length acc))
  where
    by : (b : Bool) → Grows room acc (cond b (acc ++ take (new_count life room (length acc) p) (drop (length acc - p.first) p.moves)) acc)
    by true = record {
      more = take (new_count life room (length acc) p) (drop (length acc - p.first) p.moves);
      is = refl;
      few = let front = length-take (new_count life room (length acc) p) (drop (length acc - p.first) p.moves) in omega (arith, front);
    }
    by false = none-new room acc acc refl

took-grows : (t : Terms) (log : List ServerEvent) (room : ℕ) (p : ClientPacket) → Grows room (accepted_at t.config log) (accepted_at t.config (server.Took p room ∷ log))
took-grows t log room (up.Ping head) = none-new room _ _ refl
took-grows t log room (up.Body p) = accept-grows t.config.life room (record { first = p.first; moves = p.moves }) (accepted_at t.config log)

checked-grows : (t : Terms) (log : List ServerEvent) (room : ℕ) (p : ClientPacket) (c : Checked ArriveFault) → Grows room (accepted_at t.config log) (accepted_at t.config (took_at_server log room (checked_packet p c)))
checked-grows t log room p (Ok u) = took-grows t log room p
checked-grows t log room p (Err e) = none-new room _ _ refl

came-grows : (t : Terms) (log : List ServerEvent) (room : ℕ) (a : Result ClientPacket BitsFault) → Grows room (accepted_at t.config log) (accepted_at t.config (took_at_server log room (packet_answer t.config log a)))
came-grows t log room (Ok p) = checked-grows t log room p (packet_check t.config log p)
came-grows t log room (Err e) = none-new room _ _ refl

gets-grows : (t : Terms) (log : List ServerEvent) (room : ℕ) (o : Option (List ℕ)) → Grows room (accepted_at t.config log) (accepted_at t.config (server_gets t.config room o log))
gets-grows t log room None = none-new room _ _ refl
gets-grows t log room (Some bytes) = came-grows t log room (read_up t.config (run_of (came_of (server_end log))) bytes)

pub line-grows : (t : Terms) (past : List PairStep) (room : ℕ) (l : NetLine) → Grows room (accepted_in t past) (accepted_in t (line_step room l ∷ past))
line-grows t past room (line.Up k) = gets-grows t (history t past).server room (slice_get (client_datagrams t.config (history t past).client) k)
line-grows t past room (line.Raw bytes) = gets-grows t (history t past).server room (Some bytes)
line-grows t past room (line.ClientPost class v) = none-new room _ _ refl
line-grows t past room (line.Down k) = none-new room _ _ refl
line-grows t past room (line.Move m) = none-new room _ _ refl
line-grows t past room line.ClientPack = none-new room _ _ refl

-- ---- its step

pub line-is : (room : ℕ) (l : NetLine) → step_of (line_given room l) ≡ line_step room l
line-is room (line.ClientPost class v) = refl
line-is room (line.Down k) = refl
line-is room (line.Move m) = refl
line-is room line.ClientPack = refl
line-is room (line.Up k) = refl
line-is room (line.Raw bytes) = refl

pub line-met : (t : Terms) (past : List PairStep) (room : ℕ) (l : NetLine) → IsMet t past (step_of (line_given room l))
line-met t past room (line.ClientPost class v) = tt
line-met t past room (line.Down k) = tt
line-met t past room (line.Move m) = tt
line-met t past room line.ClientPack = tt
line-met t past room (line.Up k) = tt
line-met t past room (line.Raw bytes) = tt

pub line-ready : (k : KeptState) → IsQuietPair k → (room : ℕ) (l : NetLine) → IsReady k.pair (line_given room l)
line-ready k q room (line.ClientPost class v) = tt
line-ready k q room (line.Down n) = q.client
line-ready k q room (line.Move m) = tt
line-ready k q room line.ClientPack = tt
line-ready k q room (line.Up n) = q.server
line-ready k q room (line.Raw bytes) = q.server

pub line-quiet : (room : ℕ) (l : NetLine) → IsQuiet (line_step room l) × IsNoPack (line_step room l)
line-quiet room (line.ClientPost class v) = (tt, tt)
line-quiet room (line.Down k) = (tt, tt)
line-quiet room (line.Move m) = (tt, tt)
line-quiet room line.ClientPack = (tt, tt)
line-quiet room (line.Up k) = (tt, tt)
line-quiet room (line.Raw bytes) = (tt, tt)
