-- What one heard: whether a player is there, what its end stands for, and what is sent.
use Rattle.std.proofs.Common.{◌≡◌, ◌∙◌, ℕ, ◌+◌, ◌&&◌, Bool, true, false, if◌then◌else◌, List, [], ◌∷◌, ◌++◌, map, replicate, Option, Some, None, sym, ap, subst, refl, add-zero, append_assoc}
use Rattle.std.specs.Prelude.{Result, Ok, Err}
use Rattle.std.specs.Option.{option_or}
use Rattle.std.proofs.lemmas.List.{replicate_more, append-nil, map-append}
use Rattle.tn_outside.specs.Links.{Datagram}
use Rattle.tn_outside.specs.Totals.{Adds}
use Rattle.wire_format.specs.declared.server.ServerPacket.{ServerPacket}
use Rattle.notify_window.specs.declared.SendState.{SendState}
use Rattle.notify_window.specs.declared.SendState.TheVariants.{Held, Worn, Room}
use Rattle.stream_manager.specs.declared.config.Config.{Config}
use Rattle.stream_manager.specs.declared.fault.ClientFault.{ClientFault}
use Rattle.stream_manager.specs.End.{with_event}
use Rattle.stream_manager.specs.Client.{ClientEvent, Sampled, took_at_client, client_answer, arriving, client_state, client_bytes, client_ping_bytes, pack_event, sampled_answer, client_datagrams}
use Rattle.std.specs.Result.{is_ok}
use Rattle.tn_types.specs.declared.moves.Move.{Move}
use Rattle.tn_types.specs.declared.moves.MoveBits.{MoveBits}
use Rattle.bit_stream.specs.WorldMoves.{bits_of}
use Rattle.world_rules.specs.Kinds.{match_kinds}
use Rattle.net_rules.specs.Turns.{Event, Heard, Turned}
use Rattle.net_rules.specs.Hellos.{hello_with, is_arrival}
use Rattle.net_join.specs.Joining.{is_of_server, to_server, welcomed, joined, turns_joined, one_where, none_where, hellos, heard_by, samples, turned_by, move_at, client_of, log_of, datagrams_of, sends}
use Rattle.net_join.specs.Playing.{PlayerState, Plays, PlaysOn, SendsDatagrams, PlaysWhere}

pub then_is : {A : Type 0} (b : Bool) (x y : A) → b ≡ true → x ≡ (if b then x else y)
then_is b x y e = rw e refl

pub else_is : {A : Type 0} (b : Bool) (x y : A) → b ≡ false → y ≡ (if b then x else y)
else_is b x y e = rw e refl

-- ---- nothing happened before a welcome

none_first : (a b : Option Config) → option_or a b ≡ None → a ≡ None
none_first None b e = refl
none_first (Some c) b e = absurd cc

unheard : (j : Option Config) (d : Datagram) (log : List ClientEvent) → j ≡ None → log ≡ [] → heard_by j d log ≡ []
unheard None d log e is = is
unheard (Some c) d log e is = absurd cc

unturned : (j : Option Config) (m : Move) (log : List ClientEvent) → j ≡ None → log ≡ [] → turned_by j m log ≡ []
unturned None m log e is = is
unturned (Some c) m log e is = absurd cc

pub no_log : (nonce : ℕ) (past : List Event) → joined nonce past ≡ None → log_of nonce past ≡ []
no_log nonce [] e = refl
no_log nonce (Heard d ∷ past) e =
    let before = none_first (joined nonce past) (welcomed nonce d) e in
    unheard (joined nonce past) d (log_of nonce past) before (no_log nonce past before)
no_log nonce (Turned ∷ past) e =
    unturned (joined nonce past) (move_at (client_of (joined nonce past)) (turns_joined nonce past)) (log_of nonce past) e (no_log nonce past e)

no_more : (j : Option Config) (n : ℕ) → j ≡ None → n ≡ 0 → n + one_where j ≡ 0
no_more None n e is = add-zero n ∙ is
no_more (Some c) n e is = absurd cc

pub no_turns : (nonce : ℕ) (past : List Event) → joined nonce past ≡ None → turns_joined nonce past ≡ 0
no_turns nonce [] e = refl
no_turns nonce (Heard d ∷ past) e = no_turns nonce past (none_first (joined nonce past) (welcomed nonce d) e)
no_turns nonce (Turned ∷ past) e = no_more (joined nonce past) (turns_joined nonce past) e (no_turns nonce past e)

-- ---- whether there is a player

pub none_joined : (config : Option Config) (log : List ClientEvent) (drawn : ℕ) → PlaysWhere None config log drawn → config ≡ None
none_joined None log drawn h = refl
none_joined (Some c) log drawn h = absurd h

pub some_joined : (p : PlayerState) (config : Option Config) (log : List ClientEvent) (drawn : ℕ) → PlaysWhere (Some p) config log drawn
    → (c : Config) × (config ≡ Some c) × Plays p c log drawn
some_joined p None log drawn h = absurd h
some_joined p (Some c) log drawn h = (c, refl, h)

-- ---- a datagram is heard

-- it arrives at the player
pub arrives : (old new : PlayerState) (j w : Option Config) (d : Datagram) (log : List ClientEvent) (drawn : ℕ) → (is_of_server d && is_arrival d.bytes) ≡ true
    → ((c : Config) (l : List ClientEvent) (n : ℕ) → Plays old c l n → Plays new c (arriving c match_kinds d.bytes l) n)
    → PlaysWhere (Some old) j log drawn → PlaysWhere (Some new) (option_or j w) (heard_by j d log) drawn
arrives old new None w d log drawn e f h = absurd h
arrives old new (Some c) w d log drawn e f h =
    subst (λ (l : List ClientEvent). Plays new c l drawn) (then_is (is_of_server d && is_arrival d.bytes) (arriving c match_kinds d.bytes log) log e) (f c log drawn h)

-- it is dropped
pub dropped : (p : PlayerState) (j w : Option Config) (d : Datagram) (log : List ClientEvent) (drawn : ℕ) → (is_of_server d && is_arrival d.bytes) ≡ false
    → PlaysWhere (Some p) j log drawn → PlaysWhere (Some p) (option_or j w) (heard_by j d log) drawn
dropped p None w d log drawn e h = absurd h
dropped p (Some c) w d log drawn e h =
    subst (λ (l : List ClientEvent). Plays p c l drawn) (else_is (is_of_server d && is_arrival d.bytes) (arriving c match_kinds d.bytes log) log e) h

-- it welcomes
welcomes : (p : PlayerState) (c : Config) (j : Option Config) (d : Datagram) (log : List ClientEvent) (drawn : ℕ) → j ≡ None → log ≡ [] → drawn ≡ 0
    → Plays p c [] 0 → PlaysWhere (Some p) (option_or j (Some c)) (heard_by j d log) drawn
welcomes p c None d log drawn e l n h = subst (λ (k : ℕ). Plays p c log k) (sym n) (subst (λ (x : List ClientEvent). Plays p c x 0) (sym l) h)
welcomes p c (Some x) d log drawn e l n h = absurd cc

pub welcome_joins : (nonce : ℕ) (p : PlayerState) (c : Config) (d : Datagram) (past : List Event) → welcomed nonce d ≡ Some c → Plays p c [] 0
    → PlaysWhere None (joined nonce past) (log_of nonce past) (turns_joined nonce past)
    → PlaysWhere (Some p) (joined nonce (Heard d ∷ past)) (log_of nonce (Heard d ∷ past)) (turns_joined nonce (Heard d ∷ past))
welcome_joins nonce p c d past is plays h =
    let none = none_joined (joined nonce past) (log_of nonce past) (turns_joined nonce past) h in
    subst (λ (w : Option Config). PlaysWhere (Some p) (option_or (joined nonce past) w) (heard_by (joined nonce past) d (log_of nonce past)) (turns_joined nonce past)) (sym is)
    (welcomes p c (joined nonce past) d (log_of nonce past) (turns_joined nonce past) none (no_log nonce past none) (no_turns nonce past none) plays)

-- it is no welcome
nothing : (j w : Option Config) (d : Datagram) (log : List ClientEvent) (drawn : ℕ) → w ≡ None → PlaysWhere None j log drawn → PlaysWhere None (option_or j w) (heard_by j d log) drawn
nothing None None d log drawn e h = tt
nothing None (Some c) d log drawn e h = absurd cc
nothing (Some x) w d log drawn e h = absurd h

pub nothing_joins : (nonce : ℕ) (d : Datagram) (past : List Event) → welcomed nonce d ≡ None
    → PlaysWhere None (joined nonce past) (log_of nonce past) (turns_joined nonce past)
    → PlaysWhere None (joined nonce (Heard d ∷ past)) (log_of nonce (Heard d ∷ past)) (turns_joined nonce (Heard d ∷ past))
nothing_joins nonce d past is h = nothing (joined nonce past) (welcomed nonce d) d (log_of nonce past) (turns_joined nonce past) is h

-- ---- a turn ends

pub plays_on : (old new : PlayerState) (j : Option Config) (log : List ClientEvent) (drawn : ℕ) → PlaysOn old new → PlaysWhere (Some old) j log drawn
    → PlaysWhere (Some new) j (turned_by j (move_at (client_of j) drawn) log) (drawn + one_where j)
plays_on old new None log drawn f h = absurd h
plays_on old new (Some c) log drawn f h = f c log drawn h

pub stays_none : (j : Option Config) (m : Move) (log : List ClientEvent) (drawn : ℕ) → PlaysWhere None j log drawn → PlaysWhere None j (turned_by j m log) (drawn + one_where j)
stays_none None m log drawn h = tt
stays_none (Some c) m log drawn h = absurd h

-- what was sent then: the client's next datagram
turn_sends : (nonce n : ℕ) (old new : PlayerState) (j : Option Config) (log : List ClientEvent) (drawn : ℕ) (first d d' : Option (List Datagram)) → SendsDatagrams old d d'
    → PlaysWhere (Some old) j log drawn
    → Adds first d (map to_server (replicate n (hello_with nonce) ++ datagrams_of j log))
    → Adds first d' (map to_server (replicate (n + none_where j) (hello_with nonce) ++ datagrams_of j (turned_by j (move_at (client_of j) drawn) log)))
turn_sends nonce n old new None log drawn first d d' f h sent = absurd h
turn_sends nonce n old new (Some c) log drawn first d d' f h sent =
    subst (λ (k : ℕ). Adds first d' (map to_server (replicate k (hello_with nonce) ++ datagrams_of (Some c) (turned_by (Some c) (move_at c.client drawn) log)))) (sym (add-zero n))
    (f c log drawn h first (replicate n (hello_with nonce)) sent)

pub turned_sends : (nonce : ℕ) (old new : PlayerState) (past : List Event) (first d d' : Option (List Datagram)) → SendsDatagrams old d d'
    → PlaysWhere (Some old) (joined nonce past) (log_of nonce past) (turns_joined nonce past)
    → Adds first d (sends nonce past) → Adds first d' (sends nonce (Turned ∷ past))
turned_sends nonce old new past first d d' f h sent =
    turn_sends nonce (hellos nonce past) old new (joined nonce past) (log_of nonce past) (turns_joined nonce past) first d d' f h sent

-- or a hello
one_hello : (nonce n : ℕ) (j : Option Config) (m : Move) (log : List ClientEvent) → j ≡ None
    → map to_server (replicate (n + none_where j) (hello_with nonce) ++ datagrams_of j (turned_by j m log))
    ≡ map to_server (replicate n (hello_with nonce) ++ datagrams_of j log) ++ to_server (hello_with nonce) ∷ []
one_hello nonce n None m log e =
    let h : List ℕ = hello_with nonce in
    ap (map to_server) (append-nil (replicate (n + 1) h) ∙ sym (replicate_more n h) ∙ ap (λ (xs : List (List ℕ)). xs ++ h ∷ []) (sym (append-nil (replicate n h))))
    ∙ map-append to_server (replicate n h ++ []) (h ∷ [])
one_hello nonce n (Some c) m log e = absurd cc

pub hello_sends : (nonce : ℕ) (past : List Event) → joined nonce past ≡ None → sends nonce (Turned ∷ past) ≡ sends nonce past ++ to_server (hello_with nonce) ∷ []
hello_sends nonce past e = one_hello nonce (hellos nonce past) (joined nonce past) (move_at (client_of (joined nonce past)) (turns_joined nonce past)) (log_of nonce past) e

-- ---- hearing sends nothing

took_nothing : (c : Config) (log : List ClientEvent) (r : Result ServerPacket ClientFault) → client_datagrams c (took_at_client log r) ≡ client_datagrams c log
took_nothing c log (Ok p) = refl
took_nothing c log (Err e) = refl

if_took : (c : Config) (b : Bool) (d : Datagram) (log : List ClientEvent) → client_datagrams c (if b then arriving c match_kinds d.bytes log else log) ≡ client_datagrams c log
if_took c true d log = took_nothing c log (client_answer c match_kinds log d.bytes)
if_took c false d log = refl

fresh_sends : (w : Option Config) → datagrams_of w [] ≡ []
fresh_sends None = refl
fresh_sends (Some c) = refl

heard_nothing : (j w : Option Config) (d : Datagram) (log : List ClientEvent) → (j ≡ None → log ≡ []) → datagrams_of (option_or j w) (heard_by j d log) ≡ datagrams_of j log
heard_nothing None w d log is = ap (datagrams_of w) (is refl) ∙ fresh_sends w
heard_nothing (Some c) w d log is = if_took c (is_of_server d && is_arrival d.bytes) d log

pub heard_sends : (nonce : ℕ) (d : Datagram) (past : List Event) → sends nonce (Heard d ∷ past) ≡ sends nonce past
heard_sends nonce d past =
    ap (λ (xs : List (List ℕ)). map to_server (replicate (hellos nonce past) (hello_with nonce) ++ xs))
    (heard_nothing (joined nonce past) (welcomed nonce d) d (log_of nonce past) (no_log nonce past))

-- ---- what the end of a turn sends stands behind the rest

-- these stand before others
abbrev pub Before : {A : Type 0} → List A → List A → Type 0
Before {A} front whole = (more : List A) × (whole ≡ front ++ more)

packed_more : (c : Config) (log : List ClientEvent) (s : SendState) → Before (client_datagrams c log) (client_datagrams c (with_event (pack_event c log s) log))
packed_more c log Held = (client_ping_bytes c log ∷ [], refl)
packed_more c log Worn = ([], sym (append-nil (client_datagrams c log)))
packed_more c log Room = (client_bytes c log ∷ [], refl)

pub if_sampled : (c : Config) (b : Bool) (m : MoveBits) (log : List ClientEvent) → client_datagrams c (if b then Sampled m ∷ log else log) ≡ client_datagrams c log
if_sampled c true m log = refl
if_sampled c false m log = refl

pub played_more : (c : Config) (m : Move) (log : List ClientEvent) → Before (client_datagrams c log) (client_datagrams c (turned_by (Some c) m log))
played_more c m log =
    let r = packed_more c (samples c m log) (client_state c (samples c m log)) in
    (r.0, r.1 ∙ ap (λ (xs : List (List ℕ)). xs ++ r.0) (if_sampled c (is_ok (sampled_answer c (bits_of m) log)) (bits_of m) log))

turn_more : (nonce n : ℕ) (j : Option Config) (m : Move) (log : List ClientEvent)
    → Before (map to_server (replicate n (hello_with nonce) ++ datagrams_of j log))
    (map to_server (replicate (n + none_where j) (hello_with nonce) ++ datagrams_of j (turned_by j m log)))
turn_more nonce n None m log = (to_server (hello_with nonce) ∷ [], one_hello nonce n None m log refl)
turn_more nonce n (Some c) m log =
    let h : List (List ℕ) = replicate n (hello_with nonce) in
    let r = played_more c m log in (
      map to_server r.0,
      ap (λ (k : ℕ). map to_server (replicate k (hello_with nonce) ++ client_datagrams c (turned_by (Some c) m log))) (add-zero n)
          ∙ ap (λ (xs : List (List ℕ)). map to_server (h ++ xs)) r.1
          ∙ ap (map to_server) (sym (append_assoc h (client_datagrams c log) r.0))
          ∙ map-append to_server (h ++ client_datagrams c log) r.0,
    )

event_more : (nonce : ℕ) (e : Event) (past : List Event) → Before (sends nonce past) (sends nonce (e ∷ past))
event_more nonce (Heard d) past = ([], heard_sends nonce d past ∙ sym (append-nil (sends nonce past)))
event_more nonce Turned past =
    turn_more nonce (hellos nonce past) (joined nonce past) (move_at (client_of (joined nonce past)) (turns_joined nonce past)) (log_of nonce past)

-- what a longer past sends begins with what a shorter one does
pub sends_before : (nonce : ℕ) (later past : List Event) → Before (sends nonce past) (sends nonce (later ++ past))
sends_before nonce [] past = ([], sym (append-nil (sends nonce past)))
sends_before nonce (e ∷ later) past =
    let r = sends_before nonce later past in
    let s = event_more nonce e (later ++ past) in
    (r.0 ++ s.0, s.1 ∙ ap (λ (xs : List Datagram). xs ++ s.0) r.1 ∙ append_assoc (sends nonce past) r.0 s.0)
