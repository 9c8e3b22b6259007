-- A client's end that joined, and what happened there.
use Rattle.std.specs.Prelude.{ℕ, ◌≡◌, ◌+◌, ◌++◌, map, List, [], Option, Some, None}
use Rattle.rand_pcg.specs.Lcg.{Lcg}
use Rattle.stream_manager.specs.declared.config.Config.{Config}
use Rattle.tn_outside.specs.Links.{Datagram}
use Rattle.tn_outside.specs.Totals.{Adds}
use Rattle.stream_manager.specs.Client.{ClientEvent, client_datagrams}
use Rattle.stream_manager.specs.Stands.{ClientState, ClientStandsFor}
use Rattle.world_rules.specs.Kinds.{match_kinds}
use Rattle.net_rules.specs.Turns.{Event}
use Rattle.net_join.specs.Joining.{chances, move_at, turned_by, to_server, joined, turns_joined, log_of}

pub record PlayerState : Type 0 where
  pub end : ClientState
  pub moves : Lcg

-- this happened at its end, which was made with this, and so many moves were drawn; no event waits
pub record Plays (p : PlayerState) (c : Config) (log : List ClientEvent) (drawn : ℕ) : Type 0 where
  pub stands : ClientStandsFor p.end log
  pub config : p.end.common.config ≡ c
  pub kinds : p.end.copies.kinds ≡ match_kinds
  pub moves : p.moves ≡ chances c.client drawn
  pub handed : p.end.common.receiver.ready ≡ []

-- the datagrams that were sent before, and then those of the client, all to the server
abbrev pub behind : List (List ℕ) → Config → List ClientEvent → List Datagram
behind before c log = map to_server (before ++ client_datagrams c log)

-- whatever was sent before, the end's datagrams go on as f makes its list go on
abbrev pub SendsOn : ClientState → (List ClientEvent → List ClientEvent) → Option (List Datagram) → Option (List Datagram) → Type 0
SendsOn end f sent sent' =
    (log : List ClientEvent) → ClientStandsFor end log → (first : Option (List Datagram)) (before : List (List ℕ))
    → Adds first sent (behind before end.common.config log) → Adds first sent' (behind before end.common.config (f log))

-- a turn is played on
abbrev pub PlaysOn : PlayerState → PlayerState → Type 0
PlaysOn old new =
    (c : Config) (log : List ClientEvent) (drawn : ℕ) → Plays old c log drawn
    → Plays new c (turned_by (Some c) (move_at c.client drawn) log) (drawn + 1)

-- and its datagram is sent
abbrev pub SendsDatagrams : PlayerState → Option (List Datagram) → Option (List Datagram) → Type 0
SendsDatagrams old sent sent' =
    (c : Config) (log : List ClientEvent) (drawn : ℕ) → Plays old c log drawn → (first : Option (List Datagram)) (before : List (List ℕ))
    → Adds first sent (behind before c log) → Adds first sent' (behind before c (turned_by (Some c) (move_at c.client drawn) log))

pub record JoinerState : Type 0 where
  pub nonce : ℕ
  pub player : Option PlayerState

-- there is a player exactly where there was a welcome, and it has that one's client
abbrev pub PlaysWhere : Option PlayerState → Option Config → List ClientEvent → ℕ → Type 0
PlaysWhere None None log drawn = Unit {0}
PlaysWhere (Some p) (Some c) log drawn = Plays p c log drawn
PlaysWhere player config log drawn = ⊥

-- all of this was heard
abbrev pub Joins : JoinerState → List Event → Type 0
Joins j past = PlaysWhere j.player (joined j.nonce past) (log_of j.nonce past) (turns_joined j.nonce past)
