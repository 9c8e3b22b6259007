-- A datagram is heard: a hello, an arrival, or anything else.
use Rattle.std.proofs.Common.{◌≡◌, ◌∙◌, ℕ, true, false, List, [], ◌∷◌, ◌++◌, length, Option, Some, None, sym, ap, subst, refl}
use Rattle.tn_outside.specs.Links.{Datagram}
use Rattle.tn_outside.specs.Totals.{Adds, AddsFront}
use Rattle.match_script.specs.declared.types.BodyLine.{BodyLine}
use Rattle.match_script.specs.declared.types.Script.{Script}
use Rattle.match_engine.specs.Served.{ServedState, StandsFor}
use Rattle.net_rules.specs.declared.hello.Hello.{Hello}
use Rattle.net_rules.specs.Turns.{Event, Heard}
use Rattle.net_rules.specs.Hellos.{is_arrival, hello_of, hello_in, joined, client_of}
use Rattle.net_serve.specs.Lines.{arrival_lines, sender, lines, text_so_far}
use Rattle.net_serve.specs.Outgoing.{Outgoing, datagrams, welcome_to, sends}
use Rattle.net_rules.specs.Runs.{Begun}
use Rattle.net_serve.specs.Stages.{ServerState, Plays, Serves, Same, PlaysOn, Writes, WritesFront, IsAt, IsFront}
use Rattle.net_serve.proofs.Sending.{sends_more, sends_whole}
use Rattle.net_serve.proofs.Events.{hello_sender, no_sender, sender_is, lines_for, joined_stays, nobody_welcomed, welcomed}
use Rattle.net_serve.proofs.Rounds.{front_later, at_front, at_sent}

-- whatever is to be done, what stands is a front of it
pub stopped_at : (o : Begun) (s : ServerState) (w : Option (List ℕ)) (d d' : Option (List Datagram)) (e : Event) (past : List Event) → d' ≡ d
    → IsAt o s w d past → IsFront o s.script.head w d' (e ∷ past)
stopped_at o s w d d' e past same at =
    front_later o s.script.head w d' (e ∷ []) past (e ∷ past) refl (at_front o s s.script.head w d' past refl (at_sent o s w d d' past same at))

plays_same : (old new : ServerState) (past : List BodyLine) → new.script ≡ old.script → new.game ≡ old.game → Plays old past → Plays new past
plays_same old new past script game p = record {
  game = subst (λ (g : ServedState). StandsFor g past) (sym game) p.game;
  script = ap (λ (g : ServedState). g.script) game ∙ p.script ∙ sym script;
}

-- what a server has become by an event, once its lines are known
module _ (old new : ServerState) (e : Event) (past : List Event) (script : new.script ≡ old.script) where
  serves_by : (ls : List BodyLine) → lines old.script.head (e ∷ past) ≡ ls → Plays new ls → new.peers ≡ joined old.script.head.clients (e ∷ past) → Serves new (e ∷ past)
  serves_by ls is plays peers = record {
    plays = subst (λ (s : Script). Plays new (lines s.head (e ∷ past))) (sym script) (subst (λ (x : List BodyLine). Plays new x) (sym is) plays);
    peers = subst (λ (s : Script). new.peers ≡ joined s.head.clients (e ∷ past)) (sym script) peers;
  }

  at_by : (o : Begun) (w : Option (List ℕ)) (d : Option (List Datagram)) (ls : List BodyLine) (outs : List Outgoing) → Serves new (e ∷ past)
      → lines old.script.head (e ∷ past) ≡ ls → sends old.script.head (e ∷ past) ≡ outs
      → Adds o.written w (text_so_far old.script.head ls) → Adds o.sent d (datagrams outs) → IsAt o new w d (e ∷ past)
  at_by o w d ls outs serves lines_are sends_are text sent = record {
    serves = serves;
    text = subst (λ (s : Script). Adds o.written w (text_so_far s.head (lines s.head (e ∷ past)))) (sym script)
        (subst (λ (x : List BodyLine). Adds o.written w (text_so_far old.script.head x)) (sym lines_are) text);
    outgoing = subst (λ (s : Script). Adds o.sent d (datagrams (sends s.head (e ∷ past)))) (sym script)
        (subst (λ (x : List Outgoing). Adds o.sent d (datagrams x)) (sym sends_are) sent);
  }

-- ---- a hello

module _ (old new : ServerState) (d : Datagram) (h : Hello) (is : hello_of d ≡ Some h) (script : new.script ≡ old.script) (game : new.game ≡ old.game)
    (joins : (e : Event) (past : List Event) → hello_in e ≡ Some h → old.peers ≡ joined old.script.head.clients past → new.peers ≡ joined old.script.head.clients (e ∷ past)) where
  no_lines : (past : List Event) → lines old.script.head (Heard d ∷ past) ≡ lines old.script.head past
  no_lines past = lines_for d old.script.head past None (hello_sender d (joined old.script.head.clients past) h is)

  pub hello_serves : (past : List Event) → Serves old past → Serves new (Heard d ∷ past)
  hello_serves past s =
      serves_by old new (Heard d) past script (lines old.script.head past) (no_lines past) (plays_same old new (lines old.script.head past) script game s.plays) (joins (Heard d) past is s.peers)

  pub hello_at : (o : Begun) (w : Option (List ℕ)) (dd dd' : Option (List Datagram)) (past : List Event) → IsAt o old w dd past
      → Adds dd dd' (datagrams (welcome_to old.script.head new.peers (client_of new.peers h.peer))) → IsAt o new w dd' (Heard d ∷ past)
  hello_at o w dd dd' past at sent =
      let peers : new.peers ≡ joined old.script.head.clients (Heard d ∷ past) = joins (Heard d) past is at.serves.peers in
      let outs : List Outgoing = sends old.script.head past ++ welcome_to old.script.head new.peers (client_of new.peers h.peer) in
      at_by old new (Heard d) past script o w dd' (lines old.script.head past) outs (hello_serves past at.serves) (no_lines past)
      (welcomed d old.script.head past h new.peers is peers) at.text
      (sends_more o.sent dd dd' (sends old.script.head past) (welcome_to old.script.head new.peers (client_of new.peers h.peer)) at.outgoing sent)

-- ---- no hello

module _ (s : ServerState) (d : Datagram) (none : hello_of d ≡ None) where
  -- and no arrival
  module _ (nobody : (hellos : List Hello) → hellos ≡ s.peers → sender hellos d ≡ None) where
    nothing_lines : (past : List Event) → Serves s past → lines s.script.head (Heard d ∷ past) ≡ lines s.script.head past
    nothing_lines past serves = lines_for d s.script.head past None (nobody (joined s.script.head.clients past) (sym serves.peers))

    pub nothing_serves : (past : List Event) → Serves s past → Serves s (Heard d ∷ past)
    nothing_serves past serves =
        serves_by s s (Heard d) past refl (lines s.script.head past) (nothing_lines past serves) serves.plays (serves.peers ∙ sym (joined_stays d s.script.head past none))

    pub nothing_at : (o : Begun) (w : Option (List ℕ)) (dd : Option (List Datagram)) (past : List Event) → IsAt o s w dd past → IsAt o s w dd (Heard d ∷ past)
    nothing_at o w dd past at =
        at_by s s (Heard d) past refl o w dd (lines s.script.head past) (sends s.script.head past) (nothing_serves past at.serves) (nothing_lines past at.serves)
        (nobody_welcomed d s.script.head past none) at.text at.outgoing

  pub no_arrival_none : is_arrival d.bytes ≡ false → (hellos : List Hello) → hellos ≡ s.peers → sender hellos d ≡ None
  no_arrival_none e hellos same = no_sender d hellos e

  pub stranger_none : is_arrival d.bytes ≡ true → client_of s.peers d.peer ≡ None → (hellos : List Hello) → hellos ≡ s.peers → sender hellos d ≡ None
  stranger_none e none_of hellos same = sender_is d hellos None e (ap (λ (hs : List Hello). client_of hs d.peer) same ∙ none_of)

  -- an arrival
  module _ (new : ServerState) (c count : ℕ) (arrives : is_arrival d.bytes ≡ true) (who : client_of s.peers d.peer ≡ Some c) (all : count ≡ length s.peers) where
    arrival_are : (past : List Event) → Serves s past
        → lines s.script.head (Heard d ∷ past) ≡ arrival_lines s.script.head count (Some c) d.bytes (lines s.script.head past)
    arrival_are past serves =
        lines_for d s.script.head past (Some c) (sender_is d (joined s.script.head.clients past) (Some c) arrives (ap (λ (hs : List Hello). client_of hs d.peer) (sym serves.peers) ∙ who))
        ∙ ap (λ (n : ℕ). arrival_lines s.script.head n (Some c) d.bytes (lines s.script.head past)) (ap length (sym serves.peers) ∙ sym all)

    module _ (same : Same s new) (plays : PlaysOn s (arrival_lines s.script.head count (Some c) d.bytes) new) where
      pub arrival_serves : (past : List Event) → Serves s past → Serves new (Heard d ∷ past)
      arrival_serves past serves =
          serves_by s new (Heard d) past same.script (arrival_lines s.script.head count (Some c) d.bytes (lines s.script.head past)) (arrival_are past serves)
          (plays (lines s.script.head past) serves.plays) (same.peers ∙ serves.peers ∙ sym (joined_stays d s.script.head past none))

      pub arrival_at : (o : Begun) (w w' : Option (List ℕ)) (dd : Option (List Datagram)) (past : List Event) → Writes s (arrival_lines s.script.head count (Some c) d.bytes) w w'
          → IsAt o s w dd past → IsAt o new w' dd (Heard d ∷ past)
      arrival_at o w w' dd past wrote at =
          at_by s new (Heard d) past same.script o w' dd (arrival_lines s.script.head count (Some c) d.bytes (lines s.script.head past)) (sends s.script.head past) (arrival_serves past at.serves)
          (arrival_are past at.serves) (nobody_welcomed d s.script.head past none) (wrote o.written (lines s.script.head past) at.serves.plays at.text) at.outgoing

    pub arrival_front : (o : Begun) (w w' : Option (List ℕ)) (dd : Option (List Datagram)) (past : List Event) → WritesFront s (arrival_lines s.script.head count (Some c) d.bytes) w w'
        → IsAt o s w dd past → IsFront o s.script.head w' dd (Heard d ∷ past)
    arrival_front o w w' dd past wrote at = record {
      text = subst (λ (x : List BodyLine). AddsFront o.written w' (text_so_far s.script.head x)) (sym (arrival_are past at.serves))
          (wrote o.written (lines s.script.head past) at.serves.plays at.text);
      outgoing = subst (λ (x : List Outgoing). AddsFront o.sent dd (datagrams x)) (sym (nobody_welcomed d s.script.head past none))
          (sends_whole o.sent dd (sends s.script.head past) at.outgoing);
    }
