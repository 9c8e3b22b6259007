-- The end of a turn's listening: a tick, and a scan and a datagram for each client.
use Rattle.std.proofs.Common.{◌≡◌, ◌∙◌, ℕ, ◌+◌, ◌≤◌, ◌<◌, List, [], ◌∷◌, ◌++◌, length, map, reverse, Option, Some, sym, ap, subst, refl, arith, add-one}
use Rattle.tn_outside.specs.declared.peer.Peer.{Peer}
use Rattle.tn_outside.specs.Links.{Datagram}
use Rattle.tn_outside.specs.Totals.{Adds, AddsFront}
use Rattle.match_script.specs.declared.types.BodyLine.{BodyLine}
use Rattle.match_script.specs.declared.types.BodyLine.TheVariants.{Tick, Scan, Pack, Raw}
use Rattle.match_script.specs.declared.types.Head.{Head}
use Rattle.match_script.specs.declared.types.Script.{Script}
use Rattle.match_script.specs.Ranges.{HeadFits}
use Rattle.tn_types.specs.declared.limits.TheConstants.{MAX_CLIENTS}
use Rattle.std.proofs.lemmas.List.{length-take}
use Rattle.match_report.specs.declared.told.Told.{Told}
use Rattle.match_engine.specs.match_laws.Report.{told_after}
use Rattle.match_engine.specs.Match.{last_told}
use Rattle.net_rules.specs.declared.hello.Hello.{Hello}
use Rattle.net_rules.specs.Turns.{Event, Turned}
use Rattle.net_rules.specs.Hellos.{firsts, joined, hello_at}
use Rattle.net_serve.specs.Lines.{delivered, delivered_of, posts, arrival_lines, after_clients, lines, text_so_far}
use Rattle.net_serve.specs.Outgoing.{Outgoing, datagrams, made, to_peer, packed_for, pack_of, packs, sends}
use Rattle.net_rules.specs.Runs.{Begun}
use Rattle.net_serve.specs.Stages.{ServerState, Plays, Serves, Same, PlaysOn, Writes, WritesFront, SendsMore, SendsFront, IsAt, IsFront}
use Rattle.tn_outside.proofs.Totals.{whole_front}
use Rattle.net_serve.proofs.Texts.{front_grows}
use Rattle.net_serve.proofs.Sending.{sends_more, sends_whole, sends_grow}
use Rattle.net_serve.proofs.Growing.{Behind, Before, same, one, posts_behind, clients_more, clients_behind, packs_more}

-- ---- one client

pub front_of_writes : (a : ServerState) (f : List BodyLine → List BodyLine) (w w' : Option (List ℕ)) → Writes a f w w' → WritesFront a f w w'
front_of_writes a f w w' wrote first past p before = whole_front first w' (text_so_far a.script.head (f past)) (wrote first past p before)

pub scan_behind : (c : ℕ) (past : List BodyLine) → Behind (Scan c ∷ past) (Pack c ∷ (Scan c ∷ past))
scan_behind c past = one (Pack c) (Scan c ∷ past) (Scan c ∷ past) (same (Scan c ∷ past))

-- what the last line told
pub told_is : (s : ServerState) (line : BodyLine) (past : List BodyLine) → Plays s (line ∷ past) → s.game.told ≡ Some (told_after s.script.head past line)
told_is s line past p = p.game.told ∙ ap (λ (x : Script). last_told x.head (line ∷ past)) p.script

made_datagrams : (c : ℕ) (peer : Peer) (all : List (List ℕ)) → map (λ (b : List ℕ). record { peer = peer; bytes = b }) all ≡ datagrams (map (to_peer c peer) all)
made_datagrams c peer [] = refl
made_datagrams c peer (x ∷ all) = ap (λ (t : List Datagram). record { peer = peer; bytes = x } ∷ t) (made_datagrams c peer all)

-- a datagram that was made is sent to its client's peer
module _ (a b : ServerState) (c : ℕ) (peer : Peer) (same : Same a b) (plays : PlaysOn a (λ past. Pack c ∷ (Scan c ∷ past)) b) (to : peer ≡ (hello_at b.peers c).peer) where
  pub packed_sends : (d d' : Option (List Datagram)) → Adds d d' (packed_for peer b.game.told) → SendsMore a (λ past. pack_of a.script.head a.peers c (Scan c ∷ past)) d d'
  packed_sends d d' sent first before past p s =
      let told : Told = told_after a.script.head (Scan c ∷ past) (Pack c) in
      let is : b.game.told ≡ Some told =
      told_is b (Pack c) (Scan c ∷ past) (plays past p) ∙ ap (λ (x : Script). Some (told_after x.head (Scan c ∷ past) (Pack c))) same.script in
      let peer_is : peer ≡ (hello_at a.peers c).peer = to ∙ ap (λ (hs : List Hello). (hello_at hs c).peer) same.peers in
      let one_sent = subst (λ (x : Option Told). Adds d d' (packed_for peer x)) is sent in
      let there = subst (λ (x : Peer). Adds d d' (packed_for x (Some told))) peer_is one_sent in
      let ours = subst (λ (x : List Datagram). Adds d d' x) (made_datagrams c (hello_at a.peers c).peer (made told)) there in
      sends_more first d d' before (pack_of a.script.head a.peers c (Scan c ∷ past)) s ours

-- ---- all clients

pub clients_next : (c : ℕ) (past : List BodyLine) → Pack c ∷ (Scan c ∷ after_clients c past) ≡ after_clients (c + 1) past
clients_next c past = ap (λ (n : ℕ). after_clients n past) (sym (add-one c))

pub packs_next : (head : Head) (hellos : List Hello) (c : ℕ) (past : List BodyLine)
    → packs head hellos c past ++ pack_of head hellos c (Scan c ∷ after_clients c past) ≡ packs head hellos (c + 1) past
packs_next head hellos c past = ap (λ (n : ℕ). packs head hellos n past) (sym (add-one c))

pub clients_rest : (c n : ℕ) (past : List BodyLine) → c < n → Behind (Pack c ∷ (Scan c ∷ after_clients c past)) (after_clients n past)
clients_rest c n past lt =
    let r = clients_more (c + 1) n past (omega (arith, lt)) in
    (r.0, r.1 ∙ ap (λ (t : List BodyLine). r.0 ++ t) (sym (clients_next c past)))

pub packs_rest : (head : Head) (hellos : List Hello) (c n : ℕ) (past : List BodyLine) → c < n
    → Before (packs head hellos c past ++ pack_of head hellos c (Scan c ∷ after_clients c past)) (packs head hellos n past)
packs_rest head hellos c n past lt =
    let r = packs_more head hellos (c + 1) n past (omega (arith, lt)) in
    (r.0, r.1 ∙ ap (λ (t : List Outgoing). t ++ r.0) (sym (packs_next head hellos c past)))

-- ---- the turn

module _ (old mid : ServerState) (n : ℕ) (all : n ≡ length old.peers) (same : Same old mid) (tick : PlaysOn old (λ past. Tick ∷ past) mid) where
  count_is : (past : List Event) → Serves old past → n ≡ length (joined old.script.head.clients past)
  count_is past s = all ∙ ap length s.peers

  lines_are : (past : List Event) → Serves old past → after_clients n (Tick ∷ lines old.script.head past) ≡ lines old.script.head (Turned ∷ past)
  lines_are past s = ap (λ (k : ℕ). after_clients k (Tick ∷ lines old.script.head past)) (count_is past s)

  sends_are : (past : List Event) → Serves old past
      → sends old.script.head past ++ packs mid.script.head mid.peers n (Tick ∷ lines old.script.head past) ≡ sends old.script.head (Turned ∷ past)
  sends_are past s =
      ap (λ (x : Script). sends old.script.head past ++ packs x.head mid.peers n (Tick ∷ lines old.script.head past)) same.script
      ∙ ap (λ (hs : List Hello). sends old.script.head past ++ packs old.script.head hs n (Tick ∷ lines old.script.head past)) (same.peers ∙ s.peers)
      ∙ ap (λ (k : ℕ). sends old.script.head past ++ packs old.script.head (joined old.script.head.clients past) k (Tick ∷ lines old.script.head past)) (count_is past s)

  module _ (new : ServerState) (same' : Same mid new) (plays : PlaysOn mid (after_clients n) new) where
    script_is : new.script ≡ old.script
    script_is = same'.script ∙ same.script

    pub turn_serves : (past : List Event) → Serves old past → Serves new (Turned ∷ past)
    turn_serves past s = record {
      plays = subst (λ (x : Script). Plays new (lines x.head (Turned ∷ past))) (sym script_is)
          (subst (λ (x : List BodyLine). Plays new x) (lines_are past s) (plays (Tick ∷ lines old.script.head past) (tick (lines old.script.head past) s.plays)));
      peers = same'.peers ∙ same.peers ∙ s.peers ∙ ap (λ (x : Script). joined x.head.clients past) (sym script_is);
    }

    pub turn_at : (o : Begun) (w w' w'' : Option (List ℕ)) (d d' : Option (List Datagram)) (past : List Event)
        → Writes old (λ past. Tick ∷ past) w w' → Writes mid (after_clients n) w' w'' → SendsMore mid (packs mid.script.head mid.peers n) d d'
        → IsAt o old w d past → IsAt o new w'' d' (Turned ∷ past)
    turn_at o w w' w'' d d' past wrote wrote' sent at =
        let before : List BodyLine = Tick ∷ lines old.script.head past in
        let p = tick (lines old.script.head past) at.serves.plays in
        let first = wrote o.written (lines old.script.head past) at.serves.plays at.text in
        let there = subst (λ (x : Script). Adds o.written w' (text_so_far x.head before)) (sym same.script) first in
        let second = wrote' o.written before p there in
        let text = subst (λ (x : List BodyLine). Adds o.written w'' (text_so_far mid.script.head x)) (lines_are past at.serves) second in
        let outgoing = sent o.sent (sends old.script.head past) before p at.outgoing in
        let all_sent = subst (λ (x : List Outgoing). Adds o.sent d' (datagrams x)) (sends_are past at.serves) outgoing in record {
          serves = turn_serves past at.serves;
          text = subst (λ (x : Script). Adds o.written w'' (text_so_far x.head (lines x.head (Turned ∷ past)))) (sym script_is)
              (subst (λ (x : Script). Adds o.written w'' (text_so_far x.head (lines old.script.head (Turned ∷ past)))) same.script text);
          outgoing = subst (λ (x : Script). Adds o.sent d' (datagrams (sends x.head (Turned ∷ past)))) (sym script_is) all_sent;
        }

  pub turn_front : (o : Begun) (w w' w'' : Option (List ℕ)) (d d' : Option (List Datagram)) (past : List Event)
      → Writes old (λ past. Tick ∷ past) w w' → WritesFront mid (after_clients n) w' w'' → SendsFront mid (packs mid.script.head mid.peers n) d d'
      → IsAt o old w d past → IsFront o old.script.head w'' d' (Turned ∷ past)
  turn_front o w w' w'' d d' past wrote wrote' sent at =
      let before : List BodyLine = Tick ∷ lines old.script.head past in
      let p = tick (lines old.script.head past) at.serves.plays in
      let first = wrote o.written (lines old.script.head past) at.serves.plays at.text in
      let there = subst (λ (x : Script). Adds o.written w' (text_so_far x.head before)) (sym same.script) first in
      let second = subst (λ (x : Script). AddsFront o.written w'' (text_so_far x.head (after_clients n before))) same.script (wrote' o.written before p there) in record {
        text = subst (λ (x : List BodyLine). AddsFront o.written w'' (text_so_far old.script.head x)) (lines_are past at.serves) second;
        outgoing = subst (λ (x : List Outgoing). AddsFront o.sent d' (datagrams x)) (sends_are past at.serves) (sent o.sent (sends old.script.head past) before p at.outgoing);
      }

-- the tick itself stopped
pub tick_front : (old : ServerState) (o : Begun) (w w' : Option (List ℕ)) (d : Option (List Datagram)) (past : List Event) → WritesFront old (λ past. Tick ∷ past) w w'
    → IsAt o old w d past → IsFront o old.script.head w' d (Turned ∷ past)
tick_front old o w w' d past wrote at =
    let head : Head = old.script.head in
    let hellos : List Hello = joined head.clients past in
    let before : List BodyLine = Tick ∷ lines head past in
    let r = clients_behind (length hellos) before in record {
      text = front_grows head o.written w' r.0 before (lines head (Turned ∷ past)) r.1 (wrote o.written (lines head past) at.serves.plays at.text);
      outgoing = sends_grow o.sent d (sends head past) (packs head hellos (length hellos) before) (sends head (Turned ∷ past)) refl
          (sends_whole o.sent d (sends head past) at.outgoing);
    }

-- what client c is sent, by the script and the peers of an earlier state
abbrev pub ours : Head → List Hello → ℕ → List BodyLine → List Outgoing
ours head hellos c past = pack_of head hellos c (Scan c ∷ past)

pub sends_as : (a b : ServerState) (c : ℕ) (d d' : Option (List Datagram)) → Same a b → SendsMore b (λ past. pack_of b.script.head b.peers c (Scan c ∷ past)) d d'
    → SendsMore b (ours a.script.head a.peers c) d d'
sends_as a b c d d' same sent =
    subst (λ (x : Script). SendsMore b (ours x.head a.peers c) d d') same.script (subst (λ (hs : List Hello). SendsMore b (ours b.script.head hs c) d d') same.peers sent)

pub sends_front_as : (a b : ServerState) (c : ℕ) (d d' : Option (List Datagram)) → Same a b → SendsFront b (λ past. pack_of b.script.head b.peers c (Scan c ∷ past)) d d'
    → SendsFront b (ours a.script.head a.peers c) d d'
sends_front_as a b c d d' same sent =
    subst (λ (x : Script). SendsFront b (ours x.head a.peers c) d d') same.script (subst (λ (hs : List Hello). SendsFront b (ours b.script.head hs c) d d') same.peers sent)

-- ---- how many clients there are

-- a server has no more peers than clients, and these are few
pub bounds : (s : ServerState) (past : List Event) → Serves s past → (length s.peers ≤ s.script.head.clients) × (s.script.head.clients ≤ MAX_CLIENTS)
bounds s past serves =
    let g = serves.plays.game in
    let same_head : s.game.game.head ≡ s.script.head = g.head ∙ ap (λ (x : Script). x.head) serves.plays.script in
    let most : s.script.head.clients ≤ MAX_CLIENTS = subst (λ (h : Head). h.clients ≤ MAX_CLIENTS) same_head g.game.lines.fits.clients in
    (omega (arith, ap length serves.peers, length-take s.script.head.clients (firsts past)), most)

pub head_fits : (s : ServerState) (past : List Event) → Serves s past → HeadFits s.script.head
head_fits s past serves =
    let g = serves.plays.game in
    subst HeadFits (g.head ∙ ap (λ (x : Script). x.head) serves.plays.script) g.game.lines.fits

-- ---- what an arrival delivered

pub arrived : (a b : ServerState) (c count : ℕ) (bytes : List ℕ) (items : List (List ℕ)) → Same a b → PlaysOn a (λ past. Raw c bytes ∷ past) b → items ≡ delivered_of b.game.told
    → (past : List BodyLine) → Plays a past → posts count c (reverse items) (Raw c bytes ∷ past) ≡ arrival_lines a.script.head count (Some c) bytes past
arrived a b c count bytes items kept plays are past p =
    let told : b.game.told ≡ Some (told_after a.script.head past (Raw c bytes)) =
    told_is b (Raw c bytes) past (plays past p) ∙ ap (λ (x : Script). Some (told_after x.head past (Raw c bytes))) kept.script in
    ap (λ (ps : List (List ℕ)). posts count c (reverse ps) (Raw c bytes ∷ past)) (are ∙ ap delivered_of told)

pub raw_behind : (head : Head) (count c : ℕ) (bytes : List ℕ) (past : List BodyLine) → Behind (Raw c bytes ∷ past) (arrival_lines head count (Some c) bytes past)
raw_behind head count c bytes past = posts_behind count c (reverse (delivered (told_after head past (Raw c bytes)))) (Raw c bytes ∷ past)
