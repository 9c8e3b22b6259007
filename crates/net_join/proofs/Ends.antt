-- What the calls on the client's end do to a player.
use Rattle.std.proofs.Common.{◌≡◌, ◌∙◌, ℕ, ◌+◌, true, false, List, [], ◌∷◌, ◌++◌, map, Option, Some, sym, ap, subst, add-one}
use Rattle.std.specs.Prelude.{Result, Ok, Err, OnOk, OnErr}
use Rattle.std.specs.Result.{is_ok}
use Rattle.rand_pcg.specs.Lcg.{Lcg}
use Rattle.tn_types.specs.declared.moves.Move.{Move}
use Rattle.bit_stream.specs.WorldMoves.{bits_of}
use Rattle.tn_outside.specs.Links.{Datagram}
use Rattle.tn_outside.specs.Totals.{Adds}
use Rattle.quantised_fields.specs.declared.kind.Kind.{Kind}
use Rattle.event_manager.specs.ReceiverState.{ReceiverState}
use Rattle.move_manager.specs.declared.faults.MoveFault.{MoveFault}
use Rattle.stream_manager.specs.declared.config.Config.{Config}
use Rattle.stream_manager.specs.Client.{ClientEvent, Sampled, arriving, sampled_answer}
use Rattle.stream_manager.specs.Stands.{ClientState, ClientStandsFor}
use Rattle.stream_manager.specs.ClientCalls.{Does, Answers, Becomes, Keeps, KeepsTerms}
use Rattle.script_maker.specs.Lines.{move_drawn}
use Rattle.world_rules.specs.Kinds.{match_kinds}
use Rattle.net_join.specs.Joining.{to_server, chances, move_at, samples, packs, turned_by}
use Rattle.net_join.specs.Playing.{PlayerState, Plays, PlaysOn, SendsOn, SendsDatagrams, behind}
use Rattle.net_join.proofs.Heard.{then_is, else_is, if_sampled}

ready_of : (a b : ReceiverState) → a ≡ b → b.ready ≡ [] → a.ready ≡ []
ready_of a b e h = ap (λ (r : ReceiverState). r.ready) e ∙ h

-- ---- a datagram arrives, and the events that it brings are handed out

pub heard_plays : (p : PlayerState) (mid new : ClientState) (bytes : List ℕ) → Becomes p.end (arriving p.end.common.config p.end.copies.kinds bytes) mid → KeepsTerms p.end mid
    → Becomes mid (λ (log : List ClientEvent). log) new → KeepsTerms mid new → new.common.receiver.ready ≡ []
    → (c : Config) (log : List ClientEvent) (drawn : ℕ) → Plays p c log drawn → Plays (record { end = new; moves = p.moves }) c (arriving c match_kinds bytes log) drawn
heard_plays p mid new bytes came kept handed kept' none c log drawn h = record {
  stands = subst (λ (k : List Kind). ClientStandsFor new (arriving c k bytes log)) h.kinds
      (subst (λ (x : Config). ClientStandsFor new (arriving x p.end.copies.kinds bytes log)) h.config
      (handed (arriving p.end.common.config p.end.copies.kinds bytes log) (came log h.stands)));
  config = kept'.config ∙ kept.config ∙ h.config;
  kinds = kept'.kinds ∙ kept.kinds ∙ h.kinds;
  moves = h.moves;
  handed = none;
}

-- ---- a move is sampled, or refused

pub sampled_becomes : (old new : ClientState) (m : Move) (r : Result ℕ MoveFault) → Answers old (sampled_answer old.common.config (bits_of m)) r → OnOk r (Does old (Sampled (bits_of m)) new)
    → OnErr r (new ≡ old) → Becomes old (samples old.common.config m) new
sampled_becomes old new m (Ok n) answer does same log s =
    let e : is_ok (sampled_answer old.common.config (bits_of m) log) ≡ true = ap (λ (r : Result ℕ MoveFault). is_ok r) (sym (answer log s)) in
    subst (λ (l : List ClientEvent). ClientStandsFor new l) (then_is (is_ok (sampled_answer old.common.config (bits_of m) log)) (Sampled (bits_of m) ∷ log) log e) (does log s)
sampled_becomes old new m (Err f) answer does same log s =
    let e : is_ok (sampled_answer old.common.config (bits_of m) log) ≡ false = ap (λ (r : Result ℕ MoveFault). is_ok r) (sym (answer log s)) in
    subst (λ (l : List ClientEvent). ClientStandsFor new l) (else_is (is_ok (sampled_answer old.common.config (bits_of m) log)) (Sampled (bits_of m) ∷ log) log e)
    (subst (λ (x : ClientState). ClientStandsFor x log) (sym same) s)

-- ---- a turn

module _ (p : PlayerState) (mid new : ClientState) (m : Move) (g : Lcg) (drew : (m, g) ≡ move_drawn p.moves)
    (sampled : Becomes p.end (samples p.end.common.config m) mid) (kept : Keeps p.end mid) where
  move_is : (c : Config) (log : List ClientEvent) (drawn : ℕ) → Plays p c log drawn → m ≡ move_at c.client drawn
  move_is c log drawn h = ap (λ (x : Move × Lcg). x.0) drew ∙ ap (λ (x : Lcg). (move_drawn x).0) h.moves

  moves_are : (c : Config) (log : List ClientEvent) (drawn : ℕ) → Plays p c log drawn → g ≡ chances c.client (drawn + 1)
  moves_are c log drawn h =
      ap (λ (x : Move × Lcg). x.1) drew ∙ ap (λ (x : Lcg). (move_drawn x).1) h.moves ∙ ap (chances c.client) (sym (add-one drawn))

  config_is : (c : Config) (log : List ClientEvent) (drawn : ℕ) → Plays p c log drawn → mid.common.config ≡ c
  config_is c log drawn h = kept.terms.config ∙ h.config

  turn_is : (c : Config) (log : List ClientEvent) (drawn : ℕ) → Plays p c log drawn
      → packs mid.common.config (samples p.end.common.config m log) ≡ turned_by (Some c) (move_at c.client drawn) log
  turn_is c log drawn h =
      ap (λ (x : Config). packs x (samples p.end.common.config m log)) (config_is c log drawn h)
      ∙ ap (λ (x : Config). packs c (samples x m log)) h.config
      ∙ ap (λ (y : Move). packs c (samples c y log)) (move_is c log drawn h)

  pub turn_plays : Becomes mid (packs mid.common.config) new → Keeps mid new → PlaysOn p (record { end = new; moves = g })
  turn_plays packed kept' c log drawn h = record {
    stands = subst (λ (l : List ClientEvent). ClientStandsFor new l) (turn_is c log drawn h)
        (packed (samples p.end.common.config m log) (sampled log h.stands));
    config = kept'.terms.config ∙ config_is c log drawn h;
    kinds = kept'.terms.kinds ∙ kept.terms.kinds ∙ h.kinds;
    moves = moves_are c log drawn h;
    handed = ready_of new.common.receiver mid.common.receiver kept'.ready (ready_of mid.common.receiver p.end.common.receiver kept.ready h.handed);
  }

  pub turn_sends : (d d' : Option (List Datagram)) → SendsOn mid (packs mid.common.config) d d' → SendsDatagrams p d d'
  turn_sends d d' sent c log drawn h first before adds =
      let own : Config = p.end.common.config in
      let there : behind before c log ≡ behind before mid.common.config (samples own m log) =
      ap (λ (xs : List (List ℕ)). map to_server (before ++ xs)) (sym (if_sampled c (is_ok (sampled_answer own (bits_of m) log)) (bits_of m) log))
      ∙ ap (λ (x : Config). behind before x (samples own m log)) (sym (config_is c log drawn h)) in
      let whole : behind before mid.common.config (packs mid.common.config (samples own m log)) ≡ behind before c (turned_by (Some c) (move_at c.client drawn) log) =
      ap (behind before mid.common.config) (turn_is c log drawn h)
      ∙ ap (λ (x : Config). behind before x (turned_by (Some c) (move_at c.client drawn) log)) (config_is c log drawn h) in
      subst (λ (xs : List Datagram). Adds first d' xs) whole
      (sent (samples own m log) (sampled log h.stands) first before (subst (λ (xs : List Datagram). Adds first d xs) there adds))
