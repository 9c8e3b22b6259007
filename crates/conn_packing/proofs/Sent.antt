-- What a server's end stands for after a pack, by what it made.
use Rattle.std.proofs.Common.{◌≡◌, ℕ, ℤ, List, [], ◌∷◌, length, refl, sym, ap, subst, ◌∙◌}
use Rattle.tn_types.specs.declared.choices.Drain.{Drain}
use Rattle.tn_types.specs.declared.choices.Read.{Read}
use Rattle.notify_window.specs.declared.SendState.{SendState}
use Rattle.notify_window.specs.declared.SendState.TheVariants.{Held, Worn, Room}
use Rattle.stream_manager.specs.Limits.{Terms}
use Rattle.stream_manager.specs.ConnCalls.{Answers, Sealed, Pinging, Keeps}
use Rattle.stream_manager.specs.Stands.{ConnState, ConnStandsFor, terms_of}
use Rattle.stream_manager.specs.Server as server
use Rattle.stream_manager.specs.Server.{ServerEvent, server_state, server_bytes, server_ping_bytes, with_plan}
use Rattle.conn_packing.specs.declared.made.Made.TheVariants as made
use Rattle.conn_packing.specs.Packs.{absorbing, values_of, server_packs, sends_onto, made_of}
use Rattle.conn_packing.specs.Reads.{IsReadFor}
use Rattle.conn_packing.specs.Calls.{PacksEnd, Begins}
use Rattle.conn_packing.proofs.Absorbed.{absorbed-state}

pub keeps-both : (a b c : ConnState) → Keeps a b → Keeps b c → Keeps a c
keeps-both a b c k l = record { terms = l.terms ∙ k.terms; ready = l.ready ∙ k.ready; taken = l.taken ∙ k.taken }

module _ (old : ConnState) (drains : List Drain) (reads : List Read) (conn1 : ConnState) where
  -- the state behind what is absorbed
  state-is : (state : SendState) (log : List ServerEvent) → ConnStandsFor old log → Begins old drains reads state conn1
      → server_state old.common.config (absorbing drains log) ≡ state
  state-is state log s b = absorbed-state old.common.config drains log ∙ sym (b.told log s)

  read-for : (state : SendState) → Begins old drains reads state conn1 → (log : List ServerEvent) → ConnStandsFor old log
      → IsReadFor (terms_of old) (absorbing drains log) (server_state old.common.config log) reads
  read-for state b log s = subst (λ st. IsReadFor (terms_of old) (absorbing drains log) st reads) (b.told log s) (b.read log s)

  made-so : (state : SendState) (bytes : List ℕ) → Begins old drains reads state conn1 → (log : List ServerEvent) → ConnStandsFor old log
      → made_of state old.common.config.life bytes ≡ made_of (server_state old.common.config log) old.common.config.life bytes
  made-so state bytes b log s = ap (λ st. made_of st old.common.config.life bytes) (b.told log s)

  packed-onto : (state : SendState) (conn2 : ConnState) (log : List ServerEvent) → ConnStandsFor old log → Begins old drains reads state conn1
      → ConnStandsFor conn2 (server.packed_onto (terms_of old) (absorbing drains log) (values_of reads) state)
      → ConnStandsFor conn2 (server_packs (terms_of old) drains reads log)
  packed-onto state conn2 log s b =
      subst (λ st. ConnStandsFor conn2 (server.packed_onto (terms_of old) (absorbing drains log) (values_of reads) st)) (sym (state-is state log s b))

  pub worn-packs : Begins old drains reads Worn conn1 → PacksEnd old drains reads (made.Worn old.common.config.life) [] conn1
  worn-packs b = record {
    stands = λ log s. packed-onto Worn conn1 log s b (b.stands log s);
    read = read-for Worn b;
    sent = λ log s. ap (sends_onto (terms_of old) (absorbing drains log) (values_of reads)) (b.told log s);
    made = made-so Worn [] b;
    keeps = b.keeps;
  }

  pub held-packs : (conn2 : ConnState) (bytes : List ℕ) → Begins old drains reads Held conn1 → Pinging conn1 conn2
      → Answers conn1 (server_ping_bytes (terms_of conn1)) bytes → PacksEnd old drains reads (made.Ping (length bytes)) bytes conn2
  held-packs conn2 bytes b pings spelled = record {
    stands = λ log s.
        packed-onto Held conn2 log s b
        (subst (λ (t : Terms). ConnStandsFor conn2 (server.Pinged (server.server_ping t.config (absorbing drains log)) ∷ absorbing drains log)) b.keeps.terms (pings.stands (absorbing drains log) (b.stands log s)));
    read = read-for Held b;
    sent = λ log s.
        spelled (absorbing drains log) (b.stands log s) ∙ ap (λ (t : Terms). server_ping_bytes t (absorbing drains log)) b.keeps.terms
        ∙ ap (sends_onto (terms_of old) (absorbing drains log) (values_of reads)) (b.told log s);
    made = made-so Held bytes b;
    keeps = keeps-both old conn1 conn2 b.keeps pings.keeps;
  }

  pub room-packs : (conn2 : ConnState) (values : List ℤ) (bytes : List ℕ) → Begins old drains reads Room conn1 → Sealed conn1 values conn2 → values ≡ values_of reads
      → Answers conn1 (server_bytes (terms_of conn1) values) bytes → PacksEnd old drains reads (made.Body (length bytes)) bytes conn2
  room-packs conn2 values bytes b seals are spelled = record {
    stands = λ log s.
        packed-onto Room conn2 log s b
        (subst (λ (x : Terms × List ℤ). ConnStandsFor conn2 (server.Packed (server.data_body x.0 (with_plan (terms_of old) (absorbing drains log)) x.1) ∷ with_plan (terms_of old) (absorbing drains log)))
        (λ j. (b.keeps.terms j, are j)) (seals.stands (with_plan (terms_of old) (absorbing drains log)) (b.stands log s)));
    read = read-for Room b;
    sent = λ log s.
        spelled (with_plan (terms_of old) (absorbing drains log)) (b.stands log s) ∙ (λ j. server_bytes (b.keeps.terms j) (are j) (with_plan (terms_of old) (absorbing drains log)))
        ∙ ap (sends_onto (terms_of old) (absorbing drains log) (values_of reads)) (b.told log s);
    made = made-so Room bytes b;
    keeps = keeps-both old conn1 conn2 b.keeps seals.keeps;
  }

-- where nothing is made there are no bytes
none-made : (state : SendState) (life l : ℕ) (bytes : List ℕ) (t : Terms) (log : List ServerEvent) (values : List ℤ)
    → made_of state life bytes ≡ made.Worn l → sends_onto t log values state ≡ []
none-made Held life l bytes t log values e = absurd (cc)
none-made Worn life l bytes t log values e = refl
none-made Room life l bytes t log values e = absurd (cc)

pub worn-sends : (old : ConnState) (drains : List Drain) (reads : List Read) (l : ℕ) (bytes : List ℕ) (new : ConnState)
    → PacksEnd old drains reads (made.Worn l) bytes new → (log : List ServerEvent) → ConnStandsFor old log → bytes ≡ []
worn-sends old drains reads l bytes new p log s =
    p.sent log s ∙ none-made (server_state old.common.config log) old.common.config.life l bytes (terms_of old) (absorbing drains log) (values_of reads) (sym (p.made log s))
