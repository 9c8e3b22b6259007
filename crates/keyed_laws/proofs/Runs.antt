-- Each arrival under a key is one of an honest network, or none.
use Rattle.std.proofs.Common.{◌≡◌, ◌∙◌, ℕ, List, [], ◌∷◌, take, Option, Some, Result, Ok, Err, sym, ap, subst, refl}
use Rattle.std.specs.Prelude.{slice_get}
use Rattle.datagram_tags.specs.declared.sides.Side.{Side}
use Rattle.datagram_tags.specs.declared.sides.Side.TheVariants.{Client, Server}
use Rattle.datagram_tags.specs.declared.keyed_end.TagFault.{TagFault}
use Rattle.datagram_tags.specs.Tagging.{KeyedState, other, Verifies}
use Rattle.datagram_tags.specs.Laws.{AreEnds}
use Rattle.datagram_tags.proofs.Tags.{same_tagged}
use Rattle.pair_core.specs.stream_manager.Limits.{Terms}
use Rattle.pair_core.specs.stream_manager.Server.{server_datagrams}
use Rattle.pair_core.specs.stream_manager.Client.{client_datagrams}
use Rattle.pair_core.specs.History.{PairStep, History, Up, Down, happens, at_server, at_client, server_gets, client_gets}
use Rattle.pair_core.specs.Conditions.{StepFits, IsMetAt, IsHonestStep}
use Rattle.keyed_laws.specs.Keyed.{KeyedStep, Does, ToServer, ToClient, handed, IsMadeBy, HasHappened, IsAsHonest}

-- one honest step more
with_step : (t : Terms) (step : PairStep) (before h : History) → IsHonestStep step → StepFits step → IsMetAt t before.server step
    → h ≡ happens t step before → IsAsHonest t before → IsAsHonest t h
with_step t step before h honest fits met is so = (
  step ∷ so.0,
  (honest, so.1),
  (fits, so.2),
  (subst (λ (x : History). IsMetAt t x.server step) so.4 met, so.3),
  is ∙ ap (λ (x : History). happens t step x) so.4,
)

-- nothing happened
same_history : (t : Terms) (before h : History) → h ≡ before → IsAsHonest t before → IsAsHonest t h
same_history t before h is so = subst (λ (x : History). IsAsHonest t x) (sym is) so

twice : (side : Side) → other (other side) ≡ side
twice Client = refl
twice Server = refl

turned_round : (a b : KeyedState) → AreEnds a b → AreEnds b a
turned_round a b ends = record {
  key = sym ends.key;
  tag = sym ends.tag;
  side = sym (twice a.side) ∙ ap (λ (s : Side). other s) (sym ends.side);
}

-- what an end takes, the other one made
taken : (a b : KeyedState) (number count : ℕ) (d : List ℕ) (made : List (List ℕ)) → AreEnds a b → Verifies b number d (Ok count)
    → IsMadeBy a number d made → (k : ℕ) × (slice_get made k ≡ Some (take count d))
taken a b number count d made ends verified own = own (take count d) (verified.1 ∙ same_tagged a b number (take count d) ends)

to_server : (t : Terms) (client server : KeyedState) (number : ℕ) (d : List ℕ) (room : ℕ) (answer : Result ℕ TagFault) (before h : History)
    → AreEnds client server → Verifies server number d answer → IsMadeBy client number d (client_datagrams t.config before.client)
    → h ≡ at_server before (server_gets t.config room (handed answer d) before.server) → IsAsHonest t before → IsAsHonest t h
to_server t client server number d room (Ok count) before h ends verified own is so =
    let at = taken client server number count d (client_datagrams t.config before.client) ends verified own in
    with_step t (Up at.0 room) before h tt tt tt
    (is ∙ ap (λ (o : Option (List ℕ)). at_server before (server_gets t.config room o before.server)) (sym at.1)) so
to_server t client server number d room (Err fault) before h ends verified own is so = same_history t before h is so

to_client : (t : Terms) (client server : KeyedState) (number : ℕ) (d : List ℕ) (answer : Result ℕ TagFault) (before h : History)
    → AreEnds client server → Verifies client number d answer → IsMadeBy server number d (server_datagrams t before.server)
    → h ≡ at_client before (client_gets t (handed answer d) before.client) → IsAsHonest t before → IsAsHonest t h
to_client t client server number d (Ok count) before h ends verified own is so =
    let at = taken server client number count d (server_datagrams t before.server) (turned_round client server ends) verified own in
    with_step t (Down at.0) before h tt tt tt
    (is ∙ ap (λ (o : Option (List ℕ)). at_client before (client_gets t o before.client)) (sym at.1)) so
to_client t client server number d (Err fault) before h ends verified own is so = same_history t before h is so

pub runs : (t : Terms) (client server : KeyedState) (number : ℕ) (run : List KeyedStep) (h : History) → AreEnds client server
    → HasHappened t client server number run h → IsAsHonest t h
runs t client server number [] h ends is = ([], tt, tt, tt, is)
runs t client server number (Does step ∷ run) h ends all =
    with_step t step all.0 h all.2 all.3 all.4 all.5 (runs t client server number run all.0 ends all.1)
runs t client server number (ToServer d room ∷ run) h ends all =
    to_server t client server number d room all.1 all.0 h ends all.3 all.4 all.5 (runs t client server number run all.0 ends all.2)
runs t client server number (ToClient d ∷ run) h ends all =
    to_client t client server number d all.1 all.0 h ends all.3 all.4 all.5 (runs t client server number run all.0 ends all.2)
