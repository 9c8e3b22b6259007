-- What was made is a legal race.
use Rattle.std.proofs.Common.{◌≡◌, ℕ, zero, suc, ◌<◌, ◌≤◌, Bool, true, false, List, [], length, take, reverse, Some, None, refl, sym, ap, subst, ◌∙◌, arith}
use Rattle.std.specs.Prelude.{slice_get}
use Rattle.std.specs.List.{AllByRecursion, cons_option}
use Rattle.std.specs.Option.{unwrap_or}
use Rattle.std.proofs.lemmas.List.{length-replicate, length-reverse, take_all}
use Rattle.std.proofs.lemmas.List.Elements.{recursion_from_All}
use Rattle.tn_types.specs.declared.limits.TheConstants.{MAX_OBJECTS}
use Rattle.match_script.specs.declared.types.BodyLine.{BodyLine}
use Rattle.match_script.specs.declared.types.Script.{Script}
use Rattle.match_script.specs.Ranges.{HasRanges, LineFits}
use Rattle.world_sim.specs.Worlds.{Worlds, IsWorld}
use Rattle.conn_packing.proofs.Lists.{all-reverse}
use Rattle.pair_core.specs.stream_manager.Limits.{Terms}
use Rattle.pair_core.specs.History.{PairStep}
use Rattle.pair_core.specs.Conditions.{AreMet}
use Rattle.kept_pair.specs.Kept.{KeptState, terms_in}
use Rattle.race_messages.specs.declared.message.Message.{Message}
use Rattle.own_lists.specs.Past.{client_terms}
use Rattle.legal_race.specs.race_history.History.{IsHistoryOf, world_after}
use Rattle.legal_race.specs.race_history.Moves.{HasClients, MovesFit, moves_taken}
use Rattle.legal_race.specs.race_history.declared.race.Race.{Race}
use Rattle.legal_race.specs.race_history.declared.race.RaceClient.{RaceClient}
use Rattle.legal_race.specs.race_course.Messages.{Ticks, ticks_in}
use Rattle.legal_race.specs.race_course.Course.{world_of, all_messages}
use Rattle.legal_race.proofs.Below.race_course.Following.{ticks_reversed}
use Rattle.legal_race.specs.race_reads.Legal.{AreLegalReads}
use Rattle.legal_race.proofs.Below.race_reads.Deciding.{all_append}
use Rattle.legal_race.specs.Legal.{IsClientLegal, IsLegal}
use Rattle.plain_race.specs.Idle.{idle_row, idle, idle_in}
use Rattle.plain_race.specs.Done.{IsDone, IsEnded, AreStepsOf, MayTakeAll, IsPlain}
use Rattle.plain_race.proofs.Still.{steps_of_messages, all_met}
use Rattle.plain_race.proofs.Asking.{asked}
use Rattle.plain_race.proofs.Reading.{ShowsThere, is_world, all_shown_there, legal_reads}

-- ---- no tick takes a move

row_takes_none : (k c : ℕ) → unwrap_or (slice_get (idle_row k) c) None ≡ None
row_takes_none zero c = refl
row_takes_none (suc k) zero = refl
row_takes_none (suc k) (suc c) = row_takes_none k c

nothing_taken : (c n clients : ℕ) → moves_taken c (idle n clients) ≡ []
nothing_taken c zero clients = refl
nothing_taken c (suc n) clients = λ j. cons_option (row_takes_none clients c j) (nothing_taken c n clients j)

rows_fit : (n clients : ℕ) → AllByRecursion (HasClients clients) (idle n clients)
rows_fit zero clients = tt
rows_fit (suc n) clients = (length-replicate clients None, rows_fit n clients)

pub moves_fit : (script : Script) → MovesFit (ticks_in script.body) script.head.clients (idle_in script)
moves_fit script = record {
  each_tick = length-replicate (ticks_in script.body) (idle_row script.head.clients);
  each_client = rows_fit (ticks_in script.body) script.head.clients;
}

module _ (script : Script) (ranges : HasRanges script) where
  abbrev n : ℕ
  n = ticks_in script.body

  abbrev past : List BodyLine
  past = reverse script.body

  few_ticks : ticks_in past ≤ n
  few_ticks = let e = ticks_reversed script.body in omega (arith, e)

  -- the world behind all lines
  abbrev end : Worlds
  end = world_after (world_of script) (idle_in script)

  end_is : world_after (world_of script) (take (ticks_in past) (idle_in script)) ≡ end
  end_is =
      let many = length-replicate n (idle_row script.head.clients) in
      let same = ticks_reversed script.body in
      ap (world_after (world_of script)) (take_all (ticks_in past) (idle_in script) (omega (arith, many, same)))

  pub end_is_world : IsWorld end
  end_is_world = subst IsWorld end_is (is_world script.head ranges.head n 0 past few_ticks)

  there : (c : ℕ) → AllByRecursion (ShowsThere end) (all_messages script (idle_in script) c)
  there c = subst (λ (w : Worlds). AllByRecursion (ShowsThere w) (all_messages script (idle_in script) c)) end_is (all_shown_there script.head ranges.head n c past few_ticks)

  -- all messages may be taken
  pub may_take : (c : ℕ) (k : KeptState) (given : List Message) → c < script.head.clients → terms_in k ≡ client_terms script.head c
      → given ≡ all_messages script (idle_in script) c → AreStepsOf (terms_in k) c script.body k.steps → MayTakeAll k given
  may_take c k given below terms given_is h =
      let lines = all-reverse (LineFits script.head.clients) script.body (recursion_from_All (LineFits script.head.clients) script.body ranges.lines) in
      let many = ranges.few in
      let long = length-reverse script.body in
      let met = all_met script.head n past ranges.head lines (omega (arith, many, long)) few_ticks c below in
      record {
        met = subst (λ (t : Terms). AreMet t (steps_of_messages given)) (sym terms)
            (subst (λ (ms : List Message). AreMet (client_terms script.head c) (steps_of_messages ms)) (sym given_is) met);
        own = h.own;
      }

  module _ (race : Race) (moves : race.moves ≡ idle_in script) (history : IsHistoryOf (world_of script) race.moves race.values) where
    idle_history : IsHistoryOf (world_of script) (idle_in script) race.values
    idle_history = subst (λ (ticks : Ticks). IsHistoryOf (world_of script) ticks race.values) moves history

    reads_of_done : (c : ℕ) (lines : List BodyLine) (ms : List Message) (steps : List PairStep) (objects : List ℕ) → AllByRecursion (ShowsThere end) ms
        → IsDone (client_terms script.head c) c lines ms steps objects → AreLegalReads race.values race.words c (client_terms script.head c) steps objects
    reads_of_done c lines ms steps objects shown done =
        legal_reads (client_terms script.head c) c end (world_of script) (idle_in script) race.values race.words lines ms steps objects refl end_is_world idle_history shown done

    reads : (c : ℕ) (full : Bool) (steps : List PairStep) (objects : List ℕ)
        → IsEnded full (client_terms script.head c) c script.body (all_messages script (idle_in script) c) steps objects
        → AreLegalReads race.values race.words c (client_terms script.head c) steps objects
    reads c true steps objects h =
        let all = subst (AllByRecursion (ShowsThere end)) h.given_are (there c) in
        reads_of_done c h.done h.taken steps objects ((all_append (ShowsThere end) h.taken h.left).0 all).0 h.is_done
    reads c false steps objects h = reads_of_done c script.body (all_messages script (idle_in script) c) steps objects (there c) h

    client_legal : (c : ℕ) (client : RaceClient) → IsPlain script c client → IsClientLegal script race c client
    client_legal c client h = record {
      terms = h.terms;
      replays = h.replays;
      reads = subst (λ (t : Terms). AreLegalReads race.values race.words c t client.pair.steps client.objects) (sym h.terms)
          (reads c client.full client.pair.steps client.objects h.ended);
      asked = asked c script.body (all_messages script race.moves c) client.pair client.objects race.moves client.full
          (subst (λ (ticks : Ticks). IsEnded client.full (terms_in client.pair) c script.body (all_messages script ticks c) client.pair.steps client.objects) (sym moves)
          (subst (λ (t : Terms). IsEnded client.full t c script.body (all_messages script (idle_in script) c) client.pair.steps client.objects) (sym h.terms) h.ended))
          (ap (moves_taken c) moves ∙ nothing_taken c n script.head.clients);
    }

    pub legal : race.words.objects ≡ MAX_OBJECTS → race.words.clients ≡ script.head.clients → length race.clients ≡ script.head.clients
        → ((c : ℕ) (client : RaceClient) → slice_get race.clients c ≡ Some client → IsPlain script c client) → IsLegal script race
    legal objects clients many each = record {
      moves = subst (MovesFit (ticks_in script.body) script.head.clients) (sym moves) (moves_fit script);
      values = history;
      word_clients = omega (arith, clients);
      word_objects = let long = idle_history.objects in let few = end_is_world.few in omega (arith, long, few, objects);
      clients = many;
      each = λ c client at. client_legal c client (each c client at);
    }
