-- What the calls do, one after another.
use Rattle.std.proofs.Common.{◌≡◌, ℕ, zero, suc, ◌+◌, ◌<◌, ◌≤◌, List, [], ◌∷◌, ◌++◌, length, take, drop, map, replicate, get_or, Option, Some, Result, Ok, Err, refl, sym, ap, subst, ◌∙◌, arith, append-nil, append_assoc, add-one, ◌⊎◌, inl, inr, length-append}
use Rattle.std.specs.Prelude.{ℤ, All, IfOk, slice_get}
use Rattle.std.specs.List.{AllByRecursion}
use Rattle.std.proofs.lemmas.List.{take_more, map-append}
use Rattle.std.proofs.lemmas.List.Elements.{recursion_from_All}
use Rattle.tn_types.specs.declared.choices.Read.{Read}
use Rattle.tn_types.specs.declared.moves.MoveBits.{MoveBits}
use Rattle.match_script.specs.declared.types.BodyLine.{BodyLine}
use Rattle.match_script.specs.declared.types.Script.{Script}
use Rattle.legal_race.specs.race_history.declared.race.RaceClient.{RaceClient}
use Rattle.std.proofs.lemmas.Bool.{cases_lt}
use Rattle.std.proofs.lemmas.Option.{slice_get_within}
use Rattle.pair_core.specs.stream_manager.Limits.{Terms}
use Rattle.pair_core.specs.stream_manager.Server.{ServerEvent, server_state}
use Rattle.pair_core.specs.History.{PairStep, history}
use Rattle.conn_packing.specs.Reads.{MayDrain}
use Rattle.conn_packing.proofs.Lists.{all-reverse}
use Rattle.notify_window.specs.declared.SendState.{SendState}
use Rattle.notify_window.specs.declared.SendState.TheVariants.{Held, Worn, Room}
use Rattle.dirty_lanes.specs.declared.view.PackView.{PackView}
use Rattle.dirty_lanes.specs.Named.{IsNumbered}
use Rattle.pair_steps.specs.Steps.{shows_in}
use Rattle.pair_steps.proofs.Journals.{IsQuiet, up_from}
use Rattle.kept_pair.specs.Kept.{KeptState, newest_first, terms_in, MayStep, MayPack}
use Rattle.race_messages.specs.declared.message.Message.{Message}
use Rattle.race_messages.specs.Steps.{step_for, objects_with}
use Rattle.pair_core.specs.Conditions.{IsMet, AreMet}
use Rattle.legal_race.specs.race_steps.Asked.{objects_shown}
use Rattle.plain_race.specs.Done.{IsOwnStep, AreStepsOf, IsDone, IsStopped, IsRefused, DoesLine, StopsAtLine, Takes, StopsAtMessage, MayTakeAll, IsPlain}
use Rattle.plain_race.proofs.Still.{steps_of_messages}
use Rattle.plain_race.proofs.Quiet.{none_shown}
use Rattle.plain_race.proofs.Reading.{own_quiet}
use Rattle.plain_race.proofs.Asking.{get_before, get_last}
use Rattle.plain_race.proofs.Doing.{next_met, objects_more, split_at}

pub if_ok : {T E : Type 0} (P Q : T → Type 0) (r : Result T E) → ((x : T) → P x → Q x) → IfOk r P → IfOk r Q
if_ok P Q (Ok x) f p = f x p
if_ok P Q (Err e) f p = tt

pub replicate_more : {X : Type 0} (n : ℕ) (x : X) → replicate n x ++ x ∷ [] ≡ replicate (n + 1) x
replicate_more {X} n x = rw add-one (go n)
  where
    go : (k : ℕ) → replicate k x ++ x ∷ [] ≡ replicate (suc k) x
    go zero = refl
    go (suc k) = ap (λ (l : List X). x ∷ l) (go k)

pub numbered_more : (k : ℕ) (ps : List PackView) (p : PackView) → IsNumbered k ps → p.client ≡ k + length ps → IsNumbered k (ps ++ p ∷ [])
numbered_more k [] p h e = (omega (arith, e), tt)
numbered_more k (q ∷ ps) p h e = (h.0, numbered_more (k + 1) ps p h.1 (omega (arith, e)))

-- ---- a pack that finds nothing shown

nothing_drained : (t : Terms) (log : List ServerEvent) (state : SendState) → MayDrain t log state []
nothing_drained t log Room = tt
nothing_drained t log Held = refl
nothing_drained t log Worn = refl

pub may_pack : (k : KeptState) (ranges : ℕ → ℕ → Option (ℤ × ℤ)) → AllByRecursion IsOwnStep k.steps → MayPack k [] ranges
may_pack k ranges own =
    let t = terms_in k in
    let past = newest_first k.steps in
    let none : shows_in past ≡ 0 = none_shown past (all-reverse IsQuiet k.steps (own_quiet k.steps own)) in
    record {
      drained = nothing_drained t (history t past).server (server_state t.config (history t past).server);
      ranged = λ n f spec up at. absurd (let less = (up_from t past n up).0 in omega (arith, less, none));
    }

pub no_reads : (P : Read → Type 0) (reads : List Read) → ((r : Read) → P r → ⊥) → All P reads → reads ≡ []
no_reads P [] none all = refl
no_reads P (r ∷ reads) none all = absurd (none r (recursion_from_All P (r ∷ reads) all).0)

-- ---- lines

pub begins : (t : Terms) (c : ℕ) (steps : List PairStep) → steps ≡ [] → AreStepsOf t c [] steps
begins t c steps none = subst (AreStepsOf t c []) (sym none) (record { own = tt; packs = refl; acts = refl; rooms = λ i room e. absurd (cc (e)) })

pub line_next : (start old new : KeptState) (c : ℕ) (lines : List BodyLine) (i : ℕ) (line : BodyLine) → i < length lines → line ≡ get_or lines i line
    → terms_in old ≡ terms_in start → AreStepsOf (terms_in start) c (take i lines) old.steps → DoesLine c line old new → AreStepsOf (terms_in start) c (take (i + 1) lines) new.steps
line_next start old new c lines i line less is same h does =
    let longer : take (i + 1) lines ≡ take i lines ++ line ∷ [] = take_more lines i line less ∙ ap (λ (x : BodyLine). take i lines ++ x ∷ []) (sym is) in
    subst (λ (l : List BodyLine). AreStepsOf (terms_in start) c l new.steps) (sym longer)
    (subst (λ (t : Terms). AreStepsOf t c (take i lines ++ line ∷ []) new.steps) same (does (take i lines) (subst (λ (t : Terms). AreStepsOf t c (take i lines) old.steps) (sym same) h)))

pub line_stops : (t : Terms) (old new : KeptState) (c : ℕ) (lines : List BodyLine) (i : ℕ) (line : BodyLine) → i < length lines → line ≡ get_or lines i line
    → AreStepsOf t c (take i lines) old.steps → StopsAtLine c line old new → (given : List Message) → IsStopped t c lines given new.steps []
line_stops t old new c lines i line less is h stops given = record {
  done = take i lines;
  later = line ∷ drop (i + 1) lines;
  taken = [];
  left = given;
  is_done = record { own = old.steps; own_are = h; steps_are = stops.refused.steps ∙ sym (append-nil old.steps); objects_are = refl };
  lines_are = split_at lines i line less is;
  given_are = refl;
  no_room = ap (λ (l : List PairStep). length l) stops.refused.steps ∙ stops.refused.no_room;
  wanting = stops.asks (drop (i + 1) lines) given;
}

-- ---- messages

pub may_next : (start k : KeptState) (objects : List ℕ) (given : List Message) (i : ℕ) (m : Message) → MayTakeAll start given → Takes (take i given) start k objects
    → terms_in k ≡ terms_in start → i < length given → m ≡ get_or given i m → MayStep k (step_for m)
may_next start k objects given i m may takes same less is =
    let t = terms_in start in
    let met = subst (λ (l : List Message). AreMet t (steps_of_messages l)) (split_at given i m less is) may.met in
    let next = next_met t start.steps (take i given) m (drop (i + 1) given) may.own met in
    subst (λ (u : Terms). IsMet u (newest_first k.steps) (step_for m)) (sym same)
    (subst (λ (l : List PairStep). IsMet t (newest_first l) (step_for m)) (sym takes.steps) next)

pub takes_more : (start old new : KeptState) (objects objects_new : List ℕ) (given : List Message) (i : ℕ) (m : Message) → Takes (take i given) start old objects
    → i < length given → m ≡ get_or given i m → new.steps ≡ old.steps ++ step_for m ∷ [] → objects_new ≡ objects_with m objects → Takes (take (i + 1) given) start new objects_new
takes_more start old new objects objects_new given i m h less is made noted =
    let longer : take (i + 1) given ≡ take i given ++ m ∷ [] = take_more given i m less ∙ ap (λ (x : Message). take i given ++ x ∷ []) (sym is) in
    record {
      steps =
          made ∙ ap (λ (l : List PairStep). l ++ step_for m ∷ []) h.steps
          ∙ append_assoc start.steps (map step_for (take i given)) (step_for m ∷ [])
          ∙ ap (λ (l : List PairStep). start.steps ++ l) (sym (map-append step_for (take i given) (m ∷ [])) ∙ ap (map step_for) (sym longer));
      objects_are = noted ∙ ap (objects_with m) h.objects_are ∙ objects_more (take i given) m ∙ ap objects_shown (sym longer);
    }

pub message_stops : (start old new : KeptState) (objects objects_new : List ℕ) (given : List Message) (i : ℕ) (m : Message) → Takes (take i given) start old objects
    → i < length given → m ≡ get_or given i m → IsRefused old new → objects_new ≡ objects → StopsAtMessage given start new objects_new
message_stops start old new objects objects_new given i m h less is refused same = record {
  taken = take i given;
  next = m;
  left = drop (i + 1) given;
  given_are = split_at given i m less is;
  takes = record { steps = refused.steps ∙ h.steps; objects_are = same ∙ h.objects_are };
  no_room = ap (λ (l : List PairStep). length l) refused.steps ∙ refused.no_room;
}

-- ---- a client

pub all_done : (t : Terms) (c : ℕ) (lines : List BodyLine) (given : List Message) (old new : KeptState) (objects : List ℕ) → AreStepsOf t c lines old.steps → Takes given old new objects
    → IsDone t c lines given new.steps objects
all_done t c lines given old new objects h takes = record { own = old.steps; own_are = h; steps_are = takes.steps; objects_are = takes.objects_are }

pub stopped_at : (t : Terms) (c : ℕ) (lines : List BodyLine) (given : List Message) (old new : KeptState) (objects : List ℕ) → AreStepsOf t c lines old.steps → StopsAtMessage given old new objects
    → IsStopped t c lines given new.steps objects
stopped_at t c lines given old new objects h stops = record {
  done = lines;
  later = [];
  taken = stops.taken;
  left = stops.next ∷ stops.left;
  is_done = record { own = old.steps; own_are = h; steps_are = stops.takes.steps; objects_are = stops.takes.objects_are };
  lines_are = sym (append-nil lines);
  given_are = stops.given_are;
  no_room = stops.no_room;
  wanting = omega arith;
}

-- ---- clients and ticks

pub plain_more : (script : Script) (clients new : List RaceClient) (n : ℕ) (client : RaceClient) → length clients ≡ n → new ≡ clients ++ client ∷ []
    → ((c : ℕ) (k : RaceClient) → slice_get clients c ≡ Some k → IsPlain script c k) → IsPlain script n client
    → (c : ℕ) (k : RaceClient) → slice_get new c ≡ Some k → IsPlain script c k
plain_more script clients new n client many more each plain c k at = go (cases_lt c (length clients))
  where
    here : slice_get (clients ++ client ∷ []) c ≡ Some k
    here = ap (λ (l : List RaceClient). slice_get l c) (sym more) ∙ at

    go : (c < length clients) ⊎ (length clients ≤ c) → IsPlain script c k
    go (inl less) = each c k (sym (get_before clients (client ∷ []) c less) ∙ here)
    go (inr most) =
        let within = slice_get_within (clients ++ client ∷ []) c k here in
        let long = length-append clients (client ∷ []) in
        let same : c ≡ n = omega (arith, most, within, long, many) in
        let last : slice_get (clients ++ client ∷ []) c ≡ Some client = ap (slice_get (clients ++ client ∷ [])) (same ∙ sym many) ∙ get_last clients client in
        let one : Some k ≡ Some client = sym here ∙ last in
        let it : k ≡ client = cc (one) in
        subst (λ (x : ℕ). IsPlain script x k) (sym same) (subst (IsPlain script n) (sym it) plain)

pub row_more : (ticks : List (List (Option MoveBits))) (n : ℕ) (row : List (Option MoveBits)) → slice_get ticks n ≡ Some row → take (n + 1) ticks ≡ take n ticks ++ row ∷ []
row_more ticks n row e = rw add-one (go ticks n e)
  where
    go : (ts : List (List (Option MoveBits))) (k : ℕ) → slice_get ts k ≡ Some row → take (suc k) ts ≡ take k ts ++ row ∷ []
    go [] k e = absurd (cc (e))
    go (t ∷ ts) zero e = let same : t ≡ row = cc (e) in ap (λ (r : List (Option MoveBits)). r ∷ []) same
    go (t ∷ ts) (suc k) e = ap (λ (rs : List (List (Option MoveBits))). t ∷ rs) (go ts k e)
