-- What was done for a client is what the script asks for.
use Rattle.std.proofs.Common.{◌≡◌, ℕ, zero, suc, ◌+◌, ◌<◌, ◌≤◌, Bool, true, false, cond, List, [], ◌∷◌, ◌++◌, length, take, map, Option, Some, None, refl, sym, ap, subst, ◌∙◌, arith, ◌⊎◌, inl, inr, append-nil, append_assoc, length-append}
use Rattle.std.specs.Prelude.{slice_get}
use Rattle.std.specs.List.{AllByRecursion}
use Rattle.std.specs.Option.{option_and_then}
use Rattle.std.proofs.lemmas.Bool.{cases_lt}
use Rattle.std.proofs.lemmas.List.{take-append-le, length-map, map-append}
use Rattle.std.proofs.lemmas.List.Elements.{filter_map-append}
use Rattle.std.proofs.lemmas.List.Sums.{sum_by-append, sum_by-cons}
use Rattle.std.proofs.Math.Seq.{take-append_seam}
use Rattle.tn_types.specs.declared.moves.MoveBits.{MoveBits}
use Rattle.match_script.specs.declared.types.BodyLine.{BodyLine}
use Rattle.pair_core.specs.stream_manager.Limits.{Terms}
use Rattle.pair_core.specs.History.{PairStep, Show, Hide, Near, Post, ClientPost, Sample, Pack, ClientPack, Down, Up, Raw}
use Rattle.pair_core.specs.Answers.{accepted_in}
use Rattle.kept_pair.specs.Kept.{KeptState, newest_first, terms_in}
use Rattle.race_messages.specs.declared.message.Message.{Message}
use Rattle.race_messages.specs.declared.message.Message.TheVariants as message
use Rattle.race_messages.specs.Steps.{step_for}
use Rattle.legal_race.specs.race_history.Moves.{moves_taken}
use Rattle.legal_race.specs.race_steps.Asked.{ClientAct, IsRoom, room_found, message_step, messages_taken, objects_shown, is_pack_step, is_pack_line, packs_made, packs_asked, act_done, act_asked, acts_done, acts_asked, steps_asked, AreAsked}
use Rattle.plain_race.specs.Done.{IsOwnStep, AreRoomsIn, IsDone, IsStopped, IsEnded}

-- ---- own steps and steps of messages

own_no_messages : (steps : List PairStep) → AllByRecursion IsOwnStep steps → messages_taken steps ≡ []
own_no_messages [] own = refl
own_no_messages (Show kind block level control ∷ steps) own = absurd own.0
own_no_messages (Hide n ∷ steps) own = absurd own.0
own_no_messages (Near n level ∷ steps) own = absurd own.0
own_no_messages (Post class v ∷ steps) own = absurd own.0
own_no_messages (step ∷ steps) own = own_no_messages steps own.1

given_messages : (ms : List Message) → messages_taken (map step_for ms) ≡ map step_for ms
given_messages [] = refl
given_messages (message.Show object kind block level control ∷ ms) = ap (λ (l : List PairStep). Show kind block level control ∷ l) (given_messages ms)
given_messages (message.Hide n ∷ ms) = ap (λ (l : List PairStep). Hide n ∷ l) (given_messages ms)
given_messages (message.Near n level ∷ ms) = ap (λ (l : List PairStep). Near n level ∷ l) (given_messages ms)
given_messages (message.Post class v ∷ ms) = ap (λ (l : List PairStep). Post class v ∷ l) (given_messages ms)

given_no_acts : (ms : List Message) → acts_done (map step_for ms) ≡ []
given_no_acts [] = refl
given_no_acts (message.Show object kind block level control ∷ ms) = given_no_acts ms
given_no_acts (message.Hide n ∷ ms) = given_no_acts ms
given_no_acts (message.Near n level ∷ ms) = given_no_acts ms
given_no_acts (message.Post class v ∷ ms) = given_no_acts ms

abbrev of_pack : PairStep → ℕ
of_pack step = cond (is_pack_step step) 1 0

no_pack_for : (m : Message) → of_pack (step_for m) ≡ 0
no_pack_for (message.Show object kind block level control) = refl
no_pack_for (message.Hide n) = refl
no_pack_for (message.Near n level) = refl
no_pack_for (message.Post class v) = refl

given_no_packs : (ms : List Message) → packs_made (map step_for ms) ≡ 0
given_no_packs [] = refl
given_no_packs (m ∷ ms) =
    let e = sum_by-cons of_pack (step_for m) (map step_for ms) in
    let none = no_pack_for m in
    let rest = given_no_packs ms in
    omega (arith, e, none, rest)

no_room_for : (m : Message) → room_found (step_for m) ≡ None
no_room_for (message.Show object kind block level control) = refl
no_room_for (message.Hide n) = refl
no_room_for (message.Near n level) = refl
no_room_for (message.Post class v) = refl

-- ---- each step is one of a message, a pack or an act

abbrev parts : List PairStep → ℕ
parts steps = length (messages_taken steps) + packs_made steps + length (acts_done steps)

one_part : (step : PairStep) → length (messages_taken (step ∷ [])) + of_pack step + length (acts_done (step ∷ [])) ≡ 1
one_part (Show kind block level control) = refl
one_part (Hide n) = refl
one_part (Near n level) = refl
one_part (Post class v) = refl
one_part (ClientPost class v) = refl
one_part (Sample m) = refl
one_part (Pack drains reads) = refl
one_part ClientPack = refl
one_part (Down k) = refl
one_part (Up k room) = refl
one_part (Raw bytes room) = refl

all_parts : (steps : List PairStep) → parts steps ≡ length steps
all_parts [] = refl
all_parts (step ∷ steps) =
    let ms = ap (λ (l : List PairStep). length l) (filter_map-append message_step (step ∷ []) steps) ∙ length-append (messages_taken (step ∷ [])) (messages_taken steps) in
    let acts = ap (λ (l : List ClientAct). length l) (filter_map-append act_done (step ∷ []) steps) ∙ length-append (acts_done (step ∷ [])) (acts_done steps) in
    let packs = sum_by-cons of_pack step steps in
    let one = one_part step in
    let rest = all_parts steps in
    omega (arith, ms, acts, packs, one, rest)

-- ---- rooms

pub get_before : {X : Type 0} (xs ys : List X) (i : ℕ) → i < length xs → slice_get (xs ++ ys) i ≡ slice_get xs i
get_before [] ys i l = absurd (omega (arith, l))
get_before (x ∷ xs) ys zero l = refl
get_before (x ∷ xs) ys (suc i) l = get_before xs ys i (omega (arith, l))

pub get_last : {X : Type 0} (xs : List X) (x : X) → slice_get (xs ++ x ∷ []) (length xs) ≡ Some x
get_last [] x = refl
get_last (y ∷ xs) x = get_last xs x

get_within : {X Y : Type 0} (f : X → Option Y) (xs : List X) (i : ℕ) (y : Y) → option_and_then f (slice_get xs i) ≡ Some y → i < length xs
get_within f [] i y e = absurd (cc)
get_within f (x ∷ xs) zero y e = omega arith
get_within f (x ∷ xs) (suc i) y e = let l = get_within f xs i y e in omega (arith, l)

pub rooms_more : (t : Terms) (steps : List PairStep) (step : PairStep) → AreRoomsIn t steps
    → ((room : ℕ) → room_found step ≡ Some room → IsRoom (length (accepted_in t (newest_first steps))) room)
    → AreRoomsIn t (steps ++ step ∷ [])
rooms_more t steps step rooms here i room e = go (cases_lt i (length steps))
  where
    go : (i < length steps) ⊎ (length steps ≤ i) → IsRoom (length (accepted_in t (newest_first (take i (steps ++ step ∷ []))))) room
    go (inl l) =
        subst (λ (l : List PairStep). IsRoom (length (accepted_in t (newest_first l))) room) (sym (take-append-le i steps (step ∷ []) (omega (arith, l))))
        (rooms i room (ap (λ o. option_and_then room_found o) (sym (get_before steps (step ∷ []) i l)) ∙ e))
    go (inr m) =
        let within = get_within room_found (steps ++ step ∷ []) i room e in
        let many = length-append steps (step ∷ []) in
        let same : i ≡ length steps = omega (arith, m, within, many) in
        let found : room_found step ≡ Some room = ap (λ o. option_and_then room_found o) (sym (get_last steps step) ∙ ap (slice_get (steps ++ step ∷ [])) (sym same)) ∙ e in
        subst (λ (l : List PairStep). IsRoom (length (accepted_in t (newest_first l))) room) (sym (ap (λ k. take k (steps ++ step ∷ [])) same ∙ take-append_seam steps (step ∷ [])))
        (here room found)

rooms_given : (t : Terms) (ms : List Message) (steps : List PairStep) → AreRoomsIn t steps → AreRoomsIn t (steps ++ map step_for ms)
rooms_given t [] steps rooms = subst (AreRoomsIn t) (sym (append-nil steps)) rooms
rooms_given t (m ∷ ms) steps rooms =
    subst (AreRoomsIn t) (append_assoc steps (step_for m ∷ []) (map step_for ms))
    (rooms_given t ms (steps ++ step_for m ∷ []) (rooms_more t steps (step_for m) rooms (λ room e. absurd (let none = no_room_for m in cc (e, none)))))

-- ---- what was done

module _ (t : Terms) (c : ℕ) (lines : List BodyLine) (given : List Message) (steps : List PairStep) (objects : List ℕ) (h : IsDone t c lines given steps objects) where
  pub messages_are : messages_taken steps ≡ map step_for given
  messages_are =
      ap messages_taken h.steps_are ∙ filter_map-append message_step h.own (map step_for given)
      ∙ (λ j. own_no_messages h.own h.own_are.own j ++ given_messages given j)

  pub acts_are : acts_done steps ≡ acts_asked c lines
  acts_are =
      ap acts_done h.steps_are ∙ filter_map-append act_done h.own (map step_for given)
      ∙ ap (λ (l : List ClientAct). acts_done h.own ++ l) (given_no_acts given) ∙ append-nil (acts_done h.own) ∙ h.own_are.acts

  pub packs_are : packs_made steps ≡ packs_asked c lines
  packs_are =
      let e = ap packs_made h.steps_are ∙ sum_by-append of_pack h.own (map step_for given) in
      let none = given_no_packs given in
      let packs = h.own_are.packs in
      omega (arith, e, none, packs)

  pub rooms_are : AreRoomsIn t steps
  rooms_are = subst (AreRoomsIn t) (sym h.steps_are) (rooms_given t given h.own h.own_are.rooms)

  -- as many steps as are asked for
  pub long : length steps ≡ steps_asked c lines given
  long =
      let parts_are = all_parts steps in
      let ms = ap (λ (l : List PairStep). length l) messages_are ∙ length-map given step_for in
      let acts = ap (λ (l : List ClientAct). length l) acts_are in
      let packs = packs_are in
      omega (arith, parts_are, ms, acts, packs)

abbrev of_pack_line : ℕ → BodyLine → ℕ
of_pack_line c line = cond (is_pack_line c line) 1 0

asked_further : (c : ℕ) (lines later : List BodyLine) (given left : List Message)
    → steps_asked c (lines ++ later) (given ++ left) ≡ steps_asked c lines given + steps_asked c later left
asked_further c lines later given left =
    let ms = length-append given left in
    let packs = sum_by-append (of_pack_line c) lines later in
    let acts = ap (λ (l : List ClientAct). length l) (filter_map-append (act_asked c) lines later) ∙ length-append (acts_asked c lines) (acts_asked c later) in
    omega (arith, ms, packs, acts)

take_whole : {X : Type 0} (n : ℕ) (xs ys : List X) → n ≡ length xs → take n (xs ++ ys) ≡ xs
take_whole n xs ys e = ap (λ k. take k (xs ++ ys)) e ∙ take-append_seam xs ys

module _ (c : ℕ) (lines : List BodyLine) (given : List Message) (k : KeptState) (objects : List ℕ) (ticks : List (List (Option MoveBits))) where
  abbrev t : Terms
  t = terms_in k

  -- all that is asked for was done
  whole : IsDone t c lines given k.steps objects → moves_taken c ticks ≡ [] → AreAsked lines c k objects false given ticks
  whole h none = record {
    messages = messages_are t c lines given k.steps objects h;
    shows =
        let many = ap (λ (l : List PairStep). length l) (messages_are t c lines given k.steps objects h) ∙ length-map given step_for in
        ap objects_shown (ap (λ (l : List Message). take (length (messages_taken k.steps)) l) (sym (append-nil given)) ∙ take_whole (length (messages_taken k.steps)) given [] many)
        ∙ sym h.objects_are;
    packs = packs_are t c lines given k.steps objects h;
    acts = acts_are t c lines given k.steps objects h;
    rooms = rooms_are t c lines given k.steps objects h;
    moves = (accepted_in t (newest_first k.steps), ap (λ (l : List MoveBits). l ++ accepted_in t (newest_first k.steps)) none);
    fullness = ((λ e. absurd (cc (e))), (λ full. absurd (let many = long t c lines given k.steps objects h in let less = full.wanting in omega (arith, many, less))));
  }

  -- the first of it, and there is no room for the next
  first : IsStopped t c lines given k.steps objects → moves_taken c ticks ≡ [] → AreAsked lines c k objects true given ticks
  first h none =
      let ms = messages_are t c h.done h.taken k.steps objects h.is_done in
      let packs = packs_are t c h.done h.taken k.steps objects h.is_done in
      let acts = acts_are t c h.done h.taken k.steps objects h.is_done in
      let all_packs = sum_by-append (of_pack_line c) h.done h.later in
      record {
        messages = (map step_for h.left, ap (λ (l : List PairStep). l ++ map step_for h.left) ms ∙ sym (map-append step_for h.taken h.left) ∙ ap (map step_for) (sym h.given_are));
        shows =
            let many = ap (λ (l : List PairStep). length l) ms ∙ length-map h.taken step_for in
            ap objects_shown (ap (λ (l : List Message). take (length (messages_taken k.steps)) l) h.given_are ∙ take_whole (length (messages_taken k.steps)) h.taken h.left many)
            ∙ sym h.is_done.objects_are;
        packs = let e = ap (packs_asked c) h.lines_are in omega (arith, packs, all_packs, e);
        acts = (acts_asked c h.later, ap (λ (l : List ClientAct). l ++ acts_asked c h.later) acts ∙ sym (filter_map-append (act_asked c) h.done h.later) ∙ ap (acts_asked c) (sym h.lines_are));
        rooms = rooms_are t c h.done h.taken k.steps objects h.is_done;
        moves = (accepted_in t (newest_first k.steps), ap (λ (l : List MoveBits). l ++ accepted_in t (newest_first k.steps)) none);
        fullness = (
          (λ e. record {
            no_room = h.no_room;
            wanting =
                let many = long t c h.done h.taken k.steps objects h.is_done in
                let further = asked_further c h.done h.later h.taken h.left in
                let all : steps_asked c lines given ≡ steps_asked c (h.done ++ h.later) (h.taken ++ h.left) = λ j. steps_asked c (h.lines_are j) (h.given_are j) in
                let more = h.wanting in
                omega (arith, many, further, all, more);
          }),
          (λ full. refl),
        );
      }

  pub asked : (full : Bool) → IsEnded full t c lines given k.steps objects → moves_taken c ticks ≡ [] → AreAsked lines c k objects full given ticks
  asked true h none = first h none
  asked false h none = whole h none
