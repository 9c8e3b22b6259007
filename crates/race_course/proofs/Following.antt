-- How what is made of lines goes on with one more line.
use Rattle.std.proofs.Common.{◌≡◌, ℕ, zero, suc, ◌<◌, ◌≤◌, ◌+◌, Bool, false, cond, List, [], ◌∷◌, ◌++◌, length, take, drop, reverse, get_or, refl, ap, sym, subst, ◌∙◌, arith, add-one, Option, Some}
use Rattle.std.specs.Prelude.{slice_get, if◌then◌else◌}
use Rattle.std.proofs.lemmas.List.{append-nil, length-map, reverse-append, take_more, take_all, take-append-drop, length-reverse, length-take-le}
use Rattle.std.proofs.lemmas.List.Sums.{sum_by-append, sum_by-cons}
use Rattle.tn_types.specs.declared.moves.MoveBits.{MoveBits}
use Rattle.match_script.specs.declared.types.BodyLine.{BodyLine}
use Rattle.match_script.specs.declared.types.BodyLine.TheVariants as script
use Rattle.match_script.specs.declared.types.Script.{Script}
use Rattle.world_rules.specs.declared.setup.Setup.{Setup}
use Rattle.world_sim.specs.Worlds.{Worlds, next, first_world}
use Rattle.client_scope.specs.StandsFor.{StandsFor}
use Rattle.race_messages.specs.declared.message.Message.{Message}
use Rattle.race_history.specs.History.{Values, world_after, IsHistoryOf}
use Rattle.race_history.specs.Moves.{MovesFit}
use Rattle.race_history.proofs.Histories.{after_more}
use Rattle.race_course.specs.Messages.{Ticks, is_tick, ticks_in, is_scan_of, seen_at, scans_of, line_gives, messages}
use Rattle.race_course.specs.Course.{ClientState, IsClientAt, AreNew, MakingState, IsMadeOf, IsCourseOf, Follows, world_of, all_messages, messages_of}

-- ---- the clients

pub new_more : (clients : List ClientState) (k : ClientState) → AreNew clients → ((first : Worlds) (ticks : Ticks) (client : ℕ) → IsClientAt k first ticks client []) → AreNew (clients ++ k ∷ [])
new_more [] k h new zero d l first ticks client = new first ticks client
new_more [] k h new (suc c) d l first ticks client = absurd (omega (arith, l))
new_more (x ∷ clients) k h new zero d l first ticks client = h zero d (omega arith) first ticks client
new_more (x ∷ clients) k h new (suc c) d l first ticks client = new_more clients k (λ n e m. h (suc n) e (omega (arith, m))) new c d (omega (arith, l)) first ticks client

-- ---- ticks

row_more : (ticks : Ticks) (n : ℕ) (row : List (Option MoveBits)) → slice_get ticks n ≡ Some row → take (n + 1) ticks ≡ take n ticks ++ row ∷ []
row_more ticks n row e = rw add-one (go ticks n e)
  where
    go : (ts : Ticks) (k : ℕ) → slice_get ts k ≡ Some row → take (suc k) ts ≡ take k ts ++ row ∷ []
    go [] k e = absurd (cc)
    go (t ∷ ts) zero e = let same : t ≡ row = cc in ap (λ (r : List (Option MoveBits)). r ∷ []) same
    go (t ∷ ts) (suc k) e = ap (λ (rs : Ticks). t ∷ rs) (go ts k e)

abbrev pub of_tick : BodyLine → ℕ
of_tick line = cond (is_tick line) 1 0

pub ticks_more : (past : List BodyLine) → ticks_in (script.Tick ∷ past) ≡ ticks_in past + 1
ticks_more past = let e = sum_by-cons of_tick script.Tick past in omega (arith, e)

pub ticks_same : (line : BodyLine) (past : List BodyLine) → is_tick line ≡ false → ticks_in (line ∷ past) ≡ ticks_in past
ticks_same line past other =
    let e = sum_by-cons of_tick line past in
    let none : of_tick line ≡ 0 = rw other refl in
    omega (arith, e, none)

pub ticks_next : (w : Worlds) (row : List (Option MoveBits)) → (next w row).ticks ≡ w.ticks + 1
unfolding next
ticks_next w row = refl

-- the client keeps what it has behind a line that gives it nothing
kept : (k : ClientState) (first : Worlds) (ticks : Ticks) (c : ℕ) (past : List BodyLine) → IsClientAt k first ticks c past → IsClientAt k first ticks c (script.Tick ∷ past)
kept k first ticks c past h = record {
  scope = h.scope;
  messages = h.messages ∙ sym (append-nil (messages first ticks c past));
  few = let f = h.few in omega (arith, f);
}

pub ticked : (old : MakingState) (ticks : Ticks) (row : List (Option MoveBits)) (w : Worlds) (values : Values) → slice_get ticks old.world.ticks ≡ Some row → w ≡ next old.world row
    → ((first : Worlds) (before : Ticks) (moves : List (Option MoveBits)) → IsHistoryOf first before old.values → w ≡ next (world_after first before) moves → IsHistoryOf first (before ++ moves ∷ []) values)
    → Follows old (record { world = w; values = values; clients = old.clients }) ticks script.Tick
ticked old ticks row w values there is more first clients past h =
    let n : ℕ = ticks_in past in
    let here : slice_get ticks n ≡ Some row = subst (λ (k : ℕ). slice_get ticks k ≡ Some row) h.done there in
    let longer : take (ticks_in (script.Tick ∷ past)) ticks ≡ take n ticks ++ row ∷ [] = ap (λ (k : ℕ). take k ticks) (ticks_more past) ∙ row_more ticks n row here in
    let next_is : w ≡ next (world_after first (take n ticks)) row = is ∙ ap (λ (v : Worlds). next v row) h.world in
    record {
      world = next_is ∙ sym (after_more first (take n ticks) row) ∙ ap (λ (ts : Ticks). world_after first ts) (sym longer);
      done = ap (λ (v : Worlds). v.ticks) is ∙ ticks_next old.world row ∙ ap (λ (k : ℕ). k + 1) h.done ∙ sym (ticks_more past);
      values = subst (λ (ts : Ticks). IsHistoryOf first ts values) (sym longer) (more first (take n ticks) row h.values next_is);
      count = h.count;
      client = λ c d l. kept (get_or old.clients c d) first ticks c past (h.client c d l);
    }

-- ---- lines of nobody's scans and posts

abbrev pub IsPassedOver : BodyLine → Type 0
IsPassedOver script.Tick = ⊥
IsPassedOver (script.Scan c) = ⊥
IsPassedOver (script.Post c class payload) = ⊥
IsPassedOver line = Unit {0}

passes : (m : MakingState) (first : Worlds) (ticks : Ticks) (clients : ℕ) (past : List BodyLine) (line : BodyLine) → is_tick line ≡ false
    → ((c : ℕ) → is_scan_of c line ≡ false) → ((c : ℕ) → line_gives first ticks c past line ≡ [])
    → IsMadeOf m first ticks clients past → IsMadeOf m first ticks clients (line ∷ past)
passes m first ticks clients past line no_tick no_scan nothing h =
    let same = ticks_same line past no_tick in
    record {
      world = h.world ∙ ap (λ (n : ℕ). world_after first (take n ticks)) (sym same);
      done = h.done ∙ sym same;
      values = subst (λ (n : ℕ). IsHistoryOf first (take n ticks) m.values) (sym same) h.values;
      count = h.count;
      client = λ c d l.
          let k = h.client c d l in
          record {
            scope = subst (λ (b : Bool). StandsFor (get_or m.clients c d).scope (if b then seen_at first ticks c past ∷ scans_of first ticks c past else scans_of first ticks c past)) (sym (no_scan c)) k.scope;
            messages = k.messages ∙ sym (append-nil (messages first ticks c past)) ∙ ap (λ (ms : List Message). messages first ticks c past ++ ms) (sym (nothing c));
            few = let f = k.few in omega (arith, f);
          };
    }

pub passed : (m : MakingState) (ticks : Ticks) (line : BodyLine) → IsPassedOver line → Follows m m ticks line
passed m ticks line p first clients past h = by line p
  where
    by : (l : BodyLine) → IsPassedOver l → IsMadeOf m first ticks clients (l ∷ past)
    by script.Tick p = absurd p
    by (script.Scan c) p = absurd p
    by (script.Post c class payload) p = absurd p
    by l p = passes m first ticks clients past l refl (λ c. refl) (λ c. refl) h

-- ---- before the first line

pub started : (w : Worlds) (seed : ℕ) (setup : Setup) (values : Values) (clients : List ClientState) (count : ℕ) → w ≡ first_world seed setup → IsHistoryOf w [] values → AreNew clients → length clients ≡ count
    → (ticks : Ticks) → IsMadeOf (record { world = w; values = values; clients = clients }) (first_world seed setup) ticks count []
started w seed setup values clients count is h new many ticks = record {
  world = is;
  done = ap (λ (v : Worlds). v.ticks) is;
  values = subst (λ (v : Worlds). IsHistoryOf v [] values) is h;
  count = many;
  client = λ c d l. new c d (omega (arith, l, many)) (first_world seed setup) ticks c;
}

-- ---- along a script

ticks_joined : (xs ys : List BodyLine) → ticks_in (xs ++ ys) ≡ ticks_in xs + ticks_in ys
ticks_joined xs ys = sum_by-append of_tick xs ys

pub ticks_reversed : (lines : List BodyLine) → ticks_in (reverse lines) ≡ ticks_in lines
ticks_reversed [] = refl
ticks_reversed (line ∷ lines) =
    let split = reverse-append (line ∷ []) lines in
    let one = sum_by-cons of_tick line lines in
    let alone = sum_by-cons of_tick line [] in
    let rest = ticks_reversed lines in
    let joined = ap ticks_in split ∙ ticks_joined (reverse lines) (line ∷ []) in
    omega (arith, one, alone, rest, joined)

pub line_more : (lines : List BodyLine) (i : ℕ) (line : BodyLine) → i < length lines → line ≡ get_or lines i line → reverse (take (i + 1) lines) ≡ line ∷ reverse (take i lines)
line_more lines i line l is =
    ap reverse (take_more lines i line l) ∙ reverse-append (take i lines) (get_or lines i line ∷ []) ∙ ap (λ (x : BodyLine). x ∷ reverse (take i lines)) (sym is)

ticks_within : (lines : List BodyLine) (n : ℕ) → ticks_in (take n lines) ≤ ticks_in lines
ticks_within lines n =
    let e = ap ticks_in (sym (take-append-drop n lines)) ∙ ticks_joined (take n lines) (drop n lines) in
    omega (arith, e)

pub ticks_there : (lines : List BodyLine) (i : ℕ) (line : BodyLine) → i < length lines → line ≡ get_or lines i line → ticks_in (line ∷ reverse (take i lines)) ≤ ticks_in lines
ticks_there lines i line l is =
    let e = ap ticks_in (sym (line_more lines i line l is)) ∙ ticks_reversed (take (i + 1) lines) in
    let h = ticks_within lines (i + 1) in
    omega (arith, e, h)

pub past_long : (lines : List BodyLine) (i : ℕ) → i < length lines → length (reverse (take i lines)) ≡ i
past_long lines i l = length-reverse (take i lines) ∙ length-take-le i lines (omega (arith, l))

-- ---- behind all lines

told_at : (clients : List ClientState) (c : ℕ) (told : List Message) → c < length clients → ((d : ClientState) → (get_or clients c d).messages ≡ told) → slice_get (messages_of clients) c ≡ Some told
told_at [] c told l h = absurd (omega (arith, l))
told_at (k ∷ clients) zero told l h = ap Some (h k)
told_at (k ∷ clients) (suc c) told l h = told_at clients c told (omega (arith, l)) h

pub whole : (m : MakingState) (script : Script) (ticks : Ticks) → MovesFit (ticks_in script.body) script.head.clients ticks → IsMadeOf m (world_of script) ticks script.head.clients (reverse script.body)
    → IsCourseOf (record { values = m.values; messages = messages_of m.clients }) script ticks
whole m script ticks fit h =
    let many : length ticks ≤ ticks_in (reverse script.body) = let e = ticks_reversed script.body in let f = fit.each_tick in omega (arith, e, f) in
    record {
      values = subst (λ (ts : Ticks). IsHistoryOf (world_of script) ts m.values) (take_all (ticks_in (reverse script.body)) ticks many) h.values;
      clients = length-map m.clients (λ (k : ClientState). k.messages) ∙ h.count;
      messages = λ c l. told_at m.clients c (all_messages script ticks c) (let n = h.count in omega (arith, l, n)) (λ d. (h.client c d l).messages);
    }
