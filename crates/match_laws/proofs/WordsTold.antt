-- What the words of a line tell: of a delivery the guaranteed events that it hands out, of a post whether it has a number.
use Rattle.std.proofs.Common.{◌≡◌, ℕ, Bool, true, false, List, [], ◌∷◌, ◌++◌, map, length, drop, if◌then◌else◌, Option, Some, None, Result, Ok, Err, refl, sym, ap, ◌∙◌, append-nil, append_assoc}
use Rattle.std.proofs.Math.Seq.{drop-append_seam}
use Rattle.std.specs.Prelude.{codes, slice_get}
use Rattle.std.specs.List.{flat_map, slice_index_or}
use Rattle.std.specs.Str.{bytes_eq}
use Rattle.std.specs.Result.{is_ok}
use Rattle.std.specs.Fmt.{decimal}
use Rattle.std.proofs.lemmas.List.{map-append}
use Rattle.tn_types.specs.declared.choices.Class.{Class}
use Rattle.tn_types.specs.declared.choices.Class.TheVariants.{Guaranteed}
use Rattle.wire_format.specs.declared.client.ClientPacket.{ClientPacket}
use Rattle.wire_format.specs.declared.server.ServerPacket.{ServerPacket}
use Rattle.event_manager.specs.declared.sender.PostFault.{PostFault}
use Rattle.event_manager.specs.declared.sender.PostFault.TheVariants as post_refused
use Rattle.event_manager.specs.Posted.{guaranteed_of}
use Rattle.match_script.specs.Text.{words_of}
use Rattle.match_script.specs.Print.{hex_word}
use Rattle.tn_types.specs.declared.choices.End.{End}
use Rattle.tn_types.specs.declared.choices.End.TheVariants.{Server, Client}
use Rattle.match_report.specs.declared.told.Way.TheVariants as way
use Rattle.match_report.specs.declared.told.Told.TheVariants as told_as
use Rattle.match_report.specs.Text.{hex_text, event_word, arrival_words, posted_text, told_text}
use Rattle.client_seat.specs.Told.{event_told, brought_told, brought_down_told, handed_up}
use Rattle.stream_manager.specs.declared.fault.ArriveFault.{ArriveFault}
use Rattle.stream_manager.specs.declared.fault.ClientFault.{ClientFault}
use Rattle.stream_manager.specs.Said.{server_refusal, client_refusal}
use Rattle.stream_manager.specs.Limits.{Terms}
use Rattle.stream_manager.specs.Faults.{without_packet}
use Rattle.stream_manager.specs.End.{came_of, delivered_at}
use Rattle.stream_manager.specs.Server as server
use Rattle.stream_manager.specs.Server.{ServerEvent, server_end, server_answer, took_at_server, taken_of, posted_at_server, server_datagrams, seen_up}
use Rattle.stream_manager.specs.Client as client
use Rattle.stream_manager.specs.Client.{ClientEvent, client_end, client_answer, took_at_client, posted_at_client, client_datagrams, seen_down}
use Rattle.client_seat.specs.pair_core.History.{PairStep, History, Down, Up, history, server_posts, client_posts, client_gets, server_gets}
use Rattle.client_seat.specs.pair_core.Answers.{client_delivered, server_delivered, brought_down, brought_up, came_down, came_up}
use Rattle.pair_copies.specs.pair_laws.Laws.{posted_at}
use Rattle.match_laws.specs.Laws.{first}
use Rattle.match_laws.specs.Words.{events_told, is_numbered}
use Rattle.match_laws.proofs.WordsBytes.{Quiet, solid_decimal, ◌&◌, say, number, arrival_quiet, server_refusal_quiet, client_refusal_quiet}
use Rattle.match_laws.proofs.WordsCut.{word_cut, word_alone, quiet_tells_none, events_behind}
use Rattle.match_laws.proofs.WordsSteps.{guaranteed_append, GrowsTo, delivers_more}

-- ---- what the line of a delivery tells

-- the guaranteed events among these, as they are report_words
abbrev pub report_words : List (Class × List ℕ) → List (List ℕ)
report_words events = map hex_text (guaranteed_of events)

came-down : (c k moves : ℕ) (es : List (Class × List ℕ))
    → events_told (told_text (told_as.Came way.Down c k moves (map event_told es))) ≡ report_words es
came-down c k moves es =
    let front = say (arrival_words way.Down c k) (arrival_quiet way.Down c k) & say (codes "ok") refl in
    events_behind front.text es ∙ ap (λ l. l ++ report_words es) (quiet_tells_none front.text front.is)

came-up : (c k moves : ℕ) (es : List (Class × List ℕ))
    → events_told (told_text (told_as.Came way.Up c k moves (map event_told es))) ≡ report_words es
came-up c k moves es =
    let begun = say (arrival_words way.Up c k) (arrival_quiet way.Up c k) & say (codes "ok") refl in
    let count = say (codes " ") refl & number moves in
    let front = begun & count in
    ap events_told (sym (append_assoc begun.text count.text (flat_map event_word (map event_told es))))
    ∙ events_behind front.text es
    ∙ ap (λ l. l ++ report_words es) (quiet_tells_none front.text front.is)

drop-self : {A : Type 0} (xs : List A) → drop (length xs) xs ≡ []
drop-self [] = refl
drop-self (x ∷ xs) = drop-self xs

-- what is handed out is report_words behind what was
adds : (old new : List (Class × List ℕ)) → GrowsTo old new → report_words old ++ report_words (drop (length old) new) ≡ report_words new
adds old new g =
    ap (λ l. report_words old ++ report_words l) (ap (drop (length old)) g.1 ∙ drop-append_seam old g.0)
    ∙ sym (map-append hex_text (guaranteed_of old) (guaranteed_of g.0))
    ∙ ap (map hex_text) (sym (guaranteed_append old g.0) ∙ ap guaranteed_of (sym g.1))

module _ (t : Terms) (steps : List PairStep) (c k : ℕ) where
  abbrev h : History
  h = history t steps

  -- ---- to the client

  abbrev had : List (Class × List ℕ)
  had = client_delivered t steps

  abbrev gets : Option (List ℕ) → List (Class × List ℕ)
  gets o = delivered_at (client_end (client_gets t o h.client))

  pub down_adds : report_words had ++ events_told (told_text (brought_down_told c k t steps)) ≡ report_words (client_delivered t (Down k ∷ steps))
  down_adds = go (slice_get (server_datagrams t h.server) k)
    where
      refused : (text : List ℕ) → Quiet text → report_words had ++ events_told text ≡ report_words had
      refused text q = ap (λ l. report_words had ++ l) (quiet_tells_none text q) ∙ append-nil (report_words had)

      took : List ClientEvent → List (Class × List ℕ)
      took log = delivered_at (client_end log)

      by : (a : Result ServerPacket ClientFault)
          → report_words had ++ events_told (told_text (brought_told way.Down c k (map event_told (drop (length had) (delivered_at (client_end (took_at_client h.client a))))) (came_down (without_packet a))))
          ≡ report_words (delivered_at (client_end (took_at_client h.client a)))
      by (Ok p) =
          let new = delivered_at (client_end (took_at_client h.client (Ok p))) in
          ap (λ l. report_words had ++ l) (came-down c k 0 (drop (length had) new)) ∙ adds had new (delivers_more (seen_down p).events (came_of (client_end h.client)))
      by (Err e) = refused _ (say (arrival_words way.Down c k) (arrival_quiet way.Down c k) & say (client_refusal e) (client_refusal_quiet e)).is

      go : (o : Option (List ℕ))
          → report_words had ++ events_told (told_text (brought_told way.Down c k (map event_told (drop (length had) (gets o))) (brought_down t h k o)))
          ≡ report_words (gets o)
      go None = refused _ (say (arrival_words way.Down c k) (arrival_quiet way.Down c k) & say (codes "notsent ") refl & number (length (server_datagrams t h.server))).is
      go (Some bytes) = by (client_answer t.config t.kinds h.client bytes)

  -- ---- to the server

  abbrev server_had : List (Class × List ℕ)
  server_had = server_delivered t steps

  abbrev server_takes : ℕ → Option (List ℕ) → List (Class × List ℕ)
  server_takes room o = delivered_at (server_end (server_gets t.config room o h.server))

  pub up_adds : (room : ℕ)
      → report_words server_had ++ events_told (told_text (brought_told way.Up c k (handed_up t steps (Up k room)) (brought_up t h k room (slice_get (client_datagrams t.config h.client) k))))
      ≡ report_words (server_delivered t (Up k room ∷ steps))
  up_adds room = go (slice_get (client_datagrams t.config h.client) k)
    where
      refused : (text : List ℕ) → Quiet text → report_words server_had ++ events_told text ≡ report_words server_had
      refused text q = ap (λ l. report_words server_had ++ l) (quiet_tells_none text q) ∙ append-nil (report_words server_had)

      by : (a : Result ClientPacket ArriveFault)
          → report_words server_had ++ events_told (told_text (brought_told way.Up c k (map event_told (drop (length server_had) (delivered_at (server_end (took_at_server h.server room a))))) (came_up (taken_of t.config h.server room a))))
          ≡ report_words (delivered_at (server_end (took_at_server h.server room a)))
      by (Ok p) =
          let new = delivered_at (server_end (took_at_server h.server room (Ok p))) in
          ap (λ l. report_words server_had ++ l) (came-up c k _ (drop (length server_had) new)) ∙ adds server_had new (delivers_more (seen_up p).events (came_of (server_end h.server)))
      by (Err e) = refused _ (say (arrival_words way.Up c k) (arrival_quiet way.Up c k) & say (server_refusal e) (server_refusal_quiet e)).is

      go : (o : Option (List ℕ))
          → report_words server_had ++ events_told (told_text (brought_told way.Up c k (map event_told (drop (length server_had) (server_takes room o))) (brought_up t h k room o)))
          ≡ report_words (server_takes room o)
      go None = refused _ (say (arrival_words way.Up c k) (arrival_quiet way.Up c k) & say (codes "notsent ") refl & number (length (client_datagrams t.config h.client))).is
      go (Some bytes) = by (server_answer t.config h.server bytes)

-- ---- what the line of a post tells

post-first : (text : List ℕ) → words_of (codes "post " ++ text) ≡ codes "post" ∷ words_of text
unfolding words_of
post-first text = refl

client-post-first : (text : List ℕ) → words_of (codes "cpost " ++ text) ≡ codes "cpost" ∷ words_of text
unfolding words_of
client-post-first text = refl

-- the words behind the client
behind-client : (c : ℕ) (text : List ℕ) → words_of (decimal c ++ codes " " ++ text) ≡ decimal c ∷ words_of text
behind-client c text =
    ap words_of (append_assoc (decimal c) (codes " ") text) ∙ word_cut (decimal c) text ∙ ap (λ l. l ++ words_of text) (word_alone (decimal c) (solid_decimal c))

third : (by : End) (c : ℕ) (result : Result ℕ PostFault)
    → slice_index_or (words_of (told_text (told_as.Post by c result))) 2 [] ≡ slice_index_or (words_of (posted_text result)) 0 []
third Server c result =
    ap (λ l. slice_index_or l 2 []) (post-first (decimal c ++ codes " " ++ posted_text result) ∙ ap (λ l. codes "post" ∷ l) (behind-client c (posted_text result)))
third Client c result =
    ap (λ l. slice_index_or l 2 []) (client-post-first (decimal c ++ codes " " ++ posted_text result) ∙ ap (λ l. codes "cpost" ∷ l) (behind-client c (posted_text result)))

first-word : (result : Result ℕ PostFault) → bytes_eq (slice_index_or (words_of (posted_text result)) 0 []) (codes "g") ≡ is_ok result
unfolding words_of
first-word (Ok n) = refl
first-word (Err (post_refused.Worn life)) = refl
first-word (Err (post_refused.Full first last)) = refl

-- the line has a number exactly where the post was not refused
numbered : (by : End) (c : ℕ) (result : Result ℕ PostFault) → is_numbered (told_text (told_as.Post by c result)) ≡ is_ok result
numbered by c result = ap (λ w. bytes_eq w (codes "g")) (third by c result) ∙ first-word result

-- the events of a list, as a script spells them
abbrev pub script_words : List (List ℕ) → List (List ℕ)
script_words payloads = map hex_word payloads

abbrev pub if_numbered : Bool → List ℕ → List (List ℕ)
if_numbered b v = if b then hex_word v ∷ [] else []

pub server_post_adds : (t : Terms) (s : List ServerEvent) (c : ℕ) (v : List ℕ)
    → script_words (posted_at (server_end s)) ++ if_numbered (is_numbered (told_text (told_as.Post Server c (posted_at_server t.config s)))) v
    ≡ script_words (posted_at (server_end (server_posts t.config Guaranteed v s)))
server_post_adds t s c v =
    ap (λ b. script_words (posted_at (server_end s)) ++ if_numbered b v) (numbered Server c (posted_at_server t.config s))
    ∙ go (is_ok (posted_at_server t.config s))
  where
    go : (b : Bool) → script_words (posted_at (server_end s)) ++ if_numbered b v
        ≡ script_words (posted_at (server_end (if b then server.Posted Guaranteed v ∷ s else s)))
    go true = sym (map-append hex_word (posted_at (server_end s)) (v ∷ []))
    go false = append-nil (script_words (posted_at (server_end s)))

pub client_post_adds : (t : Terms) (u : List ClientEvent) (c : ℕ) (v : List ℕ)
    → script_words (posted_at (client_end u)) ++ if_numbered (is_numbered (told_text (told_as.Post Client c (posted_at_client t.config u)))) v
    ≡ script_words (posted_at (client_end (client_posts t.config Guaranteed v u)))
client_post_adds t u c v =
    ap (λ b. script_words (posted_at (client_end u)) ++ if_numbered b v) (numbered Client c (posted_at_client t.config u))
    ∙ go (is_ok (posted_at_client t.config u))
  where
    go : (b : Bool) → script_words (posted_at (client_end u)) ++ if_numbered b v
        ≡ script_words (posted_at (client_end (if b then client.Posted Guaranteed v ∷ u else u)))
    go true = sym (map-append hex_word (posted_at (client_end u)) (v ∷ []))
    go false = append-nil (script_words (posted_at (client_end u)))
