-- The printed words of delivered events are the first of the printed words of posted ones.
use Rattle.std.proofs.Common.{◌≡◌, ℕ, ◌==◌, Bool, true, false, cond, List, [], ◌∷◌, ◌++◌, map, length, take, reverse, if◌then◌else◌, refl, sym, ap, subst, ◌∙◌, arith, append-nil}
use Rattle.std.specs.List.{flat_map}
use Rattle.std.proofs.lemmas.Bool.{eqb-true}
use Rattle.std.proofs.lemmas.Bool.Decides.{nat_tests}
use Rattle.std.proofs.lemmas.List.{map-append}
use Rattle.std.proofs.lemmas.Grind.{reverse_onto, flat_map-append}
use Rattle.tn_types.specs.declared.choices.Class.TheVariants.{Guaranteed, Loose}
use Rattle.tn_types.specs.Prefix.{IsPrefixOf}
use Rattle.event_manager.specs.Posted.{guaranteed_of}
use Rattle.match_script.specs.declared.types.BodyLine.{BodyLine}
use Rattle.match_script.specs.declared.types.BodyLine.TheVariants as script
use Rattle.match_script.specs.declared.types.Head.{Head}
use Rattle.match_script.specs.Print.{hex_word}
use Rattle.match_report.specs.Text.{hex_text, told_text}
use Rattle.world_scope.specs.Scope.{visible_list}
use Rattle.stream_manager.specs.Limits.{Terms}
use Rattle.stream_manager.specs.End.{delivered_at}
use Rattle.stream_manager.specs.Server.{server_end}
use Rattle.stream_manager.specs.Client.{client_end}
use Rattle.client_seat.specs.pair_core.History.{PairStep, Post, ClientPost, Sample, Pack, ClientPack, Down, Up, Raw, history}
use Rattle.client_seat.specs.pair_core.Conditions.{IsHonest}
use Rattle.client_seat.specs.pair_core.Answers.{client_delivered, server_delivered}
use Rattle.pair_copies.specs.pair_laws.Laws.{posted_at}
use Rattle.conn_packing.proofs.Lists.{all-append}
use Rattle.client_scope.specs.declared.period.Near.{Near as NearPeriod}
use Rattle.client_seat.specs.own_lists.declared.showing.Showing.{Showing}
use Rattle.client_seat.specs.own_lists.bit_stream.WorldMoves.{bits_of}
use Rattle.client_seat.specs.own_lists.Own.{OwnShow, OwnItem, Line}
use Rattle.client_seat.specs.own_lists.Course.{Course, room_in, onto, hide_step, near_step, show_step, scan_steps}
use Rattle.client_seat.specs.own_lists.Kept.{put, drains_of, reads_of, kept, journal}
use Rattle.client_seat.specs.own_lists.Past.{client_terms, own_show, scan_item, own_writes, moves_of, after}
use Rattle.world_sim.specs.Worlds.{next}
use Rattle.client_scope.specs.Scans.{shown}
use Rattle.client_scope.specs.Changes.{hides, nears, shows}
use Rattle.client_seat.specs.own_lists.Agreement.{OwnListsHold}
use Rattle.client_seat.proofs.Below.own_lists.KeptValues.{wrote_course}
use Rattle.client_seat.proofs.Below.own_lists.Meeting.{scan_journal}
use Rattle.match_laws.specs.Report.{told_after}
use Rattle.match_laws.specs.Laws.{first, journal_of}
use Rattle.match_laws.specs.Words.{ToldLine, is_down, is_up, is_post, is_client_post, is_raw, HasNoRaw, events_told, told_by, delivered_words, is_numbered, posted_by, posted_words, PrintedInOrder}
use Rattle.match_laws.proofs.Grown.{put_own}
use Rattle.match_laws.proofs.InOrder.{in_order}
use Rattle.match_laws.proofs.WordsSteps.{down_same, up_same, posted_down_same, posted_up_same, scan_ends}
use Rattle.match_laws.proofs.WordsTold.{report_words, script_words, if_numbered, down_adds, up_adds, server_post_adds, client_post_adds}
use Rattle.match_laws.proofs.WordsLines.{plain_lines, told_side_by_side}

module _ (head : Head) (c : ℕ) where
  abbrev terms : Terms
  terms = client_terms head c

  abbrev own_of : List BodyLine → ℕ → List OwnItem
  own_of past = (after head past).own

  -- what a client's journal gives
  abbrev Figure : Type 0
  Figure = List PairStep → List (List ℕ)

  abbrev from_own : Figure → List OwnItem → List (List ℕ)
  from_own f items = f (journal terms items)

  -- the line adds its words to those of the lines before it
  abbrev Adds : (ToldLine → List (List ℕ)) → Figure → BodyLine → List BodyLine → Type 0
  Adds words f line past =
      from_own f (own_of past c) ++ words (line, told_text (told_after head past line)) ≡ from_own f (own_of (line ∷ past) c)

  gathered : (words : ToldLine → List (List ℕ)) (f : Figure) → f [] ≡ []
      → ((line : BodyLine) (past : List BodyLine) → is_raw c line ≡ false → Adds words f line past)
      → (past : List BodyLine) → HasNoRaw c past → flat_map words (plain_lines head past) ≡ from_own f (own_of past c)
  gathered words f none more [] quiet = sym none
  gathered words f none more (line ∷ past) quiet =
      let x : ToldLine = (line, told_text (told_after head past line)) in
      flat_map-append words (plain_lines head past) (x ∷ [])
      ∙ ap (λ l. l ++ flat_map words (x ∷ [])) (gathered words f none more past quiet.1)
      ∙ ap (λ l. from_own f (own_of past c) ++ l) (append-nil (words x))
      ∙ more line past quiet.0

  -- an item that adds none, in the list of whichever client
  still : (f : Figure) (own : ℕ → List OwnItem) (item : OwnItem) (d : ℕ) → from_own f (item ∷ own c) ≡ from_own f (own c)
      → from_own f (own c) ++ [] ≡ from_own f (put own d (item ∷ own d) c)
  still f own item d e =
      put_own (λ old new. from_own f old ++ [] ≡ from_own f new) own item c d
      (append-nil (from_own f (own c)) ∙ sym e) (append-nil (from_own f (own c)))

  -- a line of client d that adds these, where d is c
  added : (f : Figure) (own : ℕ → List OwnItem) (item : ℕ → OwnItem) (extra : ℕ → List (List ℕ)) (d : ℕ)
      → from_own f (own c) ++ extra c ≡ from_own f (item c ∷ own c)
      → from_own f (own c) ++ (if c == d then extra d else []) ≡ from_own f (put own d (item d ∷ own d) c)
  added f own item extra d more = go (c == d) refl
    where
      go : (b : Bool) → (c == d) ≡ b
          → from_own f (own c) ++ (if b then extra d else []) ≡ from_own f (cond b (item d ∷ own d) (own c))
      go true e = subst (λ m. from_own f (own c) ++ extra m ≡ from_own f (item m ∷ own m)) (eqb-true c d e) more
      go false e = append-nil (from_own f (own c))

  tick-still : (f : Figure) (past : List BodyLine) → from_own f (own_of past c) ++ [] ≡ from_own f (own_of (script.Tick ∷ past) c)
  tick-still f past =
      let p = after head past in
      append-nil (from_own f (own_of past c)) ∙ sym (ap (λ (k : Course). f k.steps) (wrote_course terms (own_writes (next p.world (moves_of head p)) (shown (p.scans c))) (kept terms (own_of past c))))

  scan-still : (f : Figure)
      → ((hides : List ℕ) (nears : List NearPeriod) (shows : List Showing) (steps : List PairStep) → f (onto (scan_steps hides nears shows) steps) ≡ f steps)
      → (d : ℕ) (past : List BodyLine) → from_own f (own_of past c) ++ [] ≡ from_own f (own_of (script.Scan d ∷ past) c)
  scan-still f same d past =
      let p = after head past in
      let k = kept terms (p.own c) in
      let scans = visible_list p.world d ∷ p.scans d in
      let begun : List OwnShow = map (own_show p.world d) (shows scans) in
      still f p.own (scan_item p.world d scans) d
      (ap f (scan_journal (hides scans) (nears scans) begun k) ∙ same (hides scans) (nears scans) (map (λ s. s.how) begun) k.course.steps)

  -- ---- delivered to the client

  abbrev to_client : Figure
  to_client steps = report_words (client_delivered terms steps)

  down-line : (line : BodyLine) (past : List BodyLine) → is_raw c line ≡ false → Adds (told_by (is_down c)) to_client line past
  down-line script.Tick past quiet = tick-still to_client past
  down-line (script.Scan d) past quiet =
      scan-still to_client (λ hides nears shows steps. ap (λ e. report_words (delivered_at e.1)) (scan_ends terms hides nears shows steps)) d past
  down-line script.World past quiet = append-nil (from_own to_client (own_of past c))
  down-line (script.Down d k) past quiet =
      added to_client (own_of past) (λ m. Line (script.Down m k))
      (λ m. events_told (told_text (told_after head past (script.Down m k)))) d (down_adds terms (journal terms (own_of past c)) c k)
  down-line (script.ClientPost d class v) past quiet =
      still to_client (own_of past) (Line (script.ClientPost d class v)) d
      (ap report_words (down_same terms (ClientPost class v) (journal terms (own_of past c)) tt))
  down-line (script.ClientPack d) past quiet =
      still to_client (own_of past) (Line (script.ClientPack d)) d (ap report_words (down_same terms ClientPack (journal terms (own_of past c)) tt))
  down-line (script.Move d m) past quiet =
      still to_client (own_of past) (Line (script.Move d m)) d (ap report_words (down_same terms (Sample (bits_of m)) (journal terms (own_of past c)) tt))
  down-line line past quiet = still to_client (own_of past) (Line line) _ refl

  -- ---- delivered to the server

  abbrev to_server : Figure
  to_server steps = report_words (server_delivered terms steps)

  -- a line `raw` is another client's
  raw-line : (d : ℕ) (bytes : List ℕ) (past : List BodyLine) → (c == d) ≡ false
      → from_own to_server (own_of past c) ++ [] ≡ from_own to_server (own_of (script.Raw d bytes ∷ past) c)
  raw-line d bytes past other = go (c == d) other
    where
      own : ℕ → List OwnItem
      own = own_of past

      go : (b : Bool) → b ≡ false
          → from_own to_server (own_of past c) ++ [] ≡ from_own to_server (cond b (Line (script.Raw d bytes) ∷ own_of past d) (own_of past c))
      go true e = absurd cc
      go false e = append-nil (from_own to_server (own_of past c))

  up-line : (line : BodyLine) (past : List BodyLine) → is_raw c line ≡ false → Adds (told_by (is_up c)) to_server line past
  up-line script.Tick past quiet = tick-still to_server past
  up-line (script.Scan d) past quiet =
      scan-still to_server (λ hides nears shows steps. ap (λ e. report_words (delivered_at e.0)) (scan_ends terms hides nears shows steps)) d past
  up-line script.World past quiet = append-nil (from_own to_server (own_of past c))
  up-line (script.Up d k) past quiet =
      added to_server (own_of past) (λ m. Line (script.Up m k))
      (λ m. events_told (told_text (told_after head past (script.Up m k)))) d
      (up_adds terms (journal terms (own_of past c)) c k (room_in terms (kept terms (own_of past c)).course))
  up-line (script.Raw d bytes) past quiet = raw-line d bytes past quiet
  up-line (script.Post d class v) past quiet =
      still to_server (own_of past) (Line (script.Post d class v)) d (ap report_words (up_same terms (Post class v) (journal terms (own_of past c)) tt))
  up-line (script.Pack d) past quiet =
      let k = kept terms (own_of past c) in
      still to_server (own_of past) (Line (script.Pack d)) d
      (ap report_words (up_same terms (Pack (drains_of terms k) (reads_of terms k)) k.course.steps tt))
  up-line line past quiet = still to_server (own_of past) (Line line) _ refl

  -- ---- posted at the server

  abbrev at_server : Figure
  at_server steps = script_words (posted_at (server_end (history terms steps).server))

  post-line : (line : BodyLine) (past : List BodyLine) → is_raw c line ≡ false → Adds (posted_by (is_post c)) at_server line past
  post-line script.Tick past quiet = tick-still at_server past
  post-line (script.Scan d) past quiet =
      scan-still at_server (λ hides nears shows steps. ap (λ e. script_words (posted_at e.0)) (scan_ends terms hides nears shows steps)) d past
  post-line script.World past quiet = append-nil (from_own at_server (own_of past c))
  post-line (script.Post d Guaranteed v) past quiet =
      added at_server (own_of past) (λ m. Line (script.Post m Guaranteed v))
      (λ m. if_numbered (is_numbered (told_text (told_after head past (script.Post m Guaranteed v)))) v) d
      (server_post_adds terms (history terms (journal terms (own_of past c))).server c v)
  post-line (script.Post d Loose v) past quiet = still at_server (own_of past) (Line (script.Post d Loose v)) d refl
  post-line (script.Pack d) past quiet =
      let k = kept terms (own_of past c) in
      still at_server (own_of past) (Line (script.Pack d)) d
      (ap script_words (posted_down_same terms (Pack (drains_of terms k) (reads_of terms k)) k.course.steps tt))
  post-line (script.Up d place) past quiet =
      let k = kept terms (own_of past c) in
      still at_server (own_of past) (Line (script.Up d place)) d
      (ap script_words (posted_down_same terms (Up place (room_in terms k.course)) k.course.steps tt))
  post-line (script.Raw d bytes) past quiet =
      let k = kept terms (own_of past c) in
      still at_server (own_of past) (Line (script.Raw d bytes)) d
      (ap script_words (posted_down_same terms (Raw bytes (room_in terms k.course)) k.course.steps tt))
  post-line line past quiet = still at_server (own_of past) (Line line) _ refl

  -- ---- posted at the client

  abbrev at_client : Figure
  at_client steps = script_words (posted_at (client_end (history terms steps).client))

  client-post-line : (line : BodyLine) (past : List BodyLine) → is_raw c line ≡ false
      → Adds (posted_by (is_client_post c)) at_client line past
  client-post-line script.Tick past quiet = tick-still at_client past
  client-post-line (script.Scan d) past quiet =
      scan-still at_client (λ hides nears shows steps. ap (λ e. script_words (posted_at e.1)) (scan_ends terms hides nears shows steps)) d past
  client-post-line script.World past quiet = append-nil (from_own at_client (own_of past c))
  client-post-line (script.ClientPost d Guaranteed v) past quiet =
      added at_client (own_of past) (λ m. Line (script.ClientPost m Guaranteed v))
      (λ m. if_numbered (is_numbered (told_text (told_after head past (script.ClientPost m Guaranteed v)))) v) d
      (client_post_adds terms (history terms (journal terms (own_of past c))).client c v)
  client-post-line (script.ClientPost d Loose v) past quiet = still at_client (own_of past) (Line (script.ClientPost d Loose v)) d refl
  client-post-line (script.ClientPack d) past quiet =
      still at_client (own_of past) (Line (script.ClientPack d)) d
      (ap script_words (posted_up_same terms ClientPack (journal terms (own_of past c)) tt))
  client-post-line (script.Move d m) past quiet =
      still at_client (own_of past) (Line (script.Move d m)) d
      (ap script_words (posted_up_same terms (Sample (bits_of m)) (journal terms (own_of past c)) tt))
  client-post-line (script.Down d k) past quiet =
      still at_client (own_of past) (Line (script.Down d k)) d
      (ap script_words (posted_up_same terms (Down k) (journal terms (own_of past c)) tt))
  client-post-line line past quiet = still at_client (own_of past) (Line line) _ refl

-- ---- a client with no line `raw` is honest

honest-shows : (shows : List Showing) (steps : List PairStep) → IsHonest steps → IsHonest (onto (map show_step shows) steps)
honest-shows [] steps h = h
honest-shows (s ∷ shows) steps h = honest-shows shows (show_step s ∷ steps) (tt, h)

honest-nears : (nears : List NearPeriod) (shows : List Showing) (steps : List PairStep) → IsHonest steps
    → IsHonest (onto (map near_step nears ++ map show_step shows) steps)
honest-nears [] shows steps h = honest-shows shows steps h
honest-nears (p ∷ nears) shows steps h = honest-nears nears shows (near_step p ∷ steps) (tt, h)

honest-scan : (hides : List ℕ) (nears : List NearPeriod) (shows : List Showing) (steps : List PairStep) → IsHonest steps
    → IsHonest (onto (scan_steps hides nears shows) steps)
honest-scan [] nears shows steps h = honest-nears nears shows steps h
honest-scan (n ∷ hides) nears shows steps h = honest-scan hides nears shows (hide_step n ∷ steps) (tt, h)

module _ (head : Head) (c : ℕ) where
  abbrev IsHonestOwn : List OwnItem → Type 0
  IsHonestOwn items = IsHonest (journal (client_terms head c) items)

  kept-honest : (own : ℕ → List OwnItem) (item : OwnItem) (d : ℕ) → (IsHonestOwn (own c) → IsHonestOwn (item ∷ own c))
      → IsHonestOwn (own c) → IsHonestOwn (put own d (item ∷ own d) c)
  kept-honest own item d more h = put_own (λ old new. IsHonestOwn old → IsHonestOwn new) own item c d more (λ old. old) h

  line-honest : (line : BodyLine) (past : List BodyLine) → is_raw c line ≡ false → IsHonestOwn ((after head past).own c)
      → IsHonestOwn ((after head (line ∷ past)).own c)
  line-honest script.Tick past quiet h =
      let t = client_terms head c in
      let p = after head past in
      subst (λ (k : Course). IsHonest k.steps)
      (sym (wrote_course t (own_writes (next p.world (moves_of head p)) (shown (p.scans c))) (kept t (p.own c)))) h
  line-honest (script.Scan d) past quiet h =
      let p = after head past in
      let k = kept (client_terms head c) (p.own c) in
      let scans = visible_list p.world d ∷ p.scans d in
      let begun : List OwnShow = map (own_show p.world d) (shows scans) in
      kept-honest p.own (scan_item p.world d scans) d
      (λ old. subst IsHonest (sym (scan_journal (hides scans) (nears scans) begun k))
      (honest-scan (hides scans) (nears scans) (map (λ s. s.how) begun) k.course.steps old)) h
  line-honest script.World past quiet h = h
  line-honest (script.Raw d bytes) past quiet h = go (c == d) quiet
    where
      go : (b : Bool) → b ≡ false → IsHonestOwn (cond b (Line (script.Raw d bytes) ∷ (after head past).own d) ((after head past).own c))
      go true e = absurd cc
      go false e = h
  line-honest (script.Show d) past quiet h = kept-honest (after head past).own (Line (script.Show d)) d (λ old. old) h
  line-honest line past quiet h = kept-honest (after head past).own (Line line) _ (λ old. (tt, old)) h

  pub honest : (past : List BodyLine) → HasNoRaw c past → IsHonestOwn ((after head past).own c)
  honest [] quiet = tt
  honest (line ∷ past) quiet = line-honest line past quiet.0 (honest past quiet.1)

-- ---- the law

same-hex : (v : List ℕ) → hex_text v ≡ hex_word v
same-hex [] = refl
same-hex (b ∷ v) = let some : (length (b ∷ v) == 0) ≡ false = grind (arith, nat_tests) in rw some refl

all-same-hex : (vs : List (List ℕ)) → map hex_text vs ≡ map hex_word vs
all-same-hex [] = refl
all-same-hex (v ∷ vs) = λ j. same-hex v j ∷ all-same-hex vs j

prefix-printed : (xs ys : List (List ℕ)) → IsPrefixOf xs ys → IsPrefixOf (map hex_text xs) (script_words ys)
prefix-printed xs ys p =
    (script_words p.0, ap (λ l. l ++ script_words p.0) (all-same-hex xs) ∙ sym (map-append hex_word xs p.0) ∙ ap script_words p.1)

joined-prefix : (ws vs xs ys : List (List ℕ)) → ws ≡ xs → vs ≡ ys → IsPrefixOf xs ys → IsPrefixOf ws vs
joined-prefix ws vs xs ys e f p = (p.0, ap (λ l. l ++ p.0) e ∙ p.1 ∙ sym f)

pub no_raw_reversed : (c : ℕ) (lines : List BodyLine) → HasNoRaw c lines → HasNoRaw c (reverse lines)
no_raw_reversed c [] h = tt
no_raw_reversed c (line ∷ lines) h =
    subst (HasNoRaw c) (sym (reverse_onto lines line []))
    (all-append (λ l. is_raw c l ≡ false) (reverse lines) (line ∷ []) (no_raw_reversed c lines h.1) (h.0, tt))

pub printed_in_order : OwnListsHold → PrintedInOrder
printed_in_order own s c n h l quiet =
    let past = first n s in
    let none : HasNoRaw c past = no_raw_reversed c (take n s.body) quiet in
    let law = in_order own s c n h l (honest s.head c past none) in
    let t = client_terms s.head c in
    let ends = history t (journal_of s c n) in
    let beside = told_side_by_side s n in (
      joined-prefix _ _ _ _
          (ap (delivered_words (is_down c)) beside ∙ gathered s.head c (told_by (is_down c)) (to_client s.head c) refl (down-line s.head c) past none)
          (ap (posted_words (is_post c)) beside ∙ gathered s.head c (posted_by (is_post c)) (at_server s.head c) refl (post-line s.head c) past none)
          (prefix-printed (guaranteed_of (client_delivered t (journal_of s c n))) (posted_at (server_end ends.server)) law.0),
      joined-prefix _ _ _ _
          (ap (delivered_words (is_up c)) beside ∙ gathered s.head c (told_by (is_up c)) (to_server s.head c) refl (up-line s.head c) past none)
          (ap (posted_words (is_client_post c)) beside ∙ gathered s.head c (posted_by (is_client_post c)) (at_client s.head c) refl (client-post-line s.head c) past none)
          (prefix-printed (guaranteed_of (server_delivered t (journal_of s c n))) (posted_at (client_end ends.client)) law.1),
    )
