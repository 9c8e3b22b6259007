-- What is written of a demo when the script's next line is done.
use Rattle.std.proofs.Common.{drop, nat_lt, true, false, ◌≡◌, ◌∙◌, ℕ, zero, suc, ◌+◌, ◌<◌, ◌≤◌, List, [], ◌∷◌, ◌++◌, length, get_or, reverse, take, Option, Some, None, refl, sym, ap, subst, arith, inl, inr, append_assoc}
use Rattle.std.specs.Prelude.{slice_get, slice_index_or, Result, Ok, Err, OnOk, OnErr}
use Rattle.std.specs.List.{AllByRecursion}
use Rattle.std.proofs.lemmas.List.{take_all, take-append-drop, reverse-append, append-nil}
use Rattle.std.proofs.lemmas.List.Concat.{flat_map-append}
use Rattle.std.proofs.lemmas.Option.{slice_get-get_or}
use Rattle.tn_outside.specs.Totals.{Adds, AddsFront}
use Rattle.tn_outside.proofs.Totals.{adds_nothing, adds_then, front_more, front_longer}
use Rattle.match_script.specs.declared.types.BodyLine.{BodyLine}
use Rattle.match_script.specs.declared.types.BodyLine.TheVariants as script
use Rattle.match_script.specs.declared.types.Head.{Head}
use Rattle.match_script.specs.declared.types.Script.{Script}
use Rattle.match_report.specs.declared.told.Told.{Told}
use Rattle.demo_taken.specs.demo_view.stream_manager.Server.{server_datagrams}
use Rattle.demo_taken.specs.pair_core.History.{history}
use Rattle.client_scope.specs.StandsFor.{Table}
use Rattle.match_engine.specs.client_seat.Stands.{SeatState}
use Rattle.own_lists.specs.Past.{client_terms}
use Rattle.own_lists.proofs.Below.pair_core.Keeping.{all-kept}
use Rattle.match_engine.specs.match_laws.Report.{told_after}
use Rattle.match_engine.specs.match_laws.Values.{steps_of}
use Rattle.demo_taken.specs.pair_core.Stands.{PairState}
use Rattle.match_engine.specs.Match.{MatchState, StandsFor, IsPlayed, last_told}
use Rattle.match_engine.proofs.Written.{reverse_next}
use Rattle.demo_format.specs.Head.{spell_head}
use Rattle.demo_format.specs.Records.{spell_record, spell_records, ending, IsRecord}
use Rattle.demo_record.specs.Recording.{demo_head, demo_text, place_taken, records_text, taken_by, taken_lines}
use Rattle.demo_record.proofs.Noted.{Known, IsNoted, known}

-- ---- lists of lines

pub next-line : (s : Script) (at : ℕ) → at < length s.body → (line : BodyLine) × (slice_get s.body at ≡ Some line) × (reverse (take (at + 1) s.body) ≡ line ∷ reverse (take at s.body))
next-line s at lt = (get_or s.body at script.World, slice_get-get_or s.body at script.World lt, reverse_next s.body at script.World lt)

module _ (s : Script) (c : ℕ) where
  -- what the first lines record
  abbrev pub so_far : ℕ → List ℕ
  so_far at = spell_records (taken_lines s.head c (reverse (take at s.body)))

  module _ (at : ℕ) (lt : at < length s.body) where
    next : BodyLine
    next = (next-line s at lt).0

    abbrev recorded : List ℕ
    recorded = spell_records (taken_by s.head (reverse (take at s.body)) c (next-line s at lt).0)

    one-more : so_far (at + 1) ≡ so_far at ++ recorded
    one-more =
        let past : List BodyLine = reverse (take at s.body) in
        ap (λ (lines : List BodyLine). spell_records (taken_lines s.head c lines)) (next-line s at lt).2
        ∙ flat_map-append spell_record (taken_lines s.head c past) (taken_by s.head past c (next-line s at lt).0)

    module _ (first old new : Option (List ℕ)) (before : Adds first old (so_far at)) where
      pub records-more : ((line : BodyLine) → slice_get s.body at ≡ Some line → Adds old new (spell_records (taken_by s.head (reverse (take at s.body)) c line))) → Adds first new (so_far (at + 1))
      records-more more = adds_then first old new (so_far at) recorded (so_far (at + 1)) before (more (next-line s at lt).0 (next-line s at lt).1) one-more

      -- a front of the next record leaves a front of all
      pub records-front : ((line : BodyLine) → slice_get s.body at ≡ Some line → AddsFront old new (spell_records (taken_by s.head (reverse (take at s.body)) c line))) → AddsFront first new (records_text s c)
      records-front more =
          let rest = behind (at + 1) in
          front_more first old new (so_far at) recorded rest.0 (records_text s c) before (more (next-line s at lt).0 (next-line s at lt).1)
          (rest.1 ∙ ap (λ (l : List ℕ). l ++ rest.0) one-more ∙ append_assoc (so_far at) recorded rest.0)
        where
          later-more : (later past : List BodyLine) → (rest : List ℕ) × (spell_records (taken_lines s.head c (later ++ past)) ≡ spell_records (taken_lines s.head c past) ++ rest)
          later-more [] past = ([], sym (append-nil (spell_records (taken_lines s.head c past))))
          later-more (line ∷ later) past =
              let r = later-more later past in
              let more = taken_by s.head (later ++ past) c line in (
                r.0 ++ spell_records more,
                flat_map-append spell_record (taken_lines s.head c (later ++ past)) more
                    ∙ ap (λ (l : List ℕ). l ++ spell_records more) r.1
                    ∙ append_assoc (spell_records (taken_lines s.head c past)) r.0 (spell_records more),
              )

          behind : (n : ℕ) → (rest : List ℕ) × (records_text s c ≡ so_far n ++ rest)
          behind n =
              let parts : reverse s.body ≡ reverse (drop n s.body) ++ reverse (take n s.body) = ap reverse (sym (take-append-drop n s.body)) ∙ reverse-append (take n s.body) (drop n s.body) in
              let r = later-more (reverse (drop n s.body)) (reverse (take n s.body)) in
              (r.0, ap (λ (lines : List BodyLine). spell_records (taken_lines s.head c lines)) parts ∙ r.1)

  -- after all lines
  pub records-all : (at : ℕ) (first new : Option (List ℕ)) → length s.body ≤ at → Adds first new (so_far at) → Adds first new (records_text s c)
  records-all at first new past h = subst (λ (b : List BodyLine). Adds first new (spell_records (taken_lines s.head c (reverse b)))) (take_all at s.body past) h

  -- the whole demo, and its fronts
  module _ (is : nat_lt c s.head.clients ≡ true) where
    abbrev head : List ℕ
    head = spell_head (demo_head s.head c)

    parts-of : demo_text s c ≡ head ++ (records_text s c ++ ending)
    unfolding demo_text
    parts-of = rw is refl

    pub head-front : (w0 w1 : Option (List ℕ)) → AddsFront w0 w1 head → AddsFront w0 w1 (demo_text s c)
    head-front w0 w1 h = front_longer w0 w1 head (records_text s c ++ ending) (demo_text s c) h parts-of

    pub behind-head : (w0 w1 w2 : Option (List ℕ)) → Adds w0 w1 head → AddsFront w1 w2 (records_text s c) → AddsFront w0 w2 (demo_text s c)
    behind-head w0 w1 w2 h r = front_more w0 w1 w2 head (records_text s c) ending (demo_text s c) h r parts-of

    both : (w0 w1 w2 : Option (List ℕ)) → Adds w0 w1 head → Adds w1 w2 (records_text s c) → Adds w0 w2 (head ++ records_text s c)
    both w0 w1 w2 h r = adds_then w0 w1 w2 head (records_text s c) (head ++ records_text s c) h r refl

    grouped : demo_text s c ≡ (head ++ records_text s c) ++ ending
    grouped = parts-of ∙ sym (append_assoc head (records_text s c) ending)

    pub ending-front : (w0 w1 w2 w3 : Option (List ℕ)) → Adds w0 w1 head → Adds w1 w2 (records_text s c) → AddsFront w2 w3 ending → AddsFront w0 w3 (demo_text s c)
    ending-front w0 w1 w2 w3 h r e =
        front_more w0 w2 w3 (head ++ records_text s c) ending [] (demo_text s c) (both w0 w1 w2 h r) e
        (grouped ∙ ap (λ (l : List ℕ). (head ++ records_text s c) ++ l) (sym (append-nil ending)))

    pub all-written : (w0 w1 w2 w3 : Option (List ℕ)) → Adds w0 w1 head → Adds w1 w2 (records_text s c) → Adds w2 w3 ending → Adds w0 w3 (demo_text s c)
    all-written w0 w1 w2 w3 h r e = adds_then w0 w2 w3 (head ++ records_text s c) ending (demo_text s c) (both w0 w1 w2 h r) e grouped

  -- a client that the match hasn't has none
  pub none-written : nat_lt c s.head.clients ≡ false → (w : Option (List ℕ)) → Adds w w (demo_text s c)
  unfolding demo_text
  none-written lacks w = rw lacks (adds_nothing w)

-- ---- what a match that stands for lines tells

nth : {A : Type 0} (xs : List A) (i : ℕ) → i < length xs → A
nth [] i l = absurd (omega arith)
nth (x ∷ xs) zero l = x
nth (x ∷ xs) (suc i) l = nth xs i (omega arith)

module _ (m : MatchState) (line : BodyLine) (past : List BodyLine) (s : StandsFor m (line ∷ past)) (c : ℕ) (client : c < m.script.head.clients) where
  pub has-seat : c < length m.game.seats
  has-seat = omega (arith, client, s.game.seat_count, ap (λ (h : Head). h.clients) s.head)

  has-scope : c < length m.game.scopes
  has-scope = omega (arith, client, s.game.scope_count, ap (λ (h : Head). h.clients) s.head)

  pub seat : SeatState
  seat = nth m.game.seats c has-seat

  scope : Table
  scope = nth m.game.scopes c has-scope

  in-game : c < m.game.head.clients
  in-game = omega (arith, client, ap (λ (h : Head). h.clients) s.head)

  -- the datagrams that were sent to the client
  pub sent-down : (slice_index_or m.game.seats c seat).pair.down ≡ server_datagrams (client_terms m.script.head c) (history (client_terms m.script.head c) (steps_of m.script.head (line ∷ past) c)).server
  sent-down =
      subst (λ (h : Head). (slice_index_or m.game.seats c seat).pair.down ≡ server_datagrams (client_terms h c) (history (client_terms h c) (steps_of h (line ∷ past) c)).server) s.head
      (all-kept (slice_index_or m.game.seats c seat).pair (client_terms m.game.head c) (steps_of m.game.head (line ∷ past) c) (s.game.client c seat scope in-game).course.holds.pair (s.keeps c seat has-seat))

-- by what is known of the line
pub noted : (head : Head) (past : List BodyLine) (c : ℕ) (line : BodyLine) (k : ℕ) → Known head past c line → place_taken c (told_after head past line) ≡ Some k → (bytes : List ℕ) × IsNoted head past c line k bytes
noted head past c line k (inl un) e = absurd (cc (un.place, e))
noted head past c line k (inr n) e =
    let same : n.0 ≡ k = cc (n.2.place, e) in
    (n.1, subst (λ (i : ℕ). IsNoted head past c line i n.1) same n.2)

pub unnoted : (head : Head) (past : List BodyLine) (c : ℕ) (line : BodyLine) → Known head past c line → place_taken c (told_after head past line) ≡ None → taken_by head past c line ≡ []
unnoted head past c line (inl un) e = un.taken
unnoted head past c line (inr n) e = absurd (cc (n.2.place, e))

pub told-is : (head : Head) (line : BodyLine) (past : List BodyLine) (told : Told) → Some told ≡ last_told head (line ∷ past) → told ≡ told_after head past line
told-is head line past told e = cc

pub never-none : {x : List ℕ} → ◌≡◌ {A = Option (List ℕ)} None (Some x) → ⊥
never-none e = cc

pub same-some : (x y : List ℕ) → Some x ≡ Some y → x ≡ y
same-some x y e = cc

-- the datagram that the last line records
pub record IsSent (m : MatchState) (line : BodyLine) (past : List BodyLine) (c k : ℕ) (p : PairState) (bytes : List ℕ) : Type 0 where
  pub sent : slice_get p.down k ≡ Some bytes
  pub taken : taken_by m.script.head past c line ≡ bytes ∷ []
  pub some : 1 ≤ length bytes

pub sent-bytes : (m : MatchState) (line : BodyLine) (past : List BodyLine) → StandsFor m (line ∷ past) → (c k : ℕ) → c < m.script.head.clients → (told : Told) → Some told ≡ last_told m.script.head (line ∷ past)
    → place_taken c told ≡ Some k → (p : PairState) → ((d : SeatState) → p ≡ (slice_index_or m.game.seats c d).pair) → (bytes : List ℕ) × IsSent m line past c k p bytes
sent-bytes m line past s c k client told is place p pair =
    let there = told-is m.script.head line past told is in
    let n = noted m.script.head past c line k (known m.script.head past c line) (ap (place_taken c) (sym there) ∙ place) in (
      n.0,
      record {
        sent = ap (λ (q : PairState). slice_get q.down k) (pair (seat m line past s c client)) ∙ ap (λ (l : List (List ℕ)). slice_get l k) (sent-down m line past s c client) ∙ n.1.sent;
        taken = n.1.taken;
        some = n.1.some;
      },
    )

pub none-taken : (m : MatchState) (line : BodyLine) (past : List BodyLine) (c : ℕ) (told : Told) → Some told ≡ last_told m.script.head (line ∷ past) → place_taken c told ≡ None → taken_by m.script.head past c line ≡ []
none-taken m line past c told is place =
    unnoted m.script.head past c line (known m.script.head past c line) (ap (place_taken c) (sym (told-is m.script.head line past told is)) ∙ place)

-- the lines that a match was played for, with the next one
pub played-next : (m n : MatchState) → m.place < length m.script.body → n.script ≡ m.script → n.place ≡ m.place + 1 → IsPlayed n → (line : BodyLine) × (past : List BodyLine) × StandsFor n (line ∷ past)
played-next m n lt script place played =
    let l = next-line m.script m.place lt in
    let lines : reverse (take n.place n.script.body) ≡ l.0 ∷ reverse (take m.place m.script.body) =
    ap (λ (s : Script). reverse (take n.place s.body)) script ∙ ap (λ (k : ℕ). reverse (take k m.script.body)) place ∙ l.2 in
    (l.0, reverse (take m.place m.script.body), subst (StandsFor n) lines played)

-- what the first lines record is short enough, with the next one
pub short-more : (s : Script) (c at : ℕ) → at < length s.body → AllByRecursion IsRecord (taken_lines s.head c (reverse (take at s.body)))
    → ((line : BodyLine) → slice_get s.body at ≡ Some line → AllByRecursion IsRecord (taken_by s.head (reverse (take at s.body)) c line))
    → AllByRecursion IsRecord (taken_lines s.head c (reverse (take (at + 1) s.body)))
short-more s c at lt before more =
    let l = next-line s at lt in
    let past : List BodyLine = reverse (take at s.body) in
    subst (λ (lines : List BodyLine). AllByRecursion IsRecord (taken_lines s.head c lines)) (sym l.2)
    (all-append (taken_lines s.head c past) (taken_by s.head past c l.0) before (more l.0 l.1))
  where
    all-append : (xs ys : List (List ℕ)) → AllByRecursion IsRecord xs → AllByRecursion IsRecord ys → AllByRecursion IsRecord (xs ++ ys)
    all-append [] ys h k = k
    all-append (x ∷ xs) ys h k = (h.0, all-append xs ys h.1 k)

-- ---- answers

pub map-ok : {T E P Q : Type 0} (r : Result T E) → (P → Q) → OnOk r P → OnOk r Q
map-ok (Ok x) f p = f p
map-ok (Err e) f p = tt

pub map-err : {T E P Q : Type 0} (r : Result T E) → (P → Q) → OnErr r P → OnErr r Q
map-err (Ok x) f p = tt
map-err (Err e) f p = f p
