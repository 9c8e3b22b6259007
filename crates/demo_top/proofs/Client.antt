-- The demo of a client, replayed, tells what the client was told.
use Rattle.std.proofs.Common.{◌≡◌, ℕ, suc, ◌+◌, ◌<◌, true, List, [], ◌∷◌, ◌++◌, length, reverse, map, drop, Option, Ok, Err, Result, refl, sym, ◌∙◌, ap, subst, arith, inl, inr, length-append, nat_lt}
use Rattle.std.specs.Prelude.{codes}
use Rattle.std.specs.List.{flat_map}
use Rattle.std.proofs.lemmas.Bool.Decides.{nat_tests}
use Rattle.tn_types.specs.Checks.{Checked}
use Rattle.match_script.specs.declared.types.BodyLine.{BodyLine}
use Rattle.match_script.specs.declared.types.Head.{Head}
use Rattle.match_script.specs.declared.types.Script.{Script}
use Rattle.match_script.specs.Ranges.{HasRanges}
use Rattle.match_report.specs.declared.told.EventTold.{EventTold}
use Rattle.match_report.specs.Replays.{shown_line}
use Rattle.copies_told.specs.Told.{copies_told}
use Rattle.world_rules.specs.Kinds.{match_kinds}
use Rattle.own_lists.specs.Past.{client_terms}
use Rattle.demo_format.specs.declared.head.DemoHead.{DemoHead}
use Rattle.demo_format.specs.Head.{read_head, head_in, IsHead}
use Rattle.demo_format.specs.Records.{spell_records, spell_demo, ending, records_of, rest_of, is_ending}
use Rattle.demo_format.proofs.Reading.{read-written}
use Rattle.demo_format.proofs.Recording.{written-records, only-reading}
use Rattle.demo_replay.specs.demo_view.wire_format.declared.server.ServerPacket.{ServerPacket}
use Rattle.demo_replay.specs.demo_view.wire_format.declared.ghosts.GhostItem.{GhostItem}
use Rattle.demo_replay.specs.demo_view.stream_manager.declared.fault.ClientFault.{ClientFault}
use Rattle.demo_replay.specs.demo_view.stream_manager.Limits.{Terms}
use Rattle.demo_replay.specs.demo_view.stream_manager.Faults.{without_packet}
use Rattle.demo_replay.specs.demo_view.stream_manager.Client.{ClientEvent, client_end, ghosts_came, client_answer, arriving}
use Rattle.demo_replay.specs.demo_view.stream_manager.End.{delivered_at, came_of}
use Rattle.demo_replay.specs.demo_view.stream_manager.Packets.{packets_at, delivered_to, ghosts_seen}
use Rattle.demo_replay.specs.demo_view.Viewing.{ViewTerms, viewed, viewing, taking, view_answer, news_of}
use Rattle.demo_view.proofs.Alike.{views-with-client, takes-with-client}
use Rattle.demo_view.proofs.Below.stream_manager.Packets.{shows-alike}
use Rattle.demo_taken.specs.Taken.{viewer_terms}
use Rattle.demo_taken.specs.pair_core.History.{client_gets}
use Rattle.demo_taken.proofs.Taking.{takes-the-same}
use Rattle.event_manager.specs.Receiving.{run_of}
use Rattle.demo_record.specs.match_engine.client_seat.Told.{handed_down}
use Rattle.demo_record.specs.match_engine.match_laws.Report.{told_after}
use Rattle.demo_record.specs.match_engine.match_laws.Values.{steps_of}
use Rattle.demo_record.specs.Laws.{client_log}
use Rattle.demo_record.specs.Recording.{AreRecorded, demo_head, demo_text, events_by, events_down, taken_by, taken_lines}
use Rattle.demo_record.proofs.Lines.{records-the-connection}
use Rattle.demo_record.proofs.Noted.{Known, IsNoted, known, no-events}
use Rattle.demo_replay.specs.Replaying.{Replayed, Took, terms_in, event_told, record_told, records_told, told_as, replayed_line, takes_told, replay_text, shown_behind, word_for}
use Rattle.demo_replay.proofs.Written.{head-is, told-append}
use Rattle.demo_top.specs.Laws.{takes_of, client_shown, IsToldOf, TellsTheClient}

-- ---- lists of lines `take`

takes-append : (k : ℕ) (xs ys : List (List EventTold)) → takes_of k (xs ++ ys) ≡ takes_of k xs ++ takes_of (k + length xs) ys
takes-append k [] ys = let e : k + 0 ≡ k = omega arith in rw e refl
takes-append k (x ∷ xs) ys =
    let e : suc k + length xs ≡ k + suc (length xs) = omega arith in
    ap (λ (l : List Replayed). Took k x ∷ l) (takes-append (suc k) xs ys ∙ ap (λ (n : ℕ). takes_of (suc k) xs ++ takes_of n ys) e)

with-packet : (r : Result ServerPacket ClientFault) → without_packet r ≡ Ok tt → (p : ServerPacket) × (r ≡ Ok p)
with-packet (Ok p) e = (p, refl)
with-packet (Err f) e = cc

-- ---- each line `down` by which a datagram came, and its record

module _ (head : Head) (c : ℕ) where
  abbrev t : Terms
  t = client_terms head c

  abbrev vt : ViewTerms
  vt = viewer_terms t

  packets-are : (past : List BodyLine) → viewed vt (taken_lines head c past) ≡ packets_at (client_log head c past)
  packets-are past = ap (λ (l : List (List ℕ)). viewed vt l) (records-the-connection head c past) ∙ takes-the-same t (steps_of head past c)

  module _ (past : List BodyLine) (line : BodyLine) (k : ℕ) (bytes : List ℕ) (n : IsNoted head past c line k bytes) where
    abbrev log : List ClientEvent
    log = client_log head c past

    taken-packet : (p : ServerPacket) × (client_answer t.config t.kinds log bytes ≡ Ok p)
    taken-packet = with-packet (client_answer t.config t.kinds log bytes) n.accepted

    -- the viewer takes it
    answers : view_answer vt bytes (packets_at log) ≡ Ok tt
    answers = ap without_packet (views-with-client t.config t.kinds log bytes taken-packet.0 taken-packet.1)

    -- and delivers what the client does
    behind : delivered_to (taking vt bytes (packets_at log)) ≡ delivered_at (client_end (arriving t.config t.kinds bytes log))
    behind =
        ap delivered_to (takes-with-client t.config t.kinds log bytes taken-packet.0 taken-packet.1)
        ∙ (shows-alike (arriving t.config t.kinds bytes log)).delivered

    -- so it hands out the same
    abbrev handed_by : List ClientEvent → List EventTold
    handed_by after = map event_told (drop (length (delivered_at (client_end log))) (delivered_at (client_end after)))

    hands-out : map event_told (news_of vt bytes (packets_at log)) ≡ handed_down t (steps_of head past c) k
    hands-out =
        ap (λ l. map event_told (drop (length l) (delivered_to (taking vt bytes (packets_at log))))) (shows-alike log).delivered
        ∙ ap (λ l. map event_told (drop (length (delivered_at (client_end log))) l)) behind
        ∙ ap (λ (sent : Option (List ℕ)). handed_by (client_gets t sent log)) (sym n.there)

    record-is : (m : ℕ) → record_told vt m bytes (packets_at log) ≡ Took m (handed_down t (steps_of head past c) k)
    record-is m =
        ap (λ (r : Checked ClientFault). told_as m (map event_told (news_of vt bytes (packets_at log))) r) answers
        ∙ ap (Took m) hands-out

  -- what a line records, and what it hands out
  module _ (past : List BodyLine) (line : BodyLine) where
    as-many : Known head past c line → length (taken_by head past c line) ≡ length (events_by c (told_after head past line))
    as-many (inl un) = ap length un.taken ∙ sym (ap length (no-events c (told_after head past line) un.place))
    as-many (inr (k, bytes, n)) = ap length n.taken ∙ sym (ap length n.events)

    told-line : (m : ℕ) → Known head past c line
        → records_told vt m (packets_at (client_log head c past)) (taken_by head past c line) ≡ takes_of m (events_by c (told_after head past line))
    told-line m (inl un) =
        ap (records_told vt m (packets_at (client_log head c past))) un.taken ∙ sym (ap (takes_of m) (no-events c (told_after head past line) un.place))
    told-line m (inr (k, bytes, n)) =
        ap (records_told vt m (packets_at (client_log head c past))) n.taken
        ∙ ap (λ (x : Replayed). x ∷ []) (record-is past line k bytes n m)
        ∙ sym (ap (takes_of m) n.events)

  same-count : (past : List BodyLine) → length (taken_lines head c past) ≡ length (events_down head c past)
  same-count [] = refl
  same-count (line ∷ past) =
      length-append (taken_lines head c past) (taken_by head past c line)
      ∙ ap (λ (n : ℕ). n + length (taken_by head past c line)) (same-count past)
      ∙ ap (λ (n : ℕ). length (events_down head c past) + n) (as-many past line (known head past c line))
      ∙ sym (length-append (events_down head c past) (events_by c (told_after head past line)))

  pub takes-are : (past : List BodyLine) → records_told vt 0 [] (taken_lines head c past) ≡ takes_of 0 (events_down head c past)
  takes-are [] = refl
  takes-are (line ∷ past) =
      let before = taken_lines head c past in
      let here = taken_by head past c line in
      told-append vt 0 [] before here
      ∙ ap (λ (l : List Replayed). l ++ records_told vt (0 + length before) (viewing vt before []) here) (takes-are past)
      ∙ ap (λ (packets : List ServerPacket). takes_of 0 (events_down head c past) ++ records_told vt (0 + length before) packets here) (packets-are past)
      ∙ ap (λ (l : List Replayed). takes_of 0 (events_down head c past) ++ l) (told-line past line (0 + length before) (known head past c line))
      ∙ ap (λ (n : ℕ). takes_of 0 (events_down head c past) ++ takes_of (0 + n) (events_by c (told_after head past line))) (same-count past)
      ∙ sym (takes-append 0 (events_down head c past) (events_by c (told_after head past line)))

  -- what is shown behind all records
  pub shown-is : (word : List ℕ) (past : List BodyLine)
      → shown_behind word match_kinds (viewed vt (taken_lines head c past))
      ≡ shown_line word (run_of (came_of (client_end (client_log head c past)))) (copies_told match_kinds (ghosts_came (client_log head c past)))
  shown-is word past =
      ap (shown_behind word match_kinds) (packets-are past)
      ∙ ap (λ l. shown_line word (run_of l) (copies_told match_kinds (ghosts_seen (packets_at (client_log head c past))))) (shows-alike (client_log head c past)).events
      ∙ ap (λ (l : List GhostItem). shown_line word (run_of (came_of (client_end (client_log head c past)))) (copies_told match_kinds l)) (shows-alike (client_log head c past)).ghosts

-- ---- a demo that was written is read back

is-head : (head : Head) (c : ℕ) (script : Script) → HasRanges script → script.head ≡ head → c < head.clients → IsHead (demo_head head c)
is-head head c script ranges same lt = subst (λ (h : Head). c < h.clients → IsHead (demo_head h c)) same (λ few. record {
  client = omega (arith, few, ranges.head.clients);
  version_least = ranges.head.version_least;
  version_most = ranges.head.version;
  life_least = ranges.head.life_least;
  life_most = ranges.head.life;
  size_least = ranges.head.size_least;
  size_most = ranges.head.size;
}) lt

module _ (script : Script) (c : ℕ) (ranges : HasRanges script) (lt : c < script.head.clients) (recorded : AreRecorded script c) where
  abbrev past : List BodyLine
  past = reverse script.body

  abbrev h : DemoHead
  h = demo_head script.head c

  abbrev records : List (List ℕ)
  records = taken_lines script.head c past

  -- what stands behind the head
  abbrev body : List ℕ
  body = spell_records records ++ ending

  abbrev demo : List ℕ
  demo = spell_demo h records

  demo-is : demo_text script c ≡ demo
  unfolding demo_text
  demo-is = let yes : nat_lt c script.head.clients ≡ true = grind (arith, nat_tests, lt) in rw yes refl

  head-read : read_head demo ≡ Ok h
  head-read = read-written h (is-head script.head c script ranges refl lt) body

  same-head : head_in demo ≡ h
  same-head = head-is demo h head-read

  reading : (records ≡ records_of body) × (ending ≡ rest_of body)
  reading = only-reading records body ending (written-records records recorded)

  takes-read : takes_told demo ≡ takes_of 0 (events_down script.head c past)
  takes-read =
      ap (λ (x : DemoHead). records_told (terms_in x) 0 [] (records_of body)) same-head
      ∙ ap (λ (l : List (List ℕ)). records_told (terms_in h) 0 [] l) (sym reading.0)
      ∙ takes-are script.head c past

  -- the last line, by the bytes behind the head, by the head and by what stands behind the records
  abbrev last : DemoHead → List (List ℕ) → List ℕ → List ℕ
  last x l rest = shown_behind (word_for (is_ending rest)) match_kinds (viewed (terms_in x) l)

  last-read : last (head_in demo) (records_of body) (rest_of body) ≡ client_shown (client_log script.head c past)
  last-read =
      ap (last (head_in demo) (records_of body)) (sym reading.1)
      ∙ ap (λ (x : DemoHead). last x (records_of body) ending) same-head
      ∙ ap (λ (l : List (List ℕ)). last h l ending) (sym reading.0)
      ∙ shown-is script.head c (codes "end") past

  abbrev told : List ℕ
  told = flat_map replayed_line (takes_of 0 (events_down script.head c past))

  text-read : replay_text demo ≡ told ++ client_shown (client_log script.head c past)
  text-read =
      ap (λ (l : List Replayed). flat_map replayed_line l ++ last (head_in demo) (records_of body) (rest_of body)) takes-read
      ∙ ap (λ (l : List ℕ). told ++ l) last-read

  pub is-told : IsToldOf script c
  is-told = record {
    head = ap read_head demo-is ∙ head-read;
    takes = ap takes_told demo-is ∙ takes-read;
    text = ap replay_text demo-is ∙ text-read;
  }

pub tells-the-client : TellsTheClient
tells-the-client script c ranges lt recorded = is-told script c ranges lt recorded
