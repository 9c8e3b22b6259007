-- What a replay of any bytes with a head tells: a line for each whole record, and a last one of what is shown behind them. Each
-- line is a function of the viewer's packets before the record. What is shown are the number of guaranteed events that were
-- delivered, and the copies as in a `show` line of a report, without marks of settled fields.
use Rattle.std.specs.Prelude.{ℕ, suc, Bool, List, [], ◌∷◌, ◌++◌, map, take, codes, if◌then◌else◌, Ok, Err}
use Rattle.std.specs.List.{flat_map}
use Rattle.tn_types.specs.declared.choices.Class.{Class}
use Rattle.tn_types.specs.Checks.{Checked}
use Rattle.quantised_fields.specs.declared.kind.Kind.{Kind}
use Rattle.demo_view.specs.wire_format.declared.server.ServerPacket.{ServerPacket}
use Rattle.demo_view.specs.stream_manager.declared.fault.ClientFault.{ClientFault}
use Rattle.demo_view.specs.stream_manager.Packets.{ghosts_seen}
use Rattle.world_rules.specs.Kinds.{match_kinds}
use Rattle.match_report.specs.declared.told.EventTold.{EventTold}
use Rattle.match_report.specs.Replays.{took_line, untaken_line, shown_line}
use Rattle.copies_told.specs.Told.{copies_told}
use Rattle.demo_format.specs.declared.head.DemoHead.{DemoHead}
use Rattle.demo_format.specs.Head.{head_in}
use Rattle.demo_format.specs.Records.{records_of, rest_of, body_of, is_ending}
use Rattle.demo_view.specs.Viewing.{ViewTerms, taking, viewed, view_answer, news_of, count_delivered}

-- whose viewer a demo is for
abbrev pub terms_in : DemoHead → ViewTerms
terms_in head = record { client = head.client; version = head.version; kinds = match_kinds }

-- ---- records

abbrev pub event_told : Class × List ℕ → EventTold
event_told event = record { class = event.0; payload = event.1 }

-- what a replay tells of a record: it was taken, and these events were handed out; or why it was refused
pub data Replayed : Type 0 where
  Took : ℕ → List EventTold → Replayed
  Refused : ℕ → ClientFault → Replayed

abbrev pub told_as : ℕ → List EventTold → Checked ClientFault → Replayed
told_as k events (Ok u) = Took k events
told_as k events (Err fault) = Refused k fault

-- what is told of record k behind these packets
abbrev pub record_told : ViewTerms → ℕ → List ℕ → List ServerPacket → Replayed
record_told t k bytes packets = told_as k (map event_told (news_of t bytes packets)) (view_answer t bytes packets)

-- of the records from number k on
abbrev pub records_told : ViewTerms → ℕ → List ServerPacket → List (List ℕ) → List Replayed
records_told t k packets [] = []
records_told t k packets (bytes ∷ records) = record_told t k bytes packets ∷ records_told t (suc k) (taking t bytes packets) records

-- the lines of a replay but the last
abbrev pub takes_told : List ℕ → List Replayed
takes_told bytes = records_told (terms_in (head_in bytes)) 0 [] (records_of (body_of bytes))

-- what a viewer has taken behind all records, and behind the first k
abbrev pub packets_behind : List ℕ → List ServerPacket
packets_behind bytes = viewed (terms_in (head_in bytes)) (records_of (body_of bytes))

abbrev pub packets_at : List ℕ → ℕ → List ServerPacket
packets_at bytes k = viewed (terms_in (head_in bytes)) (take k (records_of (body_of bytes)))

-- ---- texts

abbrev pub replayed_line : Replayed → List ℕ
replayed_line (Took k events) = took_line k events
replayed_line (Refused k fault) = untaken_line k fault

-- what these packets show, behind a word
abbrev pub shown_behind : List ℕ → List Kind → List ServerPacket → List ℕ
shown_behind word kinds packets = shown_line word (count_delivered packets) (copies_told kinds (ghosts_seen packets))

-- how the last line begins, by what stands behind the last whole record
abbrev pub word_for : Bool → List ℕ
word_for ended = if ended then codes "end" else codes "cut"

abbrev pub last_word : List ℕ → List ℕ
last_word bytes = word_for (is_ending (rest_of (body_of bytes)))

-- what a replay writes behind a head, of the bytes behind it
abbrev pub replay_of : DemoHead → List ℕ → List ℕ
replay_of head body =
    flat_map replayed_line (records_told (terms_in head) 0 [] (records_of body))
    ++ shown_behind (word_for (is_ending (rest_of body))) match_kinds (viewed (terms_in head) (records_of body))

-- and of any bytes with a head
abbrev pub replay_text : List ℕ → List ℕ
replay_text bytes = replay_of (head_in bytes) (body_of bytes)

-- what a replay of the first k records writes, or of all where there are fewer
abbrev pub replay_at_of : DemoHead → List ℕ → ℕ → List ℕ
replay_at_of head body k = shown_behind (codes "at") match_kinds (viewed (terms_in head) (take k (records_of body)))

abbrev pub replay_at_text : List ℕ → ℕ → List ℕ
replay_at_text bytes k = replay_at_of (head_in bytes) (body_of bytes) k
