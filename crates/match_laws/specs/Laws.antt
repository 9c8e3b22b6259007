-- What the report of a script and the journals of its clients promise.
use Rattle.std.specs.Prelude.{ℕ, ◌≡◌, ◌<◌, ◌==◌, Bool, true, false, if◌then◌else◌, List, [], ◌∷◌, ◌++◌, reverse, take, Some}
use Rattle.match_script.specs.declared.types.BodyLine.{BodyLine}
use Rattle.match_script.specs.declared.types.BodyLine.TheVariants.{Pack}
use Rattle.match_script.specs.declared.types.Head.{Head}
use Rattle.match_script.specs.declared.types.Script.{Script}
use Rattle.match_script.specs.Ranges.{LineFits, HasRanges}
use Rattle.match_report.specs.Text.{report_line}
use Rattle.stream_manager.specs.Limits.{Terms}
use Rattle.client_seat.specs.pair_core.History.{PairStep}
use Rattle.client_seat.specs.pair_core.Conditions.{IsHonest}
use Rattle.client_seat.specs.pair_core.Laws.{DeliversDown, DeliversUp, AcceptsInOrder}
use Rattle.client_seat.specs.pair_core.LooseEvents.{LooseDown, LooseUp}
use Rattle.client_seat.specs.pair_core.Refusals.{IsOldAtClient, IsOldAtServer}
use Rattle.match_report.specs.declared.told.Told.{Told}
use Rattle.match_report.specs.declared.told.Told.TheVariants.{ServerRefused, ClientRefused}
use Rattle.match_script.specs.Named.{client_named}
use Rattle.client_seat.specs.own_lists.Own.{OwnItem, Line}
use Rattle.client_seat.specs.own_lists.Kept.{kept, journal}
use Rattle.client_seat.specs.own_lists.Past.{client_terms, after}
use Rattle.client_seat.specs.Told.{pack_told}
use Rattle.match_laws.specs.Report.{told_after, told_lines}

-- ---- isolation

abbrev pub is_pack : ℕ → BodyLine → Bool
is_pack c (Pack d) = d == c
is_pack c line = false

-- the report's lines of the `pack c` lines
abbrev pub packs_in : ℕ → List (BodyLine × List ℕ) → List (List ℕ)
packs_in c [] = []
packs_in c (x ∷ xs) = if is_pack c x.0 then x.1 ∷ packs_in c xs else packs_in c xs

abbrev pub is_own_pack : OwnItem → Bool
is_own_pack (Line (Pack c)) = true
is_own_pack item = false

-- what a server that is fed with an own list alone writes for its packs
abbrev pub pack_lines : Terms → List OwnItem → List (List ℕ)
pack_lines t [] = []
pack_lines t (item ∷ items) =
    pack_lines t items
    ++ (if is_own_pack item then report_line (pack_told t (kept t items) t.config.client) ∷ [] else [])

-- the `pack c` lines of a script's report are a function of the client's own list, of three numbers, the blocks and the kinds
-- of a match, and of nothing else
abbrev pub Isolation : Type 0
Isolation =
    (head : Head) (c : ℕ) (past : List BodyLine)
    → packs_in c (told_lines head past) ≡ pack_lines (client_terms head c) ((after head past).own c)

-- ---- delivered prefixes

-- the first n lines of a script, the newest first
abbrev pub first : ℕ → Script → List BodyLine
first n s = reverse (take n s.body)

abbrev pub journal_of : Script → ℕ → ℕ → List PairStep
journal_of s c n = journal (client_terms s.head c) ((after s.head (first n s)).own c)

-- what a connection law says of each honest client's journal at every line
abbrev pub AtEveryLine : (Terms → List PairStep → Type 0) → Type 0
AtEveryLine law = (s : Script) (c n : ℕ) → HasRanges s → c < s.head.clients → IsHonest (journal_of s c n)
    → law (client_terms s.head c) (journal_of s c n)

-- at every line, what each end of each connection delivered is what the other end posted, as far as it has come
abbrev pub EventsInOrder : Type 0
EventsInOrder = AtEveryLine (λ t steps. DeliversDown t steps × DeliversUp t steps)

-- at every line, the moves that the server accepted are those that the client sampled, as far as they have come
abbrev pub MovesInOrder : Type 0
MovesInOrder = AtEveryLine AcceptsInOrder

-- at every line, the unguaranteed events that an end delivered are some of those that the other end posted, in order
abbrev pub LooseInOrder : Type 0
LooseInOrder = AtEveryLine (λ t steps. LooseDown t steps × LooseUp t steps)

-- ---- refusals

-- a line of the report that tells no refusal by an end, or that of an old packet
abbrev pub TellsLittle : Told → Type 0
TellsLittle (ServerRefused way c k fault) = IsOldAtServer fault
TellsLittle (ClientRefused c k fault) = IsOldAtClient fault
TellsLittle other = Unit {0}

-- the client that the line names, if it names one, is honest after the first n lines and this one
abbrev pub IsHonestWith : Script → ℕ → BodyLine → Type 0
IsHonestWith s n line = (c : ℕ) → client_named line ≡ Some c
    → IsHonest (journal (client_terms s.head c) ((after s.head (line ∷ first n s)).own c))

-- whatever line comes next, at every line, an end refuses no datagram but an old one, where the line's client is honest with it
abbrev pub LittleIsRefused : Type 0
LittleIsRefused = (s : Script) (n : ℕ) (line : BodyLine) → HasRanges s → LineFits s.head.clients line → IsHonestWith s n line
    → TellsLittle (told_after s.head (first n s) line)
