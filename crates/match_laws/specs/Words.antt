-- What a reader finds in a report by its words alone, with the script beside it. Line k of a report belongs to line k of the
-- script's body, and words stand between single spaces. A guaranteed event that was delivered is a word `g:` and its bytes. One
-- that was posted stands in the script, and the report's line has the word `g` behind the client, where it also has a number.
use Rattle.std.specs.Prelude.{ℕ, ◌≡◌, ◌<◌, ◌==◌, Bool, false, if◌then◌else◌, List, [], ◌∷◌, take, drop, zip, filter_map, flat_map, codes, Option, Some, None, refl}
use Rattle.std.specs.List.{AllByRecursion, slice_index_or}
use Rattle.std.specs.Str.{bytes_eq}
use Rattle.hex.specs.Hex.{encode_with}
use Rattle.tn_types.specs.declared.choices.Class.TheVariants.{Guaranteed}
use Rattle.tn_types.specs.Prefix.{IsPrefixOf}
use Rattle.match_script.specs.declared.types.BodyLine.{BodyLine}
use Rattle.match_script.specs.declared.types.BodyLine.TheVariants.{Post, ClientPost, Down, Up, Raw}
use Rattle.match_script.specs.declared.types.Script.{Script}
use Rattle.match_script.specs.Ranges.{HasRanges}
use Rattle.match_script.specs.Text.{lines_of, words_of}
use Rattle.match_script.specs.Print.{hex_word}
use Rattle.match_laws.specs.Report.{report}

-- a line of a script with its line of a report, the newline left out
abbrev pub ToldLine : Type 0
ToldLine = BodyLine × List ℕ

-- the lines of a script's body, each with its line of the report
abbrev pub side_by_side : List BodyLine → List ℕ → List ToldLine
side_by_side body report = zip body (lines_of report)

-- ---- which lines are a client's

abbrev pub is_down : ℕ → BodyLine → Bool
is_down c (Down d k) = c == d
is_down c line = false

abbrev pub is_up : ℕ → BodyLine → Bool
is_up c (Up d k) = c == d
is_up c line = false

-- a line `post c g`
abbrev pub is_post : ℕ → BodyLine → Bool
is_post c (Post d Guaranteed payload) = c == d
is_post c line = false

-- a line `cpost c g`
abbrev pub is_client_post : ℕ → BodyLine → Bool
is_client_post c (ClientPost d Guaranteed payload) = c == d
is_client_post c line = false

abbrev pub is_raw : ℕ → BodyLine → Bool
is_raw c (Raw d bytes) = c == d
is_raw c line = false

-- none of these lines brings the client's server bytes that the client need not have sent
abbrev pub HasNoRaw : ℕ → List BodyLine → Type 0
HasNoRaw c lines = AllByRecursion (λ line. is_raw c line ≡ false) lines

-- ---- delivered events

-- what stands behind `g:`, where a word begins so
abbrev pub behind_mark : List ℕ → Option (List ℕ)
behind_mark word = if bytes_eq (take 2 word) (codes "g:") then Some (drop 2 word) else None

-- the guaranteed events that a line of a report tells, as it spells their bytes
abbrev pub events_told : List ℕ → List (List ℕ)
events_told text = filter_map behind_mark (words_of text)

abbrev pub told_by : (BodyLine → Bool) → ToldLine → List (List ℕ)
told_by picks x = if picks x.0 then events_told x.1 else []

-- those of all lines that the test picks, in order
abbrev pub delivered_words : (BodyLine → Bool) → List ToldLine → List (List ℕ)
delivered_words picks lines = flat_map (told_by picks) lines

-- ---- posted events

-- the event that a line posts, as a script spells its bytes
abbrev pub payload_word : BodyLine → List ℕ
payload_word (Post c class payload) = hex_word payload
payload_word (ClientPost c class payload) = hex_word payload
payload_word line = []

-- a post is answered with a number: its third word is `g`
abbrev pub is_numbered : List ℕ → Bool
is_numbered text = bytes_eq (slice_index_or (words_of text) 2 []) (codes "g")

abbrev pub posted_by : (BodyLine → Bool) → ToldLine → List (List ℕ)
posted_by picks x = if picks x.0 then (if is_numbered x.1 then payload_word x.0 ∷ [] else []) else []

-- those of all lines that the test picks and the report answers with a number, in order
abbrev pub posted_words : (BodyLine → Bool) → List ToldLine → List (List ℕ)
posted_words picks lines = flat_map (posted_by picks) lines

-- ---- the law

-- For every script and each client with no line `raw`, at every line: what the `down` lines tell as delivered is what stands in
-- the `post` lines that were answered with a number, as far as it has come. The same holds of the `up` and the `cpost` lines.
abbrev pub PrintedInOrder : Type 0
PrintedInOrder = (s : Script) (c n : ℕ) → HasRanges s → c < s.head.clients → HasNoRaw c (take n s.body)
    → let lines = side_by_side (take n s.body) (report s) in
    IsPrefixOf (delivered_words (is_down c) lines) (posted_words (is_post c) lines)
    × IsPrefixOf (delivered_words (is_up c) lines) (posted_words (is_client_post c) lines)

-- ---- examples: the bytes of `hi` are posted and come, a second post is refused, and an event of no byte is posted

abbrev six_lines : List BodyLine
six_lines =
    Post 0 Guaranteed (104 ∷ 105 ∷ [])
    ∷ Post 0 Guaranteed (33 ∷ [])
    ∷ Post 0 Guaranteed []
    ∷ Post 1 Guaranteed (7 ∷ [])
    ∷ Down 0 0
    ∷ Down 0 0
    ∷ []

abbrev six_answers : List ℕ
six_answers = codes "post 0 g 0\npost 0 full 0 255\npost 0 g 1\npost 1 g 0\ndown 0 0 ok u:07 g:6869\ndown 0 0 old 1 1\n"

hi_is_delivered : delivered_words (is_down 0) (side_by_side six_lines six_answers) ≡ codes "6869" ∷ []
unfolding lines_of words_of
hi_is_delivered = refl

two_are_posted : posted_words (is_post 0) (side_by_side six_lines six_answers) ≡ codes "6869" ∷ codes "-" ∷ []
unfolding lines_of words_of encode_with
two_are_posted = refl

-- a word that only has the mark within it is no event
mark_within : events_told (codes "down 1 2 ok u:67 xg:00") ≡ []
unfolding words_of
mark_within = refl
