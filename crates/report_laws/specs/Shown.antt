-- What a reader finds of a client's copies in a report by its words alone, with the script beside it. Line n of a report belongs to line n
-- of the script's body, and words stand between single spaces. In the line of a `show` a word `|` stands before each copy, and behind it
-- the copy's slot, its kind, its block, and a word for each field: a number, and right behind it an `s` where the field is settled.
use Rattle.std.specs.Prelude.{ℕ, ℤ, pos, ◌≡◌, ◌<◌, Bool, true, false, if◌then◌else◌, List, [], ◌∷◌, ◌++◌, map, filter_map, option_map, take, drop, reverse, slice_get, codes, Option, Some, refl}
use Rattle.std.specs.List.{All}
use Rattle.std.specs.Str.{bytes_eq}
use Rattle.std.specs.Fmt.{decimal, signed_decimal, digits}
use Rattle.tn_types.specs.declared.limits.TheConstants.{MAX_SLOTS, MAX_FIELDS}
use Rattle.ghost_model.specs.Words.{upto}
use Rattle.ghost_client.specs.declared.copy.GhostCopy.{GhostCopy}
use Rattle.world_rules.specs.Kinds.{kind_word}
use Rattle.match_script.specs.declared.types.BodyLine.TheVariants.{Show}
use Rattle.match_script.specs.declared.types.Script.{Script}
use Rattle.match_script.specs.Ranges.{HasRanges}
use Rattle.match_script.specs.Text.{lines_of, words_of}
use Rattle.match_report.specs.declared.copies.FieldTold.{FieldTold}
use Rattle.match_report.specs.Text.{settled_mark}
use Rattle.match_laws.specs.Report.{report}
use Rattle.match_laws.specs.Words.{HasNoRaw}
use Rattle.match_laws.specs.Values.{ClientMoment, moment_of, copy_at, shown_at, ShowsHad, ShowsNewest}

-- line n of the script is `show c`, and this is its line of the report, the newline left out
pub record IsShow (s : Script) (c n : ℕ) (text : List ℕ) : Type 0 where
  pub asked : slice_get s.body n ≡ Some (Show c)
  pub answered : slice_get (lines_of (report s)) n ≡ Some text

-- ---- the words of copies

abbrev pub is_bar : List ℕ → Bool
is_bar word = bytes_eq word (codes "|")

-- the words before the next bar
abbrev pub upto_bar : List (List ℕ) → List (List ℕ)
upto_bar [] = []
upto_bar (word ∷ words) = if is_bar word then [] else word ∷ upto_bar words

-- behind each bar, the words before the next
abbrev pub behind_bars : List (List ℕ) → List (List (List ℕ))
behind_bars [] = []
behind_bars (word ∷ words) = if is_bar word then upto_bar words ∷ behind_bars words else behind_bars words

-- the words of each copy that a line prints
abbrev pub copies_printed : List ℕ → List (List (List ℕ))
copies_printed text = behind_bars (words_of text)

-- the words of its fields stand behind slot, kind and block
abbrev pub fields_printed : List (List ℕ) → List (List ℕ)
fields_printed words = drop 3 words

-- a word that ends in `s`
abbrev pub is_marked : List ℕ → Bool
is_marked word = bytes_eq (take 1 (reverse word)) (codes "s")

-- ---- what they are

-- the word of a field
abbrev pub field_word : FieldTold → List ℕ
field_word told = signed_decimal told.value ++ settled_mark told.settled

-- the words of a copy: each field as `shown_at` has it
abbrev pub copy_words : ClientMoment → ℕ → GhostCopy → List (List ℕ)
copy_words m at copy =
    decimal at ∷ kind_word copy.kind ∷ decimal copy.block ∷ map field_word (filter_map (shown_at m at copy) (upto MAX_FIELDS))

-- those of the copy in a slot, if there is one
abbrev pub slot_words : ClientMoment → ℕ → Option (List (List ℕ))
slot_words m at = option_map (copy_words m at) (copy_at m at)

-- each line `show` prints the client's copies as they are after the lines before it, by rising slot, and no others
abbrev pub PrintedAsShown : Type 0
PrintedAsShown = (s : Script) (c n : ℕ) (text : List ℕ) → IsShow s c n text
    → copies_printed text ≡ filter_map (slot_words (moment_of s c n)) (upto MAX_SLOTS)

-- ---- what they say

-- the word is a number for which a value is shown that the object had, and it ends in `s` only where that is the newest
pub record SaysValue (m : ClientMoment) (at kind f : ℕ) (word : List ℕ) : Type 0 where
  pub number : ℤ
  pub spelled : word ≡ signed_decimal number ++ settled_mark (is_marked word)
  pub had : ShowsHad m at kind f number
  pub newest : is_marked word ≡ true → ShowsNewest m at kind f number

-- the words name a slot and a kind, and that of each field says so
pub record SaysCopy (m : ClientMoment) (words : List (List ℕ)) : Type 0 where
  pub at : ℕ
  pub kind : ℕ
  pub in_slot : slice_get words 0 ≡ Some (decimal at)
  pub of_kind : slice_get words 1 ≡ Some (kind_word kind)
  pub values : (f : ℕ) (word : List ℕ) → slice_get (fields_printed words) f ≡ Some word → SaysValue m at kind f word

-- For every script and each client with no line `raw`: each field that a line `show` prints shows a value that the object had, at or
-- after the show of the period that holds the copy's slot at the server, and one with `s` the newest.
abbrev pub PrintedValues : Type 0
PrintedValues = (s : Script) (c n : ℕ) (text : List ℕ) → HasRanges s → c < s.head.clients → HasNoRaw c (take n s.body)
    → IsShow s c n text → All (SaysCopy (moment_of s c n)) (copies_printed text)

-- ---- examples

abbrev two_copies : List ℕ
two_copies = codes "show 0 events 0 sampled 0 accepted 0 taken 0 control - ghosts 2 | 0 flag 0 1800s -5 | 7 clock 2 2s"

words_of_two : copies_printed two_copies
    ≡ (codes "0" ∷ codes "flag" ∷ codes "0" ∷ codes "1800s" ∷ codes "-5" ∷ []) ∷ (codes "7" ∷ codes "clock" ∷ codes "2" ∷ codes "2s" ∷ []) ∷ []
unfolding words_of
words_of_two = refl

first_is_marked : map is_marked (codes "1800s" ∷ codes "-5" ∷ []) ≡ true ∷ false ∷ []
first_is_marked = refl

settled_at_five : field_word (record { value = pos 5; settled = true }) ≡ codes "5s"
unfolding digits
settled_at_five = refl
