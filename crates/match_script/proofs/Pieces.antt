-- The first line of a text, word by word.
use Rattle.std.proofs.Common.{◌≡◌, ℕ, suc, ◌+◌, ◌<◌, ◌≤◌, Bool, true, false, List, [], ◌∷◌, ◌++◌, length, take, drop, get_or, nat_eq, nat_lt, Err, refl, sym, ap, ◌∙◌, cond, not, Some, None, arith, add-one}
use Rattle.std.specs.List.{list_all, position, position_or_len}
use Rattle.std.proofs.lemmas.List.{take_all, drop_all, length-drop}
use Rattle.std.proofs.lemmas.List.Sums.{split_at_first}
use Rattle.match_script.specs.Text.{lines_of, words_of, is_text, is_text_byte}
use Rattle.match_script.specs.Shape.{AreWords, has_shape, is_word_byte, first_line, after_line, words_at, words_line}
use Rattle.match_script.specs.declared.words.Words.{Words}
use Rattle.match_script.specs.declared.words.Words.TheVariants.{One, Two, Three, Four, Six, Other}
use Rattle.match_script.specs.declared.types.ScriptFault.TheVariants.{UnknownWord}
use Rattle.match_script.specs.Lines.{body_line}
use Rattle.match_script.specs.Script.{line_at}
use Rattle.match_script.proofs.Cutting.{line_stops, line_ends, no_lines}

abbrev ends : ℕ → Bool
ends b = not (is_word_byte b)

abbrev stop : List ℕ → ℕ
stop text = position_or_len ends text

abbrev Parts : List ℕ → List (List ℕ) → Bool → List ℕ → Type 0
Parts text ws clean after = (words_of (first_line text) ≡ ws) × (is_text (first_line text) ≡ clean) × (after_line text ≡ after)

line_more : (b : ℕ) (text : List ℕ) → nat_eq b 10 ≡ false → first_line (b ∷ text) ≡ b ∷ first_line text
line_more b text e = let one : 1 + position_or_len (λ b. nat_eq b 10) text ≡ suc (position_or_len (λ b. nat_eq b 10) text) = omega arith in rw (e, one) refl

after_more : (b : ℕ) (text : List ℕ) → nat_eq b 10 ≡ false → after_line (b ∷ text) ≡ after_line text
after_more b text e = let one : 1 + position_or_len (λ b. nat_eq b 10) text ≡ suc (position_or_len (λ b. nat_eq b 10) text) = omega arith in rw (e, one) refl

-- a byte of a word in front
byte_more : (b : ℕ) (text word : List ℕ) (ws : List (List ℕ)) (clean : Bool) (after : List ℕ) → is_word_byte b ≡ true → Parts text (word ∷ ws) clean after → Parts (b ∷ text) ((b ∷ word) ∷ ws) clean after
unfolding words_of
byte_more b text word ws clean after h p =
    let no_end : nat_eq b 10 ≡ false = grind arith in
    let no_space : nat_eq b 32 ≡ false = grind arith in
    let printed : is_text_byte b ≡ true = grind arith in
    let l = line_more b text no_end in
    (rw (l, no_space, p.0) refl, rw (l, printed, p.1) refl, after_more b text no_end ∙ p.2)

-- whether the first byte and the others are of a word
both : (b : ℕ) (word : List ℕ) → list_all is_word_byte (b ∷ word) ≡ true → (is_word_byte b ≡ true) × (list_all is_word_byte word ≡ true)
both b word h = (grind arith, grind arith)

inner : (word rest : List ℕ) → list_all is_word_byte word ≡ true → Parts (word ++ 32 ∷ rest) (word ∷ words_of (first_line rest)) (is_text (first_line rest)) (after_line rest)
unfolding words_of
inner [] rest h = let l = line_more 32 rest refl in (rw l refl, rw l refl, after_more 32 rest refl)
inner (b ∷ word) rest h = let t = both b word h in byte_more b (word ++ 32 ∷ rest) word (words_of (first_line rest)) (is_text (first_line rest)) (after_line rest) t.0 (inner word rest t.1)

last : (word rest : List ℕ) → list_all is_word_byte word ≡ true → Parts (word ++ 10 ∷ rest) (word ∷ []) true rest
unfolding words_of
last [] rest h = (refl, refl, refl)
last (b ∷ word) rest h = let t = both b word h in byte_more b (word ++ 10 ∷ rest) word [] true rest t.0 (last word rest t.1)

whole : (word : List ℕ) → list_all is_word_byte word ≡ true → Parts word (word ∷ []) true []
unfolding words_of
whole [] h = (refl, refl, refl)
whole (b ∷ word) h = let t = both b word h in byte_more b word word [] true [] t.0 (whole word t.1)

front_step : (t : Bool) (b : ℕ) (text : List ℕ) (n : ℕ) → is_word_byte b ≡ t → list_all is_word_byte (take n text) ≡ true → list_all is_word_byte (take (cond (not (not t)) (1 + n) 0) (b ∷ text)) ≡ true
front_step true b text n e h = let one : 1 + n ≡ suc n = omega arith in rw (one, e) h
front_step false b text n e h = refl

front : (text : List ℕ) → list_all is_word_byte (take (stop text) text) ≡ true
front [] = refl
front (b ∷ text) = front_step (is_word_byte b) b text (stop text) refl (front text)

stopped : (text : List ℕ) (i : ℕ) → position ends text ≡ Some i → (stop text ≡ i) × (stop text < length text)
stopped text i e = (grind arith, grind arith)

not_stopped : (text : List ℕ) → position ends text ≡ None → length text ≤ stop text
not_stopped text e = grind arith

-- the text by its first word and the byte behind it
split : (text : List ℕ) (c : ℕ) → stop text < length text → get_or text (stop text) 0 ≡ c → text ≡ take (stop text) text ++ c ∷ drop (stop text + 1) text
split text c lt e = split_at_first ends text 0 lt ∙ ap (λ b. take (stop text) text ++ b ∷ drop (stop text + 1) text) e

moved : (text same : List ℕ) (ws : List (List ℕ)) (clean : Bool) (after : List ℕ) → text ≡ same → Parts same ws clean after → Parts text ws clean after
moved text same ws clean after e p = (ap (λ t. words_of (first_line t)) e ∙ p.0, ap (λ t. is_text (first_line t)) e ∙ p.1, ap after_line e ∙ p.2)

inner_at : (text : List ℕ) → stop text < length text → get_or text (stop text) 0 ≡ 32 → Parts text (take (stop text) text ∷ words_of (first_line (drop (stop text + 1) text))) (is_text (first_line (drop (stop text + 1) text))) (after_line (drop (stop text + 1) text))
inner_at text lt e = moved text _ _ _ _ (split text 32 lt e) (inner (take (stop text) text) (drop (stop text + 1) text) (front text))

last_at : (text : List ℕ) → stop text < length text → get_or text (stop text) 0 ≡ 10 → Parts text (take (stop text) text ∷ []) true (drop (stop text + 1) text)
last_at text lt e = moved text _ _ _ _ (split text 10 lt e) (last (take (stop text) text) (drop (stop text + 1) text) (front text))

pub inner_piece : (text : List ℕ) (i : ℕ) → position ends text ≡ Some i → get_or text i 0 ≡ 32 → Parts text (take i text ∷ words_of (first_line (drop (i + 1) text))) (is_text (first_line (drop (i + 1) text))) (after_line (drop (i + 1) text))
inner_piece text i e s = let p = stopped text i e in rw (← p.0) (inner_at text p.1 (rw p.0 s))

pub last_piece : (text : List ℕ) (i : ℕ) → position ends text ≡ Some i → get_or text i 0 ≡ 10 → Parts text (take i text ∷ []) true (drop (i + 1) text)
last_piece text i e s = let p = stopped text i e in rw (← p.0) (last_at text p.1 (rw p.0 s))

pub whole_piece : (text : List ℕ) → position ends text ≡ None → Parts text (take (length text) text ∷ []) true (drop (length text) text)
whole_piece text e =
    let f = front text in
    let a = take_all (stop text) text (not_stopped text e) in
    rw (take_all (length text) text (omega arith), drop_all (length text) text (omega arith)) (whole text (rw a at f))

abbrev place : List ℕ → ℕ
place text = position_or_len (λ b. nat_eq b 10) text

by_place : (v : Bool) (text : List ℕ) → nat_lt (place text) (length text) ≡ v → 0 < length text → lines_of text ≡ first_line text ∷ lines_of (after_line text)
by_place true text e some = rw add-one at (line_stops text (place text) (rw e refl))
by_place false text e some =
    let l : length text ≤ place text = grind arith in
    rw (take_all (place text) text l, drop_all (suc (place text)) text (omega arith), no_lines) (line_ends text (rw e refl) some)

-- a text by its first line
pub first_of_lines : (text : List ℕ) → 0 < length text → lines_of text ≡ first_line text ∷ lines_of (after_line text)
first_of_lines text some = by_place (nat_lt (place text) (length text)) text refl some

pub after_shorter : (text : List ℕ) → 0 < length text → length (after_line text) < length text
after_shorter text some = let d = length-drop (suc (place text)) text in omega arith

abbrev head_of : List (List ℕ) → List ℕ
head_of [] = []
head_of (line ∷ lines) = line

pub cut_is_first : (text line rest : List ℕ) → 0 < length text → lines_of text ≡ line ∷ lines_of rest → line ≡ first_line text
cut_is_first text line rest some e = ap head_of (sym e ∙ first_of_lines text some)

pub cut_first : (text line rest : List ℕ) → 0 < length text → lines_of text ≡ line ∷ lines_of rest → lines_of text ≡ first_line text ∷ lines_of rest
cut_first text line rest some e = e ∙ ap (λ l. l ∷ lines_of rest) (cut_is_first text line rest some e)

-- the words of a line say what the line says
by_words : (clients : ℕ) (words : Words) (ws : List (List ℕ)) → AreWords words ws → words_line clients words ≡ body_line clients ws
unfolding body_line
by_words clients (One a) ws e = rw e refl
by_words clients (Two a b) ws e = rw e refl
by_words clients (Three a b c) ws e = rw e refl
by_words clients (Four a b c d) ws e = rw e refl
by_words clients (Six a b c d e f) ws is = rw is refl
by_words clients Other ws e = other ws e
  where
    other : (ws : List (List ℕ)) → has_shape ws ≡ false → Err UnknownWord ≡ body_line clients ws
    other [] e = refl
    other (a ∷ []) e = absurd (cc)
    other (a ∷ b ∷ []) e = absurd (cc)
    other (a ∷ b ∷ c ∷ []) e = absurd (cc)
    other (a ∷ b ∷ c ∷ d ∷ []) e = absurd (cc)
    other (a ∷ b ∷ c ∷ d ∷ e ∷ []) h = refl
    other (a ∷ b ∷ c ∷ d ∷ e ∷ f ∷ []) h = absurd (cc)
    other (a ∷ b ∷ c ∷ d ∷ e ∷ f ∷ g ∷ ws) h = refl

pub words_say : (clients k : ℕ) (words : Words) (line : List ℕ) → is_text line ≡ true → AreWords words (words_of line) → words_at clients k words ≡ line_at clients k line
unfolding words_at line_at
words_say clients k words line clean are = rw (clean, by_words clients words (words_of line) are) refl
