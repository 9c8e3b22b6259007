-- A text that is cut at a space has the words of both parts, and the lines of a report are those that were told.
use Rattle.std.proofs.Common.{◌≡◌, ℕ, ◌==◌, Bool, true, false, not, List, [], ◌∷◌, ◌++◌, map, if◌then◌else◌, None, refl, sym, ap, ◌∙◌, arith, append-nil}
use Rattle.std.specs.Prelude.{codes, filter_map}
use Rattle.std.specs.List.{AllByRecursion, list_all, flat_map}
use Rattle.std.specs.Str.{bytes_eq}
use Rattle.std.proofs.lemmas.Bool.{and_parts, and_from}
use Rattle.std.proofs.lemmas.Bool.Decides.{nat_tests}
use Rattle.std.proofs.lemmas.List.Elements.{filter_map-append}
use Rattle.tn_types.specs.declared.choices.Class.{Class}
use Rattle.tn_types.specs.declared.choices.Class.TheVariants.{Guaranteed, Loose}
use Rattle.event_manager.specs.Posted.{guaranteed_of}
use Rattle.match_script.specs.Text.{lines_of, words_of, with_first}
use Rattle.match_report.specs.Text.{hex_text, class_word, event_word}
use Rattle.client_seat.specs.Told.{event_told}
use Rattle.match_laws.specs.Words.{behind_mark, events_told}
use Rattle.match_laws.proofs.WordsBytes.{is_in_line, is_quiet, is_solid, InLine, Quiet, Solid, solid_hex}

-- ---- lines

pub line_cut : (xs ys : List ℕ) → InLine xs → lines_of (xs ++ 10 ∷ ys) ≡ xs ∷ lines_of ys
unfolding lines_of
line_cut [] ys h = refl
line_cut (x ∷ xs) ys h =
    let p = and_parts (is_in_line x) (list_all is_in_line xs) h in
    let other : (x == 10) ≡ false = not-so (x == 10) p.0 in
    rw (other, line_cut xs ys p.1) refl
  where
    not-so : (b : Bool) → not b ≡ true → b ≡ false
    not-so true h = absurd cc
    not-so false h = refl

-- ---- words

-- there is a first word
some-word : (xs : List ℕ) → (w : List ℕ) × (ws : List (List ℕ)) × (words_of xs ≡ w ∷ ws)
unfolding words_of
some-word [] = ([], [], refl)
some-word (x ∷ xs) = go (x == 32) (some-word xs)
  where
    go : (b : Bool) → (w : List ℕ) × (ws : List (List ℕ)) × (words_of xs ≡ w ∷ ws)
        → (w : List ℕ) × (ws : List (List ℕ)) × ((if b then [] ∷ words_of xs else with_first x (words_of xs)) ≡ w ∷ ws)
    go true k = ([], words_of xs, refl)
    go false k = (x ∷ k.0, k.1, ap (with_first x) k.2)

pub word_cut : (xs ys : List ℕ) → words_of (xs ++ 32 ∷ ys) ≡ words_of xs ++ words_of ys
unfolding words_of
word_cut [] ys = refl
word_cut (x ∷ xs) ys = go (x == 32) (some-word xs) (word_cut xs ys)
  where
    go : (b : Bool) → (w : List ℕ) × (ws : List (List ℕ)) × (words_of xs ≡ w ∷ ws)
        → words_of (xs ++ 32 ∷ ys) ≡ words_of xs ++ words_of ys
        → (if b then [] ∷ words_of (xs ++ 32 ∷ ys) else with_first x (words_of (xs ++ 32 ∷ ys)))
        ≡ (if b then [] ∷ words_of xs else with_first x (words_of xs)) ++ words_of ys
    go true k rest = ap (λ l. [] ∷ l) rest
    go false k rest =
        ap (with_first x) (rest ∙ ap (λ l. l ++ words_of ys) k.2) ∙ ap (λ l. with_first x l ++ words_of ys) (sym k.2)

pub word_alone : (xs : List ℕ) → Solid xs → words_of xs ≡ xs ∷ []
unfolding words_of
word_alone [] h = refl
word_alone (x ∷ xs) h =
    let p = and_parts (is_solid x) (list_all is_solid xs) h in
    let other : (x == 32) ≡ false = not-so (x == 32) (and_parts (is_quiet x) (not (x == 32)) p.0).1 in
    rw (other, word_alone xs p.1) refl
  where
    not-so : (b : Bool) → not b ≡ true → b ≡ false
    not-so true h = absurd cc
    not-so false h = refl

-- ---- the events that a text tells

pub events_cut : (xs ys : List ℕ) → events_told (xs ++ 32 ∷ ys) ≡ events_told xs ++ events_told ys
events_cut xs ys = ap (filter_map behind_mark) (word_cut xs ys) ∙ filter_map-append behind_mark (words_of xs) (words_of ys)

-- the words of a quiet text are quiet
words-quiet : (xs : List ℕ) → Quiet xs → AllByRecursion Quiet (words_of xs)
unfolding words_of
words-quiet [] h = (refl, tt)
words-quiet (x ∷ xs) h =
    let p = and_parts (is_quiet x) (list_all is_quiet xs) h in
    go (x == 32) (words_of xs) p.0 (words-quiet xs p.1)
  where
    go : (b : Bool) (ws : List (List ℕ)) → is_quiet x ≡ true → AllByRecursion Quiet ws
        → AllByRecursion Quiet (if b then [] ∷ ws else with_first x ws)
    go true ws q all = (refl, all)
    go false [] q all = (and_from (is_quiet x) true q refl, tt)
    go false (w ∷ ws) q all = (and_from (is_quiet x) (list_all is_quiet w) q all.0, all.1)

no-mark : (a b : ℕ) → is_quiet b ≡ true → bytes_eq (a ∷ b ∷ []) (codes "g:") ≡ false
no-mark a b q = grind (arith, nat_tests)

one-byte : (a : ℕ) → bytes_eq (a ∷ []) (codes "g:") ≡ false
one-byte a = grind (arith, nat_tests)

none-behind : (word : List ℕ) → Quiet word → behind_mark word ≡ None
none-behind [] q = refl
none-behind (a ∷ []) q = rw (one-byte a) refl
none-behind (a ∷ b ∷ word) q =
    let p = and_parts (is_quiet a) (list_all is_quiet (b ∷ word)) q in
    let r = and_parts (is_quiet b) (list_all is_quiet word) p.1 in
    rw (no-mark a b r.0) refl

none-told : (words : List (List ℕ)) → AllByRecursion Quiet words → filter_map behind_mark words ≡ []
none-told [] all = refl
none-told (w ∷ words) all = rw (none-behind w all.0) (none-told words all.1)

pub quiet_tells_none : (text : List ℕ) → Quiet text → events_told text ≡ []
quiet_tells_none text q = none-told (words_of text) (words-quiet text q)

-- the word of one event
word-told : (class : Class) (v : List ℕ) → events_told (class_word class ++ codes ":" ++ hex_text v) ≡ map hex_text (guaranteed_of ((class, v) ∷ []))
unfolding words_of
word-told Guaranteed v = rw (word_alone (hex_text v) (solid_hex v)) refl
word-told Loose v = rw (word_alone (hex_text v) (solid_hex v)) refl

one-more : (class : Class) (v : List ℕ) (es : List (Class × List ℕ))
    → map hex_text (guaranteed_of ((class, v) ∷ [])) ++ map hex_text (guaranteed_of es) ≡ map hex_text (guaranteed_of ((class, v) ∷ es))
one-more Guaranteed v es = refl
one-more Loose v es = refl

-- events behind a text add the guaranteed ones
pub events_behind : (text : List ℕ) (es : List (Class × List ℕ))
    → events_told (text ++ flat_map event_word (map event_told es)) ≡ events_told text ++ map hex_text (guaranteed_of es)
events_behind text [] = ap events_told (append-nil text) ∙ sym (append-nil (events_told text))
events_behind text (e ∷ es) =
    let word = class_word e.0 ++ codes ":" ++ hex_text e.1 in
    events_cut text (word ++ flat_map event_word (map event_told es))
    ∙ ap (λ l. events_told text ++ l) (events_behind word es ∙ ap (λ l. l ++ map hex_text (guaranteed_of es)) (word-told e.0 e.1) ∙ one-more e.0 e.1 es)
