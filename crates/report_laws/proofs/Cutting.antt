-- A `show` line, cut at its spaces and then at its bars: how it begins, and the words of each copy.
use Rattle.std.proofs.Common.{◌≡◌, ℕ, ◌==◌, Bool, true, false, not, List, [], ◌∷◌, ◌++◌, map, length, Option, refl, sym, ap, ◌∙◌, append-nil, append_assoc}
use Rattle.std.specs.Prelude.{codes}
use Rattle.std.specs.List.{AllByRecursion, list_all, flat_map}
use Rattle.std.specs.Fmt.{decimal}
use Rattle.std.proofs.lemmas.Bool.{and_parts}
use Rattle.world_rules.specs.Kinds.{kind_word}
use Rattle.match_script.specs.Text.{words_of}
use Rattle.match_report.specs.declared.copies.FieldTold.{FieldTold}
use Rattle.match_report.specs.declared.copies.CopyTold.{CopyTold}
use Rattle.match_report.specs.declared.told.Told.TheVariants.{Show}
use Rattle.match_report.specs.Text.{control_word, field_text, copy_text, told_text}
use Rattle.match_laws.proofs.WordsCut.{word_cut}
use Rattle.report_laws.specs.Shown.{is_bar, upto_bar, behind_bars, copies_printed, field_word}
use Rattle.report_laws.proofs.WordBytes.{is_inner, Inner, inner_number, inner_field, inner_kind, inner_control, no_bar}

-- ---- words

word-alone : (xs : List ℕ) → Inner xs → words_of xs ≡ xs ∷ []
unfolding words_of
word-alone [] h = refl
word-alone (x ∷ xs) h =
    let p = and_parts (is_inner x) (list_all is_inner xs) h in
    let other : (x == 32) ≡ false = not-so (x == 32) (and_parts (not (x == 32)) (not (x == 124)) p.0).0 in
    rw (other, word-alone xs p.1) refl
  where
    not-so : (b : Bool) → not b ≡ true → b ≡ false
    not-so true h = absurd cc
    not-so false h = refl

-- a further word behind a space
one-more : (front word : List ℕ) → Inner word → words_of (front ++ 32 ∷ word) ≡ words_of front ++ word ∷ []
one-more front word h = word_cut front word ∙ ap (λ l. words_of front ++ l) (word-alone word h)

spaced : (front word : List ℕ) → Inner word → words_of (front ++ codes " " ++ word) ≡ words_of front ++ word ∷ []
spaced front word h = ap words_of (append_assoc front (codes " ") word) ∙ one-more front word h

-- a name and what it names
named : (front name value : List ℕ) → Inner name → Inner value
    → words_of (front ++ (32 ∷ name ++ 32 ∷ []) ++ value) ≡ words_of front ++ name ∷ value ∷ []
named front name value h k =
    ap words_of (append_assoc front (32 ∷ name ++ 32 ∷ []) value) ∙ word_cut front (name ++ 32 ∷ [] ++ value)
    ∙ ap (λ l. words_of front ++ l)
    (spaced name value k ∙ ap (λ l. l ++ value ∷ []) (word-alone name h))

-- ---- copies

-- the words of a copy that is told
abbrev pub told_words : CopyTold → List (List ℕ)
told_words c = decimal c.slot ∷ kind_word c.kind ∷ decimal c.block ∷ map field_word c.fields

abbrev pub barred : CopyTold → List (List ℕ)
barred c = codes "|" ∷ told_words c

field-words : (front : List ℕ) (fs : List FieldTold) → words_of (front ++ flat_map field_text fs) ≡ words_of front ++ map field_word fs
field-words front [] = ap words_of (append-nil front) ∙ sym (append-nil (words_of front))
field-words front (f ∷ fs) =
    ap words_of (sym (append_assoc front (field_text f) (flat_map field_text fs)))
    ∙ field-words (front ++ field_text f) fs
    ∙ ap (λ l. l ++ map field_word fs) (one-more front (field_word f) (inner_field f))
    ∙ append_assoc (words_of front) (field_word f ∷ []) (map field_word fs)

-- up to its block
abbrev lead : CopyTold → List ℕ
lead c = codes " | " ++ decimal c.slot ++ codes " " ++ kind_word c.kind ++ codes " " ++ decimal c.block

bar-first : (text : List ℕ) → words_of (124 ∷ 32 ∷ text) ≡ codes "|" ∷ words_of text
unfolding words_of
bar-first text = refl

lead-words : (front : List ℕ) (c : CopyTold)
    → words_of (front ++ lead c) ≡ words_of front ++ codes "|" ∷ decimal c.slot ∷ kind_word c.kind ∷ decimal c.block ∷ []
lead-words front c =
    let named_kind = decimal c.slot ++ codes " " ++ kind_word c.kind in
    word_cut front (124 ∷ 32 ∷ (named_kind ++ codes " " ++ decimal c.block))
    ∙ ap (λ l. words_of front ++ l)
    (bar-first (named_kind ++ codes " " ++ decimal c.block)
    ∙ ap (λ l. codes "|" ∷ l)
    (spaced named_kind (decimal c.block) (inner_number c.block)
    ∙ ap (λ l. l ++ decimal c.block ∷ [])
    (spaced (decimal c.slot) (kind_word c.kind) (inner_kind c.kind)
    ∙ ap (λ l. l ++ kind_word c.kind ∷ []) (word-alone (decimal c.slot) (inner_number c.slot)))))

copy-words : (front : List ℕ) (c : CopyTold) → words_of (front ++ copy_text c) ≡ words_of front ++ barred c
copy-words front c =
    ap words_of (sym (append_assoc front (lead c) (flat_map field_text c.fields)))
    ∙ field-words (front ++ lead c) c.fields
    ∙ ap (λ l. l ++ map field_word c.fields) (lead-words front c)
    ∙ append_assoc (words_of front) (codes "|" ∷ decimal c.slot ∷ kind_word c.kind ∷ decimal c.block ∷ []) (map field_word c.fields)

copies-words : (front : List ℕ) (cs : List CopyTold) → words_of (front ++ flat_map copy_text cs) ≡ words_of front ++ flat_map barred cs
copies-words front [] = ap words_of (append-nil front) ∙ sym (append-nil (words_of front))
copies-words front (c ∷ cs) =
    ap words_of (sym (append_assoc front (copy_text c) (flat_map copy_text cs)))
    ∙ copies-words (front ++ copy_text c) cs
    ∙ ap (λ l. l ++ flat_map barred cs) (copy-words front c)
    ∙ append_assoc (words_of front) (barred c) (flat_map barred cs)

-- ---- the whole line

show-first : (text : List ℕ) → words_of (codes "show " ++ text) ≡ codes "show" ∷ words_of text
unfolding words_of
show-first text = refl

module _ (c events sampled accepted taken : ℕ) (control : Option ℕ) (copies : List CopyTold) where
  abbrev pub line : List ℕ
  line = told_text (Show c events sampled accepted taken control copies)

  -- the words before the first bar
  abbrev pub front_words : List (List ℕ)
  front_words =
      codes "show" ∷ decimal c ∷ codes "events" ∷ decimal events ∷ codes "sampled" ∷ decimal sampled ∷ codes "accepted" ∷ decimal accepted
      ∷ codes "taken" ∷ decimal taken ∷ codes "control" ∷ control_word control ∷ codes "ghosts" ∷ decimal (length copies) ∷ []

  abbrev text1 : List ℕ
  text1 = codes "show " ++ decimal c

  abbrev text2 : List ℕ
  text2 = text1 ++ codes " events " ++ decimal events

  abbrev text3 : List ℕ
  text3 = text2 ++ codes " sampled " ++ decimal sampled

  abbrev text4 : List ℕ
  text4 = text3 ++ codes " accepted " ++ decimal accepted

  abbrev text5 : List ℕ
  text5 = text4 ++ codes " taken " ++ decimal taken

  abbrev text6 : List ℕ
  text6 = text5 ++ codes " control " ++ control_word control

  abbrev text7 : List ℕ
  text7 = text6 ++ codes " ghosts " ++ decimal (length copies)

  front-are : words_of text7 ≡ front_words
  front-are =
      named text6 (codes "ghosts") (decimal (length copies)) refl (inner_number (length copies))
      ∙ ap (λ l. l ++ codes "ghosts" ∷ decimal (length copies) ∷ [])
      (named text5 (codes "control") (control_word control) refl (inner_control control)
      ∙ ap (λ l. l ++ codes "control" ∷ control_word control ∷ [])
      (named text4 (codes "taken") (decimal taken) refl (inner_number taken)
      ∙ ap (λ l. l ++ codes "taken" ∷ decimal taken ∷ [])
      (named text3 (codes "accepted") (decimal accepted) refl (inner_number accepted)
      ∙ ap (λ l. l ++ codes "accepted" ∷ decimal accepted ∷ [])
      (named text2 (codes "sampled") (decimal sampled) refl (inner_number sampled)
      ∙ ap (λ l. l ++ codes "sampled" ∷ decimal sampled ∷ [])
      (named text1 (codes "events") (decimal events) refl (inner_number events)
      ∙ ap (λ l. l ++ codes "events" ∷ decimal events ∷ [])
      (show-first (decimal c) ∙ ap (λ l. codes "show" ∷ l) (word-alone (decimal c) (inner_number c))))))))

  pub words_are : words_of line ≡ front_words ++ flat_map barred copies
  words_are =
      ap words_of (sym (append_assoc text6 (codes " ghosts " ++ decimal (length copies)) (flat_map copy_text copies)))
      ∙ copies-words (text6 ++ (codes " ghosts " ++ decimal (length copies))) copies
      ∙ ap (λ l. l ++ flat_map barred copies)
      (ap words_of (sym (append_assoc text6 (codes " ghosts ") (decimal (length copies)))) ∙ front-are)

-- ---- bars

abbrev NoBars : List (List ℕ) → Type 0
NoBars words = AllByRecursion (λ word. is_bar word ≡ false) words

past-words : (words rest : List (List ℕ)) → NoBars words → behind_bars (words ++ rest) ≡ behind_bars rest
past-words [] rest h = refl
past-words (word ∷ words) rest h = rw (h.0) (past-words words rest h.1)

upto-end : (words : List (List ℕ)) → NoBars words → upto_bar (words ++ []) ≡ words
upto-end [] h = refl
upto-end (word ∷ words) h = rw (h.0) (ap (λ l. word ∷ l) (upto-end words h.1))

upto-next : (words rest : List (List ℕ)) → NoBars words → upto_bar (words ++ codes "|" ∷ rest) ≡ words
upto-next [] rest h = refl
upto-next (word ∷ words) rest h = rw (h.0) (ap (λ l. word ∷ l) (upto-next words rest h.1))

fields-no-bars : (fs : List FieldTold) → NoBars (map field_word fs)
fields-no-bars [] = tt
fields-no-bars (f ∷ fs) = (no_bar (field_word f) (inner_field f), fields-no-bars fs)

copy-no-bars : (c : CopyTold) → NoBars (told_words c)
copy-no-bars c = (
  no_bar (decimal c.slot) (inner_number c.slot),
  (no_bar (kind_word c.kind) (inner_kind c.kind), (no_bar (decimal c.block) (inner_number c.block), fields-no-bars c.fields)),
)

upto-copy : (c : CopyTold) (cs : List CopyTold) → upto_bar (told_words c ++ flat_map barred cs) ≡ told_words c
upto-copy c [] = upto-end (told_words c) (copy-no-bars c)
upto-copy c (d ∷ cs) = upto-next (told_words c) (told_words d ++ flat_map barred cs) (copy-no-bars c)

behind-each : (cs : List CopyTold) → behind_bars (flat_map barred cs) ≡ map told_words cs
behind-each [] = refl
behind-each (c ∷ cs) =
    let first = upto-copy c cs in
    let others = past-words (told_words c) (flat_map barred cs) (copy-no-bars c) ∙ behind-each cs in
    λ j. first j ∷ others j

front-no-bars : (c events sampled accepted taken : ℕ) (control : Option ℕ) (copies : List CopyTold)
    → NoBars (front_words c events sampled accepted taken control copies)
front-no-bars c events sampled accepted taken control copies = (
  refl,
  (
    no_bar (decimal c) (inner_number c),
    (
      refl,
      (
        no_bar (decimal events) (inner_number events),
        (
          refl,
          (
            no_bar (decimal sampled) (inner_number sampled),
            (
              refl,
              (
                no_bar (decimal accepted) (inner_number accepted),
                (
                  refl,
                  (
                    no_bar (decimal taken) (inner_number taken),
                    (
                      refl,
                      (
                        no_bar (control_word control) (inner_control control),
                        (refl, (no_bar (decimal (length copies)) (inner_number (length copies)), tt)),
                      ),
                    ),
                  ),
                ),
              ),
            ),
          ),
        ),
      ),
    ),
  ),
)

-- the words of the copies that a line tells
pub copies_are : (c events sampled accepted taken : ℕ) (control : Option ℕ) (copies : List CopyTold)
    → copies_printed (line c events sampled accepted taken control copies) ≡ map told_words copies
copies_are c events sampled accepted taken control copies =
    ap behind_bars (words_are c events sampled accepted taken control copies)
    ∙ past-words (front_words c events sampled accepted taken control copies) (flat_map barred copies)
    (front-no-bars c events sampled accepted taken control copies)
    ∙ behind-each copies
