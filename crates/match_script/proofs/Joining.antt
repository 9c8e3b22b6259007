-- Lines behind lines, as they are printed.
use Rattle.std.proofs.Common.{◌≡◌, ℕ, ◌+◌, ◌<◌, List, [], ◌∷◌, ◌++◌, length, map, take, get_or, refl, sym, ap, append_assoc}
use Rattle.std.proofs.lemmas.List.{append-nil, map-append, take_more}
use Rattle.world_rules.specs.declared.setup.Spawn.{Spawn}
use Rattle.match_script.specs.declared.types.BodyLine.{BodyLine}
use Rattle.match_script.specs.declared.types.Head.{Head}
use Rattle.match_script.specs.Text.{spelled}
use Rattle.match_script.specs.Print.{line_words, header_words, version_words, match_words, block_words, object_words, go_words, joined, with_line, text_of, GrowsByALine}

joined-append : (front back : List (List ℕ)) → joined (front ++ back) ≡ joined front ++ joined back
unfolding joined
joined-append [] back = refl
joined-append (line ∷ front) back = rw (joined-append front back, append_assoc) refl

one_more : (words : List (List (List ℕ))) (more : List (List ℕ)) → joined (map spelled (words ++ more ∷ [])) ≡ with_line (joined (map spelled words)) more
unfolding joined
one_more words more = rw (map-append, joined-append) refl

-- the text of a header and the first lines of a body
abbrev pub begun : Head → List BodyLine → List ℕ
begun head lines = joined (map spelled (header_words head ++ map line_words lines))

lines_more : {A : Type 0} (words_of_item : A → List (List ℕ)) (front : List (List (List ℕ))) (items : List A) (item : A) → joined (map spelled (front ++ map words_of_item (items ++ item ∷ []))) ≡ with_line (joined (map spelled (front ++ map words_of_item items))) (words_of_item item)
lines_more words_of_item front items item = rw (map-append words_of_item items (item ∷ []), ← append_assoc) (one_more (front ++ map words_of_item items) (words_of_item item))

pub one_line_more : (head : Head) (lines : List BodyLine) (i : ℕ) (line : BodyLine) → i < length lines → line ≡ get_or lines i line → begun head (take (i + 1) lines) ≡ with_line (begun head (take i lines)) (line_words line)
one_line_more head lines i line lt e =
    let more = take_more lines i line lt in
    rw (more, ← e) (lines_more line_words (header_words head) (take i lines) line)

-- the lines of some blocks
abbrev pub blocks_text : List (List ℕ) → List ℕ
blocks_text blocks = joined (map spelled (map block_words blocks))

pub one_block_more : (text : List ℕ) (blocks : List (List ℕ)) (i : ℕ) (block : List ℕ) → i < length blocks → block ≡ get_or blocks i block → text ++ blocks_text (take (i + 1) blocks) ≡ with_line (text ++ blocks_text (take i blocks)) (block_words block)
one_block_more text blocks i block lt e =
    let more = take_more blocks i block lt in
    rw (more, ← e, lines_more block_words [] (take i blocks) block, append_assoc) refl

pub no_block : (text : List ℕ) → text ++ blocks_text [] ≡ text
unfolding joined
no_block text = append-nil text

-- the lines of some objects
abbrev pub objects_text : List Spawn → List ℕ
objects_text objects = joined (map spelled (map object_words objects))

pub one_object_more : (text : List ℕ) (objects : List Spawn) (i : ℕ) (d : Spawn) → i < length objects → text ++ objects_text (take (i + 1) objects) ≡ with_line (text ++ objects_text (take i objects)) (object_words (get_or objects i d))
one_object_more text objects i d lt =
    let more = take_more objects i d lt in
    rw (more, lines_more object_words [] (take i objects) (get_or objects i d), append_assoc) refl

pub no_object : (text : List ℕ) → text ++ objects_text [] ≡ text
unfolding joined
no_object text = append-nil text

lines_round : (v m g : List (List ℕ)) (bs os : List (List (List ℕ))) → with_line ((with_line (with_line [] v) m ++ joined (map spelled bs)) ++ joined (map spelled os)) g ≡ joined (map spelled (v ∷ m ∷ [])) ++ (joined (map spelled bs) ++ (joined (map spelled os) ++ joined (map spelled (g ∷ []))))
unfolding joined
lines_round v m g bs os = simp append_assoc

header_text : (v m g : List (List ℕ)) (bs os : List (List (List ℕ))) → with_line ((with_line (with_line [] v) m ++ joined (map spelled bs)) ++ joined (map spelled os)) g ≡ joined (map spelled ((v ∷ m ∷ []) ++ (bs ++ (os ++ g ∷ []))))
header_text v m g bs os =
    rw (map-append spelled (v ∷ m ∷ []) (bs ++ (os ++ g ∷ [])), map-append spelled bs (os ++ g ∷ []), map-append spelled os (g ∷ []), joined-append (map spelled (v ∷ m ∷ [])) (map spelled bs ++ (map spelled os ++ map spelled (g ∷ []))), joined-append (map spelled bs) (map spelled os ++ map spelled (g ∷ [])), joined-append (map spelled os) (map spelled (g ∷ [])))
    (lines_round v m g bs os)

pub header_lines : (head : Head) → with_line ((with_line (with_line [] (version_words head.version)) (match_words head) ++ blocks_text head.blocks) ++ objects_text head.setup.spawns) go_words ≡ joined (map spelled (header_words head))
header_lines head = header_text (version_words head.version) (match_words head) go_words (map block_words head.blocks) (map object_words head.setup.spawns)

-- a line of six words as it is written
pub six_words : (text a b c d e f : List ℕ) → text ++ (a ++ 32 ∷ (b ++ 32 ∷ (c ++ 32 ∷ (d ++ 32 ∷ (e ++ 32 ∷ (f ++ 10 ∷ [])))))) ≡ with_line text (a ∷ b ∷ c ∷ d ∷ e ∷ f ∷ [])
unfolding spelled
six_words text a b c d e f = simp append_assoc

pub no_line : (head : Head) → joined (map spelled (header_words head)) ≡ text_of (record { head = head; body = [] })
no_line head = ap (λ (words : List (List (List ℕ))). joined (map spelled words)) (sym (append-nil (header_words head)))

pub grows_by_a_line : GrowsByALine
grows_by_a_line head body line = lines_more line_words (header_words head) body line
