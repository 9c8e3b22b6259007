-- What is left of a relay script without its own lines is read as its match.
use Rattle.std.proofs.Common.{◌≡◌, ℕ, suc, ◌+◌, ◌≤◌, Bool, true, false, not, List, [], ◌∷◌, ◌++◌, length, drop, take, arith, refl, sym, ap, subst, ◌∙◌, Option, Some, None, Result, Ok, Err, cond}
use Rattle.std.specs.Prelude.{codes, filter}
use Rattle.std.specs.Option.{option_map_or}
use Rattle.std.proofs.lemmas.Slice.Eq.{bytes_eq-Decides}
use Rattle.world_rules.specs.declared.setup.Spawn.{Spawn}
use Rattle.match_script.specs.declared.types.ScriptFault.{ScriptFault}
use Rattle.match_script.specs.declared.types.ScriptFault.TheVariants.{NotText}
use Rattle.match_script.specs.declared.types.BodyLine.{BodyLine}
use Rattle.match_script.specs.declared.types.Head.{Head}
use Rattle.match_script.specs.Text.{words_of, is_text}
use Rattle.match_script.specs.Header.{version_line, match_line, block_line, is_go, named, object_line}
use Rattle.match_script.specs.Script.{Fault, ◌>>=◌, text_line, header_words, stands, block_in, with_block, blocks_of, objects_of, with_objects, opening, header, line_at, body_fault, body_of, header_length, script_in}
use Rattle.relay_script.specs.declared.types.RelayLine.{RelayLine}
use Rattle.relay_script.specs.declared.entries.Entry.{Entry}
use Rattle.relay_script.specs.declared.entries.Entry.TheVariants.{OfMatch, OfRelay}
use Rattle.relay_script.specs.Lines.{is_relay, relay_line_at}
use Rattle.relay_script.specs.declared.types.PlacedLine.{PlacedLine}
use Rattle.relay_script.specs.declared.types.RelayScript.{RelayScript}
use Rattle.relay_script.specs.declared.asked.Asked.{Asked}
use Rattle.relay_script.specs.Asked.{clients_named, relay_named}
use Rattle.relay_script.specs.Whole.{as_entry, entry_at, entries_of, match_lines, parts_of, asked_in, one_later, relay_script_in, left_of}

-- the lines that are not the relay's
abbrev pub kept : List (List ℕ) → List (List ℕ)
kept lines = filter (λ line. not (is_relay line)) lines

-- ---- no line of the relay may stand in a header

relay_is : (line : List ℕ) → is_relay line ≡ true → take 2 line ≡ codes "r "
relay_is line h = (bytes_eq-Decides (take 2 line) (codes "r ")).0 h

relay_words : (line : List ℕ) → is_relay line ≡ true → words_of line ≡ codes "r" ∷ words_of (drop 2 line)
unfolding words_of
relay_words [] h = absurd cc
relay_words (a ∷ []) h = absurd (let e = relay_is (a ∷ []) h in cc)
relay_words (a ∷ b ∷ line) h =
    let e = relay_is (a ∷ b ∷ line) h in
    let first : a ≡ 114 = cc in
    let second : b ≡ 32 = cc in
    rw (first, second) refl

no_version : (ws : List (List ℕ)) → version_line (codes "r" ∷ ws) ≡ None
unfolding version_line
no_version [] = refl
no_version (w ∷ []) = refl
no_version (w ∷ v ∷ ws) = refl

no_match : (version : ℕ) (ws : List (List ℕ)) → match_line version (codes "r" ∷ ws) ≡ None
unfolding match_line
no_match version [] = refl
no_match version (a ∷ []) = refl
no_match version (a ∷ b ∷ []) = refl
no_match version (a ∷ b ∷ c ∷ []) = refl
no_match version (a ∷ b ∷ c ∷ d ∷ []) = refl
no_match version (a ∷ b ∷ c ∷ d ∷ e ∷ []) = refl
no_match version (a ∷ b ∷ c ∷ d ∷ e ∷ f ∷ ws) = refl

no_block_words : (k : ℕ) (ws : List (List ℕ)) → block_line k (codes "r" ∷ ws) ≡ None
unfolding block_line
no_block_words k [] = refl
no_block_words k (a ∷ []) = refl
no_block_words k (a ∷ b ∷ ws) = refl

no_go : (ws : List (List ℕ)) → is_go (codes "r" ∷ ws) ≡ false
unfolding is_go
no_go [] = refl
no_go (w ∷ ws) = refl

no_name : (clients blocks : ℕ) (ws : List (List ℕ)) → named clients blocks (codes "r" ∷ ws) ≡ None
unfolding named
no_name clients blocks [] = refl
no_name clients blocks (a ∷ []) = refl
no_name clients blocks (a ∷ b ∷ []) = refl
no_name clients blocks (a ∷ b ∷ c ∷ []) = refl
no_name clients blocks (a ∷ b ∷ c ∷ d ∷ []) = refl
no_name clients blocks (a ∷ b ∷ c ∷ d ∷ e ∷ []) = refl
no_name clients blocks (a ∷ b ∷ c ∷ d ∷ e ∷ f ∷ ws) = refl

no_object : (clients blocks : ℕ) (before : List Spawn) (ws : List (List ℕ)) → object_line clients blocks before (codes "r" ∷ ws) ≡ None
no_object clients blocks before ws = rw (no_name clients blocks ws) refl

-- ---- the body

-- where line k of the whole body is the match's, it is the same earlier
same_line : (clients k j : ℕ) (line : List ℕ) (x : BodyLine) → j ≤ k → line_at clients k line ≡ Ok x → line_at clients j line ≡ Ok x
unfolding line_at
same_line clients k j line x le e = grind arith

abbrev Reads : ℕ → ℕ → ℕ → List (List ℕ) → Result (List Entry) Fault → Type 0
Reads clients n j lines (Ok entries) = body_of None clients n j (kept lines) ≡ Ok (match_lines entries)
Reads clients n j lines (Err fault) = Unit {0}

reads_relay : (clients n m j : ℕ) (line : List ℕ) (lines : List (List ℕ)) (read : Result RelayLine ScriptFault) (rest : Result (List Entry) Fault) → is_relay line ≡ true → Reads clients n j lines rest
    → Reads clients n j (line ∷ lines) (body_fault m (as_entry OfRelay read) >>= λ first. rest >>= λ more. Ok (first ∷ more))
unfolding match_lines
reads_relay clients n m j line lines (Ok x) (Ok entries) h more = rw h more
reads_relay clients n m j line lines (Ok x) (Err e) h more = tt
reads_relay clients n m j line lines (Err e) rest h more = tt

reads_match : (clients n m k j : ℕ) (line : List ℕ) (lines : List (List ℕ)) (read : Result BodyLine ScriptFault) (rest : Result (List Entry) Fault) → line_at clients k line ≡ read → is_relay line ≡ false → j ≤ k
    → Reads clients n (suc j) lines rest → Reads clients n j (line ∷ lines) (body_fault m (as_entry OfMatch read) >>= λ first. rest >>= λ more. Ok (first ∷ more))
unfolding match_lines body_of
reads_match clients n m k j line lines (Ok x) (Ok entries) e h le more = rw (h, same_line clients k j line x le e, more) refl
reads_match clients n m k j line lines (Ok x) (Err fault) e h le more = tt
reads_match clients n m k j line lines (Err fault) rest e h le more = tt

reads : (clients spectators n m k j : ℕ) (lines : List (List ℕ)) → j ≤ k → Reads clients n j lines (entries_of clients spectators m k lines)
unfolding entries_of entry_at match_lines body_of
reads clients spectators n m k j [] le = refl
reads clients spectators n m k j (line ∷ lines) le =
    by_kind (is_relay line) refl (reads clients spectators n m (suc k) j lines (omega (arith, le))) (reads clients spectators n m (suc k) (suc j) lines (omega (arith, le)))
  where
    by_kind : (t : Bool) → is_relay line ≡ t → Reads clients n j lines (entries_of clients spectators m (suc k) lines) → Reads clients n (suc j) lines (entries_of clients spectators m (suc k) lines)
        → Reads clients n j (line ∷ lines) (body_fault (m + suc k) (cond t (as_entry OfRelay (relay_line_at spectators k line)) (as_entry OfMatch (line_at clients k line))) >>= λ first. entries_of clients spectators m (suc k) lines >>= λ more. Ok (first ∷ more))
    by_kind true h same next = reads_relay clients n (m + suc k) j line lines (relay_line_at spectators k line) (entries_of clients spectators m (suc k) lines) h same
    by_kind false h same next = reads_match clients n (m + suc k) k j line lines (line_at clients k line) (entries_of clients spectators m (suc k) lines) refl h le next

-- ---- the header

-- what was read of the lines is read of those that are kept
abbrev Keeps : {A : Type 0} → Result (A × List (List ℕ)) Fault → Result (A × List (List ℕ)) Fault → Type 0
Keeps (Ok x) other = other ≡ Ok (x.0, kept x.1)
Keeps (Err fault) other = Unit {0}

text_is : (n : ℕ) (line : List ℕ) (ws : List (List ℕ)) → text_line n line ≡ Ok ws → ws ≡ words_of line
unfolding text_line
text_is n line ws e = by_test (is_text line) e
  where
    by_test : (t : Bool) → cond {A = Result (List (List ℕ)) Fault} t (Ok (words_of line)) (Err (n, NotText)) ≡ Ok ws → ws ≡ words_of line
    by_test true e = cc
    by_test false e = absurd cc

-- where something stands that is none of a line whose first word is `r`, the line is none of the relay's
plain_line : {A : Type 0} (n : ℕ) (line : List ℕ) (ws : List (List ℕ)) (named_by : List (List ℕ) → Option A) (x : A) → ((more : List (List ℕ)) → named_by (codes "r" ∷ more) ≡ None) → text_line n line ≡ Ok ws → named_by ws ≡ Some x → is_relay line ≡ false
plain_line n line ws named_by x none e s = by_test (is_relay line) refl
  where
    by_test : (t : Bool) → is_relay line ≡ t → is_relay line ≡ false
    by_test false h = h
    by_test true h =
        let w : ws ≡ codes "r" ∷ words_of (drop 2 line) = text_is n line ws e ∙ relay_words line h in
        let k : named_by ws ≡ None = ap named_by w ∙ none (words_of (drop 2 line)) in
        absurd cc

kept_line : (line : List ℕ) (lines : List (List ℕ)) → is_relay line ≡ false → kept (line ∷ lines) ≡ line ∷ kept lines
kept_line line lines h = rw h refl

opened : (first second : List ℕ) (lines ws vs : List (List ℕ)) (version : ℕ) (head : Head) → text_line 1 first ≡ Ok ws → version_line ws ≡ Some version → text_line 2 second ≡ Ok vs → match_line version vs ≡ Some head
    → opening (first ∷ second ∷ lines) ≡ Ok (head, lines)
unfolding opening header_words
opened first second lines ws vs version head a b c d = rw (a, b, c, d) refl

opening_kept : (lines : List (List ℕ)) → Keeps (opening lines) (opening (kept lines))
unfolding opening header_words
opening_kept [] = tt
opening_kept (first ∷ lines) = by_first (text_line 1 first) refl
  where
    first_read : Result (List (List ℕ)) Fault → Result (List (List ℕ) × List (List ℕ)) Fault
    first_read words = words >>= λ ws. Ok (ws, lines)

    by_rest : (ws : List (List ℕ)) (version : ℕ) (lines : List (List ℕ)) → text_line 1 first ≡ Ok ws → version_line ws ≡ Some version
        → Keeps (header_words 2 lines >>= λ second. stands 2 (match_line version second.0) >>= λ head. Ok (head, second.1)) (opening (kept (first ∷ lines)))
    by_rest ws version [] a b = tt
    by_rest ws version (second ∷ lines) a b = by_second (text_line 2 second) refl
      where
        second_read : Result (List (List ℕ)) Fault → Result (List (List ℕ) × List (List ℕ)) Fault
        second_read words = words >>= λ vs. Ok (vs, lines)

        by_second : (words : Result (List (List ℕ)) Fault) → text_line 2 second ≡ words
            → Keeps (second_read words >>= λ second. stands 2 (match_line version second.0) >>= λ head. Ok (head, second.1)) (opening (kept (first ∷ second ∷ lines)))
        by_second (Err e) c = tt
        by_second (Ok vs) c = by_head (match_line version vs) refl
          where
            by_head : (h : Option Head) → match_line version vs ≡ h → Keeps (stands 2 h >>= λ head. Ok (head, lines)) (opening (kept (first ∷ second ∷ lines)))
            by_head None d = tt
            by_head (Some head) d =
                let p = plain_line 1 first ws version_line version no_version a b in
                let q = plain_line 2 second vs (match_line version) head (no_match version) c d in
                let k : kept (first ∷ second ∷ lines) ≡ first ∷ second ∷ kept lines = kept_line first (second ∷ lines) p ∙ ap (λ ls. first ∷ ls) (kept_line second lines q) in
                ap opening k ∙ opened first second (kept lines) ws vs version head a b c d

    by_first : (words : Result (List (List ℕ)) Fault) → text_line 1 first ≡ words
        → Keeps (first_read words >>= λ first. stands 1 (version_line first.0) >>= λ version. header_words 2 first.1 >>= λ second. stands 2 (match_line version second.0) >>= λ head. Ok (head, second.1)) (opening (kept (first ∷ lines)))
    by_first (Err e) a = tt
    by_first (Ok ws) a = by_version (version_line ws) refl
      where
        by_version : (v : Option ℕ) → version_line ws ≡ v
            → Keeps (stands 1 v >>= λ version. header_words 2 lines >>= λ second. stands 2 (match_line version second.0) >>= λ head. Ok (head, second.1)) (opening (kept (first ∷ lines)))
        by_version None b = tt
        by_version (Some version) b = by_rest ws version lines a b

-- the blocks, where the lines behind them don't begin with one of the relay's
abbrev Stops : List (List ℕ) → Type 0
Stops [] = Unit {0}
Stops (line ∷ lines) = is_relay line ≡ false

no_block : (k : ℕ) (line block : List ℕ) → block_in k line ≡ Some block → is_relay line ≡ false
unfolding block_in
no_block k line block e = by_test (is_relay line) refl
  where
    by_text : (t : Bool) → is_relay line ≡ true → cond t (block_line k (words_of line)) None ≡ Some block → ⊥
    by_text true h e = let w : block_line k (words_of line) ≡ None = ap (block_line k) (relay_words line h) ∙ no_block_words k (words_of (drop 2 line)) in cc
    by_text false h e = cc

    by_test : (t : Bool) → is_relay line ≡ t → is_relay line ≡ false
    by_test false h = h
    by_test true h = absurd (by_text (is_text line) h e)

blocks_kept : (k : ℕ) (lines : List (List ℕ)) → Stops (blocks_of k lines).1 → blocks_of k (kept lines) ≡ ((blocks_of k lines).0, kept (blocks_of k lines).1)
unfolding blocks_of
blocks_kept k [] stops = refl
blocks_kept k (line ∷ lines) stops = by_block (block_in k line) refl (blocks_kept (suc k) lines) stops
  where
    begun : List (List ℕ) → Option (List ℕ) → List (List ℕ) × List (List ℕ)
    begun rest b = option_map_or (λ block. with_block block (blocks_of (suc k) rest)) b ([], line ∷ rest)

    by_block : (b : Option (List ℕ)) → block_in k line ≡ b → (Stops (blocks_of (suc k) lines).1 → blocks_of (suc k) (kept lines) ≡ ((blocks_of (suc k) lines).0, kept (blocks_of (suc k) lines).1))
        → Stops (begun lines b).1 → blocks_of k (kept (line ∷ lines)) ≡ ((begun lines b).0, kept (begun lines b).1)
    by_block None e more stops = rw (kept_line line lines stops, e) refl
    by_block (Some block) e more stops = rw (kept_line line lines (no_block k line block e), e, more stops) refl

-- ---- objects

object_plain : (clients blocks n : ℕ) (before : List Spawn) (line : List ℕ) (ws : List (List ℕ)) (s : Spawn) → text_line n line ≡ Ok ws → object_line clients blocks before ws ≡ Some s → is_relay line ≡ false
object_plain clients blocks n before line ws s e o = plain_line n line ws (object_line clients blocks before) s (no_object clients blocks before) e o

go_plain : (n : ℕ) (line : List ℕ) (ws : List (List ℕ)) → text_line n line ≡ Ok ws → is_go ws ≡ true → is_relay line ≡ false
go_plain n line ws e g = by_test (is_relay line) refl
  where
    by_test : (t : Bool) → is_relay line ≡ t → is_relay line ≡ false
    by_test false h = h
    by_test true h =
        let w : ws ≡ codes "r" ∷ words_of (drop 2 line) = text_is n line ws e ∙ relay_words line h in
        let k : is_go ws ≡ false = ap is_go w ∙ no_go (words_of (drop 2 line)) in
        absurd cc

objects_next : (clients blocks n : ℕ) (before : List Spawn) (line : List ℕ) (lines ws : List (List ℕ)) (s : Spawn) → text_line n line ≡ Ok ws → is_go ws ≡ false → object_line clients blocks before ws ≡ Some s
    → objects_of clients blocks n before (line ∷ lines) ≡ (objects_of clients blocks (suc n) (before ++ s ∷ []) lines >>= λ rest. Ok (s ∷ rest.0, rest.1))
unfolding objects_of
objects_next clients blocks n before line lines ws s e g o = rw (e, g, o) refl

objects_last : (clients blocks n : ℕ) (before : List Spawn) (line : List ℕ) (lines ws : List (List ℕ)) → text_line n line ≡ Ok ws → is_go ws ≡ true → objects_of clients blocks n before (line ∷ lines) ≡ Ok ([], lines)
unfolding objects_of
objects_last clients blocks n before line lines ws e g = rw (e, g) refl

-- what was read of the lines is read of those that are kept, and the first line is none of the relay's
abbrev KeepsAll : {A : Type 0} → List (List ℕ) → Result (A × List (List ℕ)) Fault → Result (A × List (List ℕ)) Fault → Type 0
KeepsAll lines (Ok x) other = Stops lines × (other ≡ Ok (x.0, kept x.1))
KeepsAll lines (Err fault) other = Unit {0}

keeps_next : (line : List ℕ) (lines : List (List ℕ)) (s : Spawn) (read other : Result (List Spawn × List (List ℕ)) Fault) → is_relay line ≡ false → KeepsAll lines read other
    → KeepsAll (line ∷ lines) (read >>= λ rest. Ok (s ∷ rest.0, rest.1)) (other >>= λ rest. Ok (s ∷ rest.0, rest.1))
keeps_next line lines s (Ok x) other h (stops, e) = (h, rw e refl)
keeps_next line lines s (Err e) other h more = tt

objects_kept : (clients blocks n : ℕ) (before : List Spawn) (lines : List (List ℕ)) → KeepsAll lines (objects_of clients blocks n before lines) (objects_of clients blocks n before (kept lines))
unfolding objects_of
objects_kept clients blocks n before [] = tt
objects_kept clients blocks n before (line ∷ lines) = by_text (text_line n line) refl (λ s. objects_kept clients blocks (suc n) (before ++ s ∷ []) lines)
  where
    next : Option Spawn → Result (List Spawn × List (List ℕ)) Fault
    next o = stands n o >>= λ s. objects_of clients blocks (suc n) (before ++ s ∷ []) lines >>= λ rest. Ok (s ∷ rest.0, rest.1)

    by_object : (ws : List (List ℕ)) (o : Option Spawn) → text_line n line ≡ Ok ws → is_go ws ≡ false → object_line clients blocks before ws ≡ o
        → ((s : Spawn) → KeepsAll lines (objects_of clients blocks (suc n) (before ++ s ∷ []) lines) (objects_of clients blocks (suc n) (before ++ s ∷ []) (kept lines)))
        → KeepsAll (line ∷ lines) (next o) (objects_of clients blocks n before (kept (line ∷ lines)))
    by_object ws None e g o more = tt
    by_object ws (Some s) e g o more =
        let p = object_plain clients blocks n before line ws s e o in
        let same = ap (objects_of clients blocks n before) (kept_line line lines p) ∙ objects_next clients blocks n before line (kept lines) ws s e g o in
        subst (λ other. KeepsAll (line ∷ lines) (next (Some s)) other) (sym same)
        (keeps_next line lines s (objects_of clients blocks (suc n) (before ++ s ∷ []) lines) (objects_of clients blocks (suc n) (before ++ s ∷ []) (kept lines)) p (more s))

    by_go : (ws : List (List ℕ)) (g : Bool) → text_line n line ≡ Ok ws → is_go ws ≡ g
        → ((s : Spawn) → KeepsAll lines (objects_of clients blocks (suc n) (before ++ s ∷ []) lines) (objects_of clients blocks (suc n) (before ++ s ∷ []) (kept lines)))
        → KeepsAll (line ∷ lines) (cond g (Ok ([], lines)) (next (object_line clients blocks before ws))) (objects_of clients blocks n before (kept (line ∷ lines)))
    by_go ws true e g more =
        let p = go_plain n line ws e g in
        (p, ap (objects_of clients blocks n before) (kept_line line lines p) ∙ objects_last clients blocks n before line (kept lines) ws e g)
    by_go ws false e g more = by_object ws (object_line clients blocks before ws) e g refl more

    by_text : (words : Result (List (List ℕ)) Fault) → text_line n line ≡ words
        → ((s : Spawn) → KeepsAll lines (objects_of clients blocks (suc n) (before ++ s ∷ []) lines) (objects_of clients blocks (suc n) (before ++ s ∷ []) (kept lines)))
        → KeepsAll (line ∷ lines) (words >>= λ ws. cond (is_go ws) (Ok ([], lines)) (next (object_line clients blocks before ws))) (objects_of clients blocks n before (kept (line ∷ lines)))
    by_text (Err f) e more = tt
    by_text (Ok ws) e more = by_go ws (is_go ws) e refl more

-- ---- the header, and the whole

abbrev objects_behind : Head × List (List ℕ) → Result (Head × List (List ℕ)) Fault
objects_behind opened =
    objects_of opened.0.clients (length (blocks_of 0 opened.1).0) (3 + length (blocks_of 0 opened.1).0) [] (blocks_of 0 opened.1).1
    >>= λ objects. Ok (with_objects opened.0 (blocks_of 0 opened.1).0 objects.0, objects.1)

objects_then : (h : Head) (lines bs rest : List (List ℕ)) (spawns : List Spawn) (after : List (List ℕ)) → blocks_of 0 lines ≡ (bs, rest) → objects_of h.clients (length bs) (3 + length bs) [] rest ≡ Ok (spawns, after)
    → objects_behind (h, lines) ≡ Ok (with_objects h bs spawns, after)
objects_then h lines bs rest spawns after b e = rw (b, e) refl

behind_kept : (opened : Head × List (List ℕ)) → Keeps (objects_behind opened) (objects_behind (opened.0, kept opened.1))
behind_kept opened =
    by_objects (objects_of opened.0.clients (length bs) (3 + length bs) [] rest) (objects_kept opened.0.clients (length bs) (3 + length bs) [] rest)
  where
    bs : List (List ℕ)
    bs = (blocks_of 0 opened.1).0

    rest : List (List ℕ)
    rest = (blocks_of 0 opened.1).1

    by_objects : (o : Result (List Spawn × List (List ℕ)) Fault) → KeepsAll rest o (objects_of opened.0.clients (length bs) (3 + length bs) [] (kept rest))
        → Keeps (o >>= λ objects. Ok (with_objects opened.0 bs objects.0, objects.1)) (objects_behind (opened.0, kept opened.1))
    by_objects (Err f) k = tt
    by_objects (Ok x) (stops, e) = objects_then opened.0 (kept opened.1) bs (kept rest) x.0 (kept x.1) (blocks_kept 0 opened.1 stops) e

keeps_behind : (read other : Result (Head × List (List ℕ)) Fault) → Keeps read other → Keeps (read >>= objects_behind) (other >>= objects_behind)
keeps_behind (Ok x) other e = rw e (behind_kept x)
keeps_behind (Err f) other e = tt

header_kept : (lines : List (List ℕ)) → Keeps (header lines) (header (kept lines))
unfolding header
header_kept lines = keeps_behind (opening lines) (opening (kept lines)) (opening_kept lines)

-- ---- the whole script

abbrev Leaves : List (List ℕ) → Result RelayScript Fault → Type 0
Leaves lines (Ok r) = script_in None (left_of lines) ≡ Ok r.script
Leaves lines (Err fault) = Unit {0}

leaves_rest : {A : Type 0} (lines : List (List ℕ)) (read : Result A Fault) (f : A → Result RelayScript Fault) → ((x : A) → Leaves lines (f x)) → Leaves lines (read >>= f)
leaves_rest lines (Ok x) f g = g x
leaves_rest lines (Err e) f g = tt

-- behind the first line
abbrev relay_behind : Asked → Result (Head × List (List ℕ)) Fault → Result RelayScript Fault
relay_behind asked read =
    one_later read >>= λ begun. parts_of (entries_of begun.0.clients asked.spectators (suc (header_length begun.0)) 0 begun.1) >>= λ parts. Ok (record {
      client = asked.client;
      spectators = asked.spectators;
      script = record { head = begun.0; body = parts.0 };
      lines = parts.1;
    })

script_then : (lines after : List (List ℕ)) (head : Head) (body : List BodyLine) → header lines ≡ Ok (head, after) → body_of None head.clients (header_length head) 0 after ≡ Ok body
    → script_in None lines ≡ Ok (record { head = head; body = body })
unfolding script_in
script_then lines after head body h b = rw (h, b) refl

behind_leaves : (first : List ℕ) (lines : List (List ℕ)) (asked : Asked) (read : Result (Head × List (List ℕ)) Fault) → Keeps read (header (kept lines)) → Leaves (first ∷ lines) (relay_behind asked read)
behind_leaves first lines asked (Err f) k = tt
behind_leaves first lines asked (Ok begun) k =
    by_entries (entries_of begun.0.clients asked.spectators (suc (header_length begun.0)) 0 begun.1)
    (reads begun.0.clients asked.spectators (header_length begun.0) (suc (header_length begun.0)) 0 0 begun.1 (omega arith))
  where
    by_entries : (e : Result (List Entry) Fault) → Reads begun.0.clients (header_length begun.0) 0 begun.1 e
        → Leaves (first ∷ lines) (parts_of e >>= λ parts. Ok (record {
          client = asked.client;
          spectators = asked.spectators;
          script = record { head = begun.0; body = parts.0 };
          lines = parts.1;
        }))
    by_entries (Err f) r = tt
    by_entries (Ok entries) r = script_then (kept lines) (kept begun.1) begun.0 (match_lines entries) k r

whole_leaves : (lines : List (List ℕ)) → Leaves lines (relay_script_in lines)
unfolding relay_script_in asked_in header_words
whole_leaves [] = tt
whole_leaves (first ∷ lines) = by_words (text_line 1 first)
  where
    words_read : Result (List (List ℕ)) Fault → Result (List (List ℕ) × List (List ℕ)) Fault
    words_read words = words >>= λ ws. Ok (ws, lines)

    asked_read : Result (List (List ℕ)) Fault → Result (Asked × List (List ℕ)) Fault
    asked_read words = words_read words >>= λ x. stands 1 (relay_named (clients_named (first ∷ lines)) x.0) >>= λ asked. Ok (asked, x.1)

    by_words : (words : Result (List (List ℕ)) Fault) → Leaves (first ∷ lines) (asked_read words >>= λ x. relay_behind x.0 (header x.1))
    by_words (Err f) = tt
    by_words (Ok ws) = by_named (relay_named (clients_named (first ∷ lines)) ws)
      where
        named_read : Option Asked → Result (Asked × List (List ℕ)) Fault
        named_read o = stands 1 o >>= λ asked. Ok (asked, lines)

        by_named : (o : Option Asked) → Leaves (first ∷ lines) (named_read o >>= λ x. relay_behind x.0 (header x.1))
        by_named None = tt
        by_named (Some asked) = behind_leaves first lines asked (header lines) (header_kept lines)

relay_then : (lines rest after : List (List ℕ)) (asked : Asked) (head : Head) (body : List BodyLine) (told : List PlacedLine) → asked_in lines ≡ Ok (asked, rest) → one_later (header rest) ≡ Ok (head, after)
    → parts_of (entries_of head.clients asked.spectators (suc (header_length head)) 0 after) ≡ Ok (body, told)
    → relay_script_in lines ≡ Ok (record { client = asked.client; spectators = asked.spectators; script = record { head = head; body = body }; lines = told })
unfolding relay_script_in
relay_then lines rest after asked head body told a h p = rw (a, h, p) refl

pub left_is_script : (lines rest after : List (List ℕ)) (asked : Asked) (head : Head) (body : List BodyLine) (told : List PlacedLine) (n : ℕ) → asked_in lines ≡ Ok (asked, rest) → one_later (header rest) ≡ Ok (head, after)
    → n ≡ suc (header_length head) → parts_of (entries_of head.clients asked.spectators n 0 after) ≡ Ok (body, told) → script_in None (left_of lines) ≡ Ok (record { head = head; body = body })
left_is_script lines rest after asked head body told n a h e p =
    let q = rw e at p in
    subst (Leaves lines) (relay_then lines rest after asked head body told a h q) (whole_leaves lines)
