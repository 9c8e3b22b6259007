-- The third line of a text whose header is one says how many clients there are.
use Rattle.std.proofs.Common.{◌≡◌, ℕ, Bool, true, false, List, [], ◌∷◌, ◌+◌, length, refl, sym, ap, subst, ◌∙◌, Option, Some, None, Result, Ok, Err, cond}
use Rattle.match_script.specs.declared.types.ScriptFault.TheVariants.{NotText}
use Rattle.match_script.specs.declared.types.Head.{Head}
use Rattle.match_script.specs.Text.{words_of, is_text}
use Rattle.match_script.specs.Header.{version_line, match_line}
use Rattle.match_script.specs.Script.{Fault, ◌>>=◌, text_line, header_words, stands, blocks_of, objects_of, opening, header}
use Rattle.relay_script.specs.declared.asked.Asked.{Asked}
use Rattle.relay_script.specs.Asked.{clients_named, relay_named}
use Rattle.relay_script.specs.Whole.{asked_in, one_later}
use Rattle.relay_script.proofs.Alike.{Alike, match_alike}

-- ---- what was read behind a first line has as many clients as its lines name

abbrev Names : List (List ℕ) → Result (Head × List (List ℕ)) Fault → Type 0
Names lines (Ok begun) = clients_named lines ≡ begun.0.clients
Names lines (Err fault) = Unit {0}

names_rest : {A : Type 0} (lines : List (List ℕ)) (read : Result A Fault) (f : A → Result (Head × List (List ℕ)) Fault) → ((x : A) → Names lines (f x)) → Names lines (read >>= f)
names_rest lines (Ok x) f g = g x
names_rest lines (Err e) f g = tt

names_behind : (lines : List (List ℕ)) (read : Result (Head × List (List ℕ)) Fault) (f : Head × List (List ℕ) → Result (Head × List (List ℕ)) Fault)
    → Names lines read → ((x : Head × List (List ℕ)) → clients_named lines ≡ x.0.clients → Names lines (f x)) → Names lines (read >>= f)
names_behind lines (Ok x) f h g = g x h
names_behind lines (Err e) f h g = tt

third_names : (version : ℕ) (first second third : List ℕ) (lines : List (List ℕ)) → is_text third ≡ true
    → Names (first ∷ second ∷ third ∷ lines) (stands 2 (match_line version (words_of third)) >>= λ head. Ok (head, lines))
third_names version first second third lines e = by_head (match_line version (words_of third)) (match_alike version (words_of third))
  where
    by_head : (h : Option Head) → Alike h (match_line 1 (words_of third)) → Names (first ∷ second ∷ third ∷ lines) (stands 2 h >>= λ head. Ok (head, lines))
    by_head (Some head) a = rw e a
    by_head None a = tt

second_names : (version : ℕ) (first second third : List ℕ) (lines : List (List ℕ))
    → Names (first ∷ second ∷ third ∷ lines) (header_words 2 (third ∷ lines) >>= λ x. stands 2 (match_line version x.0) >>= λ head. Ok (head, x.1))
unfolding header_words text_line
second_names version first second third lines = by_text (is_text third) refl
  where
    words_read : Bool → Result (List (List ℕ) × List (List ℕ)) Fault
    words_read t = cond t (Ok (words_of third)) (Err (2, NotText)) >>= λ words. Ok (words, lines)

    by_text : (t : Bool) → is_text third ≡ t
        → Names (first ∷ second ∷ third ∷ lines) (words_read t >>= λ x. stands 2 (match_line version x.0) >>= λ head. Ok (head, x.1))
    by_text true e = third_names version first second third lines e
    by_text false e = tt

opening_names : (first : List ℕ) (lines : List (List ℕ)) → Names (first ∷ lines) (opening lines)
unfolding opening header_words
opening_names first [] = tt
opening_names first (second ∷ []) = by_words (text_line 1 second)
  where
    words_read : Result (List (List ℕ)) Fault → Result (List (List ℕ) × List (List ℕ)) Fault
    words_read words = words >>= λ ws. Ok (ws, [])

    by_words : (words : Result (List (List ℕ)) Fault)
        → Names (first ∷ second ∷ []) (words_read words >>= λ x. stands 1 (version_line x.0) >>= λ version. header_words 2 x.1 >>= λ y. stands 2 (match_line version y.0) >>= λ head. Ok (head, y.1))
    by_words (Ok ws) = names_rest (first ∷ second ∷ []) (stands 1 (version_line ws)) _ (λ version. tt)
    by_words (Err e) = tt
opening_names first (second ∷ third ∷ lines) = by_words (text_line 1 second)
  where
    words_read : Result (List (List ℕ)) Fault → Result (List (List ℕ) × List (List ℕ)) Fault
    words_read words = words >>= λ ws. Ok (ws, third ∷ lines)

    by_words : (words : Result (List (List ℕ)) Fault)
        → Names (first ∷ second ∷ third ∷ lines) (words_read words >>= λ x. stands 1 (version_line x.0) >>= λ version. header_words 2 x.1 >>= λ y. stands 2 (match_line version y.0) >>= λ head. Ok (head, y.1))
    by_words (Ok ws) = names_rest (first ∷ second ∷ third ∷ lines) (stands 1 (version_line ws)) _ (λ version. second_names version first second third lines)
    by_words (Err e) = tt

header_names : (first : List ℕ) (lines : List (List ℕ)) → Names (first ∷ lines) (header lines)
unfolding header
header_names first lines =
    names_behind (first ∷ lines) (opening lines) _ (opening_names first lines)
    (λ opened e. names_rest (first ∷ lines) (objects_of opened.0.clients (length (blocks_of 0 opened.1).0) (3 + length (blocks_of 0 opened.1).0) [] (blocks_of 0 opened.1).1) _ (λ objects. e))

-- ---- what the first line says, and the lines behind it

abbrev Leaves : List (List ℕ) → Result (Asked × List (List ℕ)) Fault → Type 0
Leaves lines (Ok x) = x.1 ≡ lines
Leaves lines (Err fault) = Unit {0}

leaves_rest : {A : Type 0} (lines : List (List ℕ)) (read : Result A Fault) (f : A → Result (Asked × List (List ℕ)) Fault) → ((x : A) → Leaves lines (f x)) → Leaves lines (read >>= f)
leaves_rest lines (Ok x) f g = g x
leaves_rest lines (Err e) f g = tt

asked_leaves : (first : List ℕ) (lines : List (List ℕ)) → Leaves lines (asked_in (first ∷ lines))
unfolding asked_in header_words
asked_leaves first lines = by_words (text_line 1 first)
  where
    words_read : Result (List (List ℕ)) Fault → Result (List (List ℕ) × List (List ℕ)) Fault
    words_read words = words >>= λ ws. Ok (ws, lines)

    by_words : (words : Result (List (List ℕ)) Fault)
        → Leaves lines (words_read words >>= λ x. stands 1 (relay_named (clients_named (first ∷ lines)) x.0) >>= λ asked. Ok (asked, x.1))
    by_words (Ok ws) = leaves_rest lines (stands 1 (relay_named (clients_named (first ∷ lines)) ws)) _ (λ asked. refl)
    by_words (Err e) = tt

no_first_line : (rest : List (List ℕ)) (asked : Asked) → asked_in [] ≡ Ok (asked, rest) → ⊥
unfolding asked_in header_words
no_first_line rest asked e = cc

unlater : (read : Result (Head × List (List ℕ)) Fault) (begun : Head × List (List ℕ)) → one_later read ≡ Ok begun → read ≡ Ok begun
unlater (Ok x) begun e = e
unlater (Err (n, f)) begun e = absurd cc

-- a text whose first line and header were read has as many clients as its third line says
pub asked_names : (lines rest after : List (List ℕ)) (asked : Asked) (head : Head) → asked_in lines ≡ Ok (asked, rest) → one_later (header rest) ≡ Ok (head, after) → clients_named lines ≡ head.clients
asked_names [] rest after asked head e h = absurd (no_first_line rest asked e)
asked_names (first ∷ lines) rest after asked head e h =
    let same : rest ≡ lines = subst (Leaves lines) e (asked_leaves first lines) in
    subst (Names (first ∷ lines)) (ap header (sym same) ∙ unlater (header rest) (head, after) h) (header_names first lines)
