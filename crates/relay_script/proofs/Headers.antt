-- Where a header's fault stands at the most.
use Rattle.std.proofs.Common.{◌≡◌, ℕ, suc, ◌+◌, ◌<◌, ◌≤◌, Bool, true, false, List, [], ◌∷◌, ◌++◌, length, arith, refl, ap, Option, Some, None, Result, Ok, Err, cond}
use Rattle.std.specs.Option.{option_map_or}
use Rattle.std.proofs.lemmas.List.{length-append}
use Rattle.world_rules.specs.declared.setup.Spawn.{Spawn}
use Rattle.match_script.specs.declared.types.ScriptFault.{ScriptFault}
use Rattle.match_script.specs.declared.types.ScriptFault.TheVariants.{NotText}
use Rattle.match_script.specs.declared.types.Head.{Head}
use Rattle.match_script.specs.Text.{words_of, is_text}
use Rattle.match_script.specs.Header.{version_line, match_line, block_line, is_go, named, if_placed, object_line}
use Rattle.match_script.specs.Script.{Fault, ◌>>=◌, text_line, header_words, stands, block_in, with_block, blocks_of, objects_of, opening, header}

-- a fault, if there is one, stands so early
abbrev Early : {A : Type 0} → ℕ → Result A Fault → Type 0
Early most (Ok x) = Unit {0}
Early most (Err (n, fault)) = n ≤ most

early_rest : {A B : Type 0} (most : ℕ) (read : Result A Fault) (f : A → Result B Fault) → Early most read → ((x : A) → Early most (f x)) → Early most (read >>= f)
early_rest most (Ok x) f h g = g x
early_rest most (Err e) f h g = h

early_text : (most n : ℕ) (line : List ℕ) → n ≤ most → Early most (text_line n line)
unfolding text_line
early_text most n line le = by_test (is_text line)
  where
    by_test : (t : Bool) → Early most (cond t (Ok (words_of line)) (Err (n, NotText)))
    by_test true = tt
    by_test false = le

early_words : (most n : ℕ) (lines : List (List ℕ)) → n ≤ most → Early most (header_words n lines)
unfolding header_words
early_words most n [] le = le
early_words most n (line ∷ lines) le = early_rest most (text_line n line) (λ words. Ok (words, lines)) (early_text most n line le) (λ words. tt)

early_stand : {A : Type 0} (most n : ℕ) (x : Option A) → n ≤ most → Early most (stands n x)
early_stand most n (Some x) le = tt
early_stand most n None le = le

-- ---- blocks

few_by_words : (k : ℕ) (words : List (List ℕ)) (block : List ℕ) → block_line k words ≡ Some block → k < 64
unfolding block_line
few_by_words k [] block e = absurd cc
few_by_words k (a ∷ []) block e = absurd cc
few_by_words k (a ∷ b ∷ []) block e = grind arith
few_by_words k (a ∷ b ∷ c ∷ words) block e = absurd cc

block_few : (k : ℕ) (line block : List ℕ) → block_in k line ≡ Some block → k < 64
unfolding block_in
block_few k line block e = by_test (is_text line) e
  where
    by_test : (t : Bool) → cond t (block_line k (words_of line)) None ≡ Some block → k < 64
    by_test true e = few_by_words k (words_of line) block e
    by_test false e = absurd cc

blocks_few : (k : ℕ) (lines : List (List ℕ)) → k ≤ 64 → k + length (blocks_of k lines).0 ≤ 64
unfolding blocks_of
blocks_few k [] le = omega (arith, le)
blocks_few k (line ∷ lines) le = by_block (block_in k line) refl (λ lt. blocks_few (suc k) lines (omega (arith, lt)))
  where
    by_block : (b : Option (List ℕ)) → block_in k line ≡ b → (k < 64 → suc k + length (blocks_of (suc k) lines).0 ≤ 64)
        → k + length (option_map_or (λ block. with_block block (blocks_of (suc k) lines)) b ([], line ∷ lines)).0 ≤ 64
    by_block None e more = omega (arith, le)
    by_block (Some block) e more = let rest = more (block_few k line block e) in omega (arith, rest)

-- ---- objects

object_few : (clients blocks : ℕ) (before : List Spawn) (words : List (List ℕ)) (s : Spawn) → object_line clients blocks before words ≡ Some s → length before < 1024
object_few clients blocks before words s e = by_named (named clients blocks words) e
  where
    by_named : (o : Option Spawn) → if_placed before o ≡ Some s → length before < 1024
    by_named None e = absurd cc
    by_named (Some x) e = grind arith

objects_early : (most clients blocks n : ℕ) (before : List Spawn) (lines : List (List ℕ)) → length before ≤ 1024 → n + 1024 ≤ most + length before → Early most (objects_of clients blocks n before lines)
unfolding objects_of
objects_early most clients blocks n before [] few le = omega (arith, few, le)
objects_early most clients blocks n before (line ∷ lines) few le =
    early_rest most (text_line n line) _ (early_text most n line (omega (arith, few, le))) (λ words. by_go words (is_go words)
    (λ s lt. let one = length-append before (s ∷ []) in objects_early most clients blocks (suc n) (before ++ s ∷ []) lines (omega (arith, one, lt)) (omega (arith, one, le))))
  where
    object_next : (words : List (List ℕ)) (o : Option Spawn) → object_line clients blocks before words ≡ o
        → ((s : Spawn) → length before < 1024 → Early most (objects_of clients blocks (suc n) (before ++ s ∷ []) lines))
        → Early {A = List Spawn × List (List ℕ)} most (stands n o >>= λ s. objects_of clients blocks (suc n) (before ++ s ∷ []) lines >>= λ rest. Ok (s ∷ rest.0, rest.1))
    object_next words None e more = omega (arith, few, le)
    object_next words (Some s) e more =
        early_rest most (objects_of clients blocks (suc n) (before ++ s ∷ []) lines) _ (more s (object_few clients blocks before words s e)) (λ rest. tt)

    by_go : (words : List (List ℕ)) (g : Bool)
        → ((s : Spawn) → length before < 1024 → Early most (objects_of clients blocks (suc n) (before ++ s ∷ []) lines))
        → Early {A = List Spawn × List (List ℕ)} most (cond g (Ok ([], lines)) (stands n (object_line clients blocks before words) >>= λ s. objects_of clients blocks (suc n) (before ++ s ∷ []) lines >>= λ rest. Ok (s ∷ rest.0, rest.1)))
    by_go words true more = tt
    by_go words false more = object_next words (object_line clients blocks before words) refl more

-- ---- the header

opening_early : (most : ℕ) (lines : List (List ℕ)) → 2 ≤ most → Early most (opening lines)
unfolding opening
opening_early most lines le =
    early_rest most (header_words 1 lines) _ (early_words most 1 lines (omega (arith, le)))
    (λ first. early_rest most (stands 1 (version_line first.0)) _ (early_stand most 1 (version_line first.0) (omega (arith, le)))
    (λ version. early_rest most (header_words 2 first.1) _ (early_words most 2 first.1 le)
    (λ second. early_rest most (stands 2 (match_line version second.0)) _ (early_stand most 2 (match_line version second.0) le) (λ head. tt))))

header_early : (lines : List (List ℕ)) → Early 1091 (header lines)
unfolding header
header_early lines =
    early_rest 1091 (opening lines) _ (opening_early 1091 lines (omega arith))
    (λ opened. early_rest 1091 (objects_of opened.0.clients (length (blocks_of 0 opened.1).0) (3 + length (blocks_of 0 opened.1).0) [] (blocks_of 0 opened.1).1) _
    (let few = blocks_few 0 opened.1 (omega arith) in
    objects_early 1091 opened.0.clients (length (blocks_of 0 opened.1).0) (3 + length (blocks_of 0 opened.1).0) [] (blocks_of 0 opened.1).1 (omega arith) (omega (arith, few)))
    (λ objects. tt))

abbrev line_of : Result (Head × List (List ℕ)) Fault → ℕ
line_of (Ok x) = 0
line_of (Err fault) = fault.0

early_is : (read : Result (Head × List (List ℕ)) Fault) (n : ℕ) (fault : ScriptFault) → Early 1091 read → read ≡ Err (n, fault) → n ≤ 1091
early_is (Ok x) n fault h e = absurd cc
early_is (Err (m, f)) n fault h e = let same : m ≡ n = ap line_of e in omega (arith, h, same)

pub fault_is_early : (lines : List (List ℕ)) (n : ℕ) (fault : ScriptFault) → header lines ≡ Err (n, fault) → n ≤ 1091
fault_is_early lines n fault e = early_is (header lines) n fault (header_early lines) e
