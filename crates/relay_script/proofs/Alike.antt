-- A `match` line has the same numbers whatever version the line before it names.
use Rattle.std.proofs.Common.{◌≡◌, ℕ, ◌^◌, Bool, true, false, List, [], ◌∷◌, refl, Option, Some, None, Result, Ok, Err, cond, codes}
use Rattle.std.specs.Option.{option_map_or}
use Rattle.match_script.specs.declared.types.ScriptFault.{ScriptFault}
use Rattle.match_script.specs.declared.types.Head.{Head}
use Rattle.match_script.specs.Words.{◌>>=◌, number, number_from}
use Rattle.match_script.specs.Lines.{is}
use Rattle.match_script.specs.Header.{without_fault, match_numbers, match_line}

-- where the first is a header, the other one has as many clients
abbrev pub Alike : Option Head → Option Head → Type 0
Alike (Some head) other = option_map_or (λ h. h.clients) other 16 ≡ head.clients
Alike None other = Unit {0}

numbers_alike : (version : ℕ) (seed clients life size radius : List ℕ) → Alike (without_fault (match_numbers version seed clients life size radius)) (without_fault (match_numbers 1 seed clients life size radius))
unfolding match_numbers
numbers_alike version seed clients life size radius =
    by_results (number (2 ^ 32) seed) (number_from 1 16 clients) (number_from 1 16777215 life) (number_from 128 1200 size) (number_from 0 65535 radius)
  where
    made : ℕ → Result ℕ ScriptFault → Result ℕ ScriptFault → Result ℕ ScriptFault → Result ℕ ScriptFault → Result ℕ ScriptFault → Result Head ScriptFault
    made version a b c d e =
        a >>= λ seed. b >>= λ clients. c >>= λ life. d >>= λ size. e >>= λ radius. Ok (record {
          version = version;
          seed = seed;
          clients = clients;
          life = life;
          size = size;
          radius = radius;
          blocks = [];
          setup = record { clients = clients; radius = radius; spawns = [] };
        })

    by_results : (a b c d e : Result ℕ ScriptFault) → Alike (without_fault (made version a b c d e)) (without_fault (made 1 a b c d e))
    by_results (Ok a) (Ok b) (Ok c) (Ok d) (Ok e) = refl
    by_results (Ok a) (Ok b) (Ok c) (Ok d) (Err e) = tt
    by_results (Ok a) (Ok b) (Ok c) (Err d) e = tt
    by_results (Ok a) (Ok b) (Err c) d e = tt
    by_results (Ok a) (Err b) c d e = tt
    by_results (Err a) b c d e = tt

pub match_alike : (version : ℕ) (ws : List (List ℕ)) → Alike (match_line version ws) (match_line 1 ws)
unfolding match_line
match_alike version [] = tt
match_alike version (k ∷ []) = tt
match_alike version (k ∷ a ∷ []) = tt
match_alike version (k ∷ a ∷ b ∷ []) = tt
match_alike version (k ∷ a ∷ b ∷ c ∷ []) = tt
match_alike version (k ∷ a ∷ b ∷ c ∷ d ∷ []) = tt
match_alike version (k ∷ a ∷ b ∷ c ∷ d ∷ e ∷ []) = by_kind (is k (codes "match"))
  where
    by_kind : (t : Bool) → Alike (cond t (without_fault (match_numbers version a b c d e)) None) (cond t (without_fault (match_numbers 1 a b c d e)) None)
    by_kind true = numbers_alike version a b c d e
    by_kind false = tt
match_alike version (k ∷ a ∷ b ∷ c ∷ d ∷ e ∷ f ∷ ws) = tt
