-- The grammar of the command line, as a table: each name, and what words after it make of it. Where they make nothing, it says how many of
-- the words, from the first on, begin a command.
use Rattle.std.specs.Prelude.{ℕ, suc, ◌≡◌, ◌-◌, ◌^◌, List, [], ◌∷◌, Bool, if◌then◌else◌, codes, Option, Some, None, Result, Ok, Err, refl}
use Rattle.std.specs.Str.{bytes_eq}
use Rattle.tn_types.specs.declared.limits.TheConstants.{MAX_CLIENTS}
use Rattle.match_script.specs.declared.limits.TheConstants.{MAX_BODY_LINES}
use Rattle.match_script.specs.Words.{number, number_from}
use Rattle.net_rules.specs.declared.limits.TheConstants.{MAX_TURNS}
use Rattle.commands.specs.declared.command.TheConstants.{MAX_REPLAYED}
use Rattle.commands.specs.declared.command.Command.{Command}
use Rattle.commands.specs.declared.command.Command.TheVariants.{Run, Alone, Big, Threads, Predict, Demo, Replay, ReplayAt, Relay, Serve, Join}
use Rattle.commands.specs.declared.grammar.Made.{Made}
use Rattle.commands.specs.Said.{number_said}

-- ---- what words make

-- no further word may stand here
abbrev pub end_with : {A : Type 0} → A → List (List ℕ) → Result A ℕ
end_with a [] = Ok a
end_with a (word ∷ words) = Err 0

-- the same, where one more word stands in front
abbrev pub further : {A : Type 0} → Result A ℕ → Result A ℕ
further (Ok a) = Ok a
further (Err place) = Err (suc place)

abbrev pub after : {A : Type 0} → Option ℕ → (ℕ → List (List ℕ) → Result A ℕ) → List (List ℕ) → Result A ℕ
after None rest words = Err 0
after (Some n) rest words = further (rest n words)

-- a number in this range, and then the rest
abbrev pub number_then : {A : Type 0} → ℕ → ℕ → (ℕ → List (List ℕ) → Result A ℕ) → List (List ℕ) → Result A ℕ
number_then least most rest [] = Err 0
number_then least most rest (word ∷ words) = after (number_said least most word) rest words

-- one number and no more
abbrev pub one_number : ℕ → ℕ → List (List ℕ) → Result ℕ ℕ
one_number least most = number_then least most (λ n. end_with n)

-- of a match that is made: its seed, its clients, and at most so many steps or turns
abbrev pub made_with : ℕ → ℕ → ℕ → Made
made_with seed clients count = record { seed = seed; clients = clients; count = count }

abbrev pub made_of : ℕ → List (List ℕ) → Result Made ℕ
made_of most =
    number_then 0 (2 ^ 32 - 1) (λ seed. number_then 1 MAX_CLIENTS (λ clients. number_then 1 most (λ count. end_with (made_with seed clients count))))

-- ---- the table

-- a command of what words made
abbrev pub made_as : {A : Type 0} → (A → Command) → Result A ℕ → Result Command ℕ
made_as make (Ok a) = Ok (make a)
made_as make (Err place) = Err place

abbrev pub of_client : (ℕ → Command) → List (List ℕ) → Result Command ℕ
of_client make words = made_as make (one_number 0 (MAX_CLIENTS - 1) words)

abbrev pub big : Made → Command
big m = Big m.seed m.clients m.count

abbrev pub serve : Made → Command
serve m = Serve m.seed m.clients m.count

-- all of a demo, or its first records
abbrev pub of_replay : List (List ℕ) → Result Command ℕ
of_replay [] = Ok Replay
of_replay (word ∷ words) = made_as ReplayAt (one_number 0 MAX_REPLAYED (word ∷ words))

-- a name, and what words after it make
pub record Entry : Type 0 where
  pub name : List ℕ
  pub words_after : List (List ℕ) → Result Command ℕ

abbrev pub entry : List ℕ → (List (List ℕ) → Result Command ℕ) → Entry
entry name words_after = record { name = name; words_after = words_after }

abbrev pub entries : List Entry
entries =
    entry (codes "run") (end_with Run)
    ∷ entry (codes "alone") (of_client Alone)
    ∷ entry (codes "big") (λ words. made_as big (made_of MAX_BODY_LINES words))
    ∷ entry (codes "threads") (end_with Threads)
    ∷ entry (codes "predict") (of_client Predict)
    ∷ entry (codes "demo") (of_client Demo)
    ∷ entry (codes "replay") of_replay
    ∷ entry (codes "relay") (end_with Relay)
    ∷ entry (codes "serve") (λ words. made_as serve (made_of MAX_TURNS words))
    ∷ entry (codes "join") (λ words. made_as Join (one_number 1 MAX_TURNS words))
    ∷ []

-- what words make by a table, after a first word
abbrev pub read : List Entry → List ℕ → List (List ℕ) → Result Command ℕ
read [] name words = Err 0
read (e ∷ table) name words = if bytes_eq name e.name then further (e.words_after words) else read table name words

-- the command that the words are, or how many of them begin one
abbrev pub command_of : List (List ℕ) → Result Command ℕ
command_of [] = Err 0
command_of (name ∷ words) = read entries name words

-- ---- examples

no_word : command_of [] ≡ Err 0
no_word = refl

another_word : command_of (codes "runs" ∷ []) ≡ Err 0
another_word = refl

one_word : command_of (codes "run" ∷ []) ≡ Ok Run
one_word = refl

a_word_too_many : command_of (codes "run" ∷ codes "x" ∷ []) ≡ Err 1
a_word_too_many = refl

a_client : command_of (codes "alone" ∷ codes "15" ∷ []) ≡ Ok (Alone 15)
unfolding number_from number
a_client = refl

no_such_client : command_of (codes "alone" ∷ codes "16" ∷ []) ≡ Err 1
unfolding number_from number
no_such_client = refl

two_clients : command_of (codes "predict" ∷ codes "0" ∷ codes "1" ∷ []) ≡ Err 2
unfolding number_from number
two_clients = refl

a_made_match : command_of (codes "big" ∷ codes "7" ∷ codes "8" ∷ codes "5000" ∷ []) ≡ Ok (Big 7 8 5000)
unfolding number_from number
a_made_match = refl

a_word_missing : command_of (codes "big" ∷ codes "7" ∷ codes "8" ∷ []) ≡ Err 3
unfolding number_from number
a_word_missing = refl

a_leading_zero : command_of (codes "big" ∷ codes "7" ∷ codes "08" ∷ codes "9" ∷ []) ≡ Err 2
unfolding number_from number
a_leading_zero = refl

no_turn : command_of (codes "serve" ∷ codes "7" ∷ codes "1" ∷ codes "0" ∷ []) ≡ Err 3
unfolding number_from number
no_turn = refl

all_of_a_demo : command_of (codes "replay" ∷ []) ≡ Ok Replay
all_of_a_demo = refl

some_records : command_of (codes "replay" ∷ codes "64" ∷ []) ≡ Ok (ReplayAt 64)
unfolding number_from number
some_records = refl

no_number : command_of (codes "replay" ∷ codes "end" ∷ []) ≡ Err 1
unfolding number_from number
no_number = refl

a_joined_match : command_of (codes "join" ∷ codes "20" ∷ []) ≡ Ok (Join 20)
unfolding number_from number
a_joined_match = refl
