-- The numbers of a `show` line: how many guaranteed events the client had delivered, and how many of its moves were sampled at the client,
-- accepted at the server and taken by ticks. They are the lengths of the lists that the laws on events and moves speak of.
use Rattle.std.specs.Prelude.{ℕ, ◌≡◌, List, [], ◌∷◌, take, length, codes, refl}
use Rattle.std.specs.Fmt.{decimal, digits}
use Rattle.pair_core.specs.Answers.{client_run, sampled_in, accepted_in}
use Rattle.match_script.specs.declared.types.Script.{Script}
use Rattle.match_script.specs.Text.{words_of}
use Rattle.own_lists.specs.Past.{client_terms}
use Rattle.match_laws.specs.Laws.{first, journal_of}
use Rattle.match_laws.specs.Applied.{applied}
use Rattle.report_laws.specs.Shown.{IsShow}

-- how the line of `show c` begins
abbrev pub show_begins : (c events sampled accepted taken : ℕ) → List (List ℕ)
show_begins c events sampled accepted taken =
    codes "show" ∷ decimal c ∷ codes "events" ∷ decimal events ∷ codes "sampled" ∷ decimal sampled ∷ codes "accepted" ∷ decimal accepted
    ∷ codes "taken" ∷ decimal taken ∷ []

-- so it begins, whoever the client is, with what was delivered, sampled, accepted and applied by the lines before it
abbrev pub PrintedCounts : Type 0
PrintedCounts = (s : Script) (c n : ℕ) (text : List ℕ) → IsShow s c n text
    → let t = client_terms s.head c in
    let steps = journal_of s c n in
    take 10 (words_of text)
    ≡ show_begins c (client_run t steps) (length (sampled_in t steps)) (length (accepted_in t steps))
    (length (applied s.head c (first n s)))

-- ---- an example

three_of_four : take 10 (words_of (codes "show 1 events 2 sampled 5 accepted 4 taken 3 control 0 ghosts 0")) ≡ show_begins 1 2 5 4 3
unfolding words_of digits
three_of_four = refl
