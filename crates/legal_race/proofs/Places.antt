-- The clients of a race, one after another.
use Rattle.std.proofs.Common.{◌≡◌, ℕ, ◌+◌, ◌<◌, ◌≤◌, ◌++◌, ◌∙◌, ◌⊎◌, inl, inr, List, [], length, get_or, sym, ap, subst, arith}
use Rattle.std.specs.Prelude.{Some, slice_get}
use Rattle.std.specs.Option.{option_map_or}
use Rattle.std.proofs.lemmas.Bool.{cases_lt}
use Rattle.std.proofs.lemmas.Option.{slice_get_read, slice_get_within}
use Rattle.match_script.specs.declared.types.Script.{Script}
use Rattle.race_history.specs.declared.race.Race.{Race}
use Rattle.race_history.specs.declared.race.RaceClient.{RaceClient}
use Rattle.race_text.specs.Text.{of_each}
use Rattle.race_text.proofs.Each.{each_more}
use Rattle.legal_race.specs.Legal.{IsClientLegal}
use Rattle.legal_race.specs.Text.{of_client}

-- a client that was lent is the one of its place
pub lent_at : (lent clients : List RaceClient) (n c : ℕ) (client : RaceClient) → lent ≡ clients → length clients ≡ n → c < n → client ≡ get_or lent c client → slice_get clients c ≡ Some client
lent_at lent clients n c client same many le is =
    subst (λ (xs : List RaceClient). slice_get xs c ≡ Some client) same
    (slice_get_read lent n c client (sym (ap length same ∙ many)) le is)

-- what is told of one client more
pub told_more : (race : Race) (text : ℕ → RaceClient → List ℕ) (c : ℕ) (client : RaceClient) (start now new : List ℕ) → slice_get race.clients c ≡ Some client
    → now ≡ start ++ of_each c (λ k. of_client race (text k) k) → new ≡ now ++ text c client
    → new ≡ start ++ of_each (c + 1) (λ k. of_client race (text k) k)
told_more race text c client start now new at so_far told =
    told
    ∙ ap (λ (l : List ℕ). l ++ text c client) so_far
    ∙ ap (λ (t : List ℕ). (start ++ of_each c (λ k. of_client race (text k) k)) ++ t) (sym (ap (λ o. option_map_or (text c) o []) at))
    ∙ each_more (λ k. of_client race (text k) k) c start

-- the clients below a place, and the one of that place
pub legal_more : (script : Script) (race : Race) (n : ℕ) (client : RaceClient) → ((c : ℕ) (k : RaceClient) → c < n → slice_get race.clients c ≡ Some k → IsClientLegal script race c k)
    → slice_get race.clients n ≡ Some client → IsClientLegal script race n client
    → (c : ℕ) (k : RaceClient) → c < n + 1 → slice_get race.clients c ≡ Some k → IsClientLegal script race c k
legal_more script race n client below at legal c k le got = by (cases_lt c n)
  where
    by : (c < n) ⊎ (n ≤ c) → IsClientLegal script race c k
    by (inl less) = below c k less got
    by (inr more) =
        let same : c ≡ n = omega (arith, le, more) in
        let one : Some k ≡ Some client = sym got ∙ ap (λ i. slice_get race.clients i) same ∙ at in
        let it : k ≡ client = cc (one) in
        rw (same, it) legal

-- where all places are below this one, a client's place is
pub all_below : (race : Race) (c : ℕ) (client : RaceClient) (n : ℕ) → length race.clients ≤ n → slice_get race.clients c ≡ Some client → c < n
all_below race c client n few got = let within = slice_get_within race.clients c client got in omega (arith, within, few)
