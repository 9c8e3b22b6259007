-- What happened at a client's end: the steps of a scan happen at the server, and leave it. And cases of a line that names a client.
use Rattle.std.proofs.Common.{◌≡◌, ◌≢◌, ◌⊎◌, inl, inr, ℕ, ◌==◌, Bool, true, false, List, [], ◌∷◌, ◌++◌, map, refl, ap, ◌∙◌, subst, arith}
use Rattle.std.proofs.lemmas.Bool.{cases_eq}
use Rattle.std.proofs.lemmas.Bool.Decides.{nat_tests}
use Rattle.client_scope.specs.declared.period.Near.{Near as NearPeriod}
use Rattle.stream_manager.specs.Limits.{Terms}
use Rattle.stream_manager.specs.Client.{ClientEvent}
use Rattle.client_seat.specs.pair_core.History.{PairStep, Hide, history}
use Rattle.client_seat.specs.own_lists.declared.showing.Showing.{Showing}
use Rattle.client_seat.specs.own_lists.Course.{onto, hide_step, near_step, show_step, scan_steps}
use Rattle.client_seat.proofs.Below.own_lists.Standing.{onto_on}

module _ (t : Terms) where
  -- what happened at the client's end of a connection after these steps
  abbrev pub at_end : List PairStep → List ClientEvent
  at_end steps = (history t steps).client

  hides_quiet : (hides : List ℕ) (steps : List PairStep) → at_end (onto (map hide_step hides) steps) ≡ at_end steps
  hides_quiet [] steps = refl
  hides_quiet (n ∷ hides) steps = hides_quiet hides (Hide n ∷ steps)

  shows_quiet : (shows : List Showing) (steps : List PairStep) → at_end (onto (map show_step shows) steps) ≡ at_end steps
  shows_quiet [] steps = refl
  shows_quiet (s ∷ shows) steps = shows_quiet shows (show_step s ∷ steps)

  nears_quiet : (nears : List NearPeriod) (steps : List PairStep) → at_end (onto (map near_step nears) steps) ≡ at_end steps
  nears_quiet [] steps = refl
  nears_quiet (p ∷ nears) steps = nears_quiet nears (near_step p ∷ steps)

  pub scan_quiet : (hides : List ℕ) (nears : List NearPeriod) (shows : List Showing) (steps : List PairStep)
      → at_end (onto (scan_steps hides nears shows) steps) ≡ at_end steps
  scan_quiet hides nears shows steps =
      let hs : List PairStep = map hide_step hides in
      let ns : List PairStep = map near_step nears in
      let ss : List PairStep = map show_step shows in
      ap at_end (onto_on hs (ns ++ ss) steps ∙ onto_on ns ss (onto hs steps))
      ∙ shows_quiet shows (onto ns (onto hs steps)) ∙ nears_quiet nears (onto hs steps) ∙ hides_quiet hides steps

-- of a line that names a client, for itself or for another one
pub named_case : (P : Bool → Bool → ℕ → Type 0) (c d : ℕ) → P true true c → ((d : ℕ) → P false false d) → P (d == c) (c == d) d
named_case P c d own other = by_same (cases_eq c d)
  where
    by_same : (c ≡ d) ⊎ (c ≢ d) → P (d == c) (c == d) d
    by_same (inl e) = subst (λ (x : ℕ). P (x == c) (c == x) x) e (let yes : (c == c) ≡ true = grind (arith, nat_tests) in rw yes own)
    by_same (inr apart) =
        let here : (d == c) ≡ false = grind (arith, nat_tests) in
        let there : (c == d) ≡ false = grind (arith, nat_tests) in
        rw (here, there) (other d)
