-- Steps of messages behind steps that show, hide and bring nearer nothing: they meet their conditions as if they stood alone, and each
-- field of what they show is due.
use Rattle.std.proofs.Common.{◌≡◌, ℕ, ◌+◌, ◌<◌, ◌≤◌, ◌==◌, true, false, not, cond, ◌||◌, List, [], ◌∷◌, ◌++◌, length, refl, sym, ap, subst, ◌∙◌, arith, ◌⊎◌, inl, inr}
use Rattle.std.specs.Prelude.{filter}
use Rattle.std.specs.List.{AllByRecursion, list_any}
use Rattle.std.proofs.lemmas.Bool.{eq-eqb, cases_lt}
use Rattle.tn_types.specs.declared.limits.TheConstants.{MAX_SHOWN_PERIODS, MAX_SHOWS}
use Rattle.ghost_model.specs.Words.{upto}
use Rattle.ghost_model.specs.Scope.{Traits, shows, up_periods, had_control}
use Rattle.ghost_model.specs.Ghosts.{scope_log, is_due}
use Rattle.ghost_model.specs.Legal.{IsUp}
use Rattle.pair_core.specs.stream_manager.Limits.{Terms}
use Rattle.pair_core.specs.stream_manager.Server.{ghost_log}
use Rattle.pair_core.specs.History.{PairStep, Show, Hide, Near, history}
use Rattle.pair_core.specs.Conditions.{IsMet}
use Rattle.pair_steps.specs.Steps.{shows_in, is_hidden_in, up_in, traits_in, IsNoPack}
use Rattle.pair_steps.proofs.Journals.{IsQuiet, shows_told, up_from, up_to, up_count_told, control_told}
use Rattle.pair_steps.proofs.Due.{shows_due, step_due}

abbrev pub AreQuiet : List PairStep → Type 0
AreQuiet steps = AllByRecursion IsQuiet steps

-- ---- what is said of periods

pub none_shown : (q : List PairStep) → AreQuiet q → shows_in q ≡ 0
none_shown [] quiet = refl
none_shown (Show kind block level control ∷ q) quiet = absurd quiet.0
none_shown (Hide n ∷ q) quiet = absurd quiet.0
none_shown (Near n level ∷ q) quiet = absurd quiet.0
none_shown (step ∷ q) quiet = none_shown q quiet.1

none_hidden : (q : List PairStep) → AreQuiet q → (n : ℕ) → is_hidden_in q n ≡ false
none_hidden [] quiet n = refl
none_hidden (Show kind block level control ∷ q) quiet n = absurd quiet.0
none_hidden (Hide m ∷ q) quiet n = absurd quiet.0
none_hidden (Near m level ∷ q) quiet n = absurd quiet.0
none_hidden (step ∷ q) quiet n = none_hidden q quiet.1 n

no_traits : (q : List PairStep) → AreQuiet q → (n : ℕ) → traits_in q n ≡ traits_in [] n
no_traits [] quiet n = refl
no_traits (Show kind block level control ∷ q) quiet n = absurd quiet.0
no_traits (Hide m ∷ q) quiet n = absurd quiet.0
no_traits (Near m level ∷ q) quiet n = absurd quiet.0
no_traits (step ∷ q) quiet n = no_traits q quiet.1 n

module _ (q : List PairStep) (quiet : AreQuiet q) where
  pub behind_shows : (ms : List PairStep) → shows_in (ms ++ q) ≡ shows_in ms
  behind_shows [] = none_shown q quiet
  behind_shows (Show kind block level control ∷ ms) = ap (λ m. m + 1) (behind_shows ms)
  behind_shows (step ∷ ms) = behind_shows ms

  pub behind_hidden : (ms : List PairStep) (n : ℕ) → is_hidden_in (ms ++ q) n ≡ is_hidden_in ms n
  behind_hidden [] n = none_hidden q quiet n
  behind_hidden (Hide m ∷ ms) n = ap (λ b. (m == n) || b) (behind_hidden ms n)
  behind_hidden (step ∷ ms) n = behind_hidden ms n

  pub behind_traits : (ms : List PairStep) (n : ℕ) → traits_in (ms ++ q) n ≡ traits_in ms n
  behind_traits [] n = no_traits q quiet n
  behind_traits (Show k b l c ∷ ms) n =
      λ j. cond (n == behind_shows ms j) (record { kind = k; block = b; level = l; control = c }) (behind_traits ms n j)
  behind_traits (Near m l ∷ ms) n = ap (λ (x : Traits). cond (m == n) (record x { level = l }) x) (behind_traits ms n)
  behind_traits (step ∷ ms) n = behind_traits ms n

  pub behind_up : (ms : List PairStep) → up_in (ms ++ q) ≡ up_in ms
  behind_up ms = λ j. filter (λ n. not (behind_hidden ms n j)) (upto (behind_shows ms j))

  -- ---- conditions

  module _ (t : Terms) (ms : List PairStep) where
    few_up : up_periods (scope_log (ghost_log (history t (ms ++ q)).server)) ≡ up_periods (scope_log (ghost_log (history t ms).server))
    few_up = up_count_told t (ms ++ q) ∙ ap length (behind_up ms) ∙ sym (up_count_told t ms)

    shows_same : shows (scope_log (ghost_log (history t (ms ++ q)).server)) ≡ shows (scope_log (ghost_log (history t ms).server))
    shows_same = shows_told t (ms ++ q) ∙ behind_shows ms ∙ sym (shows_told t ms)

    control_same : had_control (scope_log (ghost_log (history t (ms ++ q)).server)) ≡ had_control (scope_log (ghost_log (history t ms).server))
    control_same =
        control_told t (ms ++ q) ∙ (λ j. list_any (λ n. (behind_traits ms n j).control) (behind_up ms j)) ∙ sym (control_told t ms)

    up_same : (n : ℕ) → IsUp (ghost_log (history t ms).server) n → IsUp (ghost_log (history t (ms ++ q)).server) n
    up_same n up =
        let u = up_from t ms n up in
        up_to t (ms ++ q) n (subst (λ k. n < k) (sym (behind_shows ms)) u.0) (behind_hidden ms n ∙ u.1)

    -- a show, hide, near or post that may be made after these messages may be made after them behind quiet steps
    pub met_behind : (s : PairStep) → (IsQuiet s → IsMet t (ms ++ q) s) → IsMet t ms s → IsMet t (ms ++ q) s
    met_behind (Show kind block level control) own m = record {
      ranges = m.ranges;
      few = subst (λ k. k < MAX_SHOWN_PERIODS) (sym few_up) m.few;
      numbers = subst (λ k. k < MAX_SHOWS) (sym shows_same) m.numbers;
      alone = λ c. control_same ∙ m.alone c;
    }
    met_behind (Hide n) own m = up_same n m
    met_behind (Near n level) own m = record { up = up_same n m.up; level = m.level }
    met_behind s own m = own tt

  -- ---- what is due

  pub all_due : (t : Terms) (ms : List PairStep) → AllByRecursion IsNoPack ms → (n f : ℕ) → n < shows_in ms
      → is_due (ghost_log (history t (ms ++ q)).server) n f ≡ true
  all_due t [] none n f less = absurd (omega (arith, less))
  all_due t (Show kind block level control ∷ ms) none n f less = go (cases_lt n (shows_in ms)) (λ l. all_due t ms none.1 n f l)
    where
      go : (n < shows_in ms) ⊎ (shows_in ms ≤ n) → (n < shows_in ms → is_due (ghost_log (history t (ms ++ q)).server) n f ≡ true)
          → is_due (ghost_log (history t (Show kind block level control ∷ ms ++ q)).server) n f ≡ true
      go (inl l) rest = shows_due n f kind block level control (history t (ms ++ q)).server (rest l)
      go (inr m) rest =
          let same : n ≡ shows_in ms = omega (arith, less, m) in
          let told : shows (scope_log (ghost_log (history t (ms ++ q)).server)) ≡ shows_in ms = shows_told t (ms ++ q) ∙ behind_shows ms in
          ap (λ b. b || is_due (ghost_log (history t (ms ++ q)).server) n f) (eq-eqb n (shows (scope_log (ghost_log (history t (ms ++ q)).server))) (same ∙ sym told))
  all_due t (step ∷ ms) none n f less = step_due n f t step (history t (ms ++ q)) none.0 (all_due t ms none.1 n f less)
