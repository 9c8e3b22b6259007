-- What is kept of the datagrams that were sent.
use Rattle.std.proofs.Common.{◌≡◌, ℕ, zero, suc, ◌+◌, ◌-◌, ◌<◌, ◌≤◌, Bool, true, false, List, [], ◌∷◌, ◌++◌, length, drop, get_or, Some, refl, sym, ap, ◌∙◌, subst, arith, length-append, length-drop, take_all}
use Rattle.std.specs.Prelude.{slice_get}
use Rattle.std.specs.List.{AllByRecursion}
use Rattle.std.proofs.Math.Seq.{drop-append_seam}
use Rattle.conn_packing.specs.stream_manager.Limits.{Terms}
use Rattle.conn_packing.specs.stream_manager.Server.{server_datagrams}
use Rattle.conn_packing.specs.declared.made.Made.{Made}
use Rattle.conn_packing.specs.declared.made.Made.TheVariants as made
use Rattle.conn_packing.proofs.Lists.{slice_get-at}
use Rattle.pair_core.specs.Flat.{cut, Rise, IsShort, AreFlat, with_made, count_with}
use Rattle.pair_core.specs.Keeping.{newest, newest_alone, kept}
use Rattle.pair_core.specs.History.{PairStep, history}
use Rattle.pair_core.specs.Stands.{PairState, StandsFor}
use Rattle.pair_core.proofs.Flat.{cut-length, rise-most}

-- of a list that ends so the last is this
alone-at-end : {A : Type 0} (xs : List A) (x : A) → newest_alone (xs ++ x ∷ []) ≡ x ∷ []
alone-at-end xs x =
    let last : length (xs ++ x ∷ []) - 1 ≡ length xs = omega (arith, length-append xs (x ∷ [])) in
    ap (λ (n : ℕ). drop n (xs ++ x ∷ [])) last ∙ drop-append_seam xs (x ∷ [])

newest-at-end : {A : Type 0} (xs : List A) (x : A) → newest (xs ++ x ∷ []) ≡ Some x
newest-at-end xs x =
    let last : length (xs ++ x ∷ []) - 1 ≡ length xs = omega (arith, length-append xs (x ∷ [])) in
    ap (λ (n : ℕ). slice_get (xs ++ x ∷ []) n) last ∙ slice_get-at xs x []

-- so it is of what is kept of it
pub newest-kept : {A : Type 0} (b : Bool) (xs : List A) (x : A) → newest (kept b (xs ++ x ∷ [])) ≡ Some x
newest-kept true xs x = newest-at-end xs x
newest-kept false xs x = ap newest (alone-at-end xs x)

pub alone-of-few : {A : Type 0} (xs : List A) → length xs < 2 → newest_alone xs ≡ xs
alone-of-few xs few = let none : length xs - 1 ≡ 0 = omega (arith, few) in ap (λ (n : ℕ). drop n xs) none

alone-again : {A : Type 0} (xs : List A) → newest_alone (newest_alone xs) ≡ newest_alone xs
alone-again xs = alone-of-few (newest_alone xs) (omega (arith, length-drop (length xs - 1) xs))

-- it is the same to keep first, and then what is kept with what was made
pub kept-made : {A : Type 0} (b : Bool) (m : Made) (x : A) (xs : List A) → kept b (with_made m x (kept b xs)) ≡ kept b (with_made m x xs)
kept-made true m x xs = refl
kept-made false (made.Ping len) x xs = alone-at-end (newest_alone xs) x ∙ sym (alone-at-end xs x)
kept-made false (made.Body len) x xs = alone-at-end (newest_alone xs) x ∙ sym (alone-at-end xs x)
kept-made false (made.Worn life) x xs = alone-again xs

kept-few : {A : Type 0} (b : Bool) (xs : List A) → length (kept b xs) ≤ length xs
kept-few true xs = omega arith
kept-few false xs = omega (arith, length-drop (length xs - 1) xs)

pub count-made : {A : Type 0} (m : Made) (x : A) (xs : List A) → length (with_made m x xs) ≡ count_with m (length xs)
count-made (made.Ping len) x xs = length-append xs (x ∷ [])
count-made (made.Body len) x xs = length-append xs (x ∷ [])
count-made (made.Worn life) x xs = refl

-- ---- the same of a pair

-- a pair that keeps all has all
pub all-kept : (p : PairState) (t : Terms) (steps : List PairStep) → StandsFor p t steps → p.keeps_all ≡ true → p.down ≡ server_datagrams t (history t steps).server
all-kept p t steps s keeps = s.down ∙ ap (λ (b : Bool). kept b (server_datagrams t (history t steps).server)) keeps

-- no more are kept than were sent
pub few-kept : (p : PairState) (t : Terms) (steps : List PairStep) → StandsFor p t steps → p.sent < 4294967295 → length p.down < 4294967295
few-kept p t steps s few =
    omega (arith, few, s.sent, ap (λ (l : List (List ℕ)). length l) s.down, kept-few p.keeps_all (server_datagrams t (history t steps).server))

-- ---- the newest of datagrams that lie one behind another

pub newest-cut : (start : ℕ) (stops bytes : List ℕ) (k d : ℕ) → length stops ≡ suc (suc k) → Rise start stops (length bytes) → drop (suc k) (cut start stops bytes) ≡ drop (get_or stops k d) bytes ∷ []
newest-cut start [] bytes k d long h = absurd (omega (arith, long))
newest-cut start (x ∷ []) bytes k d long h = absurd (omega (arith, long))
newest-cut start (x ∷ y ∷ []) bytes zero d long h =
    ap (λ (l : List ℕ). l ∷ []) (take_all (y - x) (drop x bytes) (omega (arith, length-drop x bytes, h.1.0, h.1.1)))
newest-cut start (x ∷ y ∷ []) bytes (suc k) d long h = absurd (omega (arith, long))
newest-cut start (x ∷ y ∷ z ∷ stops) bytes zero d long h = absurd (omega (arith, long))
newest-cut start (x ∷ y ∷ z ∷ stops) bytes (suc k) d long h = newest-cut x (y ∷ z ∷ stops) bytes k d (omega (arith, long)) h.1

pub all-dropped : {A : Type 0} (P : A → Type 0) (n : ℕ) (xs : List A) → AllByRecursion P xs → AllByRecursion P (drop n xs)
all-dropped P zero xs h = h
all-dropped P (suc n) [] h = tt
all-dropped P (suc n) (x ∷ xs) h = all-dropped P n xs h.1

pub rise-at : (start : ℕ) (stops : List ℕ) (most k d : ℕ) → k < length stops → Rise start stops most → get_or stops k d ≤ most
rise-at start [] most k d lt h = absurd (omega (arith, lt))
rise-at start (x ∷ stops) most zero d lt h = rise-most x stops most h.1
rise-at start (x ∷ stops) most (suc k) d lt h = rise-at x stops most k d (omega (arith, lt)) h.1

-- the newest of them, at the front of its room
module _ (stops bytes ends left : List ℕ) (k start stop : ℕ) (long : length stops ≡ suc (suc k)) (h : AreFlat stops bytes) (at : start ≡ get_or stops k start) (is : left ≡ drop start bytes)
    (so : ends ≡ stop ∷ []) (end : stop ≡ length left) where
  before : drop (suc k) (cut 0 stops bytes) ≡ left ∷ []
  before = newest-cut 0 stops bytes k start long h.rise ∙ ap (λ (n : ℕ). drop n bytes ∷ []) (sym at) ∙ ap (λ (l : List ℕ). l ∷ []) (sym is)

  after : cut 0 ends left ≡ left ∷ []
  after = ap (λ (l : List ℕ). cut 0 l left) so ∙ ap (λ (l : List ℕ). l ∷ []) (take_all (stop - 0) left (omega (arith, end)))

  pub alone-cut : cut 0 ends left ≡ newest_alone (cut 0 stops bytes)
  alone-cut =
      let last : length (cut 0 stops bytes) - 1 ≡ suc k = omega (arith, cut-length 0 stops bytes, long) in
      after ∙ sym (ap (λ (n : ℕ). drop n (cut 0 stops bytes)) last ∙ before)

  pub alone-flat : AreFlat ends left
  alone-flat = record {
    rise = subst (λ (l : List ℕ). Rise 0 l (length left)) (sym so) (omega arith, end);
    few = omega (arith, ap (λ (l : List ℕ). length l) so);
    short = subst (AllByRecursion IsShort) (before ∙ sym after) (all-dropped IsShort (suc k) (cut 0 stops bytes) h.short);
  }
