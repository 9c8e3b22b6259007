-- What is watched on the way of a scan: each of the slots below one that had a copy and none that watched it, by its number.
use Rattle.std.proofs.Common.{◌≡◌, ◌∙◌, ℕ, zero, suc, ◌+◌, ◌≤◌, ◌==◌, ◌&&◌, Bool, true, false, not, cond, nat_lt, List, [], ◌∷◌, ◌++◌, Option, Some, None, if◌then◌else◌, is_some, count_by, refl, sym, ap, arith}
use Rattle.std.proofs.lemmas.Bool.{eqb-true}
use Rattle.std.proofs.lemmas.Bool.Decides.{nat_tests}
use Rattle.std.proofs.lemmas.List.Sums.{sum_by-append}
use Rattle.tn_types.specs.declared.limits.TheConstants.{MAX_SLOTS}
use Rattle.ghost_model.specs.Words.{upto}
use Rattle.ghost_client.specs.declared.copy.GhostCopy.{GhostCopy}
use Rattle.relay_model.specs.Watching.{Watched, is_unwatched, begun_below, all_watched}
use Rattle.relay_model.specs.Beginning.{begun_at, begun_up_to}

count_on : (p : ℕ → Bool) (xs : List ℕ) (x : ℕ) → count_by p (xs ++ x ∷ []) ≡ count_by p xs + (if p x then 1 else 0)
count_on p xs x =
    let one : 0 + (if p x then 1 else 0) ≡ (if p x then 1 else 0) = omega arith in
    sum_by-append (λ y. cond (p y) 1 0) xs (x ∷ []) ∙ ap (λ n. count_by p xs + n) one

-- a number below the next one is this one or below it
below_next : (s m : ℕ) → (s == m) ≡ false → nat_lt s (suc m) ≡ nat_lt s m
below_next s m other = by (nat_lt s m) refl
  where
    by : (b : Bool) → nat_lt s m ≡ b → nat_lt s (suc m) ≡ b
    by true e = grind (arith, nat_tests)
    by false e = grind (arith, nat_tests)

module _ (copies : ℕ → Option GhostCopy) (w : Watched) where
  abbrev mid : ℕ → Watched
  mid m = begun_up_to copies w m

  pub shows_mid : (m : ℕ) → (mid m).shows ≡ w.shows + begun_below copies w m
  unfolding upto
  shows_mid zero = omega arith
  shows_mid (suc m) = by (shows_mid m) (is_unwatched copies w m) refl
    where
      more : count_by (is_unwatched copies w) (upto m ++ m ∷ []) ≡ begun_below copies w m + (if is_unwatched copies w m then 1 else 0)
      more = count_on (is_unwatched copies w) (upto m) m

      by : (mid m).shows ≡ w.shows + begun_below copies w m → (b : Bool) → is_unwatched copies w m ≡ b
          → (if b then begun_at m (mid m) else mid m).shows ≡ w.shows + count_by (is_unwatched copies w) (upto m ++ m ∷ [])
      by so_far true e = let one : (if is_unwatched copies w m then 1 else 0) ≡ 1 = ap {B = ℕ} (λ (b : Bool). if b then 1 else 0) e in omega (arith, so_far, more, one)
      by so_far false e = let one : (if is_unwatched copies w m then 1 else 0) ≡ 0 = ap {B = ℕ} (λ (b : Bool). if b then 1 else 0) e in omega (arith, so_far, more, one)

  abbrev watched_below : ℕ → ℕ → Option ℕ
  watched_below m s = if nat_lt s m && is_unwatched copies w s then Some (w.shows + begun_below copies w s) else w.period s

  abbrev shown_if : ℕ → Bool → Option ℕ
  shown_if s b = if b && is_unwatched copies w s then Some (w.shows + begun_below copies w s) else w.period s

  period_mid : (m s : ℕ) → (mid m).period s ≡ watched_below m s
  period_mid zero s =
      let none : nat_lt s 0 ≡ false = grind (arith, nat_tests) in
      sym (ap (λ (b : Bool). if b && is_unwatched copies w s then Some (w.shows + begun_below copies w s) else w.period s) none)
  period_mid (suc m) s = by (period_mid m s) (is_unwatched copies w m) refl
    where
      -- of another slot
      other : (mid m).period s ≡ watched_below m s → (s == m) ≡ false → (mid m).period s ≡ watched_below (suc m) s
      other so_far differs = so_far ∙ sym (ap (shown_if s) (below_next s m differs))

      here : (s == m) ≡ true → is_unwatched copies w m ≡ true → Some (mid m).shows ≡ watched_below (suc m) s
      here equal free =
          let same : s ≡ m = eqb-true s m equal in
          let below : nat_lt s (suc m) ≡ true = grind (arith, nat_tests) in
          ap (λ (n : ℕ). Some n) (shows_mid m) ∙ ap (λ (n : ℕ). Some (w.shows + begun_below copies w n)) (sym same)
          ∙ sym (ap (shown_if s) below ∙ ap (λ (b : Bool). if b then Some (w.shows + begun_below copies w s) else w.period s) (ap (is_unwatched copies w) same ∙ free))

      not_free : (mid m).period s ≡ watched_below m s → (s == m) ≡ true → is_unwatched copies w m ≡ false
          → (mid m).period s ≡ watched_below (suc m) s
      not_free so_far equal full =
          let same : s ≡ m = eqb-true s m equal in
          let none : is_unwatched copies w s ≡ false = ap (is_unwatched copies w) same ∙ full in
          so_far ∙ nothing (nat_lt s m) (is_unwatched copies w s) none ∙ sym (nothing (nat_lt s (suc m)) (is_unwatched copies w s) none)
        where
          nothing : (a b : Bool) → b ≡ false → (if a && b then Some (w.shows + begun_below copies w s) else w.period s) ≡ w.period s
          nothing true b e = ap (λ (c : Bool). if c then Some (w.shows + begun_below copies w s) else w.period s) e
          nothing false b e = refl

      by : (mid m).period s ≡ watched_below m s → (b : Bool) → is_unwatched copies w m ≡ b
          → (if b then begun_at m (mid m) else mid m).period s ≡ watched_below (suc m) s
      by so_far true e = at (s == m) refl
        where
          at : (c : Bool) → (s == m) ≡ c → (if c then Some (mid m).shows else (mid m).period s) ≡ watched_below (suc m) s
          at true equal = here equal e
          at false differs = other so_far differs
      by so_far false e = at (s == m) refl
        where
          at : (c : Bool) → (s == m) ≡ c → (mid m).period s ≡ watched_below (suc m) s
          at true equal = not_free so_far equal e
          at false differs = other so_far differs

  pub not_yet : (m : ℕ) → (mid m).period m ≡ w.period m
  not_yet m =
      let differs : nat_lt m m ≡ false = grind (arith, nat_tests) in
      period_mid m m ∙ ap (λ (b : Bool). if b && is_unwatched copies w m then Some (w.shows + begun_below copies w m) else w.period m) differs

  -- at the last slot all are watched
  pub all_periods : ((slot : ℕ) → MAX_SLOTS ≤ slot → copies slot ≡ None) → (s : ℕ) → (mid MAX_SLOTS).period s ≡ (all_watched copies w).period s
  all_periods within s = period_mid MAX_SLOTS s ∙ by (nat_lt s MAX_SLOTS) refl
    where
      by : (b : Bool) → nat_lt s MAX_SLOTS ≡ b
          → (if b && is_unwatched copies w s then Some (w.shows + begun_below copies w s) else w.period s)
          ≡ (if is_unwatched copies w s then Some (w.shows + begun_below copies w s) else w.period s)
      by true e = refl
      by false e =
          let none : copies s ≡ None = within s (grind (arith, nat_tests)) in
          sym (ap (λ (o : Option GhostCopy). if is_some o && not (is_some (w.period s)) then Some (w.shows + begun_below copies w s) else w.period s) none)
