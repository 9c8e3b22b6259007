-- What one more event adds to what follows from a log, and so what each call keeps.
use Rattle.std.proofs.Common.{◌≡◌, ◌≢◌, ◌⊎◌, ℕ, zero, suc, ◌+◌, ◌<◌, ◌≤◌, true, false, not, ◌&&◌, ◌==◌, List, [], ◌∷◌, ◌++◌, refl, sym, ap, ◌∙◌, subst, arith, inl, inr, ⊎_elim}
use Rattle.std.specs.Prelude.{bit_or}
use Rattle.std.proofs.lemmas.Bool.{cases_eq}
use Rattle.std.proofs.lemmas.Bool.Decides.{nat_tests}
use Rattle.std.proofs.lemmas.List.Sums.{take_while-cons}
use Rattle.tn_types.specs.declared.limits.TheConstants.{MAX_CLIENTS}
use Rattle.dirty_lanes.specs.declared.limits.TheConstants.{MAX_LANE_FIELDS}
use Rattle.dirty_lanes.specs.Words.{Words, version_at, value_at, mask_at, SizesStay, FieldsStay, MasksStay, OtherFieldsStay, OtherMasksStay}
use Rattle.dirty_lanes.specs.Log.{LaneEvent, Wrote, Raised, Drained, Read, version_of, last_value, is_drain, mask_of, raised_for, StandsFor}

same_here : (a b : ℕ) → ((a == a) && (b == b)) ≡ true
same_here a b = grind (arith, nat_tests)

apart_here : (a b c d : ℕ) → (a ≢ c) ⊎ (b ≢ d) → ((c == a) && (d == b)) ≡ false
apart_here a b c d apart = grind (arith, nat_tests)

-- a write
pub version_of-wrote : (log : List LaneEvent) (o f v : ℕ) → version_of (Wrote o f v ∷ log) o f ≡ version_of log o f + 1
unfolding version_of
version_of-wrote log o f v = rw (same_here o f) (omega arith)

pub last_value-wrote : (log : List LaneEvent) (o f v : ℕ) → last_value (Wrote o f v ∷ log) o f ≡ v
unfolding last_value
last_value-wrote log o f v = rw (same_here o f)

pub version_of-wrote_other : (log : List LaneEvent) (o f v p g : ℕ) → (p ≢ o) ⊎ (g ≢ f) → version_of (Wrote o f v ∷ log) p g ≡ version_of log p g
unfolding version_of
version_of-wrote_other log o f v p g apart = rw (apart_here p g o f apart)

pub last_value-wrote_other : (log : List LaneEvent) (o f v p g : ℕ) → (p ≢ o) ⊎ (g ≢ f) → last_value (Wrote o f v ∷ log) p g ≡ last_value log p g
unfolding last_value
last_value-wrote_other log o f v p g apart = rw (apart_here p g o f apart)

-- a raise
pub mask_of-raised : (log : List LaneEvent) (c o bits : ℕ) → mask_of (Raised c o bits ∷ log) c o ≡ bit_or (mask_of log c o) bits
unfolding mask_of
mask_of-raised log c o bits = rw (take_while-cons (λ e. not (is_drain c o e)) (Raised c o bits) log, same_here c o)

pub mask_of-raised_other : (log : List LaneEvent) (c o bits d p : ℕ) → (d ≢ c) ⊎ (p ≢ o) → mask_of (Raised c o bits ∷ log) d p ≡ mask_of log d p
unfolding mask_of
mask_of-raised_other log c o bits d p apart = rw (take_while-cons (λ e. not (is_drain d p e)) (Raised c o bits) log, apart_here d p c o apart)

-- a drain
pub mask_of-drained : (log : List LaneEvent) (c o : ℕ) → mask_of (Drained c o ∷ log) c o ≡ 0
unfolding mask_of
mask_of-drained log c o = rw (take_while-cons (λ e. not (is_drain c o e)) (Drained c o) log, same_here c o)

pub mask_of-drained_other : (log : List LaneEvent) (c o d p : ℕ) → (d ≢ c) ⊎ (p ≢ o) → mask_of (Drained c o ∷ log) d p ≡ mask_of log d p
unfolding mask_of
mask_of-drained_other log c o d p apart = rw (take_while-cons (λ e. not (is_drain d p e)) (Drained c o) log, apart_here d p c o apart)

-- what changes no mask
pub mask_of-wrote : (log : List LaneEvent) (o f v d p : ℕ) → mask_of (Wrote o f v ∷ log) d p ≡ mask_of log d p
unfolding mask_of
mask_of-wrote log o f v d p = rw (take_while-cons (λ e. not (is_drain d p e)) (Wrote o f v) log)

pub mask_of-read : (log : List LaneEvent) (c o f d p : ℕ) → mask_of (Read c o f ∷ log) d p ≡ mask_of log d p
unfolding mask_of
mask_of-read log c o f d p = rw (take_while-cons (λ e. not (is_drain d p e)) (Read c o f) log)

-- each call keeps what lanes stand for
both_cases : (a b p q : ℕ) → ((a ≡ p) × (b ≡ q)) ⊎ ((a ≢ p) ⊎ (b ≢ q))
both_cases a b p q = ⊎_elim (λ (e : a ≡ p). ⊎_elim (λ (h : b ≡ q). inl (e, h)) (λ (ne : b ≢ q). inr (inr ne)) (cases_eq b q)) (λ (ne : a ≢ p). inr (inl ne)) (cases_eq a p)

-- what is so at one place of two numbers and everywhere else is so everywhere
everywhere : (P : ℕ → ℕ → Type 0) (p q : ℕ) → P p q → (a b : ℕ) → ((a ≢ p) ⊎ (b ≢ q) → P a b) → P a b
everywhere P p q here a b elsewhere = ⊎_elim (λ (e : (a ≡ p) × (b ≡ q)). subst (λ (z : ℕ × ℕ). P z.0 z.1) (λ j. (sym e.0 j, sym e.1 j)) here) elsewhere (both_cases a b p q)

pub stands-new : (w : Words) → ((o f : ℕ) → version_at w o f ≡ 0) → ((o f : ℕ) → value_at w o f ≡ 0) → ((c o : ℕ) → mask_at w c o ≡ 0) → StandsFor w []
unfolding version_of last_value mask_of
stands-new w versions values masks = record {
  versions = λ o f there within. versions o f;
  values = λ o f there within. values o f;
  masks = λ c o known there. masks c o;
}

pub stands-write : (old new : Words) (log : List LaneEvent) (o f v : ℕ) → SizesStay old new → version_at new o f ≡ version_at old o f + 1 → value_at new o f ≡ v → OtherFieldsStay old new o f → MasksStay old new
    → o < old.objects → f < MAX_LANE_FIELDS → old.clients ≤ MAX_CLIENTS → StandsFor old log → StandsFor new (Wrote o f v ∷ log)
stands-write old new log o f v sizes version value fields masks there inside few stands = record {
  versions = λ p g known within. everywhere (λ p g. version_at new p g ≡ version_of (Wrote o f v ∷ log) p g) o f
      (version ∙ ap (λ (n : ℕ). n + 1) (stands.versions o f there inside) ∙ sym (version_of-wrote log o f v))
      p g (λ apart. fields.versions p g within apart ∙ stands.versions p g (old_object p known) within ∙ sym (version_of-wrote_other log o f v p g apart));
  values = λ p g known within. everywhere (λ p g. value_at new p g ≡ last_value (Wrote o f v ∷ log) p g) o f
      (value ∙ sym (last_value-wrote log o f v))
      p g (λ apart. fields.values p g within apart ∙ stands.values p g (old_object p known) within ∙ sym (last_value-wrote_other log o f v p g apart));
  masks = λ d p named known.
      masks.masks d p (omega (arith, old_client d named)) ∙ stands.masks d p (old_client d named) (old_object p known) ∙ sym (mask_of-wrote log o f v d p);
}
  where
    old_object : (p : ℕ) → p < new.objects → p < old.objects
    old_object p known = subst (λ (n : ℕ). p < n) sizes.objects known

    old_client : (d : ℕ) → d < new.clients → d < old.clients
    old_client d named = subst (λ (n : ℕ). d < n) sizes.clients named

-- a raise or a drain
stands-mask : (old new : Words) (log : List LaneEvent) (e : LaneEvent) (c o : ℕ) → SizesStay old new → mask_at new c o ≡ mask_of (e ∷ log) c o → OtherMasksStay old new c o → FieldsStay old new → old.clients ≤ MAX_CLIENTS
    → ((p g : ℕ) → version_of (e ∷ log) p g ≡ version_of log p g) → ((p g : ℕ) → last_value (e ∷ log) p g ≡ last_value log p g) → ((d p : ℕ) → (d ≢ c) ⊎ (p ≢ o) → mask_of (e ∷ log) d p ≡ mask_of log d p)
    → StandsFor old log → StandsFor new (e ∷ log)
stands-mask old new log e c o sizes mask others fields few same_version same_value same_mask stands = record {
  versions = λ p g known within. fields.versions p g within ∙ stands.versions p g (old_object p known) within ∙ sym (same_version p g);
  values = λ p g known within. fields.values p g within ∙ stands.values p g (old_object p known) within ∙ sym (same_value p g);
  masks = λ d p named known. everywhere (λ d p. mask_at new d p ≡ mask_of (e ∷ log) d p) c o mask
      d p (λ apart. others.masks d p (omega (arith, old_client d named)) apart ∙ stands.masks d p (old_client d named) (old_object p known) ∙ sym (same_mask d p apart));
}
  where
    old_object : (p : ℕ) → p < new.objects → p < old.objects
    old_object p known = subst (λ (n : ℕ). p < n) sizes.objects known

    old_client : (d : ℕ) → d < new.clients → d < old.clients
    old_client d named = subst (λ (n : ℕ). d < n) sizes.clients named

pub stands-raise : (old new : Words) (log : List LaneEvent) (c o bits : ℕ) → SizesStay old new → mask_at new c o ≡ bit_or (mask_at old c o) bits → OtherMasksStay old new c o → FieldsStay old new
    → c < old.clients → o < old.objects → old.clients ≤ MAX_CLIENTS → StandsFor old log → StandsFor new (Raised c o bits ∷ log)
unfolding version_of last_value
stands-raise old new log c o bits sizes mask others fields named there few stands =
    stands-mask old new log (Raised c o bits) c o sizes (mask ∙ ap (λ (n : ℕ). bit_or n bits) (stands.masks c o named there) ∙ sym (mask_of-raised log c o bits)) others fields few
    (λ p g. refl) (λ p g. refl) (λ d p apart. mask_of-raised_other log c o bits d p apart) stands

pub stands-drain : (old new : Words) (log : List LaneEvent) (c o : ℕ) → SizesStay old new → mask_at new c o ≡ 0 → OtherMasksStay old new c o → FieldsStay old new
    → old.clients ≤ MAX_CLIENTS → StandsFor old log → StandsFor new (Drained c o ∷ log)
unfolding version_of last_value
stands-drain old new log c o sizes mask others fields few stands =
    stands-mask old new log (Drained c o) c o sizes (mask ∙ sym (mask_of-drained log c o)) others fields few
    (λ p g. refl) (λ p g. refl) (λ d p apart. mask_of-drained_other log c o d p apart) stands

pub stands-read : (w : Words) (log : List LaneEvent) (c o f : ℕ) → StandsFor w log → StandsFor w (Read c o f ∷ log)
unfolding version_of last_value
stands-read w log c o f stands = record {
  versions = λ p g there within. stands.versions p g there within;
  values = λ p g there within. stands.values p g there within;
  masks = λ d p named there. stands.masks d p named there ∙ sym (mask_of-read log c o f d p);
}

-- a raise for each of the first clients
raised_for-version : (n o bits : ℕ) (log : List LaneEvent) (p g : ℕ) → version_of (raised_for n o bits ++ log) p g ≡ version_of log p g
unfolding version_of
raised_for-version zero o bits log p g = refl
raised_for-version (suc n) o bits log p g = raised_for-version n o bits log p g

raised_for-value : (n o bits : ℕ) (log : List LaneEvent) (p g : ℕ) → last_value (raised_for n o bits ++ log) p g ≡ last_value log p g
unfolding last_value
raised_for-value zero o bits log p g = refl
raised_for-value (suc n) o bits log p g = raised_for-value n o bits log p g

raised_for-other : (n o bits : ℕ) (log : List LaneEvent) (d p : ℕ) → (n ≤ d) ⊎ (p ≢ o) → mask_of (raised_for n o bits ++ log) d p ≡ mask_of log d p
raised_for-other zero o bits log d p apart = refl
raised_for-other (suc n) o bits log d p apart =
    mask_of-raised_other (raised_for n o bits ++ log) n o bits d p (⊎_elim (λ (le : suc n ≤ d). inl (λ (e : d ≡ n). omega arith)) (λ (ne : p ≢ o). inr ne) apart)
    ∙ raised_for-other n o bits log d p (⊎_elim (λ (le : suc n ≤ d). inl (omega arith)) (λ (ne : p ≢ o). inr ne) apart)

raised_for-each : (n o bits : ℕ) (log : List LaneEvent) (d : ℕ) → d < n → mask_of (raised_for n o bits ++ log) d o ≡ bit_or (mask_of log d o) bits
raised_for-each zero o bits log d lt = absurd (omega arith)
raised_for-each (suc n) o bits log d lt = ⊎_elim
    (λ (e : d ≡ n). subst (λ (k : ℕ). mask_of (Raised n o bits ∷ raised_for n o bits ++ log) k o ≡ bit_or (mask_of log k o) bits) (sym e)
    (mask_of-raised (raised_for n o bits ++ log) n o bits ∙ ap (λ (m : ℕ). bit_or m bits) (raised_for-other n o bits log n o (inl (omega arith)))))
    (λ (ne : d ≢ n). mask_of-raised_other (raised_for n o bits ++ log) n o bits d o (inl ne) ∙ raised_for-each n o bits log d (omega (arith, ne)))
    (cases_eq d n)

pub stands-raised_for : (old new : Words) (log : List LaneEvent) (o bits : ℕ) → SizesStay old new → FieldsStay old new
    → ((d : ℕ) → d < MAX_CLIENTS → mask_at new d o ≡ bit_or (mask_at old d o) bits) → ((d p : ℕ) → d < MAX_CLIENTS → p ≢ o → mask_at new d p ≡ mask_at old d p)
    → old.clients ≤ MAX_CLIENTS → StandsFor old log → StandsFor new (raised_for MAX_CLIENTS o bits ++ log)
stands-raised_for old new log o bits sizes fields raised others few stands = record {
  versions = λ p g known within. fields.versions p g within ∙ stands.versions p g (old_object p known) within ∙ sym (raised_for-version MAX_CLIENTS o bits log p g);
  values = λ p g known within. fields.values p g within ∙ stands.values p g (old_object p known) within ∙ sym (raised_for-value MAX_CLIENTS o bits log p g);
  masks = λ d p named known. let lt : d < MAX_CLIENTS = omega (arith, old_client d named) in ⊎_elim
      (λ (e : p ≡ o). subst (λ (k : ℕ). k < old.objects → mask_at new d k ≡ mask_of (raised_for MAX_CLIENTS o bits ++ log) d k) (sym e)
      (λ there. raised d lt ∙ ap (λ (m : ℕ). bit_or m bits) (stands.masks d o (old_client d named) there) ∙ sym (raised_for-each MAX_CLIENTS o bits log d lt)) (old_object p known))
      (λ (ne : p ≢ o). others d p lt ne ∙ stands.masks d p (old_client d named) (old_object p known) ∙ sym (raised_for-other MAX_CLIENTS o bits log d p (inr ne)))
      (cases_eq p o);
}
  where
    old_object : (p : ℕ) → p < new.objects → p < old.objects
    old_object p known = subst (λ (n : ℕ). p < n) sizes.objects known

    old_client : (d : ℕ) → d < new.clients → d < old.clients
    old_client d named = subst (λ (n : ℕ). d < n) sizes.clients named
