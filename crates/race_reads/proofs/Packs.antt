-- The walk over steps, pack by pack: the reads that are left are those of the next step and those behind it.
use Rattle.std.proofs.Common.{◌≡◌, ◌∙◌, ℕ, zero, suc, ◌<◌, ◌≤◌, ◌+◌, List, [], ◌∷◌, ◌++◌, length, drop, refl, sym, ap, subst, arith, Option}
use Rattle.std.specs.Prelude.{◌↔◌}
use Rattle.std.specs.List.{AllByRecursion}
use Rattle.std.proofs.lemmas.List.{drop_all}
use Rattle.tn_types.specs.declared.choices.Read.{Read}
use Rattle.pair_core.specs.History.{PairStep}
use Rattle.kept_pair.specs.StepLists.{reads_at}
use Rattle.race_reads.specs.Tables.{RisesFrom, noted, noted_periods}
use Rattle.race_reads.specs.Legal.{reads_of}
use Rattle.race_reads.proofs.Deciding.{all_append}
use Rattle.race_reads.proofs.Rising.{rises_append}
use Rattle.race_reads.proofs.LastReads.{noting_append}

-- the reads from this step on
abbrev pub reads_left : List PairStep → ℕ → List Read
reads_left steps i = reads_of (drop i steps)

pub left_reads : (steps : List PairStep) (i : ℕ) → i < length steps → reads_left steps i ≡ reads_at steps i ++ reads_left steps (i + 1)
left_reads [] i l = absurd (omega (arith, l))
left_reads (s ∷ steps) zero l = refl
left_reads (s ∷ steps) (suc i) l =
    let e : suc (i + 1) ≡ suc i + 1 = omega arith in
    left_reads steps i (omega (arith, l)) ∙ ap (λ (k : ℕ). reads_at steps i ++ reads_left (s ∷ steps) k) e

pub none_left : (steps : List PairStep) (i : ℕ) → length steps ≤ i → reads_left steps i ≡ []
none_left steps i l = ap reads_of (drop_all i steps l)

-- what these reads are, those of each step are
pub all_at : (P : Read → Type 0) (steps : List PairStep) (i : ℕ) → i < length steps → AllByRecursion P (reads_of steps) → AllByRecursion P (reads_at steps i)
all_at P [] i l h = absurd (omega (arith, l))
all_at P (s ∷ steps) zero l h = ((all_append P (reads_at (s ∷ steps) 0) (reads_of steps)).0 h).0
all_at P (s ∷ steps) (suc i) l h = all_at P steps i (omega (arith, l)) ((all_append P (reads_at (s ∷ steps) 0) (reads_of steps)).0 h).1

-- ---- reads that all are so

module _ (P : Read → Type 0) (W : Type 0) (steps : List PairStep) (i : ℕ) (h : W ↔ AllByRecursion P (reads_left steps i)) where
  abbrev A : List Read → Type 0
  A rs = AllByRecursion P rs

  pub packs_more : i < length steps → AllByRecursion P (reads_at steps i) → W ↔ AllByRecursion P (reads_left steps (i + 1))
  packs_more l p =
      let both = all_append P (reads_at steps i) (reads_left steps (i + 1)) in
      let e = left_reads steps i l in
      (λ w. (both.0 (subst A e (h.0 w))).1, λ a. h.1 (subst A (sym e) (both.1 (p, a))))

  pub packs_stop : i < length steps → (AllByRecursion P (reads_at steps i) → ⊥) → W → ⊥
  packs_stop l stops w = stops ((all_append P (reads_at steps i) (reads_left steps (i + 1))).0 (subst A (left_reads steps i l) (h.0 w))).0

  pub packs_end : length steps ≤ i → W
  packs_end l = h.1 (subst A (sym (none_left steps i l)) tt)

-- ---- reads that rise

module _ (objects last : List ℕ) (W : Type 0) (steps : List PairStep) (i : ℕ) (h : W ↔ RisesFrom objects last (reads_left steps i)) where
  abbrev R : List Read → Type 0
  R rs = RisesFrom objects last rs

  pub rise_more : i < length steps → RisesFrom objects last (reads_at steps i) → W ↔ RisesFrom objects (noted objects last (reads_at steps i)) (reads_left steps (i + 1))
  rise_more l p =
      let both = rises_append objects last (reads_at steps i) (reads_left steps (i + 1)) in
      let e = left_reads steps i l in
      (λ w. (both.0 (subst R e (h.0 w))).1, λ a. h.1 (subst R (sym e) (both.1 (p, a))))

  pub rise_stop : i < length steps → (RisesFrom objects last (reads_at steps i) → ⊥) → W → ⊥
  rise_stop l stops w = stops ((rises_append objects last (reads_at steps i) (reads_left steps (i + 1))).0 (subst R (left_reads steps i l) (h.0 w))).0

  pub rise_end : length steps ≤ i → W
  rise_end l = h.1 (subst R (sym (none_left steps i l)) tt)

-- ---- reads that are noted

pub note_more : (all last : List (Option ℕ)) (steps : List PairStep) (i : ℕ) → all ≡ noted_periods last (reads_left steps i) → i < length steps
    → all ≡ noted_periods (noted_periods last (reads_at steps i)) (reads_left steps (i + 1))
note_more all last steps i h l =
    h ∙ ap (λ (rs : List Read). noted_periods last rs) (left_reads steps i l) ∙ noting_append last (reads_at steps i) (reads_left steps (i + 1))

pub note_end : (all last : List (Option ℕ)) (steps : List PairStep) (i : ℕ) → all ≡ noted_periods last (reads_left steps i) → length steps ≤ i → last ≡ all
note_end all last steps i h l = sym (h ∙ ap (λ (rs : List Read). noted_periods last rs) (none_left steps i l))

-- ---- the tables of walks

-- reads that rise, by what a walk over one pack says of the table before and after it
module _ (objects last before after : List ℕ) (reads : List Read) (W : Type 0) (steps : List PairStep) (i : ℕ) (same : before ≡ last) (are : reads ≡ reads_at steps i) (lt : i < length steps) (h : W ↔ RisesFrom objects last (reads_left steps i)) where
  pub table_more : RisesFrom objects before reads → after ≡ noted objects before reads → W ↔ RisesFrom objects after (reads_left steps (i + 1))
  table_more rise is =
      let p : RisesFrom objects last (reads_at steps i) = subst (λ (x : List ℕ × List Read). RisesFrom objects x.0 x.1) (λ j. (same j, are j)) rise in
      let e : after ≡ noted objects last (reads_at steps i) = is ∙ (λ j. noted objects (same j) (are j)) in
      subst (λ (table : List ℕ). W ↔ RisesFrom objects table (reads_left steps (i + 1))) (sym e) (rise_more objects last W steps i h lt p)

  pub table_stops : (RisesFrom objects before reads → ⊥) → W → ⊥
  table_stops stops = rise_stop objects last W steps i h lt (λ p. stops (subst (λ (x : List ℕ × List Read). RisesFrom objects x.0 x.1) (λ j. (sym same j, sym are j)) p))

pub table_noted : (all last before after : List (Option ℕ)) (reads : List Read) (steps : List PairStep) (i : ℕ) → before ≡ last → reads ≡ reads_at steps i → i < length steps → all ≡ noted_periods last (reads_left steps i)
    → after ≡ noted_periods before reads → all ≡ noted_periods after (reads_left steps (i + 1))
table_noted all last before after reads steps i same are lt h is =
    note_more all last steps i h lt ∙ (λ j. noted_periods (sym (is ∙ (λ k. noted_periods (same k) (are k))) j) (reads_left steps (i + 1)))
