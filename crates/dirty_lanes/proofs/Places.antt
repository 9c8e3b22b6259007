-- No two fields or masks share a word, and each word of an object is there.
use Rattle.std.proofs.Common.{◌≡◌, ◌≢◌, ◌⊎◌, ℕ, zero, suc, ◌+◌, ◌*◌, ◌<◌, refl, arith, ⊎_elim}
use Rattle.std.specs.Prelude.{replicate, slice_index}
use Rattle.tn_types.specs.declared.limits.TheConstants.{MAX_CLIENTS}
use Rattle.dirty_lanes.specs.declared.limits.TheConstants.{MAX_LANE_FIELDS}
use Rattle.dirty_lanes.specs.declared.words.TheConstants.{WORDS}
use Rattle.dirty_lanes.specs.Words.{field_word, mask_word}

pub fields_apart : (o f p g : ℕ) → f < MAX_LANE_FIELDS → g < MAX_LANE_FIELDS → (o ≢ p) ⊎ (f ≢ g) → field_word o f ≢ field_word p g
fields_apart o f p g h k apart is = ⊎_elim (λ (ne : o ≢ p). ne (omega arith)) (λ (ne : f ≢ g). ne (omega arith)) apart

pub masks_apart : (c o d p : ℕ) → c < MAX_CLIENTS → d < MAX_CLIENTS → (c ≢ d) ⊎ (o ≢ p) → mask_word c o ≢ mask_word d p
masks_apart c o d p h k apart is = ⊎_elim (λ (ne : c ≢ d). ne (omega arith)) (λ (ne : o ≢ p). ne (omega arith)) apart

pub kinds_apart : (o f c p : ℕ) → f < MAX_LANE_FIELDS → c < MAX_CLIENTS → field_word o f ≢ mask_word c p
kinds_apart o f c p h k is = omega arith

pub kinds_apart' : (o f c p : ℕ) → f < MAX_LANE_FIELDS → c < MAX_CLIENTS → mask_word c p ≢ field_word o f
kinds_apart' o f c p h k is = omega arith

pub field_there : (objects o f : ℕ) → o < objects → f < MAX_LANE_FIELDS → field_word o f < WORDS * objects + 1
field_there objects o f h k = omega arith

pub mask_there : (objects c o : ℕ) → o < objects → c < MAX_CLIENTS → mask_word c o < WORDS * objects + 1
mask_there objects c o h k = omega arith

abbrev pub nought : ℕ
nought = 0

pub all_zero : (n i : ℕ) → slice_index (replicate n nought) i ≡ nought
all_zero zero i = refl
all_zero (suc n) zero = refl
all_zero (suc n) (suc i) = all_zero n i
