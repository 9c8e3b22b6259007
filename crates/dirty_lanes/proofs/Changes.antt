-- What one changed word leaves as it was: of a field's word all masks and other fields, of a mask's word all fields
-- and other masks.
use Rattle.std.proofs.Common.{◌≡◌, ◌≢◌, ◌⊎◌, ℕ, ◌+◌, ◌*◌, ◌/◌, ◌%◌, ◌<◌, ◌≤◌, ◌^◌, refl, sym, ap, ◌∙◌, subst, inl, inr, ⊎_elim, lit<}
use Rattle.std.specs.Prelude.{slice_index}
use Rattle.std.proofs.lemmas.List.{get_or-set_same, get_or-set_other, length-set, length-replicate}
use Rattle.std.proofs.lemmas.Bool.{cases_eq}
use Rattle.tn_types.specs.declared.limits.TheConstants.{MAX_CLIENTS, MAX_OBJECTS}
use Rattle.dirty_lanes.specs.declared.limits.TheConstants.{MAX_LANE_FIELDS}
use Rattle.dirty_lanes.specs.declared.words.TheConstants.{WORDS, VERSION}
use Rattle.dirty_lanes.specs.Words.{Words, field_word, mask_word, version_at, value_at, mask_at, with_word, new_words, SizesStay, FieldsStay, MasksStay, OtherFieldsStay, OtherMasksStay, IsLaidOut}
use Rattle.dirty_lanes.proofs.Places.{fields_apart, masks_apart, kinds_apart, kinds_apart', field_there, mask_there, nought, all_zero}

pub sizes_stay : (w : Words) (i n : ℕ) → SizesStay w (with_word w i n)
sizes_stay w i n = record { objects = refl; clients = refl }

word_elsewhere : (w : Words) (i n j : ℕ) → j ≢ i → slice_index (with_word w i n).words j ≡ slice_index w.words j
word_elsewhere w i n j apart = get_or-set_other w.words i j n 0 apart

-- a field's word
pub field_is : (w : Words) (o f n : ℕ) → IsLaidOut w → o < w.objects → f < MAX_LANE_FIELDS → slice_index (with_word w (field_word o f) n).words (field_word o f) ≡ n
field_is w o f n laid there fits = get_or-set_same w.words (field_word o f) n 0 (subst (λ (k : ℕ). field_word o f < k) (sym laid.long) (field_there w.objects o f there fits))

pub other_fields_stay : (w : Words) (o f n : ℕ) → f < MAX_LANE_FIELDS → OtherFieldsStay w (with_word w (field_word o f) n) o f
unfolding version_at value_at
other_fields_stay w o f n fits = record {
  versions = λ p g within apart. ap (λ (k : ℕ). k / VERSION) (word_elsewhere w (field_word o f) n (field_word p g) (fields_apart p g o f within fits apart));
  values = λ p g within apart. ap (λ (k : ℕ). k % VERSION) (word_elsewhere w (field_word o f) n (field_word p g) (fields_apart p g o f within fits apart));
}

pub masks_stay : (w : Words) (o f n : ℕ) → f < MAX_LANE_FIELDS → MasksStay w (with_word w (field_word o f) n)
unfolding mask_at
masks_stay w o f n fits = record { masks = λ c p within. word_elsewhere w (field_word o f) n (mask_word c p) (kinds_apart' o f c p fits within) }

-- a mask's word
pub mask_is : (w : Words) (c o n : ℕ) → IsLaidOut w → o < w.objects → c < MAX_CLIENTS → mask_at (with_word w (mask_word c o) n) c o ≡ n
unfolding mask_at
mask_is w c o n laid there fits = get_or-set_same w.words (mask_word c o) n 0 (subst (λ (k : ℕ). mask_word c o < k) (sym laid.long) (mask_there w.objects c o there fits))

pub other_masks_stay : (w : Words) (c o n : ℕ) → c < MAX_CLIENTS → OtherMasksStay w (with_word w (mask_word c o) n) c o
unfolding mask_at
other_masks_stay w c o n fits = record { masks = λ d p within apart. word_elsewhere w (mask_word c o) n (mask_word d p) (masks_apart d p c o within fits apart) }

pub fields_stay : (w : Words) (c o n : ℕ) → c < MAX_CLIENTS → FieldsStay w (with_word w (mask_word c o) n)
unfolding version_at value_at
fields_stay w c o n fits = record {
  versions = λ p g within. ap (λ (k : ℕ). k / VERSION) (word_elsewhere w (mask_word c o) n (field_word p g) (kinds_apart p g c o within fits));
  values = λ p g within. ap (λ (k : ℕ). k % VERSION) (word_elsewhere w (mask_word c o) n (field_word p g) (kinds_apart p g c o within fits));
}

-- the words stay laid out
pub laid_out-new : (objects clients : ℕ) → 1 ≤ objects → objects ≤ MAX_OBJECTS → 1 ≤ clients → clients ≤ MAX_CLIENTS → IsLaidOut (new_words objects clients)
unfolding new_words mask_at
laid_out-new objects clients a b c d = record {
  some_objects = a;
  few_objects = b;
  some_clients = c;
  few_clients = d;
  long = length-replicate (WORDS * objects + 1) nought;
  narrow = λ client object within. subst (λ (k : ℕ). k < 2 ^ MAX_LANE_FIELDS) (sym (all_zero (WORDS * objects + 1) (mask_word client object))) (lit< tt);
}

pub laid_out-field : (w : Words) (o f n : ℕ) → f < MAX_LANE_FIELDS → IsLaidOut w → IsLaidOut (with_word w (field_word o f) n)
laid_out-field w o f n fits laid = record {
  some_objects = laid.some_objects;
  few_objects = laid.few_objects;
  some_clients = laid.some_clients;
  few_clients = laid.few_clients;
  long = length-set w.words (field_word o f) n ∙ laid.long;
  narrow = λ c p within. subst (λ (k : ℕ). k < 2 ^ MAX_LANE_FIELDS) (sym ((masks_stay w o f n fits).masks c p within)) (laid.narrow c p within);
}

pub laid_out-mask : (w : Words) (c o n : ℕ) → c < MAX_CLIENTS → o < w.objects → n < 2 ^ MAX_LANE_FIELDS → IsLaidOut w → IsLaidOut (with_word w (mask_word c o) n)
laid_out-mask w c o n fits there small laid = record {
  some_objects = laid.some_objects;
  few_objects = laid.few_objects;
  some_clients = laid.some_clients;
  few_clients = laid.few_clients;
  long = length-set w.words (mask_word c o) n ∙ laid.long;
  narrow = λ d p within. at d p within;
}
  where
    new : Words
    new = with_word w (mask_word c o) n

    kept : (d p : ℕ) → d < MAX_CLIENTS → (d ≢ c) ⊎ (p ≢ o) → mask_at (with_word w (mask_word c o) n) d p < 2 ^ MAX_LANE_FIELDS
    kept d p within apart = subst (λ (k : ℕ). k < 2 ^ MAX_LANE_FIELDS) (sym ((other_masks_stay w c o n fits).masks d p within apart)) (laid.narrow d p within)

    here : (d p : ℕ) → d ≡ c → p ≡ o → mask_at (with_word w (mask_word c o) n) d p < 2 ^ MAX_LANE_FIELDS
    here d p same_client same_object = subst (λ (k : ℕ). k < 2 ^ MAX_LANE_FIELDS) (sym (ap (λ (z : ℕ × ℕ). mask_at (with_word w (mask_word c o) n) z.0 z.1) (λ j. (same_client j, same_object j)) ∙ mask_is w c o n laid there fits)) small

    at : (d p : ℕ) → d < MAX_CLIENTS → mask_at (with_word w (mask_word c o) n) d p < 2 ^ MAX_LANE_FIELDS
    at d p within = ⊎_elim (λ (e : d ≡ c). ⊎_elim (λ (h : p ≡ o). here d p e h) (λ (ne : p ≢ o). kept d p within (inr ne)) (cases_eq p o)) (λ (ne : d ≢ c). kept d p within (inl ne)) (cases_eq d c)
