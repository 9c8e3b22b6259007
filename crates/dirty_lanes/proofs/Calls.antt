-- All that a write, a raise and a drain do to the words.
use Rattle.std.proofs.Common.{◌≡◌, ◌≢◌, ◌⊎◌, inl, inr, ⊎_elim, ℕ, ◌+◌, ◌*◌, ◌/◌, ◌%◌, ◌<◌, ◌≤◌, ◌^◌, List, [], ◌∷◌, ◌++◌, take, drop, length, get_or, refl, sym, ap, ◌∙◌, subst, arith}
use Rattle.std.specs.Prelude.{bit_or, replicate, slice_index}
use Rattle.std.proofs.lemmas.List.{get_or_default, take_all, drop_all, append-nil}
use Rattle.std.proofs.lemmas.Nat.{or_lt}
use Rattle.std.proofs.lemmas.Bool.{cases_eq, cases_lt}
use Rattle.tn_types.specs.declared.limits.TheConstants.{MAX_CLIENTS}
use Rattle.dirty_lanes.specs.declared.limits.TheConstants.{MAX_LANE_FIELDS}
use Rattle.dirty_lanes.specs.declared.words.TheConstants.{WORDS, VERSION}
use Rattle.dirty_lanes.specs.Words.{Words, field_word, mask_word, packed, version_at, value_at, mask_at, with_word, new_words, after_write, after_raise, after_drain, SizesStay, FieldsStay, MasksStay, OtherFieldsStay, OtherMasksStay, IsLaidOut}
use Rattle.dirty_lanes.specs.Log.{LaneEvent, Wrote, Raised, Drained, raised_for, StandsFor}
use Rattle.dirty_lanes.proofs.Places.{all_zero, field_there, mask_there}
use Rattle.dirty_lanes.proofs.Changes.{sizes_stay, field_is, other_fields_stay, masks_stay, mask_is, other_masks_stay, fields_stay, laid_out-field, laid_out-mask}
use Rattle.dirty_lanes.proofs.Logs.{stands-new, stands-write, stands-raise, stands-raised_for, stands-drain}

packed_version : (version value : ℕ) → value < VERSION → packed version value / VERSION ≡ version
packed_version version value small = omega arith

packed_value : (version value : ℕ) → value < VERSION → packed version value % VERSION ≡ value
packed_value version value small = omega arith

pub new_version : (objects clients o f : ℕ) → version_at (new_words objects clients) o f ≡ 0
unfolding new_words version_at
new_version objects clients o f = ap (λ (n : ℕ). n / VERSION) (all_zero (WORDS * objects + 1) (field_word o f))

pub new_value : (objects clients o f : ℕ) → value_at (new_words objects clients) o f ≡ 0
unfolding new_words value_at
new_value objects clients o f = ap (λ (n : ℕ). n % VERSION) (all_zero (WORDS * objects + 1) (field_word o f))

pub new_mask : (objects clients c o : ℕ) → mask_at (new_words objects clients) c o ≡ 0
unfolding new_words mask_at
new_mask objects clients c o = all_zero (WORDS * objects + 1) (mask_word c o)

field_within : (w : Words) (o f : ℕ) → IsLaidOut w → o < w.objects → f < MAX_LANE_FIELDS → field_word o f < length w.words
field_within w o f laid there inside = rw laid.long (field_there w.objects o f there inside)

mask_within : (w : Words) (c o : ℕ) → IsLaidOut w → c < w.clients → o < w.objects → mask_word c o < length w.words
mask_within w c o laid named there = rw laid.long (mask_there w.objects c o there (omega (arith, laid.few_clients)))

-- What a call reads from the words, and what it puts there: v is the value as the call opened it, w as its contract
-- sees it, i the place that the code computed.
read_at : (v w : Words) (i place word : ℕ) → v ≡ w → i ≡ place → place < length w.words → word ≡ get_or v.words i word → word ≡ slice_index w.words place
read_at v w i place word same at within read =
    read ∙ ap (λ (z : Words × ℕ). get_or z.0.words z.1 word) (λ j. (same j, at j)) ∙ get_or_default w.words place word 0 within

pub mask_read : (v w : Words) (c o i word : ℕ) → v ≡ w → IsLaidOut v → c < w.clients → o < w.objects → i ≡ mask_word c o → word ≡ get_or v.words i word → word ≡ mask_at w c o
unfolding mask_at
mask_read v w c o i word same laid named there at read = read_at v w i (mask_word c o) word same at (mask_within w c o (subst IsLaidOut same laid) named there) read

pub field_read : (v w : Words) (o f i word : ℕ) → v ≡ w → IsLaidOut v → o < w.objects → f < MAX_LANE_FIELDS → i ≡ field_word o f → word ≡ get_or v.words i word → word ≡ slice_index w.words (field_word o f)
field_read v w o f i word same laid there inside at read = read_at v w i (field_word o f) word same at (field_within w o f (subst IsLaidOut same laid) there inside) read

pub version_is : (w : Words) (o f word version : ℕ) → word ≡ slice_index w.words (field_word o f) → version ≡ word / VERSION → version ≡ version_at w o f
unfolding version_at
version_is w o f word version read is = is ∙ ap (λ (n : ℕ). n / VERSION) read

pub value_is : (w : Words) (o f word value : ℕ) → word ≡ slice_index w.words (field_word o f) → value ≡ word % VERSION → value ≡ value_at w o f
unfolding value_at
value_is w o f word value read is = is ∙ ap (λ (n : ℕ). n % VERSION) read

-- what a call put in place of a word
put_is : (v w : Words) (i place n m : ℕ) → v ≡ w → i ≡ place → n ≡ m → with_word v i n ≡ with_word w place m
put_is v w i place n m same at is = λ j. with_word (same j) (at j) (is j)

-- a write
pub record Writes (old new : Words) (o f v : ℕ) : Type 0 where
  pub words : new ≡ after_write old o f v
  pub laid_out : IsLaidOut new
  pub sizes : SizesStay old new
  pub version : version_at new o f ≡ version_at old o f + 1
  pub value : value_at new o f ≡ v
  pub fields : OtherFieldsStay old new o f
  pub masks : MasksStay old new
  pub log : (log : List LaneEvent) → StandsFor old log → StandsFor new (Wrote o f v ∷ log)

writes-after : (w : Words) (o f v : ℕ) → IsLaidOut w → o < w.objects → f < MAX_LANE_FIELDS → v < VERSION → Writes w (after_write w o f v) o f v
unfolding after_write version_at value_at
writes-after w o f v laid there inside small =
    let new = after_write w o f v in
    let word = packed (version_at w o f + 1) v in
    let is = field_is w o f word laid there inside in
    let version : version_at (after_write w o f v) o f ≡ version_at w o f + 1 = ap (λ (n : ℕ). n / VERSION) is ∙ packed_version (version_at w o f + 1) v small in
    let value : value_at (after_write w o f v) o f ≡ v = ap (λ (n : ℕ). n % VERSION) is ∙ packed_value (version_at w o f + 1) v small in
    record {
      words = refl;
      laid_out = laid_out-field w o f word inside laid;
      sizes = sizes_stay w (field_word o f) word;
      version = version;
      value = value;
      fields = other_fields_stay w o f word inside;
      masks = masks_stay w o f word inside;
      log = λ log stands. stands-write w (after_write w o f v) log o f v (sizes_stay w (field_word o f) word) version value (other_fields_stay w o f word inside) (masks_stay w o f word inside) there inside laid.few_clients stands;
    }

pub writes : (v w : Words) (o f value i word version n : ℕ) → v ≡ w → IsLaidOut v → o < w.objects → f < MAX_LANE_FIELDS → value < VERSION → i ≡ field_word o f → word ≡ get_or v.words i word → version ≡ word / VERSION → n ≡ packed (version + 1) value
    → Writes w (with_word v i n) o f value
unfolding after_write
writes v w o f value i word version n same laid there inside small at read is put =
    let old : version ≡ version_at w o f = version_is w o f word version (field_read v w o f i word same laid there inside at read) is in
    subst (λ (u : Words). Writes w u o f value)
    (sym (put_is v w i (field_word o f) n (packed (version_at w o f + 1) value) same at (put ∙ ap (λ (k : ℕ). packed (k + 1) value) old)))
    (writes-after w o f value (subst IsLaidOut same laid) there inside small)

-- a raise
pub record Raises (old new : Words) (c o bits : ℕ) : Type 0 where
  pub words : new ≡ after_raise old c o bits
  pub laid_out : IsLaidOut new
  pub sizes : SizesStay old new
  pub mask : mask_at new c o ≡ bit_or (mask_at old c o) bits
  pub masks : OtherMasksStay old new c o
  pub fields : FieldsStay old new
  pub log : (log : List LaneEvent) → StandsFor old log → StandsFor new (Raised c o bits ∷ log)

raises-after : (w : Words) (c o bits : ℕ) → IsLaidOut w → c < w.clients → o < w.objects → bits < 2 ^ MAX_LANE_FIELDS → Raises w (after_raise w c o bits) c o bits
unfolding after_raise
raises-after w c o bits laid named there small =
    let word = bit_or (mask_at w c o) bits in
    let few : c < MAX_CLIENTS = omega (arith, laid.few_clients) in
    let mask : mask_at (after_raise w c o bits) c o ≡ bit_or (mask_at w c o) bits = mask_is w c o word laid there few in
    record {
      words = refl;
      laid_out = laid_out-mask w c o word few there (or_lt 16 (mask_at w c o) bits (laid.narrow c o few) small) laid;
      sizes = sizes_stay w (mask_word c o) word;
      mask = mask;
      masks = other_masks_stay w c o word few;
      fields = fields_stay w c o word few;
      log = λ log stands. stands-raise w (after_raise w c o bits) log c o bits (sizes_stay w (mask_word c o) word) mask (other_masks_stay w c o word few) (fields_stay w c o word few) named there laid.few_clients stands;
    }

pub raises : (v w : Words) (c o bits i word n : ℕ) → v ≡ w → IsLaidOut v → c < w.clients → o < w.objects → bits < 2 ^ MAX_LANE_FIELDS → i ≡ mask_word c o → word ≡ get_or v.words i word → n ≡ bit_or word bits
    → Raises w (with_word v i n) c o bits
unfolding after_raise
raises v w c o bits i word n same laid named there small at read put =
    subst (λ (u : Words). Raises w u c o bits)
    (sym (put_is v w i (mask_word c o) n (bit_or (mask_at w c o) bits) same at (put ∙ ap (λ (k : ℕ). bit_or k bits) (mask_read v w c o i word same laid named there at read))))
    (raises-after w c o bits (subst IsLaidOut same laid) named there small)

-- a raise for every client: what it did to the list of words, and so to the words
pub record AreRaised (old new : List ℕ) (from bits : ℕ) : Type 0 where
  pub long : length new ≡ length old
  pub raised : (k : ℕ) → k < MAX_CLIENTS → slice_index new (from + k) ≡ bit_or (slice_index old (from + k)) bits
  pub before : (i : ℕ) → i < from → slice_index new i ≡ slice_index old i
  pub behind : (i : ℕ) → from + MAX_CLIENTS ≤ i → slice_index new i ≡ slice_index old i

pub record RaisesAll (old new : Words) (o bits : ℕ) : Type 0 where
  pub laid_out : IsLaidOut new
  pub sizes : SizesStay old new
  pub raised : (c : ℕ) → c < MAX_CLIENTS → mask_at new c o ≡ bit_or (mask_at old c o) bits
  pub masks : (c p : ℕ) → c < MAX_CLIENTS → p ≢ o → mask_at new c p ≡ mask_at old c p
  pub fields : FieldsStay old new
  pub log : (log : List LaneEvent) → StandsFor old log → StandsFor new (raised_for MAX_CLIENTS o bits ++ log)

module _ (w : Words) (o bits : ℕ) (list : List ℕ) (laid : IsLaidOut w) (there : o < w.objects) (small : bits < 2 ^ MAX_LANE_FIELDS) (are : AreRaised w.words list (mask_word 0 o) bits) where
  abbrev with_list : Words
  with_list = record w { words = list }

  elsewhere : (i : ℕ) → (i < mask_word 0 o) ⊎ (mask_word 0 o + MAX_CLIENTS ≤ i) → slice_index list i ≡ slice_index w.words i
  elsewhere i apart = ⊎_elim (λ (lt : i < mask_word 0 o). are.before i lt) (λ (le : mask_word 0 o + MAX_CLIENTS ≤ i). are.behind i le) apart

  field_elsewhere : (p g : ℕ) → g < MAX_LANE_FIELDS → (field_word p g < mask_word 0 o) ⊎ (mask_word 0 o + MAX_CLIENTS ≤ field_word p g)
  field_elsewhere p g within = ⊎_elim (λ (lt : o < p). inr (omega (arith, lt, within))) (λ (le : p ≤ o). inl (omega (arith, le, within))) (cases_lt o p)

  mask_elsewhere : (c p : ℕ) → c < MAX_CLIENTS → p ≢ o → (mask_word c p < mask_word 0 o) ⊎ (mask_word 0 o + MAX_CLIENTS ≤ mask_word c p)
  mask_elsewhere c p within apart = ⊎_elim (λ (lt : o < p). inr (omega (arith, lt, within))) (λ (le : p ≤ o). inl (let ne : p ≢ o = apart in omega (arith, le, ne, within))) (cases_lt o p)

  mask_raised : (c : ℕ) → c < MAX_CLIENTS → mask_at with_list c o ≡ bit_or (mask_at w c o) bits
  unfolding mask_at
  mask_raised c within =
      subst (λ (i : ℕ). slice_index list i ≡ bit_or (slice_index w.words i) bits) (let e : mask_word 0 o + c ≡ mask_word c o = omega arith in e) (are.raised c within)

  masks_same : (c p : ℕ) → c < MAX_CLIENTS → p ≢ o → mask_at with_list c p ≡ mask_at w c p
  unfolding mask_at
  masks_same c p within apart = elsewhere (mask_word c p) (mask_elsewhere c p within apart)

  fields_same : FieldsStay w with_list
  unfolding version_at value_at
  fields_same = record {
    versions = λ p g within. ap (λ (n : ℕ). n / VERSION) (elsewhere (field_word p g) (field_elsewhere p g within));
    values = λ p g within. ap (λ (n : ℕ). n % VERSION) (elsewhere (field_word p g) (field_elsewhere p g within));
  }

  sizes_same : SizesStay w with_list
  sizes_same = record { objects = refl; clients = refl }

  narrow_all : (c p : ℕ) → c < MAX_CLIENTS → mask_at with_list c p < 2 ^ MAX_LANE_FIELDS
  narrow_all c p within = ⊎_elim
      (λ (e : p ≡ o). subst (λ (k : ℕ). mask_at with_list c k < 2 ^ MAX_LANE_FIELDS) (sym e)
      (subst (λ (n : ℕ). n < 2 ^ MAX_LANE_FIELDS) (sym (mask_raised c within)) (or_lt 16 (mask_at w c o) bits (laid.narrow c o within) small)))
      (λ (ne : p ≢ o). subst (λ (n : ℕ). n < 2 ^ MAX_LANE_FIELDS) (sym (masks_same c p within ne)) (laid.narrow c p within))
      (cases_eq p o)

  raises_all-after : RaisesAll w with_list o bits
  raises_all-after = record {
    laid_out = record {
      some_objects = laid.some_objects;
      few_objects = laid.few_objects;
      some_clients = laid.some_clients;
      few_clients = laid.few_clients;
      long = are.long ∙ laid.long;
      narrow = narrow_all;
    };
    sizes = sizes_same;
    raised = mask_raised;
    masks = masks_same;
    fields = fields_same;
    log = λ log stands. stands-raised_for w with_list log o bits sizes_same fields_same mask_raised masks_same laid.few_clients stands;
  }

-- what a vector holds once all of it was lent and changed
written_back : (now before : List ℕ) (len : ℕ) → len ≡ length before → length now ≡ length before → take len (now ++ drop (length now) before) ≡ now
written_back now before len l w =
    let none : drop (length now) before ≡ [] = drop_all (length now) before (omega (arith, w)) in
    let all : length now ≤ len = omega (arith, l, w) in
    rw (none, append-nil) (take_all len now all)

pub raises_all : (v w : Words) (o bits i n len : ℕ) (lent now : List ℕ) → v ≡ w → IsLaidOut v → o < w.objects → bits < 2 ^ MAX_LANE_FIELDS → i ≡ mask_word 0 o → n ≡ bits → lent ≡ v.words → len ≡ length v.words → AreRaised lent now i n
    → RaisesAll w (record v { words = take len (now ++ drop (length now) v.words) }) o bits
raises_all v w o bits i n len lent now same laid there small at put is long are =
    let raised : AreRaised v.words now (mask_word 0 o) bits =
    subst (λ (z : ℕ × ℕ). AreRaised v.words now z.0 z.1) (λ j. (at j, put j)) (subst (λ (l : List ℕ). AreRaised l now i n) is are) in
    subst (λ (u : Words). RaisesAll u (record v { words = take len (now ++ drop (length now) v.words) }) o bits) same
    (raises_all-after v o bits (take len (now ++ drop (length now) v.words)) laid (subst (λ (u : Words). o < u.objects) (sym same) there) small
    (subst (λ (l : List ℕ). AreRaised v.words l (mask_word 0 o) bits) (sym (written_back now v.words len long raised.long)) raised))

-- a drain
pub record Drains (old new : Words) (c o : ℕ) : Type 0 where
  pub words : new ≡ after_drain old c o
  pub laid_out : IsLaidOut new
  pub sizes : SizesStay old new
  pub mask : mask_at new c o ≡ 0
  pub masks : OtherMasksStay old new c o
  pub fields : FieldsStay old new
  pub log : (log : List LaneEvent) → StandsFor old log → StandsFor new (Drained c o ∷ log)

drains-after : (w : Words) (c o : ℕ) → IsLaidOut w → c < w.clients → o < w.objects → Drains w (after_drain w c o) c o
unfolding after_drain
drains-after w c o laid named there =
    let few : c < MAX_CLIENTS = omega (arith, laid.few_clients) in
    let mask : mask_at (after_drain w c o) c o ≡ 0 = mask_is w c o 0 laid there few in
    record {
      words = refl;
      laid_out = laid_out-mask w c o 0 few there (omega arith) laid;
      sizes = sizes_stay w (mask_word c o) 0;
      mask = mask;
      masks = other_masks_stay w c o 0 few;
      fields = fields_stay w c o 0 few;
      log = λ log stands. stands-drain w (after_drain w c o) log c o (sizes_stay w (mask_word c o) 0) mask (other_masks_stay w c o 0 few) (fields_stay w c o 0 few) laid.few_clients stands;
    }

pub drains : (v w : Words) (c o i : ℕ) → v ≡ w → IsLaidOut v → c < w.clients → o < w.objects → i ≡ mask_word c o → Drains w (with_word v i 0) c o
unfolding after_drain
drains v w c o i same laid named there at = subst (λ (u : Words). Drains w u c o) (sym (put_is v w i (mask_word c o) 0 0 same at refl)) (drains-after w c o (subst IsLaidOut same laid) named there)

-- new lanes
pub new_is : (objects clients : ℕ) (items : List ℕ) → items ≡ replicate (WORDS * objects + 1) 0 → (let w : Words = record { objects = objects; clients = clients; words = items } in w ≡ new_words objects clients)
unfolding new_words
new_is objects clients items is = λ j. record { objects = objects; clients = clients; words = is j }

pub record IsNew (w : Words) (objects clients : ℕ) : Type 0 where
  pub words : w ≡ new_words objects clients
  pub versions : (o f : ℕ) → version_at w o f ≡ 0
  pub values : (o f : ℕ) → value_at w o f ≡ 0
  pub masks : (c o : ℕ) → mask_at w c o ≡ 0
  pub log : StandsFor w []

pub news : (objects clients : ℕ) (items : List ℕ) → items ≡ replicate (WORDS * objects + 1) 0 → IsNew (record { objects = objects; clients = clients; words = items }) objects clients
news objects clients items is =
    subst (λ (w : Words). IsNew w objects clients) (sym (new_is objects clients items is)) (record {
      words = refl;
      versions = new_version objects clients;
      values = new_value objects clients;
      masks = new_mask objects clients;
      log = stands-new (new_words objects clients) (new_version objects clients) (new_value objects clients) (new_mask objects clients);
    })
