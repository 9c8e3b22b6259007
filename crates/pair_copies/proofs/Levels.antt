-- A data packet with the values that were read for it tells, of each field, the level of the last read.
use Rattle.std.proofs.Common.{◌≡◌, inl, inr, ℕ, ℤ, zero, suc, ◌+◌, ◌-◌, ◌/◌, ◌^◌, ◌<◌, ◌≤◌, true, false, cond, ◌&&◌, List, [], ◌∷◌, ◌++◌, ◌∙◌, length, drop, Some, None, Option, refl, sym, ap, subst, arith, eqb}
use Rattle.std.specs.Prelude.{map, slice_get, slice_index_or}
use Rattle.std.specs.Option.{option_map}
use Rattle.std.specs.List.{AllByRecursion}
use Rattle.std.proofs.Math.Seq.{drop-append_seam}
use Rattle.std.proofs.lemmas.Bool.{cases_Bool, cases_eq}
use Rattle.std.proofs.lemmas.List.{length-map, map-append}
use Rattle.std.proofs.lemmas.Nat.Bits.{bit_at_ones}
use Rattle.tn_types.specs.BitWords.{has_bit}
use Rattle.tn_types.specs.declared.choices.Op.{Op}
use Rattle.tn_types.specs.declared.choices.Op.TheVariants.{Kill, Create, Update}
use Rattle.tn_types.specs.declared.choices.Choice.{Choice}
use Rattle.tn_types.specs.declared.choices.Read.{Read}
use Rattle.quantised_fields.specs.declared.field.FieldSpec.{FieldSpec}
use Rattle.quantised_fields.specs.declared.kind.Kind.{Kind}
use Rattle.quantised_fields.specs.Kinds.{table_fault}
use Rattle.quantised_fields.specs.Levels.{level_of}
use Rattle.ghost_model.specs.Ghosts.{GhostEvent, item_carries, op_carries}
use Rattle.ghost_model.specs.Legal.{IsItsMask}
use Rattle.ghost_model.proofs.Bits.{no_bit}
use Rattle.ghost_model.proofs.Steps.{same_test, other_test}
use Rattle.ghost_masks.specs.Plan.{sizes, fields_of, kind_of, block_of, masked, carried_by}
use Rattle.ghost_masks.specs.Carried.{fields_carried, levels_for, ghost_for, ghost_by, ghosts_for}
use Rattle.ghost_masks.proofs.Items.{few_fields}
use Rattle.ghost_client.specs.Fields.{place_in, carried_level}
use Rattle.ghost_pair.specs.Levels.{put}
use Rattle.ghost_logs.specs.Sent.{items_of}
use Rattle.conn_packing.specs.Packs.{values_of}
use Rattle.conn_packing.specs.Reads.{fields_in, field_of, asked_by, asked_by_all}
use Rattle.conn_packing.proofs.ReadValues.{below-power, masked-whole}
use Rattle.pair_copies.specs.Reads.{newest_in}
use Rattle.pair_copies.proofs.Runs.{run, fields-run, none-above, run-count, others-leave, other-period, other-field, level-of-field}

-- ---- all fields of a kind

place-whole : (mask f : ℕ) → ((j : ℕ) → j < f → has_bit mask j ≡ true) → place_in mask f ≡ f
place-whole mask zero h = refl
place-whole mask (suc f) h = ap (λ b. place_in mask f + cond b 1 0) (h f (omega arith)) ∙ ap (λ p. p + 1) (place-whole mask f (λ j lt. h j (omega arith))) ∙ omega arith

-- the mask of a create has each field of the kind
record IsWhole (mask : ℕ) (fs : List FieldSpec) : Type 0 where
  pub has : (j : ℕ) → j < length fs → has_bit mask j ≡ true
  pub small : mask < 2 ^ length fs
  pub all : masked mask fs ≡ fs

whole : (mask : ℕ) (fs : List FieldSpec) → mask ≡ 2 ^ length fs - 1 → IsWhole mask fs
whole mask fs is = record {
  has = has;
  small = subst (λ m. m < 2 ^ length fs) (sym is) (below-power (length fs));
  all = ap (λ m. masked m fs) (let e : mask ≡ mask / 2 ^ 0 = omega arith in e) ∙ masked-whole mask 0 fs (λ j lt. has (0 + j) (omega arith));
}
  where
    has : (j : ℕ) → j < length fs → has_bit mask j ≡ true
    has j lt = ap (λ m. has_bit m j) is ∙ ap (λ m. eqb m 1) (bit_at_ones (length fs) j lt)

get-below : {X : Type 0} (xs : List X) (i : ℕ) (x : X) → slice_get xs i ≡ Some x → i < length xs
get-below [] i x e = absurd (cc)
get-below (y ∷ ys) zero x e = omega arith
get-below (y ∷ ys) (suc i) x e = omega (arith, get-below ys i x e)

-- ---- reads in two parts

record AreParts (rs : List Read) (fs gs : List (ℕ × ℕ)) : Type 0 where
  pub front : List Read
  pub back : List Read
  pub joined : rs ≡ front ++ back
  pub of_front : map field_of front ≡ fs
  pub of_back : map field_of back ≡ gs

parts : (rs : List Read) (fs gs : List (ℕ × ℕ)) → map field_of rs ≡ fs ++ gs → AreParts rs fs gs
parts rs [] gs e = record { front = []; back = rs; joined = refl; of_front = refl; of_back = e }
parts [] (f ∷ fs) gs e = absurd (cc)
parts (r ∷ rs) (f ∷ fs) gs e =
    let here : field_of r ≡ f = cc in
    let later : map field_of rs ≡ fs ++ gs = cc in
    let p = parts rs fs gs later in
    record { front = r ∷ p.front; back = p.back; joined = ap (λ (l : List Read). r ∷ l) p.joined; of_front = λ j. here j ∷ p.of_front j; of_back = p.of_back }

newest-append : (n f : ℕ) (xs ys : List Read) (older : Option ℤ) → newest_in (xs ++ ys) n f older ≡ newest_in ys n f (newest_in xs n f older)
newest-append n f [] ys older = refl
newest-append n f (x ∷ xs) ys older = newest-append n f xs ys (cond (eqb x.n n && eqb x.field f) (Some x.value) older)

-- ---- items

module _ (kinds : List Kind) (table : table_fault kinds ≡ None) (log : List GhostEvent) where
  few : (c : Choice) → length (fields_of kinds (kind_of log c.n)) ≤ 16
  few c = few_fields kinds table (kind_of log c.n)

  -- an item takes as many values as were asked for it
  count-by : (c : Choice) (o : Op) → IsItsMask (sizes kinds) log c.n c.mask o → length (carried_by o c.mask (fields_of kinds (kind_of log c.n))) ≡ length (run c.mask 0 16)
  count-by c Kill its = ap length (sym (none-above c.mask 0 16 (λ f le. no_bit c.mask 0 f (omega (arith, its)) (omega arith))))
  count-by c Create its =
      let w = whole c.mask (fields_of kinds (kind_of log c.n)) its in
      ap length (sym w.all) ∙ ap (λ m. length (masked m (fields_of kinds (kind_of log c.n)))) (let e : c.mask ≡ c.mask / 2 ^ 0 = omega arith in e)
      ∙ run-count c.mask 0 16 (fields_of kinds (kind_of log c.n)) (few c) (λ f le. no_bit c.mask (length (fields_of kinds (kind_of log c.n))) f w.small (omega arith))
  count-by c Update its =
      ap (λ m. length (masked m (fields_of kinds (kind_of log c.n)))) (let e : c.mask ≡ c.mask / 2 ^ 0 = omega arith in e)
      ∙ run-count c.mask 0 16 (fields_of kinds (kind_of log c.n)) (few c) (λ f le. no_bit c.mask (length (fields_of kinds (kind_of log c.n))) f its.0 (omega arith))

  count-of : (c : Choice) (front : List Read) → IsItsMask (sizes kinds) log c.n c.mask c.op → map field_of front ≡ asked_by c → length (fields_carried kinds log c) ≡ length (values_of front)
  count-of c front its is =
      count-by c c.op its ∙ ap length (sym (fields-run c.mask)) ∙ sym (length-map (fields_in c.mask) (λ f. (c.n, f))) ∙ ap length (sym is) ∙ length-map front field_of ∙ sym (length-map front (λ (r : Read). r.value))

  module _ (n f : ℕ) (spec : FieldSpec) where
    abbrev Level : Option ℤ → Option ℕ
    Level o = option_map (level_of spec) o

    -- by what the item does, where it is of period n
    by-op : (c : Choice) (o : Op) → IsItsMask (sizes kinds) log c.n c.mask o → slice_get (fields_of kinds (kind_of log c.n)) f ≡ Some spec → (front : List Read) (rest : List ℤ) → map field_of front ≡ asked_by c → (older : Option ℤ)
        → cond (op_carries o c.mask f) (Some (carried_level (ghost_by kinds c.slot (kind_of log c.n) (block_of log c.n) c.mask (values_of front ++ rest) o) f 0)) (Level older) ≡ Level (newest_in front c.n f older)
    by-op c Kill its own front rest is older =
        ap Level (sym (others-leave c.n f older front (asked_by c) is (subst (λ (l : List ℕ). AllByRecursion (λ x. (eqb x.0 c.n && eqb x.1 f) ≡ false) (map {B = ℕ × ℕ} (λ g. (c.n, g)) l)) (sym (fields-run c.mask))
        (other-field c.n c.mask f 0 16 (inl (no_bit c.mask 0 f (omega (arith, its)) (omega arith)))))))
    by-op c Create its own front rest is older =
        let fs = fields_of kinds (kind_of log c.n) in
        let w = whole c.mask (fields_of kinds (kind_of log c.n)) its in
        let below = get-below (fields_of kinds (kind_of log c.n)) f spec own in
        sym (level-of-field c.n c.mask older rest spec f (fields_of kinds (kind_of log c.n)) front (few c) is own (w.has f below)
        ∙ (λ i. Some (slice_index_or (levels_for (w.all i) (values_of front ++ rest)) (place-whole c.mask f (λ j lt. w.has j (omega (arith, below, lt))) i) 0)))
    by-op c Update its own front rest is older = elim (cases_Bool (has_bit c.mask f)) [
      | inl has ↦
          ap (λ b. cond b (Some (slice_index_or (levels_for (masked c.mask (fields_of kinds (kind_of log c.n))) (values_of front ++ rest)) (place_in c.mask f) 0)) (Level older)) has
          ∙ sym (level-of-field c.n c.mask older rest spec f (fields_of kinds (kind_of log c.n)) front (few c) is own has)
      | inr lacks ↦
          ap (λ b. cond b (Some (slice_index_or (levels_for (masked c.mask (fields_of kinds (kind_of log c.n))) (values_of front ++ rest)) (place_in c.mask f) 0)) (Level older)) lacks
          ∙ ap Level (sym (others-leave c.n f older front (asked_by c) is (subst (λ (l : List ℕ). AllByRecursion (λ x. (eqb x.0 c.n && eqb x.1 f) ≡ false) (map {B = ℕ × ℕ} (λ g. (c.n, g)) l)) (sym (fields-run c.mask))
          (other-field c.n c.mask f 0 16 (inl lacks)))))
    ]

    one-item : (c : Choice) → IsItsMask (sizes kinds) log c.n c.mask c.op → (c.n ≡ n → slice_get (fields_of kinds (kind_of log c.n)) f ≡ Some spec) → (front : List Read) (rest : List ℤ) → map field_of front ≡ asked_by c → (older : Option ℤ)
        → cond (item_carries n f c) (Some (carried_level (ghost_for kinds log (values_of front ++ rest) c) f 0)) (Level older) ≡ Level (newest_in front n f older)
    one-item c its own front rest is older = elim (cases_eq c.n n) [
      | inl same ↦
          ap (λ b. cond (b && op_carries c.op c.mask f) (Some (carried_level (ghost_for kinds log (values_of front ++ rest) c) f 0)) (Level older)) (ap (λ m. eqb c.n m) (sym same) ∙ same_test c.n)
          ∙ by-op c c.op its (own same) front rest is older ∙ ap (λ m. Level (newest_in front m f older)) same
      | inr other ↦
          ap (λ b. cond (b && op_carries c.op c.mask f) (Some (carried_level (ghost_for kinds log (values_of front ++ rest) c) f 0)) (Level older)) (other_test c.n n other)
          ∙ ap Level (sym (others-leave n f older front (asked_by c) is (other-period c.n n f other (fields_in c.mask))))
    ]

    -- what a packet tells of the field is the level of what was read last
    pub packet-levels : (cs : List Choice) (rs : List Read) (vs : List ℤ) → vs ≡ values_of rs → AllByRecursion (λ (c : Choice). IsItsMask (sizes kinds) log c.n c.mask c.op) cs
        → AllByRecursion (λ (c : Choice). c.n ≡ n → slice_get (fields_of kinds (kind_of log c.n)) f ≡ Some spec) cs → map field_of rs ≡ asked_by_all cs → (older : Option ℤ)
        → put n f (items_of cs (ghosts_for kinds log cs vs)) (Level older) ≡ Level (newest_in rs n f older)
    packet-levels [] [] vs values its own is older = refl
    packet-levels [] (r ∷ rs) vs values its own is older = absurd (cc)
    packet-levels (c ∷ cs) rs vs values its own is older =
        let p = parts rs (asked_by c) (asked_by_all cs) is in
        let split : vs ≡ values_of p.front ++ values_of p.back = values ∙ ap values_of p.joined ∙ map-append (λ (r : Read). r.value) p.front p.back in
        let count = count-of c p.front its.0 p.of_front in
        let left : drop (length (fields_carried kinds log c)) vs ≡ values_of p.back = (λ i. drop (count i) (split i)) ∙ drop-append_seam (values_of p.front) (values_of p.back) in
        let one = ap (λ (xs : List ℤ). cond (item_carries n f c) (Some (carried_level (ghost_for kinds log xs c) f 0)) (Level older)) split ∙ one-item c its.0 own.0 p.front (values_of p.back) p.of_front older in
        ap (put n f (items_of cs (ghosts_for kinds log cs (drop (length (fields_carried kinds log c)) vs)))) one
        ∙ packet-levels cs p.back (drop (length (fields_carried kinds log c)) vs) left its.1 own.1 p.of_back (newest_in p.front n f older)
        ∙ ap Level (sym (newest-append n f p.front p.back older) ∙ ap (λ (l : List Read). newest_in l n f older) (sym p.joined))
