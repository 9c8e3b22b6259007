-- What a packet carries of a period is asked for.
use Rattle.std.proofs.Common.{◌≡◌, ◌⊎◌, inl, inr, ℕ, zero, suc, ◌+◌, ◌<◌, ◌≤◌, ◌==◌, ◌&&◌, ◌||◌, length, refl, sym, ap, ◌∙◌, subst, arith, Bool, true, false, cond, List, [], ◌∷◌}
use Rattle.std.specs.Prelude.{map, filter}
use Rattle.std.specs.List.{AllByRecursion, list_any}
use Rattle.std.proofs.lemmas.Bool.{and_parts, or_right, eqb-true, eq-eqb, cases_eq}
use Rattle.std.proofs.lemmas.List.Folds.{list_any-append}
use Rattle.std.proofs.lemmas.Nat.Bits.{bit_at_ones}
use Rattle.tn_types.specs.declared.choices.Choice.{Choice}
use Rattle.tn_types.specs.declared.choices.Op.{Op}
use Rattle.tn_types.specs.declared.choices.Op.TheVariants.{Kill, Create, Update}
use Rattle.tn_types.specs.BitWords.{has_bit}
use Rattle.quantised_fields.specs.declared.kind.Kind.{Kind}
use Rattle.ghost_model.specs.Words.{upto}
use Rattle.ghost_model.specs.Ghosts.{GhostEvent, item_carries, op_carries, carries}
use Rattle.ghost_model.specs.Legal.{IsItsMask}
use Rattle.pair_core.specs.ghost_masks.Plan.{sizes, kind_of, fields_of}
use Rattle.pair_core.specs.conn_packing.Reads.{fields_in, asked_by, asked_by_all}

-- ---- the fields of a mask, rising

abbrev from : ℕ → ℕ → List ℕ
from k zero = []
from k (suc m) = k ∷ from (suc k) m

abbrev run : ℕ → ℕ → ℕ → List ℕ
run mask k m = filter (has_bit mask) (from k m)

fields-run : (mask : ℕ) → fields_in mask ≡ run mask 0 16
unfolding upto
fields-run mask = refl

-- the field of a period
abbrev pub is-it : ℕ → ℕ → ℕ × ℕ → Bool
is-it n f x = (x.0 == n) && (x.1 == f)

-- ---- what is carried is asked for

same-test : (m : ℕ) → (m == m) ≡ true
same-test m = eq-eqb m m refl

run-has : (m mask f k count : ℕ) → k ≤ f → f < k + count → has_bit mask f ≡ true
    → list_any (is-it m f) (map {B = ℕ × ℕ} (λ g. (m, g)) (run mask k count)) ≡ true
run-has m mask f k zero le lt has = absurd (omega arith)
run-has m mask f k (suc count) le lt has =
    go (λ apart. run-has m mask f (suc k) count (omega (arith, le, apart)) (omega (arith, lt)) has) (cases_eq k f) (has_bit mask k) refl
  where
    go : ((k ≡ f → ⊥) → list_any (is-it m f) (map {B = ℕ × ℕ} (λ g. (m, g)) (run mask (suc k) count)) ≡ true) → (k ≡ f) ⊎ (k ≡ f → ⊥)
        → (b : Bool) → has_bit mask k ≡ b
        → list_any (is-it m f) (map {B = ℕ × ℕ} (λ g. (m, g)) (cond b (k ∷ run mask (suc k) count) (run mask (suc k) count))) ≡ true
    go later (inl same) true e =
        ap (λ b. (b && (k == f)) || list_any (is-it m f) (map {B = ℕ × ℕ} (λ g. (m, g)) (run mask (suc k) count))) (same-test m)
        ∙ ap (λ b. b || list_any (is-it m f) (map {B = ℕ × ℕ} (λ g. (m, g)) (run mask (suc k) count))) (eq-eqb k f same)
    go later (inl same) false e = absurd (let never : true ≡ false = sym has ∙ ap (has_bit mask) (sym same) ∙ e in cc)
    go later (inr apart) true e =
        or_right (is-it m f (m, k)) (list_any (is-it m f) (map {B = ℕ × ℕ} (λ g. (m, g)) (run mask (suc k) count)))
        (later apart)
    go later (inr apart) false e = later apart

module _ (kinds : List Kind) (log : List GhostEvent) (n f : ℕ) (own : f < length (fields_of kinds (kind_of log n))) (few : f < 16) where
  bit-of : (m mask : ℕ) (op : Op) → f < length (fields_of kinds (kind_of log m)) → IsItsMask (sizes kinds) log m mask op
      → op_carries op mask f ≡ true → has_bit mask f ≡ true
  bit-of m mask Kill lt its e = absurd (cc)
  bit-of m mask Create lt its e = ap (λ x. has_bit x f) its
      ∙ ap (λ b. b == 1) (bit_at_ones (length (fields_of kinds (kind_of log m))) f lt)
  bit-of m mask Update lt its e = e

  item-has : (c : Choice) → IsItsMask (sizes kinds) log c.n c.mask c.op → item_carries n f c ≡ true
      → list_any (is-it n f) (asked_by c) ≡ true
  item-has c its e =
      let p = and_parts (c.n == n) (op_carries c.op c.mask f) e in
      let same : c.n ≡ n = eqb-true c.n n p.0 in
      let has : has_bit c.mask f ≡ true = bit-of c.n c.mask c.op
      (subst (λ m. f < length (fields_of kinds (kind_of log m))) (sym same) own) its p.1 in
      subst (λ m. list_any (is-it m f) (map {B = ℕ × ℕ} (λ g. (c.n, g)) (fields_in c.mask)) ≡ true) same
      (ap (λ (l : List ℕ). list_any (is-it c.n f) (map {B = ℕ × ℕ} (λ g. (c.n, g)) l)) (fields-run c.mask)
      ∙ run-has c.n c.mask f 0 16 (omega arith) (omega (arith, few)) has)

  pub asked_has : (cs : List Choice) → AllByRecursion (λ (c : Choice). IsItsMask (sizes kinds) log c.n c.mask c.op) cs
      → carries n f cs ≡ true
      → list_any (is-it n f) (asked_by_all cs) ≡ true
  asked_has [] its e = absurd (cc)
  asked_has (c ∷ cs) its e = list_any-append (is-it n f) (asked_by c) (asked_by_all cs)
      ∙ go (λ rest. asked_has cs its.1 rest) (item_carries n f c) refl e
    where
      go : (carries n f cs ≡ true → list_any (is-it n f) (asked_by_all cs) ≡ true) → (b : Bool) → item_carries n f c ≡ b
          → (b || carries n f cs) ≡ true → (list_any (is-it n f) (asked_by c) || list_any (is-it n f) (asked_by_all cs)) ≡ true
      go later true here rest = ap (λ b. b || list_any (is-it n f) (asked_by_all cs)) (item-has c its.0 here)
      go later false here rest = or_right (list_any (is-it n f) (asked_by c)) (list_any (is-it n f) (asked_by_all cs)) (later rest)
