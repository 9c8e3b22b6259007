-- Fields that are asked for one after another.
use Rattle.std.proofs.Common.{◌≡◌, ℕ, zero, suc, ◌+◌, ◌-◌, ◌*◌, ◌/◌, ◌<◌, ◌≤◌, ◌^◌, eqb, Bool, true, false, cond, arith, List, [], ◌∷◌, ◌++◌, ◌∙◌, Option, refl, sym, ap, subst, append_assoc, append-nil}
use Rattle.std.specs.Prelude.{ℤ, ◌≤ℤ◌, IfSome, map, filter}
use Rattle.std.proofs.lemmas.List.{map-append}
use Rattle.std.proofs.lemmas.Nat.{pow_pos}
use Rattle.std.proofs.lemmas.Nat.Bits.{bit_at_above}
use Rattle.std.proofs.lemmas.List.Elements.{filter-append}
use Rattle.tn_types.specs.BitWords.{has_bit}
use Rattle.tn_types.specs.declared.choices.Choice.{Choice}
use Rattle.tn_types.specs.declared.choices.Read.{Read}
use Rattle.ghost_model.specs.Words.{upto}
use Rattle.conn_packing.specs.Packs.{values_of}
use Rattle.conn_packing.specs.Reads.{field_of, asked_by, asked_by_all}
use Rattle.conn_packing.specs.Asking.{IsInRange, AreAsked}
use Rattle.conn_packing.proofs.Lists.{all-append, all-map}

module _ {V : Type 0} (ranges : V → ℕ → ℕ → Option (ℤ × ℤ)) (asks : V → List Read → V → Type 0) where
  pub asked-none : (x : V) (listed : List ℤ) → asks x [] x → AreAsked ranges asks x x [] listed listed
  asked-none x listed same = record { reads = []; of_fields = refl; beside = sym (append-nil listed); fit = tt; asked = same }

  pub asked-one : (x y : V) (r : Read) (n f : ℕ) (listed listed' : List ℤ) → listed' ≡ listed ++ r.value ∷ [] → r.n ≡ n → r.field ≡ f
      → IfSome (ranges x n f) (λ z. (z.0 ≤ℤ r.value) × (r.value ≤ℤ z.1)) → asks x (r ∷ []) y → AreAsked ranges asks x y ((n, f) ∷ []) listed listed'
  asked-one x y r n f listed listed' beside is_n is_f range one = record {
    reads = r ∷ [];
    of_fields = λ j. (is_n j, is_f j) ∷ [];
    beside = beside;
    fit = (subst (λ (p : ℕ × ℕ). IfSome (ranges x p.0 p.1) (λ z. (z.0 ≤ℤ r.value) × (r.value ≤ℤ z.1))) (λ j. (sym is_n j, sym is_f j)) range, tt);
    asked = one;
  }

  pub asked-then : (x y z : V) (fs gs : List (ℕ × ℕ)) (us vs ws : List ℤ)
      → ((first later : List Read) → asks x first y → asks y later z → asks x (first ++ later) z)
      → ((reads : List Read) (n f : ℕ) → asks x reads y → ranges y n f ≡ ranges x n f)
      → AreAsked ranges asks x y fs us vs → AreAsked ranges asks y z gs vs ws → AreAsked ranges asks x z (fs ++ gs) us ws
  asked-then x y z fs gs us vs ws more same a b = record {
    reads = a.reads ++ b.reads;
    of_fields = map-append field_of a.reads b.reads ∙ (λ j. a.of_fields j ++ b.of_fields j);
    beside = b.beside ∙ ap (λ (l : List ℤ). l ++ values_of b.reads) a.beside ∙ append_assoc us (values_of a.reads) (values_of b.reads) ∙ ap (λ (l : List ℤ). us ++ l) (sym (map-append (λ (r : Read). r.value) a.reads b.reads));
    fit = all-append (IsInRange (ranges x)) a.reads b.reads a.fit (all-map (IsInRange (ranges y)) (IsInRange (ranges x)) (λ r h. subst (λ o. IfSome o (λ z. (z.0 ≤ℤ r.value) × (r.value ≤ℤ z.1))) (same a.reads r.n r.field a.asked) h) b.reads b.fit);
    asked = more a.reads b.reads a.asked b.asked;
  }

-- ---- the fields of an item so far

pub fields-first : (n mask : ℕ) → map {B = ℕ × ℕ} (λ f. (n, f)) (filter (has_bit mask) (upto 0)) ≡ []
unfolding upto
fields-first n mask = refl

pub fields-next : (n mask f : ℕ) → map {B = ℕ × ℕ} (λ f. (n, f)) (filter (has_bit mask) (upto (f + 1))) ≡ map {B = ℕ × ℕ} (λ f. (n, f)) (filter (has_bit mask) (upto f)) ++ cond (has_bit mask f) ((n, f) ∷ []) []
unfolding upto
fields-next n mask f =
    ap (λ k. map {B = ℕ × ℕ} (λ f. (n, f)) (filter (has_bit mask) (upto k))) (let e : f + 1 ≡ suc f = omega arith in e)
    ∙ ap (λ (l : List ℕ). map {B = ℕ × ℕ} (λ f. (n, f)) l) (filter-append (has_bit mask) (upto f) (f ∷ [])) ∙ map-append {B = ℕ × ℕ} (λ f. (n, f)) (filter (has_bit mask) (upto f)) (filter (has_bit mask) (f ∷ []))
    ∙ ap (λ (l : List (ℕ × ℕ)). map {B = ℕ × ℕ} (λ f. (n, f)) (filter (has_bit mask) (upto f)) ++ l) (go (has_bit mask f))
  where
    go : (b : Bool) → map {B = ℕ × ℕ} (λ f. (n, f)) (cond b (f ∷ []) []) ≡ cond b ((n, f) ∷ []) []
    go true = refl
    go false = refl

-- from the width of the mask on there is none
fields-above : (n mask k j : ℕ) → mask < 2 ^ k → map {B = ℕ × ℕ} (λ f. (n, f)) (filter (has_bit mask) (upto (k + j))) ≡ map {B = ℕ × ℕ} (λ f. (n, f)) (filter (has_bit mask) (upto k))
fields-above n mask k zero below = ap (λ i. map {B = ℕ × ℕ} (λ f. (n, f)) (filter (has_bit mask) (upto i))) (let e : k + 0 ≡ k = omega arith in e)
fields-above n mask k (suc j) below =
    let out : has_bit mask (k + j) ≡ false = ap (λ (x : ℕ). eqb x 1) (bit_at_above mask k (k + j) below (omega arith)) in
    ap (λ i. map {B = ℕ × ℕ} (λ f. (n, f)) (filter (has_bit mask) (upto i))) (let e : k + suc j ≡ k + j + 1 = omega arith in e)
    ∙ fields-next n mask (k + j)
    ∙ ap (λ (b : Bool). map {B = ℕ × ℕ} (λ f. (n, f)) (filter (has_bit mask) (upto (k + j))) ++ cond b ((n, k + j) ∷ []) []) out
    ∙ append-nil (map {B = ℕ × ℕ} (λ f. (n, f)) (filter (has_bit mask) (upto (k + j))))
    ∙ fields-above n mask k j below

pub fields-rest : (n mask k : ℕ) → k ≤ 16 → mask / 2 ^ k ≡ 0 → map {B = ℕ × ℕ} (λ f. (n, f)) (filter (has_bit mask) (upto k)) ≡ map {B = ℕ × ℕ} (λ f. (n, f)) (filter (has_bit mask) (upto 16))
fields-rest n mask k le none =
    let above : 0 < 2 ^ k = pow_pos k in
    let zero_times : 2 ^ k * (mask / 2 ^ k) ≡ 2 ^ k * 0 = ap (λ (q : ℕ). 2 ^ k * q) none in
    let below : mask < 2 ^ k = omega (arith, zero_times, above) in
    sym (ap (λ i. map {B = ℕ × ℕ} (λ f. (n, f)) (filter (has_bit mask) (upto i))) (let e : 16 ≡ k + (16 - k) = omega (arith, le) in e) ∙ fields-above n mask k (16 - k) below)

pub all-push : (cs : List Choice) (c : Choice) → asked_by_all (cs ++ c ∷ []) ≡ asked_by_all cs ++ asked_by c
all-push [] c = append-nil (asked_by c)
all-push (x ∷ cs) c = ap (λ (l : List (ℕ × ℕ)). asked_by x ++ l) (all-push cs c) ∙ sym (append_assoc (asked_by x) (asked_by_all cs) (asked_by c))
