-- What is shown of a client: which period holds a slot, what a copy shows of a field, and whether that is settled.
use Rattle.std.proofs.Common.{◌≡◌, ◌≢◌, ℕ, zero, suc, ◌+◌, ◌*◌, ◌%◌, ◌/◌, ◌<◌, ◌≤◌, ◌^◌, Bool, true, false, not, cond, eqb, ltb, List, [], ◌∷◌, length, get_or, set, take, Option, Some, None, inl, inr, refl, ap, sym, subst, ◌∙◌, arith, bit_and, get_or-set_same, get_or-set_other}
use Rattle.std.specs.Prelude.{ℤ, find, IsTrue, ◌↔◌}
use Rattle.std.specs.Int.{bit_at}
use Rattle.std.specs.List.{AllByRecursion}
use Rattle.std.specs.Option.{is_some, option_map, option_map_or, option_and_then, option_or}
use Rattle.std.proofs.Math.Nat.{pow-le-pow_right}
use Rattle.std.proofs.Math.Pow.{pow-lt}
use Rattle.std.proofs.lemmas.Bool.{cases_eq}
use Rattle.std.proofs.lemmas.Bool.Decides.{nat_tests, same_from_decides, Decides-ltb}
use Rattle.std.proofs.lemmas.List.{take_more}
use Rattle.std.proofs.lemmas.List.Folds.{find-append}
use Rattle.std.proofs.lemmas.Nat.Bits.{shr_and_one, bit_at-lt}
use Rattle.tn_types.specs.BitWords.{has_bit}
use Rattle.tn_types.specs.declared.choices.Drain.{Drain}
use Rattle.tn_types.specs.declared.limits.TheConstants.{MAX_SLOTS, MAX_FIELDS}
use Rattle.ghost_model.specs.Ghosts.{is_settled}
use Rattle.ghost_model.specs.Legal as legal
use Rattle.ghost_scope.specs.Shown.{IsUp, IsAlive, kind_in}
use Rattle.ghost_masks.specs.Plan.{is_slot, fields_of, kind_of}
use Rattle.ghost_masks.specs.StandsFor.{AreOwnFields}
use Rattle.ghost_client.specs.declared.copy.GhostCopy.{GhostCopy}
use Rattle.ghost_client.specs.Copies.{copy_of}
use Rattle.ghost_client.specs.State.{field_value, value_of}
use Rattle.stream_manager.specs.Limits.{Terms}
use Rattle.stream_manager.specs.Server.{ghost_log}
use Rattle.stream_manager.specs.Client.{ghosts_came}
use Rattle.own_lists.specs.pair_core.History.{PairStep, history}
use Rattle.own_lists.specs.pair_core.Stands.{PairState, StandsFor}
use Rattle.conn_packing.proofs.Scoped.{up-alive, up-from, kind-here}
use Rattle.client_seat.specs.Told.{is_newest, field_told}

-- ---- the holder of a slot

pub none-from : {X : Type 0} (o : Option X) → is_some o ≡ false → o ≡ None
none-from None e = refl
none-from (Some x) e = cc

some-from : {X : Type 0} (o : Option X) → is_some o ≡ true → (x : X) × (o ≡ Some x)
some-from None e = absurd (cc)
some-from (Some x) e = (x, refl)

option_or-none : {X : Type 0} (o : Option X) → option_or o None ≡ o
option_or-none None = refl
option_or-none (Some x) = refl

find_more : {X : Type 0} (p : X → Bool) (xs : List X) (i : ℕ) (d : X) → i < length xs → find p (take (i + 1) xs) ≡ option_or (find p (take i xs)) (cond (p (get_or xs i d)) (Some (get_or xs i d)) None)
find_more p xs i d lt = rw (take_more xs i d lt) (find-append p (take i xs) (get_or xs i d ∷ []))

-- what is found holds of each of the list
pub found-of : {X : Type 0} (p : X → Bool) (P : X → Type 0) (xs : List X) (x : X) → find p xs ≡ Some x → AllByRecursion P xs → P x
found-of p P [] x is all = absurd (cc)
found-of p P (y ∷ ys) x is all = by (p y) is (λ e. found-of p P ys x e all.1)
  where
    by : (b : Bool) → cond b (Some y) (find p ys) ≡ Some x → (find p ys ≡ Some x → P x) → P x
    by true is rest = let same : y ≡ x = cc in subst P same all.0
    by false is rest = rest is

pub at-of : {X : Type 0} (P : X → Type 0) (xs : List X) (i : ℕ) (d : X) → i < length xs → AllByRecursion P xs → P (get_or xs i d)
at-of P [] i d lt all = absurd (omega arith)
at-of P (x ∷ xs) zero d lt all = all.0
at-of P (x ∷ xs) (suc i) d lt all = at-of P xs i d (omega arith) all.1

-- the slots that are held by the first of the periods, and by one more
module _ (F : Drain → Option ℕ) (written : List Drain) (i : ℕ) (d : Drain) (lt : i < length written) (holders : List (Option Drain)) (at : ℕ)
    (held : get_or holders at None ≡ find (λ d. is_slot at (F d)) (take i written)) where
  -- the next holds another slot, or none, or one that is held
  none-held : cond (is_slot at (F (get_or written i d))) (Some (get_or written i d)) None ≡ None → get_or holders at None ≡ find (λ d. is_slot at (F d)) (take (i + 1) written)
  none-held no_more =
      held ∙ sym (option_or-none (find (λ d. is_slot at (F d)) (take i written))) ∙ ap (option_or (find (λ d. is_slot at (F d)) (take i written))) (sym no_more)
      ∙ sym (find_more (λ d. is_slot at (F d)) written i d lt)

  pub no-slot : F (get_or written i d) ≡ None → get_or holders at None ≡ find (λ d. is_slot at (F d)) (take (i + 1) written)
  no-slot is = none-held (ap (λ (o : Option ℕ). cond (is_slot at o) (Some (get_or written i d)) None) is)

  other-slot : (s : ℕ) → F (get_or written i d) ≡ Some s → s ≢ at → get_or holders at None ≡ find (λ d. is_slot at (F d)) (take (i + 1) written)
  other-slot s is apart =
      let test : eqb s at ≡ false = grind (arith, nat_tests) in
      none-held (ap (λ (o : Option ℕ). cond (is_slot at o) (Some (get_or written i d)) None) is ∙ ap (λ b. cond b (Some (get_or written i d)) None) test)

  this-slot : (s : ℕ) → F (get_or written i d) ≡ Some s → s ≡ at → find (λ d. is_slot at (F d)) (take (i + 1) written) ≡ option_or (get_or holders at None) (Some (get_or written i d))
  this-slot s is same =
      let test : eqb s at ≡ true = grind (arith, nat_tests) in
      find_more (λ d. is_slot at (F d)) written i d lt
      ∙ (λ j. option_or (sym held j) ((ap (λ (o : Option ℕ). cond (is_slot at o) (Some (get_or written i d)) None) is ∙ ap (λ b. cond b (Some (get_or written i d)) None) test) j))

  pub held-slot : (s : ℕ) → F (get_or written i d) ≡ Some s → is_some (get_or holders s None) ≡ true → get_or holders at None ≡ find (λ d. is_slot at (F d)) (take (i + 1) written)
  held-slot s is taken = let x = (some-from (get_or holders s None) taken).0 in let there : get_or holders s None ≡ Some x = (some-from (get_or holders s None) taken).1 in elim (cases_eq s at) [
    | inl same ↦ (let here : get_or holders at None ≡ Some x = ap (λ n. get_or holders n None) (sym same) ∙ there in here ∙ sym (this-slot s is same ∙ ap (λ o. option_or o (Some (get_or written i d))) here))
    | inr apart ↦ other-slot s is apart
  ]

  pub free-slot : (s : ℕ) → s < length holders → F (get_or written i d) ≡ Some s → is_some (get_or holders s None) ≡ false → get_or (set holders s (Some (get_or written i d))) at None ≡ find (λ d. is_slot at (F d)) (take (i + 1) written)
  free-slot s within is free = let there = none-from (get_or holders s None) free in elim (cases_eq s at) [
    | inl same ↦
        (let here : get_or holders at None ≡ None = ap (λ n. get_or holders n None) (sym same) ∙ there in
        ap (λ n. get_or (set holders s (Some (get_or written i d))) n None) (sym same) ∙ get_or-set_same holders s (Some (get_or written i d)) None within
        ∙ sym (this-slot s is same ∙ ap (λ o. option_or o (Some (get_or written i d))) here))
    | inr apart ↦ get_or-set_other holders s at (Some (get_or written i d)) None (λ (e : at ≡ s). apart (sym e)) ∙ other-slot s is apart
  ]

-- ---- a settled field

bit-clear : (x : ℕ) → x < 2 → eqb x 0 ≡ not (eqb x 1)
bit-clear zero lt = refl
bit-clear (suc zero) lt = refl
bit-clear (suc (suc x)) lt = absurd (omega arith)

pub no-bit : (bits field : ℕ) → eqb (bit_and (bits / 2 ^ field) 1) 0 ≡ not (has_bit bits field)
no-bit bits field = ap (λ x. eqb x 0) (shr_and_one bits field) ∙ bit-clear (bit_at bits field) (bit_at-lt bits field)

-- the word of the field's bit
bit-word : (field : ℕ) → field < 16 → 1 * 2 ^ field % 4294967296 ≡ 2 ^ field
bit-word field lt = let below : field < 32 = omega arith in let small : 2 ^ field < 2 ^ 32 = pow-lt below in omega (arith, small)

few-below : (field count : ℕ) → 2 ^ field < 2 ^ count → field < count
few-below field count lt = by (ltb field count) refl
  where
    by : (b : Bool) → ltb field count ≡ b → field < count
    by true e = grind (arith, nat_tests)
    by false e = let le : count ≤ field = grind (arith, nat_tests) in let two : zero < 2 = omega arith in let more : 2 ^ count ≤ 2 ^ field = pow-le-pow_right two le in absurd (omega (arith, more, lt))

has-field : (has : Bool) (field count : ℕ) → field < 16 → IsTrue has ↔ (1 * 2 ^ field % 4294967296 < 2 ^ count) → has ≡ ltb field count
has-field has field count lt h =
    let word = bit-word field lt in
    same-from has (λ (e : has ≡ true). few-below field count (subst (λ n. n < 2 ^ count) word (h.0 e))) (λ (below : field < count). h.1 (subst (λ n. n < 2 ^ count) (sym word) (pow-lt below)))
  where
    same-from : (has : Bool) → (has ≡ true → field < count) → (field < count → has ≡ true) → has ≡ ltb field count
    same-from has f g = same_from_decides has (ltb field count) (f, g) (Decides-ltb field count)

module _ (p : PairState) (t : Terms) (steps : List PairStep) (s : StandsFor p t steps) (d : Drain) where
  pub up-here : legal.IsUp (ghost_log (history t steps).server) d.n → IsUp p.conn.masks.periods d.n
  up-here up = up-from p.conn.masks (ghost_log (history t steps).server) s.conn.masks d.n up

  pub alive-here : IsUp p.conn.masks.periods d.n → IsAlive p.conn.masks.periods d.n
  alive-here up = record { shown = up.shown; alive = up-alive _ up.up }

  module _ (up : IsUp p.conn.masks.periods d.n) (field : ℕ) (lt : field < MAX_FIELDS) (has : Bool) (of_kind : IsTrue has ↔ AreOwnFields p.conn.masks d.n (1 * 2 ^ field % 4294967296)) where
    its-field : has ≡ ltb field (length (fields_of t.kinds (kind_of (ghost_log (history t steps).server) d.n)))
    its-field =
        has-field has field (length (fields_of p.conn.masks.kinds (kind_in p.conn.masks.periods d.n))) lt of_kind
        ∙ (λ j. ltb field (length (fields_of (ap (λ (x : Terms). x.kinds) s.terms j) (kind-here p.conn.masks (ghost_log (history t steps).server) s.conn.masks d.n up j))))

    pub not-of-kind : has ≡ false → is_newest t steps field d ≡ false
    not-of-kind h = let none = sym its-field ∙ h in rw none refl

    pub not-settled : has ≡ true → is_settled (ghost_log (history t steps).server) d.n field ≡ false → is_newest t steps field d ≡ false
    not-settled h settled = let one = sym its-field ∙ h in rw (one, settled) refl

    pub newest-bit : has ≡ true → is_settled (ghost_log (history t steps).server) d.n field ≡ true → is_newest t steps field d ≡ eqb (bit_and (d.bits / 2 ^ field) 1) 0
    newest-bit h settled = let one = sym its-field ∙ h in rw (one, settled) (sym (no-bit d.bits field))

-- ---- what a copy shows

module _ (p : PairState) (t : Terms) (steps : List PairStep) (s : StandsFor p t steps) (at : ℕ) (copy : GhostCopy) (is : copy_of (ghosts_came (history t steps).client) at ≡ Some copy) (lt : at < MAX_SLOTS) where
  pub value-here : (field : ℕ) → value_of p.client.copies at field ≡ field_value t.kinds field copy
  value-here field = λ j. option_and_then (field_value (s.client_kinds j) field) ((s.client.copies.copies at lt ∙ is) j)

  pub field-some : (holder : Option Drain) (field : ℕ) (value : ℤ) (settled : Bool) → Some value ≡ value_of p.client.copies at field → settled ≡ option_map_or (is_newest t steps field) holder false
      → field_told t steps holder copy field ≡ Some (record { value = value; settled = settled })
  field-some holder field value settled shows says =
      let here : field_value t.kinds field copy ≡ Some value = sym (shows ∙ value-here field) in
      λ j. option_map (λ v. record { value = v; settled = sym says j }) (here j)

  pub field-none : (holder : Option Drain) (field : ℕ) → value_of p.client.copies at field ≡ None → field_told t steps holder copy field ≡ None
  field-none holder field shows = let here : field_value t.kinds field copy ≡ None = sym (value-here field) ∙ shows in λ j. option_map (λ v. record { value = v; settled = option_map_or (is_newest t steps field) holder false }) (here j)
