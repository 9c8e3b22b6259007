-- Rows of seats, and the end.
use Rattle.std.proofs.Common.{◌≡◌, ℕ, zero, suc, ◌+◌, ◌-◌, ◌*◌, ◌/◌, ◌%◌, ◌^◌, ◌<◌, ◌≤◌, List, [], ◌∷◌, ◌++◌, length, get_or, refl, sym, ap, ◌∙◌, subst, arith}
use Rattle.std.specs.Prelude.{slice_index, replicate}
use Rattle.std.proofs.lemmas.List.{get_or-replicate, length-replicate}
use mathlib.Core.Logic.{dite}
use native.Mathlib.Decide.{dec_lt}
use mathlib.Core.Option.{some, some-injective, some-ne-none}
use lib.ListN.{get_elem?}
use Rattle.atomic_table.specs.Table.{Me, Splits, Joins, Final, Seen}
use Rattle.atomic_table.specs.Seated.{TableId}
use Rattle.atomic_table.specs.declared.shared.Seat.{Seat}
use Rattle.dirty_lanes.specs.declared.view.SimStep.{SimStep}
use Rattle.dirty_lanes.specs.declared.view.PackStep.{PackStep}
use Rattle.dirty_lanes.specs.declared.view.PackView.{PackView}
use Rattle.dirty_lanes.specs.declared.view.SimView.{SimView}
use Rattle.dirty_lanes.specs.declared.view.View.{View}
use Rattle.dirty_lanes.specs.declared.view.View.TheVariants.{Spent, Sim, Packer}
use Rattle.dirty_lanes.specs.Views.{newest, newest_value}
use Rattle.dirty_lanes.specs.Words.{field_word, mask_word, packed, version_at, value_at, mask_at, IsLaidOut}
use Rattle.dirty_lanes.specs.Rule.{Follows, Joined, RuleHolds, one_less, new_packer, with_packer}
use Rattle.tn_types.specs.declared.limits.TheConstants.{MAX_CLIENTS, MAX_OBJECTS}
use Rattle.dirty_lanes.specs.declared.limits.TheConstants.{MAX_LANE_FIELDS}
use Rattle.dirty_lanes.specs.declared.words.TheConstants.{VERSION}
use Rattle.dirty_lanes.specs.Named.{IsRow, IsNumbered, AreHeard, IsFinal}
use Rattle.dirty_lanes.proofs.Moves.{mine, gives, ends}

pub from_get : (xs : List ℕ) (i x : ℕ) → get_elem? xs i ≡ some x → get_or xs i 0 ≡ x
from_get [] i x e = absurd (some-ne-none x (sym e))
from_get (y ∷ ys) zero x e = some-injective y x e
from_get (y ∷ ys) (suc i) x e = from_get ys i x e

abbrev One : Type 0
One = Seat (Unit {0}) View

pub there : (xs : List ℕ) (i x : ℕ) → get_elem? xs i ≡ some x → i < length xs
there [] i x e = absurd (some-ne-none x (sym e))
there (y ∷ ys) zero x e = omega arith
there (y ∷ ys) (suc i) x e = let h = there ys i x e in omega arith

pub row_snoc : (t : TableId) (top : ℕ) (xs : List One) (x : One) → IsRow t top xs → x.table_id ≡ t → x.me ≡ (Packer (record { client = top - length xs - 1; steps = [] }), []) → IsRow t top (xs ++ x ∷ [])
row_snoc t top [] x h named is = (named, is ∙ ap (λ (n : ℕ). (Packer (record { client = n; steps = [] }), [])) (omega arith), tt)
row_snoc t top (y ∷ ys) x h named is = (h.0, h.1, row_snoc t (top - 1) ys x h.2 named (is ∙ ap (λ (n : ℕ). (Packer (record { client = n; steps = [] }), [])) (omega arith)))

pub row_front : (t : TableId) (top : ℕ) (xs : List One) (x : One) → IsRow t top (xs ++ x ∷ []) → IsRow t top xs
row_front t top [] x h = tt
row_front t top (y ∷ ys) x h = (h.0, h.1, row_front t (top - 1) ys x h.2)

pub row_last : (t : TableId) (top : ℕ) (xs : List One) (x : One) → IsRow t top (xs ++ x ∷ []) → (x.table_id ≡ t) × (x.me ≡ (Packer (record { client = top - length xs - 1; steps = [] }), []))
row_last t top [] x h = (h.0, h.1 ∙ ap (λ (n : ℕ). (Packer (record { client = n; steps = [] }), [])) (omega arith))
row_last t top (y ∷ ys) x h = let r = row_last t (top - 1) ys x h.2 in (r.0, r.1 ∙ ap (λ (n : ℕ). (Packer (record { client = n; steps = [] }), [])) (omega arith))

abbrev pub nought : ℕ
nought = 0

past : (xs : List ℕ) (i : ℕ) → length xs ≤ i → get_or xs i 0 ≡ nought
past [] i h = refl
past (x ∷ xs) zero h = absurd (omega arith)
past (x ∷ xs) (suc i) h = past xs i (omega arith)

pub zeros : (n i : ℕ) → get_or (replicate n nought) i 0 ≡ nought
zeros n i = dite (dec_lt i n) (λ (h : i < n). get_or-replicate n i 0 0 h) (λ (h : ¬ (i < n)). past (replicate n nought) i (omega (arith, length-replicate n nought)))

abbrev Mine : Type 0
Mine = Me (Unit {0}) View

pub gives_as : (key objects id : ℕ) (me : Mine) (v : SimView) → me ≡ (Sim v, []) → 0 < v.left → Splits (RuleHolds key) id me.0 (one_less me.0) (new_packer me.0)
gives_as key objects id me v is some_left = subst (λ (z : Mine). Splits (RuleHolds key) id z.0 (one_less z.0) (new_packer z.0)) (sym is) (gives key id v some_left)

pub ends_as : (key id : ℕ) (me : Mine) (v : SimView) (other : ℕ) (you : Mine) (p : PackView) → me ≡ (Sim v, []) → you ≡ (Packer p, []) → Joins (RuleHolds key) id me.0 other you.0 (with_packer me.0 you.0) Spent
ends_as key id me v other you p is at = subst (λ (z : Mine × Mine). Joins (RuleHolds key) id z.0.0 other z.1.0 (with_packer z.0.0 z.1.0) Spent) (λ j. (sym is j, sym at j)) (ends key id v other p)

joined_front : (seat : ℕ) (logs : ℕ → List PackStep) (owner : ℕ → ℕ) (left : ℕ) (ps qs : List PackView) → Joined seat logs owner left (ps ++ qs) → Joined seat logs owner left ps
joined_front seat logs owner left [] qs j = tt
joined_front seat logs owner left (p ∷ ps) qs j = (j.0, j.1, j.2, joined_front seat logs owner left ps qs j.3)

heard : (objects clients : ℕ) (sim : List SimStep) (ws : List ℕ) (seat : ℕ) (logs : ℕ → List PackStep) (owner : ℕ → ℕ) (left k : ℕ) (ps : List PackView) → k + length ps ≤ 16 → IsNumbered k ps
    → ((c : ℕ) → c < 16 → Follows objects sim ws c (logs c)) → Joined seat logs owner left ps → AreHeard sim (record { objects = objects; clients = clients; words = ws }) ps
unfolding mask_at
heard objects clients sim ws seat logs owner left k [] few num follows j = tt
heard objects clients sim ws seat logs owner left k (p ∷ ps) few num follows j =
    let c = num.0 in
    let f : Follows objects sim ws p.client p.steps = subst (λ (l : List PackStep). Follows objects sim ws p.client l) (sym j.1) (follows p.client (omega arith)) in
    (record { stand = f.stand; takes = λ o here. f.takes o here; covers = λ o i lt here. f.covers o i lt here }, heard objects clients sim ws seat logs owner left (k + 1) ps (omega arith) num.1 follows j.3)

final_field : (objects id : ℕ) (v : SimView) (ws : List ℕ) (xs : List (Unit {0})) → Final (Seen (RuleHolds objects) id (Sim v)) ws xs → (o i : ℕ) → i < 16 → o < objects
    → (slice_index ws (field_word o i) ≡ packed (newest v.steps o i) (newest_value v.steps o i)) × (newest_value v.steps o i < VERSION)
final_field objects id v ws xs f o i lt here =
    let k = f.1.0 in
    let me = mine objects f.0 k id v f.1.1 in
    let words = f.2 in
    let steps = ap (λ (u : SimView). u.steps) me.1 in (
      subst (λ (z : List ℕ × List SimStep). slice_index z.0 (field_word o i) ≡ packed (newest z.1 o i) (newest_value z.1 o i)) (λ j. (words j, sym steps j)) (k.fields o i lt here),
      subst (λ (z : List SimStep). newest_value z o i < VERSION) (sym steps) (k.small o i),
    )

packed_version : (word version value : ℕ) → word ≡ packed version value → value < VERSION → word / VERSION ≡ version
packed_version word version value is small = omega arith

packed_value : (word version value : ℕ) → word ≡ packed version value → value < VERSION → word % VERSION ≡ value
packed_value word version value is small = omega arith

pub final_is : (objects clients id : ℕ) (v : SimView) (ws : List ℕ) (xs : List (Unit {0})) (packs tail : List PackView) → Final (Seen (RuleHolds objects) id (Sim v)) ws xs → v.joined ≡ packs ++ tail → IsNumbered 0 packs → length packs ≤ 16
    → IsFinal v.steps packs (record { objects = objects; clients = clients; words = ws })
unfolding version_at value_at
final_is objects clients id v ws xs packs tail f all num few =
    let k = f.1.0 in
    let me = mine objects f.0 k id v f.1.1 in
    let words = f.2 in
    let steps = ap (λ (u : SimView). u.steps) me.1 in
    record {
      versions = λ o i lt here. let e = final_field objects id v ws xs f o i lt here in packed_version _ _ _ e.0 e.1;
      values = λ o i lt here. let e = final_field objects id v ws xs f o i lt here in packed_value _ _ _ e.0 e.1;
      heard =
          heard objects clients v.steps ws k.seat k.logs k.owner k.now.left 0 packs (omega arith) num
          (subst (λ (z : List ℕ × List SimStep). (c : ℕ) → c < 16 → Follows objects z.1 z.0 c (k.logs c)) (λ j. (words j, sym steps j)) k.follows)
          (joined_front k.seat k.logs k.owner k.now.left packs tail (subst (λ (z : List PackView). Joined k.seat k.logs k.owner k.now.left z) (sym (ap (λ (u : SimView). u.joined) me.1) ∙ all) k.joined));
    }

pub final_laid : (objects clients id : ℕ) (v : SimView) (ws : List ℕ) (xs : List (Unit {0})) → Final (Seen (RuleHolds objects) id (Sim v)) ws xs → 1 ≤ objects → objects ≤ MAX_OBJECTS → 1 ≤ clients → clients ≤ MAX_CLIENTS
    → IsLaidOut (record { objects = objects; clients = clients; words = ws })
unfolding mask_at
final_laid objects clients id v ws xs f one_object few one less =
    let k = f.1.0 in
    let words = f.2 in
    let long : length ws ≡ 32 * objects + 1 = ap (λ (z : List ℕ). length z) (sym words) ∙ k.wide in
    record {
      some_objects = one_object;
      few_objects = few;
      some_clients = one;
      few_clients = less;
      long = long;
      narrow = λ c o lt.
          dite (dec_lt o objects)
          (λ (here : o < objects). subst (λ (z : List ℕ). slice_index z (mask_word c o) < 2 ^ MAX_LANE_FIELDS) words (k.masks c o lt here))
          (λ (far : ¬ (o < objects)). rw (past ws (mask_word c o) (omega (arith, long))) (omega arith));
    }
