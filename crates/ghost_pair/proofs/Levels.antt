-- Each field of a copy has the level of the last processed packet that carries the field of the copy's period.
use Rattle.std.proofs.Common.{◌≡◌, ◌≢◌, ℕ, suc, Bool, true, false, ◌&&◌, cond, List, [], ◌∷◌, ◌∙◌, Some, None, Option, refl, sym, ap, subst, inl, inr}
use Rattle.std.specs.List.{AllByRecursion}
use Rattle.std.proofs.lemmas.Bool.{cases_eq}
use Rattle.tn_types.specs.declared.choices.Op.{Op}
use Rattle.tn_types.specs.declared.choices.Op.TheVariants.{Kill, Create, Update}
use Rattle.tn_types.specs.BitWords.{has_bit}
use Rattle.ghost_model.specs.Ghosts.{item_carries, op_carries}
use Rattle.ghost_model.proofs.Steps.{same_test, other_test}
use Rattle.ghost_pair.specs.Copies.{Item, Copy, changed, applied, taken, after_done, Meets, Finds}
use Rattle.ghost_pair.specs.Levels.{put}
use Rattle.ghost_pair.proofs.Client.{FindsEach, in_slot, off_slot}
use Rattle.ghost_pair.proofs.Joined.{AreFound}

none_some : {X : Type 0} (c : X) → None ≡ Some c → ⊥
none_some c h = cc

unsome : {X : Type 0} (a b : X) → Some a ≡ Some b → a ≡ b
unsome a b h = cc

-- where each period has one slot for good
module _ (given : ℕ → Option ℕ) where
  -- a copy stands in its period's slot, at the levels that `last` tells
  pub record IsLevelled (last : ℕ → ℕ → Option ℕ) (s : ℕ) (c : Copy) : Type 0 where
    pub at_slot : given c.period ≡ Some s
    pub levels : (f : ℕ) → last c.period f ≡ Some (c.levels f)

  abbrev pub AreLevelled : (ℕ → ℕ → Option ℕ) → (ℕ → Option Copy) → Type 0
  AreLevelled last copies = (s : ℕ) (c : Copy) → copies s ≡ Some c → IsLevelled last s c

  module _ (i : Item) (own : given i.choice.n ≡ Some i.choice.slot) (last : ℕ → ℕ → Option ℕ) (copies : ℕ → Option Copy) (finds : Finds copies i) (l : AreLevelled last copies) where
    -- after the item
    abbrev After : ℕ → ℕ → Option ℕ
    After n f = cond (item_carries n f i.choice) (Some (i.levels f)) (last n f)

    carried : (op : Op) → i.choice.op ≡ op → (f : ℕ) → item_carries i.choice.n f i.choice ≡ op_carries op i.choice.mask f
    carried op e f = ap (λ b. b && op_carries i.choice.op i.choice.mask f) (same_test i.choice.n) ∙ ap (λ o. op_carries o i.choice.mask f) e

    updated : (d : Copy) → i.choice.op ≡ Update → d.period ≡ i.choice.n → IsLevelled last i.choice.slot d → IsLevelled After i.choice.slot (record d { levels = λ f. cond (has_bit i.choice.mask f) (i.levels f) (d.levels f) })
    updated d e same k = record {
      at_slot = k.at_slot;
      levels = λ f.
          ap (λ b. cond b (Some (i.levels f)) (last d.period f)) (ap (λ m. item_carries m f i.choice) same ∙ carried Update e f)
          ∙ ap (cond (has_bit i.choice.mask f) (Some (i.levels f))) (k.levels f) ∙ under (has_bit i.choice.mask f) (i.levels f) (d.levels f);
    }
      where
        under : (b : Bool) (x y : ℕ) → cond b (Some x) (Some y) ≡ Some (cond b x y)
        under true x y = refl
        under false x y = refl

    in_it : (op : Op) → i.choice.op ≡ op → (o : Option Copy) → copies i.choice.slot ≡ o → Meets op i.choice.n o → (c : Copy) → changed op i o ≡ Some c → IsLevelled After i.choice.slot c
    in_it Kill e o is m c h = absurd (none_some c h)
    in_it Create e o is m c h = subst (IsLevelled After i.choice.slot) (unsome _ c h) (record { at_slot = own; levels = λ f. ap (λ b. cond b (Some (i.levels f)) (last i.choice.n f)) (carried Create e f) })
    in_it Update e None is m c h = absurd (none_some c h)
    in_it Update e (Some d) is m c h = subst (IsLevelled After i.choice.slot) (unsome _ c h) (updated d e (ap (λ (x : Copy). x.period) (unsome d m.0 m.1) ∙ m.2) (l i.choice.slot d is))

    here : Meets i.choice.op i.choice.n (copies i.choice.slot)
    here = finds

    levelled_item : AreLevelled After (applied i copies)
    levelled_item s c h = elim (cases_eq i.choice.slot s) [
      | inl at ↦ subst (λ t. IsLevelled After t c) at (in_it i.choice.op refl (copies i.choice.slot) refl here c (sym (in_slot i copies i.choice.slot refl) ∙ ap (applied i copies) at ∙ h))
      | inr off ↦
          let k = l s c (sym (off_slot i copies s off) ∙ h) in
          let other : i.choice.n ≢ c.period = λ same. off (unsome i.choice.slot s (sym own ∙ ap given same ∙ k.at_slot)) in
          record { at_slot = k.at_slot; levels = λ f. ap (λ b. cond (b && op_carries i.choice.op i.choice.mask f) (Some (i.levels f)) (last c.period f)) (other_test i.choice.n c.period other) ∙ k.levels f }
    ]

  levelled_packet : (items : List Item) → AllByRecursion (λ (i : Item). given i.choice.n ≡ Some i.choice.slot) items → (last : ℕ → ℕ → Option ℕ) (copies : ℕ → Option Copy) → FindsEach items copies → AreLevelled last copies
      → AreLevelled (λ n f. put n f items (last n f)) (taken items copies)
  levelled_packet [] own last copies finds l = l
  levelled_packet (i ∷ items) own last copies finds l =
      levelled_packet items own.1 (λ n f. cond (item_carries n f i.choice) (Some (i.levels f)) (last n f)) (applied i copies) finds.1 (levelled_item i own.0 last copies finds.0 l)

  pub levelled : (done : ℕ → Bool) (k : ℕ) (ps : List (List Item)) → AllByRecursion (AllByRecursion (λ (i : Item). given i.choice.n ≡ Some i.choice.slot)) ps → (last : ℕ → ℕ → Option ℕ) (copies : ℕ → Option Copy) → AreFound done k copies ps → AreLevelled last copies
      → AreLevelled (λ n f. after_done (put n f) done k (last n f) ps) (after_done taken done k copies ps)
  levelled done k [] own last copies found l = l
  levelled done k (p ∷ ps) own last copies found l =
      levelled done (suc k) ps own.1 (λ n f. cond (done k) (put n f p (last n f)) (last n f)) (cond (done k) (taken p copies) copies) found.2 (either (done k))
    where
      either : (b : Bool) → AreLevelled (λ n f. cond b (put n f p (last n f)) (last n f)) (cond b (taken p copies) copies)
      either true = levelled_packet p own.0 last copies found.0 l
      either false = l
