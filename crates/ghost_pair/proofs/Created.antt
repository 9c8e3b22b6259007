-- Each copy is of a period that a packet created.
use Rattle.std.proofs.Common.{◌≡◌, ℕ, suc, Bool, true, false, cond, List, [], ◌∷◌, ◌∙◌, Some, None, Option, refl, sym, subst, inl, inr}
use Rattle.std.specs.List.{AllByRecursion}
use Rattle.std.proofs.lemmas.Bool.{cases_eq}
use Rattle.tn_types.specs.declared.choices.Op.{Op}
use Rattle.tn_types.specs.declared.choices.Op.TheVariants.{Kill, Create, Update}
use Rattle.ghost_pair.specs.Copies.{Item, Copy, changed, applied, taken, after_done}
use Rattle.ghost_pair.proofs.Client.{in_slot, off_slot}

none_some : {X : Type 0} (c : X) → None ≡ Some c → ⊥
none_some c h = cc

unsome : {X : Type 0} (a b : X) → Some a ≡ Some b → a ≡ b
unsome a b h = cc

-- what holds of each period that an item creates holds of the copies' periods
module _ (P : ℕ → Type 0) where
  abbrev Creates : Item → Type 0
  Creates i = i.choice.op ≡ Create → P i.choice.n

  abbrev Hold : (ℕ → Option Copy) → Type 0
  Hold copies = (s : ℕ) (c : Copy) → copies s ≡ Some c → P c.period

  changed_holds : (i : Item) (op : Op) → i.choice.op ≡ op → Creates i → (o : Option Copy) → ((d : Copy) → o ≡ Some d → P d.period) → (c : Copy) → changed op i o ≡ Some c → P c.period
  changed_holds i Kill e own o old c h = absurd (none_some c h)
  changed_holds i Create e own o old c h = subst (λ (x : Copy). P x.period) (unsome _ c h) (own e)
  changed_holds i Update e own None old c h = absurd (none_some c h)
  changed_holds i Update e own (Some d) old c h = subst (λ (x : Copy). P x.period) (unsome _ c h) (old d refl)

  item_holds : (i : Item) (copies : ℕ → Option Copy) → Creates i → Hold copies → Hold (applied i copies)
  item_holds i copies own all s c h = elim (cases_eq i.choice.slot s) [
    | inl at ↦ changed_holds i i.choice.op refl own (copies s) (all s) c (sym (in_slot i copies s at) ∙ h)
    | inr off ↦ all s c (sym (off_slot i copies s off) ∙ h)
  ]

  packet_holds : (items : List Item) (copies : ℕ → Option Copy) → AllByRecursion Creates items → Hold copies → Hold (taken items copies)
  packet_holds [] copies own all = all
  packet_holds (i ∷ items) copies own all = packet_holds items (applied i copies) own.1 (item_holds i copies own.0 all)

  pub created : (done : ℕ → Bool) (k : ℕ) (copies : ℕ → Option Copy) (ps : List (List Item)) → AllByRecursion (AllByRecursion Creates) ps → Hold copies → Hold (after_done taken done k copies ps)
  created done k copies [] own all = all
  created done k copies (p ∷ ps) own all = created done (suc k) (cond (done k) (taken p copies) copies) ps own.1 (either (done k))
    where
      either : (b : Bool) → Hold (cond b (taken p copies) copies)
      either true = packet_holds p copies own.0 all
      either false = all
