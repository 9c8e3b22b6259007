-- The copies of a client, which know slots alone, are like those that know their periods, packet by packet.
use Rattle.std.proofs.Common.{◌≡◌, ℕ, zero, suc, ◌+◌, ◌<◌, Bool, true, false, cond, List, [], ◌∷◌, ◌++◌, ◌∙◌, append_assoc, length, get_or, map, Some, None, Option, refl, sym, ap, subst, inl, inr, arith, eqb}
use Rattle.std.specs.Prelude.{slice_index_or, reverse}
use Rattle.std.proofs.lemmas.List.{reverse-append}
use Rattle.std.proofs.lemmas.Bool.{cases_eq}
use Rattle.tn_types.specs.BitWords.{has_bit}
use Rattle.tn_types.specs.declared.choices.Op.{Op}
use Rattle.tn_types.specs.declared.choices.Op.TheVariants as op
use Rattle.wire_format.specs.declared.ghosts.GhostItem.{GhostItem}
use Rattle.wire_format.specs.declared.ghosts.GhostItem.TheVariants.{Kill, Create, Update}
use Rattle.wire_format.specs.Ghosts.{slot_named}
use Rattle.ghost_client.specs.declared.copy.GhostCopy.{GhostCopy}
use Rattle.ghost_client.specs.Fields.{place_in}
use Rattle.ghost_client.specs.Copies.{copy_of, fields_from}
use Rattle.ghost_client.specs.State.{after, merged}
use Rattle.ghost_client.specs.StandsFor.{taken as onto}
use Rattle.ghost_client.proofs.Merged.{updated_level, merged_levels, levels_alone, fields_count}
use Rattle.ghost_client.proofs.After.{other_slot, named_slot, NeedsCopy}
use Rattle.ghost_model.specs.Scope.{Traits}
use Rattle.ghost_model.proofs.Steps.{other_test}
use Rattle.ghost_pair.specs.Copies.{Item, Copy, changed, applied, taken, Meets, Finds}
use Rattle.ghost_pair.proofs.Client.{FindsEach, in_slot, off_slot}

-- an item of a packet that stands for what was chosen: of the period's kind and block in a create, of its kind in an
-- update, and with the item's levels, where `width` tells how many fields a kind has
abbrev pub Spells : (ℕ → Traits) → (ℕ → ℕ) → Op → Item → GhostItem → Type 0
Spells of width op.Kill i (Kill slot) = slot ≡ i.choice.slot
Spells of width op.Create i (Create slot kind block levels) =
    (slot ≡ i.choice.slot) × (kind ≡ (of i.choice.n).kind) × (block ≡ (of i.choice.n).block) × (length levels ≡ width kind) × ((f : ℕ) → f < length levels → i.levels f ≡ slice_index_or levels f 0)
Spells of width op.Update i (Update slot kind mask levels) =
    (slot ≡ i.choice.slot) × (kind ≡ (of i.choice.n).kind) × (mask ≡ i.choice.mask) × ((f : ℕ) → has_bit mask f ≡ true → (place_in mask f < length levels) × (i.levels f ≡ slice_index_or levels (place_in mask f) 0))
Spells of width o i ghost = ⊥

abbrev pub AreSpelled : (ℕ → Traits) → (ℕ → ℕ) → List Item → List GhostItem → Type 0
AreSpelled of width [] [] = Unit {0}
AreSpelled of width [] (x ∷ ghosts) = ⊥
AreSpelled of width (i ∷ items) [] = ⊥
AreSpelled of width (i ∷ items) (x ∷ ghosts) = Spells of width i.choice.op i x × AreSpelled of width items ghosts

-- the same copy: of the period's kind and block, each field at the same level
pub record IsAlike (of : ℕ → Traits) (width : ℕ → ℕ) (d : GhostCopy) (c : Copy) : Type 0 where
  pub kind : d.kind ≡ (of c.period).kind
  pub block : d.block ≡ (of c.period).block
  pub count : length d.levels ≡ width d.kind
  pub levels : (f : ℕ) → f < length d.levels → slice_index_or d.levels f 0 ≡ c.levels f

abbrev pub Alike : (ℕ → Traits) → (ℕ → ℕ) → Option GhostCopy → Option Copy → Type 0
Alike of width None None = Unit {0}
Alike of width None (Some c) = ⊥
Alike of width (Some d) None = ⊥
Alike of width (Some d) (Some c) = IsAlike of width d c

-- in each slot
abbrev pub AreAlike : (ℕ → Traits) → (ℕ → ℕ) → List GhostItem → (ℕ → Option Copy) → Type 0
AreAlike of width ghosts copies = (slot : ℕ) → Alike of width (copy_of ghosts slot) (copies slot)

-- ---- the levels of an update

at-field : (g : ℕ → ℕ) (k count f : ℕ) → f < count → get_or (map g (fields_from k count)) f 0 ≡ g (k + f)
at-field g k zero f lt = absurd (omega arith)
at-field g k (suc count) zero lt = ap g (omega arith)
at-field g k (suc count) (suc f) lt = at-field g (suc k) count f (omega arith) ∙ ap g (omega arith)

merged-is : (mask : ℕ) (fresh old : List ℕ) → merged 0 mask fresh old ≡ map (updated_level mask fresh (λ f. slice_index_or old f 0)) (fields_from 0 (length old))
merged-is mask fresh old = ap (merged 0 mask fresh) (sym (levels_alone old (λ f. 0))) ∙ merged_levels mask fresh (λ f. slice_index_or old f 0) 0 (length old)

merged-long : (mask : ℕ) (fresh old : List ℕ) → length (merged 0 mask fresh old) ≡ length old
merged-long mask fresh old = ap length (merged-is mask fresh old) ∙ fields_count 0 (length old) (updated_level mask fresh (λ f. slice_index_or old f 0))

merged-at : (mask : ℕ) (fresh old : List ℕ) (f : ℕ) → f < length old → slice_index_or (merged 0 mask fresh old) f 0 ≡ cond (has_bit mask f) (slice_index_or fresh (place_in mask f) (slice_index_or old f 0)) (slice_index_or old f 0)
merged-at mask fresh old f lt =
    ap (λ l. slice_index_or l f 0) (merged-is mask fresh old) ∙ at-field (updated_level mask fresh (λ f. slice_index_or old f 0)) 0 (length old) f lt
    ∙ ap (updated_level mask fresh (λ f. slice_index_or old f 0)) (let e : 0 + f ≡ f = omega arith in e)

same-default : (xs : List ℕ) (i a b : ℕ) → i < length xs → get_or xs i a ≡ get_or xs i b
same-default [] i a b lt = absurd (omega arith)
same-default (x ∷ xs) zero a b lt = refl
same-default (x ∷ xs) (suc i) a b lt = same-default xs i a b (omega arith)

choose : (b : Bool) (x y v w : ℕ) → (b ≡ true → x ≡ v) → (b ≡ false → y ≡ w) → cond b x y ≡ cond b v w
choose true x y v w f g = f refl
choose false x y v w f g = g refl

-- ---- one item

none-some : {X : Type 0} (c : X) → None ≡ Some c → ⊥
none-some c h = cc

module _ (of : ℕ → Traits) (width : ℕ → ℕ) where
  -- what an item needs of the client's copy
  needs : (o : Option GhostCopy) (p : Option Copy) (n : ℕ) (ghost : GhostItem) (i : Item) (k : Op) → Spells of width k i ghost → Meets k n p → Alike of width o p → NeedsCopy ghost o
  needs o p n (Kill s) i k sp m a = tt
  needs o p n (Create s kind block levels) i k sp m a = tt
  needs (Some d) p n (Update s kind mask levels) i k sp m a = tt
  needs None (Some x) n (Update s kind mask levels) i k sp m a = absurd a
  needs None None n (Update s kind mask levels) i op.Update sp m a = absurd (none-some m.0 m.1)
  needs None None n (Update s kind mask levels) i op.Kill sp m a = absurd sp
  needs None None n (Update s kind mask levels) i op.Create sp m a = absurd sp

  in-it : (i : Item) (ghost : GhostItem) (k : Op) → Spells of width k i ghost → (o : Option GhostCopy) (p : Option Copy) → Alike of width o p → Alike of width (after ghost o) (changed k i p)
  in-it i (Kill s) op.Kill sp o p a = tt
  in-it i (Create s kind block levels) op.Create sp o p a = record { kind = sp.1; block = sp.2; count = sp.3; levels = λ f lt. sym (sp.4 f lt) }
  in-it i (Update s kind mask levels) op.Update sp None None a = tt
  in-it i (Update s kind mask levels) op.Update sp None (Some c) a = absurd a
  in-it i (Update s kind mask levels) op.Update sp (Some d) None a = absurd a
  in-it i (Update s kind mask levels) op.Update sp (Some d) (Some c) a = record {
    kind = a.kind;
    block = a.block;
    count = merged-long mask levels d.levels ∙ a.count;
    levels = λ f lt.
        let within : f < length d.levels = omega (arith, lt, merged-long mask levels d.levels) in
        merged-at mask levels d.levels f within
        ∙ choose (has_bit mask f) _ _ (i.levels f) (c.levels f)
        (λ t. same-default levels (place_in mask f) (slice_index_or d.levels f 0) 0 (sp.3 f t).0 ∙ sym (sp.3 f t).1)
        (λ t. a.levels f within)
        ∙ ap (λ x. cond (has_bit x f) (i.levels f) (c.levels f)) sp.2;
  }
  in-it i ghost k sp o p a = absurd sp

  pub slot-is : (k : Op) (i : Item) (ghost : GhostItem) → Spells of width k i ghost → slot_named ghost ≡ i.choice.slot
  slot-is op.Kill i (Kill slot) sp = sp
  slot-is op.Create i (Create slot kind block levels) sp = sp.0
  slot-is op.Update i (Update slot kind mask levels) sp = sp.0
  slot-is k i ghost sp = absurd sp

  module _ (ghosts : List GhostItem) (copies : ℕ → Option Copy) (i : Item) (x : GhostItem) (sp : Spells of width i.choice.op i x) (m : Finds copies i) (a : AreAlike of width ghosts copies) where
    at-slot : slot_named x ≡ i.choice.slot
    at-slot = slot-is i.choice.op i x sp

    before : Alike of width (copy_of ghosts (slot_named x)) (copies i.choice.slot)
    before = subst (λ s. Alike of width (copy_of ghosts s) (copies i.choice.slot)) (sym at-slot) (a i.choice.slot)

    can : NeedsCopy x (copy_of ghosts (slot_named x))
    can = needs (copy_of ghosts (slot_named x)) (copies i.choice.slot) i.choice.n x i i.choice.op sp m before

    now : Alike of width (copy_of (x ∷ ghosts) (slot_named x)) (changed i.choice.op i (copies i.choice.slot))
    now = subst (λ o. Alike of width o (changed i.choice.op i (copies i.choice.slot))) (named_slot ghosts x (copy_of ghosts (slot_named x)) refl can)
        (in-it i x i.choice.op sp (copy_of ghosts (slot_named x)) (copies i.choice.slot) before)

    alike-item : AreAlike of width (x ∷ ghosts) (applied i copies)
    alike-item slot = elim (cases_eq i.choice.slot slot) [
      | inl same ↦
          subst (λ s. Alike of width (copy_of (x ∷ ghosts) s) (applied i copies s)) same
          (subst (λ s. Alike of width (copy_of (x ∷ ghosts) s) (applied i copies i.choice.slot)) at-slot
          (subst (Alike of width (copy_of (x ∷ ghosts) (slot_named x))) (sym (in_slot i copies i.choice.slot refl)) now))
      | inr other ↦
          let apart : eqb (slot_named x) slot ≡ false = other_test (slot_named x) slot (λ e. other (sym at-slot ∙ e)) in
          subst (λ o. Alike of width o (applied i copies slot)) (sym (other_slot ghosts x slot apart)) (subst (Alike of width (copy_of ghosts slot)) (sym (off_slot i copies slot other)) (a slot))
    ]

  onto-front : (x : GhostItem) (packet ghosts : List GhostItem) → onto (x ∷ packet) ghosts ≡ onto packet (x ∷ ghosts)
  onto-front x packet ghosts = ap (λ l. l ++ ghosts) (reverse-append (x ∷ []) packet) ∙ append_assoc (reverse packet) (x ∷ []) ghosts

  -- a packet whose items find what they speak of
  pub alike : (items : List Item) (packet ghosts : List GhostItem) (copies : ℕ → Option Copy) → AreSpelled of width items packet → FindsEach items copies → AreAlike of width ghosts copies → AreAlike of width (onto packet ghosts) (taken items copies)
  alike [] [] ghosts copies sp m a = a
  alike [] (x ∷ packet) ghosts copies sp m a = absurd sp
  alike (i ∷ items) [] ghosts copies sp m a = absurd sp
  alike (i ∷ items) (x ∷ packet) ghosts copies sp m a =
      subst (λ l. AreAlike of width l (taken items (applied i copies))) (sym (onto-front x packet ghosts))
      (alike items packet (x ∷ ghosts) (applied i copies) sp.1 m.1 (alike-item ghosts copies i x sp.0 m.0 a))
