-- What a packet that a client takes makes of its copies: they stay in range, and a copy that stays in its slot stays of its kind.
use Rattle.std.proofs.Common.{◌≡◌, ◌∙◌, ℕ, ◌<◌, ◌≤◌, ◌==◌, ◌^◌, ◌/◌, Bool, true, false, ◌||◌, List, [], ◌∷◌, ◌++◌, Option, Some, None, if◌then◌else◌, refl, sym, ap, subst, arith, append-nil, append_assoc}
use Rattle.std.specs.List.{AllByRecursion, list_any}
use Rattle.std.specs.Option.{option_or}
use Rattle.std.proofs.lemmas.Bool.{eqb-true}
use Rattle.std.proofs.lemmas.Bool.Decides.{nat_tests}
use Rattle.std.proofs.lemmas.List.{reverse-append}
use Rattle.std.proofs.lemmas.List.Folds.{list_any-append}
use Rattle.tn_types.specs.Checks.{first_fault}
use Rattle.tn_types.specs.declared.limits.TheConstants.{MAX_SLOTS}
use Rattle.quantised_fields.specs.declared.kind.Kind.{Kind}
use Rattle.wire_format.specs.declared.ghosts.GhostItem.{GhostItem}
use Rattle.wire_format.specs.declared.ghosts.GhostItem.TheVariants.{Kill, Create, Update}
use Rattle.wire_format.specs.Ghosts.{AreLevels, chosen, widths, slot_named, IsGhost}
use Rattle.ghost_client.specs.declared.copy.GhostCopy.{GhostCopy}
use Rattle.ghost_client.specs.declared.fault.GhostFault.TheVariants.{Twice, KindDiffers}
use Rattle.ghost_client.specs.Fields.{names}
use Rattle.ghost_client.specs.Copies.{copy_of}
use Rattle.ghost_client.specs.State.{merged}
use Rattle.ghost_client.specs.Faults.{fault_of, item_fault}
use Rattle.ghost_client.specs.StandsFor.{taken}
use Rattle.ghost_client.proofs.After.{named_slot, other_slot}
use Rattle.ghost_client.proofs.Merged.{merged_fits}
use Rattle.relay_model.specs.Laws.{IsCopy, IsChange}

given : (a b : GhostCopy) → ◌≡◌ {A = Option GhostCopy} (Some a) (Some b) → a ≡ b
given a b e = cc (e)

no_copy : (a : GhostCopy) (o : Option GhostCopy) → o ≡ None → o ≡ Some a → ⊥
no_copy a o e f = cc (e, f)

kind_is : (s a b : ℕ) → (if a == b then None else Some (KindDiffers s a)) ≡ None → a ≡ b
kind_is s a b = by (a == b) refl
  where
    by : (c : Bool) → (a == b) ≡ c → (if c then None else Some (KindDiffers s a)) ≡ None → a ≡ b
    by true e f = eqb-true a b e
    by false e f = absurd (cc)

pub first_of : {E : Type 0} (a b : Option E) → option_or a b ≡ None → a ≡ None
first_of None b e = refl
first_of (Some f) b e = absurd (cc)

rest_of : {E : Type 0} (a b : Option E) → option_or a b ≡ None → b ≡ None
rest_of None b e = e
rest_of (Some f) b e = absurd (cc)

module _ (kinds : List Kind) (held : ℕ) (items : List GhostItem) where
  abbrev old : ℕ → Option GhostCopy
  old slot = copy_of items slot

  abbrev now : List GhostItem → ℕ → Option GhostCopy
  now done slot = copy_of (taken done items) slot

  -- behind the first items of the packet
  pub record Behind (done : List GhostItem) : Type 0 where
    pub others : (slot : ℕ) → list_any (names slot) done ≡ false → now done slot ≡ old slot
    pub fits : (slot : ℕ) (copy : GhostCopy) → now done slot ≡ Some copy → IsCopy kinds copy
    pub within : (slot : ℕ) → MAX_SLOTS ≤ slot → now done slot ≡ None
    pub kept : (slot : ℕ) (was is : GhostCopy) → old slot ≡ Some was → now done slot ≡ Some is → is.kind ≡ was.kind

  -- ---- the slot that the next item names

  record Named (slot : ℕ) (new : Option GhostCopy) : Type 0 where
    pub fits : (copy : GhostCopy) → new ≡ Some copy → IsCopy kinds copy
    pub kept : (was is : GhostCopy) → old slot ≡ Some was → new ≡ Some is → is.kind ≡ was.kind
    pub below : slot < MAX_SLOTS

  module _ (log : List GhostItem) (fits : (slot : ℕ) (copy : GhostCopy) → copy_of log slot ≡ Some copy → IsCopy kinds copy) where
    by_item : (item : GhostItem) (o : Option GhostCopy) → old (slot_named item) ≡ o → fault_of o held item ≡ None → IsGhost kinds item
        → copy_of log (slot_named item) ≡ o → Named (slot_named item) (copy_of (item ∷ log) (slot_named item))
    by_item (Kill s) None e f g h = absurd (cc)
    by_item (Kill s) (Some c) e f g h =
        let gone : None ≡ copy_of (Kill s ∷ log) s = named_slot log (Kill s) (Some c) h tt in
        record {
          fits = λ copy is. absurd (no_copy copy _ (sym gone) is);
          kept = λ was is a b. absurd (no_copy is _ (sym gone) b);
          below = omega (arith, g);
        }
    by_item (Create s kind block levels) None e f g h =
        let made : Some (record { kind = kind; block = block; levels = levels }) ≡ copy_of (Create s kind block levels ∷ log) s = named_slot log (Create s kind block levels) None h tt in
        record {
          fits = λ copy is.
              subst (IsCopy kinds) (given _ copy (made ∙ is))
              (record { range = record { kind = (g.1).1; levels = g.3 }; block = (let b = g.2 in omega (arith, b)) });
          kept = λ was is a b. absurd (no_copy was _ e a);
          below = (let lt = g.0 in omega (arith, lt));
        }
    by_item (Create s kind block levels) (Some c) e f g h = absurd (cc)
    by_item (Update s kind mask levels) None e f g h = absurd (cc)
    by_item (Update s kind mask levels) (Some c) e f g h =
        let made : Some (record c { levels = merged 0 mask levels c.levels }) ≡ copy_of (Update s kind mask levels ∷ log) s =
        named_slot log (Update s kind mask levels) (Some c) h tt in
        let was_fit = fits s c h in
        let same : c.kind ≡ kind = kind_is s c.kind kind f in
        let whole : mask ≡ mask / 2 ^ 0 = omega arith in
        let mine : AreLevels (chosen (mask / 2 ^ 0) (widths kinds c.kind)) levels =
        subst (λ n. AreLevels (chosen n (widths kinds c.kind)) levels) whole (subst (λ k. AreLevels (chosen mask (widths kinds k)) levels) (sym same) g.4) in
        record {
          fits = λ copy is.
              subst (IsCopy kinds) (given _ copy (made ∙ is))
              (record {
                range = record { kind = was_fit.range.kind; levels = merged_fits 0 mask (widths kinds c.kind) c.levels levels was_fit.range.levels mine };
                block = was_fit.block;
              });
          kept = λ was is a b.
              ap (λ (x : GhostCopy). x.kind) (sym (given _ is (made ∙ b))) ∙ ap (λ (x : GhostCopy). x.kind) (given c was (sym e ∙ a));
          below = (let lt = g.0 in omega (arith, lt));
        }

  -- ---- one item more

  module _ (done : List GhostItem) (item : GhostItem) (h : Behind done) (none : item_fault old held done item ≡ None) (ghost : IsGhost kinds item) where
    abbrev s : ℕ
    s = slot_named item

    split : (b : Bool) → (if b then Some (Twice s) else fault_of (old s) held item) ≡ None → (b ≡ false) × (fault_of (old s) held item ≡ None)
    split true e = absurd (cc)
    split false e = (refl, e)

    alone : (list_any (names s) done ≡ false) × (fault_of (old s) held item ≡ None)
    alone = split (list_any (names s) done) none

    named : Named s (copy_of (item ∷ taken done items) s)
    named = by_item (taken done items) h.fits item (old s) refl alone.1 ghost (h.others s alone.0)

    one_more : taken (done ++ item ∷ []) items ≡ item ∷ taken done items
    one_more = ap (λ (l : List GhostItem). l ++ items) (reverse-append done (item ∷ []))

    abbrev new : ℕ → Option GhostCopy
    new slot = copy_of (item ∷ taken done items) slot

    any_more : (slot : ℕ) → list_any (names slot) (done ++ item ∷ []) ≡ (list_any (names slot) done || (s == slot))
    any_more slot = list_any-append (names slot) done (item ∷ []) ∙ ap (λ b. list_any (names slot) done || b) (or_none (s == slot))
      where
        or_none : (b : Bool) → (b || false) ≡ b
        or_none true = refl
        or_none false = refl

    other : (slot : ℕ) → (s == slot) ≡ false → new slot ≡ now done slot
    other slot apart = other_slot (taken done items) item slot apart

    at_slot : (P : Option GhostCopy → ℕ → Type 0) → P (new s) s → ((slot : ℕ) → P (now done slot) slot) → (slot : ℕ) → P (new slot) slot
    at_slot P mine theirs slot = by (s == slot) refl
      where
        by : (b : Bool) → (s == slot) ≡ b → P (new slot) slot
        by true e = subst (λ n. P (new n) n) (eqb-true s slot e) mine
        by false e = subst (λ o. P o slot) (sym (other slot e)) (theirs slot)

    others_new : (slot : ℕ) → list_any (names slot) (done ++ item ∷ []) ≡ false → new slot ≡ old slot
    others_new slot e = by (list_any (names slot) done) (s == slot) refl refl (sym (any_more slot) ∙ e)
      where
        by : (a b : Bool) → list_any (names slot) done ≡ a → (s == slot) ≡ b → (a || b) ≡ false → new slot ≡ old slot
        by true b f g i = absurd (cc)
        by false true f g i = absurd (cc)
        by false false f g i = other slot g ∙ h.others slot f

    within_new : (slot : ℕ) → MAX_SLOTS ≤ slot → new slot ≡ None
    within_new slot le =
        let below = named.below in
        let apart : (s == slot) ≡ false = grind (arith, nat_tests) in
        other slot apart ∙ h.within slot le

    next : Behind (done ++ item ∷ [])
    next = record {
      others = λ slot e. ap (λ (l : List GhostItem). copy_of l slot) one_more ∙ others_new slot e;
      fits = λ slot copy e.
          at_slot (λ o n. (copy : GhostCopy) → o ≡ Some copy → IsCopy kinds copy) named.fits h.fits slot copy
          (sym (ap (λ (l : List GhostItem). copy_of l slot) one_more) ∙ e);
      within = λ slot le. ap (λ (l : List GhostItem). copy_of l slot) one_more ∙ within_new slot le;
      kept = λ slot was is e f.
          at_slot (λ o n. (was is : GhostCopy) → old n ≡ Some was → o ≡ Some is → is.kind ≡ was.kind) named.kept h.kept slot was is e
          (sym (ap (λ (l : List GhostItem). copy_of l slot) one_more) ∙ f);
    }

  all_items : (rest done : List GhostItem) → Behind done → first_fault (item_fault old held) done rest ≡ None → AllByRecursion (IsGhost kinds) rest → Behind (done ++ rest)
  all_items [] done h none ghosts = subst Behind (sym (append-nil done)) h
  all_items (item ∷ rest) done h none ghosts =
      let first = first_of (item_fault old held done item) _ none in
      let later = rest_of (item_fault old held done item) _ none in
      subst Behind (append_assoc done (item ∷ []) rest) (all_items rest (done ++ item ∷ []) (next done item h first ghosts.0) later ghosts.1)

  pub taken_all : (ghosts : List GhostItem) → ((slot : ℕ) (copy : GhostCopy) → old slot ≡ Some copy → IsCopy kinds copy)
      → ((slot : ℕ) → MAX_SLOTS ≤ slot → old slot ≡ None) → first_fault (item_fault old held) [] ghosts ≡ None → AllByRecursion (IsGhost kinds) ghosts
      → IsChange kinds old (λ slot. copy_of (taken ghosts items) slot)
  taken_all ghosts fits within none all =
      let nothing : Behind [] = record {
        others = λ slot e. refl;
        fits = fits;
        within = within;
        kept = λ slot was is e f. ap (λ (x : GhostCopy). x.kind) (given is was (sym f ∙ e));
      } in
      let h = all_items ghosts [] nothing none all in
      record { fits = h.fits; within = h.within; kept = h.kept }
