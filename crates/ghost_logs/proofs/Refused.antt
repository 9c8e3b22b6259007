-- The ghosts of a packet that is newer than what came are not refused, and the block of each copy is held.
use Rattle.std.proofs.Common.{◌≡◌, ◌≢◌, ℕ, ◌<◌, Bool, true, false, cond, ◌||◌, ◌==◌, List, [], ◌∷◌, ◌++◌, ◌∙◌, length, Some, None, Option, refl, sym, ap, subst, arith}
use Rattle.std.specs.Prelude.{is_some, reverse}
use Rattle.std.specs.Option.{option_or}
use Rattle.std.specs.List.{AllByRecursion, list_any}
use Rattle.std.proofs.lemmas.Bool.Decides.{nat_tests}
use Rattle.std.proofs.lemmas.List.Folds.{list_any-append}
use Rattle.tn_types.specs.BitWords.{has_bit}
use Rattle.tn_types.specs.Checks.{first_fault}
use Rattle.tn_types.specs.declared.choices.Op.{Op}
use Rattle.tn_types.specs.declared.choices.Op.TheVariants as op
use Rattle.wire_format.specs.declared.blocks.BlockItem.{BlockItem}
use Rattle.wire_format.specs.declared.ghosts.GhostItem.{GhostItem}
use Rattle.wire_format.specs.declared.ghosts.GhostItem.TheVariants.{Kill, Create, Update}
use Rattle.wire_format.specs.declared.server.ServerBody.{ServerBody}
use Rattle.wire_format.specs.Ghosts.{slot_named}
use Rattle.stream_manager.specs.datablocks.Holding.{held_of}
use Rattle.ghost_model.specs.Scope.{Traits, traits}
use Rattle.ghost_model.specs.Ghosts.{scope_log}
use Rattle.ghost_model.specs.Legal.{IsLegal}
use Rattle.ghost_model.specs.Legal as model
use Rattle.ghost_model.proofs.Known.{known}
use Rattle.ghost_model.proofs.Sorted.{once_rest}
use Rattle.ghost_model.proofs.Steps.{other_test}
use Rattle.stream_manager.specs.ghost_masks.Plan.{sizes, fields_of}
use Rattle.ghost_client.specs.declared.copy.GhostCopy.{GhostCopy}
use Rattle.ghost_client.specs.declared.fault.GhostFault.TheVariants.{BlockMissing, KindDiffers, Twice}
use Rattle.ghost_client.specs.Fields.{names}
use Rattle.ghost_client.specs.Copies.{copy_of}
use Rattle.ghost_client.specs.Faults.{fault_of, item_fault}
use Rattle.ghost_pair.specs.Copies.{Item, Copy, choices, IsOf, Meets, copies_of}
use Rattle.ghost_pair.specs.Copies as pair
use Rattle.ghost_pair.proofs.Client.{FindsEach}
use Rattle.ghost_pair.proofs.Joined.{found_at}
use Rattle.ghost_pair.proofs.Found.{all_found, own_slots}
use Rattle.ghost_pair.proofs.Created.{created}
use Rattle.stream_manager.specs.Limits.{Terms}
use Rattle.stream_manager.specs.Server.{ServerEvent, ghost_log}
use Rattle.stream_manager.specs.Client.{ClientEvent, ghosts_came, blocks_came, held_word, control_fault, ghosts_refused}
use Rattle.ghost_logs.specs.Sent.{sent_items, horizon_at, processed_at}
use Rattle.ghost_logs.specs.Ends.{AreJoined}
use Rattle.ghost_logs.specs.Blocks.{IsReceived, IsHeld, HoldsReceived, RefusesNoGhosts}
use Rattle.ghost_logs.proofs.Alike.{Spells, AreSpelled, Alike, AreAlike, slot-is}
use Rattle.ghost_logs.proofs.Blocks.{HasItsBlock, all-blocks, blocks-at, set-bit}
use Rattle.ghost_logs.proofs.Control.{IsControlled, controlled}
use Rattle.ghost_logs.proofs.Kept.{WasSent, was-sent}
use Rattle.ghost_logs.proofs.Came.{all-joined, all-up, copies-real}
use Rattle.ghost_logs.proofs.Fits.{kind-there, none-there}

-- ---- the client's copy where there is one

none-some : {X : Type 0} (x : X) → None ≡ Some x → ⊥
none-some x h = cc

module _ (of : ℕ → Traits) (width : ℕ → ℕ) where
  its-copy : (o : Option GhostCopy) (p : Option Copy) (x : Copy) → Alike of width o p → p ≡ Some x → (d : GhostCopy) × (o ≡ Some d)
  its-copy (Some d) p x a e = (d, refl)
  its-copy None (Some y) x a e = absurd a
  its-copy None None x a e = absurd (none-some x e)

  -- ---- the fault of one item

  module _ (came : List GhostItem) (copies : ℕ → Option Copy) (held : ℕ) (a : AreAlike of width came copies) where
    same-kind : (d : GhostCopy) (slot kind : ℕ) → d.kind ≡ kind → cond (d.kind == kind) None (Some (KindDiffers slot d.kind)) ≡ None
    same-kind d slot kind e = let t : (d.kind == kind) ≡ true = grind (arith, nat_tests) in ap (λ b. cond b None (Some (KindDiffers slot d.kind))) t

    one-fault : (i : Item) (k : Op) (x : GhostItem) → Spells of width k i x → Meets k i.choice.n (copies i.choice.slot) → (k ≡ op.Create → has_bit held (of i.choice.n).block ≡ true) → fault_of (copy_of came (slot_named x)) held x ≡ None
    one-fault i op.Kill (Kill slot) sp m b =
        let c = its-copy (copy_of came slot) (copies i.choice.slot) m.0 (subst (λ s. Alike of width (copy_of came slot) (copies s)) sp (a slot)) m.1 in
        ap (λ o. fault_of o held (Kill slot)) c.1
    one-fault i op.Create (Create slot kind block levels) sp m b =
        ap (λ o. fault_of o held (Create slot kind block levels)) (none-there of width (copy_of came slot) (copies i.choice.slot) (subst (λ s. Alike of width (copy_of came slot) (copies s)) sp.0 (a slot)) m)
        ∙ ap (λ t. cond t None (Some (BlockMissing slot block))) (ap (has_bit held) sp.2 ∙ b refl)
    one-fault i op.Update (Update slot kind mask levels) sp m b =
        let c = kind-there of width (copy_of came slot) (copies i.choice.slot) i.choice.n kind sp.1 (subst (λ s. Alike of width (copy_of came slot) (copies s)) sp.0 (a slot)) m in
        ap (λ o. fault_of o held (Update slot kind mask levels)) c.1 ∙ same-kind c.0 slot kind c.2
    one-fault i k x sp m b = absurd sp

    -- none of these names the slot
    abbrev pub IsNew : List GhostItem → Item → Type 0
    IsNew before i = list_any (names i.choice.slot) before ≡ false

    still-new : (i : Item) (x : GhostItem) (before : List GhostItem) → slot_named x ≡ i.choice.slot → (items : List Item) → AllByRecursion (λ (y : Item). i.choice.slot ≢ y.choice.slot) items → AllByRecursion (IsNew before) items → AllByRecursion (IsNew (before ++ x ∷ [])) items
    still-new i x before at [] other new = tt
    still-new i x before at (y ∷ items) other new = (
      list_any-append (names y.choice.slot) before (x ∷ []) ∙ ap (λ b. b || (names y.choice.slot x || false)) new.0
          ∙ ap (λ b. b || false) (other_test (slot_named x) y.choice.slot (λ e. other.0 (sym at ∙ e))),
      still-new i x before at items other.1 new.1,
    )

    pub no-faults : (items : List Item) (xs before : List GhostItem) → AreSpelled of width items xs → AllByRecursion (pair.Finds copies) items → AllByRecursion (λ (i : Item). i.choice.op ≡ op.Create → has_bit held (of i.choice.n).block ≡ true) items
        → model.NameOnce (choices items) → AllByRecursion (IsNew before) items → first_fault (item_fault (copy_of came) held) before xs ≡ None
    no-faults [] [] before sp m b once new = refl
    no-faults [] (x ∷ xs) before sp m b once new = absurd sp
    no-faults (i ∷ items) [] before sp m b once new = absurd sp
    no-faults (i ∷ items) (x ∷ xs) before sp m b once new =
        let at : slot_named x ≡ i.choice.slot = slot-is of width i.choice.op i x sp.0 in
        let fresh : list_any (names (slot_named x)) before ≡ false = ap (λ s. list_any (names s) before) at ∙ new.0 in
        let none : item_fault (copy_of came) held before x ≡ None = ap (λ b. cond b (Some (Twice (slot_named x))) (fault_of (copy_of came (slot_named x)) held x)) fresh ∙ one-fault i i.choice.op x sp.0 m.0 b.0 in
        ap (λ o. option_or o (first_fault (item_fault (copy_of came) held) (before ++ x ∷ []) xs)) none
        ∙ no-faults items xs (before ++ x ∷ []) sp.1 m.1 b.1 (once_rest i.choice (choices items) once) (still-new i x before at items (own_slots i items once) new.1)

all-new : (items : List Item) → AllByRecursion (λ (i : Item). list_any (names i.choice.slot) [] ≡ false) items
all-new [] = tt
all-new (i ∷ items) = (refl, all-new items)

-- ---- blocks

held-later : (xs came : List BlockItem) (b : ℕ) → is_some (held_of b came) ≡ true → is_some (held_of b (xs ++ came)) ≡ true
held-later [] came b h = h
held-later (x ∷ xs) came b h = go (x.number == b) (held-later xs came b h)
  where
    go : (same : Bool) → is_some (held_of b (xs ++ came)) ≡ true → is_some (cond same (Some x.bytes) (held_of b (xs ++ came))) ≡ true
    go true rest = refl
    go false rest = rest

module _ (t : Terms) (s : List ServerEvent) (c : List ClientEvent) (legal : IsLegal (sizes t.kinds) (ghost_log s)) (j : AreJoined t s c) (holds : HoldsReceived s c) where
  abbrev Of : ℕ → Traits
  Of = traits (scope_log (ghost_log s))

  abbrev Width : ℕ → ℕ
  Width k = length (fields_of t.kinds k)

  -- the word of the blocks that are held when the packet comes
  abbrev Word : ServerBody → ℕ
  Word p = held_word (reverse p.blocks ++ blocks_came c)

  held-bits : (p : ServerBody) (items : List Item) → AllByRecursion (HasItsBlock s) items → AllByRecursion (λ (i : Item). i.choice.op ≡ op.Create → has_bit (Word p) (Of i.choice.n).block ≡ true) items
  held-bits p [] all = tt
  held-bits p (i ∷ items) all = (
    λ e. set-bit (λ b. is_some (held_of b (reverse p.blocks ++ blocks_came c))) 64 (Of i.choice.n).block (known (sizes t.kinds) (ghost_log s) legal i.choice.n all.0.0).block
        (held-later (reverse p.blocks) (blocks_came c) (Of i.choice.n).block (holds (Of i.choice.n).block (all.0.1 e))),
    held-bits p items all.1,
  )

  no-ghost-fault : (p : ServerBody) (w : WasSent t.kinds s p) → horizon_at c < p.head.seq → first_fault (item_fault (copy_of (ghosts_came c)) (Word p)) [] p.ghosts ≡ None
  no-ghost-fault p w above =
      let found = found_at (processed_at c) 1 (λ slot. None) (sent_items s) w.index w.items (all-joined t s c legal j).found w.at in
      let finds : FindsEach w.items (copies_of (processed_at c) (sent_items s)) = subst (FindsEach w.items) (all-up t s c legal j w.index (omega (arith, w.number))) found.0 in
      no-faults Of Width (ghosts_came c) (copies_of (processed_at c) (sent_items s)) (Word p) (copies-real t s c legal j) w.items p.ghosts [] w.spelled
      (all_found w.items (copies_of (processed_at c) (sent_items s)) finds found.1)
      (held-bits p w.items (blocks-at s (sent_items s) w.index w.items (all-blocks t s legal j.made) w.at)) found.1 (all-new w.items)

  no-control-fault : (p : ServerBody) (k : IsControlled (processed_at c) s p) → horizon_at c < p.head.seq → control_fault (copy_of (ghosts_came c)) p.control ≡ None
  no-control-fault p k above = go p.control refl
    where
      go : (o : Option ℕ) → p.control ≡ o → control_fault (copy_of (ghosts_came c)) o ≡ None
      go None e = refl
      go (Some slot) e =
          let x = k.there slot e in
          let real = its-copy Of Width (copy_of (ghosts_came c) slot) (copies_of (processed_at c) (sent_items s) slot) x.0 (copies-real t s c legal j slot)
          (sym (ap (λ (f : ℕ → Option Copy). f slot) (all-up t s c legal j k.index (omega (arith, k.number)))) ∙ x.1) in
          ap (λ o. control_fault (λ n. o) (Some slot)) real.1

  pub refuses-no-ghosts : RefusesNoGhosts s c
  refuses-no-ghosts p at above =
      ap ghosts_refused (ap (λ o. option_or o (control_fault (copy_of (ghosts_came c)) p.control)) (no-ghost-fault p (was-sent t s legal j.made p at) above)
      ∙ no-control-fault p (controlled t (processed_at c) s legal j.made j.judged p at) above)

  -- ---- the block of a copy

  block-of : (items : List Item) → AllByRecursion (HasItsBlock s) items → AllByRecursion (λ (i : Item). i.choice.op ≡ op.Create → IsReceived s (Of i.choice.n).block) items
  block-of [] all = tt
  block-of (i ∷ items) all = (all.0.1, block-of items all.1)

  blocks-of : (ps : List (List Item)) → AllByRecursion (AllByRecursion (HasItsBlock s)) ps → AllByRecursion (AllByRecursion (λ (i : Item). i.choice.op ≡ op.Create → IsReceived s (Of i.choice.n).block)) ps
  blocks-of [] all = tt
  blocks-of (p ∷ ps) all = (block-of p all.0, blocks-of ps all.1)

  pub block-held : (slot : ℕ) (d : GhostCopy) → copy_of (ghosts_came c) slot ≡ Some d → IsHeld c d.block
  block-held slot d e = go (copies_of (processed_at c) (sent_items s) slot) refl (subst (λ o. Alike Of Width o (copies_of (processed_at c) (sent_items s) slot)) e (copies-real t s c legal j slot))
    where
      go : (o : Option Copy) → copies_of (processed_at c) (sent_items s) slot ≡ o → Alike Of Width (Some d) o → IsHeld c d.block
      go None is a = absurd a
      go (Some x) is a =
          subst (IsHeld c) (sym a.block)
          (holds (Of x.period).block
          (created (λ n. IsReceived s (Of n).block) (processed_at c) 1 (λ slot. None) (sent_items s) (blocks-of (sent_items s) (all-blocks t s legal j.made)) (λ s c e. absurd (cc)) slot x is))
