-- A packet that is newer than what came finds what it speaks of.
use Rattle.std.proofs.Common.{◌≡◌, ℕ, ◌<◌, cond, List, [], ◌∷◌, ◌∙◌, length, Some, None, Option, refl, sym, ap, subst, arith, eqb, count_by}
use Rattle.std.specs.Prelude.{IsSome}
use Rattle.std.specs.List.{AllByRecursion}
use Rattle.std.proofs.lemmas.List.Sums.{sum_by-cons}
use Rattle.tn_types.specs.declared.choices.Op.{Op}
use Rattle.tn_types.specs.declared.choices.Op.TheVariants as op
use Rattle.tn_types.specs.declared.choices.Choice.{Choice}
use Rattle.wire_format.specs.declared.ghosts.GhostItem.{GhostItem}
use Rattle.wire_format.specs.declared.ghosts.GhostItem.TheVariants.{Kill, Create, Update}
use Rattle.wire_format.specs.declared.server.ServerBody.{ServerBody}
use Rattle.wire_format.specs.Ghosts.{slot_named}
use Rattle.ghost_model.specs.Scope.{Traits, traits}
use Rattle.ghost_model.specs.Ghosts.{scope_log}
use Rattle.ghost_model.specs.Legal.{IsLegal}
use Rattle.stream_manager.specs.ghost_masks.Plan.{sizes, fields_of}
use Rattle.ghost_client.specs.declared.copy.GhostCopy.{GhostCopy}
use Rattle.ghost_client.specs.Copies.{copy_of}
use Rattle.ghost_pair.specs.Copies.{Item, Copy, choices, IsOf, Meets, copies_of}
use Rattle.ghost_pair.specs.Copies as pair
use Rattle.ghost_pair.proofs.Client.{FindsEach}
use Rattle.ghost_pair.proofs.Joined.{found_at}
use Rattle.ghost_pair.proofs.Found.{all_found}
use Rattle.stream_manager.specs.Limits.{Terms}
use Rattle.stream_manager.specs.Server.{ServerEvent, ghost_log}
use Rattle.stream_manager.specs.Client.{ClientEvent, ghosts_came}
use Rattle.ghost_logs.specs.Sent.{sent_items, horizon_at, processed_at}
use Rattle.ghost_logs.specs.Ends.{AreJoined}
use Rattle.ghost_logs.specs.Copies.{Finds, FitsCopies, PacketsFit}
use Rattle.ghost_logs.proofs.Alike.{Spells, AreSpelled, Alike, AreAlike, slot-is}
use Rattle.ghost_logs.proofs.Kept.{WasSent, was-sent}
use Rattle.ghost_logs.proofs.Came.{all-joined, all-up, copies-real}

none-some : {X : Type 0} (x : X) → None ≡ Some x → ⊥
none-some x h = cc

module _ (of : ℕ → Traits) (width : ℕ → ℕ) where
  some-there : (o : Option GhostCopy) (p : Option Copy) (n : ℕ) → Alike of width o p → IsOf n p → IsSome o
  some-there (Some d) p n a m = refl
  some-there None (Some x) n a m = absurd a
  some-there None None n a m = absurd (none-some m.0 m.1)

  pub kind-there : (o : Option GhostCopy) (p : Option Copy) (n kind : ℕ) → kind ≡ (of n).kind → Alike of width o p → IsOf n p → (d : GhostCopy) × (o ≡ Some d) × (d.kind ≡ kind)
  kind-there (Some d) (Some x) n kind e a m =
      let same : x.period ≡ n = ap (λ (c : Copy). c.period) (unsome x m.0 m.1) ∙ m.2 in
      (d, refl, a.kind ∙ ap (λ k. (of k).kind) same ∙ sym e)
    where
      unsome : (a b : Copy) → Some a ≡ Some b → a ≡ b
      unsome a b h = cc
  kind-there (Some d) None n kind e a m = absurd a
  kind-there None (Some x) n kind e a m = absurd a
  kind-there None None n kind e a m = absurd (none-some m.0 m.1)

  pub none-there : (o : Option GhostCopy) (p : Option Copy) → Alike of width o p → p ≡ None → o ≡ None
  none-there None p a e = refl
  none-there (Some d) None a e = absurd a
  none-there (Some d) (Some x) a e = absurd (none-some x (sym e))

  one-finds : (came : List GhostItem) (copies : ℕ → Option Copy) (i : Item) (k : Op) (x : GhostItem) → AreAlike of width came copies → Spells of width k i x → Meets k i.choice.n (copies i.choice.slot) → Finds came x
  one-finds came copies i op.Kill (Kill slot) a sp m = some-there (copy_of came slot) (copies i.choice.slot) i.choice.n (subst (λ s. Alike of width (copy_of came slot) (copies s)) sp (a slot)) m
  one-finds came copies i op.Create (Create slot kind block levels) a sp m = none-there (copy_of came slot) (copies i.choice.slot) (subst (λ s. Alike of width (copy_of came slot) (copies s)) sp.0 (a slot)) m
  one-finds came copies i op.Update (Update slot kind mask levels) a sp m = kind-there (copy_of came slot) (copies i.choice.slot) i.choice.n kind sp.1 (subst (λ s. Alike of width (copy_of came slot) (copies s)) sp.0 (a slot)) m
  one-finds came copies i k x a sp m = absurd sp

  all-find : (came : List GhostItem) (copies : ℕ → Option Copy) (items : List Item) (xs : List GhostItem) → AreAlike of width came copies → AreSpelled of width items xs → AllByRecursion (pair.Finds copies) items → AllByRecursion (Finds came) xs
  all-find came copies [] [] a sp m = tt
  all-find came copies [] (x ∷ xs) a sp m = absurd sp
  all-find came copies (i ∷ items) [] a sp m = absurd sp
  all-find came copies (i ∷ items) (x ∷ xs) a sp m = (one-finds came copies i i.choice.op x a sp.0 m.0, all-find came copies items xs a sp.1 m.1)

  -- a slot is named as often as it was chosen
  same-names : (s : ℕ) (items : List Item) (xs : List GhostItem) → AreSpelled of width items xs → count_by (λ (x : GhostItem). eqb (slot_named x) s) xs ≡ count_by (λ (c : Choice). eqb c.slot s) (choices items)
  same-names s [] [] sp = refl
  same-names s [] (x ∷ xs) sp = absurd sp
  same-names s (i ∷ items) [] sp = absurd sp
  same-names s (i ∷ items) (x ∷ xs) sp =
      let here : ◌≡◌ {A = ℕ} (cond (eqb (slot_named x) s) 1 0) (cond (eqb i.choice.slot s) 1 0) = ap (λ t. cond (eqb t s) 1 0) (slot-is of width i.choice.op i x sp.0) in
      omega (arith, here, sum_by-cons (λ (x : GhostItem). cond (eqb (slot_named x) s) 1 0) x xs, sum_by-cons (λ (c : Choice). cond (eqb c.slot s) 1 0) i.choice (choices items), same-names s items xs sp.1)

module _ (t : Terms) (s : List ServerEvent) (c : List ClientEvent) (legal : IsLegal (sizes t.kinds) (ghost_log s)) (j : AreJoined t s c) where
  newer : (p : ServerBody) → WasSent t.kinds s p → horizon_at c < p.head.seq → FitsCopies c p
  newer p w above =
      let found = found_at (processed_at c) 1 (λ slot. None) (sent_items s) w.index w.items (all-joined t s c legal j).found w.at in
      let finds : FindsEach w.items (copies_of (processed_at c) (sent_items s)) = subst (FindsEach w.items) (all-up t s c legal j w.index (omega (arith, w.number))) found.0 in
      record {
        each = all-find (traits (scope_log (ghost_log s))) (λ k. length (fields_of t.kinds k)) (ghosts_came c) (copies_of (processed_at c) (sent_items s)) w.items p.ghosts (copies-real t s c legal j) w.spelled (all_found w.items (copies_of (processed_at c) (sent_items s)) finds found.1);
        once = λ slot. omega (arith, same-names (traits (scope_log (ghost_log s))) (λ k. length (fields_of t.kinds k)) slot w.items p.ghosts w.spelled, found.1 slot);
      }

  pub packets-fit : PacketsFit s c
  packets-fit p at above = newer p (was-sent t s legal j.made p at) above
