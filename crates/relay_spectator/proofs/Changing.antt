-- What a relay finds of a packet's changes once is what each spectator is told of them.
use Rattle.std.proofs.Common.{◌≡◌, ◌∙◌, ℕ, ◌<◌, ◌&&◌, Bool, true, false, not, List, [], ◌∷◌, ◌++◌, length, Option, Some, None, if◌then◌else◌, is_some, refl, sym, ap, arith}
use Rattle.std.specs.List.{filter_map, flat_map, cons_option}
use Rattle.std.specs.Option.{option_and_then, option_map}
use Rattle.std.proofs.lemmas.List.Elements.{filter_map-append}
use Rattle.tn_types.specs.declared.limits.TheConstants.{MAX_SLOTS}
use Rattle.quantised_fields.specs.declared.kind.Kind.{Kind}
use Rattle.wire_format.specs.declared.server.ServerPacket.{ServerPacket}
use Rattle.ghost_model.specs.Words.{upto}
use Rattle.ghost_client.specs.declared.copy.GhostCopy.{GhostCopy}
use Rattle.own_lists.specs.pair_core.stream_manager.Limits.{Terms}
use Rattle.own_lists.specs.Own.{OwnWrite}
use Rattle.own_lists.specs.Conditions.{AreOwn}
use Rattle.own_lists.proofs.ScanChanges.{has}
use Rattle.relay_model.specs.Watching.{WatchEvent, Took, Watched, left_watched, watched, copy_at}
use Rattle.relay_model.specs.Items.{shown_at, hidden_of, is_changed, write_of, writes_between, writes_of, hide_item, write_item, items_of}
use Rattle.relay_model.proofs.Mapped.{some_is, has_from, has_to, has_upto}
use Rattle.relay_model.proofs.Following.{Holds as HoldsOf, follow, written_holds}
use Rattle.relay_board.specs.Changes.{killed_at, killed_between, change_of, changes_in, changed_between}
use Rattle.relay_spectator.specs.Watches.{period_at, write_at}
use Rattle.relay_spectator.specs.Spectators.{AreMet}

-- ---- lists that partial functions make

mapped_twice : {X Y Z : Type 0} (f : Y → Option Z) (g : X → Option Y) (xs : List X)
    → filter_map f (filter_map g xs) ≡ filter_map (λ x. option_and_then f (g x)) xs
mapped_twice f g [] = refl
mapped_twice {X} {Y} {Z} f g (x ∷ xs) = by (g x) (mapped_twice f g xs)
  where
    both : X → Option Z
    both y = option_and_then f (g y)

    by : (o : Option Y) → filter_map f (filter_map g xs) ≡ filter_map (λ y. option_and_then f (g y)) xs
        → filter_map f (cons_option o (filter_map g xs)) ≡ cons_option (option_and_then f o) (filter_map (λ y. option_and_then f (g y)) xs)
    by None e = e
    by (Some y) e = ap (λ l. cons_option (f y) l) e

same_mapped : {X Y : Type 0} (f g : X → Option Y) → ((x : X) → f x ≡ g x) → (xs : List X) → filter_map f xs ≡ filter_map g xs
same_mapped {X} {Y} f g h xs = let e : f ≡ g = λ j x. h x j in ap (λ (k : X → Option Y). filter_map k xs) e

none_mapped : {X Y : Type 0} (f : X → Option Y) → ((x : X) → f x ≡ None) → (xs : List X) → filter_map f xs ≡ []
none_mapped f h [] = refl
none_mapped f h (x ∷ xs) = ap (λ o. cons_option o (filter_map f xs)) (h x) ∙ none_mapped f h xs

flat_mapped : {X Y Z : Type 0} (f : Y → Option Z) (g : X → List Y) (xs : List X)
    → filter_map f (flat_map g xs) ≡ flat_map (λ x. filter_map f (g x)) xs
flat_mapped f g [] = refl
flat_mapped f g (x ∷ xs) = filter_map-append f (g x) (flat_map g xs) ∙ ap (λ l. filter_map f (g x) ++ l) (flat_mapped f g xs)

-- ---- what is told of one packet

clash : (b : Bool) → b ≡ true → b ≡ false → ⊥
clash b e f = cc (e, f)

module _ (old new : ℕ → Option GhostCopy) (w : Watched) (seen : (slot n : ℕ) → w.period slot ≡ Some n → is_some (old slot) ≡ true)
    (periods : List (Option ℕ)) (same : (slot : ℕ) → period_at periods slot ≡ w.period slot) where
  -- ---- what ends

  ends_at : (slot : ℕ) → option_and_then w.period (killed_at old new slot) ≡ (if is_some (new slot) then None else w.period slot)
  ends_at slot = by (w.period slot) refl (is_some (old slot)) refl (is_some (new slot))
    where
      by : (p : Option ℕ) → w.period slot ≡ p → (a : Bool) → is_some (old slot) ≡ a → (b : Bool)
          → option_and_then w.period (if a && not b then Some slot else None) ≡ (if b then None else w.period slot)
      by None e true f true = refl
      by None e true f false = refl
      by None e false f true = refl
      by None e false f false = sym e
      by (Some n) e true f true = refl
      by (Some n) e true f false = refl
      by (Some n) e false f true = refl
      by (Some n) e false f false = absurd (clash (is_some (old slot)) (seen slot n e) f)

  pub hides_are : filter_map (period_at periods) (killed_between old new) ≡ hidden_of new w
  hides_are =
      same_mapped (period_at periods) w.period same (killed_between old new)
      ∙ mapped_twice w.period (killed_at old new) (upto MAX_SLOTS)
      ∙ same_mapped (λ slot. option_and_then w.period (killed_at old new slot)) (λ slot. if is_some (new slot) then None else w.period slot) ends_at (upto MAX_SLOTS)

  -- ---- what is watched no more

  killed_is : (slot x : ℕ) → killed_at old new x ≡ Some slot → (x ≡ slot) × (is_some (new x) ≡ false)
  killed_is slot x = by (is_some (old x)) (is_some (new x)) refl
    where
      by : (a b : Bool) → is_some (new x) ≡ b → (if a && not b then Some x else None) ≡ Some slot → (x ≡ slot) × (is_some (new x) ≡ false)
      by true true e f = absurd (cc)
      by true false e f = (some_is x slot f, e)
      by false true e f = absurd (cc)
      by false false e f = absurd (cc)

  among : (slot n : ℕ) → w.period slot ≡ Some n → slot < MAX_SLOTS → has slot (killed_between old new) ≡ not (is_some (new slot))
  among slot n watches below = by (is_some (new slot)) refl (has slot (killed_between old new)) refl
    where
      by : (b : Bool) → is_some (new slot) ≡ b → (c : Bool) → has slot (killed_between old new) ≡ c → has slot (killed_between old new) ≡ not (is_some (new slot))
      by true e true f =
          let from = has_from (killed_at old new) slot (upto MAX_SLOTS) f in
          let is = killed_is slot from.0 from.1 in
          absurd (clash (is_some (new slot)) e (ap (λ (s : ℕ). is_some (new s)) (sym is.0) ∙ is.1))
      by true e false f = f ∙ ap not (sym e)
      by false e c f =
          let killed : killed_at old new slot ≡ Some slot = ap (λ (a : Bool). if a && not (is_some (new slot)) then Some slot else None) (seen slot n watches) ∙ ap (λ (b : Bool). if true && not b then Some slot else None) e in
          has_to (killed_at old new) slot slot (upto MAX_SLOTS) killed (has_upto slot MAX_SLOTS below) ∙ ap not (sym e)

  pub left_at : ((slot n : ℕ) → w.period slot ≡ Some n → slot < MAX_SLOTS) → (slot : ℕ)
      → (if has slot (killed_between old new) then None else period_at periods slot) ≡ (left_watched new w).period slot
  left_at below slot = by (w.period slot) refl
    where
      neither : (c d : Bool) (p q : Option ℕ) → p ≡ None → q ≡ None → (if c then None else p) ≡ (if d then q else None)
      neither true true p q e f = sym f
      neither true false p q e f = refl
      neither false true p q e f = e ∙ sym f
      neither false false p q e f = e

      either : (c d : Bool) (p q : Option ℕ) → c ≡ not d → p ≡ q → (if c then None else p) ≡ (if d then q else None)
      either true true p q e f = absurd (cc)
      either true false p q e f = refl
      either false true p q e f = f
      either false false p q e f = absurd (cc)

      by : (o : Option ℕ) → w.period slot ≡ o → (if has slot (killed_between old new) then None else period_at periods slot) ≡ (if is_some (new slot) then w.period slot else None)
      by None e = neither (has slot (killed_between old new)) (is_some (new slot)) (period_at periods slot) (w.period slot) (same slot ∙ e) e
      by (Some n) e = either (has slot (killed_between old new)) (is_some (new slot)) (period_at periods slot) (w.period slot) (among slot n e (below slot n e)) (same slot)

  -- ---- what is written

  module _ (kinds : List Kind) where
    field_write : (slot n : ℕ) (a b : GhostCopy) → w.period slot ≡ Some n → (f : ℕ)
        → option_and_then (write_at periods) (change_of kinds slot a b f) ≡ write_of kinds n a b f
    field_write slot n a b e f = by (is_changed a b f)
      where
        by : (c : Bool) → option_and_then (write_at periods) (if c then Some (record { slot = slot; field = f; value = shown_at kinds b f }) else None)
            ≡ (if c then Some (record { n = n; field = f; value = shown_at kinds b f }) else None)
        by true = ap (option_map (λ m. record { n = m; field = f; value = shown_at kinds b f })) (same slot ∙ e)
        by false = refl

    no_write : (slot : ℕ) (a b : GhostCopy) → w.period slot ≡ None → (f : ℕ) → option_and_then (write_at periods) (change_of kinds slot a b f) ≡ None
    no_write slot a b e f = by (is_changed a b f)
      where
        by : (c : Bool) → option_and_then (write_at periods) (if c then Some (record { slot = slot; field = f; value = shown_at kinds b f }) else None) ≡ None
        by true = ap (option_map (λ m. record { n = m; field = f; value = shown_at kinds b f })) (same slot ∙ e)
        by false = refl

    slot_writes : (slot : ℕ) → filter_map (write_at periods) (changes_in kinds slot (old slot) (new slot)) ≡ writes_between kinds (w.period slot) (old slot) (new slot)
    slot_writes slot = by (w.period slot) refl (old slot) (new slot)
      where
        by : (p : Option ℕ) → w.period slot ≡ p → (o q : Option GhostCopy) → filter_map (write_at periods) (changes_in kinds slot o q) ≡ writes_between kinds p o q
        by None e None q = refl
        by None e (Some a) None = refl
        by None e (Some a) (Some b) =
            mapped_twice (write_at periods) (change_of kinds slot a b) (upto (length b.levels))
            ∙ none_mapped (λ f. option_and_then (write_at periods) (change_of kinds slot a b f)) (no_write slot a b e) (upto (length b.levels))
        by (Some n) e None q = refl
        by (Some n) e (Some a) None = refl
        by (Some n) e (Some a) (Some b) =
            mapped_twice (write_at periods) (change_of kinds slot a b) (upto (length b.levels))
            ∙ same_mapped (λ f. option_and_then (write_at periods) (change_of kinds slot a b f)) (write_of kinds n a b) (field_write slot n a b e) (upto (length b.levels))

    pub writes_are : filter_map (write_at periods) (changed_between kinds old new) ≡ writes_of kinds w old new
    writes_are =
        let each : (λ slot. filter_map (write_at periods) (changes_in kinds slot (old slot) (new slot))) ≡ (λ slot. writes_between kinds (w.period slot) (old slot) (new slot)) = λ j slot. slot_writes slot j in
        flat_mapped (write_at periods) (λ slot. changes_in kinds slot (old slot) (new slot)) (upto MAX_SLOTS)
        ∙ ap (λ (g : ℕ → List OwnWrite). flat_map g (upto MAX_SLOTS)) each

-- ---- what may follow

module _ (t : Terms) (p : ServerPacket) (events : List WatchEvent) (met : AreMet t (Took p ∷ events)) where
  holds_before : HoldsOf t met.table (watched events) (copy_at events) (items_of t events)
  holds_before = follow t met.table events met.copies.1 met.own (let few = met.few in omega (arith, few))

  pub own_both : AreOwn t (write_item t.kinds p events ∷ hide_item p events ∷ items_of t events)
  own_both = (written_holds t met.table (items_of t events) (watched events) (copy_at events) (copy_at (Took p ∷ events)) holds_before met.copies.0).own

  pub watched_is_there : (slot n : ℕ) → (watched events).period slot ≡ Some n → is_some (copy_at events slot) ≡ true
  watched_is_there slot n e = ap (λ (o : Option GhostCopy). is_some o) (holds_before.watches.each slot n e).there

  pub watched_below : (slot n : ℕ) → (watched events).period slot ≡ Some n → slot < MAX_SLOTS
  watched_below slot n e = (holds_before.watches.each slot n e).below
