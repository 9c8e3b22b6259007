-- What is kept of a viewer: the creates of its copies, the copies that such creates make, and that a viewer which is made again
-- stands for the same packets.
use Rattle.std.proofs.Common.{◌≡◌, ℕ, ◌+◌, ◌<◌, ◌≤◌, ◌^◌, ◌==◌, Bool, true, false, if◌then◌else◌, List, [], ◌∷◌, ◌++◌, length, take, drop, get_or, Option, Some, None, inl, inr, refl, sym, ◌∙◌, ap, subst, arith, eqb}
use Rattle.std.specs.Prelude.{reverse}
use Rattle.std.specs.List.{AllByRecursion}
use Rattle.std.specs.Option.{option_map, option_map_or, option_or}
use Rattle.std.proofs.lemmas.List.{reverse-append, take-append-drop, take_more}
use Rattle.std.proofs.lemmas.Bool.{cases_lt}
use Rattle.std.proofs.lemmas.Bool.Decides.{nat_tests}
use Rattle.std.proofs.lemmas.Nat.Bits.{bit_at_ones}
use Rattle.tn_types.specs.BitWords.{has_bit}
use Rattle.tn_types.specs.Checks.{first_fault}
use Rattle.quantised_fields.specs.declared.kind.Kind.{Kind}
use Rattle.wire_format.specs.declared.ghosts.GhostItem.{GhostItem}
use Rattle.wire_format.specs.declared.ghosts.GhostItem.TheVariants.{Kill, Create, Update}
use Rattle.wire_format.specs.Ghosts.{IsGhostInRange}
use Rattle.datablocks.specs.Holding.{StandsFor as BlocksStandFor}
use Rattle.event_manager.specs.ReceiverState.{ReceiverState}
use Rattle.event_manager.specs.ReceiverStands.{StandsFor as EventsStandFor}
use Rattle.ghost_client.specs.declared.copy.GhostCopy.{GhostCopy}
use Rattle.ghost_client.specs.declared.fault.GhostFault.{GhostFault}
use Rattle.ghost_client.specs.declared.fault.GhostFault.TheVariants.{BlockMissing}
use Rattle.ghost_client.specs.Fields.{names}
use Rattle.ghost_client.specs.Copies.{is_there, last_create, at_last_levels, copy_of}
use Rattle.ghost_client.specs.State.{copy_in}
use Rattle.ghost_client.specs.State as copies
use Rattle.ghost_client.specs.Faults.{fault_of, item_fault}
use Rattle.ghost_client.specs.StandsFor.{StandsFor as CopiesStandFor, taken}
use Rattle.ghost_client.proofs.After.{named_slot, other_slot}
use Rattle.stream_manager.specs.Packets.{blocks_seen, events_seen}
use Rattle.demo_view.specs.Stands.{ViewerState, AreSeen}
use Rattle.demo_view.specs.Keeping.{KeptState, AreCreates, Keeps, StandsLike}

-- ---- lists

all-append : {A : Type 0} (P : A → Type 0) (xs ys : List A) → AllByRecursion P xs → AllByRecursion P ys → AllByRecursion P (xs ++ ys)
all-append P [] ys h k = k
all-append P (x ∷ xs) ys h k = (h.0, all-append P xs ys h.1 k)

all-reverse : {A : Type 0} (P : A → Type 0) (xs : List A) → AllByRecursion P xs → AllByRecursion P (reverse xs)
all-reverse P [] h = tt
all-reverse {A} P (x ∷ xs) h =
    subst (λ (l : List A). AllByRecursion P l) (sym (reverse-append (x ∷ []) xs)) (all-append P (reverse xs) (x ∷ []) (all-reverse P xs h.1) (h.0, tt))

-- ---- copies of ghosts that came

pub none-seen : (c : copies.State) → CopiesStandFor c [] → AreSeen c
none-seen c s = record { came = []; stands = s; ranges = tt }

pub seen-more : (old new : copies.State) (list : List GhostItem) → AreSeen old → new.kinds ≡ old.kinds → AllByRecursion (IsGhostInRange old.kinds) list
    → ((items : List GhostItem) → CopiesStandFor old items → CopiesStandFor new (taken list items)) → AreSeen new
seen-more old new list seen same ranges takes = record {
  came = taken list seen.came;
  stands = takes seen.came seen.stands;
  ranges =
      subst (λ (kinds : List Kind). AllByRecursion (IsGhostInRange kinds) (taken list seen.came)) (sym same)
      (all-append (IsGhostInRange old.kinds) (reverse list) seen.came (all-reverse (IsGhostInRange old.kinds) list ranges) seen.ranges);
}

-- the block of a copy that was read
same-block : (a b : GhostCopy) → Some a ≡ Some b → a.block ≡ b.block
same-block a b e = ap (λ (o : Option GhostCopy). option_map_or (λ (c : GhostCopy). c.block) o 0) e

module _ (kinds : List Kind) (slot : ℕ) where
  made-small : (items : List GhostItem) (made : GhostCopy) → AllByRecursion (IsGhostInRange kinds) items → last_create items slot ≡ Some made → made.block < 2 ^ 6
  made-small [] made all e = cc
  made-small (Kill s ∷ items) made all e = made-small items made all.1 e
  made-small (Update s kind mask levels ∷ items) made all e = made-small items made all.1 e
  made-small (Create s kind block levels ∷ items) made all e = go (names slot (Create s kind block levels)) (made-small items made all.1) e
    where
      go : (b : Bool) → (last_create items slot ≡ Some made → made.block < 2 ^ 6)
          → option_or (if b then Some (record { kind = kind; block = block; levels = levels }) else None) (last_create items slot) ≡ Some made → made.block < 2 ^ 6
      go true rest h = let same : block ≡ made.block = same-block (record { kind = kind; block = block; levels = levels }) made h in subst (λ (n : ℕ). n < 2 ^ 6) same all.0.1
      go false rest h = rest h

  pub copy-small : (items : List GhostItem) (copy : GhostCopy) → AllByRecursion (IsGhostInRange kinds) items → copy_of items slot ≡ Some copy → copy.block < 2 ^ 6
  copy-small items copy all e = go (is_there items slot) (last_create items slot) refl e
    where
      go : (b : Bool) (o : Option GhostCopy) → last_create items slot ≡ o → (if b then option_map (at_last_levels items slot) o else None) ≡ Some copy → copy.block < 2 ^ 6
      go true (Some made) is h = let same : made.block ≡ copy.block = same-block (at_last_levels items slot made) copy h in subst (λ (n : ℕ). n < 2 ^ 6) same (made-small items made all is)
      go true None is h = cc
      go false o is h = cc

-- ---- creates of rising slots

-- below a slot is below each that lies above it
raised : (kinds : List Kind) (a b : ℕ) (creates : List GhostItem) → a ≤ b → AreCreates kinds a creates → AreCreates kinds b creates
raised kinds a b [] l are = tt
raised kinds a b (Kill slot ∷ creates) l are = absurd are
raised kinds a b (Create slot kind block levels ∷ creates) l are = (omega (arith, are.0, l), are.1, are.2)
raised kinds a b (Update slot kind mask levels ∷ creates) l are = absurd are

-- none of them is of a slot from there on
none-from : (kinds : List Kind) (below : ℕ) (creates : List GhostItem) (slot : ℕ) → AreCreates kinds below creates → below ≤ slot → copy_of creates slot ≡ None
none-from kinds below [] slot are l = refl
none-from kinds below (Kill s ∷ creates) slot are l = absurd are
none-from kinds below (Create s kind block levels ∷ creates) slot are l =
    let small : s < slot = omega (arith, are.0, l) in
    let apart : eqb s slot ≡ false = grind (arith, nat_tests) in
    other_slot creates (Create s kind block levels) slot apart ∙ none-from kinds s creates slot are.2 (omega arith)
none-from kinds below (Update s kind mask levels ∷ creates) slot are l = absurd are

pub creates-in-range : (kinds : List Kind) (below : ℕ) (creates : List GhostItem) → AreCreates kinds below creates → AllByRecursion (IsGhostInRange kinds) creates
creates-in-range kinds below [] are = tt
creates-in-range kinds below (Kill slot ∷ creates) are = absurd are
creates-in-range kinds below (Create slot kind block levels ∷ creates) are = (are.1, creates-in-range kinds slot creates are.2)
creates-in-range kinds below (Update slot kind mask levels ∷ creates) are = absurd are

-- those behind the first ones
behind : (kinds : List Kind) (below : ℕ) (xs ys : List GhostItem) → AreCreates kinds below (xs ++ ys) → (b : ℕ) × (b ≤ below) × AreCreates kinds b ys
behind kinds below [] ys are = (below, omega arith, are)
behind kinds below (Kill slot ∷ xs) ys are = absurd are
behind kinds below (Create slot kind block levels ∷ xs) ys are = let more = behind kinds slot xs ys are.2 in (more.0, omega (arith, more.1, are.0), more.2)
behind kinds below (Update slot kind mask levels ∷ xs) ys are = absurd are

-- ---- keeping: the copies below a slot, and what would create them

pub record AreKept (kinds : List Kind) (slots : List (Option GhostCopy)) (slot : ℕ) (creates : List GhostItem) : Type 0 where
  pub rising : AreCreates kinds slot creates
  pub same : (s : ℕ) → s < slot → copy_in slots s ≡ copy_of creates s

module _ (kinds : List Kind) (slots : List (Option GhostCopy)) (slot : ℕ) (creates : List GhostItem) (kept : AreKept kinds slots slot creates) where
  pub no-copy : copy_in slots slot ≡ None → AreKept kinds slots (slot + 1) creates
  no-copy none = record {
    rising = raised kinds slot (slot + 1) creates (omega arith) kept.rising;
    same = λ s l. elim (cases_lt s slot) [
      | inl less ↦ kept.same s less
      | inr more ↦ (let here : s ≡ slot = omega arith in
          ap (copy_in slots) here ∙ none ∙ sym (none-from kinds slot creates slot kept.rising (omega arith)) ∙ ap (copy_of creates) (sym here))
    ];
  }

  module _ (copy : GhostCopy) (is : copy_in slots slot ≡ Some copy) (range : IsGhostInRange kinds (Create slot copy.kind copy.block copy.levels)) where
    abbrev made : GhostItem
    made = Create slot copy.kind copy.block copy.levels

    pub one-copy : AreKept kinds slots (slot + 1) (made ∷ creates)
    one-copy = record {
      rising = (omega arith, range, kept.rising);
      same = λ s l. elim (cases_lt s slot) [
        | inl less ↦ (let apart : eqb slot s ≡ false = grind (arith, nat_tests) in kept.same s less ∙ sym (other_slot creates made s apart))
        | inr more ↦ (let here : s ≡ slot = omega arith in
            ap (copy_in slots) here ∙ is ∙ named_slot creates made (copy_of creates slot) refl tt ∙ ap (copy_of (made ∷ creates)) (sym here))
      ];
    }

-- what would create no copy below slot 0
pub none-kept : (kinds : List Kind) (slots : List (Option GhostCopy)) → AreKept kinds slots 0 []
none-kept kinds slots = record { rising = tt; same = λ s l. absurd (omega arith) }

-- one more at the end of a list, whose newest stands first
pub pushed-first : (xs : List GhostItem) (x : GhostItem) → reverse (xs ++ x ∷ []) ≡ x ∷ reverse xs
pushed-first xs x = reverse-append xs (x ∷ [])

-- ---- making copies again

all-held : (block : ℕ) → block < 2 ^ 6 → has_bit 18446744073709551615 block ≡ true
all-held block small = ap (λ (n : ℕ). n == 1) (bit_at_ones 64 block (omega (arith, small)))

-- a create of a slot above those that were created meets no fault
pub fits-copies : (kinds : List Kind) (below : ℕ) (item : GhostItem) (creates : List GhostItem) (c : copies.State) → below ≤ 256 → AreCreates kinds below (item ∷ creates) → CopiesStandFor c creates
    → first_fault (item_fault (copy_in c.slots) 18446744073709551615) [] (item ∷ []) ≡ None
fits-copies kinds below (Kill slot) creates c few are s = absurd are
fits-copies kinds below (Create slot kind block levels) creates c few are s =
    let empty : copy_in c.slots slot ≡ None = s.copies slot (omega (arith, are.0, few)) ∙ none-from kinds slot creates slot are.2 (omega arith) in
    ap (λ (o : Option GhostCopy). option_or (fault_of o 18446744073709551615 (Create slot kind block levels)) None) empty
    ∙ ap (λ (b : Bool). let missing : Option GhostFault = Some (BlockMissing slot block) in option_or (if b then None else missing) None) (all-held block are.1.1)
fits-copies kinds below (Update slot kind mask levels) creates c few are s = absurd are

-- the next one of a list whose newest stands first
module _ (kinds : List Kind) (all : List GhostItem) (i : ℕ) (item : GhostItem) (l : i < length all) (at : item ≡ get_or all i item) (are : AreCreates kinds 256 (reverse all)) where
  pub one-more : reverse (take (i + 1) all) ≡ item ∷ reverse (take i all)
  one-more = ap reverse (take_more all i item l ∙ ap (λ (x : GhostItem). take i all ++ x ∷ []) (sym at)) ∙ reverse-append (take i all) (item ∷ [])

  next : (b : ℕ) × (b ≤ 256) × AreCreates kinds b (item ∷ reverse (take i all))
  next =
      behind kinds 256 (reverse (drop (i + 1) all)) (item ∷ reverse (take i all))
      (subst (AreCreates kinds 256) (ap reverse (sym (take-append-drop (i + 1) all)) ∙ reverse-append (take (i + 1) all) (drop (i + 1) all) ∙ ap (λ (xs : List GhostItem). reverse (drop (i + 1) all) ++ xs) one-more) are)

  pub next-in-range : AllByRecursion (IsGhostInRange kinds) (item ∷ [])
  next-in-range = ((creates-in-range kinds next.0 (item ∷ reverse (take i all)) next.2).0, tt)

  pub next-fits : (c : copies.State) → CopiesStandFor c (reverse (take i all)) → first_fault (item_fault (copy_in c.slots) 18446744073709551615) [] (item ∷ []) ≡ None
  next-fits c s = fits-copies kinds next.0 item (reverse (take i all)) c next.1 next.2 s

pub made-seen : (kinds : List Kind) (c : copies.State) (creates : List GhostItem) → c.kinds ≡ kinds → AreCreates kinds 256 creates → CopiesStandFor c creates → AreSeen c
made-seen kinds c creates same are s = record {
  came = creates;
  stands = s;
  ranges = subst (λ (k : List Kind). AllByRecursion (IsGhostInRange k) creates) (sym same) (creates-in-range kinds 256 creates are);
}

-- ---- a viewer that is made again

pub stands-like : (k : KeptState) (v : ViewerState) → Keeps v k → StandsLike k v
stands-like k v kept w from packets s = record {
  horizon = sym kept.horizon ∙ from.horizon ∙ s.horizon;
  blocks = subst (λ (b : List (Option (List ℕ))). BlocksStandFor b (blocks_seen packets)) (sym from.blocks ∙ kept.blocks) s.blocks;
  events = subst (λ (e : ReceiverState). EventsStandFor e (events_seen packets)) (sym from.events ∙ kept.events) s.events;
  copies = record { copies = λ slot small. kept.copies.copies slot small ∙ sym (from.copies.copies slot small) ∙ s.copies.copies slot small };
}
