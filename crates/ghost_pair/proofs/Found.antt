-- The items of a packet find what they speak of in the copies before the packet, since each names a slot of its own.
use Rattle.std.proofs.Common.{◌≡◌, ◌≢◌, ℕ, List, [], ◌∷◌, Option, refl, subst, arith, eqb, count_by}
use Rattle.std.specs.List.{AllByRecursion}
use Rattle.tn_types.specs.declared.choices.Choice.{Choice}
use Rattle.ghost_model.specs.Legal.{NameOnce}
use Rattle.ghost_model.proofs.Sorted.{count_here, once_rest}
use Rattle.ghost_pair.specs.Copies.{Item, Copy, choices, applied, Meets, Finds}
use Rattle.ghost_pair.proofs.Client.{FindsEach, off_slot}
use Rattle.ghost_pair.proofs.Joined.{other_slots}

-- an item of another slot changed nothing for these
found_before : (i : Item) (copies : ℕ → Option Copy) (items : List Item) → AllByRecursion (λ (x : Item). i.choice.slot ≢ x.choice.slot) items → AllByRecursion (Finds (applied i copies)) items → AllByRecursion (Finds copies) items
found_before i copies [] other all = tt
found_before i copies (x ∷ items) other all = (subst (Meets x.choice.op x.choice.n) (off_slot i copies x.choice.slot other.0) all.0, found_before i copies items other.1 all.1)

pub own_slots : (i : Item) (items : List Item) → NameOnce (choices (i ∷ items)) → AllByRecursion (λ (x : Item). i.choice.slot ≢ x.choice.slot) items
own_slots i items once = other_slots i.choice.slot items (let e : count_by (λ (c : Choice). eqb c.slot i.choice.slot) (choices items) ≡ 0 = omega (arith, once i.choice.slot, count_here i.choice.slot i.choice (choices items) refl) in e)

pub all_found : (items : List Item) (copies : ℕ → Option Copy) → FindsEach items copies → NameOnce (choices items) → AllByRecursion (Finds copies) items
all_found [] copies finds once = tt
all_found (i ∷ items) copies finds once = (finds.0, found_before i copies items (own_slots i items once) (all_found items (applied i copies) finds.1 (once_rest i.choice (choices items) once)))
