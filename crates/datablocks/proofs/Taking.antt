-- Blocks taken one after another.
use Rattle.std.proofs.Common.{◌≡◌, ℕ, zero, suc, ◌+◌, ◌<◌, ◌≤◌, Bool, true, false, ◌==◌, List, [], ◌∷◌, ◌++◌, length, take, drop, get_or, Option, Some, None, Ok, Err, refl, sym, ◌∙◌, ap, subst, arith, inl, inr, add-one, drop-cons}
use Rattle.std.specs.List.{All}
use Rattle.std.proofs.lemmas.Bool.Decides.{nat_tests}
use Rattle.std.proofs.lemmas.Bool.{cases_eq}
use Rattle.std.proofs.lemmas.List.{take_more, drop_all, get_or-set_same, get_or-set_other, length-set}
use Rattle.std.proofs.lemmas.List.Elements.{All-take, All-get_or}
use Rattle.wire_format.specs.declared.blocks.BlockItem.{BlockItem}
use Rattle.datablocks.specs.declared.receiver.BlockFault.TheVariants.{BlockDiffers}
use Rattle.std.specs.Int.{bit_at}
use Rattle.datablocks.specs.Holding.{held_at, held_bit, bytes_differ, differs_then, after_take, after_all, check_answer}

abbrev IsNumbered : BlockItem → Type 0
IsNumbered item = item.number < 64

after_all-append : (blocks : List (Option (List ℕ))) (front : List BlockItem) (item : BlockItem) → after_all blocks (front ++ item ∷ []) ≡ after_take (after_all blocks front) item
after_all-append blocks [] item = refl
after_all-append blocks (first ∷ front) item = after_all-append (after_take blocks first) front item

length-after_all : (blocks : List (Option (List ℕ))) (items : List BlockItem) → length (after_all blocks items) ≡ length blocks
length-after_all blocks [] = refl
length-after_all blocks (item ∷ items) = length-after_all (after_take blocks item) items ∙ length-set blocks item.number (Some item.bytes)

after_more : (blocks : List (Option (List ℕ))) (items : List BlockItem) (i : ℕ) (item : BlockItem) → i < length items → item ≡ get_or items i item → after_all blocks (take (i + 1) items) ≡ after_take (after_all blocks (take i items)) item
after_more blocks items i item l e = ap (after_all blocks) (take_more items i item l ∙ ap (λ t. take i items ++ t ∷ []) (sym e)) ∙ after_all-append blocks (take i items) item

at_set : (blocks : List (Option (List ℕ))) (earlier item : BlockItem) → length blocks ≡ 64 → earlier.number < 64 → bytes_differ (held_at (after_take blocks earlier) item.number) item.bytes ≡ differs_then (bytes_differ (held_at blocks item.number) item.bytes) earlier item
at_set blocks earlier item size l = elim (cases_eq item.number earlier.number) [
  | inl same ↦ (let t : (earlier.number == item.number) ≡ true = grind (arith, nat_tests) in
      rw t (ap (λ o. bytes_differ o item.bytes) (ap (held_at (after_take blocks earlier)) same ∙ get_or-set_same blocks earlier.number (Some earlier.bytes) None (omega arith))))
  | inr other ↦ (let t : (earlier.number == item.number) ≡ false = grind (arith, nat_tests) in
      rw t (ap (λ o. bytes_differ o item.bytes) (get_or-set_other blocks earlier.number item.number (Some earlier.bytes) None other)))
]

pub differs_more : (blocks : List (Option (List ℕ))) (items : List BlockItem) (i : ℕ) (earlier item : BlockItem) (before : Bool) → length blocks ≡ 64 → All (λ (x : BlockItem). x.number < 64) items → i < length items → earlier ≡ get_or items i earlier →
    before ≡ bytes_differ (held_at (after_all blocks (take i items)) item.number) item.bytes → differs_then before earlier item ≡ bytes_differ (held_at (after_all blocks (take (i + 1) items)) item.number) item.bytes
differs_more blocks items i earlier item before size all l e h =
    let small : earlier.number < 64 = subst IsNumbered (sym e) (All-get_or IsNumbered items i earlier l all) in
    let same = at_set (after_all blocks (take i items)) earlier item (length-after_all blocks (take i items) ∙ size) small in
    ap (λ b. differs_then b earlier item) h ∙ sym same ∙ ap (λ bs. bytes_differ (held_at bs item.number) item.bytes) (sym (after_more blocks items i earlier l e))

-- a word that tells of one more block
pub held_more : (blocks : List (Option (List ℕ))) (items : List BlockItem) (i : ℕ) (item : BlockItem) (held next place : ℕ) → length blocks ≡ 64 → All (λ (x : BlockItem). x.number < 64) items → i < length items → item ≡ get_or items i item → place ≡ item.number
    → ((b : ℕ) → b < 64 → bit_at held b ≡ held_bit (held_at (after_all blocks (take i items)) b))
    → bit_at next place ≡ 1 → ((b : ℕ) → (b ≡ place → ⊥) → bit_at next b ≡ bit_at held b)
    → (b : ℕ) → b < 64 → bit_at next b ≡ held_bit (held_at (after_all blocks (take (i + 1) items)) b)
held_more blocks items i item held next place size all l e at before one others b low =
    let small : item.number < 64 = subst IsNumbered (sym e) (All-get_or IsNumbered items i item l all) in
    let bs : List (Option (List ℕ)) = after_all blocks (take i items) in
    let there : item.number < length bs = omega (arith, length-after_all blocks (take i items)) in
    let goal : bit_at next b ≡ held_bit (held_at (after_take bs item) b) = elim (cases_eq b item.number) [
      | inl same ↦ ap (bit_at next) (same ∙ sym at) ∙ one ∙ ap held_bit (sym (ap (held_at (after_take bs item)) same ∙ get_or-set_same bs item.number (Some item.bytes) None there))
      | inr other ↦ others b (λ e. other (e ∙ at)) ∙ before b low ∙ ap held_bit (sym (get_or-set_other bs item.number b (Some item.bytes) None other))
    ] in
    goal ∙ ap (λ (bs : List (Option (List ℕ))). held_bit (held_at bs b)) (sym (after_more blocks items i item l e))

drop_more : (items : List BlockItem) (i : ℕ) (item : BlockItem) → i < length items → item ≡ get_or items i item → drop i items ≡ item ∷ drop (i + 1) items
drop_more items i item l e = rw add-one (drop-cons items i item l ∙ ap (λ t. t ∷ drop (suc i) items) (sym e))

pub check_goes_on : (blocks : List (Option (List ℕ))) (items : List BlockItem) (i : ℕ) (item : BlockItem) → i < length items → item ≡ get_or items i item → bytes_differ (held_at (after_all blocks (take i items)) item.number) item.bytes ≡ false →
    check_answer (after_all blocks (take i items)) (drop i items) ≡ check_answer (after_all blocks (take (i + 1) items)) (drop (i + 1) items)
check_goes_on blocks items i item l e same = rw (drop_more items i item l e, same) (ap (λ bs. check_answer bs (drop (i + 1) items)) (sym (after_more blocks items i item l e)))

pub check_stops : (blocks : List (Option (List ℕ))) (items : List BlockItem) (i : ℕ) (item : BlockItem) → i < length items → item ≡ get_or items i item → bytes_differ (held_at (after_all blocks (take i items)) item.number) item.bytes ≡ true →
    check_answer (after_all blocks (take i items)) (drop i items) ≡ Err (BlockDiffers item.number)
check_stops blocks items i item l e other = rw (drop_more items i item l e, other) refl

pub check_ends : (blocks : List (Option (List ℕ))) (items : List BlockItem) (i : ℕ) → length items ≤ i → check_answer (after_all blocks (take i items)) (drop i items) ≡ Ok tt
check_ends blocks items i l = rw (drop_all i items l) refl

pub all_taken : (items : List BlockItem) (i : ℕ) → All (λ (x : BlockItem). x.number < 64) items → All (λ (x : BlockItem). x.number < 64) (take i items)
all_taken items i h = All-take IsNumbered i items h

pub none_more : (places : List (Option (List ℕ))) → ((b : ℕ) → held_at places b ≡ None) → (b : ℕ) → held_at (places ++ None ∷ []) b ≡ None
none_more [] h zero = refl
none_more [] h (suc b) = refl
none_more (place ∷ places) h zero = h 0
none_more (place ∷ places) h (suc b) = none_more places (λ k. h (suc k)) b
