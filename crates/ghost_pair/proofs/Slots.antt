-- The period of each item that was sent has been given the item's slot, and keeps it for good.
use Rattle.std.proofs.Common.{◌≡◌, ℕ, true, List, [], ◌∷◌, ◌++◌, ◌∙◌, map, Some, subst, inl, inr}
use Rattle.std.specs.List.{AllByRecursion, list_any}
use Rattle.std.proofs.lemmas.Bool.{or_cases, and_parts}
use Rattle.std.proofs.lemmas.Bool.Decides.{nat_tests}
use Rattle.std.proofs.Common.{arith, eqb}
use Rattle.tn_types.specs.declared.choices.Choice.{Choice}
use Rattle.ghost_model.specs.Scope.{given}
use Rattle.ghost_model.specs.Ghosts.{GhostEvent, Show, Hide, Near, Absorb, Grant, Sent, Judged, scope_log, packets, unjudged, oldest, carries, item_carries, op_carries}
use Rattle.ghost_model.specs.Legal.{KindSizes, IsLegal}
use Rattle.ghost_model.proofs.Granted.{keeps_given}
use Rattle.ghost_model.proofs.Written.{wrote_given, settled_given}
use Rattle.ghost_model.proofs.Legal.{WasGiven, writing}
use Rattle.ghost_model.proofs.Known.{given_all}
use Rattle.ghost_pair.specs.Copies.{Item, choices}

all_map : {X : Type 0} (P Q : X → Type 0) → ((x : X) → P x → Q x) → (xs : List X) → AllByRecursion P xs → AllByRecursion Q xs
all_map P Q f [] h = tt
all_map P Q f (x ∷ xs) h = (f x h.0, all_map P Q f xs h.1)

all_push : {X : Type 0} (P : X → Type 0) (xs : List X) (x : X) → AllByRecursion P xs → P x → AllByRecursion P (xs ++ x ∷ [])
all_push P [] x h p = (p, tt)
all_push P (y ∷ xs) x h p = (h.0, all_push P xs x h.1 p)

-- where the slots of the old log stay
kept : (old new : List GhostEvent) → ((n s : ℕ) → given (scope_log old) n ≡ Some s → given (scope_log new) n ≡ Some s) → (ps : List (List Choice)) → AllByRecursion (AllByRecursion (WasGiven old)) ps → AllByRecursion (AllByRecursion (WasGiven new)) ps
kept old new stays ps all = all_map (AllByRecursion (WasGiven old)) (AllByRecursion (WasGiven new)) (all_map (WasGiven old) (WasGiven new) (λ c h. stays c.n c.slot h)) ps all

pub all_given : (kinds : KindSizes) (log : List GhostEvent) → IsLegal kinds log → AllByRecursion (AllByRecursion (WasGiven log)) (packets log)
all_given kinds [] h = tt
all_given kinds (Show k b l c ∷ log) h = all_given kinds log h.1
all_given kinds (Hide m ∷ log) h = all_given kinds log h.1
all_given kinds (Near m l ∷ log) h = all_given kinds log h.1
all_given kinds (Absorb m b ∷ log) h = all_given kinds log h.1
all_given kinds (Grant ∷ log) h = kept log (Grant ∷ log) (keeps_given (scope_log log)) (packets log) (all_given kinds log h.1)
all_given kinds (Judged v ∷ log) h = kept log (Judged v ∷ log) (λ n s e. settled_given v (oldest (unjudged log)) (scope_log log) n ∙ e) (packets log) (all_given kinds log h.1)
all_given kinds (Sent cs ∷ log) h =
    kept log (Sent cs ∷ log) (λ n s e. wrote_given cs (scope_log log) n ∙ e) (packets log ++ cs ∷ [])
    (all_push (AllByRecursion (WasGiven log)) (packets log) cs (all_given kinds log h.1) (given_all (scope_log log) cs (writing kinds log cs h.0.0)))

-- the same of items
items_given : (log : List GhostEvent) (items : List Item) → AllByRecursion (WasGiven log) (choices items) → AllByRecursion (λ (i : Item). given (scope_log log) i.choice.n ≡ Some i.choice.slot) items
items_given log [] all = tt
items_given log (i ∷ items) all = (all.0, items_given log items all.1)

pub sent_given : (log : List GhostEvent) (sent : List (List Item)) → AllByRecursion (AllByRecursion (WasGiven log)) (map choices sent) → AllByRecursion (AllByRecursion (λ (i : Item). given (scope_log log) i.choice.n ≡ Some i.choice.slot)) sent
sent_given log [] all = tt
sent_given log (p ∷ sent) all = (items_given log p all.0, sent_given log sent all.1)

-- ---- a period of which a packet carries something has a slot

abbrev pub HasSlot : List GhostEvent → ℕ → Type 0
HasSlot log n = (s : ℕ) × (given (scope_log log) n ≡ Some s)

carrier_slot : (log : List GhostEvent) (n f : ℕ) (cs : List Choice) → AllByRecursion (WasGiven log) cs → carries n f cs ≡ true → HasSlot log n
carrier_slot log n f [] all h = absurd (cc)
carrier_slot log n f (c ∷ cs) all h = elim (or_cases (item_carries n f c) (carries n f cs) h) [
  | inl here ↦
      let same : c.n ≡ n = let t : eqb c.n n ≡ true = (and_parts (eqb c.n n) (op_carries c.op c.mask f) here).0 in grind (arith, nat_tests) in
      (c.slot, subst (λ m. given (scope_log log) m ≡ Some c.slot) same all.0)
  | inr later ↦ carrier_slot log n f cs all.1 later
]

pub carried_slot : (log : List GhostEvent) (n f : ℕ) (ps : List (List Choice)) → AllByRecursion (AllByRecursion (WasGiven log)) ps → list_any (carries n f) ps ≡ true → HasSlot log n
carried_slot log n f [] all h = absurd (cc)
carried_slot log n f (p ∷ ps) all h = elim (or_cases (carries n f p) (list_any (carries n f) ps) h) [
  | inl here ↦ carrier_slot log n f p all.0 here
  | inr later ↦ carried_slot log n f ps all.1 later
]
