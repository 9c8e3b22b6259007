-- What a client holds, by the packets that it processed: the items of each packet as the server chose them, which name the
-- period and not its slot alone, and a copy with the period that it is of. The packets are those that were sent, the oldest
-- first and numbered from 1 on, and `done` tells which of them were processed.
use Rattle.std.specs.Prelude.{◌≡◌, refl, ℕ, suc, Bool, ◌==◌, List, [], ◌∷◌, map, if◌then◌else◌, Option, Some, None}
use Rattle.tn_types.specs.declared.choices.Op.{Op}
use Rattle.tn_types.specs.declared.choices.Op.TheVariants.{Kill, Create, Update}
use Rattle.tn_types.specs.declared.choices.Choice.{Choice}
use Rattle.tn_types.specs.BitWords.{has_bit}

-- what was chosen, and the level of each field that it carries
pub record Item : Type 0 where
  pub choice : Choice
  pub levels : ℕ → ℕ

abbrev pub choices : List Item → List Choice
choices items = map (λ (i : Item). i.choice) items

-- what a slot holds at the client
pub record Copy : Type 0 where
  pub period : ℕ
  pub levels : ℕ → ℕ

-- ---- packets that are processed

-- what an item makes of the copy of its slot
abbrev pub changed : Op → Item → Option Copy → Option Copy
changed Kill i c = None
changed Create i c = Some (record { period = i.choice.n; levels = i.levels })
changed Update i None = None
changed Update i (Some c) = Some (record c { levels = λ f. if has_bit i.choice.mask f then i.levels f else c.levels f })

abbrev pub applied : Item → (ℕ → Option Copy) → ℕ → Option Copy
applied i copies slot = if i.choice.slot == slot then changed i.choice.op i (copies slot) else copies slot

-- what a packet makes of the copies, item by item
abbrev pub taken : List Item → (ℕ → Option Copy) → ℕ → Option Copy
taken [] copies = copies
taken (i ∷ items) copies = taken items (applied i copies)

-- what those of these packets that were processed make of x, one after another, where the first has number k
abbrev pub after_done : {P X : Type 0} → (P → X → X) → (ℕ → Bool) → ℕ → X → List P → X
after_done step done k x [] = x
after_done step done k x (p ∷ ps) = after_done step done (suc k) (if done k then step p x else x) ps

-- the copies after the packets that were processed
abbrev pub copies_of : (ℕ → Bool) → List (List Item) → ℕ → Option Copy
copies_of done sent = after_done taken done 1 (λ slot. None) sent

-- ---- what items find

-- there is a copy of the period
abbrev pub IsOf : ℕ → Option Copy → Type 0
IsOf n copy = (c : Copy) × (copy ≡ Some c) × (c.period ≡ n)

-- a kill and an update find the copy of their period, a create none
abbrev pub Meets : Op → ℕ → Option Copy → Type 0
Meets Kill n copy = IsOf n copy
Meets Create n copy = copy ≡ None
Meets Update n copy = IsOf n copy

abbrev pub Finds : (ℕ → Option Copy) → Item → Type 0
Finds copies i = Meets i.choice.op i.choice.n (copies i.choice.slot)

-- ---- an example

-- a create of period 7 in slot 2, and an update of its field 0
abbrev pub two_packets : List (List Item)
two_packets =
    (record { choice = record { n = 7; slot = 2; op = Create; mask = 3 }; levels = λ f. 10 } ∷ [])
    ∷ (record { choice = record { n = 7; slot = 2; op = Update; mask = 1 }; levels = λ f. 11 } ∷ []) ∷ []

-- the update alone is lost
created_alone : copies_of (λ k. k == 1) two_packets 2 ≡ Some (record { period = 7; levels = λ f. 10 })
created_alone = refl
