-- The level of a field in the last packet that carries it, of all that were sent and of those that were processed.
use Rattle.std.specs.Prelude.{ℕ, Bool, true, List, [], ◌∷◌, Option, Some, None, if◌then◌else◌, ◌≡◌, refl, ◌==◌}
use Rattle.ghost_model.specs.Ghosts.{item_carries}
use Rattle.ghost_pair.specs.Copies.{Item, after_done, two_packets}

-- in the last item that carries the field of period n, or else the older one
abbrev pub put : ℕ → ℕ → List Item → Option ℕ → Option ℕ
put n f [] older = older
put n f (i ∷ items) older = put n f items (if item_carries n f i.choice then Some (i.levels f) else older)

-- in the last packet that was processed
abbrev pub processed_level : ℕ → ℕ → (ℕ → Bool) → List (List Item) → Option ℕ
processed_level n f done sent = after_done (put n f) done 1 None sent

-- in the last packet that was sent
abbrev pub last_level : ℕ → ℕ → List (List Item) → Option ℕ
last_level n f sent = after_done (put n f) (λ k. true) 1 None sent

-- ---- an example: of a create at level 10 and an update at level 11 the update is lost

lost_update : processed_level 7 0 (λ k. k == 1) two_packets ≡ Some 10
lost_update = refl

sent_update : last_level 7 0 two_packets ≡ Some 11
sent_update = refl
