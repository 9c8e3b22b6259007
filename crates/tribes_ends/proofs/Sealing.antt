-- What a data packet is refused for, by the plan and by whether the values are those that it wants.
use Rattle.std.proofs.Common.{◌≡◌, ℕ, Bool, cond, List, Option, Some, None, refl, ap}
use Rattle.std.specs.Prelude.{ℤ, IsTrue, IsSome, IfSome, ◌↔◌}
use Rattle.tn_types.specs.declared.choices.Choice.{Choice}
use Rattle.stream_manager.specs.ghost_masks.Carried.{all_carried, AreValues}
use Rattle.stream_manager.specs.Server.{ServerEvent, ghost_log}
use Rattle.stream_manager.specs.Stands.{ConnState}
use Rattle.tribes_ends.specs.declared.refusal.Refusal.TheVariants.{NotPlanned, BadValues}
use Rattle.tribes_ends.specs.Refusals.{are_values, room_refusal, seal_refusal}
use Rattle.tribes_ends.proofs.Tests.{same-when, values-are}

pub unplanned : (values : List ℤ) (room : ℕ) (c : ConnState) (log : List ServerEvent) (plan : Option (List Choice)) → (IsSome plan → ⊥) → Some NotPlanned ≡ seal_refusal values room c log plan
unplanned values room c log None h = refl
unplanned values room c log (Some choices) h = absurd (h refl)

pub planned : (values : List ℤ) (room : ℕ) (c : ConnState) (log : List ServerEvent) (b : Bool) (plan : Option (List Choice)) → IsSome plan
    → IfSome plan (λ choices. IsTrue b ↔ AreValues (all_carried c.masks.kinds (ghost_log log) choices) values)
    → cond b (room_refusal c.common.config.size room) (Some BadValues) ≡ seal_refusal values room c log plan
planned values room c log b None some told = absurd (cc)
planned values room c log b (Some choices) some told =
    let fields = all_carried c.masks.kinds (ghost_log log) choices in
    let both = values-are fields values in
    ap (λ (x : Bool). cond x (room_refusal c.common.config.size room) (Some BadValues)) (same-when b (are_values fields values) (λ t. both.1 (told.0 t)) (λ t. told.1 (both.0 t)))
