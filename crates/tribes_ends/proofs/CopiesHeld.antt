-- The copies of a client's end, by what came.
use Rattle.std.proofs.Common.{◌≡◌, ℕ, ◌<◌, ◌≤◌, true, cond, List, Option, Some, None, refl, sym, subst, ap, ◌∙◌, arith}
use Rattle.std.specs.Prelude.{nat_lt, IfSome, IsSome, IsNone}
use Rattle.std.proofs.lemmas.Bool.Decides.{nat_tests}
use Rattle.tn_types.specs.declared.limits.TheConstants.{MAX_SLOTS}
use Rattle.ghost_client.specs.Copies.{copy_of}
use Rattle.ghost_client.specs.State.{copy_in, first_behind, AreEmptyFrom, IsNextFull}
use Rattle.stream_manager.specs.Client.{ClientEvent, ghosts_came}
use Rattle.stream_manager.specs.Stands.{ClientState, ClientStandsFor}
use Rattle.tribes_ends.specs.Refusals.{copy_held}
use Rattle.tribes_ends.specs.Lists.{IsNextAtClient}

-- a slot's copy is the one that the list of what came gives it
pub held-is : (c : ClientState) (log : List ClientEvent) (slot : ℕ) → ClientStandsFor c log → slot < MAX_SLOTS → copy_held slot log ≡ copy_in c.copies.slots slot
held-is c log slot s lt =
    let below : nat_lt slot MAX_SLOTS ≡ true = grind (arith, nat_tests) in
    ap (λ b. cond b (copy_of (ghosts_came log) slot) None) below ∙ sym (s.copies.copies slot lt)

pub next-copy : (c : ClientState) (from : ℕ) (at found : Option ℕ) → first_behind at ≡ from → IfSome found (IsNextFull c.copies.slots at) → (IsNone found → AreEmptyFrom c.copies.slots (first_behind at))
    → IfSome found (λ slot. slot < MAX_SLOTS) → IsNextAtClient c from found
next-copy c from at None e next none below = λ log s slot least most. held-is c log slot s most ∙ none refl slot (subst (λ n. n ≤ slot) (sym e) least)
next-copy c from at (Some found) e next none below = record {
  from_on = subst (λ n. n ≤ found) e next.behind;
  full = λ log s. subst (λ o. IsSome o) (sym (held-is c log found s below)) next.full;
  least = λ log s slot least most. held-is c log slot s (let b = below in omega arith) ∙ next.least slot (subst (λ n. n ≤ slot) (sym e) least) most;
}
