-- The laws, said of the client's own copies.
use Rattle.std.proofs.Common.{◌≡◌, inl, inr, ℕ, cond, List, ◌∙◌, length, Some, None, Option, refl, sym, ap, subst}
use Rattle.std.specs.List.{list_any}
use Rattle.std.proofs.lemmas.Bool.{cases_Bool}
use Rattle.ghost_model.specs.Scope.{given, traits}
use Rattle.ghost_model.specs.Ghosts.{scope_log, carries, unjudged, is_due}
use Rattle.ghost_model.specs.Legal.{IsLegal}
use Rattle.stream_manager.specs.ghost_masks.Plan.{sizes, fields_of}
use Rattle.ghost_client.specs.declared.copy.GhostCopy.{GhostCopy}
use Rattle.ghost_client.specs.Copies.{copy_of}
use Rattle.ghost_pair.specs.Copies.{Copy, copies_of}
use Rattle.ghost_pair.proofs.Joined.{alive_there}
use Rattle.ghost_pair.proofs.Recovered.{copy_levels, at_client}
use Rattle.ghost_pair.proofs.Recovered as pair
use Rattle.stream_manager.specs.Limits.{Terms}
use Rattle.stream_manager.specs.Server.{ServerEvent, ghost_log}
use Rattle.stream_manager.specs.Client.{ClientEvent, ghosts_came}
use Rattle.ghost_logs.specs.Sent.{sent_items, processed_at}
use Rattle.ghost_logs.specs.Ends.{AreJoined}
use Rattle.ghost_logs.specs.Copies.{IsOfHolder, CopiesAgree}
use Rattle.ghost_logs.specs.Recovery.{IsRight, LosesNothing}
use Rattle.ghost_logs.proofs.Said.{packets-are}
use Rattle.ghost_logs.proofs.Alike.{Alike}
use Rattle.ghost_logs.proofs.Came.{said, all-joined, copies-real}

module _ (t : Terms) (s : List ServerEvent) (c : List ClientEvent) (legal : IsLegal (sizes t.kinds) (ghost_log s)) (j : AreJoined t s c) where
  -- the copy with its period
  of-holder : (at : ℕ) (d : GhostCopy) (x : Copy) → copies_of (processed_at c) (sent_items s) at ≡ Some x → Alike (traits (scope_log (ghost_log s))) (λ k. length (fields_of t.kinds k)) (Some d) (Some x) → IsOfHolder t s c at d
  of-holder at d x e a =
      let k = (all-joined t s c legal j).agree.is at x e in
      record {
        period = x.period;
        holds = ap (λ b. cond b None (given (scope_log (ghost_log s)) x.period)) (alive_there (sizes t.kinds) (ghost_log s) legal (processed_at c) x.period k.1) ∙ k.0;
        kind = a.kind;
        block = a.block;
        fields = a.count;
        levels = λ f lt. copy_levels (sizes t.kinds) (processed_at c) (ghost_log s) (sent_items s) (packets-are s) legal (said t s c legal j) at x e f ∙ ap Some (sym (a.levels f lt));
      }

  pub agree : CopiesAgree t s c
  agree at d e = go (copies_of (processed_at c) (sent_items s) at) refl (subst (λ o. Alike (traits (scope_log (ghost_log s))) (λ k. length (fields_of t.kinds k)) o (copies_of (processed_at c) (sent_items s) at)) e (copies-real t s c legal j at))
    where
      go : (o : Option Copy) → copies_of (processed_at c) (sent_items s) at ≡ o → Alike (traits (scope_log (ghost_log s))) (λ k. length (fields_of t.kinds k)) (Some d) o → IsOfHolder t s c at d
      go None is a = absurd a
      go (Some x) is a = of-holder at d x is a

  right : (n f : ℕ) → pair.IsAtClient (ghost_log s) (sent_items s) (copies_of (processed_at c) (sent_items s)) n f → IsRight s c n f
  right n f k = go (copy_of (ghosts_came c) k.at) refl (subst (λ o. Alike (traits (scope_log (ghost_log s))) (λ k. length (fields_of t.kinds k)) (copy_of (ghosts_came c) k.at) o) k.here (copies-real t s c legal j k.at))
    where
      go : (o : Option GhostCopy) → copy_of (ghosts_came c) k.at ≡ o → Alike (traits (scope_log (ghost_log s))) (λ k. length (fields_of t.kinds k)) o (Some k.copy) → IsRight s c n f
      go None is a = absurd a
      go (Some d) is a = record { received = k.received; at = k.at; holds = k.holds; copy = d; here = is; level = λ lt. k.level ∙ ap Some (sym (a.levels f lt)) }

  pub loses-nothing : LosesNothing s c
  loses-nothing n f up = elim (cases_Bool (is_due (ghost_log s) n f)) [
    | inl due ↦ inl due
    | inr settled ↦ elim (cases_Bool (list_any (carries n f) (unjudged (ghost_log s)))) [
      | inl way ↦ inr (inl way)
      | inr idle ↦ inr (inr (right n f (at_client (sizes t.kinds) (processed_at c) (ghost_log s) (sent_items s) (packets-are s) legal (said t s c legal j) n f up.shown up.up settled idle)))
    ]
  ]
