use Rattle.std.proofs.Common.{◌≡◌, ◌∙◌, ◌<◌, ◌+◌, ℕ, List, [], ◌∷◌, ◌++◌, length, sym, ap, subst, if◌then◌else◌}
use Rattle.std.specs.Prelude.{slice_index_or}
use Rattle.std.proofs.lemmas.List.{length_push}
use Rattle.client_scope.specs.StandsFor.{Table, StandsFor}
use Rattle.match_engine.proofs.Growing.{one_more}
use Rattle.match_engine.proofs.game.scopes_of.Goals as goal

pub scopes-preserved : goal.scopes-preserved
scopes-preserved c =
    let n = c.scopes._client in
    let scopes = c.scopes.scopes.items in
    let grown : c.push.new.self.items ≡ scopes ++ c.in_ok-scope.scope ∷ [] =
    c.push.ensures.items ∙ ap (λ ok. if ok then scopes ++ c.in_ok-scope.scope ∷ [] else scopes) c.if-is_err.ensures.negation in
    record {
      count = ap (length {A = Table}) grown ∙ length_push scopes c.in_ok-scope.scope ∙ ap (λ (m : ℕ). m + 1) c.scopes.invariant.count;
      stands = subst (λ (ss : List Table). (k : ℕ) (e : Table) → k < n + 1 → StandsFor (slice_index_or ss k e) []) (sym grown)
          (one_more (λ s k. StandsFor s []) scopes c.in_ok-scope.scope n c.scopes.invariant.count c.scopes.invariant.stands c.in_ok-scope.ensures);
    }
