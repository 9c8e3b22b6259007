-- Spectators that met nothing, and those that were told one after the other.
use Rattle.std.proofs.Common.{◌≡◌, ◌∙◌, ℕ, ◌+◌, ◌<◌, List, [], ◌∷◌, ◌++◌, get_or, sym, ap, subst, arith, inl, inr, length-append}
use Rattle.std.proofs.lemmas.Bool.{cases_lt}
use Rattle.std.proofs.lemmas.List.{get_or_append_left}
use Rattle.std.proofs.Math.Seq.{get_or-append_seam}
use Rattle.match_script.specs.declared.types.Head.{Head}
use Rattle.relay_spectator.specs.declared.spectator.Spectator.{Spectator}
use Rattle.relay_spectator.specs.Spectators.{Follows}
use Rattle.relay_report.specs.Met.{spectator_terms}
use Rattle.relay_node.specs.Node.{AreNew}

pub new_more : (spectators : List Spectator) (head : Head) (k : ℕ) (new : Spectator) → AreNew spectators head k → Follows new (spectator_terms head k) []
    → AreNew (spectators ++ new ∷ []) head (k + 1)
new_more spectators head k new h follows =
    let long = h.count_is in
    record {
      count_is = (let e = length-append spectators (new ∷ []) in omega (arith, long, e));
      each = λ s d lt. by s d lt;
    }
  where
    by : (s : ℕ) (d : Spectator) → s < k + 1 → Follows (get_or (spectators ++ new ∷ []) s d) (spectator_terms head s) []
    by s d lt = elim (cases_lt s k) [
      | inl below ↦
          (let long = h.count_is in
          subst (λ (x : Spectator). Follows x (spectator_terms head s) []) (sym (get_or_append_left spectators (new ∷ []) d s (omega (arith, below, long)))) (h.each s d below))
      | inr le ↦
          (let long = h.count_is in
          let at : s ≡ k = omega (arith, lt, le) in
          let here : get_or (spectators ++ new ∷ []) s d ≡ new = ap (λ (n : ℕ). get_or (spectators ++ new ∷ []) n d) (at ∙ sym long) ∙ get_or-append_seam spectators new [] d in
          subst (λ (x : Spectator). Follows x (spectator_terms head s) []) (sym here) (subst (λ (n : ℕ). Follows new (spectator_terms head n) []) (sym at) follows))
    ]
