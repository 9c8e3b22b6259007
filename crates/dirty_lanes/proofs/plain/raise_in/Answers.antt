use Rattle.std.proofs.Common.{◌≡◌, ◌≢◌, ℕ, ◌+◌, ◌<◌, ◌≤◌, length, set, bit_or, inl, inr, ⊎_elim, sym, ap, subst, ◌∙◌, arith}
use Rattle.std.specs.Prelude.{slice_index}
use Rattle.std.proofs.lemmas.List.{get_or-set_same, get_or-set_other}
use Rattle.std.proofs.lemmas.Bool.{cases_eq}
use Rattle.dirty_lanes.proofs.plain.raise_in.Goals as goal

pub loop-client-preserved : goal.loop-client-preserved
loop-client-preserved c =
    let ws = c.loop-client.words in
    let n = c.loop-client.client in
    let at = c.args.from + n in
    let within : c.args.from + n < length ws = omega arith in
    let before = c.loop-client.invariant in
    record {
      raised = λ k lt. elim (cases_eq k n) [
        | inl same ↦ subst (λ (i : ℕ). slice_index (set ws at (bit_or (slice_index ws at) c.args.bits)) (c.args.from + i) ≡ bit_or (slice_index c.args.words.now (c.args.from + i)) c.args.bits) (sym same)
            (get_or-set_same ws at _ 0 within ∙ ap (λ (x : ℕ). bit_or x c.args.bits) (before.others at (inr (omega arith))))
        | inr other ↦ get_or-set_other ws at (c.args.from + k) _ 0 (λ e. other (omega arith)) ∙ before.raised k (omega (arith, other))
      ];
      others = λ i apart.
          let ne : i ≢ at = ⊎_elim (λ (lt : i < c.args.from). omega arith) (λ (le : c.args.from + (n + 1) ≤ i). omega arith) apart in
          get_or-set_other ws at i _ 0 ne ∙ before.others i (⊎_elim (λ (lt : i < c.args.from). inl lt) (λ (le : c.args.from + (n + 1) ≤ i). inr (omega arith)) apart);
    }

pub returns-clause-before : goal.returns-clause-before
returns-clause-before c i lt = c.loop-client.invariant.others i (inl lt)

pub returns-clause-behind : goal.returns-clause-behind
returns-clause-behind c i le = c.loop-client.invariant.others i (inr (omega (arith, le, c.loop-client-test.false)))
