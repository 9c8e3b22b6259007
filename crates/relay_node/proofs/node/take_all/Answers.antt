use Rattle.std.proofs.Common.{◌≡◌, ◌∙◌, ℕ, ◌<◌, List, length, get_or, set, sym, ap, subst, arith, inl, inr}
use Rattle.std.proofs.lemmas.Bool.{cases_lt}
use Rattle.std.proofs.lemmas.List.{get_or-set_same, get_or-set_other, length-set, get_or_default}
use Rattle.relay_board.specs.declared.board.Change.{Change}
use Rattle.relay_spectator.specs.declared.spectator.Spectator.{Spectator}
use Rattle.relay_spectator.specs.Spectators.{Takes}
use Rattle.relay_node.proofs.node.take_all.Goals as goal

pub loop-i-preserved : goal.loop-i-preserved
loop-i-preserved c =
    let i = c.loop-i.i in
    let first = c.args.spectators.now.items in
    let now = c.loop-i.spectators.items in
    let new = c.take.new.self in
    let d = c.index_mut.result.now in
    let killed = c.args.board.now.killed in
    let changed = c.args.board.now.changed in
    let news = c.args.events.now in
    let count = c.loop-i.invariant.count in
    let lt : i < length now = omega (arith, c.loop-i-test.true, c.len-i-end.ensures, count) in
    record {
      count = length-set now i new ∙ count;
      told = λ s e below. elim (cases_lt s i) [
        | inl less ↦
            (let here : get_or (set now i new) s e ≡ get_or now s e = get_or-set_other now i s new e (λ same. omega (arith, same, less)) in
            subst (λ (x : Spectator). Takes (get_or first s e) killed changed news x) (sym here) (c.loop-i.invariant.told s e less))
        | inr more ↦
            (let same : s ≡ i = omega (arith, below, more) in
            let here : get_or (set now i new) s e ≡ new = ap (λ (n : ℕ). get_or (set now i new) n e) same ∙ get_or-set_same now i new e lt in
            let was : d ≡ get_or first s e =
            c.index_mut.ensures.value ∙ c.loop-i.invariant.same i d (omega arith) ∙ get_or_default first i d e (omega (arith, lt, count)) ∙ ap (λ (n : ℕ). get_or first n e) (sym same) in
            let takes : Takes d killed changed news new =
            subst (λ (x : List ℕ × List Change). Takes d x.0 x.1 news new) (λ j. (c.killed.ensures j, c.changed.ensures j)) c.in_ok-take.ensures in
            subst (λ (x : Spectator × Spectator). Takes x.0 killed changed news x.1) (λ j. (was j, sym here j)) takes)
      ];
      same = λ s e le. get_or-set_other now i s new e (λ same. omega (arith, same, le)) ∙ c.loop-i.invariant.same s e (omega (arith, le));
    }

pub returns-clause-takes : goal.returns-clause-takes
returns-clause-takes c s d lt = c.loop-i.invariant.told s d (omega (arith, lt, c.loop-i-test.false, c.len-i-end.ensures))
