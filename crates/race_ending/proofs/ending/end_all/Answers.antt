use Rattle.std.proofs.Common.{◌≡◌, ⊎_elim, ℕ, ◌+◌, ◌*◌, ◌∷◌, [], length, get_or, None, sym, ◌∙◌, subst, ap, arith, length-append}
use Rattle.std.specs.Prelude.{slice_get}
use Rattle.race_history.specs.declared.race.RaceClient.{RaceClient}
use Rattle.race_ending.specs.Ended.{IsEnded}
use Rattle.race_ending.proofs.Taken.{pushed}
use Rattle.race_ending.proofs.ending.end_all.Goals as goal

pub pairs-preserved : goal.pairs-preserved
pairs-preserved g c =
    let inv = c.pairs.invariant in
    let now = c.in_ok-end_next.ensures in
    let count = length-append c.pairs.yielded (c.in-Some.pair ∷ []) in
    let here : length c.pairs.seats.items ≡ length c.pairs.yielded = inv.seats in
    let place : length c.pairs.seats.items ≡ length c.pairs.clients = inv.seats ∙ sym inv.clients in
    let waited : get_or c.pairs.waiting.items (length c.pairs.seats.items) [] ≡ get_or c.args.waiting.now.items (length c.pairs.seats.items) [] =
    inv.later (length c.pairs.seats.items) (omega (arith, here)) in
    let this = subst (λ w. IsEnded g.N.LaneName.objects w (get_or c.args.stopped.now (2 * length c.pairs.seats.items) None)
    (get_or c.args.stopped.now (2 * length c.pairs.seats.items + 1) None) now.ended.0) waited now.ended.2 in
    record {
      clients = ap length now.ended.1 ∙ length-append c.pairs.clients (now.ended.0 ∷ []) ∙ ap (λ (n : ℕ). n + 1) inv.clients ∙ sym count;
      ended = λ i d e. ⊎_elim (inv.ended i d)
          (λ r. subst (λ (x : RaceClient). IsEnded g.N.LaneName.objects (get_or c.args.waiting.now.items i []) (get_or c.args.stopped.now (2 * i) None)
          (get_or c.args.stopped.now (2 * i + 1) None) x) (sym r.1)
          (subst (λ (n : ℕ). IsEnded g.N.LaneName.objects (get_or c.args.waiting.now.items n []) (get_or c.args.stopped.now (2 * n) None)
          (get_or c.args.stopped.now (2 * n + 1) None) now.ended.0) (place ∙ sym r.0) this))
          (pushed c.pairs.clients now.ended.0 d i (sym (ap (λ xs. slice_get xs i) now.ended.1) ∙ e));
      seats = now.seats ∙ ap (λ (n : ℕ). n + 1) inv.seats ∙ sym count;
      waiting = now.waiting ∙ inv.waiting;
      later = λ k l. now.others k (omega (arith, here, count, l)) ∙ inv.later k (omega (arith, count, l));
    }

pub returns-clause-ended : goal.returns-clause-ended
returns-clause-ended g c = c.pairs.invariant.ended
