use Rattle.std.proofs.Common.{◌≡◌, ℕ, ◌<◌, ◌++◌, ◌∷◌, ◌∙◌, [], List, true, false, not, map, filter, ap, sym, subst, arith, Vec, Global}
use Rattle.std.specs.Prelude.{IsTrue, ◌↔◌}
use Rattle.std.specs.List.{AllByRecursion}
use Rattle.tn_types.specs.declared.choices.Drain.{Drain}
use Rattle.ghost_model.specs.Words.{upto}
use Rattle.ghost_scope.specs.Shown.{IsUp}
use Rattle.stream_manager.specs.Limits.{Terms}
use Rattle.stream_manager.specs.Stands.{ConnState, ConnStandsFor}
use Rattle.pair_core.specs.History.{PairStep, history}
use Rattle.pair_core.specs.Stands.{StandsFor}
use Rattle.pair_periods.specs.pair_steps.Steps.{shows_in, is_hidden_in}
use Rattle.pair_periods.proofs.Below.pair_steps.Journals.{shows_told}
use Rattle.race_text.specs.Showing.{left_of}
use Rattle.race_text.proofs.Listed.{made_yes, made_no, made_none, all_push, up-passes, down-fails}
use Rattle.race_text.proofs.left.left_over.Goals as goal
use Rattle.race_text.proofs.left.left_over.Goals.{then-is_up+in_ok-add, else-is_up}

pub loop-n-init : goal.loop-n-init
loop-n-init c = record {
  told = λ t steps s. c.new-left.ensures.items ∙ sym (made_none (left_of c.args.words.now c.args.client c.args.objects.now) (λ n. not (is_hidden_in steps n)));
  up = subst (λ (l : List Drain). AllByRecursion (λ (d : Drain). IsUp c.args.pair.now.conn.masks.periods d.n) l) (sym c.new-left.ensures.items) tt;
}

pub loop-n-preserved : goal.loop-n-preserved
loop-n-preserved c =
    let p = c.args.pair.now in
    let n : ℕ = c.loop-n.n in
    let f : ℕ → Drain = left_of c.args.words.now c.args.client c.args.objects.now in
    let of_up : IsTrue c.is_up.result ↔ IsUp p.conn.masks.periods n =
    subst (λ (o : ConnState). IsTrue c.is_up.result ↔ IsUp o.masks.periods n) c.conn-in-loop-n.ensures c.is_up.ensures.up in
    let shown : (t : Terms) (steps : List PairStep) → StandsFor p t steps → n < shows_in steps =
    λ t steps s. (let all = c.shows-n-end.ensures.told (history t steps).server (subst (λ (o : ConnState). ConnStandsFor o (history t steps).server) (sym c.conn.ensures) s.conn) ∙ shows_told t steps in omega (arith, all)) in
    elim c.if-is_up.branch [
      | then-is_up+in_ok-add w ↦
          (let up : IsUp p.conn.masks.periods n = of_up.0 w.if-is_up.true in
          let word : Drain = record { n = n; bits = w.word_of-bits.result } in
          let same : word ≡ f n = λ j. record { n = n; bits = w.word_of-bits.ensures j } in
          let more : c.if-is_up.left.items ≡ c.loop-n.left.items ++ word ∷ [] = ap (λ (l : Vec Drain Global). l.items) w.left-is ∙ w.in_ok-add.ensures in
          record {
            told = λ t steps s.
                more ∙ (λ j. c.loop-n.invariant.told t steps s j ++ same j ∷ [])
                ∙ sym (made_yes f (λ m. not (is_hidden_in steps m)) n (up-passes p t steps s n up));
            up = subst (λ (l : List Drain). AllByRecursion (λ (d : Drain). IsUp p.conn.masks.periods d.n) l) (sym more)
                (all_push (λ (d : Drain). IsUp p.conn.masks.periods d.n) c.loop-n.left.items word c.loop-n.invariant.up up);
          })
      | else-is_up w ↦
          (let same : c.if-is_up.left.items ≡ c.loop-n.left.items = ap (λ (l : Vec Drain Global). l.items) w.left-is in
          record {
            told = λ t steps s.
                same ∙ c.loop-n.invariant.told t steps s
                ∙ sym (made_no f (λ m. not (is_hidden_in steps m)) n (down-fails p t steps s n (shown t steps s)
                (λ up. let yes : true ≡ false = sym (of_up.1 up) ∙ w.if-is_up.false in cc)));
            up = subst (λ (l : List Drain). AllByRecursion (λ (d : Drain). IsUp p.conn.masks.periods d.n) l) (sym same) c.loop-n.invariant.up;
          })
    ]

pub returns-clause-told : goal.returns-clause-told
returns-clause-told c t steps s =
    let f : ℕ → Drain = left_of c.args.words.now c.args.client c.args.objects.now in
    let all : c.shows-n-end.result ≡ shows_in steps = c.shows-n-end.ensures.told (history t steps).server (subst (λ (o : ConnState). ConnStandsFor o (history t steps).server) (sym c.conn.ensures) s.conn) ∙ shows_told t steps in
    let end : c.loop-n.n ≡ shows_in steps = omega (arith, all) in
    c.loop-n.invariant.told t steps s ∙ ap (λ k. map f (filter (λ n. not (is_hidden_in steps n)) (upto k))) end
