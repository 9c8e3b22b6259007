use Rattle.std.proofs.Common.{◌≡◌, ◌∙◌, ◌≤◌, ◌+◌, ◌++◌, ◌∷◌, [], ℕ, true, List, length, sym, ap, subst, arith}
use Rattle.std.specs.Prelude.{nat_lt, nat_le, vec_len, vec_capacity}
use Rattle.std.proofs.lemmas.Bool.{leb-true}
use Rattle.tn_types.specs.declared.moves.MoveBits.{MoveBits}
use Rattle.pair_core.specs.stream_manager.Stands.{terms_of}
use Rattle.pair_core.specs.History.{PairStep}
use Rattle.pair_core.specs.Answers.{accepted_in}
use Rattle.pair_core.specs.Calls.{step_of}
use Rattle.kept_pair.specs.Bringing.{brought}
use Rattle.kept_pair.specs.Kept.{KeptState, MayStep, AreKept, newest_first}
use Rattle.kept_pair.proofs.Cutting.{kept-plain, fourth}
use Rattle.kept_pair.proofs.Counts.{brought-new, brought-few}
use Rattle.kept_pair.proofs.Replaying.{kept-more}
use Rattle.kept_pair.proofs.pair.KeptPair.step.Goals as goal
use Rattle.kept_pair.proofs.pair.KeptPair.step.Goals.{After-brought}

module _ (c : After-brought) where
  more : c.brought.result.now ≡ brought c.args.step c.step-answer.result c.step-answer.new.self.conn.taken
  more = c.brought.ensures ∙ ap (λ k. brought c.args.step c.step-answer.result k.taken) c.conn.ensures

  accepted : accepted_in (terms_of c.self.inside.pair.conn) (step_of c.args.step ∷ newest_first c.self.inside.steps.list)
      ≡ accepted_in (terms_of c.self.inside.pair.conn) (newest_first c.self.inside.steps.list) ++ c.brought.result.now
  accepted =
      brought-new (terms_of c.self.inside.pair.conn) (newest_first c.self.inside.steps.list) c.self.inside.pair c.step-answer.new.self c.args.step c.step-answer.result c.self.invariant.0.replays.stands
      (c.step-answer.ensures.answer (terms_of c.self.inside.pair.conn) (newest_first c.self.inside.steps.list) c.self.invariant.0.replays.stands) c.step-answer.ensures.moves
      ∙ ap (λ (ms : List MoveBits). accepted_in (terms_of c.self.inside.pair.conn) (newest_first c.self.inside.steps.list) ++ ms) (sym more)

pub add_moves-requires : goal.add_moves-requires
add_moves-requires c =
    let few = brought-few (terms_of c.self.inside.pair.conn) (newest_first c.self.inside.steps.list) (step_of c.args.step) c.brought.result.now (accepted c) in
    let room : nat_le (vec_len c.self.inside.moves + 32) (vec_capacity c.self.inside.moves) ≡ true =
    fourth c.self.inside.pair.prepared c.self.inside.steps.has_room (nat_lt (vec_len c.self.inside.befores) (vec_capacity c.self.inside.befores)) (nat_le (vec_len c.self.inside.moves + 32) (vec_capacity c.self.inside.moves))
    (nat_le 2048 (vec_capacity c.self.inside.noted)) (ap (λ k. k.prepared) c.self.view_is ∙ c.requires.prepared) in
    let below = leb-true (vec_len c.self.inside.moves + 32) (vec_capacity c.self.inside.moves) room in
    omega arith

pub invariant_of-self : goal.invariant_of-self
invariant_of-self c =
    let met = subst (λ (k : KeptState). MayStep k (step_of c.args.step)) (sym c.self.view_is) c.requires.may in
    let here = (goal.at.invariant_of-self c).After-brought in
    let list : c.push.new.self.list ≡ c.self.inside.steps.list ++ step_of c.args.step ∷ [] = c.push.ensures.list ∙ ap (λ (s : PairStep). c.self.inside.steps.list ++ s ∷ []) (kept-plain c.args.step) in
    let few = c.push.ensures.few in
    let befores : c.push_reserved.new.self.items ≡ c.self.inside.befores.items ++ length c.self.inside.moves.items ∷ [] =
    c.push_reserved.ensures.items ∙ ap (λ (n : ℕ). c.self.inside.befores.items ++ n ∷ []) (let l = c.len.ensures in let ok = c.self.inside.moves.ok in let e : c.len.result ≡ length c.self.inside.moves.items = omega arith in e) in (
      subst (λ (x : List PairStep × List ℕ). AreKept c.step-answer.new.self x.0 c.add_moves.new.moves.items x.1) (λ j. (sym list j, sym befores j))
          (kept-more c.self.inside.pair c.step-answer.new.self c.self.inside.steps.list c.self.inside.moves.items c.add_moves.new.moves.items c.self.inside.befores.items (step_of c.args.step) c.self.invariant.0
          (subst (λ (l : List PairStep). length l ≤ 65536) list few) met c.learn_payload.ensures
          (c.step-answer.ensures.stands (terms_of c.self.inside.pair.conn) (newest_first c.self.inside.steps.list) c.self.invariant.0.replays.stands)
          (c.add_moves.ensures ∙ ap (λ (ms : List MoveBits). ms ++ c.brought.result.now) c.self.invariant.0.moves_are ∙ sym (accepted here)) c.step-answer.ensures.keeping),
      let room = c.push.ensures.drain_room in let before = c.self.invariant.1 in omega arith,
    )

pub returns-clause-terms : goal.returns-clause-terms
returns-clause-terms c =
    (c.step-answer.ensures.stands (terms_of c.self.inside.pair.conn) (newest_first c.self.inside.steps.list) c.self.invariant.0.replays.stands).terms
    ∙ ap (λ (k : KeptState). terms_of k.pair.conn) c.self.view_is
