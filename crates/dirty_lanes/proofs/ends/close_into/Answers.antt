use Rattle.std.proofs.Common.{◌≡◌, ◌∙◌, sym, ap, ◌≤◌, ◌++◌, ◌∷◌, [], ℕ, List, subst, arith, refl, length}
use Rattle.atomic_table.specs.Table.{Final, Seen}
use Rattle.dirty_lanes.specs.declared.rule.LaneSize.{LaneSize}
use Rattle.dirty_lanes.specs.declared.view.PackView.{PackView}
use Rattle.dirty_lanes.specs.declared.view.SimView.{SimView}
use Rattle.dirty_lanes.specs.declared.view.SimStep.{SimStep}
use Rattle.dirty_lanes.specs.declared.view.View.TheVariants.{Sim}
use Rattle.dirty_lanes.specs.Rule.{RuleHolds, pack_of}
use Rattle.dirty_lanes.specs.Words.{IsLaidOut}
use Rattle.dirty_lanes.specs.Named.{IsFinal}
use Rattle.dirty_lanes.proofs.Plays.{Mine}
use Rattle.dirty_lanes.proofs.Rows.{ends_as, final_is, final_laid}
use Rattle.dirty_lanes.proofs.ends.close_into.Goals as goal

pub join_seat-requires : goal.join_seat-requires
join_seat-requires g c =
    let i = c.loop-pack.invariant in
    let p = c.pack.invariant in
    let l = c.lanes.invariant in
    let w = ap (λ z. z.words) l.named in
    let words = l.words in
    (i.0, p.named ∙ sym l.named, ap (λ (z : Mine). z.1) p.sits, omega arith, ends_as _ _ c.loop-pack.sim.me i.1.0 _ c.pack.inside.seat.me (pack_of c.pack.inside.seat.me.0) i.1.1 p.sits)

final_state : (objects key id : ℕ) (me : Mine) (v : SimView) (ws : List ℕ) (xs : List (Unit {0})) → key ≡ objects → me ≡ (Sim v, []) → Final (Seen (RuleHolds key) id me.0) ws xs → Final (Seen (RuleHolds objects) id (Sim v)) ws xs
final_state objects key id me v ws xs long is f = subst (λ (z : ℕ × Mine). Final (Seen (RuleHolds z.0) id z.1.0) ws xs) (λ j. (long j, is j)) f

pub invariant_of-result : goal.invariant_of-result
invariant_of-result g c =
    let l = c.lanes.invariant in
    let i = c.loop-pack.invariant in
    let f = final_state c.lanes.inside.objects _ c.loop-pack.sim.id c.loop-pack.sim.me i.1.0 _ _ l.long i.1.1 c.close_with-closed.ensures.values.2 in
    subst (λ (z : List ℕ). IsLaidOut (record { objects = c.lanes.inside.objects; clients = c.lanes.inside.clients; words = z })) (sym c.copy_words-words.ensures)
    (final_laid c.lanes.inside.objects c.lanes.inside.clients c.loop-pack.sim.id i.1.0 _ _ f l.some_objects l.few_objects l.some l.few)

pub returns-clause-words : goal.returns-clause-words
returns-clause-words g c =
    let i = c.loop-pack.invariant in
    let l = c.lanes.invariant in
    let v : SimView = i.1.0 in
    let len : length c.loop-pack.packs.items ≡ 0 = let ok = c.loop-pack.packs.ok in let z = c.in_default.ensures.cases.0 in grind arith in
    let empty = nothing c.loop-pack.packs.items len in
    let all : v.joined ≡ c.args.packs.items ++ c.args.sim.joined = subst (λ (z : List PackView). z ++ v.joined ≡ c.args.packs.items ++ c.args.sim.joined) empty i.1.3 in
    let f = final_state c.lanes.inside.objects _ c.loop-pack.sim.id c.loop-pack.sim.me v _ _ l.long i.1.1 c.close_with-closed.ensures.values.2 in
    let clients = ap (λ (z : LaneSize). z.clients) c.lanes.view_is in
    let few : length c.args.packs.items ≤ 16 = let a = c.requires.all in let b = l.few in omega arith in
    subst (λ (z : List SimStep × List ℕ). IsFinal z.0 c.args.packs.items (record { objects = c.lanes.inside.objects; clients = c.lanes.inside.clients; words = z.1 })) (λ j. (i.1.2 j, sym c.copy_words-words.ensures j))
    (final_is c.lanes.inside.objects c.lanes.inside.clients c.loop-pack.sim.id v _ _ c.args.packs.items c.args.sim.joined f all c.requires.numbered few)
  where
    nothing : (xs : List PackView) → length xs ≡ 0 → xs ≡ []
    nothing [] h = refl
    nothing (x ∷ xs) h = absurd (omega arith)
