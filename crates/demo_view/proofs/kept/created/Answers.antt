use Rattle.std.proofs.Common.{◌≡◌, ◌∙◌, [], ◌∷◌, ◌++◌, List, None, sym, ap, subst}
use Rattle.std.specs.Prelude.{reverse}
use Rattle.std.specs.List.{AllByRecursion}
use Rattle.std.proofs.lemmas.List.{take_all}
use Rattle.quantised_fields.specs.declared.kind.Kind.{Kind}
use Rattle.tn_types.specs.Checks.{first_fault}
use Rattle.wire_format.specs.declared.ghosts.GhostItem.{GhostItem}
use Rattle.wire_format.specs.Ghosts.{IsGhostInRange}
use Rattle.ghost_client.specs.State.{copy_in}
use Rattle.ghost_client.specs.Faults.{item_fault}
use Rattle.ghost_client.specs.StandsFor.{StandsFor}
use Rattle.demo_view.proofs.Keeping.{next-in-range, next-fits, made-seen}
use Rattle.demo_view.proofs.kept.created.Goals as goal

-- the list that is taken has the one create
one : (c : goal.After-one-in-creates-2-1) → c.push.new.self ≡ c.create-item.result ∷ []
one c = c.push.ensures ∙ ap (λ (l : List GhostItem). l ++ c.copied_item.result ∷ []) c.clear.ensures ∙ ap (λ (x : GhostItem). let l : List GhostItem = x ∷ [] in l) c.copied_item.ensures

pub take_checked-requires-clause-range : goal.take_checked-requires-clause-range
take_checked-requires-clause-range c =
    subst (λ (l : List GhostItem). AllByRecursion (IsGhostInRange c.creates.copies.kinds) l) (sym (one c))
    (subst (λ (kinds : List Kind). AllByRecursion (IsGhostInRange kinds) (c.create-item.result ∷ [])) (sym c.creates.invariant.kinds)
    (next-in-range c.args.kinds.now c.args.creates.now c.creates.create-index c.create-item.result c.creates-test.true c.create-item.is c.requires))

pub take_checked-requires-clause-none : goal.take_checked-requires-clause-none
take_checked-requires-clause-none c =
    subst (λ (l : List GhostItem). first_fault (item_fault (copy_in c.creates.copies.slots) 18446744073709551615) [] l ≡ None) (sym (one c))
    (next-fits c.args.kinds.now c.args.creates.now c.creates.create-index c.create-item.result c.creates-test.true c.create-item.is c.requires c.creates.copies c.creates.invariant.stands)

pub returns-clause-seen : goal.returns-clause-seen
returns-clause-seen c =
    made-seen c.args.kinds.now c.creates.copies (reverse c.args.creates.now) c.creates.invariant.kinds c.requires
    (subst (λ (l : List GhostItem). StandsFor c.creates.copies (reverse l)) (take_all c.creates.create-index c.args.creates.now c.creates-test.false) c.creates.invariant.stands)
