use Rattle.std.proofs.Common.{◌≡◌, ◌<◌, ◌-◌, ◌^◌, List, [], ◌∷◌, ◌++◌, sym, subst, arith}
use Rattle.std.specs.List.{All}
use Rattle.std.proofs.lemmas.List.Elements.{All-nil, All-append, All-cons}
use Rattle.dirty_lanes.specs.declared.limits.TheConstants.{MAX_LANE_FIELDS}
use Rattle.world_lanes.specs.declared.raising.Changed.{Changed}
use Rattle.world_lanes.proofs.Listed.{listed_as}
use Rattle.world_lanes.proofs.listing.list_field.Goals as goal

pub returns-then-index-object-clause-told : goal.returns-then-index-object-clause-told
returns-then-index-object-clause-told c = listed_as c.args.changed.now.items (c.len-n.result - 1) c.index_mut.result.now c.index.result.now c.index-then-index-object.result.now
    c.with_field.result c.args.object c.args.field (omega arith) c.index_mut.ensures.value c.index.ensures c.index-then-index-object.ensures c.if-index-object.true c.with_field.ensures.bits

one_more : (P : Changed → Type 0) (xs ys : List Changed) (x : Changed) → ys ≡ xs ++ x ∷ [] → P x → All P xs → All P ys
one_more P xs ys x is e all = subst (All P) (sym is) (All-append P xs (x ∷ []) all (All-cons P x [] e (All-nil P)))

pub returns-clause-there : goal.returns-clause-there
returns-clause-there c = λ most l all.
    one_more (λ x. x.object < most) c.args.changed.now.items c.push_reserved.new.self.items (record { object = c.args.object; bits = c.with_field-2.result }) c.push_reserved.ensures.items l all

pub returns-clause-bits : goal.returns-clause-bits
returns-clause-bits c =
    one_more (λ x. x.bits < 2 ^ MAX_LANE_FIELDS) c.args.changed.now.items c.push_reserved.new.self.items (record { object = c.args.object; bits = c.with_field-2.result }) c.push_reserved.ensures.items c.with_field-2.ensures.few c.requires.bits
