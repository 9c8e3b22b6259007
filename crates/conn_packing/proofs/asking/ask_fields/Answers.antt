use Rattle.std.proofs.Common.{◌≡◌, ◌∙◌, ℕ, ◌+◌, Bool, true, false, cond, List, [], ◌∷◌, ◌++◌, refl, sym, ap, subst, arith, append-nil, rules}
use Rattle.std.specs.Prelude.{ℤ, map, filter, IsSome}
use Rattle.std.proofs.lemmas.Int.{to_z-of_z}
use mir.Syntax.{w64}
use mir.Val.{to_z, of_z, SFits}
use Rattle.tn_types.specs.BitWords.{has_bit}
use Rattle.ghost_model.specs.Words.{upto}
use Rattle.conn_packing.specs.Asking.{AreAsked}
use Rattle.conn_packing.proofs.Asked.{asked-none, asked-one, asked-then, fields-next, fields-first, fields-rest}
use Rattle.conn_packing.proofs.asking.ask_fields.Goals as goal
use Rattle.conn_packing.proofs.asking.ask_fields.Goals.{then-has_field, else-has_field}

pub fields-init : goal.fields-init
fields-init g c = record {
  told = subst (λ (fs : List (ℕ × ℕ)). AreAsked g.V.Values.ranges g.V.Values.asks c.args.values.now c.args.values.now fs c.args.listed.items c.args.listed.items) (sym (fields-first c.args.choice.now.n c.args.choice.now.mask))
      (asked-none g.V.Values.ranges g.V.Values.asks c.args.values.now c.args.listed.items (g.met.V.Values.asks_none c.args.values.now));
  few = omega arith;
  room = refl;
}

pub value-requires : goal.value-requires
value-requires g c =
    let set : has_bit c.args.choice.now.mask c.fields.field ≡ true = sym c.has_field.ensures ∙ c.if-has_field.true in
    let told = c.fields.invariant.told in
    subst (λ o. IsSome o) (sym (g.met.V.Values.asks_ranges c.args.values.now c.fields.values told.reads c.args.choice.now.n c.fields.field told.asked)) (c.requires.ranged c.fields.field c.fields-test.true set)

pub returns-then-mask-field-eq0-clause-told : goal.returns-then-mask-field-eq0-clause-told
returns-then-mask-field-eq0-clause-told g c =
    subst (λ (fs : List (ℕ × ℕ)). AreAsked g.V.Values.ranges g.V.Values.asks c.args.values.now c.fields.values fs c.args.listed.items c.fields.list.items)
    (fields-rest c.args.choice.now.n c.args.choice.now.mask c.fields.field (omega (arith, c.fields-test.true)) c.if-mask-field-eq0.true) c.fields.invariant.told

pub fields-preserved : goal.fields-preserved
fields-preserved g c = elim c.if-has_field.branch [
  | then-has_field w ↦
      let set : has_bit c.args.choice.now.mask c.fields.field ≡ true = sym c.has_field.ensures ∙ w.if-has_field.true in
      let e = w.value.ensures in
      let z = w.value.result.value in
      let fits : SFits w64 z = search rules in
      let same : to_z w64 (of_z w64 z) ≡ z = to_z-of_z w64 z fits in
      let pushed : c.if-has_field.list.items ≡ c.fields.list.items ++ w.value.result.value ∷ [] =
      ap (λ x. x.items) w.list-is ∙ w.push_reserved.ensures.items ∙ ap (λ (v : ℤ). c.fields.list.items ++ v ∷ []) same in
      let one = asked-one g.V.Values.ranges g.V.Values.asks c.fields.values w.value.new.self w.value.result c.args.choice.now.n c.fields.field
      c.fields.list.items c.if-has_field.list.items pushed e.asked.0 e.asked.1 e.range e.asks in
      let both = asked-then g.V.Values.ranges g.V.Values.asks c.args.values.now c.fields.values w.value.new.self
      (map {B = ℕ × ℕ} (λ f. (c.args.choice.now.n, f)) (filter (has_bit c.args.choice.now.mask) (upto c.fields.field))) ((c.args.choice.now.n, c.fields.field) ∷ []) c.args.listed.items c.fields.list.items c.if-has_field.list.items
      (g.met.V.Values.asks_more c.args.values.now c.fields.values w.value.new.self) (g.met.V.Values.asks_ranges c.args.values.now c.fields.values) c.fields.invariant.told one in
      record {
        told = subst (λ v. AreAsked g.V.Values.ranges g.V.Values.asks c.args.values.now v (map {B = ℕ × ℕ} (λ f. (c.args.choice.now.n, f)) (filter (has_bit c.args.choice.now.mask) (upto (c.fields.field + 1)))) c.args.listed.items c.if-has_field.list.items) (sym w.values-is)
            (subst (λ (fs : List (ℕ × ℕ)). AreAsked g.V.Values.ranges g.V.Values.asks c.args.values.now w.value.new.self fs c.args.listed.items c.if-has_field.list.items)
            (sym (fields-next c.args.choice.now.n c.args.choice.now.mask c.fields.field ∙ ap (λ (b : Bool). map {B = ℕ × ℕ} (λ f. (c.args.choice.now.n, f)) (filter (has_bit c.args.choice.now.mask) (upto c.fields.field)) ++ cond b ((c.args.choice.now.n, c.fields.field) ∷ []) []) set)) both);
        few = rw w.list-is (let p = w.push_reserved.ensures.len in let q = c.fields.invariant.few in omega arith);
        room = rw w.list-is (w.push_reserved.ensures.capacity ∙ c.fields.invariant.room);
      }
  | else-has_field w ↦
      let off : has_bit c.args.choice.now.mask c.fields.field ≡ false = sym c.has_field.ensures ∙ w.if-has_field.false in
      record {
        told = subst (λ v. AreAsked g.V.Values.ranges g.V.Values.asks c.args.values.now v (map {B = ℕ × ℕ} (λ f. (c.args.choice.now.n, f)) (filter (has_bit c.args.choice.now.mask) (upto (c.fields.field + 1)))) c.args.listed.items c.if-has_field.list.items) (sym w.values-is)
            (subst (λ (l : List ℤ). AreAsked g.V.Values.ranges g.V.Values.asks c.args.values.now c.fields.values (map {B = ℕ × ℕ} (λ f. (c.args.choice.now.n, f)) (filter (has_bit c.args.choice.now.mask) (upto (c.fields.field + 1)))) c.args.listed.items l) (sym (ap (λ x. x.items) w.list-is))
            (subst (λ (fs : List (ℕ × ℕ)). AreAsked g.V.Values.ranges g.V.Values.asks c.args.values.now c.fields.values fs c.args.listed.items c.fields.list.items)
            (sym (fields-next c.args.choice.now.n c.args.choice.now.mask c.fields.field ∙ ap (λ (b : Bool). map {B = ℕ × ℕ} (λ f. (c.args.choice.now.n, f)) (filter (has_bit c.args.choice.now.mask) (upto c.fields.field)) ++ cond b ((c.args.choice.now.n, c.fields.field) ∷ []) []) off
            ∙ append-nil (map {B = ℕ × ℕ} (λ f. (c.args.choice.now.n, f)) (filter (has_bit c.args.choice.now.mask) (upto c.fields.field))))) c.fields.invariant.told));
        few = rw w.list-is (let q = c.fields.invariant.few in omega arith);
        room = rw w.list-is c.fields.invariant.room;
      }
]
