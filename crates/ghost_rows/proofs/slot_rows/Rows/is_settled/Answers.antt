use Rattle.std.proofs.Common.{◌≡◌, ℕ, List, [], Bool, true, false, not, ◌&&◌, cond, ltb, ap, sym, refl, ◌∙◌, get_or, arith}
use Rattle.tn_types.specs.BitWords.{has_bit}
use Rattle.ghost_rows.specs.declared.slot_rows.Standing.{Standing}
use Rattle.ghost_rows.specs.Kept.{Row, row_at, carrier_at}
use Rattle.ghost_rows.proofs.RowLists.{row_is, standing_is}
use Rattle.ghost_rows.proofs.RowSteps.{settled_row}
use Rattle.ghost_rows.proofs.slot_rows.Rows.is_settled.Goals as goal
use Rattle.ghost_rows.proofs.slot_rows.Rows.is_settled.Goals.{then-has_field, else-has_field}

pub returns-then-not-has_field : goal.returns-then-not-has_field
returns-then-not-has_field c =
    let v = c.self.inside in
    let i = c.args.slot in
    let f = c.args.field in
    let s : Standing = c.index.result.now in
    let last : ℕ = c.index-2.result.now in
    let off : has_bit s.due f ≡ false = sym c.has_field-2.ensures ∙ c.if-not-has_field.true in
    elim c.if-has_field.branch [
      | then-has_field w ↦
          let k = get_or v.carriers.items i [] in
          let was = row_is v c.args.self.now c.self.invariant c.self.view_is i (omega arith) s last last k [] c.index.ensures c.index-2.ensures refl in
          rw (w.carrier-is, was) (settled_row s last k f c.args.judged s.turn (omega arith) off (ap (λ (b : Bool). cond b s.turn (get_or k f 0)) (sym c.has_field.ensures ∙ w.if-has_field.true)))
      | else-has_field w ↦
          let k : List ℕ = w.index-else-has_field.result.now in
          let was = row_is v c.args.self.now c.self.invariant c.self.view_is i (omega arith) s last last k k c.index.ensures c.index-2.ensures w.index-else-has_field.ensures in
          rw (w.carrier-is, was) (settled_row s last k f c.args.judged (get_or k f 0) (omega arith) off (ap (λ (b : Bool). cond b s.turn (get_or k f 0)) (sym c.has_field.ensures ∙ w.if-has_field.false)))
    ]

pub returns-else-not-has_field : goal.returns-else-not-has_field
returns-else-not-has_field c =
    let row = row_at c.args.self.now c.args.slot in
    let was = standing_is c.self.inside c.args.self.now c.self.invariant c.self.view_is c.args.slot (omega arith) c.index.result.now c.index.ensures in
    let on : has_bit row.due c.args.field ≡ true = ap (λ (r : Row). has_bit r.due c.args.field) was ∙ sym c.has_field-2.ensures ∙ c.if-not-has_field.false in
    ap not c.if-not-has_field.false ∙ sym (ap (λ (b : Bool). not b && not (ltb c.args.judged (carrier_at row c.args.field))) on)
