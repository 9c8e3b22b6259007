use Rattle.std.proofs.Common.{ℕ, List, [], ◌-◌, Bool, cond, ap, sym, refl, get_or, set, bit_and, arith}
use Rattle.std.proofs.lemmas.List.{set-get_or}
use Rattle.ghost_rows.specs.declared.slot_rows.Standing.{Standing}
use Rattle.ghost_rows.specs.Kept.{row_at, IsCarried}
use Rattle.ghost_rows.specs.RowLists.{rows_of}
use Rattle.ghost_rows.proofs.RowLists.{row_is, row_put}
use Rattle.ghost_rows.proofs.RowSteps.{carried_row, no_bit}
use Rattle.ghost_rows.proofs.slot_rows.Rows.carry.Goals as goal
use Rattle.ghost_rows.proofs.slot_rows.Rows.carry.Goals.{then-left-ne0, else-left-ne0}

pub returns : goal.returns
returns c =
    let v = c.self.inside in
    let i = c.args.slot in
    let old = c.args.self.now in
    let mask = c.args.mask in
    let s : Standing = c.index.result.now in
    let last : ℕ = c.index-2.result.now in
    let to : Standing = record { due = bit_and s.due (4294967295 - mask); turn = c.args.seq } in
    let P = IsCarried c.args.seq mask (row_at old i) in
    elim c.if-left-ne0.branch [
      | then-left-ne0 w ↦
          let k : List ℕ = w.index_mut.result.now in
          let was = row_is v old c.self.invariant c.self.view_is i (omega arith) s last last k k c.index.ensures c.index-2.ensures w.index_mut.ensures.value in
          rw w.self-inside-is
          (row_put v old c.self.invariant c.self.view_is i (omega arith) to mask w.carry_fields.new.carriers _ refl P
          (rw was (carried_row s last k c.args.seq mask w.carry_fields.new.carriers c.ranges.mask.fits w.carry_fields.ensures)))
      | else-left-ne0 w ↦
          let k = get_or v.carriers.items i [] in
          let was = row_is v old c.self.invariant c.self.view_is i (omega arith) s last last k [] c.index.ensures c.index-2.ensures refl in
          rw w.self-inside-is
          (row_put v old c.self.invariant c.self.view_is i (omega arith) to mask k _
          (ap (λ (r : List (List ℕ)). rows_of (set v.standings.items i to) (set v.lasts.items i mask) r) (set-get_or v.carriers.items i [])) P
          (rw was (carried_row s last k c.args.seq mask k c.ranges.mask.fits (λ f lt.
          ap (λ (b : Bool). cond b s.turn (get_or k f 0)) (sym (no_bit (bit_and last (4294967295 - mask)) f w.if-left-ne0.false))))))
    ]
