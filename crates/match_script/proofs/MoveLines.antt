-- The move of a line, by its parts.
use Rattle.std.proofs.Common.{◌≡◌, ℕ, Bool, true, List, Ok, refl, sym, ap, ◌∙◌}
use Rattle.std.specs.Prelude.{ℤ}
use denote.Struct.Props.{props}
use Rattle.tn_types.specs.declared.moves.Move.{Move as PlayerMove}
use Rattle.match_script.specs.declared.types.BodyLine.TheVariants.{Move}
use Rattle.match_script.specs.Words.{number, flag}
use Rattle.tn_types.specs.Steps.{is_step}
use Rattle.match_script.specs.Steps.{GivesStride, step}
use Rattle.match_script.specs.Lines.{move_line}

same_test : (z : ℤ) (p q : is_step z ≡ true) → p ≡ q
same_test z = hlevel props

-- a step that a word says is the one of this range
the_step : (z : ℤ) (word : List ℕ) (within : is_step z ≡ true) → GivesStride (Ok z) (step word) → step word ≡ Ok (record { value = z; within = within })
the_step z word within h = h.1 ∙ ap (λ (r : is_step z ≡ true). Ok (record { value = z; within = r })) (same_test z h.0 within)

pub move_read : (clients : ℕ) (c dx dy fire act : List ℕ) (client : ℕ) (m : PlayerMove) → number clients c ≡ Ok client → GivesStride (Ok m.dx) (step dx) → GivesStride (Ok m.dy) (step dy) → flag fire ≡ Ok m.fire → flag act ≡ Ok m.act → move_line clients c dx dy fire act ≡ Ok (Move client m)
unfolding move_line
move_read clients c dx dy fire act client m n x y f a =
    rw (n, the_step m.dx dx m.dx_range x, the_step m.dy dy m.dy_range y, f, a) refl

pub move_sampled : (clients : ℕ) (c dx dy fire act : List ℕ) (client : ℕ) (x y : ℤ) (f a : Bool) (m : PlayerMove) → Ok client ≡ number clients c → GivesStride (Ok x) (step dx) → GivesStride (Ok y) (step dy) → Ok f ≡ flag fire → Ok a ≡ flag act → m.dx ≡ x → m.dy ≡ y → m.fire ≡ f → m.act ≡ a → Ok (Move client m) ≡ move_line clients c dx dy fire act
move_sampled clients c dx dy fire act client x y f a m n sx sy sf sa ex ey ef ea =
    sym (move_read clients c dx dy fire act client m (sym n) (rw ex sx) (rw ey sy) (rw ef (sym sf)) (rw ea (sym sa)))
