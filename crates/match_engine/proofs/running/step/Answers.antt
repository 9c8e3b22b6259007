use Rattle.std.proofs.Common.{◌≡◌, ◌∙◌, Ok, Bool, true, false, sym, ap}
use Rattle.std.specs.Prelude.{Result}
use Rattle.std.specs.Option.{option_copied}
use Rattle.match_engine.proofs.Continued.{not_none, few_done}
use Rattle.match_engine.proofs.running.step.Goals as goal

not_both : {E : Type 0} (r : Result Bool E) (b : Bool) → r ≡ Ok b → b ≡ true → r ≡ Ok false → ⊥
not_both {E} r b is made ended = let e : ◌≡◌ {A = Result Bool E} (Ok true) (Ok false) = ap (λ (x : Bool). Ok x) (sym made) ∙ sym is ∙ ended in cc

pub unreachable-requires : goal.unreachable-requires
unreachable-requires g c =
    let made = c.in-Ok-true.field-0-test in
    not_none c.args.game.now c.next.new.self (λ past. not_both c.next.result c.in-Ok-true.field-0 c.in-Ok-true.is made (c.next.ensures.end.1 past)) c.next.ensures.script
    (c.next.ensures.place (c.in-Ok-true.is ∙ ap (λ (x : Bool). Ok x) made)) (c.in-Ok-true.ensures.played c.requires.played) (sym c.told.ensures.value ∙ ap option_copied c.in_default.is)

pub next-requires-clause-few : goal.next-requires-clause-few
next-requires-clause-few g c = few_done c.args.game.now c.requires.played c.requires.ranges
