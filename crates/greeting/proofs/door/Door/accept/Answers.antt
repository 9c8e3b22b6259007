use Rattle.std.proofs.Common.{◌≡◌, ◌∙◌, ◌<◌, List, length, Option, Some, None, ap, subst, sym, arith}
use Rattle.std.specs.Prelude.{slice_index_or}
use Rattle.std.proofs.lemmas.Grind.{common_steps}
use Rattle.greeting.specs.declared.door.Guest.{Guest}
use Rattle.greeting.specs.Door.{DoorState}
use Rattle.greeting.proofs.Standing.{accepted, free_at}
use Rattle.greeting.proofs.door.Door.accept.Goals as goal

pub returns-clause-log : goal.returns-clause-log
returns-clause-log c =
    let d = c.args.self.now in
    let seats : List (Option Guest) = c.self.inside.seats.items in
    let same : seats ≡ d.seats = ap (λ (s : DoorState). s.seats) c.self.view_is in
    let asks : d.asking ≡ Some c.in-Some.guest = ap (λ (s : DoorState). s.asking) (sym c.self.view_is) ∙ c.in-Some.is in
    let lt : c.args.client < length seats = grind (arith, common_steps) in
    let free : slice_index_or seats c.args.client None ≡ None =
    free_at seats c.args.client c.index.result.now lt c.index.ensures (sym c.is_some.ensures ∙ c.if-is_some.false) in
    accepted d c.take.new.self c.in-Some.guest c.args.client c.take.new.reply asks
    (subst (λ (l : List (Option Guest)). c.args.client < length l) same lt)
    (subst (λ (l : List (Option Guest)). slice_index_or l c.args.client None ≡ None) same free) c.take.ensures.given
