use Rattle.std.proofs.Common.{ℕ, ◌∙◌, ap, Ok, Err}
use Rattle.std.specs.Prelude.{Result, IfOk}
use Rattle.match_report.specs.declared.told.Way.TheVariants as way
use Rattle.own_lists.specs.pair_core.History.{Raw}
use Rattle.client_seat.specs.Told.{arrived_told}
use Rattle.client_seat.proofs.seat.Seat.raw.Goals as goal

if_ok : {T E : Type 0} (r : Result T E) {P Q : T → Type 0} → ((x : T) → P x → Q x) → IfOk r P → IfOk r Q
if_ok (Ok x) f p = f x p
if_ok (Err e) f p = p

pub returns-clause-told : goal.returns-clause-told
returns-clause-told c =
    if_ok c.arrive.result
    (λ told h t k s. h t k s ∙ ap (λ (room : ℕ). arrived_told way.Raw c.args.client 0 (Raw c.args.bytes room) t k) (c.room.ensures t k s))
    c.arrive.ensures.told
