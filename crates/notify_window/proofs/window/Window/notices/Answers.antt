use Rattle.std.proofs.Common.{◌≡◌, ℕ, ◌+◌, ◌-◌, ◌∙◌, ap, arith, nat_lt, if◌then◌else◌}
use Rattle.std.specs.Int.{bit_at}
use Rattle.notify_window.specs.declared.Notices.{Notices}
use Rattle.notify_window.specs.Log.{judged_of, notices_of}
use Rattle.notify_window.proofs.Verdicts.{notices_bits, notices_none}
use Rattle.notify_window.proofs.window.Window.notices.Goals as goal

same : (a b : Notices) → a.first ≡ b.first → a.count ≡ b.count → a.bits ≡ b.bits → a ≡ b
same a b first count bits =
    let with_first : ℕ → Notices = λ n. record { first = n; count = a.count; bits = a.bits } in
    let with_count : ℕ → Notices = λ n. record { first = b.first; count = n; bits = a.bits } in
    let with_bits : ℕ → Notices = λ n. record { first = b.first; count = b.count; bits = n } in
    ap with_first first ∙ ap with_count count ∙ ap with_bits bits

pub returns-then-horizon-first-clause-notices : goal.returns-then-horizon-first-clause-notices
returns-then-horizon-first-clause-notices c log s =
    let first : c.self.inside.first_unjudged ≡ judged_of log + 1 = ap (λ w. w.first_unjudged) c.self.view_is ∙ s.judged in
    same _ (notices_of c.args.horizon c.args.mask log) first (omega arith) (notices_none c.args.horizon c.args.mask log (omega arith))

pub returns-clause-notices : goal.returns-clause-notices
returns-clause-notices c log s =
    let first : c.self.inside.first_unjudged ≡ judged_of log + 1 = ap (λ w. w.first_unjudged) c.self.view_is ∙ s.judged in
    let count : c.args.horizon + 1 - c.self.inside.first_unjudged ≡ c.args.horizon - judged_of log = omega arith in
    same _ (notices_of c.args.horizon c.args.mask log) first count
    (notices_bits _ c.args.horizon c.args.mask log c.turned.type_inv
    (λ i l. c.turned.ensures i l ∙ ap (λ n. if nat_lt i n then bit_at c.args.mask (n - 1 - i) else 0) count))
