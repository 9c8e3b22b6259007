use Rattle.std.proofs.Common.{◌≡◌, ℕ, List, false, inl, inr, arith, sym, subst}
use Rattle.match_script.specs.Words.{is_number}
use Rattle.commands.proofs.Numbers.{is_plain, none_said, said, said_small, said_great, unread}
use Rattle.commands.proofs.number.number.Goals as goal

pub returns-then-not-begins_plainly-clause-said : goal.returns-then-not-begins_plainly-clause-said
returns-then-not-begins_plainly-clause-said c =
    sym (none_said c.args.least c.args.most c.args.word.now
    (subst (λ (w : List ℕ). is_number w ≡ false) c.as_bytes.ensures.value (c.begins_plainly.ensures.other c.if-not-begins_plainly.true)))

pub returns-then-n-most-clause-said : goal.returns-then-n-most-clause-said
returns-then-n-most-clause-said c =
    let p = is_plain c.as_bytes.result.now c.args.word.now c.as_bytes.ensures.value (c.begins_plainly.ensures.plain c.if-not-begins_plainly.false) in
    said c.args.least c.args.most c.args.word.now p c.in-Ok.n c.in-Ok.ensures.value.0 c.if-least-n.true c.if-n-most.true

pub returns-else-least-n-clause-said : goal.returns-else-least-n-clause-said
returns-else-least-n-clause-said c =
    let p = is_plain c.as_bytes.result.now c.args.word.now c.as_bytes.ensures.value (c.begins_plainly.ensures.plain c.if-not-begins_plainly.false) in
    elim c.else-least-n.either [
      | inl q ↦ said_great c.args.least c.args.most c.args.word.now p c.in-Ok.n c.in-Ok.ensures.value.0 q.1
      | inr q ↦ said_small c.args.least c.args.most c.args.word.now p c.in-Ok.n c.in-Ok.ensures.value.0 q
    ]

pub returns-in-Err-clause-said : goal.returns-in-Err-clause-said
returns-in-Err-clause-said c =
    let p = is_plain c.as_bytes.result.now c.args.word.now c.as_bytes.ensures.value (c.begins_plainly.ensures.plain c.if-not-begins_plainly.false) in
    unread c.args.least c.args.most c.args.word.now p c.in-Err.ensures.value.0 (omega (arith, c.ranges.most.fits))
