use Rattle.std.proofs.Common.{◌≡◌, ◌∙◌, ap, subst, sym, true}
use Rattle.greeting.specs.declared.words.Sixteen.{Sixteen}
use Rattle.greeting.specs.Datagrams.{nonce_in, number_in}
use Rattle.greeting.specs.Door.{is_right_number, Admits}
use Rattle.greeting.proofs.Standing.{admitted}
use Rattle.greeting.proofs.door.Door.check.Goals as goal

pub returns-clause-answer : goal.returns-clause-answer
returns-clause-answer c =
    let d = c.args.self.now in
    let bytes = c.args.bytes.now in
    let right : is_right_number d.secret d.before c.args.from (nonce_in bytes) (number_in bytes) ≡ true =
    ap (λ (n : Sixteen). is_right_number d.secret d.before c.args.from n (number_in bytes)) (sym c.nonce_in-nonce.ensures)
    ∙ ap (λ (m : Sixteen). is_right_number d.secret d.before c.args.from c.nonce_in-nonce.result m) (sym c.number_in.ensures)
    ∙ sym c.is_right.ensures ∙ c.if-not-is_right.false in
    admitted d c.args.from bytes c.admit.result (c.requires.answer, right)
    (subst (λ (n : Sixteen). Admits d c.args.from n c.admit.result) c.nonce_in-nonce.ensures c.admit.ensures.answer)
