use Rattle.std.proofs.Common.{◌∙◌, ap, arith, Err}
use Rattle.std.proofs.lemmas.Bool.Decides.{nat_tests}
use Rattle.stream_manager.specs.declared.config.ConfigFault.TheVariants as outside
use Rattle.tribes_ends.proofs.tables.config.Goals as goal

pub returns-in-Err-Client-clause-refused : goal.returns-in-Err-Client-clause-refused
returns-in-Err-Client-clause-refused c =
    let cause = (c.new.ensures.cause (outside.Client c.in-Err-Client.field-0-0)).0 (c.in-Err-Client.is ∙ ap Err c.in-Err-Client.field-0-is) in
    let most = cause.1 in
    let same = c.narrow-client.ensures.same in
    grind (arith, nat_tests)

pub returns-in-Err-Life-clause-refused : goal.returns-in-Err-Life-clause-refused
returns-in-Err-Life-clause-refused c =
    let cause = (c.new.ensures.cause (outside.Life c.in-Err-Life.life)).0 (c.in-Err-Life.is ∙ ap Err c.in-Err-Life.field-0-is) in
    let is = cause.0 in
    let client = cause.1 in
    let life = cause.2 in
    let same = c.narrow-client.ensures.same in
    let most = c.narrow-client.ensures.most in
    grind (arith, nat_tests)

pub returns-in-Err-Version-clause-refused : goal.returns-in-Err-Version-clause-refused
returns-in-Err-Version-clause-refused c =
    let cause = (c.new.ensures.cause (outside.Version c.in-Err-Version.field-0-0)).0 (c.in-Err-Version.is ∙ ap Err c.in-Err-Version.field-0-is) in
    let is = cause.0 in
    let client = cause.1 in
    let least = cause.2.0 in
    let life = cause.2.1 in
    let version = cause.3 in
    let same = c.narrow-client.ensures.same in
    let most = c.narrow-client.ensures.most in
    let same' = c.narrow-version.ensures.same in
    let most' = c.narrow-version.ensures.most in
    grind (arith, nat_tests)

pub returns-in-Err-MoveBits-clause-refused : goal.returns-in-Err-MoveBits-clause-refused
returns-in-Err-MoveBits-clause-refused c =
    let cause = (c.new.ensures.cause (outside.MoveBits c.in-Err-MoveBits.field-0-0)).0 (c.in-Err-MoveBits.is ∙ ap Err c.in-Err-MoveBits.field-0-is) in
    let is = cause.0 in
    let client = cause.1 in
    let least = cause.2.0 in
    let life = cause.2.1 in
    let some = cause.3.0 in
    let version = cause.3.1 in
    let bits = cause.4 in
    let same = c.narrow-client.ensures.same in
    let most = c.narrow-client.ensures.most in
    let same' = c.narrow-version.ensures.same in
    let most' = c.narrow-version.ensures.most in
    let same'' = c.narrow-bits.ensures.same in
    let most'' = c.narrow-bits.ensures.most in
    let given = c.move_bits.ensures in
    grind (arith, nat_tests)

pub returns-in-Err-Size-clause-refused : goal.returns-in-Err-Size-clause-refused
returns-in-Err-Size-clause-refused c =
    let cause = (c.new.ensures.cause (outside.Size c.in-Err-Size.size)).0 (c.in-Err-Size.is ∙ ap Err c.in-Err-Size.field-0-is) in
    let is = cause.0 in
    let client = cause.1 in
    let least = cause.2.0 in
    let life = cause.2.1 in
    let some = cause.3.0 in
    let version = cause.3.1 in
    let some-bits = cause.4.0 in
    let bits = cause.4.1 in
    let size = cause.5 in
    let same = c.narrow-client.ensures.same in
    let most = c.narrow-client.ensures.most in
    let same' = c.narrow-version.ensures.same in
    let most' = c.narrow-version.ensures.most in
    let same'' = c.narrow-bits.ensures.same in
    let most'' = c.narrow-bits.ensures.most in
    let given = c.move_bits.ensures in
    grind (arith, nat_tests)
