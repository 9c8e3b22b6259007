use Rattle.std.proofs.Common.{◌≡◌, None, Ok, refl, sym, subst}
use Rattle.tribes_ends.specs.Making.{IsMadeUnless, config_refusal, kinds_refusal, blocks_refusal, server_refusal}
use Rattle.tribes_ends.proofs.Passing.{made-none}
use Rattle.tribes_ends.proofs.link.Link.server.Goals as goal

pub returns-clause-refused : goal.returns-clause-refused
returns-clause-refused c =
    let config : config_refusal c.args.row.now ≡ None = sym c.in_ok-config.ensures.refused in
    let kinds : kinds_refusal c.args.kinds.now c.args.fields.now ≡ None = sym c.in_ok-table.ensures.refused in
    let blocks : blocks_refusal c.args.bytes.now c.args.lengths.now ≡ None = made-none _ c.in_ok-blocks.blocks c.in_ok-blocks.ensures.refused in
    let none : server_refusal c.args.row.now c.args.kinds.now c.args.fields.now c.args.bytes.now c.args.lengths.now ≡ None = rw (config, kinds, blocks) refl in
    subst (λ o. IsMadeUnless o (Ok c.sendable.result)) (sym none) tt
