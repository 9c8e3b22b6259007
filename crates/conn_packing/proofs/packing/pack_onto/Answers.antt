use Rattle.std.proofs.Common.{◌∙◌, [], sym, ap, subst, append-nil}
use Rattle.stream_manager.specs.declared.config.Config.{Config}
use Rattle.conn_packing.specs.declared.made.Made.TheVariants as made
use Rattle.conn_packing.specs.Calls.{PacksEnd}
use Rattle.conn_packing.proofs.Sent.{worn-packs, held-packs, room-packs}
use Rattle.conn_packing.proofs.packing.pack_onto.Goals as goal

pub returns-in-Held-clause-told : goal.returns-in-Held-clause-told
returns-in-Held-clause-told g c =
    let told = c.in-Held.ensures.told in
    let sent = c.ping_onto-len.ensures.bytes in (
      told.0,
      sent.0,
      subst (λ n. PacksEnd c.args.conn.now c.args.drains.now told.0 (made.Ping n) sent.0 c.ping_onto-len.new.conn) (sym sent.3)
          (held-packs c.args.conn.now c.args.drains.now told.0 c.begin.new.conn c.ping_onto-len.new.conn sent.0 told.1 c.ping_onto-len.ensures.pings sent.1),
      sent.2,
      told.2,
      told.4,
    )

pub returns-in-Worn-clause-told : goal.returns-in-Worn-clause-told
returns-in-Worn-clause-told g c =
    let told = c.in-Worn.ensures.told in (
      told.0,
      [],
      subst (λ n. PacksEnd c.args.conn.now c.args.drains.now told.0 (made.Worn n) [] c.begin.new.conn) (sym (ap (λ (k : Config). k.life) c.config.ensures.value))
          (worn-packs c.args.conn.now c.args.drains.now told.0 c.begin.new.conn told.1),
      sym (append-nil c.args.out.now.items),
      told.2,
      told.4,
    )

pub returns-in-Room-clause-told : goal.returns-in-Room-clause-told
returns-in-Room-clause-told g c =
    let told = c.in-Room.ensures.told in
    let sent = c.seal_onto-len.ensures.bytes in (
      told.0,
      sent.0,
      subst (λ n. PacksEnd c.args.conn.now c.args.drains.now told.0 (made.Body n) sent.0 c.seal_onto-len.new.conn) (sym sent.3)
          (room-packs c.args.conn.now c.args.drains.now told.0 c.begin.new.conn c.seal_onto-len.new.conn c.as_slice.result.now sent.0 told.1 c.seal_onto-len.ensures.seals (c.as_slice.ensures.value ∙ told.3) sent.1),
      sent.2,
      told.2,
      told.4,
    )
