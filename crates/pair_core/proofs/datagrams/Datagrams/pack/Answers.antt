use Rattle.std.proofs.Common.{◌≡◌, ◌∙◌, ◌+◌, ◌<◌, ◌≤◌, length, ap, arith}
use Rattle.conn_packing.specs.stream_manager.declared.config.Config.{Config}
use Rattle.pair_core.specs.Flat.{cut, with_made}
use Rattle.pair_core.proofs.Flat.{made-flat, made-cut, cut-length}
use Rattle.pair_core.proofs.Packed.{none-where-worn}
use Rattle.pair_core.proofs.datagrams.Datagrams.pack.Goals as goal

pub invariant_of-self : goal.invariant_of-self
invariant_of-self g c =
    let told = c.pack-made.ensures.told in
    let none = none-where-worn c.args.conn.now c.args.drains.now told.0 c.pack-made.result told.1 c.pack-made.new.conn told.2 c.requires.may.log c.requires.may.stands in
    let ok = c.pack-made.new.out.ok in
    let at : c.len.result ≡ length c.pack-made.new.out.items = let l = c.len.ensures in omega arith in
    let old_ok = c.self.inside.bytes.ok in
    let size : c.args.conn.now.common.config.size ≤ 1200 =
    omega (arith, c.config-config.ensures.fits.size, ap (λ (k : Config). k.size) c.config-config.ensures.value) in
    let short : length c.pack-made.new.out.items ≤ length c.self.inside.bytes.items + 1200 = let s = c.pack-made.ensures.short in omega arith in
    let few : length c.self.inside.ends.items < 4294967295 =
    omega (arith, cut-length 0 c.self.inside.ends.items c.self.inside.bytes.items, ap (λ d. length d.list) c.self.view_is, c.requires.few) in
    made-flat c.pack-made.result c.self.inside.ends.items c.self.inside.bytes.items told.1 c.note_end.new.ends.items c.pack-made.new.out.items c.len.result none told.3 c.note_end.ensures at short few c.self.invariant

pub returns : goal.returns
returns g c =
    let told = c.pack-made.ensures.told in
    let none = none-where-worn c.args.conn.now c.args.drains.now told.0 c.pack-made.result told.1 c.pack-made.new.conn told.2 c.requires.may.log c.requires.may.stands in
    let ok = c.pack-made.new.out.ok in
    let at : c.len.result ≡ length c.pack-made.new.out.items = let l = c.len.ensures in omega arith in
    let is : cut 0 c.note_end.new.ends.items c.pack-made.new.out.items ≡ with_made c.pack-made.result told.1 c.args.self.now.list =
    made-cut c.pack-made.result c.self.inside.ends.items c.self.inside.bytes.items told.1 c.note_end.new.ends.items c.pack-made.new.out.items c.len.result none told.3 c.note_end.ensures at c.self.invariant.rise
    ∙ ap (λ d. with_made c.pack-made.result told.1 d.list) c.self.view_is in
    record { told = (told.0, told.1, told.2, is, told.4, told.5) }
