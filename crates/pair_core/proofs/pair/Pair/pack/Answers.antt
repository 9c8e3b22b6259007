use Rattle.std.proofs.Common.{◌&&◌, ◌<◌, ◌∙◌, [], ap, sym, subst, refl}
use Rattle.conn_packing.specs.stream_manager.ConnCalls.{Keeps as KeepsConn}
use Rattle.pair_core.specs.History.{Pack}
use Rattle.pair_core.specs.Answers.{answer}
use Rattle.pair_core.specs.Stands.{PairState}
use Rattle.pair_core.specs.Calls.{MayPack, Packs, Answers}
use Rattle.pair_core.specs.Keeping.{kept}
use Rattle.pair_core.proofs.Packed.{may-end, few-end, pair-packs, pair-answers}
use Rattle.pair_core.proofs.pair.Pair.pack.Goals as goal

pub pack-made-requires-clause-may : goal.pack-made-requires-clause-may
pack-made-requires-clause-may g c =
    let p : PairState = (record { conn = c.self.inside.conn; client = c.self.inside.client; down = c.self.inside.down.list; up = c.self.inside.up.list; prepared = c.self.inside.down.has_room && c.self.inside.up.has_room; keeps_all = c.self.inside.keeps_all; sent = c.self.inside.sent }) in
    may-end p c.args.drains.now (g.V.Values.ranges c.args.values.now)
    (subst (λ (x : PairState). MayPack x c.args.drains.now (g.V.Values.ranges c.args.values.now)) (sym c.self.view_is) c.requires.may)

pub pack-made-requires-clause-few : goal.pack-made-requires-clause-few
pack-made-requires-clause-few g c =
    let p : PairState = (record { conn = c.self.inside.conn; client = c.self.inside.client; down = c.self.inside.down.list; up = c.self.inside.up.list; prepared = c.self.inside.down.has_room && c.self.inside.up.has_room; keeps_all = c.self.inside.keeps_all; sent = c.self.inside.sent }) in
    few-end p c.args.drains.now (g.V.Values.ranges c.args.values.now)
    (subst (λ (x : PairState). MayPack x c.args.drains.now (g.V.Values.ranges c.args.values.now)) (sym c.self.view_is) c.requires.may)
    (subst (λ (x : PairState). x.sent < 4294967295) (sym c.self.view_is) c.requires.few)

pub returns-clause-answer : goal.returns-clause-answer
returns-clause-answer g c =
    let p : PairState = (record { conn = c.self.inside.conn; client = c.self.inside.client; down = c.self.inside.down.list; up = c.self.inside.up.list; prepared = c.self.inside.down.has_room && c.self.inside.up.has_room; keeps_all = c.self.inside.keeps_all; sent = c.self.inside.sent }) in
    let told = c.pack-made.ensures.told in
    subst (λ (x : PairState). Answers x (λ t steps. answer t steps (Pack c.args.drains.now [])) c.packed.result) c.self.view_is
    (subst (λ r. Answers p (λ t steps. answer t steps (Pack c.args.drains.now [])) r) (sym c.packed.ensures)
    (pair-answers p c.args.drains.now told.0 c.pack-made.result told.1 c.pack-made.new.conn told.2 c.self.inside.sent refl))

pub returns-clause-told : goal.returns-clause-told
returns-clause-told g c =
    let p : PairState = (record { conn = c.self.inside.conn; client = c.self.inside.client; down = c.self.inside.down.list; up = c.self.inside.up.list; prepared = c.self.inside.down.has_room && c.self.inside.up.has_room; keeps_all = c.self.inside.keeps_all; sent = c.self.inside.sent }) in
    let told = c.pack-made.ensures.told in (
      told.0,
      subst (λ (x : PairState). Packs x c.args.drains.now told.0 (record { conn = c.pack-made.new.conn; client = c.self.inside.client; down = c.keep.new.self.list; up = c.self.inside.up.list; prepared = c.keep.new.self.has_room && c.self.inside.up.has_room; keeps_all = c.self.inside.keeps_all; sent = c.counted-self-inside.result })) c.self.view_is
          (pair-packs p c.args.drains.now told.0 c.pack-made.result told.1 c.pack-made.new.conn told.2 (c.keep.new.self.has_room && c.self.inside.up.has_room) c.keep.new.self.list c.counted-self-inside.result (c.keep.ensures ∙ ap (kept c.self.inside.keeps_all) told.3) c.counted-self-inside.ensures),
      told.4,
      told.5,
    )

pub returns-clause-keeps : goal.returns-clause-keeps
returns-clause-keeps g c = record {
  server = subst (λ (x : PairState). KeepsConn x.conn c.pack-made.new.conn) c.self.view_is c.pack-made.ensures.told.2.keeps;
  client = ap (λ (x : PairState). x.client) c.self.view_is;
}
