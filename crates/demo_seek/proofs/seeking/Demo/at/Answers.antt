use Rattle.std.proofs.Common.{◌≡◌, ◌≤◌, ◌∙◌, ◌/◌, ℕ, List, length, get_or, sym, ap, subst, arith}
use Rattle.demo_format.specs.Records.{records_of}
use Rattle.demo_replay.specs.demo_view.Keeping.{AreCreates}
use Rattle.demo_replay.specs.demo_view.quantised_fields.declared.kind.Kind.{Kind}
use Rattle.demo_replay.specs.Walking.{DemoState}
use Rattle.demo_seek.proofs.Keys.{key-at, key-fits, key-viewer, reached}
use Rattle.demo_seek.proofs.seeking.Demo.at.Goals as goal

pub again-requires : goal.again-requires
again-requires g c =
    let few : c.args.k ≤ length (records_of c.self.inside.bytes.items) = subst (λ (d : DemoState). c.args.k ≤ length d.records) (sym c.self.view_is) c.requires in
    let read : c.index-key.result.now ≡ get_or c.self.inside.keys.items (c.args.k / 64) c.index-key.result.now =
    c.index-key.ensures ∙ ap (λ (i : ℕ). get_or c.self.inside.keys.items i c.index-key.result.now) c.key_before.ensures in
    record {
      fits = subst (λ (kinds : List Kind). AreCreates kinds 256 c.index-key.result.now.viewer.creates) (sym c.match_kinds.ensures)
          (key-fits c.self.inside.head c.self.inside.bytes.items c.self.inside.keys.items c.self.inside.count c.args.k c.self.invariant few c.index-key.result.now read);
    }

pub go_on-requires-clause-within : goal.go_on-requires-clause-within
go_on-requires-clause-within g c =
    let few : c.args.k ≤ length (records_of c.self.inside.bytes.items) = subst (λ (d : DemoState). c.args.k ≤ length d.records) (sym c.self.view_is) c.requires in
    let read : c.index-key.result.now ≡ get_or c.self.inside.keys.items (c.args.k / 64) c.index-key.result.now =
    c.index-key.ensures ∙ ap (λ (i : ℕ). get_or c.self.inside.keys.items i c.index-key.result.now) c.key_before.ensures in
    let key = key-at c.self.inside.head c.self.inside.bytes.items c.self.inside.keys.items c.self.inside.count c.args.k c.self.invariant few c.index-key.result.now read in
    omega (arith, key.begins.within, ap length c.as_slice.ensures.value)

pub go_on-requires-clause-quiet : goal.go_on-requires-clause-quiet
go_on-requires-clause-quiet g c =
    let few : c.args.k ≤ length (records_of c.self.inside.bytes.items) = subst (λ (d : DemoState). c.args.k ≤ length d.records) (sym c.self.view_is) c.requires in
    let read : c.index-key.result.now ≡ get_or c.self.inside.keys.items (c.args.k / 64) c.index-key.result.now =
    c.index-key.ensures ∙ ap (λ (i : ℕ). get_or c.self.inside.keys.items i c.index-key.result.now) c.key_before.ensures in
    (key-viewer c.self.inside.head c.self.inside.bytes.items c.self.inside.keys.items c.self.inside.count c.args.k c.self.invariant few c.index-key.result.now read
    c.in_ok-viewer.viewer c.in_ok-viewer.ensures.same c.in_ok-viewer.ensures.stands (c.in_ok-viewer.ensures.kinds ∙ c.match_kinds.ensures)).quiet

pub returns-clause-viewer : goal.returns-clause-viewer
returns-clause-viewer g c =
    let few : c.args.k ≤ length (records_of c.self.inside.bytes.items) = subst (λ (d : DemoState). c.args.k ≤ length d.records) (sym c.self.view_is) c.requires in
    let read : c.index-key.result.now ≡ get_or c.self.inside.keys.items (c.args.k / 64) c.index-key.result.now =
    c.index-key.ensures ∙ ap (λ (i : ℕ). get_or c.self.inside.keys.items i c.index-key.result.now) c.key_before.ensures in
    let there = key-viewer c.self.inside.head c.self.inside.bytes.items c.self.inside.keys.items c.self.inside.count c.args.k c.self.invariant few c.index-key.result.now read
    c.in_ok-viewer.viewer c.in_ok-viewer.ensures.same c.in_ok-viewer.ensures.stands (c.in_ok-viewer.ensures.kinds ∙ c.match_kinds.ensures) in
    reached c.self.inside.head c.self.inside.bytes.items c.self.inside.keys.items c.self.inside.count c.args.k c.self.invariant few c.index-key.result.now read
    c.args.self.now c.as_slice.result.now c.in_ok-viewer.viewer c.go_on.new.viewer c.self.view_is c.as_slice.ensures.value there c.go_on.ensures.viewer
