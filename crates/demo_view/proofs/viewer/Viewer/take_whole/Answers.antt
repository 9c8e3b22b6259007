use Rattle.std.proofs.Common.{◌≡◌, ◌++◌, Ok, List, subst}
use Rattle.tn_types.specs.declared.choices.PacketKind.{PacketKind}
use Rattle.tn_types.specs.Checks.{Checked}
use Rattle.wire_format.specs.declared.server.ServerBody.{ServerBody}
use Rattle.wire_format.specs.declared.server.ServerPacket.{ServerPacket}
use Rattle.wire_format.specs.declared.server.ServerPacket.TheVariants.{Body}
use Rattle.wire_format.specs.Server.{read_server, server_meant}
use Rattle.stream_manager.specs.declared.fault.ClientFault.{ClientFault}
use Rattle.stream_manager.specs.Client.{kind_at}
use Rattle.stream_manager.specs.Packets.{took, delivered_to}
use Rattle.demo_view.specs.Viewing.{packet_view, whole_view, taken_by}
use Rattle.demo_view.specs.Stands.{ViewerState, StandsFor, terms_of}
use Rattle.demo_view.specs.Calls.{Takes, made_whole, viewer_of}
use Rattle.demo_view.proofs.Seen.{taken-stands, taken-handed}
use Rattle.demo_view.proofs.viewer.Viewer.take_whole.Goals as goal

-- the viewer as it was, and as it is
abbrev before : goal.After-take_body → ViewerState
before c = viewer_of c.self.inside.client c.self.inside.version c.self.inside.horizon c.self.inside.blocks c.self.inside.events c.self.inside.copies

abbrev after : goal.After-take_body → ViewerState
after c = viewer_of c.self.inside.client c.self.inside.version c.take_body.new.horizon c.take_body.new.blocks c.take_body.new.events c.take_body.new.copies

takes : (c : goal.After-take_body) → Takes (before c) (made_whole (before c) c.read.new.body) (after c)
takes c = subst (λ (p : ServerBody). Takes (before c) (made_whole (before c) p) (after c)) c.deref-in-Ok-Body-2.ensures (c.take_body.ensures.took c.self.inside.client)

module _ (c : goal.After-take_body) (packets : List ServerPacket) (s : StandsFor (before c) packets) where
  reads : read_server c.self.inside.version c.self.inside.copies.kinds (kind_at (took packets)) c.args.bytes.now ≡ Ok (Body c.read.new.body)
  reads =
      subst (λ (kind : PacketKind). read_server c.self.inside.version c.self.inside.copies.kinds (kind_at (took packets)) c.args.bytes.now ≡ Ok (server_meant kind c.read.new.body)) c.in-Ok-Body.field-0-is
      (c.in-Ok-Body.ensures.exact packets s.copies)

  passes : Ok tt ≡ packet_view (terms_of (before c)) packets (Body (made_whole (before c) c.read.new.body))
  passes =
      subst (λ (p : ServerBody). let r : Checked ClientFault = Ok tt in r ≡ packet_view (terms_of (before c)) packets (Body (made_whole (before c) p))) c.deref-in-Ok-Body.ensures
      (c.in_ok-check-in-Ok-Body.ensures.answer packets s)

  stands : StandsFor (after c) (taken_by packets (whole_view (terms_of (before c)) c.args.bytes.now packets))
  stands = taken-stands (before c) c.args.bytes.now packets s c.read.new.body reads passes (after c) (takes c)

  handed : delivered_to (taken_by packets (whole_view (terms_of (before c)) c.args.bytes.now packets)) ≡ delivered_to packets ++ c.take_body.new.events.ready
  handed = taken-handed (before c) c.args.bytes.now packets s c.read.new.body reads passes (after c) (takes c)

pub returns-in_ok-check-in-Ok-Body-clause-stands : goal.returns-in_ok-check-in-Ok-Body-clause-stands
returns-in_ok-check-in-Ok-Body-clause-stands c =
    subst (λ (x : ViewerState). (packets : List ServerPacket) → StandsFor x packets → StandsFor (after c) (taken_by packets (whole_view (terms_of x) c.args.bytes.now packets))) c.self.view_is (stands c)

pub returns-in_ok-check-in-Ok-Body-clause-handed : goal.returns-in_ok-check-in-Ok-Body-clause-handed
returns-in_ok-check-in-Ok-Body-clause-handed c =
    subst (λ (x : ViewerState). (packets : List ServerPacket) → StandsFor x packets → delivered_to (taken_by packets (whole_view (terms_of x) c.args.bytes.now packets)) ≡ delivered_to packets ++ c.take_body.new.events.ready) c.self.view_is (handed c)

pub returns-in_ok-check-in-Ok-Body-clause-terms : goal.returns-in_ok-check-in-Ok-Body-clause-terms
returns-in_ok-check-in-Ok-Body-clause-terms c = subst (λ (x : ViewerState). terms_of (after c) ≡ terms_of x) c.self.view_is (takes c).terms
