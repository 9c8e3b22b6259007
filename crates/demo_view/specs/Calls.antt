-- What a call of a viewer does to the lists that it stands for, what it answers of them, and what it leaves alone; and the
-- packets that nothing refuses.
use Rattle.std.specs.Prelude.{◌≡◌, ℕ, ◌++◌, [], ◌∷◌, false, List, Option, None, Ok, drop}
use Rattle.tn_types.specs.Histories as histories
use Rattle.tn_types.specs.Checks.{first_fault}
use Rattle.notify_window.specs.declared.Arrival.TheVariants.{Fresh}
use Rattle.notify_window.specs.Log.{arrival_of}
use Rattle.wire_format.specs.declared.server.ServerBody.{ServerBody}
use Rattle.wire_format.specs.declared.server.ServerPacket.{ServerPacket}
use Rattle.wire_format.specs.declared.server.ServerPacket.TheVariants.{Body}
use Rattle.datablocks.specs.Holding.{after_all, check_answer}
use Rattle.event_manager.specs.Receiving.{take_answer}
use Rattle.event_manager.specs.ReceiverState.{ReceiverState}
use Rattle.ghost_client.specs.State as copies
use Rattle.ghost_client.specs.State.{copy_in}
use Rattle.ghost_client.specs.Faults.{item_fault}
use Rattle.stream_manager.specs.ClientCalls.{held_bits}
use Rattle.stream_manager.specs.Packets.{delivered_to}
use Rattle.stream_manager.specs.Wire.{whole_server_body}
use Rattle.demo_view.specs.Viewing.{config_of}
use Rattle.demo_view.specs.Stands.{ViewerState, StandsFor, terms_of}

abbrev pub Does : ViewerState → ServerPacket → ViewerState → Type 0
Does old packet new = histories.Does StandsFor old packet new

abbrev pub Answers : {R : Type 0} → ViewerState → (List ServerPacket → R) → R → Type 0
Answers {R} old f result = histories.Answers StandsFor old f result

-- for every list that the old viewer stood for, the new one stands for what f makes of it
abbrev pub Becomes : ViewerState → (List ServerPacket → List ServerPacket) → ViewerState → Type 0
Becomes old f new = (packets : List ServerPacket) → StandsFor old packets → StandsFor new (f packets)

-- what waits to be handed out is what f newly delivers
abbrev pub Hands : ViewerState → (List ServerPacket → List ServerPacket) → ViewerState → Type 0
Hands old f new = (packets : List ServerPacket) → StandsFor old packets →
    delivered_to (f packets) ≡ delivered_to packets ++ new.events.ready

-- without the oldest event that waits
abbrev pub popped : ViewerState → ViewerState
popped v = record v { events = record v.events { ready = drop 1 v.events.ready } }

-- a packet that was read by the whole numbers of its events
abbrev pub made_whole : ViewerState → ServerBody → ServerBody
made_whole v p = whole_server_body (config_of (terms_of v)) v.events.delivered p

-- no ghost of a packet has a fault, by the copies and with the blocks that come with it
abbrev pub FitGhosts : ViewerState → ServerBody → Type 0
FitGhosts v p = first_fault (item_fault (copy_in v.copies.slots) (held_bits (after_all v.blocks p.blocks))) [] p.ghosts ≡ None

-- a data packet that nothing refuses
pub record Admits (v : ViewerState) (p : ServerBody) : Type 0 where
  pub fresh : arrival_of false p.head.seq v.horizon ≡ Fresh
  pub blocks : check_answer v.blocks p.blocks ≡ Ok tt
  pub events : take_answer v.events.delivered p.events ≡ Ok tt
  pub ghosts : FitGhosts v p

-- a viewer of these parts
abbrev pub viewer_of : ℕ → ℕ → ℕ → List (Option (List ℕ)) → ReceiverState → copies.State → ViewerState
viewer_of client version horizon blocks events copies =
    record { client = client; version = version; horizon = horizon; blocks = blocks; events = events; copies = copies }

-- a data packet was taken
pub record Takes (old : ViewerState) (p : ServerBody) (new : ViewerState) : Type 0 where
  pub stands : Does old (Body p) new
  pub handed : Hands old (λ packets. Body p ∷ packets) new
  pub terms : terms_of new ≡ terms_of old
