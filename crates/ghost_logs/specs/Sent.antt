-- What the server's end sent of ghosts: the items of its data packets with the periods that they were chosen for, the
-- oldest packet first, by what happened at its end. A packet itself names slots alone.
use Rattle.std.specs.Prelude.{◌≡◌, ◌⊎◌, ℕ, Bool, List, [], ◌∷◌, ◌++◌, refl, map}
use Rattle.tn_types.specs.declared.choices.Op.TheVariants as op
use Rattle.tn_types.specs.declared.choices.Choice.{Choice}
use Rattle.wire_format.specs.declared.ghosts.GhostItem.{GhostItem}
use Rattle.wire_format.specs.declared.ghosts.GhostItem.TheVariants as ghosts
use Rattle.wire_format.specs.declared.server.ServerBody.{ServerBody}
use Rattle.notify_window.specs.Log.{horizon_of, is_processed}
use Rattle.ghost_client.specs.Fields.{carried_level}
use Rattle.ghost_pair.specs.Copies.{Item}
use Rattle.stream_manager.specs.End.{window_log}
use Rattle.stream_manager.specs.Server as server
use Rattle.stream_manager.specs.Server.{ServerEvent, planned}
use Rattle.stream_manager.specs.Client.{ClientEvent, client_end}

-- each choice with the levels that stand at its place in the packet
abbrev pub items_of : List Choice → List GhostItem → List Item
items_of [] ghosts = []
items_of (c ∷ cs) [] = record { choice = c; levels = λ f. 0 } ∷ items_of cs []
items_of (c ∷ cs) (x ∷ ghosts) = record { choice = c; levels = λ f. carried_level x f 0 } ∷ items_of cs ghosts

abbrev pub sent_items : List ServerEvent → List (List Item)
sent_items [] = []
sent_items (server.Posted class payload ∷ log) = sent_items log
sent_items (server.Scoped change ∷ log) = sent_items log
sent_items (server.Planned choices ∷ log) = sent_items log
sent_items (server.Packed p ∷ log) = sent_items log ++ items_of (planned log) p.ghosts ∷ []
sent_items (server.Pinged head ∷ log) = sent_items log
sent_items (server.Took p room ∷ log) = sent_items log

-- the data packet was sent
abbrev pub WasPacked : ServerBody → List ServerEvent → Type 0
WasPacked p [] = ⊥
WasPacked p (server.Packed q ∷ log) = (p ≡ q) ⊎ WasPacked p log
WasPacked p (server.Posted class payload ∷ log) = WasPacked p log
WasPacked p (server.Scoped change ∷ log) = WasPacked p log
WasPacked p (server.Planned choices ∷ log) = WasPacked p log
WasPacked p (server.Pinged head ∷ log) = WasPacked p log
WasPacked p (server.Took q room ∷ log) = WasPacked p log

-- ---- what the client processed

-- the greatest number of a packet that came
abbrev pub horizon_at : List ClientEvent → ℕ
horizon_at log = horizon_of (window_log (client_end log))

abbrev pub processed_at : List ClientEvent → ℕ → Bool
processed_at log s = is_processed s (window_log (client_end log))

-- ---- an example

-- a create of period 7 in slot 2, at levels 10 and 20
created : List Item
created = items_of (record { n = 7; slot = 2; op = op.Create; mask = 3 } ∷ []) (ghosts.Create 2 0 0 (10 ∷ 20 ∷ []) ∷ [])

second_level : map (λ (i : Item). i.levels 1) created ≡ 20 ∷ []
unfolding created
second_level = refl
