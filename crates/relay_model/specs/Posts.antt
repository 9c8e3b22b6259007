-- What a spectator is posted: the first of the guaranteed events that were delivered to the relay.
use Rattle.std.specs.Prelude.{◌≡◌, ◌++◌, ℕ, false, List, [], ◌∷◌}
use Rattle.tn_types.specs.Prefix.{IsPrefixOf}
use Rattle.tn_types.specs.declared.choices.Class.TheVariants.{Guaranteed}
use Rattle.event_manager.specs.Posted.{guaranteed_of}
use Rattle.stream_manager.specs.Limits.{Terms}
use Rattle.stream_manager.specs.Packets.{delivered_to}
use Rattle.match_script.specs.declared.types.BodyLine.TheVariants as script
use Rattle.own_lists.specs.Own.{OwnItem, Line}
use Rattle.relay_model.specs.Watching.{WatchEvent, packets_in}
use Rattle.relay_model.specs.Items.{items_of, is_stopped}
use Rattle.relay_model.specs.Laws.{AreSpectators}

abbrev pub payload_of : OwnItem → List (List ℕ)
payload_of (Line (script.Post c Guaranteed payload)) = payload ∷ []
payload_of item = []

-- the guaranteed events that the items post, refused or not, the oldest first
abbrev pub posts_in : List OwnItem → List (List ℕ)
posts_in [] = []
posts_in (item ∷ items) = posts_in items ++ payload_of item

-- they are the first of these, and all of them where no post was refused
pub record PostsInOrder (t : Terms) (items : List OwnItem) (events : List (List ℕ)) : Type 0 where
  pub front : IsPrefixOf (posts_in items) events
  pub whole : is_stopped t items ≡ false → posts_in items ≡ events

-- a spectator is posted what was delivered to the relay, in order, until a post is refused
abbrev pub PostsWhatCame : Type 0
PostsWhatCame =
    (t : Terms) (events : List WatchEvent) → AreSpectators events
    → PostsInOrder t (items_of t events) (guaranteed_of (delivered_to (packets_in events)))
