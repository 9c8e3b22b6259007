-- What no tick changes of an object: its kind, whose player or which drone it is, its datablock, team and home. From this
-- follows who plays in a match for good.
use Rattle.std.specs.Prelude.{◌≡◌, ℕ, suc, ◌<◌, ◌≤◌, Bool, true, false, ◌==◌, List, [], ◌∷◌, map, Option, Some, None}
use Rattle.std.specs.List.{list_any, AllByRecursion}
use Rattle.world_rules.specs.declared.object.Place.{Place}
use Rattle.world_rules.specs.declared.object.Object.{Object}
use Rattle.world_rules.specs.declared.object.State.{State}
use Rattle.world_rules.specs.declared.object.State.TheVariants.{Player, Drone, Flag, Clock}
use Rattle.world_rules.specs.Kinds.{kind_of}

-- the client whose player this is
abbrev pub owner_in : State → Option ℕ
owner_in (Player p) = Some p.client
owner_in _ = None

-- the number by which a drone draws its chances
abbrev pub number_in : State → Option ℕ
number_in (Drone d) = Some d.number
number_in _ = None

pub record Identity : Type 0 where
  pub kind : ℕ
  pub owner : Option ℕ
  pub number : Option ℕ
  pub block : ℕ
  pub team : ℕ
  pub home : Place

abbrev pub identity_of : Object → Identity
identity_of o = record {
  kind = kind_of o.state;
  owner = owner_in o.state;
  number = number_in o.state;
  block = o.block;
  team = o.team;
  home = o.home;
}

-- players, flags and clocks are alive for good
abbrev pub lives_on : State → Bool
lives_on (Player p) = true
lives_on (Flag f) = true
lives_on (Clock c) = true
lives_on _ = false

abbrev pub LivesOn : Object → Type 0
LivesOn o = lives_on o.state ≡ true → o.alive ≡ true

abbrev pub HaveNoOwner : List (Option ℕ) → Type 0
HaveNoOwner [] = Unit {0}
HaveNoOwner (Some client ∷ owners) = ⊥
HaveNoOwner (None ∷ owners) = HaveNoOwner owners

-- players come first, by rising client from this one on, each below the number of clients
abbrev pub OwnersRise : ℕ → ℕ → List (Option ℕ) → Type 0
OwnersRise clients least [] = Unit {0}
OwnersRise clients least (Some client ∷ owners) = (least ≤ client) × (client < clients) × OwnersRise clients (suc client) owners
OwnersRise clients least (None ∷ owners) = HaveNoOwner owners

-- a drone's number is its place
abbrev pub NumberFits : ℕ → Option ℕ → Type 0
NumberFits place None = Unit {0}
NumberFits place (Some number) = number ≡ place

abbrev pub NumbersFit : ℕ → List (Option ℕ) → Type 0
NumbersFit place [] = Unit {0}
NumbersFit place (number ∷ numbers) = NumberFits place number × NumbersFit (suc place) numbers

abbrev pub identities : List Object → List Identity
identities os = map identity_of os

abbrev pub owners : List Object → List (Option ℕ)
owners os = map (λ i. i.owner) (identities os)

abbrev pub numbers : List Object → List (Option ℕ)
numbers os = map (λ i. i.number) (identities os)

-- the client who holds the flag that this is
abbrev pub holder_in : State → Option ℕ
holder_in (Flag f) = f.holder
holder_in _ = None

-- a client has a player among these
abbrev pub is_owner : ℕ → Option ℕ → Bool
is_owner client None = false
is_owner client (Some owner) = owner == client

abbrev pub HolderPlays : List (Option ℕ) → Option ℕ → Type 0
HolderPlays owners None = Unit {0}
HolderPlays owners (Some client) = list_any (is_owner client) owners ≡ true

-- what holds of the objects of a match with so many clients at every moment
pub record IsPeopled (clients : ℕ) (os : List Object) : Type 0 where
  pub owned : OwnersRise clients 0 (owners os)
  pub numbered : NumbersFit 0 (numbers os)
  pub alive : AllByRecursion LivesOn os
  pub held : AllByRecursion (λ o. HolderPlays (owners os) (holder_in o.state)) os
