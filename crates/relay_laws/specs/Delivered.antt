-- What was delivered to a spectator was posted in the match: a chain of two connections keeps the order of events as one does.
use Rattle.std.specs.Prelude.{ℕ, List}
use Rattle.tn_types.specs.Prefix.{IsPrefixOf}
use Rattle.match_laws.specs.pair_core.event_manager.Posted.{guaranteed_of}
use Rattle.match_laws.specs.pair_core.Answers.{client_delivered}
use Rattle.pair_copies.specs.pair_laws.Laws.{posted_at}
use Rattle.match_laws.specs.pair_core.stream_manager.Server.{server_end}
use Rattle.match_laws.specs.Values.{ends_then as match_ends}
use Rattle.relay_laws.specs.Moments.{RelayMoment, AtEachLine, match_then, terms_of, kept_then}

-- the guaranteed events that were delivered to the spectator, the oldest first
abbrev pub delivered_then : RelayMoment → List (List ℕ)
delivered_then m = guaranteed_of (client_delivered (terms_of m) (kept_then m).course.steps)

-- those that the match's server posted to the relay's client
abbrev pub posted_then : RelayMoment → List (List ℕ)
posted_then m = posted_at (server_end (match_ends (match_then m)).server)

-- the former are the first of the latter
abbrev pub SpectatorsDeliverWhatWasPosted : Type 0
SpectatorsDeliverWhatWasPosted = AtEachLine (λ m. IsPrefixOf (delivered_then m) (posted_then m))
