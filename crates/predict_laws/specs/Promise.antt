-- When the value that a client predicts of its player is what the server has. It is so once the server took all moves that the
-- client sampled, where the player stood in every tick since the pack of the last data packet that came, and that packet told
-- what the server had then. It rests on the rule that a tick without a move changes none of the three.
use Rattle.std.specs.Prelude.{ℕ, ℤ, ◌≡◌, true, List, [], ◌∷◌, ◌++◌, length, Option, Some}
use Rattle.wire_format.specs.declared.server.ServerBody.{ServerBody}
use Rattle.stream_manager.specs.Server.{next_body}
use Rattle.match_script.specs.declared.types.BodyLine.{BodyLine}
use Rattle.match_script.specs.declared.types.BodyLine.TheVariants.{Tick, Pack}
use Rattle.match_script.specs.declared.types.Head.{Head}
use Rattle.world_rules.specs.Kinds.{match_kinds}
use Rattle.pair_core.specs.History.{history}
use Rattle.pair_core.specs.Answers.{sampled_in}
use Rattle.conn_packing.specs.Packs.{absorbing, values_of}
use Rattle.predict_lines.specs.match_laws.Values.{steps_of, AtEachLine}
use Rattle.own_lists.specs.Course.{waiting_in}
use Rattle.own_lists.specs.Kept.{drains_of, reads_of}
use Rattle.own_lists.specs.Past.{client_terms, kept_by, after}
use Rattle.client_predict.specs.Predicting.{value_of}
use Rattle.predict_client.specs.Following.{base_at}
use Rattle.predict_lines.specs.Lines.{end_of, told_of}
use Rattle.predict_laws.specs.Players.{measures_in, stands_in}
use Rattle.predict_laws.specs.Newest.{newest_body}

-- x, y and ammo of the client's player at the server after these lines
abbrev pub server_has : Head → List BodyLine → ℕ → Option (ℤ × ℤ × ℤ)
server_has head past c = measures_in (after head past).world c

-- the data packet that a line `pack c` makes after these lines
abbrev pub packet_of : Head → List BodyLine → ℕ → ServerBody
packet_of head past c =
    let t = client_terms head c in
    let k = kept_by head (after head past) c in
    next_body t (absorbing (drains_of t k) (history t k.course.steps).server) (values_of (reads_of t k))

-- in each tick of these lines, which come after the earlier ones, the client's player stood
abbrev pub StoodIn : Head → ℕ → List BodyLine → List BodyLine → Type 0
StoodIn head c [] earlier = Unit {0}
StoodIn head c (Tick ∷ later) earlier = (stands_in (after head (later ++ earlier)).world c ≡ true) × StoodIn head c later earlier
StoodIn head c (line ∷ later) earlier = StoodIn head c later earlier

-- the premises, beside an honest client
pub record IsCaughtUp (head : Head) (past : List BodyLine) (c : ℕ) : Type 0 where
  -- the data packet that came last was made by this pack
  pub later : List BodyLine
  pub earlier : List BodyLine
  pub whole : later ++ Pack c ∷ earlier ≡ past
  pub newest : newest_body (end_of head past c) ≡ Some (packet_of head earlier c)
  -- its base is what the server had then
  pub at : ℤ × ℤ × ℤ
  pub base : base_at match_kinds (end_of head past c) ≡ Some at
  pub had : server_has head earlier c ≡ Some at
  -- no accepted move waited at the pack
  pub none_waited : waiting_in (client_terms head c) (kept_by head (after head earlier) c).course ≡ []
  -- the player stood in every tick since
  pub stood : StoodIn head c later (Pack c ∷ earlier)
  -- all sampled moves are taken
  pub all_taken : (kept_by head (after head past) c).course.taken ≡ length (sampled_in (client_terms head c) (steps_of head past c))

-- at every line, of each honest client of which that holds, the server has what is predicted
abbrev pub ValueIsServers : Type 0
ValueIsServers = AtEachLine (λ head past c. IsCaughtUp head past c → value_of (told_of head past c) ≡ server_has head past c)
