-- The moves that ticks of later lines took are played on what the server had before them.
use Rattle.std.proofs.Common.{◌≡◌, ℕ, ◌<◌, true, List, [], ◌∷◌, ◌++◌, Option, Some, None, refl, sym, ap, ◌∙◌, arith, append_assoc}
use Rattle.std.specs.Prelude.{ℤ, option_map, slice_get}
use Rattle.std.proofs.lemmas.List.{append-nil}
use Rattle.std.proofs.lemmas.List.FromFn.{length-map-range_with_len, get_or-map-range_with_len}
use Rattle.std.proofs.lemmas.Option.{slice_get-get_or}
use Rattle.tn_types.specs.declared.moves.Move.{Move}
use Rattle.tn_types.specs.declared.moves.MoveBits.{MoveBits}
use Rattle.match_script.specs.declared.types.BodyLine.{BodyLine}
use Rattle.match_script.specs.declared.types.BodyLine.TheVariants as script
use Rattle.match_script.specs.declared.types.Head.{Head}
use Rattle.match_script.specs.Ranges.{HeadFits}
use Rattle.world_rules.specs.Moves as rules
use Rattle.world_rules.specs.Moves.{or_still, still}
use Rattle.own_lists.specs.Past.{Past, move_of, moves_of, after}
use Rattle.own_lists.proofs.WorldFacts.{world_after}
use Rattle.predict_lines.specs.match_laws.Applied.{one_move, applied}
use Rattle.client_predict.specs.Standing.{stepped_by, moved_by, played}
use Rattle.client_predict.proofs.PredictLogs.{value_more}
use Rattle.predict_laws.specs.Players.{measures_in, stands_in}
use Rattle.predict_laws.specs.Promise.{server_has, StoodIn}
use Rattle.predict_laws.proofs.Ticks.{tick_steps, tick_without_move}

-- the moves that the ticks among the later lines took from a client, the oldest first
abbrev pub applied_since : Head → ℕ → List BodyLine → List BodyLine → List MoveBits
applied_since head c [] earlier = []
applied_since head c (script.Tick ∷ later) earlier = applied_since head c later earlier ++ one_move (move_of head (after head (later ++ earlier)) c)
applied_since head c (line ∷ later) earlier = applied_since head c later earlier

pub applied_parts : (head : Head) (c : ℕ) (later earlier : List BodyLine) → applied head c (later ++ earlier) ≡ applied head c earlier ++ applied_since head c later earlier
applied_parts head c [] earlier = sym (append-nil (applied head c earlier))
applied_parts head c (script.Tick ∷ later) earlier =
    let last = one_move (move_of head (after head (later ++ earlier)) c) in
    ap (λ (ms : List MoveBits). ms ++ last) (applied_parts head c later earlier) ∙ append_assoc (applied head c earlier) (applied_since head c later earlier) last
applied_parts head c (line ∷ later) earlier = applied_parts head c later earlier

-- what a tick takes from one of the clients
taken_at : (head : Head) (p : Past) (c : ℕ) → c < head.clients → rules.move_of (moves_of head p) c ≡ or_still (Some (move_of head p c))
taken_at head p c below =
    let f = move_of head p in
    let there : slice_get (moves_of head p) c ≡ Some (f c) =
    slice_get-get_or (moves_of head p) c None (omega (arith, below, length-map-range_with_len f 0 head.clients))
    ∙ ap Some (get_or-map-range_with_len f 0 head.clients c c None below (omega arith)) in
    ap or_still there

no_moves : (o : Option (ℤ × ℤ × ℤ)) → option_map (λ at. played at []) o ≡ o
no_moves None = refl
no_moves (Some at) = refl

module _ (head : Head) (fits : HeadFits head) (c : ℕ) (below : c < head.clients) where
  tick_plays : (past : List BodyLine) (o : Option MoveBits) → move_of head (after head past) c ≡ o → stands_in (after head past).world c ≡ true
      → (moves : List MoveBits) (was : Option (ℤ × ℤ × ℤ)) → server_has head past c ≡ option_map (λ at. played at moves) was
      → server_has head (script.Tick ∷ past) c ≡ option_map (λ at. played at (moves ++ one_move o)) was
  tick_plays past None e stands moves was h =
      let p = after head past in
      tick_without_move p.world (moves_of head p) c (world_after head past fits) stands (taken_at head p c below ∙ ap (λ (x : Option MoveBits). or_still (Some x)) e)
      ∙ h ∙ ap (λ (ms : List MoveBits). option_map (λ at. played at ms) was) (sym (append-nil moves))
  tick_plays past (Some m) e stands moves was h =
      let p = after head past in
      tick_steps p.world (moves_of head p) c stands
      ∙ ap (λ (x : Move). option_map (λ at. stepped_by at x) (measures_in p.world c)) (taken_at head p c below ∙ ap (λ (x : Option MoveBits). or_still (Some x)) e)
      ∙ ap (option_map (λ at. moved_by at m)) h
      ∙ value_more was moves m

  pub plays : (later earlier : List BodyLine) → StoodIn head c later earlier
      → server_has head (later ++ earlier) c ≡ option_map (λ at. played at (applied_since head c later earlier)) (server_has head earlier c)
  plays [] earlier stood = sym (no_moves (server_has head earlier c))
  plays (script.Tick ∷ later) earlier stood =
      tick_plays (later ++ earlier) (move_of head (after head (later ++ earlier)) c) refl stood.0 (applied_since head c later earlier) (server_has head earlier c)
      (plays later earlier stood.1)
  plays (script.Scan d ∷ later) earlier stood = plays later earlier stood
  plays (script.Post d class payload ∷ later) earlier stood = plays later earlier stood
  plays (script.ClientPost d class payload ∷ later) earlier stood = plays later earlier stood
  plays (script.Pack d ∷ later) earlier stood = plays later earlier stood
  plays (script.ClientPack d ∷ later) earlier stood = plays later earlier stood
  plays (script.Down d k ∷ later) earlier stood = plays later earlier stood
  plays (script.Up d k ∷ later) earlier stood = plays later earlier stood
  plays (script.Raw d bytes ∷ later) earlier stood = plays later earlier stood
  plays (script.Move d m ∷ later) earlier stood = plays later earlier stood
  plays (script.Show d ∷ later) earlier stood = plays later earlier stood
  plays (script.World ∷ later) earlier stood = plays later earlier stood
