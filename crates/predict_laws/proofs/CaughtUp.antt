-- Once ticks took all moves that a client sampled, the moves that it holds for pending are those that ticks took since the pack of the
-- packet that came last; so what it predicts is what the server has.
use Rattle.std.proofs.Common.{◌≡◌, ℕ, ◌<◌, List, [], ◌∷◌, ◌++◌, length, drop, Some, refl, sym, ap, ◌∙◌, arith, append_assoc, length-append}
use Rattle.std.proofs.Math.Seq.{drop-append_seam}
use Rattle.std.specs.Prelude.{option_map}
use Rattle.std.proofs.lemmas.List.{append-nil, length-drop}
use Rattle.tn_types.specs.declared.choices.Drain.{Drain}
use Rattle.tn_types.specs.declared.moves.MoveBits.{MoveBits}
use Rattle.tn_types.specs.Prefix.{IsPrefixOf}
use Rattle.move_manager.specs.Sending.{acked_of}
use Rattle.stream_manager.specs.declared.config.Config.{Config}
use Rattle.stream_manager.specs.Limits.{Terms}
use Rattle.stream_manager.specs.Server as server
use Rattle.stream_manager.specs.Server.{ServerEvent, accepted_at}
use Rattle.stream_manager.specs.Client.{ClientEvent, sample_log, sampled_at}
use Rattle.match_script.specs.declared.types.BodyLine.{BodyLine}
use Rattle.match_script.specs.declared.types.BodyLine.TheVariants.{Pack}
use Rattle.match_script.specs.declared.types.Head.{Head}
use Rattle.match_script.specs.declared.types.Script.{Script}
use Rattle.match_script.specs.Ranges.{HasRanges}
use Rattle.pair_core.specs.History.{PairStep, history}
use Rattle.pair_core.specs.Answers.{accepted_in, sampled_in}
use Rattle.pair_core.specs.Conditions.{IsHonest}
use Rattle.conn_packing.specs.Packs.{absorbing}
use Rattle.predict_lines.specs.match_laws.Applied.{applied}
use Rattle.predict_lines.specs.match_laws.Laws.{first, journal_of}
use Rattle.predict_lines.proofs.Below.match_laws.Applied.{taken}
use Rattle.predict_lines.proofs.Below.match_laws.InOrder.{terms_fit, are_good, moves_in_order}
use Rattle.own_lists.specs.Kept.{drains_of}
use Rattle.own_lists.specs.Past.{client_terms, kept_by, after}
use Rattle.own_lists.specs.Agreement.{OwnListsHold}
use Rattle.pair_laws.proofs.Good.{AreGood}
use Rattle.pair_laws.proofs.Joined.{joins}
use Rattle.world_rules.specs.Kinds.{match_kinds}
use Rattle.client_predict.specs.Standing.{played}
use Rattle.client_predict.specs.Predicting.{value_of}
use Rattle.predict_client.specs.Following.{base_at, unaccepted}
use Rattle.predict_lines.specs.Lines.{end_of, told_of}
use Rattle.predict_laws.specs.Newest.{newest_body}
use Rattle.predict_laws.specs.Promise.{server_has, packet_of, IsCaughtUp, ValueIsServers}
use Rattle.predict_laws.proofs.Acknowledged.{moves_told, acked_newest}
use Rattle.predict_laws.proofs.Known.{known, value_known}
use Rattle.predict_laws.proofs.Plays.{applied_since, applied_parts, plays}

-- ---- lists

no_length : {A : Type 0} (xs : List A) → length xs ≡ 0 → xs ≡ []
no_length [] e = refl
no_length (x ∷ xs) e = absurd (omega (arith, e))

-- a front that is as long is the whole
same_front : {A : Type 0} (xs ys : List A) → IsPrefixOf xs ys → length xs ≡ length ys → xs ≡ ys
same_front xs ys front e =
    let none : length front.0 ≡ 0 = omega (arith, e, ap length front.1, length-append xs front.0) in
    sym (append-nil xs) ∙ ap (λ rest. xs ++ rest) (sym (no_length front.0 none)) ∙ front.1

longer_front : {A : Type 0} (xs ys zs : List A) → IsPrefixOf xs ys → IsPrefixOf ys zs → IsPrefixOf xs zs
longer_front xs ys zs f g = (f.0 ++ g.0, sym (append_assoc xs f.0 g.0) ∙ ap (λ l. l ++ g.0) f.1 ∙ g.1)

-- ---- what the pack tells

absorbed_accepts : (c : Config) (drains : List Drain) (log : List ServerEvent) → accepted_at c (absorbing drains log) ≡ accepted_at c log
absorbed_accepts c [] log = refl
absorbed_accepts c (d ∷ drains) log = absorbed_accepts c drains (server.Scoped (server.Absorb d.n d.bits) ∷ log)

-- as many moves as the server accepted by then
tells_accepted : (head : Head) (past : List BodyLine) (c : ℕ)
    → (packet_of head past c).accepted ≡ length (accepted_in (client_terms head c) (kept_by head (after head past) c).course.steps)
tells_accepted head past c =
    let t = client_terms head c in
    let k = kept_by head (after head past) c in
    ap length (absorbed_accepts t.config (drains_of t k) (history t k.course.steps).server)

-- ---- the law

module _ (own : OwnListsHold) (s : Script) (c n : ℕ) (ranges : HasRanges s) (below : c < s.head.clients) (honest : IsHonest (journal_of s c n)) where
  abbrev t : Terms
  t = client_terms s.head c

  abbrev steps : List PairStep
  steps = journal_of s c n

  abbrev u : List ClientEvent
  u = end_of s.head (first n s) c

  fit : AreGood t steps
  fit = are_good own s c n ranges below honest

  acked_is : (earlier : List BodyLine) → newest_body u ≡ Some (packet_of s.head earlier c)
      → acked_of (sample_log u) ≡ length (accepted_in t (kept_by s.head (after s.head earlier) c).course.steps)
  acked_is earlier newest =
      let j = joins t (terms_fit s.head c ranges.head below) steps fit in
      acked_newest t (history t steps).server u j.made j.came ∙ ap moves_told newest ∙ tells_accepted s.head earlier c

  -- all moves that were sampled are applied
  all_applied : (kept_by s.head (after s.head (first n s)) c).course.taken ≡ length (sampled_in t steps) → applied s.head c (first n s) ≡ sampled_in t steps
  all_applied all =
      let applied_all = taken s.head c (first n s) in
      same_front (applied s.head c (first n s)) (sampled_in t steps)
      (longer_front (applied s.head c (first n s)) (accepted_in t steps) (sampled_in t steps) applied_all.front (moves_in_order own s c n ranges below honest))
      (applied_all.count ∙ all)

  -- at the pack all accepted moves were applied
  applied_by : (earlier : List BodyLine) → drop (kept_by s.head (after s.head earlier) c).course.taken (accepted_in t (kept_by s.head (after s.head earlier) c).course.steps) ≡ []
      → length (applied s.head c earlier) ≡ length (accepted_in t (kept_by s.head (after s.head earlier) c).course.steps)
  applied_by earlier none =
      let k = (kept_by s.head (after s.head earlier) c).course in
      let by = taken s.head c earlier in
      let accepted = accepted_in t k.steps in
      omega (arith, by.count, ap length by.front.1, length-append (applied s.head c earlier) by.front.0, ap length none, length-drop k.taken accepted)

  pending_is : (up : IsCaughtUp s.head (first n s) c) → unaccepted u ≡ applied_since s.head c up.later (Pack c ∷ up.earlier)
  pending_is up =
      let before = applied s.head c up.earlier in
      let since = applied_since s.head c up.later (Pack c ∷ up.earlier) in
      let whole : sampled_in t steps ≡ before ++ since =
      sym (all_applied up.all_taken) ∙ ap (applied s.head c) (sym up.whole) ∙ applied_parts s.head c up.later (Pack c ∷ up.earlier) in
      let count : acked_of (sample_log u) ≡ length before = acked_is up.earlier up.newest ∙ sym (applied_by up.earlier up.none_waited) in
      ap (λ k. drop k (sampled_at u)) count ∙ ap (drop (length before)) whole ∙ drop-append_seam before since

  pub has_it : (up : IsCaughtUp s.head (first n s) c) → value_of (told_of s.head (first n s) c) ≡ server_has s.head (first n s) c
  has_it up =
      let since = applied_since s.head c up.later (Pack c ∷ up.earlier) in
      value_known u (known t (terms_fit s.head c ranges.head below) steps fit)
      ∙ ap (λ (ms : List MoveBits). option_map (λ at. played at ms) (base_at match_kinds u)) (pending_is up)
      ∙ ap (option_map (λ at. played at since)) (up.base ∙ sym up.had)
      ∙ sym (plays s.head ranges.head c below up.later (Pack c ∷ up.earlier) up.stood)
      ∙ ap (λ (past : List BodyLine). server_has s.head past c) up.whole

pub value_servers : OwnListsHold → ValueIsServers
value_servers own s c n ranges below honest up = has_it own s c n ranges below honest up
