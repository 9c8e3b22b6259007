-- What the server's end of a pair tells of its periods is what the kept steps say of them.
use Rattle.std.proofs.Common.{◌≡◌, ◌∙◌, ℕ, Bool, true, false, ◌&&◌, List, refl, sym, ap, subst, ltb}
use Rattle.std.specs.Prelude.{◌↔◌, IsTrue}
use Rattle.tn_types.specs.BitWords.{has_bit}
use Rattle.ghost_model.specs.Scope.{shows}
use Rattle.ghost_model.specs.Ghosts.{scope_log, is_due}
use Rattle.ghost_model.specs.Candidates.{due_mask}
use Rattle.ghost_model.specs.Legal.{field_count}
use Rattle.ghost_model.proofs.Bits.{due_bit}
use Rattle.ghost_scope.specs.Shown.{IsUp, IsAlive}
use Rattle.ghost_masks.specs.Plan.{sizes}
use Rattle.stream_manager.specs.Limits.{Terms}
use Rattle.stream_manager.specs.Stands.{ConnState, ConnStandsFor, terms_of}
use Rattle.stream_manager.specs.ConnCalls.{Answers}
use Rattle.stream_manager.specs.Server.{ServerEvent, ghost_log}
use Rattle.pair_core.specs.History.{PairStep}
use Rattle.pair_core.specs.Stands.{PairState}
use Rattle.conn_packing.proofs.Scoped.{up-alive, up-from, up-to}
use Rattle.kept_pair.specs.Kept.{Replays, newest_first}
use Rattle.lane_periods.specs.Periods.{has}
use Rattle.pair_steps.specs.Steps.{shows_in, up_in}
use Rattle.pair_periods.specs.Agreement.{server_log}
use Rattle.pair_steps.proofs.Journals.{shows_told}
use Rattle.pair_periods.proofs.Agreeing.{up-listed, listed-up}
use Rattle.race_reads.specs.Legal.{is_field_due}

same_answer : (b h : Bool) → (b ≡ true → h ≡ true) → (h ≡ true → b ≡ true) → b ≡ h
same_answer true h f g = sym (f refl)
same_answer false true f g = g refl
same_answer false false f g = refl

module _ (p : PairState) (steps : List PairStep) (r : Replays p steps) (conn : ConnState) (is : conn ≡ p.conn) where
  abbrev t : Terms
  t = terms_of p.conn

  abbrev past : List PairStep
  past = newest_first steps

  abbrev log : List ServerEvent
  log = server_log t past

  stands : ConnStandsFor conn log
  stands = subst (λ (x : ConnState). ConnStandsFor x log) (sym is) r.stands.conn

  pub shows_are : (result : ℕ) → Answers conn (λ l. shows (scope_log (ghost_log l))) result → result ≡ shows_in past
  shows_are result told = told log stands ∙ shows_told t past

  module _ (n : ℕ) where
    up_here : has n (up_in past) ≡ true → IsUp conn.masks.periods n
    up_here up = up-from conn.masks (ghost_log log) stands.masks n (listed-up t past n up)

    pub alive : has n (up_in past) ≡ true → IsAlive conn.masks.periods n
    alive up = let here = up_here up in record { shown = here.shown; alive = up-alive _ here.up }

    pub up_is : (b : Bool) → IsTrue b ↔ IsUp conn.masks.periods n → b ≡ has n (up_in past)
    up_is b h = same_answer b (has n (up_in past)) (λ e. up-listed t past n (up-to conn.masks (ghost_log log) stands.masks n (h.0 e))) (λ e. h.1 (up_here e))

    pub due_are : (result : ℕ) → Answers conn (λ l. due_mask (ghost_log l) n (field_count (sizes conn.masks.kinds) (ghost_log l) n)) result
        → (field : ℕ) → has_bit result field ≡ is_field_due t past n field
    due_are result told field =
        ap (λ (m : ℕ). has_bit m field) (told log stands) ∙ due_bit (ghost_log log) n (field_count (sizes conn.masks.kinds) (ghost_log log) n) field
        ∙ ap (λ (x : ConnState). ltb field (field_count (sizes x.masks.kinds) (ghost_log log) n) && is_due (ghost_log log) n field) is
