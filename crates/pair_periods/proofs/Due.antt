-- A field that is due stays due after a pack that doesn't read it. The pack absorbs its drains first, so what is drained is due
-- before the packet is made; and what the packet carries of a period is what the pack reads.
use Rattle.std.proofs.Common.{◌≡◌, ◌⊎◌, ⊎_elim, ℕ, ◌-◌, ◌<◌, ◌==◌, ◌&&◌, ◌||◌, not, length, refl, sym, ap, ◌∙◌, subst, arith, Bool, true, false, List, [], ◌∷◌, None}
use Rattle.std.specs.Prelude.{map}
use Rattle.std.specs.List.{AllByRecursion, list_any}
use Rattle.std.proofs.lemmas.Bool.{or_right}
use Rattle.std.proofs.lemmas.List.Elements.{All-weaker, recursion_from_All}
use Rattle.tn_types.specs.declared.choices.Drain.{Drain}
use Rattle.tn_types.specs.declared.choices.Choice.{Choice}
use Rattle.tn_types.specs.declared.choices.Read.{Read}
use Rattle.tn_types.specs.BitWords.{has_bit}
use Rattle.quantised_fields.specs.Kinds.{table_fault}
use Rattle.notify_window.specs.declared.SendState.{SendState}
use Rattle.notify_window.specs.declared.SendState.TheVariants.{Held, Worn, Room}
use Rattle.ghost_model.specs.Ghosts.{Grant, is_due, carries}
use Rattle.ghost_model.specs.Legal.{IsItsMask, IsSendable}
use Rattle.ghost_masks.specs.Plan.{sizes, kind_of, fields_of}
use Rattle.ghost_masks.proofs.Items.{few_fields}
use Rattle.stream_manager.specs.Limits.{Terms}
use Rattle.stream_manager.specs.Server as server
use Rattle.stream_manager.specs.Server.{ServerEvent, server_state, ghost_log, choices_at, packed_onto}
use Rattle.pair_steps.specs.conn_packing.Packs.{absorbing, values_of}
use Rattle.pair_steps.specs.pair_core.History.{PairStep, Pack, history}
use Rattle.pair_steps.specs.conn_packing.Reads.{IsReadFor, field_of}
use Rattle.pair_steps.specs.pair_core.Conditions.{IsMet}
use Rattle.pair_steps.proofs.Below.conn_packing.Absorbed.{absorbed-state, all-drained}
use Rattle.pair_steps.proofs.Below.pair_core.LegalLogs.{IsLegalLog, absorbs-legal, packed-legal}
use Rattle.pair_steps.proofs.Below.conn_packing.Scoped.{absorbed-kind}
use Rattle.lane_periods.specs.Views.{is_read, is_drained}
use Rattle.lane_periods.proofs.Numbers.{or-cases}
use Rattle.pair_steps.proofs.Carriers.{is-it, asked_has}
use Rattle.pair_steps.proofs.Due.{Due, absorbs_due}

-- ---- what is carried is read

read-has : (n f : ℕ) (reads : List Read) → is_read reads n f ≡ list_any (is-it n f) (map field_of reads)
read-has n f [] = refl
read-has n f (r ∷ reads) = ap (λ b. ((r.n == n) && (r.field == f)) || b) (read-has n f reads)

-- ---- packs

module _ (n f : ℕ) where
  -- what is drained is due
  pub drained_due : (drains : List Drain) (s : List ServerEvent) → (is_due (ghost_log s) n f || is_drained drains n f) ≡ true → Due n f (absorbing drains s)
  drained_due [] s e = ⊎_elim (λ (h : is_due (ghost_log s) n f ≡ true). h) (λ (h : false ≡ true). absurd (cc)) (or-cases (is_due (ghost_log s) n f) false e)
  drained_due (d ∷ drains) s e =
      ⊎_elim (λ (h : is_due (ghost_log s) n f ≡ true). absorbs_due n f (d ∷ drains) s h)
      (λ (h : (((d.n == n) && has_bit d.bits f) || is_drained drains n f) ≡ true).
      ⊎_elim
      (λ (x : ((d.n == n) && has_bit d.bits f) ≡ true). absorbs_due n f drains (server.Scoped (server.Absorb d.n d.bits) ∷ s) (ap (λ b. b || is_due (ghost_log s) n f) x))
      (λ (x : is_drained drains n f ≡ true). drained_due drains (server.Scoped (server.Absorb d.n d.bits) ∷ s) (or_right (is_due (ghost_log (server.Scoped (server.Absorb d.n d.bits) ∷ s)) n f) (is_drained drains n f) x))
      (or-cases ((d.n == n) && has_bit d.bits f) (is_drained drains n f) h))
      (or-cases (is_due (ghost_log s) n f) (((d.n == n) && has_bit d.bits f) || is_drained drains n f) e)

  module _ (t : Terms) (s : List ServerEvent) (reads : List Read) (table : table_fault t.kinds ≡ None) (legal : IsLegalLog t.kinds s)
      (own : f < length (fields_of t.kinds (kind_of (ghost_log s) n))) (none : is_read reads n f ≡ false) where
    uncarried : IsReadFor t s Room reads → carries n f (choices_at t s) ≡ false
    uncarried read = by (carries n f (choices_at t s)) refl
      where
        masks : AllByRecursion (λ (c : Choice). IsItsMask (sizes t.kinds) (Grant ∷ ghost_log s) c.n c.mask c.op) (choices_at t s)
        masks =
            recursion_from_All (λ (c : Choice). IsItsMask (sizes t.kinds) (Grant ∷ ghost_log s) c.n c.mask c.op) (choices_at t s)
            (All-weaker (IsSendable (sizes t.kinds) (Grant ∷ ghost_log s)) (λ (c : Choice). IsItsMask (sizes t.kinds) (Grant ∷ ghost_log s) c.n c.mask c.op) (λ c k. k.carried) (choices_at t s)
            (packed-legal t s (values_of reads) table legal).0.0)

        by : (b : Bool) → carries n f (choices_at t s) ≡ b → b ≡ false
        by true e =
            absurd (
            let asked : is_read reads n f ≡ true =
            read-has n f reads ∙ ap (list_any (is-it n f)) read.asked ∙ asked_has t.kinds (Grant ∷ ghost_log s) n f own (omega (arith, own, few_fields t.kinds table (kind_of (ghost_log s) n))) (choices_at t s) masks e in cc)
        by false e = refl

    packed_due : (state : SendState) → IsReadFor t s state reads → Due n f s → Due n f (packed_onto t s (values_of reads) state)
    packed_due Held read due = due
    packed_due Worn read due = due
    packed_due Room read due = (λ j. not (uncarried read j) && due j)

  -- what was due or is drained, and isn't read, is due after a pack
  pub pack_due : (t : Terms) (steps : List PairStep) (drains : List Drain) (reads : List Read) → table_fault t.kinds ≡ None → IsLegalLog t.kinds (history t steps).server
      → IsMet t steps (Pack drains reads) → f < length (fields_of t.kinds (kind_of (ghost_log (history t steps).server) n)) → is_read reads n f ≡ false
      → (is_due (ghost_log (history t steps).server) n f || is_drained drains n f) ≡ true → Due n f (history t (Pack drains reads ∷ steps)).server
  pack_due t steps drains reads table legal met own none e =
      let s = (history t steps).server in
      let later = absorbing drains (history t steps).server in
      packed_due t (absorbing drains (history t steps).server) reads table
      (absorbs-legal t drains (history t steps).server (all-drained t (history t steps).server (server_state t.config (history t steps).server) drains met.0) legal)
      (subst (λ k. f < length (fields_of t.kinds k)) (sym (absorbed-kind drains (history t steps).server n)) own) none
      (server_state t.config (absorbing drains (history t steps).server))
      (subst (λ st. IsReadFor t (absorbing drains (history t steps).server) st reads) (sym (absorbed-state t.config drains (history t steps).server)) met.1)
      (drained_due drains (history t steps).server e)
