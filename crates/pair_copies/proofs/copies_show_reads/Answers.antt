use Rattle.std.proofs.Common.{◌≡◌, ◌⊎◌, inl, inr, ℕ, ℤ, zero, suc, ◌<◌, true, List, [], ◌∷◌, ◌∙◌, length, Some, None, Option, refl, sym, ap, arith}
use Rattle.std.specs.Prelude.{slice_get, slice_index_or}
use Rattle.std.specs.Option.{option_map}
use Rattle.std.specs.List.{list_any}
use Rattle.quantised_fields.specs.declared.field.FieldSpec.{FieldSpec}
use Rattle.quantised_fields.specs.Levels.{level_of}
use Rattle.ghost_model.specs.Ghosts.{carries, unjudged, is_due}
use Rattle.ghost_model.proofs.Holders.{apart}
use Rattle.ghost_masks.specs.Plan.{sizes, kind_of, fields_of}
use Rattle.ghost_client.specs.declared.copy.GhostCopy.{GhostCopy}
use Rattle.ghost_client.specs.Copies.{copy_of}
use Rattle.stream_manager.specs.Limits.{Terms, AreTerms}
use Rattle.stream_manager.specs.Server.{ghost_log}
use Rattle.stream_manager.specs.Client.{ghosts_came}
use Rattle.ghost_logs.specs.Sent.{processed_at}
use Rattle.ghost_logs.specs.Copies.{IsOfHolder, CopiesAgree}
use Rattle.ghost_logs.specs.Recovery.{IsRight, IsRecovered}
use Rattle.ghost_logs.proofs.Agree.{agree, loses-nothing}
use Rattle.ghost_logs.proofs.Kept.{same-kept}
use Rattle.pair_core.specs.History.{PairStep, history}
use Rattle.pair_laws.proofs.Good.{AreGood}
use Rattle.pair_laws.proofs.Delivered.{good}
use Rattle.pair_laws.proofs.Carried.{carried}
use Rattle.pair_laws.proofs.Joined.{joined}
use Rattle.pair_copies.specs.Reads.{IsReadLevel, ShowsReads, IsLastLevel, IsNewest, last_read}
use Rattle.pair_copies.proofs.Sent.{all-read, all-last}
use Rattle.pair_copies.proofs.copies_show_reads.Goals as goal

spec-at : (fs : List FieldSpec) (f : ℕ) → f < length fs → (spec : FieldSpec) × (slice_get fs f ≡ Some spec)
spec-at [] f lt = absurd (omega arith)
spec-at (g ∷ fs) zero lt = (g, refl)
spec-at (g ∷ fs) (suc f) lt = spec-at fs f (omega arith)

-- a level that is told is that of a value
record IsLevelOf (spec : FieldSpec) (value : Option ℤ) (level : ℕ) : Type 0 where
  pub of : ℤ
  pub is : value ≡ Some of
  pub level_is : level ≡ level_of spec of

told : (spec : FieldSpec) (level : ℕ) (value : Option ℤ) → Some level ≡ option_map (level_of spec) value → IsLevelOf spec value level
told spec level None e = absurd (cc)
told spec level (Some v) e = record { of = v; is = refl; level_is = cc }

module _ (t : Terms) (limits : AreTerms t) (steps : List PairStep) (all : AreGood t steps) where
  agreed : CopiesAgree t (history t steps).server (history t steps).client
  agreed = agree t (history t steps).server (history t steps).client (carried t limits steps all).legal (joined t limits steps all)

  own : (kind n f : ℕ) (spec : FieldSpec) → kind ≡ kind_of (ghost_log (history t steps).server) n → slice_get (fields_of t.kinds kind) f ≡ Some spec → slice_get (fields_of t.kinds (kind_of (ghost_log (history t steps).server) n)) f ≡ Some spec
  own kind n f spec is at = ap (λ k. slice_get (fields_of t.kinds k) f) (sym is) ∙ at

  one-read : (at : ℕ) (copy : GhostCopy) (h : IsOfHolder t (history t steps).server (history t steps).client at copy) (f : ℕ) → f < length copy.levels → IsReadLevel t steps copy.kind h.period f (slice_index_or copy.levels f 0)
  one-read at copy h f lt =
      let spec = spec-at (fields_of t.kinds copy.kind) f (omega (arith, h.fields)) in
      let r = all-read t limits (ghost_log (history t steps).server) h.period f spec.0 (own copy.kind h.period f spec.0 h.kind spec.1) steps all (same-kept (ghost_log (history t steps).server)) (processed_at (history t steps).client) in
      let k = told spec.0 (slice_index_or copy.levels f 0) r.value (sym (h.levels f lt) ∙ r.level) in
      record { spec = spec.0; field = spec.1; value = k.of; read = r.was k.of k.is; level_is = k.level_is }

  shows-reads : (at : ℕ) (copy : GhostCopy) → copy_of (ghosts_came (history t steps).client) at ≡ Some copy → ShowsReads t steps at copy
  shows-reads at copy here = let h = agreed at copy here in record { period = h.period; holds = h.holds; kind = h.kind; levels = one-read at copy h }

  newest : (n f : ℕ) → IsRight (history t steps).server (history t steps).client n f → IsNewest t steps n f
  newest n f right =
      let h = agreed right.at right.copy right.here in
      let same : h.period ≡ n = apart (sizes t.kinds) (ghost_log (history t steps).server) (carried t limits steps all).legal h.period n right.at h.holds right.holds in
      let kind : right.copy.kind ≡ kind_of (ghost_log (history t steps).server) n = h.kind ∙ ap (kind_of (ghost_log (history t steps).server)) same in
      record { at = right.at; holds = right.holds; copy = right.copy; here = right.here; kind = kind; fields = h.fields; level = λ lt. last kind h.fields lt }
    where
      last : right.copy.kind ≡ kind_of (ghost_log (history t steps).server) n → length right.copy.levels ≡ length (fields_of t.kinds right.copy.kind) → f < length right.copy.levels
          → IsLastLevel t steps right.copy.kind n f (slice_index_or right.copy.levels f 0)
      last kind fields lt =
          let spec = spec-at (fields_of t.kinds right.copy.kind) f (omega (arith, fields, lt)) in
          let r = all-last t limits (ghost_log (history t steps).server) n f spec.0 (own right.copy.kind n f spec.0 kind spec.1) steps all (same-kept (ghost_log (history t steps).server)) in
          let k = told spec.0 (slice_index_or right.copy.levels f 0) (last_read steps n f) (sym (right.level lt) ∙ r) in
          record { spec = spec.0; field = spec.1; value = k.of; last = k.is; level_is = k.level_is }

pub returns-clause-reads : goal.returns-clause-reads
returns-clause-reads c t steps limits fit met honest = shows-reads t limits steps (good t limits steps fit met honest)

pub returns-clause-newest : goal.returns-clause-newest
returns-clause-newest c t steps limits fit met honest n f up =
    let all = good t limits steps fit met honest in
    go (loses-nothing t (history t steps).server (history t steps).client (carried t limits steps all).legal (joined t limits steps all) n f up)
  where
    go : IsRecovered (history t steps).server (history t steps).client n f → (is_due (ghost_log (history t steps).server) n f ≡ true) ⊎ ((list_any (carries n f) (unjudged (ghost_log (history t steps).server)) ≡ true) ⊎ IsNewest t steps n f)
    go (inl due) = inl due
    go (inr (inl way)) = inr (inl way)
    go (inr (inr right)) = inr (inr (newest t limits steps (good t limits steps fit met honest) n f right))
