-- What the table of last reads, the final word and the mask of due fields say of a period is what is asked of it.
use Rattle.std.proofs.Common.{◌≡◌, ◌∙◌, ℕ, ◌<◌, ◌≤◌, Bool, true, not, List, length, sym, ap, subst, arith, Option, None}
use Rattle.std.specs.Prelude.{◌↔◌, slice_index_or}
use Rattle.tn_types.specs.BitWords.{has_bit}
use Rattle.dirty_lanes.specs.declared.limits.TheConstants.{MAX_LANE_FIELDS}
use Rattle.dirty_lanes.specs.Words.{Words, mask_at}
use Rattle.stream_manager.specs.Limits.{Terms}
use Rattle.pair_core.specs.History.{PairStep}
use Rattle.kept_pair.specs.Kept.{newest_first}
use Rattle.lane_periods.specs.Periods.{has}
use Rattle.pair_steps.specs.Steps.{shows_in, is_hidden_in, up_in}
use Rattle.pair_periods.proofs.Agreeing.{passing-has}
use Rattle.race_history.specs.Deciding.{Decides}
use Rattle.race_history.specs.History.{Values, fields_told}
use Rattle.race_reads.specs.Reads.{object_of, last_read, IsCurrent}
use Rattle.race_reads.specs.Tables.{place_in, AreLast, AreCurrentBy}
use Rattle.race_reads.specs.Legal.{reads_of, is_field_due, IsPeriodCurrent}
use Rattle.race_reads.proofs.Joining.{told_object}
use Rattle.race_reads.proofs.Deciding.{decides_same}

-- a period that is up was shown
pub up_shown : (past : List PairStep) (n : ℕ) → has n (up_in past) ≡ true → n < shows_in past
up_shown past n h = (passing-has (λ m. not (is_hidden_in past m)) (shows_in past) n h).0

-- what is asked of one field, by the parts that it speaks of
abbrev Parts : Type 0
Parts = ℕ × Bool × Option ℕ × ℕ

abbrev CurrentBy : Values → ℕ → Parts → Type 0
CurrentBy values field x = IsCurrent values x.0 x.1 x.2 x.3 field

module _ (values : Values) (words : Words) (client : ℕ) (t : Terms) (steps : List PairStep) (objects : List ℕ) (n object word due periods : ℕ) (last : List (Option ℕ))
    (shown : n < length objects) (is : object ≡ object_of objects n) (there : length values ≤ words.objects) (few : (o : ℕ) → length (fields_told values o) ≤ MAX_LANE_FIELDS)
    (word_is : object < words.objects → word ≡ mask_at words client object) (due_is : (field : ℕ) → has_bit due field ≡ is_field_due t (newest_first steps) n field)
    (last_are : AreLast periods (reads_of steps) last) (lt : n < periods) where
  abbrev noted_parts : ℕ → Parts
  noted_parts field = (word, has_bit due field, slice_index_or last (place_in n field) None, object)

  abbrev asked_parts : ℕ → Parts
  asked_parts field = (mask_at words client (object_of objects n), is_field_due t (newest_first steps) n field, last_read (reads_of steps) n field, object_of objects n)

  same : (field : ℕ) → field < length (fields_told values object) → noted_parts field ≡ asked_parts field
  same field f =
      let told = told_object values object field f in
      let m = few object in
      let w : word ≡ mask_at words client (object_of objects n) = word_is (omega (arith, told, there)) ∙ ap (λ o. mask_at words client o) is in
      let l = last_are.each n field lt (omega (arith, f, m)) in
      (λ j. (w j, due_is field j, l j, is j))

  fields_same : length (fields_told values (object_of objects n)) ≡ length (fields_told values object)
  fields_same = ap (λ o. length (fields_told values o)) (sym is)

  period_same : AreCurrentBy values word due last object n ↔ IsPeriodCurrent values words client t steps objects n
  period_same = (
    λ a. record {
      shown = shown;
      each = λ field f. let g : field < length (fields_told values object) = omega (arith, f, fields_same) in subst (CurrentBy values field) (same field g) (a field g);
    },
    λ p. λ field f. subst (CurrentBy values field) (sym (same field f)) (p.each field (omega (arith, f, fields_same))),
  )

  pub period_decided : (b : Bool) → Decides b (AreCurrentBy values word due last object n) → Decides b (IsPeriodCurrent values words client t steps objects n)
  period_decided b d = decides_same b (AreCurrentBy values word due last object n) (IsPeriodCurrent values words client t steps objects n) period_same d
