-- A `show` line prints the client's copies as they are after the lines before it.
use Rattle.std.proofs.Common.{◌≡◌, ℕ, List, [], ◌∷◌, map, length, Option, Some, None, refl, sym, ap, ◌∙◌}
use Rattle.std.specs.Prelude.{option_map, filter_map}
use Rattle.std.specs.List.{cons_option}
use Rattle.tn_types.specs.declared.choices.Drain.{Drain}
use Rattle.tn_types.specs.declared.limits.TheConstants.{MAX_SLOTS}
use Rattle.ghost_model.specs.Words.{upto}
use Rattle.ghost_client.specs.declared.copy.GhostCopy.{GhostCopy}
use Rattle.pair_core.specs.stream_manager.Limits.{Terms}
use Rattle.pair_core.specs.stream_manager.Client.{control_at}
use Rattle.pair_core.specs.History.{PairStep, history}
use Rattle.pair_core.specs.Answers.{client_run, sampled_in, accepted_in}
use Rattle.match_script.specs.declared.types.BodyLine.TheVariants.{Show}
use Rattle.match_script.specs.declared.types.Script.{Script}
use Rattle.match_report.specs.Text.{told_text}
use Rattle.own_lists.specs.Kept.{Kept, undrained}
use Rattle.own_lists.specs.Past.{client_terms}
use Rattle.match_laws.specs.client_seat.Told.{copy_told, slot_told, copies_told}
use Rattle.match_laws.specs.Report.{told_after}
use Rattle.match_laws.specs.Laws.{first}
use Rattle.match_laws.specs.Values.{ClientMoment, moment_of, kept_then, copy_at}
use Rattle.match_laws.proofs.WordsLines.{line_told}
use Rattle.report_laws.specs.Shown.{IsShow, copies_printed, copy_words, slot_words, PrintedAsShown}
use Rattle.report_laws.proofs.Cutting.{told_words, copies_are}

-- the text of the line
pub text_is : (s : Script) (c n : ℕ) (text : List ℕ) → IsShow s c n text
    → text ≡ told_text (told_after s.head (first n s) (Show c))
text_is s c n text is = same (sym is.answered ∙ line_told s n (Show c) is.asked)
  where
    same : {a b : List ℕ} → Some a ≡ Some b → a ≡ b
    same {a} {b} e = cc

module _ (m : ClientMoment) where
  abbrev terms : Terms
  terms = client_terms m.head m.client

  abbrev steps : List PairStep
  steps = (kept_then m).course.steps

  abbrev written : List Drain
  written = undrained (kept_then m)

  -- slot by slot, what is told has these words
  pub slots_are : (xs : List ℕ) → map told_words (filter_map (slot_told terms steps written) xs) ≡ filter_map (slot_words m) xs
  slots_are [] = refl
  slots_are (at ∷ xs) = go (copy_at m at) (slots_are xs)
    where
      go : (o : Option GhostCopy)
          → map told_words (filter_map (slot_told terms steps written) xs) ≡ filter_map (slot_words m) xs
          → map told_words (cons_option (option_map (copy_told terms steps written at) o) (filter_map (slot_told terms steps written) xs))
          ≡ cons_option (option_map (copy_words m at) o) (filter_map (slot_words m) xs)
      go None rest = rest
      go (Some copy) rest = ap (λ l. copy_words m at copy ∷ l) rest

pub printed_as_shown : PrintedAsShown
printed_as_shown s c n text is =
    let m = moment_of s c n in
    let t = client_terms s.head c in
    let k : Kept = kept_then m in
    let copies = copies_told t k.course.steps (undrained k) in
    ap copies_printed (text_is s c n text is)
    ∙ copies_are c (client_run t k.course.steps) (length (sampled_in t k.course.steps)) (length (accepted_in t k.course.steps)) k.course.taken
    (control_at (history t k.course.steps).client) copies
    ∙ slots_are m (upto MAX_SLOTS)
