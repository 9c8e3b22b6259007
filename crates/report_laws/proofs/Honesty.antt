-- An honest client, over lines and over steps; and no two periods of a client hold one slot.
use Rattle.std.proofs.Common.{◌≡◌, ℕ, ◌==◌, Bool, true, false, List, [], ◌∷◌, take, refl, sym, subst}
use Rattle.std.proofs.lemmas.Bool.{eqb-true}
use Rattle.std.proofs.lemmas.List.{reverse-reverse}
use Rattle.pair_core.specs.Conditions.{IsHonest}
use Rattle.match_script.specs.declared.types.BodyLine.{BodyLine}
use Rattle.match_script.specs.declared.types.BodyLine.TheVariants as script
use Rattle.match_script.specs.declared.types.Head.{Head}
use Rattle.match_script.specs.declared.types.Script.{Script}
use Rattle.pair_core.specs.ghost_masks.Plan.{sizes}
use Rattle.ghost_model.proofs.Holders.{apart}
use Rattle.own_lists.specs.Kept.{journal}
use Rattle.own_lists.specs.Past.{client_terms, after}
use Rattle.own_lists.specs.Agreement.{OwnListsHold}
use Rattle.own_lists.proofs.Meeting.{are_met}
use Rattle.own_lists.proofs.LegalSteps.{legal_steps}
use Rattle.match_laws.specs.Laws.{first, journal_of}
use Rattle.match_laws.specs.Words.{is_raw, HasNoRaw}
use Rattle.match_laws.specs.Values.{moment_of, ghosts_then}
use Rattle.match_laws.proofs.InOrder.{are_lines}
use Rattle.match_laws.proofs.Refused.{honest_before, not_raw}
use Rattle.match_laws.proofs.WordsInOrder.{honest, no_raw_reversed}
use Rattle.report_laws.specs.Honest.{HonestByLines, OneHolder}

pub no_raw_is_honest : (s : Script) (c n : ℕ) → HasNoRaw c (take n s.body) → IsHonest (journal_of s c n)
no_raw_is_honest s c n quiet = honest s.head c (first n s) (no_raw_reversed c (take n s.body) quiet)

module _ (head : Head) (c : ℕ) where
  none-raw : (line : BodyLine) (past : List BodyLine) → IsHonest (journal (client_terms head c) ((after head (line ∷ past)).own c))
      → is_raw c line ≡ false
  none-raw (script.Raw d bytes) past h = go (c == d) refl
    where
      go : (b : Bool) → (c == d) ≡ b → b ≡ false
      go false e = refl
      go true e =
          let same : c ≡ d = eqb-true c d e in
          absurd (not_raw head past c bytes
          (subst (λ x. IsHonest (journal (client_terms head c) ((after head (script.Raw x bytes ∷ past)).own c))) (sym same) h))
  none-raw line past h = refl

  honest-has-none : (past : List BodyLine) → IsHonest (journal (client_terms head c) ((after head past).own c)) → HasNoRaw c past
  honest-has-none [] h = tt
  honest-has-none (line ∷ past) h = (none-raw line past h, honest-has-none past (honest_before head past line c h))

pub honest_by_lines : HonestByLines
honest_by_lines s c n = (
  no_raw_is_honest s c n,
  λ h. subst (HasNoRaw c) (reverse-reverse (take n s.body)) (no_raw_reversed c (first n s) (honest-has-none s.head c (first n s) h)),
)

pub one_holder : OwnListsHold → OneHolder
one_holder own s c n h below p q at =
    let t = client_terms s.head c in
    let items = (after s.head (first n s)).own c in
    let met = are_met t refl items (own s.head (first n s) c (are_lines s n h) below).0 in
    apart (sizes t.kinds) (ghosts_then (moment_of s c n)) (legal_steps t refl (journal t items) met) p q at
