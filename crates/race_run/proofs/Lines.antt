-- What was done of the first lines of a script, with one line more.
use Rattle.std.proofs.Common.{◌≡◌, ℕ, ◌+◌, ◌<◌, ◌≤◌, List, [], ◌∷◌, ◌++◌, length, take, get_or, Option, Some, None, refl, sym, ap, subst, ◌∙◌, arith, length-append}
use Rattle.std.specs.Prelude.{IsSome}
use Rattle.std.specs.List.{cons_option}
use Rattle.std.proofs.lemmas.List.Elements.{filter_map-append}
use Rattle.std.proofs.Math.Seq.{take-suc}
use Rattle.std.proofs.Math.Numerals.{suc-eq-add-one}
use Rattle.kept_pair.specs.declared.fault.KeepFault.{KeepFault}
use Rattle.match_script.specs.declared.types.BodyLine.{BodyLine}
use Rattle.connection_lock.specs.declared.net_line.NetLine.{NetLine}
use Rattle.race_run.specs.Asking.{net_line, net_lines}

lines-more : (client : ℕ) (lines : List BodyLine) (i : ℕ) (d : BodyLine) → i < length lines
    → net_lines client (take (i + 1) lines) ≡ net_lines client (take i lines) ++ net_lines client (get_or lines i d ∷ [])
lines-more client lines i d lt =
    ap (λ n. net_lines client (take n lines)) (sym (suc-eq-add-one i)) ∙ ap (net_lines client) (take-suc lines i d lt) ∙ filter_map-append (net_line client) (take i lines) (get_or lines i d ∷ [])

one-at-most : (client : ℕ) (line : BodyLine) → length (net_lines client (line ∷ [])) ≤ 1
one-at-most client line = by_answer (net_line client line)
  where
    by_answer : (o : Option NetLine) → length (cons_option o []) ≤ 1
    by_answer None = omega arith
    by_answer (Some asked) = omega arith

-- before the line an activity had stopped or not, and done some lines; and after it
module _ (client : ℕ) (lines : List BodyLine) (i : ℕ) (d : BodyLine) (lt : i < length lines) (stopped result : Option KeepFault) (done new : List NetLine)
    (given : result ≡ None → new ≡ done ++ net_lines client (get_or lines i d ∷ []))
    (refused : IsSome result → new ≡ done) (still : IsSome stopped → result ≡ stopped) where
  went-on : (before after : Option KeepFault) → (IsSome before → after ≡ before) → after ≡ None → before ≡ None
  went-on None after same none = refl
  went-on (Some fault) after same none = absurd (let no : Some fault ≡ None = sym (same refl) ∙ none in cc)

  module _ (all : stopped ≡ None → done ≡ net_lines client (take i lines)) where
    pub all_more : result ≡ None → new ≡ net_lines client (take (i + 1) lines)
    all_more none =
        given none ∙ ap (λ l. l ++ net_lines client (get_or lines i d ∷ [])) (all (went-on stopped result still none)) ∙ sym (lines-more client lines i d lt)

    pub first_more : (n : ℕ) × (n ≤ i) × (done ≡ net_lines client (take n lines)) → (n : ℕ) × (n ≤ i + 1) × (new ≡ net_lines client (take n lines))
    first_more (n, le, is) = by_end result refl
      where
        by_end : (o : Option KeepFault) → result ≡ o → (k : ℕ) × (k ≤ i + 1) × (new ≡ net_lines client (take k lines))
        by_end None e = (i + 1, omega arith, all_more e)
        by_end (Some fault) e = (n, omega (arith, le), refused (subst IsSome (sym e) refl) ∙ is)

  pub few_more : length done ≤ i → length new ≤ i + 1
  few_more few = by_end result refl
    where
      by_end : (o : Option KeepFault) → result ≡ o → length new ≤ i + 1
      by_end None e =
          omega (arith, few, one-at-most client (get_or lines i d), length-append done (net_lines client (get_or lines i d ∷ [])), ap length (given e))
      by_end (Some fault) e = omega (arith, few, ap length (refused (subst IsSome (sym e) refl)))
