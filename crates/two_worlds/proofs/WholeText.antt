-- The text of a server that serves one client alone is that of the whole own list.
use Rattle.std.proofs.Common.{◌≡◌, ◌∙◌, ℕ, ◌<◌, ◌≤◌, Bool, true, false, nat_lt, List, [], if◌then◌else◌, sym, ap, subst, arith, Option, Err}
use Rattle.std.specs.Prelude.{Result}
use Rattle.std.specs.List.{flat_map}
use Rattle.std.proofs.lemmas.Bool.Decides.{nat_tests}
use Rattle.tn_outside.specs.Causes.{HandsOn}
use Rattle.tn_outside.specs.declared.failed.RunFault.{RunFault}
use Rattle.tn_outside.specs.declared.failed.RunFault.TheVariants.{WriteFault}
use Rattle.tn_outside.specs.Totals.{Adds, AddsFront}
use Rattle.tn_outside.proofs.Totals.{adds_nothing}
use Rattle.match_script.specs.declared.types.Script.{Script}
use Rattle.own_lists.specs.Past.{client_terms}
use Rattle.alone_server.specs.own_items.match_laws.Laws.{pack_lines}
use Rattle.two_worlds.specs.Laws.{text_of, whole_line}
use Rattle.alone_server.specs.own_items.Source.{SourceState, Stands, made, whole_own}
use Rattle.two_worlds.specs.Fed.{terms_in, text_made, whole_text}
use Rattle.two_worlds.specs.Text.{alone_text}
use Rattle.two_worlds.proofs.Texts.{text_is}

within : (c n : ℕ) → c < n → nat_lt c n ≡ true
within c n lt = grind (arith, nat_tests, lt)

beyond : (c n : ℕ) → n ≤ c → nat_lt c n ≡ false
beyond c n le = grind (arith, nat_tests, le)

no_text : (s : Script) (c : ℕ) → s.head.clients ≤ c → alone_text s c ≡ []
unfolding alone_text
no_text s c le =
    let lines : List ℕ = flat_map whole_line (pack_lines (client_terms s.head c) (whole_own s c)) in
    ap (λ (b : Bool). if b then lines else []) (beyond c s.head.clients le)

whole_is : (s : Script) (c : ℕ) → c < s.head.clients → text_of (client_terms s.head c) (whole_own s c) ≡ alone_text s c
unfolding alone_text
whole_is s c lt =
    let lines : List ℕ = flat_map whole_line (pack_lines (client_terms s.head c) (whole_own s c)) in
    text_is (client_terms s.head c) (whole_own s c) ∙ sym (ap (λ (b : Bool). if b then lines else []) (within c s.head.clients lt))

pub nothing_written : (s : Script) (c : ℕ) (written : Option (List ℕ)) → s.head.clients ≤ c → Adds written written (alone_text s c)
nothing_written s c written le = subst (Adds written written) (sym (no_text s c le)) (adds_nothing written)

module _ (s : SourceState) (t : Script) (c : ℕ) (stands : Stands s) (script : s.script ≡ t) (client : s.client ≡ c) where
  text_there : whole_text s ≡ alone_text t c
  text_there = whole_is s.script s.client stands.client ∙ (λ j. alone_text (script j) (client j))

  pub all_written : (first written : Option (List ℕ)) → made s ≡ whole_own s.script s.client → Adds first written (text_made s) → Adds first written (alone_text t c)
  all_written first written end so_far = subst (Adds first written) (ap (text_of (terms_in s)) end ∙ text_there) so_far

  pub front_written : (first written : Option (List ℕ)) → AddsFront first written (whole_text s) → AddsFront first written (alone_text t c)
  front_written first written front = subst (AddsFront first written) text_there front

-- an error that is handed on was one of the callee
of_err : {T : Type 0} (x y : RunFault) → x ≡ y → ◌≡◌ {A = Result T RunFault} (Err x) (Err y)
of_err {T} x y e = ap (λ (z : RunFault). Err z) e

same_err : {T : Type 0} (x y : RunFault) → ◌≡◌ {A = Result T RunFault} (Err x) (Err y) → x ≡ y
same_err {T} x y e = cc (e)

pub handed_on : {T U : Type 0} (before now : ℕ) (x y : RunFault) → x ≡ y → HandsOn before now (◌≡◌ {A = Result T RunFault} (Err x) (Err WriteFault)) → HandsOn before now (◌≡◌ {A = Result U RunFault} (Err y) (Err WriteFault))
handed_on before now x y e h = record {
  later = h.later;
  failed = λ k. h.failed (of_err x WriteFault (e ∙ same_err y WriteFault k));
  spared = λ k. h.spared (λ j. k (of_err y WriteFault (sym e ∙ same_err x WriteFault j)));
}
