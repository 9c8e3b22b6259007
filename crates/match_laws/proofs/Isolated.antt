-- The `pack c` lines of a report come from the own list of c alone.
use Rattle.std.proofs.Common.{◌≡◌, ℕ, ◌==◌, Bool, true, false, cond, List, [], ◌∷◌, ◌++◌, if◌then◌else◌}
use Rattle.std.proofs.Common.{refl, ◌∙◌, ap, subst, arith}
use Rattle.std.proofs.lemmas.Bool.{eqb-true}
use Rattle.std.proofs.lemmas.Bool.Decides.{nat_tests}
use Rattle.std.proofs.lemmas.List.{append-nil}
use Rattle.match_script.specs.declared.types.BodyLine.{BodyLine}
use Rattle.match_script.specs.declared.types.BodyLine.TheVariants as script
use Rattle.match_script.specs.declared.types.Head.{Head}
use Rattle.stream_manager.specs.Limits.{Terms}
use Rattle.world_scope.specs.Scope.{visible_list}
use Rattle.client_seat.specs.own_lists.Own.{OwnItem, Line}
use Rattle.client_seat.specs.own_lists.Kept.{put}
use Rattle.client_seat.specs.own_lists.Past.{client_terms, happens, after, scan_item}
use Rattle.match_laws.specs.Report.{line_text, told_lines}
use Rattle.match_laws.specs.Laws.{is_pack, packs_in, is_own_pack, pack_lines, Isolation}
use Rattle.match_laws.proofs.Grown.{put_own}

packs-append : (c : ℕ) (xs : List (BodyLine × List ℕ)) (line : BodyLine) (text : List ℕ)
    → packs_in c (xs ++ (line, text) ∷ []) ≡ packs_in c xs ++ (if is_pack c line then text ∷ [] else [])
packs-append c [] line text = refl
packs-append c (x ∷ xs) line text = go (is_pack c x.0) (packs-append c xs line text)
  where
    go : (b : Bool) → packs_in c (xs ++ (line, text) ∷ []) ≡ packs_in c xs ++ (if is_pack c line then text ∷ [] else [])
        → (if b then x.1 ∷ packs_in c (xs ++ (line, text) ∷ []) else packs_in c (xs ++ (line, text) ∷ []))
        ≡ (if b then x.1 ∷ packs_in c xs else packs_in c xs) ++ (if is_pack c line then text ∷ [] else [])
    go true e = ap (λ l. x.1 ∷ l) e
    go false e = e

-- an item that is no pack adds no line
no-pack : (t : Terms) (own : ℕ → List OwnItem) (item : OwnItem) (c d : ℕ) → is_own_pack item ≡ false
    → pack_lines t (own c) ++ [] ≡ pack_lines t (put own d (item ∷ own d) c)
no-pack t own item c d none =
    put_own (λ old new. pack_lines t old ++ [] ≡ pack_lines t new) own item c d (rw none refl) (append-nil (pack_lines t (own c)))

module _ (head : Head) (c : ℕ) (past : List BodyLine) where
  abbrev terms : Terms
  terms = client_terms head c

  abbrev own : ℕ → List OwnItem
  own = (after head past).own

  -- a pack of d adds its line of the report to those of c
  abbrev Adds : ℕ → Type 0
  Adds d =
      pack_lines terms (own c) ++ line_text head past (script.Pack d) ∷ [] ≡ pack_lines terms (Line (script.Pack d) ∷ own d)

  -- a pack tells what the client's own list leaves
  with-pack : (d : ℕ)
      → pack_lines terms (own c) ++ (if d == c then line_text head past (script.Pack d) ∷ [] else [])
      ≡ pack_lines terms (put own d (Line (script.Pack d) ∷ own d) c)
  with-pack d = go (c == d) refl (grind (arith, nat_tests))
    where
      go : (b : Bool) → (c == d) ≡ b → (d == c) ≡ b
          → pack_lines terms (own c) ++ (if d == c then line_text head past (script.Pack d) ∷ [] else [])
          ≡ pack_lines terms (cond b (Line (script.Pack d) ∷ own d) (own c))
      go true e f = rw f (subst Adds (eqb-true c d e) refl)
      go false e f = rw f (append-nil (pack_lines terms (own c)))

  -- the lines of the packs of c, with this line
  with-line : (line : BodyLine)
      → pack_lines terms (own c) ++ (if is_pack c line then line_text head past line ∷ [] else [])
      ≡ pack_lines terms ((happens head line (after head past)).own c)
  with-line script.Tick = refl
  with-line (script.Scan d) =
      let p = after head past in no-pack terms own (scan_item p.world d (visible_list p.world d ∷ p.scans d)) c d refl
  with-line (script.Pack d) = with-pack d
  with-line script.World = append-nil (pack_lines terms (own c))
  with-line line = no-pack terms own (Line line) c _ refl

pub isolated : Isolation
isolated head c [] = refl
isolated head c (line ∷ past) =
    packs-append c (told_lines head past) line (line_text head past line)
    ∙ ap (λ l. l ++ (if is_pack c line then line_text head past line ∷ [] else [])) (isolated head c past)
    ∙ with-line head c past line
