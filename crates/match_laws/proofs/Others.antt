-- A line that names another client changes nothing of a client, by the cases of what happens at a line.
use Rattle.std.proofs.Common.{◌≡◌, ◌≢◌, ℕ, ◌==◌, Bool, true, false, cond, List, [], ◌∷◌, Option, Some, None}
use Rattle.std.proofs.Common.{refl, sym, ◌∙◌, subst}
use Rattle.std.proofs.lemmas.Bool.{eqb-true}
use Rattle.std.specs.List.{AllByRecursion}
use Rattle.match_script.specs.declared.types.BodyLine.{BodyLine}
use Rattle.match_script.specs.declared.types.BodyLine.TheVariants as script
use Rattle.match_script.specs.declared.types.Head.{Head}
use Rattle.world_scope.specs.Scope.{visible_list}
use Rattle.match_script.specs.Named.{client_named}
use Rattle.client_seat.specs.own_lists.Own.{OwnItem, Line, Scan, Tick}
use Rattle.client_seat.specs.own_lists.Kept.{put}
use Rattle.client_seat.specs.own_lists.Past.{Past, happens, after, scan_item}
use Rattle.match_laws.specs.Others.{IsLeft, NamesClient, NonInterference}

-- another value at another place
elsewhere : {A : Type 0} (f : ℕ → A) (x : A) (c e d : ℕ) → ◌≡◌ {A = Option ℕ} (Some e) (Some d) → c ≢ d → put f e x c ≡ f c
elsewhere {A} f x c e d named other = go (c == e) refl
  where
    same : e ≡ d
    same = cc

    go : (b : Bool) → (c == e) ≡ b → cond b x (f c) ≡ f c
    go true t = absurd (other (eqb-true c e t ∙ same))
    go false t = refl

-- a line that names nobody names no client
nobody : (d : ℕ) → ◌≡◌ {A = Option ℕ} None (Some d) → ⊥
nobody d named = cc

-- a line that only its client's own list takes up
leaves : (p : Past) (item : OwnItem) (c e d : ℕ) → ◌≡◌ {A = Option ℕ} (Some e) (Some d) → c ≢ d
    → IsLeft p (record { world = p.world; scans = p.scans; own = put p.own e (item ∷ p.own e) }) c
leaves p item c e d named other = record { own = elsewhere p.own (item ∷ p.own e) c e d named other; scans = refl; world = refl }

others_leave : (head : Head) (p : Past) (line : BodyLine) (c d : ℕ) → client_named line ≡ Some d → c ≢ d → IsLeft p (happens head line p) c
others_leave head p script.Tick c d named other = absurd (nobody d named)
others_leave head p (script.Scan e) c d named other = record {
  own = elsewhere p.own (scan_item p.world e (visible_list p.world e ∷ p.scans e) ∷ p.own e) c e d named other;
  scans = elsewhere p.scans (visible_list p.world e ∷ p.scans e) c e d named other;
  world = refl;
}
others_leave head p (script.Post e class v) c d named other = leaves p (Line (script.Post e class v)) c e d named other
others_leave head p (script.ClientPost e class v) c d named other = leaves p (Line (script.ClientPost e class v)) c e d named other
others_leave head p (script.Pack e) c d named other = leaves p (Line (script.Pack e)) c e d named other
others_leave head p (script.ClientPack e) c d named other = leaves p (Line (script.ClientPack e)) c e d named other
others_leave head p (script.Down e k) c d named other = leaves p (Line (script.Down e k)) c e d named other
others_leave head p (script.Up e k) c d named other = leaves p (Line (script.Up e k)) c e d named other
others_leave head p (script.Raw e bytes) c d named other = leaves p (Line (script.Raw e bytes)) c e d named other
others_leave head p (script.Move e m) c d named other = leaves p (Line (script.Move e m)) c e d named other
others_leave head p (script.Show e) c d named other = leaves p (Line (script.Show e)) c e d named other
others_leave head p script.World c d named other = absurd (nobody d named)

-- the lines of an own list with one more, for the client that it names
with_named : (own : ℕ → List OwnItem) (item : OwnItem) (c d : ℕ) → NamesClient d item → AllByRecursion (NamesClient c) (own c)
    → AllByRecursion (NamesClient c) (put own d (item ∷ own d) c)
with_named own item c d named all = go (c == d) refl
  where
    go : (b : Bool) → (c == d) ≡ b → AllByRecursion (NamesClient c) (cond b (item ∷ own d) (own c))
    go true t =
        subst (λ m. AllByRecursion (NamesClient c) (item ∷ own m)) (eqb-true c d t)
        (subst (λ m. NamesClient m item) (sym (eqb-true c d t)) named, all)
    go false t = all

stays_named : (head : Head) (p : Past) (line : BodyLine) (c : ℕ) → AllByRecursion (NamesClient c) (p.own c)
    → AllByRecursion (NamesClient c) ((happens head line p).own c)
stays_named head p script.Tick c all = (tt, all)
stays_named head p (script.Scan d) c all = with_named p.own (scan_item p.world d (visible_list p.world d ∷ p.scans d)) c d tt all
stays_named head p (script.Post d class v) c all = with_named p.own (Line (script.Post d class v)) c d refl all
stays_named head p (script.ClientPost d class v) c all = with_named p.own (Line (script.ClientPost d class v)) c d refl all
stays_named head p (script.Pack d) c all = with_named p.own (Line (script.Pack d)) c d refl all
stays_named head p (script.ClientPack d) c all = with_named p.own (Line (script.ClientPack d)) c d refl all
stays_named head p (script.Down d k) c all = with_named p.own (Line (script.Down d k)) c d refl all
stays_named head p (script.Up d k) c all = with_named p.own (Line (script.Up d k)) c d refl all
stays_named head p (script.Raw d bytes) c all = with_named p.own (Line (script.Raw d bytes)) c d refl all
stays_named head p (script.Move d m) c all = with_named p.own (Line (script.Move d m)) c d refl all
stays_named head p (script.Show d) c all = with_named p.own (Line (script.Show d)) c d refl all
stays_named head p script.World c all = all

own_lines_name : (head : Head) (past : List BodyLine) (c : ℕ) → AllByRecursion (NamesClient c) ((after head past).own c)
own_lines_name head [] c = tt
own_lines_name head (line ∷ past) c = stays_named head (after head past) line c (own_lines_name head past c)

pub not_interfered : NonInterference
not_interfered = record { others = λ head past line c d. others_leave head (after head past) line c d; named = own_lines_name }
