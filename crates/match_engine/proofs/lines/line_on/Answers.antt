use Rattle.std.proofs.Common.{◌≡◌, ◌∙◌, ℕ, List, Some, Ok, Err, ap, sym, subst}
use Rattle.std.specs.Prelude.{Result, IfOk}
use Rattle.match_script.specs.declared.types.BodyLine.{BodyLine}
use Rattle.match_script.specs.declared.types.BodyLine.TheVariants as script
use Rattle.match_script.specs.Named.{client_named}
use Rattle.match_laws.specs.own_lists.Past.{client_terms, kept_by}
use Rattle.match_laws.specs.client_seat.Stands.{StandsFor}
use Rattle.match_laws.specs.client_seat.Told.{raw_told}
use Rattle.match_laws.specs.Report.{told}
use Rattle.match_engine.specs.Stands.{IsDown}
use Rattle.match_engine.proofs.lines.line_on.Goals as goal

if_ok : {T E : Type 0} (r : Result T E) {P Q : T → Type 0} → ((x : T) → P x → Q x) → IfOk r P → IfOk r Q
if_ok (Ok x) f p = f x p
if_ok (Err e) f p = p

-- the client that a line of raw bytes names
named : (c k : ℕ) (bytes : List ℕ) → client_named (script.Raw c bytes) ≡ Some k → c ≡ k
named c k bytes e = cc

pub returns-in_ok-bytes-in-Raw-clause-told : goal.returns-in_ok-bytes-in-Raw-clause-told
returns-in_ok-bytes-in-Raw-clause-told c =
    let client = c.in-Raw.client in
    let given = c.in-Raw.bytes in
    let bytes = c.in_ok-bytes-in-Raw.bytes in
    let same : bytes ≡ given = c.in_ok-bytes-in-Raw.ensures in
    if_ok c.raw.result
    (λ x answers h p q k e stands.
    let is : client ≡ k = named client k given (subst (λ (l : BodyLine). client_named l ≡ Some k) c.in-Raw.is e) in
    let here = subst (λ (i : ℕ). StandsFor c.args.seat.now (client_terms h i) (kept_by h p i).course) (sym is) stands in
    answers (client_terms h client) (kept_by h p client).course here
    ∙ ap (λ (b : List ℕ). raw_told client b (client_terms h client) (kept_by h p client).course) same
    ∙ sym (ap (told h p q) c.in-Raw.is))
    c.raw.ensures.told

pub down-requires-clause-keeps_all : goal.down-requires-clause-keeps_all
down-requires-clause-keeps_all c = c.requires.kept (subst (λ (l : BodyLine). IsDown l) (sym c.in-Down.is) tt)
