use Rattle.std.proofs.Common.{◌≡◌, ◌++◌, ◌∷◌, [], List, true, false, sym, subst}
use Rattle.pair_core.specs.History.{PairStep, Pack}
use Rattle.kept_pair.specs.Kept.{terms_in}
use Rattle.plain_race.specs.Done.{AreStepsOf, DoesLine, StopsAtLine, IsRefused}
use Rattle.plain_race.proofs.Doing.{pack_made, pack_wanting}
use Rattle.plain_race.proofs.Calls.{if_ok}
use Rattle.plain_race.proofs.lines.do_pack.Goals as goal

pub returns-clause-done : goal.returns-clause-done
returns-clause-done c =
    let client = c.args.client in
    let line = c.args.line.now in
    let old = c.args.pair.now in
    let new = c.pack.new.pair in
    if_ok (λ b. b ≡ true → new.steps ≡ old.steps ++ Pack [] [] ∷ []) (λ b. b ≡ true → DoesLine client line old new) c.pack.result
    (λ b made is lines h. subst (λ (l : List PairStep). AreStepsOf (terms_in old) client (lines ++ line ∷ []) l) (sym (made is)) (pack_made (terms_in old) client lines line old.steps c.requires.pack h))
    c.pack.ensures.made

pub returns-clause-stopped : goal.returns-clause-stopped
returns-clause-stopped c =
    let client = c.args.client in
    let line = c.args.line.now in
    let old = c.args.pair.now in
    let new = c.pack.new.pair in
    if_ok (λ b. b ≡ false → IsRefused old new) (λ b. b ≡ false → StopsAtLine client line old new) c.pack.result
    (λ b refused is. record { refused = refused is; asks = pack_wanting client line c.requires.pack })
    c.pack.ensures.refused
