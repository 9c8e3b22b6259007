use Rattle.std.proofs.Common.{◌≡◌, ◌∙◌, ◌++◌, ◌∷◌, [], List, true, false, pos, sym, subst}
use Rattle.std.specs.List.{AllByRecursion}
use Rattle.pair_core.specs.History.{PairStep, Pack}
use Rattle.plain_race.specs.Done.{IsOwnStep}
use Rattle.plain_race.proofs.Calls.{may_pack, no_reads}
use Rattle.plain_race.proofs.steps.pack.Goals as goal

pub pack-requires-clause-may : goal.pack-requires-clause-may
pack-requires-clause-may c = may_pack c.make_room.new.pair _ (subst (λ (l : List PairStep). AllByRecursion IsOwnStep l) (sym c.make_room.ensures.steps) c.requires.own)

pub returns-clause-made : goal.returns-clause-made
returns-clause-made c = λ is.
    let told = c.pack.ensures.told in
    let none : told.0 ≡ [] = no_reads (λ r. (false ≡ true) × (r.value ≡ pos 0)) told.0 (λ r h. (let no : true ≡ false = sym h.0 in cc)) told.2.1 in
    told.1 ∙ (λ j. c.make_room.ensures.steps j ++ Pack [] (none j) ∷ [])
