use Rattle.std.proofs.Common.{◌∙◌, ◌∷◌, ◌++◌, [], ap}
use Rattle.kept_pair.specs.Kept.{KeptState, terms_in}
use Rattle.connection_lock.specs.Turns.{line_step}
use Rattle.connection_lock.proofs.Holding.{line-locked}
use Rattle.connection_lock.proofs.locked.Locked.make_line.Goals as goal

pub invariant_of-self-in-Ok : goal.invariant_of-self-in-Ok
invariant_of-self-in-Ok g c =
    let made = c.make.ensures.made in
    let prepared = c.in-Ok.ensures.prepared in
    line-locked g.N.LaneName.objects c.self.inside.pair c.make.new.pair c.self.inside.seat c.self.inside.periods made.room c.args.line c.self.invariant
    (c.make.ensures.terms ∙ ap terms_in prepared)
    (made.kept ∙ ap (λ (k : KeptState). k.steps ++ line_step made.room c.args.line ∷ []) prepared)
    c.make.ensures.quiet
