use Rattle.world_scope.proofs.Parts.{round_those}
use Rattle.world_scope.proofs.candidates.add_round.Goals as goal

pub returns : goal.returns
returns c = λ p those.
    round_those c.add_part.new.words p c.args.world.now.objects c.args.radius c.args.place.now c.requires.fits
    (rw (c.first_touched.ensures.value, c.touched_end.ensures.value, c.first_touched-2.ensures.value, c.touched_end-2.ensures.value) at (c.add_part.ensures p those))
