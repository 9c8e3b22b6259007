use Rattle.std.proofs.Common.{◌≡◌, Bool, true, false, ◌&&◌, ◌||◌, ◌==◌, ◌∙◌, refl, sym, ap, nat_lt}
use Rattle.world_lanes.specs.Behind.{is_behind}
use Rattle.world_lanes.proofs.Bringing.{behind_by, unstored, one_more, below_other, same_place, one_field_more}
use Rattle.world_lanes.proofs.storing.store_object.Goals as goal

-- the bits with one more
told_more : (lt eq a b : Bool) → (lt ≡ true → eq ≡ false) → (eq ≡ true → b ≡ a) → ((lt && a) || (eq && b)) ≡ ((lt || eq) && a)
told_more true true a b apart same = let no : true ≡ false = apart refl in absurd (cc)
told_more true false true b apart same = refl
told_more true false false b apart same = refl
told_more false true a b apart same = same refl
told_more false false a b apart same = refl

pub loop-field-preserved : goal.loop-field-preserved
loop-field-preserved g c =
    let w = c.args.world.now in
    let old = c.args.sim.now.steps in
    let mid = c.loop-field.sim.steps in
    let object = c.args.object in
    let k = c.loop-field.field in
    let x = c.loop-field.invariant in
    let stored : c.store_field-stored.result ≡ is_behind w old object k =
    c.store_field-stored.ensures.told ∙ behind_by w old mid object k (unstored w object k old mid x.brings) in
    record {
      few = c.with_bit-bits.ensures.few;
      told = λ f.
          c.with_bit-bits.ensures.bits f
          ∙ ap (λ b. b || ((f == k) && c.store_field-stored.result)) (x.told f)
          ∙ told_more (nat_lt f k) (f == k) (is_behind w old object f) c.store_field-stored.result (below_other f k) (λ e. stored ∙ ap (is_behind w old object) (sym (same_place f k e)))
          ∙ ap (λ b. b && is_behind w old object f) (sym (one_more f k));
      brings = one_field_more w object k old mid c.store_field-stored.new.sim.steps x.brings c.store_field-stored.ensures.brings;
    }
