use Rattle.std.proofs.Common.{rules, ◌≡◌, ◌∙◌, ◌∷◌, [], Bool, true, false, ◌&&◌, Option, None, refl, sym, ap}
use Rattle.std.specs.Prelude.{IsSome, if◌then◌else◌}
use Rattle.std.proofs.lemmas.Int.{to_z-of_z}
use mir.Syntax.{w64}
use mir.Val.{to_z, of_z, SFits}
use Rattle.lane_periods.specs.Periods.{has}
use Rattle.lane_periods.proofs.values.SeatValuesValues.value.Goals as goal

-- what may be asked for is of a period that is up
is-up : {A : Type 0} (a b : Bool) (o : Option A) → IsSome (if a && b then o else None) → a ≡ true
is-up true b o some = refl
is-up false b o some = some

pub returns-clause-asks : goal.returns-clause-asks
returns-clause-asks g c =
    let up : has c.args.n c.args.self.now.periods.now.up ≡ true = is-up _ _ _ c.requires in
    let step = c.read-version.ensures.step in
    let z = c.value_in.result in
    let fits : SFits w64 z = search rules in
    let same : to_z w64 (of_z w64 z) ≡ z = to_z-of_z w64 z fits in (
      refl,
      refl,
      refl,
      ap (λ v. v.client) step,
      record {
        added = record { object = c.object-object.result; field = c.args.field; version = c.read-version.result.0; value = c.read-version.result.1 } ∷ [];
        each = (
          record {
            spec = c.in-Some.spec.now;
            shown = c.are_periods.ensures.shown c.args.n up;
            object = c.object-object.ensures;
            field = refl;
            version = refl;
            own = sym c.in-Some.ensures.value;
            value = same ∙ c.value_in.ensures.value;
          },
          tt,
        );
        up = (up, tt);
        onto = ap (λ v. v.steps) step;
      },
    )
