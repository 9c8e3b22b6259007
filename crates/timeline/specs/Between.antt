-- The value at a moment between two that came, by how the field goes from one to the next.
use Rattle.std.specs.Prelude.{ℕ, ℤ, ◌-◌}
use Rattle.timeline.specs.declared.between.Interpolation.{Interpolation}
use Rattle.timeline.specs.declared.between.Interpolation.TheVariants.{Stepped, Linear, Turning}
use Rattle.timeline.specs.declared.between.Keyframe.{Keyframe}
use Rattle.timeline.specs.Lines.{moment_of, on_line, turned}

-- how long since the first one, and from one to the other
abbrev pub part_of : Keyframe → ℕ → ℕ
part_of before at = at - moment_of before.packet

abbrev pub whole_of : Keyframe → Keyframe → ℕ
whole_of before after = moment_of after.packet - moment_of before.packet

-- a part of the way
abbrev pub part_way : Interpolation → ℤ → ℤ → ℕ → ℕ → ℤ
part_way Stepped from to part whole = from
part_way Linear from to part whole = on_line from to part whole
part_way (Turning least most) from to part whole = turned least most from to part whole

abbrev pub between : Interpolation → Keyframe → Keyframe → ℕ → ℤ
between how before after at = part_way how before.value after.value (part_of before at) (whole_of before after)
