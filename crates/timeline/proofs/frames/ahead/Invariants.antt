use Rattle.std.proofs.Common.{ℕ, ◌<◌, get_or}
use Rattle.timeline.specs.declared.between.Keyframe.{Keyframe}
use Rattle.timeline.specs.Lines.{moment_of}
use Rattle.timeline.proofs.frames.ahead.Given as goal

-- all before this one are ahead
abbrev pub invariant-newest : goal.invariant-newest
invariant-newest l = (k : ℕ) (d : Keyframe) → k < l.n → l.at < moment_of (get_or l.frames.items k d).packet
