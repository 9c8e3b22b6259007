use Rattle.std.proofs.Common.{◌≡◌, take}
use Rattle.kept_pair.specs.Kept.{terms_in}
use Rattle.plain_race.specs.Done.{Takes}
use Rattle.plain_race.proofs.messages.take_all.Given as goal

abbrev pub invariant-loop-message : goal.invariant-loop-message
invariant-loop-message l = record {
  taken : Takes (take l.message-index l.given) l.fn.pair l.pair l.objects;
  terms : terms_in l.pair ≡ terms_in l.fn.pair;
}
