-- The number of a reason tells it again.
use Rattle.std.proofs.Common.{◌≡◌, refl, Some}
use Rattle.greeting.specs.Datagrams.{reason_byte, reason_of}
use Rattle.greeting.specs.declared.datagrams.Reason.{Reason}
use Rattle.greeting.specs.declared.datagrams.Reason.TheVariants.{OtherVersion, OtherProtocol, Full, TokenRefused}

pub reason_again : (reason : Reason) → reason_of (reason_byte reason) ≡ Some reason
reason_again OtherVersion = refl
reason_again OtherProtocol = refl
reason_again Full = refl
reason_again TokenRefused = refl
