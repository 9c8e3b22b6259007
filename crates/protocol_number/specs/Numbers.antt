-- The number that the form's bytes begin with: who changes the form has to change it.
use Rattle.std.specs.Prelude.{◌≡◌, refl}
use Rattle.protocol_number.specs.declared.protocol.TheConstants.{FORM_VERSION}

form_version : FORM_VERSION ≡ 1
form_version = refl
