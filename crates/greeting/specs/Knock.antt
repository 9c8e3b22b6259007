-- The client's side of a greeting: what it says by how far it is, and how far a datagram brings it.
use Rattle.std.specs.Prelude.{◌≡◌, ℕ, Bool, true, false, List, [], Option, Some, None, slice_index}
use Rattle.greeting.specs.declared.datagrams.Form.{Form}
use Rattle.greeting.specs.declared.datagrams.Form.TheVariants.{Challenge, Welcome, Refusal}
use Rattle.greeting.specs.declared.datagrams.Reason.{Reason}
use Rattle.greeting.specs.declared.knock.Reached.{Reached}
use Rattle.greeting.specs.declared.knock.Reached.TheVariants.{Asking, Answering, Joined, Refused}
use Rattle.greeting.specs.declared.knock.Knock.{Knock}
use Rattle.greeting.specs.Words.{is_equal}
use Rattle.greeting.specs.Datagrams.{form, hello, answer, nonce_in, number_in, client_in, terms_in, reason_of}

abbrev pub saying : Knock → Reached → List ℕ → List ℕ
saying k Asking token = hello k.nonce k.protocol
saying k (Answering number) token = answer k.nonce number token
saying k reached token = []

abbrev pub said_by : Knock → List ℕ → List ℕ
said_by k token = saying k k.reached token

abbrev pub refused_by : Reached → Option Reason → Reached
refused_by reached (Some reason) = Refused reason
refused_by reached None = reached

-- with a datagram of this form, which has the client's nonce or has not
abbrev pub moved : Reached → Form → Bool → List ℕ → Reached
moved Asking Challenge true bytes = Answering (number_in bytes)
moved Asking Refusal true bytes = refused_by Asking (reason_of (slice_index bytes 18))
moved (Answering number) Challenge true bytes = Answering (number_in bytes)
moved (Answering number) Welcome true bytes = Joined (client_in bytes) (terms_in bytes)
moved (Answering number) Refusal true bytes = refused_by (Answering number) (reason_of (slice_index bytes 18))
moved reached form same bytes = reached

abbrev pub heard_by : Knock → List ℕ → Reached
heard_by k bytes = moved k.reached (form bytes) (is_equal (nonce_in bytes) k.nonce) bytes
