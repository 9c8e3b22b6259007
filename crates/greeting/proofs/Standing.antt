-- A door stands for the log of what passed.
use Rattle.std.proofs.Common.{◌≡◌, ◌∙◌, ℕ, ◌<◌, ◌≤◌, ◌==◌, ◌&&◌, ◌||◌, not, if◌then◌else◌, Bool, true, false, List, [], ◌∷◌, length, Option, Some, None, inl, inr, sym, ap, subst, refl, arith}
use Rattle.std.specs.Prelude.{position, slice_index_or, slice_set, nat_lt, IfSome, is_some}
use Rattle.std.specs.List.{prefix_len}
use Rattle.std.proofs.lemmas.Bool.{cases_lt, eq-eqb, eqb-true, ltb-false}
use Rattle.std.proofs.lemmas.List.{get_or-set_same, get_or-set_other, get_or_past}
use Rattle.std.proofs.lemmas.List.Sums.{prefix_len_passes}
use Rattle.greeting.specs.declared.words.Address.{Address}
use Rattle.greeting.specs.declared.words.Sixteen.{Sixteen}
use Rattle.greeting.specs.declared.datagrams.Form.{Form}
use Rattle.greeting.specs.declared.datagrams.Form.TheVariants.{Hello, OtherHello, Answer}
use Rattle.greeting.specs.declared.datagrams.Reason.TheVariants.{OtherVersion, OtherProtocol, Full, TokenRefused}
use Rattle.greeting.specs.declared.door.Guest.{Guest}
use Rattle.greeting.specs.declared.door.Heard.{Heard}
use Rattle.greeting.specs.declared.door.Heard.TheVariants.{Dropped, Challenged, Refused, Asks, Again}
use Rattle.greeting.specs.Words.{number_of}
use Rattle.greeting.specs.Datagrams.{form, is_answer, nonce_in, number_in, challenge, welcome, refusal}
use Rattle.greeting.specs.Door.{DoorState, is_right_number, IsRight, is_guest, is_held_by, is_free, seat_of, Admits, Hears, reply_of, asking_of, seated}
use Rattle.greeting.specs.Passing.{Passing, Came, Given, Turned, secret_by, before_by, is_right_after, has_asked, guest_by, HasNone, StandsFor, Does}
use Rattle.greeting.proofs.Forms.{long, length-challenge, length-refusal}
use Rattle.greeting.proofs.Passings.{true_left, both, is_itself, fair_came, fair_given, fair_turned}

-- what a right answer may lead to is what it does
pub admitted : (d : DoorState) (a : Address) (bytes : List ℕ) (heard : Heard) → IsRight d.secret d.before a bytes
    → Admits d a (nonce_in bytes) heard → Hears d a bytes heard
admitted d a bytes Dropped right h = absurd h
admitted d a bytes Challenged right h = absurd h
admitted d a bytes (Refused OtherVersion) right h = absurd h
admitted d a bytes (Refused OtherProtocol) right h = absurd h
admitted d a bytes (Refused Full) right h = (right, h)
admitted d a bytes (Refused TokenRefused) right h = absurd h
admitted d a bytes Asks right h = (right, h)
admitted d a bytes (Again client) right h = (right, h)

-- a right answer is one after the log for which the door stands
right_after : (first : List ℕ) (d : DoorState) (a : Address) (bytes : List ℕ) (log : List Passing) → StandsFor first d log
    → IsRight d.secret d.before a bytes → is_right_after first log a bytes ≡ true
right_after first d a bytes log stands right =
    let is : is_answer (form bytes) ≡ true = ap (λ (f : Form). is_answer f) right.0 in
    let number : is_right_number (secret_by first log) (before_by first log) a (nonce_in bytes) (number_in bytes) ≡ true =
    ap (λ (s : List ℕ). is_right_number s (before_by first log) a (nonce_in bytes) (number_in bytes)) (sym stands.secret)
    ∙ ap (λ (s : List ℕ). is_right_number d.secret s a (nonce_in bytes) (number_in bytes)) (sym stands.before) ∙ right.1 in
    both (is_answer (form bytes)) _ is number

-- a reply to who gave no right answer is no longer than what came
fits : (d : DoorState) (a : Address) (bytes : List ℕ) (heard : Heard) → Hears d a bytes heard → (IsRight d.secret d.before a bytes → ⊥)
    → length (reply_of d a bytes heard) ≤ length bytes
fits d a bytes Challenged h wrong =
    omega (arith, length-challenge (nonce_in bytes) (number_of d.secret a (nonce_in bytes)), long bytes Hello h.0)
fits d a bytes (Refused OtherProtocol) h wrong = omega (arith, length-refusal (nonce_in bytes) OtherProtocol, long bytes Hello h.0)
fits d a bytes (Refused OtherVersion) h wrong = omega (arith, length-refusal (nonce_in bytes) OtherVersion, long bytes OtherHello h)
fits d a bytes (Refused Full) h wrong = absurd (wrong h.0)
fits d a bytes (Refused TokenRefused) h wrong = absurd (wrong h.0)
fits d a bytes (Again client) h wrong = absurd (wrong h.0)
fits d a bytes Asks h wrong = absurd (wrong h.0)
fits d a bytes Dropped h wrong = omega arith

-- ---- who has no seat

within : (seats : List (Option Guest)) (i : ℕ) (g : Guest) → slice_index_or seats i None ≡ Some g → i < length seats
within seats i g is = elim (cases_lt i (length seats)) [
  | inl lt ↦ lt
  | inr past ↦ let none = get_or_past seats i None past in cc
]

ends : (b : Bool) (n : ℕ) → (if b then Some n else None) ≡ None → b ≡ false
ends true n e = cc
ends false n e = refl

no_seat : (seats : List (Option Guest)) (p : Option Guest → Bool) (i : ℕ) (g : Guest) → position p seats ≡ None
    → slice_index_or seats i None ≡ Some g → p (Some g) ≡ true → ⊥
no_seat seats p i g none is passes =
    let lt = within seats i g is in
    let count = prefix_len (λ (x : Option Guest). not (p x)) seats in
    let all : length seats ≤ count = ltb-false count (length seats) (ends (nat_lt count (length seats)) count none) in
    let at : not (p (slice_index_or seats i None)) ≡ true = prefix_len_passes (λ (x : Option Guest). not (p x)) seats i None (omega (arith, lt, all)) in
    let found : p (slice_index_or seats i None) ≡ true = ap (λ (x : Option Guest). p x) is ∙ passes in
    cc (ap (λ (b : Bool). not b) found)

-- ---- what passed

asks_so : (first : List ℕ) (d : DoorState) (a : Address) (bytes reply : List ℕ) (heard : Heard) (log : List Passing) → Hears d a bytes heard
    → StandsFor first d log
    → IfSome (asking_of a bytes heard) (λ g. (has_asked first g (Came a bytes reply ∷ log) ≡ true) × HasNone g (Came a bytes reply ∷ log))
asks_so first d a bytes reply Asks log h stands =
    let nonce = nonce_in bytes in
    let g : Guest = record { address = a; nonce = nonce } in
    let right = right_after first d a bytes log stands h.0 in (
      true_left _ (has_asked first g log) (both (is_guest a nonce g) (is_right_after first log a bytes) (is_itself a nonce) right),
      λ (i : ℕ) (is : guest_by log i ≡ Some g). no_seat d.seats (is_held_by a nonce) i g h.1.0 (stands.seats i ∙ is) (is_itself a nonce),
    )
asks_so first d a bytes reply Dropped log h stands = tt
asks_so first d a bytes reply Challenged log h stands = tt
asks_so first d a bytes reply (Refused reason) log h stands = tt
asks_so first d a bytes reply (Again client) log h stands = tt

came_stands : (first : List ℕ) (d : DoorState) (a : Address) (bytes : List ℕ) (heard : Heard) (log : List Passing) → Hears d a bytes heard
    → StandsFor first d log
    → StandsFor first (record d { asking = asking_of a bytes heard }) (Came a bytes (reply_of d a bytes heard) ∷ log)
came_stands first d a bytes heard log h stands = record {
  secret = stands.secret;
  before = stands.before;
  seats = stands.seats;
  asks = asks_so first d a bytes (reply_of d a bytes heard) heard log h stands;
  fair =
      fair_came first a bytes (reply_of d a bytes heard) log
      (λ wrong. fits d a bytes heard h (λ right. cc (right_after first d a bytes log stands right)))
      stands.fair;
  rightly = stands.rightly;
}

-- a datagram was heard
pub heard : (d new : DoorState) (a : Address) (bytes reply : List ℕ) (answer : Heard) → Hears d a bytes answer
    → reply ≡ reply_of d a bytes answer → new ≡ record d { asking = asking_of a bytes answer } → Does d (Came a bytes reply) new
heard d new a bytes reply answer h reply_is new_is first log stands =
    subst (λ (n : DoorState). StandsFor first n (Came a bytes reply ∷ log)) (sym new_is)
    (subst (λ (r : List ℕ). StandsFor first (record d { asking = asking_of a bytes answer }) (Came a bytes r ∷ log)) (sym reply_is)
    (came_stands first d a bytes answer log h stands))

-- who asks has asked, and has no seat
asks_of : (first : List ℕ) (d : DoorState) (g : Guest) (log : List Passing) → d.asking ≡ Some g → StandsFor first d log
    → (has_asked first g log ≡ true) × HasNone g log
asks_of first d g log is stands =
    subst (λ (o : Option Guest). IfSome o (λ (h : Guest). (has_asked first h log ≡ true) × HasNone h log)) is stands.asks

seat_so : (seats : List (Option Guest)) (log : List Passing) (client i : ℕ) (g : Guest) (b : Bool) → (client == i) ≡ b → client < length seats
    → slice_index_or seats i None ≡ guest_by log i
    → slice_index_or (slice_set seats client (Some g)) i None ≡ (if b then Some g else guest_by log i)
seat_so seats log client i g true e lt is =
    ap (λ (k : ℕ). slice_index_or (slice_set seats client (Some g)) k None) (sym (eqb-true client i e))
    ∙ get_or-set_same seats client (Some g) None lt
seat_so seats log client i g false e lt is =
    get_or-set_other seats client i (Some g) None (λ (same : i ≡ client). cc (eq-eqb client i (sym same))) ∙ is

given_stands : (first : List ℕ) (d : DoorState) (g : Guest) (client : ℕ) (reply : List ℕ) (log : List Passing) → d.asking ≡ Some g
    → client < length d.seats → slice_index_or d.seats client None ≡ None → StandsFor first d log
    → StandsFor first (seated d client g) (Given g client reply ∷ log)
given_stands first d g client reply log is lt free stands =
    let asks = asks_of first d g log is stands in
    record {
      secret = stands.secret;
      before = stands.before;
      seats = λ i. seat_so d.seats log client i g (client == i) refl lt (stands.seats i);
      asks = tt;
      fair = fair_given first g client reply log asks.0 stands.fair;
      rightly = (asks.0, sym (stands.seats client) ∙ free, asks.1, stands.rightly);
    }

-- a seat that was read, and is nobody's
pub free_at : (seats : List (Option Guest)) (i : ℕ) (x : Option Guest) → i < length seats → x ≡ slice_index_or seats i x → is_some x ≡ false
    → slice_index_or seats i None ≡ None
free_at seats i None lt read free = sym read
free_at seats i (Some g) lt read free = cc

-- who asks was given a client
pub accepted : (d new : DoorState) (g : Guest) (client : ℕ) (reply : List ℕ) → d.asking ≡ Some g → client < length d.seats
    → slice_index_or d.seats client None ≡ None → new ≡ seated d client g → IfSome d.asking (λ h. Does d (Given h client reply) new)
accepted d new g client reply is lt free new_is =
    subst (λ (o : Option Guest). IfSome o (λ (h : Guest). Does d (Given h client reply) new)) (sym is)
    (λ first log stands.
    subst (λ (n : DoorState). StandsFor first n (Given g client reply ∷ log)) (sym new_is)
    (given_stands first d g client reply log is lt free stands))

turned_stands : (first : List ℕ) (d : DoorState) (g : Guest) (reply : List ℕ) (log : List Passing) → d.asking ≡ Some g → StandsFor first d log
    → StandsFor first (record d { asking = None }) (Turned g reply ∷ log)
turned_stands first d g reply log is stands = record {
  secret = stands.secret;
  before = stands.before;
  seats = stands.seats;
  asks = tt;
  fair = fair_turned first g reply log (asks_of first d g log is stands).0 stands.fair;
  rightly = stands.rightly;
}

-- who asks was turned away
pub refused : (d new : DoorState) (g : Guest) (reply : List ℕ) → d.asking ≡ Some g → new ≡ record d { asking = None }
    → IfSome d.asking (λ h. Does d (Turned h reply) new)
refused d new g reply is new_is =
    subst (λ (o : Option Guest). IfSome o (λ (h : Guest). Does d (Turned h reply) new)) (sym is)
    (λ first log stands.
    subst (λ (n : DoorState). StandsFor first n (Turned g reply ∷ log)) (sym new_is)
    (turned_stands first d g reply log is stands))
