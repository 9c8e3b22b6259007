-- What a datagram leaves of guests that stand for a log.
use Rattle.std.proofs.Common.{◌≡◌, ◌∙◌, ℕ, ◌<◌, ◌≤◌, List, [], ◌∷◌, length, Option, Some, None, inl, inr, sym, ap, subst, arith, slice_set}
use Rattle.std.specs.Prelude.{IfSome, slice_index_or}
use Rattle.std.proofs.lemmas.Bool.{cases_eq, cases_lt}
use Rattle.std.proofs.lemmas.List.{get_or-set_same, get_or-set_other, set_past}
use Rattle.datagram_tags.specs.declared.sides.Side.TheVariants.{Client, Server}
use Rattle.greeting.specs.declared.words.Address.{Address}
use Rattle.greeting.specs.declared.datagrams.Reason.TheVariants.{OtherVersion, OtherProtocol, Full, TokenRefused}
use Rattle.greeting.specs.declared.door.Guest.{Guest}
use Rattle.greeting.specs.declared.door.Heard.{Heard as Greeting}
use Rattle.greeting.specs.declared.door.Heard.TheVariants.{Challenged, Refused, Asks, Again}
use Rattle.greeting.specs.declared.door.Heard.TheVariants as greeting
use Rattle.greeting.specs.Words.{number_of}
use Rattle.greeting.specs.Datagrams.{nonce_in}
use Rattle.greeting.specs.Door.{DoorState, IsRight, Hears as DoorHears, reply_of}
use Rattle.greeting.proofs.Forms.{long, length-challenge, length-refusal}
use Rattle.host_guests.specs.declared.keys.TheConstants.{GREETING_NUMBER}
use Rattle.host_guests.specs.declared.guests.Heard.{Heard}
use Rattle.host_guests.specs.declared.guests.Heard.TheVariants.{Joined, OfGuest, Greeted, Dropped, Stranger, Untagged}
use Rattle.host_guests.specs.Keys.{Carries}
use Rattle.host_guests.specs.Passing.{Passing, Came, Went, IsAnswer, HasAnswered}
use Rattle.host_guests.specs.Guests.{GuestsState, guest_at, joined, unasked, joining_in, GoesBack, Hears, StandsFor, ReceivesAt}
use Rattle.host_guests.proofs.Passings.{same_itself, length_carried, fair_came, fair_back, fair_went}

-- each of these guests answered a challenge
abbrev AreKnown : Option (List ℕ) → List ℕ → List (Option Guest) → List Passing → Type 0
AreKnown key secret seats log = (place : ℕ) → IfSome (slice_index_or seats place None) (λ guest. HasAnswered key secret guest.address log)

longer : (key : Option (List ℕ)) (secret : List ℕ) (a : Address) (d : List ℕ) (log : List Passing) (o : Option Guest)
    → IfSome o (λ guest. HasAnswered key secret guest.address log) → IfSome o (λ guest. HasAnswered key secret guest.address (Came a d ∷ log))
longer key secret a d log None known = tt
longer key secret a d log (Some guest) known = inr known

known_within : (key : Option (List ℕ)) (secret : List ℕ) (seats : List (Option Guest)) (log : List Passing) (i : ℕ) (guest : Guest)
    → i < length seats → HasAnswered key secret guest.address log → AreKnown key secret seats log
    → AreKnown key secret (slice_set seats i (Some guest)) log
known_within key secret seats log i guest within is known place = elim (cases_eq place i) [
  | inl at ↦
      let found : slice_index_or (slice_set seats i (Some guest)) place None ≡ Some guest =
      ap (λ (k : ℕ). slice_index_or (slice_set seats i (Some guest)) k None) at ∙ get_or-set_same seats i (Some guest) None within in
      subst (λ (o : Option Guest). IfSome o (λ (g : Guest). HasAnswered key secret g.address log)) (sym found) is
  | inr not ↦
      let found : slice_index_or (slice_set seats i (Some guest)) place None ≡ slice_index_or seats place None =
      get_or-set_other seats i place (Some guest) None not in
      subst (λ (o : Option Guest). IfSome o (λ (g : Guest). HasAnswered key secret g.address log)) (sym found) (known place)
]

known_set : (key : Option (List ℕ)) (secret : List ℕ) (seats : List (Option Guest)) (log : List Passing) (i : ℕ) (guest : Guest)
    → HasAnswered key secret guest.address log → AreKnown key secret seats log → AreKnown key secret (slice_set seats i (Some guest)) log
known_set key secret seats log i guest is known = elim (cases_lt i (length seats)) [
  | inl within ↦ known_within key secret seats log i guest within is known
  | inr past ↦ subst (λ (l : List (Option Guest)). AreKnown key secret l log) (sym (set_past seats i (Some guest) past)) known
]

-- ---- what came

came_stands : (g : GuestsState) (a : Address) (d : List ℕ) (log : List Passing) → StandsFor g log → StandsFor g (Came a d ∷ log)
came_stands g a d log stands = record {
  secret = stands.secret;
  known = λ place. longer g.key g.door.secret a d log (guest_at g place) (stands.known place);
  fair = fair_came g.key g.door.secret a d log stands.fair;
}

unasked_stands : (g : GuestsState) (log : List Passing) → StandsFor g log → StandsFor (record g { door = unasked g.door }) log
unasked_stands g log stands = record {
  secret = stands.secret;
  known = stands.known;
  fair = stands.fair;
}

-- nothing goes back
silent : (g new h : GuestsState) (a : Address) (d reply : List ℕ) → ((log : List Passing) → StandsFor g log → StandsFor h log) → new ≡ h
    → reply ≡ [] → ReceivesAt g a d new reply
silent g new h a d reply step new_is none log stands = (
  subst (λ (n : GuestsState). StandsFor n (Came a d ∷ log)) (sym new_is) (came_stands h a d log (step log stands)),
  λ back some carries. absurd (some none),
)

-- ---- what goes back

fits : (d : DoorState) (a : Address) (bytes : List ℕ) (heard : Greeting) → DoorHears d a bytes heard
    → (IsRight d.secret d.before a bytes → ⊥) → length (reply_of d a bytes heard) ≤ length bytes
fits d a bytes Challenged h wrong =
    omega (arith, length-challenge (nonce_in bytes) (number_of d.secret a (nonce_in bytes)), long bytes _ h.0)
fits d a bytes (Refused OtherProtocol) h wrong = omega (arith, length-refusal (nonce_in bytes) OtherProtocol, long bytes _ h.0)
fits d a bytes (Refused OtherVersion) h wrong = omega (arith, length-refusal (nonce_in bytes) OtherVersion, long bytes _ h)
fits d a bytes (Refused Full) h wrong = absurd (wrong h.0)
fits d a bytes (Refused TokenRefused) h wrong = absurd (wrong h.0)
fits d a bytes (Again client) h wrong = absurd (wrong h.0)
fits d a bytes Asks h wrong = absurd (wrong h.0)
fits d a bytes greeting.Dropped h wrong = omega arith

as_told : (d : DoorState) (a : Address) (bytes reply : List ℕ) (heard : Greeting) → reply ≡ reply_of d a bytes heard
    → length (reply_of d a bytes heard) ≤ length bytes → length reply ≤ length bytes
as_told d a bytes reply heard is short = subst (λ (l : List ℕ). length l ≤ length bytes) (sym is) short

goes_back : (d : DoorState) (a : Address) (bytes reply : List ℕ) (heard : Greeting) → DoorHears d a bytes heard → GoesBack d a bytes heard reply
    → (IsRight d.secret d.before a bytes → ⊥) → length reply ≤ length bytes
goes_back d a bytes reply Asks h is wrong = absurd (wrong h.0)
goes_back d a bytes reply Challenged h is wrong = as_told d a bytes reply Challenged is (fits d a bytes Challenged h wrong)
goes_back d a bytes reply (Refused reason) h is wrong = as_told d a bytes reply (Refused reason) is (fits d a bytes (Refused reason) h wrong)
goes_back d a bytes reply (Again client) h is wrong = as_told d a bytes reply (Again client) is (fits d a bytes (Again client) h wrong)
goes_back d a bytes reply greeting.Dropped h is wrong = as_told d a bytes reply greeting.Dropped is (fits d a bytes greeting.Dropped h wrong)

-- a right answer, as the log sees it
answers : (g : GuestsState) (a : Address) (d bytes : List ℕ) → g.door.before ≡ g.door.secret → Carries g.key Client GREETING_NUMBER d bytes
    → IsRight g.door.secret g.door.before a bytes → IsAnswer g.key g.door.secret a d
answers g a d bytes same carries right =
    (bytes, carries, subst (λ (s : List ℕ). IsRight g.door.secret s a bytes) same right)

back_fits : (g : GuestsState) (a : Address) (d bytes reply back : List ℕ) (heard : Greeting) → g.door.before ≡ g.door.secret
    → Carries g.key Client GREETING_NUMBER d bytes → DoorHears g.door a bytes heard → GoesBack g.door a bytes heard reply
    → Carries g.key Server GREETING_NUMBER back reply → (IsAnswer g.key g.door.secret a d → ⊥) → length back ≤ length d
back_fits g a d bytes reply back heard same carries hears goes sent none =
    let short = goes_back g.door a bytes reply heard hears goes (λ right. none (answers g a d bytes same carries right)) in
    let came = length_carried g.key Client GREETING_NUMBER d bytes carries in
    let went = length_carried g.key Server GREETING_NUMBER back reply sent in
    omega (arith, short, came, went)

greeted : (g new : GuestsState) (a : Address) (d bytes reply : List ℕ) (heard : Greeting) → Carries g.key Client GREETING_NUMBER d bytes
    → DoorHears g.door a bytes heard → GoesBack g.door a bytes heard reply → new ≡ record g { door = unasked g.door } → ReceivesAt g a d new reply
greeted g new a d bytes reply heard carries hears goes new_is log stands = (
  subst (λ (n : GuestsState). StandsFor n (Came a d ∷ log)) (sym new_is)
      (unasked_stands g (Came a d ∷ log) (came_stands g a d log stands)),
  λ back some sent.
      subst (λ (n : GuestsState). StandsFor n (Went a back ∷ Came a d ∷ log)) (sym new_is)
      (let came = came_stands g a d log stands in
      record {
        secret = came.secret;
        known = came.known;
        fair = fair_back g.key g.door.secret a d back log (λ none. back_fits g a d bytes reply back heard stands.secret carries hears goes sent none)
            stands.fair;
      }),
)

-- ---- who joins

went_stands : (g : GuestsState) (a : Address) (d : List ℕ) (log : List Passing) → HasAnswered g.key g.door.secret a log → StandsFor g log
    → StandsFor g (Went a d ∷ log)
went_stands g a d log known stands = record {
  secret = stands.secret;
  known = stands.known;
  fair = fair_went g.key g.door.secret a d log known stands.fair;
}

joined_stands : (g : GuestsState) (place number : ℕ) (guest : Guest) (log : List Passing)
    → HasAnswered g.key g.door.secret guest.address log → StandsFor g log → StandsFor (joined g place guest number) log
joined_stands g place number guest log is stands = record {
  secret = stands.secret;
  known = known_set g.key g.door.secret g.door.seats log place guest is stands.known;
  fair = stands.fair;
}

joins : (g new : GuestsState) (a : Address) (d bytes reply : List ℕ) (place : ℕ) → Carries g.key Client GREETING_NUMBER d bytes
    → DoorHears g.door a bytes greeting.Asks
    → new ≡ joined g place (record { address = a; nonce = nonce_in bytes }) (joining_in bytes) → ReceivesAt g a d new reply
joins g new a d bytes reply place carries hears new_is log stands =
    let guest : Guest = record { address = a; nonce = nonce_in bytes } in
    let is : HasAnswered g.key g.door.secret a (Came a d ∷ log) = inl (same_itself a, answers g a d bytes stands.secret carries hears.0) in
    let step = joined_stands g place (joining_in bytes) guest (Came a d ∷ log) is (came_stands g a d log stands) in (
      subst (λ (n : GuestsState). StandsFor n (Came a d ∷ log)) (sym new_is) step,
      λ back some sent.
          subst (λ (n : GuestsState). StandsFor n (Went a back ∷ Came a d ∷ log)) (sym new_is)
          (went_stands (joined g place guest (joining_in bytes)) a back (Came a d ∷ log) is step),
    )

-- ---- all

pub hears_stands : (g new : GuestsState) (a : Address) (d reply : List ℕ) (heard : Heard) → Hears g a d new reply heard → ReceivesAt g a d new reply
hears_stands g new a d reply (OfGuest place count) h = silent g new g a d reply (λ log stands. stands) h.4 h.5
hears_stands g new a d reply Stranger h = silent g new g a d reply (λ log stands. stands) h.2 h.3
hears_stands g new a d reply Untagged h = silent g new g a d reply (λ log stands. stands) h.2 h.3
hears_stands g new a d reply Dropped h =
    silent g new (record g { door = unasked g.door }) a d reply (unasked_stands g) h.2.1 h.2.2
hears_stands g new a d reply Greeted h = greeted g new a d h.0 reply h.2.0 h.1 h.2.1 h.2.2 h.2.3
hears_stands g new a d reply (Joined place) h = joins g new a d h.0 reply place h.1 h.2.0 h.2.3

-- anything may go to a guest
pub to_guest : (g : GuestsState) (place : ℕ) (guest : Guest) (d : List ℕ) (log : List Passing) → guest_at g place ≡ Some guest → StandsFor g log
    → StandsFor g (Went guest.address d ∷ log)
to_guest g place guest d log is stands =
    let known = subst (λ (o : Option Guest). IfSome o (λ (x : Guest). HasAnswered g.key g.door.secret x.address log)) is (stands.known place) in
    went_stands g guest.address d log known stands
