-- The guests of an entrance are those of what passed.
use Rattle.std.proofs.Common.{◌≡◌, ℕ, Bool, true, false, List, ◌∷◌, take, Option, Some, None, Ok, sym, subst, inl, inr}
use Rattle.greeting.specs.declared.words.Address.{Address}
use Rattle.host_guests.specs.Passing.{Passing, Came, Went, Goes, Comes}
use Rattle.host_guests.specs.Guests.{GuestsState, StandsFor, ReceivesAt}
use Rattle.host_guests.specs.Entrance.{Holds, Answers}

told : (g : GuestsState) (log : List Passing) (new : Option (List Passing)) → new ≡ Some log → StandsFor g log → Holds g new
told g log new is stands = subst (λ (x : Option (List Passing)). Holds g x) (sym is) stands

untold : (g : GuestsState) (new : Option (List Passing)) → new ≡ None → Holds g new
untold g new is = subst (λ (x : Option (List Passing)). Holds g x) (sym is) tt

-- ---- what came

none_goes : (old new : Option (List Passing)) (sent : Bool) (to : Address) (d : List ℕ) → old ≡ None → Goes old new sent to d → new ≡ None
none_goes None new sent to d is goes = goes
none_goes (Some log) new sent to d is goes = cc

none_told : (key : Option (List ℕ)) (mid new : Option (List Passing)) (a : Address) (reply : List ℕ) → mid ≡ None → Answers key mid new a reply
    → new ≡ None
none_told key mid new a reply is answers = elim answers [
  | inl h ↦ subst (λ (x : Option (List Passing)). new ≡ x) is h.1
  | inr h ↦ none_goes mid new h.2 a h.1 is h.4
]

went : (h : GuestsState) (log : List Passing) (new : Option (List Passing)) (a : Address) (back : List ℕ) (sent : Bool)
    → Goes (Some log) new sent a back → StandsFor h log → StandsFor h (Went a back ∷ log) → Holds h new
went h log new a back true goes before behind = told h _ new goes behind
went h log new a back false goes before behind = told h _ new goes before

answered : (g h : GuestsState) (log : List Passing) (new : Option (List Passing)) (a : Address) (d reply : List ℕ)
    → Answers g.key (Some (Came a d ∷ log)) new a reply → ReceivesAt g a d h reply → StandsFor g log → Holds h new
answered g h log new a d reply answers step stands =
    let both = step log stands in
    elim answers [
      | inl none ↦ told h (Came a d ∷ log) new none.1 both.0
      | inr some ↦ went h (Came a d ∷ log) new a some.1 some.2 some.4 both.0 (both.1 some.1 some.0 some.3)
    ]

pub received_holds : (g h : GuestsState) (old mid new : Option (List Passing)) (x : Address × ℕ) (buf reply : List ℕ)
    → Comes old mid (Ok (Some x)) buf → Answers g.key mid new x.0 reply → ReceivesAt g x.0 (take x.1 buf) h reply → Holds g old → Holds h new
received_holds g h None mid new x buf reply comes answers step holds = untold h new (none_told g.key mid new x.0 reply comes answers)
received_holds g h (Some log) mid new x buf reply comes answers step holds =
    let behind = subst (λ (m : Option (List Passing)). Answers g.key m new x.0 reply) comes answers in
    answered g h log new x.0 (take x.1 buf) reply behind step holds

-- ---- what went

pub sent_holds : (g : GuestsState) (old new : Option (List Passing)) (sent : Bool) (a : Address) (d : List ℕ) → Goes old new sent a d
    → ((log : List Passing) (d : List ℕ) → StandsFor g log → StandsFor g (Went a d ∷ log)) → Holds g old → Holds g new
sent_holds g None new sent a d goes step holds = untold g new goes
sent_holds g (Some log) new true a d goes step holds = told g _ new goes (step log d holds)
sent_holds g (Some log) new false a d goes step holds = told g _ new goes holds
