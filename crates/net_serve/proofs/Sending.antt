-- What was sent, by several calls together.
use Rattle.std.proofs.Common.{◌≡◌, ◌∙◌, List, ◌++◌, Option, sym, ap, subst, refl}
use Rattle.std.proofs.lemmas.List.{map-append}
use Rattle.tn_outside.specs.Links.{Datagram}
use Rattle.tn_outside.proofs.Totals.{adds_then, front_longer, whole_front}
use Rattle.tn_outside.specs.Totals.{Adds, AddsFront}
use Rattle.net_serve.specs.Outgoing.{Outgoing, datagram, datagrams}

module _ (first : Option (List Datagram)) where
  pub sends_more : (old new : Option (List Datagram)) (before more : List Outgoing) → Adds first old (datagrams before) → Adds old new (datagrams more)
      → Adds first new (datagrams (before ++ more))
  sends_more old new before more h k =
      adds_then first old new (datagrams before) (datagrams more) (datagrams (before ++ more)) h k (map-append datagram before more)

  pub sends_grow : (now : Option (List Datagram)) (before more whole : List Outgoing) → whole ≡ before ++ more → AddsFront first now (datagrams before)
      → AddsFront first now (datagrams whole)
  sends_grow now before more whole e f = front_longer first now (datagrams before) (datagrams more) (datagrams whole) f (ap datagrams e ∙ map-append datagram before more)

  pub sends_whole : (now : Option (List Datagram)) (before : List Outgoing) → Adds first now (datagrams before) → AddsFront first now (datagrams before)
  sends_whole now before h = whole_front first now (datagrams before) h

  -- nothing more was sent
  pub sends_stay : (old now : Option (List Datagram)) (before more : List Outgoing) → Adds first old (datagrams before) → now ≡ old
      → AddsFront first now (datagrams (before ++ more))
  sends_stay old now before more h e =
      sends_grow now before more (before ++ more) refl (sends_whole now before (subst (λ (t : Option (List Datagram)). Adds first t (datagrams before)) (sym e) h))
