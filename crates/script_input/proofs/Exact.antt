-- Which answer it is, by what it says of the source and of the sink.
use Rattle.std.proofs.Common.{ℕ, ◌≡◌, ◌+◌, ◌≤◌, ◌⊎◌, inl, inr, List, [], ◌++◌, length, Bool, true, false, Option, Some, None, nat_le, refl, sym, ap, subst, ◌∙◌, arith, length-append}
use Rattle.script_input.specs.declared.status.Status.{Status}
use Rattle.script_input.specs.declared.status.Status.TheVariants.{Done, Usage, Script, TooLong, ReadFault, WriteFault, NoMemory, LinkFault, ClockFault, Demo}
use Rattle.tn_outside.specs.Totals.{Drained, GaveFront}
use Rattle.script_input.specs.Reading.{Seen, HasFailed, Gave, GaveBytes}
use Rattle.script_input.specs.Outcome.{Row, Takes, TakesNone, Refused, Cause, Outcome, asked_within, wanted_of, wanted, IsWanted, CanBeDone, Serves}

-- ---- an input that the source tells

told_input : (limit : ℕ) (source : Seen) (held input : List ℕ) → Gave limit source.old source.new input → source.old ≡ Some held → held ≡ input
told_input limit source held input gave is = let d : Drained (Some held) source.new input = subst (λ o. Drained o source.new input) is gave.all in d.0

module _ (asked : List ℕ → Status) (source : Seen) (held : List ℕ) (is : source.old ≡ Some held) where
  -- it was taken, and asks for this answer
  pub asked_is : (limit : Option ℕ) (input : List ℕ) (s : Status) → Takes limit source input → asked input ≡ s → s ≡ wanted_of limit asked held
  asked_is (Some limit) input s takes e =
      let same = told_input limit source held input takes is in
      let few : length held ≤ limit = subst (λ (t : List ℕ). length t ≤ limit) (sym same) takes.few in
      let short : nat_le (length held) limit ≡ true = grind (arith, few) in
      sym (ap (λ (b : Bool). asked_within b (asked held)) short ∙ ap asked same ∙ e)
  asked_is None input s takes e = sym (ap asked (sym takes.1) ∙ e)

  -- it is too long
  pub long_is : (limit : ℕ) → GaveBytes (limit + 1) source.old source.new → TooLong ≡ wanted_of (Some limit) asked held
  long_is limit (bytes, many, gave) =
      let g : GaveFront (Some held) source.new bytes = subst (λ o. GaveFront o source.new bytes) is gave in
      let long : length held ≡ length bytes + length g.0 = ap length g.2 ∙ length-append bytes g.0 in
      let not_short : nat_le (length held) limit ≡ false = grind (arith, long, many) in
      sym (ap (λ (b : Bool). asked_within b (asked held)) not_short)

module _ (limit : Option ℕ) (asked : List ℕ → Status) (makes : List ℕ → List ℕ → Type 0) (source sink : Seen) where
  abbrev row : Row
  row = record { limit = limit; asked = asked; makes = makes }

  refused_is : (s : Status) (held : List ℕ) → source.old ≡ Some held → Refused row source s → s ≡ wanted_of limit asked held
  refused_is s held is (input, takes, e) = asked_is asked source held is limit input s takes e

pub exact : (limit : Option ℕ) (asked : List ℕ → Status) (makes : List ℕ → List ℕ → Type 0) (source sink : Seen) (s : Status)
    → Cause (record { limit = limit; asked = asked; makes = makes }) source sink s → (held : List ℕ) → source.old ≡ Some held
    → IsWanted (record { limit = limit; asked = asked; makes = makes }) held source sink s
exact limit asked makes source sink Done h held is = asked_is asked source held is limit h.2.0 Done h.2.1 h.2.2
exact limit asked makes source sink WriteFault h held is = (sym (asked_is asked source held is limit h.2.0 Done h.2.1 h.2.2), h.1)
exact limit asked makes source sink NoMemory h held is = tt
exact limit asked makes source sink (Script line why) h held is = refused_is limit asked makes source sink (Script line why) held is h.2
exact limit asked makes source sink (Demo place) h held is = refused_is limit asked makes source sink (Demo place) held is h.2
exact (Some limit) asked makes source sink TooLong h held is = long_is asked source held is limit h.0.0
exact (Some limit) asked makes source sink ReadFault h held is = (tt, h.0.0)
exact (Some limit) asked makes source sink (Usage place) h held is = absurd h.0
exact (Some limit) asked makes source sink LinkFault h held is = absurd h.0
exact (Some limit) asked makes source sink ClockFault h held is = absurd h.0
exact None asked makes source sink TooLong h held is = absurd (let no = h.0.0 in cc no)
exact None asked makes source sink ReadFault h held is = absurd (let no = h.0.0 in cc no)
exact None asked makes source sink (Usage place) h held is = absurd (let no = h.0.0 in cc no)
exact None asked makes source sink LinkFault h held is = absurd (let no = h.0.0 in cc no)
exact None asked makes source sink ClockFault h held is = absurd (let no = h.0.0 in cc no)

-- an answer that is the wanted one is that the text was written, where a text is asked for
by_wanted : (command : Row) (held : List ℕ) (source sink : Seen) (s : Status) → wanted command held ≡ Done → IsWanted command held source sink s
    → (HasFailed source → ⊥) → (HasFailed sink → ⊥) → (s ≡ Done) ⊎ (s ≡ NoMemory)
by_wanted command held source sink Done e h a b = inl refl
by_wanted command held source sink NoMemory e h a b = inr refl
by_wanted command held source sink WriteFault e h a b = absurd (b h.1)
by_wanted command held source sink ReadFault e h a b = absurd (a h.1)
by_wanted command held source sink (Script line why) e h a b = inl (h ∙ e)
by_wanted command held source sink (Demo place) e h a b = inl (h ∙ e)
by_wanted command held source sink TooLong e h a b = inl (h ∙ e)
by_wanted command held source sink (Usage place) e h a b = inl (h ∙ e)
by_wanted command held source sink LinkFault e h a b = inl (h ∙ e)
by_wanted command held source sink ClockFault e h a b = inl (h ∙ e)

-- nothing is read, and a text is made of nothing
by_none : (asked : List ℕ → Status) (makes : List ℕ → List ℕ → Type 0) (source sink : Seen) (s : Status)
    → Cause (record { limit = None; asked = asked; makes = makes }) source sink s → asked [] ≡ Done
    → (HasFailed sink → ⊥) → (s ≡ Done) ⊎ (s ≡ NoMemory)
by_none asked makes source sink Done h e b = inl refl
by_none asked makes source sink NoMemory h e b = inr refl
by_none asked makes source sink WriteFault h e b = absurd (b h.1)
by_none asked makes source sink (Script line why) (a, u, (input, takes, is)) e b = inl (sym is ∙ ap asked takes.1 ∙ e)
by_none asked makes source sink (Demo place) (a, u, (input, takes, is)) e b = inl (sym is ∙ ap asked takes.1 ∙ e)
by_none asked makes source sink TooLong h e b = absurd (let no = h.0.0 in cc no)
by_none asked makes source sink ReadFault h e b = absurd (let no = h.0.0 in cc no)
by_none asked makes source sink (Usage place) h e b = absurd (let no = h.0.0 in cc no)
by_none asked makes source sink LinkFault h e b = absurd (let no = h.0.0 in cc no)
by_none asked makes source sink ClockFault h e b = absurd (let no = h.0.0 in cc no)

pub complete : (limit : Option ℕ) (asked : List ℕ → Status) (makes : List ℕ → List ℕ → Type 0) (source sink : Seen) (s : Status)
    → Cause (record { limit = limit; asked = asked; makes = makes }) source sink s
    → CanBeDone (record { limit = limit; asked = asked; makes = makes }) source.old
    → (HasFailed source → ⊥) → (HasFailed sink → ⊥) → (s ≡ Done) ⊎ (s ≡ NoMemory)
complete (Some limit) asked makes source sink s h (input, is, few, e) a b =
    let short : nat_le (length input) limit ≡ true = grind (arith, few) in
    by_wanted (record { limit = Some limit; asked = asked; makes = makes }) input source sink s (ap (λ (v : Bool). asked_within v (asked input)) short ∙ e)
    (exact (Some limit) asked makes source sink s h input is) a b
complete None asked makes source sink s h e a b = by_none asked makes source sink s h e b

pub serves : (command : Row) (source sink : Seen) (s : Status) → Outcome command source sink s → Serves command source sink s
serves command source sink s o = record {
  outcome = o;
  exact = exact command.limit command.asked command.makes source sink s o.answer;
  complete = complete command.limit command.asked command.makes source sink s o.answer;
}
