use Rattle.std.proofs.Common.{◌≡◌, ◌+◌, ◌-◌, ◌^◌, ◌<◌, ◌≤◌, List, Bool, length, arith, refl, ap, sym, ◌∙◌}
use Rattle.std.proofs.lemmas.Nat.{shr_below, mod_below, pow_pos}
use Rattle.bit_stream.specs.Bits.{bits_of}
use Rattle.bit_stream.specs.Reading.{number_at}
use Rattle.bit_stream.specs.Reader.{unread}
use Rattle.bit_stream.proofs.Reading.{number_at-short, number_at-pending, length-unread}
use Rattle.bit_stream.proofs.reader.BitReader.take.Goals as goal

pub returns-in_default-clause-read : goal.returns-in_default-clause-read
returns-in_default-clause-read c =
    ap (number_at c.args.width) (sym c.self.view_is) ∙ number_at-short c.args.width (unread c.self.inside) (omega (arith, c.in_default.ensures.short.0 refl, length-unread c.self.inside))

pub invariant_of-self : goal.invariant_of-self
invariant_of-self c =
    let r = c.in-Some in
    let f = r.ensures in
    let e : r.count ≡ (r.count - c.args.width) + c.args.width = omega (arith, f.enough) in
    record {
      below = rw c.split-low.ensures.high (shr_below r.pending (r.count - c.args.width) c.args.width (rw (← e) f.below));
      few = omega (arith, f.few);
      fits = omega (arith, f.len, f.enough);
    }

pub returns-clause-read : goal.returns-clause-read
returns-clause-read c =
    let f = c.in-Some in let w = c.args.width in let r = c.self.inside in
    ap (number_at w) (sym c.self.view_is)
    ∙ ap (λ (t : List Bool). number_at w (record { place = r.place; rest = t })) (sym f.ensures.bits)
    ∙ number_at-pending w f.count f.pending r.place (bits_of f.rest.now) f.ensures.enough
    ∙ rw (c.split-low.ensures.low, c.split-low.ensures.high) refl

pub returns-clause-fits : goal.returns-clause-fits
returns-clause-fits c = rw c.split-low.ensures.low (mod_below c.in-Some.pending (2 ^ c.args.width) (pow_pos c.args.width))

pub returns-in_default-clause-short : goal.returns-in_default-clause-short
returns-in_default-clause-short c =
    let few : length c.args.self.now.rest < c.args.width = rw (← c.self.view_is) (omega (arith, c.in_default.ensures.short.0 refl, length-unread c.self.inside)) in
    (λ _. few, λ _. refl)

pub returns-clause-short : goal.returns-clause-short
returns-clause-short c =
    let f = c.in-Some.ensures in
    let enough : c.args.width ≤ length c.args.self.now.rest = rw (← c.self.view_is) (omega (arith, f.enough, f.len, length-unread c.self.inside)) in
    (λ e. absurd cc, λ few. absurd (omega (arith, enough, few)))
