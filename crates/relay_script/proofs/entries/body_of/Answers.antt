use Rattle.std.proofs.Common.{rules, ◌≡◌, ◌∙◌, length, arith, Ok}
use Rattle.match_script.specs.Shape.{first_line}
use Rattle.relay_script.specs.declared.entries.Entry.TheVariants.{OfRelay}
use Rattle.relay_script.specs.Whole.{entry_at}
use Rattle.relay_script.specs.Ranges.{RelayLineFits}
use Rattle.relay_script.proofs.Bodies.{kept}
use Rattle.relay_script.proofs.entries.body_of.Goals as goal

pub lines-preserved : goal.lines-preserved
lines-preserved c =
    let e : entry_at c.args.clients c.args.spectators c.lines.k (first_line c.lines.rest.now) ≡ Ok (OfRelay c.in-Ok-OfRelay.line) = search rules in
    let fit : RelayLineFits c.args.spectators c.in-Ok-OfRelay.line = search rules in
    let b : c.len-behind.result ≡ length c.lines.own.items = omega (arith, c.len-behind.ensures, c.lines.own.ok) in
    let k = kept c.args.clients c.args.spectators c.args.n c.lines.k c.lines.rest.now (first_line c.lines.rest.now) c.next_entry-read.result.1.now c.lines.own.items c.lines.lines.items c.in-Ok-OfRelay.line c.len-behind.result c.push-in-Ok-OfRelay.new.self.items
    c.next_entry-read.ensures.lines e fit b c.in_ok-push-in-Ok-OfRelay.ensures.items c.lines.invariant.placed c.lines.invariant.in_order in
    record {
      so_far = c.lines.invariant.so_far ∙ k.goes_on;
      few = omega (arith, k.few);
      count = omega (arith, k.count, c.lines.invariant.count);
      own = c.lines.invariant.own;
      placed = k.placed;
      in_order = k.in_order;
    }
