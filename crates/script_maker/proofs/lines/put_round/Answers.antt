use Rattle.std.proofs.Common.{◌≡◌, ◌∷◌, ◌++◌, [], List, subst, sym, ℕ, arith}
use Rattle.match_script.specs.declared.types.BodyLine.{BodyLine}
use Rattle.match_script.specs.declared.types.BodyLine.TheVariants.{Tick}
use Rattle.script_maker.specs.Adding.{Adds}
use Rattle.script_maker.specs.Draws.{each_below}
use Rattle.script_maker.specs.Lines.{client_lines}
use Rattle.script_maker.proofs.Drawing.{adds_nothing, adds_next}
use Rattle.script_maker.proofs.Rounds.{adds_round}
use Rattle.script_maker.proofs.lines.put_round.Goals as goal

pub clients-init : goal.clients-init
clients-init c =
    let lines = c.args.lines.now.items ++ Tick ∷ [] in
    subst (λ (xs : List BodyLine). Adds (each_below 0 (client_lines c.args.k)) lines c.args.rng.now xs c.args.rng.now) (sym c.in_ok-put.ensures)
    (adds_nothing (client_lines c.args.k) lines c.args.rng.now)

pub clients-preserved : goal.clients-preserved
clients-preserved c =
    adds_next (client_lines c.args.k) c.clients.client (c.args.lines.now.items ++ Tick ∷ []) c.clients.lines.items c.put_client.new.lines.items
    c.args.rng.now c.clients.rng c.put_client.new.rng c.clients.invariant c.in_ok-put_client.ensures

pub returns : goal.returns
returns c =
    let lines = c.args.lines.now.items ++ Tick ∷ [] in
    let done : c.clients.client ≡ c.args.clients = omega arith in
    adds_round c.args.clients c.args.k c.args.lines.now.items c.clients.lines.items c.args.rng.now c.clients.rng
    (subst (λ (n : ℕ). Adds (each_below n (client_lines c.args.k)) lines c.args.rng.now c.clients.lines.items c.clients.rng) done c.clients.invariant)
