-- The lines of rounds.
use Rattle.std.proofs.Common.{◌≡◌, ℕ, ◌+◌, ◌≤◌, List, [], ◌∷◌, ◌++◌, length, take, ap, ◌∙◌, append_assoc, arith}
use Rattle.std.proofs.lemmas.List.{length-append}
use Rattle.rand_pcg.specs.Lcg.{Lcg}
use Rattle.match_script.specs.declared.types.BodyLine.{BodyLine}
use Rattle.match_script.specs.declared.types.BodyLine.TheVariants.{Tick}
use Rattle.script_maker.specs.Adding.{Adds}
use Rattle.script_maker.specs.Draws.{each_below}
use Rattle.script_maker.specs.Lines.{client_lines, round}
use Rattle.script_maker.specs.Made.{first_lines}
use Rattle.script_maker.proofs.Drawing.{same_first}

-- a tick and what all clients add is a round
pub adds_round : (clients k : ℕ) (old new : List BodyLine) (g h : Lcg)
    → Adds (each_below clients (client_lines k)) (old ++ Tick ∷ []) g new h → Adds (round clients k) old g new h
unfolding round
adds_round clients k old new g h a =
    let e = each_below clients (client_lines k) g in
    record { items = a.items ∙ append_assoc old (Tick ∷ []) e.0; generator = a.generator }

-- each round has its tick
pub adds_a_line : (clients k : ℕ) (old new : List BodyLine) (g h : Lcg) → Adds (round clients k) old g new h → length old + 1 ≤ length new
unfolding round
adds_a_line clients k old new g h a = omega (arith, ap (length {A = BodyLine}) a.items, length-append {A = BodyLine})

-- as many lines of some rounds, where these have them
pub enough_rounds : (clients steps k : ℕ) (g h : Lcg) (lines : List BodyLine) → Adds (each_below k (round clients)) [] g lines h → k ≤ steps → steps ≤ length lines
    → take steps lines ≡ (first_lines clients steps g).0
unfolding first_lines
enough_rounds clients steps k g h lines a few long =
    let same : lines ≡ (each_below k (round clients) g).0 = a.items in
    ap (take steps) same ∙ same_first (round clients) g steps k steps few (rw same at long)
