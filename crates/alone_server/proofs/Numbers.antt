-- The numbers of the shown periods rise.
use Rattle.std.proofs.Common.{ℕ, zero, suc, ◌+◌, Bool, true, false, not, cond, List, [], ◌∷◌, filter, arith}
use Rattle.ghost_model.specs.Words.{upto}
use Rattle.pair_core.specs.History.{PairStep}
use Rattle.pair_steps.specs.Steps.{shows_in, is_hidden_in, up_in}
use Rattle.own_lists.proofs.ScanFacts.{RiseTo, rise_sooner, rise_on}

rise_upto : (n : ℕ) → RiseTo 0 n (upto n)
unfolding upto
rise_upto zero = tt
rise_upto (suc n) = rise_on 0 n (suc n) (upto n) (n ∷ []) (omega arith) (omega arith) (rise_upto n) (omega arith, omega arith, tt)

rise_filter : (b : ℕ → Bool) (least most : ℕ) (ns : List ℕ) → RiseTo least most ns → RiseTo least most (filter b ns)
rise_filter b least most [] r = tt
rise_filter b least most (n ∷ ns) r = go (rise_filter b (n + 1) most ns r.2) (b n)
  where
    go : RiseTo (n + 1) most (filter b ns) → (c : Bool) → RiseTo least most (cond c (n ∷ filter b ns) (filter b ns))
    go rest true = (r.0, r.1, rest)
    go rest false = rise_sooner least (n + 1) most (filter b ns) (omega (arith, r.0)) rest

pub up_rises : (steps : List PairStep) → RiseTo 0 (shows_in steps) (up_in steps)
up_rises steps = rise_filter (λ n. not (is_hidden_in steps n)) 0 (shows_in steps) (upto (shows_in steps)) (rise_upto (shows_in steps))
