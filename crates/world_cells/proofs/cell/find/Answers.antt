use Rattle.std.proofs.Common.{◌≡◌, ℕ, ◌<◌, ◌≤◌, List, length, get_or, Result, Ok, Err, IfOk, IfErr, MatchResult}
use Rattle.std.proofs.lemmas.List.Sorted.{searched}
use Rattle.world_cells.specs.Rising.{IsGap}
use Rattle.world_cells.proofs.Places.{rising_order}
use Rattle.world_cells.proofs.cell.find.Goals as goal

abbrev Searched : List ℕ → ℕ → Result ℕ ℕ → Type 0
Searched xs x r = MatchResult r (λ i. (i < length xs) × (get_or xs i 0 ≡ x)) (λ i. (i ≤ length xs) × ((k : ℕ) → k < i → get_or xs k 0 < x) × ((k : ℕ) → i ≤ k → k < length xs → x < get_or xs k 0))

found_in : (xs : List ℕ) (x : ℕ) (r : Result ℕ ℕ) → Searched xs x r → IfOk r (λ i. (i < length xs) × (get_or xs i 0 ≡ x))
found_in xs x (Ok i) h = h
found_in xs x (Err i) h = tt

absent_in : (xs : List ℕ) (x : ℕ) (r : Result ℕ ℕ) → Searched xs x r → IfErr r (λ i. IsGap xs x i)
absent_in xs x (Ok i) h = tt
absent_in xs x (Err i) h = record { within = h.0; below = h.1; above = h.2 }

pub returns : goal.returns
returns c =
    let xs = c.args.numbers.now in
    let h = searched xs c.args.number c.binary_search.result c.binary_search.ensures.position (rising_order 0 1024 xs c.requires) in
    record { found = found_in xs c.args.number c.binary_search.result h; absent = absent_in xs c.args.number c.binary_search.result h }
