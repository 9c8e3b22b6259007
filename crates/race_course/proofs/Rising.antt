-- What a scan sees is few, and what it shows is of what it sees.
use Rattle.std.proofs.Common.{◌≡◌, ℕ, ◌<◌, ◌≤◌, ◌+◌, List, [], ◌∷◌, map, length, sym, subst, arith}
use Rattle.std.proofs.lemmas.List.{length-map}
use Rattle.std.proofs.lemmas.List.Elements.{recursion_from_All, All-filter}
use Rattle.std.specs.List.{All, AllByRecursion}
use Rattle.std.specs.List.Sorted.{IsStrictlyIncreasing}
use Rattle.world_scope.specs.declared.viewer.Seen.{Seen}
use Rattle.client_scope.specs.Scans.{is_new, level_in, last}
use Rattle.client_scope.specs.StandsFor.{Table, StandsFor}
use Rattle.own_lists.proofs.ScanFacts.{next_rises}

few_from : (most n : ℕ) (ns : List ℕ) → IsStrictlyIncreasing (n ∷ ns) → AllByRecursion (λ m. m < most) (n ∷ ns) → length (n ∷ ns) + n ≤ most
few_from most n [] h b = let l = b.0 in omega (arith, l)
few_from most n (m ∷ ns) h b =
    let k = h 0 (omega arith) in
    let r = few_from most m ns (next_rises n (m ∷ ns) h) b.1 in
    omega (arith, k, r)

few : (most : ℕ) (ns : List ℕ) → IsStrictlyIncreasing ns → AllByRecursion (λ m. m < most) ns → length ns ≤ most
few most [] h b = omega arith
few most (n ∷ ns) h b = let r = few_from most n ns h b in omega (arith, r)

abbrev object_of : Seen → ℕ
object_of s = s.object

below : (most : ℕ) (seen : List Seen) → AllByRecursion (λ s. s.object < most) seen → AllByRecursion (λ n. n < most) (map object_of seen)
below most [] a = tt
below most (s ∷ seen) a = (a.0, below most seen a.1)

pub seen_few : (most : ℕ) (seen : List Seen) → IsStrictlyIncreasing (map (λ s. s.object) seen) → All (λ s. s.object < most) seen → length seen ≤ most
seen_few most seen r a =
    let h = few most (map object_of seen) r (below most seen (recursion_from_All (λ s. s.object < most) seen a)) in
    let e : length (map object_of seen) ≡ length seen = length-map seen object_of in
    omega (arith, h, e)

-- what the last scan shows it saw
pub shown_there : (P : Seen → Type 0) (t : Table) (seen : List Seen) (scans : List (List Seen)) → StandsFor t (seen ∷ scans) → All P seen → All P t.shows
shown_there P t seen scans h a = subst (λ (ss : List Seen). All P ss) (sym h.shows) (All-filter (is_new (level_in (last scans))) P seen a)
