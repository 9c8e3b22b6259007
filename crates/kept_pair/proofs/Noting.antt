-- What a pack reads is noted whole, since there is room for the reads of a largest one.
use Rattle.std.proofs.Common.{◌≡◌, ℕ, ◌≤◌, ◌∙◌, Bool, true, ◌&&◌, List, [], ◌++◌, length, ap, subst, sym}
use Rattle.std.specs.Prelude.{nat_le}
use Rattle.std.specs.Cmp.{second_so}
use Rattle.std.proofs.Math.Nat.{le_trans}
use Rattle.std.proofs.lemmas.Bool.{leb-true}
use Rattle.tn_types.specs.declared.choices.Read.{Read}
use Rattle.pair_core.specs.conn_packing.Noted.{AreNoted}

has-room : (a b c d : Bool) (capacity : ℕ) → (a && (b && (c && (d && nat_le 2048 capacity)))) ≡ true → 2048 ≤ capacity
has-room a b c d capacity e =
    leb-true 2048 capacity
    (second_so d (nat_le 2048 capacity) (second_so c (d && nat_le 2048 capacity) (second_so b (c && (d && nat_le 2048 capacity)) (second_so a (b && (c && (d && nat_le 2048 capacity))) e))))

-- the room of a pair that is prepared, behind what else that says
pub all-noted : (a b c d : Bool) (capacity capacity' : ℕ) (noted reads noted' : List Read) → (a && (b && (c && (d && nat_le 2048 capacity)))) ≡ true → capacity' ≡ capacity
    → noted ≡ [] → length reads ≤ 2048 → AreNoted capacity' noted reads noted' → noted' ≡ reads
all-noted a b c d capacity capacity' noted reads noted' prepared same none few are =
    let room : 2048 ≤ capacity' = subst (λ n. 2048 ≤ n) (sym same) (has-room a b c d capacity prepared) in
    are (subst (λ (l : List Read). length (l ++ reads) ≤ capacity') (sym none) (le_trans few room)) ∙ ap (λ (l : List Read). l ++ reads) none
