-- The end of a datagram.
use Rattle.std.proofs.Common.{◌≡◌, ℕ, zero, suc, ◌<◌, Bool, true, false, cond, length, replicate, Ok, Err, refl, arith}
use Rattle.std.specs.Prelude.{not, ◌&&◌, nat_lt}
use Rattle.std.specs.List.{list_all}
use Rattle.std.proofs.lemmas.Bool.{ltb-true, lt-ltb}
use Rattle.std.proofs.lemmas.List.{length-replicate}
use Rattle.bit_stream.specs.Reading.{Unread, end_at, is_padding}
use Rattle.bit_stream.proofs.Numbers.{all_clear}

chosen : {A E : Type 0} (b : Bool) (x y : A) (d : E) → cond b (Ok x) (Err d) ≡ Ok y → b ≡ true
chosen true x y d e = refl
chosen false x y d e = absurd cc

both : (a b : Bool) → (a && b) ≡ true → (a ≡ true) × (b ≡ true)
both true b e = (refl, e)
both false b e = absurd cc

pub end_at-ok : (s : Unread) → end_at s ≡ Ok tt → (length s.rest < 8) × (s.rest ≡ replicate (length s.rest) false)
unfolding end_at is_padding
end_at-ok s e =
    let p = both (nat_lt (length s.rest) 8) (list_all not s.rest) (chosen (nat_lt (length s.rest) 8 && list_all not s.rest) tt tt (record { place = s.place }) e) in
    (ltb-true _ _ p.0, all_clear s.rest p.1)

clear_list : (k : ℕ) → list_all not (replicate k false) ≡ true
clear_list zero = refl
clear_list (suc k) = clear_list k

pub end_at-clear : (place k : ℕ) → k < 8 → end_at (record { place = place; rest = replicate k false }) ≡ Ok tt
unfolding end_at is_padding
end_at-clear place k h =
    let short : nat_lt (length (replicate k false)) 8 ≡ true = lt-ltb _ _ (omega (arith, length-replicate k false)) in
    rw (short, clear_list k) refl
