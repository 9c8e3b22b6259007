-- What loops over parts keep.
use Rattle.std.proofs.Common.{◌≡◌, ℕ, zero, suc, ◌+◌, ◌-◌, ◌<◌, ◌≤◌, List, [], ◌∷◌, length, drop, get_or, Option, Result, Ok, Err, refl, sym, ap, ◌∙◌, arith}
use Rattle.std.proofs.lemmas.List.{drop_all}
use Rattle.packet_parts.specs.declared.reader.Halt.{Halt}
use Rattle.packet_parts.specs.declared.reader.Halt.TheVariants.{Fault, NoMemory}
use Rattle.packet_parts.specs.Parts.{Told, Stop, goes_on, counted_told, Tells}
use Rattle.packet_parts.specs.Telling.{level_told, levels_told}

abbrev Reads : Type 0
Reads = Result (Unit {0} × Told) Stop

-- a fault of the first reading is that of both
stops : (e : Halt) (t : Told) (m : Reads) (f : Unit {0} × Told → Reads) (total : Reads) → Tells (Err e) t m → goes_on m f ≡ total → Tells {X = Unit {0}} (Err e) t total
stops (Fault cause) t (Ok x) f total h g = absurd cc
stops (Fault cause) t (Err stop) f total h g = sym g ∙ h
stops NoMemory t m f total h g = tt

then_is : (t : Told) (m : Reads) (f : Unit {0} × Told → Reads) (total : Reads) → m ≡ Ok (tt, t) → goes_on m f ≡ total → f (tt, t) ≡ total
then_is t m f total h g = rw h at g

module _ (item : Told → Reads) where
  first_of : (count i : ℕ) (s : Told) (total : Reads) → i < count → counted_told item (count - i) s ≡ total → goes_on (item s) (λ t. counted_told item (count - (i + 1)) t.1) ≡ total
  unfolding counted_told
  first_of count i s total lt so_far =
      let k : count - i ≡ suc (count - (i + 1)) = omega arith in
      rw k at so_far

  pub one_more : (count i : ℕ) (s t : Told) (total : Reads) → i < count → item s ≡ Ok (tt, t) → counted_told item (count - i) s ≡ total → counted_told item (count - (i + 1)) t ≡ total
  one_more count i s t total lt h so_far = then_is t (item s) (λ t. counted_told item (count - (i + 1)) t.1) total h (first_of count i s total lt so_far)

  pub stops_at : (e : Halt) (count i : ℕ) (s t : Told) (total : Reads) → i < count → Tells (Err e) t (item s) → counted_told item (count - i) s ≡ total → Tells {X = Unit {0}} (Err e) t total
  stops_at e count i s t total lt h so_far = stops e t (item s) (λ t. counted_told item (count - (i + 1)) t.1) total h (first_of count i s total lt so_far)

  pub all_told : (count i : ℕ) (s : Told) (total : Reads) → count ≤ i → counted_told item (count - i) s ≡ total → total ≡ Ok (tt, s)
  unfolding counted_told
  all_told count i s total le so_far =
      let k : count - i ≡ 0 = omega arith in
      sym so_far ∙ ap (λ (n : ℕ). counted_told item n s) k

drop_next : (ws : List ℕ) (i : ℕ) → i < length ws → drop i ws ≡ get_or ws i 0 ∷ drop (suc i) ws
drop_next [] i h = absurd (omega (arith, h))
drop_next (w ∷ ws) zero h = refl
drop_next (w ∷ ws) (suc i) h = drop_next ws i (omega (arith, h))

drop_first : (ws : List ℕ) (i : ℕ) → i < length ws → drop i ws ≡ get_or ws i 0 ∷ drop (i + 1) ws
drop_first ws i h =
    let k : suc i ≡ i + 1 = omega arith in
    drop_next ws i h ∙ ap (λ (n : ℕ). get_or ws i 0 ∷ drop n ws) k

module _ (kind : ℕ) (mask : Option ℕ) (ws : List ℕ) where
  first_level : (i w : ℕ) (s : Told) (total : Reads) → i < length ws → get_or ws i 0 ≡ w → levels_told kind mask i (drop i ws) s ≡ total
      → goes_on (level_told kind mask i w s) (λ t. levels_told kind mask (i + 1) (drop (i + 1) ws) t.1) ≡ total
  unfolding levels_told
  first_level i w s total lt is so_far =
      let k = drop_first ws i lt in
      ap (λ (n : ℕ). goes_on (level_told kind mask i n s) (λ t. levels_told kind mask (i + 1) (drop (i + 1) ws) t.1)) (sym is)
      ∙ (ap (λ (l : List ℕ). levels_told kind mask i l s) (sym k) ∙ so_far)

  pub next_level : (i w : ℕ) (s t : Told) (total : Reads) → i < length ws → get_or ws i 0 ≡ w → level_told kind mask i w s ≡ Ok (tt, t) → levels_told kind mask i (drop i ws) s ≡ total
      → levels_told kind mask (i + 1) (drop (i + 1) ws) t ≡ total
  next_level i w s t total lt is h so_far = then_is t (level_told kind mask i w s) (λ t. levels_told kind mask (i + 1) (drop (i + 1) ws) t.1) total h (first_level i w s total lt is so_far)

  pub level_stops : (e : Halt) (i w : ℕ) (s t : Told) (total : Reads) → i < length ws → get_or ws i 0 ≡ w → Tells (Err e) t (level_told kind mask i w s) → levels_told kind mask i (drop i ws) s ≡ total
      → Tells {X = Unit {0}} (Err e) t total
  level_stops e i w s t total lt is h so_far = stops e t (level_told kind mask i w s) (λ t. levels_told kind mask (i + 1) (drop (i + 1) ws) t.1) total h (first_level i w s total lt is so_far)

  pub levels_told_all : (i : ℕ) (s : Told) (total : Reads) → length ws ≤ i → levels_told kind mask i (drop i ws) s ≡ total → total ≡ Ok (tt, s)
  unfolding levels_told
  levels_told_all i s total le so_far = sym so_far ∙ ap (λ (l : List ℕ). levels_told kind mask i l s) (drop_all i ws le)
