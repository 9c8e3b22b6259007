-- Lists that a loop maps in place, and how many values an object has.
use Rattle.std.proofs.Common.{◌≡◌, ◌∙◌, ◌<◌, ◌≤◌, ◌+◌, ◌-◌, ℕ, List, [], ◌∷◌, ◌++◌, length, map, take, drop, set, get_or, sym, ap, arith}
use Rattle.std.proofs.lemmas.List.{drop_more, map_more, length-take, length-map, append_assoc, set-append_right, get_or-append_right, get_or-drop}
use Rattle.world_rules.specs.declared.object.Object.{Object}
use Rattle.world_rules.specs.declared.object.State.{State}
use Rattle.world_rules.specs.declared.object.State.TheVariants.{Player, Disc, Mine, Drone, Flag, Clock}
use Rattle.world_sim.specs.Rows.{part_values, values_of}

module _ {X : Type 0} (f : X → X) (xs ys : List X) (i : ℕ) (d : X) (lt : i < length xs) (is : ys ≡ map f (take i xs) ++ drop i xs) where
  long : length (map f (take i xs)) ≡ i
  long = omega (arith, length-map (take i xs) f, length-take i xs, lt)

  -- the place that is mapped next
  pub next_is : get_or ys i d ≡ get_or xs i d
  next_is =
      let at : i + (i - i) ≡ i = omega arith in
      ap (λ (l : List X). get_or l i d) is ∙ get_or-append_right (map f (take i xs)) (drop i xs) i i d long (omega arith)
      ∙ get_or-drop i xs (i - i) d ∙ ap (λ n. get_or xs n d) at

  -- the list after it is mapped
  pub mapped_more : set ys i (f (get_or xs i d)) ≡ map f (take (i + 1) xs) ++ drop (i + 1) xs
  mapped_more =
      let front = map f (take i xs) in
      let rest = drop (i + 1) xs in
      let y = f (get_or xs i d) in
      let at : i - i ≡ 0 = omega arith in
      ap (λ (l : List X). set l i y) is ∙ set-append_right front (drop i xs) i i y long (omega arith)
      ∙ ap (λ (l : List X). front ++ set l (i - i) y) (drop_more xs i d lt)
      ∙ ap (λ n. front ++ set (get_or xs i d ∷ rest) n y) at
      ∙ sym (append_assoc front (y ∷ []) rest) ∙ ap (λ l. l ++ rest) (sym (map_more f xs i d lt))

part-few : (o : Object) (s : State) → length (part_values o s) ≤ 16
part-few o (Player p) = omega arith
part-few o (Disc d) = omega arith
part-few o (Mine m) = omega arith
part-few o (Drone d) = omega arith
part-few o (Flag f) = omega arith
part-few o (Clock c) = omega arith

-- an object has no more values than a list of them takes
pub values-few : (o : Object) → length (values_of o) ≤ 16
values-few o = part-few o o.state
