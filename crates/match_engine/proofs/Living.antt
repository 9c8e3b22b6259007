-- The living objects of a world, one place further.
use Rattle.std.proofs.Common.{◌≡◌, ◌∙◌, ◌<◌, ◌+◌, ℕ, List, [], ◌∷◌, ◌++◌, length, drop, get_or, sym, ap, true, false, refl}
use Rattle.std.proofs.lemmas.List.{drop_more, append_assoc}
use Rattle.std.specs.List.{filter_map, enumerate_from}
use Rattle.world_rules.specs.declared.object.Object.{Object}
use Rattle.world_rules.specs.Kinds.{kind_of}
use Rattle.world_sim.specs.Rows.{values_of}
use Rattle.match_report.specs.declared.living.LivingObject.{LivingObject}
use Rattle.match_laws.specs.World.{living_one}

module _ (all sofar : List LivingObject) (os : List Object) (n : ℕ) (d : Object) (lt : n < length os) (is : all ≡ sofar ++ filter_map living_one (enumerate_from n (drop n os))) where
  abbrev rest : List LivingObject
  rest = filter_map living_one (enumerate_from (n + 1) (drop (n + 1) os))

  split : all ≡ sofar ++ filter_map living_one ((n, get_or os n d) ∷ enumerate_from (n + 1) (drop (n + 1) os))
  split = is ∙ ap (λ (l : List Object). sofar ++ filter_map living_one (enumerate_from n l)) (drop_more os n d lt)

  pub lives : (get_or os n d).alive ≡ true
      → all ≡ (sofar ++ record { number = n; kind = kind_of (get_or os n d).state; values = values_of (get_or os n d) } ∷ []) ++ rest
  lives alive =
      let one : LivingObject = record { number = n; kind = kind_of (get_or os n d).state; values = values_of (get_or os n d) } in
      let first : filter_map living_one ((n, get_or os n d) ∷ enumerate_from (n + 1) (drop (n + 1) os)) ≡ one ∷ rest = rw alive refl in
      split ∙ ap (λ l. sofar ++ l) first ∙ sym (append_assoc sofar (one ∷ []) rest)

  pub is_dead : (get_or os n d).alive ≡ false → all ≡ sofar ++ rest
  is_dead dead =
      let first : filter_map living_one ((n, get_or os n d) ∷ enumerate_from (n + 1) (drop (n + 1) os)) ≡ rest = rw dead refl in
      split ∙ ap (λ l. sofar ++ l) first
