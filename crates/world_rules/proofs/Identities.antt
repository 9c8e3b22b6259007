-- No tick changes what an object is, and players, flags and clocks live on.
use Rattle.std.proofs.Common.{◌≡◌, ℕ, Bool, true, false, cond, not, ◌||◌, nat_lt, nat_le, List, [], ◌∷◌, map, Option, Some, None, refl, sym, ap, ◌∙◌}
use Rattle.std.specs.Prelude.{find}
use Rattle.tn_types.specs.declared.moves.MoveBits.{MoveBits}
use Rattle.world_rules.specs.declared.object.TheConstants.{MAX_AGE}
use Rattle.world_rules.specs.declared.object.Object.{Object}
use Rattle.world_rules.specs.declared.object.State.{State}
use Rattle.world_rules.specs.declared.object.State.TheVariants.{Player, Disc, Mine, Drone, Flag, Clock}
use Rattle.world_rules.specs.Near.{is_standing}
use Rattle.world_rules.specs.Discs.{disc_next, is_leaving, is_hitting, aged}
use Rattle.world_rules.specs.Mines.{mine_next, is_triggered}
use Rattle.world_rules.specs.Players.{player_next}
use Rattle.world_rules.specs.Drones.{drone_next}
use Rattle.world_rules.specs.Flags.{flag_next, carried, is_player, is_home}
use Rattle.world_rules.specs.Clocks.{clock_next}
use Rattle.world_rules.specs.Next.{by_kind, object_next, Moment}
use Rattle.world_rules.specs.Kinds.{kind_of}
use Rattle.world_rules.specs.Identity.{Identity, identity_of, owner_in, number_in}

-- ---- one object

either : (i : Identity) (b : Bool) (x y : Object) → identity_of x ≡ i → identity_of y ≡ i → identity_of (cond b x y) ≡ i
either i true x y p q = p
either i false x y p q = q

-- an object that differs in place, life and in parts of its state that don't tell what it is
same : (o : Object) (s : State) → o.state ≡ s → identity_of o ≡ record { kind = kind_of s; owner = owner_in s; number = number_in s; block = o.block; team = o.team; home = o.home }
same o s e = ap (λ (t : State). let i : Identity = record { kind = kind_of t; owner = owner_in t; number = number_in t; block = o.block; team = o.team; home = o.home } in i) e

carried_same : (moves : List (Option MoveBits)) (o : Object) (client : ℕ) (p : Option Object) (i : Identity) → identity_of o ≡ i → i ≡ record { kind = 4; owner = None; number = None; block = o.block; team = o.team; home = o.home } → identity_of (carried moves o client p) ≡ i
carried_same moves o client None i h e = sym e
carried_same moves o client (Some p) i h e = either i (not (is_standing p)) _ _ (sym e) (either i (is_home p) _ _ (sym e) h)

by_kind_same : (os : List Object) (moves : List (Option MoveBits)) (t : Moment) (o : Object) (s : State) → o.state ≡ s → identity_of (by_kind os moves t o s) ≡ identity_of o
unfolding player_next disc_next mine_next drone_next flag_next clock_next
by_kind_same os moves t o (Player p) e = either (identity_of o) (nat_lt 0 p.hp) _ _ (sym (same o (Player p) e)) (sym (same o (Player p) e))
by_kind_same os moves t o (Disc d) e =
    either (identity_of o) (not o.alive) o _ refl (either (identity_of o) (is_hitting os o) _ _ refl
    (either (identity_of o) (nat_le MAX_AGE (aged d.age) || is_leaving o.place d) _ _ (sym (same o (Disc d) e)) (sym (same o (Disc d) e))))
by_kind_same os moves t o (Mine m) e =
    either (identity_of o) (not o.alive) o _ refl (either (identity_of o) (is_triggered os o) _ _ refl (sym (same o (Mine m) e)))
by_kind_same os moves t o (Drone d) e = either (identity_of o) (not o.alive) o _ refl (sym (same o (Drone d) e))
by_kind_same os moves t o (Flag f) e = held f.holder
  where
    held : (holder : Option ℕ) → identity_of (flag_next os moves o holder) ≡ identity_of o
    held None = sym (same o (Flag f) e)
    held (Some client) = carried_same moves o client (find (is_player client) os) (identity_of o) refl (same o (Flag f) e)
by_kind_same os moves t o (Clock c) e = sym (same o (Clock c) e)

pub stays_itself : (os : List Object) (moves : List (Option MoveBits)) (t : Moment) (o : Object) → identity_of (object_next os moves t o) ≡ identity_of o
stays_itself os moves t o = by_kind_same os moves t o o.state refl

pub stay_themselves : (os : List Object) (moves : List (Option MoveBits)) (t : Moment) (xs : List Object) → map identity_of (map (object_next os moves t) xs) ≡ map identity_of xs
stay_themselves os moves t [] = refl
stay_themselves os moves t (o ∷ xs) = ap (λ (i : Identity). i ∷ map identity_of (map (object_next os moves t) xs)) (stays_itself os moves t o) ∙ ap (λ (is : List Identity). identity_of o ∷ is) (stay_themselves os moves t xs)
