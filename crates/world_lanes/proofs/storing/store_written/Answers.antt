use Rattle.std.proofs.Common.{◌≡◌, ◌+◌, ◌<◌, ℕ, Bool, true, false, not, ◌&&◌, ◌||◌, List, [], ◌∷◌, ◌∙◌, refl, sym, ap, get_or, take, length, arith}
use Rattle.std.proofs.lemmas.List.{take_more}
use Rattle.std.proofs.lemmas.List.Folds.{list_any-append}
use Rattle.world_sim.specs.declared.rows.Write.{Write}
use Rattle.world_sim.specs.Worlds.{Worlds}
use Rattle.dirty_lanes.specs.declared.view.SimStep.{SimStep}
use Rattle.world_lanes.specs.declared.raising.Changed.{Changed}
use Rattle.world_lanes.specs.Behind.{is_behind, Brings}
use Rattle.world_lanes.specs.Storing.{IsNear}
use Rattle.world_lanes.specs.Told.{is_told}
use Rattle.world_lanes.specs.Ticked.{is_write_of, is_written}
use Rattle.world_lanes.proofs.Again.{still_behind, brings_again}
use Rattle.world_lanes.proofs.storing.store_written.Goals as goal

or_none : (b : Bool) → (b || false) ≡ b
or_none true = refl
or_none false = refl

written_more : (xs writes : List Write) (k : ℕ) (d : Write) → xs ≡ writes → k < length xs
    → (o f : ℕ) → is_written (take (k + 1) writes) o f ≡ (is_written (take k writes) o f || is_write_of o f (get_or xs k d))
written_more xs writes k d is l o f =
    ap (λ (ws : List Write). is_written (take (k + 1) ws) o f) (sym is)
    ∙ ap (λ (ws : List Write). is_written ws o f) (take_more xs k d l)
    ∙ list_any-append (is_write_of o f) (take k xs) (get_or xs k d ∷ [])
    ∙ ap (λ (b : Bool). is_written (take k xs) o f || b) (or_none (is_write_of o f (get_or xs k d)))
    ∙ ap (λ (ws : List Write). is_written (take k ws) o f || is_write_of o f (get_or xs k d)) is

by_cases : (W at Ba : Bool) → ((W && Ba) || (at && (not W && Ba))) ≡ ((W || at) && Ba)
by_cases true true true = refl
by_cases true true false = refl
by_cases true false true = refl
by_cases true false false = refl
by_cases false at Ba = refl

listed_next : (told told' W at Ba Bb W' : Bool) → told ≡ (W && Ba) → told' ≡ (told || (at && Bb)) → Bb ≡ (not W && Ba) → W' ≡ (W || at) → told' ≡ (W' && Ba)
listed_next told told' W at Ba Bb W' e f g h =
    f ∙ ap (λ (t : Bool). t || (at && Bb)) e ∙ ap (λ (t : Bool). (W && Ba) || (at && t)) g ∙ by_cases W at Ba ∙ ap (λ (t : Bool). t && Ba) (sym h)

brings_next : (w : Worlds) (a b c : List SimStep) (xs : List Write) (k : ℕ) (d : Write) → xs ≡ w.writes → k < length xs → IsNear w a
    → Brings w (is_written (take k w.writes)) a b → Brings w (λ o f. is_write_of o f (get_or xs k d)) b c → Brings w (is_written (take (k + 1) w.writes)) a c
brings_next w a b c xs k d is l near x y =
    brings_again w (is_written (take k w.writes)) (λ o f. is_write_of o f (get_or xs k d)) (is_written (take (k + 1) w.writes)) a b c near x y (written_more xs w.writes k d is l)

told_next : (w : Worlds) (a b : List SimStep) (xs : List Write) (k : ℕ) (now later : List Changed) (d : Write) → xs ≡ w.writes → k < length xs → IsNear w a
    → Brings w (is_written (take k w.writes)) a b
    → ((o f : ℕ) → is_told now o f ≡ (is_written (take k w.writes) o f && is_behind w a o f))
    → ((o f : ℕ) → is_told later o f ≡ (is_told now o f || (is_write_of o f (get_or xs k d) && is_behind w b o f)))
    → (o f : ℕ) → is_told later o f ≡ (is_written (take (k + 1) w.writes) o f && is_behind w a o f)
told_next w a b xs k now later d is l near x e g o f =
    listed_next (is_told now o f) (is_told later o f) (is_written (take k w.writes) o f) (is_write_of o f (get_or xs k d)) (is_behind w a o f) (is_behind w b o f)
    (is_written (take (k + 1) w.writes) o f) (e o f) (g o f) (still_behind w (is_written (take k w.writes)) a b near x o f) (written_more xs w.writes k d is l o f)

pub loop-write-preserved : goal.loop-write-preserved
loop-write-preserved g c =
    let w = c.args.world.now in
    let old = c.args.sim.now.steps in
    let mid = c.loop-write.sim.steps in
    let k = c.loop-write.write-index in
    let xs = c.writes-write-items.result.now in
    let x = c.loop-write.invariant in
    let e = c.store_write.ensures in
    record {
      few = omega (arith, x.few, e.few);
      kept = omega (arith, x.kept, e.kept);
      told = told_next w old mid xs k c.loop-write.changed.items c.store_write.new.changed.items _ c.writes-write-items.ensures c.loop-write-test.true c.requires.near x.brings x.told e.told;
      there = e.there;
      bits = e.bits;
      brings = brings_next w old mid c.store_write.new.sim.steps xs k _ c.writes-write-items.ensures c.loop-write-test.true c.requires.near x.brings e.brings;
    }
