-- `none` puts the two fields together, and owns nothing.
use Rattle.std.proofs.Common.{◌≡◌, List, [], ◌∷◌, ◌++◌, refl, sym, subst, lit<}
use mathlib.Core.Bool.{Bool, true, false, ◌&&◌}
use lib.Dec.{T}
use mir.Syntax.{Fn, ty_ptr}
use mir.Val.{Val, has_ty}
use base.Logic.{SProp, ent, emp, id⊢}
use prog.Wp.{WpFn}
use types.Kit.{‵, raw, ◌⊛◌, ◌$◌, ◌∵◌, !, qed, by, move, keep, split, fsplit, fjoin, suffices, use0, rewrite}
use types.Run.{lit, no_more, and_then, returns, enter}
use types.ByLocal.{alloc_all, pass_all, free_all, look_at, get, sets}
use types.Part.{agg}
use contract.Monad.{fact, fact_i}
use contract.Running.{tables}
use denote.Exit.{yes}
use denote.Param.{layout}
use denote.RattleType.{owns}
use denote.Signature.{types_at, plain}
use denote.RawPtr.{null_ptr, ptr_val}
use denote.Steps.{nothing}
use denote.Triple.Entry.{alive}
use denote.Triple.Walked.{Stays, stay_dropped, walk_of, Goes-dropped}
use Rattle.core.proofs.cell.Inside.{Good, one}
use Rattle.std.proofs.raw_atomic.Walks.{proved_at, leaves}
use Rattle.std.specs.declared.option.Option.{Option}
use Rattle.std.specs.declared.option.Option.TheVariants.{None}
use Rattle.tribes_link.proofs.Values.{both}
use Rattle.tribes_link.proofs.HeldDoorValues.{R, Z, LZ, Kept, none_in}
use Rattle.tribes_link.specs.contracts.held_door.HeldDoor.none.{ended, clauses}
use Rattle.tribes_link.specs.contracts.held_door.HeldDoor.none.Key.{name as #self}
use Rattle.tribes_link.proofs.held_door.HeldDoor.none.Statement.{statement}
use Rattle.tribes_link.proofs.held_door.HeldDoor.none.Code as code

both_tt : (x y : Bool) → T x → T y → T (x && (y && true))
both_tt true true s t = tt
both_tt true false s t = absurd t
both_tt false y s t = absurd s

pub none_spec : {M : Type 1} → statement M
none_spec 𝓤 𝓛 𝓜 𝓡 wired =
    let H = 𝓛.H in let 𝓣 = tables 𝓤 H 𝓜 𝓡 𝓡.env in let En = ended in let c = clauses 𝓛 𝓜.mem 𝓡.returns in let fn : Fn = code.function in
    let hs : Stays En.signature.params En.kept = (stay_dropped (plain (λ _. Z)) yes, tt) in
    proved_at 𝓛 En hs c 𝓜 𝓡 (Goes-dropped 𝓛 0 (plain (λ _. Z)) yes (λ κs x f. refl), tt) #self fn (code.unfolded 𝓤 H 𝓜 𝓡 wired) (λ z are.
    let a = z.0.3.0 in let Post : Val → SProp 𝓤 = (walk_of 𝓛 En hs c).post z in let Run : List Val → SProp 𝓤 = λ ws. WpFn 𝓤 H 𝓣.C 𝓣.Λ fn ws Post in
    let v : Val = ptr_val null_ptr in let ok : Good ty_ptr v = (tt, record { fits = lit< tt }) in let h = one (layout Z) z.0.4.0 ((LZ.lawful 𝓛).typed a z.0.4.0 are.0) in let w : Val = both v h.0 in
    let good : Good (layout Kept) w = (both_tt (has_ty ty_ptr v) (has_ty (layout Z) h.0) ok.0 h.2.0, (ok.1, (h.2.1, tt))) in let nought : Option R.Denot = None in
    qed 𝓛 ((raw (alive 𝓛 En.signature z.0.0 z.0.1) ⊛ ‵ (owns (types_at En.signature.params z.0.0) z.0.3 z.0.4)) ∷ raw ((c z.0.0 z.0.3).requires z.1) ∷ []) ∵ split ! $ move ! (1 ∷ []) $ fsplit ! $
    rewrite ! 0 (λ (us : List Val). ‵ (Z.own_val a us)) h.1 refl $
    suffices ! (Run (h.0 ∷ [])) (subst (λ (us : List Val). ent 𝓤 (Run (h.0 ∷ [])) (Run us)) (sym (λ i. h.1 i ++ [])) (id⊢ 𝓤 (Run (h.0 ∷ [])))) $
    enter ! 𝓣.C 𝓣.Λ fn (h.0 ∷ []) Post $ alloc_all ! (λ l. pass_all ! refl (h.2, tt) $
    sets ! (agg ! (and_then ! (lit ! tt) (and_then ! (get ! refl) (no_more !)))) refl good $ none_in ! null_ptr h.0 a $
    returns ! (look_at ! 0 refl) $ free_all ! refl $
    use0 𝓛 (raw (fact 𝓤 (nought ≡ nought))) (fact_i 𝓤 (nought ≡ nought) (emp 𝓤) refl) $ nothing ! $ nothing ! $ fjoin ! $
    -- [nothing of the parameters; what is ensured; the handle; true; the tokens; what is required]
    keep ! (4 ∷ 0 ∷ 2 ∷ 1 ∷ []) $ by ! (leaves 𝓛 En hs c z w (record { at = null_ptr; alloc = a; value = nought }) (tt, tt) (tt, tt))))
