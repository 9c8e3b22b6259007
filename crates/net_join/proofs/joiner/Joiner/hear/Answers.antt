use Rattle.std.proofs.Common.{rules, ◌≡◌, ◌∷◌, Option, Some, None, sym, subst}
use Rattle.tn_outside.specs.Links.{Datagram}
use Rattle.net_rules.specs.Turns.{Heard}
use Rattle.net_join.specs.Joining.{welcomed, joined, turns_joined, log_of}
use Rattle.net_join.specs.Playing.{PlayerState, JoinerState, PlaysWhere, Joins}
use Rattle.net_join.proofs.Heard.{welcome_joins}
use Rattle.net_join.proofs.joiner.Joiner.hear.Goals as goal

pub returns-in_ok-player-clause-joins : goal.returns-in_ok-player-clause-joins
returns-in_ok-player-clause-joins c past h =
    let n = c.self.inside.nonce in
    let d : Datagram = record { peer = c.args.peer; bytes = c.args.bytes.now } in
    let none : c.self.inside.player ≡ None = search rules in
    let inside : Joins (record { nonce = n; player = c.self.inside.player }) past = subst (λ (j : JoinerState). Joins j past) (sym c.self.view_is) h in
    let here : PlaysWhere None (joined n past) (log_of n past) (turns_joined n past) =
    subst (λ (p : Option PlayerState). PlaysWhere p (joined n past) (log_of n past) (turns_joined n past)) none inside in
    let is : welcomed n d ≡ Some c.in-Some-welcomed.config = sym c.in-Some-welcomed.ensures.value in
    let there = welcome_joins n c.in_ok-player.player c.in-Some-welcomed.config d past is c.in_ok-player.ensures here in
    subst (λ (p : Option PlayerState). PlaysWhere p (joined n (Heard d ∷ past)) (log_of n (Heard d ∷ past)) (turns_joined n (Heard d ∷ past))) (sym c.put.ensures) there
