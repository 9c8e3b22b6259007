use Rattle.std.proofs.Common.{ℕ, Option, Ok, subst, arith}
use Rattle.tn_outside.specs.declared.peer.Peer.{Peer}
use Rattle.tn_outside.specs.Links.{Receives}
use Rattle.net_rules.proofs.Places.{place_came, place_quiet}
use Rattle.net_join.proofs.Rounds.{came_joins, quiet_joins, heard_one}
use Rattle.net_join.proofs.listening.receive.Goals as goal

pub returns-in-Ok-clause-done : goal.returns-in-Ok-clause-done
returns-in-Ok-clause-done g c o k past place joins =
    let a = g.L.Link.ahead c.args.link.now in
    let a' = g.L.Link.ahead c.receive.new.self in
    let t = g.C.Clock.ahead c.args.clock.now in
    let takes = subst (λ (x : Option (Peer × ℕ)). Receives a a' (Ok x) c.receive.new.buf) c.in-Ok-Some.field-0-is c.in-Ok-Some.ensures.takes in (
      place_came o.ahead o.clock a a' t k c.receive.new.buf place (c.in-Ok-Some.peer, c.in-Ok-Some.count) takes,
      came_joins o k a a' t (c.in-Ok-Some.peer, c.in-Ok-Some.count) c.receive.new.buf place takes (omega arith) c.hear.new.self c.split_at.result.0.now past c.split_at.ensures.front
          (c.in-Ok.ensures.joins past joins),
    )

pub returns-in-Ok-clause-more : goal.returns-in-Ok-clause-more
returns-in-Ok-clause-more g c =
    heard_one c.args.joiner.now c.hear.new.self (record { peer = c.in-Ok-Some.peer; bytes = c.split_at.result.0.now }) c.hear.ensures.nonce c.in-Ok.ensures.joins

pub returns-in-Ok-now-clause-done : goal.returns-in-Ok-now-clause-done
returns-in-Ok-now-clause-done g c o k past place joins =
    let a = g.L.Link.ahead c.args.link.now in
    let a' = g.L.Link.ahead c.receive.new.self in
    let t = g.C.Clock.ahead c.args.clock.now in
    let t' = g.C.Clock.ahead c.now.new.self in
    let takes = subst (λ (x : Option (Peer × ℕ)). Receives a a' (Ok x) c.receive.new.buf) c.in-Ok-None.field-0-is c.in-Ok-None.ensures.takes in (
      place_quiet o.ahead o.clock a a' t k c.receive.new.buf place t' c.in-Ok-now.now takes c.in-Ok-now.ensures.tells,
      quiet_joins o k a a' t t' c.in-Ok-now.now c.receive.new.buf place takes c.in-Ok-now.ensures.tells c.args.joiner.now past joins,
    )
