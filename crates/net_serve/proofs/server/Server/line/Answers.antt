use Rattle.std.proofs.Common.{List, [], ◌∷◌, refl}
use Rattle.std.proofs.lemmas.Result.{err_from_is_err_and}
use Rattle.match_script.specs.declared.types.BodyLine.{BodyLine as OneLine}
use Rattle.net_serve.specs.Lines.{text_so_far}
use Rattle.tn_outside.proofs.Totals.{whole_front}
use Rattle.net_serve.proofs.Texts.{wrote_line, wrote_front}
use Rattle.net_serve.proofs.Composing.{front_none}
use Rattle.net_serve.proofs.server.Server.line.Goals as goal

pub returns-then-is_full-clause-front : goal.returns-then-is_full-clause-front
returns-then-is_full-clause-front g c =
    front_none c.args.self.now (λ (past : List OneLine). c.args.line.now ∷ past) (g.K.Sink.written c.args.sink.now) (λ past p. (c.args.line.now ∷ [], refl))

pub returns-in_err-put-clause-front : goal.returns-in_err-put-clause-front
returns-in_err-put-clause-front g c =
    let p = err_from_is_err_and c.from_residual.result c.from_residual.ensures.1 in
    rw (p.1) (λ first past plays before. wrote_front c.args.self.now.script.head first (g.K.Sink.written c.args.sink.now) (g.K.Sink.written c.put.new.sink) past c.args.line.now before c.in_err-put.ensures.front)

pub returns-in-Ok-clause-written : goal.returns-in-Ok-clause-written
returns-in-Ok-clause-written g c first past plays before =
    wrote_line c.args.self.now.script.head first (g.K.Sink.written c.args.sink.now) (g.K.Sink.written c.put.new.sink) past c.args.line.now before c.in_ok-put.ensures.written

pub returns-in-Err-clause-front : goal.returns-in-Err-clause-front
returns-in-Err-clause-front g c first past plays before =
    whole_front first (g.K.Sink.written c.put.new.sink) (text_so_far c.args.self.now.script.head (c.args.line.now ∷ past))
    (wrote_line c.args.self.now.script.head first (g.K.Sink.written c.args.sink.now) (g.K.Sink.written c.put.new.sink) past c.args.line.now before c.in_ok-put.ensures.written)
