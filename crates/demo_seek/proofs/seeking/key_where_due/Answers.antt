use Rattle.std.proofs.Common.{◌≡◌, ◌+◌, ◌%◌, [], ◌∷◌, ◌++◌, sym, subst, arith}
use Rattle.demo_seek.specs.declared.seeking.Key.{Key}
use Rattle.demo_seek.specs.Loaded.{IsKey, AreKeys}
use Rattle.demo_seek.proofs.Keys.{key-due}
use Rattle.demo_seek.proofs.seeking.key_where_due.Goals as goal

pub returns : goal.returns
returns c head bytes are behind begins =
    let key : Key = record { viewer = c.in_ok-viewer.viewer; start = c.args.start } in
    let due : c.args.count % 64 ≡ 0 = omega (arith, c.if-count-ne0.false) in
    let there : IsKey head bytes c.args.count key = record { from = c.args.viewer.now; behind = behind; kept = c.in_ok-viewer.ensures; begins = begins } in
    let pushed : c.push.new.self.items ≡ c.args.keys.now.items ++ key ∷ [] = c.in-Ok.ensures.items in
    subst (AreKeys head bytes (c.args.count + 1)) (sym pushed) (key-due head bytes c.args.count c.args.keys.now.items key due are there)
