use Rattle.std.proofs.Common.{◌≡◌, OnOk, string_bytes, subst, to_z, of_z, w64, ◌∙◌, refl}
use Rattle.std.specs.Prelude.{codes}
use Rattle.std.specs.Fmt.{decimal, signed_decimal}
use Rattle.std.proofs.Math.Facts.{to_z-of_z}
use Rattle.world_rules.specs.Kinds.{kind_word}
use Rattle.match_script.proofs.Joining.{six_words}
use Rattle.match_script.proofs.printer.put_spawn.Goals as goal

pub returns : goal.returns
returns c =
    let a = c.args in
    let text = string_bytes a.out.now in
    let x : to_z w64 (of_z w64 a.x) ≡ a.x = to_z-of_z c.ranges.x in
    let y : to_z w64 (of_z w64 a.y) ≡ a.y = to_z-of_z c.ranges.y in
    let word : c.kind_word-kind.result.now ≡ kind_word a.kind = c.kind_word-kind.ensures in
    let line = six_words text (codes "spawn") c.kind_word-kind.result.now (decimal a.block) (decimal a.team) (signed_decimal (to_z w64 (of_z w64 a.x))) (signed_decimal (to_z w64 (of_z w64 a.y))) in
    subst (λ w. OnOk c.writeln.result (string_bytes c.writeln.new.self ≡ w)) (line ∙ rw (x, y, word) refl) c.writeln.ensures.bytes
