use Rattle.std.proofs.Common.{◌≡◌, ◌+◌, ◌<◌, ◌∙◌, arith, sym, length-append, refl, [], ◌∷◌, Some, Ok, false}
use Rattle.std.proofs.lemmas.List.Elements.{All-push}
use Rattle.world_rules.specs.Spawning.{SpawnFits}
use Rattle.match_script.specs.Text.{lines_of, words_of}
use Rattle.match_script.specs.Header.{is_go, object_line}
use Rattle.match_script.specs.Script.{header_words}
use Rattle.match_script.proofs.ObjectLines.{objects_go_on, rises_more}
use Rattle.match_script.proofs.objects.objects_of.Goals as goal

pub lines-preserved : goal.lines-preserved
lines-preserved c =
    let l = c.lines.invariant in
    let k = c.args.clients in
    let b = c.args.blocks in
    let before = c.lines.spawns in
    let object = c.in-Some.object in
    let line = words_of c.in_ok-line.line.now in
    let n = 3 + c.from-first.result + c.lines.count in
    let first : header_words n (lines_of c.lines.rest.now) ≡ Ok (line, lines_of c.in_ok-line.after.now) = c.in_ok-line.ensures in
    let going : is_go line ≡ false = sym c.is_go.ensures ∙ c.if-is_go.false in
    let named : object_line k b before line ≡ Some object = sym (c.in-Some.ensures.value before l.follows l.count) in
    let may = c.in-Some.ensures.order before l.follows in
    let next : n + 1 ≡ 3 + c.from-first.result + (c.lines.count + 1) = omega arith in
    let long = length-append before (object ∷ []) in
    rw c.in-Ok.ensures.ok record {
      so_far = l.so_far ∙ objects_go_on before k b n (lines_of c.lines.rest.now) line (lines_of c.in_ok-line.after.now) object first going named ∙ rw next refl;
      few = omega (arith, c.in-Some.ensures.few);
      count = omega (arith, long, l.count);
      follows = c.behind-place.ensures before object refl may l.follows;
      fits = All-push (SpawnFits k) before object l.fits c.in-Some.ensures.fits;
      owners = rises_more k before object c.in-Some.ensures.fits may l.owners;
      blocks = All-push (λ s. s.block < b) before object l.blocks c.in-Some.ensures.blocks;
    }
