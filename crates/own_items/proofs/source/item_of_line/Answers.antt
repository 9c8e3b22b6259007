use Rattle.std.proofs.Common.{arith}
use Rattle.own_items.proofs.MadeItems.{line_shows, line_scan, line_tick}
use Rattle.own_items.proofs.source.item_of_line.Goals as goal

pub scan_item-requires : goal.scan_item-requires
scan_item-requires c =
    line_shows c.args.game.now c.requires.stands.0 c.args.line.now c.args.client c.requires.client c.requires.stands.1
    c.world-in-Scan.result.now c.scope-in-Scan.result.now c.world-in-Scan.ensures c.scope-in-Scan.ensures _ c.in-Scan.is (omega (arith, c.if-named-client.false))

pub returns-in_ok-tick_item-in-Tick : goal.returns-in_ok-tick_item-in-Tick
returns-in_ok-tick_item-in-Tick c = λ past s took.
    line_tick c.args.game.now past c.args.line.now c.args.client c.requires.client s c.world.result.now c.scope.result.now c.world.ensures c.scope.ensures
    c.in-Tick.is c.args.taken took _ c.in_ok-tick_item-in-Tick.ensures

pub returns-in_ok-scan_item-in-Scan : goal.returns-in_ok-scan_item-in-Scan
returns-in_ok-scan_item-in-Scan c = λ past s took.
    line_scan c.args.game.now past c.args.line.now c.args.client c.requires.client s c.world-in-Scan.result.now c.scope-in-Scan.result.now c.world-in-Scan.ensures
    c.scope-in-Scan.ensures _ c.in-Scan.is (omega (arith, c.if-named-client.false)) _ c.in_ok-scan_item-in-Scan.ensures
