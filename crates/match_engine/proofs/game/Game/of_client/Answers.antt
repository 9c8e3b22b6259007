use Rattle.std.proofs.Common.{◌≡◌, ◌∙◌, ℕ, List, Option, Some, sym, ap, subst}
use Rattle.std.specs.Prelude.{IfOk}
use Rattle.match_script.specs.declared.types.BodyLine.{BodyLine}
use Rattle.match_script.specs.declared.types.BodyLine.TheVariants as script
use Rattle.match_script.specs.Named.{client_named}
use Rattle.match_laws.specs.Report.{told_after}
use Rattle.match_engine.specs.Stands.{StandsFor}
use Rattle.match_engine.proofs.game.Game.of_client.Goals as goal

pub returns-in-Pack-clause-told : goal.returns-in-Pack-clause-told
returns-in-Pack-clause-told c =
    let named : ◌≡◌ {A = Option ℕ} (client_named (script.Pack c.in-Pack.client)) (Some c.args.client) = ap client_named (sym c.in-Pack.is) ∙ c.requires.named in
    let line : script.Pack c.args.client ≡ c.args.line.now = cc in
    subst (λ (x : BodyLine). IfOk c.pack.result (λ t. (past : List BodyLine) → StandsFor c.args.self.now past → t ≡ told_after c.args.self.now.head past x)) line c.pack.ensures.told

pub returns-in-Show-clause-told : goal.returns-in-Show-clause-told
returns-in-Show-clause-told c =
    let named : ◌≡◌ {A = Option ℕ} (client_named (script.Show c.in-Show.client)) (Some c.args.client) = ap client_named (sym c.in-Show.is) ∙ c.requires.named in
    let line : script.Show c.args.client ≡ c.args.line.now = cc in
    subst (λ (x : BodyLine). IfOk c.show.result (λ t. (past : List BodyLine) → StandsFor c.args.self.now past → t ≡ told_after c.args.self.now.head past x)) line c.show.ensures.told
