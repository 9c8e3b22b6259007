use Rattle.std.proofs.Common.{◌≡◌, ◌∙◌, ◌<◌, ◌≤◌, Bool, true, false, not, length, sym, ap, subst, arith, rules}
use Rattle.tn_types.specs.declared.limits.TheConstants.{MAX_SHOWN_PERIODS, MAX_SHOWS}
use Rattle.ghost_scope.specs.Shown.{show_count, up_count, has_control}
use Rattle.pair_core.specs.stream_manager.Stands.{ConnState}
use Rattle.pair_core.specs.History.{history}
use Rattle.kept_pair.specs.Kept.{terms_in, newest_first}
use Rattle.kept_pair.proofs.Showing.{may-be-shown, shown-few, shown-alone}
use Rattle.kept_pair.proofs.pair.KeptPair.may_show.Goals as goal

yes : (b : Bool) → not b ≡ true → b ≡ false
yes true e = sym e
yes false e = λ j. false

pub returns-then-is_full : goal.returns-then-is_full
returns-then-is_full c =
    let e : c.conn-conn.result.now ≡ c.args.self.now.pair.conn = c.conn-conn.ensures ∙ ap (λ p. p.conn) c.pair.ensures in (
      λ x. absurd (cc),
      λ m. absurd (shown-few c.args.self.now.pair.conn (history (terms_in c.args.self.now) (newest_first c.args.self.now.steps)).server c.steps-steps.ensures.replays.stands.conn c.args.kind c.args.block c.args.level c.args.control m
          (subst (λ (conn : ConnState). MAX_SHOWN_PERIODS ≤ up_count conn.masks.periods) e (c.is_full.ensures.0 c.if-is_full.true))),
    )

pub returns-then-not-control : goal.returns-then-not-control
returns-then-not-control c =
    let e : c.conn-conn.result.now ≡ c.args.self.now.pair.conn = c.conn-conn.ensures ∙ ap (λ p. p.conn) c.pair.ensures in
    let kind : c.args.kind < length c.conn-conn.result.now.masks.kinds = search rules in
    let full : MAX_SHOWN_PERIODS ≤ up_count c.conn-conn.result.now.masks.periods → ⊥ = λ h. (let t = c.is_full.ensures.1 h in let f = c.if-is_full.false in cc) in
    let numbers : show_count c.conn-conn.result.now.masks.periods < MAX_SHOWS = let v = c.shows.ensures.value in let f = c.if-shows-ge-MAX_SHOWS.false in omega arith in
    let block = c.if-block-ge-MAX_BLOCKS.false in
    let level = c.if-level-gt-MAX_DISTANCE_LEVEL.false in (
      λ x. may-be-shown c.args.self.now.pair.conn (history (terms_in c.args.self.now) (newest_first c.args.self.now.steps)).server c.steps-steps.ensures.replays.stands.conn c.args.kind c.args.block c.args.level c.args.control
          (subst (λ (conn : ConnState). c.args.kind < length conn.masks.kinds) e kind) (omega arith) (omega arith)
          (subst (λ (conn : ConnState). MAX_SHOWN_PERIODS ≤ up_count conn.masks.periods → ⊥) e full) (subst (λ (conn : ConnState). show_count conn.masks.periods < MAX_SHOWS) e numbers)
          (λ h. let n = c.if-not-control.true in absurd (cc)),
      λ m. x_true,
    )
  where
    x_true : true ≡ true
    x_true = λ j. true

pub returns : goal.returns
returns c =
    let e : c.conn-conn.result.now ≡ c.args.self.now.pair.conn = c.conn-conn.ensures ∙ ap (λ p. p.conn) c.pair.ensures in
    let kind : c.args.kind < length c.conn-conn.result.now.masks.kinds = search rules in
    let full : MAX_SHOWN_PERIODS ≤ up_count c.conn-conn.result.now.masks.periods → ⊥ = λ h. (let t = c.is_full.ensures.1 h in let f = c.if-is_full.false in cc) in
    let numbers : show_count c.conn-conn.result.now.masks.periods < MAX_SHOWS = let v = c.shows.ensures.value in let f = c.if-shows-ge-MAX_SHOWS.false in omega arith in
    let block = c.if-block-ge-MAX_BLOCKS.false in
    let level = c.if-level-gt-MAX_DISTANCE_LEVEL.false in
    let on : c.args.control ≡ true = search rules in (
      λ x. may-be-shown c.args.self.now.pair.conn (history (terms_in c.args.self.now) (newest_first c.args.self.now.steps)).server c.steps-steps.ensures.replays.stands.conn c.args.kind c.args.block c.args.level c.args.control
          (subst (λ (conn : ConnState). c.args.kind < length conn.masks.kinds) e kind) (omega arith) (omega arith)
          (subst (λ (conn : ConnState). MAX_SHOWN_PERIODS ≤ up_count conn.masks.periods → ⊥) e full) (subst (λ (conn : ConnState). show_count conn.masks.periods < MAX_SHOWS) e numbers)
          (λ h. subst (λ (conn : ConnState). has_control conn.masks.periods ≡ false) e (sym c.has_control.ensures ∙ yes c.has_control.result x)),
      λ m. ap not (c.has_control.ensures ∙ subst (λ (conn : ConnState). has_control conn.masks.periods ≡ false) (sym e)
          (shown-alone c.args.self.now.pair.conn (history (terms_in c.args.self.now) (newest_first c.args.self.now.steps)).server c.steps-steps.ensures.replays.stands.conn c.args.kind c.args.block c.args.level c.args.control m on)),
    )
