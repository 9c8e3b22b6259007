use Rattle.std.proofs.Common.{◌≡◌, ◌∙◌, ◌∷◌, [], ℕ, List, map, sym, subst, arith}
use Rattle.client_scope.specs.declared.period.Near.{Near}
use Rattle.own_lists.specs.Own.{OwnItem, Scan}
use Rattle.own_lists.specs.Kept.{kept}
use Rattle.own_lists.specs.Conditions.{MayFollow}
use Rattle.alone_server.specs.own_items.declared.items.OwnShow.{OwnShow}
use Rattle.alone_server.specs.own_items.Items.{show_of}
use Rattle.alone_server.specs.Stands.{StandsFor}
use Rattle.alone_server.proofs.Feeding.{counted_more}
use Rattle.relay_spectator.proofs.spectator.feed_both.Goals as goal

-- the item that is fed is the one that ends the periods
same_ends : (hides : List ℕ) (nears : List Near) (shows : List OwnShow) → nears ≡ [] → shows ≡ [] → Scan hides nears (map show_of shows) ≡ Scan hides [] []
same_ends hides nears shows n s = λ j. Scan hides (n j) (map show_of (s j))

pub feed-requires : goal.feed-requires
feed-requires c =
    let r = c.requires in
    let same = same_ends c.args.hides c.from_vec.result c.from_vec-2.result (c.from_vec.ensures ∙ c.new.ensures.items) (c.from_vec-2.ensures ∙ c.new-2.ensures.items) in
    record {
      terms = r.terms;
      items = r.items;
      stands = r.may.stands;
      follows = subst (MayFollow r.terms (kept r.terms r.items)) (sym same) r.may.hide;
      few = (let few = r.may.few in let counted = r.may.stands.counted in omega (arith, few, counted));
    }

pub feed-requires-2 : goal.feed-requires-2
feed-requires-2 c =
    let r = c.requires in
    let same = same_ends c.args.hides c.from_vec.result c.from_vec-2.result (c.from_vec.ensures ∙ c.new.ensures.items) (c.from_vec-2.ensures ∙ c.new-2.ensures.items) in
    let hide = Scan c.args.hides [] [] in
    let stands : StandsFor c.feed.new.self r.terms (hide ∷ r.items) =
    subst (λ (i : OwnItem). StandsFor c.feed.new.self r.terms (i ∷ r.items)) same
    (c.in_ok-_told.ensures.stands r.terms r.items r.may.stands (subst (MayFollow r.terms (kept r.terms r.items)) (sym same) r.may.hide)) in
    record {
      terms = r.terms;
      items = hide ∷ r.items;
      stands = stands;
      follows = r.may.write;
      few = (let few = r.may.few in let counted = stands.counted in let more = counted_more hide r.items in omega (arith, few, counted, more));
    }

pub returns : goal.returns
returns c t items may =
    let same = same_ends c.args.hides c.from_vec.result c.from_vec-2.result (c.from_vec.ensures ∙ c.new.ensures.items) (c.from_vec-2.ensures ∙ c.new-2.ensures.items) in
    let hide = Scan c.args.hides [] [] in
    let stands : StandsFor c.feed.new.self t (hide ∷ items) =
    subst (λ (i : OwnItem). StandsFor c.feed.new.self t (i ∷ items)) same
    (c.in_ok-_told.ensures.stands t items may.stands (subst (MayFollow t (kept t items)) (sym same) may.hide)) in
    c.in_ok-_told-2.ensures.stands t (hide ∷ items) stands may.write
