-- What a server writes that is fed an own list alone is what the report has of the client's packs.
use Rattle.std.proofs.Common.{◌≡◌, ◌∙◌, ℕ, Bool, true, false, List, [], ◌∷◌, ◌++◌, if◌then◌else◌, refl, sym, ap}
use Rattle.std.specs.List.{flat_map}
use Rattle.std.proofs.lemmas.List.{append-nil}
use Rattle.std.proofs.lemmas.List.Concat.{flat_map-append}
use Rattle.match_report.specs.Text.{report_line}
use Rattle.own_lists.specs.pair_steps.stream_manager.Limits.{Terms}
use Rattle.own_lists.specs.Own.{OwnItem}
use Rattle.own_lists.specs.Kept.{kept}
use Rattle.own_lists.specs.Past.{client_terms, after}
use Rattle.alone_server.specs.own_items.client_seat.Told.{pack_told}
use Rattle.alone_server.specs.own_items.match_laws.Laws.{is_own_pack, pack_lines}
use Rattle.alone_server.proofs.Below.own_items.match_laws.Isolated.{isolated}
use Rattle.two_worlds.specs.Stands.{item_text}
use Rattle.two_worlds.specs.Laws.{text_of, whole_line, WritesThePacks, SameListsSameLines}

one_text : (b : Bool) (line : List ℕ) → flat_map whole_line (if b then line ∷ [] else []) ≡ (if b then line else [])
one_text true line = append-nil line
one_text false line = refl

pub text_is : (t : Terms) (items : List OwnItem) → text_of t items ≡ flat_map whole_line (pack_lines t items)
text_is t [] = refl
text_is t (item ∷ items) =
    let line = report_line (pack_told t (kept t items) t.config.client) in
    ap (λ text. text ++ item_text t items item) (text_is t items)
    ∙ sym (flat_map-append whole_line (pack_lines t items) (if is_own_pack item then line ∷ [] else [])
    ∙ ap (λ text. flat_map whole_line (pack_lines t items) ++ text) (one_text (is_own_pack item) line))

pub writes_the_packs : WritesThePacks
writes_the_packs head c past =
    text_is (client_terms head c) ((after head past).own c) ∙ ap (flat_map whole_line) (sym (isolated head c past))

pub same_lines : SameListsSameLines
same_lines head other c past its_past terms own =
    isolated head c past ∙ ap (λ (z : Terms × List OwnItem). pack_lines z.0 z.1) (λ j. (terms j, own j)) ∙ sym (isolated other c its_past)
