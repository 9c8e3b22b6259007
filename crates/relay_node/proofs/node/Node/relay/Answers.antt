use Rattle.std.proofs.Common.{◌≡◌, ◌∙◌, ◌<◌, ◌∷◌, ℕ, length, get_or, set, Some, refl, sym, ap, subst}
use Rattle.std.specs.Prelude.{Result, Ok, Err, OnOk, IfOk}
use Rattle.own_lists.specs.pair_core.stream_manager.Stands.{ClientState}
use Rattle.relay_script.specs.declared.entries.Entry.TheVariants.{OfRelay}
use Rattle.relay_script.specs.declared.types.RelayLine.{RelayLine}
use Rattle.relay_script.specs.declared.types.RelayLine.TheVariants.{Scan, Show}
use Rattle.relay_report.specs.Report.{named}
use Rattle.relay_node.specs.Node.{NodeState, Stands, MayRelay, TellsRelayed, plain_of}
use Rattle.relay_node.proofs.Playing.{now_kinds, now_seen}
use Rattle.relay_node.proofs.Relaying.{plain_may, plain_done, plain_told, scan_may, scan_done, scan_told, show_told, show_done, is_show}
use Rattle.relay_node.proofs.node.Node.relay.Goals as goal

map-ok : {T E P Q : Type 0} (r : Result T E) → (P → Q) → OnOk r P → OnOk r Q
map-ok (Ok x) f p = f p
map-ok (Err e) f p = tt

map-if : {T E : Type 0} (P Q : T → Type 0) (r : Result T E) → ((x : T) → P x → Q x) → IfOk r P → IfOk r Q
map-if P Q (Ok x) f p = f x p
map-if P Q (Err e) f p = tt

pub line-requires-clause-may : goal.line-requires-clause-may
line-requires-clause-may c =
    let line = c.args.line.now in
    let n : NodeState = record { relay = c.self.inside.relay; game = c.self.inside.game; board = c.self.inside.board; spectators = c.self.inside.spectators.items } in
    let r : MayRelay n line = subst (λ (x : NodeState). MayRelay x line) (sym c.self.view_is) c.requires in
    let plain : plain_of line ≡ Some c.in-Some.line = sym c.plain_line.ensures ∙ c.in-Some.is in
    let d = c.index_mut.result.now in
    let is : d ≡ get_or n.spectators (named line) d = c.index_mut.ensures.value ∙ ap (λ (k : ℕ). get_or n.spectators k d) c.spectator_named-at.ensures in
    plain_may n r.past r.stands r.few line c.in-Some.line plain d is r.named

pub scan-requires : goal.scan-requires
scan-requires c =
    let line = c.args.line.now in
    let s = c.in-Scan.spectator in
    let n : NodeState = record { relay = c.self.inside.relay; game = c.self.inside.game; board = c.self.inside.board; spectators = c.self.inside.spectators.items } in
    let r : MayRelay n line = subst (λ (x : NodeState). MayRelay x line) (sym c.self.view_is) c.requires in
    let at : c.spectator_named-at.result ≡ s = c.spectator_named-at.ensures ∙ ap named c.in-Scan.is in
    let lt : s < length n.spectators = subst (λ (k : ℕ). k < length n.spectators) (ap named c.in-Scan.is) r.named in
    let d = c.index_mut-in-Scan.result.now in
    let is : d ≡ get_or n.spectators s d = c.index_mut-in-Scan.ensures.value ∙ ap (λ (k : ℕ). get_or n.spectators k d) at in
    let copies = c.copies-copies.result.now in
    let of : copies ≡ c.pair.result.now.client.copies = c.copies-copies.ensures ∙ ap (λ (x : ClientState). x.copies) c.client.ensures in
    scan_may n r.past r.stands r.few s copies (now_kinds n r.past r.stands c.pair.result.now c.pair.ensures copies of)
    (now_seen n r.past r.stands c.pair.result.now c.pair.ensures copies of c.none_beyond.ensures) d is lt

pub returns-in-Some-clause-relays : goal.returns-in-Some-clause-relays
returns-in-Some-clause-relays c = map-ok c.line.result (λ does past stands few.
    let line = c.args.line.now in
    let n : NodeState = record { relay = c.self.inside.relay; game = c.self.inside.game; board = c.self.inside.board; spectators = c.self.inside.spectators.items } in
    let r : MayRelay n line = subst (λ (x : NodeState). MayRelay x line) (sym c.self.view_is) c.requires in
    let before : Stands n past = subst (λ (x : NodeState). Stands x past) (sym c.self.view_is) stands in
    let plain : plain_of line ≡ Some c.in-Some.line = sym c.plain_line.ensures ∙ c.in-Some.is in
    let d = c.index_mut.result.now in
    let is : d ≡ get_or n.spectators (named line) d = c.index_mut.ensures.value ∙ ap (λ (k : ℕ). get_or n.spectators k d) c.spectator_named-at.ensures in
    subst (λ (k : ℕ). Stands (record { relay = n.relay; game = n.game; board = n.board; spectators = set n.spectators k c.line.new.self }) (OfRelay line ∷ past)) (sym c.spectator_named-at.ensures)
    (plain_done n past before few line c.in-Some.line plain d is r.named c.line.new.self does)) c.line.ensures.does

pub returns-in-Some-clause-told : goal.returns-in-Some-clause-told
returns-in-Some-clause-told c =
    let line = c.args.line.now in
    let n : NodeState = record { relay = c.self.inside.relay; game = c.self.inside.game; board = c.self.inside.board; spectators = c.self.inside.spectators.items } in
    let r : MayRelay n line = subst (λ (x : NodeState). MayRelay x line) (sym c.self.view_is) c.requires in
    let plain : plain_of line ≡ Some c.in-Some.line = sym c.plain_line.ensures ∙ c.in-Some.is in
    let d = c.index_mut.result.now in
    let is : d ≡ get_or n.spectators (named line) d = c.index_mut.ensures.value ∙ ap (λ (k : ℕ). get_or n.spectators k d) c.spectator_named-at.ensures in
    subst (λ (x : NodeState). IfOk c.line.result (TellsRelayed x line)) c.self.view_is
    (map-if _ (TellsRelayed n line) c.line.result (λ told tells past stands few. plain_told n past stands few line c.in-Some.line plain d is r.named told tells) c.line.ensures.told)

pub returns-in-Scan-clause-relays : goal.returns-in-Scan-clause-relays
returns-in-Scan-clause-relays c = map-ok c.scan.result (λ scans past stands few.
    let line = c.args.line.now in
    let s = c.in-Scan.spectator in
    let n : NodeState = record { relay = c.self.inside.relay; game = c.self.inside.game; board = c.self.inside.board; spectators = c.self.inside.spectators.items } in
    let r : MayRelay n line = subst (λ (x : NodeState). MayRelay x line) (sym c.self.view_is) c.requires in
    let before : Stands n past = subst (λ (x : NodeState). Stands x past) (sym c.self.view_is) stands in
    let at : c.spectator_named-at.result ≡ s = c.spectator_named-at.ensures ∙ ap named c.in-Scan.is in
    let lt : s < length n.spectators = subst (λ (k : ℕ). k < length n.spectators) (ap named c.in-Scan.is) r.named in
    let d = c.index_mut-in-Scan.result.now in
    let is : d ≡ get_or n.spectators s d = c.index_mut-in-Scan.ensures.value ∙ ap (λ (k : ℕ). get_or n.spectators k d) at in
    let copies = c.copies-copies.result.now in
    let of : copies ≡ c.pair.result.now.client.copies = c.copies-copies.ensures ∙ ap (λ (x : ClientState). x.copies) c.client.ensures in
    subst (λ (x : ℕ × RelayLine). Stands (record { relay = n.relay; game = n.game; board = n.board; spectators = set n.spectators x.0 c.scan.new.self }) (OfRelay x.1 ∷ past))
    (λ j. (sym at j, sym c.in-Scan.is j))
    (scan_done n past before few s copies (now_kinds n past before c.pair.result.now c.pair.ensures copies of)
    (now_seen n past before c.pair.result.now c.pair.ensures copies of c.none_beyond.ensures) d is lt c.scan.new.self scans)) c.scan.ensures.scans

pub returns-in-Scan-clause-told : goal.returns-in-Scan-clause-told
returns-in-Scan-clause-told c =
    let line = c.args.line.now in
    let s = c.in-Scan.spectator in
    let n : NodeState = record { relay = c.self.inside.relay; game = c.self.inside.game; board = c.self.inside.board; spectators = c.self.inside.spectators.items } in
    let r : MayRelay n line = subst (λ (x : NodeState). MayRelay x line) (sym c.self.view_is) c.requires in
    let at : c.spectator_named-at.result ≡ s = c.spectator_named-at.ensures ∙ ap named c.in-Scan.is in
    let lt : s < length n.spectators = subst (λ (k : ℕ). k < length n.spectators) (ap named c.in-Scan.is) r.named in
    let d = c.index_mut-in-Scan.result.now in
    let is : d ≡ get_or n.spectators s d = c.index_mut-in-Scan.ensures.value ∙ ap (λ (k : ℕ). get_or n.spectators k d) at in
    let copies = c.copies-copies.result.now in
    let of : copies ≡ c.pair.result.now.client.copies = c.copies-copies.ensures ∙ ap (λ (x : ClientState). x.copies) c.client.ensures in
    subst (λ (x : NodeState × RelayLine). IfOk c.scan.result (TellsRelayed x.0 x.1)) (λ j. (c.self.view_is j, sym c.in-Scan.is j))
    (map-if _ (TellsRelayed n (Scan s)) c.scan.result (λ told tells past stands few.
    scan_told n past stands few s copies (now_kinds n past stands c.pair.result.now c.pair.ensures copies of)
    (now_seen n past stands c.pair.result.now c.pair.ensures copies of c.none_beyond.ensures) d is lt told tells) c.scan.ensures.told)

pub returns-in_default : goal.returns-in_default
returns-in_default c =
    let line = c.args.line.now in
    let s = named line in
    let old = c.args.self.now in
    let shows : line ≡ Show s = is_show line (sym c.plain_line.ensures ∙ c.in-None.is) c.in_default.not-Scan in
    let n : NodeState = record { relay = c.self.inside.relay; game = c.self.inside.game; board = c.self.inside.board; spectators = c.self.inside.spectators.items } in
    let r : MayRelay n line = subst (λ (x : NodeState). MayRelay x line) (sym c.self.view_is) c.requires in
    let d = c.index.result.now in
    let is : d ≡ get_or n.spectators s d = c.index.ensures ∙ ap (λ (k : ℕ). get_or n.spectators k d) c.spectator_named-at.ensures in
    record {
      relays = map-ok c.show.result (λ u past stands few. subst (λ (l : RelayLine). Stands old (OfRelay l ∷ past)) (sym shows) (show_done old past stands few s)) (ok_of c.show.result);
      told = subst (λ (x : NodeState × RelayLine). IfOk c.show.result (TellsRelayed x.0 x.1)) (λ j. (c.self.view_is j, sym shows j))
          (map-if _ (TellsRelayed n (Show s)) c.show.result (λ told tells past stands few. show_told n past stands few s d is r.named told tells) c.show.ensures);
      keeps = record { relay = refl; script = refl; spectators = refl };
    }
  where
    ok_of : {T E : Type 0} (r : Result T E) → OnOk r (Unit {0})
    ok_of (Ok x) = tt
    ok_of (Err e) = tt
