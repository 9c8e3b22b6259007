use Rattle.std.proofs.Common.{◌≡◌, ◌∙◌, ◌<◌, ◌+◌, ℕ, List, [], ◌∷◌, ◌++◌, length, sym, ap, subst, if◌then◌else◌}
use Rattle.std.specs.Prelude.{slice_index_or}
use Rattle.std.proofs.lemmas.List.{length_push}
use Rattle.quantised_fields.specs.declared.kind.Kind.{Kind}
use Rattle.match_laws.specs.own_lists.Course.{beginning}
use Rattle.match_laws.specs.own_lists.Past.{client_terms}
use Rattle.match_laws.specs.client_seat.Stands.{SeatState, StandsFor}
use Rattle.match_engine.specs.Stands.{keeps_all}
use Rattle.match_engine.proofs.Growing.{one_more}
use Rattle.match_engine.proofs.game.seats_of.Goals as goal

pub seats-preserved : goal.seats-preserved
seats-preserved c =
    let n = c.seats.client in
    let seats = c.seats.seats.items in
    let head = c.args.head.now in
    let new = c.in_ok-seat.seat in
    let grown : c.push.new.self.items ≡ seats ++ new ∷ [] =
    c.push.ensures.items ∙ ap (λ ok. if ok then seats ++ new ∷ [] else seats) c.if-is_err.ensures.negation in
    let stands : StandsFor new (client_terms head n) beginning =
    subst (λ (z : List Kind × List (List ℕ)). StandsFor new (record { config = record { client = n; life = head.life; size = head.size; version = head.version; move_bits = 10 }; kinds = z.0; blocks = z.1 }) beginning)
    (λ j. (c.match_kinds-kinds.ensures j, c.as_slice.ensures j)) c.in_ok-seat.ensures.stands in
    record {
      count = ap (length {A = SeatState}) grown ∙ length_push seats new ∙ ap (λ (m : ℕ). m + 1) c.seats.invariant.count;
      stands = subst (λ (ss : List SeatState). (k : ℕ) (d : SeatState) → k < n + 1 → StandsFor (slice_index_or ss k d) (client_terms head k) beginning) (sym grown)
          (one_more (λ s k. StandsFor s (client_terms head k) beginning) seats new n c.seats.invariant.count c.seats.invariant.stands stands);
      keeps = subst (λ (ss : List SeatState). (k : ℕ) (d : SeatState) → k < n + 1 → (slice_index_or ss k d).pair.keeps_all ≡ keeps_all c.args.keeps) (sym grown)
          (one_more (λ (s : SeatState) (k : ℕ). s.pair.keeps_all ≡ keeps_all c.args.keeps) seats new n c.seats.invariant.count c.seats.invariant.keeps c.in_ok-seat.ensures.keeps);
    }
