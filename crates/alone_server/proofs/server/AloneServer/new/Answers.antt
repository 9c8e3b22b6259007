use Rattle.std.proofs.Common.{ℕ, [], List, sym, subst, refl}
use Rattle.quantised_fields.specs.declared.kind.Kind.{Kind}
use Rattle.own_items.specs.client_seat.Stands.{StandsFor as SeatStandsFor}
use Rattle.own_lists.specs.Course.{beginning}
use Rattle.own_lists.specs.Kept.{kept}
use Rattle.alone_server.specs.declared.periods.OwnPeriod.{OwnPeriod}
use Rattle.alone_server.specs.Periods.{Holds}
use Rattle.alone_server.specs.Stands.{terms_of}
use Rattle.alone_server.proofs.Feeding.{holds_none}
use Rattle.alone_server.proofs.server.AloneServer.new.Goals as goal

pub returns : goal.returns
returns c =
    let h = c.args.header.now in
    record {
      serves = record {
        own = tt;
        config = c.requires.config;
        move_bits = refl;
        kinds = refl;
        client = refl;
        course = subst (λ (z : List Kind × List (List ℕ)). SeatStandsFor c.in_ok-seat.seat (record { config = (terms_of h).config; kinds = z.0; blocks = z.1 }) beginning)
            (λ j. (c.match_kinds.ensures j, c.as_slice.ensures j)) c.in_ok-seat.ensures.stands;
        keeps = c.in_ok-seat.ensures.keeps_all;
        periods = subst (λ (ps : List OwnPeriod). Holds (record { shows = 0; periods = ps }) (kept (terms_of h) [])) (sym c.new-2.ensures.items) (holds_none (terms_of h));
      };
      counted = refl;
    }
