-- Delivered guaranteed events are the first ones that were posted, both ways, and accepted moves the first ones that were
-- sampled.
use Rattle.std.proofs.Common.{List}
use Rattle.move_manager.proofs.InOrder.{front_is_prefix}
use Rattle.conn_packing.specs.stream_manager.Limits.{Terms, AreTerms}
use Rattle.conn_packing.specs.stream_manager.End.{came_of}
use Rattle.conn_packing.specs.stream_manager.Server.{server_end}
use Rattle.conn_packing.specs.stream_manager.Client.{client_end}
use Rattle.pair_core.specs.History.{PairStep, history}
use Rattle.pair_core.specs.Answers.{accepted_in, sampled_in}
use Rattle.pair_laws.specs.Laws.{posted_at, DeliversDown, DeliversUp, AcceptsInOrder}
use Rattle.pair_laws.proofs.Good.{AreGood}
use Rattle.pair_laws.proofs.Carried.{carried}
use Rattle.pair_laws.proofs.Posted.{delivered-prefix}

pub delivers_down : (t : Terms) (steps : List PairStep) → AreTerms t → AreGood t steps → DeliversDown t steps
delivers_down t steps limits fit = delivered-prefix (posted_at (server_end (history t steps).server)) (came_of (client_end (history t steps).client)) (carried t limits steps fit).came_down

pub delivers_up : (t : Terms) (steps : List PairStep) → AreTerms t → AreGood t steps → DeliversUp t steps
delivers_up t steps limits fit = delivered-prefix (posted_at (client_end (history t steps).client)) (came_of (server_end (history t steps).server)) (carried t limits steps fit).came_up

pub accepts : (t : Terms) (steps : List PairStep) → AreTerms t → AreGood t steps → AcceptsInOrder t steps
accepts t steps limits fit = front_is_prefix (accepted_in t steps) (sampled_in t steps) (carried t limits steps fit).moves.front
