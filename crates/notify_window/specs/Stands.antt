-- The tie between a window and what it saw. Each call of the window says which events it adds to the log
-- that the window stood for, so a caller knows the window by the log alone.
use Rattle.std.specs.Prelude.{◌≡◌, ◌+◌, List}
use Rattle.notify_window.specs.State.{WindowState, IsBounded}
use Rattle.notify_window.specs.Log.{WindowEvent, sent_of, judged_of, horizon_of, mask_of}

pub record StandsFor (w : WindowState) (log : List WindowEvent) : Type 0 where
  pub bounded : IsBounded w
  pub sent : w.sent ≡ sent_of log
  pub judged : w.first_unjudged ≡ judged_of log + 1
  pub horizon : w.horizon ≡ horizon_of log
  pub mask : w.mask ≡ mask_of log
