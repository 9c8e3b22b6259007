-- What a window shows of its fields: their numbers.
use Rattle.notify_window.specs.State.{WindowState}
use Rattle.notify_window.specs.declared.window.Window.TheInside.{Inside}

abbrev pub state_of : Inside → WindowState
state_of w = record { sent = w.sent; first_unjudged = w.first_unjudged; horizon = w.horizon; mask = w.mask; life = w.life }
