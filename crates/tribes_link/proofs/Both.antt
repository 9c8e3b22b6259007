-- What a call ends a channel with, behind both handles.
use Rattle.std.proofs.Common.{◌≡◌, ◌∙◌, ℕ, ◌≤◌, Option, Some}
use Rattle.std.specs.Prelude.{ℤ, pos}
use Rattle.tribes_channel.specs.Channel.{ChannelState, Turns}
use Rattle.tribes_ends.specs.declared.link.Side.{Side}
use Rattle.tribes_link.specs.Channels.{BehindBoth, EndsWith}

pub ended_behind : (code raw : ℤ) (room : ℕ) (k : ChannelState) (s : Side) (k' : ChannelState) (s' : Side)
    → (k.inbox.room ≤ room → (code ≡ pos 0 → ⊥) → (code ≡ pos 1 → ⊥) → (code ≡ pos 2 → ⊥) → Turns (EndsWith code) k s k' s')
    → (held : Option Side) (channel : Option ChannelState) (new : Option Side) (channel' : Option ChannelState)
    → held ≡ Some s → channel ≡ Some k → new ≡ Some s' → channel' ≡ Some k' → raw ≡ code
    → (raw ≡ pos 0 → ⊥) → (raw ≡ pos 1 → ⊥) → (raw ≡ pos 2 → ⊥)
    → BehindBoth (λ old c new c'. c.inbox.room ≤ room → Turns (EndsWith raw) c old c' new) held channel new channel'
ended_behind code raw room k s k' s' f held channel new channel' e1 e2 e3 e4 e5 n0 n1 n2 =
    rw (e1, e2, e3, e4, e5) (λ r. f r (λ e. n0 (e5 ∙ e)) (λ e. n1 (e5 ∙ e)) (λ e. n2 (e5 ∙ e)))
