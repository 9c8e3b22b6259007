-- What an inbox took is a front of what left the outbox; and lists that grow by one piece after another.
use Rattle.std.proofs.Common.{◌≡◌, ◌∙◌, ℕ, List, [], ◌∷◌, ◌++◌, refl, sym, ap, append_assoc, append-nil}
use Rattle.tn_types.specs.Prefix.{IsPrefixOf}
use Rattle.messages.specs.OutboxStands.{OutboxState, OutboxEvent}
use Rattle.messages.specs.InboxState.{InboxState}
use Rattle.messages.specs.InboxStands.{InboxEvent}
use Rattle.messages.specs.Laws.{AreJoined}
use Rattle.messages.proofs.InOrder.{handed-front, whole-front, all-whole}
use Rattle.stream_manager.specs.End.{EndEvent}
use Rattle.tribes_channel.specs.Channel.{after_each}
use Rattle.pair_laws.specs.Laws.{posted_at}
use Rattle.pair_laws.specs.Acknowledged.{WereDelivered}
use Rattle.message_laws.specs.Laws.{AreInStep, AreInOrder, Arrive}

prefix-of-prefix : {A : Type 0} (xs ys zs : List A) → IsPrefixOf xs ys → IsPrefixOf ys zs → IsPrefixOf xs zs
prefix-of-prefix xs ys zs a b = (a.0 ++ b.0, sym (append_assoc xs a.0 b.0) ∙ ap (λ l. l ++ b.0) a.1 ∙ b.1)

prefix-to : {A : Type 0} (xs ys zs : List A) → ys ≡ zs → IsPrefixOf xs ys → IsPrefixOf xs zs
prefix-to xs ys zs e p = (p.0, p.1 ∙ e)

pub arrive : (sender : List EndEvent) (delivered : List (List ℕ)) → IsPrefixOf delivered (posted_at sender) → WereDelivered sender delivered → Arrive sender delivered
arrive sender delivered front acked o out b came s =
    let joined : AreJoined o out b came = record {
      outbox = s.outbox;
      inbox = s.inbox;
      front = prefix-to _ (posted_at sender) _ (sym s.left) (prefix-of-prefix _ delivered (posted_at sender) s.taken front);
    } in
    record {
      front = handed-front o out b came joined;
      whole = whole-front o out b came joined;
      all = all-whole o out b came joined;
      told = λ a. all-whole o out b came joined (record { none_held = a.none_held; all_came = a.taken ∙ acked.all a.acknowledged ∙ sym s.left });
    }

-- a list of what happened that has one piece more for each event
pub grows : {E : Type 0} (event : List ℕ → E) (of : List E → List (List ℕ)) → ((p : List ℕ) (log : List E) → of (event p ∷ log) ≡ of log ++ p ∷ [])
    → (pieces : List (List ℕ)) (log : List E) → of (after_each event pieces log) ≡ of log ++ pieces
grows event of one [] log = sym (append-nil (of log))
grows event of one (p ∷ ps) log =
    grows event of one ps (event p ∷ log) ∙ ap (λ l. l ++ ps) (one p log) ∙ append_assoc (of log) (p ∷ []) ps

-- and one that these events leave
pub stays : {E R : Type 0} (event : List ℕ → E) (of : List E → R) → ((p : List ℕ) (log : List E) → of (event p ∷ log) ≡ of log)
    → (pieces : List (List ℕ)) (log : List E) → of (after_each event pieces log) ≡ of log
stays event of one [] log = refl
stays event of one (p ∷ ps) log = stays event of one ps (event p ∷ log) ∙ one p log
