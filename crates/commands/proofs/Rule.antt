-- The table keeps the rule of the command line.
use Rattle.std.proofs.Common.{◌≡◌, ◌⊎◌, inl, inr, ℕ, suc, ◌+◌, ◌^◌, ◌<◌, ◌≤◌, Bool, true, false, List, [], ◌∷◌, ◌++◌, length, take, arith, refl, sym, ap, subst, ◌∙◌}
use Rattle.std.specs.Prelude.{Result, Ok, Err, IfOk, codes}
use Rattle.std.specs.Fmt.{decimal}
use Rattle.std.specs.Str.{bytes_eq}
use Rattle.std.proofs.lemmas.Slice.Eq.{bytes_eq-Decides}
use Rattle.match_script.proofs.Printing.{number_from_decimal}
use Rattle.commands.specs.declared.command.Command.{Command}
use Rattle.commands.specs.declared.command.Command.TheVariants.{Run, Alone, Big, Threads, Predict, Demo, Replay, ReplayAt, Relay, Serve, Join}
use Rattle.commands.specs.declared.grammar.Made.{Made}
use Rattle.commands.specs.Rule.{MadeFits, CommandFits, spelling, BeginsCommand, IsUsage, Says}
use Rattle.commands.specs.Grammar.{Entry, entry, entries, read, command_of, end_with, further, made_with, one_number, made_of, made_as, of_client, big, serve, of_replay}
use Rattle.commands.proofs.Faults.{Stops, Faults, further_ok, further_err, as_ok, end_faults, as_faults}
use Rattle.commands.proofs.Forms.{one_faults, made_faults, replay_faults, one_is, made_is, end_is}

-- ---- faults

abbrev EachFaults : List Entry → Type 0
EachFaults [] = Unit {0}
EachFaults (e ∷ table) = Faults e.words_after × EachFaults table

of_client_faults : (make : ℕ → Command) → Faults (of_client make)
of_client_faults make = as_faults make (one_number 0 15) (one_faults 0 15 (omega arith) (omega arith))

each_faults : EachFaults entries
each_faults = (
  end_faults Run,
  (
    of_client_faults Alone,
    (
      as_faults big (made_of 100000) (made_faults 100000 (omega arith) (omega arith)),
      (
        end_faults Threads,
        (
          of_client_faults Predict,
          (
            of_client_faults Demo,
            (
              replay_faults,
              (
                end_faults Relay,
                (
                  as_faults serve (made_of 100000) (made_faults 100000 (omega arith) (omega arith)),
                  (as_faults Join (one_number 1 100000) (one_faults 1 100000 (omega arith) (omega arith)), tt),
                ),
              ),
            ),
          ),
        ),
      ),
    ),
  ),
)

-- a word is a name of a table, or none
abbrev IsNone : List Entry → List ℕ → Type 0
IsNone table name = (words : List (List ℕ)) → read table name words ≡ Err 0

pub record IsNamed (table : List Entry) (name : List ℕ) : Type 0 where
  pub words_after : List (List ℕ) → Result Command ℕ
  pub faults : Faults words_after
  pub is : (words : List (List ℕ)) → read table name words ≡ further (words_after words)

find : (table : List Entry) → EachFaults table → (name : List ℕ) → IsNone table name ⊎ IsNamed table name
find [] f name = inl (λ words. refl)
find (e ∷ table) f name = by_name (bytes_eq name e.name) refl (find table f.1 name)
  where
    by_name : (v : Bool) → bytes_eq name e.name ≡ v → IsNone table name ⊎ IsNamed table name → IsNone (e ∷ table) name ⊎ IsNamed (e ∷ table) name
    by_name true q rest = inr (record { words_after = e.words_after; faults = f.0; is = λ words. rw q refl })
    by_name false q rest = elim rest [
      | inl none ↦ inl (λ words. rw q (none words))
      | inr named ↦ inr (record { words_after = named.words_after; faults = named.faults; is = λ words. rw q (named.is words) })
    ]

none_named : (name : List ℕ) (words : List (List ℕ)) → IsNone entries name → Stops command_of (name ∷ words) 0
none_named name words none = record {
  within = omega arith;
  begun = (Run, codes "run" ∷ [], refl);
  stops = λ lt c more q. (let no : Err 0 ≡ Ok c = sym (none more) ∙ q in cc no);
}

one_named : (name : List ℕ) (words : List (List ℕ)) (named : IsNamed entries name) (k : ℕ) → Stops named.words_after words k → Stops command_of (name ∷ words) (suc k)
one_named name words named k s = record {
  within = omega (arith, s.within);
  begun = (s.begun.0, s.begun.1, named.is (take k words ++ s.begun.1) ∙ ap further s.begun.2);
  stops = λ lt c more q. s.stops (omega (arith, lt)) c more (further_ok (named.words_after (take (suc k) words ++ more)) c (sym (named.is (take (suc k) words ++ more)) ∙ q));
}

command_faults : Faults command_of
command_faults [] place e =
    let is : 0 ≡ place = cc in
    subst (λ (k : ℕ). Stops command_of [] k) is (record { within = omega arith; begun = (Run, codes "run" ∷ [], refl); stops = λ lt. absurd (omega (arith, lt)) })
command_faults (name ∷ words) place e = elim (find entries each_faults name) [
  | inl none ↦ (
      let no : Err 0 ≡ Err place = sym (none words) ∙ e in
      let is : 0 ≡ place = cc in
      subst (λ (k : ℕ). Stops command_of (name ∷ words) k) is (none_named name words none)
      )
  | inr named ↦ (
      let f = further_err (named.words_after words) place (sym (named.is words) ∙ e) in
      subst (λ (k : ℕ). Stops command_of (name ∷ words) k) f.2 (one_named name words named f.0 (named.faults words f.0 f.1))
      )
]

-- ---- what words are that make a command

abbrev IsSpelled : List (List ℕ) → Command → Type 0
IsSpelled words c = CommandFits c × (words ≡ spelling c)

abbrev EachSpelled : List Entry → Type 0
EachSpelled [] = Unit {0}
EachSpelled (e ∷ table) = ((words : List (List ℕ)) (c : Command) → e.words_after words ≡ Ok c → IsSpelled (e.name ∷ words) c) × EachSpelled table

end_spelled : (name : List ℕ) (d : Command) → CommandFits d → spelling d ≡ name ∷ [] → (words : List (List ℕ)) (c : Command) → end_with d words ≡ Ok c → IsSpelled (name ∷ words) c
end_spelled name d fits is words c e =
    let l = end_is d c words e in
    subst (λ (x : Command). IsSpelled (name ∷ words) x) l.1 (fits, ap (λ (more : List (List ℕ)). name ∷ more) l.0 ∙ sym is)

client_spelled : (name : List ℕ) (make : ℕ → Command) → ((n : ℕ) → n < 16 → CommandFits (make n)) → ((n : ℕ) → spelling (make n) ≡ name ∷ decimal n ∷ [])
    → (words : List (List ℕ)) (c : Command) → of_client make words ≡ Ok c → IsSpelled (name ∷ words) c
client_spelled name make fits is words c e =
    let m = as_ok make (one_number 0 15 words) c e in
    let o = one_is 0 15 words m.0 (omega arith) m.1 in
    subst (λ (x : Command). IsSpelled (name ∷ words) x) m.2 (fits m.0 (omega (arith, o.high)), ap (λ (more : List (List ℕ)). name ∷ more) o.are ∙ sym (is m.0))

big_spelled : (words : List (List ℕ)) (c : Command) → made_as big (made_of 100000 words) ≡ Ok c → IsSpelled (codes "big" ∷ words) c
big_spelled words c e =
    let m = as_ok big (made_of 100000 words) c e in
    let o = made_is 100000 words m.0 (omega arith) m.1 in
    subst (λ (x : Command). IsSpelled (codes "big" ∷ words) x) m.2
    ((omega (arith, o.seed), o.clients_least, o.clients, o.count_least, o.count), ap (λ (more : List (List ℕ)). codes "big" ∷ more) o.are)

serve_spelled : (words : List (List ℕ)) (c : Command) → made_as serve (made_of 100000 words) ≡ Ok c → IsSpelled (codes "serve" ∷ words) c
serve_spelled words c e =
    let m = as_ok serve (made_of 100000 words) c e in
    let o = made_is 100000 words m.0 (omega arith) m.1 in
    subst (λ (x : Command). IsSpelled (codes "serve" ∷ words) x) m.2
    ((omega (arith, o.seed), o.clients_least, o.clients, o.count_least, o.count), ap (λ (more : List (List ℕ)). codes "serve" ∷ more) o.are)

join_spelled : (words : List (List ℕ)) (c : Command) → made_as Join (one_number 1 100000 words) ≡ Ok c → IsSpelled (codes "join" ∷ words) c
join_spelled words c e =
    let m = as_ok Join (one_number 1 100000 words) c e in
    let o = one_is 1 100000 words m.0 (omega arith) m.1 in
    subst (λ (x : Command). IsSpelled (codes "join" ∷ words) x) m.2 ((o.low, o.high), ap (λ (more : List (List ℕ)). codes "join" ∷ more) o.are)

replay_spelled : (words : List (List ℕ)) (c : Command) → of_replay words ≡ Ok c → IsSpelled (codes "replay" ∷ words) c
replay_spelled [] c e = let is : Replay ≡ c = cc in subst (λ (x : Command). IsSpelled (codes "replay" ∷ []) x) is (tt, refl)
replay_spelled (w ∷ ws) c e =
    let m = as_ok ReplayAt (one_number 0 16777215 (w ∷ ws)) c e in
    let o = one_is 0 16777215 (w ∷ ws) m.0 (omega arith) m.1 in
    subst (λ (x : Command). IsSpelled (codes "replay" ∷ w ∷ ws) x) m.2 (o.high, ap (λ (more : List (List ℕ)). codes "replay" ∷ more) o.are)

each_spelled : EachSpelled entries
each_spelled = (
  end_spelled (codes "run") Run tt refl,
  (
    client_spelled (codes "alone") Alone (λ n lt. lt) (λ n. refl),
    (
      big_spelled,
      (
        end_spelled (codes "threads") Threads tt refl,
        (
          client_spelled (codes "predict") Predict (λ n lt. lt) (λ n. refl),
          (
            client_spelled (codes "demo") Demo (λ n lt. lt) (λ n. refl),
            (
              replay_spelled,
              (
                end_spelled (codes "relay") Relay tt refl,
                (
                  serve_spelled,
                  (join_spelled, tt),
                ),
              ),
            ),
          ),
        ),
      ),
    ),
  ),
)

read_spelled : (table : List Entry) → EachSpelled table → (name : List ℕ) (words : List (List ℕ)) (c : Command) → read table name words ≡ Ok c → IsSpelled (name ∷ words) c
read_spelled [] s name words c e = absurd cc
read_spelled (en ∷ table) s name words c e = by_name (bytes_eq name en.name) refl (read_spelled table s.1 name words c)
  where
    by_name : (v : Bool) → bytes_eq name en.name ≡ v → (read table name words ≡ Ok c → IsSpelled (name ∷ words) c) → IsSpelled (name ∷ words) c
    by_name true q rest =
        let is : name ≡ en.name = (bytes_eq-Decides name en.name).0 q in
        let r = rw q at e in
        subst (λ (x : List ℕ). IsSpelled (x ∷ words) c) (sym is) (s.0 words c (further_ok (en.words_after words) c r))
    by_name false q rest = let r = rw q at e in rest r

pub spelled : (words : List (List ℕ)) (c : Command) → command_of words ≡ Ok c → IsSpelled words c
spelled [] c e = absurd cc
spelled (name ∷ words) c e = read_spelled entries each_spelled name words c e

-- ---- a command's spelling makes it

of_made : (most seed clients count : ℕ) → most < 2 ^ 64 → MadeFits most seed clients count → made_of most (decimal seed ∷ decimal clients ∷ decimal count ∷ []) ≡ Ok (made_with seed clients count)
of_made most seed clients count small f =
    rw (number_from_decimal 0 4294967295 seed (omega arith) (omega arith) (omega arith), number_from_decimal 1 16 clients (omega arith) (omega arith) (omega arith), number_from_decimal 1 most count (omega arith) (omega arith) small) refl

of_one : (least most n : ℕ) → least ≤ n → n ≤ most → most < 2 ^ 64 → one_number least most (decimal n ∷ []) ≡ Ok n
of_one least most n low high small = rw (number_from_decimal least most n low high small) refl

pub made_again : (c : Command) → CommandFits c → command_of (spelling c) ≡ Ok c
made_again Run f = refl
made_again (Alone n) f = ap (λ (r : Result ℕ ℕ). further (made_as Alone r)) (of_one 0 15 n (omega arith) (omega arith) (omega arith))
made_again (Big a b d) f = ap (λ (r : Result Made ℕ). further (made_as big r)) (of_made 100000 a b d (omega arith) f)
made_again Threads f = refl
made_again (Predict n) f = ap (λ (r : Result ℕ ℕ). further (made_as Predict r)) (of_one 0 15 n (omega arith) (omega arith) (omega arith))
made_again (Demo n) f = ap (λ (r : Result ℕ ℕ). further (made_as Demo r)) (of_one 0 15 n (omega arith) (omega arith) (omega arith))
made_again Replay f = refl
made_again (ReplayAt n) f = ap (λ (r : Result ℕ ℕ). further (made_as ReplayAt r)) (of_one 0 16777215 n (omega arith) f (omega arith))
made_again Relay f = refl
made_again (Serve a b d) f = ap (λ (r : Result Made ℕ). further (made_as serve r)) (of_made 100000 a b d (omega arith) f)
made_again (Join n) f = ap (λ (r : Result ℕ ℕ). further (made_as Join r)) (of_one 1 100000 n f.0 f.1 (omega arith))

-- ---- the rule

pub rule : (words : List (List ℕ)) → Says words (command_of words)
rule words = by_result (command_of words) refl
  where
    by_result : (r : Result Command ℕ) → command_of words ≡ r → Says words r
    by_result (Ok c) e = spelled words c e
    by_result (Err place) e =
        let s = command_faults words place e in record {
          none = λ c fits is. (let made = made_again c fits in let again : command_of words ≡ Ok c = subst (λ (ws : List (List ℕ)). command_of ws ≡ Ok c) (sym is) made in cc (e, again));
          within = s.within;
          begun = (
              let made = spelled (take place words ++ s.begun.1) s.begun.0 s.begun.2 in
              (s.begun.0, made.0, s.begun.1, sym made.1)
              );
          stops = λ lt b. s.stops lt b.0 b.2 (subst (λ (ws : List (List ℕ)). command_of ws ≡ Ok b.0) b.3 (made_again b.0 b.1));
        }

-- a command that words are has its numbers in their ranges
pub fits : (words : List (List ℕ)) (r : Result Command ℕ) → Says words r → IfOk r CommandFits
fits words (Ok c) s = s.0
fits words (Err place) s = tt
