-- The faults of each form of words that stands behind a name, and what it makes.
use Rattle.std.proofs.Common.{◌≡◌, ℕ, zero, suc, ◌+◌, ◌-◌, ◌^◌, ◌<◌, ◌≤◌, List, [], ◌∷◌, ◌++◌, length, take, Option, Some, None, Result, Ok, Err, arith, refl, sym, ap, ◌∙◌, subst}
use Rattle.std.specs.Fmt.{decimal}
use Rattle.std.specs.Prelude.{codes}
use Rattle.tn_types.specs.declared.limits.TheConstants.{MAX_CLIENTS}
use Rattle.match_script.specs.declared.limits.TheConstants.{MAX_BODY_LINES}
use Rattle.net_rules.specs.declared.limits.TheConstants.{MAX_TURNS}
use Rattle.commands.specs.declared.command.Command.{Command}
use Rattle.commands.specs.declared.command.Command.TheVariants.{Run, Alone, Big, Threads, Predict, Demo, Replay, ReplayAt, Relay, Serve, Join}
use Rattle.commands.specs.declared.grammar.Made.{Made}
use Rattle.commands.specs.Said.{number_said}
use Rattle.commands.specs.Grammar.{end_with, further, after, number_then, one_number, made_with, made_of, made_as, of_replay}
use Rattle.match_script.proofs.Printing.{number_from_decimal}
use Rattle.commands.proofs.Numbers.{told}
use Rattle.commands.proofs.Faults.{Stops, Faults, further_ok, as_ok, as_err, end_faults, number_faults, as_faults}

-- ---- one number

pub one_faults : (least most : ℕ) → least ≤ most → most < 2 ^ 64 → Faults (one_number least most)
one_faults least most le small = number_faults least most (λ n. end_with n) le small (λ n. end_faults n) (least, [], refl)

pub record IsOne (least most : ℕ) (words : List (List ℕ)) (n : ℕ) : Type 0 where
  pub low : least ≤ n
  pub high : n ≤ most
  pub are : words ≡ decimal n ∷ []

-- a number that is said, and words behind it
pub record IsThen (least most : ℕ) (words : List (List ℕ)) (n : ℕ) (more : List (List ℕ)) : Type 0 where
  pub low : least ≤ n
  pub high : n ≤ most
  pub are : words ≡ decimal n ∷ more

pub then_is : {A : Type 0} (least most : ℕ) (rest : ℕ → List (List ℕ) → Result A ℕ) (words : List (List ℕ)) (a : A) → most < 2 ^ 64
    → number_then least most rest words ≡ Ok a → (n : ℕ) × (more : List (List ℕ)) × IsThen least most words n more × (rest n more ≡ Ok a)
then_is {A} least most rest [] a small e = absurd cc
then_is {A} least most rest (w ∷ ws) a small e = by_number (number_said least most w) refl
  where
    by_number : (o : Option ℕ) → number_said least most w ≡ o → (n : ℕ) × (more : List (List ℕ)) × IsThen least most (w ∷ ws) n more × (rest n more ≡ Ok a)
    by_number None q = absurd (let r = rw q at e in cc)
    by_number (Some n) q =
        let t = told least most w n small q in
        let r = rw q at e in
        (n, ws, record { low = t.low; high = t.high; are = ap (λ (x : List ℕ). x ∷ ws) t.written }, further_ok (rest n ws) a r)

pub end_is : {A : Type 0} (a b : A) (words : List (List ℕ)) → end_with a words ≡ Ok b → (words ≡ []) × (a ≡ b)
end_is a b [] e = let is : a ≡ b = cc in (refl, is)
end_is a b (w ∷ ws) e = absurd cc

pub one_is : (least most : ℕ) (words : List (List ℕ)) (n : ℕ) → most < 2 ^ 64 → one_number least most words ≡ Ok n → IsOne least most words n
one_is least most words n small e =
    let t = then_is least most (λ m. end_with m) words n small e in
    let l = end_is t.0 n t.1 t.3 in
    let P : ℕ → Type 0 = λ m. IsOne least most words m in
    subst P l.1 (record { low = t.2.low; high = t.2.high; are = t.2.are ∙ ap (λ (more : List (List ℕ)). decimal t.0 ∷ more) l.0 })

-- ---- a match that is made

pub made_faults : (most : ℕ) → 1 ≤ most → most < 2 ^ 64 → Faults (made_of most)
made_faults most le small =
    number_faults 0 4294967295 (λ seed. number_then 1 16 (λ clients. number_then 1 most (λ count. end_with (made_with seed clients count)))) (omega arith) (omega arith)
    (λ seed. of_clients seed) (made_with 0 1 1, decimal 1 ∷ decimal 1 ∷ [], all)
  where
    of_count : (seed clients : ℕ) → Faults (number_then 1 most (λ count. end_with (made_with seed clients count)))
    of_count seed clients = number_faults 1 most (λ count. end_with (made_with seed clients count)) le small (λ count. end_faults (made_with seed clients count)) (made_with seed clients 1, [], refl)

    one : (seed : ℕ) → number_then 1 most (λ count. end_with (made_with seed 1 count)) (decimal 1 ∷ []) ≡ Ok (made_with seed 1 1)
    one seed = rw (number_from_decimal 1 most 1 (omega arith) le small) refl

    of_clients : (seed : ℕ) → Faults (number_then 1 16 (λ clients. number_then 1 most (λ count. end_with (made_with seed clients count))))
    of_clients seed = number_faults 1 16 (λ clients. number_then 1 most (λ count. end_with (made_with seed clients count))) (omega arith) (omega arith)
        (λ clients. of_count seed clients) (made_with seed 1 1, decimal 1 ∷ [], one seed)

    all : number_then 1 16 (λ clients. number_then 1 most (λ count. end_with (made_with 0 clients count))) (decimal 1 ∷ decimal 1 ∷ []) ≡ Ok (made_with 0 1 1)
    all = rw (number_from_decimal 1 16 1 (omega arith) (omega arith) (omega arith), number_from_decimal 1 most 1 (omega arith) le small) refl

pub record IsMade (most : ℕ) (words : List (List ℕ)) (m : Made) : Type 0 where
  pub seed : m.seed ≤ 4294967295
  pub clients_least : 1 ≤ m.clients
  pub clients : m.clients ≤ 16
  pub count_least : 1 ≤ m.count
  pub count : m.count ≤ most
  pub are : words ≡ decimal m.seed ∷ decimal m.clients ∷ decimal m.count ∷ []

-- words of which each stands in front of the others
in_line : (words a b d : List (List ℕ)) (x y z : List ℕ) → words ≡ x ∷ a → a ≡ y ∷ b → b ≡ z ∷ d → d ≡ [] → words ≡ x ∷ y ∷ z ∷ []
in_line words a b d x y z e f g h =
    e ∙ ap (λ (more : List (List ℕ)). x ∷ more) (f ∙ ap (λ (more : List (List ℕ)). y ∷ more) (g ∙ ap (λ (more : List (List ℕ)). z ∷ more) h))

pub made_is : (most : ℕ) (words : List (List ℕ)) (m : Made) → most < 2 ^ 64 → made_of most words ≡ Ok m → IsMade most words m
made_is most words m small e =
    let s = then_is 0 4294967295 (λ seed. number_then 1 16 (λ clients. number_then 1 most (λ count. end_with (made_with seed clients count)))) words m (omega arith) e in
    let c = then_is 1 16 (λ clients. number_then 1 most (λ count. end_with (made_with s.0 clients count))) s.1 m (omega arith) s.3 in
    let k = then_is 1 most (λ count. end_with (made_with s.0 c.0 count)) c.1 m small c.3 in
    let l = end_is (made_with s.0 c.0 k.0) m k.1 k.3 in
    let P : Made → Type 0 = λ x. IsMade most words x in
    subst P l.1 (record {
      seed = s.2.high;
      clients_least = c.2.low;
      clients = c.2.high;
      count_least = k.2.low;
      count = k.2.high;
      are = in_line words s.1 c.1 k.1 (decimal s.0) (decimal c.0) (decimal k.0) s.2.are c.2.are k.2.are l.0;
    })

-- ---- all of a demo, or some records

pub replay_faults : Faults of_replay
replay_faults [] place e = absurd cc
replay_faults (w ∷ ws) place e = first place (as_faults ReplayAt (one_number 0 16777215) (one_faults 0 16777215 (omega arith) (omega arith)) (w ∷ ws) place e)
  where
    first : (k : ℕ) → Stops (λ words. made_as ReplayAt (one_number 0 16777215 words)) (w ∷ ws) k → Stops of_replay (w ∷ ws) k
    first zero s = record { within = s.within; begun = (Replay, [], refl); stops = s.stops }
    first (suc k) s = record { within = s.within; begun = s.begun; stops = s.stops }
