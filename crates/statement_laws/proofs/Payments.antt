-- A parser whose value costs no more than the tokens that it takes, at any prices.
use Rattle.std.proofs.Common.{◌≡◌, ◌≤◌, ℕ, zero, suc, ◌+◌, Bool, true, false, cond, List, [], ◌∷◌, length, Ok, Err, refl, ap, sym, arith, rules}
use Rattle.std.specs.Prelude.{IfOk}
use denote.Enum.Bare.{same_true}
use Rattle.sql_reader.specs.contracts.symbols.Symbol.{the_type}
use Rattle.sql_reader.specs.declared.symbols.Symbol.{Symbol}
use Rattle.sql_reader.specs.declared.tokens.Token.{Token}
use Rattle.sql_reader.specs.declared.tokens.Token.TheVariants as token
use Rattle.sql_reader.specs.Parsing.{Outcome, Parser, and_then, ◌>>=◌, ◌>>◌, pure, is_symbol, same_symbol, sees, past, eat, expect, unexpected, more, repeated}

-- what all items cost together
abbrev pub total : {A : Type 0} → (A → ℕ) → List A → ℕ
total price [] = 0
total price (x ∷ xs) = price x + total price xs

-- the value found and the tokens left cost at most so much
abbrev pub Within : {A : Type 0} → (Token → ℕ) → (A → ℕ) → ℕ → Outcome A → Type 0
Within paid price most outcome = IfOk outcome (λ found. price found.0 + total paid found.1 ≤ most)

-- what is in hand and what is paid for the tokens that it takes is enough for its value
pub record Pays {A : Type 0} (paid : Token → ℕ) (hand : ℕ) (price : A → ℕ) (p : Parser A) : Type 0 where
  pub pays : (ts : List Token) → Within paid price (hand + total paid ts) (p ts)

-- a higher bound
pub within-more : {A : Type 0} (paid : Token → ℕ) (price : A → ℕ) (less most : ℕ) (o : Outcome A) → less ≤ most → Within paid price less o → Within paid price most o
within-more paid price less most (Ok found) few is = omega (arith, few, is)
within-more paid price less most (Err refusal) few is = tt

pub weaken : {A : Type 0} {paid : Token → ℕ} {less hand : ℕ} {price : A → ℕ} {p : Parser A} → less ≤ hand → Pays paid less price p → Pays paid hand price p
weaken {paid = paid} {less = less} {hand = hand} {price = price} {p = p} few is = record { pays = λ ts. within-more paid price (less + total paid ts) (hand + total paid ts) (p ts) (omega (arith, few)) (is.pays ts) }

-- ---- one after another

and_then-within : {A B : Type 0} (paid : Token → ℕ) (hand most : ℕ) (w : A → ℕ) (v : B → ℕ) (o : Outcome A) (f : A → Parser B)
    → Within paid w (0 + most) o → ((x : A) → Pays paid (hand + w x) v (f x)) → Within paid v (hand + most) (and_then o f)
and_then-within paid hand most w v (Ok found) f here later =
    within-more paid v (hand + w found.0 + total paid found.1) (hand + most) (f found.0 found.1) (omega (arith, here)) ((later found.0).pays found.1)
and_then-within paid hand most w v (Err refusal) f here later = tt

pub bind : {A B : Type 0} {paid : Token → ℕ} {hand : ℕ} {w : A → ℕ} {v : B → ℕ} {p : Parser A} {f : A → Parser B}
    → Pays paid 0 w p → ((x : A) → Pays paid (hand + w x) v (f x)) → Pays paid hand v (p >>= f)
bind {paid = paid} {hand = hand} {w = w} {v = v} {p = p} {f = f} first later = record { pays = λ ts. and_then-within paid hand (total paid ts) w v (p ts) f (first.pays ts) later }

pub done : {A : Type 0} {paid : Token → ℕ} {hand : ℕ} {price : A → ℕ} (x : A) → price x ≤ hand → Pays paid hand price (pure x)
done x few = record { pays = λ ts. omega (arith, few) }

-- ---- symbols

-- only the symbol itself passes for it
exact : (s : Symbol) (t : Token) → is_symbol s t ≡ true → t ≡ token.Symbol s
unfolding same_symbol
exact s (token.Symbol found) is = let same : found ≡ s = same_true the_type (search rules) _ _ is in ap token.Symbol same
exact s t is = cc

-- a symbol that is seen is the token that is taken
past-total : (paid : Token → ℕ) (s : Symbol) (ts : List Token) → cond (sees s ts) (paid (token.Symbol s)) 0 + total paid (past s ts) ≡ total paid ts
unfolding sees past
past-total paid s [] = refl
past-total paid s (t ∷ ts) = by_test (is_symbol s t) refl
  where
    by_test : (b : Bool) → is_symbol s t ≡ b → cond b (paid (token.Symbol s)) 0 + total paid (cond b ts (t ∷ ts)) ≡ total paid (t ∷ ts)
    by_test true is = ap (λ u. paid u + total paid ts) (sym (exact s t is))
    by_test false is = omega arith

pub eat-pays : {paid : Token → ℕ} (s : Symbol) → Pays paid 0 (λ b. cond b (paid (token.Symbol s)) 0) (eat s)
eat-pays {paid = paid} s = record { pays = λ ts. omega (arith, past-total paid s ts) }

expected : (paid : Token → ℕ) (s : Symbol) (ts : List Token) (b : Bool) → cond b (paid (token.Symbol s)) 0 + total paid (past s ts) ≡ total paid ts
    → Within {A = Unit {0}} paid (λ _. paid (token.Symbol s)) (0 + total paid ts) (cond b (Ok (tt, past s ts)) (unexpected ts))
expected paid s ts true all = omega (arith, all)
expected paid s ts false all = tt

pub expect-pays : {paid : Token → ℕ} (s : Symbol) → Pays paid 0 (λ _. paid (token.Symbol s)) (expect s)
unfolding expect
expect-pays {paid = paid} s = record { pays = λ ts. expected paid s ts (sees s ts) (past-total paid s ts) }

pub behind_symbol : {A : Type 0} {paid : Token → ℕ} {hand : ℕ} {price : A → ℕ} {p : Parser A} (s : Symbol) → Pays paid (hand + paid (token.Symbol s)) price p → Pays paid hand price (expect s >> p)
behind_symbol s is = bind (expect-pays s) (λ _. is)

-- whether a symbol was found tells which of two parsers goes on
pub choice : {A : Type 0} {paid : Token → ℕ} {hand : ℕ} {price : A → ℕ} {p q : Parser A} (s : Symbol) (b : Bool)
    → Pays paid (hand + paid (token.Symbol s)) price p → Pays paid hand price q → Pays paid (hand + cond b (paid (token.Symbol s)) 0) price (cond b p q)
choice s true first second = first
choice s false first second = weaken (omega arith) second

-- ---- repetitions

-- each turn pays for what it joins
more-pays : {A B : Type 0} {paid : Token → ℕ} {w : A → ℕ} {v : B → ℕ} {item : Parser A} (join : B → A → B) (s : Symbol) → Pays paid 0 w item
    → ((b : B) (x : A) → v (join b x) ≤ v b + paid (token.Symbol s) + w x) → (n : ℕ) (b : B) → Pays paid (v b) v (more s item join n b)
unfolding more
more-pays join s is joined zero b = done b (omega arith)
more-pays join s is joined (suc n) b = bind (eat-pays s) (λ goes_on. choice s goes_on (bind is (λ x. weaken (joined b x) (more-pays join s is joined n (join b x)))) (done b (omega arith)))

pub repeated-pays : {A B : Type 0} {paid : Token → ℕ} {w : A → ℕ} {v : B → ℕ} {item : Parser A} (first : A → B) (join : B → A → B) (s : Symbol) → Pays paid 0 w item
    → ((x : A) → v (first x) ≤ w x) → ((b : B) (x : A) → v (join b x) ≤ v b + paid (token.Symbol s) + w x) → Pays paid 0 v (repeated s item first join)
repeated-pays {w = w} first join s is begins joined =
    bind is (λ x. record { pays = λ ts. (weaken {hand = 0 + w x} (let few = begins x in omega (arith, few)) (more-pays join s is joined (length ts) (first x))).pays ts })
