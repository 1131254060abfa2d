-- Whose an open ticket is, and what it asks.
use Rattle.std.proofs.Common.{◌≡◌, ◌∙◌, ◌==◌, ℕ, zero, suc, Bool, true, false, Option, Some, None, Result, Ok, Err, refl, sym, ap, arith, true≢false}
use Rattle.std.specs.Prelude.{IfOk}
use Rattle.std.proofs.lemmas.Bool.Decides.{nat_tests}
use Rattle.seata_types.specs.declared.statements.Work.{Work}
use Rattle.local_txn.specs.OpenTickets.{Owner, OfCall, OfLocal, Open}
use Rattle.local_txn.specs.Answers.{open_of, owner_by}
use Rattle.local_txn.specs.declared.transactions.OpenTxn.{OpenTxn}
use Rattle.history_rules.specs.ResourceRules.{request_of}
use Rattle.resource_rules.specs.Owned.{call_by, local_by, of_call, of_local}

pub not_none : {A : Type 0} (x : ℕ) → (suc x == 0) ≡ true → A
not_none x e = let zero_is : suc x ≡ 0 = grind (arith, nat_tests) in absurd (omega (arith, zero_is))

not_zero : (x : ℕ) → (suc x == 0) ≡ false
not_zero x = by (suc x == 0) refl
  where
    by : (b : Bool) → (suc x == 0) ≡ b → (suc x == 0) ≡ false
    by true e = not_none x e
    by false e = e

-- a ticket of a transaction is of a call; one of none isn't
pub owner_is : (x m c : ℕ) (w : Work) → (x == 0) ≡ false → owner_by x m c w ≡ OfCall m x c w
owner_is zero m c w e = absurd (true≢false e)
owner_is (suc x) m c w e = refl

pub owner_none : (x m c : ℕ) (w : Work) → (x == 0) ≡ true → owner_by x m c w ≡ OfLocal c
owner_none zero m c w e = refl
owner_none (suc x) m c w e = not_none x e

-- ---- what is found under a ticket

is_one : (x m c : ℕ) (w : Work) (o : Open) → owner_by x m c w ≡ o.owner → (v : Owner) → o.owner ≡ v → Some o ≡ call_by o v → (x == 0) ≡ false
is_one zero m c w o e (OfCall n y d u) is found = let no : OfLocal c ≡ OfCall n y d u = e ∙ is in absurd cc
is_one (suc x) m c w o e (OfCall n y d u) is found = not_zero x
is_one x m c w o e (OfLocal n) is found = absurd cc

is_none_of : (x m c : ℕ) (w : Work) (o : Open) → owner_by x m c w ≡ o.owner → (v : Owner) → o.owner ≡ v → Some o ≡ local_by o v → (x == 0) ≡ true
is_none_of zero m c w o e (OfLocal n) is found = refl
is_none_of (suc x) m c w o e (OfLocal n) is found = let no : OfCall m (suc x) c w ≡ OfLocal n = e ∙ is in absurd cc
is_none_of x m c w o e (OfCall n y d u) is found = absurd cc

same_call : (p o : Open) (v : Owner) → Some p ≡ call_by o v → p ≡ o
same_call p o (OfCall n y d u) found = cc
same_call p o (OfLocal n) found = absurd cc

same_local : (p o : Open) (v : Owner) → Some p ≡ local_by o v → p ≡ o
same_local p o (OfLocal n) found = cc
same_local p o (OfCall n y d u) found = absurd cc

-- the code's ticket of a call is the open one, and has a transaction; that of a guarded local transaction has none
pub call_found : (txn : OpenTxn) (found : Option Open) → Some (open_of txn) ≡ of_call found → (found ≡ Some (open_of txn)) × ((txn.xid.0 == 0) ≡ false)
call_found txn None e = absurd cc
call_found txn (Some o) e =
    let same = same_call (open_of txn) o o.owner e in
    (ap Some (sym same), is_one txn.xid.0 txn.manager txn.call txn.work o (ap (λ (p : Open). p.owner) same) o.owner refl (ap Some (sym same) ∙ e))

pub local_found : (txn : OpenTxn) (found : Option Open) → Some (open_of txn) ≡ of_local found → (found ≡ Some (open_of txn)) × ((txn.xid.0 == 0) ≡ true)
local_found txn None e = absurd cc
local_found txn (Some o) e =
    let same = same_local (open_of txn) o o.owner e in
    (ap Some (sym same), is_none_of txn.xid.0 txn.manager txn.call txn.work o (ap (λ (p : Open). p.owner) same) o.owner refl (ap Some (sym same) ∙ e))

module _ (number : ℕ) (txn : OpenTxn) where
  -- what a ticket of no call asks, and one of a call
  pub asks_rows : (txn.xid.0 == 0) ≡ true → request_of number (open_of txn) (OfLocal txn.call) ≡ request_of number (open_of txn) (open_of txn).owner
  asks_rows e = sym (ap (request_of number (open_of txn)) (owner_none txn.xid.0 txn.manager txn.call txn.work e))

  pub asks_branch : (w : Work) → (txn.xid.0 == 0) ≡ false → txn.work ≡ w → request_of number (open_of txn) (OfCall txn.manager txn.xid.0 txn.call w) ≡ request_of number (open_of txn) (open_of txn).owner
  asks_branch w e is = sym (ap (request_of number (open_of txn)) (owner_is txn.xid.0 txn.manager txn.call txn.work e ∙ ap (OfCall txn.manager txn.xid.0 txn.call) is))

-- an answer by another one
pub told_as : {A E : Type 0} (r : Result A E) (a b : A) → IfOk r (λ x. x ≡ a) → a ≡ b → IfOk r (λ x. x ≡ b)
told_as (Ok x) a b told same = told ∙ same
told_as (Err e) a b told same = tt
