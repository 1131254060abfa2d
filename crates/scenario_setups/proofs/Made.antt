-- What is made of the calls and locals so far, and what is made of the rest.
use Rattle.std.proofs.Common.{◌≡◌, ◌+◌, ◌++◌, ◌==◌, ℕ, zero, suc, Bool, true, false, if◌then◌else◌, List, [], ◌∷◌, drop, length, slice_get, Option, Some, None, refl, ap, sym, ◌∙◌, append_assoc, arith}
use Rattle.std.proofs.lemmas.Option.{same_Some}
use Rattle.seata_types.specs.declared.statements.Action.{Action}
use Rattle.seata_types.specs.declared.statements.Stmt.{Stmt}
use Rattle.seata_types.specs.declared.statements.Work.{Work}
use Rattle.seata_types.specs.declared.statements.Work.TheVariants as work
use Rattle.history_text.specs.Worlds.{call_actions, locals_at}
use Rattle.resource_rules.specs.Setups.{action_entry, actions_of}
use Rattle.scenario_setups.specs.Setups.{action_here}

-- an item of a list, and what follows it
pub drop_at : {A : Type 0} (xs : List A) (k : ℕ) (x : A) → slice_get xs k ≡ Some x → drop k xs ≡ x ∷ drop (k + 1) xs
drop_at [] k x e = absurd (let no : None ≡ Some x = e in cc)
drop_at (y ∷ ys) zero x e = ap (λ z. z ∷ ys) (same_Some y x e)
drop_at (y ∷ ys) (suc k) x e = drop_at ys k x e ∙ ap (λ n. x ∷ drop n (y ∷ ys)) (let next : suc (k + 1) ≡ suc k + 1 = omega arith in next)

-- the end of a list
pub drop_end : {A : Type 0} (xs : List A) (k : ℕ) → k ≡ length xs → drop k xs ≡ []
drop_end [] zero e = refl
drop_end [] (suc k) e = refl
drop_end (x ∷ xs) zero e = absurd (omega (arith, e))
drop_end (x ∷ xs) (suc k) e = drop_end xs k (omega (arith, e))

-- ---- the calls of a manager

abbrev with_action : (manager call : ℕ) → Option Action → List ((ℕ × ℕ) × Action) → List ((ℕ × ℕ) × Action)
with_action m c (Some a) rest = ((m, c), a) ∷ rest
with_action m c None rest = rest

chosen : (b : Bool) (m c : ℕ) (a : Action) (rest : List ((ℕ × ℕ) × Action)) → (if b then ((m, c), a) ∷ rest else rest) ≡ with_action m c (if b then Some a else None) rest
chosen true m c a rest = refl
chosen false m c a rest = refl

first_call : (r m c : ℕ) (call : ℕ × Work) (calls : List (ℕ × Work)) → call_actions r m c (call ∷ calls) ≡ with_action m c (action_here r call) (call_actions r m (c + 1) calls)
first_call r m c (resource, work.Tcc action) calls = chosen (resource == r) m c action (call_actions r m (c + 1) calls)
first_call r m c (resource, work.At stmts) calls = refl

entries_push : (made : List (ℕ × ℕ × Action)) (a : ℕ × ℕ × Action) → actions_of (made ++ a ∷ []) ≡ actions_of made ++ action_entry a ∷ []
entries_push [] a = refl
entries_push (x ∷ made) a = ap (λ rest. action_entry x ∷ rest) (entries_push made a)

module _ (r m k : ℕ) (calls : List (ℕ × Work)) (call : ℕ × Work) (at : slice_get calls k ≡ Some call) where
  here : (o : Option Action) → action_here r call ≡ o → call_actions r m (k + 1) (drop k calls) ≡ with_action m (k + 1) o (call_actions r m (k + 1 + 1) (drop (k + 1) calls))
  here o is =
      ap (call_actions r m (k + 1)) (drop_at calls k call at) ∙ first_call r m (k + 1) call (drop (k + 1) calls)
      ∙ ap (λ (p : Option Action). with_action m (k + 1) p (call_actions r m (k + 1 + 1) (drop (k + 1) calls))) is

  pub call_taken : (made : List (ℕ × ℕ × Action)) (all : List ((ℕ × ℕ) × Action)) (a : Action) → action_here r call ≡ Some a → actions_of made ++ call_actions r m (k + 1) (drop k calls) ≡ all
      → actions_of (made ++ (m, k + 1, a) ∷ []) ++ call_actions r m (k + 1 + 1) (drop (k + 1) calls) ≡ all
  call_taken made all a is e =
      ap (λ (l : List ((ℕ × ℕ) × Action)). l ++ call_actions r m (k + 1 + 1) (drop (k + 1) calls)) (entries_push made (m, k + 1, a))
      ∙ append_assoc (actions_of made) (((m, k + 1), a) ∷ []) (call_actions r m (k + 1 + 1) (drop (k + 1) calls))
      ∙ ap (λ (l : List ((ℕ × ℕ) × Action)). actions_of made ++ l) (sym (here (Some a) is)) ∙ e

  pub call_passed : (made : List (ℕ × ℕ × Action)) (all : List ((ℕ × ℕ) × Action)) → action_here r call ≡ None → actions_of made ++ call_actions r m (k + 1) (drop k calls) ≡ all
      → actions_of made ++ call_actions r m (k + 1 + 1) (drop (k + 1) calls) ≡ all
  call_passed made all is e = ap (λ (l : List ((ℕ × ℕ) × Action)). actions_of made ++ l) (sym (here None is)) ∙ e

-- ---- locals

first_local : (r k : ℕ) (one : ℕ × List Stmt) (locals : List (ℕ × List Stmt))
    → locals_at r k (one ∷ locals) ≡ (if one.0 == r then (k, one.1) ∷ locals_at r (k + 1) locals else locals_at r (k + 1) locals)
first_local r k (resource, stmts) locals = refl

module _ (r k : ℕ) (locals : List (ℕ × List Stmt)) (one : ℕ × List Stmt) (at : slice_get locals k ≡ Some one) where
  local_here : (b : Bool) → (one.0 == r) ≡ b
      → locals_at r (k + 1) (drop k locals) ≡ (if b then (k + 1, one.1) ∷ locals_at r (k + 1 + 1) (drop (k + 1) locals) else locals_at r (k + 1 + 1) (drop (k + 1) locals))
  local_here b is =
      ap (locals_at r (k + 1)) (drop_at locals k one at) ∙ first_local r (k + 1) one (drop (k + 1) locals)
      ∙ ap (λ d. if d then (k + 1, one.1) ∷ locals_at r (k + 1 + 1) (drop (k + 1) locals) else locals_at r (k + 1 + 1) (drop (k + 1) locals)) is

  pub local_taken : (made all : List (ℕ × List Stmt)) → (one.0 == r) ≡ true → made ++ locals_at r (k + 1) (drop k locals) ≡ all
      → (made ++ (k + 1, one.1) ∷ []) ++ locals_at r (k + 1 + 1) (drop (k + 1) locals) ≡ all
  local_taken made all is e =
      append_assoc made ((k + 1, one.1) ∷ []) (locals_at r (k + 1 + 1) (drop (k + 1) locals)) ∙ ap (λ (l : List (ℕ × List Stmt)). made ++ l) (sym (local_here true is)) ∙ e

  pub local_passed : (made all : List (ℕ × List Stmt)) → (one.0 == r) ≡ false → made ++ locals_at r (k + 1) (drop k locals) ≡ all
      → made ++ locals_at r (k + 1 + 1) (drop (k + 1) locals) ≡ all
  local_passed made all is e = ap (λ (l : List (ℕ × List Stmt)). made ++ l) (sym (local_here false is)) ∙ e
