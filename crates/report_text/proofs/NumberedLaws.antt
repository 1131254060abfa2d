-- What a scenario says by numbers is what the settings of its nodes say in the words of the rules.
use Rattle.std.proofs.Common.{◌≡◌, ◌==◌, ◌&&◌, ◌+◌, ◌<◌, ℕ, zero, suc, Bool, true, false, if◌then◌else◌, List, [], ◌∷◌, ◌++◌, length, slice_get, Option, Some, None, option_map, refl, sym, ap, ◌∙◌, arith}
use Rattle.std.specs.Option.{option_and_then}
use Rattle.seata_types.specs.declared.statements.Action.{Action}
use Rattle.seata_types.specs.declared.statements.Stmt.{Stmt}
use Rattle.seata_types.specs.declared.statements.Work.{Work}
use Rattle.seata_types.specs.declared.statements.Work.TheVariants as work
use Rattle.scenario_form.specs.declared.scenarios.ManagerDef.{ManagerDef}
use Rattle.scenario_form.specs.declared.scenarios.ResourceDef.{ResourceDef}
use Rattle.scenario_form.specs.declared.scenarios.Scenario.{Scenario}
use Rattle.history_law.proofs.Tests.{nat_same, nat_differs, same_nat}
use Rattle.history_rules.specs.Nodes.{counted_at}
use Rattle.history_rules.specs.ResourceMemory.{Setup, action_of, local_of}
use Rattle.history_rules.specs.ResourceMemory.{action_in as listed, local_in as listed_local}
use Rattle.history_text.specs.Worlds.{call_actions, actions_at, locals_at, setup_of, resources_from, resources_of}
use Rattle.report_text.specs.Numbered.{action_at, call_in, local_at}
use Rattle.report_text.specs.Numbered.{action_in as of_call, local_in as of_local}

-- ---- the first of two

abbrev or_else : {A : Type 0} → Option A → Option A → Option A
or_else None other = other
or_else (Some a) other = Some a

or_none : {A : Type 0} (o : Option A) → or_else o None ≡ o
or_none None = refl
or_none (Some a) = refl

listed_both : (m c : ℕ) (xs ys : List ((ℕ × ℕ) × Action)) → listed m c (xs ++ ys) ≡ or_else (listed m c xs) (listed m c ys)
listed_both m c [] ys = refl
listed_both m c (((k, d), a) ∷ xs) ys = by ((k == m) && (d == c)) (listed_both m c xs ys)
  where
    by : (b : Bool) → listed m c (xs ++ ys) ≡ or_else (listed m c xs) (listed m c ys)
        → (if b then Some a else listed m c (xs ++ ys)) ≡ or_else (if b then Some a else listed m c xs) (listed m c ys)
    by true below = refl
    by false below = below

-- ---- the actions of one manager

-- call c among the calls from this number on
abbrev call_found : (r from c : ℕ) → List (ℕ × Work) → Option Action
call_found r from c [] = None
call_found r from c (call ∷ calls) = if from == c then of_call r call else call_found r (from + 1) c calls

module _ (r m c : ℕ) where
  -- none among calls with greater numbers
  none_later : (from : ℕ) (calls : List (ℕ × Work)) → c < from → listed m c (call_actions r m from calls) ≡ None
  none_later from [] past = refl
  none_later from ((q, work.At stmts) ∷ calls) past = none_later (from + 1) calls (omega arith)
  none_later from ((q, work.Tcc action) ∷ calls) past = by (q == r) (none_later (from + 1) calls (omega arith))
    where
      other : (from == c) ≡ false
      other = nat_differs from c (λ e. omega arith)

      at : (b : Bool) → (from == c) ≡ b → b ≡ false → listed m c (call_actions r m (from + 1) calls) ≡ None
          → (if (m == m) && (from == c) then Some action else listed m c (call_actions r m (from + 1) calls)) ≡ None
      at b e other below =
          ap (λ t. if (m == m) && t then Some action else listed m c (call_actions r m (from + 1) calls)) (e ∙ other)
          ∙ and_false (m == m) below
        where
          and_false : (t : Bool) → listed m c (call_actions r m (from + 1) calls) ≡ None → (if t && false then Some action else listed m c (call_actions r m (from + 1) calls)) ≡ None
          and_false true below = below
          and_false false below = below

      by : (b : Bool) → listed m c (call_actions r m (from + 1) calls) ≡ None
          → listed m c (if b then ((m, from), action) ∷ call_actions r m (from + 1) calls else call_actions r m (from + 1) calls) ≡ None
      by true below = at (from == c) refl other below
      by false below = below

  listed_call : (from : ℕ) (calls : List (ℕ × Work)) → listed m c (call_actions r m from calls) ≡ call_found r from c calls
  listed_call from [] = refl
  listed_call from ((q, work.At stmts) ∷ calls) = by (from == c) refl (listed_call (from + 1) calls)
    where
      by : (b : Bool) → (from == c) ≡ b → listed m c (call_actions r m (from + 1) calls) ≡ call_found r (from + 1) c calls
          → listed m c (call_actions r m (from + 1) calls) ≡ (if b then None else call_found r (from + 1) c calls)
      by true e below = none_later (from + 1) calls (same_below e)
        where
          same_below : (from == c) ≡ true → c < from + 1
          same_below e = let same = same_nat from c e in omega (arith, same)
      by false e below = below
  listed_call from ((q, work.Tcc action) ∷ calls) = by (q == r) (from == c) refl (listed_call (from + 1) calls)
    where
      itself : (m == m) ≡ true
      itself = nat_same m m refl

      later : (from == c) ≡ true → listed m c (call_actions r m (from + 1) calls) ≡ None
      later e = let same = same_nat from c e in none_later (from + 1) calls (omega (arith, same))

      by : (b t : Bool) → (from == c) ≡ t → listed m c (call_actions r m (from + 1) calls) ≡ call_found r (from + 1) c calls
          → listed m c (if b then ((m, from), action) ∷ call_actions r m (from + 1) calls else call_actions r m (from + 1) calls)
          ≡ (if t then (if b then Some action else None) else call_found r (from + 1) c calls)
      by true true e below = ap (λ u. if u && (from == c) then Some action else listed m c (call_actions r m (from + 1) calls)) itself ∙ ap (λ u. if u then Some action else listed m c (call_actions r m (from + 1) calls)) e
      by true false e below = ap (λ u. if u && (from == c) then Some action else listed m c (call_actions r m (from + 1) calls)) itself ∙ ap (λ u. if u then Some action else listed m c (call_actions r m (from + 1) calls)) e ∙ below
      by false true e below = later e
      by false false e below = below

  -- the call with the number that lies so far behind the first
  call_there : (from j : ℕ) (calls : List (ℕ × Work)) → c ≡ from + j → call_found r from c calls ≡ option_and_then (of_call r) (slice_get calls j)
  call_there from j [] e = refl
  call_there from zero (call ∷ calls) e = ap (λ t. if t then of_call r call else call_found r (from + 1) c calls) (nat_same from c (omega arith))
  call_there from (suc j) (call ∷ calls) e =
      ap (λ t. if t then of_call r call else call_found r (from + 1) c calls) (nat_differs from c (λ f. omega arith))
      ∙ call_there (from + 1) j calls (omega arith)

  call_before : (from : ℕ) (calls : List (ℕ × Work)) → c < from → call_found r from c calls ≡ None
  call_before from [] past = refl
  call_before from (call ∷ calls) past =
      ap (λ t. if t then of_call r call else call_found r (from + 1) c calls) (nat_differs from c (λ f. omega arith)) ∙ call_before (from + 1) calls (omega arith)

-- calls are counted from 1
call_counted : (r c : ℕ) (calls : List (ℕ × Work)) → call_found r 1 c calls ≡ option_and_then (of_call r) (counted_at calls c)
call_counted r zero calls = call_before r 0 zero 1 calls (omega arith)
call_counted r (suc j) calls = call_there r 0 (suc j) 1 j calls (omega arith)

-- ---- the actions of all managers

none_of_other : (r m k c from : ℕ) (calls : List (ℕ × Work)) → (k == m) ≡ false → listed m c (call_actions r k from calls) ≡ None
none_of_other r m k c from [] other = refl
none_of_other r m k c from ((q, work.At stmts) ∷ calls) other = none_of_other r m k c (from + 1) calls other
none_of_other r m k c from ((q, work.Tcc action) ∷ calls) other = by (q == r) (none_of_other r m k c (from + 1) calls other)
  where
    by : (b : Bool) → listed m c (call_actions r k (from + 1) calls) ≡ None
        → listed m c (if b then ((k, from), action) ∷ call_actions r k (from + 1) calls else call_actions r k (from + 1) calls) ≡ None
    by true below = ap (λ t. if t && (from == c) then Some action else listed m c (call_actions r k (from + 1) calls)) other ∙ below
    by false below = below

none_of_later : (r m c n : ℕ) (defs : List ManagerDef) → m < n → listed m c (actions_at r n defs) ≡ None
none_of_later r m c n [] past = refl
none_of_later r m c n (def ∷ defs) past =
    listed_both m c (call_actions r n 1 def.calls) (actions_at r (n + 1) defs)
    ∙ ap (λ o. or_else o (listed m c (actions_at r (n + 1) defs))) (none_of_other r m n c 1 def.calls (nat_differs n m (λ e. omega arith)))
    ∙ none_of_later r m c (n + 1) defs (omega arith)

listed_manager : (r m c n j : ℕ) (defs : List ManagerDef) → m ≡ n + j
    → listed m c (actions_at r n defs) ≡ option_and_then (of_call r) (option_and_then (call_in c) (slice_get defs j))
listed_manager r m c n j [] e = refl
listed_manager r m c n zero (def ∷ defs) e =
    listed_both m c (call_actions r n 1 def.calls) (actions_at r (n + 1) defs)
    ∙ ap (λ o. or_else (listed m c (call_actions r n 1 def.calls)) o) (none_of_later r m c (n + 1) defs (omega arith))
    ∙ or_none (listed m c (call_actions r n 1 def.calls))
    ∙ ap (λ k. listed m c (call_actions r k 1 def.calls)) (let same : n ≡ m = omega arith in same)
    ∙ listed_call r m c 1 def.calls ∙ call_counted r c def.calls
listed_manager r m c n (suc j) (def ∷ defs) e =
    listed_both m c (call_actions r n 1 def.calls) (actions_at r (n + 1) defs)
    ∙ ap (λ o. or_else o (listed m c (actions_at r (n + 1) defs))) (none_of_other r m n c 1 def.calls (nat_differs n m (λ f. omega arith)))
    ∙ listed_manager r m c (n + 1) j defs (omega arith)

-- managers are counted from 1
listed_counted : (r m c : ℕ) (defs : List ManagerDef) → listed m c (actions_at r 1 defs) ≡ option_and_then (of_call r) (option_and_then (call_in c) (counted_at defs m))
listed_counted r zero c defs = none_of_later r 0 c 1 defs (omega arith)
listed_counted r (suc j) c defs = listed_manager r (suc j) c 1 j defs (omega arith)

-- ---- local transactions

local_before : (r k from : ℕ) (locals : List (ℕ × List Stmt)) → k < from → listed_local k (locals_at r from locals) ≡ None
local_before r k from [] past = refl
local_before r k from ((q, stmts) ∷ locals) past = by (q == r) (local_before r k (from + 1) locals (omega arith))
  where
    by : (b : Bool) → listed_local k (locals_at r (from + 1) locals) ≡ None
        → listed_local k (if b then (from, stmts) ∷ locals_at r (from + 1) locals else locals_at r (from + 1) locals) ≡ None
    by true below = ap (λ t. if t then Some stmts else listed_local k (locals_at r (from + 1) locals)) (nat_differs from k (λ e. omega arith)) ∙ below
    by false below = below

local_there : (r k from j : ℕ) (locals : List (ℕ × List Stmt)) → k ≡ from + j → listed_local k (locals_at r from locals) ≡ option_and_then (of_local r) (slice_get locals j)
local_there r k from j [] e = refl
local_there r k from zero ((q, stmts) ∷ locals) e = by (q == r)
  where
    by : (b : Bool) → listed_local k (if b then (from, stmts) ∷ locals_at r (from + 1) locals else locals_at r (from + 1) locals) ≡ (if b then Some stmts else None)
    by true = ap (λ t. if t then Some stmts else listed_local k (locals_at r (from + 1) locals)) (nat_same from k (omega arith))
    by false = local_before r k (from + 1) locals (omega arith)
local_there r k from (suc j) ((q, stmts) ∷ locals) e = by (q == r) (local_there r k (from + 1) j locals (omega arith))
  where
    by : (b : Bool) → listed_local k (locals_at r (from + 1) locals) ≡ option_and_then (of_local r) (slice_get locals j)
        → listed_local k (if b then (from, stmts) ∷ locals_at r (from + 1) locals else locals_at r (from + 1) locals) ≡ option_and_then (of_local r) (slice_get locals j)
    by true below = ap (λ t. if t then Some stmts else listed_local k (locals_at r (from + 1) locals)) (nat_differs from k (λ f. omega arith)) ∙ below
    by false below = below

local_counted : (r k : ℕ) (locals : List (ℕ × List Stmt)) → listed_local k (locals_at r 1 locals) ≡ option_and_then (of_local r) (counted_at locals k)
local_counted r zero locals = local_before r 0 1 locals (omega arith)
local_counted r (suc j) locals = local_there r (suc j) 1 j locals (omega arith)

-- ---- the resources of a scenario

slice_get-resources : (s : Scenario) (n : ℕ) (defs : List ResourceDef) (k : ℕ) → slice_get (resources_from s n defs) k ≡ option_map (setup_of s (n + k)) (slice_get defs k)
slice_get-resources s n [] k = refl
slice_get-resources s n (def ∷ defs) zero = ap (λ j. Some (setup_of s j def)) (omega arith)
slice_get-resources s n (def ∷ defs) (suc k) =
    slice_get-resources s (n + 1) defs k ∙ ap (λ j. option_map (setup_of s j) (slice_get defs k)) (omega arith)

-- the k-th resource, counted from 0, is of its definition
pub record IsSetupOf (s : Scenario) (k : ℕ) (u : Setup) : Type 0 where
  pub def : ResourceDef
  pub there : slice_get s.resources k ≡ Some def
  pub is : u ≡ setup_of s (k + 1) def

setup_by : (s : Scenario) (k : ℕ) (u : Setup) (o : Option ResourceDef) → slice_get s.resources k ≡ o → option_map (setup_of s (1 + k)) o ≡ Some u → IsSetupOf s k u
setup_by s k u None at e = absurd (let no : None ≡ Some u = e in cc)
setup_by s k u (Some def) at e =
    record { def = def; there = at; is = sym (let same : setup_of s (1 + k) def ≡ u = cc in same) ∙ ap (λ n. setup_of s n def) (omega arith) }

pub setup_at : (s : Scenario) (k : ℕ) (u : Setup) → slice_get (resources_of s) k ≡ Some u → IsSetupOf s k u
unfolding resources_of
setup_at s k u e = setup_by s k u (slice_get s.resources k) refl (sym (slice_get-resources s 1 s.resources k) ∙ e)

pub length-resources : (s : Scenario) → length (resources_of s) ≡ length s.resources
unfolding resources_of
length-resources s = from 1 s.resources
  where
    from : (n : ℕ) (defs : List ResourceDef) → length (resources_from s n defs) ≡ length defs
    from n [] = refl
    from n (def ∷ defs) = ap suc (from (n + 1) defs)

-- the actions and the local transactions of a resource are those of the scenario
pub action_of-setup : (s : Scenario) (k : ℕ) (u : Setup) (m c : ℕ) → IsSetupOf s k u → action_of u m c ≡ action_at s (k + 1) m c
action_of-setup s k u m c is = ap (λ (v : Setup). action_of v m c) is.is ∙ listed_counted (k + 1) m c s.managers

pub local_of-setup : (s : Scenario) (k : ℕ) (u : Setup) (n : ℕ) → IsSetupOf s k u → local_of u n ≡ local_at s (k + 1) n
local_of-setup s k u n is = ap (λ (v : Setup). local_of v n) is.is ∙ local_counted (k + 1) n s.locals
