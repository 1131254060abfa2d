-- What each call and each local transaction of a scenario has, those of a resource have.
use Rattle.std.proofs.Common.{◌+◌, ◌++◌, ◌==◌, ℕ, Bool, true, false, if◌then◌else◌, List, [], ◌∷◌, All}
use Rattle.std.specs.List.{AllByRecursion}
use Rattle.std.proofs.lemmas.List.Elements.{All-head, All-tail}
use Rattle.seata_types.specs.declared.statements.Action.{Action}
use Rattle.seata_types.specs.declared.statements.Stmt.{Stmt}
use Rattle.seata_types.specs.declared.statements.Work.{Work}
use Rattle.seata_types.specs.declared.statements.Work.TheVariants as work
use Rattle.scenario_form.specs.declared.scenarios.ManagerDef.{ManagerDef}
use Rattle.history_text.specs.Worlds.{actions_at, call_actions, locals_at}
use Rattle.resource_rules.specs.Setups.{actions_of}

all_joined : {A : Type 0} (P : A → Type 0) (xs ys : List A) → AllByRecursion P xs → AllByRecursion P ys → AllByRecursion P (xs ++ ys)
all_joined P [] ys first rest = rest
all_joined P (x ∷ xs) ys first rest = (first.0, all_joined P xs ys first.1 rest)

module _ (P : Action → Type 0) where
  -- a TCC call's action has it; of an AT call nothing is asked
  abbrev pub OfCall : ℕ × Work → Type 0
  OfCall (resource, work.Tcc action) = P action
  OfCall (resource, work.At stmts) = Unit {0}

  abbrev pub OfEntry : (ℕ × ℕ) × Action → Type 0
  OfEntry entry = P entry.1

  abbrev pub OfMade : ℕ × ℕ × Action → Type 0
  OfMade made = P made.2

  each_call : (r m c : ℕ) (calls : List (ℕ × Work)) → All OfCall calls → AllByRecursion OfEntry (call_actions r m c calls)
  each_call r m c [] all = tt
  each_call r m c ((at, work.At stmts) ∷ calls) all = each_call r m (c + 1) calls (All-tail OfCall (at, work.At stmts) calls all)
  each_call r m c ((at, work.Tcc action) ∷ calls) all = by (each_call r m (c + 1) calls (All-tail OfCall (at, work.Tcc action) calls all)) (at == r)
    where
      by : AllByRecursion OfEntry (call_actions r m (c + 1) calls) → (here : Bool)
          → AllByRecursion OfEntry (if here then ((m, c), action) ∷ call_actions r m (c + 1) calls else call_actions r m (c + 1) calls)
      by rest true = (All-head OfCall (at, work.Tcc action) calls all, rest)
      by rest false = rest

  abbrev pub OfManager : ManagerDef → Type 0
  OfManager def = All OfCall def.calls

  pub each_action : (r n : ℕ) (managers : List ManagerDef) → All OfManager managers → AllByRecursion OfEntry (actions_at r n managers)
  each_action r n [] all = tt
  each_action r n (def ∷ managers) all =
      all_joined OfEntry (call_actions r n 1 def.calls) (actions_at r (n + 1) managers) (each_call r n 1 def.calls (All-head OfManager def managers all))
      (each_action r (n + 1) managers (All-tail OfManager def managers all))

  -- and so have those that are made
  pub each_made : (made : List (ℕ × ℕ × Action)) → AllByRecursion OfEntry (actions_of made) → AllByRecursion OfMade made
  each_made [] all = tt
  each_made (a ∷ made) all = (all.0, each_made made all.1)

module _ (P : List Stmt → Type 0) where
  abbrev pub OfLocal : ℕ × List Stmt → Type 0
  OfLocal one = P one.1

  pub each_local : (r k : ℕ) (locals : List (ℕ × List Stmt)) → All OfLocal locals → AllByRecursion OfLocal (locals_at r k locals)
  each_local r k [] all = tt
  each_local r k ((at, stmts) ∷ locals) all = by (each_local r (k + 1) locals (All-tail OfLocal (at, stmts) locals all)) (at == r)
    where
      by : AllByRecursion OfLocal (locals_at r (k + 1) locals) → (here : Bool)
          → AllByRecursion OfLocal (if here then (k, stmts) ∷ locals_at r (k + 1) locals else locals_at r (k + 1) locals)
      by rest true = (All-head OfLocal (at, stmts) locals all, rest)
      by rest false = rest
