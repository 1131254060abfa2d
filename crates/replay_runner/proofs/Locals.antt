-- Where the local transactions of a scenario stand.
use Rattle.std.proofs.Common.{◌≡◌, ◌≢◌, ◌+◌, ◌-◌, ◌<◌, ◌≤◌, ◌==◌, ℕ, zero, suc, nat_eq, is_some, if◌then◌else◌, Bool, true, false, List, [], ◌∷◌, length, slice_get, Some, None, refl, ap, ◌∙◌, arith}
use Rattle.std.proofs.lemmas.Bool.Decides.{nat_tests}
use Rattle.std.proofs.lemmas.Option.{same_Some}
use Rattle.seata_types.specs.declared.ids.Place.TheVariants as place
use Rattle.seata_types.specs.declared.statements.Stmt.{Stmt}
use Rattle.scenario_form.specs.declared.scenarios.ResourceDef.{ResourceDef}
use Rattle.scenario_form.specs.declared.scenarios.Scenario.{Scenario}
use Rattle.scenario_form.specs.Contents.{IsBetween}
use Rattle.history_rules.specs.ResourceMemory.{local_in}
use Rattle.history_rules.specs.Schedules.{local_place}
use Rattle.history_text.specs.Worlds.{locals_at, resources_from, resources_of}

abbrev Local : Type 0
Local = ℕ × List Stmt

abbrev local_with : ℕ → List Stmt → Local
local_with resource stmts = (resource, stmts)

-- ---- one resource

module _ (r k : ℕ) where
  -- none has a number below the first
  none_below : (i : ℕ) (locals : List Local) → k < i → local_in k (locals_at r i locals) ≡ None
  none_below i [] below = refl
  none_below i ((resource, stmts) ∷ locals) below = by (resource == r) (none_below (i + 1) locals (omega (arith, below)))
    where
      by : (b : Bool) → local_in k (locals_at r (i + 1) locals) ≡ None → local_in k (if b then (i, stmts) ∷ locals_at r (i + 1) locals else locals_at r (i + 1) locals) ≡ None
      by true rest =
          let other : (i == k) ≡ false = grind (arith, nat_tests) in
          ap (λ b. if b then Some stmts else local_in k (locals_at r (i + 1) locals)) other ∙ rest
      by false rest = rest

  -- the k-th is one of the resource that it names
  found_at : (i : ℕ) (locals : List Local) (local : Local) → i ≤ k → slice_get locals (k - i) ≡ Some local → is_some (local_in k (locals_at r i locals)) ≡ (local.0 == r)
  found_at i [] local within here = absurd (let no : None ≡ Some local = here in cc)
  found_at i ((resource, stmts) ∷ locals) local within here = by (nat_eq i k) refl (λ (later : i + 1 ≤ k) (at : slice_get locals (k - (i + 1)) ≡ Some local). found_at (i + 1) locals local later at)
    where
      first : i ≡ k → local_with resource stmts ≡ local
      first same = same_Some (local_with resource stmts) local (ap (slice_get (local_with resource stmts ∷ locals)) (let none : zero ≡ k - i = omega (arith, same) in none) ∙ here)

      this : i ≡ k → (b : Bool) → is_some (local_in k (if b then (i, stmts) ∷ locals_at r (i + 1) locals else locals_at r (i + 1) locals)) ≡ b
      this same true = let found : (i == k) ≡ true = grind (arith, nat_tests) in ap (λ b. is_some (if b then Some stmts else local_in k (locals_at r (i + 1) locals))) found
      this same false = ap is_some (none_below (i + 1) locals (omega (arith, same)))

      rest : (i + 1 ≤ k → slice_get locals (k - (i + 1)) ≡ Some local → is_some (local_in k (locals_at r (i + 1) locals)) ≡ (local.0 == r)) → i ≢ k → is_some (local_in k (locals_at r (i + 1) locals)) ≡ (local.0 == r)
      rest further other =
          let later : suc (k - (i + 1)) ≡ k - i = omega (arith, within, other) in
          further (omega (arith, within, other)) (ap (slice_get (local_with resource stmts ∷ locals)) later ∙ here)

      that : (i + 1 ≤ k → slice_get locals (k - (i + 1)) ≡ Some local → is_some (local_in k (locals_at r (i + 1) locals)) ≡ (local.0 == r)) → i ≢ k → (b : Bool) → is_some (local_in k (if b then (i, stmts) ∷ locals_at r (i + 1) locals else locals_at r (i + 1) locals)) ≡ (local.0 == r)
      that further other true = let no : (i == k) ≡ false = grind (arith, nat_tests) in ap (λ b. is_some (if b then Some stmts else local_in k (locals_at r (i + 1) locals))) no ∙ rest further other
      that further other false = rest further other

      by : (b : Bool) → nat_eq i k ≡ b → (i + 1 ≤ k → slice_get locals (k - (i + 1)) ≡ Some local → is_some (local_in k (locals_at r (i + 1) locals)) ≡ (local.0 == r)) → is_some (local_in k (if resource == r then (i, stmts) ∷ locals_at r (i + 1) locals else locals_at r (i + 1) locals)) ≡ (local.0 == r)
      by true e further = let same : i ≡ k = grind (arith, nat_tests) in this same (resource == r) ∙ ap (λ (l : Local). l.0 == r) (first same)
      by false e further = let other : i ≢ k = grind (arith, nat_tests) in that further other (resource == r)

-- ---- all resources

module _ (s : Scenario) (k : ℕ) (local : Local) (counted : 1 ≤ k) (here : slice_get s.locals (k - 1) ≡ Some local) where
  place_from : (n : ℕ) (defs : List ResourceDef) → n ≤ local.0 → local.0 < n + length defs → local_place (resources_from s n defs) k ≡ place.Res local.0
  place_from n [] low high = absurd (omega (arith, low, high))
  place_from n (def ∷ defs) low high = by (nat_eq local.0 n) refl (λ (from : n + 1 ≤ local.0) (to : local.0 < n + 1 + length defs). place_from (n + 1) defs from to)
    where
      is : is_some (local_in k (locals_at n 1 s.locals)) ≡ (local.0 == n)
      is = found_at n k 1 s.locals local counted here

      by : (b : Bool) → nat_eq local.0 n ≡ b → (n + 1 ≤ local.0 → local.0 < n + 1 + length defs → local_place (resources_from s (n + 1) defs) k ≡ place.Res local.0)
          → (if is_some (local_in k (locals_at n 1 s.locals)) then place.Res n else local_place (resources_from s (n + 1) defs) k) ≡ place.Res local.0
      by true e further =
          let same : n ≡ local.0 = grind (arith, nat_tests) in
          ap (λ b. if b then place.Res n else local_place (resources_from s (n + 1) defs) k) (is ∙ e) ∙ ap (λ j. place.Res j) same
      by false e further =
          let other : n ≢ local.0 = grind (arith, nat_tests) in
          ap (λ b. if b then place.Res n else local_place (resources_from s (n + 1) defs) k) (is ∙ e) ∙ further (omega (arith, low, other)) (omega (arith, high))

  pub local_stands : IsBetween 1 (length s.resources) local.0 → local_place (resources_of s) k ≡ place.Res local.0
  unfolding resources_of
  local_stands between = place_from 1 s.resources between.0 (let high = between.1 in omega (arith, high))
