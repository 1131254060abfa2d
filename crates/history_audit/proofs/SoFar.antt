-- The parts that are made so far, one for each setting.
use Rattle.std.proofs.Common.{◌≡◌, ◌⊎◌, inl, inr, ◌+◌, ◌++◌, ℕ, zero, suc, List, [], ◌∷◌, length, slice_get, Some, None, option_map, refl, sym, ap, subst, ◌∙◌, arith}
use Rattle.std.proofs.lemmas.Option.{same_Some}
use Rattle.seata_types.specs.declared.ids.Place.{Place}
use Rattle.seata_types.specs.declared.ids.Place.TheVariants as place
use Rattle.scenario_form.specs.declared.scenarios.ManagerDef.{ManagerDef}
use Rattle.scenario_form.specs.declared.scenarios.ResourceDef.{ResourceDef}
use Rattle.scenario_form.specs.declared.scenarios.Scenario.{Scenario}
use Rattle.history_rules.specs.Own.{Own}
use Rattle.history_rules.specs.Nodes.{counted_at}
use Rattle.history_text.specs.Worlds.{managers_from, resources_from, resources_of, settings_of, setup_of, world_of}
use Rattle.history_text.proofs.Worlds.{slice_get-managers}
use Rattle.judged_bench.specs.Following as bench
use Rattle.judged_bench.specs.declared.benches.Bench.{Bench}
use Rattle.judged_talk.specs.Following as talk
use Rattle.judged_talk.specs.declared.talks.Talk.{Talk}
use Rattle.history_audit.specs.Nodes.{AreBenches, AreParts, AreTalks}

-- of the first settings, each has its part without own entries
pub record AreSoFar {S P : Type 0} (Follows : S → List Own → P → Type 0) (settings : List S) (parts : List P) (k : ℕ) : Type 0 where
  pub many : length parts ≡ k
  pub each : (i : ℕ) (s : S) (p : P) → slice_get settings i ≡ Some s → slice_get parts i ≡ Some p → Follows s [] p

-- a member of a list with one more
got_more : {A : Type 0} (xs : List A) (x : A) (i : ℕ) (y : A) → slice_get (xs ++ x ∷ []) i ≡ Some y → (slice_get xs i ≡ Some y) ⊎ ((i ≡ length xs) × (x ≡ y))
got_more [] x zero y e = inr (refl, same_Some x y e)
got_more [] x (suc i) y e = absurd (let no : None ≡ Some y = e in cc)
got_more (z ∷ xs) x zero y e = inl e
got_more (z ∷ xs) x (suc i) y e = by (got_more xs x i y e)
  where
    by : (slice_get xs i ≡ Some y) ⊎ ((i ≡ length xs) × (x ≡ y)) → (slice_get xs i ≡ Some y) ⊎ ((suc i ≡ length (z ∷ xs)) × (x ≡ y))
    by (inl there) = inl there
    by (inr (last, same)) = inr (ap suc last, same)

long_more : {A : Type 0} (xs : List A) (x : A) → length (xs ++ x ∷ []) ≡ length xs + 1
long_more [] x = refl
long_more (z ∷ xs) x = let below = long_more xs x in omega (arith, below)

module _ {S P : Type 0} (Follows : S → List Own → P → Type 0) (settings : List S) where
  pub none_so_far : AreSoFar Follows settings [] 0
  none_so_far = record { many = refl; each = λ i s p listed e. absurd (let no : None ≡ Some p = e in cc) }

  pub one_so_far : (parts : List P) (k : ℕ) (s : S) (p : P) → AreSoFar Follows settings parts k → slice_get settings k ≡ Some s → Follows s [] p → AreSoFar Follows settings (parts ++ p ∷ []) (k + 1)
  one_so_far parts k s p are listed follows = record {
    many = long_more parts p ∙ ap (λ (n : ℕ). n + 1) are.many;
    each = λ i t q at e. by i t q at (got_more parts p i q e);
  }
    where
      by : (i : ℕ) (t : S) (q : P) → slice_get settings i ≡ Some t → (slice_get parts i ≡ Some q) ⊎ ((i ≡ length parts) × (p ≡ q)) → Follows t [] q
      by i t q at (inl there) = are.each i t q at there
      by i t q at (inr (last, same)) =
          let setting : s ≡ t = same_Some s t (sym listed ∙ ap (slice_get settings) (sym (last ∙ are.many)) ∙ at) in
          subst (λ (z : P). Follows t [] z) same (subst (λ (z : S). Follows z [] p) setting follows)

  pub all_so_far : (at : ℕ → Place) (parts : List P) (k : ℕ) → k ≡ length settings → AreSoFar Follows settings parts k → AreParts at Follows settings parts []
  all_so_far at parts k end are = record { same = are.many ∙ end; each = λ n s p listed kept. by n s p listed kept }
    where
      by : (n : ℕ) (s : S) (p : P) → counted_at settings n ≡ Some s → counted_at parts n ≡ Some p → Follows s [] p
      by zero s p listed kept = absurd (let no : None ≡ Some p = kept in cc)
      by (suc i) s p listed kept = are.each i s p listed kept

-- ---- the settings of a scenario

long-managers : (tries n : ℕ) (defs : List ManagerDef) → length (managers_from tries n defs) ≡ length defs
long-managers tries n [] = refl
long-managers tries n (def ∷ defs) = ap suc (long-managers tries (n + 1) defs)

long-resources : (s : Scenario) (n : ℕ) (defs : List ResourceDef) → length (resources_from s n defs) ≡ length defs
long-resources s n [] = refl
long-resources s n (def ∷ defs) = ap suc (long-resources s (n + 1) defs)

got-resource : (s : Scenario) (n : ℕ) (defs : List ResourceDef) (k : ℕ) → slice_get (resources_from s n defs) k ≡ option_map (setup_of s (n + k)) (slice_get defs k)
got-resource s n [] k = refl
got-resource s n (def ∷ defs) zero = ap (λ j. Some (setup_of s j def)) (omega arith)
got-resource s n (def ∷ defs) (suc k) = got-resource s (n + 1) defs k ∙ ap (λ j. option_map (setup_of s j) (slice_get defs k)) (omega arith)

pub manager_at : (tries : ℕ) (defs : List ManagerDef) (k : ℕ) (def : ManagerDef) → slice_get defs k ≡ Some def → slice_get (managers_from tries 1 defs) k ≡ Some (settings_of tries (k + 1) def)
manager_at tries defs k def at = slice_get-managers tries 1 defs k ∙ ap (option_map (settings_of tries (1 + k))) at ∙ ap (λ j. Some (settings_of tries j def)) (let same : 1 + k ≡ k + 1 = omega arith in same)

pub resource_at : (s : Scenario) (defs : List ResourceDef) (k : ℕ) (def : ResourceDef) → slice_get defs k ≡ Some def → slice_get (resources_from s 1 defs) k ≡ Some (setup_of s (k + 1) def)
resource_at s defs k def at = got-resource s 1 defs k ∙ ap (option_map (setup_of s (1 + k))) at ∙ ap (λ j. Some (setup_of s j def)) (let same : 1 + k ≡ k + 1 = omega arith in same)

pub managers_long : (tries : ℕ) (defs : List ManagerDef) → length (managers_from tries 1 defs) ≡ length defs
managers_long tries defs = long-managers tries 1 defs

pub resources_long : (s : Scenario) (defs : List ResourceDef) → length (resources_from s 1 defs) ≡ length defs
resources_long s defs = long-resources s 1 defs

-- ---- all of them

pub all_talks : (s : Scenario) (talks : List Talk) (k : ℕ) → k ≡ length s.managers → AreSoFar talk.Follows (managers_from s.lock_tries 1 s.managers) talks k → AreTalks (world_of s) talks []
all_talks s talks k end are = all_so_far talk.Follows (managers_from s.lock_tries 1 s.managers) place.Man talks k (end ∙ sym (managers_long s.lock_tries s.managers)) are

pub all_benches : (s : Scenario) (benches : List Bench) (k : ℕ) → k ≡ length s.resources → AreSoFar bench.Follows (resources_from s 1 s.resources) benches k → AreBenches (world_of s) benches []
unfolding resources_of
all_benches s benches k end are = all_so_far bench.Follows (resources_from s 1 s.resources) place.Res benches k (end ∙ sym (resources_long s s.resources)) are
