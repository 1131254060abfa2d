-- Nodes that are made one after the other, for definitions by their numbers.
use Rattle.std.proofs.Common.{◌≡◌, ◌+◌, ◌≤◌, ℕ, List, [], ◌∷◌, ◌++◌, drop, length, slice_get, Some, ap, sym, subst}
use Rattle.scenario_nodes.specs.Together.{AreEach, numbered}
use Rattle.scenario_nodes.proofs.Together.{AreFirst, first_all, first_next, first_none}
use Rattle.replay_runner.proofs.Lists.{drop_get, drop_past}

module _ {A B : Type 0} (P : ℕ → A → B → Type 0) (defs : List A) where
  abbrev pub IsNewOf : ℕ × A → B → Type 0
  IsNewOf one b = P one.0 one.1 b

  -- those of the first definitions were made
  abbrev pub AreMade : List B → (count : ℕ) → Type 0
  AreMade made count = AreFirst IsNewOf (numbered 1 defs) made (numbered (count + 1) (drop count defs))

  pub none_made : (made : List B) → made ≡ [] → AreMade made 0
  none_made made none = subst (λ ms. AreMade ms 0) (sym none) (first_none IsNewOf (numbered 1 defs))

  pub one_made : (made more : List B) (count : ℕ) (def : A) (b : B) → AreMade made count → slice_get defs count ≡ Some def → P (count + 1) def b → more ≡ made ++ b ∷ [] → AreMade more (count + 1)
  one_made made more count def b are here new is =
      let rest = numbered (count + 1 + 1) (drop (count + 1) defs) in
      subst (λ ms. AreMade ms (count + 1)) (sym is)
      (first_next IsNewOf (numbered 1 defs) made (count + 1, def) rest b
      (subst (AreFirst IsNewOf (numbered 1 defs) made) (ap (numbered (count + 1)) (drop_get defs count def here)) are) new)

  pub all_made : (made : List B) (count : ℕ) → AreMade made count → length defs ≤ count → AreEach IsNewOf (numbered 1 defs) made
  all_made made count are past =
      first_all IsNewOf (numbered 1 defs) made (numbered (count + 1) (drop count defs)) (ap (numbered (count + 1)) (drop_past defs count past)) are
