-- Definitions behind their numbers, and their names.
use Rattle.std.proofs.Common.{◌≡◌, ◌+◌, ◌++◌, ◌∙◌, ℕ, List, [], ◌∷◌, length, map, refl, ap, arith}
use Rattle.std.proofs.lemmas.List.{map-append}
use Rattle.scenario_form.specs.declared.scenarios.ResourceDef.{ResourceDef}
use Rattle.scenario_form.specs.declared.scenarios.Scenario.{Scenario}
use Rattle.scenario_form.specs.Runnable.{resource_name}
use Rattle.scenario_nodes.specs.Nodes.{Held, name_of, resource_server}
use Rattle.scenario_nodes.specs.Together.{numbered}

pub numbered_append : {A : Type 0} (n : ℕ) (xs ys : List A) → numbered n (xs ++ ys) ≡ numbered n xs ++ numbered (n + length xs) ys
numbered_append n [] ys = let same : n ≡ n + 0 = omega arith in ap (λ (m : ℕ). numbered m ys) same
numbered_append {A} n (x ∷ xs) ys =
    let same : n + 1 + length xs ≡ n + length (x ∷ xs) = omega arith in
    ap (λ (rest : List (ℕ × A)). (n, x) ∷ rest) (numbered_append (n + 1) xs ys ∙ ap (λ (m : ℕ). numbered (n + 1) xs ++ numbered m ys) same)

pub length_numbered : {A : Type 0} (n : ℕ) (xs : List A) → length (numbered n xs) ≡ length xs
length_numbered n [] = refl
length_numbered n (x ∷ xs) = let rest = length_numbered (n + 1) xs in omega (arith, rest)

heads : {A : Type 0} (x y : A) (xs ys : List A) → x ∷ xs ≡ y ∷ ys → x ≡ y
heads x y xs ys e = cc

tails : {A : Type 0} (x y : A) (xs ys : List A) → x ∷ xs ≡ y ∷ ys → xs ≡ ys
tails x y xs ys e = cc

-- the number of an item behind others
pub number_of : {A : Type 0} (n : ℕ) (xs : List A) (before : List (ℕ × A)) (one : ℕ × A) (behind : List (ℕ × A)) → numbered n xs ≡ before ++ one ∷ behind → one.0 ≡ n + length before
number_of n [] [] one behind e = absurd (let no : [] ≡ one ∷ behind = e in cc)
number_of n [] (b ∷ before) one behind e = absurd (let no : [] ≡ b ∷ before ++ one ∷ behind = e in cc)
number_of {A} n (x ∷ xs) [] one behind e =
    let first : n ≡ one.0 = ap (λ (at : ℕ × A). at.0) (heads {A = ℕ × A} (n, x) one (numbered (n + 1) xs) behind e) in
    omega (arith, first)
number_of {A} n (x ∷ xs) (b ∷ before) one behind e =
    let number = number_of (n + 1) xs before one behind (tails {A = ℕ × A} (n, x) b (numbered (n + 1) xs) (before ++ one ∷ behind) e) in
    omega (arith, number)

-- the names of resources behind their numbers
abbrev pub names_of : Scenario → Held → List (ℕ × ResourceDef) → List (List ℕ)
names_of s held defs = map name_of (map (resource_server s held) defs)

pub names_append : (s : Scenario) (held : Held) (xs ys : List (ℕ × ResourceDef)) → names_of s held (xs ++ ys) ≡ names_of s held xs ++ names_of s held ys
names_append s held xs ys = ap (map name_of) (map-append (resource_server s held) xs ys) ∙ map-append name_of (map (resource_server s held) xs) (map (resource_server s held) ys)

pub names_numbered : (s : Scenario) (held : Held) (n : ℕ) (defs : List ResourceDef) → names_of s held (numbered n defs) ≡ map resource_name defs
names_numbered s held n [] = refl
names_numbered s held n (def ∷ defs) = ap (λ (names : List (List ℕ)). def.name ∷ names) (names_numbered s held (n + 1) defs)
