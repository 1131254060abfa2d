-- Searches and filters of lists, by their members.
use Rattle.std.proofs.Common.{◌≡◌, inl, inr, ◌+◌, ◌≤◌, ℕ, Bool, true, false, cond, List, [], ◌∷◌, length, find, filter, Option, Some, None, is_some, refl, ap, sym, ◌∙◌, arith}
use Rattle.durable_records.specs.Members.{In}
use Rattle.durable_records.proofs.Tests.{none_some, true_false, not_some}

module _ {A : Type 0} (test : A → Bool) where
  find_none_by : (x : A) (xs : List A) (a : A) → (find test xs ≡ None → In a xs → test a ≡ false) → (b : Bool) → test x ≡ b → cond b (Some x) (find test xs) ≡ None → In a (x ∷ xs) → test a ≡ false
  find_none_by x xs a below true t found i = none_some (sym found)
  find_none_by x xs a below false t found (inl is) = ap test is ∙ t
  find_none_by x xs a below false t found (inr rest) = below found rest

  -- a search that finds nothing passes nothing
  pub find_none : (xs : List A) (a : A) → find test xs ≡ None → In a xs → test a ≡ false
  find_none [] a e i = absurd i
  find_none (x ∷ xs) a e i = find_none_by x xs a (find_none xs a) (test x) refl e i

  pub none_passes : (xs : List A) (a : A) → is_some (find test xs) ≡ false → In a xs → test a ≡ false
  none_passes xs a e i = find_none xs a (not_some (find test xs) e) i

  none_found_by : (x : A) (xs : List A) → find test xs ≡ None → (b : Bool) → b ≡ false → cond b (Some x) (find test xs) ≡ None
  none_found_by x xs below true t = true_false t
  none_found_by x xs below false t = below

  -- and one that passes nothing finds nothing
  pub none_found : (xs : List A) → ((a : A) → In a xs → test a ≡ false) → find test xs ≡ None
  none_found [] fails = refl
  none_found (x ∷ xs) fails = none_found_by x xs (none_found xs (λ a i. fails a (inr i))) (test x) (fails x (inl refl))

  found_by : (x : A) (xs : List A) (a : A) → (find test xs ≡ Some a → In a xs × (test a ≡ true)) → (b : Bool) → test x ≡ b → cond b (Some x) (find test xs) ≡ Some a → In a (x ∷ xs) × (test a ≡ true)
  found_by x xs a below true t found = let is : x ≡ a = cc in (inl (sym is), ap test (sym is) ∙ t)
  found_by x xs a below false t found = let k = below found in (inr k.0, k.1)

  -- what a search finds is a member that passes
  pub found_in : (xs : List A) (a : A) → find test xs ≡ Some a → In a xs × (test a ≡ true)
  found_in [] a e = none_some e
  found_in (x ∷ xs) a e = found_by x xs a (found_in xs a) (test x) refl e

  member_by : (xs : List A) (o : Option A) → find test xs ≡ o → is_some o ≡ true → (a : A) × (In a xs) × (test a ≡ true)
  member_by xs None e s = true_false (sym s)
  member_by xs (Some a) e s = let k = found_in xs a e in (a, k.0, k.1)

  pub found_member : (xs : List A) → is_some (find test xs) ≡ true → (a : A) × (In a xs) × (test a ≡ true)
  found_member xs e = member_by xs (find test xs) refl e

  member_found_by : (xs : List A) (a : A) → In a xs → test a ≡ true → (o : Option A) → find test xs ≡ o → is_some o ≡ true
  member_found_by xs a i t None e = true_false (sym t ∙ find_none xs a e i)
  member_found_by xs a i t (Some b) e = refl

  -- where a member passes, a search finds one
  pub member_found : (xs : List A) (a : A) → In a xs → test a ≡ true → is_some (find test xs) ≡ true
  member_found xs a i t = member_found_by xs a i t (find test xs) refl

  in_filter_by : (x : A) (xs : List A) (a : A) → (In a xs → In a (filter test xs)) → test a ≡ true → (b : Bool) → test x ≡ b → In a (x ∷ xs) → In a (cond b (x ∷ filter test xs) (filter test xs))
  in_filter_by x xs a below t true p (inl is) = inl is
  in_filter_by x xs a below t true p (inr rest) = inr (below rest)
  in_filter_by x xs a below t false p (inl is) = true_false (sym t ∙ ap test is ∙ p)
  in_filter_by x xs a below t false p (inr rest) = below rest

  pub in_filter : (xs : List A) (a : A) → In a xs → test a ≡ true → In a (filter test xs)
  in_filter [] a i t = absurd i
  in_filter (x ∷ xs) a i t = in_filter_by x xs a (λ r. in_filter xs a r t) t (test x) refl i

  of_filter_by : (x : A) (xs : List A) (a : A) → (In a (filter test xs) → In a xs × (test a ≡ true)) → (b : Bool) → test x ≡ b → In a (cond b (x ∷ filter test xs) (filter test xs)) → In a (x ∷ xs) × (test a ≡ true)
  of_filter_by x xs a below true t (inl is) = (inl is, ap test is ∙ t)
  of_filter_by x xs a below true t (inr rest) = let k = below rest in (inr k.0, k.1)
  of_filter_by x xs a below false t rest = let k = below rest in (inr k.0, k.1)

  pub of_filter : (xs : List A) (a : A) → In a (filter test xs) → In a xs × (test a ≡ true)
  of_filter [] a i = absurd i
  of_filter (x ∷ xs) a i = of_filter_by x xs a (of_filter xs a) (test x) refl i

-- ---- counted lists, newest first

-- each is numbered by how many stand behind it, itself among them
abbrev pub AreCounted : {A : Type 0} → (A → ℕ) → List A → Type 0
AreCounted number [] = Unit {0}
AreCounted number (x ∷ xs) = (number x ≡ length xs + 1) × AreCounted number xs

-- a member of such a list has a number from 1 to how many there are
pub counted_in : {A : Type 0} (number : A → ℕ) (xs : List A) → AreCounted number xs → (a : A) → In a xs → (1 ≤ number a) × (number a ≤ length xs)
counted_in number [] c a i = absurd i
counted_in number (x ∷ xs) c a (inl is) = let at : number a ≡ length xs + 1 = ap number is ∙ c.0 in (omega arith, omega arith)
counted_in number (x ∷ xs) c a (inr i) = let k = counted_in number xs c.1 a i in (k.0, omega (arith, k.1))
