-- One more item of a list.
use Rattle.std.proofs.Common.{ℕ, zero, suc, ◌≡◌, ◌+◌, List, [], ◌∷◌, ◌++◌, ◌∙◌, ap, sym, arith, append_assoc, append-nil, codes, cond, nat_lt, true, rules, tests}
use Rattle.std.specs.List.{flat_map, range_with_len}
use Rattle.std.proofs.lemmas.Grind.{flat_map-append}
use Rattle.scenario_maker.specs.Made.{comma, listed}

range_more : (n a : ℕ) → range_with_len a (suc n) ≡ range_with_len a n ++ (a + n) ∷ []
range_more zero a = let e : a ≡ a + 0 = omega arith in ap (λ x. x ∷ []) e
range_more (suc n) a = let e : a + 1 + n ≡ a + suc n = omega arith in ap (λ l. a ∷ l) (range_more n (a + 1) ∙ ap (λ x. range_with_len (a + 1) n ++ x ∷ []) e)

comma_suc : (n : ℕ) → comma (suc n) ≡ codes ","
comma_suc n = let more : nat_lt 0 (suc n) ≡ true = search (rules, tests) in ap (λ there. cond there (codes ",") []) more

pub listed_suc : (item : ℕ → List ℕ) (n : ℕ) → listed item (suc n) ≡ listed item n ++ (comma n ++ item n)
unfolding listed
listed_suc item zero = append-nil (item 0)
listed_suc item (suc n) =
    let item_behind : (ℕ → List ℕ) = λ (y : ℕ). codes "," ++ item y in
    let first : List ℕ = item 0 in
    let front : List ℕ = flat_map item_behind (range_with_len 1 n) in
    let at : 1 + n ≡ suc n = omega arith in
    ap (λ l. first ++ flat_map item_behind l) (range_more n 1) ∙ ap (λ l. first ++ l) (flat_map-append item_behind (range_with_len 1 n) ((1 + n) ∷ [])) ∙
    ap (λ l. first ++ (front ++ l)) (append-nil (item_behind (1 + n))) ∙ ap (λ m. first ++ (front ++ item_behind m)) at ∙
    sym (append_assoc first front (item_behind (suc n))) ∙ ap (λ l. (first ++ front) ++ (l ++ item (suc n))) (sym (comma_suc n))

listed_more : (item : ℕ → List ℕ) (n j : ℕ) → j ≡ n + 1 → listed item j ≡ listed item n ++ (comma n ++ item n)
listed_more item n j e = let next : j ≡ suc n = omega arith in ap (listed item) next ∙ listed_suc item n

-- what is appended behind what was appended before
pub behind : (old first rest before new : List ℕ) → before ≡ old ++ first → new ≡ before ++ rest → new ≡ old ++ (first ++ rest)
behind old first rest before new is_before is_new = is_new ∙ ap (λ t. t ++ rest) is_before ∙ append_assoc old first rest

-- what an item at a place adds to a text that ends with the items before it
pub one_more : (item : ℕ → List ℕ) (n j : ℕ) (old before after text new : List ℕ) → before ≡ old ++ listed item n → after ≡ before ++ comma n →
    text ≡ item n → new ≡ after ++ text → j ≡ n + 1 → new ≡ old ++ listed item j
one_more item n j old before after text new is_before is_after is_text is_new e =
    let all : new ≡ ((old ++ listed item n) ++ comma n) ++ item n = cc in
    all ∙ append_assoc (old ++ listed item n) (comma n) (item n) ∙ append_assoc old (listed item n) (comma n ++ item n) ∙
    ap (λ l. old ++ l) (sym (listed_more item n j e))
