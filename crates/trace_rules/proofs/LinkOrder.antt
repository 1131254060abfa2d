-- Lists in order among others, and what went over a link.
use Rattle.std.proofs.Common.{◌≡◌, ◌≢◌, ◌⊎◌, inl, inr, ◌+◌, ◌≤◌, ℕ, List, [], ◌∷◌, ◌++◌, length, refl, ap, sym, subst, arith}
use Rattle.std.proofs.lemmas.List.{append_assoc}
use Rattle.durable_records.specs.Members.{In}
use Rattle.frame_codec.specs.Packets.{Sent}
use Rattle.trace_rules.specs.Links.{IsFront, Taken, TakenAfter, Went, WentAfter, Within, link_room}
use Rattle.trace_rules.specs.Worked.{LosesBehindFull}

-- ---- in order among others

pub within_nil : (ys : List Sent) → Within [] ys
within_nil [] = refl
within_nil (y ∷ ys) = inl (within_nil ys)

within_refl : (xs : List Sent) → Within xs xs
within_refl [] = refl
within_refl (x ∷ xs) = inr (xs, refl, within_refl xs)

pub within_append : (xs ys zs : List Sent) → Within xs ys → Within xs (ys ++ zs)
within_append xs [] zs w = subst (λ (l : List Sent). Within l zs) (sym w) (within_nil zs)
within_append xs (y ∷ ys) zs (inl w) = inl (within_append xs ys zs w)
within_append xs (y ∷ ys) zs (inr (rest, e, w)) = inr (rest, e, within_append rest ys zs w)

within_trans : (xs ys zs : List Sent) → Within xs ys → Within ys zs → Within xs zs
within_trans xs ys [] v w = subst (λ (l : List Sent). Within xs l) w v
within_trans xs ys (z ∷ zs) v (inl w) = inl (within_trans xs ys zs v w)
within_trans xs ys (z ∷ zs) v (inr (rest, e, w)) = by (λ l u. within_trans l rest zs u w) (subst (λ (l : List Sent). Within xs l) e v)
  where
    by : ((l : List Sent) → Within l rest → Within l zs) → Within xs (z ∷ rest) → Within xs (z ∷ zs)
    by on (inl u) = inl (on xs u)
    by on (inr (more, f, u)) = inr (more, f, on more u)

pub within_front : (front whole ys : List Sent) → IsFront front whole → Within whole ys → Within front ys
within_front front whole ys (rest, e) w =
    within_trans front whole ys (subst (Within front) (sym e) (within_append front front rest (within_refl front))) w

pub in_within : (xs ys : List Sent) → Within xs ys → (x : Sent) → In x xs → In x ys
in_within xs [] w x h = subst (In x) w h
in_within xs (y ∷ ys) (inl w) x h = inr (in_within xs ys w x h)
in_within xs (y ∷ ys) (inr (rest, e, w)) x h = by (in_within rest ys w x) (subst (In x) e h)
  where
    by : (In x rest → In x ys) → In x (y ∷ rest) → In x (y ∷ ys)
    by on (inl same) = inl same
    by on (inr there) = inr (on there)

pub front_trans : (xs ys zs : List Sent) → IsFront xs ys → IsFront ys zs → IsFront xs zs
front_trans xs ys zs e f = grind (arith, append_assoc {A = Sent})

-- ---- what went over a link

went_after-within : (n : ℕ) (went sent : List Sent) → WentAfter n went sent → Within went sent
went_after-within n went [] w = w
went_after-within n went (s ∷ sent) (inl (rest, e, w)) = inr (rest, e, went_after-within (n + 1) rest sent w)
went_after-within n went (s ∷ sent) (inr (full, w)) = inl (went_after-within n went sent w)

pub went-within : (went sent : List Sent) → Went went sent → Within went sent
went-within went sent w = went_after-within 0 went sent w

-- its first are taken by the rules
taken_after : (n : ℕ) (taken rest went sent : List Sent) → went ≡ taken ++ rest → WentAfter n went sent → TakenAfter n taken sent
taken_after n [] rest went sent e w = tt
taken_after n (x ∷ taken) rest went [] e w = grind arith
taken_after n (x ∷ taken) rest went (s ∷ sent) e w = grind (arith, taken_after (n + 1) taken rest, taken_after n (x ∷ taken) rest went sent e)

pub front-taken : (taken went sent : List Sent) → IsFront taken went → Went went sent → Taken taken sent
front-taken taken went sent (rest, e) w = taken_after 0 taken rest went sent e w

-- ---- one entry more

all_went : (n : ℕ) (sent : List Sent) → WentAfter n sent sent
all_went n [] = refl
all_went n (s ∷ sent) = inl (sent, refl, all_went (n + 1) sent)

all_lost : (n : ℕ) (sent : List Sent) → link_room ≤ n → WentAfter n [] sent
all_lost n [] full = refl
all_lost n (s ∷ sent) full = inr (full, all_lost n sent full)

went_pushed : (n : ℕ) (went sent more : List Sent) → WentAfter n went sent → WentAfter n (went ++ more) (sent ++ more)
went_pushed n went [] more w = subst (λ (l : List Sent). WentAfter n (l ++ more) more) (sym w) (all_went n more)
went_pushed n went (s ∷ sent) more (inl (rest, e, w)) = inl (rest ++ more, ap (λ (l : List Sent). l ++ more) e, went_pushed (n + 1) rest sent more w)
went_pushed n went (s ∷ sent) more (inr (full, w)) = inr (full, went_pushed n went sent more w)

went_lost : (n : ℕ) (went sent more : List Sent) → link_room ≤ n + length went → WentAfter n went sent → WentAfter n went (sent ++ more)
went_lost n went [] more full w =
    let none : length went ≡ 0 = ap length w in
    subst (λ (l : List Sent). WentAfter n l more) (sym w) (all_lost n more (omega (arith, full, none)))
went_lost n went (s ∷ sent) more full (inl (rest, e, w)) =
    let size : length went ≡ length (s ∷ rest) = ap length e in
    inl (rest, e, went_lost (n + 1) rest sent more (omega (arith, full, size)) w)
went_lost n went (s ∷ sent) more full (inr (early, w)) = inr (early, went_lost n went sent more full w)

-- what an end may have pushed of what an entry said to it: all, or nothing where as many went over the link as it holds
abbrev pub MayPush : (said pushed after : List Sent) → Type 0
MayPush said pushed after = (after ≡ pushed ++ said) ⊎ ((after ≡ pushed) × (link_room ≤ length pushed))

pub went_entry : (said pushed after sent : List Sent) → MayPush said pushed after → Went pushed sent → Went after (sent ++ said)
went_entry said pushed after sent may w = grind (arith, went_pushed 0 pushed sent said, went_lost 0 pushed sent said)

-- ---- a lost message

lost-full : (n : ℕ) (taken : List Sent) (lost later : Sent) → later ≢ lost → TakenAfter n (taken ++ later ∷ []) (taken ++ lost ∷ later ∷ [])
    → link_room ≤ n + length taken
lost-full n [] lost later apart t = grind arith
lost-full n (x ∷ taken) lost later apart t = grind (arith, lost-full (n + 1) taken lost later apart)

full-lost : (n : ℕ) (taken : List Sent) (lost later : Sent) → link_room ≤ n + length taken → TakenAfter n (taken ++ later ∷ []) (taken ++ lost ∷ later ∷ [])
full-lost n [] lost later full = grind arith
full-lost n (x ∷ taken) lost later full = grind (arith, full-lost (n + 1) taken lost later)

pub loses_behind_full : LosesBehindFull
loses_behind_full taken lost later apart = grind (arith, lost-full 0 taken lost later apart, full-lost 0 taken lost later)
