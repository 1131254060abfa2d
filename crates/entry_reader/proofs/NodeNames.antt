-- The names of nodes: a name reads back as its node.
use Rattle.std.proofs.Common.{◌≡◌, ℕ, zero, suc, ◌+◌, ◌-◌, ◌^◌, ◌<◌, min, true, false, List, [], ◌∷◌, ◌++◌, length, Some, refl, ap, sym, subst, ◌∙◌, arith}
use Rattle.std.specs.Prelude.{◌&&◌, not, nat_lt, nat_le, slice_get, codes}
use Rattle.std.specs.List.{list_all, list_any}
use Rattle.std.proofs.lemmas.Bool.Decides.{nat_tests}
use Rattle.seata_types.specs.Orders.{same_text}
use Rattle.seata_types.specs.declared.ids.Place.{Place}
use Rattle.seata_types.specs.declared.ids.Place.TheVariants as place
use Rattle.history_text.specs.Lines.{name_text, name_or_number, place_text}
use Rattle.history_text.specs.declared.entries.Names.{Names}
use Rattle.entry_reader.specs.declared.pieces.Separator.TheVariants as at
use Rattle.entry_reader.specs.Parts.{word_in, numbered_from, number_in, place_by, place_of}
use Rattle.entry_reader.specs.Types.{Is16, IsPlace}
use Rattle.scenario_form.specs.Names.{is_letter, is_word_byte, is_word, is_node_name}
use Rattle.entry_reader.specs.Writable.{are_different, AreNodeNames, is_named, is_place}
use Rattle.entry_reader.proofs.Ascii.{both_left, both_right}
use Rattle.entry_reader.proofs.Closed.{goes}
use Rattle.entry_reader.proofs.Spells.{IsPiece, word}
use Rattle.entry_reader.proofs.Tests.{both, not_true, same_self, all-more, all-at, any-at, any-left, any-right, all-left, all-right, get-within}

-- ---- the form

letter_byte : (c : ℕ) → is_letter c ≡ true → is_word_byte c ≡ true
letter_byte c h = rw h refl

word_bytes : (name : List ℕ) → is_word name ≡ true → list_all is_word_byte name ≡ true
word_bytes [] h = cc
word_bytes (c ∷ cs) h =
    both (is_word_byte c) (list_all is_word_byte cs) (letter_byte c (both_left (is_letter c) (list_all is_word_byte cs) h)) (both_right (is_letter c) (list_all is_word_byte cs) h)

name_bytes : (name : List ℕ) → is_node_name name ≡ true → list_all is_word_byte name ≡ true
unfolding is_node_name
name_bytes name h = word_bytes name (both_left (is_word name) _ h)

byte_ascii : (c : ℕ) → is_word_byte c ≡ true → nat_lt c 128 ≡ true
byte_ascii c h = grind (arith, nat_tests)

byte_space : (c : ℕ) → is_word_byte c ≡ true → goes at.Space c ≡ true
byte_space c h = grind (arith, nat_tests)

byte_bar : (c : ℕ) → is_word_byte c ≡ true → goes at.Bar c ≡ true
byte_bar c h = grind (arith, nat_tests)

byte_name : (c : ℕ) → is_word_byte c ≡ true → goes at.Name c ≡ true
byte_name c h = grind (arith, nat_tests)

word_in-ascii : (t : List ℕ) → list_all (λ b. nat_lt b 128) t ≡ true → word_in t ≡ t
word_in-ascii t h = rw h refl

pub word_in-name : (name : List ℕ) → is_node_name name ≡ true → word_in name ≡ name
word_in-name name h = word_in-ascii name (all-more is_word_byte (λ b. nat_lt b 128) name byte_ascii (name_bytes name h))

pub name_piece : (name : List ℕ) → is_node_name name ≡ true → IsPiece name
name_piece name h = word name (all-more is_word_byte (goes at.Space) name byte_space (name_bytes name h)) (all-more is_word_byte (goes at.Bar) name byte_bar (name_bytes name h))

pub name-goes : (name : List ℕ) → is_node_name name ≡ true → list_all (goes at.Name) name ≡ true
name-goes name h = all-more is_word_byte (goes at.Name) name byte_name (name_bytes name h)

not_tc : (name : List ℕ) → is_node_name name ≡ true → same_text name (codes "tc") ≡ false
unfolding is_node_name
not_tc name h = not_true _ (both_left (not (same_text name (codes "tc"))) _ (both_right (is_word name) _ h))

not_net : (name : List ℕ) → is_node_name name ≡ true → same_text name (codes "net") ≡ false
unfolding is_node_name
not_net name h = not_true _ (both_right (not (same_text name (codes "tc"))) _ (both_right (is_word name) _ h))

-- ---- the number of a name

numbered-other : (n : ℕ) (other name : List ℕ) (names : List (List ℕ)) → same_text other name ≡ false → numbered_from n (other ∷ names) name ≡ numbered_from (n + 1) names name
numbered-other n other name names h = rw h refl

numbered-first : (n : ℕ) (name : List ℕ) (names : List (List ℕ)) → numbered_from n (name ∷ names) name ≡ n
numbered-first n name names = rw (same_self name) refl

numbered-none : (n : ℕ) (names : List (List ℕ)) (name : List ℕ) → ((k : ℕ) (other : List ℕ) → slice_get names k ≡ Some other → same_text other name ≡ false) → numbered_from n names name ≡ 0
numbered-none n [] name none = refl
numbered-none n (other ∷ names) name none =
    numbered-other n other name names (none 0 other refl) ∙ numbered-none (n + 1) names name (λ k o h. none (suc k) o h)

numbered-at : (n k : ℕ) (names : List (List ℕ)) (name : List ℕ) → slice_get names k ≡ Some name → are_different names ≡ true → numbered_from n names name ≡ n + k
numbered-at n k [] name at_k different = cc
numbered-at n zero (other ∷ names) name at_k different =
    let same : other ≡ name = cc in
    subst (λ o. numbered_from n (o ∷ names) name ≡ n + 0) (sym same) (numbered-first n name names ∙ omega arith)
numbered-at n (suc k) (other ∷ names) name at_k different =
    let apart : list_any (same_text other) names ≡ false = not_true _ (both_left (not (list_any (same_text other) names)) (are_different names) different) in
    numbered-other n other name names (any-at (same_text other) names k name apart at_k)
    ∙ numbered-at (n + 1) k names name at_k (both_right (not (list_any (same_text other) names)) (are_different names) different) ∙ omega arith

different-left : (xs ys : List (List ℕ)) → are_different (xs ++ ys) ≡ true → are_different xs ≡ true
different-left [] ys h = refl
different-left (x ∷ xs) ys h =
    let apart : list_any (same_text x) xs ≡ false = any-left (same_text x) xs ys (not_true _ (both_left (not (list_any (same_text x) (xs ++ ys))) (are_different (xs ++ ys)) h)) in
    let others : are_different xs ≡ true = different-left xs ys (both_right (not (list_any (same_text x) (xs ++ ys))) (are_different (xs ++ ys)) h) in
    ap (λ b. not b && are_different xs) apart ∙ others

different-right : (xs ys : List (List ℕ)) → are_different (xs ++ ys) ≡ true → are_different ys ≡ true
different-right [] ys h = h
different-right (x ∷ xs) ys h = different-right xs ys (both_right (not (list_any (same_text x) (xs ++ ys))) (are_different (xs ++ ys)) h)

-- a name of the second list is none of the first
different-across : (xs ys : List (List ℕ)) (k j : ℕ) (x y : List ℕ) → are_different (xs ++ ys) ≡ true → slice_get xs k ≡ Some x → slice_get ys j ≡ Some y → same_text x y ≡ false
different-across [] ys k j x y h at_k at_j = cc
different-across (z ∷ xs) ys zero j x y h at_k at_j =
    let same : z ≡ x = cc in
    let apart : list_any (same_text z) ys ≡ false = any-right (same_text z) xs ys (not_true _ (both_left (not (list_any (same_text z) (xs ++ ys))) (are_different (xs ++ ys)) h)) in
    ap (λ w. same_text w y) (sym same) ∙ any-at (same_text z) ys j y apart at_j
different-across (z ∷ xs) ys (suc k) j x y h at_k at_j =
    different-across xs ys k j x y (both_right (not (list_any (same_text z) (xs ++ ys))) (are_different (xs ++ ys)) h) at_k at_j

-- ---- a number that has a name

pub record Named (names : List (List ℕ)) (n : ℕ) : Type 0 where
  pub before : ℕ
  pub name : List ℕ
  pub number : n ≡ suc before
  pub at : slice_get names before ≡ Some name

pub named : (names : List (List ℕ)) (n : ℕ) → is_named names n ≡ true → Named names n
named names zero h = cc
named names (suc k) h =
    let within : k < length names = let there : nat_le (suc k) (length names) ≡ true = both_right (nat_lt 0 (suc k)) (nat_le (suc k) (length names)) h in grind (arith, nat_tests) in
    let found = get-within names k within in
    record { before = k; name = found.0; number = refl; at = found.1 }

pub named-text : (letter : List ℕ) (names : List (List ℕ)) (n : ℕ) (there : Named names n) → name_text letter names n ≡ there.name
named-text letter names n there = ap (λ m. name_text letter names m) there.number ∙ ap (λ o. name_or_number letter (suc there.before) o) there.at

form-resource : (names : Names) → AreNodeNames names → (k : ℕ) (name : List ℕ) → slice_get names.resources k ≡ Some name → is_node_name name ≡ true
form-resource names are k name at_k = all-at is_node_name names.resources k name (all-left is_node_name names.resources names.managers are.form) at_k

form-manager : (names : Names) → AreNodeNames names → (k : ℕ) (name : List ℕ) → slice_get names.managers k ≡ Some name → is_node_name name ≡ true
form-manager names are k name at_k = all-at is_node_name names.managers k name (all-right is_node_name names.resources names.managers are.form) at_k

capped : (n : ℕ) → Is16 n → min n (2 ^ 16 - 1) ≡ n
capped n small = omega arith

number_in-at : (names : List (List ℕ)) (n : ℕ) (there : Named names n) → is_node_name there.name ≡ true → are_different names ≡ true → Is16 n → number_in names there.name ≡ n
unfolding number_in
number_in-at names n there form different small =
    ap (λ t. min (numbered_from 1 names t) (2 ^ 16 - 1)) (word_in-name there.name form)
    ∙ ap (λ m. min m (2 ^ 16 - 1)) (numbered-at 1 there.before names there.name there.at different ∙ let same = there.number in omega arith) ∙ capped n small

number_in-none : (names : List (List ℕ)) (name : List ℕ) → word_in name ≡ name → ((k : ℕ) (other : List ℕ) → slice_get names k ≡ Some other → same_text other name ≡ false) → number_in names name ≡ 0
unfolding number_in
number_in-none names name plain none =
    ap (λ t. min (numbered_from 1 names t) (2 ^ 16 - 1)) plain ∙ ap (λ m. min m (2 ^ 16 - 1)) (numbered-none 1 names name none)

-- ---- resources and managers by their printed names

pub resource-back : (names : Names) (n : ℕ) → AreNodeNames names → is_named names.resources n ≡ true → Is16 n → number_in names.resources (name_text (codes "r") names.resources n) ≡ n
resource-back names n are is small =
    let there = named names.resources n is in
    ap (λ t. number_in names.resources t) (named-text (codes "r") names.resources n there)
    ∙ number_in-at names.resources n there (form-resource names are there.before there.name there.at) (different-left names.resources names.managers are.different) small

pub manager-back : (names : Names) (n : ℕ) → AreNodeNames names → is_named names.managers n ≡ true → Is16 n → number_in names.managers (name_text (codes "m") names.managers n) ≡ n
manager-back names n are is small =
    let there = named names.managers n is in
    ap (λ t. number_in names.managers t) (named-text (codes "m") names.managers n there)
    ∙ number_in-at names.managers n there (form-manager names are there.before there.name there.at) (different-right names.resources names.managers are.different) small

pub resource_form : (names : Names) (n : ℕ) → AreNodeNames names → is_named names.resources n ≡ true → is_node_name (name_text (codes "r") names.resources n) ≡ true
resource_form names n are is =
    let there = named names.resources n is in
    ap is_node_name (named-text (codes "r") names.resources n there) ∙ form-resource names are there.before there.name there.at

pub manager_form : (names : Names) (n : ℕ) → AreNodeNames names → is_named names.managers n ≡ true → is_node_name (name_text (codes "m") names.managers n) ≡ true
manager_form names n are is =
    let there = named names.managers n is in
    ap is_node_name (named-text (codes "m") names.managers n there) ∙ form-manager names are there.before there.name there.at

no_resource : (names : Names) (n : ℕ) → AreNodeNames names → is_named names.managers n ≡ true → number_in names.resources (name_text (codes "m") names.managers n) ≡ 0
no_resource names n are is =
    let there = named names.managers n is in
    ap (λ t. number_in names.resources t) (named-text (codes "m") names.managers n there)
    ∙ number_in-none names.resources there.name (word_in-name there.name (form-manager names are there.before there.name there.at))
    (λ k other at_k. different-across names.resources names.managers k there.before other there.name are.different at_k there.at)

no_net : (names : List (List ℕ)) → list_all is_node_name names ≡ true → number_in names (codes "net") ≡ 0
no_net names form =
    number_in-none names (codes "net") refl
    (λ k other at_k. not_net other (all-at is_node_name names k other form at_k))

-- ---- places

pub place_piece : (names : Names) (p : Place) → AreNodeNames names → is_place names p ≡ true → IsPiece (place_text names p)
place_piece names place.Net are is = word (codes "net") refl refl
place_piece names place.Tc are is = word (codes "tc") refl refl
place_piece names (place.Res n) are is = name_piece (name_text (codes "r") names.resources n) (resource_form names n are is)
place_piece names (place.Man n) are is = name_piece (name_text (codes "m") names.managers n) (manager_form names n are is)

place_of-name : (names : Names) (name : List ℕ) → is_node_name name ≡ true → place_of names name ≡ place_by (number_in names.resources name) (number_in names.managers name)
unfolding place_of
place_of-name names name form =
    let other : same_text name (codes "tc") ≡ false = not_tc name form in
    rw (word_in-name name form, other) refl

place_by-resource : (n k m : ℕ) → n ≡ suc m → place_by n k ≡ place.Res n
place_by-resource n k m is = ap (λ z. place_by z k) is ∙ ap place.Res (sym is)

place_by-manager : (n m : ℕ) → n ≡ suc m → place_by 0 n ≡ place.Man n
place_by-manager n m is = ap (λ z. place_by 0 z) is ∙ ap place.Man (sym is)

net-back : (names : Names) → AreNodeNames names → place_of names (codes "net") ≡ place.Net
unfolding place_of
net-back names are =
    ap (λ n. place_by n (number_in names.managers (codes "net"))) (no_net names.resources (all-left is_node_name names.resources names.managers are.form))
    ∙ ap (λ n. place_by 0 n) (no_net names.managers (all-right is_node_name names.resources names.managers are.form))

tc-back : (names : Names) → place_of names (codes "tc") ≡ place.Tc
unfolding place_of
tc-back names = refl

pub place-back : (names : Names) (p : Place) → AreNodeNames names → is_place names p ≡ true → IsPlace p → place_of names (place_text names p) ≡ p
place-back names place.Net are is small = net-back names are
place-back names place.Tc are is small = tc-back names
place-back names (place.Res n) are is small =
    let text = name_text (codes "r") names.resources n in
    place_of-name names text (resource_form names n are is)
    ∙ ap (λ k. place_by k (number_in names.managers text)) (resource-back names n are is small)
    ∙ place_by-resource n (number_in names.managers text) (named names.resources n is).before (named names.resources n is).number
place-back names (place.Man n) are is small =
    let text = name_text (codes "m") names.managers n in
    place_of-name names text (manager_form names n are is)
    ∙ ap (λ k. place_by k (number_in names.managers text)) (no_resource names n are is)
    ∙ ap (λ k. place_by 0 k) (manager-back names n are is small)
    ∙ place_by-manager n (named names.managers n is).before (named names.managers n is).number
