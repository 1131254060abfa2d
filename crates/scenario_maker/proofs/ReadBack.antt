-- Data that reads as itself from its compact text: its numbers are unsigned and of 64 bits, its texts are ASCII that needs
-- no escape, the names of its members rise, and it is nested no deeper than is read.
use Rattle.std.proofs.Common.{◌≡◌, ◌≤◌, ◌<◌, ◌+◌, ◌^◌, ◌&&◌, ◌==◌, not, ℕ, zero, suc, Bool, true, false, nat_le, nat_lt, List, [], ◌∷◌, ◌++◌, Ordering, Less, Equal, Greater, nat_cmp, is_gt, Option, Some, option_map, option_and_then, IsUtf8, decimal, refl, ap, sym, ◌∙◌, true≢false, append-nil, arith, leb-true, ltb-true, le-leb, lt-ltb, ne_eqb}
use Rattle.std.specs.Cmp.Lexicographic.{slice_cmp}
use Rattle.std.specs.List.{list_all}
use Rattle.std.specs.Ordering.{match_ordering}
use Rattle.std.proofs.lemmas.Bool.{and_parts, and_from}
use Rattle.std.proofs.lemmas.List.Folds.{list_all-append}
use Rattle.std.proofs.lemmas.Fmt.{IsAscii-decimal}
use Rattle.std.proofs.lemmas.Str.{IsUtf8-append, IsUtf8-from_ascii, IsUtf8-nil}
use Rattle.json.specs.Json as json
use Rattle.json.specs.Lex.{tokens}
use Rattle.json.specs.Print.{escape, quoted}
use Rattle.json.specs.Token.{Token}
use Rattle.json.specs.Tree as tree
use Rattle.json.proofs.Printed.Decimals.{IsNumber-decimal}
use Rattle.json.proofs.Printed.Strings.{escape_byte_plain}
use Rattle.json.proofs.Printed.Tokens.{tokens-print}
use Rattle.json.proofs.Printed.Trees.{value-json_tokens, ArePrintable-json_tokens}
use Rattle.json.proofs.Printed.Utf8.{are_ascii, IsUtf8-are_ascii, IsUtf8-quoted, IsUtf8-boolean}
use Rattle.serde_json.specs.Data.{Num, unsigned, negative, float, Data, null, boolean, number, string, array, object, Items, no_items, item, Members, no_members, member, put}
use Rattle.serde_json.specs.Read.{read, of_json, of_items, of_members}
use Rattle.serde_json.specs.Written.{outline, items_outline, members_outline, comma_if, compact_text, items_text, members_text}
use Rattle.serde_json.proofs.Numbers.{number_of-decimal}
use Rattle.serde_json.proofs.Texts.{print-outline}
use Rattle.scenario_reader.specs.Bases.{IsTextOf}
use Rattle.scenario_maker.proofs.Numerals.{each_digit}

-- ---- texts of ASCII that needs no escape

abbrev pub is_bare_byte : ℕ → Bool
is_bare_byte x = nat_le 32 x && (nat_lt x 128 && (not (x == 34) && not (x == 92)))

abbrev pub is_bare : List ℕ → Bool
is_bare s = list_all is_bare_byte s

pub bare_append : (s t : List ℕ) → is_bare s ≡ true → is_bare t ≡ true → is_bare (s ++ t) ≡ true
bare_append s t a b = list_all-append is_bare_byte s t ∙ and_from (is_bare s) (is_bare t) a b

bare_digit : (d : ℕ) → d < 10 → is_bare_byte (48 + d) ≡ true
bare_digit d low =
    let c : ℕ = 48 + d in
    rw (le-leb 32 c (omega arith), lt-ltb c 128 (omega arith), ne_eqb c 34 (λ e. omega arith), ne_eqb c 92 (λ e. omega arith)) refl

pub bare_decimal : (n : ℕ) → n < 2 ^ 64 → is_bare (decimal n) ≡ true
bare_decimal n small = each_digit is_bare_byte bare_digit n small

bare_is : (x y : ℕ) → is_bare_byte x ≡ true → is_bare_byte y ≡ false → x ≡ y → ⊥
bare_is x y e none same = true≢false (sym e ∙ ap is_bare_byte same ∙ none)

pub escape_bare : (s : List ℕ) → is_bare s ≡ true → escape s ≡ s
escape_bare [] e = refl
escape_bare (x ∷ s) e =
    let parts = and_parts (is_bare_byte x) (is_bare s) e in
    let low = (and_parts (nat_le 32 x) (nat_lt x 128 && (not (x == 34) && not (x == 92))) parts.0).0 in
    rw (escape_byte_plain x (bare_is x 34 parts.0 refl) (bare_is x 92 parts.0 refl) (leb-true 32 x low)) (ap (λ l. x ∷ l) (escape_bare s parts.1))

bare_ascii : (s : List ℕ) → is_bare s ≡ true → are_ascii s ≡ true
bare_ascii [] e = refl
bare_ascii (x ∷ s) e =
    let parts = and_parts (is_bare_byte x) (is_bare s) e in
    let rest = (and_parts (nat_le 32 x) (nat_lt x 128 && (not (x == 34) && not (x == 92))) parts.0).1 in
    and_from (nat_lt x 128) (are_ascii s) (and_parts (nat_lt x 128) (not (x == 34) && not (x == 92)) rest).0 (bare_ascii s parts.1)

-- ---- data

abbrev is_count : Num → Bool
is_count (unsigned n) = nat_lt n (2 ^ 64)
is_count (negative z) = false
is_count (float x) = false

-- the members, with further ones behind them
abbrev joined : Members → Members → Members
joined no_members ms = ms
joined (member k d found) ms = member k d (joined found ms)

-- whether a name stands behind those of all members
abbrev is_behind : List ℕ → Members → Bool
is_behind name no_members = true
is_behind name (member k d ms) = is_gt (slice_cmp nat_cmp name k) && is_behind name ms

-- whether the names of the first members rise behind those of the second
abbrev rise : Members → Members → Bool
rise no_members found = true
rise (member k d ms) found = is_behind k found && rise ms (joined found (member k d no_members))

-- whether data is such, and nested no deeper than the number
abbrev mutual
  pub is_proper : Data → ℕ → Bool
  is_proper null n = true
  is_proper (boolean b) n = true
  is_proper (number c) n = is_count c
  is_proper (string s) n = is_bare s
  is_proper (array ds) zero = false
  is_proper (array ds) (suc n) = items_proper ds n
  is_proper (object ms) zero = false
  is_proper (object ms) (suc n) = rise ms no_members && members_proper ms n

  pub items_proper : Items → ℕ → Bool
  items_proper no_items n = true
  items_proper (item d ds) n = is_proper d n && items_proper ds n

  pub members_proper : Members → ℕ → Bool
  members_proper no_members n = true
  members_proper (member k d ms) n = is_bare k && (is_proper d n && members_proper ms n)

-- ---- what is known of it: JSON gives it back, and its text is UTF-8

record Good (d : Data) (n : ℕ) : Type 0 where
  back : of_json (outline d) ≡ Some d
  numbers : tree.HasNumbers (outline d)
  shallow : tree.depth (outline d) ≤ n
  utf8 : IsUtf8 (compact_text d)

record GoodItems (ds : Items) (n : ℕ) : Type 0 where
  back : of_items (items_outline ds) ≡ Some ds
  numbers : tree.ItemsHaveNumbers (items_outline ds)
  shallow : tree.items_depth (items_outline ds) ≤ n
  utf8 : (later : Bool) → IsUtf8 (items_text later ds)

record GoodMembers (ms : Members) (n : ℕ) : Type 0 where
  back : (found : Members) → rise ms found ≡ true → of_members (members_outline ms) found ≡ Some (joined found ms)
  numbers : tree.MembersHaveNumbers (members_outline ms)
  shallow : tree.members_depth (members_outline ms) ≤ n
  utf8 : (later : Bool) → IsUtf8 (members_text later ms)

ascii : (s : List ℕ) → are_ascii s ≡ true → IsUtf8 s
ascii s e = IsUtf8-are_ascii s e

quoted_utf8 : (s : List ℕ) → is_bare s ≡ true → IsUtf8 (quoted s)
quoted_utf8 s e = IsUtf8-quoted s (ascii s (bare_ascii s e))

number_good : (c : Num) (n : ℕ) → is_count c ≡ true → Good (number c) n
number_good (unsigned c) n e =
    let small = ltb-true c (2 ^ 64) e in
    record {
      back = ap (λ (o : Option Num). option_map number o) (number_of-decimal c small);
      numbers = IsNumber-decimal c small;
      shallow = omega arith;
      utf8 = IsUtf8-from_ascii (decimal c) (IsAscii-decimal c small);
    }
number_good (negative z) n e = absurd cc
number_good (float x) n e = absurd cc

comma_utf8 : (later : Bool) → IsUtf8 (comma_if later)
comma_utf8 true = ascii (44 ∷ []) refl
comma_utf8 false = IsUtf8-nil

-- ---- lists

no_items_good : (n : ℕ) → GoodItems no_items n
no_items_good n = record { back = refl; numbers = tt; shallow = omega arith; utf8 = λ later. ascii (93 ∷ []) refl }

item_back : (j : json.Json) (js : json.Items) (d : Data) (ds : Items) → of_json j ≡ Some d → of_items js ≡ Some ds → of_items (json.item j js) ≡ Some (item d ds)
item_back j js d ds one rest = rw (one, rest) refl

item_good : (d : Data) (ds : Items) (n : ℕ) → Good d n → GoodItems ds n → GoodItems (item d ds) n
item_good d ds n one rest = record {
  back = item_back (outline d) (items_outline ds) d ds one.back rest.back;
  numbers = (one.numbers, rest.numbers);
  shallow = omega (arith, one.shallow, rest.shallow);
  utf8 = λ later. IsUtf8-append (comma_if later) (compact_text d ++ items_text true ds) (comma_utf8 later) (IsUtf8-append (compact_text d) (items_text true ds) one.utf8 (rest.utf8 true));
}

array_good : (ds : Items) (n : ℕ) → GoodItems ds n → Good (array ds) (suc n)
array_good ds n all = record {
  back = ap (λ (o : Option Items). option_map array o) all.back;
  numbers = all.numbers;
  shallow = omega (arith, all.shallow);
  utf8 = IsUtf8-append (91 ∷ []) (items_text false ds) (ascii (91 ∷ []) refl) (all.utf8 false);
}

-- ---- members

by_greater : (o : Ordering) (a b c : Members) → is_gt o ≡ true → match_ordering o a b c ≡ c
by_greater Less a b c e = absurd cc
by_greater Equal a b c e = absurd cc
by_greater Greater a b c e = refl

put_last : (k : List ℕ) (d : Data) (found : Members) → is_behind k found ≡ true → put k d found ≡ joined found (member k d no_members)
put_last k d no_members e = refl
put_last k d (member l f ms) e =
    let parts = and_parts (is_gt (slice_cmp nat_cmp k l)) (is_behind k ms) e in
    by_greater (slice_cmp nat_cmp k l) (member k d (member l f ms)) (member l d ms) (member l f (put k d ms)) parts.0
    ∙ ap (member l f) (put_last k d ms parts.1)

joined_none : (found : Members) → joined found no_members ≡ found
joined_none no_members = refl
joined_none (member k d found) = ap (member k d) (joined_none found)

joined_again : (found : Members) (k : List ℕ) (d : Data) (ms : Members) → joined (joined found (member k d no_members)) ms ≡ joined found (member k d ms)
joined_again no_members k d ms = refl
joined_again (member l f found) k d ms = ap (member l f) (joined_again found k d ms)

no_members_good : (n : ℕ) → GoodMembers no_members n
no_members_good n = record {
  back = λ found rising. ap (λ (z : Members). Some z) (sym (joined_none found));
  numbers = tt;
  shallow = omega arith;
  utf8 = λ later. ascii (125 ∷ []) refl;
}

first_back : (k : List ℕ) (j : json.Json) (js : json.Members) (d : Data) (found : Members) → of_json j ≡ Some d → of_members (json.member k j js) found ≡ of_members js (put k d found)
first_back k j js d found one = rw one refl

member_back : (k : List ℕ) (d : Data) (ms : Members) (n : ℕ) → Good d n → GoodMembers ms n → (found : Members) → rise (member k d ms) found ≡ true
    → of_members (members_outline (member k d ms)) found ≡ Some (joined found (member k d ms))
member_back k d ms n one rest found rising =
    let more = joined found (member k d no_members) in
    let order = and_parts (is_behind k found) (rise ms more) rising in
    first_back k (outline d) (members_outline ms) d found one.back ∙ ap (of_members (members_outline ms)) (put_last k d found order.0) ∙ rest.back more order.1
    ∙ ap (λ (z : Members). Some z) (joined_again found k d ms)

member_utf8 : (k : List ℕ) (d : Data) (ms : Members) (n : ℕ) (later : Bool) → is_bare k ≡ true → Good d n → GoodMembers ms n → IsUtf8 (members_text later (member k d ms))
member_utf8 k d ms n later bare one rest =
    let behind = compact_text d ++ members_text true ms in
    IsUtf8-append (comma_if later) (quoted k ++ 58 ∷ behind) (comma_utf8 later)
    (IsUtf8-append (quoted k) (58 ∷ behind) (quoted_utf8 k bare)
    (IsUtf8-append (58 ∷ []) behind (ascii (58 ∷ []) refl) (IsUtf8-append (compact_text d) (members_text true ms) one.utf8 (rest.utf8 true))))

member_good : (k : List ℕ) (d : Data) (ms : Members) (n : ℕ) → is_bare k ≡ true → Good d n → GoodMembers ms n → GoodMembers (member k d ms) n
member_good k d ms n bare one rest = record {
  back = member_back k d ms n one rest;
  numbers = (one.numbers, rest.numbers);
  shallow = omega (arith, one.shallow, rest.shallow);
  utf8 = λ later. member_utf8 k d ms n later bare one rest;
}

object_good : (ms : Members) (n : ℕ) → rise ms no_members ≡ true → GoodMembers ms n → Good (object ms) (suc n)
object_good ms n rising all = record {
  back = ap (λ (o : Option Members). option_map object o) (all.back no_members rising);
  numbers = all.numbers;
  shallow = omega (arith, all.shallow);
  utf8 = IsUtf8-append (123 ∷ []) (members_text false ms) (ascii (123 ∷ []) refl) (all.utf8 false);
}

-- ---- the whole

mutual
  data_good : (d : Data) (n : ℕ) → is_proper d n ≡ true → Good d n
  data_good null n e = record { back = refl; numbers = tt; shallow = omega arith; utf8 = ascii (compact_text null) refl }
  data_good (boolean b) n e = record { back = refl; numbers = tt; shallow = omega arith; utf8 = IsUtf8-boolean b }
  data_good (number c) n e = number_good c n e
  data_good (string s) n e = record { back = refl; numbers = tt; shallow = omega arith; utf8 = quoted_utf8 s e }
  data_good (array ds) zero e = absurd cc
  data_good (array ds) (suc n) e = array_good ds n (items_good ds n e)
  data_good (object ms) zero e = absurd cc
  data_good (object ms) (suc n) e =
      let parts = and_parts (rise ms no_members) (members_proper ms n) e in object_good ms n parts.0 (members_good ms n parts.1)

  items_good : (ds : Items) (n : ℕ) → items_proper ds n ≡ true → GoodItems ds n
  items_good no_items n e = no_items_good n
  items_good (item d ds) n e =
      let parts = and_parts (is_proper d n) (items_proper ds n) e in item_good d ds n (data_good d n parts.0) (items_good ds n parts.1)

  members_good : (ms : Members) (n : ℕ) → members_proper ms n ≡ true → GoodMembers ms n
  members_good no_members n e = no_members_good n
  members_good (member k d ms) n e =
      let parts = and_parts (is_bare k) (is_proper d n && members_proper ms n) e in
      let inner = and_parts (is_proper d n) (members_proper ms n) parts.1 in member_good k d ms n parts.0 (data_good d n inner.0) (members_good ms n inner.1)

abbrev whole : Option (json.Json × List Token) → Option Data
whole o = option_and_then of_json (option_and_then (λ p. json.if_last p.0 p.1) o)

read_back : (d : Data) (n : ℕ) → n ≤ 127 → Good d n → read (compact_text d) ≡ Some d
read_back d n few is =
    let ts = tree.json_tokens (outline d) in
    let same : tokens (compact_text d) ≡ ts = ap (λ (t : List ℕ). tokens t) (sym (print-outline d)) ∙ tokens-print ts (ArePrintable-json_tokens (outline d) is.numbers) in
    ap (λ (us : List Token). whole (json.value 127 us)) (same ∙ sym (append-nil ts))
    ∙ ap whole (value-json_tokens (outline d) 127 [] (omega (arith, is.shallow))) ∙ is.back

-- its compact text is its text
pub text_of : (d : Data) (n : ℕ) → n ≤ 127 → is_proper d n ≡ true → IsTextOf d (compact_text d)
text_of d n few proper = let is = data_good d n proper in record { utf8 = is.utf8; compact = λ none. refl; reads = read_back d n few is }
