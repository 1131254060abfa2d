-- The members of an object that was read: each name once, in rising order.
use Rattle.std.proofs.Common.{◌≡◌, ℕ, List, Ordering, Less, Equal, Greater, nat_cmp, is_eq, Option, Some, None, option_map, option_and_then, refl, ap, sym, ◌∙◌, subst}
use Rattle.std.proofs.lemmas.Cmp.{nat_list_cmp_total}
use Rattle.std.proofs.lemmas.Map.Text.{is_eq-slice_cmp}
use Rattle.std.proofs.lemmas.Option.{same_Some, option_and_then_some}
use Rattle.std.proofs.lemmas.Slice.Eq.{bytes_eq-Decides}
use Rattle.std.specs.Cmp.Lexicographic.{slice_cmp}
use Rattle.std.specs.Ordering.{match_ordering, ordering_reverse}
use Rattle.json.specs.Json as json
use Rattle.json.specs.Lex.{tokens}
use Rattle.serde_json.specs.Data.{Data, null, boolean, number, string, array, object, Members, no_members, member, put}
use Rattle.serde_json.specs.Find.{get_member}
use Rattle.serde_json.specs.Read.{read, max_depth, number_of, of_json, of_items, of_members}
use Rattle.scenario_reader.specs.Bases.{without}

abbrev pub compare : List ℕ → List ℕ → Ordering
compare a b = slice_cmp nat_cmp a b

-- the name stands before those of all members
abbrev pub IsBefore : List ℕ → Members → Type 0
IsBefore name no_members = Unit {0}
IsBefore name (member k d ms) = (compare name k ≡ Less) × IsBefore name ms

-- the names rise
abbrev pub AreRising : Members → Type 0
AreRising no_members = Unit {0}
AreRising (member k d ms) = IsBefore k ms × AreRising ms

pub same_name : (a b : List ℕ) → compare a b ≡ Equal → a ≡ b
same_name a b e = (bytes_eq-Decides a b).0 (sym (is_eq-slice_cmp a b) ∙ ap is_eq e)

turned : (a b : List ℕ) → compare a b ≡ Greater → compare b a ≡ Less
turned a b e = nat_list_cmp_total.antisymm b a ∙ ap ordering_reverse e

before_all : (a b : List ℕ) (ms : Members) → compare a b ≡ Less → IsBefore b ms → IsBefore a ms
before_all a b no_members less all = tt
before_all a b (member k d ms) less all = (nat_list_cmp_total.trans a b k less all.0, before_all a b ms less all.1)

-- ---- a member more

before_put_by : (o : Ordering) (a k l : List ℕ) (d e : Data) (ms : Members) → compare a k ≡ Less → compare a l ≡ Less → IsBefore a ms → IsBefore a (put k d ms)
    → IsBefore a (match_ordering o (member k d (member l e ms)) (member l d ms) (member l e (put k d ms)))
before_put_by Less a k l d e ms less first all rest = (less, (first, all))
before_put_by Equal a k l d e ms less first all rest = (first, all)
before_put_by Greater a k l d e ms less first all rest = (first, rest)

before_put : (a k : List ℕ) (d : Data) (ms : Members) → compare a k ≡ Less → IsBefore a ms → IsBefore a (put k d ms)
before_put a k d no_members less all = (less, tt)
before_put a k d (member l e ms) less all = before_put_by (compare k l) a k l d e ms less all.0 all.1 (before_put a k d ms less all.1)

rising_put_by : (o : Ordering) (k l : List ℕ) (d e : Data) (ms : Members) → compare k l ≡ o → IsBefore l ms → AreRising ms → AreRising (put k d ms)
    → AreRising (match_ordering o (member k d (member l e ms)) (member l d ms) (member l e (put k d ms)))
rising_put_by Less k l d e ms is first all rest = ((is, before_all k l ms is first), (first, all))
rising_put_by Equal k l d e ms is first all rest = (first, all)
rising_put_by Greater k l d e ms is first all rest = (before_put l k d ms (turned k l is) first, rest)

-- names still rise with one that is put among them
pub rising_put : (k : List ℕ) (d : Data) (ms : Members) → AreRising ms → AreRising (put k d ms)
rising_put k d no_members all = (tt, tt)
rising_put k d (member l e ms) all = rising_put_by (compare k l) k l d e ms refl all.0 all.1 (rising_put k d ms all.1)

-- ---- what was read

members_rise : (js : json.Members) (found ms : Members) → AreRising found → of_members js found ≡ Some ms → AreRising ms
members_rise json.no_members found ms all e = subst AreRising (same_Some found ms e) all
members_rise (json.member k j js) found ms all e =
    option_and_then_some (λ d. of_members js (put k d found)) (of_json j) ms e (λ d is rest. members_rise js (put k d found) ms (rising_put k d found all) rest)

-- the members of data that is an object rise
abbrev pub RisesAtTop : Data → Type 0
RisesAtTop (object ms) = AreRising ms
RisesAtTop _ = Unit {0}

map_some : {A B : Type 0} (f : A → B) (o : Option A) (y : B) → option_map f o ≡ Some y → (x : A) × (o ≡ Some x) × (f x ≡ y)
map_some f (Some x) y e = (x, refl, same_Some (f x) y e)
map_some f None y e = absurd cc

json_rises : (j : json.Json) (d : Data) → of_json j ≡ Some d → RisesAtTop d
json_rises json.null d e = subst RisesAtTop (same_Some null d e) tt
json_rises (json.boolean b) d e = subst RisesAtTop (same_Some (boolean b) d e) tt
json_rises (json.number s) d e = let n = map_some number (number_of s) d e in subst RisesAtTop n.2 tt
json_rises (json.string s) d e = subst RisesAtTop (same_Some (string s) d e) tt
json_rises (json.array js) d e = let ds = map_some array (of_items js) d e in subst RisesAtTop ds.2 tt
json_rises (json.object js) d e =
    let ms = map_some object (of_members js no_members) d e in subst RisesAtTop ms.2 (members_rise js no_members ms.0 tt ms.1)

pub read_rises : (text : List ℕ) (d : Data) → read text ≡ Some d → RisesAtTop d
read_rises text d e =
    option_and_then_some of_json (option_and_then (λ p. json.if_last p.0 p.1) (json.value max_depth (tokens text))) d e (λ j is of. json_rises j d of)

-- ---- a member that is taken away

without_by : (o : Ordering) (a name k : List ℕ) (d : Data) (ms : Members) → compare a k ≡ Less → IsBefore a ms → IsBefore a (without name ms)
    → IsBefore a (match_ordering o (member k d (without name ms)) ms (member k d (without name ms)))
without_by Less a name k d ms first all rest = (first, rest)
without_by Equal a name k d ms first all rest = all
without_by Greater a name k d ms first all rest = (first, rest)

before_without : (a name : List ℕ) (ms : Members) → IsBefore a ms → IsBefore a (without name ms)
before_without a name no_members all = tt
before_without a name (member k d ms) all = without_by (compare name k) a name k d ms all.0 all.1 (before_without a name ms all.1)

rising_without_by : (o : Ordering) (name k : List ℕ) (d : Data) (ms : Members) → IsBefore k ms → AreRising ms → AreRising (without name ms)
    → AreRising (match_ordering o (member k d (without name ms)) ms (member k d (without name ms)))
rising_without_by Less name k d ms first all rest = (before_without k name ms first, rest)
rising_without_by Equal name k d ms first all rest = all
rising_without_by Greater name k d ms first all rest = (before_without k name ms first, rest)

pub rising_without : (name : List ℕ) (ms : Members) → AreRising ms → AreRising (without name ms)
rising_without name no_members all = tt
rising_without name (member k d ms) all = rising_without_by (compare name k) name k d ms all.0 all.1 (rising_without name ms all.1)

-- a name before all is not among them
none_before : (name : List ℕ) (ms : Members) → IsBefore name ms → get_member name ms ≡ None
none_before name no_members all = refl
none_before name (member k d ms) all = rw all.0 (none_before name ms all.1)

-- what is found behind a member of another name
skipped : (o : Ordering) (found : Option Data) (d : Data) → (o ≡ Equal → ⊥) → match_ordering o found (Some d) found ≡ found
skipped Less found d other = refl
skipped Equal found d other = absurd (other refl)
skipped Greater found d other = refl

less_not_equal : Less ≡ Equal → ⊥
less_not_equal e = cc

greater_not_equal : Greater ≡ Equal → ⊥
greater_not_equal e = cc

gone_by : (o : Ordering) (name k : List ℕ) (d : Data) (ms : Members) → compare name k ≡ o → IsBefore k ms → get_member name (without name ms) ≡ None
    → get_member name (match_ordering o (member k d (without name ms)) ms (member k d (without name ms))) ≡ None
gone_by Less name k d ms is first rest = skipped (compare name k) (get_member name (without name ms)) d (λ e. less_not_equal (sym is ∙ e)) ∙ rest
gone_by Equal name k d ms is first rest = none_before name ms (subst (λ (z : List ℕ). IsBefore z ms) (sym (same_name name k is)) first)
gone_by Greater name k d ms is first rest = skipped (compare name k) (get_member name (without name ms)) d (λ e. greater_not_equal (sym is ∙ e)) ∙ rest

-- it is gone
pub gone : (name : List ℕ) (ms : Members) → AreRising ms → get_member name (without name ms) ≡ None
gone name no_members all = refl
gone name (member k d ms) all = gone_by (compare name k) name k d ms refl all.0 (gone name ms all.1)

others_by : (o : Ordering) (q name k : List ℕ) (d : Data) (ms : Members) → compare name k ≡ o → (q ≡ name → ⊥) → get_member q (without name ms) ≡ get_member q ms
    → get_member q (match_ordering o (member k d (without name ms)) ms (member k d (without name ms))) ≡ get_member q (member k d ms)
others_by Less q name k d ms is other rest = ap (λ r. match_ordering (compare q k) r (Some d) r) rest
others_by Equal q name k d ms is other rest = sym (skipped (compare q k) (get_member q ms) d (λ e. other (same_name q k e ∙ sym (same_name name k is))))
others_by Greater q name k d ms is other rest = ap (λ r. match_ordering (compare q k) r (Some d) r) rest

-- the others stay
pub others : (q name : List ℕ) (ms : Members) → (q ≡ name → ⊥) → get_member q (without name ms) ≡ get_member q ms
others q name no_members other = refl
others q name (member k d ms) other = others_by (compare name k) q name k d ms refl other (others q name ms other)

-- ---- what is done twice

found_equal : (o : Ordering) (found : Option Data) (d : Data) → o ≡ Equal → match_ordering o found (Some d) found ≡ Some d
found_equal o found d is = rw is

some_none : (d : Data) → ◌≡◌ {A = Option Data} (Some d) None → ⊥
some_none d e = cc

none_behind : (o : Ordering) (found : Option Data) (d : Data) → match_ordering o found (Some d) found ≡ None → found ≡ None
none_behind Less found d e = e
none_behind Equal found d e = absurd (some_none d e)
none_behind Greater found d e = e

absent_by : (o : Ordering) (name k : List ℕ) (d : Data) (ms : Members) → compare name k ≡ o → get_member name (member k d ms) ≡ None → without name ms ≡ ms
    → match_ordering o (member k d (without name ms)) ms (member k d (without name ms)) ≡ member k d ms
absent_by Less name k d ms is none rest = ap (member k d) rest
absent_by Equal name k d ms is none rest = absurd (some_none d (sym (found_equal (compare name k) (get_member name ms) d is) ∙ none))
absent_by Greater name k d ms is none rest = ap (member k d) rest

-- a member that isn't there is not taken away
pub absent : (name : List ℕ) (ms : Members) → get_member name ms ≡ None → without name ms ≡ ms
absent name no_members none = refl
absent name (member k d ms) none = absent_by (compare name k) name k d ms refl none (absent name ms (none_behind (compare name k) (get_member name ms) d none))

present_by : (o : Ordering) (k l : List ℕ) (d e : Data) (ms : Members) → compare k l ≡ o → IsBefore l ms → get_member k (member l e ms) ≡ Some d
    → (get_member k ms ≡ Some d → put k d ms ≡ ms) → match_ordering o (member k d (member l e ms)) (member l d ms) (member l e (put k d ms)) ≡ member l e ms
present_by Less k l d e ms is first found rest =
    let none = skipped (compare k l) (get_member k ms) e (λ same. less_not_equal (sym is ∙ same)) ∙ none_before k ms (before_all k l ms is first) in
    absurd (some_none d (sym found ∙ none))
present_by Equal k l d e ms is first found rest =
    let same : e ≡ d = same_Some e d (sym (found_equal (compare k l) (get_member k ms) e is) ∙ found) in
    ap (λ (z : Data). member l z ms) (sym same)
present_by Greater k l d e ms is first found rest =
    ap (member l e) (rest (sym (skipped (compare k l) (get_member k ms) e (λ same. greater_not_equal (sym is ∙ same))) ∙ found))

-- a member that stands there already is not put again
pub present : (k : List ℕ) (d : Data) (ms : Members) → AreRising ms → get_member k ms ≡ Some d → put k d ms ≡ ms
present k d no_members all found = absurd (some_none d (sym found))
present k d (member l e ms) all found = present_by (compare k l) k l d e ms refl all.0 found (λ here. present k d ms all.1 here)
