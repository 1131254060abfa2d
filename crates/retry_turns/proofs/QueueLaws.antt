-- What a queue has, before and after an item is put in or taken out, and what comes first of it.
use Rattle.std.proofs.Common.{◌≡◌, ℕ, ◌<◌, ◌≤◌, Bool, true, false, cond, ◌||◌, ◌&&◌, ◌==◌, [], ◌∷◌, Option, Some, None, Ordering, Less, Equal, Greater, refl, sym, ap, ◌∙◌, true≢false, rules, arith}
use Rattle.std.specs.Prelude.{nat_lt, IsSome, IfSome, slice_index_or}
use Rattle.std.specs.List.{list_any}
use Rattle.std.specs.List.Sorted.{IsPermutation}
use Rattle.std.specs.BinaryHeap.{IsUpperBound}
use Rattle.std.specs.declared.cmp.Reverse.{Reverse}
use Rattle.std.specs.Ordering.{nat_cmp, ordering_then, is_lt}
use Rattle.std.specs.Cmp.{unsigned_tied}
use Rattle.std.proofs.lemmas.Bool.{eqb-true, ltb-false, and_parts}
use Rattle.std.proofs.lemmas.Bool.Decides.{nat_tests}
use Rattle.std.proofs.lemmas.List.Sorted.{list_any-IsPermutation}
use Rattle.retry_turns.specs.Plans.{Plans, moment_of, goes_before}
use Rattle.retry_turns.specs.Queues.{Queue, queue_cmp, is_item, has, first_of, IsLeast, Keeps, Awaits}

-- ---- nothing goes before the greatest item of a heap

before_by : (less tie : Bool) (o : Ordering) (below : Bool) → is_lt o ≡ below → is_lt (ordering_then (cond less Less (cond tie Equal Greater)) o) ≡ (less || (tie && below))
before_by true tie o below is = refl
before_by false true o below is = is
before_by false false o below is = refl

lt_by : (less tie : Bool) → is_lt (cond less Less (cond tie Equal Greater)) ≡ less
lt_by true tie = refl
lt_by false true = refl
lt_by false false = refl

compared : (m x n y : ℕ) → is_lt (ordering_then (nat_cmp m n) (nat_cmp x y)) ≡ goes_before m x n y
compared m x n y = before_by (nat_lt m n) (m == n) (nat_cmp x y) (nat_lt x y) (lt_by (nat_lt x y) (x == y))

same_item : (item : Reverse (ℕ × ℕ)) (moment x : ℕ) → is_item moment x item ≡ true → item.0 ≡ (moment, x)
same_item item moment x is =
    let parts = and_parts (item.0.0 == moment) (item.0.1 == x) is in
    let at : item.0.0 ≡ moment = eqb-true item.0.0 moment parts.0 in
    let of : item.0.1 ≡ x = eqb-true item.0.1 x parts.1 in
    λ i. (at i, of i)

not_before : (top item : Reverse (ℕ × ℕ)) (moment x : ℕ) (b rest : Bool) → is_item moment x item ≡ b → (b || rest) ≡ true → is_lt (queue_cmp top item) ≡ false →
    (rest ≡ true → goes_before moment x top.0.0 top.0.1 ≡ false) → goes_before moment x top.0.0 top.0.1 ≡ false
not_before top item moment x true rest is has low later =
    ap (λ (p : ℕ × ℕ). goes_before p.0 p.1 top.0.0 top.0.1) (sym (same_item item moment x is)) ∙ sym (compared item.0.0 item.0.1 top.0.0 top.0.1) ∙ low
not_before top item moment x false rest is has low later = later has

pub is_least : (top : Reverse (ℕ × ℕ)) (queue : Queue) → IsUpperBound queue_cmp top queue → IsLeast top.0 queue
is_least top [] bound x moment has = absurd (true≢false (sym has))
is_least top (item ∷ items) bound x moment has =
    not_before top item moment x (is_item moment x item) (list_any (is_item moment x) items) refl has bound.0 (is_least top items bound.1 x moment)

-- ---- an item that is put in or taken out

pub has_pushed : (old new : Queue) (item : Reverse (ℕ × ℕ)) (moment x : ℕ) → IsPermutation (item ∷ old) new → has new moment x ≡ (is_item moment x item || has old moment x)
has_pushed old new item moment x moved = sym (list_any-IsPermutation (is_item moment x) (item ∷ old) new moved)

itself : (moment x : ℕ) → ((moment == moment) && (x == x)) ≡ true
itself moment x = grind (arith, nat_tests)

other_by : (ps : Plans) (item : Reverse (ℕ × ℕ)) (x moment : ℕ) (b rest : Bool) → is_item moment x item ≡ b → (moment_of ps item.0.1 ≡ Some item.0.0 → ⊥) → moment_of ps x ≡ Some moment → (b || rest) ≡ true → rest ≡ true
other_by ps item x moment true rest is stale planned has =
    absurd (stale (ap (λ (p : ℕ × ℕ). moment_of ps p.1) (same_item item moment x is) ∙ planned ∙ ap (λ (p : ℕ × ℕ). Some p.0) (sym (same_item item moment x is))))
other_by ps item x moment false rest is stale planned has = has

-- without an item whose plan doesn't stand, a queue has the same plans
pub has_popped : (ps : Plans) (old new : Queue) (item : Reverse (ℕ × ℕ)) → IsPermutation old (item ∷ new) → (moment_of ps item.0.1 ≡ Some item.0.0 → ⊥) →
    ((x moment : ℕ) → moment_of ps x ≡ Some moment → has old moment x ≡ true) → (x moment : ℕ) → moment_of ps x ≡ Some moment → has new moment x ≡ true
has_popped ps old new item moved stale there x moment planned =
    other_by ps item x moment (is_item moment x item) (has new moment x) refl stale planned
    (sym (list_any-IsPermutation (is_item moment x) old (item ∷ new) moved) ∙ there x moment planned)

-- what was taken out is what came first
pub popped_first : (old new : Queue) (o : Option (Reverse (ℕ × ℕ))) (p : ℕ × ℕ) → first_of old ≡ Some p → IsSome o → IfSome o (λ x. x ≡ slice_index_or old 0 x) → IfSome o (λ x. IsPermutation old (x ∷ new)) →
    IsPermutation old (record { 0 = p } ∷ new)
popped_first [] new o p first some top moved = absurd cc
popped_first (item ∷ items) new None p first some top moved = absurd (search rules)
popped_first (item ∷ items) new (Some x) p first some top moved =
    let is : item.0 ≡ p = cc in
    let same : x ≡ record { 0 = p } = top ∙ (λ i. record { 0 = is i }) in
    rw (← same) moved

or_true : (a : Bool) → (a || true) ≡ true
or_true true = refl
or_true false = refl

put_by : (ps : Plans) (at number y n : ℕ) (b before : Bool) → (y == number) ≡ b → moment_of ps number ≡ Some at → moment_of ps y ≡ Some n → ((y == number) ≡ false → before ≡ true) →
    (((at == n) && (number == y)) || before) ≡ true
put_by ps at number y n true before same planned also others =
    let one : y ≡ number = eqb-true y number same in
    let moments : at ≡ n = (let same_moment : Some at ≡ Some n = sym planned ∙ ap (λ (z : ℕ). moment_of ps z) (sym one) ∙ also in cc) in
    rw (moments, one, itself n number) refl
put_by ps at number y n false before other planned also others = rw (others other) (or_true ((at == n) && (number == y)))

-- with the item that it awaited, a queue has every plan
pub has_put : (ps : Plans) (number at : ℕ) (old new : Queue) (room : ℕ) (item : Reverse (ℕ × ℕ)) → Awaits ps number at old room → item.0 ≡ (at, number) → IsPermutation (item ∷ old) new →
    (y n : ℕ) → moment_of ps y ≡ Some n → has new n y ≡ true
has_put ps number at old new room item waits is moved y n planned =
    has_pushed old new item n y moved ∙ ap (λ (p : ℕ × ℕ). ((p.0 == n) && (p.1 == y)) || has old n y) is ∙
    put_by ps at number y n (y == number) (has old n y) refl waits.planned planned (λ other. waits.others y n planned other)

-- ---- a queue that is made of the plans

abbrev pub is_plan : (moment x : ℕ) → ℕ × ℕ → Bool
is_plan moment x plan = (plan.1 == moment) && (plan.0 == x)

picked : (p : ℕ × ℕ) (x moment : ℕ) (b rest : Bool) (o : Option ℕ) → (x == p.0) ≡ b → cond b (Some p.1) o ≡ Some moment → (o ≡ Some moment → rest ≡ true) → (is_plan moment x p || rest) ≡ true
picked p x moment true rest o same is later =
    let at : p.1 ≡ moment = cc in
    let of : x ≡ p.0 = eqb-true x p.0 same in
    rw (at, of, itself moment p.0) refl
picked p x moment false rest o same is later = rw (later is) (or_true (is_plan moment x p))

pub is_among : (ps : Plans) (x moment : ℕ) → moment_of ps x ≡ Some moment → list_any (is_plan moment x) ps ≡ true
is_among [] x moment is = absurd cc
is_among (p ∷ ps) x moment is =
    picked p x moment (x == p.0) (list_any (is_plan moment x) ps) (moment_of ps x) refl (ap (λ (b : Bool). cond b (Some p.1) (moment_of ps x)) (sym (unsigned_tied x p.0)) ∙ is) (is_among ps x moment)

moved_over : (one before rest : Bool) → ((one || before) || rest) ≡ (before || (one || rest))
moved_over true true rest = refl
moved_over true false rest = refl
moved_over false true rest = refl
moved_over false false rest = refl

-- the next plan goes into the queue
pub has_more : (old new : Queue) (item : Reverse (ℕ × ℕ)) (plan : ℕ × ℕ) (left rest : Plans) (moment x : ℕ) {all : Bool} → item.0 ≡ (plan.1, plan.0) → IsPermutation (item ∷ old) new → left ≡ plan ∷ rest →
    (has old moment x || list_any (is_plan moment x) left) ≡ all → (has new moment x || list_any (is_plan moment x) rest) ≡ all
has_more old new item plan left rest moment x is moved next so_far =
    ap (λ (b : Bool). b || list_any (is_plan moment x) rest) (has_pushed old new item moment x moved ∙ ap (λ (p : ℕ × ℕ). ((p.0 == moment) && (p.1 == x)) || has old moment x) is) ∙
    moved_over (is_plan moment x plan) (has old moment x) (list_any (is_plan moment x) rest) ∙
    ap (λ (ps : Plans). has old moment x || list_any (is_plan moment x) ps) (sym next) ∙ so_far

or_none : (a : Bool) → (a || false) ≡ a
or_none true = refl
or_none false = refl

pub has_all : (queue : Queue) (ps left : Plans) → left ≡ [] → ((moment x : ℕ) → (has queue moment x || list_any (is_plan moment x) left) ≡ list_any (is_plan moment x) ps) →
    (x moment : ℕ) → moment_of ps x ≡ Some moment → has queue moment x ≡ true
has_all queue ps left none so_far x moment planned =
    sym (or_none (has queue moment x)) ∙ ap (λ (rest : Plans). has queue moment x || list_any (is_plan moment x) rest) (sym none) ∙ so_far moment x ∙ is_among ps x moment planned

-- ---- what is due

not_above : (n m : ℕ) (b rest : Bool) → nat_lt n m ≡ b → (b || rest) ≡ false → m ≤ n
not_above n m true rest is before = absurd (true≢false before)
not_above n m false rest is before = ltb-false n m is

-- nothing has come where the least moment hasn't
pub none_due : (ps : Plans) (queue : Queue) (room now at number : ℕ) → Keeps ps queue room → IsLeast (at, number) queue → now < at → (y n : ℕ) → moment_of ps y ≡ Some n → now < n
none_due ps queue room now at number keeps least later y n planned =
    let low : at ≤ n = not_above n at (nat_lt n at) ((n == at) && nat_lt y number) refl (least y n (keeps.there y n planned)) in
    omega (arith, later, low)

-- nothing is planned where the queue is empty
pub none_planned : (ps : Plans) (queue : Queue) (room now : ℕ) → Keeps ps queue room → first_of queue ≡ None → (y n : ℕ) → moment_of ps y ≡ Some n → now < n
none_planned ps [] room now keeps none y n planned = absurd (true≢false (sym (keeps.there y n planned)))
none_planned ps (item ∷ items) room now keeps none y n planned = absurd cc
