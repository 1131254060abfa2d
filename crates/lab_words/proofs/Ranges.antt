-- The sizes and threads that are asked for are in their ranges.
use Rattle.std.proofs.Common.{◌≡◌, ℕ, ◌&&◌, nat_le, nat_lt, Bool, true, false, if◌then◌else◌, List, [], ◌∷◌, Option, Some, None, is_some, unwrap_or, codes, refl, subst, arith}
use Rattle.std.proofs.lemmas.Bool.Decides.{nat_tests}
use Rattle.std.proofs.lemmas.Option.{same_Some}
use Rattle.seata_types.specs.Orders.{same_text}
use Rattle.lab_words.specs.declared.limits.TheConstants.{MOST_SIZE, MOST_WORKERS, USUAL_WORKERS}
use Rattle.lab_words.specs.declared.orders.Order.{Order}
use Rattle.lab_words.specs.declared.orders.Order.TheVariants as order
use Rattle.lab_words.specs.declared.orders.Word.{Word}
use Rattle.lab_words.specs.declared.orders.Word.TheVariants as word
use Rattle.lab_words.specs.Grammar.{◌>>=◌, Given, IsCount, IsInRange, Spelling, asked, asked_by, form_of, is_folder, keep_all, nothing, number_of, number_up_to, options_of, order_by, spelt, with_all, with_number, with_option, with_size, with_store, with_workers, word_of, workers_in}

none_some : {A : Type 0} {a : A} → None ≡ Some a → ⊥
none_some e = cc

-- what was read first, and next
record Bound {A B : Type 0} (o : Option A) (f : A → Option B) (b : B) : Type 0 where
  value : A
  first : o ≡ Some value
  next : f value ≡ Some b

bound : {A B : Type 0} (o : Option A) (f : A → Option B) (b : B) → (o >>= f) ≡ Some b → Bound o f b
bound None f b e = absurd (none_some e)
bound (Some a) f b e = record { value = a; first = refl; next = e }

either : {A P : Type 0} (t : Bool) (x y : Option A) (z : A) → (x ≡ Some z → P) → (y ≡ Some z → P) → (if t then x else y) ≡ Some z → P
either true x y z one other e = one e
either false x y z one other e = other e

-- ---- numbers

in_range : (most m n : ℕ) → (if nat_lt 0 m && nat_le m most then Some m else None) ≡ Some n → IsCount most n
in_range most m n e = by (nat_lt 0 m) (nat_le m most) refl refl e
  where
    by : (a b : Bool) → nat_lt 0 m ≡ a → nat_le m most ≡ b → (if a && b then Some m else None) ≡ Some n → IsCount most n
    by true true p q e = let same : m ≡ n = same_Some m n e in (grind (arith, nat_tests), grind (arith, nat_tests))
    by true false p q e = absurd (none_some e)
    by false b p q e = absurd (none_some e)

counted : (most : ℕ) (text : List ℕ) (n : ℕ) → number_up_to most text ≡ Some n → IsCount most n
unfolding number_up_to
counted most text n e =
    let b = bound (number_of text) (λ (n : ℕ). if nat_lt 0 n && nat_le n most then Some n else None) n e in
    in_range most b.value n b.next

-- ---- values

record IsKept (g : Given) : Type 0 where
  size : (n : ℕ) → g.size ≡ Some n → IsCount MOST_SIZE n
  workers : (n : ℕ) → g.workers ≡ Some n → IsCount MOST_WORKERS n

module _ (g h : Given) (text : List ℕ) (k : IsKept g) where
  store_kept : with_store g text ≡ Some h → IsKept h
  unfolding with_store
  store_kept e =
      either (is_some g.store) None (if is_folder text then Some (record g { store = Some text }) else None) h (λ no. absurd (none_some no))
      (either (is_folder text) (Some (record g { store = Some text })) None h
      (λ same. subst IsKept (same_Some _ h same) (record { size = k.size; workers = k.workers })) (λ no. absurd (none_some no))) e

  number_kept : with_number g text ≡ Some h → IsKept h
  unfolding with_number
  number_kept e =
      either (is_some g.number) None (number_of text >>= (λ (n : ℕ). Some (record g { number = Some n }))) h (λ no. absurd (none_some no))
      (λ found. let b = bound (number_of text) (λ (n : ℕ). Some (record g { number = Some n })) h found in
      subst IsKept (same_Some _ h b.next) (record { size = k.size; workers = k.workers })) e

  size_kept : with_size g text ≡ Some h → IsKept h
  unfolding with_size
  size_kept e =
      either (is_some g.size) None (number_up_to MOST_SIZE text >>= (λ (n : ℕ). Some (record g { size = Some n }))) h (λ no. absurd (none_some no))
      (λ found. let b = bound (number_up_to MOST_SIZE text) (λ (n : ℕ). Some (record g { size = Some n })) h found in
      subst IsKept (same_Some _ h b.next)
      (record { size = λ n is. subst (IsCount MOST_SIZE) (same_Some b.value n is) (counted MOST_SIZE text b.value b.first); workers = k.workers })) e

  workers_kept : with_workers g text ≡ Some h → IsKept h
  unfolding with_workers
  workers_kept e =
      either (is_some g.workers) None (number_up_to MOST_WORKERS text >>= (λ (n : ℕ). Some (record g { workers = Some n }))) h (λ no. absurd (none_some no))
      (λ found. let b = bound (number_up_to MOST_WORKERS text) (λ (n : ℕ). Some (record g { workers = Some n })) h found in
      subst IsKept (same_Some _ h b.next)
      (record { size = k.size; workers = λ n is. subst (IsCount MOST_WORKERS) (same_Some b.value n is) (counted MOST_WORKERS text b.value b.first) })) e

  option_kept : (name : List ℕ) → with_option g name text ≡ Some h → IsKept h
  unfolding with_option
  option_kept name e =
      either (same_text name (codes "--store")) (with_store g text)
      (if same_text name (codes "--number") then with_number g text else (if same_text name (codes "--size") then with_size g text else (if same_text name (codes "--workers") then with_workers g text else None))) h store_kept
      (either (same_text name (codes "--number")) (with_number g text)
      (if same_text name (codes "--size") then with_size g text else (if same_text name (codes "--workers") then with_workers g text else None)) h number_kept
      (either (same_text name (codes "--size")) (with_size g text)
      (if same_text name (codes "--workers") then with_workers g text else None) h size_kept
      (either (same_text name (codes "--workers")) (with_workers g text) None h workers_kept (λ no. absurd (none_some no))))) e

all_kept : (all : List Spelling) (g h : Given) → IsKept g → with_all all g ≡ Some h → IsKept h
all_kept [] g h k e = subst IsKept (same_Some g h e) k
all_kept (first ∷ more) g h k e =
    let b = bound (with_option g first.0 first.1) (λ (next : Given). with_all more next) h e in
    all_kept more b.value h (option_kept g b.value first.1 k first.0 b.first) b.next

kept_nothing : IsKept nothing
kept_nothing = record { size = λ n e. absurd (none_some e); workers = λ n e. absurd (none_some e) }

words_kept : (words : List (List ℕ)) (g : Given) → options_of words ≡ Some g → IsKept g
unfolding options_of
words_kept words g e =
    let b = bound (spelt words None) (λ (all : List Spelling). with_all all nothing) g e in
    all_kept b.value nothing g kept_nothing b.next

-- ---- what is asked for

workers_counted : (g : Given) → IsKept g → IsCount MOST_WORKERS (workers_in g)
workers_counted g k = by g.workers refl
  where
    by : (o : Option ℕ) → g.workers ≡ o → IsCount MOST_WORKERS (unwrap_or o USUAL_WORKERS)
    by None e = (omega arith, omega arith)
    by (Some n) e = k.workers n e

asked_in_range : (w : Word) (g : Given) (o : Order) → IsKept g → asked_by w g ≡ Some o → IsInRange o
unfolding asked_by
asked_in_range word.Replay g o k e = subst IsInRange (same_Some order.Replay o e) tt
asked_in_range word.Frames g o k e = subst IsInRange (same_Some order.Frames o e) tt
asked_in_range word.Run g o k e = subst IsInRange (same_Some (order.Run (workers_in g)) o e) (workers_counted g k)
asked_in_range word.Make g o k e =
    let b = bound g.number (λ (n : ℕ). g.size >>= (λ (z : ℕ). Some (order.Make n z))) o e in
    let d = bound g.size (λ (z : ℕ). Some (order.Make b.value z)) o b.next in
    subst IsInRange (same_Some (order.Make b.value d.value) o d.next) (k.size d.value d.first)
asked_in_range word.Stress g o k e =
    let b = bound g.number (λ (n : ℕ). g.size >>= (λ (z : ℕ). Some (order.Stress n z (workers_in g)))) o e in
    let d = bound g.size (λ (z : ℕ). Some (order.Stress b.value z (workers_in g))) o b.next in
    subst IsInRange (same_Some (order.Stress b.value d.value (workers_in g)) o d.next) (k.size d.value d.first, workers_counted g k)
asked_in_range word.Audit g o k e = subst IsInRange (same_Some order.Audit o e) tt
asked_in_range word.Show g o k e = subst IsInRange (same_Some order.Show o e) tt

order_in_range : (w : Word) (g : Given) (o : Order) → IsKept g → order_by w g ≡ Some o → IsInRange o
unfolding order_by
order_in_range w g o k e = either (keep_all (form_of w) g) (asked_by w g) None o (asked_in_range w g o k) (λ no. absurd (none_some no)) e

first_in_range : (x a : Order × Given) → Some x ≡ Some a → IsInRange x.0 → IsInRange a.0
first_in_range x a e h = subst (λ (z : Order × Given). IsInRange z.0) (same_Some x a e) h

pub words_in_range : (words : List (List ℕ)) (a : Order × Given) → asked words ≡ Some a → IsInRange a.0
unfolding asked
words_in_range [] a e = absurd (none_some e)
words_in_range (first ∷ rest) a e =
    let b = bound (word_of first) (λ (w : Word). options_of rest >>= (λ (g : Given). order_by w g >>= (λ (o : Order). Some (o, g)))) a e in
    let d = bound (options_of rest) (λ (g : Given). order_by b.value g >>= (λ (o : Order). Some (o, g))) a b.next in
    let f = bound (order_by b.value d.value) (λ (o : Order). Some (o, d.value)) a d.next in
    first_in_range (f.value, d.value) a f.next (order_in_range b.value d.value f.value (words_kept rest d.value d.first) f.first)
