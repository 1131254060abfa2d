-- Options that stand side by side change places, and none is given twice.
use Rattle.std.proofs.Common.{◌≡◌, ℕ, Bool, true, false, if◌then◌else◌, List, ◌∷◌, Option, Some, None, is_some, codes, refl, ap, sym, ◌∙◌}
use Rattle.seata_types.specs.Orders.{same_text}
use Rattle.lab_words.specs.declared.limits.TheConstants.{MOST_SIZE, MOST_WORKERS}
use Rattle.lab_words.specs.Grammar.{◌>>=◌, Given, Spelling, is_folder, number_of, number_up_to, with_all, with_number, with_option, with_size, with_store, with_workers}

-- ---- what comes of a value, where one was read

abbrev pub nowhere : Option Given
nowhere = None

stopped : (t : Bool) (o : Option Given) → t ≡ true → nowhere ≡ (if t then None else o)
stopped true o e = refl
stopped false o e = absurd (let no : false ≡ true = e in cc)

goes_on : (t : Bool) (o : Option Given) → t ≡ false → (if t then None else o) ≡ o
goes_on true o e = absurd (let no : true ≡ false = e in cc)
goes_on false o e = refl

without : (t : Bool) → nowhere ≡ (if t then None else nowhere)
without true = refl
without false = refl

never : (o : Option Given) → nowhere ≡ (o >>= (λ (next : Given). nowhere))
never None = refl
never (Some g) = refl

alike : (o : Option Given) (f h : Given → Option Given) → ((g : Given) → f g ≡ h g) → (o >>= f) ≡ (o >>= h)
alike None f h e = refl
alike (Some g) f h e = e g

regrouped : (o : Option Given) (f h : Given → Option Given) → (o >>= (λ (g : Given). f g >>= h)) ≡ ((o >>= f) >>= h)
regrouped None f h = refl
regrouped (Some g) f h = refl

-- ---- a value that is put where none stands

abbrev put : {A : Type 0} → (Given → Bool) → (A → Given → Given) → Option A → Given → Option Given
put {A} had set value g = if had g then None else (value >>= (λ (a : A). Some (set a g)))

-- two that are put at different places
module _ {A B : Type 0} (p q : Given → Bool) (u : A → Given → Given) (v : B → Given → Given) (p_stays : (b : B) (g : Given) → p (v b g) ≡ p g)
    (q_stays : (a : A) (g : Given) → q (u a g) ≡ q g) (meet : (a : A) (b : B) (g : Given) → v b (u a g) ≡ u a (v b g)) (g : Given) where
  by_tests : (s t : Bool) → p g ≡ s → q g ≡ t → (m : Option A) (n : Option B)
      → ((if s then None else (m >>= (λ (a : A). Some (u a g)))) >>= (λ (h : Given). put q v n h))
      ≡ ((if t then None else (n >>= (λ (b : B). Some (v b g)))) >>= (λ (h : Given). put p u m h))
  by_tests true true e d m n = refl
  by_tests true false e d m None = refl
  by_tests true false e d m (Some b) = stopped (p (v b g)) (m >>= (λ (a : A). Some (u a (v b g)))) (p_stays b g ∙ e)
  by_tests false true e d None n = refl
  by_tests false true e d (Some a) n = sym (stopped (q (u a g)) (n >>= (λ (b : B). Some (v b (u a g)))) (q_stays a g ∙ d))
  by_tests false false e d None None = refl
  by_tests false false e d None (Some b) = without (p (v b g))
  by_tests false false e d (Some a) None = sym (without (q (u a g)))
  by_tests false false e d (Some a) (Some b) =
      goes_on (q (u a g)) (Some (v b (u a g))) (q_stays a g ∙ d) ∙ ap (λ (h : Given). Some h) (meet a b g) ∙ sym (goes_on (p (v b g)) (Some (u a (v b g))) (p_stays b g ∙ e))

  swapped : (m : Option A) (n : Option B) → (put p u m g >>= (λ (h : Given). put q v n h)) ≡ (put q v n g >>= (λ (h : Given). put p u m h))
  swapped m n = by_tests (p g) (q g) refl refl m n

-- two that are put at one place
module _ {A : Type 0} (p : Given → Bool) (u : A → Given → Given) (p_holds : (a : A) (g : Given) → p (u a g) ≡ true) (g : Given) where
  by_test : (s : Bool) (m n : Option A) → nowhere ≡ ((if s then None else (m >>= (λ (a : A). Some (u a g)))) >>= (λ (h : Given). put p u n h))
  by_test true m n = refl
  by_test false None n = refl
  by_test false (Some a) n = stopped (p (u a g)) (n >>= (λ (b : A). Some (u b (u a g)))) (p_holds a g)

  repeated : (m n : Option A) → (put p u m g >>= (λ (h : Given). put p u n h)) ≡ (put p u n g >>= (λ (h : Given). put p u m h))
  repeated m n = sym (by_test (p g) m n) ∙ by_test (p g) n m

-- ---- the four places

data Kind : Type 0 where
  stores : Kind
  numbers : Kind
  sizes : Kind
  counts : Kind
  others : Kind

abbrev has_store : Given → Bool
has_store g = is_some g.store

abbrev has_number : Given → Bool
has_number g = is_some g.number

abbrev has_size : Given → Bool
has_size g = is_some g.size

abbrev has_workers : Given → Bool
has_workers g = is_some g.workers

abbrev set_store : List ℕ → Given → Given
set_store text g = record g { store = Some text }

abbrev set_number : ℕ → Given → Given
set_number n g = record g { number = Some n }

abbrev set_size : ℕ → Given → Given
set_size n g = record g { size = Some n }

abbrev set_workers : ℕ → Given → Given
set_workers n g = record g { workers = Some n }

abbrev folder : List ℕ → Option (List ℕ)
folder text = if is_folder text then Some text else None

abbrev with_kind : Kind → List ℕ → Given → Option Given
with_kind stores text g = put has_store set_store (folder text) g
with_kind numbers text g = put has_number set_number (number_of text) g
with_kind sizes text g = put has_size set_size (number_up_to MOST_SIZE text) g
with_kind counts text g = put has_workers set_workers (number_up_to MOST_WORKERS text) g
with_kind others text g = None

abbrev kind_by : (a b d e : Bool) → Kind
kind_by a b d e = if a then stores else (if b then numbers else (if d then sizes else (if e then counts else others)))

abbrev kind_of : List ℕ → Kind
kind_of name = kind_by (same_text name (codes "--store")) (same_text name (codes "--number")) (same_text name (codes "--size")) (same_text name (codes "--workers"))

stores_is : (t s : Bool) (text : List ℕ) (g : Given)
    → (if t then None else (if s then Some (set_store text g) else None)) ≡ (if t then None else ((if s then Some text else None) >>= (λ (a : List ℕ). Some (set_store a g))))
stores_is true s text g = refl
stores_is false true text g = refl
stores_is false false text g = refl

by_names : (text : List ℕ) (g : Given) (a b d e : Bool)
    → (if a then with_store g text else (if b then with_number g text else (if d then with_size g text else (if e then with_workers g text else None))))
    ≡ with_kind (kind_by a b d e) text g
unfolding with_store with_number with_size with_workers
by_names text g true b d e = stores_is (has_store g) (is_folder text) text g
by_names text g false true d e = refl
by_names text g false false true e = refl
by_names text g false false false true = refl
by_names text g false false false false = refl

with_is : (name text : List ℕ) (g : Given) → with_option g name text ≡ with_kind (kind_of name) text g
unfolding with_option
with_is name text g = by_names text g (same_text name (codes "--store")) (same_text name (codes "--number")) (same_text name (codes "--size")) (same_text name (codes "--workers"))

swapped_kinds : (j k : Kind) (s t : List ℕ) (g : Given) → (with_kind j s g >>= (λ (h : Given). with_kind k t h)) ≡ (with_kind k t g >>= (λ (h : Given). with_kind j s h))
swapped_kinds others k s t g = never (with_kind k t g)
swapped_kinds stores stores s t g = repeated has_store set_store (λ a h. refl) g (folder s) (folder t)
swapped_kinds stores numbers s t g = swapped has_store has_number set_store set_number (λ b h. refl) (λ a h. refl) (λ a b h. refl) g (folder s) (number_of t)
swapped_kinds stores sizes s t g = swapped has_store has_size set_store set_size (λ b h. refl) (λ a h. refl) (λ a b h. refl) g (folder s) (number_up_to MOST_SIZE t)
swapped_kinds stores counts s t g = swapped has_store has_workers set_store set_workers (λ b h. refl) (λ a h. refl) (λ a b h. refl) g (folder s) (number_up_to MOST_WORKERS t)
swapped_kinds stores others s t g = sym (never (with_kind stores s g))
swapped_kinds numbers stores s t g = swapped has_number has_store set_number set_store (λ b h. refl) (λ a h. refl) (λ a b h. refl) g (number_of s) (folder t)
swapped_kinds numbers numbers s t g = repeated has_number set_number (λ a h. refl) g (number_of s) (number_of t)
swapped_kinds numbers sizes s t g = swapped has_number has_size set_number set_size (λ b h. refl) (λ a h. refl) (λ a b h. refl) g (number_of s) (number_up_to MOST_SIZE t)
swapped_kinds numbers counts s t g = swapped has_number has_workers set_number set_workers (λ b h. refl) (λ a h. refl) (λ a b h. refl) g (number_of s) (number_up_to MOST_WORKERS t)
swapped_kinds numbers others s t g = sym (never (with_kind numbers s g))
swapped_kinds sizes stores s t g = swapped has_size has_store set_size set_store (λ b h. refl) (λ a h. refl) (λ a b h. refl) g (number_up_to MOST_SIZE s) (folder t)
swapped_kinds sizes numbers s t g = swapped has_size has_number set_size set_number (λ b h. refl) (λ a h. refl) (λ a b h. refl) g (number_up_to MOST_SIZE s) (number_of t)
swapped_kinds sizes sizes s t g = repeated has_size set_size (λ a h. refl) g (number_up_to MOST_SIZE s) (number_up_to MOST_SIZE t)
swapped_kinds sizes counts s t g = swapped has_size has_workers set_size set_workers (λ b h. refl) (λ a h. refl) (λ a b h. refl) g (number_up_to MOST_SIZE s) (number_up_to MOST_WORKERS t)
swapped_kinds sizes others s t g = sym (never (with_kind sizes s g))
swapped_kinds counts stores s t g = swapped has_workers has_store set_workers set_store (λ b h. refl) (λ a h. refl) (λ a b h. refl) g (number_up_to MOST_WORKERS s) (folder t)
swapped_kinds counts numbers s t g = swapped has_workers has_number set_workers set_number (λ b h. refl) (λ a h. refl) (λ a b h. refl) g (number_up_to MOST_WORKERS s) (number_of t)
swapped_kinds counts sizes s t g = swapped has_workers has_size set_workers set_size (λ b h. refl) (λ a h. refl) (λ a b h. refl) g (number_up_to MOST_WORKERS s) (number_up_to MOST_SIZE t)
swapped_kinds counts counts s t g = repeated has_workers set_workers (λ a h. refl) g (number_up_to MOST_WORKERS s) (number_up_to MOST_WORKERS t)
swapped_kinds counts others s t g = sym (never (with_kind counts s g))

once_each : (k : Kind) (s t : List ℕ) (g : Given) → nowhere ≡ (with_kind k s g >>= (λ (h : Given). with_kind k t h))
once_each stores s t g = by_test has_store set_store (λ a h. refl) g (has_store g) (folder s) (folder t)
once_each numbers s t g = by_test has_number set_number (λ a h. refl) g (has_number g) (number_of s) (number_of t)
once_each sizes s t g = by_test has_size set_size (λ a h. refl) g (has_size g) (number_up_to MOST_SIZE s) (number_up_to MOST_SIZE t)
once_each counts s t g = by_test has_workers set_workers (λ a h. refl) g (has_workers g) (number_up_to MOST_WORKERS s) (number_up_to MOST_WORKERS t)
once_each others s t g = refl

both : (first second : Spelling) (g : Given)
    → (with_option g first.0 first.1 >>= (λ (h : Given). with_option h second.0 second.1))
    ≡ (with_kind (kind_of first.0) first.1 g >>= (λ (h : Given). with_kind (kind_of second.0) second.1 h))
both first second g =
    ap (λ (o : Option Given). o >>= (λ (h : Given). with_option h second.0 second.1)) (with_is first.0 first.1 g)
    ∙ alike (with_kind (kind_of first.0) first.1 g) (λ h. with_option h second.0 second.1) (λ h. with_kind (kind_of second.0) second.1 h) (with_is second.0 second.1)

pub any_order : (first second : Spelling) (more : List Spelling) (g : Given) → with_all (first ∷ second ∷ more) g ≡ with_all (second ∷ first ∷ more) g
any_order first second more g =
    let rest : Given → Option Given = λ h. with_all more h in
    regrouped (with_option g first.0 first.1) (λ h. with_option h second.0 second.1) rest
    ∙ ap (λ (o : Option Given). o >>= rest) (both first second g ∙ swapped_kinds (kind_of first.0) (kind_of second.0) first.1 second.1 g ∙ sym (both second first g))
    ∙ sym (regrouped (with_option g second.0 second.1) (λ h. with_option h first.0 first.1) rest)

pub only_once : (name one other : List ℕ) (more : List Spelling) (g : Given) → with_all ((name, one) ∷ (name, other) ∷ more) g ≡ nowhere
only_once name one other more g =
    let rest : Given → Option Given = λ h. with_all more h in
    regrouped (with_option g name one) (λ h. with_option h name other) rest
    ∙ ap (λ (o : Option Given). o >>= rest) (both (name, one) (name, other) g ∙ sym (once_each (kind_of name) one other g))
