-- Open tickets that are apart: what is left without one of them, with one that stands first, and with a count.
use Rattle.std.proofs.Common.{◌≡◌, ◌≢◌, ◌+◌, ◌-◌, ◌≤◌, not, ℕ, Bool, true, false, cond, List, [], ◌∷◌, map, find, Option, Some, None, option_map, refl, ap, sym, subst, ◌∙◌, arith}
use Rattle.seata_types.specs.declared.ids.Ticket.{Ticket}
use Rattle.seata_types.specs.declared.rows.RowKey.{RowKey}
use Rattle.durable_records.specs.Branches.{same_ticket}
use Rattle.local_txn.specs.OpenTickets.{AreDistinct, Open, open_at, last_of, without, counting, has_row, ticket_with}
use Rattle.local_txn.specs.Answers.{ticket_of}
use Rattle.local_txn.specs.RowIndex.{IsCounted, AreApart, without_first}
use Rattle.local_txn.proofs.Tests.{true_false, none_some, one_ticket, ticket_itself, cond_true, cond_false}

-- ---- a ticket that is found

some_is : {A : Type 0} (a b : A) → Some a ≡ Some b → a ≡ b
some_is a b e = cc

-- the found one is the first with this ticket, or it is found behind it
pub found_ticket : (opens : List Open) (t : Ticket) (o : Open) → open_at opens t ≡ Some o → o.ticket ≡ t
found_ticket [] t o e = none_some e
found_ticket (x ∷ xs) t o e = by (found_ticket xs t o) (same_ticket x.ticket t) refl
  where
    by : (open_at xs t ≡ Some o → o.ticket ≡ t) → (b : Bool) → same_ticket x.ticket t ≡ b → o.ticket ≡ t
    by later true p = ap ticket_of (sym (some_is x o (sym (cond_true (same_ticket x.ticket t) (Some x) (open_at xs t) p) ∙ e))) ∙ one_ticket x.ticket t p
    by later false p = later (sym (cond_false (same_ticket x.ticket t) (Some x) (open_at xs t) p) ∙ e)

pub found_counted : (boot opened : ℕ) (opens : List Open) (t : Ticket) (o : Open) → AreApart boot opened opens → open_at opens t ≡ Some o → IsCounted boot opened o
found_counted boot opened [] t o a e = none_some e
found_counted boot opened (x ∷ xs) t o a e = by (found_counted boot opened xs t o a.0) (same_ticket x.ticket t) refl
  where
    by : (open_at xs t ≡ Some o → IsCounted boot opened o) → (b : Bool) → same_ticket x.ticket t ≡ b → IsCounted boot opened o
    by later true p = subst (IsCounted boot opened) (some_is x o (sym (cond_true (same_ticket x.ticket t) (Some x) (open_at xs t) p) ∙ e)) a.1.counted
    by later false p = later (sym (cond_false (same_ticket x.ticket t) (Some x) (open_at xs t) p) ∙ e)

-- a row that no open ticket has isn't one of a found ticket
pub found_free : (opens : List Open) (t : Ticket) (o : Open) (r : RowKey) → open_at opens t ≡ Some o → ticket_with opens r ≡ None → has_row r o ≡ false
found_free [] t o r e n = none_some e
found_free (x ∷ xs) t o r e n = by (found_free xs t o r) (has_row r x) refl (same_ticket x.ticket t) refl
  where
    by : (open_at xs t ≡ Some o → ticket_with xs r ≡ None → has_row r o ≡ false) → (h : Bool) → has_row r x ≡ h → (b : Bool) → same_ticket x.ticket t ≡ b → has_row r o ≡ false
    by later true h b p = none_some (sym n ∙ cond_true (has_row r x) (Some x) (ticket_with xs r) h)
    by later false h true p = ap (has_row r) (sym (some_is x o (sym (cond_true (same_ticket x.ticket t) (Some x) (open_at xs t) p) ∙ e))) ∙ h
    by later false h false p = later (sym (cond_false (same_ticket x.ticket t) (Some x) (open_at xs t) p) ∙ e) (sym (cond_false (has_row r x) (Some x) (ticket_with xs r) h) ∙ n)

-- ---- without a ticket

-- nothing goes where the ticket isn't open
pub without_none : (opens : List Open) (t : Ticket) → open_at opens t ≡ None → without opens t ≡ opens
without_none [] t e = refl
without_none (x ∷ xs) t e = by (without_none xs t) (same_ticket x.ticket t) refl
  where
    by : (open_at xs t ≡ None → without xs t ≡ xs) → (b : Bool) → same_ticket x.ticket t ≡ b → cond (not (same_ticket x.ticket t)) (x ∷ without xs t) (without xs t) ≡ x ∷ xs
    by later true p = none_some (sym e ∙ cond_true (same_ticket x.ticket t) (Some x) (open_at xs t) p)
    by later false p =
        ap (λ b. cond (not b) (x ∷ without xs t) (without xs t)) p
        ∙ ap (λ rest. x ∷ rest) (later (sym (cond_false (same_ticket x.ticket t) (Some x) (open_at xs t) p) ∙ e))

pub first_is_all : (opens : List Open) (t : Ticket) → AreDistinct opens → without_first t opens ≡ without opens t
first_is_all [] t d = refl
first_is_all (x ∷ xs) t d = by (first_is_all xs t d.0) (same_ticket x.ticket t) refl
  where
    by : without_first t xs ≡ without xs t → (b : Bool) → same_ticket x.ticket t ≡ b → cond (same_ticket x.ticket t) xs (x ∷ without_first t xs) ≡ cond (not (same_ticket x.ticket t)) (x ∷ without xs t) (without xs t)
    by later true p =
        let none : open_at xs t ≡ None = ap (open_at xs) (sym (one_ticket x.ticket t p)) ∙ d.1 in
        ap (λ b. cond b xs (x ∷ without_first t xs)) p ∙ sym (without_none xs t none) ∙ sym (ap (λ b. cond (not b) (x ∷ without xs t) (without xs t)) p)
    by later false p =
        ap (λ b. cond b xs (x ∷ without_first t xs)) p ∙ ap (λ rest. x ∷ rest) later ∙ sym (ap (λ b. cond (not b) (x ∷ without xs t) (without xs t)) p)

-- the last one is found at its ticket
pub last_found : (opens : List Open) → AreDistinct opens → (o : Open) → last_of opens ≡ Some o → open_at opens o.ticket ≡ Some o
last_found [] d o e = none_some e
last_found (x ∷ []) d o e =
    subst (λ (p : Open). open_at (x ∷ []) p.ticket ≡ Some p) (some_is x o e) (cond_true (same_ticket x.ticket x.ticket) (Some x) None (ticket_itself x.ticket))
last_found (x ∷ y ∷ ys) d o e = by (last_found (y ∷ ys) d.0 o e) (same_ticket x.ticket o.ticket) refl
  where
    by : open_at (y ∷ ys) o.ticket ≡ Some o → (b : Bool) → same_ticket x.ticket o.ticket ≡ b → cond (same_ticket x.ticket o.ticket) (Some x) (open_at (y ∷ ys) o.ticket) ≡ Some o
    by later true p =
        let none : open_at (y ∷ ys) o.ticket ≡ None = ap (open_at (y ∷ ys)) (sym (one_ticket x.ticket o.ticket p)) ∙ d.1 in none_some (sym none ∙ later)
    by later false p = cond_false (same_ticket x.ticket o.ticket) (Some x) (open_at (y ∷ ys) o.ticket) p ∙ later

pub distinct : (boot opened : ℕ) (opens : List Open) → AreApart boot opened opens → AreDistinct opens
distinct boot opened [] a = tt
distinct boot opened (x ∷ xs) a = (distinct boot opened xs a.0, a.1.once)

-- the ticket itself isn't open any more
pub gone : (opens : List Open) (t : Ticket) → open_at (without opens t) t ≡ None
gone [] t = refl
gone (x ∷ xs) t = by (gone xs t) (same_ticket x.ticket t) refl
  where
    by : open_at (without xs t) t ≡ None → (b : Bool) → same_ticket x.ticket t ≡ b → open_at (cond (not (same_ticket x.ticket t)) (x ∷ without xs t) (without xs t)) t ≡ None
    by later true p = ap (λ b. open_at (cond (not b) (x ∷ without xs t) (without xs t)) t) p ∙ later
    by later false p =
        ap (λ b. open_at (cond (not b) (x ∷ without xs t) (without xs t)) t) p
        ∙ cond_false (same_ticket x.ticket t) (Some x) (open_at (without xs t) t) p ∙ later

-- what no ticket is or has, none of those left is or has
none_left : (test : Open → Bool) (opens : List Open) (t : Ticket) → find test opens ≡ None → find test (without opens t) ≡ None
none_left test [] t e = refl
none_left test (x ∷ xs) t e = by (none_left test xs t) (same_ticket x.ticket t) refl (test x) refl
  where
    by : (find test xs ≡ None → find test (without xs t) ≡ None) → (b : Bool) → same_ticket x.ticket t ≡ b → (c : Bool) → test x ≡ c → find test (cond (not (same_ticket x.ticket t)) (x ∷ without xs t) (without xs t)) ≡ None
    by later b p true q = none_some (sym e ∙ cond_true (test x) (Some x) (find test xs) q)
    by later true p false q =
        ap (λ b. find test (cond (not b) (x ∷ without xs t) (without xs t))) p
        ∙ later (sym (cond_false (test x) (Some x) (find test xs) q) ∙ e)
    by later false p false q =
        ap (λ b. find test (cond (not b) (x ∷ without xs t) (without xs t))) p
        ∙ cond_false (test x) (Some x) (find test (without xs t)) q
        ∙ later (sym (cond_false (test x) (Some x) (find test xs) q) ∙ e)

pub apart_left : (boot opened : ℕ) (opens : List Open) (t : Ticket) → AreApart boot opened opens → AreApart boot opened (without opens t)
apart_left boot opened [] t a = tt
apart_left boot opened (x ∷ xs) t a = by (apart_left boot opened xs t a.0) (same_ticket x.ticket t)
  where
    by : AreApart boot opened (without xs t) → (b : Bool) → AreApart boot opened (cond (not b) (x ∷ without xs t) (without xs t))
    by later true = later
    by later false =
        (later, record { counted = a.1.counted; once = none_left (λ o. same_ticket o.ticket x.ticket) xs t a.1.once; alone = λ r h. none_left (has_row r) xs t (a.1.alone r h) })

-- whose a row is, once the ticket is gone
pub rows_left : (boot opened : ℕ) (opens : List Open) (t : Ticket) (o : Open) (r : RowKey) → AreApart boot opened opens → open_at opens t ≡ Some o
    → ticket_with (without opens t) r ≡ cond (has_row r o) None (ticket_with opens r)
rows_left boot opened [] t o r a e = none_some e
rows_left boot opened (x ∷ xs) t o r a e = by (rows_left boot opened xs t o r a.0) (same_ticket x.ticket t) refl
  where
    first : x ≡ o → same_ticket x.ticket t ≡ true → (h : Bool) → has_row r x ≡ h → ticket_with xs r ≡ cond h None (cond h (Some x) (ticket_with xs r))
    first same p true h = a.1.alone r h
    first same p false h = refl

    Rest : Type 0
    Rest = open_at xs t ≡ Some o → ticket_with (without xs t) r ≡ cond (has_row r o) None (ticket_with xs r)

    later : Rest → open_at xs t ≡ Some o → (h : Bool) → has_row r x ≡ h
        → cond h (Some x) (ticket_with (without xs t) r) ≡ cond (has_row r o) None (cond h (Some x) (ticket_with xs r))
    later rest f true h = sym (cond_false (has_row r o) None (Some x) (found_free xs t o r f (a.1.alone r h)))
    later rest f false h = rest f

    by : Rest → (b : Bool) → same_ticket x.ticket t ≡ b
        → ticket_with (cond (not (same_ticket x.ticket t)) (x ∷ without xs t) (without xs t)) r ≡ cond (has_row r o) None (cond (has_row r x) (Some x) (ticket_with xs r))
    by rest true p =
        let same : x ≡ o = some_is x o (sym (cond_true (same_ticket x.ticket t) (Some x) (open_at xs t) p) ∙ e) in
        let none : open_at xs t ≡ None = ap (open_at xs) (sym (one_ticket x.ticket t p)) ∙ a.1.once in
        ap (λ b. ticket_with (cond (not b) (x ∷ without xs t) (without xs t)) r) p
        ∙ ap (λ os. ticket_with os r) (without_none xs t none)
        ∙ first same p (has_row r x) refl
        ∙ ap (λ p. cond (has_row r p) None (cond (has_row r x) (Some x) (ticket_with xs r))) same
    by rest false p =
        let f : open_at xs t ≡ Some o = sym (cond_false (same_ticket x.ticket t) (Some x) (open_at xs t) p) ∙ e in
        ap (λ b. ticket_with (cond (not b) (x ∷ without xs t) (without xs t)) r) p
        ∙ later rest f (has_row r x) refl

-- the rows of an open ticket are its own
pub rows_of_found : (boot opened : ℕ) (opens : List Open) (t : Ticket) (o : Open) (r : RowKey) → AreApart boot opened opens → open_at opens t ≡ Some o
    → has_row r o ≡ true → ticket_with opens r ≡ Some o
rows_of_found boot opened [] t o r a e h = none_some e
rows_of_found boot opened (x ∷ xs) t o r a e h = by (rows_of_found boot opened xs t o r a.0) (same_ticket x.ticket t) refl (has_row r x) refl
  where
    by : (open_at xs t ≡ Some o → has_row r o ≡ true → ticket_with xs r ≡ Some o) → (b : Bool) → same_ticket x.ticket t ≡ b → (c : Bool) → has_row r x ≡ c → cond (has_row r x) (Some x) (ticket_with xs r) ≡ Some o
    by later true p c q =
        let same : x ≡ o = some_is x o (sym (cond_true (same_ticket x.ticket t) (Some x) (open_at xs t) p) ∙ e) in
        cond_true (has_row r x) (Some x) (ticket_with xs r) (ap (has_row r) same ∙ h) ∙ ap Some same
    by later false p true q =
        let f : open_at xs t ≡ Some o = sym (cond_false (same_ticket x.ticket t) (Some x) (open_at xs t) p) ∙ e in
        true_false (sym h ∙ found_free xs t o r f (a.1.alone r q))
    by later false p false q =
        let f : open_at xs t ≡ Some o = sym (cond_false (same_ticket x.ticket t) (Some x) (open_at xs t) p) ∙ e in
        cond_false (has_row r x) (Some x) (ticket_with xs r) q ∙ later f h

-- ---- a ticket that stands first

module _ (boot opened : ℕ) (opens : List Open) (t : Ticket) (o : Open) (a : AreApart boot opened opens) (e : open_at opens t ≡ Some o) where
  pub apart_again : AreApart boot opened (o ∷ without opens t)
  apart_again = (
    apart_left boot opened opens t a,
    record {
      counted = found_counted boot opened opens t o a e;
      once = ap (open_at (without opens t)) (found_ticket opens t o e) ∙ gone opens t;
      alone = λ r h. rows_left boot opened opens t o r a e ∙ cond_true (has_row r o) None (ticket_with opens r) h;
    },
  )

  pub rows_again : (r : RowKey) → ticket_with (o ∷ without opens t) r ≡ ticket_with opens r
  rows_again r = by (has_row r o) refl
    where
      by : (b : Bool) → has_row r o ≡ b → cond (has_row r o) (Some o) (ticket_with (without opens t) r) ≡ ticket_with opens r
      by true p = cond_true (has_row r o) (Some o) (ticket_with (without opens t) r) p ∙ sym (rows_of_found boot opened opens t o r a e p)
      by false p =
          cond_false (has_row r o) (Some o) (ticket_with (without opens t) r) p ∙ rows_left boot opened opens t o r a e
          ∙ cond_false (has_row r o) None (ticket_with opens r) p

-- ---- one more ticket

counted_more : (boot opened : ℕ) (o : Open) → IsCounted boot opened o → IsCounted boot (opened + 1) o
counted_more boot opened o c = let s = c.within in record { of_boot = c.of_boot; least = c.least; within = omega arith }

apart_more : (boot opened : ℕ) (opens : List Open) → AreApart boot opened opens → AreApart boot (opened + 1) opens
apart_more boot opened [] a = tt
apart_more boot opened (x ∷ xs) a = (apart_more boot opened xs a.0, record { counted = counted_more boot opened x a.1.counted; once = a.1.once; alone = a.1.alone })

-- the next ticket isn't open
next_differs : (boot opened : ℕ) (o : Open) (t : Ticket) → IsCounted boot opened o → t.seq ≡ opened + 1 → o.ticket ≡ t → ⊥
next_differs boot opened o t c s e = let q : o.ticket.seq ≡ t.seq = ap (λ u. u.seq) e in let k = c.within in omega arith

pub next_not_open : (boot opened : ℕ) (opens : List Open) (t : Ticket) → AreApart boot opened opens → t.seq ≡ opened + 1 → open_at opens t ≡ None
next_not_open boot opened [] t a s = refl
next_not_open boot opened (x ∷ xs) t a s = by (next_not_open boot opened xs t a.0 s) (same_ticket x.ticket t) refl
  where
    by : open_at xs t ≡ None → (b : Bool) → same_ticket x.ticket t ≡ b → cond (same_ticket x.ticket t) (Some x) (open_at xs t) ≡ None
    by later true p = absurd (next_differs boot opened x t a.1.counted s (one_ticket x.ticket t p))
    by later false p = cond_false (same_ticket x.ticket t) (Some x) (open_at xs t) p ∙ later

pub apart_opened : (boot opened : ℕ) (opens : List Open) (o : Open) → AreApart boot opened opens → o.ticket.boot ≡ boot → o.ticket.seq ≡ opened + 1
    → ((r : RowKey) → has_row r o ≡ true → ticket_with opens r ≡ None) → AreApart boot (opened + 1) (o ∷ opens)
apart_opened boot opened opens o a b s free = (
  apart_more boot opened opens a,
  record {
    counted = record { of_boot = b; least = omega arith; within = omega arith };
    once = next_not_open boot opened opens o.ticket a s;
    alone = free;
  },
)

-- ---- the ticket that was opened last, taken back

counted_less : (boot opened : ℕ) (o : Open) (t : Ticket) → IsCounted boot opened o → t.boot ≡ boot → t.seq ≡ opened → same_ticket o.ticket t ≡ false → IsCounted boot (opened - 1) o
counted_less boot opened o t c b s d = record { of_boot = c.of_boot; least = c.least; within = fits (o.ticket.seq) refl }
  where
    same : o.ticket.seq ≡ t.seq → ⊥
    same e =
        let q : o.ticket.boot ≡ t.boot = c.of_boot ∙ sym b in
        let u : o.ticket ≡ t = λ i. record { boot = q i; seq = e i } in
        true_false (sym (ap (λ v. same_ticket v t) u ∙ ticket_itself t) ∙ d)

    fits : (n : ℕ) → o.ticket.seq ≡ n → o.ticket.seq ≤ opened - 1
    fits n e = let k = c.within in let l = c.least in let m : o.ticket.seq ≢ t.seq = same in omega arith

pub apart_back : (boot opened : ℕ) (opens : List Open) (t : Ticket) → AreApart boot opened opens → t.boot ≡ boot → t.seq ≡ opened → AreApart boot (opened - 1) (without opens t)
apart_back boot opened [] t a b s = tt
apart_back boot opened (x ∷ xs) t a b s = by (apart_back boot opened xs t a.0 b s) (same_ticket x.ticket t) refl
  where
    by : AreApart boot (opened - 1) (without xs t) → (d : Bool) → same_ticket x.ticket t ≡ d → AreApart boot (opened - 1) (cond (not (same_ticket x.ticket t)) (x ∷ without xs t) (without xs t))
    by later true p = subst (λ d. AreApart boot (opened - 1) (cond (not d) (x ∷ without xs t) (without xs t))) (sym p) later
    by later false p =
        subst (λ d. AreApart boot (opened - 1) (cond (not d) (x ∷ without xs t) (without xs t))) (sym p) (
          later,
          record {
            counted = counted_less boot opened x t a.1.counted b s p;
            once = none_left (λ o. same_ticket o.ticket x.ticket) xs t a.1.once;
            alone = λ r h. none_left (has_row r) xs t (a.1.alone r h);
          },
        )

-- ---- a count

module _ (t : Ticket) (k : ℕ) where
  counting_ticket : (o : Open) → (counting t k o).ticket ≡ o.ticket
  counting_ticket o = by (same_ticket o.ticket t)
    where
      by : (b : Bool) → (cond b (record o { conflicts = k }) o).ticket ≡ o.ticket
      by true = refl
      by false = refl

  counting_rows : (r : RowKey) (o : Open) → has_row r (counting t k o) ≡ has_row r o
  counting_rows r o = by (same_ticket o.ticket t)
    where
      by : (b : Bool) → has_row r (cond b (record o { conflicts = k }) o) ≡ has_row r o
      by true = refl
      by false = refl

  counting_counted : (boot opened : ℕ) (o : Open) → IsCounted boot opened o → IsCounted boot opened (counting t k o)
  counting_counted boot opened o c =
      let e = counting_ticket o in
      record {
        of_boot = ap (λ (u : Ticket). u.boot) e ∙ c.of_boot;
        least = subst (λ (u : Ticket). 1 ≤ u.seq) (sym e) c.least;
        within = subst (λ (u : Ticket). u.seq ≤ opened) (sym e) c.within;
      }

  -- a test that a count doesn't change finds the same, with the count
  pub find_counting : (test : Open → Bool) → ((o : Open) → test (counting t k o) ≡ test o) → (opens : List Open)
      → find test (map (counting t k) opens) ≡ option_map (counting t k) (find test opens)
  find_counting test same [] = refl
  find_counting test same (x ∷ xs) =
      ap (λ b. cond b (Some (counting t k x)) (find test (map (counting t k) xs))) (same x)
      ∙ ap (cond (test x) (Some (counting t k x))) (find_counting test same xs)
      ∙ by (test x)
    where
      by : (b : Bool) → cond b (Some (counting t k x)) (option_map (counting t k) (find test xs)) ≡ option_map (counting t k) (cond b (Some x) (find test xs))
      by true = refl
      by false = refl

  pub open_counting : (opens : List Open) (u : Ticket) → open_at (map (counting t k) opens) u ≡ option_map (counting t k) (open_at opens u)
  open_counting opens u = find_counting (λ o. same_ticket o.ticket u) (λ o. ap (λ v. same_ticket v u) (counting_ticket o)) opens

  pub with_counting : (opens : List Open) (r : RowKey) → ticket_with (map (counting t k) opens) r ≡ option_map (counting t k) (ticket_with opens r)
  with_counting opens r = find_counting (has_row r) (counting_rows r) opens

  tickets_same : (o : Option Open) → option_map ticket_of (option_map (counting t k) o) ≡ option_map ticket_of o
  tickets_same None = refl
  tickets_same (Some o) = ap Some (counting_ticket o)

  pub rows_counting : (opens : List Open) (r : RowKey) → option_map ticket_of (ticket_with (map (counting t k) opens) r) ≡ option_map ticket_of (ticket_with opens r)
  rows_counting opens r = ap (option_map ticket_of) (with_counting opens r) ∙ tickets_same (ticket_with opens r)

  pub apart_counting : (boot opened : ℕ) (opens : List Open) → AreApart boot opened opens → AreApart boot opened (map (counting t k) opens)
  apart_counting boot opened [] a = tt
  apart_counting boot opened (x ∷ xs) a = (
    apart_counting boot opened xs a.0,
    record {
      counted = counting_counted boot opened x a.1.counted;
      once = open_counting xs (counting t k x).ticket ∙ ap (λ u. option_map (counting t k) (open_at xs u)) (counting_ticket x) ∙ ap (option_map (counting t k)) a.1.once;
      alone = λ r h. with_counting xs r ∙ ap (option_map (counting t k)) (a.1.alone r (sym (counting_rows r x) ∙ h));
    },
  )
