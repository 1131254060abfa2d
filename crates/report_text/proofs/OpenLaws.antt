-- What is kept of open tickets, after each change of them.
use Rattle.std.proofs.Common.{◌≡◌, not, ℕ, Bool, true, false, cond, if◌then◌else◌, List, [], ◌∷◌, map, Option, Some, None, option_map, refl, sym, ap, ◌∙◌, subst}
use Rattle.std.specs.List.Sorted.{IsStrictlySortedBy}
use Rattle.std.specs.Map.{keys_of}
use Rattle.std.specs.Ordering.{is_eq}
use Rattle.std.proofs.lemmas.Cmp.{tied_itself}
use Rattle.seata_types.specs.declared.ids.Ticket.{Ticket}
use Rattle.durable_records.specs.Branches.{same_ticket}
use Rattle.history_law.proofs.CoordinatorCauses.{one_ticket}
use Rattle.history_law.proofs.ResourceAnswers.{same_ticket_itself}
use Rattle.history_rules.specs.ResourceMemory.{Open, open_at, without, with_first, sent_again, counting}
use Rattle.resource_memory.proofs.Maps.{at_insert, at_remove}
use Rattle.session_memory.proofs.Passing.{both_ways}
use Rattle.report_text.specs.Opens.{Works, AreOpen, ticket_cmp, work_at, with_work, without_work, work_of}
use Rattle.report_text.proofs.Tickets.{equal_is, ticket_total, ticket_exact}

-- a ticket's place in the map is its own
pub ticket_test : (t u : Ticket) → is_eq (ticket_cmp t u) ≡ same_ticket t u
ticket_test t u = both_ways _ _ parts whole
  where
    parts : is_eq (ticket_cmp t u) ≡ true → same_ticket t u ≡ true
    parts e = subst (λ (q : Ticket). same_ticket t q ≡ true) (ticket_exact t u (equal_is (ticket_cmp t u) e)) (same_ticket_itself t)

    whole : same_ticket t u ≡ true → is_eq (ticket_cmp t u) ≡ true
    whole e = subst (λ (q : Ticket). is_eq (ticket_cmp t q) ≡ true) (one_ticket t u e) (ap is_eq (tied_itself ticket_total t))

-- ---- look-ups among the open tickets

-- where the first is asked for
open_first : (o : Open) (opens : List Open) (t : Ticket) (b : Bool) → same_ticket o.ticket t ≡ b → open_at (o ∷ opens) t ≡ cond b (Some o) (open_at opens t)
open_first o opens t true e = ap (λ c. if c then Some o else open_at opens t) e
open_first o opens t false e = ap (λ c. if c then Some o else open_at opens t) e

-- an open ticket has the number that it was asked for by
open_named : (opens : List Open) (t : Ticket) (o : Open) → open_at opens t ≡ Some o → o.ticket ≡ t
open_named [] t o e = absurd (let no : None ≡ Some o = e in cc)
open_named (p ∷ opens) t o e = by (same_ticket p.ticket t) refl (open_named opens t o)
  where
    by : (b : Bool) → same_ticket p.ticket t ≡ b → (open_at opens t ≡ Some o → o.ticket ≡ t) → o.ticket ≡ t
    by true is below = let found : p ≡ o = (let s : Some p ≡ Some o = sym (open_first p opens t true is) ∙ e in cc) in ap (λ (q : Open). q.ticket) (sym found) ∙ one_ticket p.ticket t is
    by false is below = below (sym (open_first p opens t false is) ∙ e)

-- without a ticket the others are found as before
pub open_without : (opens : List Open) (t q : Ticket) → open_at (without opens t) q ≡ cond (same_ticket t q) None (open_at opens q)
open_without [] t q = by (same_ticket t q)
  where
    by : (b : Bool) → open_at [] q ≡ cond b None (open_at [] q)
    by true = refl
    by false = refl
open_without (o ∷ opens) t q = by (same_ticket o.ticket t) refl (same_ticket o.ticket q) refl (same_ticket t q) refl (open_without opens t q)
  where
    -- o is of both, so these are one
    both : same_ticket o.ticket t ≡ true → same_ticket o.ticket q ≡ true → same_ticket t q ≡ true
    both e f = subst (λ (z : Ticket). same_ticket z q ≡ true) (one_ticket o.ticket t e) f

    -- o is of one that isn't the other
    other : same_ticket t q ≡ true → same_ticket o.ticket t ≡ true → same_ticket o.ticket q ≡ true
    other e f = subst (λ (z : Ticket). same_ticket o.ticket z ≡ true) (one_ticket t q e) f

    by : (x : Bool) → same_ticket o.ticket t ≡ x → (y : Bool) → same_ticket o.ticket q ≡ y → (z : Bool) → same_ticket t q ≡ z
        → open_at (without opens t) q ≡ cond z None (open_at opens q) → open_at (without (o ∷ opens) t) q ≡ cond z None (open_at (o ∷ opens) q)
    by true e y f true g below = ap (λ c. open_at (if not c then o ∷ without opens t else without opens t) q) e ∙ below
    by true e true f false g below = absurd (let no : true ≡ false = sym (both e f) ∙ g in cc)
    by true e false f false g below =
        ap (λ c. open_at (if not c then o ∷ without opens t else without opens t) q) e ∙ below ∙ sym (open_first o opens q false f)
    by false e true f true g below = absurd (let no : true ≡ false = sym (back e f g) ∙ e in cc)
      where
        back : same_ticket o.ticket t ≡ false → same_ticket o.ticket q ≡ true → same_ticket t q ≡ true → same_ticket o.ticket t ≡ true
        back e f g = subst (λ (z : Ticket). same_ticket o.ticket z ≡ true) (sym (one_ticket t q g)) f
    by false e true f false g below =
        ap (λ c. open_at (if not c then o ∷ without opens t else without opens t) q) e ∙ open_first o (without opens t) q true f ∙ sym (open_first o opens q true f)
    by false e false f true g below =
        ap (λ c. open_at (if not c then o ∷ without opens t else without opens t) q) e ∙ open_first o (without opens t) q false f ∙ below
    by false e false f false g below =
        ap (λ c. open_at (if not c then o ∷ without opens t else without opens t) q) e ∙ open_first o (without opens t) q false f ∙ below ∙ sym (open_first o opens q false f)

-- a ticket that is sent again is found as before
pub open_again : (opens : List Open) (t q : Ticket) → open_at (sent_again t opens) q ≡ open_at opens q
open_again opens t q = by (open_at opens t) refl (same_ticket t q) refl
  where
    by : (f : Option Open) → open_at opens t ≡ f → (b : Bool) → same_ticket t q ≡ b → open_at (with_first f (without opens t)) q ≡ open_at opens q
    by None is true e = open_without opens t q ∙ ap (λ c. cond c None (open_at opens q)) e ∙ sym is ∙ ap (open_at opens) (one_ticket t q e)
    by None is false e = open_without opens t q ∙ ap (λ c. cond c None (open_at opens q)) e
    by (Some o) is true e =
        let named = open_named opens t o is in
        open_first o (without opens t) q true (ap (λ (z : Ticket). same_ticket z q) named ∙ e) ∙ sym is ∙ ap (open_at opens) (one_ticket t q e)
    by (Some o) is false e =
        let named = open_named opens t o is in
        open_first o (without opens t) q false (ap (λ (z : Ticket). same_ticket z q) named ∙ e)
        ∙ open_without opens t q ∙ ap (λ c. cond c None (open_at opens q)) e

-- ---- what is kept

counted_alike : (t : Ticket) (n : ℕ) (o : Open) (b : Bool) → same_ticket o.ticket t ≡ b → (work_of (counting t n o) ≡ work_of o) × ((counting t n o).ticket ≡ o.ticket)
counted_alike t n o true e = (ap (λ c. work_of (if c then record o { conflicts = n } else o)) e, ap (λ c. (if c then record o { conflicts = n } else o).ticket) e)
counted_alike t n o false e = (ap (λ c. work_of (if c then record o { conflicts = n } else o)) e, ap (λ c. (if c then record o { conflicts = n } else o).ticket) e)

-- a count of conflicts isn't kept
pub open_counting : (opens : List Open) (t q : Ticket) (n : ℕ) → option_map work_of (open_at (map (counting t n) opens) q) ≡ option_map work_of (open_at opens q)
open_counting [] t q n = refl
open_counting (o ∷ opens) t q n =
    let same = counted_alike t n o (same_ticket o.ticket t) refl in
    by (same_ticket o.ticket q) refl same (open_counting opens t q n)
  where
    by : (b : Bool) → same_ticket o.ticket q ≡ b → (work_of (counting t n o) ≡ work_of o) × ((counting t n o).ticket ≡ o.ticket)
        → option_map work_of (open_at (map (counting t n) opens) q) ≡ option_map work_of (open_at opens q)
        → option_map work_of (open_at (map (counting t n) (o ∷ opens)) q) ≡ option_map work_of (open_at (o ∷ opens) q)
    by true e same below =
        ap (option_map work_of) (open_first (counting t n o) (map (counting t n) opens) q true (ap (λ (z : Ticket). same_ticket z q) same.1 ∙ e))
        ∙ ap (λ w. Some w) same.0 ∙ sym (ap (option_map work_of) (open_first o opens q true e))
    by false e same below =
        ap (option_map work_of) (open_first (counting t n o) (map (counting t n) opens) q false (ap (λ (z : Ticket). same_ticket z q) same.1 ∙ e))
        ∙ below ∙ sym (ap (option_map work_of) (open_first o opens q false e))

-- ---- changes

cond_map : (b : Bool) (o : Open) (rest : Option Open) → cond b (Some (work_of o)) (option_map work_of rest) ≡ option_map work_of (cond b (Some o) rest)
cond_map true o rest = refl
cond_map false o rest = refl

none_map : (b : Bool) (rest : Option Open) → cond b None (option_map work_of rest) ≡ option_map work_of (cond b None rest)
none_map true rest = refl
none_map false rest = refl

-- a ticket is opened
pub opened_kept : (works : Works) (opens : List Open) (o : Open) → AreOpen works opens → AreOpen (with_work works o.ticket (work_of o)) (o ∷ opens)
opened_kept works opens o are q =
    at_insert ticket_cmp ticket_total ticket_exact works o.ticket (work_of o) q
    ∙ ap (λ b. cond b (Some (work_of o)) (work_at works q)) (ticket_test o.ticket q)
    ∙ ap (cond (same_ticket o.ticket q) (Some (work_of o))) (are q)
    ∙ cond_map (same_ticket o.ticket q) o (open_at opens q)
    ∙ ap (option_map work_of) (sym (open_first o opens q (same_ticket o.ticket q) refl))

-- one is open no more; the map is in order
pub closed_kept : (works : Works) (opens : List Open) (t : Ticket) → IsStrictlySortedBy ticket_cmp (keys_of works) → AreOpen works opens → AreOpen (without_work works t) (without opens t)
closed_kept works opens t order are q =
    at_remove ticket_cmp ticket_total ticket_exact works t q order
    ∙ ap (λ b. cond b None (work_at works q)) (ticket_test t q)
    ∙ ap (cond (same_ticket t q) None) (are q)
    ∙ none_map (same_ticket t q) (open_at opens q)
    ∙ ap (option_map work_of) (sym (open_without opens t q))

pub again_kept : (works : Works) (opens : List Open) (t : Ticket) → AreOpen works opens → AreOpen works (sent_again t opens)
again_kept works opens t are q = are q ∙ ap (option_map work_of) (sym (open_again opens t q))

pub counted_kept : (works : Works) (opens : List Open) (t : Ticket) (n : ℕ) → AreOpen works opens → AreOpen works (map (counting t n) opens)
counted_kept works opens t n are q = are q ∙ sym (open_counting opens t q n)
