-- The managers of transactions and the calls of branches that are kept of a snapshot are those of its records.
use Rattle.std.proofs.Common.{◌≡◌, ◌⊎◌, inl, inr, ◌==◌, not, ℕ, Bool, true, false, cond, List, [], ◌∷◌, ◌++◌, map, Option, Some, refl, sym, ap, ◌∙◌, subst}
use Rattle.std.specs.BTreeMap.{is_at}
use Rattle.std.specs.Map.{lookup}
use Rattle.std.specs.Ordering.{nat_cmp, is_eq}
use Rattle.std.specs.Prelude.{filter, unwrap_or}
use Rattle.std.proofs.lemmas.Cmp.{nat_cmp_total, tied_itself}
use Rattle.std.proofs.lemmas.Map.Lookups.{exact_unsigned}
use Rattle.std.proofs.lemmas.Option.{same_Some}
use Rattle.durable_records.specs.declared.coordinators.SessionRecord.{SessionRecord}
use Rattle.durable_records.specs.Branches.{Grant, branches, grants}
use Rattle.durable_records.specs.Members.{In}
use Rattle.durable_records.specs.SessionOrder.{Allowed}
use Rattle.durable_records.specs.Transactions.{Session as Began, has_xid, is_forgotten, sessions}
use Rattle.durable_records.proofs.MemberFacts.{AreCounted, found_member, in_filter, of_filter}
use Rattle.durable_records.proofs.RecordFacts.{began_xid, grant_branch, numbered}
use Rattle.history_law.proofs.Tests.{false_true, nat_same, same_nat}
use Rattle.history_rules.specs.Nodes.{counted_at}
use Rattle.resource_memory.proofs.Maps.{at_insert}
use Rattle.session_log.specs.SnapshotOf.{branch_now, entry_now, in_order, is_kept_session, snapshot_of}
use Rattle.session_log.specs.declared.sessions.Branch.{Branch}
use Rattle.session_log.specs.declared.sessions.SessionEntry.{SessionEntry}
use Rattle.session_memory.proofs.GrantLaws.{grant_begun}
use Rattle.report_text.specs.Following.{FindCalls, FindManagers}
use Rattle.report_text.specs.Keeping.{Numbers, calls_among, calls_of_branches, managers_among, number_at, with_number}
use Rattle.report_text.proofs.Lists.{counted_there}
use Rattle.report_text.proofs.Tickets.{equal_is}

-- ---- one number more

module _ (m : Numbers) (n number : ℕ) where
  abbrev before : ℕ → Option ℕ
  before q = lookup (is_at (nat_cmp q)) m

  number_after : (q : ℕ) → number_at (with_number m n number) q ≡ unwrap_or (cond (is_eq (nat_cmp n q)) (Some number) (before q)) 0
  number_after q = ap (λ o. unwrap_or o 0) (at_insert nat_cmp nat_cmp_total exact_unsigned m n number q)

  pub number_here : number_at (with_number m n number) n ≡ number
  number_here = number_after n ∙ ap (λ b. unwrap_or (cond b (Some number) (before n)) 0) (ap is_eq (tied_itself nat_cmp_total n))

  apart : (q : ℕ) (b : Bool) → is_eq (nat_cmp n q) ≡ b → (n ≡ q → ⊥) → is_eq (nat_cmp n q) ≡ false
  apart q true e other = absurd (other (exact_unsigned n q (equal_is (nat_cmp n q) e)))
  apart q false e other = e

  pub number_there : (q : ℕ) → (n ≡ q → ⊥) → number_at (with_number m n number) q ≡ number_at m q
  number_there q other = number_after q ∙ ap (λ b. unwrap_or (cond b (Some number) (before q)) 0) (apart q (is_eq (nat_cmp n q)) refl other)

-- ---- several

abbrev filled : List (ℕ × ℕ) → Numbers → Numbers
filled [] m = m
filled (p ∷ ps) m = filled ps (with_number m p.0 p.1)

filled_both : (ps qs : List (ℕ × ℕ)) (m : Numbers) → filled (ps ++ qs) m ≡ filled qs (filled ps m)
filled_both [] qs m = refl
filled_both (p ∷ ps) qs m = filled_both ps qs (with_number m p.0 p.1)

-- one that stands stays where all of its key are it
filled_keeps : (ps : List (ℕ × ℕ)) (m : Numbers) (k v : ℕ) → number_at m k ≡ v → ((w : ℕ) → In (k, w) ps → w ≡ v) → number_at (filled ps m) k ≡ v
filled_keeps [] m k v e same = e
filled_keeps ((q, w) ∷ ps) m k v e same = filled_keeps ps (with_number m q w) k v (by (q == k) refl) (λ z i. same z (inr i))
  where
    by : (b : Bool) → (q == k) ≡ b → number_at (with_number m q w) k ≡ v
    by true is =
        let at : q ≡ k = same_nat q k is in
        subst (λ n. number_at (with_number m n w) k ≡ v) (sym at) (number_here m k w ∙ same w (inl (ap (λ (n : ℕ). (n, w)) (sym at))))
    by false is = number_there m q w k (λ at. false_true (sym is ∙ nat_same q k at)) ∙ e

filled_finds : (ps : List (ℕ × ℕ)) (m : Numbers) (k v : ℕ) → In (k, v) ps → ((w : ℕ) → In (k, w) ps → w ≡ v) → number_at (filled ps m) k ≡ v
filled_finds [] m k v i same = absurd i
filled_finds (p ∷ ps) m k v (inl is) same =
    filled_keeps ps (with_number m p.0 p.1) k v (subst (λ (q : ℕ × ℕ). number_at (with_number m q.0 q.1) k ≡ v) is (number_here m k v)) (λ z i. same z (inr i))
filled_finds (p ∷ ps) m k v (inr i) same = filled_finds ps (with_number m p.0 p.1) k v i (λ z j. same z (inr j))

-- ---- of a snapshot

abbrev manager_pair : SessionEntry → ℕ × ℕ
manager_pair e = (e.xid.0, e.session.manager)

abbrev call_pair : Branch → ℕ × ℕ
call_pair b = (b.id.0, b.place.call)

abbrev call_pairs : List SessionEntry → List (ℕ × ℕ)
call_pairs [] = []
call_pairs (e ∷ es) = map call_pair e.session.branches ++ call_pairs es

managers_filled : (es : List SessionEntry) (m : Numbers) → managers_among es m ≡ filled (map manager_pair es) m
managers_filled [] m = refl
managers_filled (e ∷ es) m = managers_filled es (with_number m e.xid.0 e.session.manager)

branches_filled : (bs : List Branch) (m : Numbers) → calls_of_branches bs m ≡ filled (map call_pair bs) m
branches_filled [] m = refl
branches_filled (b ∷ bs) m = branches_filled bs (with_number m b.id.0 b.place.call)

calls_filled : (es : List SessionEntry) (m : Numbers) → calls_among es m ≡ filled (call_pairs es) m
calls_filled [] m = refl
calls_filled (e ∷ es) m =
    calls_filled es (calls_of_branches e.session.branches m) ∙ ap (filled (call_pairs es)) (branches_filled e.session.branches m)
    ∙ sym (filled_both (map call_pair e.session.branches) (call_pairs es) m)

-- ---- members of lists

in_map : {A B : Type 0} (f : A → B) (xs : List A) (a : A) → In a xs → In (f a) (map f xs)
in_map f [] a i = absurd i
in_map f (x ∷ xs) a (inl is) = inl (ap f is)
in_map f (x ∷ xs) a (inr i) = inr (in_map f xs a i)

of_map : {A B : Type 0} (f : A → B) (xs : List A) (b : B) → In b (map f xs) → (a : A) × In a xs × (b ≡ f a)
of_map f [] b i = absurd i
of_map f (x ∷ xs) b (inl is) = (x, inl refl, is)
of_map f (x ∷ xs) b (inr i) = let (a, j, is) = of_map f xs b i in (a, inr j, is)

in_left : {A : Type 0} (xs ys : List A) (a : A) → In a xs → In a (xs ++ ys)
in_left [] ys a i = absurd i
in_left (x ∷ xs) ys a (inl is) = inl is
in_left (x ∷ xs) ys a (inr i) = inr (in_left xs ys a i)

in_right : {A : Type 0} (xs ys : List A) (a : A) → In a ys → In a (xs ++ ys)
in_right [] ys a i = i
in_right (x ∷ xs) ys a i = inr (in_right xs ys a i)

of_both : {A : Type 0} (xs ys : List A) (a : A) → In a (xs ++ ys) → In a xs ⊎ In a ys
of_both [] ys a i = inr i
of_both (x ∷ xs) ys a (inl is) = inl (inl is)
of_both (x ∷ xs) ys a (inr i) = by (of_both xs ys a i)
  where
    by : In a xs ⊎ In a ys → In a (x ∷ xs) ⊎ In a ys
    by (inl j) = inl (inr j)
    by (inr j) = inr j

in_ordered : {A : Type 0} (xs : List A) (a : A) → In a xs → In a (in_order xs)
in_ordered [] a i = absurd i
in_ordered (x ∷ xs) a (inl is) = in_right (in_order xs) (x ∷ []) a (inl is)
in_ordered (x ∷ xs) a (inr i) = in_left (in_order xs) (x ∷ []) a (in_ordered xs a i)

of_ordered : {A : Type 0} (xs : List A) (a : A) → In a (in_order xs) → In a xs
of_ordered [] a i = absurd i
of_ordered (x ∷ xs) a i = by (λ j. of_ordered xs a j) (of_both (in_order xs) (x ∷ []) a i)
  where
    by : (In a (in_order xs) → In a xs) → In a (in_order xs) ⊎ In a (x ∷ []) → In a (x ∷ xs)
    by rest (inl j) = inr (rest j)
    by rest (inr (inl is)) = inl is
    by rest (inr (inr none)) = absurd none

in_pairs : (es : List SessionEntry) (e : SessionEntry) (p : ℕ × ℕ) → In e es → In p (map call_pair e.session.branches) → In p (call_pairs es)
in_pairs [] e p i j = absurd i
in_pairs (x ∷ es) e p (inl is) j =
    in_left (map call_pair x.session.branches) (call_pairs es) p (subst (λ (y : SessionEntry). In p (map call_pair y.session.branches)) is j)
in_pairs (x ∷ es) e p (inr i) j = in_right (map call_pair x.session.branches) (call_pairs es) p (in_pairs es e p i j)

of_pairs : (es : List SessionEntry) (p : ℕ × ℕ) → In p (call_pairs es) → (e : SessionEntry) × In e es × In p (map call_pair e.session.branches)
of_pairs [] p i = absurd i
of_pairs (x ∷ es) p i = by (λ j. of_pairs es p j) (of_both (map call_pair x.session.branches) (call_pairs es) p i)
  where
    by : (In p (call_pairs es) → (e : SessionEntry) × In e es × In p (map call_pair e.session.branches)) → In p (map call_pair x.session.branches) ⊎ In p (call_pairs es)
        → (e : SessionEntry) × In e (x ∷ es) × In p (map call_pair e.session.branches)
    by rest (inl j) = (x, inl refl, j)
    by rest (inr j) = let (e, k, l) = rest j in (e, inr k, l)

-- of numbered things, two with one number say the same
one_said : {A : Type 0} (number f : A → ℕ) (xs : List A) (a b : A) → AreCounted number xs → In a xs → In b xs → number a ≡ number b → f a ≡ f b
one_said number f xs a b counted i j same =
    same_Some (f a) (f b) (sym (counted_there number f xs a counted i) ∙ ap (counted_at (map f (in_order xs))) same ∙ counted_there number f xs b counted j)

-- ---- of records

abbrev manager_of : Began → ℕ
manager_of s = s.manager

abbrev call_of : Grant → ℕ
call_of g = g.call

module _ (rs : List SessionRecord) (a : Allowed rs) where
  abbrev known : List Began
  known = in_order (filter (is_kept_session rs) (sessions rs))

  abbrev entries : List SessionEntry
  entries = map (entry_now rs) known

  kept : (s : Began) → In s (sessions rs) → is_forgotten rs s.xid ≡ false → In (entry_now rs s) entries
  kept s i fresh = in_map (entry_now rs) known s (in_ordered (filter (is_kept_session rs) (sessions rs)) s (in_filter (is_kept_session rs) (sessions rs) s i (ap not fresh)))

  began : (s : Began) → In s known → In s (sessions rs)
  began s i = (of_filter (is_kept_session rs) (sessions rs) s (of_ordered (filter (is_kept_session rs) (sessions rs)) s i)).0

  pub managers_found : FindManagers rs rs (managers_among (snapshot_of rs).sessions [])
  managers_found s i fresh =
      ap (λ m. number_at m s.xid) (managers_filled entries [])
      ∙ filled_finds (map manager_pair entries) [] s.xid s.manager (in_map manager_pair entries (entry_now rs s) (kept s i fresh)) one
    where
      one : (w : ℕ) → In (s.xid, w) (map manager_pair entries) → w ≡ s.manager
      one w j =
          let (e, k, is) = of_map manager_pair entries (s.xid, w) j in
          let (q, l, at) = of_map (entry_now rs) known e k in
          let same : (s.xid, w) ≡ (q.xid, q.manager) = is ∙ ap manager_pair at in
          ap (λ (p : ℕ × ℕ). p.1) same ∙ one_said began_xid manager_of (sessions rs) q s (numbered rs a).began (began q l) i (sym (ap (λ (p : ℕ × ℕ). p.0) same))

  pub calls_found : FindCalls rs rs (calls_among (snapshot_of rs).sessions [])
  calls_found g i fresh =
      ap (λ m. number_at m g.branch) (calls_filled entries [])
      ∙ filled_finds (call_pairs entries) [] g.branch g.call there one
    where
      there : In (g.branch, g.call) (call_pairs entries)
      there =
          let (s, j, named) = found_member (has_xid g.xid) (sessions rs) (grant_begun rs a g i) in
          let same : s.xid ≡ g.xid = same_nat s.xid g.xid named in
          let own : In g (branches rs s.xid) = in_filter (λ h. h.xid == s.xid) (grants rs) g i (nat_same g.xid s.xid (sym same)) in
          in_pairs entries (entry_now rs s) (g.branch, g.call) (kept s j (ap (is_forgotten rs) same ∙ fresh))
          (in_map call_pair (map (branch_now rs) (in_order (branches rs s.xid))) (branch_now rs g)
          (in_map (branch_now rs) (in_order (branches rs s.xid)) g (in_ordered (branches rs s.xid) g own)))

      one : (w : ℕ) → In (g.branch, w) (call_pairs entries) → w ≡ g.call
      one w j =
          let (e, k, l) = of_pairs entries (g.branch, w) j in
          let (s, n, at) = of_map (entry_now rs) known e k in
          let here : In (g.branch, w) (map call_pair (map (branch_now rs) (in_order (branches rs s.xid)))) = subst (λ (x : SessionEntry). In (g.branch, w) (map call_pair x.session.branches)) at l in
          let (b, o, of) = of_map call_pair (map (branch_now rs) (in_order (branches rs s.xid))) (g.branch, w) here in
          let (h, p, is) = of_map (branch_now rs) (in_order (branches rs s.xid)) b o in
          let same : (g.branch, w) ≡ (h.branch, h.call) = of ∙ ap call_pair is in
          let granted = (of_filter (λ z. z.xid == s.xid) (grants rs) h (of_ordered (branches rs s.xid) h p)).0 in
          ap (λ (z : ℕ × ℕ). z.1) same ∙ one_said grant_branch call_of (grants rs) h g (numbered rs a).branched granted i (sym (ap (λ (z : ℕ × ℕ). z.0) same))
