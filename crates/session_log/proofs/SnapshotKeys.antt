-- What stands once in the snapshot of such records: transactions, managers, tickets and calls.
use Rattle.std.proofs.Common.{◌≡◌, ◌⊎◌, inl, inr, ℕ, ◌==◌, ◌&&◌, Bool, true, false, List, ◌++◌, map, filter, refl, ap, sym, subst, ◌∙◌}
use Rattle.std.specs.Prelude.{nat_eq}
use Rattle.std.specs.List.{flat_map}
use Rattle.std.proofs.lemmas.Bool.{eqb-true, ne_eqb, false_from_ne_true}
use Rattle.seata_types.specs.declared.ids.Xid.{Xid}
use Rattle.seata_types.specs.declared.statuses.BranchKind.{BranchKind}
use Rattle.seata_types.specs.declared.statuses.BranchKind.TheVariants as kind
use Rattle.durable_records.specs.declared.coordinators.SessionRecord.{SessionRecord}
use Rattle.durable_records.specs.Transactions.{Session as Began, sessions, is_forgotten}
use Rattle.durable_records.specs.Branches.{Grant, grants, branches, same_ticket}
use Rattle.durable_records.specs.SessionOrder.{Allowed}
use Rattle.session_log.specs.declared.sessions.Branch.{Branch}
use Rattle.session_log.specs.declared.sessions.SessionEntry.{SessionEntry}
use Rattle.session_log.specs.declared.sessions.Forgotten.{Forgotten}
use Rattle.session_log.specs.declared.keys.TicketKey.{TicketKey}
use Rattle.session_log.specs.declared.keys.CallKey.{CallKey}
use Rattle.session_log.specs.SnapshotOf.{in_order, branch_now, entry_now, forgotten_now, is_forgotten_session, is_kept_session, snapshot_of}
use Rattle.session_log.specs.Soundness.{all_differ, entry_xid, entry_manager, forgotten_xid, forgotten_manager, xids, managers_of, same_ticket_key, ticket_of, branch_ticket, tickets, same_call_key, call_of, branch_call, calls}
use Rattle.durable_records.proofs.Tests.{and_left, and_right, not_true}
use Rattle.session_log.proofs.Members.{false_true, In, Pairs, of_order, of_filter, of_map, pairs_more, pairs_append, pairs_filter, pairs_order, pair_of, pairs_map, pairs_within, of_flat_map, pairs_flat_map, Differ, differ}
use Rattle.session_log.proofs.RecordFacts.{other_symmetric, sessions_differ, Names, Apart, apart_symmetric, grants_differ, Other}

-- ---- the transactions of a snapshot

-- those that aren't forgotten, and those that are
abbrev pub kept_sessions : List SessionRecord → List Began
kept_sessions rs = in_order (filter (is_kept_session rs) (sessions rs))

abbrev pub gone_sessions : List SessionRecord → List Began
gone_sessions rs = in_order (filter (is_forgotten_session rs) (sessions rs))

pub kept_member : (rs : List SessionRecord) (s : Began) → In s (kept_sessions rs) → In s (sessions rs) × (is_forgotten rs s.xid ≡ false)
kept_member rs s i =
    let there = of_filter (is_kept_session rs) (sessions rs) s (of_order (filter (is_kept_session rs) (sessions rs)) s i) in
    (there.0, not_true (is_forgotten rs s.xid) there.1)

pub gone_member : (rs : List SessionRecord) (s : Began) → In s (gone_sessions rs) → In s (sessions rs) × (is_forgotten rs s.xid ≡ true)
gone_member rs s i = of_filter (is_forgotten_session rs) (sessions rs) s (of_order (filter (is_forgotten_session rs) (sessions rs)) s i)

-- ---- keys that stand once in a snapshot

-- the members of a list made of the branches of the transactions that aren't forgotten, where each key is of one branch of
-- a kind, and two keys that are the same name the same
module _ {K : Type 0} (k : BranchKind) (same : K → K → Bool) (name : ℕ → Grant → K) (keys : ℕ → Branch → List K)
    (agree : (x y : ℕ) (g h : Grant) → g.xid ≡ x → h.xid ≡ y → same (name x g) (name y h) ≡ true → Names k g h)
    (of_keys : (rs : List SessionRecord) (x : ℕ) (g : Grant) (t : K) → In t (keys x (branch_now rs g)) → (g.kind ≡ k) × (t ≡ name x g))
    (single : (rs : List SessionRecord) (x : ℕ) (g : Grant) → Pairs (Differ same) (keys x (branch_now rs g))) where
  abbrev keys_of_branches : List SessionRecord → Began → List K
  keys_of_branches rs s = flat_map (keys s.xid) (map (branch_now rs) (in_order (branches rs s.xid)))

  one_way : (rs : List SessionRecord) (x y : ℕ) (g h : Grant) (t u : K) → Apart (λ z. is_forgotten rs z) k g h → is_forgotten rs x ≡ false → is_forgotten rs y ≡ false → g.xid ≡ x → h.xid ≡ y →
      In t (keys x (branch_now rs g)) → In u (keys y (branch_now rs h)) → same t u ≡ false
  one_way rs x y g h t u apart kept also of other i j =
      let one = of_keys rs x g t i in
      let two = of_keys rs y h u j in
      false_from_ne_true (same t u)
      (λ e. apart (record {
        first = ap (λ (z : ℕ). is_forgotten rs z) of ∙ kept;
        second = ap (λ (z : ℕ). is_forgotten rs z) other ∙ also;
        of_first = one.0;
        of_second = two.0;
        names = agree x y g h of other (ap (λ (z : K). same z (name y h)) (sym one.1) ∙ ap (λ (z : K). same t z) (sym two.1) ∙ e);
      }))

  both_ways : (rs : List SessionRecord) (x y : ℕ) (g h : Grant) (t u : K) → Apart (λ z. is_forgotten rs z) k g h → is_forgotten rs x ≡ false → is_forgotten rs y ≡ false → g.xid ≡ x → h.xid ≡ y →
      In t (keys x (branch_now rs g)) → In u (keys y (branch_now rs h)) → Differ same t u
  both_ways rs x y g h t u apart kept also of other i j =
      (one_way rs x y g h t u apart kept also of other i j, one_way rs y x h g u t (apart_symmetric (λ z. is_forgotten rs z) k g h apart) also kept other of j i)

  branch_of : (rs : List SessionRecord) (x : ℕ) (g : Grant) → In g (in_order (branches rs x)) → In g (grants rs) × (g.xid ≡ x)
  branch_of rs x g i =
      let there = of_filter (λ (h : Grant). h.xid == x) (grants rs) g (of_order (branches rs x) g i) in
      (there.0, eqb-true g.xid x there.1)

  within_one : (rs : List SessionRecord) → Allowed rs → (s : Began) → is_forgotten rs s.xid ≡ false → Pairs (Differ same) (keys_of_branches rs s)
  within_one rs a s kept =
      pairs_flat_map (keys s.xid) (branch_now rs) (Differ same) (in_order (branches rs s.xid)) (λ g i. single rs s.xid g)
      (pairs_within (Apart (λ z. is_forgotten rs z) k) (λ g h. (t u : K) → In t (keys s.xid (branch_now rs g)) → In u (keys s.xid (branch_now rs h)) → Differ same t u) (in_order (branches rs s.xid))
      (λ g h i j apart t u l m. both_ways rs s.xid s.xid g h t u apart kept kept (branch_of rs s.xid g i).1 (branch_of rs s.xid h j).1 l m)
      (pairs_order (Apart (λ z. is_forgotten rs z) k) (apart_symmetric (λ z. is_forgotten rs z) k) (branches rs s.xid)
      (pairs_filter (Apart (λ z. is_forgotten rs z) k) (λ (g : Grant). g.xid == s.xid) (grants rs) (grants_differ rs a k))))

  between_by : (rs : List SessionRecord) (s q : Began) (g h : Grant) (t u : K) → Other s q → is_forgotten rs s.xid ≡ false → is_forgotten rs q.xid ≡ false → g.xid ≡ s.xid → h.xid ≡ q.xid →
      In t (keys s.xid (branch_now rs g)) → In u (keys q.xid (branch_now rs h)) → (g ≡ h) ⊎ Apart (λ z. is_forgotten rs z) k g h → Differ same t u
  between_by rs s q g h t u other kept also of too i j (inl e) = absurd (other.xid (sym of ∙ ap (λ (z : Grant). z.xid) e ∙ too))
  between_by rs s q g h t u other kept also of too i j (inr apart) = both_ways rs s.xid q.xid g h t u apart kept also of too i j

  between : (rs : List SessionRecord) → Allowed rs → (s q : Began) (t u : K) → Other s q → is_forgotten rs s.xid ≡ false → is_forgotten rs q.xid ≡ false →
      In t (keys_of_branches rs s) → In u (keys_of_branches rs q) → Differ same t u
  between rs a s q t u other kept also i j =
      let one = of_flat_map (keys s.xid) (branch_now rs) (in_order (branches rs s.xid)) t i in
      let two = of_flat_map (keys q.xid) (branch_now rs) (in_order (branches rs q.xid)) u j in
      let g = branch_of rs s.xid one.0 one.1 in
      let h = branch_of rs q.xid two.0 two.1 in
      between_by rs s q one.0 two.0 t u other kept also g.1 h.1 one.2 two.2
      (pair_of (Apart (λ z. is_forgotten rs z) k) (apart_symmetric (λ z. is_forgotten rs z) k) (grants rs) one.0 two.0 (grants_differ rs a k) g.0 h.0)

  keys_differ : (rs : List SessionRecord) → Allowed rs → (all : SessionEntry → List K) → ((s : Began) → all (entry_now rs s) ≡ keys_of_branches rs s) → Pairs (Differ same) (flat_map all (snapshot_of rs).sessions)
  keys_differ rs a all is =
      pairs_flat_map all (entry_now rs) (Differ same) (kept_sessions rs)
      (λ s i. subst (Pairs (Differ same)) (sym (is s)) (within_one rs a s (kept_member rs s i).1))
      (pairs_within Other (λ s q. (t u : K) → In t (all (entry_now rs s)) → In u (all (entry_now rs q)) → Differ same t u) (kept_sessions rs)
      (λ s q i j other t u l m. between rs a s q t u other (kept_member rs s i).1 (kept_member rs q j).1 (subst (In t) (is s) l) (subst (In u) (is q) m))
      (pairs_order Other other_symmetric (filter (is_kept_session rs) (sessions rs)) (pairs_filter Other (is_kept_session rs) (sessions rs) (sessions_differ rs a))))

-- ---- tickets and calls

at_keys : (k : BranchKind) (b : Branch) (t : TicketKey) → In t (ticket_of k b) → (k ≡ kind.At) × (t ≡ record { resource = b.place.resource; ticket = b.place.ticket })
at_keys kind.At b t (inl e) = (refl, e)
at_keys kind.At b t (inr i) = absurd i
at_keys kind.Tcc b t i = absurd i

at_single : (k : BranchKind) (b : Branch) → Pairs (Differ same_ticket_key) (ticket_of k b)
at_single kind.At b = (λ y i. absurd i, tt)
at_single kind.Tcc b = tt

at_agree : (x y : ℕ) (g h : Grant) → g.xid ≡ x → h.xid ≡ y → ((g.resource == h.resource) && same_ticket g.ticket h.ticket) ≡ true → Names kind.At g h
at_agree x y g h of other e =
    let ticket = and_right (g.resource == h.resource) (same_ticket g.ticket h.ticket) e in (
      eqb-true g.resource h.resource (and_left (g.resource == h.resource) (same_ticket g.ticket h.ticket) e),
      eqb-true g.ticket.boot h.ticket.boot (and_left (g.ticket.boot == h.ticket.boot) (g.ticket.seq == h.ticket.seq) ticket),
      eqb-true g.ticket.seq h.ticket.seq (and_right (g.ticket.boot == h.ticket.boot) (g.ticket.seq == h.ticket.seq) ticket),
    )

pub tickets_differ : (rs : List SessionRecord) → Allowed rs → all_differ same_ticket_key (tickets (snapshot_of rs)) ≡ true
tickets_differ rs a =
    differ same_ticket_key (tickets (snapshot_of rs))
    (keys_differ kind.At same_ticket_key (λ x g. record { resource = g.resource; ticket = g.ticket }) (λ x b. branch_ticket b) at_agree
    (λ rs x g t i. at_keys g.kind (branch_now rs g) t i) (λ rs x g. at_single g.kind (branch_now rs g)) rs a (λ e. flat_map branch_ticket e.session.branches) (λ s. refl))

tcc_keys : (k : BranchKind) (x : Xid) (b : Branch) (t : CallKey) → In t (call_of k x b) → (k ≡ kind.Tcc) × (t ≡ record { xid = x; resource = b.place.resource; call = b.place.call })
tcc_keys kind.At x b t i = absurd i
tcc_keys kind.Tcc x b t (inl e) = (refl, e)
tcc_keys kind.Tcc x b t (inr i) = absurd i

tcc_single : (k : BranchKind) (x : Xid) (b : Branch) → Pairs (Differ same_call_key) (call_of k x b)
tcc_single kind.At x b = tt
tcc_single kind.Tcc x b = (λ y i. absurd i, tt)

tcc_agree : (x y : ℕ) (g h : Grant) → g.xid ≡ x → h.xid ≡ y → ((x == y) && ((g.resource == h.resource) && (g.call == h.call))) ≡ true → Names kind.Tcc g h
tcc_agree x y g h of other e =
    let rest = and_right (x == y) ((g.resource == h.resource) && (g.call == h.call)) e in (
      of ∙ eqb-true x y (and_left (x == y) ((g.resource == h.resource) && (g.call == h.call)) e) ∙ sym other,
      eqb-true g.resource h.resource (and_left (g.resource == h.resource) (g.call == h.call) rest),
      eqb-true g.call h.call (and_right (g.resource == h.resource) (g.call == h.call) rest),
    )

pub calls_differ : (rs : List SessionRecord) → Allowed rs → all_differ same_call_key (calls (snapshot_of rs)) ≡ true
calls_differ rs a =
    differ same_call_key (calls (snapshot_of rs))
    (keys_differ kind.Tcc same_call_key (λ x g. record { xid = record { 0 = x }; resource = g.resource; call = g.call }) (λ x b. branch_call (record { 0 = x }) b) tcc_agree
    (λ rs x g t i. tcc_keys g.kind (record { 0 = x }) (branch_now rs g) t i) (λ rs x g. tcc_single g.kind (record { 0 = x }) (branch_now rs g)) rs a (λ e. flat_map (branch_call e.xid) e.session.branches) (λ s. refl))

-- ---- numbers of transactions and managers

module _ (number : Began → ℕ) (apart : (s q : Began) → Other s q → number s ≡ number q → ⊥) (first : SessionEntry → ℕ) (second : Forgotten → ℕ)
    (at_first : (rs : List SessionRecord) (s : Began) → first (entry_now rs s) ≡ number s) (at_second : (s : Began) → second (forgotten_now s) ≡ number s) where
  numbers_apart : (s q : Began) (m n : ℕ) → Other s q → m ≡ number s → n ≡ number q → Differ nat_eq m n
  numbers_apart s q m n other one two =
      (ne_eqb m n (λ e. apart s q other (sym one ∙ e ∙ two)), ne_eqb n m (λ e. apart s q other (sym one ∙ sym e ∙ two)))

  crossed_by : (rs : List SessionRecord) (s q : Began) (m n : ℕ) → is_forgotten rs s.xid ≡ false → is_forgotten rs q.xid ≡ true → m ≡ number s → n ≡ number q → (s ≡ q) ⊎ Other s q → Differ nat_eq m n
  crossed_by rs s q m n kept gone one two (inl e) = false_true (sym kept ∙ ap (λ (z : Began). is_forgotten rs z.xid) e ∙ gone)
  crossed_by rs s q m n kept gone one two (inr other) = numbers_apart s q m n other one two

  crossed : (rs : List SessionRecord) → Allowed rs → (m n : ℕ) → In m (map first (snapshot_of rs).sessions) → In n (map second (snapshot_of rs).forgotten) → Differ nat_eq m n
  crossed rs a m n i j =
      let entry = of_map first (snapshot_of rs).sessions m i in
      let s = of_map (entry_now rs) (kept_sessions rs) entry.0 entry.1 in
      let gone = of_map second (snapshot_of rs).forgotten n j in
      let q = of_map forgotten_now (gone_sessions rs) gone.0 gone.1 in
      let kept = kept_member rs s.0 s.1 in
      let forgot = gone_member rs q.0 q.1 in
      crossed_by rs s.0 q.0 m n kept.1 forgot.1 (entry.2 ∙ ap first s.2 ∙ at_first rs s.0) (gone.2 ∙ ap second q.2 ∙ at_second q.0)
      (pair_of Other other_symmetric (sessions rs) s.0 q.0 (sessions_differ rs a) kept.0 forgot.0)

  numbers_differ : (rs : List SessionRecord) → Allowed rs → all_differ nat_eq (map first (snapshot_of rs).sessions ++ map second (snapshot_of rs).forgotten) ≡ true
  numbers_differ rs a =
      differ nat_eq (map first (snapshot_of rs).sessions ++ map second (snapshot_of rs).forgotten)
      (pairs_append (Differ nat_eq) (map first (snapshot_of rs).sessions) (map second (snapshot_of rs).forgotten)
      (pairs_map (Differ nat_eq) first (snapshot_of rs).sessions
      (pairs_map (λ (e d : SessionEntry). Differ nat_eq (first e) (first d)) (entry_now rs) (kept_sessions rs)
      (pairs_more Other (λ s q. Differ nat_eq (first (entry_now rs s)) (first (entry_now rs q))) (kept_sessions rs)
      (λ s q other. numbers_apart s q (first (entry_now rs s)) (first (entry_now rs q)) other (at_first rs s) (at_first rs q))
      (pairs_order Other other_symmetric (filter (is_kept_session rs) (sessions rs)) (pairs_filter Other (is_kept_session rs) (sessions rs) (sessions_differ rs a))))))
      (pairs_map (Differ nat_eq) second (snapshot_of rs).forgotten
      (pairs_map (λ (e d : Forgotten). Differ nat_eq (second e) (second d)) forgotten_now (gone_sessions rs)
      (pairs_more Other (λ s q. Differ nat_eq (second (forgotten_now s)) (second (forgotten_now q))) (gone_sessions rs)
      (λ s q other. numbers_apart s q (second (forgotten_now s)) (second (forgotten_now q)) other (at_second s) (at_second q))
      (pairs_order Other other_symmetric (filter (is_forgotten_session rs) (sessions rs)) (pairs_filter Other (is_forgotten_session rs) (sessions rs) (sessions_differ rs a))))))
      (crossed rs a))

pub xids_differ : (rs : List SessionRecord) → Allowed rs → all_differ nat_eq (xids (snapshot_of rs)) ≡ true
xids_differ = numbers_differ (λ s. s.xid) (λ s q other. other.xid) entry_xid forgotten_xid (λ rs s. refl) (λ s. refl)

pub managers_differ : (rs : List SessionRecord) → Allowed rs → all_differ nat_eq (managers_of (snapshot_of rs)) ≡ true
managers_differ = numbers_differ (λ s. s.manager) (λ s q other. other.manager) entry_manager forgotten_manager (λ rs s. refl) (λ s. refl)
