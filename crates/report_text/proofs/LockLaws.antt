-- The rows that are held by a snapshot of records are those that are held by the records.
use Rattle.std.proofs.Common.{◌≡◌, ◌+◌, ◌==◌, ◌&&◌, ◌||◌, not, ℕ, Bool, true, false, cond, if◌then◌else◌, List, [], ◌∷◌, map, Option, Some, None, is_some, refl, sym, ap, subst, ◌∙◌, arith}
use Rattle.std.specs.Prelude.{find, filter, option_map}
use Rattle.std.specs.List.Sorted.{IsStrictlySortedBy}
use Rattle.std.specs.Map.{keys_of}
use Rattle.std.proofs.lemmas.Bool.{eqb-true}
use Rattle.seata_types.specs.Orders.{key_cmp}
use Rattle.seata_types.specs.declared.ids.Xid.{Xid}
use Rattle.seata_types.specs.declared.rows.RowKey.{RowKey}
use Rattle.local_tables.specs.Lookups.{IsRising}
use Rattle.local_tables.specs.Rows.{is_key}
use Rattle.local_tables.proofs.MapLaws.{at, at_insert, rising_insert, same_entries}
use Rattle.durable_records.specs.declared.coordinators.SessionRecord.{SessionRecord}
use Rattle.durable_records.specs.Branches.{Grant, grants}
use Rattle.durable_records.specs.Members.{In}
use Rattle.durable_records.specs.Locks.{has_key, is_holding, holds_row, holding, holds, other_holder, with_holder, locks_on, locks_of, locks}
use Rattle.durable_records.specs.SessionOrder.{Allowed}
use Rattle.durable_records.proofs.MemberFacts.{of_filter, in_filter, member_found}
use Rattle.history_law.proofs.Holders.{one_holder}
use Rattle.history_law.proofs.Tests.{nat_same}
use Rattle.lock_table.specs.Locks.{Locks, Holds, locked, if_other}
use Rattle.lock_table.specs.Locks.{locks as rows_held, locks_on as rows_on}
use Rattle.session_log.specs.SnapshotOf.{snapshot_of}
use Rattle.session_memory.specs.Holding.{held_in}
use Rattle.session_memory.specs.Laws.{held_row}
use Rattle.session_memory.proofs.HolderLaws.{held_alike}
use Rattle.session_memory.proofs.Passing.{found_passes}
use Rattle.session_memory.proofs.Small.{true_false}
use Rattle.report_text.specs.Sections.{holder_in}

-- ---- rows that rise

none_rise : {X : Type 0} (es : List (RowKey × X)) → es ≡ [] → IsRising es
unfolding IsStrictlySortedBy
none_rise es is = rw is tt

numbers_rise : (x : ℕ) (ks : List RowKey) (ls : List (RowKey × ℕ)) → IsRising ls → IsRising (locks_on x ks ls)
numbers_rise x [] ls rising = rising
numbers_rise x (k ∷ ks) ls rising = rising_insert (locks_on x ks ls) k x (numbers_rise x ks ls rising)

grants_rise : (gs : List Grant) → IsRising (locks_of gs)
grants_rise [] = none_rise {X = ℕ} [] refl
grants_rise (g ∷ gs) = numbers_rise g.xid g.hold (locks_of gs) (grants_rise gs)

rows_rise_on : (x : Xid) (ks : List RowKey) (ls : Locks) → IsRising ls → IsRising (rows_on x ks ls)
rows_rise_on x [] ls rising = rising
rows_rise_on x (k ∷ ks) ls rising = rising_insert (rows_on x ks ls) k x (rows_rise_on x ks ls rising)

rows_rise : (hs : Holds) → IsRising (rows_held hs)
rows_rise [] = none_rise {X = Xid} [] refl
rows_rise (e ∷ es) = rows_rise_on e.0.xid e.1 (rows_held es) (rows_rise es)

keys_alike : (ls : Locks) → keys_of (map holder_in ls) ≡ keys_of ls
keys_alike [] = refl
keys_alike (l ∷ ls) = ap (λ ks. l.0 ∷ ks) (keys_alike ls)

named_rise : (ls : Locks) → IsRising ls → IsRising (map holder_in ls)
named_rise ls rising = subst (λ ks. IsStrictlySortedBy key_cmp ks) (sym (keys_alike ls)) rising

-- ---- the holder of a row, by its number

abbrev number : Xid → ℕ
number x = x.0

named_by : (b : Bool) (l : RowKey × Xid) (o : Option Xid) (n : Option ℕ) → n ≡ option_map number o → cond b (Some l.1.0) n ≡ option_map number (cond b (Some l.1) o)
named_by true l o n is = refl
named_by false l o n is = is

named_at : (ls : Locks) (q : RowKey) → at (map holder_in ls) q ≡ option_map number (locked ls q)
named_at [] q = refl
named_at (l ∷ ls) q = named_by (is_key q l.0) l (locked ls q) (at (map holder_in ls) q) (named_at ls q)

either : (a b : Bool) (s o : Option ℕ) → cond a s (cond b s o) ≡ cond (a || b) s o
either true b s o = refl
either false b s o = refl

numbered_at : (x : ℕ) (ks : List RowKey) (ls : List (RowKey × ℕ)) (q : RowKey) → at (locks_on x ks ls) q ≡ cond (has_key ks q) (Some x) (at ls q)
numbered_at x [] ls q = refl
numbered_at x (k ∷ ks) ls q =
    at_insert (locks_on x ks ls) k x q ∙ ap (λ (o : Option ℕ). cond (is_key k q) (Some x) o) (numbered_at x ks ls q) ∙ either (is_key k q) (has_key ks q) (Some x) (at ls q)

abbrev grant_xid : Grant → ℕ
grant_xid g = g.xid

-- the newest branch that holds a row is its holder
module _ (rs : List SessionRecord) (q : RowKey) where
  granted_by : (b c : Bool) (g : Grant) (ls : List (RowKey × ℕ)) (o : Option Grant) → has_key g.hold q ≡ c → at ls q ≡ option_map grant_xid o
      → at (if b then locks_on g.xid g.hold ls else ls) q ≡ option_map grant_xid (cond (c && b) (Some g) o)
  granted_by true true g ls o has is = numbered_at g.xid g.hold ls q ∙ ap (λ b. cond b (Some g.xid) (at ls q)) has
  granted_by true false g ls o has is = numbered_at g.xid g.hold ls q ∙ ap (λ b. cond b (Some g.xid) (at ls q)) has ∙ is
  granted_by false true g ls o has is = is
  granted_by false false g ls o has is = is

  of_first : (b : Bool) (g : Grant) (gs : List Grant) → locks_of (if b then g ∷ gs else gs) ≡ (if b then locks_on g.xid g.hold (locks_of gs) else locks_of gs)
  of_first true g gs = refl
  of_first false g gs = refl

  granted_at : (gs : List Grant) → at (locks_of (filter (is_holding rs) gs)) q ≡ option_map grant_xid (find (holds_row rs q) gs)
  granted_at [] = refl
  granted_at (g ∷ gs) =
      ap (λ ls. at ls q) (of_first (is_holding rs g) g (filter (is_holding rs) gs))
      ∙ granted_by (is_holding rs g) (has_key g.hold q) g (locks_of (filter (is_holding rs) gs)) (find (holds_row rs q) gs) refl (granted_at gs)

-- ---- the same holder by the snapshot

module _ (rs : List SessionRecord) (a : Allowed rs) (q : RowKey) where
  -- who holds the row and isn't x
  other : (x : Xid) → if_other q x (locked (rows_held (held_in (snapshot_of rs))) q) None ≡ option_map held_row (with_holder q (other_holder rs x.0 q) None)
  other x = held_alike rs a x (q ∷ [])

  abbrev next : ℕ → Xid
  next x = record { 0 = x + 1 }

  -- where some branch holds the row, another than a transaction that isn't there does
  found_other : (g : Grant) (o : Option Grant) → find (holds_row rs q) (grants rs) ≡ Some g → other_holder rs (g.xid + 1) q ≡ o → is_some o ≡ true
  found_other g o found is =
      let there = found_passes (holds_row rs q) g (grants rs) found in
      let held = in_filter (holds_row rs q) (grants rs) g there.0 there.1 in
      let apart : (g.xid == g.xid + 1) ≡ false = self_apart g.xid in
      ap is_some (sym is) ∙ member_found (λ h. not (h.xid == g.xid + 1)) (holding rs q) g held (ap not apart)
    where
      apart_by : (x : ℕ) (b : Bool) → (x == x + 1) ≡ b → b ≡ false
      apart_by x true e = absurd (let same : x ≡ x + 1 = eqb-true x (x + 1) e in omega (arith, same))
      apart_by x false e = refl

      self_apart : (x : ℕ) → (x == x + 1) ≡ false
      self_apart x = apart_by x (x == x + 1) refl

  -- where the snapshot has no holder, no branch holds the row
  nobody : (g : Grant) (o : Option Grant) → find (holds_row rs q) (grants rs) ≡ Some g → locked (rows_held (held_in (snapshot_of rs))) q ≡ None → other_holder rs (g.xid + 1) q ≡ o → ⊥
  nobody g None found none is = true_false (sym (found_other g None found is))
  nobody g (Some h) found none is =
      let empty : None ≡ option_map held_row (with_holder q (other_holder rs (g.xid + 1) q) None) = sym (ap (λ l. if_other q (next g.xid) l None) none) ∙ other (next g.xid) in
      let no : None ≡ Some (held_row (q, h)) = empty ∙ ap (λ w. option_map held_row (with_holder q w None)) is in
      cc

  alike_none : (f : Option Grant) → find (holds_row rs q) (grants rs) ≡ f → locked (rows_held (held_in (snapshot_of rs))) q ≡ None → None ≡ option_map grant_xid f
  alike_none None found none = refl
  alike_none (Some g) found none = absurd (nobody g (other_holder rs (g.xid + 1) q) found none refl)

  -- where it has one, a branch of this holder holds the row
  record Holder (y : Xid) : Type 0 where
    pub branch : Grant
    pub passes : In branch (grants rs) × (holds_row rs q branch ≡ true)
    pub of : branch.xid ≡ y.0

  holder_by : (y : Xid) (o : Option Grant) → other_holder rs (y.0 + 1) q ≡ o → Some (q, y) ≡ option_map held_row (with_holder q o None) → Holder y
  holder_by y None is e = absurd (let no : Some (q, y) ≡ None = e in cc)
  holder_by y (Some h) is e =
      let found = found_passes (λ g. not (g.xid == y.0 + 1)) h (holding rs q) is in
      let same : (q, y) ≡ held_row (q, h) = cc in
      record { branch = h; passes = of_filter (holds_row rs q) (grants rs) h found.0; of = sym (ap (λ (p : RowKey × Xid). p.1.0) same) }

  other_by : (y : Xid) (b : Bool) → (y.0 == y.0 + 1) ≡ b → if◌then◌else◌ {A = Option (RowKey × Xid)} b None (Some (q, y)) ≡ Some (q, y)
  other_by y true e = absurd (let same : y.0 ≡ y.0 + 1 = eqb-true y.0 (y.0 + 1) e in omega (arith, same))
  other_by y false e = refl

  holder_of : (y : Xid) → locked (rows_held (held_in (snapshot_of rs))) q ≡ Some y → Holder y
  holder_of y is =
      holder_by y (other_holder rs (y.0 + 1) q) refl
      (sym (other_by y (y.0 == y.0 + 1) refl) ∙ sym (ap (λ l. if_other q (next y.0) l None) is) ∙ other (next y.0))

  -- a branch that holds the row makes its transaction hold it
  holds_by : (b : Grant) → In b (grants rs) → holds_row rs q b ≡ true → holds rs b.xid q ≡ true
  holds_by b i h = member_found (λ g. g.xid == b.xid) (holding rs q) b (in_filter (holds_row rs q) (grants rs) b i h) (nat_same b.xid b.xid refl)

  alike_some : (y : Xid) (f : Option Grant) → find (holds_row rs q) (grants rs) ≡ f → Holder y → Some y.0 ≡ option_map grant_xid f
  alike_some y None found h =
      absurd (true_false (sym (member_found (holds_row rs q) (grants rs) h.branch h.passes.0 h.passes.1) ∙ ap is_some found))
  alike_some y (Some g) found h =
      let there = found_passes (holds_row rs q) g (grants rs) found in
      ap (λ n. Some n) (sym h.of ∙ one_holder rs a q h.branch.xid g.xid (holds_by h.branch h.passes.0 h.passes.1) (holds_by g there.0 there.1))

  alike_by : (o : Option Xid) → locked (rows_held (held_in (snapshot_of rs))) q ≡ o → option_map number o ≡ option_map grant_xid (find (holds_row rs q) (grants rs))
  alike_by None is = alike_none (find (holds_row rs q) (grants rs)) refl is
  alike_by (Some y) is = alike_some y (find (holds_row rs q) (grants rs)) refl (holder_of y is)

  alike_at : at (map holder_in (rows_held (held_in (snapshot_of rs)))) q ≡ at (locks rs) q
  alike_at =
      named_at (rows_held (held_in (snapshot_of rs))) q ∙ alike_by (locked (rows_held (held_in (snapshot_of rs))) q) refl ∙ sym (granted_at rs q (grants rs))

-- each row that is held, with its holder
pub locks_alike : (rs : List SessionRecord) → Allowed rs → map holder_in (rows_held (held_in (snapshot_of rs))) ≡ locks rs
locks_alike rs a =
    same_entries (map holder_in (rows_held (held_in (snapshot_of rs)))) (locks rs) (named_rise (rows_held (held_in (snapshot_of rs))) (rows_rise (held_in (snapshot_of rs))))
    (grants_rise (filter (is_holding rs) (grants rs))) (alike_at rs a)
