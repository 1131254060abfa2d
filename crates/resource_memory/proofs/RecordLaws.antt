-- What is known, beside what the records say.
use Rattle.std.proofs.Common.{◌≡◌, ◌==◌, ◌&&◌, ◌+◌, not, ℕ, Bool, true, false, cond, List, [], ◌∷◌, map, length, find, filter, Option, Some, None, is_some, is_none, unwrap_or, Ordering, Less, Equal, Greater, refl, sym, ap, ◌∙◌, subst, true≢false, arith}
use Rattle.std.specs.BTreeMap.{insert_entry}
use Rattle.std.specs.List.Sorted.{IsStrictlySortedBy}
use Rattle.std.specs.Map.{lookup}
use Rattle.std.specs.Ordering.{is_eq}
use Rattle.std.proofs.lemmas.Bool.{and_parts, and_from}
use Rattle.std.proofs.lemmas.Bool.Decides.{nat_tests}
use Rattle.std.proofs.lemmas.Cmp.{tied_itself}
use Rattle.std.proofs.lemmas.List.Elements.{All-head, All-tail}
use Rattle.seata_types.specs.declared.ids.Leg.{Leg}
use Rattle.seata_types.specs.declared.rows.Image.{Image}
use Rattle.seata_types.specs.declared.rows.ReadRow.{ReadRow}
use Rattle.local_tables.specs.declared.schemas.Way.TheVariants as way
use Rattle.local_tables.specs.Rows.{Database, applied}
use Rattle.durable_records.specs.declared.resources.ResourceRecord.{ResourceRecord}
use Rattle.durable_records.specs.declared.resources.ResourceRecord.TheVariants as log
use Rattle.durable_records.specs.Fences.{Fence, FenceAnswer, IsTried, IsCommitted, IsRollbacked, IsSuspended, Runs, WasDone, Suspends, Refuses, fence, fences, on_try, on_confirm, on_cancel}
use Rattle.durable_records.specs.ResourceOrder.{Allowed, May, HasNoEntry, HasUndo, FitTables, image_keys, read_keys}
use Rattle.durable_records.specs.RowsKept.{tables, images_of}
use Rattle.durable_records.specs.UndoRecords.{Undo, undos, undo_of, is_marked, boots, is_leg as is_undo_leg, is_other_leg}
use Rattle.undo_log.specs.Entries.{IsInOrder, is_leg, order, entry_at, with_entry, without_entry}
use Rattle.undo_log.specs.declared.records.UndoEntry.{UndoEntry}
use Rattle.undo_log.specs.declared.records.UndoEntry.TheVariants as entry
use Rattle.tcc_fence.specs.Meanings.{Fences, fence_at}
use Rattle.tcc_fence.proofs.RecordLaws.{fences_stand}
use Rattle.resource_log.specs.Records.{leg_of, FitsRecord}
use Rattle.resource_log.specs.SnapshotOf.{undo_log_of, snapshot_of, fence_now, call_tried}
use Rattle.resource_memory.specs.Changes.{may_come, fit, rise, runs, suspends, is_undo_record, has_no_entry, has_undo_record, undo_images, undo_record}
use Rattle.resource_memory.specs.Keeping.{AreCalls, IsKept}
use Rattle.resource_memory.specs.Known.{Known, Calls, known_of, calls_tried, with_call}
use Rattle.resource_memory.specs.Laws.{AppliesRecords, AllowsRecords, FindsUndoRecords, KeepsRecords, SavesRecords}
use Rattle.resource_memory.specs.Lookups.{entry_by, entry_now, call_at}
use Rattle.resource_memory.specs.Snapshots.{fence_item}
use Rattle.resource_memory.proofs.CallLaws.{calls_with, calls_fenced}
use Rattle.resource_memory.proofs.Fits.{fit_tables, tables_fit, fit_alike, images_rise, reads_rise}
use Rattle.resource_memory.proofs.KeptLaws.{kept_at_opening, kept_after}
use Rattle.resource_memory.proofs.Legs.{leg_total, leg_exact}
use Rattle.resource_memory.proofs.Maps.{rising_insert, rising_remove, at_insert, at_remove}

-- ---- tests

same_nat : (m n : ℕ) → (m == n) ≡ true → m ≡ n
same_nat m n e = grind (arith, nat_tests)

nat_same : (m n : ℕ) → m ≡ n → (m == n) ≡ true
nat_same m n e = grind (arith, nat_tests)

equal_is : (r : Ordering) → is_eq r ≡ true → r ≡ Equal
equal_is Less e = absurd (true≢false (sym e))
equal_is Equal e = refl
equal_is Greater e = absurd (true≢false (sym e))

-- whether two branches are one, by their numbers
abbrev is_one : Leg → Leg → Bool
is_one l q = (l.xid.0 == q.xid.0) && (l.branch.0 == q.branch.0)

is_itself : (l : Leg) → is_leg l l ≡ true
is_itself l = ap is_eq (tied l)
  where
    tied : (q : Leg) → order q q ≡ Equal
    tied q = tied_itself leg_total q

one_by : (l q : Leg) (s t : Bool) → is_leg l q ≡ s → is_one l q ≡ t → s ≡ t
one_by l q true true e f = refl
one_by l q false false e f = refl
one_by l q true false e f =
    let same : l ≡ q = leg_exact l q (equal_is (order l q) e) in
    let yes : is_one l q ≡ true = and_from _ _ (nat_same l.xid.0 q.xid.0 (ap (λ (g : Leg). g.xid.0) same)) (nat_same l.branch.0 q.branch.0 (ap (λ (g : Leg). g.branch.0) same)) in
    sym yes ∙ f
one_by l q false true e f =
    let both = and_parts _ _ f in
    let x : l.xid.0 ≡ q.xid.0 = same_nat _ _ both.0 in
    let b : l.branch.0 ≡ q.branch.0 = same_nat _ _ both.1 in
    let same : l ≡ q = λ i. record { xid = record { 0 = x i }; branch = record { 0 = b i } } in
    sym e ∙ ap (λ (g : Leg). is_leg l g) (sym same) ∙ is_itself l

leg_is_one : (l q : Leg) → is_leg l q ≡ is_one l q
leg_is_one l q = one_by l q (is_leg l q) (is_one l q) refl refl

-- ---- the tables keep their number and schema

pub record AreTablesOf (opening db : Database) : Type 0 where
  pub resource : db.resource ≡ opening.resource
  pub schema : db.schema ≡ opening.schema

pub tables_of : (opening : Database) (rs : List ResourceRecord) → AreTablesOf opening (tables opening rs)
tables_of opening [] = record { resource = refl; schema = refl }
tables_of opening (log.Boot number ∷ rs) = tables_of opening rs
tables_of opening (log.Committed xid branch call images reads ∷ rs) = let t = tables_of opening rs in record { resource = t.resource; schema = t.schema }
tables_of opening (log.Undone xid branch ∷ rs) = let t = tables_of opening rs in record { resource = t.resource; schema = t.schema }
tables_of opening (log.Marked xid branch ∷ rs) = tables_of opening rs
tables_of opening (log.Cleared xid branch ∷ rs) = tables_of opening rs
tables_of opening (log.Tried xid branch call images ∷ rs) = let t = tables_of opening rs in record { resource = t.resource; schema = t.schema }
tables_of opening (log.Confirmed xid branch images ∷ rs) = let t = tables_of opening rs in record { resource = t.resource; schema = t.schema }
tables_of opening (log.Cancelled xid branch images ∷ rs) = let t = tables_of opening rs in record { resource = t.resource; schema = t.schema }
tables_of opening (log.Suspended xid branch ∷ rs) = tables_of opening rs
tables_of opening (log.LocalCommitted number images ∷ rs) = let t = tables_of opening rs in record { resource = t.resource; schema = t.schema }
tables_of opening (log.Outside number images ∷ rs) = let t = tables_of opening rs in record { resource = t.resource; schema = t.schema }

-- ---- undo records and markers

pub log_in_order : (rs : List ResourceRecord) → IsInOrder (undo_log_of rs)
unfolding IsStrictlySortedBy
log_in_order [] = tt
log_in_order (log.Committed xid branch call images reads ∷ rs) = rising_insert order leg_total leg_exact (undo_log_of rs) (leg_of xid branch) (undo_record (leg_of xid branch) call images reads) (log_in_order rs)
log_in_order (log.Undone xid branch ∷ rs) = rising_remove order leg_total leg_exact (undo_log_of rs) (leg_of xid branch) (log_in_order rs)
log_in_order (log.Cleared xid branch ∷ rs) = rising_remove order leg_total leg_exact (undo_log_of rs) (leg_of xid branch) (log_in_order rs)
log_in_order (log.Marked xid branch ∷ rs) = rising_insert order leg_total leg_exact (undo_log_of rs) (leg_of xid branch) entry.Finished (log_in_order rs)
log_in_order (log.Boot number ∷ rs) = log_in_order rs
log_in_order (log.Tried xid branch call images ∷ rs) = log_in_order rs
log_in_order (log.Confirmed xid branch images ∷ rs) = log_in_order rs
log_in_order (log.Cancelled xid branch images ∷ rs) = log_in_order rs
log_in_order (log.Suspended xid branch ∷ rs) = log_in_order rs
log_in_order (log.LocalCommitted number images ∷ rs) = log_in_order rs
log_in_order (log.Outside number images ∷ rs) = log_in_order rs

-- a branch among the records of others
found_others : (x b y c : ℕ) (us : List Undo) → find (is_undo_leg x b) (filter (is_other_leg y c) us) ≡ cond ((y == x) && (c == b)) None (find (is_undo_leg x b) us)
found_others x b y c [] = by ((y == x) && (c == b))
  where
    by : (s : Bool) → find (is_undo_leg x b) [] ≡ cond s None (find (is_undo_leg x b) [])
    by true = refl
    by false = refl
found_others x b y c (u ∷ us) = by (is_undo_leg y c u) refl (is_undo_leg x b u) refl ((y == x) && (c == b)) refl (found_others x b y c us)
  where
    -- u is of both, so these are one
    one_of_two : is_undo_leg y c u ≡ true → is_undo_leg x b u ≡ true → ((y == x) && (c == b)) ≡ true
    one_of_two e f =
        let p = and_parts (u.xid == y) (u.branch == c) e in
        let q = and_parts (u.xid == x) (u.branch == b) f in
        and_from _ _ (nat_same y x (sym (same_nat u.xid y p.0) ∙ same_nat u.xid x q.0)) (nat_same c b (sym (same_nat u.branch c p.1) ∙ same_nat u.branch b q.1))

    -- u is of one that isn't the other
    moved : is_undo_leg x b u ≡ true → ((y == x) && (c == b)) ≡ true → is_undo_leg y c u ≡ true
    moved f s =
        let q = and_parts (u.xid == x) (u.branch == b) f in
        let r = and_parts (y == x) (c == b) s in
        and_from _ _ (nat_same u.xid y (same_nat u.xid x q.0 ∙ sym (same_nat y x r.0))) (nat_same u.branch c (same_nat u.branch b q.1 ∙ sym (same_nat c b r.1)))

    by : (o : Bool) → is_undo_leg y c u ≡ o → (h : Bool) → is_undo_leg x b u ≡ h → (s : Bool) → ((y == x) && (c == b)) ≡ s
        → find (is_undo_leg x b) (filter (is_other_leg y c) us) ≡ cond s None (find (is_undo_leg x b) us)
        → find (is_undo_leg x b) (cond (not o) (u ∷ filter (is_other_leg y c) us) (filter (is_other_leg y c) us)) ≡ cond s None (cond h (Some u) (find (is_undo_leg x b) us))
    by true e true f true s rest = rest
    by true e true f false s rest = absurd (true≢false (sym (one_of_two e f) ∙ s))
    by true e false f true s rest = rest
    by true e false f false s rest = rest
    by false e true f true s rest = absurd (true≢false (sym (moved f s) ∙ e))
    by false e true f false s rest = ap (λ t. cond t (Some u) (find (is_undo_leg x b) (filter (is_other_leg y c) us))) f
    by false e false f true s rest = ap (λ t. cond t (Some u) (find (is_undo_leg x b) (filter (is_other_leg y c) us))) f ∙ rest
    by false e false f false s rest = ap (λ t. cond t (Some u) (find (is_undo_leg x b) (filter (is_other_leg y c) us))) f ∙ rest

none_some_bot : {A : Type 0} (a : A) → None ≡ Some a → ⊥
none_some_bot a e = cc

-- where two branches are one, what is said of the one is said of the other
at_one : (P : ℕ → ℕ → Type 0) (y c x b : ℕ) → ((y == x) && (c == b)) ≡ true → P y c → P x b
at_one P y c x b s p =
    let both = and_parts (y == x) (c == b) s in
    subst (λ (n : ℕ). P n b) (same_nat y x both.0) (subst (λ (n : ℕ). P y n) (same_nat c b both.1) p)

module _ (opening : Database) where
  -- a branch with an undo record has no marker
  pub unmarked : (rs : List ResourceRecord) → Allowed opening rs → (x b : ℕ) → is_some (undo_of rs x b) ≡ true → is_marked rs x b ≡ false
  unmarked [] a x b e = refl
  unmarked (log.Boot number ∷ rs) a x b e = unmarked rs a.0 x b e
  unmarked (log.Committed xid branch call images reads ∷ rs) a x b e = by ((xid.0 == x) && (branch.0 == b)) refl e (unmarked rs a.0 x b)
    where
      by : (s : Bool) → ((xid.0 == x) && (branch.0 == b)) ≡ s → is_some (cond s (Some (record { xid = xid.0; branch = branch.0; call = call; images = images; reads = reads })) (undo_of rs x b)) ≡ true → (is_some (undo_of rs x b) ≡ true → is_marked rs x b ≡ false) → is_marked rs x b ≡ false
      by true s f rest = at_one (λ y c. is_marked rs y c ≡ false) xid.0 branch.0 x b s a.1.0.1
      by false s f rest = rest f
  unmarked (log.Undone xid branch ∷ rs) a x b e =
      by ((xid.0 == x) && (branch.0 == b)) (ap is_some (sym (found_others x b xid.0 branch.0 (undos rs))) ∙ e) (unmarked rs a.0 x b)
    where
      by : (s : Bool) → is_some (cond s None (undo_of rs x b)) ≡ true → (is_some (undo_of rs x b) ≡ true → is_marked rs x b ≡ false) → is_marked rs x b ≡ false
      by true f rest = absurd (true≢false (sym f))
      by false f rest = rest f
  unmarked (log.Cleared xid branch ∷ rs) a x b e =
      by ((xid.0 == x) && (branch.0 == b)) (ap is_some (sym (found_others x b xid.0 branch.0 (undos rs))) ∙ e) (unmarked rs a.0 x b)
    where
      by : (s : Bool) → is_some (cond s None (undo_of rs x b)) ≡ true → (is_some (undo_of rs x b) ≡ true → is_marked rs x b ≡ false) → is_marked rs x b ≡ false
      by true f rest = absurd (true≢false (sym f))
      by false f rest = rest f
  unmarked (log.Marked xid branch ∷ rs) a x b e = by ((xid.0 == x) && (branch.0 == b)) refl (unmarked rs a.0 x b e)
    where
      by : (s : Bool) → ((xid.0 == x) && (branch.0 == b)) ≡ s → is_marked rs x b ≡ false → cond s true (is_marked rs x b) ≡ false
      by true s rest = absurd (true≢false (sym e ∙ ap is_some (at_one (λ y c. undo_of rs y c ≡ None) xid.0 branch.0 x b s a.1.0)))
      by false s rest = rest
  unmarked (log.Tried xid branch call images ∷ rs) a x b e = unmarked rs a.0 x b e
  unmarked (log.Confirmed xid branch images ∷ rs) a x b e = unmarked rs a.0 x b e
  unmarked (log.Cancelled xid branch images ∷ rs) a x b e = unmarked rs a.0 x b e
  unmarked (log.Suspended xid branch ∷ rs) a x b e = unmarked rs a.0 x b e
  unmarked (log.LocalCommitted number images ∷ rs) a x b e = unmarked rs a.0 x b e
  unmarked (log.Outside number images ∷ rs) a x b e = unmarked rs a.0 x b e

  abbrev at : List ResourceRecord → Leg → Option UndoEntry
  at rs q = entry_at (undo_log_of rs) q

  entered : (rs : List ResourceRecord) (leg q : Leg) (e : UndoEntry) → entry_at (with_entry (undo_log_of rs) leg e) q ≡ cond (is_one leg q) (Some e) (at rs q)
  entered rs leg q e = at_insert order leg_total leg_exact (undo_log_of rs) leg e q ∙ ap (λ t. cond t (Some e) (at rs q)) (leg_is_one leg q)

  taken : (rs : List ResourceRecord) (leg q : Leg) → entry_at (without_entry (undo_log_of rs) leg) q ≡ cond (is_one leg q) None (at rs q)
  taken rs leg q = at_remove order leg_total leg_exact (undo_log_of rs) leg q (log_in_order rs) ∙ ap (λ t. cond t None (at rs q)) (leg_is_one leg q)

  -- the undo record of a branch was taken out
  taken_now : (rs : List ResourceRecord) → Allowed opening rs → (leg q : Leg) → HasUndo rs leg.xid.0 leg.branch.0 → at rs q ≡ entry_now rs q.xid.0 q.branch.0 →
      entry_at (without_entry (undo_log_of rs) leg) q ≡ entry_by (find (is_undo_leg q.xid.0 q.branch.0) (filter (is_other_leg leg.xid.0 leg.branch.0) (undos rs))) (is_marked rs q.xid.0 q.branch.0)
  taken_now rs a leg q has rest =
      taken rs leg q ∙ by (is_one leg q) refl
      ∙ ap (λ (o : Option Undo). entry_by o (is_marked rs q.xid.0 q.branch.0)) (sym (found_others q.xid.0 q.branch.0 leg.xid.0 leg.branch.0 (undos rs)))
    where
      by : (s : Bool) → is_one leg q ≡ s → cond s None (at rs q) ≡ entry_by (cond s None (undo_of rs q.xid.0 q.branch.0)) (is_marked rs q.xid.0 q.branch.0)
      by true s =
          sym (ap (λ (m : Bool). entry_by None m) (unmarked rs a q.xid.0 q.branch.0 (at_one (λ y c. is_some (undo_of rs y c) ≡ true) leg.xid.0 leg.branch.0 q.xid.0 q.branch.0 s has)))
      by false s = rest

  pub undo_now : (rs : List ResourceRecord) → Allowed opening rs → (q : Leg) → at rs q ≡ entry_now rs q.xid.0 q.branch.0
  undo_now [] a q = refl
  undo_now (log.Boot number ∷ rs) a q = undo_now rs a.0 q
  undo_now (log.Committed xid branch call images reads ∷ rs) a q =
      entered rs (leg_of xid branch) q (undo_record (leg_of xid branch) call images reads) ∙ by (is_one (leg_of xid branch) q) (undo_now rs a.0 q)
    where
      by : (s : Bool) → at rs q ≡ entry_now rs q.xid.0 q.branch.0 → cond s (Some (undo_record (leg_of xid branch) call images reads)) (at rs q)
          ≡ entry_by (cond s (Some (record { xid = xid.0; branch = branch.0; call = call; images = images; reads = reads })) (undo_of rs q.xid.0 q.branch.0)) (is_marked rs q.xid.0 q.branch.0)
      by true rest = refl
      by false rest = rest
  undo_now (log.Undone xid branch ∷ rs) a q = taken_now rs a.0 (leg_of xid branch) q a.1 (undo_now rs a.0 q)
  undo_now (log.Cleared xid branch ∷ rs) a q = taken_now rs a.0 (leg_of xid branch) q a.1 (undo_now rs a.0 q)
  undo_now (log.Marked xid branch ∷ rs) a q = entered rs (leg_of xid branch) q entry.Finished ∙ by (is_one (leg_of xid branch) q) refl (undo_now rs a.0 q)
    where
      by : (s : Bool) → is_one (leg_of xid branch) q ≡ s → at rs q ≡ entry_now rs q.xid.0 q.branch.0 → cond s (Some entry.Finished) (at rs q) ≡ entry_by (undo_of rs q.xid.0 q.branch.0) (cond s true (is_marked rs q.xid.0 q.branch.0))
      by true s rest = sym (ap (λ (o : Option Undo). entry_by o true) (at_one (λ y c. undo_of rs y c ≡ None) xid.0 branch.0 q.xid.0 q.branch.0 s a.1.0))
      by false s rest = rest
  undo_now (log.Tried xid branch call images ∷ rs) a q = undo_now rs a.0 q
  undo_now (log.Confirmed xid branch images ∷ rs) a q = undo_now rs a.0 q
  undo_now (log.Cancelled xid branch images ∷ rs) a q = undo_now rs a.0 q
  undo_now (log.Suspended xid branch ∷ rs) a q = undo_now rs a.0 q
  undo_now (log.LocalCommitted number images ∷ rs) a q = undo_now rs a.0 q
  undo_now (log.Outside number images ∷ rs) a q = undo_now rs a.0 q

pub finds_undo_records : FindsUndoRecords
finds_undo_records opening rs a leg = undo_now opening rs a leg

-- ---- one more record

more : (r : ResourceRecord) (rs : List ResourceRecord) → length (r ∷ rs) ≡ length rs + 1
more r rs = omega arith

same_known : (a b : Known) → a.acts ≡ b.acts → a.boots ≡ b.boots → a.tables ≡ b.tables → a.undo_log ≡ b.undo_log → a.fences ≡ b.fences → a.calls ≡ b.calls → a ≡ b
same_known a b p q r s t u = λ i. record { acts = p i; boots = q i; tables = r i; undo_log = s i; fences = t i; calls = u i }

images_by : (o : Option Undo) (m : Bool) → images_of o ≡ undo_images (entry_by o m)
images_by (Some u) m = refl
images_by None true = refl
images_by None false = refl

pub applies : AppliesRecords
applies opening rs a (log.Boot number) may = same_known _ _ (more (log.Boot number) rs) refl refl refl refl refl
applies opening rs a (log.Committed xid branch call images reads) may = same_known _ _ (more (log.Committed xid branch call images reads) rs) refl refl refl refl refl
applies opening rs a (log.Undone xid branch) may =
    same_known _ _ (more (log.Undone xid branch) rs) refl
    (ap (λ (images : List Image). applied way.Undo images (tables opening rs))
    (images_by (undo_of rs xid.0 branch.0) (is_marked rs xid.0 branch.0) ∙ ap undo_images (sym (undo_now opening rs a (leg_of xid branch)))))
    refl refl refl
applies opening rs a (log.Marked xid branch) may = same_known _ _ (more (log.Marked xid branch) rs) refl refl refl refl refl
applies opening rs a (log.Cleared xid branch) may = same_known _ _ (more (log.Cleared xid branch) rs) refl refl refl refl refl
applies opening rs a (log.Tried xid branch call images) may = same_known _ _ (more (log.Tried xid branch call images) rs) refl refl refl refl refl
applies opening rs a (log.Confirmed xid branch images) may = same_known _ _ (more (log.Confirmed xid branch images) rs) refl refl refl refl refl
applies opening rs a (log.Cancelled xid branch images) may = same_known _ _ (more (log.Cancelled xid branch images) rs) refl refl refl refl refl
applies opening rs a (log.Suspended xid branch) may = same_known _ _ (more (log.Suspended xid branch) rs) refl refl refl refl refl
applies opening rs a (log.LocalCommitted number images) may = same_known _ _ (more (log.LocalCommitted number images) rs) refl refl refl refl refl
applies opening rs a (log.Outside number images) may = same_known _ _ (more (log.Outside number images) rs) refl refl refl refl refl

-- ---- when it may come

runs_is : (a : FenceAnswer) → runs a ≡ true → a ≡ Runs
runs_is Runs e = refl
runs_is WasDone e = absurd (true≢false (sym e))
runs_is Suspends e = absurd (true≢false (sym e))
runs_is Refuses e = absurd (true≢false (sym e))

suspends_is : (a : FenceAnswer) → suspends a ≡ true → a ≡ Suspends
suspends_is Runs e = absurd (true≢false (sym e))
suspends_is WasDone e = absurd (true≢false (sym e))
suspends_is Suspends e = refl
suspends_is Refuses e = absurd (true≢false (sym e))

no_entry_is : (o : Option Undo) (m : Bool) → is_none (entry_by o m) ≡ true → (o ≡ None) × (m ≡ false)
no_entry_is (Some u) m e = absurd (true≢false (sym e))
no_entry_is None true e = absurd (true≢false (sym e))
no_entry_is None false e = (refl, refl)

no_entry_from : (o : Option Undo) (m : Bool) → o ≡ None → m ≡ false → is_none (entry_by o m) ≡ true
no_entry_from o m e f = ap (λ (p : Option Undo). is_none (entry_by p m)) e ∙ ap (λ (n : Bool). is_none (entry_by None n)) f

undo_is : (o : Option Undo) (m : Bool) → is_undo_record (entry_by o m) ≡ is_some o
undo_is (Some u) m = refl
undo_is None true = refl
undo_is None false = refl

module _ (opening : Database) (rs : List ResourceRecord) (a : Allowed opening rs) where
  abbrev k : Known
  k = known_of opening rs

  fit_opening : (images : List Image) (reads : List ReadRow) → fit (tables opening rs) images reads ≡ fit opening images reads
  fit_opening images reads = let t = tables_of opening rs in fit_alike (tables opening rs) opening images reads t.resource t.schema

  fits_then : (images : List Image) (reads : List ReadRow) → fit (tables opening rs) images reads ≡ true → FitTables opening images reads
  fits_then images reads e = fit_tables opening images reads (sym (fit_opening images reads) ∙ e)

  then_fits : (images : List Image) (reads : List ReadRow) → rise (image_keys images) ≡ true → rise (read_keys reads) ≡ true → FitTables opening images reads → fit (tables opening rs) images reads ≡ true
  then_fits images reads p q f = fit_opening images reads ∙ tables_fit opening images reads p q f

  no_entry_then : (leg : Leg) → has_no_entry k leg ≡ true → HasNoEntry rs leg.xid.0 leg.branch.0
  no_entry_then leg e = no_entry_is (undo_of rs leg.xid.0 leg.branch.0) (is_marked rs leg.xid.0 leg.branch.0) (ap is_none (sym (undo_now opening rs a leg)) ∙ e)

  then_no_entry : (leg : Leg) → HasNoEntry rs leg.xid.0 leg.branch.0 → has_no_entry k leg ≡ true
  then_no_entry leg h = ap is_none (undo_now opening rs a leg) ∙ no_entry_from (undo_of rs leg.xid.0 leg.branch.0) (is_marked rs leg.xid.0 leg.branch.0) h.0 h.1

  undo_alike : (leg : Leg) → has_undo_record k leg ≡ is_some (undo_of rs leg.xid.0 leg.branch.0)
  undo_alike leg = ap is_undo_record (undo_now opening rs a leg) ∙ undo_is (undo_of rs leg.xid.0 leg.branch.0) (is_marked rs leg.xid.0 leg.branch.0)

  answered : (f : Option Fence → FenceAnswer) (leg : Leg) → f (fence_at (fences rs) leg) ≡ f (fence rs leg.xid.0 leg.branch.0)
  answered f leg = ap f (fences_stand rs leg)

  runs_then : (f : Option Fence → FenceAnswer) (leg : Leg) → runs (f (fence_at (fences rs) leg)) ≡ true → f (fence rs leg.xid.0 leg.branch.0) ≡ Runs
  runs_then f leg e = sym (answered f leg) ∙ runs_is (f (fence_at (fences rs) leg)) e

  then_runs : (f : Option Fence → FenceAnswer) (leg : Leg) → f (fence rs leg.xid.0 leg.branch.0) ≡ Runs → runs (f (fence_at (fences rs) leg)) ≡ true
  then_runs f leg e = ap runs (answered f leg ∙ e)

  may_then : (r : ResourceRecord) → may_come k r ≡ true → May opening rs r
  may_then (log.Boot number) e = same_nat number (boots rs + 1) e
  may_then (log.Committed xid branch call images reads) e = let p = and_parts _ _ e in (no_entry_then (leg_of xid branch) p.0, fits_then images reads p.1)
  may_then (log.Undone xid branch) e = sym (undo_alike (leg_of xid branch)) ∙ e
  may_then (log.Marked xid branch) e = no_entry_then (leg_of xid branch) e
  may_then (log.Cleared xid branch) e = sym (undo_alike (leg_of xid branch)) ∙ e
  may_then (log.Tried xid branch call images) e = let p = and_parts _ _ e in (runs_then on_try (leg_of xid branch) p.0, fits_then images [] p.1)
  may_then (log.Confirmed xid branch images) e = let p = and_parts _ _ e in (runs_then on_confirm (leg_of xid branch) p.0, fits_then images [] p.1)
  may_then (log.Cancelled xid branch images) e = let p = and_parts _ _ e in (runs_then on_cancel (leg_of xid branch) p.0, fits_then images [] p.1)
  may_then (log.Suspended xid branch) e = sym (answered on_cancel (leg_of xid branch)) ∙ suspends_is (on_cancel (fence_at (fences rs) (leg_of xid branch))) e
  may_then (log.LocalCommitted number images) e = fits_then images [] e
  may_then (log.Outside number images) e = fits_then images [] e

  then_may : (r : ResourceRecord) → FitsRecord r → May opening rs r → may_come k r ≡ true
  then_may (log.Boot number) f m = nat_same number (boots rs + 1) m
  then_may (log.Committed xid branch call images reads) f m =
      and_from _ _ (then_no_entry (leg_of xid branch) m.0) (then_fits images reads (images_rise images f.2.order) (reads_rise reads f.3.order) m.1)
  then_may (log.Undone xid branch) f m = undo_alike (leg_of xid branch) ∙ m
  then_may (log.Marked xid branch) f m = then_no_entry (leg_of xid branch) m
  then_may (log.Cleared xid branch) f m = undo_alike (leg_of xid branch) ∙ m
  then_may (log.Tried xid branch call images) f m = and_from _ _ (then_runs on_try (leg_of xid branch) m.0) (then_fits images [] (images_rise images f.2.order) refl m.1)
  then_may (log.Confirmed xid branch images) f m = and_from _ _ (then_runs on_confirm (leg_of xid branch) m.0) (then_fits images [] (images_rise images f.1.order) refl m.1)
  then_may (log.Cancelled xid branch images) f m = and_from _ _ (then_runs on_cancel (leg_of xid branch) m.0) (then_fits images [] (images_rise images f.1.order) refl m.1)
  then_may (log.Suspended xid branch) f m = ap suspends (answered on_cancel (leg_of xid branch) ∙ m)
  then_may (log.LocalCommitted number images) f m = then_fits images [] (images_rise images f.1.order) refl m
  then_may (log.Outside number images) f m = then_fits images [] (images_rise images f.1.order) refl m

pub allows : AllowsRecords
allows opening rs a r = (may_then opening rs a r, then_may opening rs a r)

-- ---- what records say is kept

pub keeps : KeepsRecords
keeps opening [] rows fit a = kept_at_opening opening rows
keeps opening (r ∷ rs) rows fit a =
    let before = keeps opening rs rows (All-tail FitsRecord r rs fit) a.0 in
    let may = then_may opening rs a.0 r (All-head FitsRecord r rs fit) a.1 in
    subst (λ (k : Known). IsKept k) (sym (applies opening rs a.0 r a.1)) (kept_after (known_of opening rs) before r may)

-- ---- the calls that were tried

nothing_sorted : IsStrictlySortedBy order []
unfolding IsStrictlySortedBy
nothing_sorted = tt

pub calls_of : (rs : List ResourceRecord) → AreCalls (fences rs) (calls_tried rs)
calls_of [] = record { in_order = nothing_sorted; counted = tt; fenced = λ leg e. refl }
calls_of (log.Tried xid branch call images ∷ rs) = calls_with (fences rs) (calls_tried rs) (leg_of xid branch) call IsTried (calls_of rs)
calls_of (log.Confirmed xid branch images ∷ rs) = calls_fenced (fences rs) (calls_tried rs) (leg_of xid branch) IsCommitted (calls_of rs)
calls_of (log.Cancelled xid branch images ∷ rs) = calls_fenced (fences rs) (calls_tried rs) (leg_of xid branch) IsRollbacked (calls_of rs)
calls_of (log.Suspended xid branch ∷ rs) = calls_fenced (fences rs) (calls_tried rs) (leg_of xid branch) IsSuspended (calls_of rs)
calls_of (log.Boot number ∷ rs) = calls_of rs
calls_of (log.Committed xid branch call images reads ∷ rs) = calls_of rs
calls_of (log.Undone xid branch ∷ rs) = calls_of rs
calls_of (log.Marked xid branch ∷ rs) = calls_of rs
calls_of (log.Cleared xid branch ∷ rs) = calls_of rs
calls_of (log.LocalCommitted number images ∷ rs) = calls_of rs
calls_of (log.Outside number images ∷ rs) = calls_of rs

-- only a branch without a fence is tried
untried_is : (o : Option Fence) → on_try o ≡ Runs → o ≡ None
untried_is None e = refl
untried_is (Some f) e = absurd (refuses e)
  where
    refuses : Refuses ≡ Runs → ⊥
    refuses g = cc

-- a branch that may be tried has no call yet
pub uncalled : (rs : List ResourceRecord) (leg : Leg) → on_try (fence rs leg.xid.0 leg.branch.0) ≡ Runs → lookup (is_leg leg) (calls_tried rs) ≡ None
uncalled rs leg e = (calls_of rs).fenced leg (fences_stand rs leg ∙ untried_is (fence rs leg.xid.0 leg.branch.0) e)

zero_is : (n : ℕ) → (n == 0) ≡ true → n ≡ 0
zero_is n e = grind (arith, nat_tests)

-- the call of a branch after another was tried
called_after : (calls : Calls) (leg q : Leg) (call : ℕ) → lookup (is_leg leg) calls ≡ None → call_at (with_call calls leg call) q ≡ cond (is_one leg q) call (call_at calls q)
called_after calls leg q call none = by (call == 0) refl
  where
    value : (s : Bool) (o : Option ℕ) → unwrap_or (cond s (Some call) o) 0 ≡ cond s call (unwrap_or o 0)
    value true o = refl
    value false o = refl

    zero : (s : Bool) → is_leg leg q ≡ s → call ≡ 0 → call_at calls q ≡ cond s call (call_at calls q)
    zero true s z =
        let same : leg ≡ q = leg_exact leg q (equal_is (order leg q) s) in
        ap (λ (g : Leg). call_at calls g) (sym same) ∙ ap (λ (o : Option ℕ). unwrap_or o 0) none ∙ sym z
    zero false s z = refl

    by : (b : Bool) → (call == 0) ≡ b → call_at (cond b calls (insert_entry order calls leg call)) q ≡ cond (is_one leg q) call (call_at calls q)
    by true z = zero (is_leg leg q) refl (zero_is call z) ∙ ap (λ s. cond s call (call_at calls q)) (leg_is_one leg q)
    by false z =
        ap (λ (o : Option ℕ). unwrap_or o 0) (at_insert order leg_total leg_exact calls leg call q)
        ∙ value (is_leg leg q) (lookup (is_leg q) calls) ∙ ap (λ s. cond s call (call_at calls q)) (leg_is_one leg q)

pub call_now : (opening : Database) (rs : List ResourceRecord) → Allowed opening rs → (q : Leg) → call_at (calls_tried rs) q ≡ call_tried rs q.xid.0 q.branch.0
call_now opening [] a q = refl
call_now opening (log.Tried xid branch call images ∷ rs) a q =
    called_after (calls_tried rs) (leg_of xid branch) q call (uncalled rs (leg_of xid branch) a.1.0)
    ∙ ap (λ (n : ℕ). cond (is_one (leg_of xid branch) q) call n) (call_now opening rs a.0 q)
call_now opening (log.Confirmed xid branch images ∷ rs) a q = call_now opening rs a.0 q
call_now opening (log.Cancelled xid branch images ∷ rs) a q = call_now opening rs a.0 q
call_now opening (log.Suspended xid branch ∷ rs) a q = call_now opening rs a.0 q
call_now opening (log.Boot number ∷ rs) a q = call_now opening rs a.0 q
call_now opening (log.Committed xid branch call images reads ∷ rs) a q = call_now opening rs a.0 q
call_now opening (log.Undone xid branch ∷ rs) a q = call_now opening rs a.0 q
call_now opening (log.Marked xid branch ∷ rs) a q = call_now opening rs a.0 q
call_now opening (log.Cleared xid branch ∷ rs) a q = call_now opening rs a.0 q
call_now opening (log.LocalCommitted number images ∷ rs) a q = call_now opening rs a.0 q
call_now opening (log.Outside number images ∷ rs) a q = call_now opening rs a.0 q

pub saves_records : SavesRecords
saves_records opening rs a = ap (λ l. record (snapshot_of opening rs) { fences = l }) (items (fences rs))
  where
    items : (fs : Fences) → map (fence_item (calls_tried rs)) fs ≡ map (fence_now rs) fs
    items [] = refl
    items (f ∷ fs) =
        ap (λ (n : ℕ). record (fence_now rs f) { call = n } ∷ map (fence_item (calls_tried rs)) fs) (call_now opening rs a (record { xid = record { 0 = f.0.0 }; branch = record { 0 = f.0.1 } }))
        ∙ ap (λ l. fence_now rs f ∷ l) (items fs)
