-- A record keeps what is written of a snapshot in its places, and what is read stands there.
use Rattle.std.proofs.Common.{◌≡◌, inl, inr, ◌==◌, ◌<◌, ◌≤◌, ◌+◌, ◌^◌, not, ℕ, Bool, true, false, if◌then◌else◌, List, [], ◌∷◌, ◌++◌, length, map, Option, Some, None, All, refl, sym, ap, subst, ◌∙◌, arith}
use Rattle.std.specs.Prelude.{◌≢◌, nat_eq, nat_le, nat_lt, option_map, find}
use Rattle.std.specs.List.{list_all, list_any}
use Rattle.std.proofs.lemmas.Bool.{eq-eqb, leb-true, ltb-true, lt-ltb}
use Rattle.std.proofs.lemmas.Bool.Decides.{nat_tests}
use Rattle.std.proofs.lemmas.List.Elements.{All-nil, All-cons, All-head, All-tail}
use Rattle.seata_types.specs.declared.ids.Xid.{Xid}
use Rattle.seata_types.specs.declared.rows.RowKey.{RowKey}
use Rattle.byte_fields.specs.declared.layouts.KeyLayout.{KeyLayout}
use Rattle.byte_fields.specs.declared.layouts.KeyLayout.TheVariants as key
use Rattle.byte_fields.specs.Layout.{FitsKeyIn, FitsKeysIn, FitsKeys, IsInOrder}
use Rattle.byte_fields.specs.Exactness.{AreBytes}
use Rattle.durable_records.specs.declared.coordinators.SessionRecord.{SessionRecord}
use Rattle.durable_records.specs.declared.coordinators.SessionRecord.TheVariants as log
use Rattle.durable_records.specs.SessionOrder.{is_counted, is_within}
use Rattle.session_log.specs.declared.layouts.SnapshotLayout.{SnapshotLayout}
use Rattle.session_log.specs.declared.layouts.SnapshotLayout.TheVariants as layout
use Rattle.session_log.specs.declared.sessions.Branch.{Branch}
use Rattle.session_log.specs.declared.sessions.Session.{Session}
use Rattle.session_log.specs.declared.sessions.SessionEntry.{SessionEntry}
use Rattle.session_log.specs.declared.sessions.Forgotten.{Forgotten}
use Rattle.session_log.specs.declared.sessions.Snapshot.{Snapshot}
use Rattle.session_log.specs.Records.{FitsRecordIn, FitsRecord, record_of}
use Rattle.session_log.specs.Snapshots.{FitsBranchIn, FitsEntryIn, FitsForgotten, FitsAllForgotten, FitsSnapshotIn, FitsSnapshot, snapshot_in_bytes}
use Rattle.session_log.specs.SnapshotOf.{snapshot_of}
use Rattle.session_log.specs.Layouts.{keys_of}
use Rattle.session_log.specs.Soundness.{entry_xid, forgotten_xid, differ_after, has_counts, status_fits, failure_fits, is_entry, is_numbered_branch, is_forgotten_entry, has_sound_parts, is_sound, if_sound, xids, managers_of, same_ticket_key, tickets, all_differ}
use Rattle.session_log.proofs.Members.{In, in_second}
use Rattle.session_log.proofs.RecordLaws.{records_are_of_layouts}
use Rattle.session_log.proofs.SnapshotLaws.{snapshots_are_of_layouts}
use Rattle.seata_types.specs.declared.limits.TheConstants.{ACTS}
use Rattle.seata_types.specs.declared.limits.TheConstants.{FIELD_ITEMS}
use Rattle.session_memory.specs.Holding.{held_in}
use Rattle.session_memory.specs.Loading.{are_held_once}
use Rattle.session_memory.specs.Lookups.{has_xid, session_of}
use Rattle.session_memory.specs.Changes.{with_branch, with_ended, turned, changed, without, with_forgotten, forgotten_as, begun_entry, granted_branch, xid_in, with_turned, after, may_come}
use Rattle.session_memory.specs.Order.{Each, AreAbove, AreRising, branch_number, IsGranted, IsNumbered, IsCounted}
use Rattle.session_memory.proofs.Small.{false_true, none_some, and_left, and_right, not_true, same_nat}
use Rattle.session_memory.proofs.Lists.{each_same, each_pair, each_both, above_less}
use Rattle.session_memory.proofs.Passing.{any_of, found_passes}
use Rattle.session_memory.proofs.KeptLaws.{each_changed, each_without}
use Rattle.session_memory.proofs.LoadLaws.{counted_after}
use Rattle.session_memory.specs.Writing.{if_within, if_held_once, has_few_branches, can_write, FitsParts, FitsSession, FitsGone, IsUnknown, HasPlaces, KeepsPlaces}

-- ---- lists

module _ {X : Type 0} (P : X → Type 0) where
  each_of : (xs : List X) → All P xs → Each P xs
  each_of [] all = tt
  each_of (x ∷ xs) all = (All-head P x xs all, each_of xs (All-tail P x xs all))

  all_of : (xs : List X) → Each P xs → All P xs
  all_of [] each = All-nil P
  all_of (x ∷ xs) each = All-cons P x xs each.0 (all_of xs each.1)

  each_in : (xs : List X) → ((x : X) → In x xs → P x) → Each P xs
  each_in [] f = tt
  each_in (x ∷ xs) f = (f x (inl refl), each_in xs (λ y i. f y (inr i)))

  of_each : (xs : List X) → Each P xs → (x : X) → In x xs → P x
  of_each [] each x i = absurd i
  of_each (y ∷ ys) each x (inl is) = subst P (sym is) each.0
  of_each (y ∷ ys) each x (inr i) = of_each ys each.1 x i

each_test : {X : Type 0} (p : X → Bool) (xs : List X) → list_all p xs ≡ true → Each (λ x. p x ≡ true) xs
each_test p [] e = tt
each_test p (x ∷ xs) e = (and_left (p x) (list_all p xs) e, each_test p xs (and_right (p x) (list_all p xs) e))

-- ---- keys of an older layout

parts_fit : (how : KeyLayout) (k : RowKey) → FitsKeyIn how k → FitsKeyIn key.Counted k
parts_fit key.Counted k fits = fits
parts_fit key.Single k fits =
    let one = fits.pk.count in
    record { resource = fits.resource; table = fits.table; pk = record { count = (omega (arith, one), omega (arith, one)); each = fits.pk.each } }

keys_fit : (how : KeyLayout) (ks : List RowKey) → FitsKeysIn how ks → FitsKeys ks
keys_fit how ks fits = record {
  count = fits.count;
  each = all_of (FitsKeyIn key.Counted) ks (each_same (FitsKeyIn how) (FitsKeyIn key.Counted) (parts_fit how) ks (each_of (FitsKeyIn how) ks fits.each));
  order = fits.order;
}

record_fits : (how : KeyLayout) (r : SessionRecord) → FitsRecordIn how r → FitsRecord r
record_fits how (log.Begun xid manager begun timeout) fits = fits
record_fits how (log.Granted xid branch resource call ticket kind hold) fits = (fits.0, fits.1, fits.2, fits.3, fits.4, keys_fit how hold fits.5)
record_fits how (log.Decided xid d) fits = fits
record_fits how (log.Retrying xid) fits = fits
record_fits how (log.Ended xid branch) fits = fits
record_fits how (log.Failed xid branch stmt) fits = fits
record_fits how (log.Finished xid) fits = fits
record_fits how (log.Forgot xid) fits = fits

-- ---- a record more

ended_parts_by : (b : ℕ) (t : Bool) (c : Branch) (cs rest : List Branch) → FitsParts c → Each FitsParts cs → Each FitsParts rest → Each FitsParts (if t then record c { ended = true } ∷ cs else c ∷ rest)
ended_parts_by b true c cs rest fits each below = (record { resource = fits.resource; call = fits.call; ticket = fits.ticket; hold = fits.hold }, each)
ended_parts_by b false c cs rest fits each below = (fits, below)

ended_parts : (b : ℕ) (cs : List Branch) → Each FitsParts cs → Each FitsParts (with_ended b cs)
ended_parts b [] each = tt
ended_parts b (c ∷ cs) each = ended_parts_by b (c.id.0 == b) c cs (with_ended b cs) each.0 each.1 (ended_parts b cs each.1)

turned_fits : (r : SessionRecord) → FitsRecord r → (e : SessionEntry) → FitsSession e → FitsSession (record e { session = turned r e.session })
turned_fits (log.Begun xid manager begun timeout) fits e w = record { manager = w.manager; begun = w.begun; timeout = w.timeout; failed = w.failed; branches = w.branches }
turned_fits (log.Granted xid branch resource call ticket kind hold) fits e w = record { manager = w.manager; begun = w.begun; timeout = w.timeout; failed = w.failed; branches = w.branches }
turned_fits (log.Decided xid d) fits e w = record { manager = w.manager; begun = w.begun; timeout = w.timeout; failed = w.failed; branches = w.branches }
turned_fits (log.Retrying xid) fits e w = record { manager = w.manager; begun = w.begun; timeout = w.timeout; failed = w.failed; branches = w.branches }
turned_fits (log.Ended xid branch) fits e w = record { manager = w.manager; begun = w.begun; timeout = w.timeout; failed = w.failed; branches = ended_parts branch.0 e.session.branches w.branches }
turned_fits (log.Failed xid branch stmt) fits e w = record { manager = w.manager; begun = w.begun; timeout = w.timeout; failed = (fits.1, fits.2); branches = w.branches }
turned_fits (log.Finished xid) fits e w = record { manager = w.manager; begun = w.begun; timeout = w.timeout; failed = w.failed; branches = w.branches }
turned_fits (log.Forgot xid) fits e w = record { manager = w.manager; begun = w.begun; timeout = w.timeout; failed = w.failed; branches = w.branches }

-- a transaction that changes keeps its number
unknown_changed : (x : ℕ) (f : Session → Session) (es : List SessionEntry) (g : Forgotten) → IsUnknown es g → IsUnknown (changed x f es) g
unknown_changed x f es g u = each_changed x f (λ e. e.xid.0 ≢ g.xid.0) (λ e. e.xid.0 ≢ g.xid.0) (λ e d. d) (λ e d. d) es u

has_places_turned : (r : SessionRecord) (s : Snapshot) → IsCounted (with_turned r s) → FitsRecord r → HasPlaces s → HasPlaces (with_turned r s)
has_places_turned r s c fits w = record {
  counted = c;
  sessions = each_changed (xid_in r) (turned r) FitsSession FitsSession (λ e t. t) (turned_fits r fits) s.sessions w.sessions;
  gone = w.gone;
  rising = w.rising;
  apart = each_same (IsUnknown s.sessions) (IsUnknown (changed (xid_in r) (turned r) s.sessions)) (unknown_changed (xid_in r) (turned r) s.sessions) s.forgotten w.apart;
}

-- ---- a transaction that is forgotten

others_above : (n x : ℕ) → x ≤ n → (es : List SessionEntry) → AreAbove entry_xid n es → Each (λ e. e.xid.0 ≢ x) es
others_above n x le [] a = tt
others_above n x le (e ∷ es) a = (λ is. omega (arith, is, le, a.0), others_above n x le es a.1)

differs : (m n : ℕ) → (m == n) ≡ false → m ≢ n
differs m n e is = false_true (sym e ∙ eq-eqb m n is)

left_unknown_by : (b : Bool) (x : ℕ) (e : SessionEntry) (es rest : List SessionEntry) → (e.xid.0 == x) ≡ b → AreAbove entry_xid e.xid.0 es → Each (λ d. d.xid.0 ≢ x) rest → Each (λ d. d.xid.0 ≢ x) (if b then es else e ∷ rest)
left_unknown_by true x e es rest is a below = let same = same_nat e.xid.0 x is in others_above e.xid.0 x (omega (arith, same)) es a
left_unknown_by false x e es rest is a below = (differs e.xid.0 x is, below)

left_unknown : (x : ℕ) (es : List SessionEntry) → AreRising entry_xid es → Each (λ e. e.xid.0 ≢ x) (without x es)
left_unknown x [] r = tt
left_unknown x (e ∷ es) r = left_unknown_by (e.xid.0 == x) x e es (without x es) refl r.0 (left_unknown x es r.1)

module _ (f : Forgotten) where
  put_each_by : (P : Forgotten → Type 0) (b : Bool) (g : Forgotten) (gs rest : List Forgotten) → P f → P g → Each P gs → Each P rest → Each P (if b then f ∷ g ∷ gs else g ∷ rest)
  put_each_by P true g gs rest new here each below = (new, (here, each))
  put_each_by P false g gs rest new here each below = (here, below)

  put_each : (P : Forgotten → Type 0) (gs : List Forgotten) → P f → Each P gs → Each P (with_forgotten f gs)
  put_each P [] new each = (new, tt)
  put_each P (g ∷ gs) new each = put_each_by P (nat_lt f.xid.0 g.xid.0) g gs (with_forgotten f gs) new each.0 each.1 (put_each P gs new each.1)

  put_above_by : (n : ℕ) (b : Bool) (g : Forgotten) (gs rest : List Forgotten) → n < f.xid.0 → n < g.xid.0 → AreAbove forgotten_xid n gs → AreAbove forgotten_xid n rest → AreAbove forgotten_xid n (if b then f ∷ g ∷ gs else g ∷ rest)
  put_above_by n true g gs rest new here a below = (new, (here, a))
  put_above_by n false g gs rest new here a below = (here, below)

  put_above : (n : ℕ) (gs : List Forgotten) → n < f.xid.0 → AreAbove forgotten_xid n gs → AreAbove forgotten_xid n (with_forgotten f gs)
  put_above n [] new a = (new, tt)
  put_above n (g ∷ gs) new a = put_above_by n (nat_lt f.xid.0 g.xid.0) g gs (with_forgotten f gs) new a.0 a.1 (put_above n gs new a.1)

  put_rising_by : (b : Bool) (g : Forgotten) (gs : List Forgotten) → nat_lt f.xid.0 g.xid.0 ≡ b → f.xid.0 ≢ g.xid.0 → AreAbove forgotten_xid g.xid.0 gs → AreRising forgotten_xid gs → AreRising forgotten_xid (with_forgotten f gs) →
      AreRising forgotten_xid (if b then f ∷ g ∷ gs else g ∷ with_forgotten f gs)
  put_rising_by true g gs is other a r below =
      let less = ltb-true f.xid.0 g.xid.0 is in
      ((less, above_less forgotten_xid f.xid.0 g.xid.0 (omega (arith, less)) gs a), (a, r))
  put_rising_by false g gs is other a r below = (put_above g.xid.0 gs (greater (not_less f.xid.0 g.xid.0 is) other) a, below)
    where
      not_less : (m n : ℕ) → nat_lt m n ≡ false → n ≤ m
      not_less m n e = grind (arith, nat_tests)

      greater : {m n : ℕ} → n ≤ m → m ≢ n → n < m
      greater {m} {n} le d = omega (arith, le, d)

  put_rising : (gs : List Forgotten) → Each (λ g. f.xid.0 ≢ g.xid.0) gs → AreRising forgotten_xid gs → AreRising forgotten_xid (with_forgotten f gs)
  put_rising [] others r = (tt, tt)
  put_rising (g ∷ gs) others r = put_rising_by (nat_lt f.xid.0 g.xid.0) g gs refl others.0 r.0 r.1 (put_rising gs others.1 r.1)

module _ (s : Snapshot) (x : Xid) (w : HasPlaces s) (c : IsCounted (after (log.Forgot x) s)) where
  abbrev Left : List Forgotten → Type 0
  Left fs = HasPlaces (record s { acts = s.acts + 1; sessions = without x.0 s.sessions; forgotten = fs })

  unknown_left : (g : Forgotten) → IsUnknown s.sessions g → IsUnknown (without x.0 s.sessions) g
  unknown_left g u = each_without x.0 (λ e. e.xid.0 ≢ g.xid.0) s.sessions u

  recounted : (fs : List Forgotten) → IsCounted (record s { acts = s.acts + 1; sessions = without x.0 s.sessions; forgotten = fs })
  recounted fs = record { begun = c.begun; granted = c.granted; each = c.each; rising = c.rising }

  forgets_by : (o : Option SessionEntry) → find (has_xid x.0) s.sessions ≡ o → Left (forgotten_as x (option_map session_of o) s.forgotten)
  forgets_by None is = record {
    counted = recounted s.forgotten;
    sessions = each_without x.0 FitsSession s.sessions w.sessions;
    gone = w.gone;
    rising = w.rising;
    apart = each_same (IsUnknown s.sessions) (IsUnknown (without x.0 s.sessions)) unknown_left s.forgotten w.apart;
  }
  forgets_by (Some e) is =
      let found = found_passes (has_xid x.0) e s.sessions is in
      let at : e.xid.0 ≡ x.0 = same_nat e.xid.0 x.0 found.1 in
      let fits = of_each FitsSession s.sessions w.sessions e found.0 in
      let numbered = of_each (IsNumbered s.begun s.granted) s.sessions w.counted.each e found.0 in
      let f : Forgotten = record { xid = x; manager = e.session.manager } in record {
        counted = recounted (with_forgotten f s.forgotten);
        sessions = each_without x.0 FitsSession s.sessions w.sessions;
        gone = put_each f (FitsGone s.begun) s.forgotten (record { xid = subst (λ (n : ℕ). n ≤ s.begun) at numbered.xid; manager = fits.manager }) w.gone;
        rising = put_rising f s.forgotten
            (each_same (IsUnknown s.sessions) (λ g. x.0 ≢ g.xid.0) (λ g u same. of_each (λ (d : SessionEntry). d.xid.0 ≢ g.xid.0) s.sessions u e found.0 (at ∙ same)) s.forgotten w.apart) w.rising;
        apart = put_each f (IsUnknown (without x.0 s.sessions)) s.forgotten (left_unknown x.0 s.sessions w.counted.rising)
            (each_same (IsUnknown s.sessions) (IsUnknown (without x.0 s.sessions)) unknown_left s.forgotten w.apart);
      }

  forgets : HasPlaces (after (log.Forgot x) s)
  forgets = forgets_by (find (has_xid x.0) s.sessions) refl

-- ---- each record

has_places_after : (s : Snapshot) (r : SessionRecord) → HasPlaces s → FitsRecord r → may_come s r ≡ true → HasPlaces (after r s)
has_places_after s (log.Begun xid manager begun timeout) w fits may =
    let c = counted_after s (log.Begun xid manager begun timeout) w.counted may in
    let next : xid.0 ≡ s.begun + 1 = same_nat xid.0 (s.begun + 1) (and_left (xid.0 == s.begun + 1) _ may) in record {
      counted = c;
      sessions = each_both FitsSession s.sessions (begun_entry xid manager begun timeout ∷ []) w.sessions
          (record { manager = fits.1; begun = fits.2; timeout = fits.3; failed = tt; branches = tt }, tt);
      gone = each_same (FitsGone s.begun) (FitsGone (s.begun + 1)) (λ f g. record { xid = let le = g.xid in omega (arith, le); manager = g.manager }) s.forgotten w.gone;
      rising = w.rising;
      apart = each_same (λ f. IsUnknown s.sessions f × FitsGone s.begun f) (IsUnknown (s.sessions ++ begun_entry xid manager begun timeout ∷ []))
          (λ f both. each_both (λ e. e.xid.0 ≢ f.xid.0) s.sessions (begun_entry xid manager begun timeout ∷ []) both.0
          (λ same. let le = both.1.xid in omega (arith, same, next, le), tt))
          s.forgotten (each_pair (IsUnknown s.sessions) (FitsGone s.begun) s.forgotten w.apart w.gone);
    }
has_places_after s (log.Granted xid branch resource call ticket kind hold) w fits may =
    let b = granted_branch branch resource call ticket kind hold in
    let c = counted_after s (log.Granted xid branch resource call ticket kind hold) w.counted may in record {
      counted = c;
      sessions = each_changed xid.0 (with_branch b) FitsSession FitsSession (λ e t. t)
          (λ e t. record {
            manager = t.manager;
            begun = t.begun;
            timeout = t.timeout;
            failed = t.failed;
            branches = each_both FitsParts e.session.branches (b ∷ []) t.branches (record { resource = fits.2; call = fits.3; ticket = fits.4; hold = fits.5 }, tt);
          }) s.sessions w.sessions;
      gone = w.gone;
      rising = w.rising;
      apart = each_same (IsUnknown s.sessions) (IsUnknown (changed xid.0 (with_branch b) s.sessions)) (unknown_changed xid.0 (with_branch b) s.sessions) s.forgotten w.apart;
    }
has_places_after s (log.Decided xid d) w fits may = has_places_turned (log.Decided xid d) s (counted_after s (log.Decided xid d) w.counted may) fits w
has_places_after s (log.Retrying xid) w fits may = has_places_turned (log.Retrying xid) s (counted_after s (log.Retrying xid) w.counted may) fits w
has_places_after s (log.Ended xid branch) w fits may = has_places_turned (log.Ended xid branch) s (counted_after s (log.Ended xid branch) w.counted may) fits w
has_places_after s (log.Failed xid branch stmt) w fits may = has_places_turned (log.Failed xid branch stmt) s (counted_after s (log.Failed xid branch stmt) w.counted may) fits w
has_places_after s (log.Finished xid) w fits may = has_places_turned (log.Finished xid) s (counted_after s (log.Finished xid) w.counted may) fits w
has_places_after s (log.Forgot xid) w fits may = forgets s xid w (counted_after s (log.Forgot xid) w.counted may)

within_is : (managers resources : ℕ) (o : Option SessionRecord) (r : SessionRecord) → if_within managers resources o ≡ Some r → o ≡ Some r
within_is managers resources None r e = none_some e
within_is managers resources (Some q) r e = by (is_within managers resources q) e
  where
    by : (b : Bool) → (if b then Some q else None) ≡ Some r → Some q ≡ Some r
    by true e = e
    by false e = none_some e

-- a record that is read, and may come
pub sound_after : (managers resources : ℕ) (s : Snapshot) (body : List ℕ) (r : SessionRecord) → AreBytes body → if_within managers resources (record_of body) ≡ Some r → may_come s r ≡ true → HasPlaces s → HasPlaces (after r s)
sound_after managers resources s body r bytes is may w =
    let k = records_are_of_layouts.only body r bytes (within_is managers resources (record_of body) r is) in
    has_places_after s r w (record_fits k.0 r k.1) may

-- ---- numbers that rise, and lists in order

module _ {X : Type 0} (number : X → ℕ) where
  abbrev follows : X → X → Bool
  follows last x = nat_lt (number last) (number x)

  order_above : (x : X) (xs : List X) → IsInOrder follows (Some x) xs → AreAbove number (number x) xs
  order_above x [] o = tt
  order_above x (y ∷ ys) o = let lt = ltb-true (number x) (number y) o.0 in (lt, above_less number (number x) (number y) (omega (arith, lt)) ys (order_above y ys o.1))

  order_rising : (last : Option X) (xs : List X) → IsInOrder follows last xs → AreRising number xs
  order_rising last [] o = tt
  order_rising last (x ∷ xs) o = (order_above x xs o.1, order_rising (Some x) xs o.1)

  rising_order : (x : X) (xs : List X) → AreAbove number (number x) xs → AreRising number xs → IsInOrder follows (Some x) xs
  rising_order x [] a r = tt
  rising_order x (y ∷ ys) a r = (lt-ltb (number x) (number y) a.0, rising_order y ys r.0 r.1)

  rising_first : (xs : List X) → AreRising number xs → IsInOrder follows None xs
  rising_first [] r = tt
  rising_first (x ∷ xs) r = (refl, rising_order x xs r.0 r.1)

  count_above : (m n : ℕ) (xs : List X) → AreAbove number m xs → AreRising number xs → Each (λ x. number x ≤ n) xs → m ≤ n → length xs + m ≤ n
  count_above m n [] a r each le = omega (arith, le)
  count_above m n (x ∷ xs) a r each le = let rest = count_above (number x) n xs r.0 r.1 each.1 each.0 in omega (arith, rest, a.0)

  few_rising : (n : ℕ) (xs : List X) → AreRising number xs → Each (λ x. number x ≤ n) xs → length xs ≤ n + 1
  few_rising n [] r each = omega arith
  few_rising n (x ∷ xs) r each = let rest = count_above (number x) n xs r.0 r.1 each.1 each.0 in omega (arith, rest)

-- ---- what is written

branch_written : (granted : ℕ) → granted < 2 ^ 64 → (b : Branch) → IsGranted granted b × FitsParts b → FitsBranchIn key.Counted b
branch_written granted small b both =
    let le = both.0 in
    record { id = omega (arith, le, small); resource = both.1.resource; call = both.1.call; ticket = both.1.ticket; hold = both.1.hold }

entry_written : (begun granted : ℕ) → begun < 2 ^ 64 → granted < 2 ^ 64 → (e : SessionEntry) → (IsNumbered begun granted e × FitsSession e) × (has_few_branches e ≡ true) → FitsEntryIn key.Counted e
entry_written begun granted small few e both =
    let n = both.0.0 in
    let w = both.0.1 in
    let le = n.xid in
    let count = leb-true (length e.session.branches) FIELD_ITEMS both.1 in record {
      xid = omega (arith, le, small);
      manager = w.manager;
      begun = w.begun;
      timeout = w.timeout;
      failed = w.failed;
      branches = record {
        count = omega (arith, count);
        each = all_of (FitsBranchIn key.Counted) e.session.branches
            (each_same (λ b. IsGranted granted b × FitsParts b) (FitsBranchIn key.Counted) (branch_written granted few) e.session.branches (each_pair (IsGranted granted) FitsParts e.session.branches n.branches w.branches));
        order = rising_first branch_number e.session.branches n.rising;
      };
    }

pub snapshot_written : (s : Snapshot) → can_write s ≡ true → s.acts < ACTS → HasPlaces s → FitsSnapshot s
snapshot_written s can few w =
    let b = w.counted.begun in
    let g = w.counted.granted in
    let small : s.begun < 2 ^ 64 = omega (arith, b, few) in
    let fewer : s.granted < 2 ^ 64 = omega (arith, g, few) in
    let known = few_rising entry_xid s.begun s.sessions w.counted.rising (each_same (IsNumbered s.begun s.granted) (λ e. entry_xid e ≤ s.begun) (λ e n. n.xid) s.sessions w.counted.each) in
    let gone = few_rising forgotten_xid s.begun s.forgotten w.rising (each_same (FitsGone s.begun) (λ f. forgotten_xid f ≤ s.begun) (λ f n. n.xid) s.forgotten w.gone) in record {
      acts = omega (arith, few);
      begun = small;
      granted = fewer;
      sessions = record {
        count = omega (arith, known, b, few);
        each = all_of (FitsEntryIn key.Counted) s.sessions
            (each_same (λ e. (IsNumbered s.begun s.granted e × FitsSession e) × (has_few_branches e ≡ true)) (FitsEntryIn key.Counted) (entry_written s.begun s.granted small fewer) s.sessions
            (each_pair (λ e. IsNumbered s.begun s.granted e × FitsSession e) (λ e. has_few_branches e ≡ true) s.sessions
            (each_pair (IsNumbered s.begun s.granted) FitsSession s.sessions w.counted.each w.sessions) (each_test has_few_branches s.sessions can)));
        order = rising_first entry_xid s.sessions w.counted.rising;
      };
      forgotten = record {
        count = omega (arith, gone, b, few);
        each = all_of FitsForgotten s.forgotten (each_same (FitsGone s.begun) FitsForgotten (λ f n. let le = n.xid in record { xid = omega (arith, le, small); manager = n.manager }) s.forgotten w.gone);
        order = rising_first forgotten_xid s.forgotten w.rising;
      };
    }

-- ---- what is read

later_differ : (xs before : List ℕ) → differ_after nat_eq before xs ≡ true → (y b : ℕ) → In y xs → In b before → nat_eq y b ≡ false
later_differ [] before e y b i j = absurd i
later_differ (x ∷ xs) before e y b (inl is) j =
    ap (λ n. nat_eq n b) is ∙ none_same (nat_eq x b) refl
  where
    none_same : (t : Bool) → nat_eq x b ≡ t → nat_eq x b ≡ false
    none_same true t =
        false_true (sym (not_true (list_any (nat_eq x) before) (and_left (not (list_any (nat_eq x) before)) (differ_after nat_eq (x ∷ before) xs) e)) ∙ any_of (nat_eq x) b before j t)
    none_same false t = t
later_differ (x ∷ xs) before e y b (inr i) j =
    later_differ xs (x ∷ before) (and_right (not (list_any (nat_eq x) before)) (differ_after nat_eq (x ∷ before) xs) e) y b i (inr j)

cross_differ : (xs before ys : List ℕ) → differ_after nat_eq before (xs ++ ys) ≡ true → (y x : ℕ) → In y ys → In x xs → nat_eq y x ≡ false
cross_differ [] before ys e y x i j = absurd j
cross_differ (z ∷ zs) before ys e y x i (inl is) =
    later_differ (zs ++ ys) (z ∷ before) (and_right (not (list_any (nat_eq z) before)) (differ_after nat_eq (z ∷ before) (zs ++ ys)) e) y x (in_second zs ys y i) (inl is)
cross_differ (z ∷ zs) before ys e y x i (inr j) =
    cross_differ zs (z ∷ before) ys (and_right (not (list_any (nat_eq z) before)) (differ_after nat_eq (z ∷ before) (zs ++ ys)) e) y x i j

in_map : {X : Type 0} (number : X → ℕ) (xs : List X) (x : X) → In x xs → In (number x) (map number xs)
in_map number [] x i = i
in_map number (y ∷ ys) x (inl is) = inl (ap number is)
in_map number (y ∷ ys) x (inr i) = inr (in_map number ys x i)

read_apart : (s : Snapshot) → all_differ nat_eq (xids s) ≡ true → Each (IsUnknown s.sessions) s.forgotten
read_apart s e =
    each_in (IsUnknown s.sessions) s.forgotten
    (λ f i. each_in (λ (d : SessionEntry). d.xid.0 ≢ f.xid.0) s.sessions
    (λ d j same. false_true
    (sym (cross_differ (map entry_xid s.sessions) [] (map forgotten_xid s.forgotten) e f.xid.0 d.xid.0 (in_map forgotten_xid s.forgotten f i) (in_map entry_xid s.sessions d j))
    ∙ eq-eqb f.xid.0 d.xid.0 (sym same))))

branch_read : (how : KeyLayout) (b : Branch) → FitsBranchIn how b → FitsParts b
branch_read how b fits = record { resource = fits.resource; call = fits.call; ticket = fits.ticket; hold = keys_fit how b.hold fits.hold }

session_read : (how : KeyLayout) (e : SessionEntry) → FitsEntryIn how e → FitsSession e
session_read how e fits = record {
  manager = fits.manager;
  begun = fits.begun;
  timeout = fits.timeout;
  failed = fits.failed;
  branches = each_same (FitsBranchIn how) FitsParts (branch_read how) e.session.branches (each_of (FitsBranchIn how) e.session.branches fits.branches.each);
}

numbered_read : (managers resources begun granted : ℕ) (how : KeyLayout) (e : SessionEntry) → (is_entry managers resources begun granted e ≡ true) × FitsEntryIn how e → IsNumbered begun granted e
numbered_read managers resources begun granted how e both =
    let bs = e.session.branches in
    let rest = and_right (nat_le e.xid.0 begun) _ both.0 in
    let fits = and_right (is_counted managers e.session.manager) _ rest in
    let failure = and_right (status_fits e.session.status bs) _ fits in
    let branches = and_right (failure_fits e.session.status e.session.failed bs) _ failure in record {
      xid = leb-true e.xid.0 begun (and_left (nat_le e.xid.0 begun) _ both.0);
      branches = each_same (λ b. is_numbered_branch resources granted b ≡ true) (IsGranted granted) (λ b is. leb-true b.id.0 granted (and_left (nat_le b.id.0 granted) _ is)) bs (each_test (is_numbered_branch resources granted) bs branches);
      rising = order_rising branch_number None bs both.1.branches.order;
    }

gone_read : (how : SnapshotLayout) (fs : List Forgotten) → FitsAllForgotten how fs → Each (λ f. f.manager < 2 ^ 16) fs × AreRising forgotten_xid fs
gone_read layout.SingleKeys fs none = subst (λ gs. Each (λ f. f.manager < 2 ^ 16) gs × AreRising forgotten_xid gs) (sym none) (tt, tt)
gone_read layout.CountedKeys fs none = subst (λ gs. Each (λ f. f.manager < 2 ^ 16) gs × AreRising forgotten_xid gs) (sym none) (tt, tt)
gone_read layout.WithForgotten fs fits = (
  each_same FitsForgotten (λ f. f.manager < 2 ^ 16) (λ f n. n.manager) fs (each_of FitsForgotten fs fits.each),
  order_rising forgotten_xid None fs fits.order,
)

-- the counts, the numbers and the transactions of a sound snapshot
pub record Parts (managers resources : ℕ) (s : Snapshot) : Type 0 where
  pub counts : has_counts s ≡ true
  pub entries : list_all (is_entry managers resources s.begun s.granted) s.sessions ≡ true
  pub forgotten : list_all (is_forgotten_entry managers s.begun) s.forgotten ≡ true
  pub apart : all_differ nat_eq (xids s) ≡ true

sound_parts : (managers resources : ℕ) (s : Snapshot) → is_sound managers resources s ≡ true → Parts managers resources s
unfolding is_sound
sound_parts managers resources s e =
    let parts = and_left (has_sound_parts managers resources s) _ e in
    let rest = and_right (has_sound_parts managers resources s) _ e in
    let lists = and_right (has_counts s) _ parts in record {
      counts = and_left (has_counts s) _ parts;
      entries = and_left (list_all (is_entry managers resources s.begun s.granted) s.sessions) _ lists;
      forgotten = and_right (list_all (is_entry managers resources s.begun s.granted) s.sessions) _ lists;
      apart = and_left (all_differ nat_eq (xids s)) _ rest;
    }

places_read : (managers resources : ℕ) (how : SnapshotLayout) (s : Snapshot) → FitsSnapshotIn how s → Parts managers resources s → HasPlaces s
places_read managers resources how s fits p =
    let counts = and_right (nat_lt s.acts ACTS) _ p.counts in
    let gone = gone_read how s.forgotten fits.forgotten in
    let entries = each_of (FitsEntryIn (keys_of how)) s.sessions fits.sessions.each in record {
      counted = record {
        begun = leb-true s.begun s.acts (and_left (nat_le s.begun s.acts) _ counts);
        granted = leb-true s.granted s.acts (and_right (nat_le s.begun s.acts) _ counts);
        each = each_same (λ e. (is_entry managers resources s.begun s.granted e ≡ true) × FitsEntryIn (keys_of how) e) (IsNumbered s.begun s.granted) (numbered_read managers resources s.begun s.granted (keys_of how)) s.sessions
            (each_pair (λ e. is_entry managers resources s.begun s.granted e ≡ true) (FitsEntryIn (keys_of how)) s.sessions (each_test (is_entry managers resources s.begun s.granted) s.sessions p.entries) entries);
        rising = order_rising entry_xid None s.sessions fits.sessions.order;
      };
      sessions = each_same (FitsEntryIn (keys_of how)) FitsSession (session_read (keys_of how)) s.sessions entries;
      gone = each_same (λ f. (is_forgotten_entry managers s.begun f ≡ true) × (f.manager < 2 ^ 16)) (FitsGone s.begun)
          (λ f both. record { xid = leb-true f.xid.0 s.begun (and_left (nat_le f.xid.0 s.begun) _ both.0); manager = both.1 }) s.forgotten
          (each_pair (λ f. is_forgotten_entry managers s.begun f ≡ true) (λ f. f.manager < 2 ^ 16) s.forgotten (each_test (is_forgotten_entry managers s.begun) s.forgotten p.forgotten) gone.0);
      rising = gone.1;
      apart = read_apart s p.apart;
    }

-- ---- what is found in bytes

held_is : (o : Option Snapshot) (s : Snapshot) → if_held_once o ≡ Some s → o ≡ Some s
held_is None s e = none_some e
held_is (Some q) s e = by (are_held_once (held_in q)) e
  where
    by : (b : Bool) → (if b then Some q else None) ≡ Some s → Some q ≡ Some s
    by true e = e
    by false e = none_some e

sound_is : (managers resources : ℕ) (o : Option Snapshot) (s : Snapshot) → if_sound managers resources o ≡ Some s → (o ≡ Some s) × (is_sound managers resources s ≡ true)
sound_is managers resources None s e = none_some e
sound_is managers resources (Some q) s e = by (is_sound managers resources q) refl e
  where
    by : (b : Bool) → is_sound managers resources q ≡ b → (if b then Some q else None) ≡ Some s → (Some q ≡ Some s) × (is_sound managers resources s ≡ true)
    by true is e = let same : q ≡ s = cc in (e, subst (λ (z : Snapshot). is_sound managers resources z ≡ true) same is)
    by false is e = none_some e

-- a sound snapshot that bytes are
pub places_found : (managers resources : ℕ) (bytes : List ℕ) (s : Snapshot) → AreBytes bytes → if_sound managers resources (snapshot_in_bytes bytes) ≡ Some s → HasPlaces s
places_found managers resources bytes s all e =
    let is = sound_is managers resources (snapshot_in_bytes bytes) s e in
    let k = snapshots_are_of_layouts.only bytes s all is.0 in
    places_read managers resources k.0 s k.1 (sound_parts managers resources s is.1)

-- no two AT branches of a resource have one ticket in it
sound_tickets : (managers resources : ℕ) (s : Snapshot) → is_sound managers resources s ≡ true → all_differ same_ticket_key (tickets s) ≡ true
unfolding is_sound
sound_tickets managers resources s e =
    and_left (all_differ same_ticket_key (tickets s)) _ (and_right (all_differ nat_eq (managers_of s)) _ (and_right (all_differ nat_eq (xids s)) _ (and_right (has_sound_parts managers resources s) _ e)))

pub tickets_found : (managers resources : ℕ) (bytes : List ℕ) (s : Snapshot) → if_sound managers resources (snapshot_in_bytes bytes) ≡ Some s → all_differ same_ticket_key (tickets s) ≡ true
tickets_found managers resources bytes s e = sound_tickets managers resources s (sound_is managers resources (snapshot_in_bytes bytes) s e).1

module _ (managers resources : ℕ) (bytes : List ℕ) (s : Snapshot) (e : if_held_once (if_sound managers resources (snapshot_in_bytes bytes)) ≡ Some s) where
  pub sound_read : AreBytes bytes → HasPlaces s
  sound_read all = places_found managers resources bytes s all (held_is (if_sound managers resources (snapshot_in_bytes bytes)) s e)

  -- fewer than 2^31 acts stand in it
  pub few_read : s.acts < ACTS
  few_read =
      let is = sound_is managers resources (snapshot_in_bytes bytes) s (held_is (if_sound managers resources (snapshot_in_bytes bytes)) s e) in
      ltb-true s.acts ACTS (and_left (nat_lt s.acts ACTS) _ (sound_parts managers resources s is.1).counts)

pub places_kept : (managers resources : ℕ) → KeepsPlaces managers resources
places_kept managers resources = record {
  read = λ bytes s all e. sound_read managers resources bytes s e all;
  more = sound_after managers resources;
  fits = snapshot_written;
}

-- no transaction began
pub no_places : HasPlaces (snapshot_of [])
no_places = record { counted = record { begun = omega arith; granted = omega arith; each = tt; rising = tt }; sessions = tt; gone = tt; rising = tt; apart = tt }
