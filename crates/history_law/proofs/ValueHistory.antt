-- The values of rows in all legal histories over disks without records, and in all chains.
use Rattle.std.proofs.Common.{◌≡◌, ◌⊎◌, inl, inr, ℕ, List, [], ◌∷◌, Option, Some, refl, ap, sym, subst, ◌∙◌}
use Rattle.seata_types.specs.declared.acts.Act.TheVariants as act
use Rattle.seata_types.specs.declared.ids.BranchId.{BranchId}
use Rattle.seata_types.specs.declared.ids.Place.{Place}
use Rattle.seata_types.specs.declared.ids.Place.TheVariants as place
use Rattle.seata_types.specs.declared.ids.Ticket.{Ticket}
use Rattle.seata_types.specs.declared.ids.Xid.{Xid}
use Rattle.seata_types.specs.declared.messages.Step.{Step}
use Rattle.seata_types.specs.declared.rows.Image.{Image}
use Rattle.seata_types.specs.declared.rows.ReadRow.{ReadRow}
use Rattle.seata_types.specs.declared.rows.Row.{Row}
use Rattle.seata_types.specs.declared.rows.RowKey.{RowKey}
use Rattle.local_tables.specs.Rows.{IsMap, comes, opening_rows, row_at}
use Rattle.local_tables.proofs.PutLaws.{map_put_all}
use Rattle.std.proofs.Common.{map}
use Rattle.std.specs.List.Sorted.{IsStrictlySortedBy}
use Rattle.durable_records.specs.declared.coordinators.SessionRecord.{SessionRecord}
use Rattle.durable_records.specs.declared.resources.ResourceRecord.{ResourceRecord}
use Rattle.durable_records.specs.declared.resources.ResourceRecord.TheVariants as log
use Rattle.durable_records.specs.Transactions.{Session, sessions}
use Rattle.durable_records.specs.Branches.{Grant, grants}
use Rattle.history_rules.specs.Own.{Left}
use Rattle.history_rules.specs.ResourceMemory.{Setup, Open, Memory, opening_tables, boot_over, memory}
use Rattle.history_rules.specs.Nodes.{World, Past, counted_at}
use Rattle.history_rules.specs.Histories.{Moment, Legal, coordinator_left}
use Rattle.history_rules.specs.Chains.{IsChain, MayLeave, IsBlankPast}
use Rattle.history_law.specs.Points.{In}
use Rattle.history_law.specs.Cover.{all_of, memory_of, Covers}
use Rattle.history_law.specs.TicketSafety.{AreNumbered}
use Rattle.history_law.specs.ValueSafety.{HasModes, IsEffectThen, IsOpenedAt, HasOpening, AreEffects, EachHasValues, ValuesStaySafe, ValuesLaw, ValuesOfChains, IsOutsideAfter, DirtyByOutside, DirtyLaw, DirtyOfChains}
use Rattle.history_law.proofs.CoverHistory.{covers}
use Rattle.history_law.proofs.CoverResource.{one_number}
use Rattle.history_law.proofs.CoverChains.{of_sessions, of_memory, covers_first, at_first, chain_covered, shorter_chain}
use Rattle.history_law.proofs.Branches.{in_all, grant_stays}
use Rattle.history_law.proofs.CallBranches.{session_stays, session_in_all}
use Rattle.history_law.proofs.CallHistory.{FencedCalls, calls_keep, calls_first, calls_next}
use Rattle.history_law.proofs.Rows.{RowsBy}
use Rattle.history_law.proofs.RowHistory.{rows_keep, rows_first, rows_next}
use Rattle.history_law.proofs.ResourceRows.{each_memory}
use Rattle.history_law.proofs.ValueSteps.{RowsHold, IsOpenEffect, OpenHolds, ValuesAt, are_kept, rows_boot, values_after, never_dirty}
use Rattle.history_law.proofs.Steps.{TcStep, ResStep, Keeps, by_entries}

-- ---- what was said goes on

-- a ticket that was opened in a history was opened in each longer one
later_opening : (past : Past) (ms : List Moment) (m : Moment) (n : ℕ) (s : Setup) (t : Ticket) (x c : ℕ) (rs : List ResourceRecord) → IsOpenedAt past ms n s t x c rs → IsOpenedAt past (m ∷ ms) n s t x c rs
later_opening past ms m n s t x c rs k = record {
  later = m ∷ k.later;
  entry = k.entry;
  before = k.before;
  splits = ap (λ z. m ∷ z) k.splits;
  at = k.at;
  xid = k.xid;
  of = k.of;
  opened = k.opened;
  stood = k.stood;
}

-- where an effect comes from: the disks had its commit, or its ticket was opened in this history
abbrev IsFrom : Past → List Moment → List SessionRecord → ℕ → Setup → Xid → BranchId → ℕ → List Image → List ReadRow → List ResourceRecord → Type 0
IsFrom past ms tc n s xid branch call images reads older = In (log.Committed xid branch call images reads) (past.resource n) ⊎ HasOpening past ms tc n s xid.0 branch.0 call older

module _ (w : World) (n : ℕ) (s : Setup) (past past' : Past) (ms ms' : List Moment) (tc tc' : List SessionRecord) (stays : (z : Session) → In z (sessions tc) → In z (sessions tc')) where
  effect_on : (rs : List ResourceRecord) (x c : ℕ) (images : List Image) (reads : List ReadRow) → IsEffectThen w tc n s rs x c images reads → IsEffectThen w tc' n s rs x c images reads
  effect_on rs x c images reads k =
      let a = k.call in
      let o = a.owns in
      record {
        stmts = k.stmts;
        call = record {
          manager = a.manager;
          owns = record { began = o.began; there = stays o.began o.there; xid = o.xid; manager = o.manager };
          settings = a.settings;
          known = a.known;
          before = a.before;
          index = a.index;
          is = a.is;
        };
        older = k.older;
        newer = k.newer;
        stood = k.stood;
        images_are = k.images_are;
        reads_are = k.reads_are;
        kept = k.kept;
        same = k.same;
      }

  -- each commit among these records keeps where its effect comes from
  abbrev ComeFrom : List ResourceRecord → Type 0
  ComeFrom rs = (xid : Xid) (branch : BranchId) (call : ℕ) (images : List Image) (reads : List ReadRow) (older : List ResourceRecord) → In (log.Committed xid branch call images reads) rs
      → IsFrom past ms tc n s xid branch call images reads older → IsFrom past' ms' tc' n s xid branch call images reads older

  effects_on : (rs : List ResourceRecord) → ComeFrom rs → AreEffects w past ms tc n s rs → AreEffects w past' ms' tc' n s rs
  unfolding effect_on
  effects_on [] from e = tt
  effects_on (log.Committed xid branch call images reads ∷ rs) from e = (
    effects_on rs (λ x b c i q older j f. from x b c i q older (inr j) f) e.0,
    record { effect = effect_on rs xid.0 call images reads e.1.effect; opening = from xid branch call images reads e.1.effect.older (inl refl) e.1.opening },
  )
  effects_on (_ ∷ rs) from e = effects_on rs (λ x b c i q older j f. from x b c i q older (inr j) f) e

  rows_on : (rs : List ResourceRecord) → ComeFrom rs → RowsHold w past ms tc n s rs → RowsHold w past' ms' tc' n s rs
  rows_on rs from h = record {
    sorted = h.sorted;
    values = h.values;
    undos_are = h.undos_are;
    single = h.single;
    effects = effects_on rs from h.effects;
  }

-- over one entry of any node
module _ (w : World) (n : ℕ) (s : Setup) (past : Past) (ms : List Moment) (m : Moment) (tc tc' : List SessionRecord) (stays : (z : Session) → In z (sessions tc) → In z (sessions tc'))
    (grants_stay : (g : Grant) → In g (grants tc) → In g (grants tc')) where
  from_on : (rs : List ResourceRecord) → ComeFrom w n s past past ms (m ∷ ms) tc tc' stays rs
  from_on rs xid branch call images reads older i (inl there) = inl there
  from_on rs xid branch call images reads older i (inr k) = inr (record {
    branch = k.branch;
    granted = grants_stay k.branch k.granted;
    xid = k.xid;
    number = k.number;
    resource = k.resource;
    opening = later_opening past ms m n s k.branch.ticket xid.0 call older k.opening;
  })

  open_effect_on : (rs : List ResourceRecord) (t : Ticket) (x c : ℕ) (images : List Image) (reads : List ReadRow) → IsOpenEffect w past ms tc n s t x c images reads rs → IsOpenEffect w past (m ∷ ms) tc' n s t x c images reads rs
  unfolding effect_on
  open_effect_on rs t x c images reads k = record {
    effect = effect_on w n s past past ms (m ∷ ms) tc tc' stays rs x c images reads k.effect;
    opening = later_opening past ms m n s t x c k.effect.older k.opening;
  }

  open_on : (mem : Memory) (o : Open) → OpenHolds w past ms tc n s mem o → OpenHolds w past (m ∷ ms) tc' n s mem o
  open_on mem o h = record {
    distinct = h.distinct;
    works = h.works;
    before = h.before;
    at = h.at;
    effects = λ x at. let k = h.effects x at in (open_effect_on mem.left.records o.ticket x _ o.images o.reads k.0, open_effect_on (all_of mem.left) o.ticket x _ o.images o.reads k.1);
  }

  pub values_on : (mem : Memory) → ValuesAt w past ms tc n s mem → ValuesAt w past (m ∷ ms) tc' n s mem
  values_on mem v = record {
    rows = (
      rows_on w n s past past ms (m ∷ ms) tc tc' stays mem.left.records (from_on mem.left.records) v.rows.0,
      rows_on w n s past past ms (m ∷ ms) tc tc' stays (all_of mem.left) (from_on (all_of mem.left)) v.rows.1,
    );
    opens = λ o i. open_on mem o (v.opens o i);
  }

-- over a change of the coordinator's records alone
same_opening : (w : World) (n : ℕ) (s : Setup) (past : Past) (ms : List Moment) (tc tc' : List SessionRecord) (stays : (z : Session) → In z (sessions tc) → In z (sessions tc'))
    → ((g : Grant) → In g (grants tc) → In g (grants tc')) → (rs : List ResourceRecord) → ComeFrom w n s past past ms ms tc tc' stays rs
same_opening w n s past ms tc tc' stays grants_stay rs xid branch call images reads older i (inl there) = inl there
same_opening w n s past ms tc tc' stays grants_stay rs xid branch call images reads older i (inr k) =
    inr (record { branch = k.branch; granted = grants_stay k.branch k.granted; xid = k.xid; number = k.number; resource = k.resource; opening = k.opening })

-- where the coordinator's records stay as they are
values_later : (w : World) (past : Past) (ms : List Moment) (m : Moment) (tc : List SessionRecord) (n : ℕ) (s : Setup) (mem : Memory) → ValuesAt w past ms tc n s mem → ValuesAt w past (m ∷ ms) tc n s mem
values_later w past ms m tc n s mem v = values_on w n s past ms m tc tc (λ z i. i) (λ g i. i) mem v

-- ---- the induction

-- calls and fences, the order of changes, the values of each resource, and dirty rows
pub record ValuesBy (w : World) (past : Past) (tc : Left SessionRecord) (mem : ℕ → Setup → Memory) (ms : List Moment) : Type 0 where
  pub calls : FencedCalls w tc mem ms
  pub order : RowsBy w tc mem ms
  pub values : (n : ℕ) (s : Setup) → counted_at w.resources n ≡ Some s → ValuesAt w past ms tc.records n s (mem n s)
  pub dirty : DirtyByOutside w past ms

not_here : (p q : Place) (n : ℕ) → p ≡ q → (q ≡ place.Res n → ⊥) → p ≡ place.Res n → ⊥
not_here p q n at other e = other (sym at ∙ e)

tc_not_res : (n : ℕ) → place.Tc ≡ place.Res n → ⊥
tc_not_res n e = cc

man_not_res : (k n : ℕ) → place.Man k ≡ place.Res n → ⊥
man_not_res k n e = cc

nothing_dirty : (xid : Xid) (b : BranchId) (key : RowKey) (after now : Option Row) → act.Nothing ≡ act.Dirty xid b key after now → ⊥
nothing_dirty xid b key after now e = cc

module _ (w : World) (past : Past) (modes : HasModes w) where
  module _ (ms : List Moment) (m : Moment) (c : Covers w past ms) (i : ValuesBy w past (coordinator_left past ms) (memory_of past ms) ms) (t : TcStep w past ms m) where
    sessions_stay : (s : Session) → In s (sessions (coordinator_left past ms).records) → In s (sessions t.after.records)
    sessions_stay s j = (t.keeps (λ z. In s (sessions z)) (λ r f k. session_stays r (coordinator_left past ms).records s k) (j, session_in_all (coordinator_left past ms) s j)).0

    grants_stay : (g : Grant) → In g (grants (coordinator_left past ms).records) → In g (grants t.after.records)
    grants_stay g j = (t.keeps (λ z. In g (grants z)) (λ r f k. grant_stays r (coordinator_left past ms).records g k) (j, in_all (coordinator_left past ms) g j)).0

    values_at_tc : ValuesBy w past t.after (memory_of past ms) (m ∷ ms)
    values_at_tc = record {
      calls = (calls_keep w past).at_tc ms m c i.calls t;
      order = (rows_keep w past).at_tc ms m c i.order t;
      values = λ n s is. values_on w n s past ms m (coordinator_left past ms).records t.after.records sessions_stay grants_stay (memory_of past ms n s) (i.values n s is);
      dirty = (i.dirty, λ n s is at xid b key after now did. absurd (not_here m.place place.Tc n t.at (tc_not_res n) at));
    }

  module _ (ms : List Moment) (m : Moment) (c : Covers w past ms) (i : ValuesBy w past (coordinator_left past ms) (memory_of past ms) ms) (r : ResStep w past ms m) where
    setup_by : (q : Setup) → Some q ≡ Some r.s → q ≡ r.s
    setup_by q e = cc

    abbrev tc_here : List SessionRecord
    tc_here = (coordinator_left past ms).records

    holds_later : (n : ℕ) (s : Setup) → counted_at w.resources n ≡ Some s → ValuesAt w past (m ∷ ms) tc_here n s (memory_of past ms n s)
    holds_later n s is = values_later w past ms m tc_here n s (memory_of past ms n s) (i.values n s is)

    dirty_here : (n : ℕ) (s : Setup) → counted_at w.resources n ≡ Some s → m.place ≡ place.Res n → (xid : Xid) (b : BranchId) (key : RowKey) (after now : Option Row) → m.step.act ≡ act.Dirty xid b key after now
        → IsOutsideAfter (memory_of past ms n s).left.records xid.0 b.0 key
    dirty_here n s is at xid b key after now did =
        let here : n ≡ r.k = one_number n r.k (sym at ∙ r.at) in
        let setup : s ≡ r.s = setup_by s (sym is ∙ ap (counted_at w.resources) here ∙ r.known) in
        let mem : memory_of past ms n s ≡ memory_of past ms r.k r.s = ap (λ z. memory_of past ms z s) here ∙ ap (memory_of past ms r.k) setup in
        subst (λ (z : Memory). IsOutsideAfter z.left.records xid.0 b.0 key) (sym mem) (never_dirty w modes past ms m c i.calls.calls i.order r (holds_later r.k r.s r.known) xid b key after now did)

    values_at_res : ValuesBy w past (coordinator_left past ms) r.after (m ∷ ms)
    values_at_res = record {
      calls = (calls_keep w past).at_res ms m c i.calls r;
      order = (rows_keep w past).at_res ms m c i.order r;
      values = λ n s is. each_memory w past ms m r (ValuesAt w past (m ∷ ms) tc_here) n s is (λ v. values_after w modes past ms m c i.calls.calls i.order r v) (holds_later n s is);
      dirty = (i.dirty, dirty_here);
    }

  values_keep : Keeps w past (ValuesBy w past)
  values_keep = record {
    at_tc = λ ms m c i t. values_at_tc ms m c i t;
    at_res = λ ms m c i r. values_at_res ms m c i r;
    at_man = λ ms m c i t. record {
      calls = (calls_keep w past).at_man ms m c i.calls t;
      order = (rows_keep w past).at_man ms m c i.order t;
      values = λ n s is. values_later w past ms m (coordinator_left past ms).records n s (memory_of past ms n s) (i.values n s is);
      dirty = (i.dirty, λ n s is at xid b key after now did. absurd (not_here m.place (place.Man t.k) n t.at (man_not_res t.k n) at));
    };
    quiet = λ ms m i is. record {
      calls = (calls_keep w past).quiet ms m i.calls is;
      order = (rows_keep w past).quiet ms m i.order is;
      values = λ n s is. values_later w past ms m (coordinator_left past ms).records n s (memory_of past ms n s) (i.values n s is);
      dirty = (i.dirty, λ n s known at xid b key after now did. absurd (nothing_dirty xid b key after now (sym (ap (λ (step : Step). step.act) is) ∙ did)));
    };
  }

abbrev pub Values : World → Past → List Moment → Type 0
Values w past ms = ValuesBy w past (coordinator_left past ms) (memory_of past ms) ms

pub values : (w : World) (past : Past) → AreNumbered w → HasModes w → Covers w past [] → Values w past [] → (ms : List Moment) → Legal w past ms → Values w past ms
values w past numbered modes start first ms legal = by_entries w past numbered (ValuesBy w past) (values_keep w past modes) start first ms legal

-- ---- disks without records

none_sorted : IsMap []
unfolding IsStrictlySortedBy
none_sorted = tt

opening_sorted : (s : Setup) → IsMap (opening_tables s).rows
opening_sorted s = map_put_all [] (map comes (opening_rows s.number s.schema s.opening)) none_sorted

first_rows : (w : World) (past : Past) (n : ℕ) (s : Setup) → RowsHold w past [] [] n s []
first_rows w past n s = record {
  sorted = opening_sorted s;
  values = λ key at. record { first = row_at (opening_tables s).rows key; found = tt; now = refl; opened = λ h. refl };
  undos_are = λ u i. absurd i;
  single = λ u v i j ex eb. absurd i;
  effects = tt;
}

first_values : (w : World) (past : Past) → IsBlankPast past → (n : ℕ) (s : Setup) → ValuesAt w past [] [] n s (memory s (past.resource n) [])
first_values w past blank n s =
    let rows = rows_boot w past [] [] n s (past.resource n) (at_first past blank (RowsHold w past [] [] n s) (first_rows w past n s) (λ rs h. rows_boot w past [] [] n s rs h) n) in
    record { rows = (rows, rows); opens = λ o i. absurd i }

pub values_first : (w : World) (past : Past) → IsBlankPast past → Values w past []
values_first w past bare = record {
  calls = calls_first w past bare;
  order = rows_first w past bare;
  values = λ n s is. subst (λ (rs : List SessionRecord). ValuesAt w past [] rs n s (memory s (past.resource n) [])) (sym bare.sessions)
      (first_values w past bare n s);
  dirty = tt;
}

-- ---- what is claimed

values_safe : (w : World) (past : Past) (ms : List Moment) → Values w past ms → EachHasValues w past ms
values_safe w past ms i n s is =
    let v = i.values n s is in
    let m = memory_of past ms n s in
    record {
      rows = v.rows.0.values;
      kept = are_kept w past ms (coordinator_left past ms).records n s m.left.records v.rows.0;
      open_found = λ o j key at image e. ((v.opens o j).before key at image e).0;
      effects = v.rows.0.effects;
      in_flight = v.rows.1.effects;
    }

pub values_stay : (w : World) (past : Past) → AreNumbered w → HasModes w → Covers w past [] → Values w past [] → (ms : List Moment) → Legal w past ms → ValuesStaySafe w past ms
values_stay w past numbered modes start first [] legal = values_safe w past [] first
values_stay w past numbered modes start first (m ∷ ms) legal =
    (values_stay w past numbered modes start first ms legal.0, values_safe w past (m ∷ ms) (values w past numbered modes start first (m ∷ ms) legal))

pub values_law : ValuesLaw
values_law w past ms numbered modes bare legal = values_stay w past numbered modes (covers_first w past bare) (values_first w past bare) ms legal

pub dirty_law : DirtyLaw
dirty_law w past ms numbered modes bare legal = (values w past numbered modes (covers_first w past bare) (values_first w past bare) ms legal).dirty

-- ---- chains

commit_boot : (xid : Xid) (branch : BranchId) (call : ℕ) (images : List Image) (reads : List ReadRow) (rs : List ResourceRecord) → log.Committed xid branch call images reads ≡ boot_over rs → ⊥
commit_boot xid branch call images reads rs e = cc

module _ (w : World) (past : Past) (ms : List Moment) (next : Past) (numbered : AreNumbered w) (c : Covers w past ms) (i : Values w past ms) (leaves : MayLeave w past ms next) where
  abbrev tc : Left SessionRecord
  tc = coordinator_left past ms

  disks_stay : (s : Session) → In s (sessions tc.records) → In s (sessions next.sessions)
  disks_stay s = of_sessions w past ms next numbered c leaves (λ rs. In s (sessions (coordinator_left past ms).records) → In s (sessions rs)) (λ j. j, session_in_all tc s)

  grants_on_disks : (g : Grant) → In g (grants tc.records) → In g (grants next.sessions)
  grants_on_disks g = of_sessions w past ms next numbered c leaves (λ rs. In g (grants (coordinator_left past ms).records) → In g (grants rs)) (λ j. j, in_all tc g)

  -- the disks have all commits that stand then, a boot is none
  had_before : (n : ℕ) (xid : Xid) (branch : BranchId) (call : ℕ) (images : List Image) (reads : List ReadRow) → In (log.Committed xid branch call images reads) (boot_over (next.resource n) ∷ next.resource n)
      → In (log.Committed xid branch call images reads) (next.resource n)
  had_before n xid branch call images reads (inl e) = absurd (commit_boot xid branch call images reads (next.resource n) e)
  had_before n xid branch call images reads (inr i) = i

  values_disks : (n : ℕ) (s : Setup) → counted_at w.resources n ≡ Some s → ValuesAt w next [] next.sessions n s (memory_of next [] n s)
  values_disks n s is =
      let v = i.values n s is in
      let opened : (rs : List ResourceRecord) → ComeFrom w n s past past ms ms tc.records next.sessions disks_stay rs = λ rs. same_opening w n s past ms tc.records next.sessions disks_stay grants_on_disks rs in
      let rows = of_memory w past ms next numbered c leaves n s is (RowsHold w past ms next.sessions n s) (λ rs h. rows_boot w past ms next.sessions n s rs h) (
        rows_on w n s past past ms ms tc.records next.sessions disks_stay (memory_of past ms n s).left.records (opened (memory_of past ms n s).left.records) v.rows.0,
        rows_on w n s past past ms ms tc.records next.sessions disks_stay (all_of (memory_of past ms n s).left) (opened (all_of (memory_of past ms n s).left)) v.rows.1,
      ) in
      let here : RowsHold w next [] next.sessions n s (memory_of next [] n s).left.records =
      rows_on w n s past next ms [] next.sessions next.sessions (λ z j. j) (memory_of next [] n s).left.records (λ xid branch call images reads older j from. inl (had_before n xid branch call images reads j)) rows in
      record { rows = (here, here); opens = λ o j. absurd j }

  values_next : Values w next []
  values_next = record {
    calls = calls_next w past ms next numbered c i.calls leaves;
    order = rows_next w past ms next numbered c i.order leaves;
    values = values_disks;
    dirty = tt;
  }

pub chain_values : (w : World) (past : Past) (ms : List Moment) (rest : List (Past × List Moment)) → AreNumbered w → HasModes w → IsChain w ((past, ms) ∷ rest) → Values w past []
chain_values w past ms [] numbered modes chain = values_first w past chain.0
chain_values w past ms ((before, entries) ∷ rest) numbered modes chain =
    let earlier = chain_covered w before entries rest numbered chain.0 in
    values_next w before entries past numbered (covers w before numbered earlier.0 entries earlier.1)
    (values w before numbered modes earlier.0 (chain_values w before entries rest numbered modes chain.0) entries earlier.1) chain.1

pub values_of_chains : ValuesOfChains
values_of_chains w [] numbered modes chain = tt
values_of_chains w ((past, ms) ∷ rest) numbered modes chain =
    let last = chain_covered w past ms rest numbered chain in
    (values_of_chains w rest numbered modes (shorter_chain w past ms rest chain), values_stay w past numbered modes last.0 (chain_values w past ms rest numbered modes chain) ms last.1)

pub dirty_of_chains : DirtyOfChains
dirty_of_chains w [] numbered modes chain = tt
dirty_of_chains w ((past, ms) ∷ rest) numbered modes chain =
    let last = chain_covered w past ms rest numbered chain in
    (dirty_of_chains w rest numbered modes (shorter_chain w past ms rest chain), (values w past numbered modes last.0 (chain_values w past ms rest numbered modes chain) ms last.1).dirty)
