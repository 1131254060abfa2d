-- Branches that are known to be ended aren't what is looked for, and each record keeps what is known.
use Rattle.std.proofs.Common.{◌≡◌, ◌==◌, ◌&&◌, ◌||◌, ◌<◌, ◌≤◌, ◌+◌, ℕ, zero, suc, Bool, true, false, cond, not, if◌then◌else◌, List, [], ◌∷◌, ◌++◌, length, get_or, take, drop, Option, Some, None, refl, sym, ap, subst, ◌∙◌, arith, Bor}
use Rattle.std.specs.Prelude.{find, is_some, option_map, Result, Ok, Err, OnOk, OnErr}
use Rattle.std.specs.List.{list_all, list_any}
use Rattle.std.specs.Option.{option_copied}
use Rattle.seata_types.specs.declared.ids.Xid.{Xid}
use Rattle.durable_records.specs.declared.coordinators.SessionRecord.{SessionRecord}
use Rattle.durable_records.specs.declared.coordinators.SessionRecord.TheVariants as log
use Rattle.session_log.specs.declared.sessions.Branch.{Branch}
use Rattle.session_log.specs.declared.sessions.Session.{Session}
use Rattle.session_log.specs.declared.sessions.SessionEntry.{SessionEntry}
use Rattle.session_log.specs.declared.sessions.Snapshot.{Snapshot}
use Rattle.session_log.specs.Soundness.{entry_xid, is_ended_branch, is_open_branch, is_open_with}
use Rattle.session_memory.specs.declared.ends.Span.{Span}
use Rattle.session_memory.specs.Changes.{with_branch, with_ended, turned, changed, begun_entry, xid_in, with_turned, with_registered, after}
use Rattle.session_memory.specs.Ends.{Spans, span_of, IsEnded, IsSpanIn, HasSpan, AreSpans, SpansStay, IsFirstOpen, IsLastOpen}
use Rattle.session_memory.specs.Lookups.{has_number, has_xid, if_open, last_open, next_open, or_else, session_of}
use Rattle.session_memory.specs.Order.{AreAbove, AreRising, Each, HasRising, IsNumbered, branch_number}
use Rattle.session_memory.proofs.KeptLaws.{each_changed, each_without}
use Rattle.session_memory.proofs.Lists.{each_all, each_both, each_same}
use Rattle.session_memory.proofs.PlaceLaws.{IsFirst}
use Rattle.session_memory.proofs.Small.{none_some, same_nat}
use Rattle.std.proofs.lemmas.Bool.Decides.{nat_tests}

-- ---- the first open branch

pub first_is : (n : ℕ) (bs : List Branch) (d : Branch) → n < length bs → Each IsEnded (take n bs) → (get_or bs n d).ended ≡ false → Some (get_or bs n d) ≡ find is_open_branch bs
first_is n [] d lt ended unended = absurd (omega (arith, lt))
first_is zero (b ∷ bs) d lt ended unended = sym (ap (λ (c : Bool). cond (not c) (Some b) (find is_open_branch bs)) unended)
first_is (suc n) (b ∷ bs) d lt ended unended =
    first_is n bs d (omega (arith, lt)) ended.1 unended ∙ sym (ap (λ (c : Bool). cond (not c) (Some b) (find is_open_branch bs)) ended.0)

pub first_none : (n : ℕ) (bs : List Branch) → length bs ≤ n → Each IsEnded (take n bs) → None ≡ find is_open_branch bs
first_none n [] le ended = refl
first_none zero (b ∷ bs) le ended = absurd (omega (arith, le))
first_none (suc n) (b ∷ bs) le ended =
    first_none n bs (omega (arith, le)) ended.1 ∙ sym (ap (λ (c : Bool). cond (not c) (Some b) (find is_open_branch bs)) ended.0)

-- one more of the first ones is ended
pub one_before : (n : ℕ) (bs : List Branch) (d : Branch) → n < length bs → Each IsEnded (take n bs) → (get_or bs n d).ended ≡ true → Each IsEnded (take (suc n) bs)
one_before n [] d lt ended here = absurd (omega (arith, lt))
one_before zero (b ∷ bs) d lt ended here = (here, tt)
one_before (suc n) (b ∷ bs) d lt ended here = (ended.0, one_before n bs d (omega (arith, lt)) ended.1 here)

-- ---- the last open branch

pub none_open : (bs : List Branch) → Each IsEnded bs → None ≡ last_open bs
none_open [] ended = refl
none_open (b ∷ bs) ended =
    sym (ap (λ (c : Bool). or_else None (if not c then Some b else None)) ended.0) ∙ ap (λ (o : Option Branch). or_else o (if_open b)) (none_open bs ended.1)

pub last_is : (n : ℕ) (bs : List Branch) (d : Branch) → n < length bs → Each IsEnded (drop (suc n) bs) → (get_or bs n d).ended ≡ false → Some (get_or bs n d) ≡ last_open bs
last_is n [] d lt ended unended = absurd (omega (arith, lt))
last_is zero (b ∷ bs) d lt ended unended =
    sym (ap (λ (c : Bool). or_else None (if not c then Some b else None)) unended) ∙ ap (λ (o : Option Branch). or_else o (if_open b)) (none_open bs ended)
last_is (suc n) (b ∷ bs) d lt ended unended = ap (λ (o : Option Branch). or_else o (if_open b)) (last_is n bs d (omega (arith, lt)) ended unended)

-- one more of the last ones is ended
pub one_behind : (n : ℕ) (bs : List Branch) (d : Branch) → n < length bs → Each IsEnded (drop (suc n) bs) → (get_or bs n d).ended ≡ true → Each IsEnded (drop n bs)
one_behind n [] d lt ended here = absurd (omega (arith, lt))
one_behind zero (b ∷ bs) d lt ended here = (here, ended)
one_behind (suc n) (b ∷ bs) d lt ended here = one_behind n bs d (omega (arith, lt)) ended here

pub behind_all : (bs : List Branch) → Each IsEnded (drop (length bs) bs)
behind_all [] = tt
behind_all (b ∷ bs) = behind_all bs

-- ---- what is found

pub first_found : (n : ℕ) (bs : List Branch) (b : Branch) → n < length bs → IsFirstOpen n bs → b ≡ get_or bs n b → Some b ≡ find is_open_branch bs
first_found n bs b lt f is = ap Some is ∙ first_is n bs b lt f.before (f.here b lt)

pub last_found : (n last : ℕ) (bs : List Branch) (b : Branch) → last ≡ n + 1 → IsLastOpen last bs → b ≡ get_or bs n b → Some b ≡ last_open bs
last_found n last bs b next l is =
    let lt : n < length bs = omega (arith, next, l.within) in
    let same : last ≡ suc n = omega (arith, next) in
    let behind : Each IsEnded (drop (suc n) bs) = subst (λ (k : ℕ). Each IsEnded (drop k bs)) same l.behind in
    ap Some is ∙ last_is n bs b lt behind (l.here n next b lt)

-- ---- all branches are ended

open_by : (e : Bool) (b : Branch) (rest : Option Branch) (all : Bool) → is_some rest ≡ not all → is_some (cond (not e) (Some b) rest) ≡ not (e && all)
open_by true b rest all below = below
open_by false b rest all below = refl

some_open : (bs : List Branch) → is_some (find is_open_branch bs) ≡ not (list_all is_ended_branch bs)
some_open [] = refl
some_open (b ∷ bs) = open_by b.ended b (find is_open_branch bs) (list_all is_ended_branch bs) (some_open bs)

same_not : (a b : Bool) → not a ≡ not b → a ≡ b
same_not true true e = refl
same_not true false e = sym e
same_not false true e = sym e
same_not false false e = refl

-- all are ended where none is found that is open
pub all_ended : (found : Option (Bor Branch)) (bs : List Branch) (none : Bool) → is_some found ≡ not none → option_copied found ≡ find is_open_branch bs → none ≡ list_all is_ended_branch bs
all_ended None bs none is e = same_not none (list_all is_ended_branch bs) (sym is ∙ ap is_some e ∙ some_open bs)
all_ended (Some b) bs none is e = same_not none (list_all is_ended_branch bs) (sym is ∙ ap is_some e ∙ some_open bs)

pub none_next : (commit : Bool) → None ≡ next_open commit []
none_next true = refl
none_next false = refl

-- ---- a branch that is found by its number

module _ (x : ℕ) where
  other_numbers : (n : ℕ) (bs : List Branch) → AreAbove branch_number n bs → n ≡ x → list_any (is_open_with x) bs ≡ false
  other_numbers n [] above is = refl
  other_numbers n (b ∷ bs) above is =
      let other : (b.id.0 == x) ≡ false = grind (arith, nat_tests, above.0, is) in rw other (other_numbers n bs above.1 is)

  pub open_first : (bs : List Branch) (i : ℕ) (d : Branch) → AreRising branch_number bs → IsFirst (has_number x) bs i → not (get_or bs i d).ended ≡ list_any (is_open_with x) bs
  open_first [] i d rising f = absurd f
  open_first (b ∷ bs) zero d rising f = rw (f, other_numbers b.id.0 bs rising.0 (same_nat b.id.0 x f)) (or_false (not b.ended))
    where
      or_false : (c : Bool) → c ≡ (c || false)
      or_false true = refl
      or_false false = refl
  open_first (b ∷ bs) (suc i) d rising f = rw f.0 (open_first bs i d rising.1 f.1)

  pub open_none : (bs : List Branch) → Each (λ b. has_number x b ≡ false) bs → false ≡ list_any (is_open_with x) bs
  open_none [] n = refl
  open_none (b ∷ bs) n = rw n.0 (open_none bs n.1)

-- ---- the transaction that is found by its number

module _ (P : Session → Type 0) (x : ℕ) (t : Session) where
  found_by : (c : Bool) (e : SessionEntry) (rest : Option SessionEntry) → has_xid x e ≡ c → (e.xid.0 ≡ x → P e.session) → (option_map session_of rest ≡ Some t → P t) →
      option_map session_of (cond c (Some e) rest) ≡ Some t → P t
  found_by true e rest is here below found = let same : e.session ≡ t = cc in subst P same (here (same_nat e.xid.0 x is))
  found_by false e rest is here below found = below found

  -- what holds of each such transaction holds of it
  pub found_has : (es : List SessionEntry) → Each (λ (e : SessionEntry). e.xid.0 ≡ x → P e.session) es → option_map session_of (find (has_xid x) es) ≡ Some t → P t
  found_has [] each found = none_some found
  found_has (e ∷ es) each found = found_by (has_xid x e) e (find (has_xid x) es) refl each.0 (found_has es each.1) found

pub found_span : (ss : Spans) (x : ℕ) (es : List SessionEntry) (t : Session) → AreSpans ss es → option_map session_of (find (has_xid x) es) ≡ Some t → IsSpanIn (span_of ss x) t.branches
found_span ss x es t spans =
    found_has (λ (u : Session). IsSpanIn (span_of ss x) u.branches) x t es
    (each_same (HasSpan ss) (λ (e : SessionEntry). e.xid.0 ≡ x → IsSpanIn (span_of ss x) e.session.branches)
    (λ e has same. subst (λ (n : ℕ). IsSpanIn (span_of ss n) e.session.branches) same has) es spans)

pub rising_each : (begun granted : ℕ) (es : List SessionEntry) → Each (IsNumbered begun granted) es → Each HasRising es
rising_each begun granted = each_same (IsNumbered begun granted) HasRising (λ e n. n.rising)

pub found_rising : (begun granted x : ℕ) (es : List SessionEntry) (t : Session) → Each (IsNumbered begun granted) es → option_map session_of (find (has_xid x) es) ≡ Some t → AreRising branch_number t.branches
found_rising begun granted x es t each =
    found_has (λ (u : Session). AreRising branch_number u.branches) x t es
    (each_same (IsNumbered begun granted) (λ (e : SessionEntry). e.xid.0 ≡ x → AreRising branch_number e.session.branches) (λ e n same. n.rising) es each)

-- ---- an ended branch more

module _ (b : ℕ) where
  before_by : (t : Bool) (n : ℕ) (c : Branch) (cs rest : List Branch) → IsEnded c → Each IsEnded (take n cs) → Each IsEnded (take n rest) →
      Each IsEnded (take (suc n) (if t then record c { ended = true } ∷ cs else c ∷ rest))
  before_by true n c cs rest here each below = (refl, each)
  before_by false n c cs rest here each below = (here, below)

  before_ended : (n : ℕ) (bs : List Branch) → Each IsEnded (take n bs) → Each IsEnded (take n (with_ended b bs))
  before_ended zero bs each = tt
  before_ended (suc n) [] each = tt
  before_ended (suc n) (c ∷ cs) each = before_by (c.id.0 == b) n c cs (with_ended b cs) each.0 each.1 (before_ended n cs each.1)

  each_by : (t : Bool) (c : Branch) (cs rest : List Branch) → IsEnded c → Each IsEnded cs → Each IsEnded rest → Each IsEnded (if t then record c { ended = true } ∷ cs else c ∷ rest)
  each_by true c cs rest here each below = (refl, each)
  each_by false c cs rest here each below = (here, below)

  each_ended : (bs : List Branch) → Each IsEnded bs → Each IsEnded (with_ended b bs)
  each_ended [] each = tt
  each_ended (c ∷ cs) each = each_by (c.id.0 == b) c cs (with_ended b cs) each.0 each.1 (each_ended cs each.1)

  behind_by : (t : Bool) (n : ℕ) (c : Branch) (cs rest : List Branch) → Each IsEnded (drop n cs) → Each IsEnded (drop n rest) →
      Each IsEnded (drop (suc n) (if t then record c { ended = true } ∷ cs else c ∷ rest))
  behind_by true n c cs rest each below = each
  behind_by false n c cs rest each below = below

  behind_ended : (n : ℕ) (bs : List Branch) → Each IsEnded (drop n bs) → Each IsEnded (drop n (with_ended b bs))
  behind_ended zero bs each = each_ended bs each
  behind_ended (suc n) [] each = tt
  behind_ended (suc n) (c ∷ cs) each = behind_by (c.id.0 == b) n c cs (with_ended b cs) each (behind_ended n cs each)

  span_ended : (o : Option Span) (bs : List Branch) → IsSpanIn o bs → IsSpanIn o (with_ended b bs)
  span_ended None bs has = tt
  span_ended (Some s) bs has = record { before = before_ended s.first bs has.before; behind = behind_ended s.last bs has.behind }

-- ---- a record

no_first : (n : ℕ) → Each IsEnded (take n [])
no_first zero = tt
no_first (suc n) = tt

no_last : (n : ℕ) → Each IsEnded (drop n [])
no_last zero = tt
no_last (suc n) = tt

no_span : (o : Option Span) → IsSpanIn o []
no_span None = tt
no_span (Some s) = record { before = no_first s.first; behind = no_last s.last }

module _ (ss : Spans) where
  turned_span : (r : SessionRecord) (e : SessionEntry) → HasSpan ss e → HasSpan ss (record e { session = turned r e.session })
  turned_span (log.Begun xid manager moment timeout) e has = has
  turned_span (log.Granted xid branch resource call ticket kind hold) e has = has
  turned_span (log.Decided xid d) e has = has
  turned_span (log.Retrying xid) e has = has
  turned_span (log.Ended xid branch) e has = span_ended branch.0 (span_of ss e.xid.0) e.session.branches has
  turned_span (log.Failed xid branch stmt) e has = has
  turned_span (log.Finished xid) e has = has
  turned_span (log.Forgot xid) e has = has

  pub spans_as : (s t : Snapshot) → t ≡ s → AreSpans ss s.sessions → AreSpans ss t.sessions
  spans_as s t is each = subst (λ (u : Snapshot). AreSpans ss u.sessions) (sym is) each

  pub spans_turned : (r : SessionRecord) (s : Snapshot) → AreSpans ss s.sessions → AreSpans ss (with_turned r s).sessions
  spans_turned r s = each_changed (xid_in r) (turned r) (HasSpan ss) (HasSpan ss) (λ e has. has) (turned_span r) s.sessions

  spans_begun : (s : Snapshot) (xid : Xid) (manager moment timeout : ℕ) → AreSpans ss s.sessions → AreSpans ss (after (log.Begun xid manager moment timeout) s).sessions
  spans_begun s xid manager moment timeout each =
      each_both (HasSpan ss) s.sessions (begun_entry xid manager moment timeout ∷ []) each (no_span (span_of ss xid.0), tt)

-- nothing is known of any
pub spans_none : (ss : Spans) → ss ≡ [] → (es : List SessionEntry) → AreSpans ss es
spans_none ss is es = subst (λ (u : Spans). AreSpans u es) (sym is) (each_all (HasSpan []) (λ e. tt) es)

pub begun_spans : {E : Type 0} (r : Result (Unit {0}) E) (ss : Spans) (s t : Snapshot) (xid : Xid) (manager moment timeout : ℕ) → AreSpans ss s.sessions →
    OnOk r (t ≡ after (log.Begun xid manager moment timeout) s) → OnErr r (t ≡ s) → AreSpans ss t.sessions
begun_spans (Ok u) ss s t xid manager moment timeout each ok err =
    spans_as ss (after (log.Begun xid manager moment timeout) s) t ok (spans_begun ss s xid manager moment timeout each)
begun_spans (Err e) ss s t xid manager moment timeout each ok err = spans_as ss s t err each

-- ---- nothing is known of x any more

module _ (x : ℕ) (old new : Spans) (gone : span_of new x ≡ None) (stay : SpansStay x old new) where
  none_in : (e : SessionEntry) (bs : List Branch) → e.xid.0 ≡ x → IsSpanIn (span_of new e.xid.0) bs
  none_in e bs is = subst (λ (o : Option Span). IsSpanIn o bs) (sym (ap (span_of new) is ∙ gone)) tt

  stays_by : (c : Bool) (e : SessionEntry) → (e.xid.0 == x) ≡ c → HasSpan old e → HasSpan new e
  stays_by true e is has = none_in e e.session.branches (same_nat e.xid.0 x is)
  stays_by false e is has = subst (λ (o : Option Span). IsSpanIn o e.session.branches) (sym (stay e.xid.0 is)) has

  stays : (e : SessionEntry) → HasSpan old e → HasSpan new e
  stays e has = stays_by (e.xid.0 == x) e refl has

  pub spans_forgot : (s : Snapshot) (xid : Xid) → xid.0 ≡ x → AreSpans old s.sessions → AreSpans new (after (log.Forgot xid) s).sessions
  spans_forgot s xid is each = each_without xid.0 (HasSpan new) s.sessions (each_same (HasSpan old) (HasSpan new) stays s.sessions each)

  module _ (b : Branch) where
    granted_by : (c : Bool) (e : SessionEntry) (es rest : List SessionEntry) → (e.xid.0 == x) ≡ c → HasSpan old e → AreSpans old es → AreSpans new rest →
        AreSpans new (if c then record e { session = with_branch b e.session } ∷ es else e ∷ rest)
    granted_by true e es rest is has each below = (none_in e (e.session.branches ++ b ∷ []) (same_nat e.xid.0 x is), each_same (HasSpan old) (HasSpan new) stays es each)
    granted_by false e es rest is has each below = (stays e has, below)

    granted_each : (es : List SessionEntry) → AreSpans old es → AreSpans new (changed x (with_branch b) es)
    granted_each [] each = tt
    granted_each (e ∷ es) each = granted_by (e.xid.0 == x) e es (changed x (with_branch b) es) refl each.0 each.1 (granted_each es each.1)

    pub spans_granted : (s : Snapshot) → AreSpans old s.sessions → AreSpans new (with_registered s x b).sessions
    spans_granted s each = granted_each s.sessions each

-- ---- what is known of x is found anew

module _ (x : ℕ) (old new : Spans) (stay : SpansStay x old new) where
  others_stay : (n : ℕ) (es : List SessionEntry) → n ≡ x → AreAbove entry_xid n es → AreSpans old es → AreSpans new es
  others_stay n [] is above each = tt
  others_stay n (e ∷ es) is above each =
      let other : (e.xid.0 == x) ≡ false = grind (arith, nat_tests, above.0, is) in
      (subst (λ (o : Option Span). IsSpanIn o e.session.branches) (sym (stay e.xid.0 other)) each.0, others_stay n es is above.1 each.1)

  module _ (t : Session) (span : IsSpanIn (span_of new x) t.branches) where
    noted_by : (c : Bool) (e : SessionEntry) (es : List SessionEntry) → has_xid x e ≡ c → AreRising entry_xid (e ∷ es) → AreSpans old (e ∷ es) →
        (option_map session_of (find (has_xid x) es) ≡ Some t → AreSpans new es) → option_map session_of (cond c (Some e) (find (has_xid x) es)) ≡ Some t → AreSpans new (e ∷ es)
    noted_by true e es is rising each below found =
        let number : e.xid.0 ≡ x = same_nat e.xid.0 x is in
        let same : t ≡ e.session = cc in (
          subst (λ (n : ℕ). IsSpanIn (span_of new n) e.session.branches) (sym number) (subst (λ (u : Session). IsSpanIn (span_of new x) u.branches) same span),
          others_stay e.xid.0 es number rising.0 each.1,
        )
    noted_by false e es is rising each below found =
        (subst (λ (o : Option Span). IsSpanIn o e.session.branches) (sym (stay e.xid.0 is)) each.0, below found)

    pub spans_noted : (es : List SessionEntry) → AreRising entry_xid es → AreSpans old es → option_map session_of (find (has_xid x) es) ≡ Some t → AreSpans new es
    spans_noted [] rising each found = tt
    spans_noted (e ∷ es) rising each found = noted_by (has_xid x e) e es refl rising each (spans_noted es rising.1 each.1) found
