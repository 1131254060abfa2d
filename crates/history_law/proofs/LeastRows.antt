-- The rows that refusals name are the least ones, since images and reads stand in rising order of keys.
use Rattle.std.proofs.Common.{◌≡◌, ◌⊎◌, inl, inr, not, ℕ, Bool, true, false, cond, if◌then◌else◌, List, [], ◌∷◌, ◌++◌, Option, Some, None, option_map, Result, Ok, Err, Ordering, Less, Equal, Greater, refl, ap, sym, subst, ◌∙◌}
use Rattle.std.specs.List.{AllByRecursion}
use Rattle.std.specs.List.Sorted.{IsStrictlySortedBy}
use Rattle.std.specs.Ordering.{is_lt, ordering_reverse}
use Rattle.std.proofs.lemmas.Cmp.{tied_itself}
use Rattle.seata_types.specs.Orders.{key_cmp}
use Rattle.seata_types.specs.declared.errors.StmtError.{StmtError}
use Rattle.seata_types.specs.declared.ids.Place.TheVariants as place
use Rattle.seata_types.specs.declared.ids.Ticket.{Ticket}
use Rattle.seata_types.specs.declared.messages.Input.TheVariants as input
use Rattle.seata_types.specs.declared.messages.Message.TheVariants as message
use Rattle.seata_types.specs.declared.messages.Step.{Step}
use Rattle.seata_types.specs.declared.rows.Image.{Image}
use Rattle.seata_types.specs.declared.rows.RowKey.{RowKey}
use Rattle.seata_types.specs.declared.statements.Stmt.{Stmt}
use Rattle.seata_types.specs.declared.statements.Work.TheVariants as work
use Rattle.local_tables.specs.Calls.{effect}
use Rattle.local_tables.specs.Rows.{Database, AreRising, row_at}
use Rattle.local_tables.specs.declared.schemas.Effect.{Effect}
use Rattle.local_tables.proofs.EffectRowLaws.{effects_of_tables}
use Rattle.local_tables.proofs.KeyLaws.{key_cmp_total, key_exact}
use Rattle.durable_records.specs.declared.resources.ResourceRecord.{ResourceRecord}
use Rattle.durable_records.specs.UndoRecords.{Undo, undos}
use Rattle.durable_records.specs.ResourceOrder.{image_keys, read_keys}
use Rattle.durable_records.specs.RowsKept.{tables}
use Rattle.history_rules.specs.Own.{Event, Given, Own}
use Rattle.history_rules.specs.ResourceMemory.{Setup, Open, Memory, opening_tables, effect_on, or_none, opened_for, has_row, memory}
use Rattle.history_rules.specs.ResourceRules.{ticket_with, with_ticket, busy_in, lesser_row, same_row, dirty_image}
use Rattle.history_rules.specs.Nodes.{World, Past, Resource, Ran, MayStand, role_at, counted_at}
use Rattle.history_rules.specs.Histories.{Moment, own, Legal}
use Rattle.history_rules.specs.Chains.{IsChain, MayLeave, IsBlankPast}
use Rattle.history_law.specs.Points.{In}
use Rattle.history_law.specs.Tickets.{Tickets}
use Rattle.history_law.specs.Cover.{all_of, memory_of}
use Rattle.history_law.specs.TicketSafety.{AreNumbered}
use Rattle.history_law.specs.LeastSafety.{HasIt, IsLeastBusy, BusyLaw, IsLeastDirty, NamesLeastRows, RollbacksNameLeast, RollbackRowsLaw, RollbackRowsOfChains}
use Rattle.history_law.proofs.Tests.{none_some, true_false, not_true, not_false, found_in, find_none}
use Rattle.history_law.proofs.Nodes.{ran}
use Rattle.history_law.proofs.UndoRecords.{commit_of, undo_before}
use Rattle.history_law.proofs.CoverChains.{stood, on_boots, at_first, chain_covered, shorter_chain}
use Rattle.history_law.proofs.ResourceFits.{tables_now}
use Rattle.history_law.proofs.TicketSteps.{memory_by}
use Rattle.history_law.proofs.ResourceSteps.{RecordFits, OpenFrom, ResourceMoves, resource_moves}

-- ---- keys in order

-- no key is below itself, and of two keys one is below the other at most
not_below : (k : RowKey) → key_cmp k k ≡ Less → ⊥
not_below k e = let both : Less ≡ Equal = sym e ∙ tied_itself key_cmp_total k in absurd cc

not_both : (j k : RowKey) → key_cmp j k ≡ Less → key_cmp k j ≡ Less → ⊥
not_both j k e f = not_below j (key_cmp_total.trans j k j e f)

each_above : (k : RowKey) (ks : List RowKey) → AllByRecursion (λ y. key_cmp k y ≡ Less) ks → (y : RowKey) → In y ks → key_cmp k y ≡ Less
each_above k [] all y i = absurd i
each_above k (x ∷ ks) all y (inl is) = subst (λ z. key_cmp k z ≡ Less) (sym is) all.0
each_above k (x ∷ ks) all y (inr i) = each_above k ks all.1 y i

first_below : (k : RowKey) (ks : List RowKey) → IsStrictlySortedBy key_cmp (k ∷ ks) → (y : RowKey) → In y ks → key_cmp k y ≡ Less
unfolding IsStrictlySortedBy
first_below k ks s = each_above k ks s.0

behind_rise : (k : RowKey) (ks : List RowKey) → IsStrictlySortedBy key_cmp (k ∷ ks) → IsStrictlySortedBy key_cmp ks
unfolding IsStrictlySortedBy
behind_rise k ks s = s.1

none_rise : IsStrictlySortedBy key_cmp []
unfolding IsStrictlySortedBy
none_rise = tt

-- ---- the first busy row of keys in order

module _ (opens : List Open) where
  busy_of : (k : RowKey) (o : Open) → ticket_with opens k ≡ Some o → HasIt opens o.ticket k
  busy_of k o found = let f = found_in (has_row k) opens o found in record { open_ticket = o; there = f.0; number = refl; has = f.1 }

  none_has : (k : RowKey) → ticket_with opens k ≡ None → (u : Ticket) → HasIt opens u k → ⊥
  none_has k none u h = true_false (sym h.has ∙ find_none (has_row k) opens h.open_ticket none h.there)

  behind : (k : RowKey) (o : Option Open) (rest : Option (RowKey × Ticket)) → with_ticket k o rest ≡ None → (o ≡ None) × (rest ≡ None)
  behind k None rest e = (refl, e)
  behind k (Some o) rest e = none_some (sym e)

  -- no key is busy where none is found
  none_busy : (ks : List RowKey) → busy_in opens ks ≡ None → (k : RowKey) (u : Ticket) → In k ks → HasIt opens u k → ⊥
  none_busy [] e k u i h = i
  none_busy (x ∷ ks) e k u (inl is) h = none_has x (behind x (ticket_with opens x) (busy_in opens ks) e).0 u (subst (HasIt opens u) is h)
  none_busy (x ∷ ks) e k u (inr i) h = none_busy ks (behind x (ticket_with opens x) (busy_in opens ks) e).1 k u i h

  first_busy : (ks : List RowKey) → IsStrictlySortedBy key_cmp ks → (key : RowKey) (t : Ticket) → busy_in opens ks ≡ Some (key, t) → IsLeastBusy opens ks key t
  first_busy [] s key t e = none_some e
  first_busy (k ∷ ks) s key t e = by (ticket_with opens k) refl (first_busy ks (behind_rise k ks s) key t) e
    where
      here : (o : Open) → ticket_with opens k ≡ Some o → IsLeastBusy opens (k ∷ ks) k o.ticket
      here o found = record {
        there = inl refl;
        busy = busy_of k o found;
        least = λ other u i h below. least other i below;
      }
        where
          least : (other : RowKey) → In other (k ∷ ks) → key_cmp other k ≡ Less → ⊥
          least other (inl is) below = not_below k (subst (λ z. key_cmp z k ≡ Less) is below)
          least other (inr i) below = not_both other k below (first_below k ks s other i)

      by : (o : Option Open) → ticket_with opens k ≡ o → (busy_in opens ks ≡ Some (key, t) → IsLeastBusy opens ks key t) → with_ticket k o (busy_in opens ks) ≡ Some (key, t)
          → IsLeastBusy opens (k ∷ ks) key t
      by (Some o) found below is =
          let same : (k, o.ticket) ≡ (key, t) = cc in
          subst (λ (z : RowKey × Ticket). IsLeastBusy opens (k ∷ ks) z.0 z.1) same (here o found)
      by None found below is =
          let f = below is in
          record { there = inr f.there; busy = f.busy; least = λ other u i h below. least f other u i h below }
        where
          least : IsLeastBusy opens ks key t → (other : RowKey) (u : Ticket) → In other (k ∷ ks) → HasIt opens u other → key_cmp other key ≡ Less → ⊥
          least f other u (inl is) h below = none_has k found u (subst (HasIt opens u) is h)
          least f other u (inr i) h below = f.least other u i h below

  -- ---- of two lists in order

  in_first : (ks ls : List RowKey) (k : RowKey) → In k ks → In k (ks ++ ls)
  in_first [] ls k i = absurd i
  in_first (x ∷ ks) ls k (inl is) = inl is
  in_first (x ∷ ks) ls k (inr i) = inr (in_first ks ls k i)

  in_second : (ks ls : List RowKey) (k : RowKey) → In k ls → In k (ks ++ ls)
  in_second [] ls k i = i
  in_second (x ∷ ks) ls k i = inr (in_second ks ls k i)

  in_either : (ks ls : List RowKey) (k : RowKey) → In k (ks ++ ls) → In k ks ⊎ In k ls
  in_either [] ls k i = inr i
  in_either (x ∷ ks) ls k (inl is) = inl (inl is)
  in_either (x ∷ ks) ls k (inr i) = by (in_either ks ls k i)
    where
      by : In k ks ⊎ In k ls → In k (x ∷ ks) ⊎ In k ls
      by (inl j) = inl (inr j)
      by (inr j) = inr j

  module _ (ks ls : List RowKey) where
    -- the least of the first, where none of the second is less
    of_first : (key : RowKey) (t : Ticket) → IsLeastBusy opens ks key t → ((other : RowKey) (u : Ticket) → In other ls → HasIt opens u other → key_cmp other key ≡ Less → ⊥) → IsLeastBusy opens (ks ++ ls) key t
    of_first key t f none = record { there = in_first ks ls key f.there; busy = f.busy; least = λ other u i h below. by other u (in_either ks ls other i) h below }
      where
        by : (other : RowKey) (u : Ticket) → In other ks ⊎ In other ls → HasIt opens u other → key_cmp other key ≡ Less → ⊥
        by other u (inl i) h below = f.least other u i h below
        by other u (inr i) h below = none other u i h below

    of_second : (key : RowKey) (t : Ticket) → IsLeastBusy opens ls key t → ((other : RowKey) (u : Ticket) → In other ks → HasIt opens u other → key_cmp other key ≡ Less → ⊥) → IsLeastBusy opens (ks ++ ls) key t
    of_second key t f none = record { there = in_second ks ls key f.there; busy = f.busy; least = λ other u i h below. by other u (in_either ks ls other i) h below }
      where
        by : (other : RowKey) (u : Ticket) → In other ks ⊎ In other ls → HasIt opens u other → key_cmp other key ≡ Less → ⊥
        by other u (inl i) h below = none other u i h below
        by other u (inr i) h below = f.least other u i h below

    -- what isn't below another is the same or above
    not_lesser : (p q other : RowKey) (r : Ordering) → key_cmp q p ≡ r → is_lt r ≡ false → key_cmp other p ≡ Less → key_cmp other q ≡ Less
    not_lesser p q other Less e b below = true_false b
    not_lesser p q other Equal e b below = subst (λ z. key_cmp other z ≡ Less) (sym (key_exact q p e)) below
    not_lesser p q other Greater e b below = key_cmp_total.trans other p q below (key_cmp_total.antisymm p q ∙ ap ordering_reverse e)

    module _ (rise : IsStrictlySortedBy key_cmp ks) (later : IsStrictlySortedBy key_cmp ls) where
      chosen : (p q : RowKey × Ticket) → IsLeastBusy opens ks p.0 p.1 → IsLeastBusy opens ls q.0 q.1 → (b : Bool) → is_lt (key_cmp q.0 p.0) ≡ b → (key : RowKey) (t : Ticket)
          → (if b then Some q else Some p) ≡ Some (key, t) → IsLeastBusy opens (ks ++ ls) key t
      chosen p q f g true e key t is =
          let same : q ≡ (key, t) = cc in
          subst (λ (z : RowKey × Ticket). IsLeastBusy opens (ks ++ ls) z.0 z.1) same
          (of_second q.0 q.1 g (λ other u i h below. f.least other u i h (key_cmp_total.trans other q.0 p.0 below (less (key_cmp q.0 p.0) e))))
        where
          less : (r : Ordering) → is_lt r ≡ true → r ≡ Less
          less Less e = refl
          less Equal e = true_false (sym e)
          less Greater e = true_false (sym e)
      chosen p q f g false e key t is =
          let same : p ≡ (key, t) = cc in
          subst (λ (z : RowKey × Ticket). IsLeastBusy opens (ks ++ ls) z.0 z.1) same
          (of_first p.0 p.1 f (λ other u i h below. g.least other u i h (not_lesser p.0 q.0 other (key_cmp q.0 p.0) refl e below)))

      least_of_both : (p q : Option (RowKey × Ticket)) → busy_in opens ks ≡ p → busy_in opens ls ≡ q → (key : RowKey) (t : Ticket) → lesser_row p q ≡ Some (key, t) → IsLeastBusy opens (ks ++ ls) key t
      least_of_both None q ep eq key t is = of_second key t (first_busy ls later key t (eq ∙ is)) (λ other u i h below. none_busy ks ep other u i h)
      least_of_both (Some p) None ep eq key t is =
          of_first key t (first_busy ks rise key t (ep ∙ is)) (λ other u i h below. none_busy ls eq other u i h)
      least_of_both (Some p) (Some q) ep eq key t is = chosen p q (first_busy ks rise p.0 p.1 ep) (first_busy ls later q.0 q.1 eq) (is_lt (key_cmp q.0 p.0)) refl key t is

pub busy_law : BusyLaw
busy_law db stmts e ok opens key t busy =
    let of = effects_of_tables db stmts e ok in
    least_of_both opens (image_keys e.images) (read_keys e.reads) of.rising of.reads_rise (busy_in opens (image_keys e.images)) (busy_in opens (read_keys e.reads)) refl refl key t busy

-- ---- the first dirty image

module _ (db : Database) where
  abbrev is_dirty : Image → Bool
  is_dirty i = not (same_row (row_at db.rows i.key) i.after)

  in_keys : (images : List Image) (i : Image) → In i images → In i.key (image_keys images)
  in_keys [] i j = absurd j
  in_keys (x ∷ images) i (inl is) = inl (ap (λ (z : Image). z.key) is)
  in_keys (x ∷ images) i (inr j) = inr (in_keys images i j)

  first_dirty : (images : List Image) → IsStrictlySortedBy key_cmp (image_keys images) → (i : Image) → dirty_image db images ≡ Some i → IsLeastDirty db images i
  first_dirty [] s i e = none_some e
  first_dirty (x ∷ images) s i e = by (is_dirty x) refl (first_dirty images (behind_rise x.key (image_keys images) s) i) e
    where
      by : (b : Bool) → is_dirty x ≡ b → (dirty_image db images ≡ Some i → IsLeastDirty db images i) → cond b (Some x) (dirty_image db images) ≡ Some i → IsLeastDirty db (x ∷ images) i
      by true t later is =
          let same : x ≡ i = cc in
          subst (IsLeastDirty db (x ∷ images)) same (record { there = inl refl; dirty = not_true (same_row (row_at db.rows x.key) x.after) t; least = λ other j d below. least other j below })
        where
          least : (other : Image) → In other (x ∷ images) → key_cmp other.key x.key ≡ Less → ⊥
          least other (inl is) below = not_below x.key (subst (λ (z : Image). key_cmp z.key x.key ≡ Less) is below)
          least other (inr j) below = not_both other.key x.key below (first_below x.key (image_keys images) s other.key (in_keys images other j))
      by false t later is =
          let f = later is in
          record { there = inr f.there; dirty = f.dirty; least = λ other j d below. least f other j d below }
        where
          least : IsLeastDirty db images i → (other : Image) → In other (x ∷ images) → same_row (row_at db.rows other.key) other.after ≡ false → key_cmp other.key i.key ≡ Less → ⊥
          least f other (inl is) d below =
              let whole : same_row (row_at db.rows x.key) x.after ≡ true = not_false (same_row (row_at db.rows x.key) x.after) t in
              true_false (sym whole ∙ subst (λ (z : Image). same_row (row_at db.rows z.key) z.after ≡ false) is d)
          least f other (inr j) d below = f.least other j d below

-- ---- the images of undo records rise

effect_rises : (db : Database) (stmts : List Stmt) → AreRising (effect_on db stmts).images
effect_rises db stmts = by (effect db stmts) refl
  where
    by : (r : Result Effect (ℕ × StmtError)) → effect db stmts ≡ r → AreRising (or_none r).images
    by (Ok e) is = (effects_of_tables db stmts e is).rising
    by (Err f) is = none_rise

some_rises : (a n : Open) → AreRising a.images → Some a ≡ Some n → AreRising n.images
some_rises a n rise e = let same : a ≡ n = cc in subst (λ (z : Open). AreRising z.images) same rise

opening_rises : (s : Setup) (db : Database) (t : Ticket) (event : Event) (n : Open) → opened_for s db t event ≡ Some n → AreRising n.images
opening_rises s db t (Given (input.Message from (message.Call xid man res c (work.At stmts)))) n e = some_rises _ n (effect_rises db stmts) e
opening_rises s db t (Given (input.Message from (message.Call xid man res c (work.Tcc a)))) n e = some_rises _ n none_rise e
opening_rises s db t (Given (input.Local k)) n e = some_rises _ n (effect_rises db _) e
opening_rises s db t _ n e = none_some e

abbrev UndosRise : List ResourceRecord → Type 0
UndosRise rs = (u : Undo) → In u (undos rs) → AreRising u.images

record Rise (m : Memory) : Type 0 where
  opens : (o : Open) → In o m.opens → AreRising o.images
  records : UndosRise m.left.records × UndosRise (all_of m.left)

module _ (s : Setup) (m : Memory) (rise : Rise m) (event : Event) (now : ℕ) (step : Step) (moves : ResourceMoves s m event now step) where
  open_rises : (o : Open) → OpenFrom s m event (memory_by s m event now step) o → AreRising o.images
  open_rises o (inl (p, k, i, is)) = subst (λ (z : Open). AreRising z.images) (sym is) (rise.opens p i)
  open_rises o (inr new) = opening_rises s (tables_now s m) _ event o new.opened

  undo_rises : (r : ResourceRecord) → RecordFits s m (memory_by s m event now step).opens event r → UndosRise m.left.records → UndosRise (r ∷ m.left.records)
  undo_rises r f all u i = by (undo_before r m.left.records u i)
    where
      by : (r ≡ commit_of u) ⊎ In u (undos m.left.records) → AreRising u.images
      by (inl is) =
          let fits = subst (RecordFits s m (memory_by s m event now step).opens event) is f in
          subst AreRising (sym fits.images) (rise.opens fits.open_ticket fits.there)
      by (inr old) = all u old

  rises_on : Rise (memory_by s m event now step)
  rises_on = record { opens = λ o i. open_rises o (moves.opens_from o i); records = moves.keeps UndosRise (λ rs all. all) undo_rises rise.records }

all_rise : (s : Setup) (past : List ResourceRecord) → UndosRise past → (os : List Own) → Ran (Resource s past) os → Tickets (memory s past os) × Rise (memory s past os)
all_rise s past first [] r = (
  record { given = λ o j. absurd j; distinct = λ o p j. absurd j; disjoint = λ o p j. absurd j },
  record { opens = λ o j. absurd j; records = (first, first) },
)
all_rise s past first (o ∷ os) r =
    let below = all_rise s past first os r.0 in
    let moves = resource_moves s past os o.event o.now o.step below.0 r.1 in
    (moves.tickets, rises_on s (memory s past os) below.1 o.event o.now o.step moves)

-- ---- what is claimed

-- undo records have rising images on the disks of each resource
abbrev FirstRise : World → Past → Type 0
FirstRise w past = (n : ℕ) (s : Setup) → counted_at w.resources n ≡ Some s → UndosRise (past.resource n)

rise_after : (w : World) (past : Past) (ms : List Moment) → FirstRise w past → Legal w past ms → (n : ℕ) (s : Setup) → counted_at w.resources n ≡ Some s → Rise (memory_of past ms n s)
rise_after w past ms first legal n s known =
    let role : role_at w past (place.Res n) ≡ Some (Resource s (past.resource n)) = ap (option_map (λ q. Resource q (past.resource n))) known in
    (all_rise s (past.resource n) (first n s known) (own (place.Res n) ms) (ran w past (place.Res n) (Resource s (past.resource n)) role ms legal)).1

names_least : (w : World) (past : Past) (ms : List Moment) → FirstRise w past → Legal w past ms → (n : ℕ) (s : Setup) → counted_at w.resources n ≡ Some s → NamesLeastRows s (memory_of past ms n s)
names_least w past ms first legal n s known =
    let rise = rise_after w past ms first legal n s known in
    record {
      blocked = λ u i key t busy. first_busy (memory_of past ms n s).opens (image_keys u.images) (rise.records.0 u i) key t busy;
      dirty = λ u i image dirty. first_dirty (tables (opening_tables s) (memory_of past ms n s).left.records) u.images (rise.records.0 u i) image dirty;
    }

all_points : (w : World) (past : Past) (ms : List Moment) → FirstRise w past → Legal w past ms → RollbacksNameLeast w past ms
all_points w past [] first legal = names_least w past [] first legal
all_points w past (m ∷ ms) first legal = (all_points w past ms first legal.0, names_least w past (m ∷ ms) first legal)

blank_rise : (w : World) (past : Past) → IsBlankPast past → FirstRise w past
blank_rise w past blank n s known = at_first past blank UndosRise (λ u i. absurd i) (λ rs all. all) n

pub rollback_rows_law : RollbackRowsLaw
rollback_rows_law w past ms blank legal = all_points w past ms (blank_rise w past blank) legal

-- ---- chains

next_rise : (w : World) (past : Past) (ms : List Moment) (next : Past) → AreNumbered w → FirstRise w past → Legal w past ms → MayLeave w past ms next → FirstRise w next
next_rise w past ms next numbered first legal leaves n s known =
    let here = leaves.resources n s known in
    let rise = rise_after w past ms first legal n s known in
    let left : UndosRise here.0 = stood UndosRise (memory_of past ms n s).left here.0 rise.records
    (subst (λ q. MayStand (memory s (past.resource q) (own (place.Res q) ms)).left here.0) (numbered n s known) here.2) in
    subst UndosRise (sym here.3) (on_boots UndosRise (λ rs all. all) here.1 here.0 left)

chain_rise : (w : World) (past : Past) (ms : List Moment) (rest : List (Past × List Moment)) → AreNumbered w → IsChain w ((past, ms) ∷ rest) → FirstRise w past
chain_rise w past ms [] numbered chain = blank_rise w past chain.0
chain_rise w past ms ((before, entries) ∷ rest) numbered chain =
    next_rise w before entries past numbered (chain_rise w before entries rest numbered chain.0) (chain_covered w before entries rest numbered chain.0).1 chain.1

pub rollback_rows_of_chains : RollbackRowsOfChains
rollback_rows_of_chains w [] numbered chain = tt
rollback_rows_of_chains w ((past, ms) ∷ rest) numbered chain =
    (rollback_rows_of_chains w rest numbered (shorter_chain w past ms rest chain), all_points w past ms (chain_rise w past ms rest numbered chain) (chain_covered w past ms rest numbered chain).1)
