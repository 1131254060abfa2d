-- What is left of a resource, part by part.
use Rattle.std.proofs.Common.{◌≡◌, ◌+◌, ◌≤◌, ℕ, Bool, true, false, List, [], ◌∷◌, Option, Some, None, refl, sym, ap, subst, ◌∙◌, arith, true≢false}
use Rattle.std.specs.Prelude.{IfSome}
use Rattle.seata_types.specs.declared.acts.Act.{Act}
use Rattle.seata_types.specs.declared.acts.Act.TheVariants as act
use Rattle.seata_types.specs.declared.acts.Durable.{Durable}
use Rattle.local_tables.specs.Rows.{Database}
use Rattle.durable_records.specs.declared.resources.ResourceRecord.{ResourceRecord}
use Rattle.durable_records.specs.declared.resources.ResourceRecord.TheVariants as log
use Rattle.durable_records.specs.ResourceOrder.{Allowed}
use Rattle.durable_records.specs.UndoRecords.{boots}
use Rattle.durable_records.proofs.Tests.{nat_same}
use Rattle.local_txn.specs.OpenTickets.{Open}
use Rattle.history_rules.specs.Own.{Event, Left, added, kept_part}
use Rattle.history_rules.specs.Devices.{down_after}
use Rattle.history_rules.specs.ResourceMemory.{Setup, boot_over, opens_after}
use Rattle.resource_memory.specs.Changes as changes
use Rattle.resource_memory.specs.Changes.{may_come}
use Rattle.resource_memory.specs.Known.{Known, known_of}
use Rattle.resource_memory.proofs.RecordLaws.{allows, applies}
use Rattle.resource_rules.specs.Answers.{left_with}
use Rattle.resource_rules.specs.Laws.{known_after}
use Rattle.judged_devices.specs.declared.shown.Shown.TheVariants as shown
use Rattle.judged_devices.specs.Showing.{done_as}

-- ---- records that may come

-- what is known is what these records say
pub record IsKnown (opening : Database) (rs : List ResourceRecord) (k : Known) : Type 0 where
  pub allowed : Allowed opening rs
  pub knows : k ≡ known_of opening rs

module _ (opening : Database) (rs : List ResourceRecord) (k : Known) (is : IsKnown opening rs k) where
  one_known : (r : ResourceRecord) → may_come k r ≡ true → IsKnown opening (r ∷ rs) (changes.after r k)
  one_known r may =
      let ok = (allows opening rs is.allowed r).0 (ap (λ (z : Known). may_come z r) (sym is.knows) ∙ may) in
      record { allowed = (is.allowed, ok); knows = ap (changes.after r) is.knows ∙ sym (applies opening rs is.allowed r ok) }

  -- with one more, if there is one
  pub more_known : (o : Option ResourceRecord) → IfSome o (λ r. may_come k r ≡ true) → IsKnown opening (added o rs) (known_after o k)
  more_known None may = is
  more_known (Some r) may = one_known r may

  boots_known : k.boots ≡ boots rs
  boots_known = ap (λ (z : Known). z.boots) is.knows

  -- the next boot always may
  pub boot_may : may_come k (log.Boot (k.boots + 1)) ≡ true
  boot_may = nat_same (k.boots + 1) (k.boots + 1) refl

  pub boot_is : log.Boot (k.boots + 1) ≡ boot_over rs
  boot_is = ap (λ (n : ℕ). log.Boot (n + 1)) boots_known

  pub boot_known : IsKnown opening (boot_over rs ∷ rs) (changes.after (log.Boot (k.boots + 1)) k)
  boot_known = subst (λ (r : ResourceRecord). IsKnown opening (r ∷ rs) (changes.after (log.Boot (k.boots + 1)) k)) boot_is (one_known (log.Boot (k.boots + 1)) boot_may)

  pub boots_more : k.boots + 1 ≡ boots (boot_over rs ∷ rs)
  boots_more = ap (λ (n : ℕ). n + 1) boots_known

-- the part that is kept may come
pub kept_may : (k : Known) (kept : Option Durable) (flight : Option ResourceRecord) → IfSome flight (λ r. may_come k r ≡ true)
    → IfSome (kept_part kept flight) (λ r. may_come k r ≡ true)
kept_may k None flight may = tt
kept_may k (Some d) flight may = may

-- nothing may come of nothing
pub none_comes : (k : Known) (o : Option ResourceRecord) → o ≡ None → IfSome o (λ r. may_come k r ≡ true)
none_comes k o e = subst (λ (p : Option ResourceRecord). IfSome p (λ r. may_come k r ≡ true)) (sym e) tt

-- ---- one act more

acts_after : (r : ResourceRecord) (k : Known) → (changes.after r k).acts ≡ k.acts + 1
acts_after (log.Boot number) k = refl
acts_after (log.Committed xid branch call images reads) k = refl
acts_after (log.Undone xid branch) k = refl
acts_after (log.Marked xid branch) k = refl
acts_after (log.Cleared xid branch) k = refl
acts_after (log.Tried xid branch call images) k = refl
acts_after (log.Confirmed xid branch images) k = refl
acts_after (log.Cancelled xid branch images) k = refl
acts_after (log.Suspended xid branch) k = refl
acts_after (log.LocalCommitted number images) k = refl
acts_after (log.Outside number images) k = refl

pub acts_more : (o : Option ResourceRecord) (k : Known) → (known_after o k).acts ≤ k.acts + 1
acts_more None k = omega arith
acts_more (Some r) k = let one = acts_after r k in omega (arith, one)

-- ---- what is in flight, and open

-- nothing is in flight after an answer of one that was up
pub idle_after : (asked : Option ResourceRecord) (left : Left ResourceRecord) (flight : Option ResourceRecord) → flight ≡ left.flight → flight ≡ None
    → flight ≡ (left_with asked left).flight
idle_after None left flight same idle = same
idle_after (Some r) left flight same idle = idle

-- a node that goes down has no open ticket
pub closed_after : (s : Setup) (db : Database) (event : Event) (done : Act) (before : Bool) (opens : List Open) → before ≡ false → down_after done before ≡ true
    → opens_after s db event done opens ≡ []
closed_after s db event (act.Down kept at) before opens up down = refl
closed_after s db event (act.Restarted kept) before opens up down = absurd (true≢false (sym down))
closed_after s db event _ before opens up down = absurd (true≢false (sym down ∙ up))

-- an answer that is cut short is durable
pub cut_durable : (failed : Bool) (a : Act) (flight : Durable) → done_as failed a ≡ shown.Cut flight → a ≡ act.Durable flight
cut_durable true (act.Durable d) flight e = let same : d ≡ flight = cc in ap act.Durable same
cut_durable false (act.Durable d) flight e = absurd cc
cut_durable failed _ flight e = absurd cc
