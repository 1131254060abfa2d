-- What a look at an act tells of it.
use Rattle.std.proofs.Common.{◌≡◌, ℕ, Bool, true, false, Option, Some, None, refl, sym, ap}
use Rattle.seata_types.specs.declared.acts.Act.{Act}
use Rattle.seata_types.specs.declared.acts.Act.TheVariants as act
use Rattle.seata_types.specs.declared.acts.Durable.{Durable}
use Rattle.seata_types.specs.declared.acts.Durable.TheVariants as durable
use Rattle.history_rules.specs.Own.{Given, Stopped, Crashed, Restarted}
use Rattle.history_rules.specs.Devices.{left_after}
use Rattle.judged_devices.specs.declared.shown.Back.{Back}
use Rattle.judged_devices.specs.declared.shown.Plain.{Plain}
use Rattle.judged_devices.specs.declared.shown.Plain.TheVariants as plain
use Rattle.judged_devices.specs.Looking.{crash_in, cut_by, cut_in, down_in, durable_in, left_by_record, left_by_restart, left_by_stop, plain_in}
use Rattle.judged_devices.specs.Showing.{act_of, back_act}

some_is : {A : Type 0} (a b : A) → Some a ≡ Some b → a ≡ b
some_is a b e = cc

none_some : {A : Type 0} {B : Type 0} (a : A) → ◌≡◌ {A = Option A} None (Some a) → B
none_some a e = absurd cc

-- a durable act that is seen is the act
pub is_durable : (a : Act) (d : Durable) → durable_in a ≡ Some d → a ≡ act.Durable d
is_durable (act.Durable c) d e = ap act.Durable (some_is c d e)
is_durable _ d e = none_some d e

-- one that was cut short is that of a node that went down
cut_is : (kept at : Option Durable) (d : Durable) → cut_by kept at ≡ Some d → act.Down kept at ≡ act.Down None (Some d)
cut_is None at d e = ap (act.Down None) e
cut_is (Some k) at d e = none_some d e

pub is_cut : (a : Act) (d : Durable) → cut_in a ≡ Some d → a ≡ act.Down None (Some d)
is_cut (act.Down kept at) d e = cut_is kept at d e
is_cut _ d e = none_some d e

-- what is seen of what a node does by itself is the act
crash_is : (kept : Option Durable) (p : Plain) → crash_in kept ≡ Some p → act_of p ≡ act.Down kept None
crash_is None p e = ap act_of (sym (some_is plain.Crashed p e))
crash_is (Some k) p e = none_some p e

down_is : (kept at : Option Durable) (p : Plain) → down_in kept at ≡ Some p → act_of p ≡ act.Down kept at
down_is kept None p e = crash_is kept p e
down_is kept (Some durable.Boot) p e = ap act_of (sym (some_is (plain.Back (record { kept = kept; cut = true })) p e))
down_is kept (Some _) p e = none_some p e

pub is_plain : (a : Act) (p : Plain) → plain_in a ≡ Some p → act_of p ≡ a
is_plain act.Lost p e = ap act_of (sym (some_is plain.Lost p e))
is_plain act.Armed p e = ap act_of (sym (some_is plain.Armed p e))
is_plain act.Nothing p e = ap act_of (sym (some_is plain.Rests p e))
is_plain (act.Restarted kept) p e = ap act_of (sym (some_is (plain.Back (record { kept = kept; cut = false })) p e))
is_plain (act.Down kept at) p e = down_is kept at p e
is_plain _ p e = none_some p e

-- and each is seen in its act
back_seen : (kept : Option Durable) (cut : Bool) → plain_in (back_act (record { kept = kept; cut = cut })) ≡ Some (plain.Back (record { kept = kept; cut = cut }))
back_seen kept true = refl
back_seen kept false = refl

pub plain_seen : (p : Plain) → plain_in (act_of p) ≡ Some p
plain_seen plain.Lost = refl
plain_seen plain.Armed = refl
plain_seen plain.Crashed = refl
plain_seen plain.Rests = refl
plain_seen (plain.Back b) = back_seen b.kept b.cut

-- ---- the calls that are left, by the event

pub left_given : (boots : Bool) (given : _) (done : Act) (before : Option ℕ) → left_by_record done before ≡ left_after boots (Given given) done before
left_given boots given (act.Durable d) before = refl
left_given boots given _ before = refl

pub left_crashed : (boots : Bool) (done : Act) (before : Option ℕ) → left_by_record done before ≡ left_after boots Crashed done before
left_crashed boots (act.Durable d) before = refl
left_crashed boots _ before = refl

pub left_stopped : (boots : Bool) (calls : ℕ) (done : Act) (before : Option ℕ) → left_by_stop calls done before ≡ left_after boots (Stopped calls) done before
left_stopped boots calls act.Armed before = refl
left_stopped boots calls (act.Durable d) before = refl
left_stopped boots calls _ before = refl

pub left_restarted : (boots : Bool) (pick : ℕ) (calls : Option ℕ) (done : Act) (before : Option ℕ)
    → left_by_restart boots calls done before ≡ left_after boots (Restarted pick calls) done before
left_restarted boots pick calls (act.Restarted kept) before = refl
left_restarted boots pick calls (act.Down kept at) before = refl
left_restarted boots pick calls (act.Durable d) before = refl
left_restarted boots pick calls _ before = refl
