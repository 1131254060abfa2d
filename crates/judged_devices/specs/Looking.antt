-- What is looked at in an act, and tests.
use Rattle.std.specs.Prelude.{◌≡◌, ◌≢◌, ℕ, Bool, true, false, not, if◌then◌else◌, Option, Some, None, option_map}
use Rattle.seata_types.specs.declared.acts.Act.{Act}
use Rattle.seata_types.specs.declared.acts.Act.TheVariants as act
use Rattle.seata_types.specs.declared.acts.Durable.{Durable}
use Rattle.seata_types.specs.declared.acts.Durable.TheVariants as durable
use Rattle.history_rules.specs.Own.{Event, Stopped, Crashed, Restarted}
use Rattle.history_rules.specs.Devices.{is_short, spent}
use Rattle.judged_devices.specs.declared.shown.Back.{Back}
use Rattle.judged_devices.specs.declared.shown.Plain.{Plain}
use Rattle.judged_devices.specs.declared.shown.Plain.TheVariants as plain
use Rattle.judged_devices.specs.declared.shown.Shown.{Shown}
use Rattle.judged_devices.specs.declared.shown.Shown.TheVariants as shown
use Rattle.judged_devices.specs.Showing.{kept_flight}

-- ---- looks at an act

-- the durable act that an act is
abbrev pub durable_in : Act → Option Durable
durable_in (act.Durable done) = Some done
durable_in _ = None

-- the act in flight of a node that went down and kept nothing
abbrev pub cut_by : (kept at : Option Durable) → Option Durable
cut_by None at = at
cut_by (Some kept) at = None

abbrev pub cut_in : Act → Option Durable
cut_in (act.Down kept at) = cut_by kept at
cut_in _ = None

-- what an act shows of what a node does by itself
abbrev pub crash_in : (kept : Option Durable) → Option Plain
crash_in None = Some plain.Crashed
crash_in (Some kept) = None

abbrev pub down_in : (kept at : Option Durable) → Option Plain
down_in kept None = crash_in kept
down_in kept (Some durable.Boot) = Some (plain.Back (record { kept = kept; cut = true }))
down_in kept (Some _) = None

abbrev pub plain_in : Act → Option Plain
plain_in act.Lost = Some plain.Lost
plain_in act.Armed = Some plain.Armed
plain_in act.Nothing = Some plain.Rests
plain_in (act.Restarted kept) = Some (plain.Back (record { kept = kept; cut = false }))
plain_in (act.Down kept at) = down_in kept at
plain_in _ = None

-- what is shown of a restart
abbrev pub back_in : Plain → Option Back
back_in (plain.Back b) = Some b
back_in _ = None

-- the calls after which a restart's disk stops
abbrev pub restart_in : Event → Option (Option ℕ)
restart_in (Restarted pick calls) = Some calls
restart_in _ = None

-- ---- tests

-- whether two are the same
abbrev pub AreSame : {A : Type 0} → (a b : A) → Bool → Type 0
AreSame a b true = a ≡ b
AreSame a b false = a ≢ b

-- how a durable answer is shown, by the durable act that is seen and the one that was cut short
abbrev pub ShowsDurable : Option ℕ → Durable → (seen cut : Option Durable) → Option Shown → Type 0
ShowsDurable left done seen cut (Some shown.Done) = (seen ≡ Some done) × (is_short left ≡ false)
ShowsDurable left done seen cut (Some (shown.Cut flight)) = (cut ≡ Some done) × (flight ≡ done)
ShowsDurable left done seen cut None = (cut ≢ Some done) × (seen ≡ Some done → is_short left ≡ true)

-- whether a restart may keep this of what was in flight
abbrev pub Keeps : Option ℕ → (flight kept : Option Durable) → Bool → Type 0
Keeps left flight kept true = (keeps : Bool) × (kept_flight keeps left flight ≡ kept)
Keeps left flight kept false = (keeps : Bool) → kept_flight keeps left flight ≢ kept

-- whether the boot of a restart may end so
abbrev pub boots_so : (boots : Bool) → (calls : Option ℕ) → (cut : Bool) → Bool
boots_so false calls cut = not cut
boots_so true calls true = true
boots_so true calls false = not (is_short calls)

-- whether what happens to a node that is up ends so
abbrev pub goes_up : Event → Plain → Bool
goes_up (Stopped calls) plain.Armed = true
goes_up Crashed plain.Crashed = true
goes_up (Restarted pick calls) plain.Rests = true
goes_up event p = false

abbrev pub is_lost : Plain → Bool
is_lost plain.Lost = true
is_lost p = false

-- ---- the calls that are left after an entry, by its event

abbrev pub left_by_record : Act → Option ℕ → Option ℕ
left_by_record (act.Durable done) before = option_map spent before
left_by_record _ before = before

abbrev pub left_by_stop : (calls : ℕ) → Act → Option ℕ → Option ℕ
left_by_stop calls act.Armed before = Some calls
left_by_stop calls done before = left_by_record done before

abbrev pub left_by_restart : (boots : Bool) → (calls : Option ℕ) → Act → Option ℕ → Option ℕ
left_by_restart boots calls (act.Restarted kept) before = if boots then option_map spent calls else calls
left_by_restart boots calls (act.Down kept at) before = calls
left_by_restart boots calls done before = left_by_record done before
