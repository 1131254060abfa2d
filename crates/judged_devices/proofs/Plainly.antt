-- What a node does by itself.
use Rattle.std.proofs.Common.{◌≡◌, ◌≢◌, ℕ, Bool, true, false, not, ◌&&◌, if◌then◌else◌, Option, Some, None, refl, sym, ap, ◌∙◌, true≢false}
use Rattle.seata_types.specs.declared.acts.Act.{Act}
use Rattle.seata_types.specs.declared.acts.Act.TheVariants as act
use Rattle.seata_types.specs.declared.acts.Durable.{Durable}
use Rattle.seata_types.specs.declared.messages.Step.{Step}
use Rattle.history_rules.specs.Own.{Event, Given, Stopped, Crashed, Restarted, still}
use Rattle.history_rules.specs.Devices.{fails, is_short, may_stand, restarted}
use Rattle.judged_devices.specs.declared.devices.Device.{Device}
use Rattle.judged_devices.specs.declared.shown.Back.{Back}
use Rattle.judged_devices.specs.declared.shown.Plain.{Plain}
use Rattle.judged_devices.specs.declared.shown.Plain.TheVariants as plain
use Rattle.judged_devices.specs.Looking.{AreSame, Keeps, back_in, boots_so, goes_up, is_lost, plain_in, restart_in}
use Rattle.judged_devices.specs.Showing.{ComesBack, IsGiven, IsOwn, IsPlain, May, ShowsPlain, act_of, back_act, down_step, kept_flight, own_step, up_step}
use Rattle.judged_devices.proofs.Seen.{is_plain, plain_seen}

some_is : {A : Type 0} (a b : A) → Some a ≡ Some b → a ≡ b
some_is a b e = cc

none_some : {A : Type 0} {B : Type 0} (a : A) → ◌≡◌ {A = Option A} None (Some a) → B
none_some a e = absurd cc

-- ---- what a restart keeps

module _ (left : Option ℕ) (flight : Option Durable) where
  abbrev kept_by : Bool → Option Durable
  kept_by stands = if stands then flight else None

  pub keeps_nothing : Keeps left flight None true
  keeps_nothing = (false, refl)

  pub keeps_flight : (kept : Durable) (same : Bool) → may_stand left ≡ true → AreSame flight (Some kept) same → Keeps left flight (Some kept) same
  keeps_flight kept true stands is = (true, ap kept_by stands ∙ is)
  keeps_flight kept false stands other = by
    where
      by : (keeps : Bool) → kept_flight keeps left flight ≢ Some kept
      by true e = other (sym (ap kept_by stands) ∙ e)
      by false e = none_some kept e

  pub keeps_fallen : (kept : Durable) → may_stand left ≡ false → Keeps left flight (Some kept) false
  keeps_fallen kept falls = by
    where
      by : (keeps : Bool) → kept_flight keeps left flight ≢ Some kept
      by true e = none_some kept (sym (ap kept_by falls) ∙ e)
      by false e = none_some kept e

-- ---- how a restart ends

-- what it did is shown
back_with : Option Durable → (cut : Bool) → Back
back_with kept cut = record { kept = kept; cut = cut }

pub restart_is : (boots failed : Bool) (kept : Option Durable) → restarted boots failed kept ≡ still (back_act (record { kept = kept; cut = boots && failed }))
restart_is true true kept = refl
restart_is true false kept = refl
restart_is false failed kept = refl

-- and only that is
pub restart_shows : (boots failed : Bool) (kept : Option Durable) (b : Back) → restarted boots failed kept ≡ still (back_act b)
    → b ≡ record { kept = kept; cut = boots && failed }
restart_shows boots failed kept b e = back_one b (record { kept = kept; cut = boots && failed })
    (sym (plain_seen (plain.Back b)) ∙ ap (λ (s : Step). plain_in s.act) (sym e ∙ restart_is boots failed kept) ∙ plain_seen (plain.Back (record { kept = kept; cut = boots && failed })))
  where
    back_one : (a b : Back) → ◌≡◌ {A = Option Plain} (Some (plain.Back a)) (Some (plain.Back b)) → a ≡ b
    back_one a b e = some_is a b (ap in_plain e)
      where
        in_plain : Option Plain → Option Back
        in_plain None = None
        in_plain (Some p) = back_in p

-- a boot ends so by a fault or without, or never does
boot_may : (boots : Bool) (calls : Option ℕ) (cut : Bool) → boots_so boots calls cut ≡ true → (fault : Bool) × ((boots && fails fault calls) ≡ cut)
boot_may false calls false e = (false, refl)
boot_may false calls true e = absurd (true≢false (sym e))
boot_may true calls true e = (true, refl)
boot_may true calls false e = (false, long (is_short calls) e)
  where
    long : (short : Bool) → not short ≡ true → short ≡ false
    long false e = refl
    long true e = absurd (true≢false (sym e))

boot_must : (boots : Bool) (calls : Option ℕ) (cut : Bool) → boots_so boots calls cut ≡ false → (fault : Bool) → (boots && fails fault calls) ≢ cut
boot_must false calls true e fault is = true≢false (sym is)
boot_must false calls false e fault is = true≢false e
boot_must true calls true e fault is = true≢false e
boot_must true calls false e true is = true≢false is
boot_must true calls false e false is = by (is_short calls) e is
  where
    by : (short : Bool) → not short ≡ false → short ≢ false
    by true e is = true≢false is
    by false e is = true≢false e

module _ (boots : Bool) (d : Device) (calls : Option ℕ) (b : Back) where
  pub boots_not : boots_so boots calls b.cut ≡ false → ComesBack boots d calls b false
  boots_not e fault keeps is =
      boot_must boots calls b.cut e fault (sym (ap (λ (z : Back). z.cut) (restart_shows boots (fails fault calls) (kept_flight keeps d.left d.flight) b is)))

  pub boots_back : (r : Bool) → boots_so boots calls b.cut ≡ true → Keeps d.left d.flight b.kept r → ComesBack boots d calls b r
  boots_back true e k =
      let f = boot_may boots calls b.cut e in
      record {
        fault = f.0;
        keeps = k.0;
        is = restart_is boots (fails f.0 calls) (kept_flight k.0 d.left d.flight) ∙ ap (λ (z : Back). still (back_act z)) (λ i. record { kept = k.1 i; cut = f.1 i });
      }
  boots_back false e k = λ fault keeps is.
      k keeps (sym (ap (λ (z : Back). z.kept) (restart_shows boots (fails fault calls) (kept_flight keeps d.left d.flight) b is)))

-- ---- what may be done

plain_one : (p q : Plain) → still (act_of p) ≡ still (act_of q) → p ≡ q
plain_one p q e = some_is p q (sym (plain_seen p) ∙ ap (λ (s : Step). plain_in s.act) e ∙ plain_seen q)

-- at a node that is up
up_is : (event : Event) (p : Plain) → goes_up event p ≡ true → up_step event ≡ still (act_of p)
up_is (Stopped calls) plain.Armed e = refl
up_is Crashed plain.Crashed e = refl
up_is (Restarted pick calls) plain.Rests e = refl
up_is _ _ e = absurd (true≢false (sym e))

up_goes : (event : Event) → (IsGiven event → ⊥) → (p : Plain) × (up_step event ≡ still (act_of p)) × (goes_up event p ≡ true)
up_goes (Given given) alone = absurd (alone tt)
up_goes (Stopped calls) alone = (plain.Armed, refl, refl)
up_goes Crashed alone = (plain.Crashed, refl, refl)
up_goes (Restarted pick calls) alone = (plain.Rests, refl, refl)

lost_is : (p : Plain) → is_lost p ≡ true → still act.Lost ≡ still (act_of p)
lost_is plain.Lost e = refl
lost_is _ e = absurd (true≢false (sym e))

back_is : (p : Plain) (b : Back) → back_in p ≡ Some b → p ≡ plain.Back b
back_is (plain.Back c) b e = ap plain.Back (some_is c b e)
back_is _ b e = none_some b e

module _ (boots : Bool) (d : Device) where
  own_up : (event : Event) (fault keeps : Bool) → d.down ≡ false → own_step boots fault keeps d event ≡ up_step event
  own_up event fault keeps e = ap (λ (b : Bool). if b then down_step boots fault keeps d event else up_step event) e

  own_down : (event : Event) (fault keeps : Bool) → d.down ≡ true → own_step boots fault keeps d event ≡ down_step boots fault keeps d event
  own_down event fault keeps e = ap (λ (b : Bool). if b then down_step boots fault keeps d event else up_step event) e

  lost_step : (event : Event) (fault keeps : Bool) → restart_in event ≡ None → down_step boots fault keeps d event ≡ still act.Lost
  lost_step (Restarted pick calls) fault keeps e = none_some calls (sym e)
  lost_step (Given given) fault keeps e = refl
  lost_step (Stopped calls) fault keeps e = refl
  lost_step Crashed fault keeps e = refl

  restart_step : (event : Event) (calls : Option ℕ) (fault keeps : Bool) → restart_in event ≡ Some calls
      → down_step boots fault keeps d event ≡ restarted boots (fails fault calls) (kept_flight keeps d.left d.flight)
  restart_step (Restarted pick other) calls fault keeps e = ap (λ (c : Option ℕ). restarted boots (fails fault c) (kept_flight keeps d.left d.flight)) (some_is other calls e)
  restart_step (Given given) calls fault keeps e = none_some calls e
  restart_step (Stopped other) calls fault keeps e = none_some calls e
  restart_step Crashed calls fault keeps e = none_some calls e

  module _ (event : Event) (p : Plain) where
    pub may_up : (r : Bool) → d.down ≡ false → IsPlain d event → goes_up event p ≡ r → May boots d event p r
    may_up true up alone e = record { fault = false; keeps = false; is = own_up event false false up ∙ up_is event p e }
    may_up false up alone e = λ fault keeps is.
        let q = up_goes event (alone up) in
        let same : p ≡ q.0 = plain_one p q.0 (sym is ∙ own_up event fault keeps up ∙ q.1) in
        true≢false (sym q.2 ∙ ap (goes_up event) (sym same) ∙ e)

    pub may_lose : (r : Bool) → d.down ≡ true → restart_in event ≡ None → is_lost p ≡ r → May boots d event p r
    may_lose true down none e = record { fault = false; keeps = false; is = own_down event false false down ∙ lost_step event false false none ∙ lost_is p e }
    may_lose false down none e = λ fault keeps is.
        let same : p ≡ plain.Lost = plain_one p plain.Lost (sym is ∙ own_down event fault keeps down ∙ lost_step event fault keeps none) in
        true≢false (sym (ap is_lost same) ∙ e)

    pub may_not_come : (calls : Option ℕ) → d.down ≡ true → restart_in event ≡ Some calls → back_in p ≡ None → May boots d event p false
    may_not_come calls down restart none fault keeps is =
        let kept = kept_flight keeps d.left d.flight in
        let b : Back = record { kept = kept; cut = boots && fails fault calls } in
        let same : p ≡ plain.Back b =
        plain_one p (plain.Back b) (sym is ∙ own_down event fault keeps down ∙ restart_step event calls fault keeps restart ∙ restart_is boots (fails fault calls) kept) in
        none_some b (sym none ∙ ap back_in same)

    pub may_come_back : (calls : Option ℕ) (b : Back) (r : Bool) → d.down ≡ true → restart_in event ≡ Some calls → back_in p ≡ Some b → ComesBack boots d calls b r → May boots d event p r
    may_come_back calls b true down restart back comes =
        record {
          fault = comes.fault;
          keeps = comes.keeps;
          is = own_down event comes.fault comes.keeps down ∙ restart_step event calls comes.fault comes.keeps restart ∙ comes.is
              ∙ ap (λ (q : Plain). still (act_of q)) (sym (back_is p b back));
        }
    may_come_back calls b false down restart back comes = λ fault keeps is.
        comes fault keeps (sym (restart_step event calls fault keeps restart) ∙ sym (own_down event fault keeps down) ∙ is ∙ ap (λ (q : Plain). still (act_of q)) (back_is p b back))

-- a node comes back only where it was down
up_not_back : (event : Event) (b : Back) → up_step event ≡ still (back_act b) → plain_in (up_step event).act ≡ Some (plain.Back b)
up_not_back event b e = ap (λ (s : Step). plain_in s.act) e ∙ plain_seen (plain.Back b)

up_never : (event : Event) (b : Back) → plain_in (up_step event).act ≡ Some (plain.Back b) → ⊥
up_never (Given given) b e = absurd cc
up_never (Stopped calls) b e = absurd cc
up_never Crashed b e = absurd cc
up_never (Restarted pick calls) b e = absurd cc

pub back_down : (boots : Bool) (d : Device) (event : Event) (b : Back) → IsOwn boots d event (still (back_act b)) → d.down ≡ true
back_down boots d event b own = by d.down refl
  where
    by : (down : Bool) → d.down ≡ down → d.down ≡ true
    by true e = e
    by false e = absurd (up_never event b (up_not_back event b (sym (own_up boots d event own.fault own.keeps e) ∙ own.is)))

-- ---- what an act shows of it

down_still : (boots fault keeps : Bool) (d : Device) (event : Event) → down_step boots fault keeps d event ≡ still (down_step boots fault keeps d event).act
down_still boots fault keeps d (Restarted pick calls) =
    let is = restart_is boots (fails fault calls) (kept_flight keeps d.left d.flight) in is ∙ ap (λ (s : Step). still s.act) (sym is)
down_still boots fault keeps d (Given given) = refl
down_still boots fault keeps d (Stopped calls) = refl
down_still boots fault keeps d Crashed = refl

up_still : (event : Event) → up_step event ≡ still (up_step event).act
up_still (Given given) = refl
up_still (Stopped calls) = refl
up_still Crashed = refl
up_still (Restarted pick calls) = refl

own_still : (boots fault keeps : Bool) (d : Device) (event : Event) → own_step boots fault keeps d event ≡ still (own_step boots fault keeps d event).act
own_still boots fault keeps d event = by d.down
  where
    by : (down : Bool) → (if down then down_step boots fault keeps d event else up_step event) ≡ still (if down then down_step boots fault keeps d event else up_step event).act
    by true = down_still boots fault keeps d event
    by false = up_still event

module _ (boots : Bool) (d : Device) (event : Event) (done : Act) where
  pub shows_this : (p : Plain) → plain_in done ≡ Some p → May boots d event p true → ShowsPlain boots d event done (Some p)
  shows_this p seen may = (is_plain done p seen, record { fault = may.fault; keeps = may.keeps; is = may.is ∙ ap still (is_plain done p seen) })

  pub shows_other : (p : Plain) → plain_in done ≡ Some p → May boots d event p false → ShowsPlain boots d event done None
  shows_other p seen may fault keeps is = may fault keeps (own_still boots fault keeps d event ∙ ap still (is ∙ sym (is_plain done p seen)))

  -- what a node does by itself is seen
  seen_always : IsPlain d event → (fault keeps : Bool) → (p : Plain) × (own_step boots fault keeps d event ≡ still (act_of p))
  seen_always alone fault keeps = by d.down refl
    where
      lost : d.down ≡ true → (r : Option (Option ℕ)) → restart_in event ≡ r → (p : Plain) × (own_step boots fault keeps d event ≡ still (act_of p))
      lost down None e = (plain.Lost, own_down boots d event fault keeps down ∙ lost_step boots d event fault keeps e)
      lost down (Some calls) e =
          let kept = kept_flight keeps d.left d.flight in (
            plain.Back (record { kept = kept; cut = boots && fails fault calls }),
            own_down boots d event fault keeps down ∙ restart_step boots d event calls fault keeps e ∙ restart_is boots (fails fault calls) kept,
          )

      by : (down : Bool) → d.down ≡ down → (p : Plain) × (own_step boots fault keeps d event ≡ still (act_of p))
      by false up = let q = up_goes event (alone up) in (q.0, own_up boots d event fault keeps up ∙ q.1)
      by true down = lost down (restart_in event) refl

  pub shows_nothing : IsPlain d event → plain_in done ≡ None → ShowsPlain boots d event done None
  shows_nothing alone unseen fault keeps is =
      let p = seen_always alone fault keeps in
      none_some p.0 (sym unseen ∙ ap plain_in (sym is) ∙ ap (λ (s : Step). plain_in s.act) p.1 ∙ plain_seen p.0)
