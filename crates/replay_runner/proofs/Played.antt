-- Steps of the schedule that are played.
use Rattle.std.proofs.Common.{◌≡◌, ◌+◌, ◌<◌, ◌≤◌, ℕ, suc, drop, false, List, [], ◌∷◌, ◌++◌, length, Option, Some, None, option_map, Result, Ok, Err, refl, ap, sym, subst, ◌∙◌, arith}
use Rattle.std.proofs.lemmas.Option.{same_Some}
use Rattle.disk_model.specs.Disk.{DiskState}
use Rattle.seata_types.specs.declared.acts.Act.TheVariants as act
use Rattle.seata_types.specs.declared.limits.TheConstants.{TICKS}
use Rattle.seata_types.specs.declared.ids.Place.{Place}
use Rattle.seata_types.specs.declared.ids.Place.TheVariants as place
use Rattle.seata_types.specs.declared.messages.Input.{Input}
use Rattle.seata_types.specs.declared.messages.Input.TheVariants as input
use Rattle.seata_types.specs.declared.messages.Outgoing.{Outgoing}
use Rattle.scenario_form.specs.declared.scenarios.Scenario.{Scenario}
use Rattle.history_rules.specs.Own.{Given, Stopped, Crashed, Restarted, still}
use Rattle.history_rules.specs.Nodes.{ComesTo, Role, role_at}
use Rattle.history_rules.specs.Nodes.{Coordinator as CoordinatorRole, Manager as ManagerRole, Resource as ResourceRole}
use Rattle.history_rules.specs.Histories.{Moment, Turn, Deliver, Stop, Crash, Restart, Local, Outside, ComesToNone, ReceivesLater, brings, sent_at, sent_from}
use Rattle.history_rules.specs.Histories.{Cause as Reason}
use Rattle.history_rules.specs.Schedules.{Item, TurnOf, DeliverOf, StopOf, CrashOf, RestartOf, LocalOf, OutsideOf, IsStep, delivery, local_place, named, singles, takes, ticks_of}
use Rattle.history_text.specs.declared.entries.Cause.{Cause}
use Rattle.history_text.specs.declared.entries.Cause.TheVariants as cause
use Rattle.history_text.specs.History.{cause_of, entry_of}
use Rattle.history_text.specs.Worlds.{items_of, resources_of, world_of}
use Rattle.node_seat.specs.Entering.{entry_at}
use Rattle.node_seat.specs.declared.faults.RunFault.{RunFault}
use Rattle.scenario_nodes.specs.Nodes.{Held}
use Rattle.replay_runner.specs.declared.messages.Delivery.{Delivery}
use Rattle.replay_runner.specs.declared.messages.Letter.{Letter}
use Rattle.replay_runner.specs.declared.nodes.Nodes.{Nodes}
use Rattle.replay_runner.specs.declared.runs.Run.{Run}
use Rattle.replay_runner.specs.Letters.{AreMessages, delivery_of, letter_at}
use Rattle.replay_runner.specs.Plays.{Brings, Grows, HasMade, IsAt, IsPassed, Made, Names, Plays, moment_made}
use Rattle.replay_runner.specs.Standing.{AreNodes}
use Rattle.replay_runner.specs.Steps.{left_of, next}
use Rattle.replay_runner.proofs.Ended.{rising}
use Rattle.replay_runner.proofs.Entered.{nodes_net}
use Rattle.replay_runner.proofs.Histories.{Found, letter_below, letters_at, same_place-refl}
use Rattle.replay_runner.proofs.Lists.{drop_first, drop_next}
use Rattle.replay_runner.proofs.Printed.{length-places}
use Rattle.replay_runner.proofs.Waiting.{kept_quiet}

module _ {D K : Type 0} (state : D → DiskState) (s : Scenario) (held : Held) where
  -- a moment more
  pub plays_more : (old new : Run D K) (ms : List Moment) (m : Moment) → Plays state s held old ms → Grows state s held old new ms m → AreMessages new.messages (m ∷ ms) → Plays state s held new (m ∷ ms)
  plays_more old new ms m t g messages = record {
    nodes = g.nodes;
    passed = g.passed;
    standing = g.standing ∙ ap (λ ps. ps ++ m.place ∷ []) t.standing;
    messages = messages;
    clocked = g.clocked;
    slow = let now = g.clocked in let slow = g.slow in omega (arith, now, slow);
    legal = (t.legal, g.stands);
    follows = (t.follows, g.is_step);
    fits = (t.fits, g.fits);
    named = t.named;
  }

  -- the same where it delivers no message
  pub plays_quietly : (old new : Run D K) (ms : List Moment) (m : Moment) → Plays state s held old ms → Grows state s held old new ms m → ((k : ℕ) → takes k m.cause ≡ false) → Plays state s held new (m ∷ ms)
  plays_quietly old new ms m t g quiet =
      plays_more old new ms m t g (kept_quiet (world_of s) held.past (items_of s) old.messages new.messages ms m t.legal t.follows t.messages g.sent g.waiting g.taken quiet)

-- what is left once the next step was made
pub left_next : (s : Scenario) (ms : List Moment) (m : Moment) (item : Item) (rest : List Item) → left_of s ms ≡ item ∷ rest → left_of s (m ∷ ms) ≡ rest
left_next s ms m item rest e = ap (λ n. drop n (singles (items_of s))) (let one : suc (length ms) ≡ length ms + 1 = omega arith in one) ∙ drop_next (singles (items_of s)) (length ms) item rest e

-- ---- entries of nodes

module _ {D K : Type 0} (state : D → DiskState) (old new : Run D K) where
  -- an entry that delivers no message was made
  pub made_quietly : (p : Place) (printed : Cause) (given : Option Input) (b : Brings state old p printed given) (r : Result (Unit {0}) RunFault) → ((k : ℕ) → takes k b.why ≡ false)
      → Made state old new p printed given b r → HasMade state old new b.here r
  made_quietly p printed given b (Ok done) quiet (step, g) = (
    moment_made state old p printed given b step ∷ b.here.ms,
    plays_quietly state b.here.s b.here.held old new b.here.ms (moment_made state old p printed given b step) b.here.plays g quiet,
    left_next b.here.s b.here.ms (moment_made state old p printed given b step) b.here.item b.here.rest b.here.is_next,
  )
  made_quietly p printed given b (Err missed) quiet e = e

abbrev named_for : Reason → Place → Place × Reason
named_for why p = (p, why)

-- each node can be given an input
pub comes_given : (role : Role) (given : Input) → ComesTo role (Given given)
comes_given (CoordinatorRole times past) given = tt
comes_given (ResourceRole setup past) given = tt
comes_given (ManagerRole settings) given = tt

module _ {D K : Type 0} (state : D → DiskState) (r : Run D K) (p : Place) where
  abbrev pub brings_turn : (n : Names state r (TurnOf p)) (role : Role) → role_at (world_of n.here.s) n.here.held.past p ≡ Some role → Brings state r p cause.Turn (Some input.Turn)
  brings_turn n role there = record {
    here = n.here;
    still = n.still;
    why = Turn;
    names = n.names;
    is_printed = refl;
    event = Given input.Turn;
    brought = refl;
    is_event = refl;
    later = tt;
    role = role;
    there = there;
    fits = comes_given role input.Turn;
  }

  abbrev pub brings_stop : (calls : ℕ) (n : Names state r (StopOf p calls)) (role : Role) → role_at (world_of n.here.s) n.here.held.past p ≡ Some role → ComesTo role (Stopped calls) → Brings state r p (cause.Stop calls) None
  brings_stop calls n role there fits = record {
    here = n.here;
    still = n.still;
    why = Stop calls;
    names = n.names;
    is_printed = refl;
    event = Stopped calls;
    brought = refl;
    is_event = refl;
    later = tt;
    role = role;
    there = there;
    fits = fits;
  }

  abbrev pub brings_crash : (n : Names state r (CrashOf p)) (role : Role) → role_at (world_of n.here.s) n.here.held.past p ≡ Some role → ComesTo role Crashed → Brings state r p cause.Crash None
  brings_crash n role there fits = record {
    here = n.here;
    still = n.still;
    why = Crash;
    names = n.names;
    is_printed = refl;
    event = Crashed;
    brought = refl;
    is_event = refl;
    later = tt;
    role = role;
    there = there;
    fits = fits;
  }

  abbrev pub brings_restart : (pick : ℕ) (calls : Option ℕ) (n : Names state r (RestartOf p pick calls)) (role : Role) → role_at (world_of n.here.s) n.here.held.past p ≡ Some role → ComesTo role (Restarted pick calls)
      → Brings state r p (cause.Restart pick calls) None
  brings_restart pick calls n role there fits = record {
    here = n.here;
    still = n.still;
    why = Restart pick calls;
    names = n.names;
    is_printed = refl;
    event = Restarted pick calls;
    brought = refl;
    is_event = refl;
    later = tt;
    role = role;
    there = there;
    fits = fits;
  }

  abbrev pub brings_local : (number : ℕ) (n : Names state r (LocalOf number)) (role : Role) → role_at (world_of n.here.s) n.here.held.past p ≡ Some role → local_place (resources_of n.here.s) number ≡ p
      → Brings state r p (cause.Local number) (Some (input.Local number))
  brings_local number n role there stands = record {
    here = n.here;
    still = n.still;
    why = Local number;
    names = n.names ∙ ap (named_for (Local number)) stands;
    is_printed = refl;
    event = Given (input.Local number);
    brought = refl;
    is_event = refl;
    later = tt;
    role = role;
    there = there;
    fits = comes_given role (input.Local number);
  }

  abbrev pub brings_outside : (number : ℕ) (n : Names state r (OutsideOf number)) (role : Role) → role_at (world_of n.here.s) n.here.held.past p ≡ Some role → local_place (resources_of n.here.s) number ≡ p
      → Brings state r p (cause.Outside number) (Some (input.Outside number))
  brings_outside number n role there stands = record {
    here = n.here;
    still = n.still;
    why = Outside number;
    names = n.names ∙ ap (named_for (Outside number)) stands;
    is_printed = refl;
    event = Given (input.Outside number);
    brought = refl;
    is_event = refl;
    later = tt;
    role = role;
    there = there;
    fits = comes_given role (input.Outside number);
  }

-- ---- deliveries

-- what is delivered was kept
pub delivered_from : (o : Option Letter) (d : Delivery) → option_map delivery_of o ≡ Some d → (l : Letter) × (o ≡ Some l) × (delivery_of l ≡ d)
delivered_from None d e = absurd (let no : None ≡ Some d = e in cc)
delivered_from (Some l) d e = (l, refl, same_Some (delivery_of l) d e)

none_kept : (o : Option Letter) → option_map delivery_of o ≡ None → o ≡ None
none_kept None e = refl
none_kept (Some l) e = absurd (let no : Some (delivery_of l) ≡ None = e in cc)

-- what a delivery says that was sent
abbrev sent_to : Delivery → Option (Place × Outgoing)
sent_to d = Some (d.from, record { to = d.to; message = d.message })

module _ {D K : Type 0} (state : D → DiskState) (r : Run D K) (stamp : ℕ) (n : Names state r (DeliverOf stamp)) where
  abbrev ms : List Moment
  ms = n.here.ms

  found : (o : Option Letter) → letter_at stamp r.messages.letters.items ≡ o → Found stamp ms o
  found o e = subst (Found stamp ms) (ap (letter_at stamp) (sym n.here.plays.messages.sent) ∙ e) (letters_at (world_of n.here.s) n.here.held.past (items_of n.here.s) ms n.here.plays.follows stamp)

  -- the message was sent, and between nodes
  pub sent_here : (d : Delivery) → (l : Letter) × (letter_at stamp r.messages.letters.items ≡ Some l) × (delivery_of l ≡ d) → sent_at stamp ms ≡ sent_to d
  sent_here d (l, kept, same) = (found (Some l) kept).0 ∙ ap sent_to same

  sent_there : (d : Delivery) → (l : Letter) × (letter_at stamp r.messages.letters.items ≡ Some l) × (delivery_of l ≡ d) → sent_from stamp d.from ms ≡ sent_to d
  sent_there d (l, kept, same) = subst (λ (x : Delivery). sent_from stamp x.from ms ≡ sent_to x) same (found (Some l) kept).1

  pub sent_below : (d : Delivery) → (l : Letter) × (letter_at stamp r.messages.letters.items ≡ Some l) × (delivery_of l ≡ d) → stamp < length ms + 1
  sent_below d (l, kept, same) = letter_below (world_of n.here.s) n.here.held.past (items_of n.here.s) ms stamp l (ap (letter_at stamp) (sym n.here.plays.messages.sent) ∙ kept)

  pub brought_there : (d : Delivery) → (l : Letter) × (letter_at stamp r.messages.letters.items ≡ Some l) × (delivery_of l ≡ d) → Some (Given (input.Message d.from d.message)) ≡ brings ms d.to (Deliver stamp d.from)
  brought_there d kept = rw (sent_there d kept, same_place-refl d.to) refl

  abbrev pub brings_delivery : (d : Delivery) → option_map delivery_of (letter_at stamp r.messages.letters.items) ≡ Some d → (role : Role) → role_at (world_of n.here.s) n.here.held.past d.to ≡ Some role
      → Brings state r d.to (cause.Deliver stamp d.from) (Some (input.Message d.from d.message))
  brings_delivery d e role there =
      let kept = delivered_from (letter_at stamp r.messages.letters.items) d e in
      record {
        here = n.here;
        still = n.still;
        why = Deliver stamp d.from;
        names = n.names ∙ ap (delivery stamp) (sent_here d kept);
        is_printed = refl;
        event = Given (input.Message d.from d.message);
        brought = brought_there d kept;
        is_event = refl;
        later = sent_below d kept;
        role = role;
        there = there;
        fits = comes_given role (input.Message d.from d.message);
      }

  -- no entry sent it
  pub none_sent : option_map delivery_of (letter_at stamp r.messages.letters.items) ≡ None → sent_at stamp ms ≡ None
  none_sent e = found None (none_kept (letter_at stamp r.messages.letters.items) e)

-- ---- entries of the network

module _ {D K : Type 0} (state : D → DiskState) (old mid new : Run D K) (here : IsAt state old) (why : Reason) where
  -- the network did nothing, once so many ticks passed
  pub net_plays : named (world_of here.s) here.ms here.item ≡ (place.Net, why) → IsPassed mid new (cause_of why) → mid.network ≡ old.network → mid.places ≡ old.places → mid.messages ≡ old.messages
      → new.nodes ≡ old.nodes → new.messages.waiting ≡ old.messages.waiting → new.clock ≡ mid.clock
      → mid.clock ≡ old.clock + ticks_of here.item → ticks_of here.item ≤ TICKS
      → ReceivesLater why (length here.ms + 1) → None ≡ brings here.ms place.Net why → ComesToNone here.ms place.Net why → ((k : ℕ) → takes k why ≡ false)
      → HasMade state old new here (Ok tt)
  net_plays names p same_network same_places same_messages same_nodes waiting clock_same time short later brought comes quiet =
      (m ∷ here.ms, plays_quietly state here.s here.held old new here.ms m here.plays grows quiet, left_next here.s here.ms m here.item here.rest here.is_next)
    where
      m : Moment
      m = next here.ms place.Net mid.clock why None (still act.Nothing)

      size : length mid.places.items ≡ length here.ms
      size = ap (λ v. length v.items) same_places ∙ ap length here.plays.standing ∙ length-places here.ms

      grows : Grows state here.s here.held old new here.ms m
      grows = record {
        nodes = subst (λ (n : Nodes D K). AreNodes state here.s here.held n (m ∷ here.ms)) (sym same_nodes) (nodes_net state here.s here.held old.nodes here.ms m refl here.plays.nodes);
        passed = p.passed ∙ ap (λ n. mid.network.items ++ entry_at (n + 1) place.Net mid.clock (cause_of why) (still act.Nothing) ∷ []) size
            ∙ ap (λ v. v.items ++ entry_of m ∷ []) same_network ∙ ap (λ t. t ++ entry_of m ∷ []) here.plays.passed;
        standing = p.standing ∙ ap (λ v. v.items ++ place.Net ∷ []) same_places;
        sent = p.sent ∙ ap (λ v. v.letters.items ++ None ∷ []) same_messages;
        taken = p.taken ∙ ap (λ v. v.taken.items ++ false ∷ []) same_messages;
        waiting = waiting;
        clocked = clock_same;
        slow = let slow = here.plays.slow in omega (arith, slow, time, short);
        stands = rising state here.s here.held old here.ms here.plays place.Net mid.clock why None (still act.Nothing) (omega (arith, time)) later brought (comes, refl);
        is_step = subst (IsStep (world_of here.s) here.held.past here.ms m) (sym (drop_first (singles (items_of here.s)) (length here.ms) here.item here.rest here.is_next))
            (refl, (let now_is = here.plays.clocked in omega (arith, now_is, time)), sym names);
        fits = tt;
      }
