-- What an entry adds to a history, and how the replay ends where one isn't made.
use Rattle.std.proofs.Common.{inl, inr, ◌≡◌, ◌⊎◌, ◌+◌, ◌≤◌, ℕ, List, ◌∷◌, length, slice_get, Option, Some, Err, refl, ap, sym, subst, ◌∙◌, arith}
use Rattle.disk_model.specs.Disk.{DiskState}
use Rattle.journal_checkpoint.specs.Images.{Pair}
use Rattle.seata_types.specs.declared.ids.Place.{Place}
use Rattle.seata_types.specs.declared.ids.Place.TheVariants as place
use Rattle.seata_types.specs.declared.messages.Input.{Input}
use Rattle.seata_types.specs.declared.messages.Step.{Step}
use Rattle.scenario_form.specs.declared.scenarios.Scenario.{Scenario}
use Rattle.history_rules.specs.Own.{Event}
use Rattle.history_rules.specs.Nodes.{Happens, Role, role_at}
use Rattle.history_rules.specs.Histories.{Moment, HappensAt, IsDone, ReceivesLater, Stands, brings, own}
use Rattle.history_rules.specs.Histories.{Cause as Reason}
use Rattle.history_rules.specs.Schedules.{IsStep, singles}
use Rattle.node_steps.specs.Ends.{EntryFits, MomentFits}
use Rattle.node_steps.specs.Nodes.{own_entry}
use Rattle.history_text.specs.declared.entries.Cause.{Cause}
use Rattle.history_text.specs.Worlds.{items_of, world_of}
use Rattle.node_seat.specs.Faults.{Blames}
use Rattle.node_seat.specs.declared.faults.RunFault.{RunFault}
use Rattle.node_seat.specs.declared.faults.RunFault.TheVariants as fault
use Rattle.scenario_nodes.specs.Nodes.{Held}
use Rattle.replay_runner.specs.declared.runs.Run.{Run}
use Rattle.replay_runner.specs.Ends.{IsCause, StopsAt}
use Rattle.replay_runner.specs.Entering.{Comes, Entered, Unmade}
use Rattle.replay_runner.specs.Plays.{Brings, Ends, Plays, moment_made}
use Rattle.replay_runner.specs.Standing.{AllStand, disks_at}
use Rattle.replay_runner.specs.Steps.{IsNextEvent, next}
use Rattle.replay_runner.proofs.Histories.{last_now-le, rises_after}
use Rattle.replay_runner.proofs.Lists.{drop_first}
use Rattle.replay_runner.proofs.Printed.{length-places}

-- ---- one moment more

module _ {D K : Type 0} (state : D → DiskState) (s : Scenario) (held : Held) (r : Run D K) (ms : List Moment) (t : Plays state s held r ms) where
  pub rising : (p : Place) (now : ℕ) (why : Reason) (event : Option Event) (step : Step) → r.clock ≤ now
      → ReceivesLater why (length ms + 1) → event ≡ brings ms p why → IsDone (world_of s) held.past ms (next ms p now why event step) event
      → Stands (world_of s) held.past ms (next ms p now why event step)
  rising p now why event step later above brought done = record {
    rises = rises_after (world_of s) held.past (items_of s) ms (next ms p now why event step) t.follows refl;
    receives_later = above;
    clock_rises = λ at. let le = last_now-le (world_of s) held.past (items_of s) place.Tc ms t.follows in let now_is = t.clocked in omega (arith, le, now_is, later);
    brought = brought;
    done = done;
  }

-- what stands at a place has a place for its record
fits_at : (s : Scenario) (held : Held) (ms : List Moment) (role : Role) (p : Place) (now : ℕ) (why : Reason) (event : Event) (step : Step) → role_at (world_of s) held.past p ≡ Some role
    → EntryFits role (held.starts p) s.disk (own p ms) (own_entry event now step)
    → MomentFits (role_at (world_of s) held.past p) (Some event) (held.starts p) s.disk (own p ms) (next ms p now why (Some event) step)
fits_at s held ms role p now why event step there fits = subst (λ (o : Option Role). MomentFits o (Some event) (held.starts p) s.disk (own p ms) (next ms p now why (Some event) step)) (sym there) fits

-- a cause that stops the replay
cause_is : (s : Scenario) (held : Held) (ms : List Moment) (disks : Place → Pair) (missed : RunFault) → StopsAt s held ms disks missed → IsCause s held ms disks missed
cause_is s held ms disks fault.NoMemory stops = tt
cause_is s held ms disks (fault.Store q) stops = stops
cause_is s held ms disks (fault.Full q full) stops = stops
cause_is s held ms disks (fault.Damaged q second offset) stops = stops
cause_is s held ms disks fault.Other stops = stops

-- want of memory is free
pub memory_ends : (s : Scenario) (held : Held) (ms : List Moment) (disks : Place → Pair) (missed : RunFault) → missed ≡ fault.NoMemory → IsCause s held ms disks missed
memory_ends s held ms disks missed is = subst (IsCause s held ms disks) (sym is) tt

module _ {D K : Type 0} (state : D → DiskState) (r : Run D K) (p : Place) (printed : Cause) (given : Option Input) (b : Brings state r p printed given) where
  abbrev history : List Moment
  history = b.here.ms

  is_item : slice_get (singles (items_of b.here.s)) (length history) ≡ Some b.here.item
  is_item = drop_first (singles (items_of b.here.s)) (length history) b.here.item b.here.rest b.here.is_next

  pub stands_next : (step : Step) → Happens b.role (own p history) r.clock b.event step → Stands (world_of b.here.s) b.here.held.past history (moment_made state r p printed given b step)
  stands_next step happens =
      rising state b.here.s b.here.held r history b.here.plays p r.clock b.why (Some b.event) step (omega arith) b.later b.brought
      (subst (λ o. HappensAt o (own p history) r.clock b.event step) (sym b.there) happens)

  pub is_step_next : (step : Step) → IsStep (world_of b.here.s) b.here.held.past history (moment_made state r p printed given b step) (slice_get (singles (items_of b.here.s)) (length history))
  is_step_next step =
      subst (IsStep (world_of b.here.s) b.here.held.past history (moment_made state r p printed given b step)) (sym is_item)
      (refl, (let now_is = b.here.plays.clocked in let still = b.still in omega (arith, now_is, still)), sym b.names)

  -- its record had a place
  pub fits_next : (step : Step) → EntryFits b.role (b.here.held.starts p) b.here.s.disk (own p history) (own_entry b.event r.clock step)
      → MomentFits (role_at (world_of b.here.s) b.here.held.past p) (Some b.event) (b.here.held.starts p) b.here.s.disk (own p history) (moment_made state r p printed given b step)
  fits_next step fits = fits_at b.here.s b.here.held history b.role p r.clock b.why b.event step b.there fits

  next_event : IsNextEvent b.here.s b.here.held.past history p r.clock b.event
  next_event = record {
    item = b.here.item;
    is_next = is_item;
    why = b.why;
    names = sym b.names;
    brought = b.brought;
    moment = let now_is = b.here.plays.clocked in let still = b.still in omega (arith, now_is, still);
  }

  -- the same among the nodes
  abbrev pub among_nodes : (stamp : ℕ) → stamp ≡ length r.places.items + 1 → Comes state r.nodes stamp p printed given
  among_nodes stamp is = record {
    s = b.here.s;
    held = b.here.held;
    ms = history;
    nodes = b.here.plays.nodes;
    stamped = let size = ap length b.here.plays.standing ∙ length-places history in omega (arith, size, is);
    role = b.role;
    there = b.there;
    why = b.why;
    is_printed = b.is_printed;
    event = b.event;
    is_event = b.is_event;
    fits = b.fits;
  }

  -- no entry was made
  ends_here : (new : Run D K) (missed : RunFault) → Unmade state b.here.s b.here.held new.nodes history p b.role r.clock b.event missed → Ends state b.here.s b.here.held new missed
  ends_here new missed u = record { history = history; legal = b.here.plays.legal; follows = b.here.plays.follows; fits = b.here.plays.fits; stands = u.stands; cause = by u.cause }
    where
      by : (missed ≡ fault.NoMemory) ⊎ Blames p b.role (b.here.held.starts p) b.here.s.disk (own p history) r.clock b.event (disks_at state new.nodes p) missed → IsCause b.here.s b.here.held history (disks_at state new.nodes) missed
      by (inl is) = memory_ends b.here.s b.here.held history (disks_at state new.nodes) missed is
      by (inr blames) = cause_is b.here.s b.here.held history (disks_at state new.nodes) missed (record {
        at = p;
        role = b.role;
        there = b.there;
        now = r.clock;
        event = b.event;
        is_next = next_event;
        blames = blames;
      })

  -- one was made, and memory was refused
  pub ends_later : (new : Run D K) (missed : RunFault) (step : Step) → Happens b.role (own p history) r.clock b.event step → EntryFits b.role (b.here.held.starts p) b.here.s.disk (own p history) (own_entry b.event r.clock step)
      → AllStand state b.here.s b.here.held new.nodes (moment_made state r p printed given b step ∷ history)
      → missed ≡ fault.NoMemory → Ends state b.here.s b.here.held new missed
  ends_later new missed step happens fits stands is = record {
    history = moment_made state r p printed given b step ∷ history;
    legal = (b.here.plays.legal, stands_next step happens);
    follows = (b.here.plays.follows, is_step_next step);
    fits = (b.here.plays.fits, fits_next step fits);
    stands = stands;
    cause = memory_ends b.here.s b.here.held (moment_made state r p printed given b step ∷ history) (disks_at state new.nodes) missed is;
  }

  -- either
  pub ends_unentered : (new : Run D K) (missed : RunFault) (stamp : ℕ) (is : stamp ≡ length r.places.items + 1) → Entered state r.nodes new.nodes stamp r.clock p printed given (among_nodes stamp is) (Err missed)
      → Ends state b.here.s b.here.held new missed
  ends_unentered new missed stamp is (inl u) = ends_here new missed u
  ends_unentered new missed stamp is (inr u) = ends_later new missed u.step u.happens u.fits u.stands u.memory
