-- A replay goes on after an entry, whatever its disks tell.
use Rattle.std.proofs.Common.{◌≡◌, ◌+◌, ◌≤◌, ℕ, false, List, [], ◌∷◌, ◌++◌, length, Option, None, OnOk, Result, Ok, Err, refl, ap, sym, subst, ◌∙◌, arith, length-append}
use Rattle.seata_types.specs.declared.ids.Place.{Place}
use Rattle.seata_types.specs.declared.ids.Place.TheVariants as place
use Rattle.seata_types.specs.declared.limits.TheConstants.{LATEST_START, STEPS, TICKS}
use Rattle.history_text.specs.declared.entries.Cause.{Cause}
use Rattle.node_seat.specs.declared.faults.RunFault.{RunFault}
use Rattle.replay_runner.specs.declared.messages.Letter.{Letter}
use Rattle.replay_runner.specs.declared.messages.Messages.{Messages}
use Rattle.replay_runner.specs.declared.nodes.Nodes.{Nodes}
use Rattle.replay_runner.specs.declared.runs.Run.{Run}
use Rattle.replay_runner.specs.Going.{CanEnter, CanGo, CanMake, Goes, NodesGo, Went}
use Rattle.replay_runner.specs.Letters.{AreMessages}
use Rattle.replay_runner.specs.Plays.{IsPassed}
use Rattle.seata_types.specs.declared.messages.Input.{Input}
use Rattle.replay_runner.proofs.Chosen.{moved}
use Rattle.replay_runner.proofs.NodesGoing.{nodes_later}
use Rattle.replay_runner.proofs.Stepping.{IsKept}

one_longer : {A : Type 0} (xs : List A) (x : A) → length (xs ++ x ∷ []) ≡ length xs + 1
one_longer xs x = let size = length-append xs (x ∷ []) in omega (arith, size)

-- the nodes are the same, at the same moment
same_nodes_go : {D K : Type 0} (managers resources stamp now now' : ℕ) (old new : Nodes D K) → NodesGo managers resources stamp now old → new ≡ old → now' ≡ now → NodesGo managers resources stamp now' new
same_nodes_go {D} {K} managers resources stamp now now' old new g same time =
    subst (λ (n : Nodes D K). NodesGo managers resources stamp now' n) (sym same) (subst (λ t. NodesGo managers resources stamp t old) (sym time) g)

-- ---- one entry

module _ {D K : Type 0} (managers resources entries : ℕ) (old mid new : Run D K) (g : Goes managers resources entries old) where
  -- an entry of a node was made and kept
  pub went_kept : NodesGo managers resources (entries + 1 + 1) old.clock mid.nodes → (p : Place) (letter : Option Letter) → mid.places ≡ old.places → mid.messages ≡ old.messages → mid.clock ≡ old.clock
      → IsKept mid new p letter → Goes managers resources (entries + 1) new
  went_kept nodes p letter places messages clock k = record {
    nodes = same_nodes_go managers resources (entries + 1 + 1) old.clock new.clock mid.nodes new.nodes nodes k.nodes (k.clock ∙ clock);
    places = ap length k.standing ∙ one_longer mid.places.items p ∙ ap (λ v. length v.items + 1) places ∙ ap (λ n. n + 1) g.places;
    letters = ap length k.sent ∙ one_longer mid.messages.letters.items letter ∙ ap (λ v. length v.letters.items + 1) messages ∙ ap (λ n. n + 1) g.letters;
    marks = ap length k.taken ∙ one_longer mid.messages.taken.items false ∙ ap (λ v. length v.taken.items + 1) messages ∙ ap (λ n. n + 1) g.marks;
    within = let within = g.within in let is = k.waiting ∙ ap (λ v. v.waiting) messages in omega (arith, within, is);
    slow = let slow = g.slow in let is = k.clock ∙ clock in omega (arith, slow, is);
  }

  -- an entry of the network was added, once so many ticks passed
  pub went_passed : (why : Cause) (ticks : ℕ) → ticks ≤ TICKS → mid.places ≡ old.places → mid.messages ≡ old.messages → mid.clock ≡ old.clock + ticks → IsPassed mid new why
      → new.nodes ≡ old.nodes → new.messages.waiting ≡ old.messages.waiting → new.clock ≡ mid.clock → Goes managers resources (entries + 1) new
  went_passed why ticks few places messages clock k nodes waiting same = record {
    nodes = subst (λ (n : Nodes D K). NodesGo managers resources (entries + 1 + 1) new.clock n) (sym nodes)
        (nodes_later (entries + 1) old.clock (entries + 1 + 1) new.clock (omega arith) (omega (arith, same, clock)) managers resources old.nodes g.nodes);
    places = ap length k.standing ∙ one_longer mid.places.items place.Net ∙ ap (λ v. length v.items + 1) places ∙ ap (λ n. n + 1) g.places;
    letters = ap length k.sent ∙ one_longer mid.messages.letters.items None ∙ ap (λ v. length v.letters.items + 1) messages ∙ ap (λ n. n + 1) g.letters;
    marks = ap length k.taken ∙ one_longer mid.messages.taken.items false ∙ ap (λ v. length v.taken.items + 1) messages ∙ ap (λ n. n + 1) g.marks;
    within = let within = g.within in omega (arith, within, waiting);
    slow = let slow = g.slow in omega (arith, slow, same, clock, few);
  }

-- the same of ticks that passed, unless memory was refused
pub went_waiting : {D K : Type 0} (managers resources entries : ℕ) (old mid new : Run D K) → Goes managers resources entries old → (why : Cause) (ticks : ℕ) → ticks ≤ TICKS → (r : Result (Unit {0}) RunFault)
    → OnOk r (IsPassed mid new why) → mid.places ≡ old.places → mid.messages ≡ old.messages → mid.clock ≡ old.clock + ticks
    → new.nodes ≡ old.nodes → new.messages.waiting ≡ old.messages.waiting → new.clock ≡ mid.clock → OnOk r (Goes managers resources (entries + 1) new)
went_waiting managers resources entries old mid new g why ticks few (Ok u) passed places messages clock nodes waiting same =
    went_passed managers resources entries old mid new g why ticks few places messages clock passed nodes waiting same
went_waiting managers resources entries old mid new g why ticks few (Err missed) passed places messages clock nodes waiting same = tt

-- and of a message that no entry sent
pub went_missing : {D K : Type 0} (managers resources entries : ℕ) (old new : Run D K) → Goes managers resources entries old → (why : Cause) (r : Result (Unit {0}) RunFault) → OnOk r (IsPassed old new why)
    → new.nodes ≡ old.nodes → new.messages.waiting ≡ old.messages.waiting → new.clock ≡ old.clock → OnOk r (Goes managers resources (entries + 1) new)
went_missing managers resources entries old new g why r passed nodes waiting same =
    went_waiting managers resources entries old old new g why 0 (omega arith) r passed refl refl (omega arith) nodes waiting same

module _ {D K : Type 0} (managers resources entries : ℕ) (old new : Run D K) (g : Goes managers resources entries old) where
  -- what is known of the messages changed
  pub goes_messages : new.nodes ≡ old.nodes → new.places ≡ old.places → new.clock ≡ old.clock → length new.messages.letters.items ≡ length old.messages.letters.items
      → length new.messages.taken.items ≡ length old.messages.taken.items → new.messages.waiting ≤ entries → Goes managers resources entries new
  goes_messages nodes places clock letters marks within = record {
    nodes = same_nodes_go managers resources (entries + 1) old.clock new.clock old.nodes new.nodes g.nodes nodes clock;
    places = ap (λ v. length v.items) places ∙ g.places;
    letters = letters ∙ g.letters;
    marks = marks ∙ g.marks;
    within = within;
    slow = let slow = g.slow in omega (arith, slow, clock);
  }

-- ---- more entries

-- so many more can be made
pub can_go : {D K : Type 0} (managers resources entries steps : ℕ) (r : Run D K) → Goes managers resources entries r → entries + steps ≤ STEPS → CanGo r steps
can_go managers resources entries steps r g room = record {
  goes = subst (λ n. Goes n (length r.nodes.resources.items) (length r.places.items) r) (sym g.nodes.manager_count)
      (subst (λ n. Goes managers n (length r.places.items) r) (sym g.nodes.resource_count) (subst (λ n. Goes managers resources n r) (sym g.places) g));
  room = let places = g.places in omega (arith, places, room);
}

-- and were
pub went_on : {D K : Type 0} (managers resources entries steps : ℕ) (r new : Run D K) → Goes managers resources entries r → Went r new steps → Goes managers resources (entries + steps) new
went_on managers resources entries steps r new g went =
    subst (λ n. Goes n resources (entries + steps) new) g.nodes.manager_count
    (subst (λ n. Goes (length r.nodes.managers.items) n (entries + steps) new) g.nodes.resource_count
    (subst (λ n. Goes (length r.nodes.managers.items) (length r.nodes.resources.items) (n + steps) new) g.places went))

-- none were made yet; and one more was
pub goes_none : {D K : Type 0} (managers resources entries : ℕ) (r : Run D K) → Goes managers resources entries r → Goes managers resources (entries + 0) r
goes_none managers resources entries r g = subst (λ n. Goes managers resources n r) (let same : entries ≡ entries + 0 = omega arith in same) g

pub one_more : {D K : Type 0} (managers resources entries counter : ℕ) (r new : Run D K) → Goes managers resources (entries + counter) r → Went r new 1 → Goes managers resources (entries + (counter + 1)) new
one_more managers resources entries counter r new g went =
    subst (λ n. Goes managers resources n new) (let same : entries + counter + 1 ≡ entries + (counter + 1) = omega arith in same) (went_on managers resources (entries + counter) 1 r new g went)

-- before the first
pub goes_nothing : {D K : Type 0} (managers resources now : ℕ) (r : Run D K) → NodesGo managers resources 1 now r.nodes → r.places.items ≡ [] → AreMessages r.messages [] → r.clock ≡ now → now ≤ LATEST_START → Goes managers resources 0 r
goes_nothing managers resources now r nodes places messages time early = record {
  nodes = subst (λ t. NodesGo managers resources (0 + 1) t r.nodes) (sym time) (subst (λ n. NodesGo managers resources n now r.nodes) (let one : 1 ≡ 0 + 1 = omega arith in one) nodes);
  places = ap length places;
  letters = ap length messages.sent;
  marks = messages.count;
  within = messages.within;
  slow = omega (arith, time, early);
}

-- ---- what an entry asks

-- the next entry can be made among the nodes
pub enters_nodes : {D K : Type 0} (r : Run D K) (p : Place) (why : Cause) (given : Option Input) (stamp : ℕ) → stamp ≡ length r.places.items + 1 → CanMake r p why given → CanEnter r.nodes stamp r.clock p why given
enters_nodes r p why given stamp is c =
    subst (λ n. CanEnter r.nodes n r.clock p why given) (sym is)
    (record {
      goes = c.can.goes.nodes;
      counted = omega arith;
      short = let room = c.can.room in omega (arith, room);
      slow = let slow = c.can.goes.slow in let room = c.can.room in omega (arith, slow, room);
      there = c.there;
      comes = c.comes;
      takes = c.takes;
    })

-- what the look for a message that waits asks, and what it leaves
module _ {D K : Type 0} (r : Run D K) (can : CanGo r 1) where
  pub marked_each : length r.messages.taken.items ≡ length r.messages.letters.items
  marked_each = can.goes.marks ∙ sym can.goes.letters

  pub within_letters : r.messages.waiting ≤ length r.messages.letters.items
  within_letters = let within = can.goes.within in let letters = can.goes.letters in omega (arith, within, letters)

  pub few_letters : length r.messages.letters.items ≤ STEPS
  few_letters = let room = can.room in let letters = can.goes.letters in omega (arith, room, letters)

  pub looked_goes : (kept : Messages) → kept.letters ≡ r.messages.letters → kept.taken ≡ r.messages.taken → kept.waiting ≤ length r.messages.letters.items → CanGo (moved r kept) 1
  looked_goes kept sent taken within = record {
    goes = goes_messages (length r.nodes.managers.items) (length r.nodes.resources.items) (length r.places.items) r (moved r kept) can.goes refl refl refl (ap (λ v. length v.items) sent) (ap (λ v. length v.items) taken)
        (let letters = can.goes.letters in omega (arith, within, letters));
    room = can.room;
  }
