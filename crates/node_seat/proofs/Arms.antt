-- The answers of a turn, case by case.
use Rattle.std.proofs.Common.{◌≡◌, inl, inr, ◌+◌, ℕ, true, false, List, get_or, Option, Some, None, Result, Ok, Err, refl, ap, sym, subst, ◌∙◌, arith}
use Rattle.std.proofs.lemmas.Option.{same_Some}
use Rattle.seata_types.specs.declared.ids.Place.{Place}
use Rattle.frame_codec.specs.Packets.{Sent}
use Rattle.link_queue.specs.Links.{Taking}
use Rattle.node_steps.specs.Nodes.{NodeState}
use Rattle.history_text.specs.declared.entries.Cause.{Cause}
use Rattle.history_text.specs.History.{cause_of}
use Rattle.trace_rules.specs.Stops.{restart_of}
use Rattle.node_seat.specs.Ends.{HaveMissedBefore, TookAt}
use Rattle.node_seat.specs.Running.{CanGoOn}
use Rattle.node_seat.specs.Seating.{Seated}
use Rattle.node_seat.specs.Turns.{AnswersTurn, IsAble, IsHeard, IsTurned, MakesEntry, Restarts, Takes, at_turn}
use Rattle.node_seat.specs.declared.faults.RunFault.{RunFault}
use Rattle.node_seat.specs.declared.turned.Turned.{Turned}
use Rattle.node_seat.specs.declared.turned.Turned.TheVariants as turned
use Rattle.node_seat.proofs.AfterTurns.{asking, asked_goes, took_lines}
use Rattle.node_seat.proofs.Changed.{below_length, got}
use Rattle.node_seat.proofs.Going.{with_fault}

-- ---- ends that were asked

module _ {N : Type 0} (state : N → NodeState) (old : Seated N) (goes : CanGoOn (state old.node) old) where
  pub took_goes : (takers : List Taking) (k : ℕ) (packet : Sent) → TookAt old.takers takers k packet → CanGoOn (state old.node) (asking old takers (k + 1))
  took_goes takers k packet took =
      let below = below_length old.takers k took.end took.there in
      let size = took.each.count in
      asked_goes (state old.node) old takers (k + 1) goes (took_lines old.takers takers k packet took) (omega (arith, below, size))

-- the place from which an end took a packet
pub taken_from : (old takers : List Taking) (k : ℕ) (packet : Sent) → (took : TookAt old takers k packet) → (u : Taking) → u ≡ get_or takers k u → u.line.from ≡ took.end.line.from
taken_from old takers k packet took u is =
    let below = below_length old k took.end took.there in
    let size = took.each.count in
    let lines = took_lines old takers k packet took in
    let m = lines.each k u (got takers k u (omega (arith, below, size)) is) in
    ap (λ l. l.from) m.2 ∙ ap (λ (t : Taking). t.line.from) (same_Some m.0 took.end (sym m.1 ∙ took.there))

-- ---- one turn

module _ {N : Type 0} (state : N → NodeState) (old : Seated N) (able : IsAble state old) where
  module _ (up : (state old.node).down ≡ false) where
    -- a packet was taken
    pub taken : (new : Seated N) (takers : List Taking) (k : ℕ) (packet : Sent) → (took : TookAt old.takers takers k packet) → HaveMissedBefore old.next k old.takers takers → (from : Place) → from ≡ took.end.line.from
        → (result : Result Turned RunFault) → IsHeard state (asking old takers (k + 1)) new from packet result → IsTurned state old new result
    taken new takers k packet took before from from_is result heard = by result (subst (λ p. IsHeard state (asking old takers (k + 1)) new p packet result) from_is heard)
      where
        takes : (r : Result Turned RunFault) → IsHeard state (asking old takers (k + 1)) new took.end.line.from packet r → Takes state old new r
        takes r h = record { able = able; up = up; takers = takers; k = k; packet = packet; took = took; before = before; heard = h }

        by : (r : Result Turned RunFault) → IsHeard state (asking old takers (k + 1)) new took.end.line.from packet r → IsTurned state old new r
        by (Ok turned.Worn) h = inr (takes (Ok turned.Worn) h)
        by (Ok turned.Took) h = takes (Ok turned.Took) h
        by (Ok turned.Restarted) h = absurd h
        by (Ok turned.Idle) h = absurd h
        by (Err missed) h = inr (inl (takes (Err missed) h))

  pub restarts_by : (new : Seated N) → (state old.node).down ≡ true → (why : Cause) → why ≡ cause_of (restart_of old.plan.stops old.restarts) → (result : Result (Unit {0}) RunFault)
      → MakesEntry state (record (at_turn old (old.stamp + 1)) { restarts = old.restarts + 1 }) new why None result → Restarts state old new result
  restarts_by new down why is result made = record {
    able = able;
    down = down;
    made = subst (λ c. MakesEntry state (record (at_turn old (old.stamp + 1)) { restarts = old.restarts + 1 }) new c None result) is made;
  }

-- ---- faults

module _ {N : Type 0} (state : N → NodeState) (old : Seated N) (was : Option RunFault) where
  pub turn_same : (missed : RunFault) → was ≡ Some missed → AnswersTurn state was old old (Err missed)
  turn_same missed e = subst (λ f. AnswersTurn state f old old (Err missed)) (sym e) (refl, refl)

  pub turn_done : (new : Seated N) (done : Turned) → was ≡ None → IsTurned state old new (Ok done) → AnswersTurn state was old new (Ok done)
  turn_done new done e is = subst (λ f. AnswersTurn state f old new (Ok done)) (sym e) (new, is, refl)

  pub turn_missed : (made : Seated N) (missed : RunFault) → was ≡ None → IsTurned state old made (Err missed) → AnswersTurn state was old (with_fault made (Some missed)) (Err missed)
  turn_missed made missed e is = subst (λ f. AnswersTurn state f old (with_fault made (Some missed)) (Err missed)) (sym e) (made, is, refl)
