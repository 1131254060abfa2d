-- What a turn keeps.
use Rattle.std.proofs.Common.{◌≡◌, ◌≢◌, ◌⊎◌, inl, inr, ◌+◌, ◌<◌, ◌≤◌, ◌==◌, ℕ, Bool, true, false, if◌then◌else◌, List, [], ◌∷◌, ◌++◌, length, slice_get, option_map, Option, Some, None, IfSome, Result, Ok, Err, refl, ap, sym, subst, ◌∙◌, arith, append-nil}
use Rattle.std.proofs.lemmas.Bool.Decides.{nat_tests}
use Rattle.std.proofs.lemmas.Option.{same_Some}
use Rattle.seata_types.specs.declared.ids.Place.{Place}
use Rattle.seata_types.specs.declared.messages.Input.{Input}
use Rattle.seata_types.specs.declared.messages.Input.TheVariants as input
use Rattle.frame_codec.specs.Limits.{IsFramable}
use Rattle.frame_codec.specs.Packets.{Sent}
use Rattle.history_rules.specs.Own.{Event, Given, Restarted}
use Rattle.history_rules.specs.CoordinatorMemory.{start}
use Rattle.history_rules.specs.Devices.{is_down}
use Rattle.history_rules.specs.Nodes.{Role, World, Past, role_at}
use Rattle.history_rules.specs.Histories.{Moment, Turn, Deliver, own, same_place}
use Rattle.history_rules.specs.Histories.{Cause as Reason}
use Rattle.link_queue.specs.Links.{Sending, Taking}
use Rattle.trace_rules.specs.Links.{Went, heard_from, received, sent_to}
use Rattle.trace_rules.specs.Stops.{HasBegun, IsByStops, calls_of, is_restart, is_stop, pick_of, restart_of, restarts, turns}
use Rattle.trace_rules.proofs.LinkOrder.{went-within}
use Rattle.trace_rules.proofs.Order.{same_place-false, same_place-refl}
use Rattle.node_steps.specs.Nodes.{IsLawful, NodeState, place_of}
use Rattle.history_text.specs.declared.entries.Cause.{Cause}
use Rattle.history_text.specs.declared.entries.Cause.TheVariants as cause
use Rattle.history_text.specs.History.{cause_of}
use Rattle.node_seat.specs.Ends.{ComeApart, EachBecomes, NoneFrom, NoneTook, TookAt, TookIf}
use Rattle.node_seat.specs.Entering.{event_by}
use Rattle.node_seat.specs.Keeping.{Keeps}
use Rattle.node_seat.specs.Naming.{Run}
use Rattle.node_seat.specs.Running.{CanGoOn, Came, HasCounted, may_hear, HeardAll, IsCauseOf, IsRunning, IsSeat, KeepsRun, KeepsSome, LAST, MayLose, PushedAll, TookLast}
use Rattle.node_seat.specs.Seating.{Seated}
use Rattle.node_seat.specs.Turns.{AnswersTurn, CanMake, Delivers, IsAble, IsHeard, IsTurned, LosesBy, MakesEntry, MayTurn, Rests, Restarts, Takes, is_done, noted, stamp_after}
use Rattle.node_seat.specs.declared.faults.RunFault.{RunFault}
use Rattle.node_seat.specs.declared.faults.RunFault.TheVariants as fault
use Rattle.node_seat.specs.declared.turned.Turned.{Turned}
use Rattle.node_seat.specs.declared.turned.Turned.TheVariants as turned
use Rattle.node_seat.proofs.Changed.{below_length, none_yet, stands_below}
use Rattle.node_seat.proofs.Entries.{Comes, IsStop, keeps_after}
use Rattle.node_seat.proofs.Going.{can_deliver, can_rest, can_restart, counting, error_of, running_entry, stamp_after-ends, stamp_after-le, with_entry, with_fault}
use Rattle.node_seat.proofs.Kept.{has_begun, reason_of, stops_there, told_for}

-- ---- ends that were asked

-- a seat whose ends were asked
abbrev pub asking : {N : Type 0} → Seated N → List Taking → ℕ → Seated N
asking s takers next = record s { takers = takers; next = next }

abbrev pub SameLine : ℕ → Taking → Taking → Type 0
SameLine j t u = u.line ≡ t.line

pub none_lines : (old new : List Taking) → NoneTook old new → EachBecomes SameLine old new
none_lines old new none = record { count = none.count; each = λ j u e. let m = none.each j u e in (m.0, m.1, m.2.line) }

took_line : (b : Bool) (packet : Sent) (t u : Taking) → TookIf b packet t u → u.line ≡ t.line
took_line true packet t u took = took.line
took_line false packet t u none = none.line

pub took_lines : (old new : List Taking) (k : ℕ) (packet : Sent) → TookAt old new k packet → EachBecomes SameLine old new
took_lines old new k packet took = record {
  count = took.each.count;
  each = λ j u e. let m = took.each.each j u e in (m.0, m.1, took_line (j == k) packet m.0 u m.2);
}

none_from : (old new : List Taking) → EachBecomes SameLine old new → (from : Place) → NoneFrom from new → NoneFrom from old
none_from old new lines from none k t there is =
    let below = below_length old k t there in
    let size = lines.count in
    let u = stands_below new k (omega (arith, below, size)) in
    let m = lines.each k u.0 u.1 in
    none k u.0 u.1 (ap (λ l. l.from) m.2 ∙ ap (λ (s : Taking). s.line.from) (same_Some m.0 t (sym m.1 ∙ there)) ∙ is)

-- a seat goes on once its ends were asked
pub asked_goes : {N : Type 0} (node : NodeState) (old : Seated N) (takers : List Taking) (next : ℕ) → CanGoOn node old → EachBecomes SameLine old.takers takers → next ≤ length takers
    → CanGoOn node (asking old takers next)
asked_goes node old takers next goes lines within = record {
  serves = goes.serves;
  apart = record {
    come = λ j k t u tj uk from_is.
        let m = lines.each j t tj in
        let n = lines.each k u uk in
        goes.apart.come j k m.0 n.0 m.1 n.1 (ap (λ l. l.from) (sym m.2) ∙ from_is ∙ ap (λ l. l.from) n.2);
    go = goes.apart.go;
  };
  behind = goes.behind;
  small = goes.small;
  turned = goes.turned;
  restarted = goes.restarted;
  refused = goes.refused;
  asked = within;
}

-- and is one of the run still
asked_running : {N : Type 0} (node : NodeState) (past : Past) (run : Run) (old : Seated N) (takers : List Taking) (next : ℕ) → IsRunning node past run old
    → EachBecomes SameLine old.takers takers → next ≤ length takers → IsRunning node past run (asking old takers next)
asked_running node past run old takers next is lines within = record {
  goes = asked_goes node old takers next is.goes lines within;
  of_run = record {
    stops = is.of_run.stops;
    starts = is.of_run.starts;
    to_here = λ k u there.
        let m = lines.each k u there in
        subst (λ l. (l.to ≡ node.place) × (l.queue ≡ run.queue l.from node.place)) (sym m.2) (is.of_run.to_here k m.0 m.1);
    from_here = is.of_run.from_here;
    told = is.of_run.told;
    sized = is.of_run.sized;
    managers = is.of_run.managers;
    resources = is.of_run.resources;
  };
  counted = is.counted;
}

-- ---- what comes

-- the ends took the message that a cause brings
abbrev pub Brought : Reason → Event → ℕ → Taking → Taking → Type 0
Brought why event j t u = u.taken ≡ t.taken ++ heard_from u.line.from why (Some event)

module _ {N : Type 0} (node : NodeState) (begin : ℕ) (run : Run) (role : Role) (old : Seated N) (ms : List Moment) (keeps : KeepsRun node begin run role old ms) (calm : old.fault ≡ None)
    (early : old.stamp < LAST) where
  -- all that was taken was received
  whole : (k : ℕ) (t : Taking) → slice_get old.takers k ≡ Some t → t.taken ≡ received t.line.from ms
  whole k t there = by (keeps.heard k t there)
    where
      by : HeardAll old.fault old.stamp (received t.line.from ms) t.taken → t.taken ≡ received t.line.from ms
      by (inl e) = e
      by (inr (lost, e, may)) =
          let worn : MayLose None old.stamp lost = subst (λ f. MayLose f old.stamp lost) calm may in
          let last = worn.1 in
          absurd (omega (arith, early, last))

  went : (k : ℕ) (end : Sending) → slice_get old.senders k ≡ Some end → Went end.pushed (sent_to end.line.to ms)
  went k end there = subst (λ f. PushedAll f end.pushed (sent_to end.line.to ms)) calm (keeps.pushed k end there)

  module _ (takers : List Taking) (next stamp turned again : ℕ) (why : Reason) (event : Event) (lines : EachBecomes SameLine old.takers takers)
      (brings : EachBecomes (Brought why event) old.takers takers) (quiet : (from : Place) → NoneFrom from takers → heard_from from why (Some event) ≡ []) where
    pub comes : IsByStops old.plan.stops ms why → is_restart why ≡ is_down (own (place_of role) ms) → again ≡ (if is_restart why then restarts ms + 1 else restarts ms)
        → turned ≡ (if is_stop why then turns ms else turns ms + 1) → IsStop event ⊎ Came takers old.plan.stops event
        → Comes node begin run role (counting (asking old takers next) stamp turned again) ms why event
    comes by_stops down restarted turns_are came = record {
      heard = λ j u there.
          let l = lines.each j u there in
          let b = brings.each j u there in
          b.2 ∙ ap (λ (t : List Sent). t ++ heard_from u.line.from why (Some event)) (whole j b.0 b.1 ∙ ap (λ (t : Taking). received t.line.from ms) (same_Some b.0 l.0 (sym b.1 ∙ l.1)) ∙ ap (λ m. received m.from ms) (sym l.2));
      only = λ from none.
          ap (λ (t : List Sent). t ++ heard_from from why (Some event)) (keeps.only from (none_from old.takers takers lines from none)) ∙ quiet from none;
      pushed = went;
      runs = keeps.runs;
      by_stops = by_stops;
      down = down;
      restarted = restarted;
      turned = turns_are;
      fits = keeps.fits;
      lies = (keeps.calm calm).lies;
      picked = (keeps.calm calm).picked;
      came = came;
    }

-- where a cause brings no message
pub silent : (why : Reason) (event : Event) (old new : List Taking) → NoneTook old new → ((p : Place) → heard_from p why (Some event) ≡ []) → EachBecomes (Brought why event) old new
silent why event old new none quiet = record {
  count = none.count;
  each = λ j u e. let m = none.each j u e in (m.0, m.1, m.2.taken ∙ sym (append-nil m.0.taken) ∙ ap (λ (l : List Sent). m.0.taken ++ l) (sym (quiet u.line.from)));
}

-- where it brings the packet that an end took
module _ (old new : List Taking) (k : ℕ) (packet : Sent) (took : TookAt old new k packet) where
  brings_it : (b : Bool) (p : Place) → same_place p took.end.line.from ≡ b → (if b then packet ∷ [] else []) ≡ heard_from p (Deliver packet.stamp took.end.line.from) (Some (Given (input.Message took.end.line.from packet.message)))
  brings_it true p is = rw is refl
  brings_it false p is = rw is refl

  bringing : ComeApart old → EachBecomes (Brought (Deliver packet.stamp took.end.line.from) (Given (input.Message took.end.line.from packet.message))) old new
  bringing come = record { count = took.each.count; each = λ j u e. let m = took.each.each j u e in (m.0, m.1, by j u m.0 m.1 (j == k) refl m.2) }
    where
      by : (j : ℕ) (u t : Taking) → slice_get old j ≡ Some t → (b : Bool) → (j == k) ≡ b → TookIf b packet t u
          → u.taken ≡ t.taken ++ heard_from u.line.from (Deliver packet.stamp took.end.line.from) (Some (Given (input.Message took.end.line.from packet.message)))
      by j u t f true at this =
          let same : j ≡ k = grind (arith, nat_tests) in
          let end_is : t ≡ took.end = same_Some t took.end (sym f ∙ ap (slice_get old) same ∙ took.there) in
          let from_is : u.line.from ≡ took.end.line.from = ap (λ l. l.from) this.line ∙ ap (λ (x : Taking). x.line.from) end_is in
          this.taken ∙ ap (λ (l : List Sent). t.taken ++ l) (brings_it true u.line.from (ap (λ p. same_place p took.end.line.from) from_is ∙ same_place-refl took.end.line.from))
      by j u t f false at none =
          let apart : u.line.from ≢ took.end.line.from = λ is. absurd (let one : j ≡ k = come j k t took.end f took.there (ap (λ l. l.from) (sym none.line) ∙ is) in grind (arith, nat_tests)) in
          none.taken ∙ sym (append-nil t.taken) ∙ ap (λ (l : List Sent). t.taken ++ l) (brings_it false u.line.from (same_place-false u.line.from took.end.line.from apart))

  -- the end that took it, afterwards
  end_after : (u : Taking) × (slice_get new k ≡ Some u) × (u.line ≡ took.end.line) × (u.taken ≡ took.end.taken ++ packet ∷ [])
  end_after =
      let below = below_length old k took.end took.there in
      let size = took.each.count in
      let u = stands_below new k (omega (arith, below, size)) in
      let m = took.each.each k u.0 u.1 in
      let end_is : m.0 ≡ took.end = same_Some m.0 took.end (sym m.1 ∙ took.there) in
      let this : TookIf true packet m.0 u.0 = subst (λ b. TookIf b packet m.0 u.0) (let same : (k == k) ≡ true = grind (arith, nat_tests) in same) m.2 in
      (u.0, u.1, this.line ∙ ap (λ (x : Taking). x.line) end_is, this.taken ∙ ap (λ (x : Taking). x.taken ++ packet ∷ []) end_is)

  quiet_else : (from : Place) → NoneFrom from new → heard_from from (Deliver packet.stamp took.end.line.from) (Some (Given (input.Message took.end.line.from packet.message))) ≡ []
  quiet_else from none =
      let (u, there, line, taken) = end_after in
      sym (brings_it false from (same_place-false from took.end.line.from (λ is. none k u there (ap (λ l. l.from) line ∙ sym is))))

  took_last : TookLast new took.end.line.from packet
  took_last = let (u, there, line, taken) = end_after in record { k = k; end = u; there = there; from_is = ap (λ l. l.from) line; front = took.end.taken; took = taken }

-- ---- an entry

error_same : (result : Result (Unit {0}) RunFault) (r : Result (Option Sent) RunFault) → result ≡ is_done r → error_of r ≡ error_of result
error_same result (Ok packet) is = ap error_of (sym is)
error_same result (Err missed) is = ap error_of (sym is)

noted_same : {N : Type 0} (new : Seated N) → new.fault ≡ None → (result : Result (Unit {0}) RunFault) → with_fault new (error_of result) ≡ noted result new
noted_same new none (Ok done) = ap (with_fault new) (sym none)
noted_same new none (Err missed) = refl

pub noted-node : {N A : Type 0} (result : Result A RunFault) (s : Seated N) → (noted result s).node ≡ s.node
noted-node (Ok a) s = refl
noted-node (Err missed) s = refl

module _ {N : Type 0} (state : N → NodeState) (law : (node : N) → IsLawful (state node)) (w : World) (past : Past) (run : Run) where
  -- an entry, from a seat whose turn is counted
  module _ (a : Seated N) (is : IsRunning (state a.node) past run a) (calm : a.fault ≡ None) (stamp turned again : ℕ) (later : a.stamp < stamp) (small : stamp ≤ LAST) (more : a.turns ≤ turned)
      (few : turned ≤ stamp) (rare : again ≤ turned) (why : Cause) (given : Option Input) (event : Event) (is_event : event_by why given ≡ Some event)
      (can : CanMake state (counting a stamp turned again) why given) (has : given ≡ None → (state a.node).stops ≡ true) (role : Role) (named : role_at w past (place_of role) ≡ Some role)
      (known : run.tells → (ms : List Moment) × Keeps (state a.node) a.trace role ms
      × Comes (state a.node) (start past.sessions) run role (counting a stamp turned again) ms (reason_of why) event)
      (new : Seated N) (result : Result (Unit {0}) RunFault) (m : MakesEntry state (counting a stamp turned again) new why given result) where
    abbrev s : Seated N
    s = counting a stamp turned again

    keeps : KeepsSome (state new.node) w past run (with_fault (with_entry s new.node new.trace new.senders) (error_of m.packet))
    keeps = (
      role,
      named,
      λ told.
          let (ms, k, c) = known told in
          let tells = (law a.node).tells in
          let owns = own (place_of role) ms in
          let at = tells.places role owns k.stands in
          let after = keeps_after state s new.node new.trace new.senders why given event is_event can.may.next role at ms k
          (told_for (state a.node).disks why given event is_event (λ none. is.of_run.told told (stops_there (state a.node) (law a.node) role owns k.stands (has none)))) (start past.sessions)
          (λ tc. is.of_run.starts told (at ∙ tc)) run c m.packet (m.entered.entered event is_event) m.out m.entered.same.same_place in
          (after.0, after.1, λ runs. after.2),
    )

    pub entry_seat : IsSeat (state new.node) w past run (noted result new)
    entry_seat =
        let fault_is : new.fault ≡ None = ap (λ (x : Seated N). x.fault) m.rest ∙ calm in
        let running = running_entry state past run a is stamp turned again later small more few rare new.node new.trace new.senders _ why given event is_event m.packet m.entered m.out in
        let core : IsSeat (state new.node) w past run (with_fault (with_entry s new.node new.trace new.senders) (error_of m.packet)) = record { runs = λ runs. running; keeps = λ runs. keeps } in
        subst (IsSeat (state new.node) w past run) (noted_same new fault_is result)
        (subst (λ x. IsSeat (state new.node) w past run (with_fault x (error_of result))) (sym m.rest)
        (subst (λ f. IsSeat (state new.node) w past run (with_fault (with_entry s new.node new.trace new.senders) f)) (error_same result m.packet m.is) core))

  -- ---- one turn

  module _ (old : Seated N) (is : IsSeat (state old.node) w past run old) (may : MayTurn old) (calm : old.fault ≡ None) (able : IsAble state old) where
    running : IsRunning (state old.node) past run old
    running = is.runs may.runs

    abbrev goes : CanGoOn (state old.node) old
    goes = running.goes

    abbrev role : Role
    role = (is.keeps may.runs).0

    -- the moments of the node, with its links
    abbrev Kept : Type 0
    Kept = (ms : List Moment) × Keeps (state old.node) old.trace role ms × KeepsRun (state old.node) (start past.sessions) run role old ms

    kept : run.tells → Kept
    kept told = let (ms, k, r) = (is.keeps may.runs).2 told in (ms, k, r may.runs)

    begun : (ms : List Moment) → Keeps (state old.node) old.trace role ms → HasBegun old.plan.stops ms
    begun ms k = has_begun old.trace old.plan.stops ms k.printed may.begun

    downs : (ms : List Moment) → Keeps (state old.node) old.trace role ms → (state old.node).down ≡ is_down (own (place_of role) ms)
    downs ms k = (law old.node).tells.downs role (own (place_of role) ms) k.stands

    pub restart_keeps : (new : Seated N) (result : Result (Unit {0}) RunFault) → Restarts state old new result → IsSeat (state new.node) w past run (noted result new)
    restart_keeps new result r =
        let below = able.stamps in
        let few = goes.turned in
        let rare = goes.restarted in
        let why = cause_of (restart_of old.plan.stops old.restarts) in
        let event = Restarted (pick_of (slice_get old.plan.stops old.restarts)) (option_map calls_of (slice_get old.plan.stops (old.restarts + 1))) in
        let same = none_lines old.takers old.takers (none_yet old.takers) in
        entry_seat old running calm (old.stamp + 1) (old.turns + 1) (old.restarts + 1) (omega arith) (omega (arith, below)) (omega arith) (omega (arith, few)) (omega (arith, rare)) why None event refl
        (can_restart state old goes able (law old.node) r.down) (λ none. (law old.node).falls r.down) role (is.keeps may.runs).1
        (λ told.
        let (ms, k, l) = kept told in
        let counts = l.calm calm in (
          ms,
          k,
          comes (state old.node) (start past.sessions) run role old ms l calm below old.takers old.next (old.stamp + 1) (old.turns + 1) (old.restarts + 1) (reason_of why) event same
              (silent (reason_of why) event old.takers old.takers (none_yet old.takers) (λ p. refl)) (λ from none. refl)
              (begun ms k, ap (restart_of old.plan.stops) counts.restarted) (sym r.down ∙ downs ms k) (ap (λ n. n + 1) counts.restarted) (ap (λ n. n + 1) counts.turned) (inr (old.restarts, refl)),
        ))
        new result r.made

    pub rest_keeps : (new : Seated N) (result : Result (Unit {0}) RunFault) → Rests state old new result → IsSeat (state new.node) w past run (noted result new)
    rest_keeps new result r =
        let below = able.stamps in
        let few = goes.turned in
        let rare = goes.restarted in
        let within = goes.asked in
        let size = r.none.count in
        let lines = none_lines old.takers r.takers r.none in
        let at = asking old r.takers old.next in
        let on = asked_running (state old.node) past run old r.takers old.next running lines (omega (arith, within, size)) in
        entry_seat at on calm (old.stamp + 1) (old.turns + 1) old.restarts (omega arith) (omega (arith, below)) (omega arith) (omega (arith, few)) (omega (arith, rare)) cause.Turn (Some input.Turn) (Given input.Turn) refl
        (can_rest state at on.goes (record { stamps = able.stamps; steps = able.steps })) (λ none. absurd (let no : Some input.Turn ≡ None = none in cc)) role (is.keeps may.runs).1
        (λ told.
        let (ms, k, l) = kept told in
        let counts = l.calm calm in (
          ms,
          k,
          comes (state old.node) (start past.sessions) run role old ms l calm below r.takers old.next (old.stamp + 1) (old.turns + 1) old.restarts Turn (Given input.Turn) lines
              (silent Turn (Given input.Turn) old.takers r.takers r.none (λ p. refl)) (λ from none. refl) (begun ms k) (sym r.up ∙ downs ms k) counts.restarted (ap (λ n. n + 1) counts.turned) (inr tt),
        ))
        new result r.made

    -- a packet was taken
    module _ (takers : List Taking) (k : ℕ) (packet : Sent) (took : TookAt old.takers takers k packet) (up : (state old.node).down ≡ false) where
      abbrev asked : Seated N
      asked = asking old takers (k + 1)

      within : k + 1 ≤ length takers
      within = let below = below_length old.takers k took.end took.there in let size = took.each.count in omega (arith, below, size)

      on : IsRunning (state old.node) past run asked
      on = asked_running (state old.node) past run old takers (k + 1) running (took_lines old.takers takers k packet took) within

      abbrev heard : Event
      heard = Given (input.Message took.end.line.from packet.message)

      delivered : (new : Seated N) (result : Result (Unit {0}) RunFault) → IsFramable packet.message → may_hear old.plan (state old.node).place packet.message ≡ true
          → Delivers state asked new took.end.line.from packet result → IsSeat (state new.node) w past run (noted result new)
      delivered new result framable answers d =
          let below = able.stamps in
          let few = goes.turned in
          let rare = goes.restarted in
          let above = (stamp_after-ends old.stamp packet.stamp).0 in
          let small = stamp_after-le old.stamp packet.stamp below d.early in
          let why = cause.Deliver packet.stamp took.end.line.from in
          entry_seat asked on calm (stamp_after old.stamp packet.stamp) (old.turns + 1) old.restarts above small (omega arith) (omega (arith, few, above)) (omega (arith, rare)) why
          (Some (input.Message took.end.line.from packet.message)) heard refl
          (can_deliver state asked on.goes (record { stamps = able.stamps; steps = able.steps }) took.end.line.from packet.message packet.stamp d.early framable answers)
          (λ none. absurd (let no : Some (input.Message took.end.line.from packet.message) ≡ None = none in cc)) role (is.keeps may.runs).1
          (λ told.
          let (ms, k', l) = kept told in
          let counts = l.calm calm in (
            ms,
            k',
            comes (state old.node) (start past.sessions) run role old ms l calm below takers (k + 1) (stamp_after old.stamp packet.stamp) (old.turns + 1) old.restarts (Deliver packet.stamp took.end.line.from) heard
                (took_lines old.takers takers k packet took) (bringing old.takers takers k packet took goes.apart.come) (quiet_else old.takers takers k packet took) (begun ms k') (sym up ∙ downs ms k') counts.restarted
                (ap (λ n. n + 1) counts.turned) (inr (packet.stamp, took_last old.takers takers k packet took)),
          ))
          new result d.made

      -- what was taken but isn't received
      unheard : (missed : Option RunFault) (stamp : ℕ) → MayLose missed stamp packet → (ms : List Moment) → KeepsRun (state old.node) (start past.sessions) run role old ms
          → (j : ℕ) (u : Taking) → slice_get takers j ≡ Some u → HeardAll missed stamp (received u.line.from ms) u.taken
      unheard missed stamp lost ms l j u there = let m = took.each.each j u there in by (j == k) m.0 m.1 m.2
        where
          by : (b : Bool) (t : Taking) → slice_get old.takers j ≡ Some t → TookIf b packet t u → HeardAll missed stamp (received u.line.from ms) u.taken
          by true t first this =
              subst (λ q. HeardAll missed stamp (received q.from ms) u.taken) (sym this.line)
              (inr (packet, this.taken ∙ ap (λ (x : List Sent). x ++ packet ∷ []) (whole (state old.node) (start past.sessions) run role old ms l calm able.stamps j t first), lost))
          by false t first none =
              subst (λ q. HeardAll missed stamp (received q.from ms) u.taken) (sym none.line)
              (inl (none.taken ∙ whole (state old.node) (start past.sessions) run role old ms l calm able.stamps j t first))

      -- a packet of the last stamp is lost
      late : (new : Seated N) → packet.stamp ≡ LAST → new ≡ record asked { stamp = LAST } → IsSeat (state new.node) w past run new
      late new last is_new = subst (λ (x : Seated N). IsSeat (state x.node) w past run x) (sym is_new) (record {
        runs = λ runs. record {
          goes = record {
            serves = on.goes.serves;
            apart = on.goes.apart;
            behind = λ j d below. let older = on.goes.behind j d below in
                let rises = older.stamp_rises in
                let small = on.goes.small in
                record { stamp_rises = omega (arith, rises, small); clock_rises = older.clock_rises };
            small = omega arith;
            turned = let few = on.goes.turned in let small = on.goes.small in omega (arith, few, small);
            restarted = on.goes.restarted;
            refused = λ j end there. let few = on.goes.refused j end there in let small = on.goes.small in omega (arith, few, small);
            asked = on.goes.asked;
          };
          of_run = on.of_run;
          counted = on.counted;
        };
        keeps = λ runs. (
          role,
          (is.keeps may.runs).1,
          λ told.
              let (ms, k', l) = kept told in (
                ms,
                k',
                λ runs. record {
                  heard = unheard old.fault LAST (subst (λ f. MayLose f LAST packet) (sym calm) (last, refl)) ms l;
                  only = λ from none. l.only from (none_from old.takers takers (took_lines old.takers takers k packet took) from none);
                  pushed = l.pushed;
                  runs = l.runs;
                  fits = l.fits;
                  calm = λ none. let counts = l.calm none in record { restarted = counts.restarted; turned = counts.turned; lies = counts.lies; picked = counts.picked };
                  cause = subst (λ f. IfSome f (IsCauseOf (state old.node) run role (record asked { stamp = LAST }) ms)) (sym calm) tt;
                },
              ),
        );
      })

      lost_counts : (missed : RunFault) → LosesBy state asked packet missed → HasCounted (state old.node) missed
      lost_counts fault.NoMemory why = tt
      lost_counts fault.Other why = tt
      lost_counts (fault.Store p) why = absurd why
      lost_counts (fault.Full p full) why = absurd why
      lost_counts (fault.Damaged p second at) why = absurd why

      lost_cause : (missed : RunFault) → LosesBy state asked packet missed → (ms : List Moment) → IsCauseOf (state old.node) run role (with_fault asked (Some missed)) ms missed
      lost_cause fault.NoMemory why ms = tt
      lost_cause fault.Other why ms = record { from = took.end.line.from; packet = packet; took = took_last old.takers takers k packet took; unheard = why }
      lost_cause (fault.Store p) why ms = absurd why
      lost_cause (fault.Full p full) why ms = absurd why
      lost_cause (fault.Damaged p second at) why ms = absurd why

      -- a packet that can't be delivered is lost
      loses : (new : Seated N) (missed : RunFault) → new ≡ asked → LosesBy state asked packet missed → IsSeat (state new.node) w past run (with_fault new (Some missed))
      loses new missed is_new why = subst (λ (x : Seated N). IsSeat (state x.node) w past run (with_fault x (Some missed))) (sym is_new) (record {
        runs = λ runs. record {
          goes = record {
            serves = on.goes.serves;
            apart = on.goes.apart;
            behind = on.goes.behind;
            small = on.goes.small;
            turned = on.goes.turned;
            restarted = on.goes.restarted;
            refused = on.goes.refused;
            asked = on.goes.asked;
          };
          of_run = on.of_run;
          counted = lost_counts missed why;
        };
        keeps = λ runs. (
          role,
          (is.keeps may.runs).1,
          λ told.
              let (ms, k', l) = kept told in (
                ms,
                k',
                λ runs. record {
                  heard = unheard (Some missed) old.stamp tt ms l;
                  only = λ from none. l.only from (none_from old.takers takers (took_lines old.takers takers k packet took) from none);
                  pushed = λ j end there. went-within end.pushed _ (went (state old.node) (start past.sessions) run role old ms l calm able.stamps j end there);
                  runs = l.runs;
                  fits = l.fits;
                  calm = λ none. absurd (let no : Some missed ≡ None = none in cc);
                  cause = lost_cause missed why ms;
                },
              ),
        );
      })

    pub take_keeps : (new : Seated N) (result : Result Turned RunFault) → Takes state old new result → IsSeat (state new.node) w past run (noted result new)
    take_keeps new (Ok turned.Worn) t = late t.takers t.k t.packet t.took t.up new t.heard.0 t.heard.1
    take_keeps new (Ok turned.Took) t = delivered t.takers t.k t.packet t.took t.up new (Ok tt) t.heard.framable t.heard.answers t.heard
    take_keeps new (Ok turned.Restarted) t = absurd t.heard
    take_keeps new (Ok turned.Idle) t = absurd t.heard
    take_keeps new (Err missed) t = by t.heard
      where
        by : IsHeard state (asking old t.takers (t.k + 1)) new t.took.end.line.from t.packet (Err missed) → IsSeat (state new.node) w past run (with_fault new (Some missed))
        by (inl d) = delivered t.takers t.k t.packet t.took t.up new (Err missed) d.framable d.answers d
        by (inr (is_new, why)) = loses t.takers t.k t.packet t.took t.up new missed is_new why

  turned_keeps : (old new : Seated N) → IsSeat (state old.node) w past run old → MayTurn old → old.fault ≡ None → (result : Result Turned RunFault) → IsTurned state old new result
      → IsSeat (state new.node) w past run (noted result new)
  turned_keeps old new is may calm (Ok turned.Worn) (inl spent) = subst (λ (x : Seated N). IsSeat (state x.node) w past run x) (sym spent.same) is
  turned_keeps old new is may calm (Ok turned.Worn) (inr takes) = take_keeps old is may calm takes.able new (Ok turned.Worn) takes
  turned_keeps old new is may calm (Ok turned.Restarted) r = restart_keeps old is may calm r.able new (Ok tt) r
  turned_keeps old new is may calm (Ok turned.Took) takes = take_keeps old is may calm takes.able new (Ok turned.Took) takes
  turned_keeps old new is may calm (Ok turned.Idle) r = rest_keeps old is may calm r.able new (Ok tt) r
  turned_keeps old new is may calm (Err missed) (inl r) = restart_keeps old is may calm r.able new (Err missed) r
  turned_keeps old new is may calm (Err missed) (inr (inl takes)) = take_keeps old is may calm takes.able new (Err missed) takes
  turned_keeps old new is may calm (Err missed) (inr (inr r)) = rest_keeps old is may calm r.able new (Err missed) r

  -- what the type of a seat keeps, a turn keeps
  pub turn_keeps : (old new : Seated N) → IsSeat (state old.node) w past run old → MayTurn old → (result : Result Turned RunFault) → AnswersTurn state old.fault old new result
      → IsSeat (state new.node) w past run new
  turn_keeps old new is may result answers = by old.fault refl answers
    where
      by : (missed : Option RunFault) → old.fault ≡ missed → AnswersTurn state missed old new result → IsSeat (state new.node) w past run new
      by None calm (made, turned, is_new) =
          subst (λ (x : Seated N). IsSeat (state x.node) w past run x) (sym is_new)
          (subst (λ n. IsSeat (state n) w past run (noted result made)) (sym (noted-node result made)) (turned_keeps old made is may calm result turned))
      by (Some missed) was (answer, same) = subst (λ (x : Seated N). IsSeat (state x.node) w past run x) (sym same) is
