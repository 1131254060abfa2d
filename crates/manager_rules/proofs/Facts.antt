-- Facts on what a manager keeps, over plain variables.
use Rattle.std.proofs.Common.{◌≡◌, ◌+◌, ◌==◌, ◌&&◌, ℕ, Bool, true, false, if◌then◌else◌, List, ◌∷◌, Option, Some, None, Result, Ok, Err, slice_get, nat_le, refl, ap, sym, subst, ◌∙◌, arith}
use Rattle.std.proofs.lemmas.Bool.Decides.{nat_tests}
use Rattle.seata_types.specs.declared.acts.Act.{Act}
use Rattle.seata_types.specs.declared.acts.Act.TheVariants as act
use Rattle.seata_types.specs.declared.copies.NoMemory.{NoMemory}
use Rattle.seata_types.specs.declared.errors.Why.{Why}
use Rattle.seata_types.specs.declared.ids.BranchId.{BranchId}
use Rattle.seata_types.specs.declared.ids.Ticket.{Ticket}
use Rattle.seata_types.specs.declared.ids.Xid.{Xid}
use Rattle.seata_types.specs.declared.messages.CallAnswer.{CallAnswer}
use Rattle.seata_types.specs.declared.messages.CallAnswer.TheVariants as called
use Rattle.seata_types.specs.declared.messages.Input.{Input}
use Rattle.seata_types.specs.declared.messages.Input.TheVariants as input
use Rattle.seata_types.specs.declared.messages.Message.{Message}
use Rattle.seata_types.specs.declared.messages.Message.TheVariants as message
use Rattle.seata_types.specs.declared.messages.Outgoing.{Outgoing}
use Rattle.seata_types.specs.declared.messages.Step.{Step}
use Rattle.seata_types.specs.declared.rows.RowKey.{RowKey}
use Rattle.seata_types.specs.declared.statements.Work.{Work}
use Rattle.seata_types.specs.declared.statuses.Ending.{Ending}
use Rattle.seata_types.specs.declared.statuses.Ending.TheVariants as ending
use Rattle.history_rules.specs.Own.{Given, Own, still, sends}
use Rattle.history_rules.specs.Devices.{down_after, left_after}
use Rattle.history_rules.specs.ManagerRules as rules
use Rattle.history_rules.specs.ManagerRules.{Settings, busy_after, busy_count, closed_after, end_message, is_closed, is_silent, last_sent, manager_answer, receiver, sent_after, sent_count, speaks}
use Rattle.manager_rules.specs.Answers.{Answers, Hears, IsAnswered, IsUndurable, Says, Speaks, TakesAfter, own_step, says}
use Rattle.manager_rules.specs.Calls.{message_for, next_message, next_phase, phase_for}
use Rattle.manager_rules.specs.Tracks.{IsCalling, IsPhase, Tracks}
use Rattle.manager_rules.specs.declared.phases.Phase.{Phase}
use Rattle.manager_rules.specs.declared.phases.Phase.TheVariants as phase
use Rattle.manager_rules.specs.declared.talks.Talk.{Talk}

-- ---- one more entry

-- an act that leaves its manager up and its disk unarmed
pub record IsPlain (given : Input) (done : Act) : Type 0 where
  pub up : down_after done false ≡ false
  pub unarmed : left_after false (Given given) done None ≡ None

-- an act that sends: the end is as it was
pub record IsSpeaking (given : Input) (done : Act) (closed : Bool) : Type 0 where
  pub plain : IsPlain given done
  pub same_end : closed_after done closed ≡ closed

module _ (m : Talk) (owns : List Own) (given : Input) (now : ℕ) (t : Tracks m owns) where
  -- the manager after an act with what it sent
  tracks_step : (m' : Talk) (done : Act) (sent : Option Outgoing) → IsPlain given done → m'.sent ≡ rules.counted sent m.sent
      → IsPhase m'.settings m'.phase (closed_after done (is_closed owns)) (busy_after done (busy_count owns)) (sent_after sent (last_sent owns))
      → Tracks m' (own_step given now (record { act = done; sent = sent }) ∷ owns)
  tracks_step m' done sent plain count phased = record {
    counted = count ∙ ap (rules.counted sent) t.counted;
    phased = phased;
    up = ap (down_after done) t.up ∙ plain.up;
    unarmed = ap (left_after false (Given given) done) t.unarmed ∙ plain.unarmed;
  }

  -- a step without a message, after which this is waited for
  pub stayed : (m' : Talk) (step : Step) (done : Act) (next : Phase) → step ≡ still done → m' ≡ record m { phase = next } → IsPlain given done
      → still done ≡ manager_answer m.settings owns given
      → IsPhase m.settings next (closed_after done (is_closed owns)) (busy_after done (busy_count owns)) (last_sent owns)
      → TakesAfter owns m m' given now step
  stayed m' step done next sent same plain is fits = (
    sent ∙ is,
    subst (λ k. Tracks k (own_step given now step ∷ owns)) (sym same)
        (subst (λ s. Tracks (record m { phase = next }) (own_step given now s ∷ owns)) (sym sent) (tracks_step (record m { phase = next }) done None plain refl fits)),
  )

  -- a message was sent, and this is waited for
  loud : (m' : Talk) (step : Step) (done : Act) (message : Message) (next : Phase) → step ≡ sends done (receiver message) message → m' ≡ says m next
      → IsSpeaking given done (is_closed owns) → sends done (receiver message) message ≡ manager_answer m.settings owns given
      → IsPhase m.settings next (is_closed owns) (busy_after done (busy_count owns)) (Some message) → TakesAfter owns m m' given now step
  loud m' step done message next sent same speaking is fits = (
    sent ∙ is,
    subst (λ k. Tracks k (own_step given now step ∷ owns)) (sym same)
        (subst (λ s. Tracks (says m next) (own_step given now s ∷ owns)) (sym sent)
        (tracks_step (says m next) done (Some (record { to = receiver message; message = message })) speaking.plain refl
        (subst (λ c. IsPhase m.settings next c (busy_after done (busy_count owns)) (Some message)) (sym speaking.same_end) fits))),
  )

  -- a message was sent, or the manager has gone silent
  pub spoken : (m' : Talk) (step : Step) (done : Act) (message : Message) (next : Phase) → Says m m' done message next step
      → IsSpeaking given done (is_closed owns) → speaks m.settings (sent_count owns) (busy_count owns) done message ≡ manager_answer m.settings owns given
      → IsPhase m.settings next (is_closed owns) (busy_after done (busy_count owns)) (Some message) → TakesAfter owns m m' given now step
  spoken m' step done message next s speaking is fits = by (is_silent m.settings.silent m.sent) refl
    where
      same_count : is_silent m.settings.silent m.sent ≡ is_silent m.settings.silent (sent_count owns)
      same_count = ap (is_silent m.settings.silent) t.counted

      answered : Bool → Step
      answered b = if b then still act.Silent else sends done (receiver message) message

      by : (b : Bool) → is_silent m.settings.silent m.sent ≡ b → TakesAfter owns m m' given now step
      by true e =
          let quiet = s.silent e in
          stayed m' step act.Silent m.phase quiet.0 quiet.1 (record { up = refl; unarmed = refl })
          (sym (ap answered (sym same_count ∙ e)) ∙ is) t.phased
      by false e =
          let told = s.said e in
          loud m' step done message next told.0 told.1 speaking (sym (ap answered (sym same_count ∙ e)) ∙ is) fits

-- what a phase says of the manager's own entries
pub phased_as : (m : Talk) (owns : List Own) (now_phase : Phase) → Tracks m owns → m.phase ≡ now_phase
    → IsPhase m.settings now_phase (is_closed owns) (busy_count owns) (last_sent owns)
phased_as m owns now_phase t e = subst (λ p. IsPhase m.settings p (is_closed owns) (busy_count owns) (last_sent owns)) e t.phased

-- ---- whole answers

-- at these own entries: the rule's answer is to send this message, whose answer this phase waits for
record Suits (m : Talk) (given : Input) (done : Act) (message : Message) (next : Phase) (owns : List Own) : Type 0 where
  pub speaking : IsSpeaking given done (is_closed owns)
  pub is : speaks m.settings (sent_count owns) (busy_count owns) done message ≡ manager_answer m.settings owns given
  pub fits : IsPhase m.settings next (is_closed owns) (busy_after done (busy_count owns)) (Some message)

-- no disk keeps what is said
said_undurable : (m m' : Talk) (done : Act) (message : Message) (next : Phase) (step : Step) → IsUndurable done → Says m m' done message next step → IsUndurable step.act
said_undurable m m' done message next step quiet s = by (is_silent m.settings.silent m.sent) refl
  where
    by : (b : Bool) → is_silent m.settings.silent m.sent ≡ b → IsUndurable step.act
    by true e = subst (λ (z : Step). IsUndurable z.act) (sym (s.silent e).0) tt
    by false e = subst (λ (z : Step). IsUndurable z.act) (sym (s.said e).0) quiet

spoken_answers : (m m' : Talk) (given : Input) (step : Step) (done : Act) (message : Message) (next : Phase) → IsUndurable done → Says m m' done message next step
    → ((owns : List Own) → Tracks m owns → Suits m given done message next owns) → IsAnswered m m' given step
spoken_answers m m' given step done message next quiet s suits = record {
  undurable = said_undurable m m' done message next step quiet s;
  takes = λ owns now t. let u = suits owns t in spoken m owns given now t m' step done message next s u.speaking u.is u.fits;
  sent = s.sent;
  same = s.same;
  grows = s.grows;
}

-- ---- the next call, and the end

-- after so many calls are done, going on is to send the next message
goes_next : (m : Settings) (count busy : ℕ) (xid : Xid) (done : ℕ) → speaks m count busy act.GoesOn (next_message m xid done) ≡ rules.goes_on m count busy xid done
goes_next m count busy xid done = by (slice_get m.calls done)
  where
    by : (found : Option (ℕ × Work)) → speaks m count busy act.GoesOn (message_for m xid done found) ≡ rules.next_answer m count busy xid (done + 1) found
    by (Some (resource, w)) = refl
    by None = refl

-- and what is then waited for is this message's answer
next_fits : (m : Settings) (xid : Xid) (done : ℕ) → IsPhase m (next_phase m xid done) false 0 (Some (next_message m xid done))
next_fits m xid done = by (slice_get m.calls done) refl
  where
    by : (found : Option (ℕ × Work)) → slice_get m.calls done ≡ found → IsPhase m (phase_for m xid done found) false 0 (Some (message_for m xid done found))
    by (Some call) e = (refl, refl, record { call = call; there = e; sent = refl })
    by None e = (refl, refl)

-- the message of the present call is the next one after those that are done
calling_next : (m : Settings) (xid : Xid) (done : ℕ) (last : Option Message) → IsCalling m xid done last → last ≡ Some (next_message m xid done)
calling_next m xid done last c = c.sent ∙ ap (λ found. Some (message_for m xid done found)) (sym c.there)

suits_going : (m : Talk) (given : Input) (xid : Xid) (done : ℕ) (owns : List Own) → is_closed owns ≡ false
    → rules.goes_on m.settings (sent_count owns) (busy_count owns) xid done ≡ manager_answer m.settings owns given
    → Suits m given act.GoesOn (next_message m.settings xid done) (next_phase m.settings xid done) owns
suits_going m given xid done owns unclosed is = record {
  speaking = record { plain = record { up = refl; unarmed = refl }; same_end = refl };
  is = goes_next m.settings (sent_count owns) (busy_count owns) xid done ∙ is;
  fits = subst (λ c. IsPhase m.settings (next_phase m.settings xid done) c 0 (Some (next_message m.settings xid done))) (sym unclosed) (next_fits m.settings xid done);
}

suits_giving_up : (m : Talk) (given : Input) (xid : Xid) (owns : List Own) → is_closed owns ≡ false
    → rules.gives_up m.settings (sent_count owns) (busy_count owns) xid ≡ manager_answer m.settings owns given
    → Suits m given act.GivesUp (message.GlobalRollback xid) (phase.Closing xid ending.Rollback) owns
suits_giving_up m given xid owns unclosed is = record {
  speaking = record { plain = record { up = refl; unarmed = refl }; same_end = refl };
  is = is;
  fits = (unclosed, refl);
}

-- ---- turns

module _ (m m' : Talk) (step : Step) where
  pub starts : m.phase ≡ phase.Unstarted → Says m m' act.Starts (message.Begin m.settings.number m.settings.timeout) phase.Beginning step → IsAnswered m m' input.Turn step
  starts e s =
      spoken_answers m m' input.Turn step act.Starts (message.Begin m.settings.number m.settings.timeout) phase.Beginning tt s
      (λ owns t. let p = phased_as m owns phase.Unstarted t e in
      record { speaking = record { plain = record { up = refl; unarmed = refl }; same_end = refl }; is = rw (p.0, p.1) refl; fits = (p.0, refl) })

  -- a message again in this phase, where it is the last one
  repeats : (message : Message) (next : Phase) → m.phase ≡ next → ((owns : List Own) → Tracks m owns → (is_closed owns ≡ false) × (last_sent owns ≡ Some message))
      → Says m m' act.Repeats message next step → IsAnswered m m' input.Turn step
  repeats message next e waits s =
      spoken_answers m m' input.Turn step act.Repeats message next tt s
      (λ owns t. let p = waits owns t in
      record {
        speaking = record { plain = record { up = refl; unarmed = refl }; same_end = refl };
        is = rw (p.0, p.1) refl;
        fits = subst (λ l. IsPhase m.settings next (is_closed owns) (busy_count owns) l) p.1 (phased_as m owns next t e);
      })

  pub begins_again : m.phase ≡ phase.Beginning → Says m m' act.Repeats (message.Begin m.settings.number m.settings.timeout) phase.Beginning step → IsAnswered m m' input.Turn step
  begins_again e s = repeats (message.Begin m.settings.number m.settings.timeout) phase.Beginning e (λ owns t. phased_as m owns phase.Beginning t e) s

  pub ends_again : (xid : Xid) (how : Ending) (message : Message) → m.phase ≡ phase.Closing xid how → message ≡ end_message how xid
      → Says m m' act.Repeats message (phase.Closing xid how) step → IsAnswered m m' input.Turn step
  ends_again xid how message e same s =
      repeats message (phase.Closing xid how) e
      (λ owns t. let p = phased_as m owns (phase.Closing xid how) t e in (p.0, p.1 ∙ ap (λ k. Some k) (sym same))) s

  calls_again : (xid : Xid) (done busy : ℕ) → m.phase ≡ phase.Calling xid done busy
      → Says m m' act.Repeats (next_message m.settings xid done) (phase.Calling xid done busy) step → IsAnswered m m' input.Turn step
  calls_again xid done busy e s =
      repeats (next_message m.settings xid done) (phase.Calling xid done busy) e
      (λ owns t. let p = phased_as m owns (phase.Calling xid done busy) t e in (p.0, calling_next m.settings xid done (last_sent owns) p.2)) s

  pub polls : (xid : Xid) → m.phase ≡ phase.Closed xid → m.settings.poll ≡ true → Says m m' act.Polls (message.GlobalStatus xid) (phase.Closed xid) step
      → IsAnswered m m' input.Turn step
  polls xid e asks s =
      spoken_answers m m' input.Turn step act.Polls (message.GlobalStatus xid) (phase.Closed xid) tt s
      (λ owns t. let p = phased_as m owns (phase.Closed xid) t e in
      record { speaking = record { plain = record { up = refl; unarmed = refl }; same_end = refl }; is = rw (p.0, p.1, asks) refl; fits = (p.0, refl) })

-- the present call again, or no memory for it
pub call_repeated : (m m' : Talk) (xid : Xid) (done busy : ℕ) (result : Result Step NoMemory) → m.phase ≡ phase.Calling xid done busy
    → Speaks m m' act.Repeats (next_message m.settings xid done) (phase.Calling xid done busy) result → Answers m m' input.Turn result
call_repeated m m' xid done busy (Ok step) e s = calls_again m m' step xid done busy e s
call_repeated m m' xid done busy (Err refused) e s = s

-- ---- messages

-- going on at a message, or no memory for it
going_on : (m m' : Talk) (heard : Message) (xid : Xid) (done : ℕ) (result : Result Step NoMemory)
    → ((owns : List Own) → Tracks m owns → (is_closed owns ≡ false)
    × (rules.goes_on m.settings (sent_count owns) (busy_count owns) xid done ≡ rules.waiting_answer m.settings (sent_count owns) (busy_count owns) (last_sent owns) heard))
    → Speaks m m' act.GoesOn (next_message m.settings xid done) (next_phase m.settings xid done) result → Hears m m' heard result
going_on m m' heard xid done (Ok step) answers s = λ from.
    spoken_answers m m' (input.Message from heard) step act.GoesOn (next_message m.settings xid done) (next_phase m.settings xid done) tt s
    (λ owns t. let p = answers owns t in
    suits_going m (input.Message from heard) xid done owns p.0
    (p.1 ∙ sym (ap (λ c. rules.message_answer m.settings (sent_count owns) (busy_count owns) c (last_sent owns) heard) p.0)))
going_on m m' heard xid done (Err refused) answers s = λ from. s

pub begun_heard : (m m' : Talk) (xid : Xid) (result : Result Step NoMemory) → m.phase ≡ phase.Beginning
    → Speaks m m' act.GoesOn (next_message m.settings xid 0) (next_phase m.settings xid 0) result → Hears m m' (message.Begun xid) result
begun_heard m m' xid result e s =
    going_on m m' (message.Begun xid) xid 0 result (λ owns t. let p = phased_as m owns phase.Beginning t e in (p.0, rw p.1 refl)) s

-- an answer of the present call is answered as it says
present_answer : (m : Talk) (owns : List Own) (xid : Xid) (done busy : ℕ) (answer : CallAnswer) → Tracks m owns → m.phase ≡ phase.Calling xid done busy
    → rules.called_answer m.settings (sent_count owns) (busy_count owns) xid (done + 1) answer
    ≡ rules.waiting_answer m.settings (sent_count owns) (busy_count owns) (last_sent owns) (message.Answer xid (done + 1) answer)
present_answer m owns xid done busy answer t e =
    let p = phased_as m owns (phase.Calling xid done busy) t e in
    let same : (xid.0 == xid.0) && ((done + 1) == (done + 1)) ≡ true = grind (arith, nat_tests) in
    rw (p.2.sent, same) refl

pub done_heard : (m m' : Talk) (xid : Xid) (done busy : ℕ) (branch : BranchId) (result : Result Step NoMemory) → m.phase ≡ phase.Calling xid done busy
    → Speaks m m' act.GoesOn (next_message m.settings xid (done + 1)) (next_phase m.settings xid (done + 1)) result
    → Hears m m' (message.Answer xid (done + 1) (called.Done branch)) result
done_heard m m' xid done busy branch result e s =
    going_on m m' (message.Answer xid (done + 1) (called.Done branch)) xid (done + 1) result
    (λ owns t. let p = phased_as m owns (phase.Calling xid done busy) t e in (p.0, present_answer m owns xid done busy (called.Done branch) t e)) s

-- giving up at an answer of the present call
giving_up : (m m' : Talk) (xid : Xid) (done busy : ℕ) (answer : CallAnswer) (step : Step) → m.phase ≡ phase.Calling xid done busy
    → ((owns : List Own) → busy_count owns ≡ busy → rules.gives_up m.settings (sent_count owns) (busy_count owns) xid ≡ rules.called_answer m.settings (sent_count owns) (busy_count owns) xid (done + 1) answer)
    → Says m m' act.GivesUp (message.GlobalRollback xid) (phase.Closing xid ending.Rollback) step → Hears m m' (message.Answer xid (done + 1) answer) (Ok step)
giving_up m m' xid done busy answer step e gives s = λ from.
    spoken_answers m m' (input.Message from (message.Answer xid (done + 1) answer)) step act.GivesUp (message.GlobalRollback xid) (phase.Closing xid ending.Rollback) tt s
    (λ owns t. let p = phased_as m owns (phase.Calling xid done busy) t e in
    suits_giving_up m (input.Message from (message.Answer xid (done + 1) answer)) xid owns p.0
    (gives owns p.1 ∙ present_answer m owns xid done busy answer t e
    ∙ sym (ap (λ c. rules.message_answer m.settings (sent_count owns) (busy_count owns) c (last_sent owns) (message.Answer xid (done + 1) answer)) p.0)))

pub failed_heard : (m m' : Talk) (xid : Xid) (done busy : ℕ) (why : Why) (step : Step) → m.phase ≡ phase.Calling xid done busy
    → Says m m' act.GivesUp (message.GlobalRollback xid) (phase.Closing xid ending.Rollback) step → Hears m m' (message.Answer xid (done + 1) (called.Failed why)) (Ok step)
failed_heard m m' xid done busy why step e s = giving_up m m' xid done busy (called.Failed why) step e (λ owns count. refl) s

pub last_busy_heard : (m m' : Talk) (xid : Xid) (done busy : ℕ) (key : RowKey) (by : Ticket) (step : Step) → m.phase ≡ phase.Calling xid done busy
    → nat_le m.settings.tries (busy + 1) ≡ true
    → Says m m' act.GivesUp (message.GlobalRollback xid) (phase.Closing xid ending.Rollback) step → Hears m m' (message.Answer xid (done + 1) (called.Busy key by)) (Ok step)
last_busy_heard m m' xid done busy key by step e last s =
    giving_up m m' xid done busy (called.Busy key by) step e (λ owns count. rw (count, last) refl) s

-- ---- the present call

both : (a b : Bool) → (a && b) ≡ true → (a ≡ true) × (b ≡ true)
both true b e = (refl, e)
both false b e = absurd (let no : false ≡ true = e in cc)

-- what is told of the present call names its transaction and its number
pub present_is : (xid told : Xid) (done call : ℕ) (answer : CallAnswer) → ((xid.0 == told.0) && ((done + 1) == call)) ≡ true
    → message.Answer xid (done + 1) answer ≡ message.Answer told call answer
present_is xid told done call answer e =
    let tests = both (xid.0 == told.0) ((done + 1) == call) e in
    let of_transaction : (xid.0 == told.0) ≡ true = tests.0 in
    let of_call : ((done + 1) == call) ≡ true = tests.1 in
    let same : xid.0 ≡ told.0 = grind (arith, nat_tests) in
    let number : done + 1 ≡ call = grind (arith, nat_tests) in
    ap (λ (n : ℕ). message.Answer (record { 0 = n }) (done + 1) answer) same ∙ ap (λ (c : ℕ). message.Answer told c answer) number
