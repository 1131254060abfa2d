-- Turns: by what was looked up the answer is the rules'.
use Rattle.std.proofs.Common.{◌≡◌, ◌∙◌, ℕ, List, [], Option, Some, None, option_map, Result, Ok, Err, refl, sym, ap}
use Rattle.std.specs.Prelude.{IfOk}
use Rattle.seata_types.specs.declared.acts.Act.TheVariants as act
use Rattle.seata_types.specs.declared.copies.NoMemory.{NoMemory}
use Rattle.seata_types.specs.declared.ids.Ticket.{Ticket}
use Rattle.seata_types.specs.declared.messages.Input.TheVariants as input
use Rattle.local_txn.specs.OpenTickets.{Open, last_of, open_at}
use Rattle.local_txn.specs.Answers.{Tickets, open_of, ticket_of}
use Rattle.local_txn.specs.declared.transactions.OpenTxn.{OpenTxn}
use Rattle.history_rules.specs.Own.{still}
use Rattle.history_rules.specs.ResourceMemory.{next_ticket}
use Rattle.history_rules.specs.ResourceRules as rules
use Rattle.history_rules.specs.ResourceRules.{requests}
use Rattle.resource_memory.specs.Known.{Known}
use Rattle.resource_rules.specs.Answers.{Answers, answer, answer_by}
use Rattle.resource_rules.specs.Ready.{IsTicketWithin}
use Rattle.resource_rules.specs.declared.answers.Answer.{Answer}
use Rattle.resource_rules.specs.declared.answers.Change.TheVariants as change
use Rattle.resource_rules.specs.declared.setups.Setup.{Setup as TheSetup}
use Rattle.resource_rules.proofs.AnswerLaws.{rests}
use Rattle.resource_rules.proofs.FramingLaws.{request_framed}
use Rattle.resource_rules.proofs.Seen.{opens_seen}
use Rattle.resource_rules.proofs.TicketLists.{last_within}

-- ---- the ticket that was sent longest ago

pub none_last : (l : Option Open) → option_map ticket_of l ≡ None → None ≡ l
none_last None e = refl
none_last (Some o) e = absurd cc

pub last_found : (opens : List Open) (t : Ticket) (l : Option Open) → last_of opens ≡ l → option_map ticket_of l ≡ Some t → ((o : Open) → last_of opens ≡ Some o → open_at opens o.ticket ≡ Some o) → open_at opens t ≡ l
last_found opens t None is e found = absurd cc
last_found opens t (Some o) is e found = let same : o.ticket ≡ t = cc in ap (open_at opens) (sym same) ∙ found o is

-- ---- the answers

module _ (is : TheSetup) (k : Known) (ts : Tickets) where
  pub nothing : last_of ts.opens ≡ None → (a : Answer) → a ≡ answer None (still act.Nothing) → Answers is k ts input.Turn a
  nothing none = rests change.Stays tt _
      (λ s m sh. sym (ap (rules.on_turn s m.left.records m.opens (next_ticket m)) (ap (λ (os : List Open). last_of os) (sym (opens_seen s m sh)) ∙ none))) (λ s m. refl) (λ s m now sh. refl)
      (λ ready served. (tt, tt))

  pub asks_again : (txn : OpenTxn) → last_of ts.opens ≡ Some (open_of txn) → (a : Answer) → a ≡ answer_by 0 [] [] (requests is.number (act.Resent txn.ticket) (open_of txn)) → Answers is k ts input.Turn a
  asks_again txn last = rests (change.Sends txn.ticket) tt _
      (λ s m sh. ap (λ (n : ℕ). requests n (act.Resent txn.ticket) (open_of txn)) (sym sh.setup.number)
      ∙ sym (ap (rules.on_turn s m.left.records m.opens (next_ticket m)) (ap (λ (os : List Open). last_of os) (sym (opens_seen s m sh)) ∙ last)))
      (λ s m. refl) (λ s m now sh. refl)
      (λ ready served. (request_framed is.number k.tables (open_of txn) ready.counted ready.knows.resource (last_within (IsTicketWithin k.tables) ts.opens (open_of txn) ready.tickets last), tt))

pub turns_ok : (is : TheSetup) (ts : Tickets) (txn : OpenTxn) → last_of ts.opens ≡ Some (open_of txn) → (result : Result Answer NoMemory) → IfOk result (λ a. a ≡ answer_by 0 [] [] (requests is.number (act.Resent txn.ticket) (open_of txn)))
    → IfOk result (λ a. (k : Known) → Answers is k ts input.Turn a)
turns_ok is ts txn last (Ok a) given = λ k. asks_again is k ts txn last a given
turns_ok is ts txn last (Err n) given = tt
