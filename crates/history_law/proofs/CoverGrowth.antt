-- What the messages said, and how branches ended, goes on while records and tickets only grow.
use Rattle.std.proofs.Common.{◌≡◌, ◌⊎◌, inl, inr, ℕ, true, List, Some}
use Rattle.seata_types.specs.declared.ids.Place.{Place}
use Rattle.seata_types.specs.declared.ids.Ticket.{Ticket}
use Rattle.seata_types.specs.declared.messages.Message.{Message}
use Rattle.seata_types.specs.declared.messages.Message.TheVariants as message
use Rattle.seata_types.specs.declared.messages.Registered.TheVariants as registered
use Rattle.seata_types.specs.declared.rows.RowKey.{RowKey}
use Rattle.seata_types.specs.declared.statuses.BranchKind.{BranchKind}
use Rattle.seata_types.specs.declared.statuses.BranchKind.TheVariants as kind
use Rattle.durable_records.specs.declared.coordinators.SessionRecord.{SessionRecord}
use Rattle.durable_records.specs.Transactions.{decided, is_commit, is_rollback}
use Rattle.durable_records.specs.Branches.{Grant, grants}
use Rattle.history_rules.specs.Own.{Left}
use Rattle.history_rules.specs.Nodes.{World, counted_at}
use Rattle.history_law.specs.Points.{In}
use Rattle.history_rules.specs.ResourceMemory.{Setup, Open, Memory}
use Rattle.history_law.specs.Tickets.{Names, Asks}
use Rattle.history_law.specs.Cover.{all_of, IsUndone, EndsWell, HasKind, SaysIn}
use Rattle.history_law.proofs.Branches.{in_all}

-- a property that a count of conflicts doesn't change
abbrev pub Steady : (Open → Type 0) → Type 0
Steady P = (o : Open) (k : ℕ) → P o → P (record o { conflicts = k })

pub record Grows (w : World) (tc : Left SessionRecord) (mem : ℕ → Setup → Memory) (tc' : Left SessionRecord) (mem' : ℕ → Setup → Memory) : Type 1 where
  pub grants_stay : (g : Grant) → In g (grants tc.records) → In g (grants tc'.records)
  pub commits_stay : (x : ℕ) → is_commit (decided tc.records x) ≡ true → is_commit (decided tc'.records x) ≡ true
  pub rollbacks_stay : (x : ℕ) → is_rollback (decided tc.records x) ≡ true → is_rollback (decided tc'.records x) ≡ true
  pub names_stay : (n : ℕ) (s : Setup) → counted_at w.resources n ≡ Some s → (t : Ticket) (P : Open → Type 0) → Steady P → Names (mem n s) t P → Names (mem' n s) t P
  pub undone_stays : (n : ℕ) (s : Setup) → counted_at w.resources n ≡ Some s → (g : Grant) → In g (grants (all_of tc)) → IsUndone (mem n s) g → IsUndone (mem' n s) g

-- what a Register asks for is the same whatever the count of conflicts
pub asks_steady : (x c : ℕ) (k : BranchKind) (hold check : List RowKey) → Steady (Asks x c k hold check)
asks_steady x c k hold check o n a = record { manager = a.manager; work = a.work; owner = a.owner; of_kind = a.of_kind; touched = a.touched; rows = a.rows }

module _ (w : World) (tc : Left SessionRecord) (mem : ℕ → Setup → Memory) (tc' : Left SessionRecord) (mem' : ℕ → Setup → Memory) (g : Grows w tc mem tc' mem') where
  pub says_grows : (from to : Place) (m : Message) → SaysIn w tc mem from to m → SaysIn w tc' mem' from to m
  says_grows from to (message.Register xid r c t k hold check) said = λ s is. g.names_stay r s is t (Asks xid.0 c k hold check) (asks_steady xid.0 c k hold check) (said s is)
  says_grows from to (message.RegisterAnswer t xid (registered.Granted b)) said = record {
    branch = said.branch;
    granted = g.grants_stay said.branch said.granted;
    number = said.number;
    receiver = said.receiver;
    ticket = said.ticket;
    asked = λ s is. g.names_stay said.branch.resource s is t (HasKind said.branch.kind) (λ o n p. p) (said.asked s is);
  }
  says_grows from to (message.RegisterAnswer t xid (registered.Conflict key holder rolling)) said = tt
  says_grows from to (message.RegisterAnswer t xid (registered.Closed status)) said = tt
  says_grows from to (message.RegisterAnswer t xid registered.Late) said = tt
  says_grows from to (message.BranchCommit xid b k manager c) said =
      (record { branch = said.0.branch; granted = g.grants_stay said.0.branch said.0.granted; xid = said.0.xid; number = said.0.number; place = said.0.place }, said.1, g.commits_stay xid.0 said.2)
  says_grows from to (message.BranchRollback xid b k manager c) said =
      (record { branch = said.0.branch; granted = g.grants_stay said.0.branch said.0.granted; xid = said.0.xid; number = said.0.number; place = said.0.place }, said.1, g.rollbacks_stay xid.0 said.2)
  says_grows from to (message.BranchRollbacked xid b st stmt) said =
      let s = said.said in record {
        status = said.status;
        said = record { branch = s.branch; granted = g.grants_stay s.branch s.granted; xid = s.xid; number = s.number; place = s.place };
        undone = λ k e q is. g.undone_stays s.branch.resource q is s.branch (in_all tc s.branch s.granted) (said.undone k e q is);
      }
  says_grows from to _ said = tt

  -- of endings: of the records before, and of those with the one in flight
  pub ends_grow : (rs : List SessionRecord) → ((h : Grant) → In h (grants rs) → In h (grants (all_of tc))) → EndsWell w tc mem rs → EndsWell w tc' mem' rs
  ends_grow rs sub ends x b e = by (ends x b e)
    where
      by : (is_commit (decided tc.records x) ≡ true)
          ⊎ ((h : Grant) × (In h (grants rs)) × (h.xid ≡ x) × (h.branch ≡ b) × (h.kind ≡ kind.At → (s : Setup) → counted_at w.resources h.resource ≡ Some s → IsUndone (mem h.resource s) h))
          → (is_commit (decided tc'.records x) ≡ true)
          ⊎ ((h : Grant) × (In h (grants rs)) × (h.xid ≡ x) × (h.branch ≡ b) × (h.kind ≡ kind.At → (s : Setup) → counted_at w.resources h.resource ≡ Some s → IsUndone (mem' h.resource s) h))
      by (inl c) = inl (g.commits_stay x c)
      by (inr f) = inr (f.0, f.1, f.2, f.3, λ k s is. g.undone_stays f.0.resource s is f.0 (sub f.0 f.1) (f.4 k s is))
