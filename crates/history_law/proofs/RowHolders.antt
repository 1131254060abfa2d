-- Who holds the rows of the local commits that aren't undone.
use Rattle.std.proofs.Common.{◌≡◌, ◌⊎◌, inl, inr, not, ℕ, Bool, true, false, List, Some, None, refl, ap, sym, subst, ◌∙◌}
use Rattle.seata_types.specs.declared.rows.RowKey.{RowKey}
use Rattle.seata_types.specs.declared.statuses.BranchKind.TheVariants as kind
use Rattle.durable_records.specs.declared.coordinators.SessionRecord.{SessionRecord}
use Rattle.durable_records.specs.declared.resources.ResourceRecord.{ResourceRecord}
use Rattle.durable_records.specs.declared.resources.ResourceRecord.TheVariants as resource_log
use Rattle.durable_records.specs.Transactions.{decided, is_commit}
use Rattle.durable_records.specs.Branches.{Grant, grants, is_ended}
use Rattle.durable_records.specs.Locks.{has_key, is_holding, holds_row, first_held}
use Rattle.durable_records.specs.UndoRecords.{Undo, undos, is_leg}
use Rattle.durable_records.specs.ResourceOrder.{image_keys}
use Rattle.durable_records.specs.RowsKept.{ByBranch, ByLocal, ByOutside, changes}
use Rattle.history_rules.specs.Own.{Left}
use Rattle.history_rules.specs.CoordinatorRules.{xid_of, branch_of}
use Rattle.history_rules.specs.ResourceMemory.{Setup, Memory}
use Rattle.history_rules.specs.Nodes.{World, counted_at}
use Rattle.history_rules.specs.Histories.{Moment}
use Rattle.history_law.specs.Points.{In}
use Rattle.history_law.specs.Cover.{all_of, IsUndone, Backs, CoversBy}
use Rattle.history_law.specs.OrderSafety.{AreSettled}
use Rattle.history_law.proofs.Tests.{true_false, and_both, false_not, find_none}
use Rattle.history_law.proofs.Branches.{one_branch}
use Rattle.history_law.proofs.Holders.{none_held}
use Rattle.history_law.proofs.BranchOrder.{no_branch_of_zero}
use Rattle.history_law.proofs.UndoRecords.{HasCommit, WithUndo, IsCleared, leg_of, change_has}

-- the branch that holds the rows of an undo record
pub record HeldBy (rs : List SessionRecord) (x b : ℕ) (key : RowKey) : Type 0 where
  pub branch : Grant
  pub there : In branch (grants rs)
  pub xid : branch.xid ≡ x
  pub number : branch.branch ≡ b
  pub holding : holds_row rs key branch ≡ true

module _ (w : World) (tc : Left SessionRecord) (mem : ℕ → Setup → Memory) (ms : List Moment) (c : CoversBy w tc mem ms) (n : ℕ) (s : Setup) (is : counted_at w.resources n ≡ Some s) where
  abbrev rs : List SessionRecord
  rs = tc.records

  abbrev me : Memory
  me = mem n s

  abbrev pub AnyUndo : Undo → Type 0
  AnyUndo v = In v (undos (mem n s).left.records) ⊎ In v (undos (all_of (mem n s).left))

  -- an undo record, also one in flight, is of a branch that isn't gone
  not_gone : (v : Undo) → AnyUndo v → (g : Grant) → g.xid ≡ v.xid → g.branch ≡ v.branch → IsUndone me g → ⊥
  not_gone v (inl j) g gx gb none = true_false (sym (leg_of v g.xid g.branch (sym gx) (sym gb)) ∙ find_none (is_leg g.xid g.branch) (undos me.left.records) v none.0.0 j)
  not_gone v (inr j) g gx gb none = true_false (sym (leg_of v g.xid g.branch (sym gx) (sym gb)) ∙ find_none (is_leg g.xid g.branch) (undos (all_of me.left)) v none.0.1 j)

  -- it is decided commit, or its branch holds its rows
  held_by : (key : RowKey) (v : Undo) → AnyUndo v → has_key (image_keys v.images) key ≡ true → (b : Backs rs n me v)
      → (ended committed : Bool) → is_ended rs b.branch.xid b.branch.branch ≡ ended → is_commit (decided rs b.branch.xid) ≡ committed
      → (is_commit (decided rs v.xid) ≡ true) ⊎ HeldBy rs v.xid v.branch key
  held_by key v j h b ended true e k = inl (subst (λ x. is_commit (decided rs x) ≡ true) b.xid k)
  held_by key v j h b false false e k = inr (record {
    branch = b.branch;
    there = b.granted;
    xid = b.xid;
    number = b.number;
    holding = and_both (has_key b.branch.hold key) (is_holding rs b.branch) (ap (λ ks. has_key ks key) (sym b.hold) ∙ h)
        (and_both (not (is_ended rs b.branch.xid b.branch.branch)) (not (is_commit (decided rs b.branch.xid)))
        (false_not (is_ended rs b.branch.xid b.branch.branch) e) (false_not (is_commit (decided rs b.branch.xid)) k));
  })
  held_by key v j h b true false e k = by (c.ended.0 b.branch.xid b.branch.branch e)
    where
      by : (is_commit (decided tc.records b.branch.xid) ≡ true)
          ⊎ ((g : Grant) × (In g (grants tc.records)) × (g.xid ≡ b.branch.xid) × (g.branch ≡ b.branch.branch)
          × (g.kind ≡ kind.At → (q : Setup) → counted_at w.resources g.resource ≡ Some q → IsUndone (mem g.resource q) g))
          → (is_commit (decided tc.records v.xid) ≡ true) ⊎ HeldBy tc.records v.xid v.branch key
      by (inl commits) = true_false (sym commits ∙ k)
      by (inr (g, there, gx, gb, undone)) =
          let same : g ≡ b.branch = one_branch tc.records c.allowed.0 g b.branch there b.granted gb in
          let here : g.resource ≡ n = ap (λ q. q.resource) same ∙ b.resource in
          let none = undone (ap (λ q. q.kind) same ∙ b.at) s (ap (counted_at w.resources) here ∙ is) in
          absurd (not_gone v j g (gx ∙ b.xid) (gb ∙ b.number) (subst (λ q. IsUndone (mem q s) g) here none))

  pub holder : (key : RowKey) (v : Undo) → AnyUndo v → has_key (image_keys v.images) key ≡ true → (is_commit (decided rs v.xid) ≡ true) ⊎ HeldBy rs v.xid v.branch key
  holder key v j h =
      let b = (c.at n s is).backed v j in
      held_by key v j h b (is_ended rs b.branch.xid b.branch.branch) (is_commit (decided rs b.branch.xid)) refl refl

  -- ---- a row that nobody holds

  module _ (keys : List RowKey) (key : RowKey) (free : first_held rs 0 keys ≡ None) (row : has_key keys key ≡ true) where
    held_settled : (x b : ℕ) → (is_commit (decided rs x) ≡ true) ⊎ HeldBy rs x b key → is_commit (decided rs x) ≡ true
    held_settled x b (inl commits) = commits
    held_settled x b (inr h) = absurd (no_branch_of_zero rs c.allowed.0 h.branch h.there (none_held rs 0 keys key h.branch free row h.there h.holding))

    commit_settled : (all : List ResourceRecord) → ((v : Undo) → In v (undos all) → AnyUndo v) → ((x b : ℕ) → In (resource_log.Cleared (xid_of x) (branch_of b)) all → is_commit (decided rs x) ≡ true)
        → (x b : ℕ) → HasCommit all x b key → is_commit (decided rs x) ≡ true
    commit_settled all undo cleared x b (WithUndo v j ex eb h) = subst (λ q. is_commit (decided rs q) ≡ true) ex (held_settled v.xid v.branch (holder key v (undo v j) h))
    commit_settled all undo cleared x b (IsCleared j) = cleared x b j

    -- its changes are settled
    pub row_settled : (all : List ResourceRecord) → ((v : Undo) → In v (undos all) → AnyUndo v) → ((x b : ℕ) → In (resource_log.Cleared (xid_of x) (branch_of b)) all → is_commit (decided rs x) ≡ true)
        → AreSettled rs (changes all key)
    row_settled all undo cleared (ByBranch x b before after) j = commit_settled all undo cleared x b (change_has x b before after key all j)
    row_settled all undo cleared (ByLocal after) j = tt
    row_settled all undo cleared (ByOutside after) j = tt
