-- The two disks of a node, taken, read and given back.
use Rattle.std.proofs.Common.{◌≡◌, ◌⊎◌, inl, inr, ℕ, All, slice_get, List, Some, Result, Ok, Err, refl, sym, subst, ◌∙◌, length}
use Rattle.std.proofs.lemmas.Option.{same_Some}
use Rattle.disk_model.specs.Disk.{DiskState, Rose, present}
use Rattle.disk_model.specs.Shelf.{KeepsOthers, OnlyTellersHave, ShelfState}
use Rattle.disk_journal.specs.Keeping.{OnlyReads}
use Rattle.memory_store.specs.Keeping.{IsNotFull}
use Rattle.memory_store.specs.Settling.{IsNoDamage}
use Rattle.seata_types.specs.declared.errors.OpenError.{OpenError}
use Rattle.seata_types.specs.declared.errors.OpenError.TheVariants as why
use Rattle.seata_types.specs.declared.ids.Place.{Place}
use Rattle.scenario_form.specs.Contents.{IsResource}
use Rattle.scenario_form.specs.Runnable.{IsRunnable}
use Rattle.scenario_form.specs.declared.scenarios.ResourceDef.{ResourceDef}
use Rattle.scenario_form.specs.declared.scenarios.Scenario.{Scenario}
use Rattle.history_rules.specs.Nodes.{Role, Coordinator, Resource, Manager}
use Rattle.journal_checkpoint.specs.Extents.{Extent}
use Rattle.resource_store.specs.Standing.{StandsForRecords}
use Rattle.node_steps.specs.Promises.{place_of}
use Rattle.resource_store.specs.Meaning.{Opens, setting}
use Rattle.node_seat.specs.declared.faults.RunFault.{RunFault}
use Rattle.node_seat.specs.Faults.{open_fault}
use Rattle.scenario_nodes.specs.Calls.{HasTypes}
use Rattle.scenario_nodes.specs.Nodes.{Held, Server, StandAs, store_setting}
use Rattle.scenario_nodes.specs.Opening.{HaveNoRecord, HoldSessions, IsDamageOf, IsItsFault, IsLoadFault, IsNotHad, ShowNoRecord, ShowsUnread}
use Rattle.scenario_nodes.specs.Reading.{AreSound, GivesStill, IsReadBack, ReadsNode, ReadsTwo, told_at}
use Rattle.scenario_nodes.specs.Shelves.{AreGivenBack, AreNext, AreTaken, HasBoth, IsDiskName, ReturnsAll, ReturnsBut, pair_of, second_name}
use Rattle.scenario_nodes.proofs.Holding.{bytes_of, failure_counted, next_first, next_second, rise_counted, stand_as}
use Rattle.scenario_nodes.proofs.NotOpened.{unread_back}
use Rattle.scenario_nodes.proofs.Passes.{placed}
use Rattle.scenario_nodes.proofs.Tables.{resource_opens}
use Rattle.scenario_nodes.proofs.ReadSound.{read_cause, shelf_cause}
use Rattle.scenario_nodes.proofs.ReadStill.{node_still, not_had_still}
use Rattle.scenario_nodes.proofs.Returned.{back_since, keeps_then, node_in}

-- the rows of a resource's setup are an opening of its tables
abbrev pub OpensAs : Role → Type 0
OpensAs (Resource setup past) = Opens (store_setting setup)
OpensAs _ = Unit {0}

-- those of the resource with a number
pub resource_opens_at : (s : Scenario) → IsRunnable s → (n k : ℕ) (def : ResourceDef) → slice_get s.resources k ≡ Some def → All HasTypes def.opening → Opens (setting n def.schema def.opening)
resource_opens_at s runs n k def there typed = resource_opens n def (placed IsResource s.resources k def there runs.resources) typed

-- ---- no record was written

module _ {D : Type 0} (state : D → DiskState) (shelf : ShelfState D) (s : Scenario) (v : Server) (opens : OpensAs v.role) (disks : D × D) (taken : AreTaken state shelf s.disk v.name disks) (a b : D)
    (first : OnlyReads (state disks.0) (state a)) (second : OnlyReads (state disks.1) (state b)) where
  none_written : (role : Role) (start : Extent) → OpensAs role → (x y : List ℕ) → present (state disks.0) ≡ Some x → present (state disks.1) ≡ Some y → StandAs s role start x y → HaveNoRecord role (pair_of state (a, b))
  none_written (Coordinator times past) start o x y is_x is_y stand = λ c d one two.
      subst (λ p. HoldSessions past p d) (same_Some x c (sym is_x ∙ taken.first.settled c (first.images.now c one)))
      (subst (λ q. HoldSessions past x q) (same_Some y d (sym is_y ∙ taken.second.settled d (second.images.now d two))) (length s.managers, length s.resources, stand.0))
  none_written (Resource setup past) start o x y is_x is_y stand = λ c d one two.
      subst (λ p. StandsForRecords (store_setting setup) past p d) (same_Some x c (sym is_x ∙ taken.first.settled c (first.images.now c one)))
      (subst (λ q. StandsForRecords (store_setting setup) past x q) (same_Some y d (sym is_y ∙ taken.second.settled d (second.images.now d two))) (stand o).0)
  none_written (Manager settings) start o x y is_x is_y stand = tt

  pub shows_none : ShowNoRecord state s shelf v (a, b)
  shows_none = (
    record { first = first.rest.kind.size ∙ taken.first.size; second = second.rest.kind.size ∙ taken.second.size },
    λ holds.
        let (x, is_x) = bytes_of (state disks.0) (holds.next.first.tells disks.0 taken.first) in
        let (y, is_y) = bytes_of (state disks.1) (holds.next.second.tells disks.1 taken.second) in
        none_written v.role v.start opens x y is_x is_y (stand_as state shelf s v disks taken x y is_x is_y holds),
  )

-- ---- on a shelf

module _ {D K : Type 0} (state : D → DiskState) (s : Scenario) (name : List ℕ) (server : Held → Server) (named : (held : Held) → name ≡ (server held).name) (opens : (held : Held) → OpensAs (server held).role) (at : Place)
    (placed : (held : Held) → place_of (server held).role ≡ at) (Says : Held → K → Type 0) (old before after : ShelfState D) (had : OnlyTellersHave old) (has : OnlyTellersHave after)
    (disks : D × D) (taken : AreTaken state old s.disk name disks) (both : HasBoth before name) (took : KeepsOthers (IsDiskName name) old before) (out : ReturnsBut (IsDiskName name) old before)
    (keeps : KeepsOthers (IsDiskName name) before after) (returned : ReturnsAll before after) where
  its : (held : Held) → AreTaken state old s.disk (server held).name disks
  its held = subst (λ (n : List ℕ). AreTaken state old s.disk n disks) (named held) taken

  keeps_all : KeepsOthers (IsDiskName name) old after
  keeps_all = keeps_then (IsDiskName name) (IsDiskName name) (IsDiskName name) old before after (λ n named. named) (λ n named. named) took keeps

  module _ (a b : D) (back : AreGivenBack before after name (a, b)) where
    returned_all : ReturnsAll old after
    returned_all = node_in name (a, b) old before after took.tells keeps.tells out returned back

    given : AreGivenBack old after name (a, b)
    given = back_since (IsDiskName name) old before after name (a, b) took back

    taken_both : HasBoth after name
    taken_both = record { first = keeps.places name both.first; second = keeps.places (second_name name) both.second }

    still : OnlyReads (state disks.0) (state a) → OnlyReads (state disks.1) (state b) → GivesStill state s.disk old after
    still first second = node_still state s.disk old after had has keeps_all.tells name keeps_all disks.0 disks.1 a b taken.first taken.second first second given.first given.second

    -- they were read
    module _ (memory : K) (reads : ReadsTwo state s server Says at disks.0 disks.1 (Ok memory, a, b)) where
      read_back : (held : Held) → IsReadBack state s old after (server held)
      read_back held = record {
        back = record {
          disks = (a, b);
          taken = subst (HasBoth after) (named held) taken_both;
          back = subst (λ (n : List ℕ). AreGivenBack old after n (a, b)) (named held) given;
          shows = shows_none state old s (server held) (opens held) disks (its held) a b reads.first_reads reads.second_reads;
        };
        next = λ x y next.
            let here = subst (λ (n : List ℕ). AreNext state old s.disk n x y) (sym (named held)) next in
            let same = still reads.first_reads reads.second_reads in
            subst (λ (n : List ℕ). AreNext state after s.disk n x y) (named held) (record { first = same.next name x here.first; second = same.next (second_name name) y here.second });
      }

      node_read : ReadsNode state s name server Says old after (Ok memory)
      node_read = record {
        says = λ held holds.
            let (x, is_x) = bytes_of (state disks.0) (holds.next.first.tells disks.0 (its held).first) in
            let (y, is_y) = bytes_of (state disks.1) (holds.next.second.tells disks.1 (its held).second) in
            reads.says held x y is_x is_y (stand_as state old s (server held) disks (its held) x y is_x is_y holds);
        sound = λ held x y next.
            let v = server held in
            let (c, is_c) = bytes_of (state disks.0) (next.first.tells disks.0 (its held).first) in
            let (d, is_d) = bytes_of (state disks.1) (next.second.tells disks.1 (its held).second) in
            subst (λ p. AreSound s v.role p y) (next_first state old s v disks (its held) c d is_c is_d x y next)
            (subst (λ q. AreSound s v.role c q) (next_second state old s v disks (its held) c d is_c is_d x y next) (reads.sound held c d is_c is_d));
        back = read_back;
        refused = tt;
        cause = tt;
        still = still reads.first_reads reads.second_reads;
        keeps = keeps_all;
        returned = returned_all;
      }

    -- they couldn't be
    module _ (e : OpenError) (reads : ReadsTwo {K = K} state s server Says at disks.0 disks.1 (Err e, a, b)) where
      blamed : (w : OpenError) → IsNoDamage w → IsNotFull w → (w ≡ why.Failed → Rose (state disks.0).counts.faults (state a).counts.faults ⊎ Rose (state disks.1).counts.faults (state b).counts.faults)
          → IsLoadFault at (pair_of state (a, b)) (open_fault at w)
      blamed why.Failed none room cause = (refl, rise_counted state a b (state disks.0).counts.faults (state disks.1).counts.faults (cause refl))
      blamed (why.Damaged other offset) none room cause = absurd none
      blamed (why.Full full) none room cause = absurd room
      blamed why.NoMemory none room cause = tt

      unread : (held : Held) → ShowsUnread state s old (open_fault at e) (server held) (a, b)
      unread held =
          let v = server held in record {
            blames = subst (λ (p : Place). IsItsFault p (pair_of state (a, b)) (open_fault at e)) (sym (placed held)) (failure_counted state at a b (state disks.0).counts.faults (state disks.1).counts.faults e reads.failed);
            damaged = λ x y next.
                let (c, is_c) = bytes_of (state disks.0) (next.first.tells disks.0 (its held).first) in
                let (d, is_d) = bytes_of (state disks.1) (next.second.tells disks.1 (its held).second) in
                subst (λ p. IsDamageOf s v.role p y (open_fault at e)) (next_first state old s v disks (its held) c d is_c is_d x y next)
                (subst (λ q. IsDamageOf s v.role c q (open_fault at e)) (next_second state old s v disks (its held) c d is_c is_d x y next) (reads.damaged held c d is_c is_d));
            cause = λ holds.
                let (c, is_c) = bytes_of (state disks.0) (holds.next.first.tells disks.0 (its held).first) in
                let (d, is_d) = bytes_of (state disks.1) (holds.next.second.tells disks.1 (its held).second) in
                subst (λ (p : Place). IsLoadFault p (pair_of state (a, b)) (open_fault at e)) (sym (placed held))
                (blamed e (reads.recovers held c d is_c is_d (stand_as state old s v disks (its held) c d is_c is_d holds)) reads.not_full reads.failed);
            unwritten = shows_none state old s v (opens held) disks (its held) a b reads.first_reads reads.second_reads;
          }

      node_unread : ReadsNode state s name server Says old after (Err (open_fault at e))
      node_unread = record {
        says = tt;
        sound = tt;
        back = tt;
        refused = λ held. inr (unread_back state s old before after (server held) name (open_fault at e) (open_fault at e) a b (named held) both took keeps back refl (unread held));
        cause = λ held. read_cause at (server held) (placed held) e reads.not_full;
        still = still reads.first_reads reads.second_reads;
        keeps = keeps_all;
        returned = returned_all;
      }

    pub node_told : (read : Result K OpenError) → ReadsTwo state s server Says at disks.0 disks.1 (read, a, b) → ReadsNode state s name server Says old after (told_at at read)
    node_told (Ok memory) reads = node_read memory reads
    node_told (Err e) reads = node_unread e reads

-- its disks weren't had
pub node_not_had : {D K : Type 0} (state : D → DiskState) (s : Scenario) (name : List ℕ) (server : Held → Server) (named : (held : Held) → name ≡ (server held).name) (at : Place)
    (placed : (held : Held) → place_of (server held).role ≡ at) (Says : Held → K → Type 0) (old new : ShelfState D) → OnlyTellersHave old → OnlyTellersHave new → (missed : RunFault)
    → IsNotHad state s.disk at old new name missed → KeepsOthers (IsDiskName name) old new → ReturnsAll old new → ReadsNode state s name server Says old new (Err missed)
node_not_had state s name server named at placed Says old new had has missed refused keeps returned = record {
  says = tt;
  sound = tt;
  back = tt;
  refused = λ held. inl (subst (λ (p : Place). IsNotHad state s.disk p old new (server held).name missed) (sym (placed held)) (subst (λ (n : List ℕ). IsNotHad state s.disk at old new n missed) (named held) refused));
  cause = λ held. shelf_cause at (server held) (placed held) old new missed refused.cause;
  still = not_had_still state s.disk old new had has keeps.tells name keeps at missed refused;
  keeps = keeps;
  returned = returned;
}
