-- The two disks of a node, read by its store.
use Rattle.std.proofs.Common.{◌≡◌, ◌⊎◌, ⊎_elim, inl, inr, ℕ, List, length, Ok, Err, refl, sym, subst, ◌∙◌}
use Rattle.disk_model.specs.Disk.{Counts, DiskState, HasCause, Rose}
use Rattle.disk_journal.specs.Keeping.{OnlyReads}
use Rattle.disk_journal.proofs.Readings.{no_reads}
use Rattle.journal_checkpoint.specs.Keeping.{first_disk, second_disk}
use Rattle.memory_store.specs.Keeping.{IsDamage}
use Rattle.memory_store.specs.Openings.{ReadsDisks}
use Rattle.seata_types.specs.declared.errors.OpenError.{OpenError}
use Rattle.seata_types.specs.declared.errors.OpenError.TheVariants as why
use Rattle.seata_types.specs.declared.ids.Place.{Place}
use Rattle.seata_types.specs.declared.ids.Place.TheVariants as place
use Rattle.scenario_form.specs.declared.scenarios.ResourceDef.{ResourceDef}
use Rattle.scenario_form.specs.declared.scenarios.Scenario.{Scenario}
use Rattle.session_log.specs.declared.sessions.Snapshot.{Snapshot}
use Rattle.session_store.specs.declared.sessions.Sessions.{Sessions}
use Rattle.session_store.specs.Keeping as sessions
use Rattle.session_store.specs.Meaning as sessions_meaning
use Rattle.resource_memory.specs.Known.{Known}
use Rattle.resource_store.specs.declared.store.Store.{Store}
use Rattle.resource_store.specs.Keeping as store
use Rattle.resource_store.specs.Meaning.{Opens, Setting, meaning_of, setting}
use Rattle.node_seat.specs.Faults.{open_fault}
use Rattle.scenario_nodes.specs.Nodes.{Held, Server, coordinator_role, coordinator_server, resource_role, resource_server}
use Rattle.scenario_nodes.specs.Opening.{IsDamageOf}
use Rattle.scenario_nodes.specs.Reading.{ReadsTwo, SaysResource, SaysSessions}
use Rattle.scenario_nodes.proofs.ReadSound.{never_damaged}

-- ---- memory was refused before they were read

pub not_read : {D K : Type 0} (state : D → DiskState) (s : Scenario) (server : Held → Server) (Says : Held → K → Type 0) (at : Place) (one two : D) → ReadsTwo {K = K} state s server Says at one two (Err why.NoMemory, one, two)
not_read state s server Says at one two = record {
  says = tt;
  sound = tt;
  damaged = λ held a b is_a is_b. tt;
  recovers = λ held a b is_a is_b stand. tt;
  not_full = tt;
  failed = λ e. absurd (let no : why.NoMemory ≡ why.Failed = e in cc);
  first_reads = no_reads (state one);
  second_reads = no_reads (state two);
}

rose : (a b c d : Counts) → HasCause a b ⊎ HasCause c d → Rose a.faults b.faults ⊎ Rose c.faults d.faults
rose a b c d cause = ⊎_elim (λ (first : HasCause a b). inl first.fault) (λ (second : HasCause c d). inr second.fault) cause

module _ {D : Type 0} (state : D → DiskState) (s : Scenario) (one two : D) where
  -- ---- those of the coordinator

  abbrev managed : ℕ
  managed = length s.managers

  abbrev served : ℕ
  served = length s.resources

  sessions_damage : (held : Held) (a b : List ℕ) (e : OpenError) → IsDamage (sessions_meaning.meaning_of managed served) a b e → IsDamageOf s (coordinator_role s held) a b (open_fault place.Tc e)
  sessions_damage held a b why.Failed of = tt
  sessions_damage held a b (why.Damaged other offset) of = (refl, of)
  sessions_damage held a b (why.Full full) of = absurd of
  sessions_damage held a b why.NoMemory of = tt

  pub sessions_read : (k : Sessions D) (memory : Snapshot) (a b : D) → memory ≡ sessions.known k → a ≡ first_disk (sessions.twin k) → b ≡ second_disk (sessions.twin k)
      → sessions.KeepsEach state managed served one two (Ok k) → ReadsDisks state (sessions_meaning.meaning_of managed served) sessions.store_of one two (Ok k)
      → ReadsTwo state s (coordinator_server s) SaysSessions place.Tc one two (Ok memory, a, b)
  sessions_read k memory a b is first second keeps reads = record {
    says = λ held x y is_x is_y stand. let kept = keeps.keeps held.past.sessions x y is_x is_y stand.0 in record { is = is ∙ kept.knows; allowed = kept.list.made.allowed };
    sound = λ held x y is_x is_y. never_damaged state (sessions_meaning.meaning_of managed served) x y (sessions.store_of k) (reads.read x y is_x is_y);
    damaged = tt;
    recovers = tt;
    not_full = tt;
    failed = tt;
    first_reads = subst (λ (d : D). OnlyReads (state one) (state d)) (sym first) reads.first_reads;
    second_reads = subst (λ (d : D). OnlyReads (state two) (state d)) (sym second) reads.second_reads;
  }

  pub sessions_unread : (e : OpenError) (a b : D) → sessions.KeepsEach state managed served one two (Err (e, a, b)) → ReadsDisks state (sessions_meaning.meaning_of managed served) sessions.store_of one two (Err (e, a, b))
      → ReadsTwo state s (coordinator_server s) SaysSessions place.Tc one two (Err e, a, b)
  sessions_unread e a b keeps reads = record {
    says = tt;
    sound = tt;
    damaged = λ held x y is_x is_y. sessions_damage held x y e (reads.damaged x y is_x is_y);
    recovers = λ held x y is_x is_y stand. keeps.recovers held.past.sessions x y is_x is_y stand.0;
    not_full = reads.not_full;
    failed = λ is. rose _ _ _ _ (reads.failed is);
    first_reads = reads.first_reads;
    second_reads = reads.second_reads;
  }

  -- ---- those of a resource

  module _ (n : ℕ) (def : ResourceDef) (opens : Opens (setting n def.schema def.opening)) where
    abbrev its : Setting
    its = setting n def.schema def.opening

    abbrev server : Held → Server
    server held = resource_server s held (n, def)

    store_damage : (held : Held) (a b : List ℕ) (e : OpenError) → IsDamage (meaning_of its) a b e → IsDamageOf s (resource_role s held n def) a b (open_fault (place.Res n) e)
    store_damage held a b why.Failed of = tt
    store_damage held a b (why.Damaged other offset) of = (refl, of)
    store_damage held a b (why.Full full) of = absurd of
    store_damage held a b why.NoMemory of = tt

    pub store_read : (k : Store D) (memory : Known) (a b : D) → memory ≡ store.known k → a ≡ first_disk (store.twin k) → b ≡ second_disk (store.twin k)
        → store.KeepsEach state its one two (Ok k) → ReadsDisks state (meaning_of its) store.store_of one two (Ok k) → ReadsTwo state s server (SaysResource s (n, def)) (place.Res n) one two (Ok memory, a, b)
    store_read k memory a b is first second keeps reads = record {
      says = λ held x y is_x is_y stand. let kept = keeps.keeps (held.past.resource n) x y is_x is_y (stand opens).0 in record { is = is ∙ kept.knows; made = kept.list.made };
      sound = λ held x y is_x is_y. never_damaged state (meaning_of its) x y (store.store_of k) (reads.read x y is_x is_y);
      damaged = tt;
      recovers = tt;
      not_full = tt;
      failed = tt;
      first_reads = subst (λ (d : D). OnlyReads (state one) (state d)) (sym first) reads.first_reads;
      second_reads = subst (λ (d : D). OnlyReads (state two) (state d)) (sym second) reads.second_reads;
    }

    pub store_unread : (e : OpenError) (a b : D) → store.KeepsEach state its one two (Err (e, a, b)) → ReadsDisks state (meaning_of its) store.store_of one two (Err (e, a, b))
        → ReadsTwo state s server (SaysResource s (n, def)) (place.Res n) one two (Err e, a, b)
    store_unread e a b keeps reads = record {
      says = tt;
      sound = tt;
      damaged = λ held x y is_x is_y. store_damage held x y e (reads.damaged x y is_x is_y);
      recovers = λ held x y is_x is_y stand. keeps.recovers (held.past.resource n) x y is_x is_y (stand opens).0;
      not_full = reads.not_full;
      failed = λ is. rose _ _ _ _ (reads.failed is);
      first_reads = reads.first_reads;
      second_reads = reads.second_reads;
    }
