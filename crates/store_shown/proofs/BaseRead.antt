-- The disk `net`, taken, read and given back.
use Rattle.std.proofs.Common.{◌≡◌, ◌⊎◌, inl, inr, ◌∙◌, ℕ, Bool, true, false, IsTrue, List, Option, Some, Result, Ok, Err, IfErr, IfOk, refl, sym, ap, subst, arith}
use Rattle.std.proofs.lemmas.Bool.{false≢true}
use Rattle.disk_model.specs.Disk.{DiskState, HasCause, Rose, present}
use Rattle.disk_model.specs.Shelf.{IsGivenBack, IsTaken, KeepsOthers, OnlyTellersHave, SamePlaces, SameUnder, ShelfState, taken_tells}
use Rattle.disk_journal.specs.Keeping.{IsDamageIn, OnlyReads, StandsFor}
use Rattle.disk_journal.specs.declared.errors.JournalError.{JournalError}
use Rattle.disk_journal.specs.declared.errors.JournalError.TheVariants as why
use Rattle.disk_journal.proofs.Readings.{still_present}
use Rattle.seata_types.specs.declared.ids.Place.TheVariants as place
use Rattle.seata_types.specs.declared.limits.TheConstants.{SCENARIO_DISK}
use Rattle.node_seat.specs.declared.faults.RunFault.{RunFault}
use Rattle.node_seat.specs.declared.faults.RunFault.TheVariants as fault
use Rattle.scenario_nodes.specs.Opening.{IsShelfFault}
use Rattle.scenario_nodes.specs.Shelves.{HasDisk, IsGivenIn}
use Rattle.scenario_nodes.proofs.Holding.{bytes_of, next_given}
use Rattle.scenario_nodes.proofs.Returned.{all_in, given_since, is_next_since, keeps_then, none_made, one_given, one_made, still}
use Rattle.base_shelf.specs.Keeping.{NetIs, net_name}
use Rattle.store_shown.specs.Bases.{IsReadFault, IsTextFault, IsUnreadBack, NetHolds, ReadsBase, ReadsText, fault_of}
use Rattle.store_shown.specs.Texts.{IsKeptIn}

-- ---- the disk alone

module _ (disk after : DiskState) (reads : OnlyReads disk after) where
  -- it was no journal, or couldn't be read
  pub not_opened : (e : JournalError) → ((c : List ℕ) → present disk ≡ Some c → IsDamageIn 0 c e) → (e ≡ why.Failed → HasCause disk.counts after.counts) → ReadsText disk after (Err (fault_of e))
  not_opened e damaged failed = record { reads = tt; refused = by e damaged failed; only_reads = reads }
    where
      by : (e : JournalError) → ((c : List ℕ) → present disk ≡ Some c → IsDamageIn 0 c e) → (e ≡ why.Failed → HasCause disk.counts after.counts) → IsTextFault disk after (fault_of e)
      by why.Failed damaged failed = (refl, failed refl)
      by (why.Damaged at) damaged failed = (refl, refl, damaged)
      by why.NoMemory damaged failed = tt

  -- it was read
  pub text_told : (records : List (List ℕ)) (read : Result (Option (List ℕ)) RunFault) → ((c : List ℕ) → present disk ≡ Some c → StandsFor 0 records c) → IfOk read (IsKeptIn records) → IfErr read (λ missed. missed ≡ fault.NoMemory)
      → ReadsText disk after read
  text_told records (Ok found) stands kept refused = record {
    reads = λ bytes told. record { records = records; stand = stands bytes told; is = kept };
    refused = tt;
    only_reads = reads;
  }
  text_told records (Err missed) stands kept refused = record { reads = tt; refused = subst (IsTextFault disk after) (sym refused) tt; only_reads = reads }

-- ---- on a shelf

-- it wasn't had
pub no_base : {D : Type 0} (state : D → DiskState) (old new : ShelfState D) (missed : RunFault) → IsShelfFault place.Net old new missed → SamePlaces old new → SameUnder net_name old new → KeepsOthers (λ n. n ≡ net_name) old new
    → ReadsBase state old new (Err missed)
no_base state old new missed cause places same keeps = record {
  reads = tt;
  refused = inl cause;
  still = λ bytes next. is_next_since state SCENARIO_DISK net_name bytes old new same next;
  keeps = keeps;
  returned = none_made net_name old new places same keeps;
}

module _ {D : Type 0} (state : D → DiskState) (old mid new : ShelfState D) (before disk : D) (had_law : OnlyTellersHave old) (has_law : OnlyTellersHave new)
    (taken : IsTaken state (old.given_back net_name) SCENARIO_DISK (state before)) (took : KeepsOthers (λ n. n ≡ net_name) old mid)
    (back : IsGivenBack new net_name disk) (counted : IsTrue mid.tells → Rose (mid.gives net_name) (new.gives net_name)) (places : SamePlaces mid new) (gave : KeepsOthers (λ n. n ≡ net_name) mid new)
    (read : Result (Option (List ℕ)) RunFault) (r : ReadsText (state before) (state disk) read) where
  -- the bytes that were taken
  had : (bytes : List ℕ) → NetIs state old bytes → present (state before) ≡ Some bytes
  had bytes next =
      let (c, is_c) = bytes_of (state before) (next.tells before taken) in
      is_c ∙ ap (λ (b : List ℕ). Some b) (taken_tells state (old.given_back net_name) SCENARIO_DISK (state before) bytes c taken next.has is_c)

  tells_still : IsTrue old.tells → IsTrue new.tells
  tells_still told = still mid.tells new.tells gave.tells (still old.tells mid.tells took.tells told)

  stays : (bytes : List ℕ) → NetIs state old bytes → NetIs state new bytes
  stays bytes next = by new.tells refl
    where
      by : (tells : Bool) → new.tells ≡ tells → NetIs state new bytes
      by true told = next_given state new SCENARIO_DISK net_name disk bytes (back.given told) (still_present bytes r.only_reads (had bytes next))
      by false silent =
          is_next_since state SCENARIO_DISK net_name bytes old new
          (λ d. ((λ here. absurd (false≢true (sym silent ∙ has_law net_name d here))), (λ there. absurd (false≢true (sym silent ∙ tells_still (had_law net_name d there)))))) next

  reads_as : (a : Result (Option (List ℕ)) RunFault) → ReadsText (state before) (state disk) a
      → IfOk a (λ found. NetHolds state old (λ records. IsKeptIn records found))
  reads_as (Ok found) t = λ bytes next. t.reads bytes (had bytes next)
  reads_as (Err missed) t = tt

  cause : (missed : RunFault) → IsTextFault (state before) (state disk) missed → IsReadFault state old (state disk) missed
  cause (fault.Store at) why = (why.0, let rose = why.1.fault in omega (arith, rose))
  cause (fault.Damaged at second offset) why = (why.0, why.1, λ bytes next. why.2 bytes (had bytes next))
  cause fault.NoMemory why = tt
  cause (fault.Full at full) why = absurd why
  cause fault.Other why = absurd why

  given : IsGivenIn old new net_name disk
  given = given_since old mid new net_name disk took.tells (took.gives net_name) (record { back = back; counted = counted })

  refused_as : (a : Result (Option (List ℕ)) RunFault) → ReadsText (state before) (state disk) a → IfErr a (λ missed. IsShelfFault place.Net old new missed ⊎ IsUnreadBack state old new missed)
  refused_as (Ok found) t = tt
  refused_as (Err missed) t = inr (record { disk = disk; back = given; cause = cause missed t.refused })

  pub base_read : ReadsBase state old new read
  base_read = record {
    reads = reads_as read r;
    refused = refused_as read r;
    still = stays;
    keeps = keeps_then (λ n. n ≡ net_name) (λ n. n ≡ net_name) (λ n. n ≡ net_name) old mid new (λ n its. its) (λ n its. its) took gave;
    returned = all_in (λ n. n ≡ net_name) old mid new took.tells (one_made net_name old mid took) (one_given net_name disk mid new places back gave)
        (λ told n same. subst (HasDisk new) (sym same) (disk, back.given (tells_still told)));
  }
