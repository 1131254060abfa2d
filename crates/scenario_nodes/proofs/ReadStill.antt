-- Disks that were taken, read and given back: the shelf gives next what it gave.
use Rattle.std.proofs.Common.{◌≡◌, ◌⊎◌, ⊎_elim, inl, inr, ◌∙◌, ℕ, Bool, true, false, IsTrue, List, Some, option_map, refl, sym, ap, subst}
use Rattle.std.proofs.lemmas.Bool.{false≢true}
use Rattle.disk_model.specs.Disk.{Content, DiskState, IsSettled, present}
use Rattle.disk_model.specs.Shelf.{IsTaken, KeepsOthers, OnlyTellersHave, SameUnder, ShelfState, taken_tells}
use Rattle.disk_model.proofs.Named.{same_or_other}
use Rattle.disk_journal.specs.Keeping.{OnlyReads}
use Rattle.disk_journal.proofs.Readings.{no_reads}
use Rattle.seata_types.specs.declared.ids.Place.{Place}
use Rattle.node_seat.specs.declared.faults.RunFault.{RunFault}
use Rattle.scenario_nodes.specs.Opening.{IsBackTaken, IsNotHad, IsUntouched}
use Rattle.scenario_nodes.specs.Reading.{GivesStill}
use Rattle.scenario_nodes.specs.Shelves.{IsDiskName, IsGivenIn, IsNext, second_name}
use Rattle.scenario_nodes.proofs.Holding.{bytes_of, next_given}
use Rattle.scenario_nodes.proofs.Returned.{is_next_since}

module _ {D : Type 0} (state : D → DiskState) (n : ℕ) where
  pub still_here : (a : ShelfState D) → GivesStill state n a a
  still_here a = record { next = λ name x next. next; settled = λ name d back. inl back }

  pub still_then : (a b c : ShelfState D) → GivesStill state n a b → GivesStill state n b c → GivesStill state n a c
  still_then a b c one two = record {
    next = λ name x next. two.next name x (one.next name x next);
    settled = λ name d back. ⊎_elim (λ was. one.settled name d was) (λ is. inr is) (two.settled name d back);
  }

  -- ---- under one name

  still_present : (one two : D) → OnlyReads (state one) (state two) → present (state two) ≡ present (state one)
  still_present one two reads = ap (option_map (λ (k : Content). k.present)) reads.content.content

  module _ (old new : ShelfState D) where
    record IsStill (name : List ℕ) : Type 0 where
      pub next : (x : List ℕ) → IsNext state old n name x → IsNext state new n name x
      pub settled : (d : D) → new.given_back name d → old.given_back name d ⊎ IsSettled (state d)

    -- nothing was done there
    same_still : (name : List ℕ) → SameUnder name old new → IsStill name
    same_still name same = record {
      next = λ x next. is_next_since state n name x old new same next;
      settled = λ d back. inl ((same d).0 back);
    }

    module _ (had : OnlyTellersHave old) (has : OnlyTellersHave new) (same : new.tells ≡ old.tells) where
      next_one : (name : List ℕ) (one two : D) → IsTaken state (old.given_back name) n (state one) → OnlyReads (state one) (state two)
          → IsGivenIn old new name two → (x : List ℕ) → IsNext state old n name x → IsNext state new n name x
      next_one name one two taken reads given x next = by new.tells refl
        where
          by : (tells : Bool) → new.tells ≡ tells → IsNext state new n name x
          by true told =
              let (c, is_c) = bytes_of (state one) (next.tells one taken) in
              let is : c ≡ x = taken_tells state (old.given_back name) n (state one) x c taken next.has is_c in
              let here : present (state two) ≡ Some x = still_present one two reads ∙ is_c ∙ ap Some is in
              next_given state new n name two x (given.back.given told) here
          by false silent =
              is_next_since state n name x old new
              (λ d. ((λ here. absurd (false≢true (sym silent ∙ has name d here))), (λ there. absurd (false≢true (sym silent ∙ same ∙ had name d there))))) next

      -- a disk was taken, read and given back
      read_still : (name : List ℕ) (one two : D) → IsTaken state (old.given_back name) n (state one) → OnlyReads (state one) (state two) → IsGivenIn old new name two → IsStill name
      read_still name one two taken reads given = record {
        next = next_one name one two taken reads given;
        settled = λ d back. inr (subst (λ (e : D). IsSettled (state e)) (sym (given.back.only d back)) (λ c left. still_present one two reads ∙ taken.settled c (reads.images.now c left)));
      }

      -- ---- under both names of a node

      both_still : (name : List ℕ) → KeepsOthers (IsDiskName name) old new → IsStill name → IsStill (second_name name) → GivesStill state n old new
      both_still name keeps first second = record {
        next = λ m x next. (at m).next x next;
        settled = λ m d back. (at m).settled d back;
      }
        where
          at : (m : List ℕ) → IsStill m
          at m = ⊎_elim (λ is. subst IsStill (sym is) first)
              (λ other. ⊎_elim (λ is. subst IsStill (sym is) second) (λ another. same_still m (keeps.others m (λ its. ⊎_elim other another its))) (same_or_other m (second_name name))) (same_or_other m name)

      -- both of its disks were read
      pub node_still : (name : List ℕ) → KeepsOthers (IsDiskName name) old new → (one two a b : D) → IsTaken state (old.given_back name) n (state one) → IsTaken state (old.given_back (second_name name)) n (state two)
          → OnlyReads (state one) (state a) → OnlyReads (state two) (state b) → IsGivenIn old new name a → IsGivenIn old new (second_name name) b → GivesStill state n old new
      node_still name keeps one two a b taken taken_two reads reads_two given given_two =
          both_still name keeps (read_still name one a taken reads given) (read_still (second_name name) two b taken_two reads_two given_two)

      -- they weren't had
      pub not_had_still : (name : List ℕ) → KeepsOthers (IsDiskName name) old new → (at : Place) (missed : RunFault) → IsNotHad state n at old new name missed → GivesStill state n old new
      not_had_still name keeps at missed refused =
          both_still name keeps
          (⊎_elim (λ (u : IsUntouched old new name). same_still name u.same)
          (λ (b : IsBackTaken state n old new name). read_still name b.disk b.disk b.taken (no_reads (state b.disk)) b.back) refused.first)
          (same_still (second_name name) refused.second.same)
