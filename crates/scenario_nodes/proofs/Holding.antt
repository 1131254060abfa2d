-- What the disks that a shelf gives next hold.
use Rattle.std.proofs.Common.{inl, inr, ◌≡◌, ◌⊎◌, ◌≤◌, ◌+◌, ℕ, true, false, List, [], ◌∷◌, map, replicate, is_some, IsSome, Option, Some, None, option_map, refl, sym, subst, ◌∙◌, arith}
use Rattle.std.proofs.lemmas.List.Elements.{All-nil}
use Rattle.std.specs.List.{AllByRecursion}
use Rattle.disk_model.specs.Disk.{Content, DiskState, Rose, present}
use Rattle.disk_model.specs.Shelf.{ShelfState, taken_blank, taken_tells}
use Rattle.seata_types.specs.declared.errors.OpenError.{OpenError}
use Rattle.seata_types.specs.declared.errors.OpenError.TheVariants as why
use Rattle.seata_types.specs.declared.ids.Place.{Place}
use Rattle.scenario_form.specs.declared.scenarios.ResourceDef.{ResourceDef}
use Rattle.scenario_form.specs.declared.scenarios.Scenario.{Scenario}
use Rattle.scenario_form.specs.Runnable.{IsRunnable}
use Rattle.node_steps.specs.Durable.{own_faults}
use Rattle.coordinator_core.proofs.Blank.{blank_pair, nothing}
use Rattle.node_seat.specs.Faults.{open_fault}
use Rattle.scenario_nodes.specs.Nodes.{AreUnused, HoldAll, Holds, Server, StandAs, none_held, resource_server, servers_of}
use Rattle.scenario_nodes.specs.Opening.{IsItsFault}
use Rattle.scenario_nodes.specs.Shelves.{AreNext, AreTaken, BlanksTell, IsNext, pair_of, second_name}
use Rattle.scenario_nodes.specs.Together.{numbered}

present_some : (o : Option Content) → is_some o ≡ true → (x : List ℕ) × (option_map (λ (k : Content). k.present) o ≡ Some x)
present_some None told = absurd (let no : false ≡ true = told in cc)
present_some (Some k) told = (k.present, refl)

-- the bytes that a disk tells
pub bytes_of : (disk : DiskState) → IsSome disk.content → (x : List ℕ) × (present disk ≡ Some x)
bytes_of disk told = present_some disk.content told

some_present : (o : Option Content) (x : List ℕ) → option_map (λ (k : Content). k.present) o ≡ Some x → is_some o ≡ true
some_present None x is = absurd (let no : None ≡ Some x = is in cc)
some_present (Some k) x is = refl

-- a disk tells what it has
pub told_of : (disk : DiskState) (x : List ℕ) → present disk ≡ Some x → IsSome disk.content
told_of disk x is = some_present disk.content x is

-- a disk that was given back is the one that the shelf gives next
pub next_given : {D : Type 0} (state : D → DiskState) (shelf : ShelfState D) (size : ℕ) (name : List ℕ) (d : D) (x : List ℕ) → shelf.given_back name d → present (state d) ≡ Some x → IsNext state shelf size name x
next_given state shelf size name d x given is = record { has = inl (d, given, is); tells = λ disk taken. told_of (state disk) x (taken.resumed d given ∙ is) }

-- ---- what is taken is what the shelf holds

module _ {D : Type 0} (state : D → DiskState) (shelf : ShelfState D) (s : Scenario) (v : Server) (disks : D × D) (taken : AreTaken state shelf s.disk v.name disks)
    (a b : List ℕ) (is_a : present (state disks.0) ≡ Some a) (is_b : present (state disks.1) ≡ Some b) where
  pub next_first : (x y : List ℕ) → AreNext state shelf s.disk v.name x y → a ≡ x
  next_first x y next = taken_tells state (shelf.given_back v.name) s.disk (state disks.0) x a taken.first next.first.has is_a

  pub next_second : (x y : List ℕ) → AreNext state shelf s.disk v.name x y → b ≡ y
  next_second x y next = taken_tells state (shelf.given_back (second_name v.name)) s.disk (state disks.1) y b taken.second next.second.has is_b

  pub stand_as : Holds state shelf s v → StandAs s v.role v.start a b
  stand_as h =
      subst (λ x. StandAs s v.role v.start x b) (sym (next_first h.first h.second h.next))
      (subst (λ y. StandAs s v.role v.start h.first y) (sym (next_second h.first h.second h.next)) h.stand)

-- ---- blank disks

-- a shelf that was never used for a name gives it a blank disk
pub blank_next : {D : Type 0} (state : D → DiskState) (shelf : ShelfState D) (size : ℕ) → BlanksTell state size → (name : List ℕ) → ((d : D) → ¬ shelf.given_back name d) → IsNext state shelf size name (replicate size 0)
blank_next state shelf size blanks name none = record { has = inr (none, refl); tells = λ disk taken. blanks disk (taken_blank state (shelf.given_back name) size (state disk) none taken) }

module _ {D : Type 0} (state : D → DiskState) (shelf : ShelfState D) (s : Scenario) (large : 10 ≤ s.disk) (blanks : BlanksTell state s.disk) where
  -- and to a node two
  both_blank : (name : List ℕ) → ((d : D) → ¬ shelf.given_back name d) → ((d : D) → ¬ shelf.given_back (second_name name) d) → AreNext state shelf s.disk name (replicate s.disk 0) (replicate s.disk 0)
  both_blank name first second = record { first = blank_next state shelf s.disk blanks name first; second = blank_next state shelf s.disk blanks (second_name name) second }

  blank_resources : (n : ℕ) (defs : List ResourceDef) → AreUnused shelf (map (resource_server s none_held) (numbered n defs))
      → AllByRecursion (Holds state shelf s) (map (resource_server s none_held) (numbered n defs))
  blank_resources n [] unused = tt
  blank_resources n (def ∷ defs) unused = (
    record {
      first = replicate s.disk 0;
      second = replicate s.disk 0;
      next = both_blank def.name unused.0.0 unused.0.1;
      stand = λ opens. (
        record { found = nothing; pair = blank_pair s.disk large; list = record { records = refl; made = record { opens = opens; allowed = tt; writable = All-nil _; few = omega arith }; few = tt } },
        refl,
      );
    },
    blank_resources (n + 1) defs unused.1,
  )

  pub blank_hold : AreUnused shelf (servers_of s none_held) → HoldAll state shelf s none_held
  blank_hold unused = (
    record {
      first = replicate s.disk 0;
      second = replicate s.disk 0;
      next = both_blank _ unused.0.0 unused.0.1;
      stand = (
        record { found = nothing; pair = blank_pair s.disk large; list = record { records = refl; made = record { allowed = tt; within = refl; few = omega arith }; few = tt } },
        refl,
      );
    },
    blank_resources 1 s.resources unused.1,
  )

-- so it does for each scenario that can run
pub unused_hold : {D : Type 0} (state : D → DiskState) (shelf : ShelfState D) (s : Scenario) → IsRunnable s → BlanksTell state s.disk → AreUnused shelf (servers_of s none_held) → HoldAll state shelf s none_held
unused_hold state shelf s runs blanks unused = let least = runs.set.disk.0 in blank_hold state shelf s (omega (arith, least)) blanks unused

-- ---- faults

-- a fault of one of two disks was counted
pub rise_counted : {D : Type 0} (state : D → DiskState) (one two : D) (before other : ℕ) → Rose before (state one).counts.faults ⊎ Rose other (state two).counts.faults
    → 1 ≤ own_faults (pair_of state (one, two))
rise_counted state one two before other (inl rose) = omega (arith, rose)
rise_counted state one two before other (inr rose) = omega (arith, rose)

-- so it was where an opening failed, and each fault names the node
pub failure_counted : {D : Type 0} (state : D → DiskState) (at : Place) (one two : D) (before other : ℕ) (e : OpenError)
    → (e ≡ why.Failed → Rose before (state one).counts.faults ⊎ Rose other (state two).counts.faults) → IsItsFault at (pair_of state (one, two)) (open_fault at e)
failure_counted state at one two before other why.Failed cause = (refl, rise_counted state one two before other (cause refl))
failure_counted state at one two before other (why.Damaged second offset) cause = refl
failure_counted state at one two before other (why.Full full) cause = refl
failure_counted state at one two before other why.NoMemory cause = tt
