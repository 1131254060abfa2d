-- Calls of a shelf one after the other: what they keep, and that each disk that was taken is given back, but those that are out.
use Rattle.std.proofs.Common.{◌≡◌, ◌⊎◌, ⊎_elim, inl, inr, ◌∙◌, ◌≤◌, ℕ, Bool, List, IsTrue, codes, length, length-append, ap, sym, subst, arith}
use Rattle.disk_model.specs.Disk.{DiskState}
use Rattle.disk_model.specs.Shelf.{IsGivenBack, KeepsOthers, SamePlaces, SameUnder, ShelfState}
use Rattle.disk_model.proofs.Named.{same_or_other}
use Rattle.disk_model.proofs.Taken.{next_since, taken_since}
use Rattle.scenario_nodes.specs.Nodes.{Holds, Server}
use Rattle.scenario_nodes.specs.Shelves.{AreGivenBack, AreNext, AreTaken, BackTell, HasDisk, IsDiskName, IsGivenIn, IsNext, ReturnsAll, ReturnsBut, second_name}
use Rattle.scenario_form.specs.declared.scenarios.Scenario.{Scenario}

pub still : (t u : Bool) → u ≡ t → IsTrue t → IsTrue u
still t u same told = subst (λ (v : Bool). IsTrue v) (sym same) told

-- a node's second disk has a name of its own
pub second_other : (name : List ℕ) → ¬ (second_name name ≡ name)
second_other name same = let longer = length-append name (codes ".2") in let here = ap length same in omega (arith, longer, here)

module _ {D : Type 0} where
  -- ---- what calls keep

  pub places_then : (a b c : ShelfState D) → SamePlaces a b → SamePlaces b c → SamePlaces a c
  places_then a b c one two n = ((λ here. (one n).0 ((two n).0 here)), (λ here. (two n).1 ((one n).1 here)))

  pub places_here : (a : ShelfState D) → SamePlaces a a
  places_here a n = ((λ here. here), (λ here. here))

  pub same_then : (n : List ℕ) (a b c : ShelfState D) → SameUnder n a b → SameUnder n b c → SameUnder n a c
  same_then n a b c one two disk = ((λ here. (one disk).0 ((two disk).0 here)), (λ here. (two disk).1 ((one disk).1 here)))

  pub keeps_then : (One Two Both : List ℕ → Type 0) (a b c : ShelfState D) → ((n : List ℕ) → One n → Both n) → ((n : List ℕ) → Two n → Both n) → KeepsOthers One a b → KeepsOthers Two b c → KeepsOthers Both a c
  keeps_then One Two Both a b c first second one two = record {
    places = λ n had. two.places n (one.places n had);
    made = λ n has. ⊎_elim (λ had. ⊎_elim (λ was. inl was) (λ its. inr (first n its)) (one.made n had)) (λ its. inr (second n its)) (two.made n has);
    others = λ n other. same_then n a b c (one.others n (λ its. other (first n its))) (two.others n (λ its. other (second n its)));
    unmoved = λ n other. two.unmoved n (λ its. other (second n its)) ∙ one.unmoved n (λ its. other (first n its));
    gives = λ n. let before = one.gives n in let after = two.gives n in omega (arith, before, after);
    faults = omega (arith, one.faults, two.faults);
    tells = two.tells ∙ one.tells;
  }

  pub keeps_wider : (One Both : List ℕ → Type 0) (a b : ShelfState D) → ((n : List ℕ) → One n → Both n) → KeepsOthers One a b → KeepsOthers Both a b
  keeps_wider One Both a b wider one = record {
    places = one.places;
    made = λ n has. ⊎_elim (λ was. inl was) (λ its. inr (wider n its)) (one.made n has);
    others = λ n other. one.others n (λ its. other (wider n its));
    unmoved = λ n other. one.unmoved n (λ its. other (wider n its));
    gives = one.gives;
    faults = one.faults;
    tells = one.tells;
  }

  -- ---- calls of a shelf

  -- no call was made
  pub all_same : (a : ShelfState D) → ReturnsAll a a
  all_same a = record { made = λ told n has. inl has; kept = λ told n had. had }

  -- what a call left under other names, and under its own
  pub everywhere : (name : List ℕ) (a b : ShelfState D) → SameUnder name a b → KeepsOthers (λ n. n ≡ name) a b → (n : List ℕ) → SameUnder n a b
  everywhere name a b same keeps n =
      ⊎_elim (λ is. subst (λ (m : List ℕ). SameUnder m a b) (sym is) same) (λ other. keeps.others n other) (same_or_other n name)

  -- a disk wasn't had
  pub none_made : (name : List ℕ) (a b : ShelfState D) → SamePlaces a b → SameUnder name a b → KeepsOthers (λ n. n ≡ name) a b → ReturnsAll a b
  none_made name a b places same keeps = record {
    made = λ told n has. inl ((places n).0 has);
    kept = λ told n had. (had.0, (everywhere name a b same keeps n had.0).1 had.1);
  }

  -- one was taken, and is out
  pub one_made : (name : List ℕ) (a b : ShelfState D) → KeepsOthers (λ n. n ≡ name) a b → ReturnsBut (λ n. n ≡ name) a b
  one_made name a b keeps = record {
    made = λ told n has. ⊎_elim (λ was. inl (inl was)) (λ its. inr its) (keeps.made n has);
    kept = λ told n had. ⊎_elim (λ is. inr is) (λ other. inl (had.0, (keeps.others n other had.0).1 had.1)) (same_or_other n name);
  }

  -- one was given back
  pub one_given : (name : List ℕ) (disk : D) (a b : ShelfState D) → SamePlaces a b → IsGivenBack b name disk → KeepsOthers (λ n. n ≡ name) a b → ReturnsAll a b
  one_given name disk a b places back keeps = record {
    made = λ told n has. inl ((places n).0 has);
    kept = λ told n had. ⊎_elim (λ is. subst (λ (m : List ℕ). HasDisk b m) (sym is) (disk, back.given (still a.tells b.tells keeps.tells told)))
        (λ other. (had.0, (keeps.others n other had.0).1 had.1)) (same_or_other n name);
  }

  -- both disks of a node were
  pub node_back : (old shelf : ShelfState D) (name : List ℕ) (disks : D × D) → AreGivenBack old shelf name disks → IsTrue shelf.tells → (n : List ℕ) → IsDiskName name n → HasDisk shelf n
  node_back old shelf name disks back told n named =
      ⊎_elim (λ first. subst (λ (m : List ℕ). HasDisk shelf m) (sym first) (disks.0, back.first.back.given told))
      (λ second. subst (λ (m : List ℕ). HasDisk shelf m) (sym second) (disks.1, back.second.back.given told)) named

  -- in a call that did more before
  pub given_since : (z a b : ShelfState D) (name : List ℕ) (disk : D) → a.tells ≡ z.tells → z.gives name ≤ a.gives name → IsGivenIn a b name disk → IsGivenIn z b name disk
  given_since z a b name disk tells rises given = record {
    back = given.back;
    counted = λ told. let rose = given.counted (still z.tells a.tells tells told) in omega (arith, rose, rises);
  }

  pub back_since : (Others : List ℕ → Type 0) (z a b : ShelfState D) (name : List ℕ) (disks : D × D) → KeepsOthers Others z a → AreGivenBack a b name disks → AreGivenBack z b name disks
  back_since Others z a b name disks keeps back = record {
    first = given_since z a b name disks.0 keeps.tells (keeps.gives name) back.first;
    second = given_since z a b (second_name name) disks.1 keeps.tells (keeps.gives (second_name name)) back.second;
  }

  -- what was given back in a part of a call was in the call
  pub back_tell_later : (state : D → DiskState) (Others : List ℕ → Type 0) (z a b : ShelfState D) → KeepsOthers Others z a → BackTell state z b → BackTell state a b
  back_tell_later state Others z a b keeps tell name disk given = tell name disk (given_since z a b name disk keeps.tells (keeps.gives name) given)

  -- ---- what a shelf gives next

  -- the same under a name
  pub is_next_since : (state : D → DiskState) (size : ℕ) (name x : List ℕ) (a b : ShelfState D) → SameUnder name a b → IsNext state a size name x → IsNext state b size name x
  is_next_since state size name x a b same next = record {
    has = next_since state (a.given_back name) (b.given_back name) size same x next.has;
    tells = λ disk taken. next.tells disk (taken_since state (b.given_back name) (a.given_back name) size (λ d. ((same d).1, (same d).0)) (state disk) taken);
  }

  -- and under both of a node
  pub are_next_since : (state : D → DiskState) (bytes : ℕ) (name x y : List ℕ) (a b : ShelfState D) → SameUnder name a b → SameUnder (second_name name) a b → AreNext state a bytes name x y → AreNext state b bytes name x y
  are_next_since state bytes name x y a b first second next = record {
    first = is_next_since state bytes name x a b first next.first;
    second = is_next_since state bytes (second_name name) y a b second next.second;
  }

  pub holds_since : (state : D → DiskState) (s : Scenario) (v : Server) (a b : ShelfState D) → SameUnder v.name a b → SameUnder (second_name v.name) a b → Holds state a s v → Holds state b s v
  holds_since state s v a b first second h = record {
    first = h.first;
    second = h.second;
    next = are_next_since state s.disk v.name h.first h.second a b first second h.next;
    stand = h.stand;
  }

  -- and the same back
  pub same_back : (n : List ℕ) (a b : ShelfState D) → SameUnder n a b → SameUnder n b a
  same_back n a b same disk = ((same disk).1, (same disk).0)

  pub are_taken_since : (state : D → DiskState) (bytes : ℕ) (name : List ℕ) (disks : D × D) (a b : ShelfState D) → SameUnder name a b → SameUnder (second_name name) a b → AreTaken state a bytes name disks
      → AreTaken state b bytes name disks
  are_taken_since state bytes name disks a b first second t = record {
    first = taken_since state (a.given_back name) (b.given_back name) bytes first (state disks.0) t.first;
    second = taken_since state (a.given_back (second_name name)) (b.given_back (second_name name)) bytes second (state disks.1) t.second;
  }

  -- ---- calls one after the other

  pub all_after : (a b c : ShelfState D) → b.tells ≡ a.tells → ReturnsAll a b → ReturnsAll b c → ReturnsAll a c
  all_after a b c same one two = record {
    made = λ told n has. ⊎_elim (λ had. ⊎_elim (λ was. inl was) (λ disk. inr (two.kept (still a.tells b.tells same told) n disk)) (one.made told n had))
        (λ disk. inr disk) (two.made (still a.tells b.tells same told) n has);
    kept = λ told n had. two.kept (still a.tells b.tells same told) n (one.kept told n had);
  }

  pub but_of_all : (out : List ℕ → Type 0) (a b : ShelfState D) → ReturnsAll a b → ReturnsBut out a b
  but_of_all out a b r = record { made = λ told n has. inl (r.made told n has); kept = λ told n had. inl (r.kept told n had) }

  -- the disks of more names may be out
  pub but_wider : (out wide : List ℕ → Type 0) (a b : ShelfState D) → ((n : List ℕ) → out n → wide n) → ReturnsBut out a b → ReturnsBut wide a b
  but_wider out wide a b more r = record {
    made = λ told n has. ⊎_elim (λ here. inl here) (λ taken. inr (more n taken)) (r.made told n has);
    kept = λ told n had. ⊎_elim (λ here. inl here) (λ taken. inr (more n taken)) (r.kept told n had);
  }

  pub but_after : (first second out : List ℕ → Type 0) (a b c : ShelfState D) → b.tells ≡ a.tells → ((n : List ℕ) → first n → out n) → ((n : List ℕ) → second n → out n)
      → ReturnsBut first a b → ReturnsBut second b c → ReturnsBut out a c
  but_after first second out a b c same one two r s = record {
    made = λ told n has. ⊎_elim (λ here. ⊎_elim (λ had. before told n had) (λ disk. inl (inr disk)) here) (λ taken. inr (two n taken)) (s.made (still a.tells b.tells same told) n has);
    kept = λ told n had. ⊎_elim (λ disk. later told n disk) (λ taken. inr (one n taken)) (r.kept told n had);
  }
    where
      later : IsTrue a.tells → (n : List ℕ) → HasDisk b n → HasDisk c n ⊎ out n
      later told n disk = ⊎_elim (λ here. inl here) (λ taken. inr (two n taken)) (s.kept (still a.tells b.tells same told) n disk)

      before : IsTrue a.tells → (n : List ℕ) → b.has_place n → (a.has_place n ⊎ HasDisk c n) ⊎ out n
      before told n had =
          ⊎_elim (λ here. ⊎_elim (λ was. inl (inl was)) (λ disk. ⊎_elim (λ still_there. inl (inr still_there)) (λ taken. inr taken) (later told n disk)) here)
          (λ taken. inr (one n taken)) (r.made told n had)

  -- the disks that were out were given back
  pub all_in : (out : List ℕ → Type 0) (a b c : ShelfState D) → b.tells ≡ a.tells → ReturnsBut out a b → ReturnsAll b c → (IsTrue a.tells → (n : List ℕ) → out n → HasDisk c n) → ReturnsAll a c
  all_in out a b c same r s back = record {
    made = λ told n has. ⊎_elim (λ had. before told n had) (λ disk. inr disk) (s.made (still a.tells b.tells same told) n has);
    kept = λ told n had. ⊎_elim (λ disk. s.kept (still a.tells b.tells same told) n disk) (λ taken. back told n taken) (r.kept told n had);
  }
    where
      before : IsTrue a.tells → (n : List ℕ) → b.has_place n → a.has_place n ⊎ HasDisk c n
      before told n had =
          ⊎_elim (λ here. ⊎_elim (λ was. inl was) (λ disk. inr (s.kept (still a.tells b.tells same told) n disk)) here) (λ taken. inr (back told n taken)) (r.made told n had)

  pub node_in : (name : List ℕ) (disks : D × D) (a b c : ShelfState D) → b.tells ≡ a.tells → c.tells ≡ b.tells → ReturnsBut (IsDiskName name) a b → ReturnsAll b c → AreGivenBack b c name disks → ReturnsAll a c
  node_in name disks a b c same still_told r s back =
      all_in (IsDiskName name) a b c same r s (λ told n named. node_back b c name disks back (still b.tells c.tells still_told (still a.tells b.tells same told)) n named)
