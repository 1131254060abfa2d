-- What a shelf in memory gives: the disk that was given back, or a new one. What it keeps then.
use Rattle.std.proofs.Common.{◌≡◌, ◌≢◌, ◌⊎◌, ◌↔◌, ◌≤◌, ◌∙◌, ℕ, List, Option, Some, None, IsSome, Result, Ok, Err, OnErr, length, inl, inr, refl, sym, ap, subst, arith}
use Rattle.disk_model.specs.declared.shelf.MemShelf.{MemShelf}
use Rattle.disk_model.specs.Disk.{DiskState}
use Rattle.disk_model.specs.Memory.{Memory, settled, new_memory, memory_state}
use Rattle.disk_model.specs.Places.{place, disk_in, gives_in, emptied, shelf_state}
use Rattle.disk_model.specs.Shelf.{IsOut, IsTaken, KeepsOthers, SamePlaces, SameUnder, TakenAs}
use Rattle.disk_model.proofs.Images.{memory_settled, new_blank}
use Rattle.disk_model.proofs.Named.{same_or_other}

-- ---- the disk

pub one_back : (old d : Memory) (there : Option Memory) → there ≡ Some old → there ≡ Some d → d ≡ old
one_back old d there a b = let e : Some d ≡ Some old = sym b ∙ a in cc

pub none_there : (there : Option Memory) → there ≡ None → (d : Memory) → ¬ (there ≡ Some d)
none_there there none d is = let e : None ≡ Some d = sym none ∙ is in cc

module _ (before : Memory → Type 0) (n : ℕ) where
  pub resumed : (old disk : Memory) → ((d : Memory) → before d → d ≡ old) → before old → length old.present ≡ n → disk ≡ settled old → IsTaken memory_state before n (memory_state disk)
  resumed old disk one was sized is = subst (λ (z : Memory). IsTaken memory_state before n (memory_state z)) (sym is) (record {
    size = sized;
    sized = λ d given. ap (λ (z : Memory). length z.present) (one d given) ∙ sized;
    resumed = λ d given. ap (λ (z : Memory). Some z.present) (sym (one d given));
    zero = λ none c there. absurd (none old was);
    settled = memory_settled old;
    no_fault = refl;
  })

  pub fresh : (disk : Memory) → disk ≡ new_memory n → ((d : Memory) → ¬ before d) → IsTaken memory_state before n (memory_state disk)
  fresh disk is none = subst (λ (z : Memory). IsTaken memory_state before n (memory_state z)) (sym is) (record {
    size = (new_blank n).size;
    sized = λ d given. absurd (none d given);
    resumed = λ d given. absurd (none d given);
    zero = λ _. (new_blank n).zero;
    settled = (new_blank n).settled;
    no_fault = refl;
  })

-- what was given back under a name is what was before
module _ {D : Type 0} (state : D → DiskState) (before after : D → Type 0) (n : ℕ) (same : (d : D) → after d ↔ before d) where
  pub taken_since : (disk : DiskState) → IsTaken state before n disk → IsTaken state after n disk
  taken_since disk taken = record {
    size = taken.size;
    sized = λ d given. taken.sized d ((same d).0 given);
    resumed = λ d given. taken.resumed d ((same d).0 given);
    zero = λ none. taken.zero (λ d given. none d ((same d).1 given));
    settled = taken.settled;
    no_fault = taken.no_fault;
  }

  pub next_since : (bytes : List ℕ) → TakenAs state before n bytes → TakenAs state after n bytes
  next_since bytes (inl (d, given, is)) = inl (d, (same d).1 given, is)
  next_since bytes (inr (none, zero)) = inr ((λ d given. none d ((same d).0 given)), zero)

-- ---- the shelf

pub on_err : {A E : Type 0} (r : Result A E) (P : Type 0) → P → OnErr r P
on_err (Ok a) P p = tt
on_err (Err e) P p = p

-- nothing is changed
module _ (a b : MemShelf) (same : (n : List ℕ) → place n b ≡ place n a) where
  pub same_places : SamePlaces (shelf_state a) (shelf_state b)
  same_places n = (λ has. subst IsSome (same n) has, λ has. subst IsSome (sym (same n)) has)

  pub same_under : (n : List ℕ) → SameUnder n (shelf_state a) (shelf_state b)
  same_under n disk = (λ is. ap disk_in (sym (same n)) ∙ is, λ is. ap disk_in (same n) ∙ is)

  pub same_keeps : (name : List ℕ) → a.faults ≤ b.faults → KeepsOthers (λ n. n ≡ name) (shelf_state a) (shelf_state b)
  same_keeps name faults = record {
    places = λ n. (same_places n).1;
    made = λ n has. inl ((same_places n).0 has);
    others = λ n _. same_under n;
    unmoved = λ n _. ap gives_in (same n);
    gives = λ n. let e = ap gives_in (same n) in omega (arith, e);
    faults = faults;
    tells = refl;
  }

-- the disk of a name is out
module _ (name : List ℕ) (a b : MemShelf) (out : place name b ≡ Some (emptied (place name a))) (others : (n : List ℕ) → n ≢ name → place n b ≡ place n a) where
  pub is_out : IsOut name (shelf_state b)
  is_out = record {
    place = subst IsSome (sym out) refl;
    none = λ disk back. let e : None ≡ Some disk = sym (ap disk_in out) ∙ back in absurd cc;
  }

  gives_stay : (n : List ℕ) → (n ≡ name) ⊎ (n ≢ name) → gives_in (place n b) ≡ gives_in (place n a)
  gives_stay n (inl same) = subst (λ m. gives_in (place m b) ≡ gives_in (place m a)) (sym same) (ap gives_in out)
  gives_stay n (inr other) = ap gives_in (others n other)

  stays : (n : List ℕ) → (n ≡ name) ⊎ (n ≢ name) → IsSome (place n a) → IsSome (place n b)
  stays n (inl same) had = subst (λ m. IsSome (place m b)) (sym same) is_out.place
  stays n (inr other) had = subst IsSome (sym (others n other)) had

  was : (n : List ℕ) → (n ≡ name) ⊎ (n ≢ name) → IsSome (place n b) → IsSome (place n a) ⊎ (n ≡ name)
  was n (inl same) has = inr same
  was n (inr other) has = inl (subst IsSome (others n other) has)

  pub out_keeps : a.faults ≤ b.faults → KeepsOthers (λ n. n ≡ name) (shelf_state a) (shelf_state b)
  out_keeps faults = record {
    places = λ n. stays n (same_or_other n name);
    made = λ n. was n (same_or_other n name);
    others = λ n other disk. (λ is. ap disk_in (sym (others n other)) ∙ is, λ is. ap disk_in (others n other) ∙ is);
    unmoved = λ n other. ap gives_in (others n other);
    gives = λ n. let e = gives_stay n (same_or_other n name) in omega (arith, e);
    faults = faults;
    tells = refl;
  }
