use Rattle.std.proofs.Common.{◌≡◌, ◌∙◌, ⊎_elim, List, ℕ, Err, inl, inr, refl, ap, sym, subst, arith}
use Rattle.disk_model.specs.Disk.{Rose}
use Rattle.disk_model.specs.declared.errors.ShelfError.{ShelfError}
use Rattle.disk_model.specs.declared.errors.ShelfError.TheVariants as shelf
use Rattle.disk_model.specs.Shelf.{IsTaken, KeepsOthers, SamePlaces, SameUnder, ShelfState}
use Rattle.disk_model.proofs.Taken.{taken_since}
use Rattle.seata_types.specs.declared.ids.Place.{Place}
use Rattle.node_seat.specs.declared.faults.RunFault.{RunFault}
use Rattle.node_seat.specs.declared.faults.RunFault.TheVariants as fault
use Rattle.scenario_nodes.specs.Opening.{IsShelfFault, IsUntouched}
use Rattle.scenario_nodes.specs.Shelves.{HasDisk, IsDiskName, second_name}
use Rattle.scenario_nodes.proofs.Returned.{all_after, all_in, but_after, everywhere, given_since, none_made, one_given, one_made, same_back, same_then, second_other, still}
use Rattle.scenario_nodes.proofs.disks.take_disks.Goals as goal

pub returns-in-Ok-take-clause-taken : goal.returns-in-Ok-take-clause-taken
returns-in-Ok-take-clause-taken g c =
    let before = g.H.Shelf.state c.args.shelf.now in
    let one = g.H.Shelf.state c.take.new.self in
    let state = g.H.D.Disk.state in
    let name = c.args.first.now in
    let other = second_name name in
    let here = subst (λ n. IsTaken state (one.given_back n) c.args.size (state c.in-Ok-take.other)) c.requires.second c.in-Ok-take.ensures.taken in record {
      first = c.in-Ok.ensures.taken;
      second = taken_since state (one.given_back other) (before.given_back other) c.args.size (same_back other before one (c.take.ensures.keeps.others other (second_other name))) (state c.in-Ok-take.other) here;
    }

pub returns-in-Ok-take-clause-both : goal.returns-in-Ok-take-clause-both
returns-in-Ok-take-clause-both g c = record {
  first = c.take-2.ensures.keeps.places c.args.first.now c.in-Ok.ensures.out.place;
  second = subst (g.H.Shelf.state c.take-2.new.self).has_place c.requires.second c.in-Ok-take.ensures.out.place;
}

pub returns-in-Err-take-clause-returned : goal.returns-in-Err-take-clause-returned
returns-in-Err-take-clause-returned g c =
    let before = g.H.Shelf.state c.args.shelf.now in
    let one = g.H.Shelf.state c.take.new.self in
    let two = g.H.Shelf.state c.take-2.new.self in
    let after = g.H.Shelf.state c.give.new.self in
    let name = c.args.first.now in
    let back = c.give.ensures.back (c.take-2.ensures.keeps.places name c.in-Ok.ensures.out.place) in
    let tells = c.give.ensures.keeps.tells ∙ c.take-2.ensures.keeps.tells ∙ c.take.ensures.keeps.tells in
    all_in (λ n. n ≡ name) before one after c.take.ensures.keeps.tells (one_made name before one c.take.ensures.keeps)
    (all_after one two after c.take-2.ensures.keeps.tells (none_made c.args.second.now one two c.in-Err-take.ensures.none c.in-Err-take.ensures.kept c.take-2.ensures.keeps)
    (one_given name c.in-Ok.disk two after c.give.ensures.places back c.give.ensures.keeps))
    (λ told n same. subst (HasDisk after) (sym same) (c.in-Ok.disk, back.given (still before.tells after.tells tells told)))

pub returns-in-Err-clause-returned : goal.returns-in-Err-clause-returned
returns-in-Err-clause-returned g c =
    none_made c.args.first.now (g.H.Shelf.state c.args.shelf.now) (g.H.Shelf.state c.take.new.self) c.in-Err.ensures.none c.in-Err.ensures.kept c.take.ensures.keeps

pub returns-in-Ok-take-clause-out : goal.returns-in-Ok-take-clause-out
returns-in-Ok-take-clause-out g c =
    let first = c.args.first.now in
    let second = c.args.second.now in
    let before = g.H.Shelf.state c.args.shelf.now in
    let one = g.H.Shelf.state c.take.new.self in
    let two = g.H.Shelf.state c.take-2.new.self in
    but_after (λ n. n ≡ first) (λ n. n ≡ second) (IsDiskName first) before one two c.take.ensures.keeps.tells (λ n its. inl its) (λ n its. inr (its ∙ c.requires.second))
    (one_made first before one c.take.ensures.keeps) (one_made second one two c.take-2.ensures.keeps)

-- a disk wasn't had by the shelf's fault, which was counted, or for want of memory
why : {D : Type 0} (at : Place) (old new : ShelfState D) (error : ShelfError) (missed : RunFault) → (error ≡ shelf.Failed → missed ≡ fault.Store at) → (error ≡ shelf.NoMemory → missed ≡ fault.NoMemory)
    → (error ≡ shelf.Failed → Rose old.faults new.faults) → IsShelfFault at old new missed
why at old new shelf.Failed missed store memory rose = subst (IsShelfFault at old new) (sym (store refl)) (refl, rose refl)
why at old new shelf.NoMemory missed store memory rose = subst (IsShelfFault at old new) (sym (memory refl)) tt

-- nothing was done under a name
by_none : {D : Type 0} (a b : ShelfState D) (name n : List ℕ) → SamePlaces a b → SameUnder name a b → KeepsOthers (λ m. m ≡ name) a b → IsUntouched a b n
by_none a b name n places same keeps = record { not_made = λ has. (places n).0 has; same = everywhere name a b same keeps n }

-- the first disk wasn't had
pub returns-in-Err-clause-refused : goal.returns-in-Err-clause-refused
returns-in-Err-clause-refused g c =
    let before = g.H.Shelf.state c.args.shelf.now in
    let one = g.H.Shelf.state c.take.new.self in
    let name = c.args.first.now in
    record {
      cause = why c.args.place before one c.in-Err.error c.shelf_fault.result c.shelf_fault.ensures.store c.shelf_fault.ensures.memory (λ failed. c.take.ensures.failed (c.in-Err.is ∙ ap Err failed));
      first = inl (by_none before one name name c.in-Err.ensures.none c.in-Err.ensures.kept c.take.ensures.keeps);
      second = by_none before one name (second_name name) c.in-Err.ensures.none c.in-Err.ensures.kept c.take.ensures.keeps;
    }

-- or it was given back
pub returns-in-Err-take-clause-refused : goal.returns-in-Err-take-clause-refused
returns-in-Err-take-clause-refused g c =
    let before = g.H.Shelf.state c.args.shelf.now in
    let one = g.H.Shelf.state c.take.new.self in
    let two = g.H.Shelf.state c.take-2.new.self in
    let after = g.H.Shelf.state c.give.new.self in
    let name = c.args.first.now in
    let other = second_name name in
    let untouched : IsUntouched one two other = by_none one two c.args.second.now other c.in-Err-take.ensures.none c.in-Err-take.ensures.kept c.take-2.ensures.keeps in
    let place = c.take-2.ensures.keeps.places name c.in-Ok.ensures.out.place in
    let first_gives = c.take.ensures.keeps.gives name in
    let second_gives = c.take-2.ensures.keeps.gives name in
    record {
      cause = why c.args.place before after c.in-Err-take.error c.shelf_fault-in-Err-take.result c.shelf_fault-in-Err-take.ensures.store c.shelf_fault-in-Err-take.ensures.memory
          (λ failed. let rose = c.take-2.ensures.failed (c.in-Err-take.is ∙ ap Err failed) in let first = c.take.ensures.keeps.faults in let last = c.give.ensures.keeps.faults in omega (arith, rose, first, last));
      first = inr (record {
        disk = c.in-Ok.disk;
        back = given_since before two after name c.in-Ok.disk (c.take-2.ensures.keeps.tells ∙ c.take.ensures.keeps.tells) (omega (arith, first_gives, second_gives))
            (record { back = c.give.ensures.back place; counted = λ told. c.give.ensures.counted told place });
        taken = c.in-Ok.ensures.taken;
      });
      second = record {
        not_made = λ has. ⊎_elim (λ had. had) (λ same. absurd (second_other name same)) (c.take.ensures.keeps.made other (untouched.not_made ((c.give.ensures.places other).0 has)));
        same = same_then other before one after (c.take.ensures.keeps.others other (second_other name)) (same_then other one two after untouched.same (c.give.ensures.keeps.others other (second_other name)));
      };
    }
