use Rattle.std.proofs.Common.{◌≡◌, ◌∙◌, inl, inr, sym, subst}
use Rattle.scenario_nodes.specs.Shelves.{IsDiskName, IsGivenIn}
use Rattle.scenario_nodes.proofs.Returned.{all_after, given_since, keeps_then, one_given, second_other}
use Rattle.scenario_nodes.proofs.Together.{one_stays}
use Rattle.scenario_nodes.proofs.disks.give_disks.Goals as goal

pub returns-clause-back : goal.returns-clause-back
returns-clause-back g c =
    let name = c.args.first.now in
    let before = g.H.Shelf.state c.args.shelf.now in
    let between = g.H.Shelf.state c.give.new.self in
    let after = g.H.Shelf.state c.give-2.new.self in
    let both = c.requires.both in
    let place = (c.give.ensures.places c.args.second.now).1 (subst before.has_place (sym c.requires.second) both.second) in
    let keeps = c.give.ensures.keeps in record {
      first = one_stays (λ n. n ≡ c.args.second.now) before between after name c.args.disks.0 (λ same. second_other name (sym (same ∙ c.requires.second))) c.give-2.ensures.keeps
          (record { back = c.give.ensures.back both.first; counted = λ told. c.give.ensures.counted told both.first });
      second = subst (λ n. IsGivenIn before after n c.args.disks.1) c.requires.second
          (given_since before between after c.args.second.now c.args.disks.1 keeps.tells (keeps.gives c.args.second.now)
          (record { back = c.give-2.ensures.back place; counted = λ told. c.give-2.ensures.counted told place }));
    }

pub returns-clause-returned : goal.returns-clause-returned
returns-clause-returned g c =
    let before = g.H.Shelf.state c.args.shelf.now in
    let between = g.H.Shelf.state c.give.new.self in
    let after = g.H.Shelf.state c.give-2.new.self in
    let place = (c.give.ensures.places c.args.second.now).1 (subst before.has_place (sym c.requires.second) c.requires.both.second) in
    all_after before between after c.give.ensures.keeps.tells
    (one_given c.args.first.now c.args.disks.0 before between c.give.ensures.places (c.give.ensures.back c.requires.both.first) c.give.ensures.keeps)
    (one_given c.args.second.now c.args.disks.1 between after c.give-2.ensures.places (c.give-2.ensures.back place) c.give-2.ensures.keeps)

pub returns-clause-keeps : goal.returns-clause-keeps
returns-clause-keeps g c =
    let first = c.args.first.now in
    keeps_then (λ n. n ≡ first) (λ n. n ≡ c.args.second.now) (IsDiskName first) (g.H.Shelf.state c.args.shelf.now) (g.H.Shelf.state c.give.new.self) (g.H.Shelf.state c.give-2.new.self)
    (λ n its. inl its) (λ n its. inr (its ∙ c.requires.second)) c.give.ensures.keeps c.give-2.ensures.keeps
