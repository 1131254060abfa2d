use Rattle.std.proofs.Common.{◌≡◌, ◌∙◌, Some, refl, ap, arith}
use Rattle.disk_model.specs.Places.{place, disk_in, gives_in, emptied}
use Rattle.disk_model.proofs.Taken.{fresh, is_out, none_there, on_err, one_back, out_keeps, resumed, same_keeps, same_places, same_under}
use Rattle.disk_model.proofs.shelf.MemShelfShelf.take.Goals as goal

-- the disk that was given back
pub returns-in-Some-clause-taken : goal.returns-in-Some-clause-taken
returns-in-Some-clause-taken c =
    let there = disk_in (place c.args.name.now c.args.self.now) in
    let d = c.in-Some.ensures.disk in
    resumed (λ disk. there ≡ Some disk) c.args.size d.0 c.in-Some.disk (λ disk. one_back d.0 disk there d.1) d.1 (c.if-has_other_size.ensures.no refl d.0 d.1) d.2

pub returns-in-Some-clause-out : goal.returns-in-Some-clause-out
returns-in-Some-clause-out c = is_out c.args.name.now c.args.self.now c.take_out.new.self c.in-Some.ensures.out c.take_out.ensures.others

pub returns-in-Some-clause-unmoved : goal.returns-in-Some-clause-unmoved
returns-in-Some-clause-unmoved c = ap gives_in c.in-Some.ensures.out

pub returns-in-Some-clause-keeps : goal.returns-in-Some-clause-keeps
returns-in-Some-clause-keeps c =
    let stays = c.take_out.ensures.faults in
    out_keeps c.args.name.now c.args.self.now c.take_out.new.self c.in-Some.ensures.out c.take_out.ensures.others (omega (arith, stays))

pub returns-in-Some-clause-calm : goal.returns-in-Some-clause-calm
returns-in-Some-clause-calm c = λ _. c.take_out.ensures.faults

-- a new one
pub returns-clause-taken : goal.returns-clause-taken
returns-clause-taken c =
    let there = disk_in (place c.args.name.now c.args.self.now) in
    fresh (λ disk. there ≡ Some disk) c.args.size c.in_ok-disk.disk c.in_ok-disk.ensures (none_there there (c.in_default.ensures.none refl))

pub returns-clause-out : goal.returns-clause-out
returns-clause-out c = is_out c.args.name.now c.take_out.new.self c.make_empty.new.self c.in_ok-make_empty.ensures.out c.make_empty.ensures.others

pub returns-clause-unmoved : goal.returns-clause-unmoved
returns-clause-unmoved c = ap gives_in c.in_ok-make_empty.ensures.out ∙ ap gives_in (c.in_default.ensures.same refl c.args.name.now)

pub returns-clause-keeps : goal.returns-clause-keeps
returns-clause-keeps c =
    let same = c.in_default.ensures.same refl in
    let stays = c.make_empty.ensures.faults ∙ c.take_out.ensures.faults in
    out_keeps c.args.name.now c.args.self.now c.make_empty.new.self (c.in_ok-make_empty.ensures.out ∙ ap (λ there. Some (emptied there)) (same c.args.name.now))
    (λ n other. c.make_empty.ensures.others n other ∙ same n) (omega (arith, stays))

pub returns-clause-calm : goal.returns-clause-calm
returns-clause-calm c = λ _. c.make_empty.ensures.faults ∙ c.take_out.ensures.faults

-- no memory for its place
pub returns-in_err-make_empty-clause-none : goal.returns-in_err-make_empty-clause-none
returns-in_err-make_empty-clause-none c =
    on_err c.from_residual-in_err-make_empty.result _
    (same_places c.args.self.now c.make_empty.new.self (λ n. c.in_err-make_empty.ensures.none n ∙ c.in_default.ensures.same refl n))

pub returns-in_err-make_empty-clause-kept : goal.returns-in_err-make_empty-clause-kept
returns-in_err-make_empty-clause-kept c =
    on_err c.from_residual-in_err-make_empty.result _
    (same_under c.args.self.now c.make_empty.new.self (λ n. c.in_err-make_empty.ensures.none n ∙ c.in_default.ensures.same refl n) c.args.name.now)

pub returns-in_err-make_empty-clause-unmoved : goal.returns-in_err-make_empty-clause-unmoved
returns-in_err-make_empty-clause-unmoved c = ap gives_in (c.in_err-make_empty.ensures.none c.args.name.now ∙ c.in_default.ensures.same refl c.args.name.now)

pub returns-in_err-make_empty-clause-keeps : goal.returns-in_err-make_empty-clause-keeps
returns-in_err-make_empty-clause-keeps c =
    let stays = c.make_empty.ensures.faults ∙ c.take_out.ensures.faults in
    same_keeps c.args.self.now c.make_empty.new.self (λ n. c.in_err-make_empty.ensures.none n ∙ c.in_default.ensures.same refl n) c.args.name.now (omega (arith, stays))

pub returns-in_err-make_empty-clause-calm : goal.returns-in_err-make_empty-clause-calm
returns-in_err-make_empty-clause-calm c = λ _. c.make_empty.ensures.faults ∙ c.take_out.ensures.faults

-- no memory for a new one
pub returns-in_err-disk-clause-none : goal.returns-in_err-disk-clause-none
returns-in_err-disk-clause-none c = on_err c.from_residual.result _ (same_places c.args.self.now c.take_out.new.self (c.in_default.ensures.same refl))

pub returns-in_err-disk-clause-kept : goal.returns-in_err-disk-clause-kept
returns-in_err-disk-clause-kept c = on_err c.from_residual.result _ (same_under c.args.self.now c.take_out.new.self (c.in_default.ensures.same refl) c.args.name.now)

pub returns-in_err-disk-clause-unmoved : goal.returns-in_err-disk-clause-unmoved
returns-in_err-disk-clause-unmoved c = ap gives_in (c.in_default.ensures.same refl c.args.name.now)

pub returns-in_err-disk-clause-keeps : goal.returns-in_err-disk-clause-keeps
returns-in_err-disk-clause-keeps c =
    let stays = c.take_out.ensures.faults in
    same_keeps c.args.self.now c.take_out.new.self (c.in_default.ensures.same refl) c.args.name.now (omega (arith, stays))
