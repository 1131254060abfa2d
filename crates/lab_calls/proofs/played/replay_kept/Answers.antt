use Rattle.std.proofs.Common.{◌∙◌, inr, subst}
use Rattle.replay_runner.specs.Leaving.{Leaves}
use Rattle.scenario_nodes.proofs.Returned.{all_after}
use Rattle.base_shelf.specs.Keeping.{KeepsBase}
use Rattle.lab_calls.proofs.Kept.{kept_over}
use Rattle.lab_calls.proofs.played.replay_kept.Goals as goal

pub returns-in-Ok-clause-ends : goal.returns-in-Ok-clause-ends
returns-in-Ok-clause-ends g c =
    let s = c.args.scenario.now in
    let state = g.H.D.Disk.state in
    let seen = g.H.Shelf.state in
    let old = c.args.shelf.now in
    let mid = c.keep_base.new.shelf in
    let e = c.replay_over.ensures in
    kept_over (Leaves s) state seen s old mid c.replay_over.new.shelf c.requires (subst (KeepsBase state s.base (seen old) (seen mid)) c.in-Ok.is c.keep_base.ensures.base) c.keep_base.ensures.still c.replay_over.result e.ends e.keeps

-- the text wasn't kept
pub returns-in-Err-clause-ends : goal.returns-in-Err-clause-ends
returns-in-Err-clause-ends g c =
    let seen = g.H.Shelf.state in
    inr (subst (KeepsBase g.H.D.Disk.state c.args.scenario.now.base (seen c.args.shelf.now) (seen c.keep_base.new.shelf)) c.in-Err.is c.keep_base.ensures.base)

pub returns-in-Ok-clause-returned : goal.returns-in-Ok-clause-returned
returns-in-Ok-clause-returned g c =
    let seen = g.H.Shelf.state in
    let b = c.keep_base.ensures.base in
    all_after (seen c.args.shelf.now) (seen c.keep_base.new.shelf) (seen c.replay_over.new.shelf) b.keeps.tells b.returned c.replay_over.ensures.returned

pub returns-in-Err-clause-returned : goal.returns-in-Err-clause-returned
returns-in-Err-clause-returned g c = c.keep_base.ensures.base.returned

pub returns-in-Ok-clause-tells : goal.returns-in-Ok-clause-tells
returns-in-Ok-clause-tells g c = c.replay_over.ensures.keeps.tells ∙ c.keep_base.ensures.base.keeps.tells

pub returns-in-Err-clause-tells : goal.returns-in-Err-clause-tells
returns-in-Err-clause-tells g c = c.keep_base.ensures.base.keeps.tells
