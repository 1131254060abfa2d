use Rattle.std.proofs.Common.{◌≡◌, [], length, subst, sym, refl, arith}
use Rattle.std.proofs.lemmas.Option.{slice_get_read}
use Rattle.report_text.specs.Following.{FollowsAll}
use Rattle.report_text.proofs.HistoryLaws.{one_more, all_taken}
use Rattle.report_text.proofs.ReportLaws.{none_folded}
use Rattle.report_text.proofs.left.Folded.of_history.Goals as goal

pub loop-k-init : goal.loop-k-init
loop-k-init c = subst (FollowsAll c.args.scenario.now c.args.before []) (sym c.in_ok-folded.ensures) (none_folded c.args.scenario.now c.args.before)

pub loop-k-preserved : goal.loop-k-preserved
loop-k-preserved c =
    one_more c.args.scenario.now c.args.before c.args.history.now c.loop-k.k c.loop-k.folded c.loop-k.invariant c.args.names.now _ c.index-history-k.result _ c.requires.names refl
    (slice_get_read c.args.history.now _ c.loop-k.k _ refl c.loop-k-test.true c.index-history-k.is) c.in_ok-take.ensures

pub returns : goal.returns
returns c =
    let end : c.loop-k.k ≡ length c.args.history.now = let stop = c.loop-k.auto.k-end in omega (arith, stop) in
    all_taken c.args.scenario.now c.args.before c.args.history.now c.loop-k.k c.loop-k.folded c.loop-k.invariant end
