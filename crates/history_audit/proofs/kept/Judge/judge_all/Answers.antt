use Rattle.std.proofs.Common.{◌≡◌, ◌+◌, Some, suc, length, refl, subst, arith}
use Rattle.std.proofs.lemmas.Option.{slice_get_read}
use Rattle.history_rules.specs.Nodes.{no_past}
use Rattle.history_text.specs.Worlds.{world_of}
use Rattle.verdict_law.specs.Verdicts.{IsVerdict}
use Rattle.history_audit.specs.Judging.{HasJudged}
use Rattle.history_audit.proofs.Taking.{all_taken, broken_at, can_judge, none_taken, one_more}
use Rattle.history_audit.proofs.kept.Judge.judge_all.Goals as goal

pub loop-k-init : goal.loop-k-init
loop-k-init c = λ s runs follows. none_taken (world_of s) c.args.self.now c.args.entries.now follows

pub judge-requires : goal.judge-requires
judge-requires c =
    let (s, runs, follows) = c.requires.first in
    can_judge s runs c.loop-k.self c.args.entries.now c.loop-k.k (let low = c.loop-k-test.true in let few = c.requires.room in omega (arith, low, few)) (c.loop-k.invariant s runs follows)

pub loop-k-preserved : goal.loop-k-preserved
loop-k-preserved c = λ s runs follows.
    let es = c.args.entries.now in
    let e = c.index-entries-k.result in
    one_more (world_of s) es c.loop-k.k c.loop-k.self c.judge.new.self e (c.loop-k.invariant s runs follows) (slice_get_read es (length es) c.loop-k.k e refl c.loop-k-test.true c.index-entries-k.is)
    (subst (HasJudged c.loop-k.self c.judge.new.self e) c.in_default.is c.in_ok-broken.ensures)

pub returns-in-Some : goal.returns-in-Some
returns-in-Some c = λ s runs follows.
    let es = c.args.entries.now in
    let e = c.index-entries-k.result in
    let next : suc c.loop-k.k ≡ c.loop-k.k + 1 = omega arith in
    subst (λ n. IsVerdict (world_of s) no_past es (Some (n, c.in-Some.broken))) next
    (broken_at (world_of s) es c.loop-k.k c.loop-k.self c.judge.new.self e (c.loop-k.invariant s runs follows) (slice_get_read es (length es) c.loop-k.k e refl c.loop-k-test.true c.index-entries-k.is)
    c.in-Some.broken (subst (HasJudged c.loop-k.self c.judge.new.self e) c.in-Some.is c.in_ok-broken.ensures))

pub returns : goal.returns
returns c = λ s runs follows.
    let end : c.loop-k.k ≡ length c.args.entries.now = let stop = c.loop-k.auto.k-end in let past = c.loop-k-test.false in omega (arith, stop, past) in
    all_taken (world_of s) c.loop-k.self c.args.entries.now c.loop-k.k end (c.loop-k.invariant s runs follows)
