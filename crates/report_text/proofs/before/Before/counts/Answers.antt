use Rattle.std.proofs.Common.{◌≡◌, ◌<◌, ◌≤◌, ◌-◌, ◌∙◌, length, ap, arith}
use Rattle.std.proofs.lemmas.Bool.Decides.{nat_tests}
use Rattle.session_log.specs.declared.sessions.Snapshot.{Snapshot}
use Rattle.report_text.specs.Following.{most_acts, most_of}
use Rattle.report_text.proofs.BeforeLaws.{acts_most, few_at}
use Rattle.report_text.proofs.before.Before.counts.Goals as goal

pub returns-clause-counted : goal.returns-clause-counted
returns-clause-counted c = λ few s past read p.
    let most = c.most_of-most.result in
    let is : most ≡ most_acts c.args.self.now =
    c.most_of-most.ensures ∙ ap (λ (k : Snapshot). most_of k.acts c.as_slice.result.now) c.snapshot.ensures ∙ ap (most_of c.args.self.now.sessions.acts) c.as_slice.ensures.value in
    let less : length c.args.history.now < 4294967295 - most = grind (arith, nat_tests) in
    let here = few_at p c.args.history.now in
    let acts = acts_most s past c.args.self.now read p in
    omega (arith, is, here, less, acts)

pub returns-clause-full : goal.returns-clause-full
returns-clause-full c = λ many.
    let most = c.most_of-most.result in
    let is : most ≡ most_acts c.args.self.now =
    c.most_of-most.ensures ∙ ap (λ (k : Snapshot). most_of k.acts c.as_slice.result.now) c.snapshot.ensures ∙ ap (most_of c.args.self.now.sessions.acts) c.as_slice.ensures.value in
    let more : 4294967295 - most ≤ length c.args.history.now = grind (arith, nat_tests) in
    omega (arith, is, more)
