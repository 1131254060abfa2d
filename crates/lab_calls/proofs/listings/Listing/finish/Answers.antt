use Rattle.std.proofs.Common.{◌∙◌}
use Rattle.lab_calls.proofs.Fed.{finished, finished_bad}
use Rattle.lab_calls.proofs.listings.Listing.finish.Goals as goal

pub returns-in_ok-whole-in-Some : goal.returns-in_ok-whole-in-Some
returns-in_ok-whole-in-Some c =
    λ text t. let e = rw c.in-Some.is at c.finish.ensures in
    c.in_ok-whole-in-Some.ensures ∙ finished_bad c.args.self text c.in-Some.at c.in-Some.why c.if-ended.false c.requires e t

pub returns-in-None : goal.returns-in-None
returns-in-None c = λ text t. finished c.args.self text c.if-ended.false (rw c.in-None.is at c.finish.ensures) t
