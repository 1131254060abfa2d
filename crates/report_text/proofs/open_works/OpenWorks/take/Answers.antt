use Rattle.std.proofs.Common.{sym, subst}
use Rattle.std.specs.BTreeMap.{is_at}
use Rattle.std.specs.Prelude.{IfSome}
use Rattle.resource_memory.proofs.Maps.{all_remove}
use Rattle.report_text.specs.Opens.{HasFew, HaveFew, ticket_cmp}
use Rattle.report_text.proofs.FewLaws.{found_few}
use Rattle.report_text.proofs.Tickets.{ticket_total, ticket_exact}
use Rattle.report_text.proofs.open_works.OpenWorks.take.Goals as goal

pub invariant_of-self : goal.invariant_of-self
invariant_of-self c =
    subst HaveFew (sym c.remove.ensures.entries) (all_remove ticket_cmp ticket_total ticket_exact (λ e. HasFew e.1) c.self.inside.works.entries c.args.ticket c.self.invariant)

pub returns-clause-few : goal.returns-clause-few
returns-clause-few c =
    subst (λ o. IfSome o HasFew) (sym c.remove.ensures.value) (found_few (is_at (ticket_cmp c.args.ticket)) c.self.inside.works.entries c.self.invariant)
