use Rattle.std.proofs.Common.{sym, subst}
use Rattle.resource_memory.proofs.Maps.{all_insert}
use Rattle.report_text.specs.Opens.{HasFew, HaveFew, ticket_cmp}
use Rattle.report_text.proofs.Tickets.{ticket_total, ticket_exact}
use Rattle.report_text.proofs.open_works.OpenWorks.open.Goals as goal

pub invariant_of-self : goal.invariant_of-self
invariant_of-self c =
    subst HaveFew (sym c.in-Ok.ensures.entries)
    (all_insert ticket_cmp ticket_total ticket_exact (λ e. HasFew e.1) c.self.inside.works.entries c.args.ticket c.args.work c.self.invariant c.requires)
