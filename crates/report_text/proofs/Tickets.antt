-- The order of tickets is total, and a ticket's boot and place in it are what it stands by.
use Rattle.std.proofs.Common.{◌≡◌, true, Ordering, Less, Equal, Greater, refl, sym, true≢false}
use Rattle.std.specs.Cmp.{IsTotalOrder}
use Rattle.std.specs.Ordering.{nat_cmp, is_eq}
use Rattle.std.proofs.lemmas.Cmp.{nat_cmp_total, on_total, then_total}
use Rattle.std.proofs.lemmas.Map.Lookups.{CmpEqualImpliesEq, exact_unsigned}
use Rattle.seata_types.specs.declared.ids.Ticket.{Ticket}
use Rattle.history_text.proofs.OriginLaws.{both_equal}
use Rattle.report_text.specs.Opens.{ticket_cmp}

pub equal_is : (r : Ordering) → is_eq r ≡ true → r ≡ Equal
equal_is Less e = absurd (true≢false (sym e))
equal_is Equal e = refl
equal_is Greater e = absurd (true≢false (sym e))

pub ticket_total : IsTotalOrder ticket_cmp
ticket_total = then_total (on_total (λ (t : Ticket). t.boot) nat_cmp_total) (on_total (λ (t : Ticket). t.seq) nat_cmp_total)

pub ticket_exact : CmpEqualImpliesEq ticket_cmp
ticket_exact a b e =
    let both = both_equal (nat_cmp a.boot b.boot) (nat_cmp a.seq b.seq) e in
    λ i. record { boot = exact_unsigned a.boot b.boot both.0 i; seq = exact_unsigned a.seq b.seq both.1 i }
