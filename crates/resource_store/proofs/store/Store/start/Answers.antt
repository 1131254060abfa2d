use Rattle.std.proofs.Common.{◌≡◌, ◌+◌, ◌<◌, ◌^◌, ap, subst, sym, ◌∙◌, arith}
use Rattle.resource_store.specs.Keeping.{known}
use Rattle.resource_store.proofs.OpeningLaws.{boots_uncounted, boot_taken}
use Rattle.resource_store.proofs.store.Store.start.Goals as goal

pub returns-in_default : goal.returns-in_default
returns-in_default g c = boots_uncounted g.D.Disk.state c.args.self.now (record { needed = 18446744073709551615; size = 18446744073709551615 }) c.requires.up
    (λ few. c.in_default.ensures (subst (λ n. n + 1 < 2 ^ 32) (sym c.boot.ensures) few))

pub add-requires-clause-taken : goal.add-requires-clause-taken
add-requires-clause-taken g c =
    let next : c.in-Some.number ≡ (known c.args.self.now).boots + 1 = c.in-Some.ensures.1 ∙ ap (λ n. n + 1) c.boot.ensures in
    boot_taken c.args.self.now c.in-Some.number next (omega (arith, c.in-Some.ensures))
