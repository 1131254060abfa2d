use Rattle.std.proofs.Common.{◌≡◌, ◌+◌, ◌++◌, ◌∷◌, ◌==◌, ℕ, true, false, List, [], drop, refl, sym, ap, subst, ◌∙◌, arith}
use Rattle.std.proofs.lemmas.Bool.Decides.{nat_tests}
use Rattle.std.proofs.lemmas.Option.{slice_get_read}
use Rattle.seata_types.specs.declared.statements.Stmt.{Stmt}
use Rattle.history_text.specs.Worlds.{locals_at}
use Rattle.scenario_setups.proofs.Made.{local_passed, local_taken}
use Rattle.scenario_setups.proofs.setups.locals_of.Goals as goal
use Rattle.scenario_setups.proofs.setups.locals_of.Goals.{then-at-resource+in_ok-copied+in_ok-stmts+in_ok-put, else-at-resource}

same_number : (a b : ℕ) → a ≡ b → (a == b) ≡ true
same_number a b e = grind (arith, nat_tests)

other_number : (a b : ℕ) → (a ≡ b → ⊥) → (a == b) ≡ false
other_number a b e = grind (arith, nat_tests)

pub loop-k-preserved : goal.loop-k-preserved
loop-k-preserved c =
    let r = c.args.resource in
    let k = c.loop-k.k in
    let locals = c.args.locals.now in
    let one = c.index-locals-k.result in
    let at = slice_get_read locals _ k one refl c.loop-k-test.true c.index-locals-k.is in
    let all = locals_at r 1 locals in
    elim c.if-at-resource.branch [
      | then-at-resource+in_ok-copied+in_ok-stmts+in_ok-put w ↦
          let items : c.if-at-resource.made.items ≡ c.loop-k.made.items ++ (k + 1, one.1) ∷ [] =
          ap (λ v. v.items) w.made-is ∙ w.in_ok-put.ensures ∙ ap (λ (s : List Stmt). c.loop-k.made.items ++ (k + 1, s) ∷ []) (w.in_ok-stmts.ensures ∙ w.in_ok-copied.ensures) in
          subst (λ (l : List (ℕ × List Stmt)). l ++ locals_at r (k + 1 + 1) (drop (k + 1) locals) ≡ all) (sym items)
          (local_taken r k locals one at c.loop-k.made.items all (same_number one.0 r w.if-at-resource.true) c.loop-k.invariant)
      | else-at-resource w ↦
          let items : c.if-at-resource.made.items ≡ c.loop-k.made.items = ap (λ v. v.items) w.made-is in
          subst (λ (l : List (ℕ × List Stmt)). l ++ locals_at r (k + 1 + 1) (drop (k + 1) locals) ≡ all) (sym items)
          (local_passed r k locals one at c.loop-k.made.items all (other_number one.0 r w.if-at-resource.false) c.loop-k.invariant)
    ]
