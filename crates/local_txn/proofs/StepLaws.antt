-- One row put into the index or taken out of it, among others.
use Rattle.std.proofs.Common.{◌≡◌, ◌||◌, Bool, true, false, cond, List, ◌∷◌, Option, refl, ap, sym, ◌∙◌}
use Rattle.seata_types.specs.declared.ids.Ticket.{Ticket}
use Rattle.seata_types.specs.declared.rows.RowKey.{RowKey}
use Rattle.local_tables.specs.Rows.{is_key}
use Rattle.durable_records.specs.Locks.{has_key}
use Rattle.local_txn.specs.RowIndex.{Index, at}
use Rattle.local_txn.proofs.Tests.{true_false, cond_or, cond_false}

or_first : (a b : Bool) → a ≡ true → (a || b) ≡ true
or_first true b e = refl
or_first false b e = true_false (sym e)

or_second : (a b : Bool) → b ≡ true → (a || b) ≡ true
or_second true b e = refl
or_second false b e = e

module _ (ks left rest : List RowKey) (k : RowKey) (first rows new : Index) (is : left ≡ k ∷ rest) where
  -- what every row of the left ones finds, each of the rest finds after one more
  pub next_there : (v : Option Ticket) → ((q : RowKey) → at new q ≡ cond (is_key k q) v (at rows q))
      → ((q : RowKey) → cond (has_key left q) v (at rows q) ≡ cond (has_key ks q) v (at first q))
      → (q : RowKey) → cond (has_key rest q) v (at new q) ≡ cond (has_key ks q) v (at first q)
  next_there v put there q =
      ap (cond (has_key rest q) v) (put q) ∙ sym (cond_or (is_key k q) (has_key rest q) v (at rows q))
      ∙ ap (λ l. cond (has_key l q) v (at rows q)) (sym is) ∙ there q

  pub next_among : ((q : RowKey) → has_key left q ≡ true → has_key ks q ≡ true) → (q : RowKey) → has_key rest q ≡ true → has_key ks q ≡ true
  next_among among q e = among q (ap (λ l. has_key l q) is ∙ or_second (is_key k q) (has_key rest q) e)

  pub next_others : (v : Option Ticket) → ((q : RowKey) → at new q ≡ cond (is_key k q) v (at rows q))
      → ((q : RowKey) → has_key left q ≡ true → has_key ks q ≡ true) → ((q : RowKey) → has_key ks q ≡ false → at rows q ≡ at first q)
      → (q : RowKey) → has_key ks q ≡ false → at new q ≡ at first q
  next_others v put among others q missed = by (is_key k q) refl
    where
      by : (b : Bool) → is_key k q ≡ b → at new q ≡ at first q
      by true p = true_false (sym (among q (ap (λ l. has_key l q) is ∙ or_first (is_key k q) (has_key rest q) p)) ∙ missed)
      by false p = put q ∙ cond_false (is_key k q) v (at rows q) p ∙ others q missed
