-- Entries put into a map one after the other.
use Rattle.std.proofs.Common.{◌≡◌, Bool, true, false, cond, List, [], ◌∷◌, Option, Some, None, refl, ap, ◌∙◌}
use Rattle.std.specs.BTreeMap.{insert_entry}
use Rattle.std.specs.Map.{keys_of}
use Rattle.std.specs.List.{IsDistinct}
use Rattle.std.specs.List.Sorted.{IsStrictlySortedBy}
use Rattle.std.proofs.lemmas.Map.{lookup-none}
use Rattle.std.proofs.lemmas.Map.Keys.{IsDistinct-tail, IsDistinct-from_sorted}
use Rattle.std.proofs.lemmas.Map.Entries.{none_past_head}
use Rattle.seata_types.specs.Orders.{key_cmp}
use Rattle.seata_types.specs.declared.rows.RowKey.{RowKey}
use Rattle.local_tables.specs.Rows.{is_key}
use Rattle.local_tables.specs.Calls.{insert_all}
use Rattle.local_tables.specs.Lookups.{IsRising}
use Rattle.local_tables.proofs.KeyLaws.{is_key_laws}
use Rattle.local_tables.proofs.MapLaws.{at, rising_insert, at_insert, same_entries}

pub rising_nil : (X : Type 0) → IsRising {X = X} []
unfolding IsStrictlySortedBy
rising_nil X = tt

module _ {X : Type 0} where
  pub rising_insert_all : (es fs : List (RowKey × X)) → IsRising es → IsRising (insert_all es fs)
  rising_insert_all es [] s = s
  rising_insert_all es (f ∷ fs) s = rising_insert_all (insert_entry key_cmp es f.0 f.1) fs (rising_insert es f.0 f.1 s)

  -- the later of two values at a key
  abbrev pub newer : Option X → Option X → Option X
  newer old None = old
  newer old (Some new) = Some new

  pub at_insert_all : (es fs : List (RowKey × X)) (q : RowKey) → IsDistinct is_key (keys_of fs) → at (insert_all es fs) q ≡ newer (at es q) (at fs q)
  at_insert_all es [] q d = refl
  at_insert_all es (f ∷ fs) q d =
      at_insert_all (insert_entry key_cmp es f.0 f.1) fs q (IsDistinct-tail is_key f.0 (keys_of fs) d)
      ∙ ap (λ o. newer o (at fs q)) (at_insert es f.0 f.1 q)
      ∙ by (is_key f.0 q) (is_key q f.0) refl (is_key_laws.symm q f.0)
    where
      by : (a b : Bool) → is_key f.0 q ≡ a → b ≡ is_key f.0 q → newer (cond a (Some f.1) (at es q)) (at fs q) ≡ newer (at es q) (cond b (Some f.1) (at fs q))
      by true true e g = ap (newer (Some f.1)) (lookup-none (is_key q) fs (none_past_head is_key_laws q f fs d (is_key_laws.symm q f.0 ∙ e)))
      by true false e g = cc
      by false true e g = cc
      by false false e g = refl

  newer_none : (o : Option X) → newer None o ≡ o
  newer_none None = refl
  newer_none (Some v) = refl

  -- entries in rising order, put into an empty map
  pub insert_all_rising : (es : List (RowKey × X)) → IsRising es → insert_all [] es ≡ es
  insert_all_rising es s =
      same_entries (insert_all [] es) es (rising_insert_all [] es (rising_nil X)) s (λ q.
      at_insert_all [] es q (IsDistinct-from_sorted key_cmp (keys_of es) s) ∙ newer_none (at es q))
