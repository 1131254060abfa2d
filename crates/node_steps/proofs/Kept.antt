-- Two disks tell how many records they stand for, and so whether a restart kept the one in flight.
use Rattle.std.proofs.Common.{◌≡◌, ◌⊎◌, inl, inr, ℕ, suc, ◌+◌, List, [], ◌∷◌, length, Option, Some, None, refl, sym, ap, subst, ◌∙◌, arith}
use Rattle.std.specs.Prelude.{Ok, option_and_then}
use Rattle.journal_checkpoint.specs.declared.types.Found.{Found}
use Rattle.journal_checkpoint.specs.Images.{Pair}
use Rattle.journal_checkpoint.specs.Pairs.{pair_reading}
use Rattle.seata_types.specs.declared.acts.Act.{Act}
use Rattle.seata_types.specs.declared.acts.Act.TheVariants as act
use Rattle.seata_types.specs.declared.acts.Durable.{Durable}
use Rattle.history_rules.specs.Own.{Left, added, kept_part, kept_records}
use Rattle.history_rules.specs.Nodes.{MayStand}
use Rattle.node_steps.specs.Durable.{Reading, AreRecords, StandsForRecords, records_on}
use Rattle.node_steps.specs.Promises.{BringsKept}

-- what is kept may stand
added_or_not : {R : Type 0} (flight : Option R) (rs : List R) → (added flight rs ≡ rs) ⊎ ((r : R) × (flight ≡ Some r) × (added flight rs ≡ r ∷ rs))
added_or_not None rs = inl refl
added_or_not (Some r) rs = inr (r, refl, refl)

part_may_stand : {R : Type 0} (kept : Option Durable) (left : Left R) → MayStand left (added (kept_part kept left.flight) left.records)
part_may_stand None left = inl refl
part_may_stand (Some kept) left = added_or_not left.flight left.records

kept_may_stand : {R : Type 0} (done : Act) (left : Left R) → MayStand left (kept_records done left)
kept_may_stand (act.Down kept at) left = part_may_stand kept left
kept_may_stand (act.Restarted kept) left = part_may_stand kept left
kept_may_stand _ left = inl refl

one_found : (a b : List ℕ) (f g : Found) → pair_reading a b ≡ Ok f → pair_reading a b ≡ Ok g → f ≡ g
one_found a b f g p q = cc

one_some : {A : Type 0} (o : Option A) (x y : A) → o ≡ Some x → o ≡ Some y → x ≡ y
one_some o x y p q = cc

module _ {R S : Type 0} (reading : Reading R S) (acts : S → ℕ) (counts : (rs : List R) → acts (reading.snapshot_of rs) ≡ length rs) where
  on_length : (bodies : List (List ℕ)) (before rs : List R) → records_on reading.record_of before bodies ≡ Some rs → length rs ≡ length bodies + length before
  on_length [] before rs e = omega (arith, ap length (one_some (Some before) rs before e refl))
  on_length (body ∷ bodies) before rs e = by (reading.record_of body) (λ r. on_length bodies (r ∷ before) rs) e
    where
      by : (o : Option R) → ((r : R) → records_on reading.record_of (r ∷ before) bodies ≡ Some rs → length rs ≡ length bodies + suc (length before))
          → option_and_then (λ r. records_on reading.record_of (r ∷ before) bodies) o ≡ Some rs → length rs ≡ suc (length bodies) + length before
      by None below e = absurd cc
      by (Some r) below e = omega (arith, below r e)

  one_length : (snapshot : Option (List ℕ)) (bodies : List (List ℕ)) (rs ls : List R) → AreRecords reading snapshot bodies rs → AreRecords reading snapshot bodies ls → length rs ≡ length ls
  one_length None bodies rs ls one two = on_length bodies [] rs one ∙ sym (on_length bodies [] ls two)
  one_length (Some bytes) bodies rs ls (first, is, more) (second, is_too, more_too) =
      let same : length first ≡ length second = sym (counts first) ∙ ap acts (one_some (reading.snapshot_in bytes) _ _ is is_too) ∙ counts second in
      on_length bodies first rs more ∙ ap (λ (n : ℕ). length bodies + n) same ∙ sym (on_length bodies second ls more_too)

  same_length : (rs ls : List R) (a b : List ℕ) → StandsForRecords reading rs a b → StandsForRecords reading ls a b → length rs ≡ length ls
  same_length rs ls a b one two =
      one_length one.found.snapshot one.found.records rs ls one.records
      (subst (λ (f : Found). AreRecords reading f.snapshot f.records ls) (one_found a b two.found one.found two.pair one.pair) two.records)

  one_may_stand : (left : Left R) (rs ks : List R) → length rs ≡ length ks → MayStand left rs → MayStand left ks → rs ≡ ks
  one_may_stand left rs ks same (inl r) (inl k) = r ∙ sym k
  one_may_stand left rs ks same (inl r) (inr (q, flies, k)) = absurd (omega (arith, same, ap length r, ap length k))
  one_may_stand left rs ks same (inr (q, flies, r)) (inl k) = absurd (omega (arith, same, ap length r, ap length k))
  one_may_stand left rs ks same (inr (q, flies, r)) (inr (p, flies_too, k)) = r ∙ ap (λ (x : R). x ∷ left.records) (one_some left.flight q p flies flies_too) ∙ sym k

  -- images that stand for the records with what is kept stand for no others
  pub brings_kept : (left : Left R) (disks : Pair) (pick : ℕ) (done : Act) (a b : List ℕ) → disks.first.may_leave a × disks.first.comes_back pick a → disks.second.may_leave b × disks.second.comes_back pick b
      → StandsForRecords reading (kept_records done left) a b → BringsKept reading left disks pick done
  brings_kept left disks pick done a b first second stand = record {
    a = a;
    b = b;
    first = first;
    second = second;
    stand = stand;
    alone = λ rs may stands. one_may_stand left rs (kept_records done left) (same_length rs (kept_records done left) a b stands stand) may (kept_may_stand done left);
  }

-- where all that a pick may bring back stands for the records without the one in flight, nothing is kept
pub nothing_kept : {R S : Type 0} (reading : Reading R S) (left : Left R) (disks : Pair) (pick : ℕ) (done : Act) → BringsKept reading left disks pick done
    → ((a b : List ℕ) → disks.first.comes_back pick a → disks.second.comes_back pick b → StandsForRecords reading left.records a b) → kept_records done left ≡ left.records
nothing_kept reading left disks pick done brings without = sym (brings.alone left.records (inl refl) (without brings.a brings.b brings.first.1 brings.second.1))
