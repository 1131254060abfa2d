-- Records that a coordinator of so many resources can have made name no other resource.
use Rattle.std.proofs.Common.{◌≡◌, inl, inr, ℕ, true, List, [], ◌∷◌, length, subst, sym}
use Rattle.std.specs.List.{list_all}
use Rattle.durable_records.specs.declared.coordinators.SessionRecord.{SessionRecord}
use Rattle.durable_records.specs.declared.coordinators.SessionRecord.TheVariants as log
use Rattle.durable_records.specs.Branches.{Grant}
use Rattle.durable_records.specs.SessionOrder.{is_counted, is_within}
use Rattle.history_rules.specs.Nodes.{World}
use Rattle.history_law.proofs.Tests.{and_left, and_right}
use Rattle.history_law.specs.MessageSafety.{AreOfResources, RecordsNameResources}

module _ (w : World) (managers : ℕ) where
  below : (r : SessionRecord) (rs : List SessionRecord) → list_all (is_within managers (length w.resources)) (r ∷ rs) ≡ true → list_all (is_within managers (length w.resources)) rs ≡ true
  below r rs all = and_right (is_within managers (length w.resources) r) (list_all (is_within managers (length w.resources)) rs) all

  of_resources : (rs : List SessionRecord) → list_all (is_within managers (length w.resources)) rs ≡ true → AreOfResources w rs
  of_resources [] all g i = absurd i
  of_resources (log.Granted xid b resource call u k hold ∷ rs) all g (inl is) =
      subst (λ (z : Grant). is_counted (length w.resources) z.resource ≡ true) (sym is)
      (and_left (is_counted (length w.resources) resource) _ (and_left (is_within managers (length w.resources) (log.Granted xid b resource call u k hold)) (list_all (is_within managers (length w.resources)) rs) all))
  of_resources (log.Granted xid b resource call u k hold ∷ rs) all g (inr j) = of_resources rs (below (log.Granted xid b resource call u k hold) rs all) g j
  of_resources (log.Begun xid manager moment timeout ∷ rs) all g j = of_resources rs (below (log.Begun xid manager moment timeout) rs all) g j
  of_resources (log.Decided xid d ∷ rs) all g j = of_resources rs (below (log.Decided xid d) rs all) g j
  of_resources (log.Retrying xid ∷ rs) all g j = of_resources rs (below (log.Retrying xid) rs all) g j
  of_resources (log.Ended xid b ∷ rs) all g j = of_resources rs (below (log.Ended xid b) rs all) g j
  of_resources (log.Failed xid b stmt ∷ rs) all g j = of_resources rs (below (log.Failed xid b stmt) rs all) g j
  of_resources (log.Finished xid ∷ rs) all g j = of_resources rs (below (log.Finished xid) rs all) g j
  of_resources (log.Forgot xid ∷ rs) all g j = of_resources rs (below (log.Forgot xid) rs all) g j

pub records_name_resources : RecordsNameResources
records_name_resources w managers rs all = of_resources w managers rs all
