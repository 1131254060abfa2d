-- What was read of the disks of all nodes is what a report begins with.
use Rattle.std.proofs.Common.{◌≡◌, ◌∙◌, ◌+◌, ℕ, zero, suc, List, [], ◌∷◌, All, slice_get, Some, None, refl, sym, ap, subst, arith}
use Rattle.std.proofs.lemmas.List.Elements.{All-head, All-tail}
use Rattle.std.proofs.lemmas.Option.{same_Some}
use Rattle.local_tables.specs.Rows.{Database}
use Rattle.durable_records.specs.declared.resources.ResourceRecord.{ResourceRecord}
use Rattle.durable_records.specs.ResourceOrder.{Allowed}
use Rattle.resource_log.specs.Records.{FitsRecord}
use Rattle.resource_memory.specs.Known.{Known, known_of}
use Rattle.resource_memory.proofs.RecordLaws.{allows}
use Rattle.scenario_form.specs.declared.scenarios.ResourceDef.{ResourceDef}
use Rattle.scenario_form.specs.declared.scenarios.Scenario.{Scenario}
use Rattle.history_rules.specs.ResourceMemory.{Setup, opening_tables}
use Rattle.scenario_nodes.specs.declared.reading.Memories.{Memories}
use Rattle.scenario_nodes.specs.Nodes.{Held}
use Rattle.scenario_nodes.specs.Reading.{SaysAll, SaysResource}
use Rattle.scenario_nodes.specs.Together.{AreEach, numbered}
use Rattle.scenario_nodes.proofs.Numbered.{length_numbered}
use Rattle.scenario_nodes.proofs.Together.{each_length}
use Rattle.report_text.specs.Following.{Come, IsRead, IsReadAt}
use Rattle.report_text.proofs.NumberedLaws.{length-resources, setup_at}

-- records that a resource can have made may come one after the other
come : (db : Database) (rs : List ResourceRecord) → Allowed db rs → All FitsRecord rs → Come db rs
come db [] allowed fit = tt
come db (r ∷ rs) allowed fit = (come db rs allowed.0 (All-tail FitsRecord r rs fit), (allows db rs allowed.0 r).1 (All-head FitsRecord r rs fit) allowed.1)

-- the item of another list at the same place
each_find : {A B : Type 0} (P : A → B → Type 0) (xs : List A) (ys : List B) (k : ℕ) (x : A) → AreEach P xs ys → slice_get xs k ≡ Some x → (y : B) × (slice_get ys k ≡ Some y) × P x y
each_find P [] ys k x each at = absurd (let no : None ≡ Some x = at in cc)
each_find P (u ∷ xs) [] k x each at = absurd each
each_find P (u ∷ xs) (y ∷ ys) zero x each at = (y, refl, subst (λ a. P a y) (same_Some u x at) each.0)
each_find P (u ∷ xs) (y ∷ ys) (suc k) x each at = each_find P xs ys k x each.1 at

numbered_get : {A : Type 0} (n : ℕ) (xs : List A) (k : ℕ) (x : A) → slice_get xs k ≡ Some x → slice_get (numbered n xs) k ≡ Some (n + k, x)
numbered_get n [] k x at = absurd (let no : None ≡ Some x = at in cc)
numbered_get {A} n (u ∷ xs) zero x at = (λ i. Some ((let same : n ≡ n + 0 = omega arith in same) i, same_Some u x at i))
numbered_get {A} n (u ∷ xs) (suc k) x at = numbered_get (n + 1) xs k x at ∙ ap (λ (m : ℕ). Some (m, x)) (omega arith)

module _ (s : Scenario) (held : Held) (m : Memories) (says : SaysAll s held m) where
  read_at : (k : ℕ) → IsReadAt s m.resources.items held.past k
  read_at k u there =
      let is = setup_at s k u there in
      let number : 1 + k ≡ k + 1 = omega arith in
      let at : slice_get (numbered 1 s.resources) k ≡ Some (k + 1, is.def) = numbered_get 1 s.resources k is.def is.there ∙ ap (λ (n : ℕ). Some (n, is.def)) number in
      let (known, here, known_is) = each_find (λ (one : ℕ × ResourceDef) (memory : Known). SaysResource s one held memory) (numbered 1 s.resources) m.resources.items k (k + 1, is.def) says.resources at in
      subst (λ (v : Setup). (slice_get m.resources.items k ≡ Some (known_of (opening_tables v) (held.past.resource v.number))) × Come (opening_tables v) (held.past.resource v.number)) (sym is.is)
      (here ∙ ap Some known_is.is, come _ (held.past.resource (k + 1)) known_is.made.allowed known_is.made.writable)

  pub is_read : IsRead s (record { sessions = m.sessions; resources = m.resources }) held.past
  is_read = record {
    sessions = says.sessions.is;
    allowed = says.sessions.allowed;
    count = sym (each_length (λ (one : ℕ × ResourceDef) (memory : Known). SaysResource s one held memory) (numbered 1 s.resources) m.resources.items says.resources)
        ∙ length_numbered 1 s.resources ∙ sym (length-resources s);
    resources = read_at;
  }
