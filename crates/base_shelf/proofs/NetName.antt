-- No disk of a node has the name of the one that keeps the text, so what is done there changes nothing of what the nodes' disks hold.
use Rattle.std.proofs.Common.{◌≡◌, ◌≢◌, ⊎_elim, inl, inr, ◌∙◌, ◌+◌, ◌&&◌, ℕ, not, Bool, true, false, List, [], ◌∷◌, All, length, map, codes, refl, sym, ap, arith}
use Rattle.std.specs.List.{AllByRecursion, list_all}
use Rattle.std.proofs.lemmas.Bool.{false≢true}
use Rattle.std.proofs.lemmas.List.Elements.{All-head, All-tail}
use Rattle.std.proofs.lemmas.List.Folds.{list_all-append}
use Rattle.disk_model.specs.Disk.{DiskState}
use Rattle.disk_model.specs.Shelf.{KeepsOthers, ShelfState}
use Rattle.seata_types.specs.Orders.{same_text}
use Rattle.local_tables.proofs.KeyLaws.{same_text_itself}
use Rattle.scenario_form.specs.declared.scenarios.ResourceDef.{ResourceDef}
use Rattle.scenario_form.specs.declared.scenarios.Scenario.{Scenario}
use Rattle.scenario_form.specs.Contents.{IsResource}
use Rattle.scenario_form.specs.Names.{is_node_name, is_word, is_word_byte}
use Rattle.scenario_form.specs.Runnable.{IsRunnable, resource_name}
use Rattle.scenario_nodes.specs.Nodes.{Held, Holds, Server, coordinator_server, resource_server, server_names, servers_of}
use Rattle.scenario_nodes.specs.Reading.{HoldStill, IsSound}
use Rattle.scenario_nodes.specs.Shelves.{IsDiskName, coordinator_name, second_name}
use Rattle.scenario_nodes.specs.Together.{IsOfOne, numbered}
use Rattle.scenario_nodes.proofs.Returned.{are_next_since, holds_since}
use Rattle.base_shelf.specs.Keeping.{net_name}

-- ---- names

and_right : (a b : Bool) → (a && b) ≡ true → b ≡ true
and_right true b e = e
and_right false b e = absurd (false≢true e)

and_never : (a : Bool) → (a && false) ≡ false
and_never true = refl
and_never false = refl

not_true : (a : Bool) → not a ≡ true → a ≡ false
not_true false e = refl
not_true true e = absurd (false≢true e)

second_not_net : (name : List ℕ) → second_name name ≢ net_name
second_not_net name same =
    false≢true (sym (list_all-append is_word_byte name (codes ".2") ∙ and_never (list_all is_word_byte name)) ∙ ap (list_all is_word_byte) same)

node_not_net : (name : List ℕ) → is_node_name name ≡ true → name ≢ net_name
unfolding is_node_name
node_not_net name e same =
    let tests = and_right (is_word name) (not (same_text name (codes "tc")) && not (same_text name (codes "net"))) e in
    let differs : same_text name (codes "net") ≡ false = not_true (same_text name (codes "net")) (and_right (not (same_text name (codes "tc"))) (not (same_text name (codes "net"))) tests) in
    false≢true (sym differs ∙ ap (same_text name) (sym same) ∙ same_text_itself name)

coordinator_not_net : coordinator_name ≢ net_name
coordinator_not_net same = let longer : 2 ≡ 3 = ap length same in absurd (omega (arith, longer))

-- neither disk of a node with such a name
none_of : (name n : List ℕ) → name ≢ net_name → IsDiskName name n → n ≢ net_name
none_of name n other named same = ⊎_elim (λ first. other (sym first ∙ same)) (λ second. second_not_net name (sym second ∙ same)) named

resources_away : (defs : List ResourceDef) → All IsResource defs → (n : List ℕ) → IsOfOne (map resource_name defs) n → n ≢ net_name
resources_away [] all n its same = its
resources_away (def ∷ defs) all n its same =
    ⊎_elim (λ here. none_of def.name n (node_not_net def.name (All-head IsResource def defs all).name.form) here same)
    (λ later. resources_away defs (All-tail IsResource def defs all) n later same) its

pub nodes_away : (s : Scenario) → IsRunnable s → (n : List ℕ) → IsOfOne (server_names s) n → n ≢ net_name
nodes_away s runs n its same =
    ⊎_elim (λ here. none_of coordinator_name n coordinator_not_net here same) (λ later. resources_away s.resources runs.resources n later same) its

-- ---- what the nodes' disks hold

-- a call for other names than those of the nodes' disks
module _ {D : Type 0} (state : D → DiskState) (s : Scenario) (IsItsName : List ℕ → Type 0) (old new : ShelfState D) (keeps : KeepsOthers IsItsName old new) where
  -- bytes that are sound behind it were so before
  sound_before : (v : Server) → ¬ IsItsName v.name → ¬ IsItsName (second_name v.name) → IsSound state new s v → IsSound state old s v
  sound_before v one two sound a b next = sound a b (are_next_since state s.disk v.name a b old new (keeps.others v.name one) (keeps.others (second_name v.name) two) next)

  resources_hold : (held : Held) (k : ℕ) (defs : List ResourceDef) → ((n : List ℕ) → IsOfOne (map resource_name defs) n → ¬ IsItsName n)
      → AllByRecursion (Holds state old s) (map (resource_server s held) (numbered k defs)) → AllByRecursion (Holds state new s) (map (resource_server s held) (numbered k defs))
  resources_hold held k [] away holds = tt
  resources_hold held k (def ∷ defs) away holds = (
    holds_since state s (resource_server s held (k, def)) old new (keeps.others def.name (away def.name (inl (inl refl)))) (keeps.others (second_name def.name) (away (second_name def.name) (inl (inr refl)))) holds.0,
    resources_hold held (k + 1) defs (λ n its. away n (inr its)) holds.1,
  )

  pub hold_others : ((n : List ℕ) → IsOfOne (server_names s) n → ¬ IsItsName n) → HoldStill state s old new
  hold_others away held holds = (
    holds_since state s _ old new (keeps.others coordinator_name (away coordinator_name (inl (inl refl)))) (keeps.others (second_name coordinator_name) (away (second_name coordinator_name) (inl (inr refl)))) holds.0,
    resources_hold held 1 s.resources (λ n its. away n (inr its)) holds.1,
  )

  resources_sound : (held : Held) (k : ℕ) (defs : List ResourceDef) → ((n : List ℕ) → IsOfOne (map resource_name defs) n → ¬ IsItsName n)
      → AllByRecursion (IsSound state new s) (map (resource_server s held) (numbered k defs)) → AllByRecursion (IsSound state old s) (map (resource_server s held) (numbered k defs))
  resources_sound held k [] away sound = tt
  resources_sound held k (def ∷ defs) away sound = (
    sound_before (resource_server s held (k, def)) (away def.name (inl (inl refl))) (away (second_name def.name) (inl (inr refl))) sound.0,
    resources_sound held (k + 1) defs (λ n its. away n (inr its)) sound.1,
  )

  pub sound_others : ((n : List ℕ) → IsOfOne (server_names s) n → ¬ IsItsName n) → (held : Held) → AllByRecursion (IsSound state new s) (servers_of s held) → AllByRecursion (IsSound state old s) (servers_of s held)
  sound_others away held sound = (
    sound_before (coordinator_server s held) (away coordinator_name (inl (inl refl))) (away (second_name coordinator_name) (inl (inr refl))) sound.0,
    resources_sound held 1 s.resources (λ n its. away n (inr its)) sound.1,
  )

-- one for the disk `net`
pub nodes_hold : {D : Type 0} (state : D → DiskState) (s : Scenario) (old new : ShelfState D) → IsRunnable s → KeepsOthers (λ n. n ≡ net_name) old new → HoldStill state s old new
nodes_hold state s old new runs keeps = hold_others state s (λ n. n ≡ net_name) old new keeps (nodes_away s runs)

pub nodes_sound : {D : Type 0} (state : D → DiskState) (s : Scenario) (old new : ShelfState D) → IsRunnable s → KeepsOthers (λ n. n ≡ net_name) old new → (held : Held)
    → AllByRecursion (IsSound state new s) (servers_of s held) → AllByRecursion (IsSound state old s) (servers_of s held)
nodes_sound state s old new runs keeps = sound_others state s (λ n. n ≡ net_name) old new keeps (nodes_away s runs)
