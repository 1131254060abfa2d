-- The names of a scenario's disks: no two are the same.
use Rattle.std.proofs.Common.{◌≡◌, ◌≢◌, ⊎_elim, ℕ, ◌&&◌, ◌||◌, not, Bool, true, false, List, [], ◌∷◌, ◌++◌, All, map, codes, refl, ap, sym, ◌∙◌}
use Rattle.std.specs.List.{AllByRecursion, IsDistinct, list_all}
use Rattle.std.proofs.lemmas.Bool.{false≢true}
use Rattle.std.proofs.lemmas.List.{append_cancel_right}
use Rattle.std.proofs.lemmas.List.Elements.{All-head, All-tail}
use Rattle.std.proofs.lemmas.List.Folds.{list_all-append}
use Rattle.std.proofs.lemmas.Map.Keys.{IsDistinct-head, IsDistinct-tail}
use Rattle.seata_types.specs.Orders.{same_text}
use Rattle.local_tables.proofs.KeyLaws.{same_text_itself}
use Rattle.scenario_form.specs.declared.scenarios.ResourceDef.{ResourceDef}
use Rattle.scenario_form.specs.declared.scenarios.Scenario.{Scenario}
use Rattle.scenario_form.specs.Contents.{IsResource}
use Rattle.scenario_form.specs.Names.{is_letter, is_node_name, is_word, is_word_byte}
use Rattle.scenario_form.specs.Runnable.{IsRunnable, manager_name, resource_name}
use Rattle.scenario_nodes.specs.Shelves.{IsDiskName, coordinator_name, second_name}
use Rattle.scenario_nodes.specs.Together.{AreApart, IsOfOne}
use Rattle.scenario_nodes.proofs.Together.{all_front}

-- ---- tests

and_left : (a b : Bool) → (a && b) ≡ true → a ≡ true
and_left true b e = refl
and_left false b e = absurd (false≢true e)

and_right : (a b : Bool) → (a && b) ≡ true → b ≡ true
and_right true b e = e
and_right false b e = absurd (false≢true e)

and_both : (a b : Bool) → a ≡ true → b ≡ true → (a && b) ≡ true
and_both true b one two = two
and_both false b one two = absurd (false≢true one)

and_never : (a : Bool) → (a && false) ≡ false
and_never true = refl
and_never false = refl

or_left : (a b : Bool) → a ≡ true → (a || b) ≡ true
or_left true b e = refl
or_left false b e = absurd (false≢true e)

not_true : (a : Bool) → not a ≡ true → a ≡ false
not_true false e = refl
not_true true e = absurd (false≢true e)

-- ---- a name has no point, and its node's second disk has one

abbrev is_plain : List ℕ → Bool
is_plain name = list_all is_word_byte name

word_plain : (name : List ℕ) → is_word name ≡ true → is_plain name ≡ true
word_plain [] e = refl
word_plain (c ∷ cs) e = and_both (is_word_byte c) (list_all is_word_byte cs) (or_left (is_letter c) _ (and_left (is_letter c) (list_all is_word_byte cs) e)) (and_right (is_letter c) (list_all is_word_byte cs) e)

second_not_plain : (name : List ℕ) → is_plain (second_name name) ≡ false
second_not_plain name = list_all-append is_word_byte name (codes ".2") ∙ and_never (list_all is_word_byte name)

plain_not_second : (a b : List ℕ) → is_plain a ≡ true → a ≢ second_name b
plain_not_second a b plain e = false≢true (sym (second_not_plain b) ∙ ap is_plain (sym e) ∙ plain)

node_plain : (name : List ℕ) → is_node_name name ≡ true → is_plain name ≡ true
unfolding is_node_name
node_plain name e = word_plain name (and_left (is_word name) _ e)

not_coordinator : (name : List ℕ) → is_node_name name ≡ true → coordinator_name ≢ name
unfolding is_node_name
not_coordinator name e same =
    let tests = and_right (is_word name) (not (same_text name (codes "tc")) && not (same_text name (codes "net"))) e in
    let differs : same_text name (codes "tc") ≡ false = not_true (same_text name (codes "tc")) (and_left (not (same_text name (codes "tc"))) (not (same_text name (codes "net"))) tests) in
    false≢true (sym differs ∙ ap (same_text name) same ∙ same_text_itself name)

-- two nodes with plain names that differ have no disk of one name
never_both : (x y : List ℕ) → is_plain x ≡ true → is_plain y ≡ true → x ≢ y → (n : List ℕ) → IsDiskName x n → ¬ IsDiskName y n
never_both x y one two differ n ours theirs =
    ⊎_elim (λ a. ⊎_elim (λ b. differ (sym a ∙ b)) (λ b. plain_not_second x y one (sym a ∙ b)) theirs)
    (λ a. ⊎_elim (λ b. plain_not_second y x two (sym b ∙ a)) (λ b. differ (append_cancel_right x y (codes ".2") (sym a ∙ b))) theirs) ours

-- ---- the nodes of a scenario

abbrev IsPlain : List ℕ → Type 0
IsPlain name = is_plain name ≡ true

apart_from : (x : List ℕ) (names : List (List ℕ)) → is_plain x ≡ true → AllByRecursion IsPlain names → AllByRecursion (λ y. x ≢ y) names → (n : List ℕ) → IsDiskName x n → ¬ IsOfOne names n
apart_from x [] plain all differ n named theirs = absurd theirs
apart_from x (y ∷ names) plain all differ n named theirs =
    ⊎_elim (λ here. never_both x y plain all.0 differ.0 n named here) (λ later. apart_from x names plain all.1 differ.1 n named later) theirs

differ_all : (x : List ℕ) (names : List (List ℕ)) → AllByRecursion (λ y. same_text x y ≡ false) names → AllByRecursion (λ y. x ≢ y) names
differ_all x [] all = tt
differ_all x (y ∷ names) all = ((λ same. false≢true (sym all.0 ∙ ap (same_text x) (sym same) ∙ same_text_itself x)), differ_all x names all.1)

names_apart : (names others : List (List ℕ)) → AllByRecursion IsPlain names → IsDistinct same_text (names ++ others) → AreApart names
names_apart [] others plain distinct = tt
names_apart (x ∷ names) others plain distinct = (
  apart_from x names plain.0 plain.1 (differ_all x names (all_front (λ y. same_text x y ≡ false) names others (IsDistinct-head same_text x (names ++ others) distinct))),
  names_apart names others plain.1 (IsDistinct-tail same_text x (names ++ others) distinct),
)

names_plain : (defs : List ResourceDef) → All IsResource defs → AllByRecursion IsPlain (map resource_name defs)
names_plain [] all = tt
names_plain (def ∷ defs) all = (node_plain def.name (All-head IsResource def defs all).name.form, names_plain defs (All-tail IsResource def defs all))

none_coordinator : (defs : List ResourceDef) → All IsResource defs → AllByRecursion (λ y. coordinator_name ≢ y) (map resource_name defs)
none_coordinator [] all = tt
none_coordinator (def ∷ defs) all = (not_coordinator def.name (All-head IsResource def defs all).name.form, none_coordinator defs (All-tail IsResource def defs all))

-- the coordinator and the resources
pub servers_apart : (s : Scenario) → IsRunnable s → AreApart (coordinator_name ∷ map resource_name s.resources)
servers_apart s runs = (
  apart_from coordinator_name (map resource_name s.resources) refl (names_plain s.resources runs.resources) (none_coordinator s.resources runs.resources),
  names_apart (map resource_name s.resources) (map manager_name s.managers) (names_plain s.resources runs.resources) runs.different,
)

-- ---- the disk of the scenario's text

not_net : (name : List ℕ) → is_node_name name ≡ true → codes "net" ≢ name
unfolding is_node_name
not_net name e same =
    let tests = and_right (is_word name) (not (same_text name (codes "tc")) && not (same_text name (codes "net"))) e in
    let differs : same_text name (codes "net") ≡ false = not_true (same_text name (codes "net")) (and_right (not (same_text name (codes "tc"))) (not (same_text name (codes "net"))) tests) in
    false≢true (sym differs ∙ ap (same_text name) same ∙ same_text_itself name)

none_net : (defs : List ResourceDef) → All IsResource defs → AllByRecursion (λ y. codes "net" ≢ y) (map resource_name defs)
none_net [] all = tt
none_net (def ∷ defs) all = (not_net def.name (All-head IsResource def defs all).name.form, none_net defs (All-tail IsResource def defs all))

net_not_coordinator : codes "net" ≢ coordinator_name
net_not_coordinator e = cc

-- `net` is the name of no disk of a node
pub net_apart : (s : Scenario) → IsRunnable s → (n : List ℕ) → IsDiskName (codes "net") n → ¬ IsOfOne (coordinator_name ∷ map resource_name s.resources) n
net_apart s runs =
    apart_from (codes "net") (coordinator_name ∷ map resource_name s.resources) refl (refl, names_plain s.resources runs.resources) (net_not_coordinator, none_net s.resources runs.resources)
