-- Facts on the data under which a scenario is kept.
use Rattle.std.proofs.Common.{◌≡◌, ℕ, List, [], ◌∷◌, Ordering, Less, Equal, Greater, nat_cmp, is_eq, cond, string_bytes, refl, ap, ◌≤◌, max, codes, arith}
use Rattle.std.specs.BTreeMap.{is_at}
use Rattle.std.specs.Cmp.Lexicographic.{slice_cmp}
use Rattle.std.specs.Map.{remove_entry}
use Rattle.std.specs.Ordering.{match_ordering}
use Rattle.serde_json.proofs.Views.{Entry}
use Rattle.serde_json.specs.Data.{Data, null, boolean, number, string, array, object, no_items, Members, no_members, member, put, depth, members_depth}
use Rattle.serde_json.specs.View.{view, members_view}
use Rattle.scenario_reader.specs.Bases.{without, without_stops, without_steps}

by_ordering : (o : Ordering) (e : Entry) (es rest : List Entry) (ms : Members) → members_view rest ≡ ms
    → members_view (cond (is_eq o) es (e ∷ rest)) ≡ match_ordering o (member (string_bytes e.0) (view e.1) ms) (members_view es) (member (string_bytes e.0) (view e.1) ms)
by_ordering Less e es rest ms is = ap (member (string_bytes e.0) (view e.1)) is
by_ordering Equal e es rest ms is = refl
by_ordering Greater e es rest ms is = ap (member (string_bytes e.0) (view e.1)) is

-- the members of a map without an entry
pub members_view_without : (name : List ℕ) (es : List Entry)
    → members_view (remove_entry (is_at (λ k. slice_cmp nat_cmp name (string_bytes k))) es) ≡ without name (members_view es)
members_view_without name [] = refl
members_view_without name (e ∷ es) = by_ordering (slice_cmp nat_cmp name (string_bytes e.0)) e es _ _ (members_view_without name es)

without_by : (o : Ordering) (k : List ℕ) (d : Data) (ms rest : Members) → members_depth rest ≤ members_depth ms
    → members_depth (match_ordering o (member k d rest) ms (member k d rest)) ≤ members_depth (member k d ms)
without_by Less k d ms rest h = omega (arith, h)
without_by Equal k d ms rest h = omega arith
without_by Greater k d ms rest h = omega (arith, h)

without_depth : (name : List ℕ) (ms : Members) → members_depth (without name ms) ≤ members_depth ms
without_depth name no_members = omega arith
without_depth name (member k d ms) = without_by (slice_cmp nat_cmp name k) k d ms (without name ms) (without_depth name ms)

put_by : (o : Ordering) (k l : List ℕ) (d e : Data) (ms rest : Members) → members_depth rest ≤ max (depth d) (members_depth ms)
    → members_depth (match_ordering o (member k d (member l e ms)) (member l d ms) (member l e rest)) ≤ max (depth d) (members_depth (member l e ms))
put_by Less k l d e ms rest h = omega arith
put_by Equal k l d e ms rest h = omega arith
put_by Greater k l d e ms rest h = omega (arith, h)

put_depth : (k : List ℕ) (d : Data) (ms : Members) → members_depth (put k d ms) ≤ max (depth d) (members_depth ms)
put_depth k d no_members = omega arith
put_depth k d (member l e ms) = put_by (slice_cmp nat_cmp k l) k l d e ms (put k d ms) (put_depth k d ms)

-- the data without its stops or its steps nests no deeper than is allowed
pub without_stops_depth : (d : Data) → depth d ≤ 127 → depth (without_stops d) ≤ 127
without_stops_depth null h = h
without_stops_depth (boolean b) h = h
without_stops_depth (number n) h = h
without_stops_depth (string s) h = h
without_stops_depth (array ds) h = h
without_stops_depth (object ms) h = let less = without_depth (codes "stops") ms in omega (arith, h, less)

pub without_steps_depth : (d : Data) → depth d ≤ 127 → depth (without_steps d) ≤ 127
without_steps_depth null h = h
without_steps_depth (boolean b) h = h
without_steps_depth (number n) h = h
without_steps_depth (string s) h = h
without_steps_depth (array ds) h = h
without_steps_depth (object ms) h = let more = put_depth (codes "schedule") (array no_items) ms in omega (arith, h, more)
