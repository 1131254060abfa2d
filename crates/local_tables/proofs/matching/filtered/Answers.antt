use Rattle.std.proofs.Common.{rules, ◌≡◌, ◌∙◌, sym, ap, List, subst, filter}
use Rattle.std.specs.BTreeMap.{insert_entry}
use Rattle.std.specs.BTreeMap.Range.{entries_between}
use Rattle.std.specs.declared.ops.Bound.TheVariants.{Excluded, Unbounded}
use Rattle.seata_types.specs.Orders.{key_cmp}
use Rattle.local_tables.specs.Lookups.{IsRising, Passes, key_above}
use Rattle.local_tables.specs.Touches.{is_matched, matched}
use Rattle.local_tables.proofs.PassLaws.{pass_kept, rising_between, within_end, at_end, at_break}
use Rattle.local_tables.proofs.matching.filtered.Goals as goal
use Rattle.local_tables.proofs.matching.filtered.Goals.{in-Some+then-is_before, in_default}

pub loop-key-preserved-in_ok-insert : goal.loop-key-preserved-in_ok-insert
loop-key-preserved-in_ok-insert c =
    let range : c.range-left.result ≡ entries_between key_cmp Unbounded (Excluded (key_above c.args.resource c.args.def.now)) c.args.rows.now.entries =
    search rules in
    let rising : IsRising c.range-left.result = subst IsRising (sym range) (rising_between c.args.resource c.args.def.now c.args.cond.now c.args.rows.now.entries c.requires) in
    let kept : Passes (is_matched c.args.resource c.args.def.now c.args.cond.now) c.range-left.result c.next_back.new.self (insert_entry key_cmp c.loop-key.found.entries c.in-Some.key.now c.in-Some.row.now) =
    pass_kept (is_matched c.args.resource c.args.def.now c.args.cond.now) c.range-left.result c.loop-key.left c.next_back.new.self c.loop-key.found.entries (c.in-Some.key.now, c.in-Some.row.now)
    rising c.loop-key.invariant c.in-Some.ensures.steps (sym c.is_matched.ensures ∙ c.if-is_matched.true) in
    subst (Passes (is_matched c.args.resource c.args.def.now c.args.cond.now) c.range-left.result c.next_back.new.self) (search rules) kept

pub returns : goal.returns
returns c =
    let rows : List _ = c.args.rows.now.entries in
    let range : c.range-left.result ≡ entries_between key_cmp Unbounded (Excluded (key_above c.args.resource c.args.def.now)) rows =
    search rules in
    let rising : IsRising c.range-left.result = subst IsRising (sym range) (rising_between c.args.resource c.args.def.now c.args.cond.now rows c.requires) in
    let all : filter (is_matched c.args.resource c.args.def.now c.args.cond.now) c.range-left.result ≡ matched c.args.resource c.args.def.now c.args.cond.now rows =
    ap (filter (is_matched c.args.resource c.args.def.now c.args.cond.now)) range ∙ within_end c.args.resource c.args.def.now c.args.cond.now rows in
    elim c.match-next_back.branch [
      | in-Some+then-is_before w ↦
          at_break c.args.resource c.args.def.now c.args.cond.now c.range-left.result c.loop-key.left c.next_back.new.self c.loop-key.found.entries (w.in-Some.key.now, w.in-Some.row.now)
          rising c.loop-key.invariant w.in-Some.ensures.steps (sym w.is_before.ensures ∙ w.if-is_before.true) ∙ all
      | in_default w ↦ at_end c.args.resource c.args.def.now c.args.cond.now c.range-left.result c.loop-key.left c.loop-key.found.entries c.loop-key.invariant w.in_default.ensures.steps.0 ∙ all
    ]
