use Rattle.std.proofs.Common.{◌≡◌, ◌∙◌, ◌++◌, ◌∷◌, [], List, map, ap, arith, length, length-append, rules}
use Rattle.std.specs.Vec.Iter.{into_iter_items}
use Rattle.history_text.specs.declared.entries.Entry.{Entry}
use Rattle.run_ends.specs.Ending.{trace_of}
use Rattle.run_ends.proofs.Lists.{emptied}
use Rattle.run_ends.proofs.Walking.{all_moved, one_moved}
use Rattle.run_ends.proofs.settling.traces_of.Goals as goal

pub loop-node-init : goal.loop-node-init
loop-node-init g c =
    let all = c.args.nodes.items in
    let whole : into_iter_items c.into_iter-node-iterator.result ≡ all = search rules in
    let size = ap length whole in
    let none = ap length c.requires.empty in (
      ap (λ (ts : List (List Entry)). ts ++ map trace_of (into_iter_items c.into_iter-node-iterator.result)) c.requires.empty ∙ ap (map trace_of) whole,
      omega (arith, size, none, c.requires.room),
    )

pub push_reserved-requires : goal.push_reserved-requires
push_reserved-requires g c =
    let left = ap length c.in-Some.ensures.steps.0 in
    let size = c.loop-node.traces.ok.0 in
    omega (arith, left, size, c.loop-node.invariant.1)

pub loop-node-preserved : goal.loop-node-preserved
loop-node-preserved g c =
    let before = c.loop-node.traces.items in
    let next = c.in-Some.ensures.steps.0 in
    let pushed = c.push_reserved.ensures in
    let left = ap length next in
    let more = ap length pushed.items ∙ length-append before (c.into_trace.result ∷ []) in (
      one_moved before c.push_reserved.new.self.items c.into_trace.result c.in-Some.node (into_iter_items c.next.new.self) (into_iter_items c.loop-node.node-iterator) c.args.nodes.items pushed.items
          c.into_trace.ensures next c.loop-node.invariant.0,
      omega (arith, left, more, pushed.capacity, c.loop-node.invariant.1),
    )

pub returns : goal.returns
returns g c =
    let left = c.loop-node.node-iterator in
    let none = emptied (into_iter_items left) left.rest.len left.rest.ok.0 c.in-None.ensures.steps.0 in
    c.of.ensures ∙ all_moved c.loop-node.traces.items (into_iter_items left) c.args.nodes.items none c.loop-node.invariant.0
