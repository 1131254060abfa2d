use Rattle.std.proofs.Common.{sym, subst, ◌<◌, ◌≤◌, ◌≡◌, [], take, length, arith, string_bytes}
use Rattle.std.proofs.lemmas.Grind.{common_steps}
use Rattle.std.proofs.lemmas.List.{length-take-le}
use Rattle.std.specs.Io.KnownBytes.{Consumes}
use Rattle.seata_types.specs.declared.limits.TheConstants.{INPUT_BYTES}
use Rattle.lab_calls.proofs.Fed.{next_listing, on_ok, short_answers, long_answers}
use Rattle.lab_calls.proofs.frames.list_frames.Goals as goal

pub loop-total-preserved : goal.loop-total-preserved
loop-total-preserved g c =
    let v = c.loop-total.invariant in
    let e = c.in-Ok-take.ensures in
    let left = (g.S.Source.state c.loop-total.source).left in
    let left2 = (g.S.Source.state c.read_some.new.source).left in
    let count = c.in-Ok.count in
    let bytes = c.deref.result.now in
    let within : count ≤ length bytes = grind (arith, common_steps) in
    let size : length (take count bytes) ≡ count = length-take-le count bytes within in
    let same : bytes ≡ c.read_some.new.buffer = grind (arith, common_steps) in
    let took : Consumes left left2 (take count bytes) = subst (λ b. Consumes left left2 (take count b)) (sym same) c.in-Ok.ensures.bytes in
    record {
      most = grind (arith, common_steps);
      ready = e.ready;
      fed_by = omega (arith, e.fed, v.fed_by, size);
      counted = grind (arith, common_steps);
      buffer = grind (arith, common_steps);
      listing = λ input told. next_listing input left left2 c.loop-total.total count (take count bytes) c.loop-total.listing (v.listing input told) took size c.take.new.self e.awaits;
    }

pub returns-then-count-eq0-clause-answer : goal.returns-then-count-eq0-clause-answer
returns-then-count-eq0-clause-answer g c =
    let v = c.loop-total.invariant in
    let left = (g.S.Source.state c.loop-total.source).left in
    let left2 = (g.S.Source.state c.read_some.new.source).left in
    let zero : c.in-Ok.count ≡ 0 = grind (arith, common_steps) in
    let short : c.loop-total.total ≤ INPUT_BYTES = grind (arith, common_steps) in
    let room : 0 < c.min-room.result = grind (arith, common_steps) in
    let took : Consumes left left2 [] = subst (λ n. Consumes left left2 (take n c.read_some.new.buffer)) zero c.in-Ok.ensures.bytes in
    on_ok _ _ _ (λ a text status. short_answers _ left left2 c.loop-total.total c.loop-total.listing (string_bytes a.text) a.status v.listing short took (c.in-Ok.ensures.end zero room) text status)
    c.listed.result c.listed.ensures.text c.listed.ensures.status

pub returns-clause-answer : goal.returns-clause-answer
returns-clause-answer g c =
    let v = c.loop-total.invariant in
    let long : INPUT_BYTES < c.loop-total.total = grind (arith, common_steps) in
    on_ok _ _ _ (λ a text status. long_answers _ (g.S.Source.state c.loop-total.source).left c.loop-total.total c.loop-total.listing (string_bytes a.text) a.status v.listing long v.most text status)
    c.over.result c.over.ensures.text c.over.ensures.status
