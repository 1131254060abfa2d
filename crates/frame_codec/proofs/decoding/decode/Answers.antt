use Rattle.std.proofs.Common.{◌<◌, subst, ap, ◌∙◌, arith}
use Rattle.std.proofs.lemmas.List.Elements.{All-from_get_or}
use Rattle.frame_codec.specs.Frames.{Gives, decoded}
use Rattle.frame_codec.proofs.FrameLaws.{decoded_back, is_found}
use Rattle.frame_codec.proofs.HeadLaws.{head_there}
use Rattle.frame_codec.proofs.decoding.decode.Goals as goal

pub returns-clause-found : goal.returns-clause-found
returns-clause-found c =
    is_found c.args.bytes.now c.frame.result (All-from_get_or (λ b. b < 256) c.args.bytes.now 0 (λ i lt. omega (arith, c.type_inv.bytes i))) c.frame.ensures

pub returns-clause-whole : goal.returns-clause-whole
returns-clause-whole c =
    λ message stamp rest has same. subst (λ read. Gives c.frame.result read) (ap decoded same ∙ decoded_back message stamp rest has) c.frame.ensures

pub returns-clause-head : goal.returns-clause-head
returns-clause-head c = head_there c.args.bytes.now
