use Rattle.frame_codec.proofs.WorkLaws.{is_text, has_text}
use Rattle.frame_codec.proofs.laws.statements_are_their_canonical_texts.Goals as goal

pub returns-clause-read : goal.returns-clause-read
returns-clause-read c = has_text

pub returns-clause-back : goal.returns-clause-back
returns-clause-back c = is_text
